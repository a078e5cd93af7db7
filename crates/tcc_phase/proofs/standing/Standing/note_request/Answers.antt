-- The core is listed where it waits: it is looked for among those that wait.
use Rattle.std.proofs.Common.{◌≡◌, Some, None, length, ap, sym, ◌∙◌, subst, arith}
use Rattle.rules_maps.specs.Nodes.{Exec}
use Rattle.rules_maps.specs.Words.{those}
use Rattle.net_core.specs.Machine.{program_of, settings_of, world_of}
use Rattle.tcc_phase.specs.Requests.{Limits, is_above, is_waiting}
use Rattle.tcc_phase.proofs.Requests.Staying.{IsListed, itself, looked-up, not-before, room, unless-executed}
use Rattle.tcc_phase.proofs.Requests.Waiting.{none-of, waits-above, waits-none}
use Rattle.tcc_phase.proofs.standing.Standing.note_request.Goals as goal
use Rattle.tcc_phase.proofs.standing.Standing.note_request.Goals.{then-core-len-via-then-core-len}
use Rattle.tcc_phase.proofs.standing.Standing.note_request.Goals.{then-core-len-via-else-core-len+then-not-is_above}

-- where no core is late
pub returns-in_default-clause-held : goal.returns-in_default-clause-held
returns-in_default-clause-held c =
    let m = c.args.system.now in
    let l = c.args.self.now in
    let b = c.requires.before in
    let none : Limits (settings_of m) (world_of m) l.own.items None =
    subst (Limits (settings_of m) (world_of m) l.own.items) (none-of l.least c.in_default.not-Some) c.requires.limits in
    unless-executed (settings_of m) (program_of m) (world_of m) l.own.items l.asked.items (Exec c.args.core.0) l.held.items b
    (λ d k x. not-before (settings_of m) (program_of m) (world_of m) l.own.items l.asked.items (Exec c.args.core.0) l.held.items b d k
    (waits-none (settings_of m) (program_of m) (world_of m) l.own.items l.asked.items none d k))

-- where there is no such core, or it doesn't wait
pub returns-then-core-len-clause-held : goal.returns-then-core-len-clause-held
returns-then-core-len-clause-held c =
    let m = c.args.system.now in
    let l = c.args.self.now in
    let b = c.requires.before in
    let rows = c.requires.rows.own in
    let limits : Limits (settings_of m) (world_of m) l.own.items (Some c.in-Some.least) =
    subst (Limits (settings_of m) (world_of m) l.own.items) c.in-Some.is c.requires.limits in
    elim c.then-core-len.branch [
      | then-core-len-via-then-core-len w ↦
          unless-executed (settings_of m) (program_of m) (world_of m) l.own.items l.asked.items (Exec c.args.core.0) l.held.items b
          (λ d k x. let s : d ≡ c.args.core.0 = itself c.args.core.0 d x in absurd (omega (arith, s, k, rows, w.if-core-len.true)))
      | then-core-len-via-else-core-len+then-not-is_above w ↦
          unless-executed (settings_of m) (program_of m) (world_of m) l.own.items l.asked.items (Exec c.args.core.0) l.held.items b
          (λ d k x. not-before (settings_of m) (program_of m) (world_of m) l.own.items l.asked.items (Exec c.args.core.0) l.held.items b d
          k (sym (waits-above (settings_of m) (program_of m) (world_of m) l.own.items l.asked.items c.in-Some.least limits d k)
          ∙ ap (is_above (settings_of m) (program_of m) (world_of m) c.in-Some.least l.own.items l.asked.items) (itself c.args.core.0 d x)
          ∙ (λ i. is_above (settings_of m) (program_of m) (world_of m) c.in-Some.least (sym w.deref.ensures.value i)
          (sym w.deref-else-core-len.ensures.value i) c.args.core.0) ∙ sym w.is_above.ensures ∙ w.if-not-is_above.true))
    ]

-- the core waits

pub unreachable-requires : goal.unreachable-requires
unreachable-requires c =
    let m = c.args.system.now in
    let l = c.args.self.now in
    let rows = c.requires.rows.own in
    let above = (λ i. is_above (settings_of m) (program_of m) (world_of m) c.in-Some.least (sym c.deref.ensures.value i)
    (sym c.deref-else-core-len.ensures.value i) c.args.core.0) ∙ sym c.is_above.ensures ∙ c.if-not-is_above.false in
    let at = looked-up (settings_of m) (program_of m) (world_of m) l.own.items l.asked.items c.in-Some.least c.args.core.0 l.held.items
    c.deref-2.result.now c.binary_search.result (subst (Limits (settings_of m) (world_of m) l.own.items) c.in-Some.is c.requires.limits)
    c.requires.before (omega (arith, rows, c.if-core-len.false)) above c.deref-2.ensures.value c.binary_search.ensures.position in
    let e = subst (IsListed l.held.items (those (is_waiting (settings_of m) (program_of m) (world_of m) l.own.items l.asked.items)
    (settings_of m).cores) c.args.core.0) c.in-Err.is at in
    let bound = c.in-Err.ensures.bound in
    let same = ap length c.deref-2.ensures.value in
    let few = room (is_waiting (settings_of m) (program_of m) (world_of m) l.own.items l.asked.items) (settings_of m).cores c.in-Err.at
    c.args.core.0 l.held.items (omega (arith, bound, same)) e in
    let full = c.in-Err-insert.ensures.full in
    let cores = c.requires.rows.held in
    omega (arith, few, full, cores)

pub returns-in-Ok-clause-held : goal.returns-in-Ok-clause-held
returns-in-Ok-clause-held c =
    let m = c.args.system.now in
    let l = c.args.self.now in
    let rows = c.requires.rows.own in
    let above = (λ i. is_above (settings_of m) (program_of m) (world_of m) c.in-Some.least (sym c.deref.ensures.value i)
    (sym c.deref-else-core-len.ensures.value i) c.args.core.0) ∙ sym c.is_above.ensures ∙ c.if-not-is_above.false in
    let at = looked-up (settings_of m) (program_of m) (world_of m) l.own.items l.asked.items c.in-Some.least c.args.core.0 l.held.items
    c.deref-2.result.now c.binary_search.result (subst (Limits (settings_of m) (world_of m) l.own.items) c.in-Some.is c.requires.limits)
    c.requires.before (omega (arith, rows, c.if-core-len.false)) above c.deref-2.ensures.value c.binary_search.ensures.position in
    c.in-Ok.ensures.items
    ∙ subst (IsListed l.held.items (those (is_waiting (settings_of m) (program_of m) (world_of m) l.own.items l.asked.items)
    (settings_of m).cores) c.args.core.0) c.in-Err.is at

pub returns-in_default-binary_search-clause-held : goal.returns-in_default-binary_search-clause-held
returns-in_default-binary_search-clause-held c =
    let m = c.args.system.now in
    let l = c.args.self.now in
    let rows = c.requires.rows.own in
    let above = (λ i. is_above (settings_of m) (program_of m) (world_of m) c.in-Some.least (sym c.deref.ensures.value i)
    (sym c.deref-else-core-len.ensures.value i) c.args.core.0) ∙ sym c.is_above.ensures ∙ c.if-not-is_above.false in
    let at = looked-up (settings_of m) (program_of m) (world_of m) l.own.items l.asked.items c.in-Some.least c.args.core.0 l.held.items
    c.deref-2.result.now c.binary_search.result (subst (Limits (settings_of m) (world_of m) l.own.items) c.in-Some.is c.requires.limits)
    c.requires.before (omega (arith, rows, c.if-core-len.false)) above c.deref-2.ensures.value c.binary_search.ensures.position in
    subst (IsListed l.held.items (those (is_waiting (settings_of m) (program_of m) (world_of m) l.own.items l.asked.items)
    (settings_of m).cores) c.args.core.0) c.in_default-binary_search.is at
