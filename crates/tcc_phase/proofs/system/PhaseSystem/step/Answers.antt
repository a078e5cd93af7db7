-- One event more by phases.
use Rattle.std.proofs.Common.{◌≡◌, map, Some, None, ap, sym, ◌∙◌, subst}
use Rattle.std.specs.Prelude.{◌↔◌, Err, IsErrOf, if◌then◌else◌, is_some}
use Rattle.tcc_base.specs.Settings.{IsAllowed}
use Rattle.tcc_msg.specs.Plain.{event_of}
use Rattle.theorem_serial.specs.Owners.{IsRising}
use Rattle.net_core.specs.Answers.{step_of}
use Rattle.net_core.specs.Machine.{Machine, history_of, settings_of, start_of}
use Rattle.net_core.specs.declared.taking.Step.{Step}
use Rattle.net_core.specs.declared.taking.StepError.TheVariants.{Refused}
use Rattle.tcc_phase.specs.Answers.{cause_of, next_of}
use Rattle.tcc_phase.specs.Kept.{IsKept}
use Rattle.tcc_phase.specs.Standing.{IsListed, StillHolds}
use Rattle.tcc_phase.specs.Phased.{PhaseMachine}
use Rattle.tcc_phase.specs.declared.standing.Standing.{Standing}
use Rattle.tcc_phase.proofs.Holding.{free-in, goes, refused-as, refused-so, rows-by}
use Rattle.tcc_phase.proofs.Keeping.Kept.{Noted, in-phases-of, kept-each, kept-next, now-listed, now-rising, phased-after, still-so}
use Rattle.tcc_phase.proofs.system.PhaseSystem.step.Goals as goal

-- the event isn't held back
pub returns-then-is_err-clause-refused : goal.returns-then-is_err-clause-refused
returns-then-is_err-clause-refused c =
    let e = event_of c.args.e in
    let m : Machine = c.args.self.now.refined.machine in
    refused-so m e c.cause.result (c.holds_back.ensures ∙ ap (λ b. if b then None else goes m e) c.if-holds_back.false)
    (c.cause.ensures
    ∙ ap (λ (x : Machine). cause_of (is_some (step_of x e))) (c.system.ensures.machine ∙ ap (λ p. p.refined.machine) c.self.view_is))

pub returns-in-Err-clause-refused : goal.returns-in-Err-clause-refused
returns-in-Err-clause-refused c =
    let e = event_of c.args.e in
    let m : Machine = c.args.self.now.refined.machine in
    refused-as m e c.in-Err.error (c.holds_back.ensures ∙ ap (λ b. if b then None else goes m e) c.if-holds_back.false)
    (subst (λ (p : PhaseMachine). IsErrOf {T = Step} (Err c.in-Err.error) Refused ↔ (step_of p.refined.machine e ≡ None)) c.self.view_is
    c.in-Err.ensures.refused)

free : (c : goal.After-system-in-Ok) → next_of c.self.inside.refined.machine (event_of c.args.e)
    ≡ goes c.self.inside.refined.machine (event_of c.args.e)
free c =
    free-in (record { refined = c.self.inside.refined }) c.args.self.now (event_of c.args.e) c.holds_back.result c.self.view_is
    c.holds_back.ensures c.if-holds_back.false

to : (c : goal.After-system-in-Ok) → next_of c.self.inside.refined.machine (event_of c.args.e) ≡ Some (history_of c.step.new.self.machine)
to c = free c ∙ c.in-Ok.ensures.next

kept : (c : goal.After-system-in-Ok) → IsKept (start_of c.self.inside.refined.machine) (history_of c.self.inside.refined.machine)
    c.self.inside.refined.machine.events c.reserve.new.self
kept c =
    let m : Machine = c.self.inside.refined.machine in
    subst (IsKept (start_of m) (history_of m) m.events) (sym c.reserve.ensures.others)
    (kept-each (start_of m) (history_of m) m.events c.self.inside.standing c.reserve.new.self.each c.reserve.ensures.each
    c.self.invariant.kept)

same-code : (c : goal.After-system-in-Ok) → c.system-in-Ok.result.now.cores.code ≡ c.self.inside.refined.machine.cores.code
same-code c = ap (λ (x : Machine). x.cores.code) c.system-in-Ok.ensures.machine ∙ c.in-Ok.ensures.code

pub note-requires-clause-rows : goal.note-requires-clause-rows
note-requires-clause-rows c = rows-by c.self.inside.refined.machine c.system-in-Ok.result.now c.reserve.new.self (same-code c) (kept c)

pub note-requires-clause-holds : goal.note-requires-clause-holds
note-requires-clause-holds c =
    subst (λ (x : Machine). StillHolds x (event_of c.args.e) c.in-Ok.done c.reserve.new.self) (sym c.system-in-Ok.ensures.machine)
    (still-so c.self.inside.refined.machine c.step.new.self.machine c.self.invariant.allowed (map event_of c.self.inside.refined.taken)
    (event_of c.args.e) c.self.invariant.phased.from (to c) c.in-Ok.done c.in-Ok.ensures.told c.an_event_acts_on_one_node.ensures
    c.reserve.new.self (kept c) c.in-Ok.ensures.code)

pub note-requires-clause-rising : goal.note-requires-clause-rising
note-requires-clause-rising c =
    subst (λ (x : Machine). IsRising 0 x.commits) (sym c.system-in-Ok.ensures.machine)
    (now-rising c.self.inside.refined.machine c.step.new.self.machine c.self.invariant.allowed (map event_of c.self.inside.refined.taken)
    (event_of c.args.e) c.self.invariant.phased.from (to c) c.in-Ok.done c.in-Ok.ensures.told)

pub note-requires-clause-listed : goal.note-requires-clause-listed
note-requires-clause-listed c =
    let m : Machine = c.self.inside.refined.machine in
    let n : Machine = c.step.new.self.machine in
    let l : Standing = c.reserve.new.self in
    subst (λ (x : Machine). IsListed x c.in-Ok.done l.each.items (settings_of x).cores) (sym c.system-in-Ok.ensures.machine)
    (subst (λ k. IsListed n c.in-Ok.done l.each.items k.settings.cores) (sym c.in-Ok.ensures.code)
    (now-listed m n c.self.invariant.allowed (map event_of c.self.inside.refined.taken) (event_of c.args.e) c.self.invariant.phased.from
    (to c) c.in-Ok.done c.in-Ok.ensures.told l.each.items (kept c).each))

pub invariant_of-self-in-Ok : goal.invariant_of-self-in-Ok
invariant_of-self-in-Ok c =
    let m : Machine = c.self.inside.refined.machine in
    let n : Machine = c.step.new.self.machine in
    let to-n = free-in (record { refined = c.self.inside.refined }) c.args.self.now (event_of c.args.e) c.holds_back.result c.self.view_is
    c.holds_back.ensures c.if-holds_back.false ∙ c.in-Ok.ensures.next in
    let kept-1 = subst (IsKept (start_of m) (history_of m) m.events) (sym c.reserve.ensures.others)
    (kept-each (start_of m) (history_of m) m.events c.self.inside.standing c.reserve.new.self.each c.reserve.ensures.each
    c.self.invariant.kept) in
    let es = map event_of c.self.inside.refined.taken in
    let e = event_of c.args.e in
    let code = c.in-Ok.ensures.code in
    let allowed = subst (λ k. IsAllowed k.settings) (sym code) c.self.invariant.allowed in
    let from = phased-after m n c.self.inside.refined.taken c.step.new.self.taken c.args.e c.self.invariant.phased.from to-n code
    c.in-Ok.ensures.taken in
    let w = subst (λ (x : Machine). Noted x e c.in-Ok.done c.reserve.new.self c.note.new.self) c.system-in-Ok.ensures.machine (record {
      rows = c.note.ensures.rows;
      asked = c.note.ensures.asked;
      notes = c.note.ensures.notes;
      limits = c.note.ensures.limits;
      held = c.note.ensures.held;
    }) in
    record {
      allowed = allowed;
      phased = record { from = from; in_phases = in-phases-of n c.step.new.self.taken allowed from };
      kept = kept-next m n c.self.invariant.allowed es e c.self.invariant.phased.from to-n c.in-Ok.done c.in-Ok.ensures.told
          c.an_event_acts_on_one_node.ensures c.reserve.new.self c.note.new.self kept-1 w c.in-Ok.ensures.counted code;
    }
