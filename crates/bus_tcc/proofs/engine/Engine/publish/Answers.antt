-- A core commits.
use Rattle.std.proofs.Common.{◌+◌, ◌<◌, not, ◌&&◌, refl, ap, sym, ◌∙◌, subst, Err, length, arith}
use Rattle.std.specs.Prelude.{◌==◌, if◌then◌else◌}
use Rattle.tcc_base.specs.Limits.{run_limit}
use Rattle.rules_maps.specs.Words.{any_below}
use Rattle.rules_bus.specs.Commit.{with_words}
use Rattle.rules_bus.specs.State.{Exec, Packet, Free}
use Rattle.machine_cores.specs.Bank.{cores_of}
use Rattle.core_node.specs.AtHand.{words_in}
use Rattle.rules_tcc.specs.Step.{insert_commit}
use Rattle.machine_commits.specs.Rising.{HasNone}
use Rattle.bus_tcc.specs.Answers.{Answers, Took}
use Rattle.rules_tcc.specs.State.{CoreState}
use Rattle.bus_tcc.specs.Ending.{at_commit}
use Rattle.bus_tcc.specs.Inside.{machine_of}
use Rattle.bus_tcc.specs.Left.{all_but}
use Rattle.bus_tcc.specs.Machine.{BusMachine, bus_program_of, bus_settings_of, word_in}
use Rattle.bus_tcc.specs.declared.commit.Written.{Written}
use Rattle.bus_tcc.specs.declared.event.BusError.TheVariants.{Memory}
use Rattle.bus_tcc.specs.declared.event.BusStep.TheVariants.{Committed}
use Rattle.bus_tcc.proofs.Bounds.{core-bounded}
use Rattle.bus_tcc.proofs.Events.{StaysBut, bank_in, stays-whole}
use Rattle.bus_tcc.proofs.Published.{Commits, HasPublished, can-commit, commits-of, failed-answers, new-tid, next-fits}
use Rattle.bus_tcc.proofs.Published.{published-took, published-whole, room-only, wanting-answers}
use Rattle.bus_tcc.proofs.engine.Engine.publish.Goals as goal

-- ---- no room for the commit

pub invariant_of-self : goal.invariant_of-self
invariant_of-self c = stays-whole (machine_of c.self.inside) _ c.self.invariant
    (room-only (machine_of c.self.inside) c.reserve.new.self.list c.reserve.new.self.room c.reserve.ensures.unchanged)

pub returns-in_default : goal.returns-in_default
returns-in_default c =
    let m = machine_of c.self.inside in
    let n = c.args.core.0 in
    let a = subst (λ x. Commits x n) (sym c.self.view_is)
    (commits-of c.args.self.now n c.requires.exists c.requires.may c.requires.commits) in
    let k = record m { commits = c.reserve.new.self.list; room = c.reserve.new.self.room } in
    subst (λ x. Answers x k (Exec n) (Err Memory)) c.self.view_is
    (wanting-answers m k n a (room-only m c.reserve.new.self.list c.reserve.new.self.room c.reserve.ensures.unchanged))

-- ---- what the core's commit asks for

pub commit-requires : goal.commit-requires
commit-requires c =
    let m = machine_of c.self.inside in
    let n = c.args.core.0 in
    let a = subst (λ x. Commits x n) (sym c.self.view_is)
    (commits-of c.args.self.now n c.requires.exists c.requires.may c.requires.commits) in
    record {
      exists = a.exists;
      idle = (core-bounded m c.self.invariant n a.exists).awaited;
      commits = a.may;
      can = can-commit m n c.self.invariant a.exists;
    }

abbrev after_err : (c : goal.After-refusal) → BusMachine
after_err c = record (machine_of c.self.inside) {
  code = c.commit.new.self.code;
  cores = c.commit.new.self.cores;
  commits = c.reserve.new.self.list;
  room = c.reserve.new.self.room;
}

stays : (c : goal.After-refusal) → StaysBut (machine_of c.self.inside) (after_err c)
stays c = record {
  code = c.in-Err.ensures.code;
  cores = c.in-Err.ensures.unchanged;
  ram = refl;
  next = refl;
  bus = refl;
  commits = c.reserve.ensures.unchanged;
  events = refl;
}

pub invariant_of-self-in-Err : goal.invariant_of-self-in-Err
invariant_of-self-in-Err c = stays-whole (machine_of c.self.inside) _ c.self.invariant (stays c)

pub returns-in-Err : goal.returns-in-Err
returns-in-Err c =
    let m = machine_of c.self.inside in
    let n = c.args.core.0 in
    let a = subst (λ x. Commits x n) (sym c.self.view_is)
    (commits-of c.args.self.now n c.requires.exists c.requires.may c.requires.commits) in
    subst (λ x. Answers x (after_err c) (Exec n) (Err c.refusal.result)) c.self.view_is
    (subst (λ r. Answers m (after_err c) (Exec n) (Err r)) (sym c.refusal.ensures)
    (failed-answers Written m (after_err c) n c.in-Err.error a (stays c) c.in-Err.ensures.cause))

-- ---- the commit

pub insert-requires-clause-new : goal.insert-requires-clause-new
insert-requires-clause-new c =
    let m = machine_of c.self.inside in
    let n = c.args.core.0 in
    subst (HasNone c.in-Ok-commit.field-0.commit.tid.0) (sym c.reserve.ensures.unchanged)
    (new-tid m n (at_commit (bus_program_of m) (cores_of (bank_in m) n)) c.in-Ok-commit.field-0 c.self.invariant
    c.in-Ok-commit.ensures.wrote)

pub overflow_add-self : goal.overflow_add-self
overflow_add-self c =
    let m = machine_of c.self.inside in
    let l = next-fits m c.self.invariant (subst (λ x. x.events < run_limit) (sym c.self.view_is) c.requires.few) in
    omega (arith, l)

abbrev after : (c : goal.After-self-in-Ok-commit-2-1) → BusMachine
after c = record {
  code = c.commit.new.self.code;
  cores = c.commit.new.self.cores;
  ram = c.store_all.new.ram;
  bus = c.bus_with.result;
  next = c.self.inside.next.0 + 1;
  commits = c.insert.new.self.list;
  room = c.insert.new.self.room;
  events = c.self.inside.events + 1;
}

-- the attempt that it commits
abbrev attempt : (c : goal.After-self-in-Ok-commit-2-1) → CoreState
attempt c = at_commit (bus_program_of (machine_of c.self.inside)) (cores_of c.self.inside.cores c.args.core.0)

published : (c : goal.After-self-in-Ok-commit-2-1)
    → HasPublished (machine_of c.self.inside) (after c) c.args.core.0 (attempt c) c.in-Ok-commit.field-0
published c =
    let m = machine_of c.self.inside in
    let n = c.args.core.0 in
    let w = c.in-Ok-commit.field-0 in
    let same = c.cores-cores.ensures.value ∙ ap (λ s. s.cores) c.config.ensures
    ∙ ap (λ x. (bus_settings_of x).cores) (sym c.self.view_is) in
    record {
      code = c.in-Ok-commit.ensures.code;
      cores = c.in-Ok-commit.ensures.does;
      wrote = c.in-Ok-commit.ensures.wrote;
      count = c.store_all.ensures.count;
      ram = c.store_all.ensures.words ∙ ap (λ l. with_words (words_in l) (word_in m.ram)) c.tagged.ensures;
      packet = c.bus_with.ensures.lines;
      bus = c.bus_with.ensures.bus
          ∙ ap (λ j. if not (length w.lines == 0) && any_below (all_but n j) j then Packet (words_in w.lines) (all_but n j)
          else Free)
          same;
      next = refl;
      commits = c.insert.ensures ∙ ap (insert_commit w.commit) c.reserve.ensures.unchanged;
      events = refl;
    }

took : (c : goal.After-self-in-Ok-commit-2-1)
    → Took (machine_of c.self.inside) (after c) (Exec c.args.core.0) (Committed c.self.inside.next)
took c =
    let m = machine_of c.self.inside in
    let n = c.args.core.0 in
    let a = subst (λ x. Commits x n) (sym c.self.view_is)
    (commits-of c.args.self.now n c.requires.exists c.requires.may c.requires.commits) in
    published-took m (after c) n (attempt c) c.in-Ok-commit.field-0 c.self.invariant (published c) a.step

pub invariant_of-self-in-Ok-commit : goal.invariant_of-self-in-Ok-commit
invariant_of-self-in-Ok-commit c =
    published-whole (machine_of c.self.inside) (after c) c.args.core.0 (attempt c) c.in-Ok-commit.field-0 c.self.invariant (published c)
    (took c)

pub returns-in-Ok-commit : goal.returns-in-Ok-commit
returns-in-Ok-commit c =
    subst (λ x. Took x (after c) (Exec c.args.core.0) (Committed c.self.inside.next)) c.self.view_is (took c)
