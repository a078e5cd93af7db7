-- A core executes.
use Rattle.std.proofs.Common.{◌≡◌, ◌∙◌, ◌≤◌, ◌<◌, ap, refl, sym, subst, arith, Err, ℕ, Option}
use Rattle.net_core.specs.Limits.{machine_limit}
use Rattle.tcc_base.specs.Settings.{Settings}
use Rattle.rules_maps.specs.Nodes.{Exec}
use Rattle.rules_tcc.specs.Attempt.{Out}
use Rattle.rules_tcc.specs.CoreExec.{core_exec}
use Rattle.machine_commits.specs.Rising.{Commits}
use Rattle.machine_cores.specs.Bank.{cores_of}
use Rattle.core_node.specs.declared.exec.Executed.{Executed}
use Rattle.core_node.specs.Executing.{TellsOfEvent}
use Rattle.net_core.specs.Answers.{Answers, Took}
use Rattle.net_core.specs.Inside.{machine_of}
use Rattle.net_core.specs.declared.system.System.TheInside.{Inside}
use Rattle.net_core.specs.Machine.{Machine, program_of, settings_of}
use Rattle.net_core.specs.declared.taking.Step.TheVariants as step_told
use Rattle.net_core.proofs.Keeping.{nothing-left}
use Rattle.net_core.proofs.Events.Kept.{StaysBut, stays-whole}
use Rattle.net_core.proofs.Events.Cores.{ActsFrom, after_core, after_none, commit-new, exec-step_in, move-whole, no-exec, noted-as}
use Rattle.net_core.proofs.Events.Cores.{refused-move, told-unnoted, took-move, unnoted-as}
use Rattle.net_core.proofs.system.System.exec.Goals as goal

beyond : (s t : Settings) (c n : ℕ) → s ≡ t → n ≡ s.cores → n ≤ c → c < t.cores → ⊥
beyond s t c n e v l h = let same = ap (λ x. x.cores) e in omega (arith, same, v, l, h)

pub returns-then-core-cores : goal.returns-then-core-cores
returns-then-core-cores c = (
  record { history = refl; events = refl; code = refl },
  no-exec c.args.self.now c.args.core.0
      (beyond c.config.result.now (settings_of c.args.self.now) c.args.core.0 c.cores.result c.config.ensures
      c.cores.ensures.value c.if-core-cores.true),
)

-- ---- a refusal

stays : (c : goal.After-refusal) → StaysBut (machine_of c.self.inside) (after_none c.self.inside c.exec.new.self c.exec.new.out)
stays c = record {
  code = c.in-Err.ensures.code;
  cores = c.in-Err.ensures.unchanged;
  dirs = refl;
  settings = refl;
  next = refl;
  flights = refl;
  before = ap (λ m. m.unsent) c.self.view_is ∙ c.requires.settled;
  now = nothing-left c.self.inside.placed c.exec.new.out.list.items (c.in-Err.ensures.unsent ∙ c.clear.ensures);
  commits = refl;
  events = refl;
}

pub invariant_of-self : goal.invariant_of-self
invariant_of-self c = stays-whole (machine_of c.self.inside) _ c.self.invariant (stays c)

pub returns-in-Err : goal.returns-in-Err
returns-in-Err c =
    let m = machine_of c.self.inside in
    let n = after_none c.self.inside c.exec.new.self c.exec.new.out in
    subst (λ x. Answers x n (Exec c.args.core.0) (Err c.refusal.result)) c.self.view_is
    (subst (λ r. Answers m n (Exec c.args.core.0) (Err r)) (sym c.refusal.ensures)
    (refused-move Executed m n (Exec c.args.core.0) c.args.core.0 c.in-Err.error _ (stays c) c.in-Err.ensures.blocked
    (exec-step_in m c.config.result.now c.args.core.0 (c.config.ensures ∙ ap settings_of (sym c.self.view_is))
    (subst (λ n. c.args.core.0 < n) c.cores.ensures.value c.if-core-cores.false))))

-- ---- a commit

-- the rule of this core
abbrev rule : Machine → (core : ℕ) → Option Out
rule m core = core_exec (settings_of m) (program_of m) core (cores_of m.cores core)

pub insert-requires-clause-new : goal.insert-requires-clause-new
insert-requires-clause-new c =
    let m = machine_of c.self.inside in
    commit-new m c.args.core.0 (rule m c.args.core.0) c.in-Committed.commit c.self.invariant
    (subst (λ e. TellsOfEvent e (rule m c.args.core.0)) c.in-Committed.is c.in-Ok.ensures.told)
    (exec-step_in m c.config.result.now c.args.core.0 (c.config.ensures ∙ ap settings_of (sym c.self.view_is))
    (subst (λ n. c.args.core.0 < n) c.cores.ensures.value c.if-core-cores.false))

-- with one more commit
abbrev with_commits : Inside → Commits → Inside
with_commits s cs = record s { commits = cs }

committed : (c : goal.After-insert) → ActsFrom (machine_of c.self.inside)
    (after_core (with_commits c.self.inside c.insert.new.self) c.exec.new.self c.exec.new.out c.self.inside.flights c.args.core)
    c.args.core.0 c.clear.new.self c.exec.new.out
committed c = record {
  code = c.in-Ok.ensures.code;
  dirs = refl;
  next = refl;
  sender = refl;
  unsent = refl;
  last = refl;
  settled = ap (λ m. m.unsent) c.self.view_is ∙ c.requires.settled;
  clear = c.clear.ensures;
  events = refl;
}

took-commit : (c : goal.After-insert) → Took (machine_of c.self.inside)
    (after_core (with_commits c.self.inside c.insert.new.self) c.exec.new.self c.exec.new.out c.self.inside.flights c.args.core)
    (Exec c.args.core.0) (step_told.Committed c.in-Committed.commit.tid)
took-commit c =
    let m = machine_of c.self.inside in
    let n = after_core (with_commits c.self.inside c.insert.new.self) c.exec.new.self c.exec.new.out c.self.inside.flights c.args.core in
    took-move m n (Exec c.args.core.0) c.args.core.0 c.clear.new.self c.exec.new.out (step_told.Committed c.in-Committed.commit.tid)
    (rule m c.args.core.0) (committed c) c.in-Ok.ensures.does refl
    (exec-step_in m c.config.result.now c.args.core.0 (c.config.ensures ∙ ap settings_of (sym c.self.view_is))
    (subst (λ n. c.args.core.0 < n) c.cores.ensures.value c.if-core-cores.false))
    (noted-as m n (rule m c.args.core.0) c.in-Committed.commit
    (subst (λ e. TellsOfEvent e (rule m c.args.core.0)) c.in-Committed.is c.in-Ok.ensures.told) c.insert.ensures) refl

pub invariant_of-self-in-Committed : goal.invariant_of-self-in-Committed
invariant_of-self-in-Committed c =
    move-whole (machine_of c.self.inside) _ (Exec c.args.core.0) (step_told.Committed c.in-Committed.commit.tid) c.args.core.0
    c.clear.new.self c.exec.new.out c.self.invariant (subst (λ m. m.events < machine_limit) (sym c.self.view_is) c.requires.few)
    (committed c) (took-commit c) refl

pub returns-in-Committed : goal.returns-in-Committed
returns-in-Committed c =
    let n = after_core (with_commits c.self.inside c.insert.new.self) c.exec.new.self c.exec.new.out c.self.inside.flights c.args.core in
    subst (λ x. Took x n (Exec c.args.core.0) (step_told.Committed c.in-Committed.commit.tid)) c.self.view_is (took-commit c)

-- ---- no commit

acts : (c : goal.In-Stepped) → ActsFrom (machine_of c.self.inside)
    (after_core c.self.inside c.exec.new.self c.exec.new.out c.self.inside.flights c.args.core)
    c.args.core.0 c.clear.new.self c.exec.new.out
acts c = record {
  code = c.in-Ok.ensures.code;
  dirs = refl;
  next = refl;
  sender = refl;
  unsent = refl;
  last = refl;
  settled = ap (λ m. m.unsent) c.self.view_is ∙ c.requires.settled;
  clear = c.clear.ensures;
  events = refl;
}

took : (c : goal.In-Stepped) → Took (machine_of c.self.inside)
    (after_core c.self.inside c.exec.new.self c.exec.new.out c.self.inside.flights c.args.core) (Exec c.args.core.0) step_told.Moved
took c =
    let m = machine_of c.self.inside in
    let n = after_core c.self.inside c.exec.new.self c.exec.new.out c.self.inside.flights c.args.core in
    took-move m n (Exec c.args.core.0) c.args.core.0 c.clear.new.self c.exec.new.out step_told.Moved
    (rule m c.args.core.0) (acts c) c.in-Ok.ensures.does refl
    (exec-step_in m c.config.result.now c.args.core.0 (c.config.ensures ∙ ap settings_of (sym c.self.view_is))
    (subst (λ n. c.args.core.0 < n) c.cores.ensures.value c.if-core-cores.false))
    (unnoted-as m n (rule m c.args.core.0) c.args.core.0 c.clear.new.self c.exec.new.out c.in-Ok.ensures.does
    (told-unnoted (rule m c.args.core.0) c.in-Ok.executed c.in-Ok.ensures.told c.in-Stepped.is) refl) refl

pub invariant_of-self-in-Stepped : goal.invariant_of-self-in-Stepped
invariant_of-self-in-Stepped c =
    move-whole (machine_of c.self.inside) _ (Exec c.args.core.0) step_told.Moved c.args.core.0
    c.clear.new.self c.exec.new.out c.self.invariant (subst (λ m. m.events < machine_limit) (sym c.self.view_is) c.requires.few)
    (acts c) (took c) refl

pub returns-in-Stepped : goal.returns-in-Stepped
returns-in-Stepped c =
    let n = after_core c.self.inside c.exec.new.self c.exec.new.out c.self.inside.flights c.args.core in
    subst (λ x. Took x n (Exec c.args.core.0) step_told.Moved) c.self.view_is (took c)
