-- A core executes.
use Rattle.std.proofs.Common.{Bool, refl, sym, subst, Err}
use Rattle.rules_bus.specs.Exec.{instruction}
use Rattle.rules_bus.specs.State.{Exec}
use Rattle.machine_cores.specs.Bank.{cores_of}
use Rattle.core_node.specs.Answers.{IsBlocked}
use Rattle.bus_tcc.specs.Answers.{Answers, Took}
use Rattle.bus_tcc.specs.Bank.{ExecutedAt}
use Rattle.bus_tcc.specs.Inside.{machine_of}
use Rattle.bus_tcc.specs.Machine.{BusMachine, bus_program_of, bus_settings_of, word_in}
use Rattle.bus_tcc.specs.declared.event.BusStep.TheVariants.{Moved}
use Rattle.bus_tcc.proofs.Bounds.{core-bounded}
use Rattle.bus_tcc.proofs.Events.{StaysBut, after_none, bank_in, stays-whole}
use Rattle.bus_tcc.proofs.Instructions.{Asked, HasExecuted, after_execution, asked-of, executed-took}
use Rattle.bus_tcc.proofs.Instructions.{executed-whole}
use Rattle.bus_tcc.proofs.Instructions.{free-where, instruction_of, refused-execution}
use Rattle.bus_tcc.proofs.engine.Engine.execute.Goals as goal

pub execute-requires : goal.execute-requires
execute-requires c =
    let m = machine_of c.self.inside in
    let n = c.args.core.0 in
    let a = subst (λ x. Asked x n) (sym c.self.view_is)
    (asked-of c.args.self.now n c.requires.exists c.requires.enabled c.requires.executes c.requires.goes_on) in
    record {
      exists = a.exists;
      executes = a.runs;
      idle = (core-bounded m c.self.invariant n a.exists).awaited;
    }

-- ---- a refusal

stays : (c : goal.After-refusal) → StaysBut (machine_of c.self.inside) (after_none c.self.inside c.execute.new.self)
stays c = record {
  code = c.in-Err.ensures.code;
  cores = c.in-Err.ensures.unchanged;
  ram = refl;
  next = refl;
  bus = refl;
  commits = refl;
  events = refl;
}

pub invariant_of-self : goal.invariant_of-self
invariant_of-self c = stays-whole (machine_of c.self.inside) _ c.self.invariant (stays c)

pub returns-in-Err : goal.returns-in-Err
returns-in-Err c =
    let m = machine_of c.self.inside in
    let n = c.args.core.0 in
    let k = after_none c.self.inside c.execute.new.self in
    let a = subst (λ x. Asked x n) (sym c.self.view_is)
    (asked-of c.args.self.now n c.requires.exists c.requires.enabled c.requires.executes c.requires.goes_on) in
    subst (λ x. Answers x k (Exec n) (Err c.refusal.result)) c.self.view_is
    (subst (λ r. Answers m k (Exec n) (Err r)) (sym c.refusal.ensures)
    (refused-execution Bool m k n c.in-Err.error (instruction_of m n) (stays c)
    (subst (λ ws. IsBlocked {A = Bool} (Err c.in-Err.error)
    (instruction (bus_settings_of m) (bus_program_of m) (word_in ws) n (cores_of (bank_in m) n))) c.words_of.ensures
    c.in-Err.ensures.blocked)
    a.goes_on (free-where m n (instruction_of m n) a.enabled a.goes_on)))

-- ---- an execution

abbrev after : (c : goal.After-self-1) → BusMachine
after c = after_execution c.self.inside c.execute.new.self c.take_if.new.bus

executed : (c : goal.After-self-1) → HasExecuted (machine_of c.self.inside) (after c) c.args.core.0 c.in-Ok.alone
executed c = record {
  code = c.in-Ok.ensures.code;
  ram = refl;
  next = refl;
  bus = c.take_if.ensures.bus;
  packet = c.take_if.ensures.lines;
  commits = refl;
  events = refl;
}

took : (c : goal.After-self-1) → Took (machine_of c.self.inside) (after c) (Exec c.args.core.0) Moved
took c =
    let m = machine_of c.self.inside in
    let n = c.args.core.0 in
    let a = subst (λ x. Asked x n) (sym c.self.view_is)
    (asked-of c.args.self.now n c.requires.exists c.requires.enabled c.requires.executes c.requires.goes_on) in
    executed-took m (after c) n c.in-Ok.alone (instruction_of m n) (executed c) a.goes_on
    (subst (λ ws. ExecutedAt c.in-Ok.alone m.next
    (instruction (bus_settings_of m) (bus_program_of m) (word_in ws) n (cores_of (bank_in m) n)) n (bank_in m) (bank_in (after c)))
    c.words_of.ensures c.in-Ok.ensures.does)
    (free-where m n (instruction_of m n) a.enabled a.goes_on)

pub invariant_of-self-in-Ok : goal.invariant_of-self-in-Ok
invariant_of-self-in-Ok c =
    executed-whole (machine_of c.self.inside) (after c) c.args.core.0 c.in-Ok.alone c.self.invariant (executed c) (took c)

pub returns-in-Ok : goal.returns-in-Ok
returns-in-Ok c = subst (λ x. Took x (after c) (Exec c.args.core.0) Moved) c.self.view_is (took c)
