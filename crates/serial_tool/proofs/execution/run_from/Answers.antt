use Rattle.std.proofs.Common.{◌≡◌, map, arith}
use Rattle.std.proofs.lemmas.Grind.{common_steps}
use Rattle.serial_tool.specs.Runs.{beginning_of}
use Rattle.serial_tool.proofs.Running.{at-ending, at-rising, cores-there, executed-is, fault-within, piece-faults-have-no-run, stuck-at}
use Rattle.serial_tool.proofs.execution.run_from.Goals as goal

pub serial_from-requires : goal.serial_from-requires
serial_from-requires c =
    let same : c.deref.result.now ≡ map (λ l. l.order) c.args.orders.now = grind (arith, common_steps) in
    cores-there c.args.machine.now.loaded.settings.cores c.args.orders.now c.deref.result.now same c.requires

pub returns-in-Ok-serial_from-clause-executed : goal.returns-in-Ok-serial_from-clause-executed
returns-in-Ok-serial_from-clause-executed c =
    let same : c.deref.result.now ≡ map (λ l. l.order) c.args.orders.now = grind (arith, common_steps) in
    executed-is c.args.machine.now c.args.last.0 c.args.orders.now c.serial_from.new.self c.deref.result.now
    c.in-Ok-serial_from.commits same
    c.in-Ok-serial_from.ensures.executed

pub line_at-requires : goal.line_at-requires
line_at-requires c =
    let same : c.deref.result.now ≡ map (λ l. l.order) c.args.orders.now = grind (arith, common_steps) in
    let fault = rw c.in-Err-NotRising.field-0-is at c.in-Err-NotRising.ensures.fault in
    fault-within c.args.machine.now c.args.last.0 c.args.orders.now c.deref.result.now c.in-Err-NotRising.i same
    (at-rising c.args.machine.now c.args.last.0 c.deref.result.now c.in-Err-NotRising.i fault)

pub returns-in-Err-NotRising-clause-fault : goal.returns-in-Err-NotRising-clause-fault
returns-in-Err-NotRising-clause-fault c =
    let same : c.deref.result.now ≡ map (λ l. l.order) c.args.orders.now = grind (arith, common_steps) in
    let fault = rw c.in-Err-NotRising.field-0-is at c.in-Err-NotRising.ensures.fault in
    stuck-at c.args.machine.now c.args.last.0 c.args.orders.now c.deref.result.now c.in-Err-NotRising.i c.line_at.result same
    (at-rising c.args.machine.now c.args.last.0 c.deref.result.now c.in-Err-NotRising.i fault) c.line_at.ensures

pub returns-in-Err-NotRising-clause-none : goal.returns-in-Err-NotRising-clause-none
returns-in-Err-NotRising-clause-none c =
    piece-faults-have-no-run (beginning_of c.args.machine.now c.args.last.0) c.args.orders.now c.line_at.result
    (returns-in-Err-NotRising-clause-fault c)

pub returns-in-Err-NotEnding-clause-fault : goal.returns-in-Err-NotEnding-clause-fault
returns-in-Err-NotEnding-clause-fault c =
    let same : c.deref.result.now ≡ map (λ l. l.order) c.args.orders.now = grind (arith, common_steps) in
    let fault = rw c.in-Err-NotEnding.field-0-is at c.in-Err-NotEnding.ensures.fault in
    stuck-at c.args.machine.now c.args.last.0 c.args.orders.now c.deref.result.now c.in-Err-NotEnding.i
    c.line_at-in-Err-NotEnding.result same
    (at-ending c.args.machine.now c.args.last.0 c.deref.result.now c.in-Err-NotEnding.i fault)
    c.line_at-in-Err-NotEnding.ensures

pub returns-in-Err-NotEnding-clause-none : goal.returns-in-Err-NotEnding-clause-none
returns-in-Err-NotEnding-clause-none c =
    piece-faults-have-no-run (beginning_of c.args.machine.now c.args.last.0) c.args.orders.now c.line_at-in-Err-NotEnding.result
    (returns-in-Err-NotEnding-clause-fault c)
