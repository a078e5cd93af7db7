use Rattle.std.proofs.Common.{◌≡◌, ◌+◌, ◌++◌, [], ◌∷◌, rules, subst, tests, arith}
use Rattle.std.proofs.lemmas.Grind.{common_steps}
use Rattle.std.proofs.lemmas.List.{length_push}
use Rattle.serial_tool.specs.Lines.{IsFaulty, IsOrderLine}
use Rattle.serial_tool.proofs.Listing.{turn-fault, turn-none, turn-order, turn-other}
use Rattle.serial_tool.proofs.Turns.{last-line, next-line}
use Rattle.serial_tool.proofs.reading.read_orders.Goals as goal

pub loop-i-preserved-in-Other : goal.loop-i-preserved-in-Other
loop-i-preserved-in-Other c =
    let next = next-line c.args.bytes.now c.loop-i.yielded _ c.loop-i.yielded_by _ _ (c.in-Some.i, c.in-Some.line) c.in-Some.is
    c.next.ensures.steps c.into_iter-i-iterator.ensures.into_iter_gives c.enumerate-i-items.ensures.source
    c.enumerate-i-items.ensures.count c.split.ensures.rest c.split.ensures.done c.split.ensures.closure
    (λ x r q k. search (rules, tests)) in
    turn-other c.args.config.now.cores c.args.bytes.now _ _ c.loop-i.orders (c.in-Some.i, c.in-Some.line.now) next
    (length_push c.loop-i.yielded (c.in-Some.i, c.in-Some.line)) c.loop-i.invariant c.in-Other.ensures

pub loop-i-preserved : goal.loop-i-preserved
loop-i-preserved c =
    let next = next-line c.args.bytes.now c.loop-i.yielded _ c.loop-i.yielded_by _ _ (c.in-Some.i, c.in-Some.line) c.in-Some.is
    c.next.ensures.steps c.into_iter-i-iterator.ensures.into_iter_gives c.enumerate-i-items.ensures.source
    c.enumerate-i-items.ensures.count c.split.ensures.rest c.split.ensures.done c.split.ensures.closure
    (λ x r q k. search (rules, tests)) in
    let is = subst (λ n. IsOrderLine n c.in-Some.line.now c.in-Ordered.order) c.cores-cores.ensures.value c.in-Ordered.ensures in
    let pushed : c.push.new.self ≡ c.loop-i.orders ++ record { line = c.in-Some.i + 1; order = c.in-Ordered.order } ∷ [] =
    grind (arith, common_steps) in
    rw pushed (turn-order c.args.config.now.cores c.args.bytes.now _ _ c.loop-i.orders (c.in-Some.i, c.in-Some.line.now)
    c.in-Ordered.order next (length_push c.loop-i.yielded (c.in-Some.i, c.in-Some.line)) c.loop-i.invariant is)

pub returns-in-Faulty-clause-fault : goal.returns-in-Faulty-clause-fault
returns-in-Faulty-clause-fault c =
    let next = next-line c.args.bytes.now c.loop-i.yielded _ c.loop-i.yielded_by _ _ (c.in-Some.i, c.in-Some.line) c.in-Some.is
    c.next.ensures.steps c.into_iter-i-iterator.ensures.into_iter_gives c.enumerate-i-items.ensures.source
    c.enumerate-i-items.ensures.count c.split.ensures.rest c.split.ensures.done c.split.ensures.closure
    (λ x r q k. search (rules, tests)) in
    let faulty = subst (λ n. IsFaulty n c.in-Some.line.now) c.cores-cores.ensures.value c.in-Faulty.ensures in
    turn-fault c.args.config.now.cores c.args.bytes.now _ c.loop-i.orders (c.in-Some.i, c.in-Some.line.now) next
    c.loop-i.invariant faulty

pub returns-clause-found : goal.returns-clause-found
returns-clause-found c =
    let all = last-line c.args.bytes.now c.loop-i.yielded _ c.loop-i.yielded_by _ _ c.in-None.is
    c.next.ensures.steps c.into_iter-i-iterator.ensures.into_iter_gives c.enumerate-i-items.ensures.source
    c.enumerate-i-items.ensures.count c.split.ensures.rest c.split.ensures.done c.split.ensures.closure
    (λ x r q k. search (rules, tests)) in
    rw c.orders-2.view_is ((turn-none c.args.config.now.cores c.args.bytes.now _ c.loop-i.orders all c.loop-i.invariant).0)

pub returns-clause-cores : goal.returns-clause-cores
returns-clause-cores c =
    let all = last-line c.args.bytes.now c.loop-i.yielded _ c.loop-i.yielded_by _ _ c.in-None.is
    c.next.ensures.steps c.into_iter-i-iterator.ensures.into_iter_gives c.enumerate-i-items.ensures.source
    c.enumerate-i-items.ensures.count c.split.ensures.rest c.split.ensures.done c.split.ensures.closure
    (λ x r q k. search (rules, tests)) in
    rw c.orders-2.view_is ((turn-none c.args.config.now.cores c.args.bytes.now _ c.loop-i.orders all c.loop-i.invariant).1)
