-- Memory is as it was, or what a commit changed is told.
use Rattle.std.proofs.Common.{◌≡◌, ◌==◌, arith, string_bytes, true}
use Rattle.std.proofs.lemmas.Bool.Decides.{nat_tests}
use Rattle.bus_tcc.specs.Machine.{bus_world_of}
use Rattle.bus_changes.proofs.Steps.{both}
use Rattle.bus_changes.proofs.Words.{memory-renewed, memory-stays}
use Rattle.bus_changes.proofs.memory.push_memory.Goals as goal

pub returns-then-next : goal.returns-then-next
returns-then-next c = λ w k e m.
    let now = c.next.ensures in
    let test = c.if-next.true in
    let same : ((bus_world_of c.args.system.now).next == w.next) ≡ true = grind (arith, nat_tests) in
    memory-stays c.args.system.now w c.args.ram.now (string_bytes c.args.text.now) k (m.0 same)

pub returns : goal.returns
returns c = λ w k e m.
    both c.renew_memory.result
    (λ told taken. memory-renewed c.args.system.now w c.args.ram.now c.renew_memory.new.ram (string_bytes c.args.text.now)
    (string_bytes c.renew_memory.new.text) k m c.renew_memory.ensures.count told taken)
    c.renew_memory.ensures.told c.renew_memory.ensures.words
