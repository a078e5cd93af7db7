-- The cores of a state are those of its machine.
use Rattle.std.proofs.Common.{arith}
use Rattle.std.proofs.lemmas.Grind.{common_steps}
use Rattle.std.proofs.lemmas.Result.{on_ok_weaker}
use Rattle.std.specs.String.{string_bytes}
use Rattle.text_outcomes.proofs.States.{told-consoles, told-everything, told-memory}
use Rattle.text_outcomes.proofs.told.push_told.Goals as goal

pub returns-in-Consoles : goal.returns-in-Consoles
returns-in-Consoles c =
    rw c.in-Consoles.is
    (on_ok_weaker c.push_ends.result
    (λ is. told-consoles c.args.loaded.now c.args.state.now (string_bytes c.args.text.now) (string_bytes c.push_ends.new.text)
    c.requires.normal.sized (grind (arith, common_steps, is)))
    c.push_ends.ensures)

pub returns-in_ok-push_ends-in-Memory : goal.returns-in_ok-push_ends-in-Memory
returns-in_ok-push_ends-in-Memory c =
    let ends = c.in_ok-push_ends-in-Memory.ensures in
    rw c.in-Memory.is
    (on_ok_weaker c.push_memory.result
    (λ is. told-memory c.args.loaded.now c.args.state.now (string_bytes c.args.text.now) (string_bytes c.push_ends-in-Memory.new.text)
    (string_bytes c.push_memory.new.text) c.requires.normal.sized (grind (arith, common_steps, ends)) (grind (arith, common_steps, is)))
    c.push_memory.ensures)

pub returns-in_ok-push_cores-in-Everything : goal.returns-in_ok-push_cores-in-Everything
returns-in_ok-push_cores-in-Everything c =
    let cores = c.in_ok-push_cores-in-Everything.ensures in
    rw c.in-Everything.is
    (on_ok_weaker c.push_memory-in-Everything.result
    (λ is. told-everything c.args.loaded.now c.args.state.now (string_bytes c.args.text.now) (string_bytes c.push_cores.new.text)
    (string_bytes c.push_memory-in-Everything.new.text) c.requires.normal.sized (grind (arith, common_steps, cores))
    (grind (arith, common_steps, is)))
    c.push_memory-in-Everything.ensures)
