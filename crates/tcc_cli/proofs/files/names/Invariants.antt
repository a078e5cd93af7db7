-- The names so far, and the images' to come.
use Rattle.std.proofs.Common.{◌≡◌, ◌++◌, map, drop}
use Rattle.tcc_cli.specs.Commands.{files_of}
use Rattle.tcc_cli.proofs.files.names.Given as goal

abbrev pub invariant-loop-name : goal.invariant-loop-name
invariant-loop-name l = map (λ w. w.now) l.names.items ++ drop l.name-index l.name-items ≡ files_of l.fn.command
