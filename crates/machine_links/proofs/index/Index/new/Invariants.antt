-- As many empty lists as were passed.
use Rattle.std.proofs.Common.{◌≡◌, [], replicate}
use Rattle.machine_links.proofs.index.Index.new.Given as goal

abbrev pub invariant-loop : goal.invariant-loop
invariant-loop l = l.lists.items ≡ replicate l.counter []
