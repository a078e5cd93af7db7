-- What the first so many cores printed.
use Rattle.std.proofs.Common.{◌≡◌, map}
use Rattle.std.specs.List.{range_with_len}
use Rattle.report_text.proofs.machines.consoles.Given as goal

abbrev pub invariant-loop-c : goal.invariant-loop-c
invariant-loop-c g l =
    l.consoles ≡ map (λ core. ((g.M.ShownCores.plain l.fn.machine).cores core).console) (range_with_len 0 l.c)
