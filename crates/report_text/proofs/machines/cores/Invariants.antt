-- The first so many cores as they are shown.
use Rattle.std.proofs.Common.{◌≡◌, map}
use Rattle.std.specs.List.{range_with_len}
use Rattle.report_text.specs.Plain.{shown_core}
use Rattle.report_text.proofs.machines.cores.Given as goal

abbrev pub invariant-loop-c : goal.invariant-loop-c
invariant-loop-c g l = l.cores ≡ map (λ core. shown_core ((g.M.ShownCores.plain l.fn.machine).cores core)) (range_with_len 0 l.c)
