-- The first so many cores as they are shown.
use Rattle.std.proofs.Common.{◌≡◌, map}
use Rattle.std.specs.List.{range_with_len}
use Rattle.report_text.specs.Plain.{shown_core}
use Rattle.rv_plain.specs.PlainState.{plain_of}
use Rattle.tcc_cli.proofs.lists.cores.Given as goal

abbrev pub invariant-loop-c : goal.invariant-loop-c
invariant-loop-c l = l.cores ≡ map (λ core. shown_core ((plain_of l.fn.plain).cores core)) (range_with_len 0 l.c)
