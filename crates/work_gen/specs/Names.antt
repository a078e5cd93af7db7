-- The names of the workloads.
use Rattle.std.specs.Prelude.{ℕ, List, codes}
use Rattle.work_gen.specs.declared.work.Work.{Work}
use Rattle.work_gen.specs.declared.work.Work.TheVariants.{Counters, Transfers, Stencil, Sharing}

abbrev pub work_word : Work → List ℕ
work_word Counters = codes "counters"
work_word Transfers = codes "transfers"
work_word Stencil = codes "stencil"
work_word Sharing = codes "sharing"
