-- Each schedule is computed by the definitions alone.
use Rattle.rules_tcc.proofs.Lemmas.{computed}
use Rattle.rules_tcc.specs.Rows.{changed}
use Rattle.rules_tcc.specs.Needs.{need_at, needs_after, needs, entry}
use Rattle.rules_tcc.specs.Told.{words_with, told_core, first_words, told}
use Rattle.std.proofs.Common.{refl}
use Rattle.rules_worked.proofs.whole.Goals as goal

pub returns : goal.returns
unfolding computed changed need_at needs_after needs entry words_with told_core first_words told
returns c = record { schedules = refl }
