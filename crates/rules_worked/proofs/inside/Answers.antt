-- Each schedule is computed by the definitions alone.
use Rattle.rules_tcc.proofs.Lemmas.{computed}
use Rattle.rules_tcc.specs.Needs.{need_at, needs_after, needs, entry}
use Rattle.rules_tcc.specs.Told.{first_words}
use Rattle.std.proofs.Common.{refl}
use Rattle.rules_worked.specs.Inside.{reserving}
use Rattle.rules_worked.proofs.inside.Goals as goal

pub returns : goal.returns
unfolding computed need_at needs_after needs entry first_words reserving
returns c = record { schedules = (refl, refl, (refl, refl), refl) }
