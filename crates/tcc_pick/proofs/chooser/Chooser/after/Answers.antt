-- So many words are passed at once.
use Rattle.std.proofs.Common.{◌∙◌, ap}
use Rattle.rand_pcg.specs.Lcg.{advance}
use Rattle.rand_pcg.specs.Pcg.{multiplier_64}
use Rattle.tcc_pick.specs.Words.{seeded}
use Rattle.tcc_pick.proofs.Further.{after-advance}
use Rattle.tcc_pick.proofs.chooser.Chooser.after.Goals as goal

pub returns : goal.returns
returns c =
    c.advance.ensures ∙ ap (advance 64 multiplier_64 c.args.drawn) c.seed_from_u64-words.ensures
    ∙ after-advance c.args.drawn (seeded c.args.seed)
