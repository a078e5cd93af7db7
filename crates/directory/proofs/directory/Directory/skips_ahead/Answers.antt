use Rattle.std.proofs.Common.{◌+◌, ◌<◌, ◌^◌, ap, ◌∙◌, length, subst}
use Rattle.directory.specs.Data.{DirData, dir_of}
use Rattle.directory.proofs.directory.Directory.skips_ahead.Goals as goal

pub returns-clause-count : goal.returns-clause-count
unfolding dir_of
returns-clause-count c = λ e. c.skips_ahead.ensures.count ∙ ap (λ d. length d.serving.skips) c.self.view_is

pub returns-clause-fits : goal.returns-clause-fits
unfolding dir_of
returns-clause-fits c = λ e.
    subst (λ (d : DirData). d.serving.serving + c.skips_ahead.result < 2 ^ 63) c.self.view_is c.skips_ahead.ensures.fits
