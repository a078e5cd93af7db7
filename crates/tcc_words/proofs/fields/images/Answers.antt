use Rattle.std.proofs.Common.{◌∙◌, codes}
use Rattle.clap.specs.Words.{found_of}
use Rattle.tcc_words.proofs.Rows.{raw_values-rows}
use Rattle.tcc_words.proofs.fields.images.Goals as goal

pub returns : goal.returns
returns c = c.get_strs.ensures ∙ raw_values-rows (found_of c.args.matches.now) (codes "image")
