use Rattle.std.proofs.Common.{rules}
use Rattle.image_load.specs.Contents.{started}
use Rattle.image_load.proofs.loaded.Loaded.word.Goals as goal

pub returns : goal.returns
unfolding started
returns c = search rules
