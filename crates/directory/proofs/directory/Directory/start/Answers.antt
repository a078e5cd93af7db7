use Rattle.rules_tcc.specs.State.{dir_start}
use Rattle.directory.specs.Data.{dir_of}
use Rattle.directory.proofs.directory.Directory.start.Goals as goal

pub returns-clause-start : goal.returns-clause-start
unfolding dir_of dir_start
returns-clause-start c =
    λ i. record { words = c.load_words.ensures.words i; serving = c.new-3.ensures i; lines = c.in_ok-lines.ensures.map i; owed = 0 }
