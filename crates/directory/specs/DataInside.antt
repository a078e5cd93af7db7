-- The parts of a directory, and what always holds of them.
use Rattle.std.specs.Prelude.{◌≡◌, ◌^◌, ◌<◌, ◌≤◌}
use Rattle.directory.specs.declared.directory.Directory.TheInside.{Inside}
use Rattle.directory.specs.Data.{DirData}

abbrev pub data_of : Inside → DirData
data_of d = record { lines = d.lines; words = d.words; serving = d.skips; owed = d.owed }

-- words and records are of one home; while acknowledgements are owed the served TID is one that can be given
pub record IsDirectory (d : Inside) : Type 0 where
  pub place : d.words.place ≡ d.lines.place
  pub serves : 0 < d.owed → d.skips.serving ≤ 2 ^ 62
