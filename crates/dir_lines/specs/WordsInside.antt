-- The fields of an array of words, and what always holds of them.
use Rattle.std.specs.Prelude.{◌≡◌, ◌*◌, length}
use Rattle.dir_lines.specs.declared.words.HomeWords.TheInside.{Inside}
use Rattle.dir_lines.specs.Home.{IsHome, home_lines}
use Rattle.dir_lines.specs.Words.{Words}

abbrev pub words_of : Inside → Words
words_of a = record { place = record { shape = a.cfg; dir = a.home.0 }; words = a.words.items }

-- there are eight words for each line of the home
pub record IsWords (a : Inside) : Type 0 where
  pub home : IsHome (words_of a).place
  pub count : length a.words.items ≡ 8 * home_lines (words_of a).place
