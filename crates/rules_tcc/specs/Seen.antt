-- What memory holds as the commits left it, wherever the newest copy of a word is; and when a machine is done.
use Rattle.std.specs.Prelude.{ℕ, ◌≡◌, ◌<◌, true, List, [], ◌∷◌, ◌++◌, get_or, Option, Some, None, unwrap_or, nat_le, if◌then◌else◌}
use Rattle.std.specs.List.{flat_map}
use Rattle.rules_maps.specs.Words.{those, line_of, place_of}
use Rattle.rules_maps.specs.Masks.{hit}
use Rattle.rules_maps.specs.Nodes.{Node, Core, Dir, Msg, WriteBack, Flush}
use Rattle.rules_maps.specs.Shape.{Shape, home}
use Rattle.rules_tcc.specs.State.{World, Link, Halted}
use Rattle.rules_tcc.specs.Links.{in_flight}

-- a copy of a word, with the TID of the commit that made it
pub record Copy : Type 0 where
  pub tag : ℕ
  pub value : ℕ

-- the numbers below n
abbrev pub numbers : ℕ → List ℕ
numbers n = those (λ k. true) n

-- words on their way home
abbrev pub copy_of : (word : ℕ) → Msg → List Copy
copy_of w (WriteBack l m ws g) = if hit l m w then record { tag = g; value = get_or ws (place_of w) 0 } ∷ [] else []
copy_of w (Flush l m ws g) = if hit l m w then record { tag = g; value = get_or ws (place_of w) 0 } ∷ [] else []
copy_of w _ = []

unfoldable pub copies_on : (word : ℕ) → Link → List Copy
copies_on w [] = []
copies_on w (None ∷ ms) = copies_on w ms
copies_on w (Some m ∷ ms) = copy_of w m ++ copies_on w ms

-- a dirty word in a frame
abbrev pub copy_in : Option ℕ → (dirty : Option ℕ) → List Copy
copy_in value None = []
copy_in value (Some g) = record { tag = g; value = unwrap_or value 0 } ∷ []

-- the copies that a core has, and those that it sent to the home
unfoldable pub copies_of : Shape → World → (word core : ℕ) → List Copy
copies_of sh w v c = copy_in ((w.cores c).cache.value v) ((w.cores c).cache.dirty v)
    ++ copies_on v (w.net (Core c) (Dir (home sh (line_of v))))

unfoldable pub copies : Shape → World → (word : ℕ) → List Copy
copies sh w v = flat_map (copies_of sh w v) (numbers sh.cores)

-- the newer of the two
abbrev pub newer : Copy → Copy → Copy
newer a b = if nat_le a.tag b.tag then b else a

unfoldable pub newest : Copy → List Copy → Copy
newest a [] = a
newest a (b ∷ bs) = newest (newer a b) bs

-- the home word with the tag of its line
unfoldable pub home_copy : Shape → World → (word : ℕ) → Copy
home_copy sh w v = record {
  tag = (w.dirs (home sh (line_of v))).lines.tag (line_of v);
  value = (w.dirs (home sh (line_of v))).words v;
}

-- among the copies with a tag not below the line's, the value of that with the highest; else the home word
unfoldable pub seen : Shape → World → (word : ℕ) → ℕ
seen sh w v = (newest (home_copy sh w v) (copies sh w v)).value

-- every core has halted, nothing is in flight, and no frame has a dirty word
pub record IsDone (sh : Shape) (w : World) : Type 0 where
  pub halted : (c : ℕ) → c < sh.cores → (w.cores c).phase ≡ Halted
  pub quiet : (src dst : Node) (k : ℕ) → in_flight w.net src dst k ≡ None
  pub clean : (c v : ℕ) → c < sh.cores → (w.cores c).cache.dirty v ≡ None
