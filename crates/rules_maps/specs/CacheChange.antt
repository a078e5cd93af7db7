-- What changes in a cache, one function for each thing that can happen to it.
use Rattle.std.specs.Prelude.{ℕ, Bool, true, false, not, ◌==◌, ◌&&◌, ◌||◌, List, get_or, Option, Some, None, is_some, unwrap_or}
use Rattle.std.specs.Prelude.{if◌then◌else◌}
use Rattle.rules_maps.specs.Words.{put, put_at, line_of, place_of}
use Rattle.rules_maps.specs.Masks.{hit}
use Rattle.rules_maps.specs.Shape.{Shape, set_of}
use Rattle.rules_maps.specs.Cache.{Cache, free_way}

-- a load that found its word: it is marked read, unless it is modified
unfoldable pub marked : ℕ → Cache → Cache
marked w c = record c { read = λ v. if w == v then c.read v || not (c.modified v) else c.read v }

-- a store: the line's dirty words were handed out, the word is valid and modified, and read too
-- where also is set
unfoldable pub stored : ℕ → ℕ → Bool → Cache → Cache
stored w x also c = record c {
  value = put c.value w (Some x);
  read = λ v. if w == v then also || c.read v else c.read v;
  modified = put c.modified w true;
  dirty = λ v. if line_of w == line_of v then None else c.dirty v;
}

unfoldable pub placed_at : Option ℕ → ℕ → ℕ → Cache → Cache
placed_at None s l c = c
placed_at (Some y) s l c = record c { at = put_at c.at s y (Some l); held = put c.held l true }

-- the line has the lowest free way of its set, where one is free, with no valid word
unfoldable pub placed : Shape → ℕ → Cache → Cache
placed sh l c = placed_at (free_way sh c (set_of sh l)) (set_of sh l) l c

-- the words of the line that are not valid get these values and become valid
unfoldable pub filled : ℕ → List ℕ → Cache → Cache
filled l ws c = record c { value = λ v. if l == line_of v then Some (unwrap_or (c.value v) (get_or ws (place_of v) 0)) else c.value v }

-- the masked words of the line that are not modified become invalid and clean
unfoldable pub invalidated : ℕ → ℕ → Cache → Cache
invalidated l m c = record c {
  value = λ v. if hit l m v && not (c.modified v) then None else c.value v;
  dirty = λ v. if hit l m v && not (c.modified v) then None else c.dirty v;
}

-- the line's dirty words become clean, and stay valid
unfoldable pub cleaned : ℕ → Cache → Cache
cleaned l c = record c { dirty = λ v. if l == line_of v then None else c.dirty v }

unfoldable pub evicted_line : Option ℕ → ℕ → ℕ → Cache → Cache
evicted_line None s y c = c
evicted_line (Some l) s y c = record {
  at = put_at c.at s y None;
  held = put c.held l false;
  value = λ v. if l == line_of v then None else c.value v;
  read = λ v. if l == line_of v then false else c.read v;
  modified = λ v. if l == line_of v then false else c.modified v;
  dirty = λ v. if l == line_of v then None else c.dirty v;
}

-- way y of set s is free, and nothing is kept of the line that it held
unfoldable pub evicted : ℕ → ℕ → Cache → Cache
evicted s y c = evicted_line (c.at s y) s y c

-- modified words become invalid, and both marks are cleared
unfoldable pub rolled_back : Cache → Cache
rolled_back c = record c {
  value = λ v. if c.modified v then None else c.value v;
  read = λ v. false;
  modified = λ v. false;
}

-- all read marks are cleared
unfoldable pub read_cleared : Cache → Cache
read_cleared c = record c { read = λ v. false }

-- modified words become dirty with this tag, and both marks are cleared
unfoldable pub committed : ℕ → Cache → Cache
committed t c = record c {
  read = λ v. false;
  modified = λ v. false;
  dirty = λ v. if c.modified v then Some t else c.dirty v;
}

-- the word becomes invalid, clean and not modified
unfoldable pub word_dropped : ℕ → Cache → Cache
word_dropped w c = record c {
  value = put c.value w None;
  modified = put c.modified w false;
  dirty = put c.dirty w None;
}

-- the same of every word that has a value in this map
unfoldable pub words_dropped : (ℕ → Option ℕ) → Cache → Cache
words_dropped f c = record c {
  value = λ v. if is_some (f v) then None else c.value v;
  modified = λ v. if is_some (f v) then false else c.modified v;
  dirty = λ v. if is_some (f v) then None else c.dirty v;
}
