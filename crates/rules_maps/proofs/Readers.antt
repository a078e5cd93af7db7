-- What each field of a cache is after each change: for proofs that don't open the changes.
use Rattle.std.proofs.Common.{◌≡◌, ℕ, Bool, true, false, not, ◌&&◌, ◌||◌, List, get_or, Option, Some, None, is_some, refl}
use Rattle.std.specs.Prelude.{◌==◌, if◌then◌else◌, unwrap_or}
use Rattle.rules_maps.specs.Words.{line_of, place_of}
use Rattle.rules_maps.specs.Masks.{hit}
use Rattle.rules_maps.specs.Shape.{Shape, set_of}
use Rattle.rules_maps.specs.Cache.{Cache, free_way}
use Rattle.rules_maps.specs.CacheChange.{marked, stored, placed, placed_at, filled, invalidated, cleaned, evicted, evicted_line}
use Rattle.rules_maps.specs.CacheChange.{rolled_back}
use Rattle.rules_maps.specs.CacheChange.{read_cleared, committed, word_dropped, words_dropped}

pub at-marked : (w : ℕ) (c : Cache) (s y : ℕ) → (marked w c).at s y ≡ c.at s y
unfolding marked
at-marked w c s y = refl

pub held-marked : (w : ℕ) (c : Cache) (l : ℕ) → (marked w c).held l ≡ c.held l
unfolding marked
held-marked w c l = refl

pub value-marked : (w : ℕ) (c : Cache) (v : ℕ) → (marked w c).value v ≡ c.value v
unfolding marked
value-marked w c v = refl

pub read-marked : (w : ℕ) (c : Cache) (v : ℕ) → (marked w c).read v ≡ (if w == v then c.read v || not (c.modified v) else c.read v)
unfolding marked
read-marked w c v = refl

pub modified-marked : (w : ℕ) (c : Cache) (v : ℕ) → (marked w c).modified v ≡ (c.modified v)
unfolding marked
modified-marked w c v = refl

pub dirty-marked : (w : ℕ) (c : Cache) (v : ℕ) → (marked w c).dirty v ≡ c.dirty v
unfolding marked
dirty-marked w c v = refl

pub at-stored : (w x : ℕ) (also : Bool) (c : Cache) (s y : ℕ) → (stored w x also c).at s y ≡ c.at s y
unfolding stored
at-stored w x also c s y = refl

pub held-stored : (w x : ℕ) (also : Bool) (c : Cache) (l : ℕ) → (stored w x also c).held l ≡ c.held l
unfolding stored
held-stored w x also c l = refl

pub value-stored : (w x : ℕ) (also : Bool) (c : Cache) (v : ℕ) → (stored w x also c).value v ≡ (if v == w then Some x else c.value v)
unfolding stored
value-stored w x also c v = refl

pub read-stored : (w x : ℕ) (also : Bool) (c : Cache) (v : ℕ) → (stored w x also c).read v ≡ (if w == v then also || c.read v else c.read v)
unfolding stored
read-stored w x also c v = refl

pub modified-stored : (w x : ℕ) (also : Bool) (c : Cache) (v : ℕ) → (stored w x also c).modified v ≡ (if v == w then true else c.modified v)
unfolding stored
modified-stored w x also c v = refl

pub dirty-stored : (w x : ℕ) (also : Bool) (c : Cache) (v : ℕ)
    → (stored w x also c).dirty v ≡ (if line_of w == line_of v then None else c.dirty v)
unfolding stored
dirty-stored w x also c v = refl

pub at-filled : (l : ℕ) (ws : List ℕ) (c : Cache) (s y : ℕ) → (filled l ws c).at s y ≡ c.at s y
unfolding filled
at-filled l ws c s y = refl

pub held-filled : (l : ℕ) (ws : List ℕ) (c : Cache) (k : ℕ) → (filled l ws c).held k ≡ c.held k
unfolding filled
held-filled l ws c k = refl

pub value-filled : (l : ℕ) (ws : List ℕ) (c : Cache) (v : ℕ)
    → (filled l ws c).value v ≡ (if l == line_of v then Some (unwrap_or (c.value v) (get_or ws (place_of v) 0)) else c.value v)
unfolding filled
value-filled l ws c v = refl

pub read-filled : (l : ℕ) (ws : List ℕ) (c : Cache) (v : ℕ) → (filled l ws c).read v ≡ c.read v
unfolding filled
read-filled l ws c v = refl

pub modified-filled : (l : ℕ) (ws : List ℕ) (c : Cache) (v : ℕ) → (filled l ws c).modified v ≡ (c.modified v)
unfolding filled
modified-filled l ws c v = refl

pub dirty-filled : (l : ℕ) (ws : List ℕ) (c : Cache) (v : ℕ) → (filled l ws c).dirty v ≡ c.dirty v
unfolding filled
dirty-filled l ws c v = refl

pub at-invalidated : (l m : ℕ) (c : Cache) (s y : ℕ) → (invalidated l m c).at s y ≡ c.at s y
unfolding invalidated
at-invalidated l m c s y = refl

pub held-invalidated : (l m : ℕ) (c : Cache) (k : ℕ) → (invalidated l m c).held k ≡ c.held k
unfolding invalidated
held-invalidated l m c k = refl

pub value-invalidated : (l m : ℕ) (c : Cache) (v : ℕ)
    → (invalidated l m c).value v ≡ (if hit l m v && not (c.modified v) then None else c.value v)
unfolding invalidated
value-invalidated l m c v = refl

pub read-invalidated : (l m : ℕ) (c : Cache) (v : ℕ) → (invalidated l m c).read v ≡ c.read v
unfolding invalidated
read-invalidated l m c v = refl

pub modified-invalidated : (l m : ℕ) (c : Cache) (v : ℕ) → (invalidated l m c).modified v ≡ (c.modified v)
unfolding invalidated
modified-invalidated l m c v = refl

pub dirty-invalidated : (l m : ℕ) (c : Cache) (v : ℕ)
    → (invalidated l m c).dirty v ≡ (if hit l m v && not (c.modified v) then None else c.dirty v)
unfolding invalidated
dirty-invalidated l m c v = refl

pub at-cleaned : (l : ℕ) (c : Cache) (s y : ℕ) → (cleaned l c).at s y ≡ c.at s y
unfolding cleaned
at-cleaned l c s y = refl

pub held-cleaned : (l : ℕ) (c : Cache) (k : ℕ) → (cleaned l c).held k ≡ c.held k
unfolding cleaned
held-cleaned l c k = refl

pub value-cleaned : (l : ℕ) (c : Cache) (v : ℕ) → (cleaned l c).value v ≡ c.value v
unfolding cleaned
value-cleaned l c v = refl

pub read-cleaned : (l : ℕ) (c : Cache) (v : ℕ) → (cleaned l c).read v ≡ c.read v
unfolding cleaned
read-cleaned l c v = refl

pub modified-cleaned : (l : ℕ) (c : Cache) (v : ℕ) → (cleaned l c).modified v ≡ (c.modified v)
unfolding cleaned
modified-cleaned l c v = refl

pub dirty-cleaned : (l : ℕ) (c : Cache) (v : ℕ) → (cleaned l c).dirty v ≡ (if l == line_of v then None else c.dirty v)
unfolding cleaned
dirty-cleaned l c v = refl

pub at-rolled_back : (c : Cache) (s y : ℕ) → (rolled_back c).at s y ≡ c.at s y
unfolding rolled_back
at-rolled_back c s y = refl

pub held-rolled_back : (c : Cache) (l : ℕ) → (rolled_back c).held l ≡ c.held l
unfolding rolled_back
held-rolled_back c l = refl

pub value-rolled_back : (c : Cache) (v : ℕ) → (rolled_back c).value v ≡ (if c.modified v then None else c.value v)
unfolding rolled_back
value-rolled_back c v = refl

pub read-rolled_back : (c : Cache) (v : ℕ) → (rolled_back c).read v ≡ false
unfolding rolled_back
read-rolled_back c v = refl

pub modified-rolled_back : (c : Cache) (v : ℕ) → (rolled_back c).modified v ≡ false
unfolding rolled_back
modified-rolled_back c v = refl

pub dirty-rolled_back : (c : Cache) (v : ℕ) → (rolled_back c).dirty v ≡ c.dirty v
unfolding rolled_back
dirty-rolled_back c v = refl

pub at-read_cleared : (c : Cache) (s y : ℕ) → (read_cleared c).at s y ≡ c.at s y
unfolding read_cleared
at-read_cleared c s y = refl

pub held-read_cleared : (c : Cache) (l : ℕ) → (read_cleared c).held l ≡ c.held l
unfolding read_cleared
held-read_cleared c l = refl

pub value-read_cleared : (c : Cache) (v : ℕ) → (read_cleared c).value v ≡ c.value v
unfolding read_cleared
value-read_cleared c v = refl

pub read-read_cleared : (c : Cache) (v : ℕ) → (read_cleared c).read v ≡ false
unfolding read_cleared
read-read_cleared c v = refl

pub modified-read_cleared : (c : Cache) (v : ℕ) → (read_cleared c).modified v ≡ (c.modified v)
unfolding read_cleared
modified-read_cleared c v = refl

pub dirty-read_cleared : (c : Cache) (v : ℕ) → (read_cleared c).dirty v ≡ c.dirty v
unfolding read_cleared
dirty-read_cleared c v = refl

pub at-committed : (t : ℕ) (c : Cache) (s y : ℕ) → (committed t c).at s y ≡ c.at s y
unfolding committed
at-committed t c s y = refl

pub held-committed : (t : ℕ) (c : Cache) (l : ℕ) → (committed t c).held l ≡ c.held l
unfolding committed
held-committed t c l = refl

pub value-committed : (t : ℕ) (c : Cache) (v : ℕ) → (committed t c).value v ≡ c.value v
unfolding committed
value-committed t c v = refl

pub read-committed : (t : ℕ) (c : Cache) (v : ℕ) → (committed t c).read v ≡ false
unfolding committed
read-committed t c v = refl

pub modified-committed : (t : ℕ) (c : Cache) (v : ℕ) → (committed t c).modified v ≡ false
unfolding committed
modified-committed t c v = refl

pub dirty-committed : (t : ℕ) (c : Cache) (v : ℕ) → (committed t c).dirty v ≡ (if c.modified v then Some t else c.dirty v)
unfolding committed
dirty-committed t c v = refl

pub at-word_dropped : (w : ℕ) (c : Cache) (s y : ℕ) → (word_dropped w c).at s y ≡ c.at s y
unfolding word_dropped
at-word_dropped w c s y = refl

pub held-word_dropped : (w : ℕ) (c : Cache) (l : ℕ) → (word_dropped w c).held l ≡ c.held l
unfolding word_dropped
held-word_dropped w c l = refl

pub value-word_dropped : (w : ℕ) (c : Cache) (v : ℕ) → (word_dropped w c).value v ≡ (if v == w then None else c.value v)
unfolding word_dropped
value-word_dropped w c v = refl

pub read-word_dropped : (w : ℕ) (c : Cache) (v : ℕ) → (word_dropped w c).read v ≡ c.read v
unfolding word_dropped
read-word_dropped w c v = refl

pub modified-word_dropped : (w : ℕ) (c : Cache) (v : ℕ) → (word_dropped w c).modified v ≡ (if v == w then false else c.modified v)
unfolding word_dropped
modified-word_dropped w c v = refl

pub dirty-word_dropped : (w : ℕ) (c : Cache) (v : ℕ) → (word_dropped w c).dirty v ≡ (if v == w then None else c.dirty v)
unfolding word_dropped
dirty-word_dropped w c v = refl

pub at-words_dropped : (f : ℕ → Option ℕ) (c : Cache) (s y : ℕ) → (words_dropped f c).at s y ≡ c.at s y
unfolding words_dropped
at-words_dropped f c s y = refl

pub held-words_dropped : (f : ℕ → Option ℕ) (c : Cache) (l : ℕ) → (words_dropped f c).held l ≡ c.held l
unfolding words_dropped
held-words_dropped f c l = refl

pub value-words_dropped : (f : ℕ → Option ℕ) (c : Cache) (v : ℕ) → (words_dropped f c).value v ≡ (if is_some (f v) then None else c.value v)
unfolding words_dropped
value-words_dropped f c v = refl

pub read-words_dropped : (f : ℕ → Option ℕ) (c : Cache) (v : ℕ) → (words_dropped f c).read v ≡ c.read v
unfolding words_dropped
read-words_dropped f c v = refl

pub modified-words_dropped : (f : ℕ → Option ℕ) (c : Cache) (v : ℕ)
    → (words_dropped f c).modified v ≡ (if is_some (f v) then false else c.modified v)
unfolding words_dropped
modified-words_dropped f c v = refl

pub dirty-words_dropped : (f : ℕ → Option ℕ) (c : Cache) (v : ℕ) → (words_dropped f c).dirty v ≡ (if is_some (f v) then None else c.dirty v)
unfolding words_dropped
dirty-words_dropped f c v = refl

value-placed_at : (o : Option ℕ) (s l : ℕ) (c : Cache) (v : ℕ) → (placed_at o s l c).value v ≡ c.value v
unfolding placed_at
value-placed_at None s l c v = refl
value-placed_at (Some y) s l c v = refl

pub value-placed : (sh : Shape) (l : ℕ) (c : Cache) (v : ℕ) → (placed sh l c).value v ≡ c.value v
unfolding placed
value-placed sh l c v = value-placed_at (free_way sh c (set_of sh l)) (set_of sh l) l c v

read-placed_at : (o : Option ℕ) (s l : ℕ) (c : Cache) (v : ℕ) → (placed_at o s l c).read v ≡ c.read v
unfolding placed_at
read-placed_at None s l c v = refl
read-placed_at (Some y) s l c v = refl

pub read-placed : (sh : Shape) (l : ℕ) (c : Cache) (v : ℕ) → (placed sh l c).read v ≡ c.read v
unfolding placed
read-placed sh l c v = read-placed_at (free_way sh c (set_of sh l)) (set_of sh l) l c v

modified-placed_at : (o : Option ℕ) (s l : ℕ) (c : Cache) (v : ℕ) → (placed_at o s l c).modified v ≡ c.modified v
unfolding placed_at
modified-placed_at None s l c v = refl
modified-placed_at (Some y) s l c v = refl

pub modified-placed : (sh : Shape) (l : ℕ) (c : Cache) (v : ℕ) → (placed sh l c).modified v ≡ c.modified v
unfolding placed
modified-placed sh l c v = modified-placed_at (free_way sh c (set_of sh l)) (set_of sh l) l c v

dirty-placed_at : (o : Option ℕ) (s l : ℕ) (c : Cache) (v : ℕ) → (placed_at o s l c).dirty v ≡ c.dirty v
unfolding placed_at
dirty-placed_at None s l c v = refl
dirty-placed_at (Some y) s l c v = refl

pub dirty-placed : (sh : Shape) (l : ℕ) (c : Cache) (v : ℕ) → (placed sh l c).dirty v ≡ c.dirty v
unfolding placed
dirty-placed sh l c v = dirty-placed_at (free_way sh c (set_of sh l)) (set_of sh l) l c v

-- where a way is free
pub held-placed : (sh : Shape) (l : ℕ) (c : Cache) (k y : ℕ) → free_way sh c (set_of sh l) ≡ Some y
    → (placed sh l c).held k ≡ (if k == l then true else c.held k)
unfolding placed placed_at
held-placed sh l c k y e = rw e

pub at-placed : (sh : Shape) (l : ℕ) (c : Cache) (t z y : ℕ) → free_way sh c (set_of sh l) ≡ Some y
    → (placed sh l c).at t z ≡ (if t == set_of sh l && z == y then Some l else c.at t z)
unfolding placed placed_at
at-placed sh l c t z y e = rw e

-- where the way holds the line l
pub value-evicted : (s y : ℕ) (c : Cache) (v l : ℕ) → c.at s y ≡ Some l
    → (evicted s y c).value v ≡ (if l == line_of v then None else c.value v)
unfolding evicted evicted_line
value-evicted s y c v l e = rw e

pub read-evicted : (s y : ℕ) (c : Cache) (v l : ℕ) → c.at s y ≡ Some l
    → (evicted s y c).read v ≡ (if l == line_of v then false else c.read v)
unfolding evicted evicted_line
read-evicted s y c v l e = rw e

pub modified-evicted : (s y : ℕ) (c : Cache) (v l : ℕ) → c.at s y ≡ Some l
    → (evicted s y c).modified v ≡ (if l == line_of v then false else c.modified v)
unfolding evicted evicted_line
modified-evicted s y c v l e = rw e

pub dirty-evicted : (s y : ℕ) (c : Cache) (v l : ℕ) → c.at s y ≡ Some l
    → (evicted s y c).dirty v ≡ (if l == line_of v then None else c.dirty v)
unfolding evicted evicted_line
dirty-evicted s y c v l e = rw e

pub held-evicted : (s y : ℕ) (c : Cache) (k l : ℕ) → c.at s y ≡ Some l → (evicted s y c).held k ≡ (if k == l then false else c.held k)
unfolding evicted evicted_line
held-evicted s y c k l e = rw e

pub at-evicted : (s y : ℕ) (c : Cache) (t z l : ℕ) → c.at s y ≡ Some l
    → (evicted s y c).at t z ≡ (if t == s && z == y then None else c.at t z)
unfolding evicted evicted_line
at-evicted s y c t z l e = rw e

pub ruleset cache_readers = (
  value-marked,
  read-marked,
  modified-marked,
  dirty-marked,
  at-marked,
  held-marked,
  value-stored,
  read-stored,
  modified-stored,
  dirty-stored,
  at-stored,
  held-stored,
  value-filled,
  read-filled,
  modified-filled,
  dirty-filled,
  at-filled,
  held-filled,
  value-invalidated,
  read-invalidated,
  modified-invalidated,
  dirty-invalidated,
  at-invalidated,
  held-invalidated,
  value-cleaned,
  read-cleaned,
  modified-cleaned,
  dirty-cleaned,
  at-cleaned,
  held-cleaned,
  value-rolled_back,
  read-rolled_back,
  modified-rolled_back,
  dirty-rolled_back,
  at-rolled_back,
  held-rolled_back,
  value-read_cleared,
  read-read_cleared,
  modified-read_cleared,
  dirty-read_cleared,
  at-read_cleared,
  held-read_cleared,
  value-committed,
  read-committed,
  modified-committed,
  dirty-committed,
  at-committed,
  held-committed,
  value-word_dropped,
  read-word_dropped,
  modified-word_dropped,
  dirty-word_dropped,
  at-word_dropped,
  held-word_dropped,
  value-words_dropped,
  read-words_dropped,
  modified-words_dropped,
  dirty-words_dropped,
  at-words_dropped,
  held-words_dropped,
  value-placed,
  read-placed,
  modified-placed,
  dirty-placed,
  held-placed,
  at-placed,
  value-evicted,
  read-evicted,
  modified-evicted,
  dirty-evicted,
  held-evicted,
  at-evicted,
)
