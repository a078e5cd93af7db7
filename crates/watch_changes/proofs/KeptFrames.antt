-- Which frames a change of a cache leaves as they are.
use Rattle.std.proofs.Common.{◌≡◌, ℕ, ◌<◌, ◌==◌, ◌||◌, Bool, false, List, Option, Some, None, is_some, unwrap_or}
use Rattle.std.proofs.Common.{refl, ap, ◌∙◌, arith}
use Rattle.std.proofs.lemmas.Bool.Decides.{nat_tests}
use Rattle.base_lemmas.proofs.Lemmas.{eight-same, mask_of-same, neither, none_below}
use Rattle.rules_maps.specs.Cache.{Cache, dirty_mask, dirty_tag, first_of_line, free_way, is_marked, modified_mask}
use Rattle.rules_maps.specs.CacheChange.{cleaned, committed, evicted_line, filled, invalidated, marked, placed, placed_at}
use Rattle.rules_maps.specs.CacheChange.{read_cleared, rolled_back, stored}
use Rattle.rules_maps.specs.Masks.{hit}
use Rattle.rules_maps.specs.Shape.{Shape, set_of}
use Rattle.rules_maps.specs.Words.{any_word, line_of, word_at}
use Rattle.watch_state.specs.Cores.{frame_of}

-- the words of a line are the same in both
pub record IsKept (c d : Cache) (l : ℕ) : Type 0 where
  pub value : (k : ℕ) → k < 8 → c.value (word_at l k) ≡ d.value (word_at l k)
  pub read : (k : ℕ) → k < 8 → c.read (word_at l k) ≡ d.read (word_at l k)
  pub modified : (k : ℕ) → k < 8 → c.modified (word_at l k) ≡ d.modified (word_at l k)
  pub dirty : (k : ℕ) → k < 8 → c.dirty (word_at l k) ≡ d.dirty (word_at l k)

pub kept-self : (c : Cache) (l : ℕ) → IsKept c c l
kept-self c l = record { value = λ k b. refl; read = λ k b. refl; modified = λ k b. refl; dirty = λ k b. refl }

pub kept-then : (c d e : Cache) (l : ℕ) → IsKept c d l → IsKept d e l → IsKept c e l
kept-then c d e l x y = record {
  value = λ k b. x.value k b ∙ y.value k b;
  read = λ k b. x.read k b ∙ y.read k b;
  modified = λ k b. x.modified k b ∙ y.modified k b;
  dirty = λ k b. x.dirty k b ∙ y.dirty k b;
}

-- ---- its frame is the same

first-alike : (f g : ℕ → Option ℕ) (l : ℕ) → ((k : ℕ) → k < 8 → f (word_at l k) ≡ g (word_at l k)) → first_of_line f l ≡ first_of_line g l
unfolding first_of_line
first-alike f g l h =
    rw (
      h 0 (omega arith),
      h 1 (omega arith),
      h 2 (omega arith),
      h 3 (omega arith),
      h 4 (omega arith),
      h 5 (omega arith),
      h 6 (omega arith),
      h 7 (omega arith),
    ) refl

pub frame-kept : (c d : Cache) (l : ℕ) → IsKept c d l → frame_of c l ≡ frame_of d l
unfolding frame_of modified_mask dirty_mask dirty_tag
frame-kept c d l x =
    λ i. record {
      line = l;
      valid = mask_of-same (λ k. is_some (c.value (word_at l k))) (λ k. is_some (d.value (word_at l k)))
          (λ k b. ap (λ (o : Option ℕ). is_some o) (x.value k b)) i;
      read = mask_of-same (λ k. c.read (word_at l k)) (λ k. d.read (word_at l k)) x.read i;
      modified = mask_of-same (λ k. c.modified (word_at l k)) (λ k. d.modified (word_at l k)) x.modified i;
      dirty = mask_of-same (λ k. is_some (c.dirty (word_at l k))) (λ k. is_some (d.dirty (word_at l k)))
          (λ k b. ap (λ (o : Option ℕ). is_some o) (x.dirty k b)) i;
      tag = unwrap_or (first-alike c.dirty d.dirty l x.dirty i) 0;
      words = eight-same (λ k. unwrap_or (c.value (word_at l k)) 0) (λ k. unwrap_or (d.value (word_at l k)) 0)
          (λ k b. ap (λ o. unwrap_or o 0) (x.value k b)) i;
    }

-- ---- what changes one line leaves the others

apart : (j l k : ℕ) → (l == j) ≡ false → k < 8 → (l == line_of (word_at j k)) ≡ false
apart j l k e b = grind (arith, nat_tests)

other-word : (j k w : ℕ) → (line_of w == j) ≡ false → k < 8 → (w == word_at j k) ≡ false
other-word j k w e b = grind (arith, nat_tests)

other-line : (j k w : ℕ) → (line_of w == j) ≡ false → k < 8 → (line_of w == line_of (word_at j k)) ≡ false
other-line j k w e b = apart j (line_of w) k e b

pub marked-keeps : (w j : ℕ) (c : Cache) → (line_of w == j) ≡ false → IsKept c (marked w c) j
unfolding marked
marked-keeps w j c e = record {
  value = λ k b. refl;
  read = λ k b. rw (other-word j k w e b) refl;
  modified = λ k b. refl;
  dirty = λ k b. refl;
}

turned : (a b : ℕ) → (a == b) ≡ false → (b == a) ≡ false
turned a b e = grind (arith, nat_tests)

pub stored-keeps : (w x : ℕ) (also : Bool) (j : ℕ) (c : Cache) → (line_of w == j) ≡ false → IsKept c (stored w x also c) j
unfolding stored
stored-keeps w x also j c e = record {
  value = λ k b. rw (turned w (word_at j k) (other-word j k w e b)) refl;
  read = λ k b. rw (other-word j k w e b) refl;
  modified = λ k b. rw (turned w (word_at j k) (other-word j k w e b)) refl;
  dirty = λ k b. rw (other-line j k w e b) refl;
}

pub filled-keeps : (l : ℕ) (ws : List ℕ) (j : ℕ) (c : Cache) → (l == j) ≡ false → IsKept c (filled l ws c) j
unfolding filled
filled-keeps l ws j c e = record {
  value = λ k b. rw (apart j l k e b) refl;
  read = λ k b. refl;
  modified = λ k b. refl;
  dirty = λ k b. refl;
}

pub invalidated-keeps : (l m j : ℕ) (c : Cache) → (l == j) ≡ false → IsKept c (invalidated l m c) j
unfolding invalidated hit
invalidated-keeps l m j c e = record {
  value = λ k b. rw (apart j l k e b) refl;
  read = λ k b. refl;
  modified = λ k b. refl;
  dirty = λ k b. rw (apart j l k e b) refl;
}

pub cleaned-keeps : (l j : ℕ) (c : Cache) → (l == j) ≡ false → IsKept c (cleaned l c) j
unfolding cleaned
cleaned-keeps l j c e = record {
  value = λ k b. refl;
  read = λ k b. refl;
  modified = λ k b. refl;
  dirty = λ k b. rw (apart j l k e b) refl;
}

pub evicted-keeps : (l x y j : ℕ) (c : Cache) → (l == j) ≡ false → IsKept c (evicted_line (Some l) x y c) j
unfolding evicted_line
evicted-keeps l x y j c e = record {
  value = λ k b. rw (apart j l k e b) refl;
  read = λ k b. rw (apart j l k e b) refl;
  modified = λ k b. rw (apart j l k e b) refl;
  dirty = λ k b. rw (apart j l k e b) refl;
}

-- a line that gets a way has no words yet
pub placed-keeps : (sh : Shape) (l j : ℕ) (c : Cache) → IsKept c (placed sh l c) j
unfolding placed placed_at
placed-keeps sh l j c = go (free_way sh c (set_of sh l))
  where
    go : (o : Option ℕ) → IsKept c (placed_at o (set_of sh l) l c) j
    go None = kept-self c j
    go (Some y) = record { value = λ k b. refl; read = λ k b. refl; modified = λ k b. refl; dirty = λ k b. refl }

-- ---- what changes marked frames leaves the others

record IsUnmarked (c : Cache) (l : ℕ) : Type 0 where
  read : (k : ℕ) → k < 8 → c.read (word_at l k) ≡ false
  modified : (k : ℕ) → k < 8 → c.modified (word_at l k) ≡ false

unmarked : (c : Cache) (l : ℕ) → is_marked c l ≡ false → IsUnmarked c l
unfolding is_marked any_word
unmarked c l e = record {
  read = λ k b. (neither (c.read (word_at l k)) (c.modified (word_at l k))
      (none_below (λ j. c.read (word_at l j) || c.modified (word_at l j)) 8 k e b)).0;
  modified = λ k b. (neither (c.read (word_at l k)) (c.modified (word_at l k))
      (none_below (λ j. c.read (word_at l j) || c.modified (word_at l j)) 8 k e b)).1;
}

pub rolled_back-keeps : (c : Cache) (l : ℕ) → is_marked c l ≡ false → IsKept c (rolled_back c) l
unfolding rolled_back
rolled_back-keeps c l e =
    let u = unmarked c l e in
    record {
      value = λ k b. rw (u.modified k b) refl;
      read = u.read;
      modified = u.modified;
      dirty = λ k b. refl;
    }

pub read_cleared-keeps : (c : Cache) (l : ℕ) → is_marked c l ≡ false → IsKept c (read_cleared c) l
unfolding read_cleared
read_cleared-keeps c l e =
    record { value = λ k b. refl; read = (unmarked c l e).read; modified = λ k b. refl; dirty = λ k b. refl }

pub committed-keeps : (t : ℕ) (c : Cache) (l : ℕ) → is_marked c l ≡ false → IsKept c (committed t c) l
unfolding committed
committed-keeps t c l e =
    let u = unmarked c l e in
    record {
      value = λ k b. refl;
      read = u.read;
      modified = u.modified;
      dirty = λ k b. rw (u.modified k b) refl;
    }
