-- A core is clean once memory has the lines that it wrote.
use Rattle.std.proofs.Common.{◌≡◌, ℕ, suc, ◌+◌, ◌<◌, ◌≤◌, Bool, true, false, ◌||◌, ◌&&◌, List, [], ◌∷◌, get_or, drop, length, Some, None}
use Rattle.std.proofs.Common.{is_some}
use Rattle.std.proofs.Common.{refl, ap, sym, ◌∙◌, arith}
use Rattle.std.specs.Prelude.{◌==◌, if◌then◌else◌}
use Rattle.std.proofs.Math.ListN.{drop_of_length-le}
use Rattle.std.proofs.Math.Seq.{drop-cons}
use Rattle.tcc_base.specs.declared.access.Tagged.{Tagged}
use Rattle.rules_maps.specs.CacheChange.{cleaned}
use Rattle.rules_maps.specs.Masks.{has, hit}
use Rattle.rules_maps.specs.Words.{line_of, place_of}
use Rattle.rules_tcc.specs.State.{CoreState}
use Rattle.rules_bus.specs.Commit.{all_clean}
use Rattle.core_node.specs.AtHand.{words_in}
use Rattle.bus_tcc.specs.Cleaning.{cleaned_by}

-- one of these is the line
unfoldable pub is_among : List Tagged → (line : ℕ) → Bool
is_among [] l = false
is_among (t ∷ ts) l = (t.line.0 == l) || is_among ts l

-- the line of a word that they have is among them
pub word-among : (ts : List Tagged) (w : ℕ) → is_some (words_in ts w) ≡ true → is_among ts (line_of w) ≡ true
unfolding words_in is_among hit
word-among [] w e = cc
word-among (t ∷ ts) w e = by (t.line.0 == line_of w) (has t.mask.0 (place_of w)) e (word-among ts w)
  where
    by : (a b : Bool) → is_some (if a && b then Some (get_or t.words (place_of w) 0) else words_in ts w) ≡ true
        → (is_some (words_in ts w) ≡ true → is_among ts (line_of w) ≡ true) → (a || is_among ts (line_of w)) ≡ true
    by true b q rest = refl
    by false b q rest = rest q

-- where all dirty words are of these lines, none is dirty any more
pub cleaned-all : (ts : List Tagged) (s : CoreState) → ((v : ℕ) → is_among ts (line_of v) ≡ false → s.cache.dirty v ≡ None)
    → cleaned_by ts s ≡ all_clean s
unfolding cleaned_by is_among all_clean cleaned
cleaned-all [] s h = λ i. record s { cache = record s.cache { dirty = λ v. h v refl i } }
cleaned-all (t ∷ ts) s h = cleaned-all ts (record s { cache = cleaned t.line.0 s.cache }) (λ v e. by v (t.line.0 == line_of v) e (h v))
  where
    by : (v : ℕ) (b : Bool) → is_among ts (line_of v) ≡ false → ((b || is_among ts (line_of v)) ≡ false → s.cache.dirty v ≡ None)
        → (if b then None else s.cache.dirty v) ≡ None
    by v true e k = refl
    by v false e k = k e

-- ---- so far

pub cleaned-next : (ts : List Tagged) (i : ℕ) (d : Tagged) (old now new : CoreState) → cleaned_by (drop i ts) now ≡ cleaned_by ts old
    → i < length ts → new ≡ record now { cache = cleaned (get_or ts i d).line.0 now.cache }
    → cleaned_by (drop (i + 1) ts) new ≡ cleaned_by ts old
unfolding cleaned_by
cleaned-next ts i d old now new h l n =
    let one : suc i ≡ i + 1 = omega arith in
    let first : drop i ts ≡ get_or ts i d ∷ drop (i + 1) ts = drop-cons ts i d l ∙ ap (λ k. get_or ts i d ∷ drop k ts) one in
    ap (cleaned_by (drop (i + 1) ts)) n ∙ sym (ap (λ xs. cleaned_by xs now) first) ∙ h

pub cleaned-last : (ts : List Tagged) (i : ℕ) (old now : CoreState) → cleaned_by (drop i ts) now ≡ cleaned_by ts old → length ts ≤ i
    → now ≡ cleaned_by ts old
unfolding cleaned_by
cleaned-last ts i old now h l = sym (ap (λ xs. cleaned_by xs now) (drop_of_length-le ts l)) ∙ h
