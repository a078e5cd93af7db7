-- What is counted of the ways, after one of them changed.
use Rattle.std.proofs.Common.{ℕ, suc, zero, ◌+◌, ◌*◌, ◌%◌, ◌<◌, ◌≤◌, ◌≡◌, Bool, true, false, not, cond, ◌&&◌, inl, inr, List, [], ◌∷◌}
use Rattle.std.proofs.Common.{length, get_or, set, map, replicate, Option, Some, None, nat_eq, refl, sym, ◌∙◌, ap, arith}
use Rattle.std.specs.Option.{IfSome}
use Rattle.std.specs.Bool.{MatchBool}
use Rattle.std.proofs.lemmas.Bool.{false≢true, cases_lt, cases_Bool, eq-eqb, ne_eqb}
use Rattle.tcc_base.specs.Settings.{Settings, IsAllowed}
use Rattle.base_lemmas.proofs.Lemmas.{any_below-count, count_below-head, count_below-most, is_some-cond, num-most}
use Rattle.rules_maps.specs.Words.{num, any_below}
use Rattle.rules_maps.proofs.Lemmas.{any_below-found, any_below-at}
use Rattle.spec_cache.specs.declared.frame.FrameView.{FrameView}
use Rattle.spec_cache.specs.Frame.{holds_line}
use Rattle.spec_cache.specs.Home.{reads_in, written_in}
use Rattle.spec_cache.specs.Useful.{writes_in, dirty_way}
use Rattle.spec_cache.specs.Tracked.{count_ways, written_home, read_home, is_home, tag_of}
use Rattle.spec_cache.proofs.Counted.{count_below-none, count_below-within}
use Rattle.spec_cache.proofs.Forms.{get_or-none}

module _ (q : Option FrameView → Bool) where
  count-head : (o : Option FrameView) (os : List (Option FrameView)) → count_ways q (o ∷ os) ≡ num (q o) + count_ways q os
  unfolding count_ways
  count-head o os = count_below-head (λ i. q (get_or (o ∷ os) i None)) (length os)

  -- one way changed
  pub count-set : (fs : List (Option FrameView)) (i : ℕ) (o : Option FrameView) → i < length fs →
      count_ways q (set fs i o) + num (q (get_or fs i None)) ≡ count_ways q fs + num (q o)
  count-set [] i o b = absurd (omega arith)
  count-set (p ∷ ps) zero o b = rw (count-head o ps, count-head p ps) (omega arith)
  count-set (p ∷ ps) (suc i) o b = let r = count-set ps i o (omega arith) in
      rw (count-head p (set ps i o), count-head p ps) (omega (arith, r))

  pub count-most : (fs : List (Option FrameView)) → count_ways q fs ≤ length fs
  unfolding count_ways
  count-most fs = count_below-most (λ i. q (get_or fs i None)) (length fs)

  pub count-some : (fs : List (Option FrameView)) (i : ℕ) → i < length fs → q (get_or fs i None) ≡ true → 0 < count_ways q fs
  unfolding count_ways
  count-some fs i b t = let r = count_below-within (λ j. q (get_or fs j None)) (length fs) i b t in omega (arith, r)

  pub count-none : (n : ℕ) → q None ≡ false → count_ways q (replicate n None) ≡ 0
  unfolding count_ways
  count-none n e = count_below-none _ (length (replicate n None)) (λ k. ap q (get_or-none n k) ∙ e)

  -- a test that no way passes
  pub count-never : (fs : List (Option FrameView)) → ((o : Option FrameView) → q o ≡ false) → count_ways q fs ≡ 0
  unfolding count_ways
  count-never fs e = count_below-none _ (length fs) (λ k. e (get_or fs k None))

-- ---- the home of a way

home_test : (w : Bool) (m d : ℕ) → is_home (cond w (Some m) None) d ≡ (nat_eq d m && w)
home_test true m d = elim (cases_Bool (nat_eq d m)) [ inl t ↦ rw t refl | inr f ↦ rw f refl ]
home_test false m d = elim (cases_Bool (nat_eq d m)) [ inl t ↦ rw t refl | inr f ↦ rw f refl ]

pub writes-home : (dirs d : ℕ) (o : Option FrameView) → writes_in dirs d o ≡ is_home (written_home dirs o) d
unfolding written_in written_home
writes-home dirs d None = refl
writes-home dirs d (Some f) = is_some-cond (nat_eq d (f.line.0 % dirs) && not (nat_eq f.modified.0 0)) f.line.0
    ∙ sym (home_test (not (nat_eq f.modified.0 0)) (f.line.0 % dirs) d)

pub reads-home : (dirs d : ℕ) (o : Option FrameView) → reads_in dirs d o ≡ is_home (read_home dirs o) d
unfolding reads_in read_home
reads-home dirs d None = refl
reads-home dirs d (Some f) = sym (home_test (not (nat_eq f.read.0 0)) (f.line.0 % dirs) d)

-- the numbers after one way changed
pub recounted : (q : Option FrameView → Bool) (fs : List (Option FrameView)) (i : ℕ) (o : Option FrameView) → i < length fs → (n m : ℕ) →
    n ≡ count_ways q fs → m + num (q (get_or fs i None)) ≡ n + num (q o) → m ≡ count_ways q (set fs i o)
recounted q fs i o b n m e r = let c = count-set q fs i o b in omega (arith, e, r, c)

-- ---- what is asked of the numbers

module _ (dirs : ℕ) (some_dirs : 1 ≤ dirs) (few : dirs ≤ 64) where
  below : (w : Bool) (l : ℕ) → IfSome (cond w (Some (l % dirs)) None) (λ d. d < 64)
  below true l = omega (arith, some_dirs, few)
  below false l = tt

  pub written-below : (o : Option FrameView) (r : Option ℕ) → r ≡ written_home dirs o → IfSome r (λ d. d < 64)
  unfolding written_home
  written-below None r e = rw e tt
  written-below (Some f) r e = rw e (below (not (nat_eq f.modified.0 0)) f.line.0)

  pub read-below : (o : Option FrameView) (r : Option ℕ) → r ≡ read_home dirs o → IfSome r (λ d. d < 64)
  unfolding read_home
  read-below None r e = rw e tt
  read-below (Some f) r e = rw e (below (not (nat_eq f.read.0 0)) f.line.0)

  apart : (l d : ℕ) (w : Bool) → dirs ≤ d → (nat_eq d (l % dirs) && w) ≡ false
  apart l d w b = rw (ne_eqb d (l % dirs) (λ e. let h : l % dirs < dirs = omega (arith, some_dirs) in omega (arith, e, h, b))) refl

  pub never-written : (d : ℕ) → dirs ≤ d → (o : Option FrameView) → writes_in dirs d o ≡ false
  unfolding written_in
  never-written d b None = refl
  never-written d b (Some f) = is_some-cond (nat_eq d (f.line.0 % dirs) && not (nat_eq f.modified.0 0)) f.line.0
      ∙ apart f.line.0 d (not (nat_eq f.modified.0 0)) b

  pub never-read : (d : ℕ) → dirs ≤ d → (o : Option FrameView) → reads_in dirs d o ≡ false
  unfolding reads_in
  never-read d b None = refl
  never-read d b (Some f) = apart f.line.0 d (not (nat_eq f.read.0 0)) b

itself : (d : ℕ) → nat_eq d d ≡ true
itself d = eq-eqb d d refl

-- where a way counts at a home, the number there isn't zero
module _ (fs : List (Option FrameView)) (i : ℕ) (inside : i < length fs) (ns : List ℕ) where
  counted-some : (q : ℕ → Option FrameView → Bool) (home : Option FrameView → Option ℕ)
      → ((d : ℕ) (o : Option FrameView) → q d o ≡ is_home (home o) d) →
      ((d : ℕ) → d < 64 → get_or ns d 0 ≡ count_ways (q d) fs) → (r : Option ℕ) → IfSome r (λ d. d < 64) → r ≡ home (get_or fs i None)
      → IfSome r (λ d. 0 < get_or ns d 0)
  counted-some q home same is None b e = tt
  counted-some q home same is (Some d) b e =
      let t : q d (get_or fs i None) ≡ true = same d (get_or fs i None) ∙ (rw (← e) (itself d)) in
      rw (is d b) (count-some (q d) fs i inside t)

  pub written-some : (dirs : ℕ) → ((d : ℕ) → d < 64 → get_or ns d 0 ≡ count_ways (writes_in dirs d) fs) → (r : Option ℕ)
      → IfSome r (λ d. d < 64) →
      r ≡ written_home dirs (get_or fs i None) → IfSome r (λ d. 0 < get_or ns d 0)
  written-some dirs is r b e = counted-some (writes_in dirs) (written_home dirs) (writes-home dirs) is r b e

  pub read-some : (dirs : ℕ) → ((d : ℕ) → d < 64 → get_or ns d 0 ≡ count_ways (reads_in dirs d) fs) → (r : Option ℕ)
      → IfSome r (λ d. d < 64) →
      r ≡ read_home dirs (get_or fs i None) → IfSome r (λ d. 0 < get_or ns d 0)
  read-some dirs is r b e = counted-some (reads_in dirs) (read_home dirs) (reads-home dirs) is r b e

pub counted-small : (q : ℕ → Option FrameView → Bool) (fs : List (Option FrameView)) (ns : List ℕ)
    → ((d : ℕ) → d < 64 → get_or ns d 0 ≡ count_ways (q d) fs) →
    length fs ≤ 16384 → (d : ℕ) → d < 64 → get_or ns d 0 ≤ 16384
counted-small q fs ns is small d b = let m = count-most (q d) fs in let e = is d b in omega (arith, m, e, small)

pub dirty-fits : (fs : List (Option FrameView)) (n : ℕ) (b : Bool) → n ≡ count_ways dirty_way fs → length fs ≤ 16384 → n + num b ≤ 16385
dirty-fits fs n b e small = let m = count-most dirty_way fs in let k = num-most b in omega (arith, m, e, small, k)

pub dirty-enough : (fs : List (Option FrameView)) (i n m : ℕ) (b : Bool) → i < length fs → n ≡ count_ways dirty_way fs
    → b ≡ dirty_way (get_or fs i None) → num b ≤ n + m
dirty-enough fs i n m true inside e t = let c = count-some dirty_way fs i inside (sym t) in omega (arith, c, e)
dirty-enough fs i n m false inside e t = omega arith

-- ---- at the start

pub few-ways : (s : Settings) → IsAllowed s → s.sets * s.ways ≤ 16384
few-ways s a = let b = a.2.1 in let c = a.3.1 in grind arith

pub map-none : (n : ℕ) → replicate n 4294967295 ≡ map tag_of (replicate n None)
unfolding tag_of
map-none zero = refl
map-none (suc n) = ap (λ (xs : List ℕ). 4294967295 ∷ xs) (map-none n)

pub zeros : (n d : ℕ) → let z : ℕ = get_or (replicate n 0) d 0 in z ≡ 0
zeros zero d = refl
zeros (suc n) zero = refl
zeros (suc n) (suc d) = zeros n d

-- ---- a way whose tag is another line's

tag-get : (fs : List (Option FrameView)) (i d : ℕ) → i < length fs → get_or (map tag_of fs) i d ≡ tag_of (get_or fs i None)
tag-get [] i d b = absurd (omega arith)
tag-get (o ∷ os) zero d b = refl
tag-get (o ∷ os) (suc i) d b = tag-get os i d (omega arith)

other-line : (o : Option FrameView) (l : ℕ) → (tag_of o ≡ l → ⊥) → holds_line l o ≡ false
unfolding holds_line tag_of
other-line None l n = refl
other-line (Some f) l n = ne_eqb f.line.0 l n

pub other-tag : (fs : List (Option FrameView)) (ts : List ℕ) → ts ≡ map tag_of fs → (i l d : ℕ) → i < length fs → (get_or ts i d ≡ l → ⊥)
    → holds_line l (get_or fs i None) ≡ false
other-tag fs ts e i l d b n = other-line (get_or fs i None) l (λ t. n (rw e (tag-get fs i d b ∙ t)))

-- ---- whether any way is read

beyond : (fs : List (Option FrameView)) (i : ℕ) → length fs ≤ i → get_or fs i None ≡ None
beyond [] i h = refl
beyond (o ∷ os) zero h = absurd (omega arith)
beyond (o ∷ os) (suc i) h = beyond os i (omega arith)

none-read : (dirs d : ℕ) → reads_in dirs d None ≡ false
unfolding reads_in
none-read dirs d = refl

pub any-read : (dirs d : ℕ) (fs : List (Option FrameView)) (n : ℕ) → n ≡ count_ways (reads_in dirs d) fs →
    MatchBool (not (nat_eq n 0)) ((i : ℕ) × (reads_in dirs d (get_or fs i None) ≡ true))
    ((i : ℕ) → reads_in dirs d (get_or fs i None) ≡ false)
unfolding count_ways
any-read dirs d fs n e =
    go (not (nat_eq n 0)) (ap (λ x. not (nat_eq x 0)) e ∙ sym (any_below-count (λ i. reads_in dirs d (get_or fs i None)) (length fs)))
  where
    within : (i : ℕ) → reads_in dirs d (get_or fs i None) ≡ true → i < length fs
    within i t = elim (cases_lt i (length fs)) [
      | inl b ↦ b
      | inr past ↦ absurd (false≢true (sym (none-read dirs d) ∙ ap (reads_in dirs d) (sym (beyond fs i past)) ∙ t))
    ]

    go : (b : Bool) → b ≡ any_below (λ i. reads_in dirs d (get_or fs i None)) (length fs) →
        MatchBool b ((i : ℕ) × (reads_in dirs d (get_or fs i None) ≡ true)) ((i : ℕ) → reads_in dirs d (get_or fs i None) ≡ false)
    go true t = let r = any_below-found (λ i. reads_in dirs d (get_or fs i None)) (length fs) (sym t) in (r.0, r.2)
    go false f = λ i. elim (cases_Bool (reads_in dirs d (get_or fs i None))) [
      | inr g ↦ g
      | inl t ↦ absurd (false≢true (f ∙ any_below-at (λ j. reads_in dirs d (get_or fs j None)) (length fs) i (within i t) t))
    ]
