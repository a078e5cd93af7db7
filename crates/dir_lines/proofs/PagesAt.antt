-- The array of records as a map by line: reading it, and putting one record in another's place.
use Rattle.std.proofs.Common.{◌≡◌, ◌≢◌, ℕ, zero, suc, ◌+◌, ◌*◌, ◌/◌, ◌<◌, Bool, true, false, ◌==◌, ◌&&◌, nat_lt, if◌then◌else◌, length}
use Rattle.std.proofs.Common.{get_or, set, replicate, get_or-set_other, get_or-set_same, refl, ap, sym, subst, ◌∙◌}
use Rattle.std.proofs.Math.Nat.{mod-add-div'}
use borrow.Author.Tests.{eqb-true, eqb-false, ltb-true, lt-ltb, eq-eqb}
use Rattle.rules_maps.specs.Words.{put}
use Rattle.rules_maps.specs.Shape.{lines, home}
use Rattle.dir_lines.specs.Home.{Home, IsAtHome, home_lines}
use Rattle.dir_lines.specs.Record.{Record, blank}
use Rattle.dir_lines.specs.Pages.{Pages, pages_at, is_at_home}
use Rattle.dir_lines.proofs.Counting.{place-bound}

pub is_at_home-true : (h : Home) (l : ℕ) → IsAtHome h l → is_at_home h l ≡ true
is_at_home-true h l p = rw (lt-ltb l (lines h.shape) p.0, eq-eqb (home h.shape l) h.dir p.1) refl

-- where the test holds the line is at home
pub is_at_home-only : (h : Home) (l : ℕ) → is_at_home h l ≡ true → IsAtHome h l
is_at_home-only h l e = by (nat_lt l (lines h.shape)) refl (home h.shape l == h.dir) refl e
  where
    by : (a : Bool) → nat_lt l (lines h.shape) ≡ a → (b : Bool) → (home h.shape l == h.dir) ≡ b → (a && b) ≡ true → IsAtHome h l
    by true p true q f = (ltb-true l (lines h.shape) p, eqb-true (home h.shape l) h.dir q)
    by true p false q f = cc
    by false p b q f = cc

-- there is a record for each line of the home
pub record IsWhole (p : Pages) : Type 0 where
  pub exists : p.place.dir < p.place.shape.dirs
  pub count : length p.records ≡ home_lines p.place

pub stands : (p : Pages) (l : ℕ) → IsWhole p → IsAtHome p.place l → l / p.place.shape.dirs < length p.records
stands p l w h =
    subst (λ n. l / p.place.shape.dirs < n) (sym w.count)
    (place-bound (lines p.place.shape) p.place.shape.dirs p.place.dir l w.exists h.0 h.1)

-- the record that the array has for a line of the home
pub pages_at-own : (p : Pages) (l : ℕ) → IsAtHome p.place l → pages_at p l ≡ get_or p.records (l / p.place.shape.dirs) blank
unfolding pages_at
pages_at-own p l h = rw (is_at_home-true p.place l h) refl

pub pages_at-blank : (p : Home) (n : ℕ) → pages_at (record { place = p; records = replicate n blank }) ≡ (λ _. blank)
unfolding pages_at
pages_at-blank p n = λ i l. by (is_at_home p l) n (l / p.shape.dirs) i
  where
    same : (m k : ℕ) → get_or (replicate m blank) k blank ≡ blank
    same zero k = refl
    same (suc m) zero = refl
    same (suc m) (suc k) = same m k

    by : (b : Bool) (m k : ℕ) → (if b then get_or (replicate m blank) k blank else blank) ≡ blank
    by true m k = same m k
    by false m k = refl

-- putting one record in another's place
pub pages_at-set : (p : Pages) (l : ℕ) (r : Record) → IsWhole p → IsAtHome p.place l
    → pages_at (record { place = p.place; records = set p.records (l / p.place.shape.dirs) r }) ≡ put (pages_at p) l r
unfolding pages_at
pages_at-set p l r w h = λ i j. by j (j == l) refl (is_at_home p.place j) refl i
  where
    clash : is_at_home p.place l ≡ false → ⊥
    clash f = let g : is_at_home p.place l ≡ true = is_at_home-true p.place l h in cc

    apart : (j : ℕ) → (j ≡ l → ⊥) → IsAtHome p.place j → j / p.place.shape.dirs ≡ l / p.place.shape.dirs → ⊥
    apart j no_one k q =
        no_one (sym (mod-add-div' j p.place.shape.dirs)
        ∙ ((λ i. (k.1 ∙ sym h.1) i + q i * p.place.shape.dirs) ∙ mod-add-div' l p.place.shape.dirs))

    by : (j : ℕ) (a : Bool) → (j == l) ≡ a → (b : Bool) → is_at_home p.place j ≡ b
        → (if b then get_or (set p.records (l / p.place.shape.dirs) r) (j / p.place.shape.dirs) blank else blank)
        ≡ (if a then r else (if b then get_or p.records (j / p.place.shape.dirs) blank else blank))
    by j true e true f =
        let lt : l / p.place.shape.dirs < length p.records = stands p l w h in
        ap (λ k. get_or (set p.records (l / p.place.shape.dirs) r) (k / p.place.shape.dirs) blank) (eqb-true j l e)
        ∙ rw get_or-set_same refl
    by j true e false f = absurd (clash (subst (λ k. is_at_home p.place k ≡ false) (eqb-true j l e) f))
    by j false e true f =
        let ne : j / p.place.shape.dirs ≢ l / p.place.shape.dirs = λ q. apart j (eqb-false j l e) (is_at_home-only p.place j f) q in
        rw get_or-set_other refl
    by j false e false f = refl
