-- The marked lines of a home as the marked places of its records.
use Rattle.std.proofs.Common.{◌≡◌, ℕ, zero, suc, ◌+◌, ◌*◌, ◌/◌, ◌%◌, ◌<◌, ◌≤◌, Bool, true, false, ◌==◌, ◌&&◌, eqb, nat_lt, if◌then◌else◌}
use Rattle.std.proofs.Common.{List, [], ◌∷◌, ◌++◌, map, cond, length, get_or, set, slice_get, Option, Some, option_map, append-nil, refl}
use Rattle.std.proofs.Common.{ap}
use Rattle.std.proofs.Common.{get_or-set_same, get_or-set_other, replicate, sym, ◌∙◌, arith}
use Rattle.std.proofs.lemmas.List.{map-append, get_or_past, get_or_default, length-map}
use Rattle.std.proofs.lemmas.Option.{slice_get-map}
use Rattle.std.proofs.Math.Nat.{mod-add-div'}
use Rattle.std.proofs.lemmas.Bool.Decides.{nat_tests}
use borrow.Author.Tests.{eqb-true, eqb-false, lt-ltb}
use Rattle.base_lemmas.proofs.Lemmas.{count_below-most}
use Rattle.rules_maps.specs.Words.{put, those, count_below, num}
use Rattle.rules_maps.proofs.Lemmas.{length-those, those-only}
use Rattle.rules_maps.specs.Shape.{lines}
use Rattle.rules_maps.specs.Lines.{has_mark}
use Rattle.dir_lines.specs.Home.{Home}
use Rattle.dir_lines.specs.Record.{Record, blank, lines_of}
use Rattle.dir_lines.specs.Marking.{marked_at}
use Rattle.dir_lines.specs.Pages.{Pages, pages_at}
use Rattle.dir_lines.proofs.Clearing.{found}
use Rattle.dir_lines.proofs.Counting.{count_below-home}
use Rattle.dir_lines.proofs.PagesAt.{IsWhole}

-- the line at a place
abbrev pub line_at : Home → ℕ → ℕ
line_at h x = x * h.shape.dirs + h.dir

mapped : (p q : ℕ → Bool) (d h n : ℕ) → h < d → ((l : ℕ) → l < n → p l ≡ (if l % d == h then q (l / d) else false))
    → those p n ≡ map (λ x. x * d + h) (those q (count_below (λ l. l % d == h) n))
unfolding those count_below
mapped p q d h zero lt same = refl
mapped p q d h (suc n) lt same = by (n % d == h) refl (same n (omega arith)) (mapped p q d h n lt (λ l k. same l (omega arith)))
  where
    by : (b : Bool) → (n % d == h) ≡ b → p n ≡ (if b then q (n / d) else false)
        → those p n ≡ map (λ x. x * d + h) (those q (count_below (λ l. l % d == h) n))
        → those p n ++ cond (p n) (n ∷ []) [] ≡ map (λ x. x * d + h) (those q (count_below (λ l. l % d == h) n + num b))
    by true e f before =
        let r : n % d ≡ h = eqb-true (n % d) h e in
        let z : nat_lt h (n % d) ≡ false = grind (arith, nat_tests) in
        let place : count_below (λ l. l % d == h) n ≡ n / d =
        count_below-home n d h lt ∙ (ap (λ b. n / d + (if b then 1 else 0)) z ∙ omega arith) in
        let next : count_below (λ l. l % d == h) n + 1 ≡ suc (count_below (λ l. l % d == h) n) = omega arith in
        let own : n ≡ count_below (λ l. l % d == h) n * d + h =
        sym (mod-add-div' n d) ∙ (omega (arith, r) ∙ ap (λ k. k * d + h) (sym place)) in
        (λ i. before i ++ cond ((f ∙ ap q (sym place)) i) ((own i) ∷ []) [])
        ∙ (one (q (count_below (λ l. l % d == h) n)) (count_below (λ l. l % d == h) n) (those q (count_below (λ l. l % d == h) n))
        ∙ ap (λ k. map (λ x. x * d + h) (those q k)) (sym next))
      where
        one : (b : Bool) (k : ℕ) (xs : List ℕ) → map (λ x. x * d + h) xs ++ cond b ((k * d + h) ∷ []) []
            ≡ map (λ x. x * d + h) (xs ++ cond b (k ∷ []) [])
        one true k xs = sym (map-append (λ x. x * d + h) xs (k ∷ []))
        one false k xs = sym (map-append (λ x. x * d + h) xs [])
    by false e f before =
        let z : count_below (λ l. l % d == h) n + 0 ≡ count_below (λ l. l % d == h) n = omega arith in
        (λ i. those p n ++ cond (f i) (n ∷ []) [])
        ∙ (append-nil (those p n) ∙ (before ∙ ap (λ k. map (λ x. x * d + h) (those q k)) (sym z)))

-- the marked lines are those at the marked places
pub lines-places : (p : Pages) → IsWhole p
    → those (has_mark (lines_of (pages_at p))) (lines p.place.shape)
    ≡ map (line_at p.place) (those (marked_at p.records) (length p.records))
unfolding lines_of pages_at
lines-places p w =
    mapped (has_mark (lines_of (pages_at p))) (marked_at p.records) p.place.shape.dirs p.place.dir (lines p.place.shape) w.exists
    (λ l h. own l (nat_lt l (lines p.place.shape)) (lt-ltb l (lines p.place.shape) h) (l % p.place.shape.dirs == p.place.dir))
    ∙ ap (λ n. map (line_at p.place) (those (marked_at p.records) n))
    (count_below-home (lines p.place.shape) p.place.shape.dirs p.place.dir w.exists ∙ sym w.count)
  where
    own : (l : ℕ) (a : Bool) → a ≡ true → (b : Bool)
        → nat_lt 0 (if a && b then get_or p.records (l / p.place.shape.dirs) blank else blank).mark.0
        ≡ (if b then nat_lt 0 (get_or p.records (l / p.place.shape.dirs) blank).mark.0 else false)
    own l true e true = refl
    own l true e false = refl
    own l false e b = cc

-- no place behind the records is marked
pub past-unmarked : (rs : List Record) (i : ℕ) → length rs ≤ i → marked_at rs i ≡ false
past-unmarked rs i h = ap (λ r. nat_lt 0 r.mark.0) (get_or_past rs i blank h)

pub those-past : (rs : List Record) (n : ℕ) → length rs ≤ n → those (marked_at rs) n ≡ those (marked_at rs) (length rs)
unfolding those
those-past rs zero h = let z : length rs ≡ 0 = omega arith in ap (λ k. those (marked_at rs) k) (sym z)
those-past rs (suc n) h = by (eqb (length rs) (suc n)) refl (λ q. those-past rs n q)
  where
    by : (b : Bool) → eqb (length rs) (suc n) ≡ b → (length rs ≤ n → those (marked_at rs) n ≡ those (marked_at rs) (length rs))
        → those (marked_at rs) n ++ cond (marked_at rs n) (n ∷ []) [] ≡ those (marked_at rs) (length rs)
    by true e rest = ap (λ k. those (marked_at rs) k) (sym (eqb-true (length rs) (suc n) e))
    by false e rest =
        let l : length rs ≤ n = omega (arith, eqb-false (length rs) (suc n) e) in
        ap (λ b. those (marked_at rs) n ++ cond b (n ∷ []) []) (past-unmarked rs n l) ∙ (append-nil (those (marked_at rs) n) ∙ rest l)

pub lines-listed : (p : Pages) (n : ℕ) → IsWhole p → length p.records ≤ n
    → those (has_mark (lines_of (pages_at p))) (lines p.place.shape) ≡ map (line_at p.place) (those (marked_at p.records) n)
lines-listed p n w h = lines-places p w ∙ ap (map (line_at p.place)) (sym (those-past p.records n h))

-- one record in another's place
pub marked_at-set : (rs : List Record) (i : ℕ) (r : Record) → i < length rs
    → marked_at (set rs i r) ≡ put (marked_at rs) i (nat_lt 0 r.mark.0)
marked_at-set rs i r h = λ t j. by j (j == i) refl t
  where
    by : (j : ℕ) (b : Bool) → (j == i) ≡ b
        → nat_lt 0 (get_or (set rs i r) j blank).mark.0 ≡ (if b then nat_lt 0 r.mark.0 else nat_lt 0 (get_or rs j blank).mark.0)
    by j true e =
        ap (λ k. nat_lt 0 (get_or (set rs i r) k blank).mark.0) (eqb-true j i e)
        ∙ ap (λ q. nat_lt 0 q.mark.0) (get_or-set_same rs i r blank h)
    by j false e = ap (λ q. nat_lt 0 q.mark.0) (get_or-set_other rs i j r blank (eqb-false j i e))

-- the number of marked lines
pub lines-count : (p : Pages) (n : ℕ) → IsWhole p → length p.records ≤ n
    → length (those (marked_at p.records) n) ≡ count_below (has_mark (lines_of (pages_at p))) (lines p.place.shape)
lines-count p n w h =
    sym (length-map (those (marked_at p.records) n) (line_at p.place))
    ∙ (ap length (sym (lines-listed p n w h)) ∙ length-those (has_mark (lines_of (pages_at p))) (lines p.place.shape))

-- so few places are marked
pub places-few : (rs : List Record) (n : ℕ) → length rs ≤ n → length (those (marked_at rs) n) ≤ length rs
places-few rs n h =
    let a : length (those (marked_at rs) n) ≡ length (those (marked_at rs) (length rs)) = ap length (those-past rs n h) in
    let b : length (those (marked_at rs) (length rs)) ≡ count_below (marked_at rs) (length rs) = length-those (marked_at rs) (length rs) in
    let c : count_below (marked_at rs) (length rs) ≤ length rs = count_below-most (marked_at rs) (length rs) in
    omega arith

-- the k-th marked line stands at the k-th marked place
pub line-nth : (p : Pages) (n k : ℕ) (o : Option ℕ) → IsWhole p → length p.records ≤ n → o ≡ slice_get (those (marked_at p.records) n) k
    → option_map (line_at p.place) o ≡ slice_get (those (has_mark (lines_of (pages_at p))) (lines p.place.shape)) k
line-nth p n k o w h e =
    ap (option_map (line_at p.place)) e
    ∙ (sym (slice_get-map (line_at p.place) (those (marked_at p.records) n) k) ∙ ap (λ xs. slice_get xs k) (sym (lines-listed p n w h)))

-- and exists
pub line-exists : (p : Pages) (n k x : ℕ) → IsWhole p → length p.records ≤ n → Some x ≡ slice_get (those (marked_at p.records) n) k
    → line_at p.place x < lines p.place.shape
line-exists p n k x w h e =
    (those-only (has_mark (lines_of (pages_at p))) (lines p.place.shape) (line_at p.place x)
    (found (those (has_mark (lines_of (pages_at p))) (lines p.place.shape)) k (line_at p.place x) (sym (line-nth p n k (Some x) w h e)))).0

-- a record that was read tells whether its place is marked
pub read-place : (rs : List Record) (i : ℕ) (r : Record) → i < length rs → r ≡ get_or rs i r → marked_at rs i ≡ nat_lt 0 r.mark.0
read-place rs i r h e = ap (λ q. nat_lt 0 q.mark.0) (sym (e ∙ get_or_default rs i r blank h))

-- at the start no place is marked
pub places-blank : (rs : List Record) (n : ℕ) → rs ≡ replicate n blank → (i : ℕ) → marked_at rs i ≡ false
places-blank rs n e i = ap (λ xs. marked_at xs i) e ∙ ap (λ r. nat_lt 0 r.mark.0) (same n i)
  where
    same : (m k : ℕ) → get_or (replicate m blank) k blank ≡ blank
    same zero k = refl
    same (suc m) zero = refl
    same (suc m) (suc k) = same m k
