-- What holds of an array of lines and its list of marked lines, before and after one record is put in another's place.
use Rattle.std.proofs.Common.{◌≡◌, ℕ, zero, suc, ◌/◌, ◌%◌, ◌<◌, Bool, true, false, ◌==◌, nat_lt, if◌then◌else◌, List, [], ◌∷◌, ◌++◌, cond}
use Rattle.std.proofs.Common.{length, get_or, set, length-set, refl, ap, sym, subst, ◌∙◌}
use Rattle.std.proofs.lemmas.List.{get_or_default}
use borrow.Author.Tests.{eq-eqb}
use Rattle.tcc_base.specs.declared.names.Mask.{Mask}
use Rattle.rules_maps.specs.Words.{put, those, count_below}
use Rattle.rules_maps.specs.Shape.{lines}
use Rattle.rules_maps.specs.Lines.{has_mark}
use Rattle.rules_maps.proofs.Lemmas.{length-those}
use Rattle.dir_lines.specs.Home.{Home, IsAtHome, home_lines}
use Rattle.dir_lines.specs.Record.{Record, blank, lines_of}
use Rattle.dir_lines.specs.Pages.{Pages, pages_at, is_at_home}
use Rattle.dir_lines.proofs.Counting.{count_below-lt, count_below-home}
use Rattle.dir_lines.proofs.PagesAt.{IsWhole, stands, pages_at-own, is_at_home-only, pages_at-set}
use Rattle.dir_lines.proofs.Changes.{new-field}

-- which lines are marked
pub is_marked-put : (f : ℕ → Record) (l : ℕ) (r : Record)
    → has_mark (lines_of (put f l r)) ≡ put (has_mark (lines_of f)) l (nat_lt 0 r.mark.0)
unfolding lines_of
is_marked-put f l r = λ i j. new-field (λ x. nat_lt 0 x.mark.0) f l r j (nat_lt 0 r.mark.0) refl i

pub is_marked-own : (f : ℕ → Record) (l : ℕ) → has_mark (lines_of f) l ≡ nat_lt 0 (f l).mark.0
unfolding lines_of
is_marked-own f l = refl

-- only lines of the home
pub marked-at_home : (p : Pages) (l : ℕ) → has_mark (lines_of (pages_at p)) l ≡ true → IsAtHome p.place l
unfolding lines_of pages_at
marked-at_home p l e = by (is_at_home p.place l) refl e
  where
    by : (b : Bool) → is_at_home p.place l ≡ b → nat_lt 0 (if b then get_or p.records (l / p.place.shape.dirs) blank else blank).mark.0
        ≡ true → IsAtHome p.place l
    by true f h = is_at_home-only p.place l f
    by false f h = cc

-- a line of the home that isn't marked leaves room in the list
pub room-left : (h : Home) (f : ℕ → Record) (l : ℕ) → h.dir < h.shape.dirs → ((k : ℕ) → has_mark (lines_of f) k ≡ true → IsAtHome h k)
    → IsAtHome h l → has_mark (lines_of f) l ≡ false
    → length (those (has_mark (lines_of f)) (lines h.shape)) < home_lines h
room-left h f l here only at e =
    subst (λ n. n < home_lines h) (sym (length-those (has_mark (lines_of f)) (lines h.shape)))
    (subst (λ n. count_below (has_mark (lines_of f)) (lines h.shape) < n) (count_below-home (lines h.shape) h.shape.dirs h.dir here)
    (count_below-lt (has_mark (lines_of f)) (λ k. k % h.shape.dirs == h.dir) (lines h.shape) l
    (λ k m. eq-eqb (k % h.shape.dirs) h.dir ((only k m).1)) at.0 (eq-eqb (l % h.shape.dirs) h.dir at.1) e))

-- a record that was read at a line's place
pub read-own : (p : Pages) (l d : ℕ) (r : Record) → IsWhole p → IsAtHome p.place l → d ≡ p.place.shape.dirs → r ≡ get_or p.records (l / d) r
    → r ≡ pages_at p l
read-own p l d r w h e f =
    let lt : l / p.place.shape.dirs < length p.records = stands p l w h in
    f ∙ (ap (λ k. get_or p.records (l / k) r) e ∙ (get_or_default p.records (l / p.place.shape.dirs) r blank lt ∙ sym (pages_at-own p l h)))

-- a record that was read tells whether its line is marked
pub read-marked : (f : ℕ → Record) (l : ℕ) (m : Mask) → m ≡ (f l).mark → has_mark (lines_of f) l ≡ nat_lt 0 m.0
read-marked f l m e = is_marked-own f l ∙ ap (λ x. nat_lt 0 x.0) (sym e)

pub unmarked-room : (h : Home) (f : ℕ → Record) (l : ℕ) (m : Mask) (marked : List ℕ) → h.dir < h.shape.dirs
    → ((k : ℕ) → has_mark (lines_of f) k ≡ true → IsAtHome h k) → IsAtHome h l
    → m ≡ (f l).mark → m.0 ≡ 0 → marked ≡ those (has_mark (lines_of f)) (lines h.shape) → length marked < home_lines h
unmarked-room h f l m marked here only at e z same =
    subst (λ xs. length xs < home_lines h) (sym same) (room-left h f l here only at (read-marked f l m e ∙ ap (nat_lt 0) z))

-- the list of marked lines after a change
pub marked-put : (h : Home) (f g : ℕ → Record) (l : ℕ) (r : Record) (marked : List ℕ) → g ≡ put f l r
    → marked ≡ those (put (has_mark (lines_of f)) l (nat_lt 0 r.mark.0)) (lines h.shape)
    → marked ≡ those (has_mark (lines_of g)) (lines h.shape)
marked-put h f g l r marked e same =
    same ∙ (ap (λ p. those p (lines h.shape)) (sym (is_marked-put f l r)) ∙ ap (λ k. those (has_mark (lines_of k)) (lines h.shape)) (sym e))

-- the array with one record in another's place, and its list of marked lines
abbrev pub with_record : Pages → ℕ → Record → Pages
with_record p i r = record { place = p.place; records = set p.records i r }

pub with_record-count : (p : Pages) (i : ℕ) (r : Record) → length p.records ≡ home_lines p.place
    → length (set p.records i r) ≡ home_lines p.place
with_record-count p i r e = length-set p.records i r ∙ e

pub with_record-at : (p : Pages) (l d : ℕ) (r : Record) → IsWhole p → IsAtHome p.place l → d ≡ p.place.shape.dirs
    → pages_at (with_record p (l / d) r) ≡ put (pages_at p) l r
with_record-at p l d r w h e = ap (λ k. pages_at (with_record p (l / k) r)) e ∙ pages_at-set p l r w h

-- at the start no line is marked
pub those-none : (p : ℕ → Bool) (n : ℕ) → ((k : ℕ) → p k ≡ false) → [] ≡ those p n
unfolding those
those-none p zero h = refl
those-none p (suc n) h = (λ i. those-none p n h i ++ cond (sym (h n) i) (n ∷ []) [])

pub blank-unmarked : (f : ℕ → Record) → f ≡ (λ _. blank) → (k : ℕ) → has_mark (lines_of f) k ≡ false
unfolding lines_of
blank-unmarked f e k = ap (λ g. nat_lt 0 (g k).mark.0) e
