-- The dirty words in frames, the copies of a line among what a core sends, and what its instructions and evictions do to them.
use Rattle.rules_tcc.specs.Sends.{write_back_of}
use Rattle.rules_maps.proofs.Lemmas.{dirty-placed}
use Rattle.theorem_serial.proofs
use proofs.Names
use Names.{line_of-word_at, unheld-clean, ℕ, ◌+◌, ◌≡◌, ◌<◌, ◌≤◌, ◌⊎◌, ◌==◌, ◌&&◌, ◌||◌, Bool, true, false, not, Option, Some, None, is_some}
use Names.{unwrap_or, if◌then◌else◌, arith, refl, sym, ◌∙◌, inl, inr, num, any_below, any_word, word_at, or_else, mask_of, Shape, Cache}
use Names.{IsCache, is_dirty, is_modified, dirty_tag, dirty_mask, modified_mask, first_of_line, any_below-found, any_below-at, nats, zero}
use Names.{suc, cond, List, [], ◌∷◌, ◌++◌, nat_lt, flat_map, flat_map-append, those, count_below, Dir, Msg, Skip, Mark, Commit, WriteBack}
use Names.{Flush, home, lines, dirty_words, dirty_copy, Spilled, holds, spilled_mask, spilled_words, commit_sends, solo_sends}
use Names.{solo_marks_or_skip, solo_write_backs, solo_writes_at, is_written, written_mask, to, flush_of, flush_line, write_back_line}
use Names.{CopyOf, CopyMask, among, passes, stored, cases_eq, Noted, line_of, placed, CoreState, Out, stores_in, names_line, ◌≢◌, tested}
use proofs.Counts.{among-append, among-flat_map_none}

-- The copies of a line in a core's frame, by the dirty words of the line.

-- 1 where the line's frame is dirty with this tag, and where it is so with another mask
unfoldable pub frame_copy : Cache → (line tag : ℕ) → ℕ
frame_copy c l t = num (is_dirty c l && dirty_tag c l == t)

unfoldable pub frame_wrong : Cache → (line tag mask : ℕ) → ℕ
frame_wrong c l t n = num ((is_dirty c l && dirty_tag c l == t) && not (dirty_mask c l == n))

pub wrong-copy : (c : Cache) (l t n : ℕ) → frame_wrong c l t n ≤ frame_copy c l t
unfolding frame_copy frame_wrong
wrong-copy c l t n = grind nats

-- the line's words are as dirty as those of the other cache
abbrev pub SameDirty : Cache → Cache → (line : ℕ) → Type 0
SameDirty c e l = (k : ℕ) → k < 8 → e.dirty (word_at l k) ≡ c.dirty (word_at l k)

abbrev pub IsClean : Cache → (line : ℕ) → Type 0
IsClean c l = (k : ℕ) → k < 8 → c.dirty (word_at l k) ≡ None

same-dirty : (c e : Cache) (l : ℕ) → SameDirty c e l → (is_dirty e l ≡ is_dirty c l) × (dirty_tag e l ≡ dirty_tag c l)
    × (dirty_mask e l ≡ dirty_mask c l)
unfolding is_dirty dirty_tag dirty_mask any_word any_below first_of_line mask_of
same-dirty c e l h = (
  rw (
    h 0 (omega arith),
    h 1 (omega arith),
    h 2 (omega arith),
    h 3 (omega arith),
    h 4 (omega arith),
    h 5 (omega arith),
    h 6 (omega arith),
    h 7 (omega arith),
  ),
  rw (
    h 0 (omega arith),
    h 1 (omega arith),
    h 2 (omega arith),
    h 3 (omega arith),
    h 4 (omega arith),
    h 5 (omega arith),
    h 6 (omega arith),
    h 7 (omega arith),
  ),
  rw (
    h 0 (omega arith),
    h 1 (omega arith),
    h 2 (omega arith),
    h 3 (omega arith),
    h 4 (omega arith),
    h 5 (omega arith),
    h 6 (omega arith),
    h 7 (omega arith),
  ),
)

same-frame : (c e : Cache) (l : ℕ) → SameDirty c e l → ((t : ℕ) → frame_copy e l t ≡ frame_copy c l t)
    × ((t n : ℕ) → frame_wrong e l t n ≡ frame_wrong c l t n)
unfolding frame_copy frame_wrong
same-frame c e l h = let x = same-dirty c e l h in (λ t. rw (x.0, x.1), λ t n. rw (x.0, x.1, x.2))

clean-dirty : (c : Cache) (l : ℕ) → IsClean c l → is_dirty c l ≡ false
unfolding is_dirty any_word any_below
clean-dirty c l h = rw (
  h 0 (omega arith),
  h 1 (omega arith),
  h 2 (omega arith),
  h 3 (omega arith),
  h 4 (omega arith),
  h 5 (omega arith),
  h 6 (omega arith),
  h 7 (omega arith),
)

pub clean-frame : (c : Cache) (l : ℕ) → IsClean c l → (t : ℕ) → frame_copy c l t ≡ 0
unfolding frame_copy
clean-frame c l h t = rw (clean-dirty c l h)

-- a dirty line has a word with its tag
dirty-found : (c : Cache) (l : ℕ) → is_dirty c l ≡ true → (k : ℕ) × (k < 8) × (c.dirty (word_at l k) ≡ Some (dirty_tag c l))
unfolding is_dirty any_word any_below dirty_tag first_of_line
dirty-found c l h = go (c.dirty (word_at l 0)) (c.dirty (word_at l 1)) (c.dirty (word_at l 2)) (c.dirty (word_at l 3))
    (c.dirty (word_at l 4)) (c.dirty (word_at l 5)) (c.dirty (word_at l 6)) (c.dirty (word_at l 7)) refl refl refl refl refl refl refl refl
    h
  where
    first : (a0 a1 a2 a3 a4 a5 a6 a7 : Option ℕ) → ℕ
    first a0 a1 a2 a3 a4 a5 a6 a7 =
        unwrap_or (or_else a0 (or_else a1 (or_else a2 (or_else a3 (or_else a4 (or_else a5 (or_else a6 a7))))))) 0

    go : (a0 a1 a2 a3 a4 a5 a6 a7 : Option ℕ) → c.dirty (word_at l 0) ≡ a0 → c.dirty (word_at l 1) ≡ a1 → c.dirty (word_at l 2) ≡ a2
        → c.dirty (word_at l 3) ≡ a3 → c.dirty (word_at l 4) ≡ a4 → c.dirty (word_at l 5) ≡ a5 → c.dirty (word_at l 6) ≡ a6
        → c.dirty (word_at l 7) ≡ a7
        → ((((((((false || is_some a0) || is_some a1) || is_some a2) || is_some a3) || is_some a4) || is_some a5) || is_some a6)
        || is_some a7) ≡ true → (k : ℕ) × (k < 8) × (c.dirty (word_at l k) ≡ Some (first a0 a1 a2 a3 a4 a5 a6 a7))
    go (Some x) a1 a2 a3 a4 a5 a6 a7 e0 e1 e2 e3 e4 e5 e6 e7 h = (0, omega arith, e0)
    go None (Some x) a2 a3 a4 a5 a6 a7 e0 e1 e2 e3 e4 e5 e6 e7 h = (1, omega arith, e1)
    go None None (Some x) a3 a4 a5 a6 a7 e0 e1 e2 e3 e4 e5 e6 e7 h = (2, omega arith, e2)
    go None None None (Some x) a4 a5 a6 a7 e0 e1 e2 e3 e4 e5 e6 e7 h = (3, omega arith, e3)
    go None None None None (Some x) a5 a6 a7 e0 e1 e2 e3 e4 e5 e6 e7 h = (4, omega arith, e4)
    go None None None None None (Some x) a6 a7 e0 e1 e2 e3 e4 e5 e6 e7 h = (5, omega arith, e5)
    go None None None None None None (Some x) a7 e0 e1 e2 e3 e4 e5 e6 e7 h = (6, omega arith, e6)
    go None None None None None None None (Some x) e0 e1 e2 e3 e4 e5 e6 e7 h = (7, omega arith, e7)
    go None None None None None None None None e0 e1 e2 e3 e4 e5 e6 e7 h = absurd (cc)

pub some-dirty : (c : Cache) (l k t : ℕ) → k < 8 → c.dirty (word_at l k) ≡ Some t → is_dirty c l ≡ true
unfolding is_dirty any_word
some-dirty c l k t i e = any_below-at (λ k. is_some (c.dirty (word_at l k))) 8 k i (rw e)

-- the tag of a word that is dirty is that of its line
pub tag-of : {sh : Shape} {c : Cache} (l k t : ℕ) → IsCache sh c → k < 8 → c.dirty (word_at l k) ≡ Some t → dirty_tag c l ≡ t
tag-of {c} l k t h i e =
    let x = dirty-found c l (some-dirty c l k t i e) in
    h.one_tag (word_at l x.0) (word_at l k) (dirty_tag c l) t (line_of-word_at l x.0 x.1 ∙ sym (line_of-word_at l k i)) x.2 e

-- where words become clean, no copy is new
pub fewer-frame : (sh : Shape) (c e : Cache) (l : ℕ) → IsCache sh c
    → ((k : ℕ) → k < 8 → (e.dirty (word_at l k) ≡ None) ⊎ (e.dirty (word_at l k) ≡ c.dirty (word_at l k))) → (t : ℕ)
    → frame_copy e l t ≤ frame_copy c l t
unfolding frame_copy
fewer-frame sh c e l h f t = go (is_dirty e l) refl
  where
    found : (k : ℕ) → k < 8 → e.dirty (word_at l k) ≡ Some (dirty_tag e l)
        → (e.dirty (word_at l k) ≡ None) ⊎ (e.dirty (word_at l k) ≡ c.dirty (word_at l k))
        → (is_dirty c l ≡ true) × (dirty_tag c l ≡ dirty_tag e l)
    found k i y (inl n) = absurd (let z = sym y ∙ n in cc)
    found k i y (inr s) = (some-dirty c l k (dirty_tag e l) i (sym s ∙ y), tag-of l k (dirty_tag e l) h i (sym s ∙ y))

    go : (b : Bool) → is_dirty e l ≡ b → num (b && dirty_tag e l == t) ≤ num (is_dirty c l && dirty_tag c l == t)
    go false q = omega arith
    go true q = let x = dirty-found e l q in let y = found x.0 x.1 x.2 (f x.0 x.1) in rw (y.0, y.1) (omega arith)

-- where the modified words become dirty
none-modified : (c : Cache) (l : ℕ) → is_modified c l ≡ false → (k : ℕ) → k < 8 → c.modified (word_at l k) ≡ false
unfolding is_modified any_word
none-modified c l e k i = elim (tested (c.modified (word_at l k))) [
  | inr q ↦ q
  | inl q ↦ absurd (let a = any_below-at (λ k. c.modified (word_at l k)) 8 k i q in cc)
]

-- the words that were modified are dirty with this tag, and the others as they were
abbrev pub Committed : Cache → Cache → (line tag : ℕ) → Type 0
Committed c e l u = (k : ℕ) → k < 8 → e.dirty (word_at l k) ≡ (if c.modified (word_at l k) then Some u else c.dirty (word_at l k))

-- a line with modified words has no dirty one
no-dirty : {sh : Shape} {c : Cache} (l : ℕ) → IsCache sh c → is_modified c l ≡ true → IsClean c l
unfolding is_modified any_word
no-dirty {c} l h m k i = let x = any_below-found (λ k. c.modified (word_at l k)) 8 m in
    h.either (word_at l x.0) (word_at l k) (line_of-word_at l x.0 x.1 ∙ sym (line_of-word_at l k i)) x.2

new-dirty : (sh : Shape) (c e : Cache) (l u : ℕ) → IsCache sh c → Committed c e l u → is_modified c l ≡ true → (k : ℕ) → k < 8
    → e.dirty (word_at l k) ≡ (if c.modified (word_at l k) then Some u else None)
new-dirty sh c e l u h f m k i = rw (no-dirty l h m k i) at (f k i)

dirty-modified : (c e : Cache) (l u : ℕ) → ((k : ℕ) → k < 8 → e.dirty (word_at l k) ≡ (if c.modified (word_at l k) then Some u else None))
    → (is_dirty e l ≡ is_modified c l) × (dirty_mask e l ≡ modified_mask c l)
unfolding is_dirty is_modified dirty_mask modified_mask any_word any_below mask_of
dirty-modified c e l u h = (
  rw (
    one 0 (omega arith),
    one 1 (omega arith),
    one 2 (omega arith),
    one 3 (omega arith),
    one 4 (omega arith),
    one 5 (omega arith),
    one 6 (omega arith),
    one 7 (omega arith),
  ),
  rw (
    one 0 (omega arith),
    one 1 (omega arith),
    one 2 (omega arith),
    one 3 (omega arith),
    one 4 (omega arith),
    one 5 (omega arith),
    one 6 (omega arith),
    one 7 (omega arith),
  ),
)
  where
    of : (b : Bool) → is_some (if b then Some u else None) ≡ b
    of a = grind nats

    one : (k : ℕ) → k < 8 → is_some (e.dirty (word_at l k)) ≡ c.modified (word_at l k)
    one k i = rw (h k i) (of (c.modified (word_at l k)))

pub committed-frame : {sh : Shape} {c : Cache} (e : Cache) (l u : ℕ) → IsCache sh c → Committed c e l u
    → ((t : ℕ) → frame_copy e l t ≡ frame_copy c l t + num (is_modified c l && u == t)) ×
    ((t n : ℕ) → frame_wrong e l t n ≡ frame_wrong c l t n + num ((is_modified c l && u == t) && not (modified_mask c l == n)))
unfolding frame_copy frame_wrong
committed-frame {sh} {c} e l u h f = go (is_modified c l) refl
  where
    tag : is_modified c l ≡ true → is_dirty e l ≡ true → dirty_tag e l ≡ u
    tag m d = let x = dirty-found e l d in is (c.modified (word_at l x.0)) (sym (new-dirty sh c e l u h f m x.0 x.1) ∙ x.2)
      where
        is : (b : Bool) → (if b then Some u else None) ≡ Some (dirty_tag e l) → dirty_tag e l ≡ u
        is a q = grind nats

    go : (b : Bool) → is_modified c l ≡ b
        → ((t : ℕ) → num (is_dirty e l && dirty_tag e l == t) ≡ num (is_dirty c l && dirty_tag c l == t) + num (b && u == t))
        × ((t n : ℕ) → num ((is_dirty e l && dirty_tag e l == t) && not (dirty_mask e l == n)) ≡ num
        ((is_dirty c l && dirty_tag c l == t) && not (dirty_mask c l == n)) + num ((b && u == t) && not (modified_mask c l == n)))
    go false q = let x = same-dirty c e l (λ k i. rw (none-modified c l q k i) at (f k i)) in
        (λ t. rw (x.0, x.1) (omega arith), λ t n. rw (x.0, x.1, x.2) (omega arith))
    go true q =
        let x = dirty-modified c e l u (new-dirty sh c e l u h f q) in
        let d : is_dirty e l ≡ true = x.0 ∙ q in
        let g : dirty_tag e l ≡ u = tag q d in
        let n : is_dirty c l ≡ false = clean-dirty c l (no-dirty l h q) in
        (λ t. rw (d, g, n) (omega arith), λ t m. rw (d, g, n, x.1) (omega arith))

-- The copies of a line among what a core sends, and what its instructions and evictions do to them.

-- The copies of a line among what a core sends: the dirty words that leave a frame, and the spilled words of a commit.

pub mask-copy : (l t n : ℕ) (m : Msg) → num (passes (CopyMask l t n) m) ≤ num (passes (CopyOf l t) m)
unfolding passes
mask-copy l t n m = grind nats

pub few-masks : (l t n : ℕ) (ms : List Msg) → among (CopyMask l t n) ms ≤ among (CopyOf l t) ms
unfolding among
few-masks l t n [] = omega arith
few-masks l t n (m ∷ ms) = omega (arith, mask-copy, few-masks l t n ms)

-- what leaves a frame of line k is the frame's copy of it
pub record Leaves (l k : ℕ) (c : Cache) (ms : List Msg) : Type 0 where
  pub same : k ≡ l → ((t : ℕ) → among (CopyOf l t) ms ≡ frame_copy c l t) × ((t n : ℕ) → among (CopyMask l t n) ms ≡ frame_wrong c l t n)
  pub other : k ≢ l → (t : ℕ) → among (CopyOf l t) ms ≡ 0

leaves-none : (l k : ℕ) (c : Cache) → is_dirty c k ≡ false → Leaves l k c []
unfolding frame_copy frame_wrong among
leaves-none l k c q = record {
  same = λ e. let z : is_dirty c l ≡ false = rw e at q in (λ t. rw z, λ t n. rw z);
  other = λ e t. refl;
}

-- one message of the frame's words
leaves-one : {l k : ℕ} {c : Cache} (m : Msg) → is_dirty c k ≡ true → ((t : ℕ) → passes (CopyOf l t) m ≡ ((k == l) && (dirty_tag c k == t)))
    → ((t n : ℕ) → passes (CopyMask l t n) m ≡ (((k == l) && (dirty_tag c k == t)) && not (dirty_mask c k == n))) → Leaves l k c (m ∷ [])
unfolding frame_copy frame_wrong among
leaves-one {l} {k} {c} m q f g = record {
  same = λ e. let z : is_dirty c l ≡ true = rw e at q in let y : (l == l) ≡ true = grind nats in
      (λ t. rw (f t, e, z, y) (omega arith), λ t n. rw (g t n, e, z, y) (omega arith));
  other = λ e t. let y : (k == l) ≡ false = grind nats in rw (f t, y);
}

flush-leaves : (l k : ℕ) (c : Cache) → Leaves l k c (flush_of (dirty_copy c k))
unfolding dirty_copy passes
flush-leaves l k c = go (is_dirty c k) refl
  where
    go : (b : Bool) → is_dirty c k ≡ b
        → Leaves l k c (flush_of
        (cond b (Some (record { line = k; mask = dirty_mask c k; words = dirty_words c k; tag = dirty_tag c k })) None))
    go false q = leaves-none l k c q
    go true q = leaves-one (Flush k (dirty_mask c k) (dirty_words c k) (dirty_tag c k)) q (λ t. refl) (λ t n. refl)

back-leaves : (l k : ℕ) (c : Cache) → Leaves l k c (write_back_of (dirty_copy c k))
unfolding dirty_copy passes
back-leaves l k c = go (is_dirty c k) refl
  where
    go : (b : Bool) → is_dirty c k ≡ b
        → Leaves l k c (write_back_of
        (cond b (Some (record { line = k; mask = dirty_mask c k; words = dirty_words c k; tag = dirty_tag c k })) None))
    go false q = leaves-none l k c q
    go true q = leaves-one (WriteBack k (dirty_mask c k) (dirty_words c k) (dirty_tag c k)) q (λ t. refl) (λ t n. refl)

-- they go to the line's home
at-home : (sh : Shape) {l k : ℕ} {c : Cache} {ms : List Msg} → Leaves l k c ms → Leaves l k c (to (Dir (home sh k)) ms (Dir (home sh l)))
unfolding among
at-home sh {l} {k} {c} {ms} h = go (home sh l == home sh k) refl
  where
    go : (b : Bool) → (home sh l == home sh k) ≡ b → Leaves l k c (if b then ms else [])
    go true q = h
    go false q = record {
      same = λ e. absurd (let y : (home sh l == home sh k) ≡ true = rw e (grind nats) in cc);
      other = λ e t. refl;
    }

pub flushed-leaves : (sh : Shape) (l k : ℕ) (c : Cache) → Leaves l k c (flush_line sh c k (Dir (home sh l)))
unfolding flush_line
flushed-leaves sh l k c = at-home sh (flush-leaves l k c)

pub back-home-leaves : (sh : Shape) (l k : ℕ) (c : Cache) → Leaves l k c (write_back_line sh c k (Dir (home sh l)))
unfolding write_back_line
back-home-leaves sh l k c = at-home sh (back-leaves l k c)

-- copies of some lines, one each
one-back : (p : ℕ → Bool) (f : ℕ → ℕ) (ws : ℕ → List ℕ) (u t l n : ℕ)
    → among (CopyOf l t) (flat_map (λ k. WriteBack k (f k) (ws k) u ∷ []) (those p n)) ≡ num ((nat_lt l n && p l) && u == t)
unfolding among passes those
one-back p f ws u t l zero = grind nats
one-back p f ws u t l (suc n) = rw (flat_map-append, among-append, one-back p f ws u t l n) (go (p n) refl)
  where
    go : (b : Bool) → p n ≡ b
        → num ((nat_lt l n && p l) && u == t) + among (CopyOf l t)
        (flat_map (λ k. WriteBack k (f k) (ws k) u ∷ []) (if b then n ∷ [] else [])) ≡ num ((nat_lt l (suc n) && p l) && u == t)
    go b q = grind nats

wrong-back : (p : ℕ → Bool) (f : ℕ → ℕ) (ws : ℕ → List ℕ) (u t l m n : ℕ)
    → among (CopyMask l t m) (flat_map (λ k. WriteBack k (f k) (ws k) u ∷ []) (those p n)) ≡ num
    (((nat_lt l n && p l) && u == t) && not (f l == m))
unfolding among passes those
wrong-back p f ws u t l m zero = grind nats
wrong-back p f ws u t l m (suc n) = rw (flat_map-append, among-append, wrong-back p f ws u t l m n) (go (p n) refl)
  where
    go : (b : Bool) → p n ≡ b → num (((nat_lt l n && p l) && u == t) && not (f l == m)) + among (CopyMask l t m)
        (flat_map (λ k. WriteBack k (f k) (ws k) u ∷ []) (if b then n ∷ [] else [])) ≡ num
        (((nat_lt l (suc n) && p l) && u == t) && not (f l == m))
    go b q = grind nats

-- a commit sends the spilled words, and nothing else of the kind
pub solo-copies : (sh : Shape) (c : Cache) (sp : Spilled) (u l t : ℕ) → l < lines sh → home sh l < sh.dirs
    → among (CopyOf l t) (solo_sends sh c sp u (Dir (home sh l))) ≡ num (holds sp l && u == t)
unfolding solo_sends solo_marks_or_skip solo_write_backs among passes
solo-copies sh c sp u l t i h = go (nat_lt (home sh l) sh.dirs) (grind nats) (solo_writes_at sh c sp (home sh l))
  where
    d : ℕ
    d = home sh l

    backs : among (CopyOf l t)
        (flat_map (λ k. WriteBack k (spilled_mask sp k) (spilled_words sp k) u ∷ []) (those (λ k. d == home sh k && holds sp k) (lines sh)))
        ≡ num (holds sp l && u == t)
    backs = let a : nat_lt l (lines sh) ≡ true = grind nats in let b : (home sh l == home sh l) ≡ true =
        grind nats in one-back (λ k. d == home sh k && holds sp k) (spilled_mask sp) (spilled_words sp) u t l (lines sh) ∙ rw (a, b)

    marks : among (CopyOf l t)
        (flat_map (λ k. Mark k (written_mask c sp k) u ∷ []) (those (λ k. d == home sh k && is_written c sp k) (lines sh))) ≡ 0
    marks = among-flat_map_none (CopyOf l t) (λ k. Mark k (written_mask c sp k) u ∷ [])
        (λ k. refl) (those (λ k. d == home sh k && is_written c sp k) (lines sh))

    go : (b : Bool) → b ≡ true → (w : Bool)
        → among (CopyOf l t) (if b then (if w then flat_map (λ k. Mark k (written_mask c sp k) u ∷ [])
        (those (λ k. d == home sh k && is_written c sp k) (lines sh))
        ++ Commit u (count_below (λ k. d == home sh k && is_written c sp k) (lines sh)) ∷ [] else Skip u ∷ [])
        ++ solo_write_backs sh sp u d else []) ≡ num (holds sp l && u == t)
    go false q w = absurd (cc)
    go true q true = rw (among-append, among-append, backs, marks) (omega arith)
    go true q false = rw (among-append, backs) (omega arith)

pub solo-wrong : (sh : Shape) (c : Cache) (sp : Spilled) (u l t m : ℕ) → l < lines sh → home sh l < sh.dirs
    → among (CopyMask l t m) (solo_sends sh c sp u (Dir (home sh l))) ≡ num ((holds sp l && u == t) && not (spilled_mask sp l == m))
unfolding solo_sends solo_marks_or_skip solo_write_backs among passes
solo-wrong sh c sp u l t m i h = go (nat_lt (home sh l) sh.dirs) (grind nats) (solo_writes_at sh c sp (home sh l))
  where
    d : ℕ
    d = home sh l

    backs : among (CopyMask l t m)
        (flat_map (λ k. WriteBack k (spilled_mask sp k) (spilled_words sp k) u ∷ []) (those (λ k. d == home sh k && holds sp k) (lines sh)))
        ≡ num ((holds sp l && u == t) && not (spilled_mask sp l == m))
    backs = let a : nat_lt l (lines sh) ≡ true = grind nats in let b : (home sh l == home sh l) ≡ true =
        grind nats in wrong-back (λ k. d == home sh k && holds sp k) (spilled_mask sp) (spilled_words sp) u t l m (lines sh) ∙ rw (a, b)

    marks : among (CopyMask l t m)
        (flat_map (λ k. Mark k (written_mask c sp k) u ∷ []) (those (λ k. d == home sh k && is_written c sp k) (lines sh))) ≡ 0
    marks = among-flat_map_none (CopyMask l t m) (λ k. Mark k (written_mask c sp k) u ∷ [])
        (λ k. refl) (those (λ k. d == home sh k && is_written c sp k) (lines sh))

    go : (b : Bool) → b ≡ true → (w : Bool)
        → among (CopyMask l t m) (if b then (if w then flat_map (λ k. Mark k (written_mask c sp k) u ∷ [])
        (those (λ k. d == home sh k && is_written c sp k) (lines sh))
        ++ Commit u (count_below (λ k. d == home sh k && is_written c sp k) (lines sh)) ∷ [] else Skip u ∷ [])
        ++ solo_write_backs sh sp u d else []) ≡ num ((holds sp l && u == t) && not (spilled_mask sp l == m))
    go false q w = absurd (cc)
    go true q true = rw (among-append, among-append, backs, marks) (omega arith)
    go true q false = rw (among-append, backs) (omega arith)

pub commit-copies : (sh : Shape) (c : Cache) (u l t d : ℕ) → among (CopyOf l t) (commit_sends sh c u (Dir d)) ≡ 0
unfolding commit_sends among passes
commit-copies sh c u l t d = grind arith

-- A core's instructions and evictions keep the copies of each line: dirty words that leave a frame are sent home, and a commit makes one
-- copy of each line that it stored.

-- a commit makes a copy of the line with the tag; and it has another mask
abbrev pub gains : Shape → (line : ℕ) → Option Noted → (tag : ℕ) → Bool
gains sh l None t = false
gains sh l (Some n) t = names_line sh.base n.stores l && n.tid.0 == t

abbrev pub gains_wrong : Shape → (line : ℕ) → Option Noted → (tag mask : ℕ) → Bool
gains_wrong sh l None t m = false
gains_wrong sh l (Some n) t m = (names_line sh.base n.stores l && n.tid.0 == t) && not (stores_in sh.base n.stores l == m)

pub record Conserves (sh : Shape) (l : ℕ) (s : CoreState) (o : Out) : Type 0 where
  pub copies : (t : ℕ) → frame_copy o.core.cache l t + among (CopyOf l t) (o.sends (Dir (home sh l))) ≡ frame_copy s.cache l t + num
      (gains sh l o.commit t)
  pub wrong : (t m : ℕ) → frame_wrong o.core.cache l t m + among (CopyMask l t m) (o.sends (Dir (home sh l)))
      ≡ frame_wrong s.cache l t m + num (gains_wrong sh l o.commit t m)

-- no dirty word changes, and none is sent
pub conserves-still : (sh : Shape) (l : ℕ) (s : CoreState) (o : Out) → o.commit ≡ None → SameDirty s.cache o.core.cache l
    → ((t : ℕ) → among (CopyOf l t) (o.sends (Dir (home sh l))) ≡ 0) → Conserves sh l s o
conserves-still sh l s o e h z =
    let x = same-frame s.cache o.core.cache l h in record {
      copies = λ t. rw e (omega (arith, x.0, z));
      wrong = λ t m. rw e (omega (arith, x.1, z, few-masks));
    }

-- the dirty words of line k are sent, and become clean
pub conserves-sent : (sh : Shape) {l k : ℕ} (s : CoreState) (o : Out) → o.commit ≡ None
    → ((v : ℕ) → o.core.cache.dirty v ≡ (if k == line_of v then None else s.cache.dirty v)) → Leaves l k s.cache (o.sends (Dir (home sh l)))
    → Conserves sh l s o
conserves-sent sh {l} {k} s o e h y = elim (cases_eq k l) [
  | inl q ↦ let x = y.same q in
      let z : (k == l) ≡ true = grind nats in
      let f : (t : ℕ) → frame_copy o.core.cache l t ≡ 0 = clean-frame o.core.cache l (λ i j. at-line i j z) in record {
        copies = λ t. rw e (omega (arith, f, x.0));
        wrong = λ t m. rw e (omega (arith, f, wrong-copy, x.1));
      }
  | inr q ↦ let z : (k == l) ≡ false = grind nats in conserves-still sh l s o e (λ i j. at-line i j z) (y.other q)
]
  where
    at-line : (i : ℕ) → i < 8 → {b : Bool} → (k == l) ≡ b
        → o.core.cache.dirty (word_at l i) ≡ (if b then None else s.cache.dirty (word_at l i))
    at-line i j q = let z : line_of (word_at l i) ≡ l = line_of-word_at l i j in h (word_at l i) ∙ rw (z, q)

-- nor after a store into it
pub framed-dirty : {sh : Shape} (w x : ℕ) {c : Cache} → IsCache sh c → c.held (line_of w) ≡ false → (v : ℕ)
    → (stored w x false (placed sh (line_of w) c)).dirty v ≡ c.dirty v
unfolding stored
framed-dirty w x h e v = grind (nats, dirty-placed, unheld-clean)
