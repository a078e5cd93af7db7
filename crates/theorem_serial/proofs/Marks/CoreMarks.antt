-- What a core marks: a line that it stores gets a Mark at a directory that replies, with the words that its stores name.
use Rattle.theorem_serial.proofs
use proofs.Names
use Names.{any_below-same, mask_of-none, ℕ, zero, suc, ◌+◌, ◌≡◌, ◌<◌, ◌≤◌, Bool, true, false, List, [], ◌∷◌, ◌++◌, ◌==◌, ◌&&◌, ◌||◌}
use Names.{is_some, nat_lt, if◌then◌else◌, flat_map, arith, refl, ◌⊎◌, inl, inr, cases_eq, flat_map-append, num, those, count_below}
use Names.{any_word, word_at, mask_of, Dir, Msg, Skip, Mark, Commit, WriteBack, Shape, home, lines, Cache, is_modified, modified_mask}
use Names.{written_lines, writes_at, Spilled, holds, spilled_mask, spilled_words, any_below-at, any_below-found, marks_for, solo_sends}
use Names.{solo_marks_or_skip, solo_write_backs, solo_writes_at, is_written, written_mask, Kind, Resolves, Marks, MarkOf, EmptyMarks, Skips}
use Names.{among, passes, stores_line, nats, Option, None, sym, ap, ◌∙◌, Stored, any_below, Words, stores_in, stored_mask, stores_at}
use Names.{stores_word, tested}
use proofs.Counts.{among-append, among-flat_map_none, num-same}

-- A core sends a Mark of each line that it stores to a directory that replies, and Skips and Marks to none at once.

-- marks of some lines, one each
pub one-mark : (p : ℕ → Bool) (f : ℕ → ℕ) (u t l n : ℕ)
    → among (MarkOf t l) (flat_map (λ k. Mark k (f k) u ∷ []) (those p n)) ≡ num ((u == t) && (nat_lt l n && p l))
unfolding among passes those
one-mark p f u t l zero = grind nats
one-mark p f u t l (suc n) = rw (flat_map-append, among-append, one-mark p f u t l n) (go (p n) refl)
  where
    go : (b : Bool) → p n ≡ b
        → num ((u == t) && (nat_lt l n && p l)) + among (MarkOf t l) (flat_map (λ k. Mark k (f k) u ∷ []) (if b then n ∷ [] else [])) ≡ num
        ((u == t) && (nat_lt l (suc n) && p l))
    go b q = grind nats

-- and none of another kind
pub marks-only : (k : Kind) (p : ℕ → Bool) (f : ℕ → ℕ) (u n : ℕ) → ((l x : ℕ) → num (passes k (Mark l x u)) ≡ 0)
    → among k (flat_map (λ l. Mark l (f l) u ∷ []) (those p n)) ≡ 0
unfolding among
marks-only k p f u n h = among-flat_map_none k (λ l. Mark l (f l) u ∷ []) (λ l. omega (arith, h)) (those p n)

-- none is empty, where f is no mask of nothing
full-marks : (p : ℕ → Bool) (f : ℕ → ℕ) (u n : ℕ) → ((l : ℕ) → p l ≡ true → 0 < f l)
    → among EmptyMarks (flat_map (λ k. Mark k (f k) u ∷ []) (those p n)) ≡ 0
unfolding among passes those
full-marks p f u zero h = refl
full-marks p f u (suc n) h = rw (flat_map-append, among-append, full-marks p f u n h) (go (p n) refl)
  where
    go : (b : Bool) → p n ≡ b → 0 + among EmptyMarks (flat_map (λ k. Mark k (f k) u ∷ []) (if b then n ∷ [] else [])) ≡ 0
    go a q = grind nats

-- a mask of places of which one has p
pub some-mask : (p : ℕ → Bool) (k : ℕ) → k < 8 → p k ≡ true → 0 < mask_of p
unfolding mask_of
some-mask p (suc (suc (suc (suc (suc (suc (suc (suc k)))))))) l e = absurd (omega arith)
some-mask p _ l e = rw e (omega arith)

pub modified-full : (c : Cache) (l : ℕ) → is_modified c l ≡ true → 0 < modified_mask c l
unfolding is_modified any_word modified_mask
modified-full c l e = let x = any_below-found (λ k. c.modified (word_at l k)) 8 e in
    some-mask (λ k. c.modified (word_at l k)) x.0 x.1 x.2

pub holds-found : (sp : Spilled) (l : ℕ) → holds sp l ≡ true → (k : ℕ) × (k < 8) × (is_some (sp (word_at l k)) ≡ true)
unfolding holds any_word
holds-found sp l e = any_below-found (λ k. is_some (sp (word_at l k))) 8 e

pub written-full : (c : Cache) (sp : Spilled) (l : ℕ) → is_written c sp l ≡ true → 0 < written_mask c sp l
unfolding is_written written_mask is_modified any_word
written-full c sp l e = elim (tested (is_modified c l)) [
  | inl q ↦ let x = any_below-found (λ k. c.modified (word_at l k)) 8 q in some-mask p x.0 x.1 (left x.0 x.2)
  | inr q ↦ let x = holds-found sp l (grind arith) in some-mask p x.0 x.1 (right x.0 x.2)
]
  where
    p : ℕ → Bool
    p k = c.modified (word_at l k) || is_some (sp (word_at l k))

    left : (k : ℕ) → c.modified (word_at l k) ≡ true → p k ≡ true
    left k q = rw q

    right : (k : ℕ) → is_some (sp (word_at l k)) ≡ true → p k ≡ true
    right k q = grind arith

-- what a core sends
pub marks-for : (sh : Shape) (c : Cache) (u e t l : ℕ) → among (MarkOf t l) (marks_for sh c u e) ≡ num ((u == t) && stores_line sh c e l)
unfolding marks_for written_lines stores_line
marks-for sh c u e t l = one-mark (λ k. e == home sh k && is_modified c k) (modified_mask c) u t l (lines sh)

pub full-for : (sh : Shape) (c : Cache) (u e : ℕ) → among EmptyMarks (marks_for sh c u e) ≡ 0
unfolding marks_for written_lines
full-for sh c u e =
    let second : (l : ℕ) → (e == home sh l && is_modified c l) ≡ true → is_modified c l ≡ true = λ l q. grind arith in
    full-marks (λ k. e == home sh k && is_modified c k) (modified_mask c) u (lines sh) (λ l q. modified-full c l (second l q))

pub stores-writes : (sh : Shape) (c : Cache) (d l : ℕ) → stores_line sh c d l ≡ true → writes_at sh c d ≡ true
unfolding stores_line writes_at
stores-writes sh c d l q = any_below-at (λ k. d == home sh k && is_modified c k) (lines sh) l (grind nats) (grind arith)

-- alone: marks and a Commit, or a Skip
pub solo-mark : (sh : Shape) (c : Cache) (sp : Spilled) (u d t l : ℕ) → among (MarkOf t l) (solo_sends sh c sp u (Dir d)) ≤ num (u == t)
unfolding solo_sends solo_marks_or_skip solo_write_backs among passes
solo-mark sh c sp u d t l = go (nat_lt d sh.dirs) (solo_writes_at sh c sp d)
  where
    p : ℕ → Bool
    p k = d == home sh k && is_written c sp k

    backs : among (MarkOf t l) (solo_write_backs sh sp u d) ≡ 0
    backs = among-flat_map_none (MarkOf t l) (λ k. WriteBack k (spilled_mask sp k) (spilled_words sp k) u ∷ [])
        (λ k. refl) (those (λ k. d == home sh k && holds sp k) (lines sh))

    few : (b : Bool) → num ((u == t) && b) ≤ num (u == t)
    few b = grind nats

    go : (a w : Bool)
        → among (MarkOf t l) (if a then (if w then flat_map (λ k. Mark k (written_mask c sp k) u ∷ []) (those p (lines sh))
        ++ Commit u (count_below p (lines sh)) ∷ [] else Skip u ∷ []) ++ solo_write_backs sh sp u d else []) ≤ num (u == t)
    go false w = omega arith
    go true false = rw (among-append, backs) (omega arith)
    go true true = rw (among-append, among-append, backs, one-mark p (written_mask c sp) u t l (lines sh))
        (omega (arith, few))

pub solo-full : (sh : Shape) (c : Cache) (sp : Spilled) (u d : ℕ) → among EmptyMarks (solo_sends sh c sp u (Dir d)) ≡ 0
unfolding solo_sends solo_marks_or_skip solo_write_backs among passes
solo-full sh c sp u d = go (nat_lt d sh.dirs) (solo_writes_at sh c sp d)
  where
    p : ℕ → Bool
    p k = d == home sh k && is_written c sp k

    second : (l : ℕ) → p l ≡ true → is_written c sp l ≡ true
    second l q = grind arith

    backs : among EmptyMarks (solo_write_backs sh sp u d) ≡ 0
    backs = among-flat_map_none EmptyMarks (λ k. WriteBack k (spilled_mask sp k) (spilled_words sp k) u ∷ [])
        (λ k. refl) (those (λ k. d == home sh k && holds sp k) (lines sh))

    go : (a w : Bool)
        → among EmptyMarks (if a then (if w then flat_map (λ k. Mark k (written_mask c sp k) u ∷ []) (those p (lines sh))
        ++ Commit u (count_below p (lines sh)) ∷ [] else Skip u ∷ []) ++ solo_write_backs sh sp u d else []) ≡ 0
    go false w = refl
    go true false = rw (among-append, backs) (omega arith)
    go true true =
        rw (among-append, among-append, backs, full-marks p (written_mask c sp) u (lines sh) (λ k q. written-full c sp k (second k q)))
        (omega arith)

-- where it skips, it sends no mark
pub solo-skips : (sh : Shape) (c : Cache) (sp : Spilled) (u d t l : ℕ) → 1 ≤ among (Skips t) (solo_sends sh c sp u (Dir d))
    → among (MarkOf t l) (solo_sends sh c sp u (Dir d)) ≡ 0
unfolding solo_sends solo_marks_or_skip solo_write_backs among passes
solo-skips sh c sp u d t l h = grind (nats, among-flat_map_none, among-append, marks-only)

pub solo-owned : (sh : Shape) (c : Cache) (sp : Spilled) (u d t : ℕ)
    → among (Marks t) (solo_sends sh c sp u (Dir d)) + among (Resolves t) (solo_sends sh c sp u (Dir d)) ≡ 0 ⊎ (u ≡ t)
unfolding solo_sends solo_marks_or_skip solo_write_backs among passes
solo-owned sh c sp u d t =
    elim (cases_eq u t) [ inl e ↦ inr e | inr n ↦ inl (none (grind nats) (nat_lt d sh.dirs) (solo_writes_at sh c sp d)) ]
  where
    p : ℕ → Bool
    p k = d == home sh k && is_written c sp k

    backs : (k : Kind) → ((x m : ℕ) (ws : List ℕ) → num (passes k (WriteBack x m ws u)) ≡ 0) → among k (solo_write_backs sh sp u d) ≡ 0
    backs k e = among-flat_map_none k (λ x. WriteBack x (spilled_mask sp x) (spilled_words sp x) u ∷ [])
        (λ x. omega (arith, e)) (those (λ x. d == home sh x && holds sp x) (lines sh))

    sends : (a w : Bool) → List Msg
    sends a w = if a then (if w then flat_map (λ k. Mark k (written_mask c sp k) u ∷ []) (those p (lines sh))
        ++ Commit u (count_below p (lines sh)) ∷ [] else Skip u ∷ []) ++ solo_write_backs sh sp u d else []

    none : (u == t) ≡ false → (a w : Bool) → among (Marks t) (sends a w) + among (Resolves t) (sends a w) ≡ 0
    none q false w = refl
    none q true false = rw (among-append, backs (Marks t) (λ x m ws. refl), among-append, backs (Resolves t) (λ x m ws. refl)) (grind arith)
    none q true true =
        rw (
          among-append,
          among-append,
          backs (Marks t) (λ x m ws. refl),
          marks-only (Marks t) p (written_mask c sp) u (lines sh) (λ x m. rw q),
          among-append,
          among-append,
          backs (Resolves t) (λ x m ws. refl),
          marks-only (Resolves t) p (written_mask c sp) u (lines sh) (λ x m. refl),
        ) (grind arith)

-- The masks of the words that an attempt's stores name are those of the words that are modified or spilled; so a core stores at a
-- directory where its stores do.

mask-any : (p : ℕ → Bool) → nat_lt 0 (mask_of p) ≡ any_below p 8
mask-any p = elim (tested (any_below p 8)) [
  | inl e ↦ let r = any_below-found p 8 e in let n : 0 < mask_of p = some-mask p r.0 r.1 r.2 in rw e (grind nats)
  | inr e ↦ rw (e, mask_of-none p (none e))
]
  where
    none : any_below p 8 ≡ false → (k : ℕ) → k < 8 → p k ≡ false
    none e k l = elim (tested (p k)) [ inr q ↦ q | inl q ↦ let a : any_below p 8 ≡ true = any_below-at p 8 k l q in absurd (cc) ]

any-or : (p q : ℕ → Bool) (n : ℕ) → any_below (λ k. p k || q k) n ≡ (any_below p n || any_below q n)
unfolding any_below
any-or p q zero = refl
any-or p q (suc n) = rw (any-or p q n) (go (any_below p n) (any_below q n) (p n) (q n))
  where
    go : (a b c d : Bool) → ((a || b) || (c || d)) ≡ ((a || c) || (b || d))
    go a b c d = grind nats

-- a line at home at the directory has a stored word exactly where its mask has one
pub stored-line : (sh : Shape) (d : ℕ) (ss : List Stored) (l : ℕ)
    → num (nat_lt l (lines sh) && (d == home sh l && any_word (stores_word sh.base ss) l)) ≡ num (nat_lt 0 (stored_mask sh d ss l))
unfolding stored_mask stores_in any_word
stored-line sh d ss l = grind (nats, mask-any)

pub stored-any : (sh : Shape) (d : ℕ) (ss : List Stored) (p : ℕ → Bool)
    → ((l : ℕ) → num (nat_lt l (lines sh) && p l) ≡ num (nat_lt 0 (stored_mask sh d ss l))) → any_below p (lines sh) ≡ stores_at sh d ss
unfolding stores_at
stored-any sh d ss p h = grind (nats, any_below-same, num-same)

-- where just the words that the stores name are modified
pub modified-line : (base : ℕ) (c : Cache) (ss : List Stored) (l : ℕ) → ((w : ℕ) → c.modified w ≡ stores_word base ss w)
    → is_modified c l ≡ any_word (stores_word base ss) l
unfolding is_modified
modified-line base c ss l h = ap {A = ℕ → Bool} (λ f. any_word f l) (λ i w. h w i)

pub modified-stored : (base : ℕ) (c : Cache) (ss : List Stored) (l : ℕ) → ((w : ℕ) → c.modified w ≡ stores_word base ss w)
    → stores_in base ss l ≡ modified_mask c l
unfolding modified_mask stores_in
modified-stored base c ss l h = sym (ap {A = ℕ → Bool} (λ f. mask_of (λ k. f (word_at l k))) (λ i w. h w i))

-- where they are modified or spilled
pub written-line : (base : ℕ) (c : Cache) (sp : Spilled) (ss : List Stored) (l : ℕ)
    → ((w : ℕ) → (c.modified w || is_some (sp w)) ≡ stores_word base ss w) → is_written c sp l ≡ any_word (stores_word base ss) l
unfolding is_written is_modified holds any_word
written-line base c sp ss l h = sym (any-or (λ k. c.modified (word_at l k)) (λ k. is_some (sp (word_at l k))) 8)
    ∙ ap {A = ℕ → Bool} (λ f. any_below (λ k. f (word_at l k)) 8) (λ i w. h w i)

pub written-stored : (base : ℕ) (c : Cache) (sp : Spilled) (ss : List Stored) (l : ℕ)
    → ((w : ℕ) → (c.modified w || is_some (sp w)) ≡ stores_word base ss w) → stores_in base ss l ≡ written_mask c sp l
unfolding written_mask stores_in
written-stored base c sp ss l h = sym (ap {A = ℕ → Bool} (λ f. mask_of (λ k. f (word_at l k))) (λ i w. h w i))

-- the mask is that of the stored words where the line is at home there, and else empty
pub stored-cases : (sh : Shape) (d : ℕ) (ss : List Stored) (l : ℕ) → (stored_mask sh d ss l ≡ stores_in sh.base ss l)
    ⊎ (stored_mask sh d ss l ≡ 0)
unfolding stored_mask
stored-cases sh d ss l = go (nat_lt l (lines sh) && d == home sh l)
  where
    go : (b : Bool) → ((if b then stores_in sh.base ss l else 0) ≡ stores_in sh.base ss l) ⊎ ((if b then stores_in sh.base ss l else 0) ≡ 0)
    go true = inl refl
    go false = inr refl

-- where a core stores
pub stored-solo : (sh : Shape) (c : Cache) (sp : Spilled) (ss : List Stored) (d : ℕ)
    → ((w : ℕ) → (c.modified w || is_some (sp w)) ≡ stores_word sh.base ss w) → solo_writes_at sh c sp d ≡ stores_at sh d ss
unfolding solo_writes_at
stored-solo sh c sp ss d h = ap {A = ℕ → Bool} (λ f. any_below (λ l. d == home sh l && f l) (lines sh))
    (λ i l. written-line sh.base c sp ss l h i) ∙ stored-any sh d ss (λ l. d == home sh l && any_word (stores_word sh.base ss) l)
    (stored-line sh d ss)

-- one that isn't alone has spilled nothing
pub unspilled : (sh : Shape) (c : Cache) (sp : Spilled) (ss : List Stored) → Words sh false c sp ss → (w : ℕ)
    → c.modified w ≡ stores_word sh.base ss w
unspilled sh c sp ss h w =
    let none : (x : Option ℕ) (b : Bool) → x ≡ None → b ≡ (b || is_some x) = λ x b e. rw e (grind arith) in
    none (sp w) (c.modified w) (h.spilled_alone refl w) ∙ h.named w

pub stored-written : (sh : Shape) (c : Cache) (sp : Spilled) (ss : List Stored) (d : ℕ) → Words sh false c sp ss
    → writes_at sh c d ≡ stores_at sh d ss
unfolding writes_at
stored-written sh c sp ss d h = ap {A = ℕ → Bool} (λ f. any_below (λ l. d == home sh l && f l) (lines sh))
    (λ i l. modified-line sh.base c ss l (unspilled sh c sp ss h) i)
    ∙ stored-any sh d ss (λ l. d == home sh l && any_word (stores_word sh.base ss) l) (stored-line sh d ss)
