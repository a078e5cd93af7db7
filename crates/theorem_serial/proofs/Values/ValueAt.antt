-- The value of a word by the commits, and the newest of its copies; then the values at homes.
use Rattle.theorem_serial.proofs
use proofs.Names
use Names.{ℕ, zero, suc, ◌≡◌, ◌<◌, ◌⊎◌, Bool, true, false, ◌==◌, ◌||◌, List, [], ◌∷◌, length, Contains, Option, slice_index_or, nat_lt}
use Names.{if◌then◌else◌, arith, refl, sym, ap, ◌∙◌, Noted, Stored, word_of, patched, DirState, insert_commit, IsRising, stores_word}
use Names.{after_stores, counts, after_commits, value_at, nats, ◌+◌, ◌≤◌, not, ◌&&◌, ◌++◌, get_or, Some, None, unwrap_or, nat_le, flat_map}
use Names.{inl, inr, flat_map-append, num, those, line_of, place_of, hit, Msg, WriteBack, Flush, Shape, World, Link, Copy, numbers, copy_of}
use Names.{copies_on, copy_in, copies_of, copies, newest, home_copy, seen, CopyWord, CopyNot, live, passes, pair, is_this, word_copies}
use Names.{CopiesHave, home_of, to_dir, Kind, Commits, CommitsInMemory, Pair, CommitsStand, stores_at, HomeWords, CopiesAbove}
use Names.{names_line, IsCache, History, CommitsAreServed, copies_with, KeptTags, KeptAbove, KeptOwned, Invs, CopyOf, CopiesInMemory}
use Names.{OwedInFlight, KeptNamed, MarksOfCommits, KeptWhole, KeptStored, is_applied, tid_at, FromCore, ◌≢◌}
use proofs.Copies.{stored-home, Consumes}
use proofs.Counts.{num-same}
use proofs.Marks.DirRecords.{NoCommit, Dropped}
use proofs.Memory.CoreHomes.{line-has}
use proofs.Tids.{live-some}
use proofs.Values.WordCopies.{HomeBy, Left, Home, word-line}

-- What a word's value becomes where commits count otherwise, and where one more is inserted.

-- stores that don't name the word leave it
pub after_stores-other : (base : ℕ) (ss : List Stored) (x y : ℕ) → stores_word base ss x ≡ false → after_stores base ss x y ≡ y
unfolding after_stores stores_word
after_stores-other base [] x y h = refl
after_stores-other base (s ∷ ss) x y h = go (word_of base s.addr == x) h (after_stores-other base ss x y)
  where
    go : (b : Bool) → (b || stores_word base ss x) ≡ false → (stores_word base ss x ≡ false → after_stores base ss x y ≡ y)
        → after_stores base ss x (if b then patched y s.addr s.size s.value else y) ≡ y
    go a q f = grind nats

-- what one commit makes of the word
abbrev pub with_commit : (base : ℕ) → DirState → (core bound : Option ℕ) → (word : ℕ) → Noted → (value : ℕ) → ℕ
with_commit base s c b x n y = if counts s c b n then after_stores base n.stores x y else y

-- a commit that makes nothing of the word: it doesn't count or doesn't store it
abbrev pub IsSilent : (base : ℕ) → DirState → (core bound : Option ℕ) → (word : ℕ) → Noted → Type 0
IsSilent base s c b x n = (counts s c b n ≡ false) ⊎ (stores_word base n.stores x ≡ false)

silent-with : (base : ℕ) (s : DirState) (c b : Option ℕ) (x : ℕ) (n : Noted) (y : ℕ) → IsSilent base s c b x n
    → with_commit base s c b x n y ≡ y
silent-with base s c b x n y a = grind (nats, after_stores-other)

-- a commit makes the same of the word for both, s, c, b and r, e, a: it counts alike, or doesn't store it
abbrev pub IsAlike : (base : ℕ) → (s : DirState) → (c b : Option ℕ) → (r : DirState) → (e a : Option ℕ) → (word : ℕ) → Noted → Type 0
IsAlike base s c b r e a x n = (counts s c b n ≡ counts r e a n) ⊎ (stores_word base n.stores x ≡ false)

with-alike : (base : ℕ) (s : DirState) (c b : Option ℕ) (r : DirState) (e a : Option ℕ) (x : ℕ) (n : Noted) (y : ℕ)
    → IsAlike base s c b r e a x n → with_commit base s c b x n y ≡ with_commit base r e a x n y
with-alike base s c b r e a x n y d = grind (nats, silent-with)

first-held : (m : Noted) (cs : List Noted) → Contains (m ∷ cs) m
first-held m cs = (0, omega arith, refl)

later-held : (m n : Noted) (cs : List Noted) → Contains cs n → Contains (m ∷ cs) n
later-held m n cs k = (suc k.0, omega arith, k.2)

after-alike : (base : ℕ) (s : DirState) (c b : Option ℕ) (r : DirState) (e a : Option ℕ) (x : ℕ) (cs : List Noted) (y : ℕ)
    → ((n : Noted) → Contains cs n → IsAlike base s c b r e a x n) → after_commits base s c b x cs y ≡ after_commits base r e a x cs y
unfolding after_commits
after-alike base s c b r e a x [] y h = refl
after-alike base s c b r e a x (m ∷ cs) y h = ap (after_commits base s c b x cs) (with-alike base s c b r e a x m y (h m (first-held m cs)))
    ∙ after-alike base s c b r e a x cs (with_commit base r e a x m y) (λ n k. h n (later-held m n cs k))

-- commits that count alike give the same value
pub value-alike : (base : ℕ) (ram : ℕ → ℕ) (cs : List Noted) (s : DirState) (c b : Option ℕ) (r : DirState) (e a : Option ℕ) (x : ℕ)
    → ((n : Noted) → Contains cs n → IsAlike base s c b r e a x n) → value_at base ram cs s c b x ≡ value_at base ram cs r e a x
unfolding value_at
value-alike base ram cs s c b r e a x h = after-alike base s c b r e a x cs (ram x) h

after-silent : (base : ℕ) (s : DirState) (c b : Option ℕ) (x : ℕ) (cs : List Noted) (y : ℕ)
    → ((n : Noted) → Contains cs n → IsSilent base s c b x n) → after_commits base s c b x cs y ≡ y
unfolding after_commits
after-silent base s c b x [] y h = refl
after-silent base s c b x (m ∷ cs) y h = ap (after_commits base s c b x cs) (silent-with base s c b x m y (h m (first-held m cs)))
    ∙ after-silent base s c b x cs y (λ n k. h n (later-held m n cs k))

-- a commit that makes nothing of the word is inserted
after-skip : (base : ℕ) (s : DirState) (c b : Option ℕ) (x : ℕ) (n : Noted) (cs : List Noted) (y : ℕ) → IsSilent base s c b x n
    → after_commits base s c b x (insert_commit n cs) y ≡ after_commits base s c b x cs y
unfolding after_commits insert_commit
after-skip base s c b x n [] y h = silent-with base s c b x n y h
after-skip base s c b x n (m ∷ cs) y h = go (nat_lt n.tid.0 m.tid.0) (after-skip base s c b x n cs (with_commit base s c b x m y) h)
  where
    go : (k : Bool) → after_commits base s c b x (insert_commit n cs) (with_commit base s c b x m y) ≡ after_commits base s c b x cs
        (with_commit base s c b x m y) → after_commits base s c b x (if k then n ∷ m ∷ cs else m ∷ insert_commit n cs) y
        ≡ after_commits base s c b x cs (with_commit base s c b x m y)
    go a q = grind (nats, silent-with)

pub value-skip : (base : ℕ) (ram : ℕ → ℕ) (n : Noted) (cs : List Noted) (s : DirState) (c b : Option ℕ) (x : ℕ) → IsSilent base s c b x n
    → value_at base ram (insert_commit n cs) s c b x ≡ value_at base ram cs s c b x
unfolding value_at
value-skip base ram n cs s c b x h = after-skip base s c b x n cs (ram x) h

-- a commit is inserted below which all stand that make something of the word
pub rising-above : (last : ℕ) (cs : List Noted) (n : Noted) → IsRising last cs → Contains cs n → last < n.tid.0
unfolding IsRising
rising-above last [] n r k = absurd (omega arith)
rising-above last (m ∷ cs) n r k = go k.0 k.1 k.2 (rising-above m.tid.0 cs n r.1)
  where
    go : (i : ℕ) → i < suc (length cs) → slice_index_or (m ∷ cs) i n ≡ n → (Contains cs n → m.tid.0 < n.tid.0) → last < n.tid.0
    go a l e f = grind nats

after-insert : (base : ℕ) (s : DirState) (c b : Option ℕ) (x last : ℕ) (n : Noted) (cs : List Noted) (y : ℕ) → IsRising last cs
    → ((m : Noted) → Contains cs m → n.tid.0 < m.tid.0 → IsSilent base s c b x m)
    → after_commits base s c b x (insert_commit n cs) y ≡ with_commit base s c b x n (after_commits base s c b x cs y)
unfolding after_commits insert_commit IsRising
after-insert base s c b x last n [] y r h = refl
after-insert base s c b x last n (m ∷ cs) y r h = go (nat_lt n.tid.0 m.tid.0) refl
    (after-insert base s c b x m.tid.0 n cs (with_commit base s c b x m y) r.1 (λ k i l. h k (later-held m k cs i) l))
  where
    above : n.tid.0 < m.tid.0 → (k : Noted) → Contains (m ∷ cs) k → IsSilent base s c b x k
    above l k i = h k i (go i.0 i.1 i.2)
      where
        go : (j : ℕ) → j < suc (length cs) → slice_index_or (m ∷ cs) j k ≡ k → n.tid.0 < k.tid.0
        go zero p e = let q : m.tid.0 ≡ k.tid.0 = ap (λ z. z.tid.0) e in omega arith
        go (suc j) p e = omega (arith, rising-above m.tid.0 cs k r.1 (j, omega arith, e))

    go : (k : Bool) → nat_lt n.tid.0 m.tid.0 ≡ k → after_commits base s c b x (insert_commit n cs) (with_commit base s c b x m y)
        ≡ with_commit base s c b x n (after_commits base s c b x cs (with_commit base s c b x m y))
        → after_commits base s c b x (if k then n ∷ m ∷ cs else m ∷ insert_commit n cs) y ≡ with_commit base s c b x n
        (after_commits base s c b x cs (with_commit base s c b x m y))
    go true q f = let l : n.tid.0 < m.tid.0 = grind nats in
        after-silent base s c b x (m ∷ cs) (with_commit base s c b x n y) (above l)
        ∙ sym (ap (with_commit base s c b x n) (after-silent base s c b x (m ∷ cs) y (above l)))
    go false q f = f

pub value-insert : (base : ℕ) (ram : ℕ → ℕ) (n : Noted) (cs : List Noted) (s : DirState) (c b : Option ℕ) (x : ℕ) → IsRising 0 cs
    → ((m : Noted) → Contains cs m → n.tid.0 < m.tid.0 → IsSilent base s c b x m)
    → value_at base ram (insert_commit n cs) s c b x ≡ with_commit base s c b x n (value_at base ram cs s c b x)
unfolding value_at
value-insert base ram n cs s c b x r h = after-insert base s c b x 0 n cs (ram x) r h

-- What is seen of a word is the value of its copies with the greatest tag, where they all have one value.

-- no copy has a greater tag, and those with this one have the value
unfoldable Top : (tag value : ℕ) → List Copy → Type 0
Top t y [] = Unit {0}
Top t y (b ∷ bs) = (b.tag ≤ t) × (b.tag ≡ t → b.value ≡ y) × Top t y bs

-- how many have it
unfoldable tagged : (tag : ℕ) → List Copy → ℕ
tagged t [] = 0
tagged t (b ∷ bs) = num (b.tag == t) + tagged t bs

top-append : (t y : ℕ) (xs bs : List Copy) → Top t y xs → Top t y bs → Top t y (xs ++ bs)
unfolding Top
top-append t y [] bs h k = k
top-append t y (a ∷ xs) bs h k = (h.0, h.1, top-append t y xs bs h.2 k)

tagged-append : (t : ℕ) (xs bs : List Copy) → tagged t (xs ++ bs) ≡ tagged t xs + tagged t bs
unfolding tagged
tagged-append t [] bs = omega arith
tagged-append t (a ∷ xs) bs = omega (arith, tagged-append t xs bs)

newest-top : (t y : ℕ) (a : Copy) (bs : List Copy) → Top t y bs → a.tag ≤ t → ((a.tag ≡ t) × (a.value ≡ y)) ⊎ (1 ≤ tagged t bs)
    → (newest a bs).value ≡ y
unfolding newest Top tagged
newest-top t y a [] h l (inl e) = e.1
newest-top t y a [] h l (inr e) = absurd (omega arith)
newest-top t y a (b ∷ bs) h l e = go (b.tag == t) refl (nat_le a.tag b.tag) refl (λ c. newest-top t y c bs h.2)
  where
    more : (b.tag == t) ≡ false → 1 ≤ num (b.tag == t) + tagged t bs → 1 ≤ tagged t bs
    more q k = let z : num (b.tag == t) ≡ 0 = ap num q in omega arith

    old : (b.tag == t) ≡ false → ((a.tag ≡ t) × (a.value ≡ y)) ⊎ (1 ≤ num (b.tag == t) + tagged t bs)
        → ((a.tag ≡ t) × (a.value ≡ y)) ⊎ (1 ≤ tagged t bs)
    old q (inl i) = inl i
    old q (inr k) = inr (more q k)

    new : (b.tag == t) ≡ false → nat_le a.tag b.tag ≡ true → ((a.tag ≡ t) × (a.value ≡ y)) ⊎ (1 ≤ num (b.tag == t) + tagged t bs)
        → ((b.tag ≡ t) × (b.value ≡ y)) ⊎ (1 ≤ tagged t bs)
    new q p (inl i) = absurd (let k : b.tag ≤ t = h.0 in let j : a.tag ≡ t = i.0 in grind nats)
    new q p (inr k) = inr (more q k)

    go : (f : Bool) → (b.tag == t) ≡ f → (g : Bool) → nat_le a.tag b.tag ≡ g
        → ((c : Copy) → c.tag ≤ t → ((c.tag ≡ t) × (c.value ≡ y)) ⊎ (1 ≤ tagged t bs) → (newest c bs).value ≡ y)
        → (newest (if g then b else a) bs).value ≡ y
    go a q b p rest = grind nats

-- the copies of one core

-- a message on its way home
one-copy : (x t y k n : ℕ) (ws : List ℕ) (g : ℕ) (b : Bool) → hit k n x ≡ b → (t < g → num (b && (g == g)) ≡ 0)
    → num ((b && (g == t)) && not (get_or ws (place_of x) 0 == y)) ≡ 0
    → Top t y (if b then record { tag = g; value = get_or ws (place_of x) 0 } ∷ [] else [])
    × (tagged t (if b then record { tag = g; value = get_or ws (place_of x) 0 } ∷ [] else []) ≡ num (b && (g == t)))
unfolding Top tagged
one-copy x t y k n ws g false e f z = (tt, refl)
one-copy x t y k n ws g true e f z =
    let has : g ≡ t → get_or ws (place_of x) 0 ≡ y = λ i. grind nats in
    ((low (nat_le g t) refl, has, tt), omega arith)
  where
    low : (c : Bool) → nat_le g t ≡ c → g ≤ t
    low a q = grind nats

on-way : (x t y : ℕ) (m : Msg) → ((g : ℕ) → t < g → num (passes (CopyWord x g) m) ≡ 0) → num (passes (CopyNot x t y) m) ≡ 0
    → Top t y (copy_of x m) × (tagged t (copy_of x m) ≡ num (passes (CopyWord x t) m))
unfolding passes Top tagged
on-way x t y (WriteBack k n ws g) f z = one-copy x t y k n ws g (hit k n x) refl (f g) z
on-way x t y (Flush k n ws g) f z = one-copy x t y k n ws g (hit k n x) refl (f g) z
on-way x t y _ f z = (tt, refl)

on-link : (x t y : ℕ) (l : Link) → ((g : ℕ) → t < g → live (CopyWord x g) l ≡ 0) → live (CopyNot x t y) l ≡ 0
    → Top t y (copies_on x l) × (tagged t (copies_on x l) ≡ live (CopyWord x t) l)
unfolding live copies_on Top tagged
on-link x t y [] f z = (tt, refl)
on-link x t y (None ∷ l) f z = on-link x t y l f z
on-link x t y (Some m ∷ l) f z =
    let a = on-way x t y m (λ g i. omega (arith, f)) (omega arith) in
    let b = on-link x t y l (λ g i. omega (arith, f g i)) (omega arith) in
    (top-append t y (copy_of x m) (copies_on x l) a.0 b.0, omega (arith, tagged-append))

in-frame : (t y : ℕ) (value dirty : Option ℕ) → ((g : ℕ) → t < g → num (is_this dirty g) ≡ 0) → (dirty ≡ Some t → value ≡ Some y)
    → Top t y (copy_in value dirty) × (tagged t (copy_in value dirty) ≡ num (is_this dirty t))
unfolding Top tagged
in-frame t y value None f h = (tt, refl)
in-frame t y value (Some g) f h =
    let has : g ≡ t → unwrap_or value 0 ≡ y = λ i. rw (h (ap Some i)) in
    ((low (nat_le g t) refl, has, tt), omega arith)
  where
    low : (c : Bool) → nat_le g t ≡ c → g ≤ t
    low true q = grind nats
    low false q = absurd (let l : t < g = grind nats in let i : (g == g) ≡ true = grind nats in
        let o : num (g == g) ≡ 1 = ap num i in omega (arith, f))

core-copies : (sh : Shape) (w : World) (x t y c : ℕ) → ((g : ℕ) → t < g → word_copies x g (pair w c (home_of sh x)) ≡ 0)
    → CopiesHave x t y (pair w c (home_of sh x))
    → Top t y (copies_of sh w x c) × (tagged t (copies_of sh w x c) ≡ word_copies x t (pair w c (home_of sh x)))
unfolding copies_of word_copies pair
core-copies sh w x t y c f h =
    let a = in-frame t y ((w.cores c).cache.value x) ((w.cores c).cache.dirty x) (λ g i. omega (arith, f)) h.framed in
    let b = on-link x t y (to_dir w c (home_of sh x)) (λ g i. omega (arith, f g i)) h.sent in (
      top-append t y (copy_in ((w.cores c).cache.value x) ((w.cores c).cache.dirty x)) (copies_on x (to_dir w c (home_of sh x))) a.0 b.0,
      omega (arith, tagged-append),
    )

-- those of all cores
all-top : (t y : ℕ) (f : ℕ → List Copy) (n : ℕ) → ((c : ℕ) → c < n → Top t y (f c)) → Top t y (flat_map f (numbers n))
unfolding those Top
all-top t y f zero h = tt
all-top t y f (suc n) h =
    rw flat_map-append (top-append t y (flat_map f (numbers n)) (f n ++ []) (all-top t y f n (λ c l. h c (omega arith)))
    (top-append t y (f n) [] (h n (omega arith)) tt))

all-tagged : (t : ℕ) (f : ℕ → List Copy) (n c : ℕ) → c < n → tagged t (f c) ≤ tagged t (flat_map f (numbers n))
unfolding those tagged
all-tagged t f zero c l = absurd (omega arith)
all-tagged t f (suc n) c l = rw flat_map-append (go (c == n) refl (all-tagged t f n c))
  where
    go : (b : Bool) → (c == n) ≡ b → (c < n → tagged t (f c) ≤ tagged t (flat_map f (numbers n)))
        → tagged t (f c) ≤ tagged t (flat_map f (numbers n) ++ (f n ++ []))
    go a q r = grind (nats, tagged-append)

-- The greatest tag of a word and its value: no copy has a greater one, those that have it have the value, and there is one, or the
-- word at home has it.
pub record Greatest (sh : Shape) (w : World) (x t y : ℕ) : Type 0 where
  pub none : (c g : ℕ) → c < sh.cores → t < g → word_copies x g (pair w c (home_of sh x)) ≡ 0
  pub have : (c : ℕ) → c < sh.cores → CopiesHave x t y (pair w c (home_of sh x))
  pub line : (w.dirs (home_of sh x)).lines.tag (line_of x) ≤ t
  pub some : ((c : ℕ) → c < sh.cores → word_copies x t (pair w c (home_of sh x)) ≡ 0)
      → ((w.dirs (home_of sh x)).lines.tag (line_of x) ≡ t) × ((w.dirs (home_of sh x)).words x ≡ y)

pub seen-greatest : {sh : Shape} {w : World} {x t y : ℕ} → Greatest sh w x t y → seen sh w x ≡ y
unfolding seen copies home_copy
seen-greatest {sh} {w} {x} {t} {y} k = newest-top t y (home_copy sh w x) (flat_map (copies_of sh w x) (numbers sh.cores))
    (all-top t y (copies_of sh w x) sh.cores (λ c l. (core c l).0)) k.line
    (go (nat_le 1 (tagged t (flat_map (copies_of sh w x) (numbers sh.cores)))) refl)
  where
    core : (c : ℕ) → c < sh.cores
        → Top t y (copies_of sh w x c) × (tagged t (copies_of sh w x c) ≡ word_copies x t (pair w c (home_of sh x)))
    core c l = core-copies sh w x t y c (λ g. k.none c g l) (k.have c l)

    go : (b : Bool) → nat_le 1 (tagged t (flat_map (copies_of sh w x) (numbers sh.cores))) ≡ b
        → (((w.dirs (home_of sh x)).lines.tag (line_of x) ≡ t) × ((w.dirs (home_of sh x)).words x ≡ y))
        ⊎ (1 ≤ tagged t (flat_map (copies_of sh w x) (numbers sh.cores)))
    go true q = inr (grind nats)
    go false q = inl (k.some (λ c l. let z : tagged t (flat_map (copies_of sh w x) (numbers sh.cores)) ≡ 0 = grind nats in
        omega (arith, all-tagged t (copies_of sh w x) sh.cores c l, (core c l).1)))

-- The values of one word at its home and in its copies, and what keeps them.

-- one word, at its home

-- the value that a word has for all, and for one core
abbrev pub value_of : Shape → (ram : ℕ → ℕ) → World → List Noted → (dir : ℕ) → (core : Option ℕ) → (word : ℕ) → ℕ
value_of sh ram w cs d c x = value_at sh.base ram cs (w.dirs d) c None x

abbrev pub tag_of : World → (dir word : ℕ) → ℕ
tag_of w d x = (w.dirs d).lines.tag (line_of x)

pub record ValuesAt (sh : Shape) (ram : ℕ → ℕ) (w : World) (cs : List Noted) (d x : ℕ) : Type 0 where
  pub at_home : ((c : ℕ) → c < sh.cores → word_copies x (tag_of w d x) (pair w c d) ≡ 0)
      → (w.dirs d).words x ≡ value_of sh ram w cs d None x
  pub in_copies : (c : ℕ) → c < sh.cores → CopiesHave x (tag_of w d x) (value_of sh ram w cs d None x) (pair w c d)
  pub above : (c t : ℕ) → c < sh.cores → tag_of w d x < t → CopiesHave x t (value_of sh ram w cs d (Some c) x) (pair w c d)

abbrev pub KeptValues : Shape → (ℕ → ℕ) → World → List Noted → Type 0
KeptValues sh ram w cs = (d x : ℕ) → d < sh.dirs → home_of sh x ≡ d → ValuesAt sh ram w cs d x

pub values-of : {sh : Shape} {ram : ℕ → ℕ} {w : World} {cs : List Noted} → HomeWords sh ram w cs → CopiesAbove sh ram w cs
    → KeptValues sh ram w cs
values-of a b d x dl e =
    record { at_home = a.at_home d x dl e; in_copies = λ c cl. a.in_copies c d x cl dl e; above = λ c t cl i. b c d x t cl dl e i }

pub from-values : {sh : Shape} {ram : ℕ → ℕ} {w : World} {cs : List Noted} → KeptValues sh ram w cs
    → HomeWords sh ram w cs × CopiesAbove sh ram w cs
from-values k = (
  record { at_home = λ d x dl e. (k d x dl e).at_home; in_copies = λ c d x cl dl e. (k d x dl e).in_copies c cl },
  λ c d x t cl dl e i. (k d x dl e).above c t cl i,
)

-- an event that leaves the cores, the line's tag and the word's values
pub record Stands (sh : Shape) (ram : ℕ → ℕ) (w v : World) (cs : List Noted) (d x : ℕ) : Type 0 where
  pub cores : v.cores ≡ w.cores
  pub tag : tag_of v d x ≡ tag_of w d x
  pub others : (c t y : ℕ) → live (CopyNot x t y) (to_dir v c d) ≤ live (CopyNot x t y) (to_dir w c d)
  pub value : (c : Option ℕ) → value_of sh ram v cs d c x ≡ value_of sh ram w cs d c x
  pub home : ((c : ℕ) → c < sh.cores → word_copies x (tag_of w d x) (pair v c d) ≡ 0) → (v.dirs d).words x ≡ value_of sh ram w cs d None x

pub have-still : {x t y z : ℕ} {a : Pair} (b : Pair) → b.core ≡ a.core → live (CopyNot x t y) b.out ≤ live (CopyNot x t y) a.out → z ≡ y
    → CopiesHave x t y a → CopiesHave x t z b
have-still {x} b e l q h = record {
  framed = λ r. ap (λ s. s.cache.value x) e ∙ h.framed (sym (ap (λ s. s.cache.dirty x) e) ∙ r) ∙ ap (λ n. Some n) (sym q);
  sent = rw q (omega arith);
}

stands-keep : {sh : Shape} {ram : ℕ → ℕ} {w v : World} {cs : List Noted} {d x : ℕ} → Stands sh ram w v cs d x → ValuesAt sh ram w cs d x
    → ValuesAt sh ram v cs d x
unfolding pair
stands-keep {sh} {ram} {w} {v} {cs} {d} {x} s h = record {
  at_home = λ p. s.home (λ c cl. rw s.tag at (p c cl)) ∙ sym (s.value None);
  in_copies = λ c cl. rw s.tag (have-still
      (pair v c d) (ap (λ f. f c) s.cores) (s.others c (tag_of w d x) (value_of sh ram w cs d None x)) (s.value None) (h.in_copies c cl));
  above = λ c t cl i. have-still (pair v c d)
      (ap (λ f. f c) s.cores) (s.others c t (value_of sh ram w cs d (Some c) x)) (s.value (Some c)) (h.above c t cl (rw s.tag at i));
}

-- the same where no copy with the line's tag is consumed
pub record Quiet (sh : Shape) (ram : ℕ → ℕ) (w v : World) (cs : List Noted) (d x : ℕ) : Type 0 where
  pub cores : v.cores ≡ w.cores
  pub tag : tag_of v d x ≡ tag_of w d x
  pub words : (v.dirs d).words x ≡ (w.dirs d).words x
  pub copies : (c : ℕ) → live (CopyWord x (tag_of w d x)) (to_dir v c d) ≡ live (CopyWord x (tag_of w d x))
      (to_dir w c d)
  pub others : (c t y : ℕ) → live (CopyNot x t y) (to_dir v c d) ≤ live (CopyNot x t y) (to_dir w c d)
  pub value : (c : Option ℕ) → value_of sh ram v cs d c x ≡ value_of sh ram w cs d c x

pub same-copies : (x t : ℕ) (a b : Pair) → b.core ≡ a.core → live (CopyWord x t) b.out ≡ live (CopyWord x t) a.out
    → word_copies x t a ≡ word_copies x t b
unfolding word_copies
same-copies x t a b e f = rw (e, f)

pub quiet-keep : {sh : Shape} {ram : ℕ → ℕ} {w : World} (v : World) {cs : List Noted} {d x : ℕ} → Quiet sh ram w v cs d x
    → ValuesAt sh ram w cs d x → ValuesAt sh ram v cs d x
unfolding pair
quiet-keep {w} v {d} {x} q h = stands-keep (record {
  cores = q.cores;
  tag = q.tag;
  others = q.others;
  value = q.value;
  home = λ p. q.words ∙ h.at_home (λ c cl. same-copies x (tag_of w d x) (pair w c d) (pair v c d) (ap (λ f. f c) q.cores) (q.copies c)
      ∙ p c cl);
}) h

-- the same where neither the directory nor what was sent to it is different
pub same-values : {sh : Shape} {ram : ℕ → ℕ} {w : World} (v : World) {cs : List Noted} {d x : ℕ} → v.cores ≡ w.cores → v.dirs d ≡ w.dirs d
    → ((k : Kind) (c : ℕ) → live k (to_dir v c d) ≡ live k (to_dir w c d)) → ValuesAt sh ram w cs d x → ValuesAt sh ram v cs d x
same-values {sh} {ram} {w} v {cs} {d} {x} e f g h = quiet-keep v (record {
  cores = e;
  tag = ap (λ s. s.lines.tag (line_of x)) f;
  words = ap (λ s. s.words x) f;
  copies = λ c. g (CopyWord x (tag_of w d x)) c;
  others = λ c t y. omega (arith, g);
  value = λ c. ap (λ s. value_at sh.base ram cs s c None x) f;
}) h

-- which commits count

-- a commit that stored the word stored at the word's home
pub stored-at-home : {sh : Shape} (cs : List Noted) (n : Noted) {d : ℕ} (x : ℕ) → CommitsInMemory sh cs → Contains cs n → home_of sh x ≡ d
    → stores_word sh.base n.stores x ≡ true → stores_at sh d n.stores ≡ true
unfolding names_line
stored-at-home {sh} cs n x k i e s = stored-home sh (line_of x) n ((k n i).stored x s) e (line-has (stores_word sh.base n.stores) x s)

-- no Commit of a commit that stored the word is consumed
abbrev pub SameCommits : Shape → World → World → List Noted → (dir word : ℕ) → Type 0
SameCommits sh w v cs d x = (n : Noted) → Contains cs n → stores_word sh.base n.stores x ≡ true
    → live (Commits n.tid.0) (to_dir v n.core.0 d) ≡ live (Commits n.tid.0) (to_dir w n.core.0 d)

-- then each word has the same value for each core
pub same-value : {sh : Shape} (ram : ℕ → ℕ) (w v : World) (cs : List Noted) {d : ℕ} (x : ℕ) → CommitsStand sh w cs → CommitsStand sh v cs
    → CommitsInMemory sh cs → d < sh.dirs → home_of sh x ≡ d → SameCommits sh w v cs d x → (c : Option ℕ)
    → value_of sh ram v cs d c x ≡ value_of sh ram w cs d c x
unfolding counts
same-value {sh} ram w v cs {d} x a b k dl e f c = value-alike sh.base ram cs (v.dirs d) c None (w.dirs d) c None x
    (λ n i. go n i (stores_word sh.base n.stores x) refl)
  where
    go : (n : Noted) → Contains cs n → (y : Bool) → stores_word sh.base n.stores x ≡ y
        → (counts (v.dirs d) c None n ≡ counts (w.dirs d) c None n) ⊎ (stores_word sh.base n.stores x ≡ false)
    go n i false q = inr q
    go n i true q =
        let s = stored-at-home cs n x k i e q in
        let y : is_applied (v.dirs d) n.tid.0 ≡ is_applied (w.dirs d) n.tid.0 =
        num-same (is_applied (v.dirs d) n.tid.0) (is_applied (w.dirs d) n.tid.0) (omega (arith, a n d i dl s, b n d i dl s, f n i q)) in
        inl (rw y)

-- The answers of a directory that leave the tag of a word's line keep the word's values: no copy with this tag is consumed, or it comes
-- home.

-- what the proofs take from the list
pub record Known (sh : Shape) (ram : ℕ → ℕ) (h : History) : Type 0 where
  pub caches : (c : ℕ) → IsCache sh (h.world.cores c).cache
  pub rising : IsRising 0 h.commits
  pub stand : CommitsStand sh h.world h.commits
  pub served : CommitsAreServed sh h.world
  pub stored : KeptStored sh h.commits h.world
  pub marks : MarksOfCommits sh h.commits h.world
  pub whole : KeptWhole sh h.world
  pub tags : KeptTags sh h.world h.commits
  pub owned : KeptOwned sh h.world
  pub above : KeptAbove sh h.world h.commits
  pub inside : CommitsInMemory sh h.commits
  pub copies : CopiesInMemory sh h.world
  pub invs : OwedInFlight sh h.world
  pub named : KeptNamed sh h.world
  pub spared : (c d l : ℕ) → d < sh.dirs → (h.world.dirs d).lines.owner l ≡ Some c
      → (h.world.dirs d).lines.tag l ≡ tid_at h.world d → live Invs (pair h.world c d).back ≡ 0
  pub values : KeptValues sh ram h.world h.commits

-- a message of core c to directory d is consumed, and of the rest only the directory is different
pub record Answers (sh : Shape) (h : History) (c d : ℕ) (m : Msg) (v : World) : Type 0 where
  pub cores : v.cores ≡ h.world.cores
  pub net : Consumes h.world c d m v
  pub stand : CommitsStand sh v h.commits

-- a kind that the message isn't of
pub unconsumed : (b : Bool) {m : Bool} → m ≡ false → num (b && m) ≡ 0
unconsumed a e = grind nats

-- nothing is consumed at another directory
elsewhere : (a b y : Bool) → b ≡ false → num ((a && b) && y) ≡ 0
elsewhere a b y e = grind nats

quiet-commits : {sh : Shape} {h : History} {c d : ℕ} (x : ℕ) {m : Msg} {v : World} → Answers sh h c d m v → NoCommit m
    → SameCommits sh h.world v h.commits d x
quiet-commits {c} {d} x a n y i s = omega (arith, a.net (Commits y.tid.0) y.core.0 d, unconsumed (y.core.0 == c && d == d) (n y.tid.0))

-- the word stays, and no copy of it is consumed; or a copy with its line's tag comes home
pub taken-values : {sh : Shape} {ram : ℕ → ℕ} (h : History) (c d k x : ℕ) (m : Msg) {v : World} → Known sh ram h → c < sh.cores
    → d < sh.dirs → home_of sh x ≡ d → FromCore h.world c d k m → Answers sh h c d m v → NoCommit m → tag_of v d x ≡ tag_of h.world d x
    → HomeBy (h.world.dirs d) m x (v.dirs d) → ValuesAt sh ram v h.commits d x
unfolding pair
taken-values {ram} h c d k x m {v} b cl dl e i a n t (Left w f) = quiet-keep v (record {
  cores = a.cores;
  tag = t;
  words = w;
  copies =
      λ j. omega (
        arith,
        a.net (CopyWord x (tag_of h.world d x)) j d,
        unconsumed (j == c && d == d) (f (tag_of h.world d x)),
      );
  others = λ j u y. omega (arith, a.net);
  value = same-value ram h.world v h.commits x b.stand a.stand b.inside dl e (quiet-commits x a n);
}) (b.values d x dl e)
taken-values {sh} {ram} h c d k x m {v} b cl dl e i a n t (Home f g) = stands-keep (record {
  cores = a.cores;
  tag = t;
  others = λ j u y. omega (arith, a.net);
  value = same-value ram h.world v h.commits x b.stand a.stand b.inside dl e (quiet-commits x a n);
  home = λ p. came ((v.dirs d).words x == y) refl;
}) (b.values d x dl e)
  where
    y : ℕ
    y = value_of sh ram h.world h.commits d None x

    -- the copy that came had the word's value
    came : (z : Bool) → ((v.dirs d).words x == y) ≡ z → (v.dirs d).words x ≡ y
    came true q = grind nats
    came false q = absurd (let o : num (passes (CopyNot x (tag_of h.world d x) y) m) ≡ 1 = rw (g y, q) in
        omega (arith, live-some (CopyNot x (tag_of h.world d x) y) (to_dir h.world c d) k m i, ((b.values d x dl e).in_copies c cl).sent))

-- a copy that is dropped doesn't have the line's tag
pub dropped-values : {sh : Shape} {ram : ℕ → ℕ} (h : History) (c d k x : ℕ) (m : Msg) {v : World} → Known sh ram h → c < sh.cores
    → d < sh.dirs → home_of sh x ≡ d → FromCore h.world c d k m → Answers sh h c d m v → v.dirs d ≡ h.world.dirs d
    → Dropped (h.world.dirs d) c m → ValuesAt sh ram v h.commits d x
unfolding pair copies_with
dropped-values {ram} h c d k x m {v} b cl dl e i a f n = quiet-keep v (record {
  cores = a.cores;
  tag = ap (λ s. s.lines.tag (line_of x)) f;
  words = ap (λ s. s.words x) f;
  copies =
      λ j. omega (
        arith,
        a.net (CopyWord x g) j d,
        unconsumed (j == c && d == d) (old (passes (CopyWord x g) m) refl),
      );
  others = λ j u y. omega (arith, a.net);
  value = same-value ram h.world v h.commits x b.stand a.stand b.inside dl e (quiet-commits x a n.commit);
}) (b.values d x dl e)
  where
    l : ℕ
    l = line_of x

    g : ℕ
    g = tag_of h.world d x

    old : (y : Bool) → passes (CopyWord x g) m ≡ y → y ≡ false
    old false q = refl
    old true q = absurd (of (passes (CopyOf l g) m) refl)
      where
        of : (z : Bool) → passes (CopyOf l g) m ≡ z → ⊥
        of false r = let o : num (passes (CopyWord x g) m) ≡ 1 = ap num q in let p : num (passes (CopyOf l g) m) ≡ 0 = ap num r in
            omega (arith, word-line)
        of true r =
            let o : num (passes (CopyOf l g) m) ≡ 1 = ap num r in
            let s : 1 ≤ live (CopyOf l g) (to_dir h.world c d) = omega (arith, live-some (CopyOf l g) (to_dir h.world c d) k m i) in
            let p : num (is_this ((h.world.dirs d).lines.owner l) c) ≡ 0 = ap num (n.other l r) in
            omega (arith, b.owned c d l cl dl (b.copies c d l g s) e)

-- at another directory
pub away-values : {sh : Shape} {ram : ℕ → ℕ} (h : History) (c d e x : ℕ) (m : Msg) {v : World} → Known sh ram h → e ≢ d → e < sh.dirs
    → home_of sh x ≡ e → Answers sh h c d m v → v.dirs e ≡ h.world.dirs e → ValuesAt sh ram v h.commits e x
away-values h c d e x m {v} b n el q a f = same-values v a.cores f
    (λ k j. omega (arith, a.net k j e, elsewhere (j == c) (e == d) (passes k m) (grind nats))) (b.values e x el q)
