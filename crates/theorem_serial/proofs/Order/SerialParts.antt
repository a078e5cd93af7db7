-- The serial execution that gave the commits, cut in two at a TID, and what a core sees there that may commit.
use Rattle.rules_program.specs.Plain.{stepped, close}
use Rattle.rules_program.specs.Ram.{stored}
use Rattle.theorem_serial.proofs
use proofs.Names
use Names.{ℕ, suc, ◌≡◌, ◌<◌, ◌≤◌, Bool, true, false, ◌==◌, ◌||◌, List, [], ◌∷◌, ◌++◌, map, Contains, nat_lt, if◌then◌else◌, arith, refl, ap}
use Names.{Noted, num, order_of_commit, insert_commit, commits_touch, orders_core, IsBelow, IsRising, times, loads_word, stores_word, zero}
use Names.{Option, Some, None, IfSome, ap₂, sym, ◌∙◌, Size, Stored, Word, CoreEnd, Run, last_tid, Attempt, Plain, Order, Outcome, Goes}
use Names.{store_of, begun, steps, then_step, when_going, plain_step, transaction, close_if, closed, end_of, if_runs, commit_of, and_commit}
use Names.{after_order, serial, Local, Program, Need, Stores, Changes, word_of, patched, loaded, after_stores, ◌⊎◌, inl, inr, line_of, Msg}
use Names.{Shape, home, DirState, World, Uses, Agrees, InvBelow, InvsNot, live, passes, pair, is_applied, counts, after_commits, value_at}
use Names.{IsDoomed, EachUse, nats, home_of, tid_at}
use proofs.Counts.{live-fewer}
use proofs.OneCore.{stored-put}

-- The commits cut at a TID: those before it and those behind it, and a commit of this TID between them.
unfoldable pub before : (tid : ℕ) → List Noted → List Noted
before t [] = []
before t (n ∷ ns) = if nat_lt t n.tid.0 then [] else n ∷ before t ns

unfoldable pub behind : (tid : ℕ) → List Noted → List Noted
behind t [] = []
behind t (n ∷ ns) = if nat_lt t n.tid.0 then n ∷ ns else behind t ns

pub cut-joined : (t : ℕ) (ns : List Noted) → ns ≡ before t ns ++ behind t ns
unfolding before behind
cut-joined t [] = refl
cut-joined t (n ∷ ns) = go (nat_lt t n.tid.0) (cut-joined t ns)
  where
    go : (b : Bool) → ns ≡ before t ns ++ behind t ns → n ∷ ns ≡ (if b then [] else n ∷ before t ns) ++ (if b then n ∷ ns else behind t ns)
    go true e = refl
    go false e = ap (λ q. n ∷ q) e

pub cut-inserted : (x : Noted) (ns : List Noted) → insert_commit x ns ≡ before x.tid.0 ns ++ x ∷ behind x.tid.0 ns
unfolding before behind insert_commit
cut-inserted x [] = refl
cut-inserted x (n ∷ ns) = go (nat_lt x.tid.0 n.tid.0) (cut-inserted x ns)
  where
    go : (b : Bool) → insert_commit x ns ≡ before x.tid.0 ns ++ x ∷ behind x.tid.0 ns
        → (if b then x ∷ n ∷ ns else n ∷ insert_commit x ns) ≡ (if b then [] else n ∷ before x.tid.0 ns)
        ++ x ∷ (if b then n ∷ ns else behind x.tid.0 ns)
    go true e = refl
    go false e = ap (λ q. n ∷ q) e

-- each of the commits
unfoldable pub Each : (Noted → Type 0) → List Noted → Type 0
Each P [] = Unit {0}
Each P (n ∷ ns) = P n × Each P ns

pub each-listed : (P : Noted → Type 0) (ns : List Noted) → ((n : Noted) → Contains ns n → P n) → Each P ns
unfolding Each
each-listed P [] h = tt
each-listed P (n ∷ ns) h = (h n (0, omega arith, refl), each-listed P ns (λ k c. h k (suc c.0, omega arith, c.2)))

pub each-behind : (P : Noted → Type 0) (t : ℕ) (ns : List Noted) → Each P ns → Each P (behind t ns)
unfolding Each behind
each-behind P t [] h = tt
each-behind P t (n ∷ ns) h = go (nat_lt t n.tid.0) (each-behind P t ns h.1)
  where
    go : (b : Bool) → Each P (behind t ns) → Each P (if b then n ∷ ns else behind t ns)
    go true e = h
    go false e = e

pub each-both : (P Q : Noted → Type 0) (ns : List Noted) → Each P ns → Each Q ns → Each (λ n. P n × Q n) ns
unfolding Each
each-both P Q [] h k = tt
each-both P Q (n ∷ ns) h k = ((h.0, k.0), each-both P Q ns h.1 k.1)

pub each-then : (P Q : Noted → Type 0) (ns : List Noted) → ((n : Noted) → P n → Q n) → Each P ns → Each Q ns
unfolding Each
each-then P Q [] f h = tt
each-then P Q (n ∷ ns) f h = (f n h.0, each-then P Q ns f h.1)

-- by rising TID: those behind it are larger, those before it smaller where none has it
above-last : (t last : ℕ) (ns : List Noted) → t ≤ last → IsRising last ns → Each (λ n. t < n.tid.0) ns
unfolding Each IsRising
above-last t last [] l r = tt
above-last t last (n ∷ ns) l r = let q : last < n.tid.0 = r.0 in (omega arith, above-last t n.tid.0 ns (omega arith) r.1)

pub behind-larger : (t last : ℕ) (ns : List Noted) → IsRising last ns → Each (λ n. t < n.tid.0) (behind t ns)
unfolding Each IsRising behind
behind-larger t last [] r = tt
behind-larger t last (n ∷ ns) r = go (nat_lt t n.tid.0) refl (behind-larger t n.tid.0 ns r.1)
  where
    go : (b : Bool) → nat_lt t n.tid.0 ≡ b → Each (λ k. t < k.tid.0) (behind t ns)
        → Each (λ k. t < k.tid.0) (if b then n ∷ ns else behind t ns)
    go true q e = let l : t < n.tid.0 = grind nats in (l, above-last t n.tid.0 ns (omega arith) r.1)
    go false q e = e

pub before-smaller : (t : ℕ) (ns : List Noted) → times t ns ≡ 0 → Each (λ n. n.tid.0 < t) (before t ns)
unfolding Each before times
before-smaller t [] z = tt
before-smaller t (n ∷ ns) z = go (nat_lt t n.tid.0) refl (before-smaller t ns (omega arith))
  where
    smaller : nat_lt t n.tid.0 ≡ false → num (n.tid.0 == t) ≡ 0 → n.tid.0 < t
    smaller q k = grind nats

    go : (b : Bool) → nat_lt t n.tid.0 ≡ b → Each (λ k. k.tid.0 < t) (before t ns)
        → Each (λ k. k.tid.0 < t) (if b then [] else n ∷ before t ns)
    go true q e = tt
    go false q e = (smaller q (omega arith), e)

-- as orders
pub behind-below : (t : ℕ) (ns : List Noted) → IsBelow t (map order_of_commit (behind t ns))
unfolding behind
behind-below t [] = tt
behind-below t (n ∷ ns) = go (nat_lt t n.tid.0) refl (behind-below t ns)
  where
    go : (b : Bool) → nat_lt t n.tid.0 ≡ b → IsBelow t (map order_of_commit (behind t ns))
        → IsBelow t (map order_of_commit (if b then n ∷ ns else behind t ns))
    go true q e = grind nats
    go false q e = e

pub orders-another : (c : ℕ) (ns : List Noted) → Each (λ n. (n.core.0 == c) ≡ false) ns → orders_core (map order_of_commit ns) c ≡ false
unfolding Each orders_core
orders-another c [] h = refl
orders-another c (n ∷ ns) h = rw h.0 (orders-another c ns h.1)

pub touch-none : (base w : ℕ) (ns : List Noted) → Each (λ n. (loads_word base n.loads w || stores_word base n.stores w) ≡ false) ns
    → commits_touch base ns w ≡ false
unfolding Each commits_touch
touch-none base w [] h = refl
touch-none base w (n ∷ ns) h = rw h.0 (touch-none base w ns h.1)

-- The serial execution that gave the commits, cut in two, and what it makes of each word.

-- cut in two
pub record SerialCut (base : ℕ) (p : Program) (last : ℕ) (early late : List Noted) (m end : Plain) : Type 0 where
  pub start : Plain
  pub first : serial base p last (map order_of_commit early) m ≡ Some (start, early)
  pub then_late : serial base p (last_tid last (map order_of_commit early)) (map order_of_commit late) start ≡ Some (end, late)

commits_in : Option (Plain × List Noted) → List Noted
commits_in None = []
commits_in (Some r) = r.1

plain_in : Plain → Option (Plain × List Noted) → Plain
plain_in m None = m
plain_in m (Some r) = r.0

pub serial-cut : (base : ℕ) (p : Program) (last : ℕ) (early late : List Noted) (m end : Plain)
    → serial base p last (map order_of_commit (early ++ late)) m ≡ Some (end, early ++ late) → SerialCut base p last early late m end
unfolding serial commits_in plain_in
serial-cut base p last [] late m end h = record { start = m; first = refl; then_late = h }
serial-cut base p last (n ∷ early) late m end h = go (nat_lt last n.tid.0) refl (transaction base p m n.core.0 n.n) refl h
    (λ k g. serial-cut base p n.tid.0 early late k end g)
  where
    os : List Order
    os = map order_of_commit (early ++ late)

    found : (k : Plain) (c : Noted) → (r : Option (Plain × List Noted)) → serial base p n.tid.0 os k ≡ r
        → and_commit c r ≡ Some (end, n ∷ early ++ late) → (c ≡ n) × (serial base p n.tid.0 os k ≡ Some (end, early ++ late))
    found k c None e q = absurd (cc)
    found k c (Some r) e q =
        let l : c ∷ r.1 ≡ n ∷ (early ++ late) = ap commits_in q in
        let i : r.0 ≡ end = ap (plain_in end) q in
        let j : r.1 ≡ early ++ late = cc in
        (cc, e ∙ ap₂ (λ x y. Some (x, y)) i j)

    made : {b : Bool} → nat_lt last n.tid.0 ≡ b → {d : Plain × Attempt} → transaction base p m n.core.0 n.n ≡ Some d
        → (commit_of (order_of_commit n) d.1 ≡ n) → b ≡ true → SerialCut base p n.tid.0 early late d.0 end
        → SerialCut base p last (n ∷ early) late m end
    made q e f t c = record { start = c.start; first = rw (q, t, e, c.first, f); then_late = c.then_late }

    go : (b : Bool) → nat_lt last n.tid.0 ≡ b → (x : Option (Plain × Attempt)) → transaction base p m n.core.0 n.n ≡ x
        → (if b then after_order (serial base p n.tid.0 os) (order_of_commit n) x else None) ≡ Some (end, n ∷ early ++ late)
        → ((k : Plain) → serial base p n.tid.0 os k ≡ Some (end, early ++ late) → SerialCut base p n.tid.0 early late k end)
        → SerialCut base p last (n ∷ early) late m end
    go false q x e g f = absurd (cc)
    go true q None e g f = absurd (cc)
    go true q (Some d) e g f = let r = found d.0 (commit_of (order_of_commit n) d.1) (serial base p n.tid.0 os d.0) refl g in
        made q e r.0 refl (f d.0 r.1)

-- what it makes of a word
after_stores-last : (base : ℕ) (ss : List Stored) (s : Stored) (x y : ℕ)
    → after_stores base (ss ++ s ∷ []) x y ≡ (if word_of base s.addr == x then patched (after_stores base ss x y) s.addr s.size s.value
    else after_stores base ss x y)
unfolding after_stores
after_stores-last base [] s x y = refl
after_stores-last base (r ∷ ss) s x y =
    after_stores-last base ss s x (if word_of base r.addr == x then patched y r.addr r.size r.value else y)

-- the word is as the stores leave it
abbrev pub Holds : (base x y : ℕ) → Attempt → Type 0
Holds base x y a = a.ram x ≡ after_stores base a.stores x y

stored-holds : (base addr : ℕ) (size : Size) (value x y : ℕ) (ram : ℕ → ℕ) (ss : List Stored) → ram x ≡ after_stores base ss x y
    → stored base ram addr size value x ≡ after_stores base (ss ++ store_of addr size value ∷ []) x y
stored-holds base addr size value x y ram ss h = grind (nats, stored-put, after_stores-last)

stepped-holds : (base : ℕ) (p : Program) (x y : ℕ) (a : Attempt) (need : Need) → Holds base x y a → Holds base x y (stepped base p a need)
stepped-holds base p x y a (Stores addr size value) h = stored-holds base addr size value x y a.ram a.stores h
stepped-holds base p x y a (Changes addr changed) h =
    stored-holds base addr Word (changed (loaded base a.ram addr Word)) x y a.ram a.stores h
stepped-holds base p x y a _ h = h

then-holds : (base : ℕ) (p : Program) (x y : ℕ) (o : Option Attempt) → IfSome o (Holds base x y)
    → IfSome (then_step base p o) (Holds base x y)
unfolding plain_step
then-holds base p x y None h = tt
then-holds base p x y (Some a) h = go a.outcome
  where
    go : (o : Outcome) → IfSome (when_going base p a o) (Holds base x y)
    go Goes = stepped-holds base p x y a (p.need a.local) h
    go _ = tt

pub steps-hold : (base : ℕ) (p : Program) (n : ℕ) (l : Local) (ram : ℕ → ℕ) (x : ℕ)
    → IfSome (steps base p n (begun l ram)) (Holds base x (ram x))
unfolding steps begun after_stores
steps-hold base p zero l ram x = refl
steps-hold base p (suc n) l ram x = then-holds base p x (ram x) (steps base p n (begun l ram)) (steps-hold base p n l ram x)

transaction-holds : (base : ℕ) (p : Program) (m : Plain) (core n x : ℕ)
    → IfSome (transaction base p m core n) (λ d. d.0.ram x ≡ after_stores base d.1.stores x (m.ram x))
unfolding transaction closed
transaction-holds base p m core n x = go (m.cores core).ended (steps base p n (begun (m.cores core).local m.ram))
    (steps-hold base p n (m.cores core).local m.ram x)
  where
    one : (a : Attempt) (e : Option CoreEnd) → Holds base x (m.ram x) a
        → IfSome (close m core a e) (λ d. d.0.ram x ≡ after_stores base d.1.stores x (m.ram x))
    one a None h = tt
    one a (Some e) h = h

    go : (e : CoreEnd) (o : Option Attempt) → IfSome o (Holds base x (m.ram x))
        → IfSome (if_runs e (close_if m core o)) (λ d. d.0.ram x ≡ after_stores base d.1.stores x (m.ram x))
    go Run None h = tt
    go Run (Some a) h = one a (end_of a.outcome) h
    go _ o h = tt

-- a word after the stores of all these commits
unfoldable pub all_stores : (base x : ℕ) → List Noted → ℕ → ℕ
all_stores base x [] y = y
all_stores base x (n ∷ ns) y = all_stores base x ns (after_stores base n.stores x y)

pub serial-holds : (base : ℕ) (p : Program) (last : ℕ) (os : List Order) (m : Plain) (x : ℕ)
    → IfSome (serial base p last os m) (λ r. r.0.ram x ≡ all_stores base x r.1 (m.ram x))
unfolding serial all_stores commit_of
serial-holds base p last [] m x = refl
serial-holds base p last (o ∷ os) m x = go (nat_lt last o.tid) (transaction base p m o.core o.n) (transaction-holds base p m o.core o.n x)
    (λ k. serial-holds base p o.tid os k x)
  where
    more : (d : Plain × Attempt) → d.0.ram x ≡ after_stores base d.1.stores x (m.ram x) → (y : Option (Plain × List Noted))
        → IfSome y (λ r. r.0.ram x ≡ all_stores base x r.1 (d.0.ram x))
        → IfSome (and_commit (commit_of o d.1) y) (λ r. r.0.ram x ≡ all_stores base x r.1 (m.ram x))
    more d e None h = tt
    more d e (Some r) h = h ∙ ap (all_stores base x r.1) e

    go : (b : Bool) (t : Option (Plain × Attempt)) → IfSome t (λ d. d.0.ram x ≡ after_stores base d.1.stores x (m.ram x))
        → ((k : Plain) → IfSome (serial base p o.tid os k) (λ r. r.0.ram x ≡ all_stores base x r.1 (k.ram x)))
        → IfSome (if b then after_order (serial base p o.tid os) o t else None) (λ r. r.0.ram x ≡ all_stores base x r.1 (m.ram x))
    go false t e h = tt
    go true None e h = tt
    go true (Some d) e h = more d e (serial base p o.tid os d.0) (h d.0)

-- What a core that may commit sees at its TID: the commits before it, all of which have come to the homes of the words that it used.

-- every word has a home
pub home-below : (sh : Shape) (x : ℕ) → 1 ≤ sh.dirs → home_of sh x < sh.dirs
home-below sh x h = omega arith

-- commits that count, and those that don't
after-append : (base : ℕ) (s : DirState) (c b : Option ℕ) (x : ℕ) (es ls : List Noted) (y : ℕ)
    → after_commits base s c b x (es ++ ls) y ≡ after_commits base s c b x ls (after_commits base s c b x es y)
unfolding after_commits
after-append base s c b x [] ls y = refl
after-append base s c b x (e ∷ es) ls y = after-append base s c b x es ls (if counts s c b e then after_stores base e.stores x y else y)

after-counted : (base : ℕ) (s : DirState) (c b : Option ℕ) (x : ℕ) (es : List Noted) (y : ℕ) → Each (λ n. counts s c b n ≡ true) es
    → after_commits base s c b x es y ≡ all_stores base x es y
unfolding after_commits all_stores Each
after-counted base s c b x [] y h = refl
after-counted base s c b x (e ∷ es) y h = rw h.0 (after-counted base s c b x es (after_stores base e.stores x y) h.1)

after-uncounted : (base : ℕ) (s : DirState) (c b : Option ℕ) (x : ℕ) (es : List Noted) (y : ℕ) → Each (λ n. counts s c b n ≡ false) es
    → after_commits base s c b x es y ≡ y
unfolding after_commits Each
after-uncounted base s c b x [] y h = refl
after-uncounted base s c b x (e ∷ es) y h = rw h.0 (after-uncounted base s c b x es y h.1)

counts-before : (s : DirState) (c : Option ℕ) (t : ℕ) (n : Noted) → t ≤ s.serving.serving → n.tid.0 < t → counts s c (Some t) n ≡ true
unfolding counts is_applied
counts-before s c t n l h = grind nats

counts-behind : (s : DirState) (c : Option ℕ) (t : ℕ) (n : Noted) → t < n.tid.0 → counts s c (Some t) n ≡ false
unfolding counts
counts-behind s c t n h = let e : nat_lt n.tid.0 t ≡ false = grind nats in rw e

-- a word at a home that has reached the TID
pub value-before : (base : ℕ) (ram : ℕ → ℕ) (cs : List Noted) (s : DirState) (c : Option ℕ) (t x : ℕ) → IsRising 0 cs → times t cs ≡ 0
    → t ≤ s.serving.serving → value_at base ram cs s c (Some t) x ≡ all_stores base x (before t cs) (ram x)
unfolding value_at
value-before base ram cs s c t x r z l = ap (λ q. after_commits base s c (Some t) x q (ram x)) (cut-joined t cs)
    ∙ (after-append base s c (Some t) x (before t cs) (behind t cs) (ram x)
    ∙ (after-uncounted base s c (Some t) x (behind t cs) (after_commits base s c (Some t) x (before t cs) (ram x))
    (each-then (λ n. t < n.tid.0) (λ n. counts s c (Some t) n ≡ false) (behind t cs) (counts-behind s c t) (behind-larger t 0 cs r))
    ∙ after-counted base s c (Some t) x (before t cs) (ram x)
    (each-then (λ n. n.tid.0 < t) (λ n. counts s c (Some t) n ≡ true) (before t cs) (λ n. counts-before s c t n l)
    (before-smaller t cs z))))

-- there nothing dooms
below-other : (x t s : ℕ) (m : Msg) → t ≤ s → num (passes (InvBelow x t) m) ≤ num (passes (InvsNot s) m)
unfolding passes
below-other x t s m l = grind nats

undoomed : (w : World) (c d t x : ℕ) → t ≤ tid_at w d → live (InvsNot (tid_at w d)) (pair w c d).back ≡ 0
    → IsDoomed (Some t) x (pair w c d) → ⊥
undoomed w c d t x l z h =
    omega (arith, live-fewer (InvBelow x t) (InvsNot (tid_at w d)) (λ m. below-other x t (tid_at w d) m l) (pair w c d).back)

-- so the view is what the commits before left
pub agrees-before : (sh : Shape) (ram there : ℕ → ℕ) (w : World) (cs : List Noted) (c t : ℕ) (us : Uses) → 1 ≤ sh.dirs → IsRising 0 cs
    → times t cs ≡ 0
    → ((x : ℕ) → there x ≡ all_stores sh.base x (before t cs) (ram x))
    → ((d : ℕ) → live (InvsNot (tid_at w d)) (pair w c d).back ≡ 0)
    → EachUse (λ x y. t ≤ tid_at w (home_of sh x)) us
    → ((d : ℕ) → d < sh.dirs
    → EachUse (λ x y. home sh (line_of x) ≡ d → (y ≡ value_at sh.base ram cs (w.dirs d) (Some c) (Some t) x)
    ⊎ IsDoomed (Some t) x (pair w c d)) us)
    → Agrees us there
agrees-before sh ram there w cs c t [] i r z is free l v = tt
agrees-before sh ram there w cs c t (u ∷ us) i r z is free l v = (
  go ((v (home_of sh u.0) (home-below sh u.0 i)).0 refl),
  agrees-before sh ram there w cs c t us i r z is free l.1 (λ d k. (v d k).1),
)
  where
    go : (u.1 ≡ value_at sh.base ram cs (w.dirs (home_of sh u.0)) (Some c) (Some t) u.0)
        ⊎ IsDoomed (Some t) u.0 (pair w c (home_of sh u.0)) → there u.0 ≡ u.1
    go (inl e) = is u.0 ∙ sym (e ∙ value-before sh.base ram cs (w.dirs (home_of sh u.0)) (Some c) t u.0 r z l.0)
    go (inr h) = absurd (undoomed w c (home_of sh u.0) t u.0 l.0 (free (home_of sh u.0)) h)

-- the last TID before it
pub last-below : (t last : ℕ) (ns : List Noted) → last < t → Each (λ n. n.tid.0 < t) ns → last_tid last (map order_of_commit ns) < t
unfolding Each
last-below t last [] l h = l
last-below t last (n ∷ ns) l h = last-below t n.tid.0 ns h.0 h.1
