-- A word in a core's frames and in the Fills on their way to the core: it has its value, or an invalidation of it is on its way too.
use Rattle.rules_tcc.specs.DirDeliver.{dir_commit}
use Rattle.theorem_serial.proofs
use proofs.Names
use Names.{eight-at, eq-self as same, moved_on_if_settled, owned_by_committer, invalidation_count, load_unless_owned, keeps_unmodified}
use Names.{false, CommitsAreServed, CommitsInMemory, flat_map-append, is_invalidated, if◌then◌else◌, invalidations, arith, SettledCommit}
use Names.{any_below-at, after_answer, CommitsStand, load_request, stores_word, count_below, Option, has-mask_of, KeptLoading, KeptSharers}
use Names.{CommitsLine, KeptCounted, stored_mask, is_applied, with_asked, ℕ, home_words, holds_line, KeptStored, stores_at, ask_owner}
use Names.{dir_takes, stores_in, Contains, place_of, any_word, DirState, value_at, is_stale, has_mark, dir_asks, flat_map, cases_eq, ◌≡◌}
use Names.{SharerOf, is_fresh, IsRising, is_some, line_of, word_at, FillNot, InvWord, Commits, is_this, DataReq, mask_of, Awaited, invs_to}
use Names.{FillOf, passes, counts, get_or, nat_le, Answer, nat_lt, Commit, LoadOf, Bool, Noted, Shape, World, among, subst, Sends, Waits}
use Names.{Drops, Takes, those, Lines, lines, true, ◌&&◌, ◌||◌, List, Some, None, refl, Core, Link, live, Pair, pair, zero, ◌==◌, Fill}
use Names.{Asks, cond, Kind, ◌<◌, ◌≤◌, ◌⊎◌, not, inl, inr, num, Msg, Dir, suc, ◌∷◌, set, ◌∙◌, ◌+◌, sym, has, hit, Inv, [], ap, to, nats}
use Names.{home_of, tid_at, to_dir, to_core, FromCore, ◌≢◌}
use proofs.Counts.{live-sends, live-fewer, among-fewer, num-same, live-takes, among-append, either, dir-own, dir-other, pairs_dir}
use proofs.Counts.{pairs_asks, differ, OfAnswer}
use proofs.Lines.LineOwners.{FillsBy}
use proofs.Marks.CoreMarks.{some-mask}
use proofs.Marks.MaskLaws.{same-commit}
use proofs.Marks.DirRecords.{CountsMarked}
use proofs.Marks.StoredKept.{taken-stored}
use proofs.Memory.CoreHomes.{accesses_at_homes}
use proofs.Tids.{live-some}
use proofs.Values.ValueAt.{IsAlike, value-alike}

-- the word x has the value y, or an invalidation of it is on its way
pub record HeldOf (x y : ℕ) (v : Pair) : Type 0 where
  pub framed : (z : ℕ) → v.core.cache.value x ≡ Some z → v.core.cache.modified x ≡ false → (z ≡ y) ⊎ (1 ≤ live (InvWord x) v.back)
  pub filled : is_stale v.core.awaited ≡ false → (live (FillNot x y) v.back ≡ 0) ⊎ (1 ≤ live (InvWord x) v.back)

-- so do all words at home at the directory
abbrev pub HeldAt : Shape → (ram : ℕ → ℕ) → List Noted → (c d : ℕ) → Pair → Type 0
HeldAt sh ram cs c d v = (x : ℕ) → c < sh.cores → d < sh.dirs → home_of sh x ≡ d
    → HeldOf x (value_at sh.base ram cs v.dir (Some c) None x) v

abbrev pub KeptHeld : Shape → (ram : ℕ → ℕ) → World → List Noted → Type 0
KeptHeld sh ram w cs = (c d : ℕ) → HeldAt sh ram cs c d (pair w c d)

fill-not : (x y : ℕ) (m : Msg) → num (passes (FillNot x y) m) ≤ num (passes (FillOf (line_of x)) m)
unfolding passes
fill-not x y m = grind nats

-- a Fill that gives the word another value is one of its line
pub few-not : (x y : ℕ) (l : Link) → live (FillNot x y) l ≤ live (FillOf (line_of x)) l
few-not x y l = live-fewer (FillNot x y) (FillOf (line_of x)) (fill-not x y) l

pub few-sent : (x y : ℕ) (ms : List Msg) → among (FillNot x y) ms ≤ among (FillOf (line_of x)) ms
few-sent x y ms = among-fewer (FillNot x y) (FillOf (line_of x)) (fill-not x y) ms

-- a directory answers

-- the value stays, and no Fill goes out with another
pub held-answered : {x y z : ℕ} {v : Pair} (out : Link) (s : DirState) (ms : List Msg) → z ≡ y → among (FillNot x y) ms ≡ 0 → HeldOf x y v
    → HeldOf x z (after_answer (record v { out = out }) s ms)
held-answered {x} {y} {v} out s ms e f h = rw e (record { framed = λ a p q. framed (h.framed a p q); filled = λ p. filled (h.filled p) })
  where
    sent : 1 ≤ live (InvWord x) v.back → 1 ≤ live (InvWord x) (after_answer (record v { out = out }) s ms).back
    sent n = omega (arith, live-sends)

    framed : {A : Type 0} → A ⊎ (1 ≤ live (InvWord x) v.back) → A ⊎ (1 ≤ live (InvWord x) (after_answer (record v { out = out }) s ms).back)
    framed (inl q) = inl q
    framed (inr n) = inr (sent n)

    filled : (live (FillNot x y) v.back ≡ 0) ⊎ (1 ≤ live (InvWord x) v.back)
        → (live (FillNot x y) (after_answer (record v { out = out }) s ms).back ≡ 0)
        ⊎ (1 ≤ live (InvWord x) (after_answer (record v { out = out }) s ms).back)
    filled (inl q) = inl (omega (arith, live-sends))
    filled (inr n) = inr (sent n)

-- an invalidation goes out
held-invalidated : (x z : ℕ) (v : Pair) (out : Link) (s : DirState) (ms : List Msg) → 1 ≤ among (InvWord x) ms
    → HeldOf x z (after_answer (record v { out = out }) s ms)
held-invalidated x z v out s ms n = record { framed = λ a p q. inr sent; filled = λ p. inr sent }
  where
    sent : 1 ≤ live (InvWord x) (after_answer (record v { out = out }) s ms).back
    sent = omega (arith, live-sends)

-- the core holds no word of the line
held-idle : (x z : ℕ) (v : Pair) → keeps_unmodified v.core.cache (line_of x) ≡ false
    → (is_stale v.core.awaited ≡ false → live (FillOf (line_of x)) v.back ≡ 0) → HeldOf x z v
unfolding keeps_unmodified any_word
held-idle x z v k f = record { framed = λ a p q. absurd (kept a p q); filled = λ p. inl (omega (arith, f, few-not)) }
  where
    kept : (a : ℕ) → v.core.cache.value x ≡ Some a → v.core.cache.modified x ≡ false → ⊥
    kept a p q =
        let i : word_at (line_of x) (place_of x) ≡ x = omega arith in
        let t : keeps_unmodified v.core.cache (line_of x) ≡ true = any_below-at (λ n. is_some (v.core.cache.value (word_at (line_of x) n))
        && (not (v.core.cache.modified (word_at (line_of x) n)) || v.core.cache.read (word_at (line_of x) n))) 8 (place_of x)
        (omega arith) (rw (i, p, q)) in
        cc

-- values at home

-- the commit is the core's, or as many Commits of it are in flight to the directory as before
abbrev pub IsSteady : (w v : World) → (d : ℕ) → Option ℕ → Noted → Type 0
IsSteady w v d c n = (is_this c n.core.0 ≡ true)
    ⊎ (live (Commits n.tid.0) (to_dir v n.core.0 d) ≡ live (Commits n.tid.0) (to_dir w n.core.0 d))

counts-own : (s r : DirState) (c : Option ℕ) (n : Noted) → is_this c n.core.0 ≡ true → counts r c None n ≡ counts s c None n
unfolding counts
counts-own s r c n t = rw t

counts-applied : (s r : DirState) (c : Option ℕ) (n : Noted) → is_applied r n.tid.0 ≡ is_applied s n.tid.0
    → counts r c None n ≡ counts s c None n
unfolding counts
counts-applied s r c n q = rw q

-- A word's value at its home stays where the commits that stored it are on their way as before.
pub value-stays : {sh : Shape} (ram : ℕ → ℕ) (w v : World) (cs : List Noted) {d : ℕ} (c : Option ℕ) (x : ℕ) → CommitsInMemory sh cs
    → CommitsStand sh w cs → CommitsStand sh v cs → d < sh.dirs → home_of sh x ≡ d
    → ((n : Noted) → Contains cs n → stores_word sh.base n.stores x ≡ true → IsSteady w v d c n)
    → value_at sh.base ram cs (v.dirs d) c None x ≡ value_at sh.base ram cs (w.dirs d) c None x
value-stays {sh} ram w v cs {d} c x inside before after dl e steady = value-alike sh.base ram cs (v.dirs d) c None (w.dirs d) c None x
    (λ n k. alike n k (stores_word sh.base n.stores x) refl)
  where
    same : (n : Noted) → Contains cs n → stores_at sh d n.stores ≡ true → IsSteady w v d c n
        → counts (v.dirs d) c None n ≡ counts (w.dirs d) c None n
    same n k s a = grind (nats, counts-own, counts-applied, num-same)

    alike : (n : Noted) → Contains cs n → (b : Bool) → stores_word sh.base n.stores x ≡ b
        → IsAlike sh.base (v.dirs d) c None (w.dirs d) c None x n
    alike n k false s = inr s
    alike n k true s = inl (same n k (rw e at ((accesses_at_homes sh n.loads n.stores (inside n k)).stored x s)) (steady n k s))

-- What directories do to the words in frames and Fills: a Fill brings the words as they are, and a word that a commit stored is
-- invalidated at each core that holds it.

-- a Fill of a line of no owner, whose words are those at home; the core's last commit there is passed
pub record Filling (l a : ℕ) (s new : DirState) (ms : List Msg) : Type 0 where
  pub passed : a < s.serving.serving
  pub unowned : s.lines.owner l ≡ None
  pub serving : new.serving ≡ s.serving
  pub owed : new.owed ≡ s.owed
  pub words : (x y : ℕ) → (l ≡ line_of x → s.words x ≡ y) → among (FillNot x y) ms ≡ 0

abbrev pub FillsHome : (core line after : ℕ) → DirState → Answer → Type 0
FillsHome c l a s (Takes new sends) = Filling l a s new (sends (Core c))
FillsHome c l a s _ = Unit {0}

filled-word : (s : DirState) (l x y : ℕ) → (l ≡ line_of x → s.words x ≡ y)
    → (l == line_of x && not (get_or (home_words s l) (place_of x) 0 == y)) ≡ false
unfolding home_words
filled-word s l x y e = grind (nats, eight-at)

owner-home : (o c l a : ℕ) (s : DirState) → FillsHome c l a s (ask_owner o l s)
unfolding ask_owner
owner-home o c l a s = go (s.lines.asked l)
  where
    go : (b : Bool)
        → FillsHome c l a s (if b then Waits else Asks (record s { lines = with_asked l true s.lines }) (to (Core o) (DataReq l ∷ [])))
    go true = tt
    go false = tt

pub load-home : (c l a : ℕ) (s : DirState) → FillsHome c l a s (load_request c l a s)
unfolding load_request among passes
load-home c l a s = go (nat_le s.serving.serving a) (has_mark s.lines l) (s.lines.owner l) refl refl
  where
    words : (x y : ℕ) → (l ≡ line_of x → s.words x ≡ y) → among (FillNot x y) (if c == c then Fill l (home_words s l) ∷ [] else []) ≡ 0
    words x y e = rw (same c) (rw (filled-word s l x y e))

    go : (b m : Bool) (o : Option ℕ) → nat_le s.serving.serving a ≡ b → s.lines.owner l ≡ o
        → FillsHome c l a s (if b || m then Waits else load_unless_owned c l s o)
    go true m o q e = tt
    go false true o q e = tt
    go false false (Some o) q e = owner-home o c l a s
    go false false None q e = record { passed = grind nats; unowned = e; serving = refl; owed = refl; words = words }

-- the directory's state, and the Commits in flight, after a message was taken
pub dirs-taken : (w : World) (c d k : ℕ) (s : DirState) (sends : Sends) → (dir_takes w c d k s sends).dirs d ≡ s
unfolding pair
dirs-taken w c d k s sends = ap (λ v. v.dir) (dir-own w c d k s sends)

commits-other : (w : World) (c d k : ℕ) (s : DirState) (sends : Sends) (j t : ℕ) → j ≢ c
    → live (Commits t) ((dir_takes w c d k s sends).net (Core j) (Dir d)) ≡ live (Commits t) (to_dir w j d)
unfolding pair
commits-other w c d k s sends j t n = ap (λ v. live (Commits t) v.out) (dir-other w c d k s sends j n)

commits-own : (w : World) (c d k : ℕ) {m : Msg} (s : DirState) (sends : Sends) (t : ℕ) → FromCore w c d k m
    → passes (Commits t) m ≡ false → live (Commits t) ((dir_takes w c d k s sends).net (Core c) (Dir d)) ≡ live (Commits t) (to_dir w c d)
unfolding pair
commits-own w c d k {m} s sends t i p = ap (λ v. live (Commits t) v.out) (dir-own w c d k s sends)
    ∙ (let z : num (passes (Commits t) m) ≡ 0 = rw p in omega (arith, live-takes (Commits t) (to_dir w c d) k m i))

-- the value stays where the commits that stored the word are steady
pub value-taken : (sh : Shape) (ram : ℕ → ℕ) (w : World) (cs : List Noted) (c d k : ℕ) (s : DirState) (sends : Sends) (j : Option ℕ) (x : ℕ)
    → CommitsInMemory sh cs → CommitsStand sh w cs → CommitsStand sh (dir_takes w c d k s sends) cs → d < sh.dirs → home_of sh x ≡ d
    → ((n : Noted) → Contains cs n → stores_word sh.base n.stores x ≡ true → IsSteady w (dir_takes w c d k s sends) d j n)
    → value_at sh.base ram cs s j None x ≡ value_at sh.base ram cs (w.dirs d) j None x
value-taken sh ram w cs c d k s sends j x inside before after dl e f =
    subst (λ r. value_at sh.base ram cs r j None x ≡ value_at sh.base ram cs (w.dirs d) j None x) (dirs-taken w c d k s sends)
    (value-stays ram w (dir_takes w c d k s sends) cs j x inside before after dl e f)

-- all commits are steady where the message is no Commit
pub steady-taken : (w : World) (c d k : ℕ) {m : Msg} (s : DirState) (sends : Sends) (j : Option ℕ) (n : Noted) → FromCore w c d k m
    → ((t : ℕ) → passes (Commits t) m ≡ false) → IsSteady w (dir_takes w c d k s sends) d j n
steady-taken w c d k s sends j n i p = inr (either n.core.0 c (λ q. rw q (commits-own w c d k s sends n.tid.0 i (p n.tid.0)))
    (commits-other w c d k s sends n.core.0 n.tid.0))

-- what is to be shown of each core's words where a directory takes a message
pub held-taken : (sh : Shape) (ram : ℕ → ℕ) (w : World) (cs : List Noted) (c d k : ℕ) (s : DirState) (sends : Sends)
    → ((j x : ℕ) (out : Link) → j < sh.cores → d < sh.dirs → home_of sh x ≡ d
    → HeldOf x (value_at sh.base ram cs s (Some j) None x) (after_answer (record (pair w j d) { out = out }) s (sends (Core j))))
    → KeptHeld sh ram w cs → KeptHeld sh ram (dir_takes w c d k s sends) cs
unfolding pair
held-taken sh ram w cs c d k s sends f h = pairs_dir (HeldAt sh ram cs) w c d k s sends
    (λ x cl dl e. f c x (set (to_dir w c d) k None) cl dl e) (λ j n x jl dl e. f j x (to_dir w j d) jl dl e) h

-- where it asks an owner, and what it serves and is owed stays
pub held-asked : (sh : Shape) (ram : ℕ → ℕ) (w : World) (cs : List Noted) (d : ℕ) (s : DirState) (sends : Sends)
    → ((j x : ℕ) → d < sh.dirs → home_of sh x ≡ d → value_at sh.base ram cs s (Some j) None x ≡ value_at sh.base ram cs (w.dirs d)
    (Some j) None x) → ((j x y : ℕ) → among (FillNot x y) (sends (Core j)) ≡ 0) → KeptHeld sh ram w cs
    → KeptHeld sh ram (dir_asks w d s sends) cs
unfolding pair
held-asked sh ram w cs d s sends v f h = pairs_asks (HeldAt sh ram cs) w d s sends
    (λ j x jl dl e. held-answered (to_dir w j d) s (sends (Core j)) (v j x dl e) (f j x _) (h j d x jl dl e)) h

-- Where a directory takes a Commit, each word that the commit stored is invalidated at every other core that holds it, and all other
-- words have their values still.

-- a Commit that is taken is of the served TID and counts the marked lines, and brings the invalidations of these lines
abbrev pub Invalidates : Shape → (core : ℕ) → DirState → Msg → Answer → Type 0
Invalidates sh c s m Waits = Unit {0}
Invalidates sh c s m (Takes new sends) = CountsMarked sh s m × ((j : ℕ) → sends (Core j) ≡ invs_to sh s.lines c s.serving.serving j)
Invalidates sh c s m _ = ⊥

pub commit-invalidates : (sh : Shape) (c u n : ℕ) (s : DirState) → Invalidates sh c s (Commit u n) (dir_commit sh c u n s)
unfolding dir_commit invalidations
commit-invalidates sh c u n s = go (s.serving.serving == u) (count_below (has_mark s.lines) (lines sh) == n) refl refl
  where
    go : (a b : Bool) → (s.serving.serving == u) ≡ a → (count_below (has_mark s.lines) (lines sh) == n) ≡ b
        → Invalidates sh c s (Commit u n) (if a && b then Takes (moved_on_if_settled
        (record s { lines = owned_by_committer c u s.lines; owed = invalidation_count sh s.lines c }))
        (invalidations sh s.lines c u) else Waits)
    go false b q r = tt
    go true false q r = tt
    go true true q r = let e : u ≡ s.serving.serving = grind nats in let f : n ≡ count_below (has_mark s.lines) (lines sh) =
        grind nats in (rw (e, f), λ j. rw e)

-- a message that is sent for one of the lines
sent-one : (k : Kind) (f : ℕ → List Msg) (p : ℕ → Bool) (n l : ℕ) → l < n → p l ≡ true → 1 ≤ among k (f l)
    → 1 ≤ among k (flat_map f (those p n))
unfolding those among
sent-one k f p zero l i e h = absurd (omega arith)
sent-one k f p (suc n) l i e h = rw flat_map-append (rw among-append (go (cases_eq l n) (λ r. sent-one k f p n l r e h)))
  where
    last : l ≡ n → 1 ≤ among k (flat_map f (cond (p n) (n ∷ []) []))
    last q = rw (rw q at e) (rw among-append (omega (arith, rw q at h)))

    go : (l ≡ n) ⊎ (l ≢ n) → (l < n → 1 ≤ among k (flat_map f (those p n)))
        → 1 ≤ among k (flat_map f (those p n)) + among k (flat_map f (cond (p n) (n ∷ []) []))
    go (inl q) r = omega (arith, last)
    go (inr q) r = omega (arith, r)

-- the marked words of a line are those that the commit stored
stored-hit : (sh : Shape) (d x : ℕ) (ls : Lines) (n : Noted) → line_of x < lines sh → home_of sh x ≡ d
    → ls.mark (line_of x) ≡ stored_mask sh d n.stores (line_of x) → stores_word sh.base n.stores x ≡ true
    → (has_mark ls (line_of x) ≡ true) × (hit (line_of x) (ls.mark (line_of x)) x ≡ true)
unfolding stored_mask stores_in hit
stored-hit sh d x ls n il e m s =
    let here : p (place_of x) ≡ true = let i : word_at (line_of x) (place_of x) ≡ x = omega arith in rw i s in
    let some : 0 < mask_of p = some-mask p (place_of x) (omega arith) here in
    let in-mask : has (mask_of p) (place_of x) ≡ true = has-mask_of p (place_of x) (omega arith) ∙ here in
    (rw mark (let z = some in grind nats), rw mark (rw (same (line_of x)) in-mask))
  where
    p : ℕ → Bool
    p k = stores_word sh.base n.stores (word_at (line_of x) k)

    mark : ls.mark (line_of x) ≡ mask_of p
    mark = let a : nat_lt (line_of x) (lines sh) ≡ true = grind nats in let b : (d == home_of sh x) ≡ true = grind nats in m ∙ rw (a, b)

sharer-told : (sh : Shape) (ls : Lines) (c t j x : ℕ) → line_of x < lines sh → j < sh.cores → j ≢ c → has_mark ls (line_of x) ≡ true
    → hit (line_of x) (ls.mark (line_of x)) x ≡ true → ls.sharers (line_of x) j ≡ true → 1 ≤ among (InvWord x) (invs_to sh ls c t j)
unfolding invs_to is_invalidated among passes
sharer-told sh ls c t j x il jl n m h s = sent-one (InvWord x) (λ l. Inv l (ls.mark l) t ∷ []) (is_invalidated sh ls c j) (lines sh)
    (line_of x) il (let a : nat_lt j sh.cores ≡ true = grind nats in rw (a, m, s, differ j c n)) (rw h (omega arith))

-- a core that isn't a sharer, and has no Commit on its way, holds no word of the line
idle : (sh : Shape) (w : World) {cs : List Noted} (j d : ℕ) {l : ℕ} → KeptLoading sh w → SharerOf sh.base cs j l (pair w j d)
    → (w.dirs d).lines.sharers l j ≡ false → (CommitsLine sh.base cs j l (pair w j d) → ⊥)
    → (keeps_unmodified (w.cores j).cache l ≡ false) × (is_stale (w.cores j).awaited ≡ false → live (FillOf l) (to_core w d j) ≡ 0)
unfolding pair holds_line
idle sh w j d {l} loading shares s n =
    split (keeps_unmodified (w.cores j).cache l) (is_fresh (w.cores j).awaited && nat_lt 0 (live (FillOf l) (to_core w d j))) refl refl
  where
    v : Pair
    v = pair w j d

    told : holds_line l v ≡ true → ⊥
    told h = elim (shares.shares h) [ inl e ↦ absurd (cc) | inr k ↦ n k ]

    none : (a : Option Awaited) → (w.cores j).awaited ≡ a → (is_fresh a && nat_lt 0 (live (FillOf l) (to_core w d j))) ≡ false
        → is_stale a ≡ false → live (FillOf l) (to_core w d j) ≡ 0
    none a e f q = grind nats

    split : (a b : Bool) → keeps_unmodified (w.cores j).cache l ≡ a
        → (is_fresh (w.cores j).awaited && nat_lt 0 (live (FillOf l) (to_core w d j))) ≡ b
        → (keeps_unmodified (w.cores j).cache l ≡ false) × (is_stale (w.cores j).awaited ≡ false → live (FillOf l) (to_core w d j) ≡ 0)
    split true b p q = absurd (told (rw p))
    split false true p q = absurd (told (rw (p, q)))
    split false false p q = (p, none (w.cores j).awaited refl q)

-- two Commits in flight to a directory are of one core
one-committer : {sh : Shape} (w : World) {cs : List Noted} (c j d u : ℕ) → IsRising 0 cs → CommitsAreServed sh w → KeptStored sh cs w
    → c < sh.cores → j < sh.cores → d < sh.dirs → 1 ≤ live (Commits (tid_at w d)) (to_dir w c d) → 1 ≤ live (Commits u) (to_dir w j d)
    → j ≡ c
unfolding pair
one-committer w {cs} c j d u rising served stored cl jl dl a b =
    let x = (stored c d (tid_at w d)).sent cl dl a in
    let y = (stored j d u).sent jl dl b in
    let t : u ≡ tid_at w d = sym (served j d u jl dl b) in
    let z : y.commit ≡ x.commit = same-commit cs y.commit x.commit rising y.noted x.noted (y.tid ∙ t ∙ sym x.tid) in
    sym y.core ∙ ap (λ n. n.core.0) z ∙ x.core

pub answered-commit : {sh : Shape} (ram : ℕ → ℕ) (w : World) {cs : List Noted} {c : ℕ} (d k : ℕ) {m : Msg} → CommitsInMemory sh cs
    → CommitsStand sh w cs → KeptHeld sh ram w cs → IsRising 0 cs → CommitsAreServed sh w → KeptCounted sh w → KeptStored sh cs w
    → KeptLoading sh w → KeptSharers sh w cs → c < sh.cores → d < sh.dirs → FromCore w c d k m → ((l : ℕ) → passes (LoadOf l) m ≡ false)
    → (b : Answer) → FillsBy c m b → Invalidates sh c (w.dirs d) m b → OfAnswer w c d k (λ v. CommitsStand sh v cs → KeptHeld sh ram v cs) b
unfolding pair passes
answered-commit ram w d k inside before h rising served counted stored loading sharers cl dl i lm Waits f g = tt
answered-commit ram w d k inside before h rising served counted stored loading sharers cl dl i lm Drops f g = absurd g
answered-commit ram w d k inside before h rising served counted stored loading sharers cl dl i lm (Asks s sends) f g = absurd g
answered-commit {sh} ram w {cs} {c} d k inside before h rising served counted stored loading sharers cl dl i lm (Takes s sends) f g =
    λ after. held-taken sh ram w cs c d k s sends (λ j x out jl dl' e. either j c (λ q. stays j x out jl e after (λ n r y. rw q (own n)))
    (λ n. other j x out jl n e after (stores_word sh.base was.commit.stores x) refl)) h
  where
    t : ℕ
    t = tid_at w d

    was : SettledCommit sh cs d (w.dirs d)
    was = taken-stored w c k counted stored cl dl i g.0

    j' : (FromCore w c d k (Commit t (count_below (has_mark (w.dirs d).lines) (lines sh))))
    j' = i ∙ ap (λ x. Some x) g.0

    one : num (passes (Commits t) (Commit t (count_below (has_mark (w.dirs d).lines) (lines sh)))) ≡ 1
    one = rw (same t)

    none : (a : Bool) {b : Bool} → b ≡ false → num (a && b) ≡ 0
    none true e = rw e
    none false e = refl

    no-fill : (j x y : ℕ) → among (FillNot x y) (sends (Core j)) ≡ 0
    no-fill j x y = omega (arith, few-sent x y (sends (Core j)), f (line_of x) j, none (j == c) (lm (line_of x)))

    own : (n : Noted) → IsSteady w (dir_takes w c d k s sends) d (Some c) n
    own n = either n.core.0 c (λ q. inl (rw q (same c))) (λ r. inr (commits-other w c d k s sends n.core.0 n.tid.0 r))

    stays : (j x : ℕ) (out : Link) → j < sh.cores → home_of sh x ≡ d → CommitsStand sh (dir_takes w c d k s sends) cs
        → ((n : Noted) → Contains cs n → stores_word sh.base n.stores x ≡ true → IsSteady w (dir_takes w c d k s sends) d (Some j) n)
        → HeldOf x (value_at sh.base ram cs s (Some j) None x) (after_answer (record (pair w j d) { out = out }) s (sends (Core j)))
    stays j x out jl e after steady = held-answered out s (sends (Core j))
        (value-taken sh ram w cs c d k s sends (Some j) x inside before after dl e steady) (no-fill j x _) (h j d x jl dl e)

    -- a commit of another TID
    apart : (n : Noted) → n.tid.0 ≢ t → (b : Option ℕ) → IsSteady w (dir_takes w c d k s sends) d b n
    apart n r b = inr (either n.core.0 c (λ q. rw q (commits-own w c d k s sends n.tid.0 j'
        (let z : (t == n.tid.0) ≡ false = grind nats in z))) (commits-other w c d k s sends n.core.0 n.tid.0))

    other : (j x : ℕ) (out : Link) → j < sh.cores → j ≢ c → home_of sh x ≡ d → CommitsStand sh (dir_takes w c d k s sends) cs
        → (b : Bool) → stores_word sh.base was.commit.stores x ≡ b
        → HeldOf x (value_at sh.base ram cs s (Some j) None x) (after_answer (record (pair w j d) { out = out }) s (sends (Core j)))
    other j x out jl n e after false y = stays j x out jl e after (λ z q r. either z.tid.0 t
        (λ p. absurd (let i : z ≡ was.commit = same-commit cs z was.commit rising q was.noted (p ∙ sym was.tid) in
        let r' : stores_word sh.base was.commit.stores x ≡ true = rw i at r in cc)) (λ p. apart z p (Some j)))
    other j x out jl n e after true y = shared ((w.dirs d).lines.sharers (line_of x) j) refl
      where
        il : line_of x < lines sh
        il = (inside was.commit was.noted).stored x y

        marked : (has_mark (w.dirs d).lines (line_of x) ≡ true) × (hit (line_of x) ((w.dirs d).lines.mark (line_of x)) x ≡ true)
        marked = stored-hit sh d x (w.dirs d).lines was.commit il e (was.marks (line_of x)) y

        shared : (b : Bool) → (w.dirs d).lines.sharers (line_of x) j ≡ b
            → HeldOf x (value_at sh.base ram cs s (Some j) None x) (after_answer (record (pair w j d) { out = out }) s (sends (Core j)))
        shared true q = held-invalidated x _ (pair w j d) out s (sends (Core j))
            (rw (g.1 j) (sharer-told sh (w.dirs d).lines c t j x il jl n marked.0 marked.1 q))
        shared false q =
            held-idle x _ _ z.0 (λ p. omega (
              arith,
              z.1 p,
              live-sends (FillOf (line_of x)) (to_core w d j) (sends (Core j)),
              f (line_of x) j,
              none (j == c)
                  (lm (line_of x)),
            ))
          where
            z : (keeps_unmodified (w.cores j).cache (line_of x) ≡ false)
                × (is_stale (w.cores j).awaited ≡ false → live (FillOf (line_of x)) (to_core w d j) ≡ 0)
            z = idle sh w j d loading (sharers j d (line_of x) jl dl il e) q
                (λ r. n (one-committer w c j d r.tid rising served stored cl jl dl
                (omega (arith, one, live-some (Commits t) (to_dir w c d) k _ j')) r.sent))
