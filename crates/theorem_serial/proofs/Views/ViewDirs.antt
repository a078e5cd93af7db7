-- What a directory takes leaves every core's view near: each used word has its value, or it is doomed.
use Rattle.rules_tcc.specs.DirDeliver.{dir_commit}
use Rattle.theorem_serial.proofs
use proofs.Names
use Names.{nothing, eq-self, ℕ, zero, suc, ◌+◌, ◌≡◌, ◌<◌, ◌≤◌, ◌⊎◌, Bool, true, cond, [], ◌∷◌, Option, Some, None, flat_map, arith, refl}
use Names.{inl, inr, cases_eq, flat_map-append, num, line_of, those, hit, Msg, Inv, Kind, passes, among, is_below, dooms, ◌==◌, ◌&&◌, ◌||◌}
use Names.{not, false, List, Contains, is_some, nat_lt, set, ap, sym, subst, ◌∙◌, true≢false, Noted, place_of, word_at, any_word}
use Names.{count_below, has_mark, Core, Dir, Shape, lines, any_below-at, DirState, World, is_invalidated, invs_to, invalidations, Sends}
use Names.{History, dir_takes, keeps_unmodified, holds_line, Commits, CommitOf, live, CommitsInMemory, Carried, Grant, Pair, pair}
use Names.{is_applied, is_this, CommitsStand, stored_mask, stores_in, MarkedCommit, stores_word, counts, value_at, Ways, if◌then◌else◌}
use Names.{TidReq, TidGrant, Fill, ProbeReply, Commit, DataReq, Answer, Waits, Drops, Asks, Takes, moved_on_if_settled, owned_by_committer}
use Names.{invalidation_count, dir_deliver, dir_asks, Uses, out_taken, EachUse, has-mask_of, CommitsLine, IsPassed, nats, home_of, tid_at}
use Names.{to_dir, FromCore, grant_to, ◌≢◌}
use proofs.Counts.{among-append, live-takes, dir-own, dir-other, either, AllPairs, pairs_dir, pairs_asks, asks-own, OfAnswer, differ}
use proofs.Marks.MaskLaws.{same-commit}
use proofs.Tids.{granted-once, granted-at, live-some}
use proofs.Values.FramedWords.{dirs-taken}
use proofs.Values.ValueAt.{value-alike, IsAlike, stored-at-home}
use proofs.Views.ViewFacts.{IsSeen, applied-same, bound-own, solo-tid, solo-holds, solo-served, StaysOrDooms, ViewOf, view-answers}
use proofs.Views.ViewFacts.{bound-out, view-out}
use proofs.Marks.CoreMarks.{stored-line}

-- Where a directory takes a Commit, a use of a stored word by another core is doomed, unless the core's bound is below the commit.

-- what is sent for one of the lines
among-those : (k : Kind) (g : ℕ → Msg) (p : ℕ → Bool) (l n : ℕ) → l < n → p l ≡ true
    → num (passes k (g l)) ≤ among k (flat_map (λ j. g j ∷ []) (those p n))
unfolding among those
among-those k g p l zero b e = absurd (omega arith)
among-those k g p l (suc n) b e = rw flat_map-append (rw among-append (go (cases_eq l n) (λ q. among-those k g p l n q e)))
  where
    go : (l ≡ n) ⊎ (l ≢ n) → (l < n → num (passes k (g l)) ≤ among k (flat_map (λ j. g j ∷ []) (those p n)))
        → num (passes k (g l)) ≤ among k (flat_map (λ j. g j ∷ []) (those p n)) + among k
        (flat_map (λ j. g j ∷ []) (cond (p n) (n ∷ []) []))
    go a f = grind nats

-- an invalidation of the word that is below the bound dooms
inv-dooms : (b : Option ℕ) (x l m u : ℕ) → is_below b u ≡ true → hit l m x ≡ true → num (passes (dooms b x) (Inv l m u)) ≡ 1
unfolding passes
inv-dooms a x l m u e h = grind nats

sent-dooms : (b : Option ℕ) (x u n : ℕ) (f : ℕ → ℕ) (p : ℕ → Bool) → line_of x < n → p (line_of x) ≡ true
    → hit (line_of x) (f (line_of x)) x ≡ true → is_below b u ≡ true
    → 1 ≤ among (dooms b x) (flat_map (λ l. Inv l (f l) u ∷ []) (those p n))
sent-dooms b x u n f p l e h i =
    omega (arith, among-those (dooms b x) (λ l. Inv l (f l) u) p (line_of x) n l e, inv-dooms)

-- What a directory's answer does to the values that cores see: only a Commit that it takes changes them, and this dooms.

-- the Commits in flight to a directory where it takes a message
commits-after : (w : World) (c d k t : ℕ) {m : Msg} (s : DirState) (sends : Sends) (j : ℕ) → FromCore w c d k m
    → passes (Commits t) m ≡ false → live (Commits t) ((dir_takes w c d k s sends).net (Core j) (Dir d)) ≡ live (Commits t) (to_dir w j d)
unfolding pair
commits-after w c d k t {m} s sends j i f = either j c own other
  where
    here : live (Commits t) ((dir_takes w c d k s sends).net (Core c) (Dir d)) ≡ live (Commits t) (to_dir w c d)
    here = let p : num (passes (Commits t) m) ≡ 0 = ap num f in let z : live (Commits t) ((dir_takes w c d k s sends).net (Core c) (Dir d))
        ≡ live (Commits t) (set (to_dir w c d) k None) = ap (λ v. live (Commits t) v.out) (dir-own w c d k s sends) in
        omega (arith, live-takes (Commits t) (to_dir w c d) k m i)

    own : j ≡ c → live (Commits t) ((dir_takes w c d k s sends).net (Core j) (Dir d)) ≡ live (Commits t) (to_dir w j d)
    own e = rw e here

    other : j ≢ c → live (Commits t) ((dir_takes w c d k s sends).net (Core j) (Dir d)) ≡ live (Commits t) (to_dir w j d)
    other e = ap (λ v. live (Commits t) v.out) (dir-other w c d k s sends j e)

-- commits that are applied alike count alike
counts-alike : (s r : DirState) (c b : Option ℕ) (n : Noted) → is_applied s n.tid.0 ≡ is_applied r n.tid.0 → counts s c b n ≡ counts r c b n
unfolding counts
counts-alike s r c b n e = rw e

-- no Commit is taken: the values stay
stays-value : (sh : Shape) (ram : ℕ → ℕ) (cs : List Noted) (w v : World) (j d x : ℕ) (b : Option ℕ) → CommitsInMemory sh cs
    → CommitsStand sh w cs → CommitsStand sh v cs → d < sh.dirs → home_of sh x ≡ d
    → ((n : Noted) → live (Commits n.tid.0) (to_dir v n.core.0 d) ≡ live (Commits n.tid.0) (to_dir w n.core.0 d))
    → value_at sh.base ram cs (w.dirs d) (Some j) b x ≡ value_at sh.base ram cs (v.dirs d) (Some j) b x
stays-value sh ram cs w v j d x b m a z dl e f = value-alike sh.base ram cs (w.dirs d) (Some j) b (v.dirs d) (Some j) b x
    (λ n i. go n i (stores_word sh.base n.stores x) refl)
  where
    go : (n : Noted) → Contains cs n → (q : Bool) → stores_word sh.base n.stores x ≡ q
        → IsAlike sh.base (w.dirs d) (Some j) b (v.dirs d) (Some j) b x n
    go n i false q = inr q
    go n i true q = inl (counts-alike (w.dirs d) (v.dirs d) (Some j) b n
        (applied-same sh cs w v n d a z i dl (stored-at-home cs n x m i e q) (f n)))

-- the directory takes the Commit of TID u from core c
pub record Taken (sh : Shape) (w : World) (c d u : ℕ) : Type 0 where
  pub core : c < sh.cores
  pub dir : d < sh.dirs
  pub serving : tid_at w d ≡ u
  pub sent : 1 ≤ live (CommitOf u (count_below (has_mark (w.dirs d).lines) (lines sh))) (to_dir w c d)
  pub commit : 1 ≤ live (Commits u) (to_dir w c d)

num-true : (b : Bool) → 1 ≡ num b → b ≡ true
num-true a e = grind nats

all-true : (a b : Bool) {c : Bool} → (a && b) ≡ true → c ≡ true → true ≡ (a && (b && c))
all-true a b e f = grind nats

pub is-lt : (a b : ℕ) → a < b → nat_lt a b ≡ true
is-lt a b l = grind nats

inside-home : (l n : ℕ) {d e : ℕ} → l < n → e ≡ d → (nat_lt l n && d == e) ≡ true
inside-home l n a b = grind nats

-- a directory that has reached the core's TID serves no smaller one
not-ahead : (t : ℕ) {u s : ℕ} → nat_lt u t ≡ true → s ≡ u → t ≤ s → ⊥
not-ahead t a b c = grind nats

-- a core holds the line of a valid word that is marked read
holds-word : (v : Pair) (x : ℕ) → v.core.cache.read x ≡ true → is_some (v.core.cache.value x) ≡ true → holds_line (line_of x) v ≡ true
unfolding holds_line keeps_unmodified any_word
holds-word v x r e =
    let i : word_at (line_of x) (place_of x) ≡ x = omega arith in
    let one : (is_some (v.core.cache.value x) && (not (v.core.cache.modified x) || v.core.cache.read x)) ≡ true = grind arith in
    let a = any_below-at (λ k. is_some (v.core.cache.value (word_at (line_of x) k))
    && (not (v.core.cache.modified (word_at (line_of x) k)) || v.core.cache.read (word_at (line_of x) k))) 8 (place_of x)
    (omega arith) (subst (λ y. (is_some (v.core.cache.value y) && (not (v.core.cache.modified y) || v.core.cache.read y)) ≡ true)
    (sym i) one) in
    rw a

-- each core sees the values that it saw, or the invalidation that it is sent dooms the use
commit-value : {sh : Shape} {gs : List Grant} {ys : Ways} (ram : ℕ → ℕ) (h : History) → Carried sh gs ys h
    → CommitsInMemory sh h.commits → (v : World) → CommitsStand sh v h.commits → (c d u : ℕ) → Taken sh h.world c d u
    → ((n : Noted) → n.tid.0 ≢ u → live (Commits n.tid.0) (to_dir v n.core.0 d) ≡ live (Commits n.tid.0) (to_dir h.world n.core.0 d))
    → (j : ℕ) → StaysOrDooms sh ram h.commits j d (pair h.world j d) (v.dirs d) (invalidations sh (h.world.dirs d).lines c u (Core j))
unfolding pair invalidations invs_to counts stored_mask stores_in hit any_word is_invalidated
commit-value {sh} {gs} ram h k mem v stand c d u t f j b jl dl bound x y e seen = below (is_below b u) refl
  where
    w : World
    w = h.world

    m : MarkedCommit sh h.commits c d u (pair w c d)
    m = (k.marks_sent_are_the_lines_stored.2 c d u).sent t.core dl t.commit

    n : Noted
    n = m.commit

    alike : ((o : Noted) → Contains h.commits o → o.tid.0 ≡ u → stores_word sh.base o.stores x ≡ true
        → counts (w.dirs d) (Some j) b o ≡ counts (v.dirs d) (Some j) b o)
        → value_at sh.base ram h.commits (w.dirs d) (Some j) b x ≡ value_at sh.base ram h.commits (v.dirs d) (Some j) b x
    alike g = value-alike sh.base ram h.commits (w.dirs d) (Some j) b (v.dirs d) (Some j) b x
        (λ o i. one o i (stores_word sh.base o.stores x) refl (cases_eq o.tid.0 u))
      where
        one : (o : Noted) → Contains h.commits o → (q : Bool) → stores_word sh.base o.stores x ≡ q → (o.tid.0 ≡ u) ⊎ (o.tid.0 ≢ u)
            → IsAlike sh.base (w.dirs d) (Some j) b (v.dirs d) (Some j) b x o
        one o i false q z = inr q
        one o i true q (inl z) = inl (g o i z q)
        one o i true q (inr z) = inl (counts-alike (w.dirs d) (v.dirs d) (Some j) b o
            (applied-same sh h.commits w v o d k.commit_is_on_its_way_or_applied stand i dl
            (stored-at-home h.commits o x mem i e q) (f o z)))

    -- the core's bound isn't above the commit
    unbounded : (o : Noted) → o.tid.0 ≡ u → is_below b u ≡ false → counts (w.dirs d) (Some j) b o ≡ counts (v.dirs d) (Some j) b o
    unbounded o z q = let r : is_below b o.tid.0 ≡ false = rw z q in rw r

    -- the commit is the core's own
    granted : Contains gs (grant_to u c)
    granted = (k.no_inv_to_the_core_that_committed.0 c d).owner u t.commit

    own : j ≡ c → (o : Noted) → Contains h.commits o → o.tid.0 ≡ u → counts (w.dirs d) (Some j) b o ≡ counts (v.dirs d) (Some j) b o
    own q o i z =
        let g : Contains gs (grant_to u o.core.0) = rw z at (granted-at gs h.commits o k.commits_are_of_granted_tids.1 i) in
        let r : o.core.0 ≡ c = granted-once 1 gs u o.core.0 c k.granted_tids_are_those_below_next.0 g granted in
        let a : is_this (Some j) o.core.0 ≡ true = rw (q, r) (eq-self c) in
        rw a

    -- the commit doesn't store the word
    unstored : stores_word sh.base n.stores x ≡ false → (o : Noted) → Contains h.commits o → o.tid.0 ≡ u
        → stores_word sh.base o.stores x ≡ true → ⊥
    unstored q o i z s = let r : o ≡ n = same-commit h.commits o n k.commits_are_of_granted_tids.0 i m.noted (z ∙ sym m.tid) in
        let a : stores_word sh.base n.stores x ≡ true = rw r at s in true≢false (sym a ∙ q)

    -- the commit stores the word, and an invalidation of it is sent to the core
    hits : j ≢ c → is_below b u ≡ true → stores_word sh.base n.stores x ≡ true
        → 1 ≤ among (dooms b x) (invalidations sh (w.dirs d).lines c u (Core j))
    hits ne q s = sent-dooms b x u (lines sh) (w.dirs d).lines.mark (is_invalidated sh (w.dirs d).lines c j) inside invalid hit-mark q
      where
        inside : line_of x < lines sh
        inside = (mem n m.noted).stored x s

        mark : (w.dirs d).lines.mark (line_of x) ≡ stored_mask sh d n.stores (line_of x)
        mark = k.commit_counts_the_lines.taken n d (line_of x) m.noted dl (t.serving ∙ sym m.tid) (rw (m.tid, m.core) t.sent)

        place : word_at (line_of x) (place_of x) ≡ x
        place = omega arith

        stored : stores_word sh.base n.stores (word_at (line_of x) (place_of x)) ≡ true
        stored = rw place s

        here : (nat_lt (line_of x) (lines sh) && d == home_of sh x) ≡ true
        here = inside-home (line_of x) (lines sh) inside e

        mask : stored_mask sh d n.stores (line_of x) ≡ stores_in sh.base n.stores (line_of x)
        mask = rw here

        hit-mark : hit (line_of x) ((w.dirs d).lines.mark (line_of x)) x ≡ true
        hit-mark = rw (mark, mask, eq-self (line_of x))
            (has-mask_of (λ i. stores_word sh.base n.stores (word_at (line_of x) i)) (place_of x) (omega arith) ∙ stored)

        named : any_word (stores_word sh.base n.stores) (line_of x) ≡ true
        named = any_below-at (λ i. stores_word sh.base n.stores (word_at (line_of x) i)) 8 (place_of x) (omega arith) stored

        marked : has_mark (w.dirs d).lines (line_of x) ≡ true
        marked = rw mark (num-true (nat_lt 0 (stored_mask sh d n.stores (line_of x)))
            (ap num (all-true (nat_lt (line_of x) (lines sh)) (d == home_of sh x) here named) ∙ stored-line sh d n.stores (line_of x)))

        read : (w.cores j).cache.read x ≡ true
        read = go seen
          where
            go : IsSeen (w.cores j).cache (w.cores j).phase x y → (w.cores j).cache.read x ≡ true
            go (inl r) = r
            go (inr z) =
                let p = solo-tid (w.cores j).phase z in
                let o : b ≡ Some p.0 = bound-own k j d p.0 b jl (solo-holds p.1) bound in
                let r = (solo-served k j d jl dl p.1).serving in
                let l : nat_lt u p.0 ≡ true = rw o at q in
                absurd (not-ahead p.0 l t.serving (omega arith))

        valid : (b : Option ℕ) → is_below b u ≡ true → (is_some ((w.cores j).cache.value x) ≡ true) ⊎ IsPassed b (tid_at w d)
            → is_some ((w.cores j).cache.value x) ≡ true
        valid b q (inl a) = a
        valid None q (inr a) = absurd a
        valid (Some z) q (inr a) = absurd (not-ahead z q t.serving (omega arith))

        sharer : ((w.dirs d).lines.sharers (line_of x) j ≡ true) ⊎ CommitsLine sh.base h.commits j (line_of x) (pair w j d)
            → (w.dirs d).lines.sharers (line_of x) j ≡ true
        sharer (inl a) = a
        sharer (inr a) =
            let z : u ≡ a.tid = sym t.serving ∙ k.committing_tid_is_served j d a.tid jl dl a.sent in
            let g : Contains gs (grant_to u j) = rw z ((k.no_inv_to_the_core_that_committed.0 j d).owner a.tid a.sent) in
            absurd (ne (granted-once 1 gs u j c k.granted_tids_are_those_below_next.0 g granted))

        invalid : is_invalidated sh (w.dirs d).lines c j (line_of x) ≡ true
        invalid = rw (
          is-lt j sh.cores jl,
          marked,
          sharer ((k.holder_is_a_sharer j d (line_of x) jl dl inside e).shares
              (holds-word (pair w j d) x read (valid b q (k.read_mark_is_valid_or_passed j d x b jl dl e bound read)))),
          differ j c ne,
        )

    below : (a : Bool) → is_below b u ≡ a
        → (value_at sh.base ram h.commits (w.dirs d) (Some j) b x ≡ value_at sh.base ram h.commits (v.dirs d) (Some j) b x)
        ⊎ (1 ≤ among (dooms b x) (invalidations sh (w.dirs d).lines c u (Core j)))
    below false q = inl (alike (λ o i z s. unbounded o z q))
    below true q = either j c (λ r. inl (alike (λ o i z s. own r o i z))) (λ r. word r (stores_word sh.base n.stores x) refl)
      where
        word : j ≢ c → (a : Bool) → stores_word sh.base n.stores x ≡ a
            → (value_at sh.base ram h.commits (w.dirs d) (Some j) b x ≡ value_at sh.base ram h.commits (v.dirs d) (Some j) b x)
            ⊎ (1 ≤ among (dooms b x) (invalidations sh (w.dirs d).lines c u (Core j)))
        word r false s = inl (alike (λ o i z p. absurd (unstored s o i z p)))
        word r true s = inr (hits r q s)

-- every core's view is near
abbrev pub AllNear : Shape → (ℕ → ℕ) → List Noted → (ℕ → Uses) → World → Type 0
AllNear sh ram cs vs = AllPairs (λ c d v. ViewOf sh ram cs (vs c) c d v)

-- the used words are marked read, or the core is alone
abbrev pub AllSeen : (ℕ → Uses) → World → Type 0
AllSeen vs w = (c : ℕ) → EachUse (IsSeen (w.cores c).cache (w.cores c).phase) (vs c)

-- the directory takes a message, and each value stays or dooms
near-takes : (sh : Shape) (ram : ℕ → ℕ) (cs : List Noted) (vs : ℕ → Uses) (w : World) (c d k : ℕ) (s : DirState) (sends : Sends)
    → AllSeen vs w → AllNear sh ram cs vs w → ((j : ℕ) → StaysOrDooms sh ram cs j d (pair w j d) s (sends (Core j)))
    → AllNear sh ram cs vs (dir_takes w c d k s sends)
unfolding pair
near-takes sh ram cs vs w c d k s sends q h f = pairs_dir (λ c d v. ViewOf sh ram cs (vs c) c d v) w c d k s sends
    (view-answers s (sends (Core c)) own (q c) (view-out k (h c d))) (λ j n. view-answers s (sends (Core j)) (f j) (q j) (h j d)) h
  where
    own : StaysOrDooms sh ram cs c d (out_taken (pair w c d) k) s (sends (Core c))
    own b cl dl i = f c b cl dl (bound-out b (pair w c d) k i)

near-asks : (sh : Shape) (ram : ℕ → ℕ) (cs : List Noted) (vs : ℕ → Uses) (w : World) (d : ℕ) (s : DirState) (sends : Sends) → AllSeen vs w
    → AllNear sh ram cs vs w → ((j : ℕ) → StaysOrDooms sh ram cs j d (pair w j d) s (sends (Core j)))
    → AllNear sh ram cs vs (dir_asks w d s sends)
unfolding pair
near-asks sh ram cs vs w d s sends q h f = pairs_asks (λ c d v. ViewOf sh ram cs (vs c) c d v) w d s sends
    (λ j. view-answers s (sends (Core j)) (f j) (q j) (h j d)) h

-- where commits stand after the event too
abbrev pub NearAfter : Shape → (ℕ → ℕ) → List Noted → (ℕ → Uses) → World → Type 0
NearAfter sh ram cs vs v = CommitsStand sh v cs → AllNear sh ram cs vs v

-- the message isn't a Commit
plain-views : (sh : Shape) (ram : ℕ → ℕ) (cs : List Noted) (vs : ℕ → Uses) (w : World) (c d k : ℕ) (m : Msg) (a : Answer)
    → CommitsInMemory sh cs → CommitsStand sh w cs → AllSeen vs w → AllNear sh ram cs vs w → FromCore w c d k m
    → ((t : ℕ) → passes (Commits t) m ≡ false) → OfAnswer w c d k (NearAfter sh ram cs vs) a
unfolding pair dir_asks
plain-views sh ram cs vs w c d k m a mem st q h i f = go a
  where
    takes : (s : DirState) (sends : Sends) → NearAfter sh ram cs vs (dir_takes w c d k s sends)
    takes s sends z = near-takes sh ram cs vs w c d k s sends q h stays
      where
        stays : (j : ℕ) → StaysOrDooms sh ram cs j d (pair w j d) s (sends (Core j))
        stays j b cl dl g x y e r =
            inl (rw (dirs-taken w c d k s sends) at (stays-value sh ram cs w (dir_takes w c d k s sends) j d x b mem st z dl e
            (λ n. commits-after w c d k n.tid.0 s sends n.core.0 i (f n.tid.0))))

    go : (a : Answer) → OfAnswer w c d k (NearAfter sh ram cs vs) a
    go Waits = tt
    go Drops = takes (w.dirs d) nothing
    go (Takes s sends) = takes s sends
    go (Asks s sends) = λ z. near-asks sh ram cs vs w d s sends q h (λ j b cl dl g x y e r. inl
        (rw (eq-self d) at (stays-value sh ram cs w (dir_asks w d s sends) j d x b mem st z dl e
        (λ n. ap (λ v. live (Commits n.tid.0) v.out) (asks-own w d s sends n.core.0)))))

commit-views : {sh : Shape} {gs : List Grant} {ys : Ways} (ram : ℕ → ℕ) (vs : ℕ → Uses) (h : History) (c d k u n : ℕ) → Carried sh gs ys h
    → CommitsInMemory sh h.commits → AllSeen vs h.world → AllNear sh ram h.commits vs h.world → c < sh.cores
    → FromCore h.world c d k (Commit u n) → OfAnswer h.world c d k (NearAfter sh ram h.commits vs) (dir_commit sh c u n (h.world.dirs d))
unfolding dir_commit passes
commit-views {sh} ram vs h c d k u n y mem q near cl i =
    go (s.serving.serving == u) refl (count_below (has_mark s.lines) (lines sh) == n) refl
  where
    w : World
    w = h.world

    s : DirState
    s = w.dirs d

    r : DirState
    r = moved_on_if_settled (record s { lines = owned_by_committer c u s.lines; owed = invalidation_count sh s.lines c })

    go : (a : Bool) → (s.serving.serving == u) ≡ a → (b : Bool) → (count_below (has_mark s.lines) (lines sh) == n) ≡ b
        → OfAnswer w c d k (NearAfter sh ram h.commits vs) (if a && b then Takes r (invalidations sh s.lines c u) else Waits)
    go false e b f = tt
    go true e false f = tt
    go true e true f = λ z. near-takes sh ram h.commits vs w c d k r (invalidations sh s.lines c u) q near (one z)
      where
        counted : num ((u == u) && (n == count_below (has_mark s.lines) (lines sh))) ≡ 1
        counted = grind nats

        meant : num (u == u) ≡ 1
        meant = grind nats

        away : (t : ℕ) → t ≢ u → (u == t) ≡ false
        away t x = grind nats

        one : CommitsStand sh (dir_takes w c d k r (invalidations sh s.lines c u)) h.commits → (j : ℕ)
            → StaysOrDooms sh ram h.commits j d (pair w j d) r (invalidations sh s.lines c u (Core j))
        one z j b jl dl g = rw (dirs-taken w c d k r (invalidations sh s.lines c u))
            at (commit-value ram h y mem (dir_takes w c d k r (invalidations sh s.lines c u)) z c d u
            (record {
              core = cl;
              dir = dl;
              serving = grind nats;
              sent = omega (
                arith,
                counted,
                live-some (CommitOf u (count_below (has_mark s.lines) (lines sh))) (to_dir w c d) k
                    (Commit u n) i,
              );
              commit = omega (arith, meant, live-some (Commits u) (to_dir w c d) k (Commit u n) i);
            })
            (λ o x. commits-after w c d k o.tid.0 r (invalidations sh s.lines c u) o.core.0 i (away o.tid.0 x)) j b jl dl g)

pub answered-views : (sh : Shape) (gs : List Grant) (ys : Ways) (ram : ℕ → ℕ) (vs : ℕ → Uses) (h : History) (c d k : ℕ) (m : Msg)
    → Carried sh gs ys h → CommitsInMemory sh h.commits → AllSeen vs h.world → AllNear sh ram h.commits vs h.world → c < sh.cores
    → FromCore h.world c d k m → OfAnswer h.world c d k (NearAfter sh ram h.commits vs) (dir_deliver sh (h.world.dirs d) c m)
unfolding dir_deliver passes
answered-views sh gs ys ram vs h c d k m y mem q near cl i = go m i
  where
    plain : (m : Msg) → FromCore h.world c d k m → ((t : ℕ) → passes (Commits t) m ≡ false)
        → OfAnswer h.world c d k (NearAfter sh ram h.commits vs) (dir_deliver sh (h.world.dirs d) c m)
    plain m i f = plain-views sh ram h.commits vs h.world c d k m (dir_deliver sh (h.world.dirs d) c m) mem
        y.commit_is_on_its_way_or_applied q near i f

    go : (m : Msg) → FromCore h.world c d k m → OfAnswer h.world c d k (NearAfter sh ram h.commits vs) (dir_deliver sh (h.world.dirs d) c m)
    go (Commit u n) i = commit-views ram vs h c d k u n y mem q near cl i
    go TidReq i = tt
    go (TidGrant u) i = tt
    go (Fill l ws) i = tt
    go (ProbeReply u v) i = tt
    go (DataReq l) i = tt
    go (Inv l x u) i = tt
    go m i = plain m i (λ t. refl)
