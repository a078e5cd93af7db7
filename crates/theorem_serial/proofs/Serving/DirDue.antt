-- What a directory's rules do to what it serves, replies, invalidates and is owed.
use Rattle.theorem_serial.proofs
use proofs.Names
use Names.{eq-self, those-empty, ℕ, ◌≡◌, Bool, true, false, not, ◌==◌, ◌&&◌, nat_lt, arith, refl, ◌⊎◌, inl, inr, Lines, has_mark, Core, Msg}
use Names.{Fill, ProbeReply, DataReq, Shape, lines, DirState, Sends, Answer, Asks, Takes, dir_deliver, invalidations, invs_to}
use Names.{is_invalidated, home_words, Invs, Commits, among, passes, nats, ◌≤◌, [], if◌then◌else◌, num, advance, kept, advance-rises, Link}
use Names.{nothing, RepliesAbove, live, Serving, LoadReq, Waits, Drops, Probes, Replies, zero, suc, ◌+◌, ◌-◌, ◌%◌, List, ◌∷◌, cond}
use Names.{flat_map, flat_map-append, count_below, those, Skip, Commit, Abort, Inv, home, sum_below, invalidation_count, InvsNot, InvsAway}
use Names.{Acks, MarksAway, Resolves, ◌≢◌}
use proofs.Counts.{Outcome, Waiting, Spent, AsksOwner, TakesProbe, TakesLoad, TakesCommit, outcome, among-none, none-to, TakesSkip}
use proofs.Counts.{TakesAbort, TakesMark, TakesAck, TakesCopy, none-invalidations, IsSpent, CopyPassed, among-to, NoneOwed, live-fewer}
use proofs.Counts.{among-append, total-zero, total-same, among-fewer, among-flat_map_none, differ}
use proofs.Serving.CoreDue.{among-those_none}
use proofs.Tids.{OnceAt, unserved}

-- A directory sends invalidations only where it takes the Commit of the served TID, and none to the core that commits.

-- no invalidation, or those of a Commit of the served TID, none of them to its core
abbrev pub Quiet : Sends → Type 0
Quiet sends = (j : ℕ) → among Invs (sends (Core j)) ≡ 0

abbrev pub SparesOwn : DirState → (core : ℕ) → Msg → Sends → Type 0
SparesOwn s c m sends = Quiet sends ⊎ ((among Invs (sends (Core c)) ≡ 0) × (passes (Commits s.serving.serving) m ≡ true))

abbrev pub SparesBy : DirState → (core : ℕ) → Msg → Answer → Type 0
SparesBy s c m (Asks new sends) = Quiet sends
SparesBy s c m (Takes new sends) = SparesOwn s c m sends
SparesBy s c m _ = Unit {0}

own-spared : (sh : Shape) (ls : Lines) (c k : ℕ) → is_invalidated sh ls c c k ≡ false
unfolding is_invalidated
own-spared sh ls c k =
    let go : (x y z : Bool) → (x && y && z && not true) ≡ false = λ x y z. grind arith in
    let b : (c == c) ≡ true = grind nats in rw b (go (nat_lt c sh.cores) (has_mark ls k) (ls.sharers k c))

spares-invalidations : (sh : Shape) (ls : Lines) (c u : ℕ) → among Invs (invalidations sh ls c u (Core c)) ≡ 0
unfolding invalidations invs_to among
spares-invalidations sh ls c u = rw (those-empty (is_invalidated sh ls c c) (lines sh) (own-spared sh ls c))

pub dir-spares : (sh : Shape) (s : DirState) (c : ℕ) (m : Msg) → SparesBy s c m (dir_deliver sh s c m)
unfolding passes
dir-spares sh s c m = go (outcome sh s c m)
  where
    go : {m : Msg} {a : Answer} → Outcome sh s c m a → SparesBy s c m a
    go (Waiting q) = tt
    go (Spent q h) = tt
    go (AsksOwner q l o w e) = λ j. none-to Invs o j (DataReq l) refl
    go (TakesProbe t h) = inl (λ j. none-to Invs c j (ProbeReply t s.serving.serving) refl)
    go (TakesLoad l k h e o) = inl (λ j. none-to Invs c j (Fill l (home_words s l)) refl)
    go (TakesCommit b e) = inr (spares-invalidations sh s.lines c s.serving.serving, eq-self s.serving.serving)
    go _ = inl (λ j. among-none Invs)

-- The served TID only rises, and a directory replies to a probe once it has reached its TID.

-- no reply of a TID above the served one
pub record Rises (s new : DirState) (sends : Sends) : Type 0 where
  pub rises : s.serving.serving ≤ new.serving.serving
  pub replies : (j : ℕ) → among (RepliesAbove new.serving.serving) (sends (Core j)) ≡ 0

abbrev pub RisesBy : DirState → Answer → Type 0
RisesBy s (Asks new sends) = Rises s new sends
RisesBy s (Takes new sends) = Rises s new sends
RisesBy s _ = Unit {0}

pub rises-still : (s : DirState) → Rises s s nothing
unfolding among
rises-still s = record { rises = omega arith; replies = λ j. refl }

-- from the served TID to the one after it
next-rises : (b : Bool) (s r : Serving) → s.serving ≤ r.serving → s.serving ≤ (if b then advance s else r).serving
next-rises a s r l = grind (nats, advance-rises)

pub dir-rises : (sh : Shape) (s : DirState) (c : ℕ) (m : Msg) → RisesBy s (dir_deliver sh s c m)
unfolding passes kept
dir-rises sh s c m = go (outcome sh s c m)
  where
    quietly : (new : DirState) → s.serving.serving ≤ new.serving.serving → Rises s new nothing
    quietly new l = record { rises = l; replies = λ j. among-none (RepliesAbove new.serving.serving) }

    go : {m : Msg} {a : Answer} → Outcome sh s c m a → RisesBy s a
    go (AsksOwner q l o w e) = record { rises = omega arith; replies = λ j. none-to (RepliesAbove s.serving.serving) o j (DataReq l) refl }
    go (TakesSkip t b e h) = quietly _ (next-rises b s.serving (kept t s.serving) (omega arith))
    go (TakesAbort t b e h) = quietly _ (next-rises b s.serving (kept t s.serving) (omega arith))
    go (TakesProbe t h) =
        record {
          rises = omega arith;
          replies = λ j. none-to (RepliesAbove s.serving.serving) c j (ProbeReply t s.serving.serving) (grind nats);
        }
    go (TakesLoad l k h e o) =
        record { rises = omega arith; replies = λ j. none-to (RepliesAbove s.serving.serving) c j (Fill l (home_words s l)) refl }
    go (TakesMark l k h) = quietly _ (omega arith)
    go (TakesCommit b e) =
        record {
          rises = next-rises b s.serving s.serving (omega arith);
          replies = λ j. none-invalidations (RepliesAbove (if b then advance s.serving else s.serving).serving)
              (λ x y z. refl) sh s.lines c s.serving.serving j;
        }
    go (TakesAck l k b h e) = quietly _ (next-rises b s.serving s.serving (omega arith))
    go (TakesCopy q l k ws g y e o) = quietly _ (omega arith)
    go _ = tt

-- fewer replies are above a larger TID
above-fewer : (a b : ℕ) (m : Msg) → a ≤ b → num (passes (RepliesAbove b) m) ≤ num (passes (RepliesAbove a) m)
unfolding passes
above-fewer a b m l = grind nats

pub fewer-above : (a b : ℕ) (l : Link) → a ≤ b → live (RepliesAbove b) l ≤ live (RepliesAbove a) l
fewer-above a b l h = live-fewer (RepliesAbove b) (RepliesAbove a) (λ m. above-fewer a b m h) l

-- A directory replies to a probe where it takes it, and to nothing else.

-- the reply to a probe that was taken, to its core alone
pub record Replying (m : Msg) (c : ℕ) (sends : Sends) : Type 0 where
  pub own : (t : ℕ) → among (Replies t) (sends (Core c)) ≡ num (passes (Probes t) m)
  pub others : (j t : ℕ) → j ≢ c → among (Replies t) (sends (Core j)) ≡ 0

abbrev pub RepliesBy : Msg → (core : ℕ) → Answer → Type 0
RepliesBy m c Waits = Unit {0}
RepliesBy m c Drops = (t : ℕ) → num (passes (Probes t) m) ≡ 0
RepliesBy m c (Asks new sends) = (j t : ℕ) → among (Replies t) (sends (Core j)) ≡ 0
RepliesBy m c (Takes new sends) = Replying m c sends

pub none-replied : (t : ℕ) → among (Replies t) [] ≡ 0
none-replied t = among-none (Replies t)

pub dir-replies : (sh : Shape) (s : DirState) (c : ℕ) (m : Msg) → RepliesBy m c (dir_deliver sh s c m)
unfolding passes
dir-replies sh s c m = go (outcome sh s c m)
  where
    quiet : (m : Msg) (sends : Sends) → ((t : ℕ) → passes (Probes t) m ≡ false) → ((j t : ℕ) → among (Replies t) (sends (Core j)) ≡ 0)
        → Replying m c sends
    quiet m sends n h = record { own = λ t. rw (n t) (h c t); others = λ j t x. h j t }

    spent : {m : Msg} → IsSpent s c m → (t : ℕ) → num (passes (Probes t) m) ≡ 0
    spent (CopyPassed m l k ws g y h e) t = rw (y.alike (Probes t))
    spent _ t = refl

    go : {m : Msg} {a : Answer} → Outcome sh s c m a → RepliesBy m c a
    go (Waiting q) = tt
    go (Spent q h) = spent h
    go (AsksOwner q l o w e) = λ j t. none-to (Replies t) o j (DataReq l) refl
    go (TakesProbe u h) = record {
      own = λ t. rw (among-to (Replies t) c c (ProbeReply u s.serving.serving), eq-self c);
      others = λ j t n. rw (among-to (Replies t) c j (ProbeReply u s.serving.serving), differ j c n);
    }
    go (TakesLoad l k h e o) = quiet (LoadReq l k) _ (λ t. refl) (λ j t. none-to (Replies t) c j (Fill l (home_words s l)) refl)
    go (TakesCommit b e) = quiet _ _ (λ t. refl) (λ j t. none-invalidations (Replies t) (λ x y z. refl) sh s.lines c s.serving.serving j)
    go (TakesCopy m l k ws g y e o) = quiet m nothing (λ t. y.alike (Probes t)) (λ j t. among-none (Replies t))
    go _ = record { own = λ t. among-none (Replies t); others = λ j t n. among-none (Replies t) }

-- What a directory's rules do to what it is owed and to what it sends about marked lines.

-- the invalidations in what is sent to all cores
abbrev pub invs_sent : Shape → Sends → ℕ
invs_sent sh sends = sum_below (λ j. among Invs (sends (Core j))) sh.cores

abbrev pub MarkedHome : Shape → (dir : ℕ) → DirState → Type 0
MarkedHome sh d s = (l : ℕ) → has_mark s.lines l ≡ true → home sh l ≡ d

-- what an answer with this state and these messages does to what is due
pub record Due (sh : Shape) (d : ℕ) (s : DirState) (ack : ℕ) (new : DirState) (sends : Sends) : Type 0 where
  pub owed : new.owed + ack ≡ s.owed + invs_sent sh sends
  pub served : ((new.serving.serving ≡ s.serving.serving) × ((j : ℕ) → among (InvsNot s.serving.serving) (sends (Core j)) ≡ 0))
      ⊎ (new.owed ≡ 0)
  pub invs : (j : ℕ) → among (InvsAway sh.dirs d) (sends (Core j)) ≡ 0
  pub marked : MarkedHome sh d new

abbrev pub DueBy : Shape → (dir : ℕ) → DirState → (ack : ℕ) → Answer → Type 0
DueBy sh d s ack Waits = Unit {0}
DueBy sh d s ack Drops = ack ≡ 0
DueBy sh d s ack (Asks new sends) = Due sh d s 0 new sends
DueBy sh d s ack (Takes new sends) = Due sh d s ack new sends

-- of messages without an invalidation
none-sent : (sh : Shape) (sends : Sends) → ((j : ℕ) → among Invs (sends (Core j)) ≡ 0) → invs_sent sh sends ≡ 0
none-sent sh sends h = total-zero (λ j. among Invs (sends (Core j))) sh.cores (λ j l. h j)

pub nots-invs : (t : ℕ) (m : Msg) → num (passes (InvsNot t) m) ≤ num (passes Invs m)
unfolding passes
nots-invs t m = grind nats

aways-invs : (n d : ℕ) (m : Msg) → num (passes (InvsAway n d) m) ≤ num (passes Invs m)
unfolding passes
aways-invs n d m = grind nats

few-nots : (t : ℕ) (ms : List Msg) → among (InvsNot t) ms ≤ among Invs ms
few-nots t ms = among-fewer (InvsNot t) Invs (nots-invs t) ms

few-aways : (n d : ℕ) (ms : List Msg) → among (InvsAway n d) ms ≤ among Invs ms
few-aways n d ms = among-fewer (InvsAway n d) Invs (aways-invs n d) ms

-- nothing about marked lines changes but perhaps the marks, and no invalidation is sent
quiet-due : (sh : Shape) (d : ℕ) (s new : DirState) (sends : Sends) → new.owed ≡ s.owed → (new.serving.serving ≡ s.serving.serving)
    ⊎ (new.owed ≡ 0) → ((j : ℕ) → among Invs (sends (Core j)) ≡ 0) → MarkedHome sh d new → Due sh d s 0 new sends
quiet-due sh d s new sends e f q m = record {
  owed = omega (arith, none-sent);
  served = served f;
  invs = λ j. omega (arith, q, few-aways);
  marked = m;
}
  where
    served : (new.serving.serving ≡ s.serving.serving) ⊎ (new.owed ≡ 0)
        → ((new.serving.serving ≡ s.serving.serving) × ((j : ℕ) → among (InvsNot s.serving.serving) (sends (Core j)) ≡ 0)) ⊎ (new.owed ≡ 0)
    served (inl x) = inl (x, λ j. omega (arith, q, few-nots))
    served (inr x) = inr x

-- a commit's invalidations are as many as are owed for it
invs-those : (f : ℕ → ℕ) (t : ℕ) (p : ℕ → Bool) (n : ℕ) → among Invs (flat_map (λ l. Inv l (f l) t ∷ []) (those p n)) ≡ count_below p n
unfolding among passes those count_below
invs-those f t p zero = refl
invs-those f t p (suc n) = rw flat_map-append (rw among-append (omega (arith, invs-those f t p n, last)))
  where
    last : (b : Bool) → among Invs (flat_map (λ l. Inv l (f l) t ∷ []) (cond b (n ∷ []) [])) ≡ num b
    last a = grind nats

invs-invalidations : (sh : Shape) (ls : Lines) (c t : ℕ) → invs_sent sh (invalidations sh ls c t) ≡ invalidation_count sh ls c
unfolding invalidations invs_to invalidation_count
invs-invalidations sh ls c t =
    total-same (λ j. among Invs (flat_map (λ l. Inv l (ls.mark l) t ∷ []) (those (is_invalidated sh ls c j) (lines sh))))
    (λ j. count_below (is_invalidated sh ls c j) (lines sh)) sh.cores (λ j l. invs-those ls.mark t (is_invalidated sh ls c j) (lines sh))

is_invalidated-marked : (sh : Shape) (ls : Lines) (c j l : ℕ) → is_invalidated sh ls c j l ≡ true → has_mark ls l ≡ true
unfolding is_invalidated
is_invalidated-marked sh ls c j l h = grind arith

nots-sent : (sh : Shape) (ls : Lines) (c u j : ℕ) → among (InvsNot u) (invalidations sh ls c u (Core j)) ≡ 0
unfolding invalidations invs_to among passes
nots-sent sh ls c u j = among-flat_map_none (InvsNot u) (λ l. Inv l (ls.mark l) u ∷ [])
    (λ l. let b : (u == u) ≡ true = grind nats in rw b) (those (is_invalidated sh ls c j) (lines sh))

aways-sent : (sh : Shape) (d : ℕ) (ls : Lines) (c u j : ℕ) → ((l : ℕ) → has_mark ls l ≡ true → home sh l ≡ d)
    → among (InvsAway sh.dirs d) (invalidations sh ls c u (Core j)) ≡ 0
unfolding invalidations invs_to among passes
aways-sent sh d ls c u j m = among-those_none (InvsAway sh.dirs d) (λ l. Inv l (ls.mark l) u ∷ []) (is_invalidated sh ls c j) (lines sh)
    (λ l q. let e : l % sh.dirs ≡ d = m l (is_invalidated-marked sh ls c j l q) in
    let b : ((l % sh.dirs) == d) ≡ true = grind nats in rw b)

pub at-home : (h d : ℕ) → not (h == d) ≡ false → h ≡ d
at-home h d e = grind nats

pub none-quiet : (j : ℕ) → among Invs [] ≡ 0
none-quiet j = among-none Invs

-- whether a message is an acknowledgement
pub dir-due : (sh : Shape) (d : ℕ) (s : DirState) (c : ℕ) (m : Msg) → OnceAt s m → MarkedHome sh d s
    → passes (MarksAway sh.dirs d) m ≡ false → num (passes Acks m) ≤ s.owed → DueBy sh d s (num (passes Acks m)) (dir_deliver sh s c m)
unfolding passes kept
dir-due sh d s c m h k = go (outcome sh s c m) h
  where
    -- where the served TID is resolved nothing is owed
    given : (m : Msg) (u : ℕ) (b : Bool) → (s.serving.serving == u) ≡ b → passes (Resolves u) m ≡ true → OnceAt s m
        → ((if b then advance s.serving else kept u s.serving).serving ≡ s.serving.serving) ⊎ (s.owed ≡ 0)
    given m u true e p h = let i : s.serving.serving ≡ u = grind nats in inr (unserved s m h (rw i p))
    given m u false e p h = inl refl

    settled : (b : Bool) (n : ℕ) (sends : Sends) → (n == 0) ≡ b → ((j : ℕ) → among (InvsNot s.serving.serving) (sends (Core j)) ≡ 0)
        → (((if b then advance s.serving else s.serving).serving ≡ s.serving.serving)
        × ((j : ℕ) → among (InvsNot s.serving.serving) (sends (Core j)) ≡ 0)) ⊎ (n ≡ 0)
    settled true n sends e q = inr (grind nats)
    settled false n sends e q = inl (refl, q)

    spent : {m : Msg} → IsSpent s c m → num (passes Acks m) ≤ s.owed → num (passes Acks m) ≡ 0
    spent (NoneOwed l b i) o = omega arith
    spent (CopyPassed m l n ws g y i e) o = rw (y.alike Acks)
    spent _ o = refl

    go : {m : Msg} {a : Answer} → Outcome sh s c m a → OnceAt s m → passes (MarksAway sh.dirs d) m ≡ false → num (passes Acks m) ≤ s.owed
        → DueBy sh d s (num (passes Acks m)) a
    go (Waiting m) h a o = tt
    go (Spent m i) h a o = spent i o
    go (AsksOwner m l x w e) h a o = quiet-due sh d s _ _ refl (inl refl) (λ j. none-to Invs x j (DataReq l) refl) k
    go (TakesSkip u b e i) h a o = quiet-due sh d s _ nothing refl (given (Skip u) u b e (eq-self u) h) none-quiet k
    go (TakesAbort u b e i) h a o = quiet-due sh d s _ nothing refl (given (Abort u) u b e (eq-self u) h) none-quiet
        (λ x q. grind (nats, k))
    go (TakesProbe u i) h a o = quiet-due sh d s s _ refl (inl refl) (λ j. none-to Invs c j (ProbeReply u s.serving.serving) refl) k
    go (TakesLoad l x i e n) h a o = quiet-due sh d s _ _ refl (inl refl) (λ j. none-to Invs c j (Fill l (home_words s l)) refl) k
    go (TakesMark l n i) h a o = quiet-due sh d s _ nothing refl (inl refl) none-quiet (λ x q. grind (nats, k, at-home))
    go (TakesCommit b e) h a o = let z : s.owed ≡ 0 = unserved s (Commit s.serving.serving (count_below (has_mark s.lines) (lines sh))) h
        (eq-self s.serving.serving) in record {
          owed = omega (arith, invs-invalidations);
          served = settled b (invalidation_count sh s.lines c) (invalidations sh s.lines c s.serving.serving) e
              (nots-sent sh s.lines c s.serving.serving);
          invs = λ j. aways-sent sh d s.lines c s.serving.serving j k;
          marked = λ x q. grind (nats, k);
        }
    go (TakesAck l x b i e) h a o = record {
      owed = omega (arith, none-sent sh nothing none-quiet);
      served = settled b (s.owed - 1) nothing e (λ j. among-none (InvsNot s.serving.serving));
      invs = λ j. among-none (InvsAway sh.dirs d);
      marked = λ x q. grind (nats, k);
    }
    go (TakesCopy m l n ws g y e x) h a o = rw (y.alike Acks) (quiet-due sh d s _ nothing refl (inl refl) none-quiet k)

-- a message that is dropped leaves all as it was
pub still-due : (sh : Shape) (d : ℕ) (s : DirState) → MarkedHome sh d s → Due sh d s 0 s nothing
still-due sh d s m = quiet-due sh d s s nothing refl (inl refl) none-quiet m
