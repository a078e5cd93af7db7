-- Every event keeps what is known of the owner of a line and of the loads of it: an asked line has an owner, one marked in part has none.
use Rattle.theorem_serial.specs.Asked.{AskedOwned, KeptAsked}
use Rattle.theorem_serial.proofs
use proofs.Names
use Names.{got, nothing, eq-self, ℕ, ◌≡◌, Bool, false, [], ◌==◌, ◌&&◌, Option, Some, None, IfSome, arith, refl, Program, Local, num, Core}
use Names.{Dir, Event, Msg, Fill, ProbeReply, DataReq, Shape, DirState, World, start, core_start, Out, grant, Answer, Waits, Drops, Asks}
use Names.{Takes, dir_deliver, home_words, core_moves, core_takes, step, LoadingOf, KeptLoading, LoadOf, FillOf, live, among, passes, Pair}
use Names.{pair, nats, to_dir, to_core, FromCore, FromDir, no_lines, dir_start, Commit, true, List, ◌++◌, Contains, if◌then◌else◌, ap}
use Names.{Contains-append_left, has_mark, KeptLineOwners, Commits, Grant, granted_by, SparesCommitter, Stepped, tid_at, inr, WhollyOrHome}
use Names.{KeptWhole, grant_to, ◌≢◌}
use proofs.Counts.{Outcome, Waiting, Spent, AsksOwner, TakesProbe, TakesLoad, TakesCommit, TakesCopy, IsSpent, CopyPassed, outcome}
use proofs.Counts.{among-none, among-to, none-to, none-invalidations, TakesAbort, TakesMark, TakesAck, live-sends, live-takes, differ}
use proofs.Counts.{pairs_move, pairs_grant, pairs_back, pairs_dir, pairs_asks, pairs_vendor, OfAnswer, step_cases, Leaves, dirs_step}
use proofs.OneCore.{LoadsStep, LoadsBack, loads-exec, loads-evict, loads-grant, loads-back}
use proofs.Tids.{live-some}

-- Every event keeps that one load request or Fill is in flight exactly for the line that a core awaits.

-- a load request is answered by one Fill to its core, or stays, and no other message brings one
abbrev pub FillsBy : (core : ℕ) → Msg → Answer → Type 0
FillsBy c m Waits = Unit {0}
FillsBy c m Drops = (l : ℕ) → passes (LoadOf l) m ≡ false
FillsBy c m (Asks new sends) = (l j : ℕ) → among (FillOf l) (sends (Core j)) ≡ 0
FillsBy c m (Takes new sends) = (l j : ℕ) → among (FillOf l) (sends (Core j)) ≡ num (j == c && passes (LoadOf l) m)

and-none : (a b : Bool) → b ≡ false → num (a && b) ≡ 0
and-none a b h = grind nats

-- where nothing is sent for a message that is no load request
quiet : (c : ℕ) (m : Msg) (l j : ℕ) → passes (LoadOf l) m ≡ false → among (FillOf l) [] ≡ num (j == c && passes (LoadOf l) m)
unfolding among
quiet c m l j h = omega (arith, and-none)

pub dir-fills : (sh : Shape) (s : DirState) (c : ℕ) (m : Msg) → FillsBy c m (dir_deliver sh s c m)
unfolding passes
dir-fills sh s c m = go (outcome sh s c m)
  where
    spent : {m : Msg} → IsSpent s c m → (l : ℕ) → passes (LoadOf l) m ≡ false
    spent (CopyPassed m k n ws g y i e) l = y.alike (LoadOf l)
    spent _ l = refl

    go : {m : Msg} {a : Answer} → Outcome sh s c m a → FillsBy c m a
    go (Waiting m) = tt
    go (Spent m i) = spent i
    go (AsksOwner m k o w e) = λ l j. none-to (FillOf l) o j (DataReq k) refl
    go (TakesProbe t i) = λ l j. among-to (FillOf l) c j (ProbeReply t s.serving.serving)
    go (TakesLoad k x i e o) = λ l j. among-to (FillOf l) c j (Fill k (home_words s k))
    go (TakesCommit b e) =
        λ l j. omega (arith, none-invalidations (FillOf l) (λ x y z. refl) sh s.lines c s.serving.serving j, and-none (j == c) false refl)
    go (TakesCopy m k n ws g y e o) = λ l j. quiet c m l j (y.alike (LoadOf l))
    go _ = λ l j. omega (arith, among-none (FillOf l), and-none (j == c) false refl)

-- nothing is no Fill
none-fills : (l : ℕ) → among (FillOf l) [] ≡ 0
unfolding among
none-fills l = refl

-- every event
pub step-loading : (sh : Shape) (p : Program) (w : World) (e : Event) → KeptLoading sh w
    → IfSome (step sh p w e) (λ o. KeptLoading sh o.world)
unfolding pair
step-loading sh p w e h = step_cases sh p w e (λ g o. KeptLoading sh o.world)
    (λ c o eq l. moved c o (got _ eq (loads-exec sh p c (w.cores c))))
    (λ c a b o eq l. moved c o (got _ eq (loads-evict sh a b (w.cores c))))
    (λ c k u i. pairs_grant P w c k (grant sh u (w.cores c))
    (λ d l. omega (arith, h, loads-grant, live-sends)) h)
    (λ c d k m o eq i. taken c d k m i o
    (got _ eq (loads-back sh d (w.cores c) m (λ l. omega (arith, h c d l, live-some (FillOf l) (to_core w d c) k m i)))))
    (λ c d k m i. answered c d k m i (dir_deliver sh (w.dirs d) c m) (dir-fills sh (w.dirs d) c m))
    (λ c k a i. pairs_vendor P w c k a (h c) (λ j d n l. h j d l))
  where
    P : ℕ → ℕ → Pair → Type 0
    P c d v = (l : ℕ) → LoadingOf sh d l v

    moved : (c : ℕ) (o : Out) → LoadsStep sh (w.cores c) o → KeptLoading sh (core_moves w c o)
    moved c o a = pairs_move P w c o (λ d l. omega (arith, h, a, live-sends)) h

    self : (d : ℕ) (b : Bool) → num (d == d && b) ≡ num b
    self d b = rw (eq-self d)

    other : (d e : ℕ) (b : Bool) → d ≢ e → num (d == e && b) ≡ 0
    other d e b n = rw (differ d e n)

    taken : (c d k : ℕ) (m : Msg) → FromDir w d c k m → (o : Out) → LoadsBack sh d (w.cores c) m o
        → KeptLoading sh (core_takes w (Dir d) c k o)
    taken c d k m i o a = pairs_back P w d c k o
        (λ l. omega (arith, h c d l, a d l, self d (passes (FillOf l) m), live-sends, live-takes (FillOf l) (to_core w d c) k m i))
        (λ b n l. omega (arith, h, a, other, live-sends)) h

    answered : (c d k : ℕ) (m : Msg) → FromCore w c d k m → (a : Answer) → FillsBy c m a → OfAnswer w c d k (KeptLoading sh) a
    answered c d k m i Waits u = tt
    answered c d k m i Drops u = pairs_dir P w c d k (w.dirs d) nothing (λ l. let z : num (passes (LoadOf l) m) ≡ 0 = rw (u l) in
        omega (arith, h, live-takes (LoadOf l) (to_dir w c d) k m i, live-sends, none-fills))
        (λ j n l. omega (arith, h, live-sends, none-fills)) h
    answered c d k m i (Asks s sends) u =
        pairs_asks P w d s sends (λ j l. omega (arith, h, u, live-sends)) h
    answered c d k m i (Takes s sends) u = pairs_dir P w c d k s sends
        (λ l. omega (arith, h, u, self, live-takes (LoadOf l) (to_dir w c d) k m i, live-sends))
        (λ j n l. omega (arith, h, u, other, live-sends)) h

pub start-loading : (sh : Shape) (entries : ℕ → Local) (ram : ℕ → ℕ) → KeptLoading sh (start entries ram)
unfolding start core_start pair live
start-loading sh entries ram c d l = refl

-- Every event keeps what is known of the owner of a line: a line that was asked for has one, a line marked in part has none, and it is
-- the core that the line's tag was granted to.

-- Every event keeps that a line whose data was asked for has an owner.

dir-asked : (sh : Shape) (s : DirState) (c : ℕ) (m : Msg) → AskedOwned s → Leaves AskedOwned (dir_deliver sh s c m)
dir-asked sh s c m h = go (outcome sh s c m)
  where
    go : {m : Msg} {a : Answer} → Outcome sh s c m a → Leaves AskedOwned a
    go (Waiting m) = tt
    go (Spent m i) = tt
    go (AsksOwner m l o w e) = λ x a. grind (nats, h)
    go (TakesCommit b e) = λ x a. grind (nats, h)
    go (TakesCopy m l k ws g y e o) = λ x a. grind (nats, h)
    go _ = h

pub step-asked : (sh : Shape) (p : Program) (w : World) (e : Event) → KeptAsked sh w → IfSome (step sh p w e) (λ o. KeptAsked sh o.world)
step-asked sh p w e h = dirs_step sh p w e AskedOwned h (λ c d k m i. dir-asked sh (w.dirs d) c m (h d))

pub start-asked : (sh : Shape) (entries : ℕ → Local) (ram : ℕ → ℕ) → KeptAsked sh (start entries ram)
unfolding start dir_start no_lines
start-asked sh entries ram d l a = absurd (cc)

-- Every event keeps that the owner of a line is the core that the line's tag was granted to.

-- the owners of one directory's lines
abbrev LineOwners : List Grant → DirState → Type 0
LineOwners gs s = (l c : ℕ) → s.lines.owner l ≡ Some c → Contains gs (grant_to (s.lines.tag l) c)

more-granted : (gs new : List Grant) (w : World) (e : Event) (x : Option Stepped) → IfSome x (λ o. (d : ℕ) → LineOwners gs (o.world.dirs d))
    → IfSome x (λ o. KeptLineOwners (gs ++ new) o.world)
more-granted gs new w e None h = tt
more-granted gs new w e (Some o) h = λ d l j q. Contains-append_left gs new (grant_to ((o.world.dirs d).lines.tag l) j) (h d l j q)

pub step-line-owners : (sh : Shape) (p : Program) (gs : List Grant) (w : World) (e : Event) → SparesCommitter sh gs w → KeptLineOwners gs w
    → IfSome (step sh p w e) (λ o. KeptLineOwners (gs ++ granted_by w e) o.world)
unfolding pair passes
step-line-owners sh p gs w e y h = more-granted gs (granted_by w e) w e (step sh p w e)
    (dirs_step sh p w e (LineOwners gs) h (λ c d k m i. owners c d k i (outcome sh (w.dirs d) c m)))
  where
    -- the core of the Commit owns the lines with its TID
    taken : (c d k n : ℕ) → FromCore w c d k (Commit (tid_at w d) n) → (x j : ℕ) (b : Bool)
        → (if b then Some c else (w.dirs d).lines.owner x) ≡ Some j
        → Contains gs (grant_to (if b then tid_at w d else (w.dirs d).lines.tag x) j)
    taken c d k n i x j false q = h d x j q
    taken c d k n i x j true q =
        let u : ℕ = tid_at w d in
        let z : c ≡ j = cc in
        let v : num (u == u) ≡ 1 = ap num (eq-self u) in
        rw (← z) ((y c d).owner u (omega (arith, live-takes (Commits u) (to_dir w c d) k (Commit u n) i)))

    owners : (c d k : ℕ) {m : Msg} {a : Answer} → FromCore w c d k m → Outcome sh (w.dirs d) c m a → Leaves (LineOwners gs) a
    owners c d k i (Waiting m) = tt
    owners c d k i (Spent m n) = tt
    owners c d k i (TakesCommit b e) = λ x j q. taken c d k _ i x j (has_mark (w.dirs d).lines x) q
    owners c d k i (TakesCopy m l z ws g v e o) = λ x j q. h d x j (grind nats)
    owners c d k i _ = h d

pub start-line-owners : (entries : ℕ → Local) (ram : ℕ → ℕ) → KeptLineOwners [] (start entries ram)
unfolding start dir_start no_lines
start-line-owners entries ram d l c e = absurd (cc)

-- Every event keeps that a line which is marked in part has no owner.

dir-whole : (sh : Shape) (s : DirState) (c : ℕ) (m : Msg) → WhollyOrHome s → Leaves WhollyOrHome (dir_deliver sh s c m)
dir-whole sh s c m h = go (outcome sh s c m)
  where
    go : {m : Msg} {a : Answer} → Outcome sh s c m a → Leaves WhollyOrHome a
    go (Waiting m) = tt
    go (Spent m i) = tt
    go (TakesAbort u b e i) = λ x o n. grind (nats, h)
    go (TakesMark l k i) = λ x o n. grind (nats, h)
    go (TakesCommit b e) = λ x o n. grind nats
    go (TakesAck l k b i e) = λ x o n. grind nats
    go (TakesCopy m l k ws g y e o) = λ x o n. grind (nats, h)
    go _ = h

pub step-whole : (sh : Shape) (p : Program) (w : World) (e : Event) → KeptWhole sh w → IfSome (step sh p w e) (λ o. KeptWhole sh o.world)
step-whole sh p w e h = dirs_step sh p w e WhollyOrHome h (λ c d k m i. dir-whole sh (w.dirs d) c m (h d))

pub start-whole : (sh : Shape) (entries : ℕ → Local) (ram : ℕ → ℕ) → KeptWhole sh (start entries ram)
unfolding start dir_start no_lines
start-whole sh entries ram d l o m = inr refl
