-- Every event keeps what the ways say of a core's TID, of a committed one, and of those on which cores have worked.
use Rattle.theorem_serial.proofs
use proofs.Names
use Names.{got, unnoted, ℕ, ◌≡◌, ◌<◌, ◌==◌, Option, Some, None, IfSome, if◌then◌else◌, refl, Program, Core, Dir, Vendor, Msg, TidGrant}
use Names.{Event, Shape, World, in_flight, Sends, nothing, Out, core_exec, core_evict, from_dir, grant, Answer, Waits, dir_deliver}
use Names.{core_moves, core_takes, dir_takes, dir_asks, vendor_gives, Stepped, step, KeptTids, sent_by, ◌≤◌, Bool, true, false, List}
use Names.{Contains, nat_lt, arith, sym, ◌∙◌, ◌⊎◌, inl, inr, Noted, writes_at, Phase, Probing, Ready, Overflowing, Solo, and_noted, Grants}
use Names.{Resolves, Skips, Aborts, Commits, among, passes, KeptCores, Grant, times, KeptOwners, pair, share, has_tid, opens, ResolvedAt}
use Names.{Way, Untold, Skipped, Aborted, Committed, Ways, told_by, ways_after, part_in, WayAt, KeptWays, stores_at, live_way, KeptLive}
use Names.{commit_way, KeptCommitted, ap, num, nats, ◌&&◌, ◌||◌, any_below, any_word, word_at, home, lines, reads_at, is_modified}
use Names.{any_below-at, any_below-found, CoreState, DirState, commit, noted, Drops, Asks, Takes, Kept, OneCore, Reached, loads_word}
use Names.{LoadsMarked, KeptLoads, loads_at, worked_at, KeptWorked, solo_commit, tid_at, ◌≢◌}
use proofs.Counts.{OfAnswer, sent_cases, step_cases, total-le}
use proofs.Serving.{core_of_grant, core_of_back, CommitsNoted, noted-exec, noted-evict, noted-grant, noted-back, times-noted, RisesBy}
use proofs.Serving.{dir-rises}
use proofs.Tids.{inserted, positive-held, positive-committed, KeepsPart, part-exec, part-evict, part-grant, part-back, granted_waits}
use proofs.Tids.{live-some}
use proofs.Ways.CoreSkips.{skips_here, Tells, TellsCommit, tells-exec, tells-evict, tells-grant, tells-back, in-way, told-none, told-skip}
use proofs.Ways.CoreSkips.{told-nothing}
use proofs.OneCore.{loaded-exec, loaded-evict, loaded-grant, loaded-back, Commits_now, Did, each-exec, out, each-evict, Ends_alone}
use proofs.OneCore.{Given_none, Granted, Hands_out, Heard, each-back, each-grant, granted, heard}
use proofs.Marks.CoreMarks.{stored-written}

-- Every event keeps what the ways say of a core's TID, and of a committed one.

-- A step by what it does to the cores: it leaves them as they are, or one core moves, sends and perhaps commits.

-- L holds of what the core does
pub data ByCore (sh : Shape) (w : World) (L : ℕ → Out → Type 0) (x : Sends) (o : Stepped) : Type 0 where
  Still : o.world.cores ≡ w.cores → x ≡ nothing → o.noted ≡ None → ByCore sh w L x o
  Moved : (c : ℕ) (y : Out) → c < sh.cores → L c y → o.world.cores ≡ (λ j. if j == c then y.core else w.cores j) → x ≡ y.sends
      → o.noted ≡ y.commit → ByCore sh w L x o

by_core : {sh : Shape} (p : Program) {w : World} (e : Event) (L : ℕ → Out → Type 0) → KeptTids sh w
    → ((c : ℕ) (o : Out) → core_exec sh p c (w.cores c) ≡ Some o → c < sh.cores → L c o)
    → ((c x y : ℕ) (o : Out) → core_evict sh x y (w.cores c) ≡ Some o → c < sh.cores → L c o)
    → ((c k t : ℕ) → c < sh.cores → in_flight w.net Vendor (Core c) k ≡ Some (TidGrant t) → L c (grant sh t (w.cores c)))
    → ((c d : ℕ) (m : Msg) (o : Out) → from_dir sh d (w.cores c) m ≡ Some o → c < sh.cores → L c o)
    → IfSome (step sh p w e) (ByCore sh w L (sent_by sh p w e))
unfolding core_moves core_takes dir_takes dir_asks vendor_gives
by_core {sh} p {w} e L z ex ev gr ba = sent_cases sh p w e (λ x g. ByCore sh w L x)
    (λ c o eq l. Moved c o l (ex c o eq l) refl refl refl) (λ c x y o eq l. Moved c o l (ev c x y o eq l) refl refl refl)
    (λ c k t i. let l = core_of_grant c k z i in Moved c (grant sh t (w.cores c)) l (gr c k t l i) refl refl refl)
    (λ c d k m o eq i. let l = core_of_back c d k z i in Moved c o l (ba c d m o eq l) refl refl refl)
    (λ c d k m i. answered c d k (dir_deliver sh (w.dirs d) c m)) (λ c k a i. Still refl refl refl)
  where
    answered : (c d k : ℕ) (a : Answer) → OfAnswer w c d k (λ v. ByCore sh w L nothing (unnoted v)) a
    answered c d k Waits = tt
    answered c d k _ = Still refl refl refl

-- Every event keeps what the ways say of a core's TID, and of a committed one.

-- what a core's rule says, and of which TIDs it speaks
pub record Speaks (sh : Shape) (w : World) (c : ℕ) (y : Out) : Type 0 where
  pub untold : (d t : ℕ) → d < sh.dirs → among (Resolves t) (y.sends (Dir d)) ≤ part_in Untold sh d t (pair w c d)
  pub tells : Tells sh (w.cores c) y
  pub noted : CommitsNoted y

pub speaks : (sh : Shape) (w : World) (c : ℕ) (y : Out) → ((d t : ℕ) → d < sh.dirs → KeepsPart sh d t 0 (w.cores c) y)
    → Tells sh (w.cores c) y → CommitsNoted y → Speaks sh w c y
unfolding part_in pair
speaks sh w c y k h n = record { untold = λ d t l. omega (arith, k); tells = h; noted = n }

pub grant-speaks : {sh : Shape} {w : World} (c k : ℕ) {u : ℕ} → KeptTids sh w → in_flight w.net Vendor (Core c) k ≡ Some (TidGrant u)
    → Speaks sh w c (grant sh u (w.cores c))
unfolding part_in pair passes
grant-speaks {sh} {w} c k {u} z i = record {
  untold =
      λ d t l. omega (
        arith,
        part-grant sh u d t (w.cores c) l (granted_waits (pair w c d) k i (z.requests c d)),
        live-some (Grants t) (w.net Vendor (Core c)) k (TidGrant u) i,
      );
  tells = tells-grant u;
  noted = noted-grant sh u (w.cores c);
}

pub step-speaks : {sh : Shape} (p : Program) {w : World} (e : Event) → KeptTids sh w → KeptCores sh w
    → IfSome (step sh p w e) (ByCore sh w (Speaks sh w) (sent_by sh p w e))
step-speaks {sh} p {w} e z k = by_core p e (Speaks sh w) z
    (λ c o eq l. all c o (λ d t x. got _ eq (part-exec sh p c d t (w.cores c) x)) (got _ eq (tells-exec p c (k c)))
    (got _ eq (noted-exec sh p c (w.cores c))))
    (λ c x y o eq l. all c o (λ d t a. got _ eq (part-evict sh x y d t (w.cores c))) (got _ eq (tells-evict sh x y (w.cores c)))
    (got _ eq (noted-evict sh x y (w.cores c)))) (λ c i t l q. grant-speaks c i z q)
    (λ c d m o eq l. all c o (λ b t x. got _ eq (part-back sh d b t (w.cores c) m x)) (got _ eq (tells-back sh d (w.cores c) m))
    (got _ eq (noted-back sh d (w.cores c) m)))
  where
    all : (c : ℕ) (o : Out) → ((d t : ℕ) → d < sh.dirs → KeepsPart sh d t 0 (w.cores c) o) → Tells sh (w.cores c) o → CommitsNoted o
        → Speaks sh w c o
    all c o q h n = speaks sh w c o q h n

-- a TID of which its core has a part is untold
untold-part : (sh : Shape) (w : World) (c d t : ℕ) (y : Way) → c < sh.cores → 1 ≤ part_in Untold sh d t (pair w c d) → ResolvedAt sh w d t
    → WayAt sh w d t y → y ≡ Untold
unfolding share
untold-part sh w c d t y c' l r h = in-way sh w d t r h (omega (arith, total-le (share (part_in Untold sh d t) w d) sh.cores c c'))

-- a way that was told stays
stays : (sh : Shape) (w : World) (c d t : ℕ) (ms : List Msg) (y : Way) → c < sh.cores
    → among (Resolves t) ms ≤ part_in Untold sh d t (pair w c d) → ResolvedAt sh w d t → WayAt sh w d t y → y ≢ Untold → told_by ms t y ≡ y
stays sh w c d t ms y c' l r h n = grind (nats, told-none, untold-part)

-- the way of a core's TID
live-cases : (q : Phase) (b : Bool) (t : ℕ) → has_tid q t ≡ true → ((opens q b t ≡ true) × (live_way q b ≡ Untold))
    ⊎ ((skips_here q b t ≡ true) × (live_way q b ≡ Skipped))
unfolding has_tid opens live_way
live-cases (Probing u) true t h = inl (grind arith, refl)
live-cases (Probing u) false t h = inr (grind arith, refl)
live-cases (Ready u) true t h = inl (grind arith, refl)
live-cases (Ready u) false t h = inr (grind arith, refl)
live-cases (Overflowing (Some u)) b t h = inl (h, refl)
live-cases (Solo u) b t h = inl (h, refl)
live-cases _ b t h = absurd (cc)

skips-live : (q : Phase) (b : Bool) (t : ℕ) → skips_here q b t ≡ true → (has_tid q t ≡ true) × (live_way q b ≡ Skipped)
unfolding has_tid live_way
skips-live (Probing u) true t h = absurd (grind arith)
skips-live (Probing u) false t h = (grind arith, refl)
skips-live (Ready u) true t h = absurd (grind arith)
skips-live (Ready u) false t h = (grind arith, refl)
skips-live _ b t h = absurd (cc)

pub step-live-out : {sh : Shape} {gs hs : List Grant} (ys : Ways) {w : World} {cs ds : List Noted} {x : Sends} (o : Stepped) → KeptTids sh w
    → KeptOwners sh gs w cs → KeptWays sh ys w → KeptLive sh ys w → ByCore sh w (Speaks sh w) x o → KeptTids sh o.world
    → KeptOwners sh hs o.world ds → KeptWays sh (ways_after x ys) o.world → KeptLive sh (ways_after x ys) o.world
unfolding part_in pair
step-live-out {sh} ys {w} {x} o z ow k h b z' ow' k' c d t cl dl has = elim (live-cases q written t has) [
  | inl a ↦ let n : num (opens q written t) ≡ 1 = ap num a.0 in
      untold-part sh o.world c d t y cl (omega arith) (z'.resolved d t dl) (k' d t dl positive) ∙ sym a.1
  | inr a ↦ skipped b a.0 ∙ sym a.1
]
  where
    q : Phase
    q = (o.world.cores c).phase

    written : Bool
    written = writes_at sh (o.world.cores c).cache d

    y : Way
    y = ways_after x ys d t

    positive : 1 ≤ t
    positive = positive-held c t ow' has

    -- what was skipped before stays skipped
    before : (e : ℕ) (s : Out) → Speaks sh w e s → e < sh.cores → skips_here (w.cores c).phase (writes_at sh (w.cores c).cache d) t ≡ true
        → told_by (s.sends (Dir d)) t (ys d t) ≡ Skipped
    before e s u el sk =
        let a = skips-live (w.cores c).phase (writes_at sh (w.cores c).cache d) t sk in
        let was : ys d t ≡ Skipped = h c d t cl dl a.0 ∙ a.1 in
        stays sh w e d t (s.sends (Dir d)) (ys d t) el (u.untold d t dl) (z.resolved d t dl) (k d t dl positive)
        (λ i. let v : Skipped ≡ Untold = sym was ∙ i in absurd (cc)) ∙ was

    skipped : ByCore sh w (Speaks sh w) x o → skips_here q written t ≡ true → y ≡ Skipped
    skipped (Still e i n) sk =
        let a = skips-live (w.cores c).phase (writes_at sh (w.cores c).cache d) t (rw e at sk) in
        rw i (told-nothing t (ys d t) ∙ h c d t cl dl a.0 ∙ a.1)
    skipped (Moved e s el u f i n) sk = rw i (here (c == e) refl (rw f at sk))
      where
        here : (b : Bool) → (c == e) ≡ b
            → skips_here (if b then s.core else w.cores c).phase (writes_at sh (if b then s.core else w.cores c).cache d) t ≡ true
            → told_by (s.sends (Dir d)) t (ys d t) ≡ Skipped
        here false p sk = before e s u el sk
        here true p sk = let r : c ≡ e = grind nats in own r (u.tells.skips d t dl sk)
          where
            own : c ≡ e → (skips_here (w.cores e).phase (writes_at sh (w.cores e).cache d) t ≡ true)
                ⊎ (1 ≤ among (Skips t) (s.sends (Dir d))) → told_by (s.sends (Dir d)) t (ys d t) ≡ Skipped
            own r (inl a) = before e s u el (rw r a)
            own r (inr a) = told-skip (s.sends (Dir d)) t (ys d t) a

-- the ways of committed TIDs
told-somehow : (sh : Shape) (n : Noted) (d : ℕ) {y : Way} → y ≡ commit_way sh n d → y ≡ Untold → ⊥
told-somehow sh n d e i = go (stores_at sh d n.stores) (sym e ∙ i)
  where
    go : (b : Bool) → (if b then Committed else Skipped) ≡ Untold → ⊥
    go true q = cc
    go false q = cc

pub told-committed : (ms : List Msg) (t : ℕ) (y : Way) → told_by ms t y ≡ Committed → (y ≡ Committed) ⊎ (1 ≤ among (Commits t) ms)
unfolding told_by
told-committed ms t y h = go (nat_lt 0 (among (Skips t) ms)) (nat_lt 0 (among (Aborts t) ms)) (nat_lt 0 (among (Commits t) ms)) refl h
  where
    go : (a b c : Bool) → nat_lt 0 (among (Commits t) ms) ≡ c
        → (if a then Skipped else (if b then Aborted else (if c then Committed else y))) ≡ Committed
        → (y ≡ Committed) ⊎ (1 ≤ among (Commits t) ms)
    go true b c q e = absurd (cc)
    go false true c q e = absurd (cc)
    go false false true q e = inr (grind nats)
    go false false false q e = inl e

pub step-committed-out : {sh : Shape} {gs : List Grant} (ys : Ways) {w : World} {cs : List Noted} {x : Sends} {o : Stepped} → KeptTids sh w
    → KeptOwners sh gs w cs → KeptWays sh ys w → KeptLive sh ys w → KeptCommitted sh ys cs → ByCore sh w (Speaks sh w) x o
    → KeptCommitted sh (ways_after x ys) (and_noted o.noted cs)
step-committed-out ys z ow k lv h (Still e i n) =
    rw (i, n) (record {
      stored = λ m d q l. told-nothing m.tid.0 (ys d m.tid.0) ∙ h.stored m d q l;
      only = λ d t l q. h.only d t l (sym (told-nothing t (ys d t)) ∙ q);
    })
step-committed-out {sh} ys {w} {cs} z ow k lv h (Moved c s cl u f i n) =
    rw (i, n) (record { stored = λ m d q l. stored m d l s.commit u.tells.commits q; only = only })
  where
    before : (m : Noted) (d : ℕ) → d < sh.dirs → Contains cs m → told_by (s.sends (Dir d)) m.tid.0 (ys d m.tid.0) ≡ commit_way sh m d
    before m d l q =
        let r : ys d m.tid.0 ≡ commit_way sh m d = h.stored m d q l in
        stays sh w c d m.tid.0 (s.sends (Dir d)) (ys d m.tid.0) cl (u.untold d m.tid.0 l) (z.resolved d m.tid.0 l)
        (k d m.tid.0 l (positive-committed m ow q)) (told-somehow sh m d r) ∙ r

    now : (m : Noted) (d : ℕ) → d < sh.dirs → TellsCommit sh (w.cores c) s m
        → told_by (s.sends (Dir d)) m.tid.0 (ys d m.tid.0) ≡ commit_way sh m d
    now m d l a = rw (lv c d m.tid.0 cl l a.has) (a.told d l)

    stored : (m : Noted) (d : ℕ) → d < sh.dirs → (a : Option Noted) → IfSome a (TellsCommit sh (w.cores c) s) → Contains (and_noted a cs) m
        → told_by (s.sends (Dir d)) m.tid.0 (ys d m.tid.0) ≡ commit_way sh m d
    stored m d l None a q = before m d l q
    stored m d l (Some b) a q = elim (inserted b m cs q) [ inl e ↦ now m d l (rw e at a) | inr r ↦ before m d l r ]

    only : (d t : ℕ) → d < sh.dirs → told_by (s.sends (Dir d)) t (ys d t) ≡ Committed → 1 ≤ times t (and_noted s.commit cs)
    only d t l q = elim (told-committed (s.sends (Dir d)) t (ys d t) q) [
      | inl e ↦ omega (arith, h.only d t l e, times-noted t s.commit cs)
      | inr e ↦ omega (arith, u.noted, times-noted)
    ]

-- Every event keeps that a directory where a commit loaded or stored has reached its TID.

-- a core that loaded a word of a line has marked words at its home
loaded-touches : (sh : Shape) (s : CoreState) (d : ℕ)
    → ((w : ℕ) → loads_word sh.base s.loads w ≡ true → (s.cache.read w || s.cache.modified w) ≡ true) → loads_at sh d s.loads ≡ true
    → (writes_at sh s.cache d || reads_at sh s.cache d) ≡ true
unfolding loads_at writes_at reads_at is_modified any_word
loaded-touches sh s d h e =
    line (any_below-found (λ l. d == home sh l && any_below (λ k. loads_word sh.base s.loads (word_at l k)) 8) (lines sh) e)
  where
    goal : Type 0
    goal = (writes_at sh s.cache d || reads_at sh s.cache d) ≡ true

    place : (l : ℕ) → l < lines sh → (d == home sh l) ≡ true → (k : ℕ) → k < 8
        → (s.cache.read (word_at l k) || s.cache.modified (word_at l k)) ≡ true → goal
    place l i q k j m = go (s.cache.read (word_at l k)) refl (s.cache.modified (word_at l k)) refl m
      where
        here : (p : ℕ → Bool) → p (word_at l k) ≡ true → any_below (λ l. d == home sh l && any_below (λ k. p (word_at l k)) 8) (lines sh)
            ≡ true
        here p t = any_below-at (λ l. d == home sh l && any_below (λ k. p (word_at l k)) 8) (lines sh) l i
            (let a : any_below (λ k. p (word_at l k)) 8 ≡ true = any_below-at (λ k. p (word_at l k)) 8 k j t in rw (q, a))

        go : (a : Bool) → s.cache.read (word_at l k) ≡ a → (b : Bool) → s.cache.modified (word_at l k) ≡ b → (a || b) ≡ true → goal
        go a p true t m = rw (here s.cache.modified t)
        go true p false t m = rw (here s.cache.read p) (grind arith)
        go false p false t m = absurd (cc)

    word : (l : ℕ) → l < lines sh → (d == home sh l) ≡ true → (k : ℕ) × (k < 8) × (loads_word sh.base s.loads (word_at l k) ≡ true) → goal
    word l i q r = place l i q r.0 r.1 (h (word_at l r.0) r.2)

    line : (l : ℕ) × (l < lines sh) × ((d == home sh l && any_below (λ k. loads_word sh.base s.loads (word_at l k)) 8) ≡ true) → goal
    line r = word r.0 r.1 (grind arith) (any_below-found (λ k. loads_word sh.base s.loads (word_at r.0 k)) 8 (grind arith))

-- where it commits, the directories where it worked have reached its TID
abbrev pub Works : Shape → (ℕ → DirState) → Out → Type 0
Works sh dirs o = IfSome o.commit (λ n. (d : ℕ) → d < sh.dirs → worked_at sh n d ≡ true → n.tid.0 ≤ (dirs d).serving.serving)

abbrev AllReached : Shape → (ℕ → DirState) → CoreState → Type 0
AllReached sh dirs s = (d : ℕ) → Reached sh d (dirs d).serving.serving s

ready-works : (sh : Shape) (dirs : ℕ → DirState) (id u : ℕ) (s : CoreState) → s.phase ≡ Ready u → OneCore sh s → LoadsMarked sh s
    → AllReached sh dirs s → Works sh dirs (commit sh id u s)
unfolding commit noted
ready-works sh dirs id u s e h k r = λ d l w. rw e at ((r d).reached l (rw e (touches d w)) ((r d).replied l (rw e)))
  where
    stored : (d : ℕ) → writes_at sh s.cache d ≡ stores_at sh d s.stores
    stored d = stored-written sh s.cache s.spilled s.stores d (rw e at h.words)

    touches : (d : ℕ) → (loads_at sh d s.loads || stores_at sh d s.stores) ≡ true → (writes_at sh s.cache d || reads_at sh s.cache d) ≡ true
    touches d w = go (loads_at sh d s.loads) refl (stores_at sh d s.stores) refl w
      where
        go : (a : Bool) → loads_at sh d s.loads ≡ a → (b : Bool) → stores_at sh d s.stores ≡ b → (a || b) ≡ true
            → (writes_at sh s.cache d || reads_at sh s.cache d) ≡ true
        go true p b q w = loaded-touches sh s d (λ v x. k v (rw e) x) p
        go false p true q w = rw (stored d ∙ q)
        go false p false q w = absurd (cc)

exec-works : {sh : Shape} (p : Program) (dirs : ℕ → DirState) (c : ℕ) {s : CoreState} → OneCore sh s → LoadsMarked sh s
    → AllReached sh dirs s → IfSome (core_exec sh p c s) (Works sh dirs)
unfolding solo_commit noted
exec-works {sh} p dirs c {s} h k r = each-exec sh p c s (Works sh dirs) go
  where
    go : (x : Did sh p c s) → Works sh dirs (out x)
    go (Ends_alone u o e f q i) = λ d l w. rw q at ((r d).reached l (rw q) ((r d).replied l (rw q)))
    go (Commits_now u e) = ready-works sh dirs c u s e h k r
    go _ = tt

-- the served TIDs rise

abbrev pub Later : World → World → Type 0
Later w v = (d : ℕ) → tid_at w d ≤ tid_at v d

pub step-later : (sh : Shape) (p : Program) (w : World) (e : Event) → IfSome (step sh p w e) (λ o. Later w o.world)
unfolding core_moves core_takes dir_takes dir_asks vendor_gives
step-later sh p w e = step_cases sh p w e (λ g o. Later w o.world) (λ c o eq l. moved c o)
    (λ c x y o eq l. moved c o) (λ c k t i d. omega arith) (λ c d k m o eq i. taken c d k o)
    (λ c d k m i. answered c d k (dir_deliver sh (w.dirs d) c m) (dir-rises sh (w.dirs d) c m)) (λ c k a i d. omega arith)
  where
    moved : (c : ℕ) (o : Out) → Later w (core_moves w c o)
    moved c o = λ d. omega arith

    taken : (c d k : ℕ) (o : Out) → Later w (core_takes w (Dir d) c k o)
    taken c d k o = λ e. omega arith

    put : (e : ℕ) (s : DirState) → tid_at w e ≤ s.serving.serving → (d : ℕ) → tid_at w d ≤ (if d == e then s else w.dirs d).serving.serving
    put e s l d = grind nats

    answered : (c d k : ℕ) (a : Answer) → RisesBy (w.dirs d) a → OfAnswer w c d k (Later w) a
    answered c d k Waits r = tt
    answered c d k Drops r = put d (w.dirs d) (omega arith)
    answered c d k (Asks s sends) r = put d s r.rises
    answered c d k (Takes s sends) r = put d s r.rises

-- only a core that executes commits

none-evict : (sh : Shape) (x y : ℕ) (s : CoreState) → IfSome (core_evict sh x y s) (λ o. o.commit ≡ None)
none-evict sh x y s = each-evict sh x y s (λ o. o.commit ≡ None) (λ k q u z. refl)

none-grant : (sh : Shape) (u : ℕ) (s : CoreState) → (grant sh u s).commit ≡ None
none-grant sh u s = each-grant sh u s (λ o. o.commit ≡ None) go
  where
    go : (x : Granted sh u s) → (granted x).commit ≡ None
    go (Given_none e) = refl
    go _ = refl

none-back : (sh : Shape) (e : ℕ) (s : CoreState) (m : Msg) → IfSome (from_dir sh e s m) (λ o. o.commit ≡ None)
none-back sh e s m = each-back sh e s (λ m o. o.commit ≡ None) go m
  where
    go : (x : Heard sh e s) → (heard x).commit ≡ None
    go (Hands_out l) = refl
    go _ = refl

-- both by what the core does

pub record Loads (sh : Shape) (w : World) (c : ℕ) (y : Out) : Type 0 where
  pub loads : LoadsMarked sh y.core
  pub works : Works sh w.dirs y

pub step-loads : {sh : Shape} (p : Program) {w : World} (e : Event) → Kept sh w → KeptCores sh w → KeptLoads sh w
    → IfSome (step sh p w e) (ByCore sh w (Loads sh w) (sent_by sh p w e))
unfolding pair
step-loads {sh} p {w} e z k h = by_core p e (Loads sh w) z.told.tids
    (λ c o eq l. both c o (got _ eq (loaded-exec p c (k c) (h c)))
    (got _ eq (exec-works p w.dirs c (k c) (h c) (λ d. (z.probes c d).core))))
    (λ c x y o eq l. quiet c o (got _ eq (loaded-evict sh x y (w.cores c) (h c))) (got _ eq (none-evict sh x y (w.cores c))))
    (λ c i t l q. record { loads = loaded-grant sh t (w.cores c) (h c); works = rw (none-grant sh t (w.cores c)) tt })
    (λ c d m o eq l. quiet c o (got _ eq (loaded-back sh d (w.cores c) m (h c))) (got _ eq (none-back sh d (w.cores c) m)))
  where
    both : (c : ℕ) (o : Out) → LoadsMarked sh o.core → Works sh w.dirs o → Loads sh w c o
    both c o x y = record { loads = x; works = y }

    quiet : (c : ℕ) (o : Out) → LoadsMarked sh o.core → o.commit ≡ None → Loads sh w c o
    quiet c o x y = record { loads = x; works = rw y tt }

pub loads-out : {sh : Shape} {w : World} {x : Sends} {o : Stepped} → KeptLoads sh w → ByCore sh w (Loads sh w) x o → KeptLoads sh o.world
loads-out h (Still e i n) = rw e h
loads-out {sh} {w} h (Moved c s l u f i n) = rw f (λ j. go j (j == c))
  where
    go : (j : ℕ) (b : Bool) → LoadsMarked sh (if b then s.core else w.cores j)
    go j true = u.loads
    go j false = h j

pub worked-out : {sh : Shape} {w : World} (cs : List Noted) {x : Sends} {o : Stepped} → Later w o.world → KeptWorked sh w cs
    → ByCore sh w (Loads sh w) x o → KeptWorked sh o.world (and_noted o.noted cs)
worked-out cs r h (Still e i n) = rw n (λ m d q l a. omega (arith, h m d q l a, r d))
worked-out {sh} {w} cs {o} r h (Moved c s cl u f i n) = rw n (λ m d q l a. go m d l a s.commit u.works q)
  where
    go : (m : Noted) (d : ℕ) → d < sh.dirs → worked_at sh m d ≡ true → (b : Option Noted)
        → IfSome b (λ n. (d : ℕ) → d < sh.dirs → worked_at sh n d ≡ true → n.tid.0 ≤ tid_at w d)
        → Contains (and_noted b cs) m → m.tid.0 ≤ (tid_at o.world d)
    go m d l a None v q = omega (arith, h m d q l a, r d)
    go m d l a (Some b) v q = elim (inserted b m cs q) [
      | inl e ↦ let y : m.tid.0 ≤ tid_at w d = rw e at (v d l (rw e a)) in omega (arith, r)
      | inr k ↦ omega (arith, h m d k l a, r d)
    ]
