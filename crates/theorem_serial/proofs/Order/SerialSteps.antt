-- Each event keeps the commits serial: an instruction that commits inserts its transaction, and no other event commits.
use Rattle.theorem_serial.proofs
use proofs.Names
use Names.{if_recorded, got, moved_by, nothing, taken_by, unnoted, phase_after_commit, ended_after_commit, EventsKeepSerial}
use Names.{order_of_commit, insert_commit, commits_touch, MarkedAtHomes, if◌then◌else◌, CommitsSerial, next_history, vendor_gives}
use Names.{TrappedWith, transaction, orders_core, stores_word, UsedAtHomes, plain_start, AlignedNeed, is_given_up, dir_deliver, CoresSerial}
use Names.{map-append, HaltedWith, Invariants, may_commit, loads_word, core_evict, core_moves, core_takes, CoreSerial, IsSomeAnd, commit_of}
use Names.{CoreState, end_after, CanInsert, writes_at, UsesStand, worked_at, in_flight, core_exec, and_noted, dir_takes, last_tid, HasEnded}
use Names.{Inserted, IsMemory, Contains, reads_at, NeedFits, AllStand, asks_dir, live_way, TidGrant, from_dir, dir_asks, IsSerial}
use Names.{CoreEnd, Attempt, Outcome, Program, Aligned, Changes, line_of, is_solo, History, has_tid, EachUse, Stepped, Option, closed}
use Names.{end_of, serial, Stores, Agrees, holder, tid_of, Untold, Vendor, Answer, false, subst, Noted, Plain, Order, Ended}
use Names.{begun, steps, Local, noted, Again, times, arith, Loads, Shape, Phase, Ready, World, Suits, Grant, grant, Waits, Drops, Takes}
use Names.{true, List, ◌++◌, Some, None, refl, Halt, Trap, Goes, Bool, ◌==◌, ◌||◌, Need, home, Solo, Uses, Fits, pair, Ways, Core, Asks}
use Names.{step, ◌≡◌, ◌≤◌, ◌≢◌, ◌∷◌, map, sym, ◌∙◌, Run, ◌<◌, ◌⊎◌, inl, inr, num, Out, Dir, Msg, ap, [], ℕ, nats, home_of, tid_at, FromCore}
use Names.{FromDir, grant_to}
use proofs.Counts.{OfAnswer, step_cases}
use proofs.Memory.CoreHomes.{accesses_at_homes, marks_at_homes}
use proofs.OneCore.{Gives, Closing, Leaves, Stays, Closes, exec-leaves, CheckpointStays, evict-stays, grant-stays, back-stays}
use proofs.Order.InsertedOrders.{order_inserted, put-same, serial_again, serial-memory}
use proofs.Order.SerialParts.{before, behind, cut-inserted, behind-below, before-smaller, last-below, SerialCut, home-below, agrees-before}
use proofs.Order.SerialParts.{cut-joined, Each, each-listed, each-behind, each-both, each-then, behind-larger, orders-another, touch-none}
use proofs.Order.SerialParts.{serial-cut, serial-holds, all_stores}
use proofs.Tids.{numbered-least, granted-at}
use proofs.Counts.{Ask, asking, gives_to}

-- The transaction of a core that commits, inserted into the serial execution at its TID.

-- how an ended transaction leaves a core
record Closed (o : Outcome) : Type 0 where
  end : CoreEnd
  is : end_of o ≡ Some end
  after : end ≡ end_after (phase_after_commit o) (ended_after_commit o)

has-closed : (o : Outcome) → HasEnded o → Closed o
has-closed Goes h = absurd (cc)
has-closed Ended h = record { end = Run; is = refl; after = refl }
has-closed (HaltedWith code) h = record { end = Halt code; is = refl; after = refl }
has-closed (TrappedWith code) h = record { end = Trap code; is = refl; after = refl }

-- the attempt that it was
record Found (x : Option Attempt) (r : CoreState) : Type 0 where
  attempt : Attempt
  is : x ≡ Some attempt
  gives : Gives r attempt

found : (x : Option Attempt) {r : CoreState} → IsSomeAnd x (Gives r) → Found x r
found None h = absurd h
found (Some a) h = record { attempt = a; is = refl; gives = h }

transaction-closed : (base : ℕ) (p : Program) (m : Plain) (core n : ℕ) (l : Local) {a : Attempt} (e : CoreEnd) → (m.cores core).local ≡ l
    → (m.cores core).ended ≡ Run → steps base p n (begun l m.ram) ≡ Some a → end_of a.outcome ≡ Some e
    → transaction base p m core n ≡ Some (closed m core a e, a)
unfolding transaction
transaction-closed base p m core n l e k run s o = rw (run, k, s, o)

-- the commit that is noted
noted-commit : (t c : ℕ) {r : CoreState} {a : Attempt} → Gives r a → commit_of (record { tid = t; core = c; n = r.n }) a ≡ noted t c r
unfolding commit_of noted
noted-commit t c g = rw (g.loads, g.stores, g.console)

-- a core that no later order names stands as before them
idle-core : (base : ℕ) (p : Program) (last : ℕ) (os : List Order) (m end : Plain) (cs : List Noted) (c : ℕ) → Aligned p → IsMemory m.ram
    → serial base p last os m ≡ Some (end, cs) → orders_core os c ≡ false → end.cores c ≡ m.cores c
idle-core base p last os m end cs c al mm e n =
    let f = rw e at (serial_again base p last os m m al mm mm) in
    let g : Again base os m m (end, cs) (Some (end, cs)) = f (λ k h. refl) (λ w h. refl) in
    g.idle_here c n

-- What is known where core c commits r under t: the machine where its transaction stands gives it, no later transaction is the core's
-- or touches a word that it stores.
pub record CanClose (base : ℕ) (p : Program) (cs : List Noted) (c t : ℕ) (saved : Local) (r : CoreState) (m start : Plain) : Type 0 where
  pub positive : 1 ≤ t
  pub fresh : times t cs ≡ 0
  pub local : (m.cores c).local ≡ saved
  pub runs : (m.cores c).ended ≡ Run
  pub ends : HasEnded r.ended
  pub gives : IsSomeAnd (steps base p r.n (begun saved start.ram)) (Gives r)
  pub another : orders_core (map order_of_commit (behind t cs)) c ≡ false
  pub apart : (w : ℕ) → stores_word base r.stores w ≡ true → commits_touch base (behind t cs) w ≡ false

-- The commits with the new one among them, and how the cores stand then.
pub record ClosedSerial (base : ℕ) (p : Program) (cs : List Noted) (c t : ℕ) (r : CoreState) (first m : Plain) : Type 0 where
  pub plain : Plain
  pub commits : serial base p 0 (map order_of_commit (insert_commit (noted t c r) cs)) first ≡ Some (plain, insert_commit (noted t c r) cs)
  pub local : (plain.cores c).local ≡ r.local
  pub ended : (plain.cores c).ended ≡ end_after (phase_after_commit r.ended) (ended_after_commit r.ended)
  pub others : (e : ℕ) → e ≢ c → plain.cores e ≡ m.cores e

closed-serial : {base : ℕ} (p : Program) {cs : List Noted} (c t : ℕ) {saved : Local} (r : CoreState) {first : Plain} (m : Plain)
    (s : SerialCut base p 0 (before t cs) (behind t cs) first m) → Aligned p → IsMemory first.ram → IsMemory s.start.ram
    → CanClose base p cs c t saved r m s.start → ClosedSerial base p cs c t r first m
unfolding closed noted
closed-serial {base} p {cs} c t {saved} r {first} m s al mm ms k = record {
  plain = i.plain;
  commits = subst (λ q. serial base p 0 (map order_of_commit q) first ≡ Some (i.plain, q)) (sym (cut-inserted (noted t c r) cs)) all;
  local = ap (λ q. q.local) own ∙ f.gives.local;
  ended = ap (λ q. q.ended) own ∙ e.after;
  others = i.other_cores;
}
  where
    f : Found (steps base p r.n (begun saved s.start.ram)) r
    f = found (steps base p r.n (begun saved s.start.ram)) k.gives

    e : Closed r.ended
    e = has-closed r.ended k.ends

    o : Order
    o = record { tid = t; core = c; n = r.n }

    done : Plain
    done = closed s.start c f.attempt e.end

    idle : m.cores c ≡ s.start.cores c
    idle = idle-core base p (last_tid 0 (map order_of_commit (before t cs))) (map order_of_commit (behind t cs)) s.start m
        (behind t cs) c al ms s.then_late k.another

    can : CanInsert base p 0 (map order_of_commit (before t cs)) (map order_of_commit (behind t cs)) o first s.start done m f.attempt
        (before t cs) (behind t cs)
    can = record {
      first = s.first;
      then_late = s.then_late;
      executed = transaction-closed base p s.start c r.n saved e.end (ap (λ q. q.local) (sym idle) ∙ k.local)
          (ap (λ q. q.ended) (sym idle) ∙ k.runs) f.is (ap end_of f.gives.outcome ∙ e.is);
      above = last-below t 0 (before t cs) k.positive (before-smaller t cs k.fresh);
      below = behind-below t cs;
      another_core = k.another;
      apart = λ w h. k.apart w (sym (ap (λ q. stores_word base q w) f.gives.stores) ∙ h);
    }

    i : Inserted base (before t cs) o f.attempt (behind t cs) done m
        (serial base p 0 (map order_of_commit (before t cs) ++ o ∷ map order_of_commit (behind t cs)) first)
    i = order_inserted base p 0 (map order_of_commit (before t cs)) (map order_of_commit (behind t cs)) o first s.start done m f.attempt
        (before t cs) (behind t cs) al mm can

    own : i.plain.cores c ≡ record { local = f.attempt.local; ended = e.end; console = (s.start.cores c).console ++ f.attempt.console }
    own = i.own_core ∙ put-same s.start.cores c
        (record { local = f.attempt.local; ended = e.end; console = (s.start.cores c).console ++ f.attempt.console })

    joined : map order_of_commit (before t cs ++ noted t c r ∷ behind t cs) ≡ map order_of_commit (before t cs)
        ++ o ∷ map order_of_commit (behind t cs)
    joined = map-append order_of_commit (before t cs) (noted t c r ∷ behind t cs)

    all : serial base p 0 (map order_of_commit (before t cs ++ noted t c r ∷ behind t cs)) first ≡ Some
        (i.plain, before t cs ++ noted t c r ∷ behind t cs)
    all = ap (λ q. serial base p 0 q first) joined
        ∙ (i.commits ∙ ap (λ q. Some (i.plain, before t cs ++ q ∷ behind t cs)) (noted-commit t c f.gives))

-- A core that commits has what its transaction needs to be inserted: every directory where it worked has reached its TID.
pub fits-aligned : (p : Program) → Fits p → Aligned p
fits-aligned p f l = go (p.need l) (f l)
  where
    go : (n : Need) → NeedFits n → AlignedNeed n
    go (Loads a z) h = h
    go (Stores a z v) h = h.0
    go (Changes a g) h = h
    go _ h = tt

-- in the phases in which a core commits
abbrev pub May : (t : ℕ) → Phase → Type 0
May t q = (q ≡ Ready t) ⊎ (q ≡ Solo t)

may-has : (t : ℕ) (q : Phase) → May t q → has_tid q t ≡ true
unfolding has_tid
may-has t q a = grind nats

pub may-commits : (t : ℕ) (q : Phase) → May t q → (may_commit q ≡ true) × (tid_of q ≡ t)
may-commits t q (inl e) = rw e (refl, refl)
may-commits t q (inr e) = rw e (refl, refl)

may-runs : (t : ℕ) (q : Phase) (o : Outcome) → May t q → end_after q o ≡ Run
may-runs t q o a = grind nats

may-asks : (t : ℕ) (q : Phase) (b : Bool) → May t q → (is_solo q ≡ false → b ≡ true) → asks_dir q b ≡ true
may-asks t q b a h = grind nats

may-untold : (t : ℕ) (q : Phase) (b : Bool) → May t q → (is_solo q ≡ false → b ≡ true) → live_way q b ≡ Untold
unfolding live_way
may-untold t q b a h = grind nats

pub may-bound : (w : World) (c d t : ℕ) → May t (w.cores c).phase → 1 ≤ holder t (pair w c d)
unfolding holder pair
may-bound w c d t y = let n : num (has_tid (w.cores c).phase t) ≡ 1 = ap num (may-has t (w.cores c).phase y) in omega arith

-- what a core that commits knows of the rest
pub record Stand (sh : Shape) (h : History) (ys : Ways) (c t : ℕ) : Type 0 where
  pub below : c < sh.cores
  pub may : May t (h.world.cores c).phase
  pub positive : 1 ≤ t
  pub fresh : times t h.commits ≡ 0
  pub last : (n : Noted) → Contains h.commits n → n.core.0 ≡ c → n.tid.0 ≤ t
  pub reached : (x : ℕ) → (is_solo (h.world.cores c).phase ≡ false → (h.world.cores c).cache.read x ≡ true)
      → t ≤ (tid_at h.world (home_of sh x))
  pub untold : (x : ℕ) → stores_word sh.base (h.world.cores c).stores x ≡ true → ys (home_of sh x) t ≡ Untold

pub stand : {sh : Shape} {p : Program} {entries : ℕ → Local} {ram : ℕ → ℕ} {gs : List Grant} {ys : Ways} {views : ℕ
    → Uses} {m : Plain} {h : History} {c t : ℕ} → Suits sh p ram → Invariants sh p entries ram gs ys views m h → c < sh.cores
    → May t (h.world.cores c).phase → Stand sh h ys c t
unfolding holder pair
stand {sh} {gs} {ys} {h} {c} {t} u k l y = record {
  below = l;
  may = y;
  positive = numbered-least 1 gs (grant_to t c) k.carried.granted_tids_are_those_below_next.0 owned.0;
  fresh = owned.1;
  last = λ n i e. k.carried.live_tid_is_the_last_granted_to_its_core c 0 t n.tid.0 held (subst (λ q. Contains gs (grant_to n.tid.0 q)) e
      (granted-at gs h.commits n k.carried.commits_are_of_granted_tids.1 i));
  reached = reached;
  untold = untold;
}
  where
    s : CoreState
    s = h.world.cores c

    held : 1 ≤ holder t (pair h.world c 0)
    held = may-bound h.world c 0 t y

    owned : Contains gs (grant_to t c) × (times t h.commits ≡ 0)
    owned = k.carried.live_tid_is_granted_to_its_core c 0 t l held

    marked : MarkedAtHomes sh s.cache
    marked = marks_at_homes sh s.cache (k.carried.frames_stand_in_their_sets c) (k.carried_in_memory.frames_are_of_lines_in_memory c)

    either : (a b : Bool) → b ≡ true → (a || b) ≡ true
    either true b e = refl
    either false b e = e

    reached : (x : ℕ) → (is_solo s.phase ≡ false → s.cache.read x ≡ true) → t ≤ (tid_at h.world (home_of sh x))
    reached x r =
        let i : home sh (line_of x) < sh.dirs = home-below sh x u.dirs in
        let a : asks_dir s.phase (writes_at sh s.cache (home_of sh x) || reads_at sh s.cache (home_of sh x)) ≡ true =
        may-asks t s.phase _ y (λ q. either (writes_at sh s.cache (home_of sh x)) _ (marked.read x (r q))) in
        let o : s.owing (home_of sh x) ≡ false = k.carried.directory_that_replied_serves_the_tid.replied c (home_of sh x) l i
        (may-commits t s.phase y).0 in
        omega (arith, (may-commits t s.phase y).1, k.carried.directory_that_replied_serves_the_tid.reached c (home_of sh x) l i a o)

    -- a word that it stores is modified, unless it is alone
    modified : (x : ℕ) → stores_word sh.base s.stores x ≡ true → is_solo s.phase ≡ false → s.cache.modified x ≡ true
    modified x e q = grind nats

    untold : (x : ℕ) → stores_word sh.base s.stores x ≡ true → ys (home_of sh x) t ≡ Untold
    untold x e = k.carried.live_tid_is_open_where_it_must_be.held c (home_of sh x) t l (home-below sh x u.dirs) (may-has t s.phase y)
        ∙ may-untold t s.phase (writes_at sh s.cache (home_of sh x)) y (λ q. marked.modified x (modified x e q))

-- every word of the view is at a home that has reached the TID
pub uses-reached : (sh : Shape) (h : History) (ys : Ways) (c t : ℕ) (g : Bool) (us : Uses) → Stand sh h ys c t
    → (is_solo (h.world.cores c).phase ≡ false → AllStand g (h.world.cores c).cache us)
    → EachUse (λ x y. t ≤ tid_at h.world (home_of sh x)) us
uses-reached sh h ys c t g [] s a = tt
uses-reached sh h ys c t g (u ∷ us) s a = (s.reached u.0 (λ q. (a q).0.marked), uses-reached sh h ys c t g us s (λ q. (a q).1))

pub view-stands : (t : ℕ) (s : CoreState) (us : Uses) → May t s.phase → UsesStand s.cache us s.phase → is_solo s.phase ≡ false
    → AllStand true s.cache us
view-stands t s us (inl e) h q = subst (UsesStand s.cache us) e h
view-stands t s us (inr e) h q = absurd (let z : is_solo s.phase ≡ true = rw e in cc)

-- a later commit is of another core, and touches no word that this one stores
later-apart : {sh : Shape} {p : Program} {entries : ℕ → Local} {ram : ℕ → ℕ} {gs : List Grant} {ys : Ways} {views : ℕ
    → Uses} {m : Plain} {h : History} {c : ℕ} (t x : ℕ) (n : Noted) → Suits sh p ram → Invariants sh p entries ram gs ys views m h
    → Stand sh h ys c t → stores_word sh.base (h.world.cores c).stores x ≡ true → Contains h.commits n → t < n.tid.0
    → (loads_word sh.base n.loads x || stores_word sh.base n.stores x) ≡ false
later-apart {sh} {ys} t x n u k s e i l = go (loads_word sh.base n.loads x) (stores_word sh.base n.stores x) refl refl
  where
    at : UsedAtHomes sh n.loads n.stores
    at = accesses_at_homes sh n.loads n.stores (k.carried_in_memory.commits_stay_in_memory n i)

    given : worked_at sh n (home_of sh x) ≡ true → ⊥
    given w = let g : is_given_up (ys (home_of sh x) t) ≡ true = k.carried.smaller_tid_is_given_up_where_a_larger_one_worked.0 n
        (home_of sh x) t i (home-below sh x u.dirs) w s.positive l s.fresh in
        let f : is_given_up (ys (home_of sh x) t) ≡ false = rw (s.untold x e) in cc

    either : (a b : Bool) → b ≡ true → (a || b) ≡ true
    either true b e = refl
    either false b e = e

    go : (a b : Bool) → loads_word sh.base n.loads x ≡ a → stores_word sh.base n.stores x ≡ b → (a || b) ≡ false
    go true b f g = absurd (given (rw (at.loaded x f)))
    go false true f g = absurd (given (either _ _ (at.stored x g)))
    go false false f g = refl

-- the commit is inserted
closed-core : {sh : Shape} (p : Program) {entries : ℕ → Local} {ram : ℕ → ℕ} {gs : List Grant} {ys : Ways} {views : ℕ → Uses}
    (m : Plain) (h : History) (c t : ℕ) (r : CoreState) {o : Out} → Suits sh p ram → Invariants sh p entries ram gs ys views m h
    → c < sh.cores → Closing sh p c t (h.world.cores c) r o → ClosedSerial sh.base p h.commits c t r (plain_start entries ram) m
unfolding plain_start pair
closed-core {sh} p {entries} {ram} {ys} {views} m h c t r u k l f = closed-serial p c t r m cut (fits-aligned p u.fits) u.small small can
  where
    s : Stand sh h ys c t
    s = stand u k l f.phase

    cut : SerialCut sh.base p 0 (before t h.commits) (behind t h.commits) (plain_start entries ram) m
    cut = serial-cut sh.base p 0 (before t h.commits) (behind t h.commits) (plain_start entries ram) m
        (subst (λ q. serial sh.base p 0 (map order_of_commit q) (plain_start entries ram) ≡ Some (m, q)) (cut-joined t h.commits)
        k.commits_are_serial)

    small : IsMemory cut.start.ram
    small = rw cut.first at (serial-memory sh.base p 0 (map order_of_commit (before t h.commits)) (plain_start entries ram)
        (fits-aligned p u.fits) u.small)

    words : (x : ℕ) → cut.start.ram x ≡ all_stores sh.base x (before t h.commits) (ram x)
    words x = rw cut.first at (serial-holds sh.base p 0 (map order_of_commit (before t h.commits)) (plain_start entries ram) x)

    agrees : Agrees (views c) cut.start.ram
    agrees = agrees-before sh ram cut.start.ram h.world h.commits c t (views c) u.dirs k.carried.commits_are_of_granted_tids.0 s.fresh words
        (k.carried.owed_counts_invs_and_acks.served c) (uses-reached sh h ys c t true (views c) s
        (view-stands t (h.world.cores c) (views c) s.may (k.carried_views.read_marks_are_the_view c).stand))
        (λ d i. k.viewed_word_is_current_or_doomed c d (Some t) l i (may-bound h.world c d t s.may))

    listed : Each (λ n. Contains h.commits n × (t < n.tid.0)) (behind t h.commits)
    listed = each-both (Contains h.commits) (λ n. t < n.tid.0) (behind t h.commits)
        (each-behind (Contains h.commits) t h.commits (each-listed (Contains h.commits) h.commits (λ n i. i)))
        (behind-larger t 0 h.commits k.carried.commits_are_of_granted_tids.0)

    another : (n : Noted) → Contains h.commits n × (t < n.tid.0) → (n.core.0 == c) ≡ false
    another n i = go (n.core.0 == c) refl
      where
        go : (b : Bool) → (n.core.0 == c) ≡ b → b ≡ false
        go false q = refl
        go true q = absurd (let e : n.core.0 ≡ c = grind nats in omega (arith, s.last))

    can : CanClose sh.base p h.commits c t (h.world.cores c).saved r m cut.start
    can = record {
      positive = s.positive;
      fresh = s.fresh;
      local = (k.committed_cores_are_serial c l).local;
      runs = (k.committed_cores_are_serial c l).ended ∙ may-runs t (h.world.cores c).phase (h.world.cores c).ended s.may;
      ends = f.ends (views c) (k.carried_views.attempt_follows_from_its_view c);
      gives = f.gives (views c) (k.carried_views.attempt_follows_from_its_view c) cut.start.ram small agrees;
      another = orders-another c (behind t h.commits)
          (each-then (λ n. Contains h.commits n × (t < n.tid.0)) (λ n. (n.core.0 == c) ≡ false) (behind t h.commits) another listed);
      apart = λ x e. touch-none sh.base x (behind t h.commits) (each-then (λ n. Contains h.commits n × (t < n.tid.0))
          (λ n. (loads_word sh.base n.loads x || stores_word sh.base n.stores x) ≡ false) (behind t h.commits)
          (λ n i. later-apart t x n u k s (sym (ap (λ q. stores_word sh.base q x) f.stores) ∙ e) i.0 i.1) listed);
    }

-- what an event left and noted
abbrev After : Shape → Program → (ℕ → Local) → (ram : ℕ → ℕ) → History → Stepped → Type 0
After sh p entries ram h o = IsSerial sh p entries ram (record { world = o.world; commits = and_noted o.noted h.commits })

rested-core : (sh : Shape) (w : World) (c e : ℕ) (o : Out) (m : Plain) → CheckpointStays (w.cores c) o → CoreSerial (w.cores e) (m.cores e)
    → CoreSerial (if e == c then o.core else w.cores e) (m.cores e)
rested-core sh w c e o m r k = go (e == c) refl
  where
    go : (b : Bool) → (e == c) ≡ b → CoreSerial (if b then o.core else w.cores e) (m.cores e)
    go false q = k
    go true q =
        let i : e ≡ c = grind nats in
        let at : CoreSerial (w.cores c) (m.cores e) = subst (λ j. CoreSerial (w.cores j) (m.cores e)) i k in
        record { local = at.local ∙ sym r.saved; ended = at.ended ∙ sym r.ends }

-- an event that commits nothing
kept-serial : {sh : Shape} {p : Program} {entries : ℕ → Local} {ram : ℕ → ℕ} (h : History) (m : Plain) (o : Stepped) → o.noted ≡ None
    → CommitsSerial sh p entries ram h.commits m → CoresSerial sh o.world m → After sh p entries ram h o
kept-serial h m o n k s = record { plain = m; commits = rw n k; cores = s }

-- a commit
closed-cores : {sh : Shape} {p : Program} (w : World) {cs : List Noted} (c : ℕ) {t : ℕ} (e : ℕ) {r : CoreState} (o : Out) {first m : Plain}
    (g : ClosedSerial sh.base p cs c t r first m) → Closing sh p c t (w.cores c) r o → CoreSerial (w.cores e) (m.cores e)
    → CoreSerial (if e == c then o.core else w.cores e) (g.plain.cores e)
closed-cores w c e o g f k = go (e == c) refl
  where
    go : (b : Bool) → (e == c) ≡ b → CoreSerial (if b then o.core else w.cores e) (g.plain.cores e)
    go false q = let n : e ≢ c = λ i. absurd (let y : (e == c) ≡ true = grind nats in cc) in
        subst (CoreSerial (w.cores e)) (sym (g.others e n)) k
    go true q =
        let i : e ≡ c = grind nats in
        subst (λ j. CoreSerial o.core (g.plain.cores j)) (sym i)
        (record { local = g.local ∙ sym f.saved; ended = rw (f.after, f.ended) g.ended })

pub events_serial : EventsKeepSerial
unfolding next_history core_moves core_takes dir_takes dir_asks vendor_gives
events_serial sh p entries ram gs ys views m h e u k =
    if_recorded _ h (step sh p h.world e) (λ o eq. got _ eq (step_cases sh p h.world e (λ _. After sh p entries ram h)
    executes evicts grants backs answers gives))
  where
    executes : (c : ℕ) (o : Out) → core_exec sh p c (h.world.cores c) ≡ Some o → c < sh.cores
        → After sh p entries ram h (moved_by h.world c o)
    executes c o eq l = one o (got _ eq (exec-leaves sh p c (h.world.cores c)))
      where
        one : (o : Out) → Leaves sh p c (h.world.cores c) o
            → After sh p entries ram h (moved_by h.world c o)
        one o (Stays n v i) = kept-serial h m (moved_by h.world c o) n k.commits_are_serial
            (λ j y. rested-core sh h.world c j o m (record { commit = n; saved = v; ends = i }) (k.committed_cores_are_serial j y))
        one o (Closes t r f) =
            let g = closed-core p m h c t r u k l f in
            record {
              plain = g.plain;
              commits = subst (λ q. CommitsSerial sh p entries ram (and_noted q h.commits) g.plain) (sym f.commit) g.commits;
              cores = λ j y. closed-cores h.world c j o g f (k.committed_cores_are_serial j y);
            }

    rested : (c : ℕ) {o : Out} (w : World) → w.cores ≡ (λ j. if j == c then o.core else h.world.cores j)
        → CheckpointStays (h.world.cores c) o → After sh p entries ram h (record { world = w; noted = o.commit })
    rested c {o} w q r = kept-serial h m (record { world = w; noted = o.commit }) r.commit k.commits_are_serial
        (λ j y. subst (λ f. CoreSerial (f j) (m.cores j)) (sym q) (rested-core sh h.world c j o m r (k.committed_cores_are_serial j y)))

    same : (w : World) → w.cores ≡ h.world.cores → After sh p entries ram h (unnoted w)
    same w q = kept-serial h m (unnoted w) refl k.commits_are_serial
        (subst (λ f. (j : ℕ) → j < sh.cores → CoreSerial (f j) (m.cores j)) (sym q) k.committed_cores_are_serial)

    evicts : (c x y : ℕ) (o : Out) → core_evict sh x y (h.world.cores c) ≡ Some o → c < sh.cores
        → After sh p entries ram h (moved_by h.world c o)
    evicts c x y o eq l = rested c (core_moves h.world c o) refl (got _ eq (evict-stays sh x y (h.world.cores c)))

    grants : (c n t : ℕ) → in_flight h.world.net Vendor (Core c) n ≡ Some (TidGrant t)
        → After sh p entries ram h
        (taken_by h.world Vendor c n (grant sh t (h.world.cores c)))
    grants c n t i = rested c (core_takes h.world Vendor c n (grant sh t (h.world.cores c))) refl (grant-stays sh t (h.world.cores c))

    backs : (c d n : ℕ) (a : Msg) (o : Out) → from_dir sh d (h.world.cores c) a ≡ Some o → FromDir h.world d c n a
        → After sh p entries ram h (taken_by h.world (Dir d) c n o)
    backs c d n a o eq i = rested c (core_takes h.world (Dir d) c n o) refl (got _ eq (back-stays sh d (h.world.cores c) a))

    answers : (c d n : ℕ) (a : Msg) → FromCore h.world c d n a
        → OfAnswer h.world c d n (λ v. After sh p entries ram h (unnoted v)) (dir_deliver sh (h.world.dirs d) c a)
    answers c d n a i = go (dir_deliver sh (h.world.dirs d) c a)
      where
        go : (x : Answer) → OfAnswer h.world c d n (λ v. After sh p entries ram h (unnoted v)) x
        go Waits = tt
        go Drops = same (dir_takes h.world c d n (h.world.dirs d) nothing) refl
        go (Asks s sends) = same (dir_asks h.world d s sends) refl
        go (Takes s sends) = same (dir_takes h.world c d n s sends) refl

    gives : (c n : ℕ) (a : Ask) → in_flight h.world.net (Core c) Vendor n ≡ Some (asking a)
        → After sh p entries ram h (unnoted (gives_to h.world c n a))
    gives c n a i = same (gives_to h.world c n a) refl
