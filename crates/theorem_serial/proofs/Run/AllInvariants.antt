-- Every state of every run has all invariants, and the laws of every run that follow from them.
use Rattle.rules_program.specs.Cores.{AreBy}
use Rattle.theorem_serial.specs.NotedBy.{is_core, AreByCores, CommitsAreByCores}
use Rattle.theorem_serial.specs.Asked.{KeptAsked}
use Rattle.theorem_serial.specs.Probing.{KeptProbing, OneProbe}
use Rattle.theorem_serial.proofs
use proofs.Names
use Names.{if_recorded, got, ℕ, ◌≡◌, ◌<◌, ◌≤◌, ◌==◌, ◌&&◌, ◌||◌, Bool, true, false, Option, Some, None, IfSome, nat_lt, arith, refl, num}
use Names.{Shape, writes_at, reads_at, World, start, Phase, Probing, Ready, Overflowing, Solo, History, run, pair, share, opens, part}
use Names.{handled, ResolvedAt, Kept, Always, OneWay, OneRequest, Passed, NeverPasses, OwedInFlight, Served, tid_of, asks_dir, KeptOwed}
use Names.{nats, tid_at, IfSome_then, List, [], ◌∷◌, if◌then◌else◌, Noted, Program, Event, grant, Answer, Waits, Drops, Asks, Takes}
use Names.{dir_deliver, Stepped, step, insert_commit, and_noted, recorded, next_history, and_then, run_from, first_state}
use Names.{SparesItsCommitter, SparesCommitter, MarksAreStored, append_assoc, KeptCounted, then_grants, grants_from, append-nil, core_start}
use Names.{granted_by, KeptOwners, KeptWhole, KeptNamed, KeptCores, HoldsLast, has_tid, KeptAll, Local, Grant, ◌++◌, live, sym}
use Names.{CommitsAreServed}
use proofs.Counts.{total-le, OfAnswer, step_cases}
use proofs.Serving.{core_of_grant, core_of_back, step-kept, start-all, step-committing, start-committing, step-spared, commits_served}
use proofs.Serving.{step-owners, start-owners, step-last, step-probing}
use proofs.Tids.{holder-exec, holder-evict, holder-grant, holder-back}
use proofs.Lines.LineOwners.{step-asked, start-asked, step-whole, start-whole}
use proofs.Marks.CountsKept.{step-counted, start-counted, step-masks, start-masks}
use proofs.Marks.MarksKept.{step-marks, start-marks}
use proofs.Marks.NamedKept.{step-named, start-named}
use proofs.Marks.StoredKept.{step-stored, start-stored}
use proofs.OneCore.{step-cores, start-cores}

-- All invariants together, through every event and along every run.

start-probing : (entries : ℕ → Local) (ram : ℕ → ℕ) → KeptProbing (start entries ram)
unfolding start core_start pair live has_tid
start-probing entries ram c d t = record { fresh = λ l. refl; held = λ k. absurd (cc) }

start-spared : (sh : Shape) (entries : ℕ → Local) (ram : ℕ → ℕ) → SparesCommitter sh [] (start entries ram)
unfolding start pair live
start-spared sh entries ram c d = record { owner = λ t l. absurd (omega arith); own = λ l g. refl }

pub step-all : {sh : Shape} (p : Program) {gs : List Grant} {h : History} (e : Event) → KeptAll sh gs h
    → IfSome (recorded h (step sh p h.world e)) (KeptAll sh (gs ++ granted_by h.world e))
step-all {sh} p {gs} {h} e k = if_recorded _ h (step sh p h.world e)
    (λ o eq. let a : Kept sh o.world = got _ eq (step-kept p e k.kept) in record {
      kept = a;
      owners = got _ eq (step-owners p e k.kept.told.tids k.owners);
      cores = got _ eq (step-cores p h.world e k.cores);
      committing = got _ eq (step-committing p e k.kept k.committing);
      probing = got _ eq (step-probing p e k.kept k.owners k.cores k.probing);
      last = got _ eq (step-last p e k.kept.told.tids k.owners k.last);
      spared = got _ eq (step-spared p e k.kept k.owners k.spared) a.told;
      marks = got _ eq (step-marks p e k.kept k.owners k.marks) a.told;
      counted = got _ eq (step-counted p e k.kept k.owners k.cores k.marks k.counted) a.told;
      whole = got _ eq (step-whole sh p h.world e k.whole);
      named = got _ eq (step-named p e k.kept k.counted k.named) a.told;
      asked = got _ eq (step-asked sh p h.world e k.asked);
      masks = got _ eq (step-masks p e k.kept k.owners k.marks k.masks);
      stored = got _ eq (step-stored p e k.kept k.owners k.cores k.marks k.counted k.masks k.stored) a.told;
    })

run_from-all : (sh : Shape) (p : Program) (es : List Event) (gs : List Grant) (h : History) → KeptAll sh gs h
    → IfSome (run_from sh p es h) (KeptAll sh (gs ++ grants_from sh p es h))
unfolding run_from grants_from next_history
run_from-all sh p [] gs h k = rw append-nil k
run_from-all sh p (e ∷ es) gs h k = go (recorded h (step sh p h.world e)) (step-all p e k)
    (run_from-all sh p es (gs ++ granted_by h.world e))
  where
    go : (x : Option History) → IfSome x (KeptAll sh (gs ++ granted_by h.world e))
        → ((g : History) → KeptAll sh (gs ++ granted_by h.world e) g
        → IfSome (run_from sh p es g) (λ r. KeptAll sh ((gs ++ granted_by h.world e) ++ grants_from sh p es g) r))
        → IfSome (and_then (run_from sh p es) x) (λ r. KeptAll sh (gs ++ then_grants (granted_by h.world e) (grants_from sh p es) x) r)
    go None a f = tt
    go (Some g) a f = rw (sym (append_assoc gs (granted_by h.world e) (grants_from sh p es g))) (f g a)

pub all-at-start : (sh : Shape) (entries : ℕ → Local) (ram : ℕ → ℕ) → KeptAll sh [] (first_state entries ram)
all-at-start sh entries ram = record {
  kept = start-all sh entries ram;
  owners = start-owners sh entries ram;
  cores = start-cores sh entries ram;
  committing = start-committing entries ram;
  probing = start-probing entries ram;
  last = λ c d t u l q. absurd (omega arith);
  spared = start-spared sh entries ram;
  marks = start-marks sh entries ram;
  counted = start-counted entries ram;
  whole = start-whole sh entries ram;
  named = start-named sh entries ram;
  asked = start-asked sh entries ram;
  masks = start-masks sh entries ram;
  stored = start-stored sh entries ram;
}

pub run-all : (sh : Shape) (p : Program) (entries : ℕ → Local) (ram : ℕ → ℕ) (es : List Event)
    → IfSome (run sh p (start entries ram) es) (λ r. KeptAll sh (grants_from sh p es (first_state entries ram)) r)
unfolding run
run-all sh p entries ram es = run_from-all sh p es [] (first_state entries ram) (all-at-start sh entries ram)

-- what follows from all invariants, of the state that a run reaches
along : {P : History → Type 0} (sh : Shape) (p : Program) (entries : ℕ → Local) (ram : ℕ → ℕ) (es : List Event)
    → ((r : History) → KeptAll sh (grants_from sh p es (first_state entries ram)) r → P r) → IfSome (run sh p (start entries ram) es) P
along sh p entries ram es f = IfSome_then (run sh p (start entries ram) es) (run-all sh p entries ram es) f

pub one_probe_from : (sh : Shape) (w : World) → KeptProbing w → OneProbe sh w
unfolding pair
one_probe_from sh w k c d t h = (k c d t).held h

pub one_probe : Always OneProbe
one_probe sh p entries ram es = along sh p entries ram es
    (λ r h. one_probe_from sh r.world h.probing)

pub last_granted : HoldsLast
last_granted sh p entries ram es = along sh p entries ram es (λ r h. h.last)

pub spares_committer : SparesItsCommitter
spares_committer sh p entries ram es = along sh p entries ram es (λ r h. h.spared)

pub marks_stored : MarksAreStored
marks_stored sh p entries ram es = along sh p entries ram es (λ r h. h.marks)

pub counts_marks : Always KeptCounted
counts_marks sh p entries ram es = along sh p entries ram es (λ r h. h.counted)

pub wholly_marked : Always KeptWhole
wholly_marked sh p entries ram es = along sh p entries ram es (λ r h. h.whole)

pub named_lines : Always KeptNamed
named_lines sh p entries ram es = along sh p entries ram es (λ r h. h.named)

pub asked_owned : Always KeptAsked
asked_owned sh p entries ram es = along sh p entries ram es (λ r h. h.asked)

pub one_core : Always KeptCores
one_core sh p entries ram es = along sh p entries ram es (λ r h. h.cores)

pub commits_are_served : Always CommitsAreServed
commits_are_served sh p entries ram es = along sh p entries ram es
    (λ r h. commits_served h.kept h.committing)

pub run-owners : (sh : Shape) (p : Program) (entries : ℕ → Local) (ram : ℕ → ℕ) (es : List Event)
    → IfSome (run sh p (start entries ram) es)
    (λ r. KeptOwners sh (grants_from sh p es (record { world = start entries ram; commits = [] })) r.world r.commits)
run-owners sh p entries ram es = along sh p entries ram es (λ r h. h.owners)

-- what the law on grants and commits cites
pub ruleset granting = (run-owners, last_granted)

-- The laws of every run, from the invariants.

from_kept : (P : Shape → World → Type 0) → ((sh : Shape) (w : World) → Kept sh w → P sh w) → Always P
from_kept P f sh p entries ram es = along sh p entries ram es (λ r h. f sh r.world h.kept)

pub one_way : Always OneWay
one_way = from_kept OneWay (λ sh w k. k.told.tids.resolved)

pub one_request : Always OneRequest
one_request = from_kept OneRequest (λ sh w k. k.told.tids.requests)

num-zero : (b : Bool) → num b ≡ 0 → b ≡ false
num-zero a h = grind nats

-- a TID that is passed has no part left
pub passed : (sh : Shape) (w : World) (d t : ℕ) → ResolvedAt sh w d t → t < tid_at w d → Passed sh w d t
unfolding handled share part pair
passed sh w d t r l = record {
  granted = grind nats;
  came = λ c i. omega (arith, none);
  closed = λ c i. num-zero (opens (w.cores c).phase (writes_at sh (w.cores c).cache d) t) (omega (arith, none c i));
  told = λ c i. omega (arith, none c i);
}
  where
    below : num (nat_lt t (tid_at w d)) ≡ 1
    below = grind nats

    none : (c : ℕ) → c < sh.cores → share (part sh d t) w d c ≡ 0
    none c i = omega (arith, below, r, total-le (share (part sh d t) w d) sh.cores c i)

pub never_passes : Always NeverPasses
never_passes = from_kept NeverPasses (λ sh w k d t x l. passed sh w d t (k.told.tids.resolved d t x) l)

pub owed_from : {sh : Shape} {w : World} → KeptOwed sh w → OwedInFlight sh w
unfolding pair
owed_from k = record {
  owed = k.owed;
  served = λ c d. (k.at_home c d).served;
  at_home = λ c d. (k.at_home c d).invs;
  marked_at_home = λ d l e. (k.at_home 0 d).marked l e;
}

pub owed_in_flight : Always OwedInFlight
owed_in_flight = from_kept OwedInFlight (λ sh w k. owed_from k.told.owed)

asked : (a b : Bool) (u t : ℕ) → ((u == t) && a) ≡ true → ((a || b) ≡ true) × (u ≡ t)
asked true b u t o = (refl, grind nats)
asked false b u t o = absurd (grind nats)

-- where a TID is open, the core asks
opens-asks : (q : Phase) (a b : Bool) (t : ℕ) → opens q a t ≡ true → (asks_dir q (a || b) ≡ true) × (tid_of q ≡ t)
unfolding opens
opens-asks (Probing u) a b t o = asked a b u t o
opens-asks (Ready u) a b t o = asked a b u t o
opens-asks (Overflowing (Some u)) a b t o = (refl, grind nats)
opens-asks (Solo u) a b t o = (refl, grind nats)
opens-asks _ a b t o = absurd (cc)

-- a directory that has replied serves the TID that is open there
serves : (sh : Shape) (w : World) (c d t : ℕ) → Kept sh w → c < sh.cores → d < sh.dirs
    → opens (w.cores c).phase (writes_at sh (w.cores c).cache d) t ≡ true → (w.cores c).owing d ≡ false → tid_at w d ≡ t
unfolding handled share part pair
serves sh w c d t k l x o r =
    let p = k.told.tids.resolved d t x in
    let q = total-le (share (part sh d t) w d) sh.cores c l in
    let n : num (opens (w.cores c).phase (writes_at sh (w.cores c).cache d) t) ≡ 1 = rw o in
    let a = opens-asks (w.cores c).phase (writes_at sh (w.cores c).cache d) (reads_at sh (w.cores c).cache d) t o in
    let low = (k.probes c d).core.reached x a.0 r in
    let z : num (nat_lt t (tid_at w d)) ≡ 0 = omega arith in
    let high : tid_at w d ≤ t = not_below t (tid_at w d) z in
    omega arith
  where
    not_below : (a b : ℕ) → num (nat_lt a b) ≡ 0 → b ≤ a
    not_below a b z = grind nats

pub served_from : (sh : Shape) (w : World) → Kept sh w → Served sh w
unfolding pair
served_from sh w k = record {
  reached = λ c d l x a o. (k.probes c d).core.reached x a o;
  serves = λ c d t l x o r. serves sh w c d t k l x o r;
  replied = λ c d l x m. (k.probes c d).core.replied x m;
}

pub served : Always Served
served = from_kept Served served_from

-- Every commit is by a core of the machine.

-- what a step notes is by a core of the machine
abbrev NotedByCore : Shape → Option Noted → Type 0
NotedByCore sh n = IfSome n (λ x. x.core.0 < sh.cores)

noted-by : (sh : Shape) (c : ℕ) (n : Option Noted) → c < sh.cores → IfSome n (λ x. x.core.0 ≡ c) → NotedByCore sh n
noted-by sh c None l o = tt
noted-by sh c (Some n) l o = rw o l

step-by : {sh : Shape} (p : Program) {w : World} (e : Event) → Kept sh w → IfSome (step sh p w e) (λ o. NotedByCore sh o.noted)
step-by {sh} p {w} e h = step_cases sh p w e (λ g o. NotedByCore sh o.noted)
    (λ c o eq l. noted-by sh c o.commit l (got _ eq (holder-exec sh p c (w.cores c))).own)
    (λ c x y o eq l. noted-by sh c o.commit l (got _ eq (holder-evict sh x y c (w.cores c))).own)
    (λ c k t i. noted-by sh c (grant sh t (w.cores c)).commit (core_of_grant c k h.told.tids i) (holder-grant sh t c (w.cores c)).own)
    (λ c d k m o eq i. noted-by sh c o.commit (core_of_back c d k h.told.tids i) (got _ eq (holder-back sh d c (w.cores c) m)).own)
    (λ c d k m i. answer c d k (dir_deliver sh (w.dirs d) c m)) (λ c k a i. tt)
  where
    answer : (c d k : ℕ) (a : Answer) → OfAnswer w c d k (λ v. NotedByCore sh None) a
    answer c d k Waits = tt
    answer c d k Drops = tt
    answer c d k (Asks s sends) = tt
    answer c d k (Takes s sends) = tt

inserted-by : (sh : Shape) (n : Noted) (cs : List Noted) → n.core.0 < sh.cores → AreByCores sh cs → AreByCores sh (insert_commit n cs)
unfolding AreBy insert_commit
inserted-by sh n [] l k = (grind nats, tt)
inserted-by sh n (c ∷ cs) l k = go (nat_lt n.tid.0 c.tid.0) (grind nats) (inserted-by sh n cs l k.1)
  where
    go : (b : Bool) → is_core sh n.core.0 ≡ true → AreByCores sh (insert_commit n cs)
        → AreByCores sh (if b then n ∷ c ∷ cs else c ∷ insert_commit n cs)
    go true own r = (own, (k.0, k.1))
    go false own r = (k.0, r)

listed-by : (sh : Shape) (n : Option Noted) (cs : List Noted) → NotedByCore sh n → AreByCores sh cs → AreByCores sh (and_noted n cs)
listed-by sh None cs l k = k
listed-by sh (Some n) cs l k = inserted-by sh n cs l k

run_from-by : (sh : Shape) (p : Program) (es : List Event) (h : History) → Kept sh h.world → AreByCores sh h.commits
    → IfSome (run_from sh p es h) (λ r. AreByCores sh r.commits)
unfolding run_from next_history
run_from-by sh p [] h k b = b
run_from-by sh p (e ∷ es) h k b = go (step sh p h.world e) (step-kept p e k) (step-by p e k) (run_from-by sh p es)
  where
    go : (x : Option Stepped) → IfSome x (λ o. Kept sh o.world) → IfSome x (λ o. NotedByCore sh o.noted)
        → ((g : History) → Kept sh g.world → AreByCores sh g.commits → IfSome (run_from sh p es g) (λ r. AreByCores sh r.commits))
        → IfSome (and_then (run_from sh p es) (recorded h x)) (λ r. AreByCores sh r.commits)
    go None q n f = tt
    go (Some o) q n f = f (record { world = o.world; commits = and_noted o.noted h.commits }) q (listed-by sh o.noted h.commits n b)

pub commits_are_by_cores : CommitsAreByCores
unfolding run AreBy
commits_are_by_cores sh p entries ram es = run_from-by sh p es (first_state entries ram) (start-all sh entries ram) tt
