-- Every event keeps what is counted by events and that messages are of lines of memory, and so does every run.
use Rattle.std.specs.Prelude.{ℕ, zero, suc, ◌+◌, ◌*◌, ◌≡◌, ◌<◌, ◌≤◌, ◌==◌, Bool, true, false, List, [], ◌∷◌, length, slice_index_or}
use Rattle.std.specs.Prelude.{Contains, Option, Some, None, IfSome, nat_lt, if◌then◌else◌}
use Rattle.std.proofs.Common.{arith, refl}
use Rattle.tcc_base.specs.Put.{put}
use Rattle.tcc_base.specs.declared.access.Commit.{Commit as Noted}
use Rattle.rules_program.specs.Program.{Program, Local}
use Rattle.rules_maps.specs.Nodes.{Node, Core, Dir, Vendor, Event, Exec, Evict, Deliver, Msg, TidGrant}
use Rattle.rules_maps.specs.Shape.{Shape}
use Rattle.rules_tcc.specs.State.{CoreState, Link, World, core_start, vendor_start, start}
use Rattle.rules_tcc.specs.Attempt.{Out}
use Rattle.rules_tcc.specs.CoreDeliver.{core_deliver}
use Rattle.rules_tcc.specs.CoreEvict.{core_evict}
use Rattle.rules_tcc.specs.CoreExec.{core_exec}
use Rattle.rules_tcc.specs.DirDeliver.{Answer, Waits, Drops, Asks, Takes, dir_deliver}
use Rattle.rules_tcc.specs.Links.{in_flight, sending, taking}
use Rattle.rules_tcc.specs.Sends.{Sends}
use Rattle.rules_tcc.specs.VendorDeliver.{Granted, vendor_deliver}
use Rattle.rules_tcc.specs.Step.{Stepped, core_moves, core_takes, dir_takes, dir_asks, vendor_gives, if_core_moves, if_core_takes, answered}
use Rattle.rules_tcc.specs.Step.{if_vendor_gives, delivered, if_in_flight, names_nodes, happens, step, History, insert_commit, and_noted}
use Rattle.rules_tcc.specs.Step.{recorded, next_history, and_then, run_from, run}
use Rattle.rules_tcc.proofs.Lemmas.{Gift, Gives_none, Gives_tid, each-ask, gift, gift_sends, next_after}
use Rattle.theorem_serial.specs.InMemory.{StaysInMemory}
use Rattle.theorem_bounds.specs.Bounds.{most_sent, AttemptCounted, CommitCounted}
use Rattle.theorem_bounds.proofs.Outside.{is_inside, SendsInside, LinksInside, link-none, link-wider, link-inside, sending-inside}
use Rattle.theorem_bounds.proofs.Outside.{taking-inside, nothing-inside, to-inside, one-message, some}
use Rattle.theorem_bounds.proofs.Counted.{weak, none}
use Rattle.theorem_bounds.proofs.CoreKeeps.{CoreKeeps, exec-keeps, evict-keeps, grant-keeps, back-keeps}
use Rattle.theorem_bounds.proofs.DirKeeps.{AnswerInside, answer-inside}

-- the state after so many events
pub record Within (sh : Shape) (events : ℕ) (w : World) : Type 0 where
  pub links : LinksInside sh (events * most_sent sh) w.net
  pub cores : (c : ℕ) → AttemptCounted events (w.cores c)
  pub least : 1 ≤ w.next
  pub most : w.next ≤ events + 1

-- the commits until then
pub EachCounted : (events : ℕ) → List Noted → Type 0
EachCounted n [] = Unit {0}
EachCounted n (x ∷ xs) = CommitCounted n x × EachCounted n xs

-- and both, with as many commits as events at most
pub record Counts (sh : Shape) (events : ℕ) (h : History) : Type 0 where
  pub world : Within sh events h.world
  pub commits : EachCounted events h.commits
  pub number : length h.commits ≤ events

-- what one event keeps
pub record Keeps (sh : Shape) (events : ℕ) (o : Stepped) : Type 0 where
  pub world : Within sh (events + 1) o.world
  pub noted : IfSome o.noted (CommitCounted (events + 1))

-- the nodes' events

-- each makes a link longer by what it sends there
sent : (sh : Shape) (n : ℕ) (net : Node → Node → Link) (node : Node) (sends : Sends) → LinksInside sh (n * most_sent sh) net
    → SendsInside sh (most_sent sh) sends → LinksInside sh ((n + 1) * most_sent sh) (sending net node sends)
sent sh n net node sends h f = rw more (sending-inside sh (n * most_sent sh) (most_sent sh) net node sends h f)
  where
    more : (n + 1) * most_sent sh ≡ n * most_sent sh + most_sent sh
    more = omega arith

put-core : (n : ℕ) (w : World) (c : ℕ) (s : CoreState) → ((e : ℕ) → AttemptCounted n (w.cores e)) → AttemptCounted (n + 1) s → (e : ℕ)
    → AttemptCounted (n + 1) (put w.cores c s e)
put-core n w c s k h e = go (e == c)
  where
    go : (b : Bool) → AttemptCounted (n + 1) (if b then s else w.cores e)
    go true = h
    go false = weak n (w.cores e).n (w.cores e).loads (w.cores e).stores (w.cores e).console (k e)

later-cores : (n : ℕ) (w : World) → ((e : ℕ) → AttemptCounted n (w.cores e)) → (e : ℕ) → AttemptCounted (n + 1) (w.cores e)
later-cores n w k e = weak n (w.cores e).n (w.cores e).loads (w.cores e).stores (w.cores e).console (k e)

moves-keeps : (sh : Shape) (n : ℕ) (w : World) (c : ℕ) (o : Option Out) → Within sh n w → IfSome o (CoreKeeps sh (most_sent sh) n)
    → IfSome (if_core_moves w c o) (Keeps sh n)
unfolding core_moves
moves-keeps sh n w c None k f = tt
moves-keeps sh n w c (Some o) k f = record {
  world = record {
    links = sent sh n w.net (Core c) o.sends k.links f.sends;
    cores = put-core n w c o.core k.cores f.attempt;
    least = k.least;
    most = omega (arith, k.most);
  };
  noted = f.commit;
}

takes-keeps : (sh : Shape) (n : ℕ) (w : World) (src : Node) (c i : ℕ) (o : Option Out) → Within sh n w
    → IfSome o (CoreKeeps sh (most_sent sh) n)
    → IfSome (if_core_takes w src c i o) (Keeps sh n)
unfolding core_takes
takes-keeps sh n w src c i None k f = tt
takes-keeps sh n w src c i (Some o) k f = record {
  world = record {
    links = sent sh n (taking w.net src (Core c) i) (Core c) o.sends (taking-inside sh _ w.net src (Core c) i k.links) f.sends;
    cores = put-core n w c o.core k.cores f.attempt;
    least = k.least;
    most = omega (arith, k.most);
  };
  noted = f.commit;
}

answers-keeps : (sh : Shape) (n : ℕ) (w : World) (c d i : ℕ) (a : Answer) → Within sh n w → AnswerInside sh a
    → IfSome (answered w c d i a) (Keeps sh n)
unfolding dir_takes dir_asks
answers-keeps sh n w c d i Waits k f = tt
answers-keeps sh n w c d i Drops k f = record {
  world = record {
    links = sent sh n (taking w.net (Core c) (Dir d) i) (Dir d) (λ dst. []) (taking-inside sh _ w.net (Core c) (Dir d) i k.links)
        (nothing-inside sh _);
    cores = later-cores n w k.cores;
    least = k.least;
    most = omega (arith, k.most);
  };
  noted = tt;
}
answers-keeps sh n w c d i (Asks s sends) k f = record {
  world = record {
    links = sent sh n w.net (Dir d) sends k.links f;
    cores = later-cores n w k.cores;
    least = k.least;
    most = omega (arith, k.most);
  };
  noted = tt;
}
answers-keeps sh n w c d i (Takes s sends) k f = record {
  world = record {
    links = sent sh n (taking w.net (Core c) (Dir d) i) (Dir d) sends (taking-inside sh _ w.net (Core c) (Dir d) i k.links) f;
    cores = later-cores n w k.cores;
    least = k.least;
    most = omega (arith, k.most);
  };
  noted = tt;
}

-- what the vendor gives: a message at most, and the next TID rises by one at most
gift-inside : (sh : Shape) (n c : ℕ) (g : Gift)
    → SendsInside sh (most_sent sh) (gift_sends g n c) × (n ≤ next_after g n) × (next_after g n ≤ n + 1)
unfolding gift_sends next_after is_inside
gift-inside sh n c Gives_tid =
    (to-inside sh _ (Core c) (TidGrant n ∷ []) (one-message sh _ (TidGrant n) (some sh) refl), omega arith, omega arith)
gift-inside sh n c Gives_none = (nothing-inside sh _, omega arith, omega arith)

gives-keeps : (sh : Shape) (n : ℕ) (w : World) (c i : ℕ) (m : Msg) → Within sh n w
    → IfSome (if_vendor_gives w c i (vendor_deliver w.next c m)) (Keeps sh n)
unfolding vendor_gives
gives-keeps sh n w c i m k =
    go (vendor_deliver w.next c m) (each-ask w.next c (λ m x. Given x) (λ a. gift-inside sh w.next c (gift a)) m)
  where
    Given : Granted → Type 0
    Given x = SendsInside sh (most_sent sh) x.sends × (w.next ≤ x.next) × (x.next ≤ w.next + 1)

    go : (x : Option Granted) → IfSome x Given → IfSome (if_vendor_gives w c i x) (Keeps sh n)
    go None h = tt
    go (Some x) h = record {
      world = record {
        links = sent sh n (taking w.net (Core c) Vendor i) Vendor x.sends (taking-inside sh _ w.net (Core c) Vendor i k.links) h.0;
        cores = later-cores n w k.cores;
        least = omega (arith, k.least, h.1);
        most = omega (arith, k.most, h.2);
      };
      noted = tt;
    }

core-keeps : (sh : Shape) (n : ℕ) (w : World) (src : Node) (c : ℕ) (m : Msg) → Within sh n w → is_inside sh m ≡ true
    → IfSome (core_deliver sh (w.cores c) src m) (CoreKeeps sh (most_sent sh) n)
unfolding core_deliver
core-keeps sh n w (Dir d) c m k e = back-keeps sh n d (w.cores c) m e (k.cores c)
core-keeps sh n w (Core d) c m k e = tt
core-keeps sh n w Vendor c (TidGrant t) k e = grant-keeps sh n t (w.cores c) (k.cores c)
core-keeps sh n w Vendor c m k e = tt

delivers-keeps : (sh : Shape) (n : ℕ) (w : World) (src dst : Node) (i : ℕ) (m : Msg) → Within sh n w → is_inside sh m ≡ true
    → IfSome (delivered sh w src dst i m) (Keeps sh n)
delivers-keeps sh n w src (Core c) i m k e =
    takes-keeps sh n w src c i (core_deliver sh (w.cores c) src m) k (core-keeps sh n w src c m k e)
delivers-keeps sh n w (Core c) (Dir d) i m k e =
    answers-keeps sh n w c d i (dir_deliver sh (w.dirs d) c m) k (answer-inside sh c (w.dirs d) m e)
delivers-keeps sh n w (Core c) Vendor i m k e = gives-keeps sh n w c i m k
delivers-keeps sh n w _ _ i m k e = tt

flying-keeps : (sh : Shape) (n : ℕ) (w : World) (src dst : Node) (i : ℕ) (o : Option Msg) → in_flight w.net src dst i ≡ o → Within sh n w
    → IfSome (if_in_flight sh w src dst i o) (Keeps sh n)
flying-keeps sh n w src dst i None q k = tt
flying-keeps sh n w src dst i (Some m) q k =
    delivers-keeps sh n w src dst i m k (link-inside sh (w.net src dst) i m (k.links src dst).none q)

happens-keeps : (sh : Shape) (p : Program) (n : ℕ) (w : World) (e : Event) → StaysInMemory sh p → Within sh n w
    → IfSome (happens sh p w e) (Keeps sh n)
unfolding happens
happens-keeps sh p n w (Exec c) i k =
    moves-keeps sh n w c (core_exec sh p c (w.cores c)) k (exec-keeps sh n p c (w.cores c) (i (w.cores c).local) (k.cores c))
happens-keeps sh p n w (Evict c x y) i k =
    moves-keeps sh n w c (core_evict sh x y (w.cores c)) k (evict-keeps sh n x y (w.cores c) (k.cores c))
happens-keeps sh p n w (Deliver src dst j) i k = flying-keeps sh n w src dst j (in_flight w.net src dst j) refl k

pub step-keeps : (sh : Shape) (p : Program) (n : ℕ) (w : World) (e : Event) → StaysInMemory sh p → Within sh n w
    → IfSome (step sh p w e) (Keeps sh n)
unfolding step
step-keeps sh p n w e i k = go (names_nodes sh e)
  where
    go : (b : Bool) → IfSome (if b then happens sh p w e else None) (Keeps sh n)
    go true = happens-keeps sh p n w e i k
    go false = tt

-- commits

later-each : (n : ℕ) (cs : List Noted) → EachCounted n cs → EachCounted (n + 1) cs
unfolding EachCounted
later-each n [] k = tt
later-each n (x ∷ xs) k = (weak n x.n x.loads x.stores x.console (k.0), later-each n xs (k.1))

inserted-each : (n : ℕ) (x : Noted) (cs : List Noted) → CommitCounted n x → EachCounted n cs → EachCounted n (insert_commit x cs)
unfolding EachCounted insert_commit
inserted-each n x [] h k = (h, tt)
inserted-each n x (c ∷ cs) h k = go (nat_lt x.tid.0 c.tid.0) (inserted-each n x cs h (k.1))
  where
    go : (b : Bool) → EachCounted n (insert_commit x cs) → EachCounted n (if b then x ∷ c ∷ cs else c ∷ insert_commit x cs)
    go true r = (h, (k.0, k.1))
    go false r = (k.0, r)

inserted-length : (x : Noted) (cs : List Noted) → length (insert_commit x cs) ≡ length cs + 1
unfolding insert_commit
inserted-length x [] = refl
inserted-length x (c ∷ cs) = go (nat_lt x.tid.0 c.tid.0) (inserted-length x cs)
  where
    go : (b : Bool) → length (insert_commit x cs) ≡ length cs + 1
        → length (if b then x ∷ c ∷ cs else c ∷ insert_commit x cs) ≡ length (c ∷ cs) + 1
    go true r = omega arith
    go false r = omega (arith, r)

listed : (n : ℕ) (x : Option Noted) (cs : List Noted) → IfSome x (CommitCounted (n + 1)) → EachCounted n cs
    → EachCounted (n + 1) (and_noted x cs)
listed n None cs h k = later-each n cs k
listed n (Some x) cs h k = inserted-each (n + 1) x cs h (later-each n cs k)

listed-length : (n : ℕ) (x : Option Noted) (cs : List Noted) → length cs ≤ n → length (and_noted x cs) ≤ n + 1
listed-length n None cs k = omega arith
listed-length n (Some x) cs k = omega (arith, inserted-length x cs)

pub each-at : (n : ℕ) (cs : List Noted) (x : Noted) → EachCounted n cs → Contains cs x → CommitCounted n x
unfolding EachCounted
each-at n [] x k c = absurd (omega (arith, c.1))
each-at n (y ∷ cs) x k c = go c.0 (c.1) (c.2) (λ q. each-at n cs x (k.1) q)
  where
    go : (i : ℕ) → i < suc (length cs) → slice_index_or (y ∷ cs) i x ≡ x → (Contains cs x → CommitCounted n x) → CommitCounted n x
    go zero l e f = rw e at (k.0)
    go (suc i) l e f = f (i, omega (arith, l), e)

-- runs

run-keeps : (sh : Shape) (p : Program) (es : List Event) (n : ℕ) (h : History) → StaysInMemory sh p → Counts sh n h
    → IfSome (run_from sh p es h) (Counts sh (n + length es))
unfolding run_from next_history
run-keeps sh p [] n h i k = let e : n + 0 ≡ n = omega arith in rw e k
run-keeps sh p (e ∷ es) n h i k = go (step sh p h.world e) (step-keeps sh p n h.world e i k.world) (λ g c. run-keeps sh p es (n + 1) g i c)
  where
    shifted : n + 1 + length es ≡ n + length (e ∷ es)
    shifted = omega arith

    go : (x : Option Stepped) → IfSome x (Keeps sh n)
        → ((g : History) → Counts sh (n + 1) g → IfSome (run_from sh p es g) (Counts sh (n + 1 + length es)))
        → IfSome (and_then (run_from sh p es) (recorded h x)) (Counts sh (n + length (e ∷ es)))
    go None q f = tt
    go (Some o) q f = rw shifted at (f (record { world = o.world; commits = and_noted o.noted h.commits }) (record {
      world = q.world;
      commits = listed n o.noted h.commits q.noted k.commits;
      number = listed-length n o.noted h.commits k.number;
    }))

start-counts : (sh : Shape) (entries : ℕ → Local) (ram : ℕ → ℕ) → Counts sh 0 (record { world = start entries ram; commits = [] })
unfolding start core_start vendor_start EachCounted
start-counts sh entries ram = record {
  world = record {
    links = λ s d. link-wider sh 0 _ [] (omega arith) (link-none sh);
    cores = λ c. none 0;
    least = omega arith;
    most = omega arith;
  };
  commits = tt;
  number = omega arith;
}

pub runs-count : (sh : Shape) (p : Program) (entries : ℕ → Local) (ram : ℕ → ℕ) (es : List Event) → StaysInMemory sh p
    → IfSome (run sh p (start entries ram) es) (Counts sh (length es))
unfolding run
runs-count sh p entries ram es i =
    let e : 0 + length es ≡ length es = omega arith in
    rw e at (run-keeps sh p es 0 (record { world = start entries ram; commits = [] }) i (start-counts sh entries ram))
