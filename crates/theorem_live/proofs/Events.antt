-- Useful events, from messages in flight and from what their takers do.
use Rattle.std.specs.Prelude.{ℕ, ◌≡◌, ◌<◌, ◌≤◌, Bool, true, false, Option, Some, None, is_some}
use Rattle.std.proofs.Common.{arith, refl, sym, subst, ◌⊎◌, inl, inr}
use Rattle.std.proofs.lemmas.Bool.Decides.{nat_tests}
use Rattle.rules_program.specs.Program.{Program}
use Rattle.rules_maps.specs.Nodes.{Node, Core, Dir, Vendor, Event, Exec, Evict, Deliver, Msg, TidGrant, Fill, ProbeReply, DataReq}
use Rattle.rules_maps.specs.Nodes.{Inv}
use Rattle.rules_maps.specs.Shape.{Shape}
use Rattle.rules_tcc.specs.State.{World}
use Rattle.rules_tcc.specs.Attempt.{Out}
use Rattle.rules_tcc.specs.Links.{in_flight}
use Rattle.rules_tcc.specs.CoreExec.{core_exec}
use Rattle.rules_tcc.specs.CoreEvict.{core_evict}
use Rattle.rules_tcc.specs.CoreDeliver.{core_deliver, from_dir, from_vendor}
use Rattle.rules_tcc.specs.DirDeliver.{Answer, Waits, Drops, Asks, Takes, dir_deliver}
use Rattle.rules_tcc.specs.VendorDeliver.{Granted, vendor_deliver}
use Rattle.rules_tcc.specs.Step.{if_core_moves, if_core_takes, answered, if_vendor_gives, delivered, is_node, names_nodes, happens, step}
use Rattle.rules_tcc.specs.Step.{is_enabled}
use Rattle.rules_tcc.specs.Useful.{is_of_use, is_useful, holds_written, is_this_set, room}
use Rattle.rules_tcc.proofs.Lemmas.{request-taken}
use Rattle.theorem_serial.specs.Count.{Kind, Asks as Requests, live, passes}
use Rattle.rules_maps.specs.Messages.{goes_to_core, is_grant, is_request}
use Rattle.theorem_live.specs.Progress.{spares, GoesOn, IsPlaced}
use Rattle.theorem_live.proofs.Found.{back, out, found}
use Rattle.theorem_serial.proofs.Lemmas.{is-lt}

-- a useful event that is no other core's request for a TID, whichever core asks, and executes none but a core that has a TID
pub record Moves (sh : Shape) (p : Program) (w : World) : Type 0 where
  pub event : Event
  pub is_useful : is_useful sh p w event ≡ true
  pub spares : (c : ℕ) → spares c event ≡ true
  pub placed : (a : ℕ) → event ≡ Exec a → IsPlaced w a

pub goes_on : (sh : Shape) (p : Program) (w : World) (c : ℕ) → Moves sh p w → GoesOn sh p w c
goes_on sh p w c m = record {
  event = m.event;
  is_useful = m.is_useful;
  spares = m.spares c;
  executes = λ a e. inr (m.placed a e);
}

-- what is enabled

some_moved : (w : World) (c : ℕ) (o : Option Out) → is_some o ≡ true → is_some (if_core_moves w c o) ≡ true
some_moved w c None h = absurd (cc)
some_moved w c (Some o) h = refl

pub some_taken : (w : World) (src : Node) (c k : ℕ) (o : Option Out) → is_some o ≡ true → is_some (if_core_takes w src c k o) ≡ true
some_taken w src c k None h = absurd (cc)
some_taken w src c k (Some o) h = refl

-- the directory doesn't let the message wait
abbrev pub is_answer : Answer → Bool
is_answer Waits = false
is_answer Drops = true
is_answer (Asks s sends) = true
is_answer (Takes s sends) = true

some_answered : (w : World) (c d k : ℕ) (a : Answer) → is_answer a ≡ true → is_some (answered w c d k a) ≡ true
some_answered w c d k Waits h = absurd (cc)
some_answered w c d k Drops h = refl
some_answered w c d k (Asks s sends) h = refl
some_answered w c d k (Takes s sends) h = refl

pub some_granted : (w : World) (c k : ℕ) (m : Msg) → is_request m ≡ true
    → is_some (if_vendor_gives w c k (vendor_deliver w.next c m)) ≡ true
some_granted w c k m h = go (vendor_deliver w.next c m) (request-taken w.next c m h)
  where
    go : (x : Option Granted) → is_some x ≡ true → is_some (if_vendor_gives w c k x) ≡ true
    go None e = absurd (cc)
    go (Some x) e = refl

-- useful events

exec_useful : (sh : Shape) (p : Program) (w : World) (c : ℕ) → c < sh.cores → is_some (core_exec sh p c (w.cores c)) ≡ true
    → is_useful sh p w (Exec c) ≡ true
unfolding is_useful is_enabled step names_nodes happens
exec_useful sh p w c l h = rw (is-lt c sh.cores l, some_moved w c (core_exec sh p c (w.cores c)) h) refl

same_core : (c a : ℕ) → Exec c ≡ Exec a → c ≡ a
same_core c a e = cc

-- an Exec of a core that has a TID, or of the core that is to go on
pub exec_moves : (sh : Shape) (p : Program) (w : World) (c : ℕ) → c < sh.cores → IsPlaced w c
    → is_some (core_exec sh p c (w.cores c)) ≡ true → Moves sh p w
exec_moves sh p w c l i h = record {
  event = Exec c;
  is_useful = exec_useful sh p w c l h;
  spares = λ j. refl;
  placed = λ a e. subst (IsPlaced w) (same_core c a e) i;
}

pub exec_goes_on : (sh : Shape) (p : Program) (w : World) (c : ℕ) → c < sh.cores → is_some (core_exec sh p c (w.cores c)) ≡ true
    → GoesOn sh p w c
exec_goes_on sh p w c l h = record {
  event = Exec c;
  is_useful = exec_useful sh p w c l h;
  spares = refl;
  executes = λ a e. inl (sym (same_core c a e));
}

-- an Evict of a way whose line has words that leave it, or in a set where the core waits for room
pub evict_moves : (sh : Shape) (p : Program) (w : World) (c x y : ℕ) → c < sh.cores → x < sh.sets → y < sh.ways
    → is_some (core_evict sh x y (w.cores c)) ≡ true
    → (holds_written (w.cores c).cache ((w.cores c).cache.at x y) ≡ true) ⊎ (is_this_set (room sh p (w.cores c)) x ≡ true) → Moves sh p w
unfolding is_useful is_enabled step names_nodes happens
evict_moves sh p w c x y l i j h u = record {
  event = Evict c x y;
  is_useful = rw (is-lt c sh.cores l, is-lt x sh.sets i, is-lt y sh.ways j, some_moved w c (core_evict sh x y (w.cores c)) h) (used u);
  spares = λ j. refl;
  placed = λ a e. absurd (cc);
}
  where
    used : (holds_written (w.cores c).cache ((w.cores c).cache.at x y) ≡ true) ⊎ (is_this_set (room sh p (w.cores c)) x ≡ true)
        → is_of_use sh p w (Evict c x y) ≡ true
    used (inl e) = grind (arith, nat_tests)
    used (inr e) = grind (arith, nat_tests)

delivers : (sh : Shape) (p : Program) (w : World) (src dst : Node) (k : ℕ) (m : Msg) → is_node sh src ≡ true → is_node sh dst ≡ true
    → in_flight w.net src dst k ≡ Some m → is_some (delivered sh w src dst k m) ≡ true → is_useful sh p w (Deliver src dst k) ≡ true
unfolding is_useful is_enabled step names_nodes happens
delivers sh p w src dst k m a b i h = rw (a, b, i, h) refl

pub back_moves : (sh : Shape) (p : Program) (w : World) (d c k : ℕ) (m : Msg) → d < sh.dirs → c < sh.cores
    → in_flight w.net (Dir d) (Core c) k ≡ Some m → goes_to_core m ≡ true → Moves sh p w
unfolding core_deliver
back_moves sh p w d c k m i l e h = record {
  event = Deliver (Dir d) (Core c) k;
  is_useful = delivers sh p w (Dir d) (Core c) k m (is-lt d sh.dirs i) (is-lt c sh.cores l) e
      (some_taken w (Dir d) c k (from_dir sh d (w.cores c) m) (some m h));
  spares = λ j. refl;
  placed = λ a e. absurd (cc);
}
  where
    some : (m : Msg) → goes_to_core m ≡ true → is_some (from_dir sh d (w.cores c) m) ≡ true
    some (ProbeReply t s) h = refl
    some (Fill l ws) h = refl
    some (DataReq l) h = refl
    some (Inv l m t) h = refl
    some _ h = h

pub grant_moves : (sh : Shape) (p : Program) (w : World) (c k : ℕ) (m : Msg) → c < sh.cores → in_flight w.net Vendor (Core c) k ≡ Some m
    → is_grant m ≡ true → Moves sh p w
unfolding core_deliver
grant_moves sh p w c k m l e h = record {
  event = Deliver Vendor (Core c) k;
  is_useful = delivers sh p w Vendor (Core c) k m refl (is-lt c sh.cores l) e
      (some_taken w Vendor c k (from_vendor sh (w.cores c) m) (some m h));
  spares = λ j. refl;
  placed = λ a e. absurd (cc);
}
  where
    some : (m : Msg) → is_grant m ≡ true → is_some (from_vendor sh (w.cores c) m) ≡ true
    some (TidGrant t) h = refl
    some _ h = h

pub out_moves : (sh : Shape) (p : Program) (w : World) (c d k : ℕ) (m : Msg) → c < sh.cores → d < sh.dirs
    → in_flight w.net (Core c) (Dir d) k ≡ Some m → is_answer (dir_deliver sh (w.dirs d) c m) ≡ true → Moves sh p w
out_moves sh p w c d k m l i e h = record {
  event = Deliver (Core c) (Dir d) k;
  is_useful = delivers sh p w (Core c) (Dir d) k m (is-lt c sh.cores l) (is-lt d sh.dirs i) e
      (some_answered w c d k (dir_deliver sh (w.dirs d) c m) h);
  spares = λ j. refl;
  placed = λ a e. absurd (cc);
}

-- a core's own request for a TID, or that of any core
pub ask_useful : (sh : Shape) (p : Program) (w : World) (c k : ℕ) (m : Msg) → c < sh.cores → in_flight w.net (Core c) Vendor k ≡ Some m
    → is_request m ≡ true → is_useful sh p w (Deliver (Core c) Vendor k) ≡ true
ask_useful sh p w c k m l e h = delivers sh p w (Core c) Vendor k m (is-lt c sh.cores l) refl e (some_granted w c k m h)

-- the same, from counts

pub back_counted : (sh : Shape) (p : Program) (w : World) (q : Kind) (d c : ℕ) → d < sh.dirs → c < sh.cores
    → ((m : Msg) → passes q m ≡ true → goes_to_core m ≡ true) → 1 ≤ live q (back w c d) → Moves sh p w
back_counted sh p w q d c i l f h = let x = found q (back w c d) h in back_moves sh p w d c x.at x.msg i l x.there (f x.msg x.passes)

pub grant_counted : (sh : Shape) (p : Program) (w : World) (q : Kind) (c : ℕ) → c < sh.cores
    → ((m : Msg) → passes q m ≡ true → is_grant m ≡ true) → 1 ≤ live q (w.net Vendor (Core c)) → Moves sh p w
grant_counted sh p w q c l f h = let x = found q (w.net Vendor (Core c)) h in grant_moves sh p w c x.at x.msg l x.there (f x.msg x.passes)

pub out_counted : (sh : Shape) (p : Program) (w : World) (q : Kind) (c d : ℕ) → c < sh.cores → d < sh.dirs
    → ((m : Msg) → passes q m ≡ true → is_answer (dir_deliver sh (w.dirs d) c m) ≡ true) → 1 ≤ live q (out w c d) → Moves sh p w
out_counted sh p w q c d l i f h = let x = found q (out w c d) h in out_moves sh p w c d x.at x.msg l i x.there (f x.msg x.passes)

requested : (m : Msg) → passes Requests m ≡ true → is_request m ≡ true
unfolding passes
requested m h = grind (arith, nat_tests)

pub ask_goes_on : (sh : Shape) (p : Program) (w : World) (c : ℕ) → c < sh.cores → 1 ≤ live Requests (w.net (Core c) Vendor)
    → GoesOn sh p w c
ask_goes_on sh p w c l h =
    let x = found Requests (w.net (Core c) Vendor) h in
    record {
      event = Deliver (Core c) Vendor x.at;
      is_useful = ask_useful sh p w c x.at x.msg l x.there
          (requested x.msg x.passes);
      spares = grind (arith, nat_tests);
      executes = λ a e. absurd (cc);
    }
