-- What each event does to the links, and what it tells of the message that it delivers.
use Rattle.std.proofs.Common.{◌≡◌, ℕ, Bool, true, false, List, [], ◌∷◌, ◌++◌, Option, Some, None, IfSome, if◌then◌else◌, refl}
use Rattle.tcc_base.specs.declared.access.Commit.{Commit as Noted}
use Rattle.rules_maps.specs.Nodes.{Node, Core, Dir, Vendor, Msg, Event, Exec, Evict, Deliver}
use Rattle.rules_maps.specs.Shape.{Shape}
use Rattle.rules_program.specs.Program.{Program}
use Rattle.rules_tcc.specs.Attempt.{Out}
use Rattle.rules_tcc.specs.CoreDeliver.{core_deliver}
use Rattle.rules_tcc.specs.CoreEvict.{core_evict}
use Rattle.rules_tcc.specs.CoreExec.{core_exec}
use Rattle.rules_tcc.specs.DirDeliver.{Answer, Waits, Drops, Asks, Takes, dir_deliver}
use Rattle.rules_tcc.specs.Links.{in_flight, sending, taking}
use Rattle.rules_tcc.specs.Sends.{Sends}
use Rattle.rules_tcc.specs.State.{Link, World}
use Rattle.rules_tcc.specs.Step.{History, Stepped, core_moves, core_takes, dir_takes, dir_asks, vendor_gives, if_core_moves}
use Rattle.rules_tcc.specs.Step.{if_core_takes, answered, if_vendor_gives, delivered, if_in_flight, names_nodes, happens, step}
use Rattle.rules_tcc.specs.VendorDeliver.{Granted, vendor_deliver}
use Rattle.watch.specs.Facts.{Fact, Took, Dropped, AskedOwner}
use Rattle.watch.specs.Happened.{acted}
use Rattle.watch.specs.Happened.{if_in_flight as told_if_in_flight, delivered as told_delivered}
use Rattle.watch.specs.Instructions.{executed, evicted}
use Rattle.watch.specs.Messages.{answered as told_answered, taken, is_of_use, violated, grant_given_up}
use Rattle.trace_law.proofs.Facts.{all_plain, exec-plain, evict-plain, undone-plain}

-- a core did this by itself
pub record Alone (w v : World) (a : Node) (fs : List Fact) : Type 0 where
  pub sends : Sends
  pub grown : v.net ≡ sending w.net a sends
  pub plain : all_plain fs ≡ true

-- what became of a message
pub data End : Type 0 where
  IsTaken : End
  IsDropped : End
  IsKept : End

-- the fact that tells it
abbrev pub fact_of : End → Msg → Fact
fact_of IsTaken m = Took m
fact_of IsDropped m = Dropped m
fact_of IsKept m = AskedOwner m

-- it isn't in flight any more
abbrev pub leaves : End → Bool
leaves IsKept = false
leaves _ = true

-- the links before the node sends
abbrev pub left : Bool → (Node → Node → Link) → (src dst : Node) → (k : ℕ) → Node → Node → Link
left b net src dst k = if b then taking net src dst k else net

-- message k from src to dst was delivered
pub record Heard (w v : World) (src dst : Node) (k : ℕ) (fs : List Fact) : Type 0 where
  pub message : Msg
  pub flew : in_flight w.net src dst k ≡ Some message
  pub end : End
  pub rest : List Fact
  pub tells : fs ≡ fact_of end message ∷ rest
  pub plain : all_plain rest ≡ true
  pub sends : Sends
  pub grown : v.net ≡ sending (left (leaves end) w.net src dst k) dst sends

abbrev pub Outcome : (w v : World) → Event → List Fact → Type 0
Outcome w v (Exec c) fs = Alone w v (Core c) fs
Outcome w v (Evict c x y) fs = Alone w v (Core c) fs
Outcome w v (Deliver src dst k) fs = Heard w v src dst k fs

-- after a step, at which this happened
abbrev After : (w : World) → Event → (World → List Fact) → Stepped → Type 0
After w e facts t = Outcome w t.world e (facts t.world)

exec-outcome : (w : World) (c : ℕ) (facts : World → List Fact) (o : Option Out) → ((v : World) → all_plain (facts v) ≡ true)
    → IfSome (if_core_moves w c o) (After w (Exec c) facts)
unfolding core_moves
exec-outcome w c facts None plain = tt
exec-outcome w c facts (Some o) plain = record { sends = o.sends; grown = refl; plain = plain (core_moves w c o) }

evict-outcome : (w : World) (c x y : ℕ) (facts : World → List Fact) (o : Option Out) → ((v : World) → all_plain (facts v) ≡ true)
    → IfSome (if_core_moves w c o) (After w (Evict c x y) facts)
unfolding core_moves
evict-outcome w c x y facts None plain = tt
evict-outcome w c x y facts (Some o) plain = record { sends = o.sends; grown = refl; plain = plain (core_moves w c o) }

-- a core takes a message, or drops it
core-outcome : (w : World) (src : Node) (c k : ℕ) (m : Msg) (cs : List Noted) (o : Option Out)
    → in_flight w.net src (Core c) k ≡ Some m
    → IfSome (if_core_takes w src c k o) (After w (Deliver src (Core c) k)
    (λ v. taken src m (w.cores c) ++ (violated c cs m (w.cores c) (v.cores c) ++ grant_given_up c m (w.cores c).phase)))
unfolding core_takes taken
core-outcome w src c k m cs None e = tt
core-outcome w src c k m cs (Some o) e = go (is_of_use src m (w.cores c))
  where
    v : World
    v = core_takes w src c k o

    rest : List Fact
    rest = violated c cs m (w.cores c) (v.cores c) ++ grant_given_up c m (w.cores c).phase

    go : (b : Bool) → Heard w v src (Core c) k ((if b then Took m ∷ [] else Dropped m ∷ []) ++ rest)
    go true = record {
      message = m;
      flew = e;
      end = IsTaken;
      rest = rest;
      tells = refl;
      plain = undone-plain c cs m (w.cores c) (v.cores c);
      sends = o.sends;
      grown = refl;
    }
    go false = record {
      message = m;
      flew = e;
      end = IsDropped;
      rest = rest;
      tells = refl;
      plain = undone-plain c cs m (w.cores c) (v.cores c);
      sends = o.sends;
      grown = refl;
    }

none-plain : all_plain [] ≡ true
unfolding all_plain
none-plain = refl

-- a directory answers
answer-outcome : (w : World) (c d k : ℕ) (m : Msg) (a : Answer) → in_flight w.net (Core c) (Dir d) k ≡ Some m
    → IfSome (answered w c d k a) (After w (Deliver (Core c) (Dir d) k) (λ v. told_answered m a))
unfolding dir_takes dir_asks
answer-outcome w c d k m Waits e = tt
answer-outcome w c d k m Drops e = record {
  message = m;
  flew = e;
  end = IsDropped;
  rest = [];
  tells = refl;
  plain = none-plain;
  sends = λ dst. [];
  grown = refl;
}
answer-outcome w c d k m (Asks s sends) e = record {
  message = m;
  flew = e;
  end = IsKept;
  rest = [];
  tells = refl;
  plain = none-plain;
  sends = sends;
  grown = refl;
}
answer-outcome w c d k m (Takes s sends) e = record {
  message = m;
  flew = e;
  end = IsTaken;
  rest = [];
  tells = refl;
  plain = none-plain;
  sends = sends;
  grown = refl;
}

vendor-outcome : (w : World) (c k : ℕ) (m : Msg) (g : Option Granted) → in_flight w.net (Core c) Vendor k ≡ Some m
    → IfSome (if_vendor_gives w c k g) (After w (Deliver (Core c) Vendor k) (λ v. Took m ∷ []))
unfolding vendor_gives
vendor-outcome w c k m None e = tt
vendor-outcome w c k m (Some g) e = record {
  message = m;
  flew = e;
  end = IsTaken;
  rest = [];
  tells = refl;
  plain = none-plain;
  sends = g.sends;
  grown = refl;
}

deliver-outcome : (sh : Shape) (cs : List Noted) (w : World) (src dst : Node) (k : ℕ) (m : Msg) → in_flight w.net src dst k ≡ Some m
    → IfSome (delivered sh w src dst k m) (After w (Deliver src dst k) (λ v. told_delivered sh cs w v src dst m))
deliver-outcome sh cs w src (Core c) k m e = core-outcome w src c k m cs (core_deliver sh (w.cores c) src m) e
deliver-outcome sh cs w (Core c) (Dir d) k m e = answer-outcome w c d k m (dir_deliver sh (w.dirs d) c m) e
deliver-outcome sh cs w (Core c) Vendor k m e = vendor-outcome w c k m (vendor_deliver w.next c m) e
deliver-outcome sh cs w _ _ k m e = tt

happens-outcome : (sh : Shape) (p : Program) (h : History) (e : Event)
    → IfSome (happens sh p h.world e) (After h.world e (λ v. acted sh p h.commits h.world v e))
unfolding happens
happens-outcome sh p h (Exec c) =
    let s = h.world.cores c in
    exec-outcome h.world c (λ v. executed sh p c s (v.cores c)) (core_exec sh p c s) (λ v. exec-plain sh p c s (v.cores c))
happens-outcome sh p h (Evict c x y) =
    let s = h.world.cores c in
    evict-outcome h.world c x y (λ v. evicted c x y s) (core_evict sh x y s) (λ v. evict-plain c x y s)
happens-outcome sh p h (Deliver src dst k) = go (in_flight h.world.net src dst k) refl
  where
    go : (m : Option Msg) → in_flight h.world.net src dst k ≡ m
        → IfSome (if_in_flight sh h.world src dst k m)
        (After h.world (Deliver src dst k) (λ v. told_if_in_flight sh h.commits h.world v src dst m))
    go None e = tt
    go (Some m) e = deliver-outcome sh h.commits h.world src dst k m e

-- the event's nodes exist, and this is what it did
pub record Happens (sh : Shape) (p : Program) (h : History) (e : Event) (v : World) : Type 0 where
  pub names : names_nodes sh e ≡ true
  pub did : Outcome h.world v e (acted sh p h.commits h.world v e)

pub step-outcome : (sh : Shape) (p : Program) (h : History) (e : Event) → IfSome (step sh p h.world e) (λ t. Happens sh p h e t.world)
unfolding step
step-outcome sh p h e = go (names_nodes sh e) refl
  where
    some : names_nodes sh e ≡ true → (o : Option Stepped) → IfSome o (After h.world e (λ v. acted sh p h.commits h.world v e))
        → IfSome o (λ t. Happens sh p h e t.world)
    some f None i = tt
    some f (Some t) i = record { names = f; did = i }

    go : (b : Bool) → names_nodes sh e ≡ b → IfSome (if b then happens sh p h.world e else None) (λ t. Happens sh p h e t.world)
    go true f = some f (happens sh p h.world e) (happens-outcome sh p h e)
    go false f = tt
