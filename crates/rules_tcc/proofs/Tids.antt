-- The TIDs that the vendor gives are counted from 1.
use Rattle.std.proofs.Common.{◌≡◌, ℕ, suc, zero, ◌+◌, ◌-◌, ◌≤◌, Bool, true, cond, List, [], ◌∷◌, ◌++◌, length, drop, Option, Some, None}
use Rattle.std.proofs.Common.{refl, ap, ◌∙◌, arith}
use Rattle.std.specs.Prelude.{IfSome}
use Rattle.base_lemmas.proofs.Lemmas.{node_eq-refl}
use Rattle.rules_program.specs.Program.{Local, Program}
use Rattle.rules_maps.specs.Nodes.{Node, Core, Dir, Vendor, Msg, TidGrant}
use Rattle.rules_maps.specs.Nodes.{Event, Exec, Evict, Deliver, node_eq}
use Rattle.rules_maps.specs.Shape.{Shape}
use Rattle.rules_tcc.specs.State.{World, Link, start, vendor_start}
use Rattle.rules_tcc.specs.Links.{in_flight, sent_all}
use Rattle.rules_tcc.specs.Attempt.{Out}
use Rattle.rules_tcc.specs.CoreExec.{core_exec}
use Rattle.rules_tcc.specs.CoreEvict.{core_evict}
use Rattle.rules_tcc.specs.CoreDeliver.{core_deliver}
use Rattle.rules_tcc.specs.DirDeliver.{Answer, Waits, Drops, Asks, Takes, dir_deliver}
use Rattle.rules_tcc.specs.VendorDeliver.{Granted, vendor_deliver}
use Rattle.rules_tcc.specs.Step.{Stepped, History, core_moves, core_takes, dir_takes, dir_asks, vendor_gives, if_core_moves, if_core_takes}
use Rattle.rules_tcc.specs.Step.{answered, if_vendor_gives, delivered, if_in_flight, names_nodes, happens, step, recorded, and_noted}
use Rattle.rules_tcc.specs.Step.{next_history, and_then, run_from, run}
use Rattle.rules_tcc.specs.Laws.{tids_in, given_by, and_given, given, counting}
use Rattle.rules_tcc.proofs.Acts.{if-step}
use Rattle.rules_tcc.proofs.Gifts.{Gift, Gives_none, Gives_tid, each-ask, gift, gift_sends, giving, next_after}

-- what the vendor gave in an event is what its number rose by
pub record Gives (w : World) (e : Event) (v : World) : Type 0 where
  pub rises : w.next ≤ v.next
  pub counts : given_by w e v ≡ counting w.next (v.next - w.next)

none-given : (n : ℕ) → [] ≡ counting n (n - n)
unfolding counting
none-given n = let e : n - n ≡ 0 = omega arith in rw e

exec-gives : (w : World) (c : ℕ) (o : Option Out) → IfSome (if_core_moves w c o) (λ t. Gives w (Exec c) t.world)
unfolding core_moves
exec-gives w c None = tt
exec-gives w c (Some o) = record { rises = omega arith; counts = none-given w.next }

evict-gives : (w : World) (c x y : ℕ) (o : Option Out) → IfSome (if_core_moves w c o) (λ t. Gives w (Evict c x y) t.world)
unfolding core_moves
evict-gives w c x y None = tt
evict-gives w c x y (Some o) = record { rises = omega arith; counts = none-given w.next }

taken-gives : (w : World) (src : Node) (c k : ℕ) (o : Option Out)
    → IfSome (if_core_takes w src c k o) (λ t. Gives w (Deliver src (Core c) k) t.world)
unfolding core_takes
taken-gives w src c k None = tt
taken-gives w src c k (Some o) = record { rises = omega arith; counts = none-given w.next }

answered-gives : (w : World) (c d k : ℕ) (a : Answer) → IfSome (answered w c d k a) (λ t. Gives w (Deliver (Core c) (Dir d) k) t.world)
unfolding dir_takes dir_asks
answered-gives w c d k Waits = tt
answered-gives w c d k Drops = record { rises = omega arith; counts = none-given w.next }
answered-gives w c d k (Takes s sends) = record { rises = omega arith; counts = none-given w.next }
answered-gives w c d k (Asks s sends) = record { rises = omega arith; counts = none-given w.next }

drop-all : (old new : Link) → drop (length old) (old ++ new) ≡ new
drop-all [] new = refl
drop-all (m ∷ old) new = drop-all old new

grant-counts : (t c : ℕ) (old : Link) (b : Bool) → b ≡ true
    → tids_in (drop (length old) (old ++ sent_all (cond b (TidGrant t ∷ []) []))) ≡ counting t (t + 1 - t)
unfolding tids_in sent_all counting
grant-counts t c old b e = let n : t + 1 - t ≡ 1 = omega arith in rw (e, n, drop-all old (Some (TidGrant t) ∷ []))

no-grant-counts : (t : ℕ) (old : Link) → tids_in (drop (length old) (old ++ sent_all [])) ≡ counting t (t - t)
unfolding tids_in sent_all counting
no-grant-counts t old = let n : t - t ≡ 0 = omega arith in rw (n, drop-all old [])

gift-gives : (w : World) (c k : ℕ) (g : Gift) → Gives w (Deliver (Core c) Vendor k) (vendor_gives w c k (giving g w.next c))
unfolding vendor_gives next_after gift_sends
gift-gives w c k Gives_tid = record {
  rises = omega arith;
  counts = grant-counts w.next c (w.net Vendor (Core c)) (node_eq (Core c) (Core c)) (node_eq-refl (Core c));
}
gift-gives w c k Gives_none = record { rises = omega arith; counts = no-grant-counts w.next (w.net Vendor (Core c)) }

granted-gives : (w : World) (c k : ℕ) (m : Msg)
    → IfSome (if_vendor_gives w c k (vendor_deliver w.next c m)) (λ t. Gives w (Deliver (Core c) Vendor k) t.world)
granted-gives w c k m = go (vendor_deliver w.next c m)
    (each-ask w.next c (λ m g. Gives w (Deliver (Core c) Vendor k) (vendor_gives w c k g)) (λ a. gift-gives w c k (gift a)) m)
  where
    go : (g : Option Granted) → IfSome g (λ g. Gives w (Deliver (Core c) Vendor k) (vendor_gives w c k g))
        → IfSome (if_vendor_gives w c k g) (λ t. Gives w (Deliver (Core c) Vendor k) t.world)
    go None h = tt
    go (Some g) h = h

delivered-gives : (sh : Shape) (w : World) (src dst : Node) (k : ℕ) (m : Msg)
    → IfSome (delivered sh w src dst k m) (λ t. Gives w (Deliver src dst k) t.world)
delivered-gives sh w src (Core c) k m = taken-gives w src c k (core_deliver sh (w.cores c) src m)
delivered-gives sh w (Core c) (Dir d) k m = answered-gives w c d k (dir_deliver sh (w.dirs d) c m)
delivered-gives sh w (Core c) Vendor k m = granted-gives w c k m
delivered-gives sh w (Dir e) (Dir d) k m = tt
delivered-gives sh w Vendor (Dir d) k m = tt
delivered-gives sh w (Dir e) Vendor k m = tt
delivered-gives sh w Vendor Vendor k m = tt

in_flight-gives : (sh : Shape) (w : World) (src dst : Node) (k : ℕ) (o : Option Msg)
    → IfSome (if_in_flight sh w src dst k o) (λ t. Gives w (Deliver src dst k) t.world)
in_flight-gives sh w src dst k None = tt
in_flight-gives sh w src dst k (Some m) = delivered-gives sh w src dst k m

happens-gives : (sh : Shape) (p : Program) (w : World) (e : Event) → IfSome (happens sh p w e) (λ t. Gives w e t.world)
unfolding happens
happens-gives sh p w (Exec c) = exec-gives w c (core_exec sh p c (w.cores c))
happens-gives sh p w (Evict c x y) = evict-gives w c x y (core_evict sh x y (w.cores c))
happens-gives sh p w (Deliver src dst k) = in_flight-gives sh w src dst k (in_flight w.net src dst k)

step-gives : (sh : Shape) (p : Program) (w : World) (e : Event) → IfSome (step sh p w e) (λ t. Gives w e t.world)
unfolding step
step-gives sh p w e = if-step (names_nodes sh e) (happens sh p w e) (λ t. Gives w e t.world) (happens-gives sh p w e)

counting-append : (a m n : ℕ) → counting a m ++ counting (a + m) n ≡ counting a (m + n)
unfolding counting
counting-append a zero n = let e : a + 0 ≡ a = omega arith in let f : 0 + n ≡ n = omega arith in rw (e, f)
counting-append a (suc m) n =
    let e : a + suc m ≡ a + 1 + m = omega arith in
    let f : suc m + n ≡ suc (m + n) = omega arith in
    rw (e, f) (ap (λ l. a ∷ l) (counting-append (a + 1) m n))

-- along a whole run
abbrev RunGives : Shape → Program → List Event → World → Option History → Type 0
RunGives sh p es w o = IfSome o (λ h. (w.next ≤ h.world.next) × (given sh p es w ≡ counting w.next (h.world.next - w.next)))

joined : (a b c : ℕ) (xs ys : List ℕ) → a ≤ b → b ≤ c → xs ≡ counting a (b - a) → ys ≡ counting b (c - b) → xs ++ ys ≡ counting a (c - a)
joined a b c xs ys h k e f =
    let i : b ≡ a + (b - a) = omega arith in
    let j : c - a ≡ (b - a) + (c - b) = omega arith in
    let q = counting-append a (b - a) (c - b) in
    rw (e, f, j) (ap (λ n. counting a (b - a) ++ counting n (c - b)) i ∙ q)

weaken : {A : Type 0} (o : Option A) (P Q : A → Type 0) → ((x : A) → P x → Q x) → IfSome o P → IfSome o Q
weaken None P Q f h = tt
weaken (Some x) P Q f h = f x h

run-gives_in : (sh : Shape) (p : Program) (e : Event) (es : List Event) (h : History) (o : Option Stepped)
    → IfSome o (λ t. Gives h.world e t.world) →
    ((g : History) → RunGives sh p es g.world (run_from sh p es g))
    → IfSome (and_then (run_from sh p es) (recorded h o))
    (λ g. (h.world.next ≤ g.world.next) × (and_given (given sh p es) h.world e o ≡ counting h.world.next (g.world.next - h.world.next)))
run-gives_in sh p e es h None f r = tt
run-gives_in sh p e es h (Some t) f r =
    let g : History = record { world = t.world; commits = and_noted t.noted h.commits } in
    weaken (run_from sh p es g)
    (λ k. (t.world.next ≤ k.world.next) × (given sh p es t.world ≡ counting t.world.next (k.world.next - t.world.next)))
    (λ k. (h.world.next ≤ k.world.next)
    × (given_by h.world e t.world ++ given sh p es t.world ≡ counting h.world.next (k.world.next - h.world.next)))
    (λ k q. (
      let a = f.rises in let b = q.0 in omega arith,
      joined h.world.next t.world.next k.world.next (given_by h.world e t.world)
          (given sh p es t.world) f.rises q.0 f.counts q.1,
    ))
    (r g)

pub run-gives : (sh : Shape) (p : Program) (es : List Event) (h : History) → RunGives sh p es h.world (run_from sh p es h)
unfolding run_from given next_history
run-gives sh p [] h = (omega arith, none-given h.world.next)
run-gives sh p (e ∷ es) h = run-gives_in sh p e es h (step sh p h.world e) (step-gives sh p h.world e) (run-gives sh p es)

pub tids-count : (sh : Shape) (p : Program) (entries : ℕ → Local) (ram : ℕ → ℕ) (es : List Event) →
    IfSome (run sh p (start entries ram) es) (λ h. given sh p es (start entries ram) ≡ counting 1 (h.world.next - 1))
unfolding run start vendor_start
tids-count sh p entries ram es =
    let g : History = record { world = start entries ram; commits = [] } in
    weaken (run_from sh p es g)
    (λ h. (1 ≤ h.world.next) × (given sh p es (start entries ram) ≡ counting 1 (h.world.next - 1)))
    (λ h. given sh p es (start entries ram) ≡ counting 1 (h.world.next - 1))
    (λ h q. q.1)
    (run-gives sh p es g)
