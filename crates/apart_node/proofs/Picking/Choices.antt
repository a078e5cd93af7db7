-- The useful events by number.
use Rattle.std.proofs.Common.{◌≡◌, ℕ, ◌+◌, ◌^◌, ◌<◌, Bool, true, false, cond, List, [], ◌∷◌, length}
use Rattle.std.proofs.Common.{map, Option, Some, None, length-append, refl, ap, sym, ◌∙◌, arith}
use Rattle.std.specs.Prelude.{nat_lt, slice_get, option_map}
use Rattle.std.proofs.lemmas.List.{length-map}
use Rattle.std.proofs.lemmas.Option.{slice_get-map}
use Rattle.tcc_base.specs.Limits.{run_limit}
use Rattle.base_lemmas.proofs.Lemmas.{get-after}
use Rattle.image_load.specs.Contents.{started}
use Rattle.rv_code.specs.Machine.{program}
use Rattle.rules_maps.specs.Bridge.{node_of}
use Rattle.rules_maps.specs.Nodes.{Event, Deliver}
use Rattle.tcc_msg.specs.Plain.{event_of}
use Rattle.rules_tcc.specs.Local.{Mail}
use Rattle.apart_member.specs.Data.{MemberData, state_of}
use Rattle.apart_member.specs.Own.{node_events, own_events}
use Rattle.apart_node.specs.Choice.{all_deliveries, alone, own_choices, useful}
use Rattle.apart_node.specs.Deeds.{IsPossible, IsReady}
use Rattle.apart_node.specs.Node.{NodeData, last_stamp}
use Rattle.apart_node.specs.declared.choosing.Deed.{Deed}
use Rattle.apart_node.specs.declared.room.Waiting.{Waiting}
use Rattle.apart_node.proofs.Running.Stored.{get-behind}

pub useful-length : (n : NodeData) → length (useful n) ≡ length (own_choices n.member (last_stamp n.log)) + length
    (all_deliveries n.member (last_stamp n.log) n.room.ports)
unfolding useful
useful-length n = length-append (own_choices n.member (last_stamp n.log)) (all_deliveries n.member (last_stamp n.log) n.room.ports)

-- ---- its own

pub own-same : (m n : MemberData) → n.code ≡ m.code → n.node ≡ m.node → state_of n ≡ state_of m → own_events n ≡ own_events m
unfolding own_events
own-same m n code node state =
    ap (λ k. node_events k.settings (program (started k)) (node_of n.node) (state_of n)) code
    ∙ (ap (λ x. node_events m.code.settings (program (started m.code)) (node_of x) (state_of n)) node
    ∙ ap (λ s. node_events m.code.settings (program (started m.code)) (node_of m.node) s) state)

own-if : (b : Bool) (es : List Event) (k : ℕ) → k < length (cond b (map alone es) []) → (b ≡ true) × (k < length es)
own-if true es k h = (refl, (let n = length-map es alone in omega (arith, h, n)))
own-if false es k h = absurd (omega (arith, h))

pub own-within : (m : MemberData) (last k : ℕ) → k < length (own_choices m last)
    → (nat_lt last (2 ^ 62) ≡ true) × (k < length (own_events m))
unfolding own_choices
own-within m last k h = own-if (nat_lt last (2 ^ 62)) (own_events m) k h

own-is : (m : MemberData) (last k : ℕ) (e : Event) → nat_lt last (2 ^ 62) ≡ true → Some e ≡ slice_get (own_events m) k
    → slice_get (own_choices m last) k ≡ Some (e, None)
unfolding own_choices
own-is m last k e t h = rw t (slice_get-map alone (own_events m) k ∙ ap (option_map alone) (sym h))

pub own-kth : (n : NodeData) (k : ℕ) (e : Event) → k < length (own_choices n.member (last_stamp n.log))
    → Some e ≡ slice_get (own_events n.member) k
    → slice_get (useful n) k ≡ Some (e, None)
unfolding useful
own-kth n k e h q =
    get-behind (own_choices n.member (last_stamp n.log)) (all_deliveries n.member (last_stamp n.log) n.room.ports) k (e, None)
    (own-is n.member (last_stamp n.log) k e (own-within n.member (last_stamp n.log) k h).0 q)

-- ---- what waits

pub waiting-kth : (n : NodeData) (k j : ℕ) (x : Event × Option Mail) → k ≡ length (own_choices n.member (last_stamp n.log)) + j
    → slice_get (all_deliveries n.member (last_stamp n.log) n.room.ports) j ≡ Some x → slice_get (useful n) k ≡ Some x
unfolding useful
waiting-kth n k j x e h = get-after (own_choices n.member (last_stamp n.log)) (all_deliveries n.member (last_stamp n.log) n.room.ports) k j
    e ∙ h

pub possible-waiting : (n : NodeData) (d : Deed) (w : Waiting) → d.waiting ≡ Some w
    → event_of d.event ≡ Deliver (node_of w.src) (node_of n.member.node) w.letter.number → length n.log < run_limit
    → IsReady n.room n.member (last_stamp n.log) w → IsPossible n d
possible-waiting n d w q e f h = record {
  few = f;
  early = rw q (omega (arith, h.early));
  may = rw (e, q) h.may;
  waits = rw (e, q) (h.waits, refl);
}

-- ---- the choice

pub none-useful : (n : NodeData) → length (useful n) ≡ 0 → useful n ≡ []
none-useful n h = empty (useful n) h
  where
    empty : (es : List (Event × Option Mail)) → length es ≡ 0 → es ≡ []
    empty [] h = refl
    empty (x ∷ es) h = absurd (omega (arith, h))
