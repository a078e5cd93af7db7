-- The machine after the vendor gave a TID.
use Rattle.std.proofs.Common.{◌≡◌, ◌≢◌, ℕ, ◌+◌, ◌<◌, ◌≤◌, Bool, true, false, ◌&&◌, List, [], ◌∷◌, ◌++◌, Some, None, refl, ap, sym, ◌∙◌}
use Rattle.std.proofs.Common.{subst, arith}
use Rattle.std.specs.Prelude.{nat_lt, if◌then◌else◌}
use Rattle.image_load.specs.Start.{first_ram}
use Rattle.net_core.specs.Limits.{machine_limit}
use Rattle.tcc_base.specs.Settings.{Settings}
use Rattle.tcc_base.specs.declared.names.CoreId.{CoreId}
use Rattle.tcc_base.specs.declared.names.NodeId.{NodeId}
use Rattle.tcc_base.specs.declared.names.NodeId.TheVariants as code_node
use Rattle.tcc_base.specs.declared.names.Tid.{Tid}
use Rattle.rules_maps.specs.Messages.{fits, is_request}
use Rattle.rules_maps.specs.Bridge.{node_of}
use Rattle.rules_maps.specs.Nodes.{Core, Vendor, Deliver, Msg, TidReq, TidGrant, LoadReq, Fill, Skip, Probe, ProbeReply, Mark, Commit}
use Rattle.rules_maps.specs.Nodes.{Abort}
use Rattle.rules_maps.specs.Nodes.{WriteBack, Flush, DataReq, Inv, InvAck, node_eq}
use Rattle.tcc_msg.specs.Plain.{sends_of}
use Rattle.tcc_msg.specs.declared.msg.Msg.{Msg as CodeMsg}
use Rattle.tcc_msg.specs.declared.msg.Msg.TheVariants as code
use Rattle.rules_tcc.specs.Links.{in_flight, sending, taking}
use Rattle.rules_tcc.specs.Sends.{to}
use Rattle.rules_tcc.specs.Step.{if_vendor_gives, happens, if_in_flight, names_nodes, step, vendor_gives}
use Rattle.rules_tcc.specs.VendorDeliver.{Granted}
use Rattle.machine_cores.specs.Bank.{cores_of}
use Rattle.machine_dirs.specs.Bank.{dirs_of}
use Rattle.machine_links.specs.Flights.{net_of, is_ready, with_mark}
use Rattle.net_core.specs.Answers.{Took, step_of}
use Rattle.net_core.specs.Delivery.{AreMarked}
use Rattle.net_core.specs.Machine.{Machine, history_of, settings_of, start_of, world_of}
use Rattle.net_core.specs.Whole.{IsWhole}
use Rattle.net_core.specs.declared.taking.Step.TheVariants.{Moved}
use Rattle.net_core.proofs.Keeping.{good-message, settled-net}
use Rattle.net_core.proofs.Events.Kept.{as-many_taken, same-dirs, took-by, took-whole, world-is}
use Rattle.net_core.proofs.Events.Marks.{marks-taken}

-- ---- what the rules say

-- what the vendor gives, and the one after it next time
abbrev pub next_grant : Machine → (core : ℕ) → Granted
next_grant m c = record { next = m.next + 1; sends = to (Core c) (TidGrant m.next ∷ []) }

is-request : (x : Msg) → is_request x ≡ true → x ≡ TidReq
is-request TidReq e = refl
is-request (TidGrant t) e = absurd (cc)
is-request (LoadReq l after) e = absurd (cc)
is-request (Fill l ws) e = absurd (cc)
is-request (Skip t) e = absurd (cc)
is-request (Probe t) e = absurd (cc)
is-request (ProbeReply t serving) e = absurd (cc)
is-request (Mark l a t) e = absurd (cc)
is-request (Commit t count) e = absurd (cc)
is-request (Abort t) e = absurd (cc)
is-request (WriteBack l a ws t) e = absurd (cc)
is-request (Flush l a ws t) e = absurd (cc)
is-request (DataReq l) e = absurd (cc)
is-request (Inv l a t) e = absurd (cc)
is-request (InvAck l keeps) e = absurd (cc)

-- a request from a core that the machine has
pub record Requests (s : Settings) (c : ℕ) (x : Msg) : Type 0 where
  pub core : nat_lt c s.cores ≡ true
  pub request : x ≡ TidReq

requests : (s : Settings) (c : ℕ) (x : Msg) → fits s (Core c) Vendor x ≡ true → Requests s c x
unfolding fits
requests s c x e = go (nat_lt c s.cores) refl (is_request x) refl e
  where
    go : (a : Bool) → nat_lt c s.cores ≡ a → (b : Bool) → is_request x ≡ b → (a && b) ≡ true → Requests s c x
    go true p true q f = record { core = p; request = is-request x q }
    go true p false q f = absurd (cc)
    go false p b q f = absurd (cc)

request-step : (m : Machine) (c k : ℕ) → nat_lt c (settings_of m).cores ≡ true → in_flight (world_of m).net (Core c) Vendor k ≡ Some TidReq
    → step_of m (Deliver (Core c) Vendor k) ≡ if_vendor_gives (world_of m) c k (Some (next_grant m c))
unfolding step names_nodes happens world_of
request-step m c k n f = rw n (ap (if_in_flight (settings_of m) (world_of m) (Core c) Vendor k) f)

-- what is in flight to the vendor is granted
pub grant-step : (m : Machine) (c k : ℕ) (x : Msg) → IsWhole m → in_flight (world_of m).net (Core c) Vendor k ≡ Some x
    → step_of m (Deliver (Core c) Vendor k) ≡ if_vendor_gives (world_of m) c k (Some (next_grant m c))
grant-step m c k x w e =
    let r = requests (settings_of m) c x (good-message m w (Core c) Vendor k x e).fits in
    request-step m c k r.core (e ∙ ap (λ y. Some y) r.request)

pub grant-enabled : (m : Machine) (c k : ℕ) (x : Msg) → IsWhole m → in_flight (world_of m).net (Core c) Vendor k ≡ Some x
    → step_of m (Deliver (Core c) Vendor k) ≢ None
grant-enabled m c k x w e = λ q. let s = grant-step m c k x w e in absurd (cc)

-- there is a TID to give
pub next-small : (m : Machine) → IsWhole m → m.events < machine_limit → m.next ≤ machine_limit
unfolding history_of world_of
next-small m w few = omega (arith, few, w.sound.next_most)

-- ---- the event

-- the vendor gave its next TID to a core, and the grant doesn't stand on its link yet
pub record GivesTo (m n : Machine) (c k : ℕ) : Type 0 where
  pub cores : n.cores ≡ m.cores
  pub dirs : n.dirs ≡ m.dirs
  pub next : n.next ≡ m.next + 1
  pub sender : node_of n.sender ≡ Vendor
  pub last : n.last ≡ n.unsent
  pub sends : sends_of n.unsent ≡ to (Core c) (TidGrant m.next ∷ [])
  pub settled : m.unsent ≡ []
  pub net : net_of n.flights ≡ taking (net_of m.flights) (Core c) Vendor k
  pub ready : is_ready n.flights ≡ with_mark (is_ready m.flights) (Core c) Vendor k false
  pub flight_cores : n.flights.cores ≡ m.flights.cores
  pub flight_dirs : n.flights.dirs ≡ m.flights.dirs
  pub commits : n.commits ≡ m.commits
  pub events : n.events ≡ m.events + 1

-- the one message that is sent
pub grant-sends : (core : CoreId) (tid : Tid) (t : ℕ) (xs : List (NodeId × CodeMsg)) → tid.0 ≡ t
    → xs ≡ (code_node.Core core, code.TidGrant tid) ∷ [] → sends_of xs ≡ to (Core core.0) (TidGrant t ∷ [])
unfolding sends_of
grant-sends core tid t xs e is = ap sends_of is ∙ (λ i dst. one (node_eq dst (Core core.0)) i)
  where
    one : (b : Bool) → (if b then TidGrant tid.0 ∷ [] else []) ++ [] ≡ (if b then TidGrant t ∷ [] else [])
    one true = ap (λ n. TidGrant n ∷ []) e
    one false = refl

gives-world : (m n : Machine) (c k : ℕ) → GivesTo m n c k → world_of n ≡ vendor_gives (world_of m) c k (next_grant m c)
unfolding vendor_gives world_of
gives-world m n c k g = world-is n (vendor_gives (world_of m) c k (next_grant m c)) (ap cores_of g.cores)
    (same-dirs m n (ap (λ x. x.code) g.cores) g.dirs) g.next
    ((λ i. sending (net_of n.flights) (g.sender i) (g.sends i))
    ∙ ap (λ net. sending net Vendor (to (Core c) (TidGrant m.next ∷ [])))
    (g.net ∙ ap (λ net. taking net (Core c) Vendor k) (sym (settled-net m g.settled))))

pub gives-took : (m n : Machine) (c k : ℕ) (x : Msg) → IsWhole m → GivesTo m n c k → in_flight (net_of m.flights) (Core c) Vendor k ≡ Some x
    → Took m n (Deliver (Core c) Vendor k) Moved
gives-took m n c k x w g e =
    took-by m n (Deliver (Core c) Vendor k) _ Moved
    (grant-step m c k x w (ap (λ net. in_flight net (Core c) Vendor k) (settled-net m g.settled) ∙ e))
    (gives-world m n c k g) g.commits refl g.events (ap (λ x. x.code) g.cores)
    (record {
      sender = g.sender;
      last = g.last;
      as_many = λ dst. as-many_taken m n (Core c) Vendor k Vendor dst g.settled g.net;
    })

pub gives-whole : (m n : Machine) (c k : ℕ) (x : Msg) → IsWhole m → m.events < machine_limit → GivesTo m n c k
    → in_flight (net_of m.flights) (Core c) Vendor k ≡ Some x → IsWhole n
gives-whole m n c k x w short g e =
    let code = ap (λ x. x.code) g.cores in
    took-whole m n (Deliver (Core c) Vendor k) Moved w short (gives-took m n c k x w g e) (ap (λ d. d.settings) g.dirs)
    g.flight_cores g.flight_dirs
    (subst (λ ds. AreMarked (settings_of m) ds n.flights) (sym (same-dirs m n code g.dirs))
    (marks-taken (settings_of m) (dirs_of (first_ram (start_of m)) m.dirs) m.flights n.flights (Core c) Vendor k g.net g.ready
    w.marked))
