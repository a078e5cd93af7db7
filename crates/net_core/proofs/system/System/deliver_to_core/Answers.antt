-- A core takes a message.
use Rattle.std.proofs.Common.{◌≡◌, ◌∙◌, ◌<◌, ap, refl, sym, subst, Err, Some, Option, ℕ, [], false}
use Rattle.rules_maps.specs.Bridge.{node_of}
use Rattle.image_load.specs.Start.{first_ram}
use Rattle.net_core.specs.Limits.{machine_limit}
use Rattle.tcc_base.specs.declared.names.CoreId.{CoreId}
use Rattle.tcc_base.specs.declared.names.NodeId.{NodeId}
use Rattle.rules_maps.specs.Nodes.{Core, Deliver, Event, Node, Msg}
use Rattle.tcc_msg.specs.declared.msg.Msg.{Msg as CodeMsg}
use Rattle.tcc_msg.specs.Plain.{msg_of}
use Rattle.rules_tcc.specs.Attempt.{Out}
use Rattle.rules_tcc.specs.CoreDeliver.{core_deliver}
use Rattle.rules_tcc.specs.Links.{in_flight, taking}
use Rattle.rules_tcc.specs.Step.{if_core_takes}
use Rattle.machine_cores.specs.Bank.{cores_of}
use Rattle.machine_links.specs.Flights.{is_ready, net_of, with_mark}
use Rattle.machine_dirs.specs.Bank.{dirs_of}
use Rattle.net_core.specs.Answers.{Answers, Took, step_of}
use Rattle.net_core.specs.Delivery.{AreMarked}
use Rattle.net_core.specs.Whole.{IsWhole}
use Rattle.net_core.specs.Inside.{machine_of}
use Rattle.net_core.specs.Machine.{Machine, settings_of, start_of, world_of}
use Rattle.net_core.specs.declared.taking.Step.TheVariants.{Moved}
use Rattle.net_core.proofs.Keeping.{nothing-left, settled-net}
use Rattle.net_core.proofs.Events.Kept.{StaysBut, same-dirs, stays-whole, took-whole}
use Rattle.net_core.proofs.Events.Cores.{ActsFrom, CoreThere, after_core, after_none, core-there, known, refused-take, take-step, took-take}
use Rattle.net_core.proofs.Events.Cores.{unnoted-as}
use Rattle.net_core.proofs.Events.Marks.{marks-taken}
use Rattle.net_core.proofs.Events.Unnoted.{deliver-unnoted}
use Rattle.net_core.proofs.system.System.deliver_to_core.Goals as goal

-- the message is in flight in the world
flown : (m : Machine) (n : Machine) (s : Node) (c k : ℕ) (x : Msg) → m ≡ n → n.unsent ≡ []
    → in_flight (net_of n.flights) s (Core c) k ≡ Some x
    → in_flight (world_of m).net s (Core c) k ≡ Some x
flown m n s c k x e u f = subst (λ y. in_flight (world_of y).net s (Core c) k ≡ Some x) (sym e)
    (subst (λ net. in_flight net s (Core c) k ≡ Some x) (sym (settled-net n u)) f)

is-there : (c : goal.After-deliver-arg-2-1) → CoreThere (settings_of (machine_of c.self.inside)) (node_of c.args.name.src) c.args.core.0
is-there c =
    let m = machine_of c.self.inside in
    core-there m c.self.invariant (node_of c.args.name.src) c.args.core.0 c.args.name.seq (msg_of c.args.msg)
    (flown m c.args.self.now (node_of c.args.name.src) c.args.core.0 c.args.name.seq
    (msg_of c.args.msg) c.self.view_is c.requires.settled c.requires.flies)

pub deliver-requires-clause-exists : goal.deliver-requires-clause-exists
deliver-requires-clause-exists c = (is-there c).core

pub deliver-requires-clause-known : goal.deliver-requires-clause-known
deliver-requires-clause-known c = known (settings_of (machine_of c.self.inside)) c.args.name.src (is-there c).sender

-- the event by the rules
abbrev event : NodeId → CoreId → (k : ℕ) → Event
event src core k = Deliver (node_of src) (Core core.0) k

abbrev rule : Machine → NodeId → CoreId → CodeMsg → Option Out
rule m src core x = core_deliver (settings_of m) (cores_of m.cores core.0) (node_of src) (msg_of x)

stepped : (m n : Machine) (src : NodeId) (core : CoreId) (k : ℕ) (x : CodeMsg) → IsWhole m → m ≡ n → n.unsent ≡ []
    → in_flight (net_of n.flights) (node_of src) (Core core.0) k ≡ Some (msg_of x)
    → step_of m (event src core k) ≡ if_core_takes (world_of m) (node_of src) core.0 k (rule m src core x)
stepped m n src core k x w e u f =
    let g = flown m n (node_of src) core.0 k (msg_of x) e u f in
    let t = core-there m w (node_of src) core.0 k (msg_of x) g in
    take-step m (node_of src) core.0 k (msg_of x) g t.sender t.core

-- ---- a refusal

stays : (c : goal.After-refusal) → StaysBut (machine_of c.self.inside) (after_none c.self.inside c.deliver.new.self c.deliver.new.out)
stays c = record {
  code = c.in-Err.ensures.code;
  cores = c.in-Err.ensures.unchanged;
  dirs = refl;
  settings = refl;
  next = refl;
  flights = refl;
  before = ap (λ m. m.unsent) c.self.view_is ∙ c.requires.settled;
  now = nothing-left c.self.inside.placed c.deliver.new.out.list.items (c.in-Err.ensures.unsent ∙ c.clear.ensures);
  commits = refl;
  events = refl;
}

pub invariant_of-self : goal.invariant_of-self
invariant_of-self c = stays-whole (machine_of c.self.inside) _ c.self.invariant (stays c)

pub returns-in-Err : goal.returns-in-Err
returns-in-Err c =
    let m = machine_of c.self.inside in
    let n = after_none c.self.inside c.deliver.new.self c.deliver.new.out in
    let e = event c.args.name.src c.args.core c.args.name.seq in
    subst (λ x. Answers x n e (Err c.refusal.result)) c.self.view_is
    (subst (λ r. Answers m n e (Err r)) (sym c.refusal.ensures)
    (refused-take (Unit {0}) m n e (node_of c.args.name.src) c.args.core.0 c.args.name.seq c.in-Err.error
    (rule m c.args.name.src c.args.core c.args.msg) (stays c) c.in-Err.ensures.blocked
    (stepped m c.args.self.now c.args.name.src c.args.core c.args.name.seq c.args.msg c.self.invariant c.self.view_is
    c.requires.settled c.requires.flies)))

-- ---- the message is taken

pub discard-requires : goal.discard-requires
discard-requires c =
    (λ i. in_flight (net_of c.self.inside.flights) (node_of c.args.name.src) (node_of (c.requires.destination i)) c.args.name.seq)
    ∙ ap (λ x. in_flight (net_of x.flights) (node_of c.args.name.src) (Core c.args.core.0) c.args.name.seq) c.self.view_is
    ∙ c.requires.flies

acts : (c : goal.After-self-in-Ok-2-1) → ActsFrom (machine_of c.self.inside)
    (after_core c.self.inside c.deliver.new.self c.deliver.new.out c.discard.new.self c.args.core)
    c.args.core.0 c.clear.new.self c.deliver.new.out
acts c = record {
  code = c.in-Ok.ensures.code;
  dirs = refl;
  next = refl;
  sender = refl;
  unsent = refl;
  last = refl;
  settled = ap (λ m. m.unsent) c.self.view_is ∙ c.requires.settled;
  clear = c.clear.ensures;
  events = refl;
}

-- the link that the message came on
link : (c : goal.After-self-in-Ok-2-1)
    → net_of c.discard.new.self ≡ taking (net_of c.self.inside.flights) (node_of c.args.name.src) (Core c.args.core.0) c.args.name.seq
link c =
    subst (λ d. net_of c.discard.new.self ≡ taking (net_of c.self.inside.flights) (node_of c.args.name.src) (node_of d) c.args.name.seq)
    c.requires.destination c.discard.ensures.net

took : (c : goal.After-self-in-Ok-2-1) → Took (machine_of c.self.inside)
    (after_core c.self.inside c.deliver.new.self c.deliver.new.out c.discard.new.self c.args.core)
    (event c.args.name.src c.args.core c.args.name.seq) Moved
took c =
    let m = machine_of c.self.inside in
    let n = after_core c.self.inside c.deliver.new.self c.deliver.new.out c.discard.new.self c.args.core in
    took-take m n (event c.args.name.src c.args.core c.args.name.seq) (node_of c.args.name.src) c.args.core.0 c.args.name.seq
    c.clear.new.self c.deliver.new.out Moved (rule m c.args.name.src c.args.core c.args.msg) (acts c) c.in-Ok.ensures.does (link c)
    (stepped m c.args.self.now c.args.name.src c.args.core c.args.name.seq c.args.msg c.self.invariant c.self.view_is
    c.requires.settled c.requires.flies)
    (unnoted-as m n (rule m c.args.name.src c.args.core c.args.msg) c.args.core.0 c.clear.new.self c.deliver.new.out c.in-Ok.ensures.does
    (deliver-unnoted (settings_of m) (cores_of m.cores c.args.core.0) (node_of c.args.name.src) (msg_of c.args.msg)) refl) refl

pub invariant_of-self-in-Ok : goal.invariant_of-self-in-Ok
invariant_of-self-in-Ok c =
    let m = machine_of c.self.inside in
    let n = after_core c.self.inside c.deliver.new.self c.deliver.new.out c.discard.new.self c.args.core in
    took-whole m n (event c.args.name.src c.args.core c.args.name.seq) Moved c.self.invariant
    (subst (λ m. m.events < machine_limit) (sym c.self.view_is) c.requires.few) (took c) refl c.discard.ensures.cores c.discard.ensures.dirs
    (subst (λ ds. AreMarked (settings_of m) ds c.discard.new.self) (sym (same-dirs m n c.in-Ok.ensures.code refl))
    (marks-taken (settings_of m) (dirs_of (first_ram (start_of m)) m.dirs) c.self.inside.flights c.discard.new.self
    (node_of c.args.name.src) (Core c.args.core.0)
    c.args.name.seq (link c)
    (subst (λ d. is_ready c.discard.new.self ≡ with_mark (is_ready c.self.inside.flights) (node_of c.args.name.src)
    (node_of d) c.args.name.seq false)
    c.requires.destination c.discard.ensures.ready) c.self.invariant.marked))

pub returns-in-Ok : goal.returns-in-Ok
returns-in-Ok c =
    let n = after_core c.self.inside c.deliver.new.self c.deliver.new.out c.discard.new.self c.args.core in
    subst (λ x. Took x n (event c.args.name.src c.args.core c.args.name.seq) Moved) c.self.view_is (took c)
