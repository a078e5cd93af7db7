-- The vendor gives a TID.
use Rattle.std.proofs.Common.{◌≡◌, ◌≢◌, ◌<◌, ◌∙◌, ◌+◌, ◌++◌, ◌∷◌, [], false, ap, refl, sym, subst, Some, None}
use Rattle.rules_maps.specs.Bridge.{node_of}
use Rattle.rules_maps.specs.Nodes.{Core, Vendor, Deliver}
use Rattle.tcc_msg.specs.Plain.{msg_of}
use Rattle.tcc_msg.specs.declared.msg.Msg.TheVariants as code
use Rattle.tcc_msg.specs.declared.outgoing.Outgoing.{Outgoing}
use Rattle.rules_tcc.specs.Links.{in_flight, taking}
use Rattle.net_core.specs.Limits.{machine_limit}
use Rattle.tcc_base.specs.declared.names.NodeId.TheVariants as code_node
use Rattle.machine_links.specs.Flights.{is_ready, net_of, with_mark}
use Rattle.net_core.specs.Answers.{Kept, Took, step_of}
use Rattle.net_core.specs.Inside.{machine_of}
use Rattle.net_core.specs.declared.system.System.TheInside.{Inside}
use Rattle.net_core.specs.Machine.{Machine}
use Rattle.net_core.specs.declared.taking.Step.TheVariants.{Moved}
use Rattle.net_core.proofs.Keeping.{nothing-left, settled-net}
use Rattle.net_core.proofs.Events.Kept.{StaysBut, stays-kept, stays-whole}
use Rattle.net_core.proofs.Events.Vendor.{GivesTo, gives-took, gives-whole, grant-enabled, grant-sends, next-small}
use Rattle.net_core.proofs.system.System.grant.Goals as goal

-- ---- no memory

-- nothing was sent
stays-so : (s : Inside) (out : Outgoing) → (machine_of s).unsent ≡ [] → out.list.items ≡ []
    → StaysBut (machine_of s) (machine_of (record s { out = out }))
stays-so s out settled clear = record {
  code = refl;
  cores = refl;
  dirs = refl;
  settings = refl;
  next = refl;
  flights = refl;
  before = settled;
  now = nothing-left s.placed out.list.items clear;
  commits = refl;
  events = refl;
}

pub invariant_of-self : goal.invariant_of-self
invariant_of-self c =
    stays-whole (machine_of c.self.inside) _ c.self.invariant
    (stays-so c.self.inside c.reserve.new.self (ap (λ x. x.unsent) c.self.view_is ∙ c.requires.settled)
    (c.reserve.ensures.unchanged ∙ c.clear.ensures))

pub returns-then-is_err : goal.returns-then-is_err
returns-then-is_err c =
    let m = machine_of c.self.inside in
    let n = machine_of (record c.self.inside { out = c.reserve.new.self }) in
    let settled = ap (λ x. x.unsent) c.self.view_is ∙ c.requires.settled in
    let s : StaysBut m n = stays-so c.self.inside c.reserve.new.self settled (c.reserve.ensures.unchanged ∙ c.clear.ensures) in
    let flies = ap (λ x. in_flight (net_of x.flights) (Core c.args.core.0) Vendor c.args.name.seq) c.self.view_is ∙ c.requires.flies in
    let enabled = grant-enabled m c.args.core.0 c.args.name.seq (msg_of c.args.msg) c.self.invariant
    (ap (λ net. in_flight net (Core c.args.core.0) Vendor c.args.name.seq) (settled-net m settled) ∙ flies) in
    subst (λ x. Kept x n × (step_of x (Deliver (Core c.args.core.0) Vendor c.args.name.seq) ≢ None)) c.self.view_is
    (stays-kept m n s, enabled)

-- ---- a grant

pub grant-tid-requires : goal.grant-tid-requires
grant-tid-requires c =
    next-small (machine_of c.self.inside) c.self.invariant (subst (λ x. x.events < machine_limit) (sym c.self.view_is) c.requires.few)

pub discard-requires : goal.discard-requires
discard-requires c =
    (λ i. in_flight (net_of c.self.inside.flights) (node_of (c.requires.source i)) (node_of (c.requires.destination i)) c.args.name.seq)
    ∙ ap (λ x. in_flight (net_of x.flights) (Core c.args.core.0) Vendor c.args.name.seq) c.self.view_is ∙ c.requires.flies

abbrev after : (c : goal.After-self-3-1) → Machine
after c = machine_of (record c.self.inside {
  vendor = c.grant-tid.new.self;
  flights = c.discard.new.self;
  sender = code_node.Vendor;
  out = c.hand_out.new.self;
  placed = 0;
  events = c.self.inside.events + 1;
})

gives : (c : goal.After-self-3-1) → GivesTo (machine_of c.self.inside) (after c) c.args.core.0 c.args.name.seq
gives c = record {
  cores = refl;
  dirs = refl;
  next = c.grant-tid.ensures.next;
  sender = refl;
  last = refl;
  sends = grant-sends c.args.core c.grant-tid.result c.self.inside.vendor c.hand_out.new.self.list.items c.grant-tid.ensures.given
      (c.hand_out.ensures.sent
      ∙ ap (λ xs. xs ++ (code_node.Core c.args.core, code.TidGrant c.grant-tid.result) ∷ [])
      (c.reserve.ensures.unchanged ∙ c.clear.ensures));
  settled = ap (λ x. x.unsent) c.self.view_is ∙ c.requires.settled;
  net = c.discard.ensures.net
      ∙ (λ i. taking (net_of c.self.inside.flights) (node_of (c.requires.source i)) (node_of (c.requires.destination i)) c.args.name.seq);
  ready = c.discard.ensures.ready
      ∙ (λ i. with_mark (is_ready c.self.inside.flights) (node_of (c.requires.source i)) (node_of (c.requires.destination i))
      c.args.name.seq false);
  flight_cores = c.discard.ensures.cores;
  flight_dirs = c.discard.ensures.dirs;
  commits = refl;
  events = refl;
}

flies : (c : goal.After-self-3-1)
    → in_flight (net_of c.self.inside.flights) (Core c.args.core.0) Vendor c.args.name.seq ≡ Some (msg_of c.args.msg)
flies c =
    ap (λ x. in_flight (net_of x.flights) (Core c.args.core.0) Vendor c.args.name.seq) c.self.view_is ∙ c.requires.flies

pub invariant_of-self-2 : goal.invariant_of-self-2
invariant_of-self-2 c =
    gives-whole (machine_of c.self.inside) (after c) c.args.core.0 c.args.name.seq (msg_of c.args.msg) c.self.invariant
    (subst (λ m. m.events < machine_limit) (sym c.self.view_is) c.requires.few) (gives c) (flies c)

pub returns : goal.returns
returns c =
    subst (λ x. Took x (after c) (Deliver (Core c.args.core.0) Vendor c.args.name.seq) Moved) c.self.view_is
    (gives-took (machine_of c.self.inside) (after c) c.args.core.0 c.args.name.seq (msg_of c.args.msg) c.self.invariant (gives c) (flies c))
