-- A directory takes a message.
use Rattle.std.proofs.Common.{◌≡◌, ◌≢◌, ◌∙◌, ◌+◌, ◌<◌, ℕ, ⊎_elim, ap, refl, sym, subst, true, false, Some, None}
use Rattle.std.proofs.lemmas.Bool.{cases_Bool}
use Rattle.std.specs.Prelude.{if◌then◌else◌}
use Rattle.net_core.specs.Limits.{machine_limit}
use Rattle.tcc_base.specs.declared.names.NodeId.TheVariants as code_node
use Rattle.rules_maps.specs.Bridge.{node_of}
use Rattle.rules_maps.specs.Nodes.{Core, Dir, Deliver, Msg}
use Rattle.tcc_msg.specs.Plain.{msg_of, sends_of}
use Rattle.rules_tcc.specs.DirDeliver.{dir_deliver}
use Rattle.rules_tcc.specs.Links.{in_flight, taking}
use Rattle.machine_dirs.specs.Acted.{Acted}
use Rattle.directory.specs.Foreign.{is_foreign}
use Rattle.directory.specs.Gives.{is_taken}
use Rattle.machine_links.specs.Flights.{is_ready, net_of}
use Rattle.net_core.specs.Answers.{Kept, Took, step_of}
use Rattle.net_core.specs.Delivery.{is_consumed}
use Rattle.net_core.specs.Inside.{machine_of}
use Rattle.net_core.specs.Machine.{Machine, start_of}
use Rattle.net_core.specs.Taking.{is_seen, look_of, looks}
use Rattle.image_load.specs.Start.{first_ram}
use Rattle.net_core.specs.declared.taking.Step.TheVariants.{Moved}
use Rattle.net_core.proofs.Keeping.{nothing-left}
use Rattle.net_core.proofs.Events.Kept.{StaysBut, stays-kept, stays-whole}
use Rattle.net_core.proofs.Events.Directories.{ActsAt, acts-took, acts-whole, belongs-there, comes-at, enabled, now_at, refused, rule_dirs}
use Rattle.net_core.proofs.Events.Directories.{is-marked, says_taken, small-at}
use Rattle.net_core.proofs.Events.Quiet.{quiet-after, taken-unseen}
use Rattle.net_core.proofs.system.System.deliver_to_dir.Goals as goal

-- ---- what is in flight belongs there

pub serving-before-requires : goal.serving-before-requires
serving-before-requires c = record {
  exists = (comes-at _ _ _ _ _ _ c.self.view_is c.self.invariant c.requires.settled c.requires.flies).dir;
}

pub deliver-requires-clause-exists : goal.deliver-requires-clause-exists
deliver-requires-clause-exists c = (comes-at _ _ _ _ _ _ c.self.view_is c.self.invariant c.requires.settled c.requires.flies).dir

pub deliver-requires-clause-core : goal.deliver-requires-clause-core
deliver-requires-clause-core c = (comes-at _ _ _ _ _ _ c.self.view_is c.self.invariant c.requires.settled c.requires.flies).core

pub deliver-requires-clause-tids : goal.deliver-requires-clause-tids
deliver-requires-clause-tids c = small-at _ _ _ _ _ _ c.self.view_is c.self.invariant c.requires.few c.requires.settled c.requires.flies

-- ---- a refusal

pub returns-then-not-held : goal.returns-then-not-held
returns-then-not-held c =
    let m = machine_of c.self.inside in
    let settled = ap (λ x. x.unsent) c.self.view_is ∙ c.requires.settled in
    let flies = ap (λ x. in_flight (net_of x.flights) (Core c.args.core.0) (Dir c.args.dir.0) c.args.name.seq) c.self.view_is
    ∙ c.requires.flies in (
      record { history = refl; events = refl; code = refl },
      subst (λ x. step_of x (Deliver (Core c.args.core.0) (Dir c.args.dir.0) c.args.name.seq) ≡ None) c.self.view_is
          (refused m c.args.core.0 c.args.dir.0 c.args.name.seq (msg_of c.args.held.msg) c.self.invariant settled flies
          (sym (c.requires.mark ∙ is-marked _ _ _ _ _ _ c.self.view_is c.self.invariant c.requires.settled c.requires.flies)
          ∙ c.if-not-held.true)),
    )

-- ---- no memory

stays : (c : goal.In-Err)
    → StaysBut (machine_of c.self.inside) (machine_of (record c.self.inside { dirs = c.deliver.new.self; out = c.deliver.new.out }))
stays c = record {
  code = refl;
  cores = refl;
  dirs = c.in-Err.ensures.unchanged (first_ram (start_of (machine_of c.self.inside)));
  settings = c.in-Err.ensures.settings;
  next = refl;
  flights = refl;
  before = ap (λ x. x.unsent) c.self.view_is ∙ c.requires.settled;
  now = nothing-left c.self.inside.placed c.deliver.new.out.list.items (c.in-Err.ensures.unsent ∙ c.clear.ensures);
  commits = refl;
  events = refl;
}

pub invariant_of-self : goal.invariant_of-self
invariant_of-self c = stays-whole (machine_of c.self.inside) _ c.self.invariant (stays c)

pub returns-in-Err : goal.returns-in-Err
returns-in-Err c =
    let m = machine_of c.self.inside in
    let n = machine_of (record c.self.inside { dirs = c.deliver.new.self; out = c.deliver.new.out }) in
    let e = Deliver (Core c.args.core.0) (Dir c.args.dir.0) c.args.name.seq in
    let settled = ap (λ x. x.unsent) c.self.view_is ∙ c.requires.settled in
    let flies = ap (λ x. in_flight (net_of x.flights) (Core c.args.core.0) (Dir c.args.dir.0) c.args.name.seq) c.self.view_is
    ∙ c.requires.flies in
    subst (λ x. Kept x n × (step_of x e ≢ None)) c.self.view_is (
      stays-kept m n (stays c),
      enabled m c.args.core.0 c.args.dir.0 c.args.name.seq (msg_of c.args.held.msg) c.self.invariant settled flies
          (sym (c.requires.mark ∙ is-marked _ _ _ _ _ _ c.self.view_is c.self.invariant c.requires.settled c.requires.flies)
          ∙ c.if-not-held.false),
    )

-- ---- the event

pub serving-requires : goal.serving-requires
serving-requires c = record {
  exists = subst (λ s. c.args.dir.0 < s.dirs) (sym c.in-Ok.ensures.settings)
      (comes-at _ _ _ _ _ _ c.self.view_is c.self.invariant c.requires.settled c.requires.flies).dir;
}

pub take_handled-requires : goal.take_handled-requires
take_handled-requires c =
    (λ i. in_flight (net_of c.self.inside.flights) (node_of (c.requires.source i)) (node_of (c.requires.destination i)) c.args.name.seq)
    ∙ ap (λ x. in_flight (net_of x.flights) (Core c.args.core.0) (Dir c.args.dir.0) c.args.name.seq) c.self.view_is ∙ c.requires.flies

pub look_again-requires-clause-exists : goal.look_again-requires-clause-exists
look_again-requires-clause-exists c =
    subst (λ s. c.args.dir.0 < s.dirs) (sym c.in-Ok.ensures.settings)
    (comes-at _ _ _ _ _ _ c.self.view_is c.self.invariant c.requires.settled c.requires.flies).dir

pub look_again-requires-clause-home : goal.look_again-requires-clause-home
look_again-requires-clause-home c = λ b i y fly.
    let m = machine_of c.self.inside in
    let settled = ap (λ x. x.unsent) c.self.view_is ∙ c.requires.settled in
    let net = net_of c.self.inside.flights in
    let there = belongs-there m c.take_handled.new.flights c.args.core.0 c.args.dir.0 c.args.name.seq c.in-Ok.handled c.self.invariant
    settled (c.take_handled.ensures.net
    ∙ (λ j. if is_consumed c.in-Ok.handled
    then taking net (node_of (c.requires.source j)) (node_of (c.requires.destination j)) c.args.name.seq else net))
    b i y fly in
    subst (λ s. (b < s.cores) × (is_foreign (record { shape = s; dir = c.args.dir.0 }) y ≡ false)) (sym c.in-Ok.ensures.settings)
    (there.core, there.belongs)

abbrev after : (c : goal.After-self-in-Ok-2-1) → Machine
after c = machine_of (record c.self.inside {
  dirs = c.deliver.new.self;
  flights = c.look_again.new.flights;
  sender = code_node.Dir c.args.dir;
  out = c.deliver.new.out;
  placed = 0;
  events = c.self.inside.events + 1;
})

-- what isn't looked at again is taken as before
unseen : (c : goal.After-self-in-Ok-2-1) (b : ℕ) (y : Msg) → is_seen (look_of c.looks-look.result) c.args.dir.0 y ≡ false
    → is_taken (dir_deliver (machine_of c.self.inside).dirs.settings (now_at (machine_of c.self.inside) (after c) c.args.dir.0) b y)
    ≡ is_taken (dir_deliver (machine_of c.self.inside).dirs.settings (rule_dirs (machine_of c.self.inside) c.args.dir.0) b y)
unseen c b y f =
    let m = machine_of c.self.inside in
    let ram = first_ram (start_of m) in
    let did = c.in-Ok.ensures.does in
    let look = c.looks-look.ensures
    ∙ (λ i. looks c.in-Ok.handled (msg_of c.args.held.msg) (c.serving-before.ensures ram i) (c.serving.ensures ram i)) in
    let same = quiet-after m.dirs.settings (rule_dirs m c.args.dir.0) (now_at m (after c) c.args.dir.0) c.args.core.0
    (msg_of c.args.held.msg) c.in-Ok.handled (sends_of did.sent) (did.answer ram) (λ q. λ i. (did.still q).0 ram i c.args.dir.0) in
    taken-unseen _ m.dirs.settings (rule_dirs m c.args.dir.0) (now_at m (after c) c.args.dir.0) b c.args.dir.0 y same
    (ap (λ l. is_seen l c.args.dir.0 y) (sym look) ∙ f)

-- a message that was marked as the directory said is marked as it says
here : (c : goal.After-self-in-Ok-2-1) (b i : ℕ) (y : Msg)
    → in_flight (net_of c.look_again.new.flights) (Core b) (Dir c.args.dir.0) i ≡ Some y
    → is_ready c.self.inside.flights (Core b) (Dir c.args.dir.0) i
    ≡ is_taken (dir_deliver (machine_of c.self.inside).dirs.settings (rule_dirs (machine_of c.self.inside) c.args.dir.0) b y)
    → is_ready c.look_again.new.flights (Core b) (Dir c.args.dir.0) i
    ≡ is_taken (dir_deliver (machine_of c.self.inside).dirs.settings (now_at (machine_of c.self.inside) (after c) c.args.dir.0) b y)
here c b i y fly was =
    let m = machine_of c.self.inside in
    let d = c.args.dir.0 in
    let ram = first_ram (start_of m) in
    let there = subst (λ f. in_flight f (Core b) (Dir d) i ≡ Some y) c.look_again.ensures.net fly in
    let settings = ap (λ s. is_taken (dir_deliver s (now_at m (after c) d) b y)) c.in-Ok.ensures.settings in
    ⊎_elim
    (λ seen. c.look_again.ensures.seen ram b i y there seen ∙ settings)
    (λ not_seen. ⊎_elim (λ now. now ∙ settings)
    (λ kept. kept ∙ c.take_handled.ensures.marks (Core b) (Dir d) i y there ∙ was ∙ sym (unseen c b y not_seen))
    (c.look_again.ensures.here ram b i y there))
    (cases_Bool (is_seen (look_of c.looks-look.result) d y))

acts : (c : goal.After-self-in-Ok-2-1)
    → ActsAt (machine_of c.self.inside) (after c) c.args.core.0 c.args.dir.0 c.args.name.seq (msg_of c.args.held.msg) c.in-Ok.handled
acts c =
    let m = machine_of c.self.inside in
    let net = net_of c.self.inside.flights in
    record {
      cores = refl;
      next = refl;
      settings = c.in-Ok.ensures.settings;
      settled = ap (λ x. x.unsent) c.self.view_is ∙ c.requires.settled;
      sender = refl;
      last = refl;
      acted = subst (λ xs. Acted c.args.dir.0 m.dirs c.deliver.new.self xs c.deliver.new.out.list.items c.in-Ok.handled
          (λ s. dir_deliver m.dirs.settings s c.args.core.0 (msg_of c.args.held.msg))) c.clear.ensures c.in-Ok.ensures.does;
      net = c.look_again.ensures.net ∙ c.take_handled.ensures.net
          ∙ (λ j. if is_consumed c.in-Ok.handled
          then taking net (node_of (c.requires.source j)) (node_of (c.requires.destination j)) c.args.name.seq else net);
      flight_cores = c.look_again.ensures.cores ∙ c.take_handled.ensures.cores;
      flight_dirs = c.look_again.ensures.dirs ∙ c.take_handled.ensures.dirs;
      here = here c;
      others = λ s e i y fly other. c.look_again.ensures.others s e i other
          ∙ c.take_handled.ensures.marks s e i y (subst (λ f. in_flight f s e i ≡ Some y) c.look_again.ensures.net fly);
      commits = refl;
      events = refl;
    }

takes-it : (c : goal.After-self-in-Ok-2-1)
    → says_taken (machine_of c.self.inside) c.args.core.0 c.args.dir.0 (msg_of c.args.held.msg) ≡ true
takes-it c =
    sym (c.requires.mark ∙ is-marked _ _ _ _ _ _ c.self.view_is c.self.invariant c.requires.settled c.requires.flies)
    ∙ c.if-not-held.false

flies : (c : goal.After-self-in-Ok-2-1)
    → in_flight (net_of c.self.inside.flights) (Core c.args.core.0) (Dir c.args.dir.0) c.args.name.seq ≡ Some (msg_of c.args.held.msg)
flies c =
    ap (λ x. in_flight (net_of x.flights) (Core c.args.core.0) (Dir c.args.dir.0) c.args.name.seq) c.self.view_is ∙ c.requires.flies

pub invariant_of-self-in-Ok : goal.invariant_of-self-in-Ok
invariant_of-self-in-Ok c =
    acts-whole (machine_of c.self.inside) (after c) c.args.core.0 c.args.dir.0 c.args.name.seq (msg_of c.args.held.msg) c.in-Ok.handled
    c.self.invariant (subst (λ m. m.events < machine_limit) (sym c.self.view_is) c.requires.few) (flies c) (takes-it c) (acts c)

pub returns-in-Ok : goal.returns-in-Ok
returns-in-Ok c =
    subst (λ x. Took x (after c) (Deliver (Core c.args.core.0) (Dir c.args.dir.0) c.args.name.seq) Moved) c.self.view_is
    (acts-took (machine_of c.self.inside) (after c) c.args.core.0 c.args.dir.0 c.args.name.seq (msg_of c.args.held.msg) c.in-Ok.handled
    c.self.invariant (flies c) (takes-it c) (acts c))
