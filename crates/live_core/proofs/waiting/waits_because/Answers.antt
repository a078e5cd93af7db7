-- The message of the name is in bounds, so its directory and its line exist; and it waits exactly where it has a reason.
use Rattle.std.proofs.Common.{◌≡◌, ◌≢◌, ◌∙◌, ℕ, Option, None, Some, ap, sym, refl}
use Rattle.std.specs.Option.{option_map}
use Rattle.tcc_base.specs.declared.names.DirId.{DirId}
use Rattle.tcc_base.specs.declared.names.NodeId.{NodeId}
use Rattle.tcc_base.specs.declared.names.NodeId.TheVariants.{Core as CodeCore, Dir as CodeDir, Vendor as CodeVendor}
use Rattle.theorem_live.specs.Fits.{LinksFit}
use Rattle.theorem_sound.specs.Sound.{GoodMessage}
use Rattle.rules_maps.specs.Bridge.{node_of}
use Rattle.rules_maps.specs.Nodes.{Dir, Msg}
use Rattle.rules_maps.specs.Shape.{Shape}
use Rattle.tcc_msg.specs.declared.event.Name.{Name}
use Rattle.tcc_msg.specs.Plain.{msg_of}
use Rattle.rules_tcc.specs.Links.{in_flight}
use Rattle.rules_tcc.specs.State.{World}
use Rattle.net_core.specs.Machine.{Machine, program_of, settings_of, world_of}
use Rattle.net_core.specs.Whole.{IsSound}
use Rattle.net_core.proofs.Lemmas.{sound-message}
use Rattle.live_core.specs.Plain.{plain_reason}
use Rattle.live_core.specs.Reasons.{Reason}
use Rattle.live_core.specs.Waiting.{reason_at, reason_in}
use Rattle.live_core.proofs.Delivering.{dir-exists, line-home, waits-so}
use Rattle.live_core.proofs.waiting.waits_because.Goals as goal

-- the message that was found goes to this directory
flies : (m : Machine) (src dst : NodeId) (k : ℕ) (d : DirId) (x : Msg) → dst ≡ CodeDir d
    → Some x ≡ in_flight (world_of m).net (node_of src) (node_of dst) k → in_flight (world_of m).net (node_of src) (Dir d.0) k ≡ Some x
flies m src dst k d x e f = ap (λ n. in_flight (world_of m).net (node_of src) (node_of n) k) (sym e) ∙ sym f

all-fit : (m : Machine) → IsSound m → LinksFit (settings_of m) (world_of m)
all-fit m s src dst k x e = (sound-message m s src dst k x e).fits

bounds : (c : goal.In-Dir) → GoodMessage (settings_of c.args.system.now) (world_of c.args.system.now).next (node_of c.args.name.src)
    (Dir c.in-Dir.dir.0) (msg_of c.in_ok-msg.msg.now)
bounds c =
    let x = msg_of c.in_ok-msg.msg.now in
    sound-message c.args.system.now c.events.ensures.sound (node_of c.args.name.src) (Dir c.in-Dir.dir.0) c.args.name.seq x
    (flies c.args.system.now c.args.name.src c.args.name.dst c.args.name.seq c.in-Dir.dir x c.in-Dir.is c.in_ok-msg.ensures)

pub reason_of-requires-clause-dir : goal.reason_of-requires-clause-dir
reason_of-requires-clause-dir c =
    dir-exists (settings_of c.args.system.now) (node_of c.args.name.src) c.in-Dir.dir.0 (msg_of c.in_ok-msg.msg.now) (bounds c).fits

pub reason_of-requires-clause-line : goal.reason_of-requires-clause-line
reason_of-requires-clause-line c =
    line-home (settings_of c.args.system.now) (world_of c.args.system.now).next (node_of c.args.name.src) c.in-Dir.dir.0
    (msg_of c.in_ok-msg.msg.now) (bounds c)

-- the reason that the definitions give for the name
abbrev reason_for : Machine → Name → Option Reason
reason_for m n = reason_in (settings_of m) (world_of m) (node_of n.src) (node_of n.dst) n.seq

told : (c : goal.After-reason_of) → option_map plain_reason c.reason_of.result ≡ reason_for c.args.system.now c.args.name
told c =
    let sh = settings_of c.args.system.now in
    let w = world_of c.args.system.now in
    let x = msg_of c.in_ok-msg.msg.now in
    let fly = flies c.args.system.now c.args.name.src c.args.name.dst c.args.name.seq c.in-Dir.dir x c.in-Dir.is c.in_ok-msg.ensures in
    c.reason_of.ensures ∙ ap (reason_at sh w (Dir c.in-Dir.dir.0)) (sym fly)
    ∙ ap (λ n. reason_in sh w (node_of c.args.name.src) (node_of n) c.args.name.seq) (sym c.in-Dir.is)

pub returns-clause-reason : goal.returns-clause-reason
returns-clause-reason c = told c

pub returns-clause-waits : goal.returns-clause-waits
returns-clause-waits c =
    let m = c.args.system.now in
    waits-so (settings_of m) (program_of m) (world_of m) (node_of c.args.name.src) (node_of c.args.name.dst) c.args.name.seq
    c.reason_of.result (all-fit m c.events.ensures.sound) (told c)

-- what goes to a core or to the vendor never waits
elsewhere : (sh : Shape) (w : World) (n : NodeId) (o : Option Msg) → ((d : DirId) → n ≢ CodeDir d) → None ≡ reason_at sh w (node_of n) o
elsewhere sh w (CodeCore k) o d = refl
elsewhere sh w (CodeDir k) o d = absurd (d k refl)
elsewhere sh w CodeVendor o d = refl

none-told : (c : goal.In_default) → None ≡ reason_for c.args.system.now c.args.name
none-told c =
    let w = world_of c.args.system.now in
    elsewhere (settings_of c.args.system.now) w c.args.name.dst
    (in_flight w.net (node_of c.args.name.src) (node_of c.args.name.dst) c.args.name.seq) c.in_default.not-Dir

pub returns-in_default : goal.returns-in_default
returns-in_default c =
    let m = c.args.system.now in
    record {
      reason = none-told c;
      waits = waits-so (settings_of m) (program_of m) (world_of m) (node_of c.args.name.src) (node_of c.args.name.dst) c.args.name.seq
          None (all-fit m c.events.ensures.sound) (none-told c);
    }
