-- Which events of a machine that the rules have led to are enabled: a message in flight may be delivered exactly where it is deliverable.
use Rattle.std.proofs.Common.{◌≡◌, ℕ, ◌<◌, ◌≤◌, Bool, true, false, ◌&&◌, Option, Some, None, refl, ap, ◌∙◌, arith}
use Rattle.std.specs.Prelude.{is_some, nat_lt, if◌then◌else◌}
use Rattle.std.proofs.lemmas.Bool.{le-ltb, lt-ltb}
use Rattle.std.proofs.lemmas.Bool.Decides.{nat_tests}
use Rattle.image_load.specs.Start.{first_ram}
use Rattle.tcc_base.specs.Settings.{Settings}
use Rattle.base_lemmas.proofs.Lemmas.{and-right}
use Rattle.rules_maps.specs.Messages.{fits, goes_to_core, is_grant, is_request}
use Rattle.rules_maps.specs.Nodes.{Node, Core, Dir, Vendor, Exec, Evict, Deliver, Msg, TidGrant, Fill, ProbeReply, DataReq, Inv}
use Rattle.rules_program.specs.Program.{Program}
use Rattle.rules_tcc.specs.CoreDeliver.{core_deliver, from_dir, from_vendor}
use Rattle.rules_tcc.specs.CoreEvict.{core_evict}
use Rattle.rules_tcc.specs.CoreExec.{core_exec}
use Rattle.rules_tcc.specs.DirDeliver.{Answer, Waits, Drops, Asks, Takes, dir_deliver}
use Rattle.rules_tcc.specs.Links.{in_flight}
use Rattle.rules_tcc.specs.State.{CoreState, World}
use Rattle.rules_tcc.specs.Step.{Stepped, answered, delivered, happens, if_in_flight, names_nodes, step}
use Rattle.machine_cores.specs.Bank.{cores_of}
use Rattle.machine_dirs.specs.Bank.{dirs_of}
use Rattle.directory.specs.Gives.{is_taken}
use Rattle.net_core.specs.Answers.{step_of}
use Rattle.net_core.specs.Delivery.{is_deliverable}
use Rattle.net_core.specs.Machine.{Machine, program_of, settings_of, start_of, world_of}
use Rattle.net_core.specs.Whole.{IsWhole}
use Rattle.net_core.proofs.Keeping.{good-message}
use Rattle.theorem_live.proofs.Lemmas.{some_granted, some_taken}
use Rattle.core_node.proofs.Lemmas.{is_moved}

-- ---- what a rule answers

pub answered-some : (w : World) (c d k : ℕ) (a : Answer) → is_some (answered w c d k a) ≡ is_taken a
answered-some w c d k Waits = refl
answered-some w c d k Drops = refl
answered-some w c d k (Asks s sends) = refl
answered-some w c d k (Takes s sends) = refl

dir-says : (s : Settings) (d : ℕ) (c : CoreState) (x : Msg) → goes_to_core x ≡ true → is_some (from_dir s d c x) ≡ true
dir-says s d c (Fill l ws) e = refl
dir-says s d c (ProbeReply t u) e = refl
dir-says s d c (DataReq l) e = refl
dir-says s d c (Inv l m t) e = refl
dir-says s d c x e = absurd (cc)

vendor-says : (s : Settings) (c : CoreState) (x : Msg) → is_grant x ≡ true → is_some (from_vendor s c x) ≡ true
vendor-says s c (TidGrant t) e = refl
vendor-says s c x e = absurd (cc)

-- what fits its link is delivered where it is deliverable
delivered-some : (s : Settings) (w : World) (src dst : Node) (k : ℕ) (x : Msg) → fits s src dst x ≡ true
    → is_some (delivered s w src dst k x) ≡ is_deliverable s w.dirs src dst x
unfolding fits core_deliver
delivered-some s w (Core c) (Dir d) k x e = answered-some w c d k (dir_deliver s (w.dirs d) c x)
delivered-some s w (Core c) Vendor k x e = some_granted w c k x (and-right (nat_lt c s.cores) (is_request x) e)
delivered-some s w (Dir d) (Core c) k x e =
    some_taken w (Dir d) c k (from_dir s d (w.cores c) x)
    (dir-says s d (w.cores c) x
    (and-right (nat_lt d s.dirs) (goes_to_core x) (and-right (nat_lt c s.cores) (nat_lt d s.dirs && goes_to_core x) e)))
delivered-some s w Vendor (Core c) k x e =
    some_taken w Vendor c k (from_vendor s (w.cores c) x) (vendor-says s (w.cores c) x (and-right (nat_lt c s.cores) (is_grant x) e))
delivered-some s w (Core c) (Core d) k x e = absurd (cc)
delivered-some s w (Dir c) (Dir d) k x e = absurd (cc)
delivered-some s w (Dir c) Vendor k x e = absurd (cc)
delivered-some s w Vendor (Dir d) k x e = absurd (cc)
delivered-some s w Vendor Vendor k x e = absurd (cc)

-- and both ends are nodes of the machine
fits-nodes : (s : Settings) (src dst : Node) (k : ℕ) (x : Msg) → fits s src dst x ≡ true → names_nodes s (Deliver src dst k) ≡ true
unfolding fits names_nodes
fits-nodes s (Core c) (Dir d) k x e = grind (arith, nat_tests)
fits-nodes s (Core c) Vendor k x e = grind (arith, nat_tests)
fits-nodes s (Dir d) (Core c) k x e = grind (arith, nat_tests)
fits-nodes s Vendor (Core c) k x e = grind (arith, nat_tests)
fits-nodes s (Core c) (Core d) k x e = absurd (cc)
fits-nodes s (Dir c) (Dir d) k x e = absurd (cc)
fits-nodes s (Dir c) Vendor k x e = absurd (cc)
fits-nodes s Vendor (Dir d) k x e = absurd (cc)
fits-nodes s Vendor Vendor k x e = absurd (cc)

-- ---- of a machine

deliver-step : (s : Settings) (p : Program) (w : World) (src dst : Node) (k : ℕ) (x : Msg) → in_flight w.net src dst k ≡ Some x
    → fits s src dst x ≡ true → step s p w (Deliver src dst k) ≡ delivered s w src dst k x
unfolding step happens
deliver-step s p w src dst k x fly e = rw (fits-nodes s src dst k x e, fly) refl

-- a message in flight may be delivered exactly where it is deliverable
pub flying-enabled : (m : Machine) → IsWhole m → (src dst : Node) (k : ℕ) (x : Msg) → in_flight (world_of m).net src dst k ≡ Some x
    → is_some (step_of m (Deliver src dst k)) ≡ is_deliverable (settings_of m) (dirs_of (first_ram (start_of m)) m.dirs) src dst x
unfolding world_of
flying-enabled m w src dst k x fly =
    let e = (good-message m w src dst k x fly).fits in
    ap is_some (deliver-step (settings_of m) (program_of m) (world_of m) src dst k x fly e)
    ∙ delivered-some (settings_of m) (world_of m) src dst k x e

neither : (b : Bool) (o : Option Stepped) → o ≡ None → (if b then o else None) ≡ None
neither true o e = e
neither false o e = refl

-- what isn't in flight isn't delivered
pub absent-refused : (m : Machine) (src dst : Node) (k : ℕ) → in_flight (world_of m).net src dst k ≡ None
    → step_of m (Deliver src dst k) ≡ None
unfolding step happens
absent-refused m src dst k none =
    neither (names_nodes (settings_of m) (Deliver src dst k)) _ (ap (if_in_flight (settings_of m) (world_of m) src dst k) none)

-- a core executes where its rule says so, and no other node does
pub exec-enabled : (m : Machine) (c : ℕ) → c < (settings_of m).cores
    → is_some (step_of m (Exec c)) ≡ is_some (core_exec (settings_of m) (program_of m) c (cores_of m.cores c))
unfolding step happens names_nodes world_of
exec-enabled m c h =
    let is : nat_lt c (settings_of m).cores ≡ true = lt-ltb c (settings_of m).cores h in
    rw is (is_moved (world_of m) c (core_exec (settings_of m) (program_of m) c (cores_of m.cores c)))

pub exec-refused : (m : Machine) (c : ℕ) → (settings_of m).cores ≤ c → step_of m (Exec c) ≡ None
unfolding step names_nodes
exec-refused m c h = let past : nat_lt c (settings_of m).cores ≡ false = le-ltb c (settings_of m).cores h in rw past refl

-- the machine has the way
abbrev pub HasWay : Settings → (core set way : ℕ) → Type 0
HasWay s c x y = (c < s.cores) × (x < s.sets) × (y < s.ways)

pub evict-enabled : (m : Machine) (c x y : ℕ) → HasWay (settings_of m) c x y
    → is_some (step_of m (Evict c x y)) ≡ is_some (core_evict (settings_of m) x y (cores_of m.cores c))
unfolding step happens names_nodes world_of
evict-enabled m c x y h =
    let a : nat_lt c (settings_of m).cores ≡ true = lt-ltb c (settings_of m).cores h.0 in
    let b : nat_lt x (settings_of m).sets ≡ true = lt-ltb x (settings_of m).sets h.1 in
    let d : nat_lt y (settings_of m).ways ≡ true = lt-ltb y (settings_of m).ways h.2 in
    rw (a, b, d) (is_moved (world_of m) c (core_evict (settings_of m) x y (cores_of m.cores c)))

has-way : (s : Settings) (c x y : ℕ) → (nat_lt c s.cores && (nat_lt x s.sets && nat_lt y s.ways)) ≡ true → HasWay s c x y
has-way s c x y e = (grind (arith, nat_tests), grind (arith, nat_tests), grind (arith, nat_tests))

pub evict-refused : (m : Machine) (c x y : ℕ) → (HasWay (settings_of m) c x y → ⊥) → step_of m (Evict c x y) ≡ None
unfolding step names_nodes
evict-refused m c x y h = go (names_nodes (settings_of m) (Evict c x y)) refl
  where
    go : (b : Bool) → (nat_lt c (settings_of m).cores && (nat_lt x (settings_of m).sets && nat_lt y (settings_of m).ways)) ≡ b
        → (if b then happens (settings_of m) (program_of m) (world_of m) (Evict c x y) else None) ≡ None
    go false e = refl
    go true e = absurd (h (has-way (settings_of m) c x y e))
