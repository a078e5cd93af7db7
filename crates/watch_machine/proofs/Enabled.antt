-- What an enabled event names: it exists; and a directory that takes a message doesn't let it wait.
use Rattle.std.proofs.Common.{◌≡◌, ◌≢◌, ℕ, ◌<◌, Bool, true, false, Option, Some, None, refl, ap, ◌∙◌, arith}
use Rattle.std.specs.Prelude.{if◌then◌else◌}
use Rattle.std.proofs.lemmas.Bool.Decides.{nat_tests}
use Rattle.tcc_base.specs.Settings.{Settings}
use Rattle.tcc_base.specs.declared.names.CoreId.{CoreId}
use Rattle.tcc_base.specs.declared.names.NodeId.{NodeId}
use Rattle.tcc_base.specs.declared.names.NodeId.TheVariants as code_node
use Rattle.rules_maps.specs.Bridge.{node_of}
use Rattle.rules_maps.specs.Nodes.{Node, Core, Dir, Vendor, Msg, Event, Exec, Evict, Deliver}
use Rattle.rules_tcc.specs.DirDeliver.{Answer, dir_deliver}
use Rattle.rules_tcc.specs.DirDeliver as rules
use Rattle.rules_tcc.specs.Links.{in_flight}
use Rattle.rules_tcc.specs.State.{World}
use Rattle.rules_tcc.specs.Step.{Stepped, answered, happens, if_in_flight, is_node, names_nodes, next_history, recorded, step}
use Rattle.rules_maps.specs.Messages.{fits}
use Rattle.net_core.specs.Whole.{IsSound}
use Rattle.net_core.specs.Answers.{step_of}
use Rattle.net_core.specs.Machine.{Machine, history_of, program_of, settings_of, world_of}
use Rattle.net_core.specs.declared.taking.Step.{Step}
use Rattle.watch.specs.Messages as facts
use Rattle.watch_machine.specs.Telling.{Advanced, IsAnswer, told_of}
use Rattle.watch_machine.specs.declared.answering.Became.{Became}
use Rattle.net_core.proofs.Lemmas.{sound-message}

-- all that an enabled event names exists
pub named : (m : Machine) (e : Event) → step_of m e ≢ None → names_nodes (settings_of m) e ≡ true
unfolding step
named m e h = by (names_nodes (settings_of m) e) refl
  where
    by : (b : Bool) → names_nodes (settings_of m) e ≡ b → b ≡ true
    by true q = refl
    by false q = absurd (h (rw q refl))

pub core-named : (m : Machine) (c : ℕ) → step_of m (Exec c) ≢ None → c < (settings_of m).cores
unfolding names_nodes
core-named m c h = let n = named m (Exec c) h in grind (arith, nat_tests)

-- a way of a core
pub record Way (s : Settings) (c x y : ℕ) : Type 0 where
  pub core : c < s.cores
  pub set : x < s.sets
  pub way : y < s.ways

pub way-named : (m : Machine) (c x y : ℕ) → step_of m (Evict c x y) ≢ None → Way (settings_of m) c x y
unfolding names_nodes
way-named m c x y h =
    let n = named m (Evict c x y) h in
    record { core = grind (arith, nat_tests); set = grind (arith, nat_tests); way = grind (arith, nat_tests) }

-- both ends of a link
pub record Ends (s : Settings) (src dst : Node) : Type 0 where
  pub from : is_node s src ≡ true
  pub to : is_node s dst ≡ true

-- a message goes only where it fits
fitting : (s : Settings) (src dst : Node) (x : Msg) → fits s src dst x ≡ true → Ends s src dst
unfolding fits
fitting s (Core c) (Dir d) x e = record { from = grind (arith, nat_tests); to = grind (arith, nat_tests) }
fitting s (Core c) Vendor x e = record { from = grind (arith, nat_tests); to = refl }
fitting s (Dir d) (Core c) x e = record { from = grind (arith, nat_tests); to = grind (arith, nat_tests) }
fitting s Vendor (Core c) x e = record { from = refl; to = grind (arith, nat_tests) }
fitting s (Core c) (Core d) x e = absurd (cc)
fitting s (Dir c) (Dir d) x e = absurd (cc)
fitting s (Dir c) Vendor x e = absurd (cc)
fitting s Vendor (Dir d) x e = absurd (cc)
fitting s Vendor Vendor x e = absurd (cc)

pub flying-ends : (m : Machine) (src dst : Node) (k : ℕ) (x : Msg) → IsSound m → in_flight (world_of m).net src dst k ≡ Some x
    → Ends (settings_of m) src dst
flying-ends m src dst k x l f = fitting (settings_of m) src dst x (sound-message m l src dst k x f).fits

-- what was taken was enabled
pub next-enabled : (m n : Machine) (e : Event) → next_history (settings_of m) (program_of m) (history_of m) e ≡ Some (history_of n)
    → step_of m e ≢ None
unfolding next_history history_of
next-enabled m n e next = λ q. by (step_of m e) q next
  where
    by : (s : Option Stepped) → s ≡ None
        → recorded (record { world = world_of m; commits = m.commits }) s ≡ Some (record { world = world_of n; commits = n.commits }) → ⊥
    by None q p = absurd (cc)
    by (Some o) q p = absurd (cc)

pub taken-enabled : (m n : Machine) (e : Event) (told : Step) → Advanced m n e told → step_of m e ≢ None
taken-enabled m n e told a = next-enabled m n e a.next

-- the node is no core
abbrev pub IsNoCore : NodeId → Type 0
IsNoCore n = (c : CoreId) → n ≢ code_node.Core c

refused-by : (m : Machine) (src dst : Node) (k : ℕ) → ((o : Option Msg) → if_in_flight (settings_of m) (world_of m) src dst k o ≡ None)
    → step_of m (Deliver src dst k) ≡ None
unfolding step happens
refused-by m src dst k h = by (names_nodes (settings_of m) (Deliver src dst k))
  where
    by : (b : Bool) → (if b then happens (settings_of m) (program_of m) (world_of m) (Deliver src dst k) else None) ≡ None
    by true = h (in_flight (world_of m).net src dst k)
    by false = refl

-- nothing goes from one directory or the vendor to another
pub no-core_refused : (m : Machine) (src dst : NodeId) (k : ℕ) → IsNoCore src → IsNoCore dst
    → step_of m (Deliver (node_of src) (node_of dst) k) ≡ None
no-core_refused m (code_node.Core c) dst k a b = absurd (a c refl)
no-core_refused m src (code_node.Core c) k a b = absurd (b c refl)
no-core_refused m (code_node.Dir d) (code_node.Dir e) k a b = refused-by m (Dir d.0) (Dir e.0) k (λ o. none o)
  where
    none : (o : Option Msg) → if_in_flight (settings_of m) (world_of m) (Dir d.0) (Dir e.0) k o ≡ None
    none None = refl
    none (Some x) = refl
no-core_refused m (code_node.Dir d) code_node.Vendor k a b = refused-by m (Dir d.0) Vendor k (λ o. none o)
  where
    none : (o : Option Msg) → if_in_flight (settings_of m) (world_of m) (Dir d.0) Vendor k o ≡ None
    none None = refl
    none (Some x) = refl
no-core_refused m code_node.Vendor (code_node.Dir e) k a b = refused-by m Vendor (Dir e.0) k (λ o. none o)
  where
    none : (o : Option Msg) → if_in_flight (settings_of m) (world_of m) Vendor (Dir e.0) k o ≡ None
    none None = refl
    none (Some x) = refl
no-core_refused m code_node.Vendor code_node.Vendor k a b = refused-by m Vendor Vendor k (λ o. none o)
  where
    none : (o : Option Msg) → if_in_flight (settings_of m) (world_of m) Vendor Vendor k o ≡ None
    none None = refl
    none (Some x) = refl

-- ---- a directory's answer

-- it doesn't wait
abbrev pub answer_of : Machine → (core dir : ℕ) → Msg → Answer
answer_of m c d x = dir_deliver (settings_of m) ((world_of m).dirs d) c x

told-so : (w : World) (c d k : ℕ) (b : Became) (x : Msg) (a : Answer) → answered w c d k a ≢ None → IsAnswer b x a
    → told_of b x ≡ facts.answered x a
told-so w c d k b x rules.Waits h i = absurd (h refl)
told-so w c d k b x rules.Drops h i = i
told-so w c d k b x (rules.Asks s sends) h i = i
told-so w c d k b x (rules.Takes s sends) h i = i

taken-so : (m : Machine) (c d k : ℕ) (x : Msg) → in_flight (world_of m).net (Core c) (Dir d) k ≡ Some x
    → names_nodes (settings_of m) (Deliver (Core c) (Dir d) k) ≡ true
    → step_of m (Deliver (Core c) (Dir d) k) ≡ answered (world_of m) c d k (answer_of m c d x)
unfolding step happens
taken-so m c d k x f n = rw n (ap (if_in_flight (settings_of m) (world_of m) (Core c) (Dir d) k) f)

pub answer-told : (m : Machine) (c d k : ℕ) (b : Became) (x : Msg) → in_flight (world_of m).net (Core c) (Dir d) k ≡ Some x
    → step_of m (Deliver (Core c) (Dir d) k) ≢ None → IsAnswer b x (answer_of m c d x)
    → told_of b x ≡ facts.answered x (answer_of m c d x)
answer-told m c d k b x f h i =
    told-so (world_of m) c d k b x (answer_of m c d x)
    (λ q. h (taken-so m c d k x f (named m (Deliver (Core c) (Dir d) k) h) ∙ q)) i
