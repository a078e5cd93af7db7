-- The machine after a core took the packet that is on the bus.
use Rattle.std.proofs.Common.{◌≡◌, ℕ, ◌+◌, ◌<◌, ◌≤◌, Bool, true, false, List, [], length, Option, Some, None, is_some, refl, ap, sym, ◌∙◌}
use Rattle.std.proofs.Common.{subst, arith}
use Rattle.std.specs.Prelude.{Contains, nat_lt, if◌then◌else◌}
use Rattle.std.proofs.lemmas.Bool.{lt-ltb}
use Rattle.std.proofs.lemmas.Bool.Decides.{nat_tests}
use Rattle.tcc_base.specs.Put.{put}
use Rattle.tcc_base.specs.declared.access.Tagged.{Tagged}
use Rattle.rules_maps.specs.Shape.{Shape, lines}
use Rattle.rules_maps.specs.Words.{line_of}
use Rattle.rules_bus.specs.Commit.{BusStepped}
use Rattle.rules_bus.specs.State.{Bus, BusWorld, Take, Free, Alone, Packet}
use Rattle.rules_bus.specs.Step.{bus_names, bus_step}
use Rattle.rules_bus.specs.Take.{bus_take, take_from, packet_taken}
use Rattle.machine_cores.specs.Bank.{CoresData, cores_of}
use Rattle.core_node.specs.AtHand.{words_in}
use Rattle.bus_tcc.specs.Answers.{Took, bus_step_of}
use Rattle.bus_tcc.specs.Inside.{machine_of}
use Rattle.bus_tcc.specs.Left.{is_left, packet_words, without_core}
use Rattle.bus_tcc.specs.Machine.{BusMachine, bus_history_of, bus_of, bus_settings_of, bus_world_of, is_free, word_in}
use Rattle.bus_tcc.specs.Packets.{lines_on}
use Rattle.bus_tcc.specs.Taking.{took}
use Rattle.bus_tcc.specs.Whole.{IsBusWhole}
use Rattle.bus_tcc.specs.declared.bus.Bus.{Bus as CodeBus}
use Rattle.bus_tcc.specs.declared.event.BusStep.TheVariants.{Moved}
use Rattle.bus_tcc.specs.declared.engine.Engine.TheInside.{Inside}
use Rattle.bus_tcc.proofs.Bounds.{bounded, core-bounded}
use Rattle.bus_tcc.proofs.Events.{bank_in, took-by, took-whole, world-is}
use Rattle.bus_tcc.proofs.PacketLines.{unless-in-order}
use Rattle.bus_tcc.proofs.TakenLines.{InMemory, IsClean, took-taken}

-- what the rules make of it
abbrev pub taken_step : Shape → BusWorld → (core : ℕ) → Bus → BusStepped
taken_step sh w c b = record {
  world = record w { cores = put w.cores c (packet_taken sh (packet_words b) (w.cores c)); bus = without_core c sh.cores b };
  noted = None;
}

from-left : (sh : Shape) (w : BusWorld) (c : ℕ) (b : Bus) → is_left b c ≡ true → take_from sh w c b ≡ Some (taken_step sh w c b)
from-left sh w c Free e = cc
from-left sh w c (Alone d) e = cc
from-left sh w c (Packet f left) e = rw e refl

from-none : (sh : Shape) (w : BusWorld) (c : ℕ) (b : Bus) → is_left b c ≡ false → take_from sh w c b ≡ None
from-none sh w c Free e = refl
from-none sh w c (Alone d) e = refl
from-none sh w c (Packet f left) e = rw e refl

take-step : (m : BusMachine) (c : ℕ) → c < (bus_settings_of m).cores
    → bus_step_of m (Take c) ≡ take_from (bus_settings_of m) (bus_world_of m) c (bus_of m.bus)
unfolding bus_step bus_names bus_take bus_world_of
take-step m c l = rw (lt-ltb c (bus_settings_of m).cores l) refl

pub no-core : (m : BusMachine) (c n : ℕ) → n ≡ (bus_settings_of m).cores → n ≤ c → bus_step_of m (Take c) ≡ None
unfolding bus_step bus_names
no-core m c n e l = by (nat_lt c m.code.settings.cores) refl _
  where
    by : (b : Bool) → nat_lt c m.code.settings.cores ≡ b → (o : Option BusStepped) → (if b then o else None) ≡ None
    by true q o = let k : c < m.code.settings.cores = grind (arith, nat_tests) in absurd (omega (arith, k, e, l))
    by false q o = refl

pub not-left : (m : BusMachine) (c : ℕ) → c < (bus_settings_of m).cores → is_left (bus_of m.bus) c ≡ false → bus_step_of m (Take c) ≡ None
not-left m c l e = take-step m c l ∙ from-none (bus_settings_of m) (bus_world_of m) c (bus_of m.bus) e

-- the words of the packet are of memory
packet-inside : (m : BusMachine) → IsBusWhole m → (x : ℕ) → is_some (packet_words (bus_of m.bus) x) ≡ true
    → line_of x < lines (bus_settings_of m)
unfolding bus_history_of bus_world_of
packet-inside m w x e = by (bus_of m.bus) refl e
  where
    by : (b : Bus) → bus_of m.bus ≡ b → is_some (packet_words b x) ≡ true → line_of x < lines (bus_settings_of m)
    by Free q h = cc
    by (Alone d) q h = cc
    by (Packet f left) q h = ((bounded m w).packet f left q).inside x h

clean-core : (m : BusMachine) → IsBusWhole m → (c : ℕ) → c < (bus_settings_of m).cores → IsClean (cores_of (bank_in m) c)
clean-core m w c l = let b = core-bounded m w c l in record { awaited = b.awaited; dirty = λ i x. b.clean x i }

-- a core took these lines of the packet
pub record TookLines (m n : BusMachine) (c : ℕ) (ts : List Tagged) : Type 0 where
  pub code : n.code ≡ m.code
  pub words : words_in ts ≡ packet_words (bus_of m.bus)
  pub cores : cores_of (bank_in n) ≡ put (cores_of (bank_in m)) c (took ts (cores_of (bank_in m) c))
  pub ram : n.ram ≡ m.ram
  pub next : n.next ≡ m.next
  pub bus : bus_of n.bus ≡ without_core c (bus_settings_of m).cores (bus_of m.bus)
  pub packet : lines_on n.bus ≡ (if is_free (bus_of n.bus) then [] else lines_on m.bus)
  pub commits : n.commits ≡ m.commits
  pub events : n.events ≡ m.events + 1

pub lines-took : (m n : BusMachine) (c : ℕ) (ts : List Tagged) → IsBusWhole m → c < (bus_settings_of m).cores
    → is_left (bus_of m.bus) c ≡ true → TookLines m n c ts → Took m n (Take c) Moved
unfolding bus_world_of
lines-took m n c ts w l left t =
    let sh = bus_settings_of m in
    let mem : InMemory sh ts = λ x e. packet-inside m w x (ap is_some (sym (λ i. t.words i x)) ∙ e) in
    let same : took ts (cores_of (bank_in m) c) ≡ packet_taken sh (packet_words (bus_of m.bus)) (cores_of (bank_in m) c) =
    took-taken sh ts (cores_of (bank_in m) c) (clean-core m w c l) mem ∙ ap (λ f. packet_taken sh f (cores_of (bank_in m) c)) t.words in
    took-by m n (Take c) (taken_step sh (bus_world_of m) c (bus_of m.bus)) Moved
    (take-step m c l ∙ from-left sh (bus_world_of m) c (bus_of m.bus) left)
    (world-is n (taken_step sh (bus_world_of m) c (bus_of m.bus)).world (t.cores ∙ ap (put (cores_of (bank_in m)) c) same)
    (ap word_in t.ram) t.next t.bus) t.commits refl t.events t.code

pub lines-whole : (m n : BusMachine) (c : ℕ) (ts : List Tagged) → IsBusWhole m → TookLines m n c ts → Took m n (Take c) Moved → IsBusWhole n
lines-whole m n c ts w t k = took-whole m n (Take c) Moved w k (ap length t.ram)
    (λ d i. subst (λ y. d.tid.0 < y) (sym t.next) (w.noted d (subst (λ cs. Contains cs d) t.commits i)))
    (unless-in-order (bus_settings_of m) (is_free (bus_of n.bus)) (lines_on n.bus) (lines_on m.bus) t.packet w.packet)

abbrev pub after_take : Inside → CoresData → CodeBus → BusMachine
after_take s b bus = record (machine_of s) { code = b.code; cores = b.cores; bus = bus; events = s.events + 1 }
