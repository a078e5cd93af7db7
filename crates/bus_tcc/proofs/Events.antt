-- The machine after an event.
use Rattle.std.proofs.Common.{◌≡◌, ◌≢◌, ℕ, ◌+◌, ◌<◌, Bool, true, false, ◌&&◌, length, Option, Some, None, refl, ap, sym, ◌∙◌, subst, arith}
use Rattle.std.specs.Prelude.{nat_lt, if◌then◌else◌, Contains, Err}
use Rattle.std.proofs.lemmas.Bool.{lt-ltb}
use Rattle.std.proofs.lemmas.Bool.Decides.{nat_tests}
use Rattle.tcc_base.specs.Settings.{Settings}
use Rattle.rules_tcc.specs.Attempt.{Out}
use Rattle.rules_tcc.specs.CoreEvict.{core_evict}
use Rattle.rules_bus.specs.Commit.{BusStepped}
use Rattle.rules_bus.specs.Exec.{core_changed}
use Rattle.rules_bus.specs.State.{BusEvent, BusWorld, Evict}
use Rattle.rules_bus.specs.Step.{and_noted, bus_names, bus_next, bus_step, if_evicted, recorded}
use Rattle.machine_cores.specs.Bank.{CoresData, cores_of}
use Rattle.core_node.specs.Answers.{IsBlocked}
use Rattle.core_node.specs.declared.delivering.CoreError.{CoreError}
use Rattle.core_node.specs.declared.delivering.CoreError.TheVariants as core_error
use Rattle.bus_tcc.specs.Answers.{Answers, Kept, Took, bus_step_of, refusal_of, tid_noted, tid_told}
use Rattle.bus_tcc.specs.Bank.{Acted}
use Rattle.bus_tcc.specs.Machine.{BusMachine, bus_history_of, bus_of, bus_program_of, bus_settings_of, bus_world_of, word_in}
use Rattle.bus_tcc.specs.Inside.{machine_of}
use Rattle.bus_tcc.specs.Packets.{AreInOrder, lines_on}
use Rattle.bus_tcc.specs.Whole.{AreBefore, IsBusWhole}
use Rattle.bus_tcc.specs.declared.engine.Engine.TheInside.{Inside}
use Rattle.bus_tcc.specs.declared.event.BusStep.{BusStep}
use Rattle.bus_tcc.specs.declared.event.BusStep.TheVariants.{Moved}
use Rattle.bus_tcc.proofs.Reaching.{reached-on, reached-same}

abbrev pub bank_in : BusMachine → CoresData
bank_in m = record { code = m.code; cores = m.cores }

pub world-is : (n : BusMachine) (v : BusWorld) → cores_of (bank_in n) ≡ v.cores → word_in n.ram ≡ v.ram → n.next ≡ v.next
    → bus_of n.bus ≡ v.bus → bus_world_of n ≡ v
unfolding bus_world_of
world-is n v c r x b = λ i. record { cores = c i; ram = r i; next = x i; bus = b i }

-- the rules' next history, where the rules' step is known
next-is : (m n : BusMachine) (e : BusEvent) (o : BusStepped) → bus_step_of m e ≡ Some o → bus_world_of n ≡ o.world
    → n.commits ≡ and_noted o.noted m.commits
    → bus_next (bus_settings_of m) (bus_program_of m) (bus_history_of m) e ≡ Some (bus_history_of n)
unfolding bus_next bus_history_of
next-is m n e o s w cs = ap (recorded (record { world = bus_world_of m; commits = m.commits })) s
    ∙ (λ i. Some (record { world = sym w i; commits = sym cs i }))

-- the event was taken
pub took-by : (m n : BusMachine) (e : BusEvent) (o : BusStepped) (t : BusStep) → bus_step_of m e ≡ Some o → bus_world_of n ≡ o.world
    → n.commits ≡ and_noted o.noted m.commits → tid_told t ≡ tid_noted (Some o) → n.events ≡ m.events + 1 → n.code ≡ m.code
    → Took m n e t
took-by m n e o t s w cs told events code = record {
  next = next-is m n e o s w cs;
  tells = told ∙ ap tid_noted (sym s);
  events = events;
  code = code;
}

-- and the machine is whole
pub took-whole : (m n : BusMachine) (e : BusEvent) (t : BusStep) → IsBusWhole m → Took m n e t → length n.ram ≡ length m.ram
    → AreBefore n.next n.commits → AreInOrder (bus_settings_of m) (lines_on n.bus) → IsBusWhole n
took-whole m n e t w k ram noted packet = record {
  allowed = rw k.code w.allowed;
  one_home = rw k.code w.one_home;
  ram = rw k.code (ram ∙ w.ram);
  noted = noted;
  packet = subst (λ x. AreInOrder x.settings (lines_on n.bus)) (sym k.code) packet;
  reached = reached-on m n e w.reached k.next k.events k.code;
}

-- nothing happened, and what is held is the same but for the cores' own way of holding it
pub record StaysBut (m n : BusMachine) : Type 0 where
  pub code : n.code ≡ m.code
  pub cores : cores_of (bank_in n) ≡ cores_of (bank_in m)
  pub ram : n.ram ≡ m.ram
  pub next : n.next ≡ m.next
  pub bus : n.bus ≡ m.bus
  pub commits : n.commits ≡ m.commits
  pub events : n.events ≡ m.events

stays-world : (m n : BusMachine) → StaysBut m n → bus_world_of n ≡ bus_world_of m
unfolding bus_world_of
stays-world m n s = world-is n (bus_world_of m) s.cores (ap word_in s.ram) s.next (ap bus_of s.bus)

pub stays-kept : (m n : BusMachine) → StaysBut m n → Kept m n
unfolding bus_history_of
stays-kept m n s = record {
  history = (λ i. record { world = stays-world m n s i; commits = s.commits i });
  events = s.events;
  code = s.code;
}

pub stays-whole : (m n : BusMachine) → IsBusWhole m → StaysBut m n → IsBusWhole n
stays-whole m n w s =
    let k : Kept m n = stays-kept m n s in
    record {
      allowed = rw s.code w.allowed;
      one_home = rw s.code w.one_home;
      ram = rw s.code (ap length s.ram ∙ w.ram);
      noted = λ c h. subst (λ t. c.tid.0 < t) (sym s.next) (w.noted c (subst (λ cs. Contains cs c) s.commits h));
      packet = subst (λ b. AreInOrder (bus_settings_of n) (lines_on b)) (sym s.bus)
          (subst (λ x. AreInOrder x.settings (lines_on m.bus)) (sym s.code) w.packet);
      reached = reached-same m n w.reached k.history k.events k.code;
    }

-- ---- one core moves, and all else is as before

pub record MovesOne (m n : BusMachine) : Type 0 where
  pub code : n.code ≡ m.code
  pub ram : n.ram ≡ m.ram
  pub next : n.next ≡ m.next
  pub bus : n.bus ≡ m.bus
  pub commits : n.commits ≡ m.commits
  pub events : n.events ≡ m.events + 1

pub moved-took : (m n : BusMachine) (e : BusEvent) (c : ℕ) (o : Option Out) → MovesOne m n →
    bus_step_of m e ≡ if_evicted (bus_world_of m) c o
    → Acted o c (bank_in m) (bank_in n) → Took m n e Moved
unfolding bus_world_of
moved-took m n e c None s is a = absurd a
moved-took m n e c (Some o) s is a =
    took-by m n e (core_changed (bus_world_of m) c o.core) Moved is
    (world-is n (core_changed (bus_world_of m) c o.core).world a (ap word_in s.ram) s.next (ap bus_of s.bus))
    s.commits refl s.events s.code

pub moved-whole : (m n : BusMachine) (e : BusEvent) → IsBusWhole m → MovesOne m n → Took m n e Moved → IsBusWhole n
moved-whole m n e w s k = took-whole m n e Moved w k (ap length s.ram)
    (λ c h. subst (λ t. c.tid.0 < t) (sym s.next) (w.noted c (subst (λ cs. Contains cs c) s.commits h)))
    (subst (λ b. AreInOrder (bus_settings_of m) (lines_on b)) (sym s.bus) w.packet)

evicted-none : (w : BusWorld) (c : ℕ) (o : Option Out) → o ≡ None → if_evicted w c o ≡ None
evicted-none w c o e = ap (if_evicted w c) e

evicted-some : (w : BusWorld) (c : ℕ) (o : Option Out) → o ≢ None → if_evicted w c o ≢ None
evicted-some w c None n = absurd (n refl)
evicted-some w c (Some o) n = λ q. absurd (cc)

pub refused-move : (A : Type 0) (m n : BusMachine) (e : BusEvent) (c : ℕ) (error : CoreError) (o : Option Out) → StaysBut m n
    → IsBlocked {A = A} (Err error) o → bus_step_of m e ≡ if_evicted (bus_world_of m) c o → Answers m n e (Err (refusal_of error))
refused-move A m n e c core_error.Blocked o s b is = (stays-kept m n s, is ∙ evicted-none (bus_world_of m) c o b)
refused-move A m n e c core_error.Memory o s b is = (stays-kept m n s, λ q. evicted-some (bus_world_of m) c o b (sym is ∙ q))

-- ---- an eviction

pub evict-step : (m : BusMachine) (s : Settings) (c x y : ℕ) → s ≡ bus_settings_of m → (c < s.cores) × (x < s.sets) × (y < s.ways)
    → bus_step_of m (Evict c x y) ≡ if_evicted (bus_world_of m) c (core_evict (bus_settings_of m) x y (cores_of (bank_in m) c))
unfolding bus_step bus_names bus_world_of
evict-step m s c x y e h =
    let k = subst (λ t. (c < t.cores) × (x < t.sets) × (y < t.ways)) e h in
    rw (lt-ltb c (bus_settings_of m).cores k.0, lt-ltb x (bus_settings_of m).sets k.1, lt-ltb y (bus_settings_of m).ways k.2) refl

pub no-evict : (m : BusMachine) (s : Settings) (c x y : ℕ) → s ≡ bus_settings_of m → ((c < s.cores) × (x < s.sets) × (y < s.ways) → ⊥)
    → bus_step_of m (Evict c x y) ≡ None
unfolding bus_step bus_names
no-evict m s c x y e h =
    by (nat_lt c m.code.settings.cores) refl (nat_lt x m.code.settings.sets) refl (nat_lt y m.code.settings.ways) refl _
  where
    by : (p : Bool) → nat_lt c m.code.settings.cores ≡ p → (q : Bool) → nat_lt x m.code.settings.sets ≡ q
        → (r : Bool) → nat_lt y m.code.settings.ways ≡ r → (o : Option BusStepped) → (if p && (q && r) then o else None) ≡ None
    by true a true b true d o = absurd (h (subst (λ t. (c < t.cores) × (x < t.sets) × (y < t.ways)) (sym e)
        (grind (arith, nat_tests), grind (arith, nat_tests), grind (arith, nat_tests))))
    by true a true b false d o = refl
    by true a false b r d o = refl
    by false a q b r d o = refl

-- ---- what is held after one core of the machine acted

abbrev pub after_core : Inside → CoresData → BusMachine
after_core s b = record (machine_of s) { code = b.code; cores = b.cores; events = s.events + 1 }

abbrev pub after_none : Inside → CoresData → BusMachine
after_none s b = record (machine_of s) { code = b.code; cores = b.cores }
