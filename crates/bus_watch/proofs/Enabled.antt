-- What an enabled event names exists.
use Rattle.std.proofs.Common.{◌≡◌, ◌≢◌, ℕ, ◌<◌, Bool, true, false, ◌&&◌, None, refl, arith}
use Rattle.std.specs.Prelude.{nat_lt}
use Rattle.std.proofs.lemmas.Bool.Decides.{nat_tests}
use Rattle.tcc_base.specs.Settings.{Settings}
use Rattle.rules_bus.specs.State.{BusEvent, Exec, Evict, Take}
use Rattle.rules_bus.specs.Step.{bus_names, bus_step}
use Rattle.bus_tcc.specs.Answers.{bus_step_of}
use Rattle.bus_tcc.specs.Machine.{BusMachine, bus_settings_of}

named : (m : BusMachine) (e : BusEvent) → bus_step_of m e ≢ None → bus_names (bus_settings_of m) e ≡ true
unfolding bus_step
named m e h = by (bus_names (bus_settings_of m) e) refl
  where
    by : (b : Bool) → bus_names (bus_settings_of m) e ≡ b → b ≡ true
    by true q = refl
    by false q = absurd (h (rw q refl))

pub exec-named : (m : BusMachine) (c : ℕ) → bus_step_of m (Exec c) ≢ None → c < (bus_settings_of m).cores
unfolding bus_names
exec-named m c h = let n = named m (Exec c) h in grind (arith, nat_tests)

pub take-named : (m : BusMachine) (c : ℕ) → bus_step_of m (Take c) ≢ None → c < (bus_settings_of m).cores
unfolding bus_names
take-named m c h = let n = named m (Take c) h in grind (arith, nat_tests)

-- a way of a core
pub record Way (s : Settings) (c x y : ℕ) : Type 0 where
  pub core : c < s.cores
  pub set : x < s.sets
  pub way : y < s.ways

pub way-named : (m : BusMachine) (c x y : ℕ) → bus_step_of m (Evict c x y) ≢ None → Way (bus_settings_of m) c x y
unfolding bus_names
way-named m c x y h =
    let n = named m (Evict c x y) h in
    record { core = grind (arith, nat_tests); set = grind (arith, nat_tests); way = grind (arith, nat_tests) }
