-- From the start to the end of a run by a seed.
use Rattle.std.proofs.Common.{◌≡◌, ℕ, ◌+◌, ◌<◌, [], length, Some, ap, sym, ◌∙◌, subst, arith}
use Rattle.image_load.specs.Contents.{Contents, started}
use Rattle.rand_core.specs.Steps.{first_words}
use Rattle.rand_pcg.specs.Lcg.{Lcg}
use Rattle.rand_pcg.specs.Pcg.{pcg32}
use Rattle.rv_code.specs.Machine.{program}
use Rattle.rules_bus.specs.Step.{bus_from, bus_run}
use Rattle.rules_bus.specs.Useful.{BusIsDone, bus_picked}
use Rattle.theorem_bus.specs.Given.{BusSerial, bus_at_start}
use Rattle.bus_tcc.specs.Chosen.{bus_useful_of}
use Rattle.bus_tcc.specs.Machine.{BusMachine, bus_history_of, bus_program_of, bus_settings_of, bus_start_of, bus_world_of}
use Rattle.bus_tcc.specs.Refined.{IsBusRefined}
use Rattle.bus_tool.specs.Picking.{TookPicked, picks}
use Rattle.bus_tool.specs.Running.{RanBySeed, bus_picked_by, seeded}

-- what a generator picks for the machine at its start
pub picks-there : (c : Contents) (m : BusMachine) (g : Lcg) (seed steps : ℕ) → m.code ≡ c → bus_history_of m ≡ bus_at_start (started c)
    → g ≡ seeded seed → picks steps g m ≡ bus_picked_by (started c) seed steps
unfolding started
picks-there c m g seed steps code history e =
    λ i. bus_picked (code i).settings (program (started (code i))) (first_words pcg32 steps (e i)) (history i)

runs-there : (c : Contents) (m n : BusMachine) (g : Lcg) (seed steps : ℕ) → m.code ≡ c → bus_history_of m ≡ bus_at_start (started c)
    → g ≡ seeded seed
    → bus_from (bus_settings_of m) (bus_program_of m) (picks steps g m) (bus_history_of m) ≡ Some (bus_history_of n)
    → bus_run (started c).settings (program (started c)) (bus_at_start (started c)).world (bus_picked_by (started c) seed steps)
    ≡ Some (bus_history_of n)
unfolding started bus_run
runs-there c m n g seed steps code history e ran =
    sym (λ i. bus_from (code i).settings (program (started (code i))) (picks-there c m g seed steps code history e i) (history i)) ∙ ran

pub ran-by-seed : (c : Contents) (m n : BusMachine) (g : Lcg) (seed steps : ℕ) → m.code ≡ c
    → bus_history_of m ≡ bus_at_start (started c) → m.events ≡ 0 → g ≡ seeded seed → TookPicked m n g steps → IsBusRefined n
    → RanBySeed (started c) seed steps n
unfolding started
ran-by-seed c m n g seed steps code history none e t k =
    let there = picks-there c m g seed steps code history e in
    let same : n.code ≡ c = t.code ∙ code in
    let count = t.events in
    let few = t.few in
    let long = ap length there in
    record {
      is_run = runs-there c m n g seed steps code history e t.ran;
      events = omega (arith, count, none, long);
      few = omega (arith, count, none, few);
      ends = λ l. subst (λ x. BusIsDone x.settings (bus_world_of n)) same (k.goes_on (t.stuck (omega (arith, count, none, l))));
      serial = subst (λ x. BusSerial (started x) (bus_history_of n)) same k.serial;
      tids = k.tids;
    }
