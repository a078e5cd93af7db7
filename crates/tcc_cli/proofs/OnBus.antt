-- A run of the machine with one bus, and that it takes all events where it doesn't end done.
use Rattle.std.proofs.Common.{◌≡◌, ℕ, suc, ◌<◌, ◌≤◌, ◌↔◌, Bool, IsTrue, List, [], ◌∷◌, length, Option, None, Some, subst, ◌∙◌, arith}
use Rattle.image_load.specs.Contents.{Contents, started}
use Rattle.rand_core.specs.Steps.{first_words}
use Rattle.rand_pcg.specs.Pcg.{pcg32}
use Rattle.rules_maps.specs.Shape.{Shape}
use Rattle.rules_program.specs.Program.{Program}
use Rattle.rules_bus.specs.State.{BusEvent}
use Rattle.rules_bus.specs.Step.{BusHistory, bus_next}
use Rattle.rules_bus.specs.Useful.{BusIsDone, after_event, bus_chosen, bus_pick, bus_picked, bus_useful}
use Rattle.theorem_bus.specs.Given.{RiscvBusPickedEndsDone, bus_at_start}
use Rattle.bus_tcc.specs.Machine.{BusMachine, bus_history_of, bus_settings_of, bus_world_of}
use Rattle.bus_tool.specs.Report.{IsBusReport, bus_run_text}
use Rattle.bus_tool.specs.Running.{RanBySeed, bus_picked_by, seeded}
use Rattle.tcc_cli.proofs.Taken.{as-many, as_many_as}
use Rattle.tcc_cli.proofs.Truth.{one-truth}
use Rattle.tcc_cli.specs.Laws.{OpenBusRunsTakeAllEvents}
use Rattle.tcc_cli.specs.OnBus.{RanOnBus}

-- a machine that was run and of which a report was made
pub ran-on_bus : (l : Contents) (seed steps : ℕ) (m : BusMachine) (done : Bool) (bytes : List ℕ) → m.code ≡ l
    → RanBySeed (started l) seed steps m → IsBusReport m bytes → IsTrue done ↔ BusIsDone (bus_settings_of m) (bus_world_of m)
    → RanOnBus (started l) seed steps done bytes
unfolding bus_history_of started
ran-on_bus l seed steps m done bytes code ran report is =
    let same : report.done ≡ done =
    one-truth (BusIsDone (bus_settings_of m) (bus_world_of m)) report.done done report.is_done is in
    record {
      ends = bus_history_of m;
      runs = record {
        is_run = ran.is_run;
        is_done = subst (λ k. IsTrue done ↔ BusIsDone k.settings (bus_world_of m)) code is;
        serial = ran.serial;
        tids = ran.tids;
      };
      text_is = report.text ∙ (λ i. bus_run_text (started (code i)) (same i) (ran.events i) (bus_history_of m));
    }

-- ---- a schedule that random words pick has at most one event for each

few_after : (sh : Shape) (p : Program) (rs : List ℕ) (o : Option BusHistory)
    → ((g : BusHistory) → length (bus_picked sh p rs g) ≤ length rs) → length (after_event (bus_picked sh p rs) o) ≤ length rs
few_after sh p rs None few = omega arith
few_after sh p rs (Some g) few = few g

few_picked : (sh : Shape) (p : Program) (rs : List ℕ) (h : BusHistory) (e : Option BusEvent)
    → ((g : BusHistory) → length (bus_picked sh p rs g) ≤ length rs)
    → length (bus_pick sh p h (bus_picked sh p rs) e) ≤ suc (length rs)
few_picked sh p rs h None few = omega arith
few_picked sh p rs h (Some e) few = let after = few_after sh p rs (bus_next sh p h e) few in omega (arith, after)

bus_few : (sh : Shape) (p : Program) (rs : List ℕ) (h : BusHistory) → length (bus_picked sh p rs h) ≤ length rs
unfolding bus_picked
bus_few sh p [] h = omega arith
bus_few sh p (r ∷ rs) h = few_picked sh p rs h (bus_chosen r (bus_useful sh p h.world)) (λ g. bus_few sh p rs g)

pub open_on_bus : RiscvBusPickedEndsDone → OpenBusRunsTakeAllEvents
open_on_bus done s seed steps h allowed is_run open_end =
    let rs = first_words pcg32 steps (seeded seed) in
    let ps = bus_picked_by s seed steps in
    let all : (length ps < length rs) → ⊥ = λ l. open_end (rw is_run at (done s rs allowed l)) in
    as_many_as (length ps) (length rs) steps (as-many steps (seeded seed)) (bus_few s.settings _ rs (bus_at_start s)) all
