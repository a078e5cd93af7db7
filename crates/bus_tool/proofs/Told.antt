-- Whether a machine is done is told once.
use Rattle.std.proofs.Common.{◌≡◌, ◌↔◌, ◌∙◌, Bool, true, false, List, ℕ, refl, ap}
use Rattle.std.specs.Prelude.{IsTrue}
use Rattle.rules_bus.specs.Useful.{BusIsDone}
use Rattle.bus_tcc.specs.Machine.{BusMachine, bus_history_of, bus_settings_of, bus_start_of, bus_world_of}
use Rattle.bus_tool.specs.Report.{IsBusReport, bus_run_text}

same-truth : {P : Type 0} (a b : Bool) → IsTrue a ↔ P → IsTrue b ↔ P → a ≡ b
same-truth true true h k = refl
same-truth false false h k = refl
same-truth true false h k = let clash : false ≡ true = k.1 (h.0 refl) in absurd (cc)
same-truth false true h k = let clash : false ≡ true = h.1 (k.0 refl) in absurd (cc)

-- a report tells the end that the machine's own answer tells
pub reports-as-done : (m : BusMachine) (bytes : List ℕ) (done : Bool) → IsBusReport m bytes
    → IsTrue done ↔ BusIsDone (bus_settings_of m) (bus_world_of m)
    → bytes ≡ bus_run_text (bus_start_of m) done m.events (bus_history_of m)
reports-as-done m bytes done r is =
    r.text ∙ ap (λ d. bus_run_text (bus_start_of m) d m.events (bus_history_of m)) (same-truth r.done done r.is_done is)
