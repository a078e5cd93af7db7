-- The events before the window.
use Rattle.std.proofs.Common.{◌≡◌, ℕ, suc, ◌+◌, ◌-◌, ◌<◌, ◌≤◌, List, [], ◌∷◌, Some, None, refl, ap, sym, ◌∙◌, arith}
use Rattle.image_load.specs.Contents.{started}
use Rattle.rv_code.specs.Machine.{program}
use Rattle.rules_bus.specs.State.{BusEvent}
use Rattle.rules_bus.specs.Step.{bus_next}
use Rattle.bus_tcc.specs.Machine.{BusMachine, bus_history_of, bus_program_of, bus_settings_of, bus_start_of}
use Rattle.bus_changes.specs.Text.{bus_shown_from, bus_with_records, if_bus_taken}
use Rattle.bus_run.specs.Going.{GoneOn, Moves, coming}
use Rattle.bus_run.specs.Laws.{gone-more}
use Rattle.bus_run.specs.Shown.{lines_coming}
use Rattle.bus_run.specs.declared.running.BusRun.{BusRun}
use Rattle.bus_run.proofs.Going.{gone-end, gone-one}

-- so many events were taken: the lines from a number on are those from this one less
pub record Skipping (first now : BusRun) (number : ℕ) : Type 0 where
  pub gone : GoneOn first now
  pub left : now.left ≤ first.left
  pub lines : (j : ℕ) → lines_coming (j + number) first ≡ lines_coming j now

-- the lines of a machine by these events
abbrev lines_at : (from : ℕ) → BusMachine → List BusEvent → List ℕ
lines_at from m es =
    bus_shown_from (bus_with_records (bus_start_of m)) (bus_settings_of m) (bus_program_of m) from es (bus_history_of m)

lines-one : (from : ℕ) (m n : BusMachine) (e : BusEvent) (es : List BusEvent)
    → bus_next (bus_settings_of m) (bus_program_of m) (bus_history_of m) e ≡ Some (bus_history_of n) → n.code ≡ m.code
    → lines_at (suc from) m (e ∷ es) ≡ lines_at from n es
unfolding bus_shown_from
lines-one from m n e es s code =
    ap (if_bus_taken (bus_shown_from (bus_with_records (bus_start_of m)) (bus_settings_of m) (bus_program_of m) from es)) s
    ∙ (λ i. bus_shown_from (bus_with_records (started (sym code i))) (sym code i).settings (program (started (sym code i))) from es
    (bus_history_of n))

pub skipping-more : (first now next : BusRun) (number : ℕ) (e : BusEvent) → Skipping first now number → Moves now next (Some e)
    → Skipping first next (number + 1)
skipping-more first now next number e s (took, come, less) =
    let left = s.left in
    record {
      gone = gone-more first now next s.gone (gone-one now next e (took, come, less));
      left = omega (arith, left, less);
      lines = λ j. let later : j + (number + 1) ≡ suc j + number = omega arith in
          ap (λ k. lines_coming k first) later ∙ s.lines (suc j) ∙ ap (lines_at (suc j) now.system) come
          ∙ lines-one j now.system next.system e (coming next) took.next took.code;
    }

lines-none : (from : ℕ) (m : BusMachine) → lines_at (suc from) m [] ≡ []
unfolding bus_shown_from
lines-none from m = refl

-- none comes any more, and fewer came than were to be skipped
pub skipping-ends : (first now next : BusRun) (number from : ℕ) → Skipping first now number → Moves now next None → number < from
    → GoneOn first next × (coming next ≡ []) × (lines_coming from first ≡ [])
skipping-ends first now next number from s (same, left, none, still) fewer =
    let rest : from ≡ suc (from - number - 1) + number = omega (arith, fewer) in (
      gone-more first now next s.gone (gone-end now next (same, left, none, still)),
      still,
      ap (λ k. lines_coming k first) rest ∙ s.lines (suc (from - number - 1)) ∙ ap (lines_at (suc (from - number - 1)) now.system) none
          ∙ lines-none (from - number - 1) now.system,
    )
