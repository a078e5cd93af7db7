-- One event more, or no event any more.
use Rattle.std.proofs.Common.{◌≡◌, ℕ, zero, suc, Bool, List, [], ◌∷◌, ◌++◌, length, Some, None, refl, ap, sym, ◌∙◌, arith}
use Rattle.image_load.specs.Contents.{started}
use Rattle.rand_pcg.specs.Lcg.{Lcg}
use Rattle.rand_pcg.specs.Pcg.{pcg32}
use Rattle.rv_code.specs.Machine.{program}
use Rattle.rules_bus.specs.State.{BusEvent}
use Rattle.rules_bus.specs.Step.{and_then, bus_from, bus_next}
use Rattle.bus_tcc.specs.Machine.{BusMachine, bus_history_of, bus_program_of, bus_settings_of, bus_start_of}
use Rattle.bus_tool.specs.Picking.{picks}
use Rattle.bus_tool.proofs.Lemmas.{chosen_at, no-words, picks-none, picks-one}
use Rattle.bus_trace.specs.Text.{bus_event_text}
use Rattle.bus_changes.specs.Text.{bus_shown_texts, bus_shows, if_bus_shown}
use Rattle.bus_run.specs.Going.{GoneOn, Led, Moves, coming, runs, texts}
use Rattle.bus_run.specs.declared.running.BusRun.{BusRun}

-- ---- the words that are left

-- no event is useful
pub none-picked : (k : ℕ) (g : Lcg) (m : BusMachine) → chosen_at g m ≡ None → picks k g m ≡ []
none-picked zero g m e = no-words 0 g m refl
none-picked (suc k) g m e = picks-none k g m e

-- the next word picked this event, which the machine took
pub first-picked : (k l : ℕ) (g h : Lcg) (m n : BusMachine) (e : BusEvent) → k ≡ suc l → chosen_at g m ≡ Some e
    → h ≡ (pcg32 g).1
    → bus_next (bus_settings_of m) (bus_program_of m) (bus_history_of m) e ≡ Some (bus_history_of n) → n.code ≡ m.code
    → picks k g m ≡ e ∷ picks l h n
first-picked k l g h m n e left chose words next code =
    ap (λ j. picks j g m) left ∙ picks-one l g m n e chose next code ∙ ap (λ w. e ∷ picks l w n) (sym words)

-- ---- the events that are to come

runs-one : (m n : BusMachine) (e : BusEvent) (es : List BusEvent)
    → bus_next (bus_settings_of m) (bus_program_of m) (bus_history_of m) e ≡ Some (bus_history_of n) → n.code ≡ m.code
    → runs m (e ∷ es) ≡ runs n es
unfolding bus_from
runs-one m n e es s code =
    ap (and_then (bus_from (bus_settings_of m) (bus_program_of m) es)) s
    ∙ (λ i. bus_from (sym code i).settings (program (started (sym code i))) es (bus_history_of n))

-- the text of what an event does to a machine that it leads to another state, with records or without
abbrev pub text_at : (states : Bool) → (m n : BusMachine) → BusEvent → List ℕ
text_at states m n e =
    bus_event_text (bus_settings_of m) (bus_program_of m) (bus_history_of m) e
    ++ (bus_shows states (bus_start_of m)).event (bus_history_of m).world (bus_history_of n).world e

texts-one : (states : Bool) (m n : BusMachine) (e : BusEvent) (es : List BusEvent)
    → bus_next (bus_settings_of m) (bus_program_of m) (bus_history_of m) e ≡ Some (bus_history_of n) → n.code ≡ m.code
    → texts states m (e ∷ es) ≡ text_at states m n e ∷ texts states n es
unfolding bus_shown_texts
texts-one states m n e es s code =
    let x = bus_shows states (bus_start_of m) in
    ap (if_bus_shown x (bus_settings_of m) (bus_program_of m) e (bus_history_of m)
    (bus_shown_texts x (bus_settings_of m) (bus_program_of m) es)) s
    ∙ (λ i. text_at states m n e
    ∷ bus_shown_texts (bus_shows states (started (sym code i))) (sym code i).settings (program (started (sym code i))) es
    (bus_history_of n))

pub gone-one : (old new : BusRun) (e : BusEvent) → Moves old new (Some e) → GoneOn old new
gone-one old new e (t, first, left) =
    let longer = ap length first in
    let events = t.events in
    record {
      code = t.code;
      ran = ap (runs old.system) first ∙ runs-one old.system new.system e (coming new) t.next t.code;
      events = omega (arith, longer, events);
      words = omega (arith, events, left);
    }

pub led-one : (states : Bool) (old new : BusRun) (e : BusEvent) → Moves old new (Some e)
    → Led states old new (text_at states old.system new.system e ∷ [])
led-one states old new e (t, first, left) = record {
  gone = gone-one old new e (t, first, left);
  texts_are = ap (texts states old.system) first ∙ texts-one states old.system new.system e (coming new) t.next t.code;
}

-- ---- none comes any more

pub gone-end : (old new : BusRun) → Moves old new None → GoneOn old new
gone-end old new (same, left, none, still) =
    let events = ap (λ m. m.events) same in
    let long = ap length none in
    let longer = ap length still in
    record {
      code = ap (λ m. m.code) same;
      ran = ap (runs old.system) none ∙ ap (λ m. runs m []) (sym same) ∙ ap (runs new.system) (sym still);
      events = omega (arith, events, long, longer);
      words = omega (arith, events, left);
    }
