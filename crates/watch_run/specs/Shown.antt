-- What a trace shows of a run: its events from a number on, by their facts alone or with records.
use Rattle.std.specs.Prelude.{ℕ, Bool, true, false, List}
use Rattle.image_load.specs.Start.{Start}
use Rattle.rv_code.specs.Machine.{program}
use Rattle.rules_maps.specs.Nodes.{Event}
use Rattle.rules_tcc.specs.State.{World}
use Rattle.rules_tcc.specs.Step.{History}
use Rattle.watch_trace.specs.Text.{text_from, trace_text}
use Rattle.watch_changes.specs.Text.{shown_from, states_text, with_records}
use Rattle.watch_run.specs.declared.telling.Shown.{Shown}

-- the lines of these events from number `from` on, from this state on
abbrev pub lines_with : (records : Bool) → Start → (from : ℕ) → List Event → History → List ℕ
lines_with false s from es h = text_from s.settings (program s) from es h
lines_with true s from es h = shown_from (with_records s) s.settings (program s) from es h

-- the whole trace
abbrev pub trace_with : (records : Bool) → Start → World → (from : ℕ) → List Event → (done : Bool) → List ℕ
trace_with false s first from es done = trace_text s first from es done
trace_with true s first from es done = states_text s first from es done

-- the same, of what is shown
abbrev pub shown_lines : Shown → Start → List Event → History → List ℕ
shown_lines shown s es h = lines_with shown.states s shown.from es h

abbrev pub shown_trace : Shown → Start → World → List Event → (done : Bool) → List ℕ
shown_trace shown s first es done = trace_with shown.states s first shown.from es done
