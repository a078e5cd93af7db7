-- Runs that are looked at: which events they take, and what is told of them.
use Rattle.std.specs.Prelude.{ℕ, Bool, true, false, List, ◌++◌, length, map, min, take, ◌≡◌, ◌⊎◌, Option, Some, None}
use Rattle.image_load.specs.Start.{Start}
use Rattle.rules_riscv.specs.Starting.{world_at_start}
use Rattle.tcc_base.specs.Settings.{Settings}
use Rattle.tcc_cli.specs.Lines.{IsWhole, IsCut}
use Rattle.tcc_world.specs.Page.{Written}
use Rattle.tcc_cli.specs.Runs.{RunsBy, picked_by}
use Rattle.tcc_cli.specs.Schedules.{IsFaultOf, IsScheduleOf}
use Rattle.tcc_cli.specs.declared.refusal.Refusal.{Refusal}
use Rattle.tcc_cli.specs.declared.refusal.Refusal.TheVariants as why
use Rattle.rules_maps.specs.Nodes.{Event}
use Rattle.tcc_msg.specs.Plain.{event_of}
use Rattle.tcc_msg.specs.declared.event.Event.{Event as Listed}
use Rattle.rules_tcc.specs.Step.{History}
use Rattle.tcc_words.specs.Fields.{count_limit}
use Rattle.tcc_words.specs.declared.command.Source.{Source}
use Rattle.tcc_words.specs.declared.command.Source.TheVariants.{Seed, Schedule}
use Rattle.tcc_words.specs.declared.command.View.{View}
use Rattle.tcc_words.specs.declared.command.View.TheVariants.{Trace, Count, Rows, Consoles, State}
use Rattle.tcc_world.specs.Faults.{Rose}
use Rattle.watch_count.specs.Csv.{csv_text}
use Rattle.watch_count.specs.Text.{count_text}
use Rattle.watch_run.specs.declared.tracing.Broken.{Broken}
use Rattle.watch_run.specs.declared.tracing.Broken.TheVariants as broken
use Rattle.watch_run.specs.declared.tabling.Rows.{Rows as Table}
use Rattle.watch_run.specs.declared.telling.Shown.{Shown}
use Rattle.watch_run.specs.Consoles.{consoles_head, printed_from}
use Rattle.watch_run.specs.Looked.{counts_of_run}
use Rattle.watch_run.specs.Shown.{shown_trace, trace_with}
use Rattle.watch_run.specs.Tables.{IsTableBegun, table_text}
use Rattle.watch_run.specs.Written.{IsTraceBegun}
use Rattle.watch_state.specs.Text.{state_text}

-- at most so many events are taken
abbrev pub most_of : View → ℕ
most_of (Trace from to states) = to
most_of (Count csv) = count_limit
most_of (Rows every) = count_limit
most_of (Consoles csv) = count_limit
most_of (State events) = events

-- the first events that a seed picks, and those of the schedule that a file holds
abbrev pub ArePicked : Start → (seed steps most : ℕ) → List Event → Type 0
ArePicked s seed steps most es = es ≡ picked_by s seed (min steps most)

abbrev pub AreFirst : Settings → (bytes : List ℕ) → (most : ℕ) → List Event → Type 0
AreFirst settings bytes most es = (all : List Listed) × IsScheduleOf settings all bytes × (es ≡ map event_of (take most all))

-- the line at which a schedule is refused of which the first so many events are taken: its whole text is read before
abbrev pub IsFaultOfFirst : Start → Settings → (bytes : List ℕ) → (most line : ℕ) → Type 0
IsFaultOfFirst s settings bytes most line = IsFaultOf (take most) s settings bytes line

abbrev pub IsFirstRefused : Start → Settings → (bytes : List ℕ) → (most : ℕ) → Refusal → Type 0
IsFirstRefused s settings bytes most (why.Schedule line) = IsFaultOfFirst s settings bytes most line
IsFirstRefused s settings bytes most why.Memory = Unit {0}
IsFirstRefused s settings bytes most _ = ⊥

-- the seed and the number of steps of a run; a schedule has none
abbrev pub seed_of : Source → Option (ℕ × ℕ)
seed_of (Seed steps seed) = Some (seed, steps)
seed_of (Schedule name) = None

-- what is told of a run by these events: the trace, with records or without, the counts, a table of the totals, what its commits print and
-- then the counts, or the state at the end
abbrev pub view_text : View → (seed : Option (ℕ × ℕ)) → Start → (done : Bool) → List Event → History → List ℕ
view_text (Trace from to states) seed s done es h = trace_with states s (world_at_start s) from es done
view_text (Count true) seed s done es h = csv_text s.settings seed done (length es) (counts_of_run s es)
view_text (Count false) seed s done es h = count_text s.settings done (length es) (counts_of_run s es)
view_text (Rows every) seed s done es h = table_text (record { every = every; seed = seed }) s done es
view_text (Consoles true) seed s done es h =
    (consoles_head ++ printed_from 0 s es) ++ csv_text s.settings seed done (length es) (counts_of_run s es)
view_text (Consoles false) seed s done es h =
    (consoles_head ++ printed_from 0 s es) ++ count_text s.settings done (length es) (counts_of_run s es)
view_text (State events) seed s done es h = state_text s done (length es) h

-- A run by such events, from this start, with its end and the text of all that. The headline: see `RunsBy`.
pub record LookedAt (s : Start) (AreEvents : List Event → Type 0) (text_of_run : Bool → List Event → History → List ℕ) (done : Bool)
    (text : List ℕ) : Type 0 where
  pub events : List Event
  pub ends : History
  pub are : AreEvents events
  pub runs : RunsBy s events done ends
  pub text_is : text ≡ text_of_run done events ends

-- What is told of a run while it goes on may break off: then a first part of it was written, of its first lines and of what is told of its
-- first events, and none of what tells of the end. So it is with traces and with tables of totals.
abbrev pub begun_of : View → (seed : Option (ℕ × ℕ)) → Start → List Event → (before after : Option (List ℕ)) → Type 0
begun_of (Trace from to states) seed s es before after = IsTraceBegun s (record { from = from; states = states }) es before after
begun_of (Rows every) seed s es before after = IsTableBegun (record { every = every; seed = seed }) s es before after
begun_of _ seed s es before after = ⊥

abbrev pub IsBegun : (AreEvents : List Event → Type 0) → (begun : List Event → Option (List ℕ) → Option (List ℕ) → Type 0) → Written
    → Type 0
IsBegun AreEvents begun o = (es : List Event) × AreEvents es × begun es o.before.bytes o.after.bytes

-- how that ended, and what was written: all of it, or a first part where the output failed or memory ran out
abbrev pub IsWritten : Start → (AreEvents : List Event → Type 0) → (text_of_run : Bool → List Event → History → List ℕ) → Written → Bool
    → Type 0
IsWritten s AreEvents text_of_run o done = (text : List ℕ) × LookedAt s AreEvents text_of_run done text × IsWhole text o

abbrev pub IsBrokenOff : Start → (AreEvents : List Event → Type 0) → (text_of_run : Bool → List Event → History → List ℕ)
    → (begun : List Event → Option (List ℕ) → Option (List ℕ) → Type 0) → (faulty : ℕ → Type 0) → Written → Refusal → Type 0
IsBrokenOff s AreEvents text_of_run begun faulty o (why.Schedule line) = faulty line × (o.after.bytes ≡ o.before.bytes)
IsBrokenOff s AreEvents text_of_run begun faulty o why.Output =
    ((done : Bool) × (text : List ℕ) × LookedAt s AreEvents text_of_run done text × IsCut text o)
    ⊎ (IsBegun AreEvents begun o × Rose o.before.faults o.after.faults)
IsBrokenOff s AreEvents text_of_run begun faulty o why.Memory = (o.after.bytes ≡ o.before.bytes) ⊎ IsBegun AreEvents begun o
IsBrokenOff s AreEvents text_of_run begun faulty o _ = ⊥

-- a trace, and a table of totals
abbrev pub IsTraceTold : Start → (AreEvents : List Event → Type 0) → Shown → Written → Bool → Type 0
IsTraceTold s AreEvents shown o done = IsWritten s AreEvents (λ d es h. shown_trace shown s (world_at_start s) es d) o done

abbrev pub IsTraceStopped : Start → (AreEvents : List Event → Type 0) → Shown → (faulty : ℕ → Type 0) → Written → Refusal → Type 0
IsTraceStopped s AreEvents shown faulty o r =
    IsBrokenOff s AreEvents (λ d es h. shown_trace shown s (world_at_start s) es d) (IsTraceBegun s shown) faulty o r

abbrev pub IsTableTold : Start → (AreEvents : List Event → Type 0) → Table → Written → Bool → Type 0
IsTableTold s AreEvents rows o done = IsWritten s AreEvents (λ d es h. table_text rows s d es) o done

abbrev pub IsTableStopped : Start → (AreEvents : List Event → Type 0) → Table → (faulty : ℕ → Type 0) → Written → Refusal → Type 0
IsTableStopped s AreEvents rows faulty o r =
    IsBrokenOff s AreEvents (λ d es h. table_text rows s d es) (IsTableBegun rows s) faulty o r

-- what it is to the program that it broke off
abbrev pub broken_refusal : Broken → Refusal
broken_refusal broken.Memory = why.Memory
broken_refusal broken.Output = why.Output
