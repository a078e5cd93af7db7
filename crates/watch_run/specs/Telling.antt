-- A run that is told event by event: its lines, and what an event changed.
use Rattle.std.specs.Prelude.{ℕ, ◌≡◌, Bool, true, false, List, ◌++◌, Option, Some, None}
use Rattle.rules_maps.specs.Nodes.{Event}
use Rattle.rules_tcc.specs.Step.{is_node}
use Rattle.net_core.specs.Machine.{Machine, history_of, program_of, settings_of, start_of, world_of}
use Rattle.watch.specs.Happened.{actor}
use Rattle.watch_changes.specs.Changes.{change_lines}
use Rattle.watch_changes.specs.Plain.{IsSeen, Seen, changes_since, part_of}
use Rattle.watch_changes.specs.Text.{shown_from, shows}
use Rattle.watch_changes.specs.Touched.{touched}
use Rattle.watch_run.specs.declared.telling.Shown.{Shown}

-- where records are shown, what this event may change was seen before it; else nothing was
abbrev pub IsLook : (states : Bool) → Option Seen → Machine → Event → Type 0
IsLook true (Some b) m e =
    IsSeen m b × (is_node (settings_of m) (actor e) ≡ true → part_of b.part ≡ touched (settings_of m) (program_of m) (world_of m) e)
IsLook false None m e = Unit {0}
IsLook _ _ m e = ⊥

-- what changed of it is told
abbrev pub IsTold : Option Seen → Machine → (before after : List ℕ) → Type 0
IsTold (Some b) m before after = after ≡ before ++ change_lines (changes_since b m)
IsTold None m before after = after ≡ before

-- the lines of the events that are shown, from a machine's state on
abbrev pub lines_from : Shown → Machine → List Event → List ℕ
lines_from shown m es =
    shown_from (shows shown.states (start_of m)) (settings_of m) (program_of m) shown.from es (history_of m)
