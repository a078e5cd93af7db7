use Rattle.std.proofs.Common.{◌≡◌, ◌++◌, drop, string_bytes}
use Rattle.std.specs.List.{flat_map}
use Rattle.schedule_text.specs.Grammar.{event_line}
use Rattle.schedule_text.proofs.writing.push_events.Given as goal

-- what is written and the lines to come are what stood there and all lines
abbrev pub invariant-loop-event : goal.invariant-loop-event
invariant-loop-event l = string_bytes l.text ++ flat_map event_line
    (drop l.event-index l.events) ≡ string_bytes l.fn.text ++ flat_map event_line l.events
