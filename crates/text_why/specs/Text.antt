-- The text that says why messages wait: which lines stand in it, and in what order.
use Rattle.std.specs.Prelude.{ℕ, List, ◌++◌, Bool, length, slice_get, codes}
use Rattle.std.specs.List.{flat_map}
use Rattle.image_load.specs.Start.{Start}
use Rattle.rv_code.specs.Machine.{program}
use Rattle.rules_maps.specs.Nodes.{Node}
use Rattle.rules_maps.specs.Shape.{Shape}
use Rattle.rules_tcc.specs.Seen.{numbers}
use Rattle.rules_tcc.specs.State.{World}
use Rattle.rules_tcc.specs.Step.{History}
use Rattle.rules_tcc.specs.Useful.{nodes, useful}
use Rattle.schedule_text.specs.Grammar.{newline}
use Rattle.report_text.specs.Lines.{end_line, events_line}
use Rattle.live_core.specs.Waiting.{reason_in}
use Rattle.text_why.specs.Lines.{line_if_waiting, next_line}

-- of the messages that were sent on one link, those that wait, by rising number
unfoldable pub link_text : Shape → World → (src dst : Node) → List ℕ
link_text sh w src dst = flat_map (λ k. line_if_waiting src dst k (reason_in sh w src dst k)) (numbers (length (w.net src dst)))

-- those on all links from one node, by destination
unfoldable pub text_from : Shape → World → (src : Node) → List ℕ
text_from sh w src = flat_map (link_text sh w src) (nodes sh)

-- all that wait, by source, destination and number
unfoldable pub waits_text : Shape → World → List ℕ
waits_text sh w = flat_map (text_from sh w) (nodes sh)

-- whether the run is done and how many events it took, as is told here; what waits in this state, and the first useful event in it
unfoldable pub why_text : Start → (done : Bool) → (events : ℕ) → History → List ℕ
why_text s done events h =
    codes "tcc-why 1" ++ newline ++ end_line done ++ events_line events ++ waits_text s.settings h.world
    ++ next_line (slice_get (useful s.settings (program s) h.world) 0)
