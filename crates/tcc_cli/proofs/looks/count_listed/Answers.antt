-- The list's events are counted from the start on.
use Rattle.std.proofs.Common.{◌≡◌, List, map}
use Rattle.std.specs.Prelude.{None}
use Rattle.std.specs.String.{string_bytes}
use Rattle.image_load.specs.Contents.{started}
use Rattle.rules_maps.specs.Nodes.{Event}
use Rattle.tcc_msg.specs.Plain.{event_of}
use Rattle.tcc_cli.proofs.Watched.{counted-so, listed-so}
use Rattle.tcc_cli.proofs.looks.count_listed.Goals as goal

pub returns : goal.returns
unfolding started
returns c =
    counted-so (started c.args.loaded.now) c.config.result.now (λ (es : List Event). es ≡ map event_of c.args.listed.now) _ _ _ _
    c.args.csv None (λ f. f.done) (λ f. string_bytes f.text) c.counted_tables.result
    (listed-so event_of _ _ _ c.new-events.ensures.at c.new-events.ensures.events)
    c.in_ok-counted.ensures c.config.ensures c.counted_tables.ensures.done c.counted_tables.ensures.text
