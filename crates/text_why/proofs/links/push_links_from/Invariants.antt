-- The lines of the links to the nodes so far are written.
use Rattle.std.proofs.Common.{◌≡◌, ◌++◌, string_bytes, take}
use Rattle.std.specs.List.{flat_map}
use Rattle.rules_maps.specs.Bridge.{node_of}
use Rattle.rules_tcc.specs.Useful.{nodes}
use Rattle.net_core.specs.Machine.{settings_of, world_of}
use Rattle.text_why.specs.Text.{link_text}
use Rattle.text_why.proofs.links.push_links_from.Given as goal

abbrev pub invariant-loop-place : goal.invariant-loop-place
invariant-loop-place l =
    string_bytes l.text
    ≡ string_bytes l.fn.text
    ++ flat_map (link_text (settings_of l.system) (world_of l.system) (node_of l.src)) (take l.place (nodes (settings_of l.system)))
