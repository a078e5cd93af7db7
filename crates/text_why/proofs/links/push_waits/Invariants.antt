-- The lines of the links from the nodes so far are written.
use Rattle.std.proofs.Common.{◌≡◌, ◌++◌, string_bytes, take}
use Rattle.std.specs.List.{flat_map}
use Rattle.rules_tcc.specs.Useful.{nodes}
use Rattle.net_core.specs.Machine.{settings_of, world_of}
use Rattle.text_why.specs.Text.{text_from}
use Rattle.text_why.proofs.links.push_waits.Given as goal

abbrev pub invariant-loop-place : goal.invariant-loop-place
invariant-loop-place l =
    string_bytes l.text
    ≡ string_bytes l.fn.text
    ++ flat_map (text_from (settings_of l.system) (world_of l.system)) (take l.place (nodes (settings_of l.system)))
