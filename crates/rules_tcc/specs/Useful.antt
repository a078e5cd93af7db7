-- The events that can happen and are worth choosing, in the order in which a chooser counts them.
use Rattle.std.specs.Prelude.{ℕ, Bool, true, false, not, List, [], ◌∷◌, ◌++◌, map, length, filter, Option, Some, None, is_some, nat_lt}
use Rattle.std.specs.Prelude.{◌==◌, ◌&&◌, ◌||◌, if◌then◌else◌}
use Rattle.std.specs.List.{flat_map}
use Rattle.tcc_base.specs.declared.access.Size.TheVariants.{Byte, Half, Word}
use Rattle.rules_program.specs.Program.{Need, Loads, Stores, Changes, Program}
use Rattle.rules_program.specs.Ram.{word_of}
use Rattle.rules_maps.specs.Words.{line_of}
use Rattle.rules_maps.specs.Nodes.{Node, Core, Dir, Vendor, Event, Exec, Evict, Deliver, node_eq}
use Rattle.rules_maps.specs.Shape.{Shape, set_of}
use Rattle.rules_maps.specs.Cache.{Cache, free_way, all_marked, is_modified, is_dirty}
use Rattle.rules_maps.specs.Spilled.{holds}
use Rattle.rules_tcc.specs.State.{CoreState, Awaited, Phase, Running, Solo, World}
use Rattle.rules_tcc.specs.Attempt.{is_solo}
use Rattle.rules_tcc.specs.Step.{is_enabled}
use Rattle.rules_tcc.specs.Seen.{numbers}

-- the set in which room is wanted for a line without a frame, where none is free and the core waits
unfoldable pub room_for_line : Shape → ℕ → CoreState → Option ℕ
room_for_line sh l s =
    if s.cache.held l || is_some (free_way sh s.cache (set_of sh l)) then None
    else if is_solo s.phase || not (all_marked sh s.cache (set_of sh l)) then Some (set_of sh l)
    else None

-- a load and a partial store want the word, a whole store the line
unfoldable pub room_for_word : Shape → (word : ℕ) → CoreState → Option ℕ
room_for_word sh w s = if is_some (s.spilled w) || is_some (s.cache.value w) then None else room_for_line sh (line_of w) s

unfoldable pub room_for_store : Shape → (word : ℕ) → CoreState → Option ℕ
room_for_store sh w s = if holds s.spilled (line_of w) then None else room_for_line sh (line_of w) s

abbrev pub room_for_need : Shape → CoreState → Need → Option ℕ
room_for_need sh s (Loads addr size) = room_for_word sh (word_of sh.base addr) s
room_for_need sh s (Stores addr Word value) = room_for_store sh (word_of sh.base addr) s
room_for_need sh s (Stores addr Half value) = room_for_word sh (word_of sh.base addr) s
room_for_need sh s (Stores addr Byte value) = room_for_word sh (word_of sh.base addr) s
room_for_need sh s (Changes addr changed) = room_for_word sh (word_of sh.base addr) s
room_for_need sh s _ = None

abbrev pub room_unless_awaiting : Shape → Program → CoreState → Option Awaited → Option ℕ
room_unless_awaiting sh p s (Some a) = None
room_unless_awaiting sh p s None = room_for_need sh s (p.need s.local)

abbrev pub room_in_phase : Shape → Program → CoreState → Phase → Option ℕ
room_in_phase sh p s Running = room_unless_awaiting sh p s s.awaited
room_in_phase sh p s (Solo t) = room_unless_awaiting sh p s s.awaited
room_in_phase sh p s _ = None

-- the set in which a core waits for room
unfoldable pub room : Shape → Program → CoreState → Option ℕ
room sh p s = room_in_phase sh p s s.phase

abbrev pub is_this_set : Option ℕ → ℕ → Bool
is_this_set None x = false
is_this_set (Some y) x = y == x

-- the way holds a line with modified or dirty words
abbrev pub holds_written : Cache → Option ℕ → Bool
holds_written c None = false
holds_written c (Some l) = is_modified c l || is_dirty c l

-- to empty a frame is of use where words leave it or a core waits for room there
abbrev pub is_of_use : Shape → Program → World → Event → Bool
is_of_use sh p w (Exec c) = true
is_of_use sh p w (Evict c x y) = holds_written (w.cores c).cache ((w.cores c).cache.at x y) || is_this_set (room sh p (w.cores c)) x
is_of_use sh p w (Deliver src dst k) = true

unfoldable pub is_useful : Shape → Program → World → Event → Bool
is_useful sh p w e = is_enabled sh p w e && is_of_use sh p w e

-- all nodes, in their order
unfoldable pub nodes : Shape → List Node
nodes sh = map Core (numbers sh.cores) ++ (map Dir (numbers sh.dirs) ++ Vendor ∷ [])

unfoldable pub execs : Shape → List Event
execs sh = map Exec (numbers sh.cores)

unfoldable pub evicts : Shape → List Event
evicts sh = flat_map (λ c. flat_map (λ x. map (λ y. Evict c x y) (numbers sh.ways)) (numbers sh.sets)) (numbers sh.cores)

unfoldable pub delivers : Shape → World → List Event
delivers sh w = flat_map (λ src. flat_map (λ dst. map (λ k. Deliver src dst k) (numbers (length (w.net src dst)))) (nodes sh)) (nodes sh)

-- the useful events: Exec by core, Evict by core, set and way, Deliver by source, destination and number
unfoldable pub useful : Shape → Program → World → List Event
useful sh p w = filter (is_useful sh p w) (execs sh ++ (evicts sh ++ delivers sh w))

-- the order of nodes
abbrev pub node_before : Node → Node → Bool
node_before (Core c) (Core d) = nat_lt c d
node_before (Core c) _ = true
node_before (Dir c) (Core d) = false
node_before (Dir c) (Dir d) = nat_lt c d
node_before (Dir c) Vendor = true
node_before Vendor _ = false

-- the order of events
abbrev pub event_before : Event → Event → Bool
event_before (Exec c) (Exec d) = nat_lt c d
event_before (Exec c) _ = true
event_before (Evict c x y) (Exec d) = false
event_before (Evict c x y) (Evict d u v) = nat_lt c d || (c == d && (nat_lt x u || (x == u && nat_lt y v)))
event_before (Evict c x y) (Deliver s d k) = true
event_before (Deliver s d k) (Deliver t e m) = node_before s t || (node_eq s t && (node_before d e || (node_eq d e && nat_lt k m)))
event_before (Deliver s d k) _ = false
