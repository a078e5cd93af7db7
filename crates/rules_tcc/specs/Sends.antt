-- What a node sends, as a function from the destination to the messages on that link in their order.
use Rattle.std.specs.Prelude.{ℕ, Bool, List, [], ◌∷◌, ◌++◌, Option, Some, None, nat_lt, if◌then◌else◌}
use Rattle.std.specs.List.{flat_map}
use Rattle.rules_maps.specs.Nodes.{Node, Core, Dir, Vendor, Msg, Skip, Probe, Abort, Mark, WriteBack, Flush, Tagged, node_eq}
use Rattle.rules_maps.specs.Shape.{Shape, home}
use Rattle.rules_maps.specs.Cache.{Cache, modified_mask, dirty_copy, written_lines, writes_at}

abbrev pub Sends : Type 0
Sends = Node → List Msg

abbrev pub nothing : Sends
nothing dst = []

-- to one node
abbrev pub to : Node → List Msg → Sends
to n ms dst = if node_eq dst n then ms else []

-- these, and behind them those
abbrev pub then_send : Sends → Sends → Sends
then_send these those dst = these dst ++ those dst

-- to each directory what f says
abbrev pub to_dirs : Shape → (ℕ → List Msg) → Sends
to_dirs sh f (Dir d) = if nat_lt d sh.dirs then f d else []
to_dirs sh f (Core c) = []
to_dirs sh f Vendor = []

-- where the test holds
abbrev pub when : Bool → List Msg → List Msg
when b ms = if b then ms else []

-- words that go home, where there are any
abbrev pub write_back_of : Option Tagged → List Msg
write_back_of None = []
write_back_of (Some t) = WriteBack t.line t.mask t.words t.tag ∷ []

abbrev pub flush_of : Option Tagged → List Msg
flush_of None = []
flush_of (Some t) = Flush t.line t.mask t.words t.tag ∷ []

-- the dirty words of a line go to its home, and a frame is emptied or goes on
unfoldable pub write_back_line : Shape → Cache → ℕ → Sends
write_back_line sh c l = to (Dir (home sh l)) (write_back_of (dirty_copy c l))

unfoldable pub flush_line : Shape → Cache → ℕ → Sends
flush_line sh c l = to (Dir (home sh l)) (flush_of (dirty_copy c l))

-- to every directory
unfoldable pub skip_all : Shape → ℕ → Sends
skip_all sh t = to_dirs sh (λ d. Skip t ∷ [])

unfoldable pub probe_all : Shape → ℕ → Sends
probe_all sh t = to_dirs sh (λ d. Probe t ∷ [])

-- to every directory where a line has modified words
unfoldable pub abort_written : Shape → Cache → ℕ → Sends
abort_written sh c t = to_dirs sh (λ d. when (writes_at sh c d) (Abort t ∷ []))

-- for each modified line at home at d its mask, rising
unfoldable pub marks_for : Shape → Cache → ℕ → ℕ → List Msg
marks_for sh c t d = flat_map (λ l. Mark l (modified_mask c l) t ∷ []) (written_lines sh c d)
