-- In which way each TID was given to each directory: what its core has said of it there.
use Rattle.std.specs.Prelude.{ℕ, ◌+◌, ◌≡◌, ◌<◌, ◌≤◌, ◌==◌, ◌&&◌, List, [], ◌∷◌, Option, Some, None, nat_lt, nat_le, if◌then◌else◌}
use Rattle.rules_program.specs.Program.{Program}
use Rattle.rules_maps.specs.Words.{num}
use Rattle.rules_maps.specs.Serving.{is_skipped}
use Rattle.rules_maps.specs.Nodes.{Node, Core, Dir, Msg, Event, Exec, Evict, Deliver}
use Rattle.rules_maps.specs.Cache.{writes_at}
use Rattle.rules_maps.specs.Shape.{Shape}
use Rattle.rules_tcc.specs.State.{CoreState, DirState, World}
use Rattle.rules_tcc.specs.Links.{in_flight}
use Rattle.rules_tcc.specs.Sends.{Sends, nothing}
use Rattle.rules_tcc.specs.Attempt.{Out}
use Rattle.rules_tcc.specs.CoreExec.{core_exec}
use Rattle.rules_tcc.specs.CoreEvict.{core_evict}
use Rattle.rules_tcc.specs.CoreDeliver.{core_deliver}
use Rattle.rules_tcc.specs.Step.{History, next_history}
use Rattle.theorem_serial.specs.Count.{Grants, Skips, Aborts, Commits, live, among}
use Rattle.theorem_serial.specs.Pairs.{Pair, sum_of}
use Rattle.theorem_serial.specs.Tids.{opens}

pub data Way : Type 0 where
  Untold : Way  -- its core hasn't said what becomes of it
  Skipped : Way  -- given up by a Skip
  Aborted : Way  -- given up by an Abort
  Committed : Way  -- a Commit of it was sent

-- for each directory and TID
abbrev pub Ways : Type 0
Ways = ℕ → ℕ → Way

-- what a core sends by an event
abbrev pub sends_of : Option Out → Sends
sends_of None = nothing
sends_of (Some o) = o.sends

abbrev pub sends_for : Shape → CoreState → (src : Node) → Option Msg → Sends
sends_for sh s src None = nothing
sends_for sh s src (Some m) = sends_of (core_deliver sh s src m)

abbrev pub sent_by : Shape → Program → World → Event → Sends
sent_by sh p w (Exec c) = sends_of (core_exec sh p c (w.cores c))
sent_by sh p w (Evict c x y) = sends_of (core_evict sh x y (w.cores c))
sent_by sh p w (Deliver src (Core c) k) = sends_for sh (w.cores c) src (in_flight w.net src (Core c) k)
sent_by sh p w (Deliver src _ k) = nothing

-- the way of a TID after its core has sent these messages to the directory
unfoldable pub told_by : List Msg → (tid : ℕ) → Way → Way
told_by ms t y =
    if nat_lt 0 (among (Skips t) ms) then Skipped
    else if nat_lt 0 (among (Aborts t) ms) then Aborted
    else if nat_lt 0 (among (Commits t) ms) then Committed
    else y

abbrev pub ways_after : Sends → Ways → Ways
ways_after sends ys d t = told_by (sends (Dir d)) t (ys d t)

abbrev pub then_ways : Ways → (History → Ways) → Option History → Ways
then_ways ys more None = ys
then_ways ys more (Some h) = more h

-- the ways after a run, from those before it
unfoldable pub ways_from : Shape → Program → List Event → Ways → History → Ways
ways_from sh p [] ys h = ys
ways_from sh p (e ∷ es) ys h = then_ways ys (ways_from sh p es (ways_after (sent_by sh p h.world e) ys)) (next_history sh p h e)

-- no TID has come to its core yet
abbrev pub first_ways : Ways
first_ways d t = Untold

-- Where a TID of a way is, as a core sees it: on its way to the core, or open; or what was said of it is in flight.
unfoldable pub part_in : Way → Shape → (dir tid : ℕ) → Pair → ℕ
part_in Untold sh d t v = live (Grants t) v.grants + num (opens v.core.phase (writes_at sh v.core.cache d) t)
part_in Skipped sh d t v = live (Skips t) v.out
part_in Aborted sh d t v = live (Aborts t) v.out
part_in Committed sh d t v = live (Commits t) v.out

-- and as the directory does: not granted; passed, or kept as skipped; passed, or served while acknowledgements are owed.
unfoldable pub kept_in : Way → (next : ℕ) → DirState → (tid : ℕ) → ℕ
kept_in Untold n s t = num (nat_le n t)
kept_in Skipped n s t = num (nat_lt t s.serving.serving) + num (is_skipped s.serving t)
kept_in Aborted n s t = num (nat_lt t s.serving.serving) + num (is_skipped s.serving t)
kept_in Committed n s t = num (nat_lt t s.serving.serving) + num ((t == s.serving.serving) && nat_lt 0 s.owed)

-- it is in one of the places that belong to the way
abbrev pub WayAt : Shape → World → (dir tid : ℕ) → Way → Type 0
WayAt sh w d t y = sum_of (part_in y sh d t) sh.cores w d + kept_in y w.next (w.dirs d) t ≡ 1

-- TIDs count from 1.
abbrev pub KeptWays : Shape → Ways → World → Type 0
KeptWays sh ys w = (d t : ℕ) → d < sh.dirs → 1 ≤ t → WayAt sh w d t (ys d t)
