-- What an event did: the facts about the node that acts, by the rules' states and commits before and after it.
use Rattle.std.specs.Prelude.{ℕ, ◌+◌, Bool, true, false, List, [], ◌∷◌, ◌++◌, length, drop, Option, Some, None, ◌==◌, if◌then◌else◌}
use Rattle.std.specs.List.{flat_map}
use Rattle.tcc_base.specs.declared.access.Commit.{Commit as Noted}
use Rattle.rules_program.specs.Program.{Program}
use Rattle.rules_maps.specs.Nodes.{Node, Core, Dir, Vendor, Msg, Event, Exec, Evict, Deliver}
use Rattle.rules_maps.specs.Shape.{Shape}
use Rattle.rules_tcc.specs.State.{Phase, Running, AwaitTid, DoomedTid, Probing, Ready, Overflowing, Solo, Halted, Link, World}
use Rattle.rules_tcc.specs.Links.{in_flight}
use Rattle.rules_tcc.specs.DirDeliver.{dir_deliver}
use Rattle.rules_tcc.specs.Step.{History, Stepped, step}
use Rattle.rules_tcc.specs.Useful.{nodes}
use Rattle.watch.specs.Facts.{Fact, Took, Committed, CameTo, Serves, Sent}
use Rattle.watch.specs.Instructions.{executed, evicted}
use Rattle.watch.specs.Messages.{answered, taken, violated, grant_given_up}

-- the node that acts
abbrev pub actor : Event → Node
actor (Exec c) = Core c
actor (Evict c x y) = Core c
actor (Deliver src dst k) = dst

abbrev pub same_tid : Option ℕ → Option ℕ → Bool
same_tid None None = true
same_tid (Some t) (Some u) = t == u
same_tid _ _ = false

-- a phase's TID is a part of it
abbrev pub same_phase : Phase → Phase → Bool
same_phase Running Running = true
same_phase AwaitTid AwaitTid = true
same_phase DoomedTid DoomedTid = true
same_phase (Probing t) (Probing u) = t == u
same_phase (Ready t) (Ready u) = t == u
same_phase (Overflowing t) (Overflowing u) = same_tid t u
same_phase (Solo t) (Solo u) = t == u
same_phase Halted Halted = true
same_phase _ _ = false

abbrev pub phase_fact : (core : ℕ) → (before after : Phase) → List Fact
phase_fact c p q = if same_phase p q then [] else CameTo c q ∷ []

abbrev pub serves_fact : (dir before after : ℕ) → List Fact
serves_fact d t u = if t == u then [] else Serves d u ∷ []

abbrev pub commit_fact : Option Noted → List Fact
commit_fact None = []
commit_fact (Some c) = Committed c.tid.0 c.core.0 c.n ∷ []

-- the event itself at its node: w and commits before it, and v after it
abbrev pub delivered : Shape → List Noted → (w v : World) → (src dst : Node) → Msg → List Fact
delivered sh commits w v src (Core c) m =
    taken src m (w.cores c) ++ (violated c commits m (w.cores c) (v.cores c) ++ grant_given_up c m (w.cores c).phase)
delivered sh commits w v (Core c) (Dir d) m = answered m (dir_deliver sh (w.dirs d) c m)
delivered sh commits w v src dst m = Took m ∷ []

abbrev pub if_in_flight : Shape → List Noted → (w v : World) → (src dst : Node) → Option Msg → List Fact
if_in_flight sh commits w v src dst None = []
if_in_flight sh commits w v src dst (Some m) = delivered sh commits w v src dst m

abbrev pub acted : Shape → Program → List Noted → (w v : World) → Event → List Fact
acted sh p commits w v (Exec c) = executed sh p c (w.cores c) (v.cores c)
acted sh p commits w v (Evict c x y) = evicted c x y (w.cores c)
acted sh p commits w v (Deliver src dst k) = if_in_flight sh commits w v src dst (in_flight w.net src dst k)

-- where the node has come to
abbrev pub moved : (w v : World) → Node → List Fact
moved w v (Core c) = phase_fact c (w.cores c).phase (v.cores c).phase
moved w v (Dir d) = serves_fact d (w.dirs d).serving.serving (v.dirs d).serving.serving
moved w v Vendor = []

-- what it has sent, by destination and number: what stands on a link behind all that was sent there before
unfoldable pub numbered : (src dst : Node) → (k : ℕ) → Link → List Fact
numbered src dst k [] = []
numbered src dst k (None ∷ ms) = numbered src dst (k + 1) ms
numbered src dst k (Some m ∷ ms) = Sent src dst k m ∷ numbered src dst (k + 1) ms

unfoldable pub sent_to : (w v : World) → (src dst : Node) → List Fact
sent_to w v src dst = numbered src dst (length (w.net src dst)) (drop (length (w.net src dst)) (v.net src dst))

unfoldable pub sent : Shape → (w v : World) → (src : Node) → List Fact
sent sh w v src = flat_map (sent_to w v src) (nodes sh)

-- the facts of an event that led to this
abbrev pub facts_of : Shape → Program → History → Event → Option Stepped → List Fact
facts_of sh p h e None = []
facts_of sh p h e (Some o) =
    acted sh p h.commits h.world o.world e
    ++ (commit_fact o.noted ++ (moved h.world o.world (actor e) ++ sent sh h.world o.world (actor e)))

-- all that an event does that is enabled here
unfoldable pub happened : Shape → Program → History → Event → List Fact
happened sh p h e = facts_of sh p h e (step sh p h.world e)
