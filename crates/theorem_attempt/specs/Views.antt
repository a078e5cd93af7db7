-- The view of each core's attempt along a run: the words that it used before it had stored them, in the order of the uses, each with
-- the value that it had. It is remembered; no rule reads it.
use Rattle.std.specs.Prelude.{ℕ, Bool, true, false, cond, ◌&&◌, List, [], ◌∷◌, ◌++◌, Option, Some, None, is_some}
use Rattle.tcc_base.specs.Put.{put}
use Rattle.rules_program.specs.Program.{Program}
use Rattle.rules_maps.specs.Nodes.{Node, Core, Dir, Vendor, Msg}
use Rattle.rules_maps.specs.Nodes.{Inv, Event, Exec, Evict, Deliver}
use Rattle.rules_maps.specs.Shape.{Shape}
use Rattle.rules_tcc.specs.State.{CoreState, Phase, Running, AwaitTid, DoomedTid, Probing, Ready, Overflowing, Solo, Halted, World}
use Rattle.rules_tcc.specs.Attempt.{Out}
use Rattle.rules_tcc.specs.CoreDeliver.{is_violated}
use Rattle.rules_tcc.specs.CoreExec.{core_exec}
use Rattle.rules_tcc.specs.Links.{in_flight}
use Rattle.rules_tcc.specs.Step.{History, next_history}
use Rattle.theorem_attempt.specs.Follows.{Uses, used_by}

-- what an event of a core leaves of these uses: none where it committed
abbrev pub uses_after : Out → Uses → Uses
uses_after o us = cond (is_some o.commit) [] us

-- an instruction adds the word that it uses, where there is one
abbrev pub uses_executed : Option Out → (before new : Uses) → Uses
uses_executed None us new = us
uses_executed (Some o) us new = uses_after o (us ++ new)

-- a violated core that has an attempt begins anew
abbrev pub rolls_back : Phase → Bool
rolls_back DoomedTid = false
rolls_back Halted = false
rolls_back Running = true
rolls_back AwaitTid = true
rolls_back (Probing t) = true
rolls_back (Ready t) = true
rolls_back (Overflowing t) = true
rolls_back (Solo t) = true

abbrev pub uses_violated : Bool → Phase → Uses → Uses
uses_violated b q us = cond (b && rolls_back q) [] us

-- the uses after a message
abbrev pub uses_delivered : CoreState → Msg → Uses → Uses
uses_delivered s (Inv l m u) us = uses_violated (is_violated l m u s) s.phase us
uses_delivered s _ us = us

-- each core's view
abbrev pub Views : Type 0
Views = (core : ℕ) → Uses

-- nothing was used yet
abbrev pub no_views : Views
no_views c = []

-- a message to a core, where there is one
abbrev pub views_delivered : (ℕ → CoreState) → (dst : Node) → Option Msg → Views → Views
views_delivered cores (Core c) (Some m) vs = put vs c (uses_delivered (cores c) m (vs c))
views_delivered cores (Core c) None vs = vs
views_delivered cores (Dir d) o vs = vs
views_delivered cores Vendor o vs = vs

-- the views after an event
abbrev pub views_after : Shape → Program → World → Event → Views → Views
views_after sh p w (Exec c) vs =
    put vs c (uses_executed (core_exec sh p c (w.cores c)) (vs c) (used_by sh.base (w.cores c) (p.need (w.cores c).local)))
views_after sh p w (Evict c x y) vs = vs
views_after sh p w (Deliver src dst k) vs = views_delivered w.cores dst (in_flight w.net src dst k) vs

abbrev pub then_views : Views → (History → Views) → Option History → Views
then_views vs more None = vs
then_views vs more (Some h) = more h

-- the views after a run, from those before it
unfoldable pub views_from : Shape → Program → List Event → Views → History → Views
views_from sh p [] vs h = vs
views_from sh p (e ∷ es) vs h = then_views vs (views_from sh p es (views_after sh p h.world e vs)) (next_history sh p h e)
