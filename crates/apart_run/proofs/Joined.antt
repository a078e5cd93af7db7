-- What a machine took that replayed merged events and then went on.
use Rattle.std.proofs.Common.{◌≡◌, ℕ, ◌-◌, List, ◌++◌, length, map, true, Option, None, Some, refl, ◌∙◌, subst}
use Rattle.std.specs.Prelude.{IsSome, IsSomeAnd, replicate}
use Rattle.image_load.specs.Contents.{Contents, started}
use Rattle.image_load.specs.Start.{Start}
use Rattle.net_core.specs.Machine.{history_of, start_of, world_of}
use Rattle.rv_code.specs.Machine.{program}
use Rattle.stamp_merge.specs.Merging.{MergedLogsRun}
use Rattle.rules_maps.specs.Nodes.{Node}
use Rattle.tcc_msg.specs.Plain.{event_of}
use Rattle.tcc_msg.specs.declared.event.Event.{Event}
use Rattle.tcc_pick.specs.Picking.{TookAll}
use Rattle.tcc_refine.specs.Refined.{IsRefined, Refined}
use Rattle.tcc_replay.specs.Replayed.{history_by}
use Rattle.rules_tcc.specs.Local.{state_at}
use Rattle.rules_tcc.specs.Picked.{picked}
use Rattle.rules_tcc.specs.Step.{History, is_node}
use Rattle.apart_run.specs.Going.{goes_on}
use Rattle.apart_run.specs.Joined.{IsJoined, IsMergedRun}

is-there : (o : Option History) (P : History → Type 0) → IsSomeAnd o P → IsSome o
is-there None P p = absurd p
is-there (Some h) P p = refl

-- the merged events are a run
pub merged-runs : MergedLogsRun → (s : Start) (steps : ℕ) (events : List Event) → IsMergedRun s steps events → IsSome (history_by s events)
merged-runs law s steps events m =
    is-there (history_by s events) (λ h. (n : Node) → is_node s.settings n ≡ true → state_at h.world n ≡ (m.fits.sides n).state)
    (law s m.logs m.fits events m.merge)

-- where they led
reached-by : (c : Contents) (merged : List Event) (m : Refined) → IsRefined m → m.machine.cores.code ≡ c → m.taken ≡ merged
    → history_by (started c) merged ≡ Some (history_of m.machine)
unfolding started
reached-by c merged m k code taken =
    subst (λ d. history_by (started d) merged ≡ Some (history_of m.machine)) code
    (subst (λ es. history_by (start_of m.machine) es ≡ Some (history_of m.machine)) taken k.is_run)

pub joined : (c : Contents) (steps n : ℕ) (merged : List Event) (m r : Refined) → IsMergedRun (started c) steps merged → IsRefined m
    → m.machine.cores.code ≡ c → m.taken ≡ merged → n ≡ steps - length merged → TookAll m r (goes_on n m.machine)
    → IsJoined (started c) steps r.taken
unfolding started history_of
joined c steps n merged m r by_threads k code taken left t = record {
  merged = merged;
  by_threads = by_threads;
  middle = history_of m.machine;
  leads = reached-by c merged m k code taken;
  events_are = t.taken
      ∙ (λ i. map event_of (taken i)
      ++ picked (code i).settings (program (started (code i))) (replicate (left i) 0) (world_of m.machine));
}
