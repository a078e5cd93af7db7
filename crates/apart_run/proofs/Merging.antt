-- Logs that fit one another, merged.
use Rattle.std.proofs.Common.{◌≡◌, ℕ, ◌≤◌, List, subst, sym, arith}
use Rattle.image_load.specs.Contents.{Contents, started}
use Rattle.node_locks.specs.Turns.{entries_in}
use Rattle.rules_apart.specs.Fitting.{FitLogs, IsMergeOf}
use Rattle.rules_apart.specs.declared.logs.Logged.{Logged}
use Rattle.stamp_merge.proofs.Lemmas.{are_logs}
use Rattle.stamp_merge.specs.Merging.{AreLogs}
use Rattle.tcc_base.specs.Settings.{Settings}
use Rattle.tcc_msg.specs.declared.event.Event.{Event}
use Rattle.apart_run.specs.Joined.{IsMergedRun}
use Rattle.apart_run.proofs.Counting.{merge-length}

-- logs of the nodes of this machine
pub are-logs : (c : Contents) (s : Settings) (logs : List (List Logged)) → s ≡ c.settings → FitLogs (started c) logs → AreLogs s logs
unfolding started
are-logs c s logs e f = subst (λ t. AreLogs t logs) (sym e) (are_logs (started c) logs f)

pub merged-run : (c : Contents) (s : Settings) (steps : ℕ) (logs : List (List Logged)) (events : List Event) → s ≡ c.settings
    → FitLogs (started c) logs → entries_in logs ≤ steps → IsMergeOf s logs events → IsMergedRun (started c) steps events
unfolding started
merged-run c s steps logs events e f few m =
    let merge : IsMergeOf c.settings logs events = subst (λ t. IsMergeOf t logs events) e m in
    let long = merge-length c.settings logs events f.count merge in
    record { logs = logs; fits = f; merge = merge; few = omega (arith, long, few) }
