-- A run that is counted as it goes, and that can be left and taken up again.
use Rattle.std.specs.Prelude.{ℕ, ◌≡◌, ◌+◌, ◌≤◌, Bool, List, [], ◌++◌, Option, length}
use Rattle.image_load.specs.Contents.{Contents, started}
use Rattle.rv_code.specs.Machine.{program}
use Rattle.net_core.specs.Machine.{Machine}
use Rattle.rules_maps.specs.Nodes.{Event}
use Rattle.rules_riscv.specs.Starting.{world_at_start}
use Rattle.rules_tcc.specs.Picked.{picked}
use Rattle.tcc_pick.specs.Words.{seeded, words}
use Rattle.watch_count.specs.Counts.{Counts}
use Rattle.tcc_world.specs.Faults.{Rose}
use Rattle.tcc_world.specs.Page.{Written}
use Rattle.watch_run.specs.Looked.{HasCounted}
use Rattle.watch_run.specs.Meanwhile.{meanwhile_text}
use Rattle.watch_run.specs.Tables.{open_table, rest_text, table_text}
use Rattle.watch_run.specs.Traces.{IsTraceOf, shown_behind}
use Rattle.watch_run.specs.Written.{IsPart, IsTraceBegun}
use Rattle.watch_run.specs.declared.meanwhile.Meanwhile.{Meanwhile}
use Rattle.watch_run.specs.declared.tabling.Rows.{Rows}
use Rattle.watch_run.specs.declared.telling.Shown.{Shown}
use Rattle.watch_run.specs.declared.tracing.Broken.{Broken}
use Rattle.watch_run.specs.declared.tracing.Broken.TheVariants.{Memory, Output}

pub record RunData : Type 0 where
  pub machine : Machine
  pub counts : Counts  -- what was counted of the events so far
  pub seed : ℕ
  pub drawn : ℕ  -- so many words were drawn of the seed's generator

-- the events that a seed picks from the start of what was loaded, so many at most
abbrev pub seed_events : Contents → (seed steps : ℕ) → List Event
seed_events c seed steps = picked c.settings (program (started c)) (words steps (seeded seed)) (world_at_start (started c))

-- it is the run by the events that its seed picks from there: they were taken and counted, and a word was drawn for each
pub record IsRunOf (c : Contents) (steps : ℕ) (r : RunData) : Type 0 where
  pub counted : HasCounted c (seed_events c r.seed steps) r.machine r.counts
  pub drawn : r.drawn ≡ length (seed_events c r.seed steps)

-- the run of so many steps became one of so many more
pub record WentOn (old new : RunData) (steps : ℕ) : Type 0 where
  pub same : (c : Contents) (n : ℕ) → IsRunOf c n old → IsRunOf c (n + steps) new
  pub settled : new.machine.unsent ≡ []
  pub code : new.machine.cores.code ≡ old.machine.cores.code
  pub seed : new.seed ≡ old.seed
  pub events : old.drawn ≤ old.machine.events → new.machine.events + old.drawn ≡ old.machine.events + new.drawn
  pub at_most : new.drawn ≤ old.drawn + steps

-- the text is what is written of the run's further steps while they are taken
abbrev pub IsRunText : Meanwhile → RunData → (steps : ℕ) → (text : List ℕ) → Type 0
IsRunText told r steps text = (c : Contents) (n : ℕ) → IsRunOf c n r
    → text ≡ meanwhile_text told r.machine.events (started c) (seed_events c r.seed (n + steps))

-- a first part of it was written
abbrev pub IsRunPart : Meanwhile → RunData → (steps : ℕ) → (before after : Option (List ℕ)) → Type 0
IsRunPart told r steps before after = (c : Contents) (n : ℕ) → IsRunOf c n r
    → IsPart (meanwhile_text told r.machine.events (started c) (seed_events c r.seed (n + steps))) before after

-- and why no more
abbrev pub IsRunTextStopped : Meanwhile → RunData → (steps : ℕ) → Written → Broken → Type 0
IsRunTextStopped told r steps o Memory = IsRunPart told r steps o.before.bytes o.after.bytes
IsRunTextStopped told r steps o Output = IsRunPart told r steps o.before.bytes o.after.bytes × Rose o.before.faults o.after.faults

-- what is written of the first steps without the last row, and then of the others, is the table of all
abbrev pub RunTablesJoin : Type 0
RunTablesJoin = (c : Contents) (seed n steps : ℕ) (rows : Rows) (done : Bool)
    → open_table rows (started c) (seed_events c seed n)
    ++ rest_text rows (started c) done (seed_events c seed (n + steps)) (length (seed_events c seed n))
    ≡ table_text rows (started c) done (seed_events c seed (n + steps))

-- the text is the trace of the run that went on, from its further events on
abbrev pub IsRunTrace : Shown → RunData → (steps : ℕ) → (done : Bool) → (text : List ℕ) → Type 0
IsRunTrace shown r steps done text = (c : Contents) (n : ℕ) → IsRunOf c n r
    → IsTraceOf (started c) (shown_behind r.machine.events shown) (seed_events c r.seed (n + steps)) done text

-- that trace was begun
abbrev pub IsRunTraceBegun : Shown → RunData → (steps : ℕ) → (before after : Option (List ℕ)) → Type 0
IsRunTraceBegun shown r steps before after = (c : Contents) (n : ℕ) → IsRunOf c n r
    → IsTraceBegun (started c) (shown_behind r.machine.events shown) (seed_events c r.seed (n + steps)) before after
