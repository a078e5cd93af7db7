-- Long runs of which something is written while they go on.
use Rattle.std.specs.Prelude.{ℕ, ◌≡◌, ◌+◌, ◌⊎◌, Bool, List, Option, Some}
use Rattle.image_load.specs.Contents.{Contents, started}
use Rattle.tcc_cli.specs.Around.{FilesAround, IsUntouched}
use Rattle.tcc_cli.specs.Failing.{IsNotWritten}
use Rattle.tcc_cli.specs.Lines.{IsCut, IsSilent}
use Rattle.tcc_cli.specs.Long.{open_text}
use Rattle.tcc_cli.specs.declared.refusal.Refusal.{Refusal}
use Rattle.tcc_cli.specs.declared.refusal.Refusal.TheVariants as why
use Rattle.tcc_words.specs.declared.command.View.{View}
use Rattle.tcc_world.specs.Faults.{Rose}
use Rattle.tcc_world.specs.Page.{Written}
use Rattle.watch_run.specs.Runs.{IsRunOf, RunData, seed_events}
use Rattle.watch_run.specs.Written.{IsPart}

-- the text is what is written of the run's further steps while they are taken
abbrev pub IsOpenText : View → (asked : ℕ) → RunData → (more : ℕ) → (text : List ℕ) → Type 0
IsOpenText view asked r more text = (c : Contents) (n : ℕ) → IsRunOf c n r
    → text ≡ open_text view (Some (r.seed, asked)) r.machine.events (started c) (seed_events c r.seed (n + more))

-- a first part of it was written
abbrev pub IsOpenBegun : View → (asked : ℕ) → RunData → (more : ℕ) → (before after : Option (List ℕ)) → Type 0
IsOpenBegun view asked r more before after = (c : Contents) (n : ℕ) → IsRunOf c n r
    → IsPart (open_text view (Some (r.seed, asked)) r.machine.events (started c) (seed_events c r.seed (n + more))) before after

-- and why no more
abbrev pub IsOpenStopped : View → (asked : ℕ) → RunData → (more : ℕ) → Written → Refusal → Type 0
IsOpenStopped view asked r more o why.Memory = IsOpenBegun view asked r more o.before.bytes o.after.bytes
IsOpenStopped view asked r more o why.Output =
    IsOpenBegun view asked r more o.before.bytes o.after.bytes × Rose o.before.faults o.after.faults
IsOpenStopped view asked r more o _ = ⊥

-- Such a run wasn't told whole: its checkpoint is refused, memory ran out, the output failed, or the checkpoint that it leaves wasn't
-- written, which is before what tells of its end.
abbrev pub IsGrowthStopped : (Ran : Bool → List ℕ → Type 0) → (Began : Written → Type 0) → (Resumes : Type 0) → (keep : Option (List ℕ))
    → FilesAround → Written → Refusal → Type 0
IsGrowthStopped Ran Began Resumes keep f o (why.Schedule line) = Resumes × IsSilent o × IsUntouched f
IsGrowthStopped Ran Began Resumes keep f o why.Memory = (IsSilent o ⊎ Began o) × IsUntouched f
IsGrowthStopped Ran Began Resumes keep f o (why.Store name) = IsNotWritten keep f (why.Store name) × Began o
IsGrowthStopped Ran Began Resumes keep f o why.Output =
    ((done : Bool) × (text : List ℕ) × Ran done text × IsCut text o) ⊎ (Began o × Rose o.before.faults o.after.faults × IsUntouched f)
IsGrowthStopped Ran Began Resumes keep f o _ = ⊥
