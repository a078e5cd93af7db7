-- The tables of cores.
use Rattle.std.specs.Prelude.{ℕ, ◌+◌, List, [], ◌∷◌, ◌++◌, map, codes, Option, Some, None}
use Rattle.tcc_base.specs.declared.names.Tid.{Tid}
use Rattle.rv_exec.specs.declared.outcome.Outcome.{Outcome}
use Rattle.rv_exec.specs.declared.outcome.Outcome.TheVariants as outcome
use Rattle.commit_engine.specs.declared.phase.Phase.{Phase}
use Rattle.commit_engine.specs.declared.phase.Phase.TheVariants as phase
use Rattle.spec_cache.specs.declared.frame.FrameView.{FrameView}
use Rattle.overflow_buf.specs.declared.line.SpilledLine.{SpilledLine}
use Rattle.core_node.specs.declared.state.Awaited.{Awaited}
use Rattle.core_node.specs.declared.state.Core.{Core}
use Rattle.checkpoint_text.specs.Tables.{Table, all, each, numbered}
use Rattle.checkpoint_text.specs.Numbers.{byte_numbers, flag, load_numbers, local_numbers, stored_numbers}

abbrev pub outcome_numbers : Outcome → List ℕ
outcome_numbers outcome.Goes = 0 ∷ 0 ∷ []
outcome_numbers outcome.Ended = 1 ∷ 0 ∷ []
outcome_numbers (outcome.Halted code) = 2 ∷ code ∷ []
outcome_numbers (outcome.Trapped code) = 3 ∷ code ∷ []

abbrev pub phase_numbers : Phase → List ℕ
phase_numbers phase.Running = 0 ∷ 0 ∷ []
phase_numbers phase.AwaitTid = 1 ∷ 0 ∷ []
phase_numbers phase.DoomedTid = 2 ∷ 0 ∷ []
phase_numbers (phase.Probing t) = 3 ∷ t.0 ∷ []
phase_numbers (phase.Ready t) = 4 ∷ t.0 ∷ []
phase_numbers (phase.Overflowing None) = 5 ∷ 0 ∷ []
phase_numbers (phase.Overflowing (Some t)) = 6 ∷ t.0 ∷ []
phase_numbers (phase.Solo t) = 7 ∷ t.0 ∷ []
phase_numbers phase.Halted = 8 ∷ 0 ∷ []

-- none, or whether it is stale, and the line
abbrev pub awaited_numbers : Option Awaited → List ℕ
awaited_numbers None = 0 ∷ 0 ∷ []
awaited_numbers (Some a) = (1 + flag a.stale) ∷ a.line.0 ∷ []

-- instructions, how it ended, phase, the directories that owe a reply as bits, and the line that is awaited
unfoldable pub core_numbers : Core → List ℕ
core_numbers c = c.n ∷ (outcome_numbers c.ended ++ (phase_numbers c.phase ++ (c.owing.bits ∷ awaited_numbers c.awaited)))

unfoldable pub frame_numbers : FrameView → List ℕ
frame_numbers f = f.line.0 ∷ f.valid.0 ∷ f.read.0 ∷ f.modified.0 ∷ f.dirty.0 ∷ f.tag.0 ∷ f.words

-- the frames of the ways from this one on, each behind its way's number
unfoldable pub frame_rows : (way : ℕ) → List (Option FrameView) → List (List ℕ)
frame_rows way [] = []
frame_rows way (None ∷ ways) = frame_rows (way + 1) ways
frame_rows way (Some f ∷ ways) = (way ∷ frame_numbers f) ∷ frame_rows (way + 1) ways

unfoldable pub spilled_numbers : ℕ × SpilledLine → List ℕ
spilled_numbers e = e.0 ∷ e.1.mask.0 ∷ e.1.words

-- the tables, of all cores each
unfoldable pub core_tables : List Core → List Table
core_tables cs =
    record { word = codes "core"; rows = numbered (each core_numbers) 0 cs }
    ∷ record { word = codes "state"; rows = numbered (each (λ (c : Core). local_numbers c.state)) 0 cs }
    ∷ record { word = codes "saved"; rows = numbered (each (λ (c : Core). local_numbers c.check)) 0 cs }
    ∷ record { word = codes "after"; rows = numbered (each (λ (c : Core). map (λ (t : Tid). t.0) c.after)) 0 cs }
    ∷ record { word = codes "frame"; rows = numbered (all (λ (c : Core). frame_rows 0 c.cache.frames) (λ row. row)) 0 cs }
    ∷ record { word = codes "spilled"; rows = numbered (all (λ (c : Core). c.spilled) spilled_numbers) 0 cs }
    ∷ record { word = codes "load"; rows = numbered (all (λ (c : Core). c.loads) load_numbers) 0 cs }
    ∷ record { word = codes "store"; rows = numbered (all (λ (c : Core). c.stores) stored_numbers) 0 cs }
    ∷ record { word = codes "byte"; rows = numbered (all (λ (c : Core). c.console) byte_numbers) 0 cs }
    ∷ []
