-- One instruction of the program, told by the instruction that its pc finds.
use Rattle.std.proofs.Common.{ℕ, ◌≡◌, Option, Some, None, refl}
use Rattle.image_load.specs.Start.{Start}
use Rattle.rv_code.specs.Instructions.{Runs, FailsToFetch}
use Rattle.rv_code.specs.Machine.{program, in_ram}
use Rattle.rv_decode.specs.declared.instruction.Inst.{Inst}
use Rattle.rv_exec.specs.Effects.{planned}
use Rattle.rv_exec.specs.Running.{bounded, alone}
use Rattle.rv_plain.specs.Buffered.{Buffered, buffered, buffered_step, seen}
use Rattle.tcc_base.specs.declared.access.Size.TheVariants.{Word}
use Rattle.rules_program.specs.Plain.{Trapped}
use Rattle.rules_program.specs.Program.{unreserved, Need, Nothing, Loads, Stores, Changes, Prints, Ends, Halts, Traps, Program}
use Rattle.rules_program.specs.Ram.{loaded}

pub buffered-after : (base : ℕ) (p q : Program) (b : Buffered) → ((x : Option ℕ) → p.after b.local x ≡ q.after b.local x)
    → (n : Need) → buffered base p b n ≡ buffered base q b n
buffered-after base p q b h Nothing = rw (h None) refl
buffered-after base p q b h (Loads addr size) = rw (h (Some (loaded base (seen b.ram b.buffer) addr size))) refl
buffered-after base p q b h (Stores addr size value) = rw (h None) refl
buffered-after base p q b h (Changes addr changed) = rw (h (Some (loaded base (seen b.ram b.buffer) addr Word))) refl
buffered-after base p q b h (Prints byte) = rw (h None) refl
buffered-after base p q b h Ends = rw (h None) refl
buffered-after base p q b h (Halts code) = refl
buffered-after base p q b h (Traps code) = refl

pub buffered_step-found : (base : ℕ) (s : Start) (b : Buffered) (inst : Inst) → Runs s b.local inst
    → buffered_step base (program s) b ≡ buffered base (alone inst) b (bounded (in_ram s.settings) (planned inst b.local))
unfolding buffered_step
buffered_step-found base s b inst r =
    rw r.need (buffered-after base (program s) (alone inst) b r.after (bounded (in_ram s.settings) (planned inst b.local)))

pub buffered_step-failed : (base : ℕ) (s : Start) (b : Buffered) (trap : ℕ) → FailsToFetch s b.local trap
    → buffered_step base (program s) b ≡ record b { local = unreserved b.local; outcome = Trapped trap }
unfolding buffered_step
buffered_step-failed base s b trap h = rw h refl
