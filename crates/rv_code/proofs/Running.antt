-- What the program does, told by the instruction that was found.
use Rattle.std.proofs.Common.{ℕ, ◌≡◌, Option, Some, None, refl, ap}
use Rattle.image_load.specs.Start.{Start}
use Rattle.rv_code.specs.Instructions.{Runs, FailsToFetch, Finds}
use Rattle.rv_code.specs.Machine.{program, in_ram}
use Rattle.rv_decode.specs.Decoding.{decoded}
use Rattle.rv_decode.specs.declared.instruction.Inst.{Inst}
use Rattle.rv_exec.specs.Effects.{planned, finished}
use Rattle.rv_exec.specs.Running as rv32ima
use Rattle.rv_exec.specs.Running.{bounded, need_of_word, need_of_inst, after_word, after_inst}
use Rattle.tcc_base.specs.Settings.{Settings}
use Rattle.rules_program.specs.Program.{Local, Traps}

found-need : (s : Settings) (l : Local) (f : Option ℕ) (inst : Inst) → Finds f inst
    → need_of_word (in_ram s) l f ≡ bounded (in_ram s) (planned inst l)
found-need s l None inst h = absurd h
found-need s l (Some w) inst h = ap (need_of_inst (in_ram s) l) h

found-after : (l : Local) (x f : Option ℕ) (inst : Inst) → Finds f inst → after_word l x f ≡ finished inst l x
found-after l x None inst h = absurd h
found-after l x (Some w) inst h = ap (after_inst l x) h

pub runs-found : (s : Start) (l : Local) (inst : Inst) → Finds (s.fetch l.pc) inst → Runs s l inst
unfolding program rv32ima.program
runs-found s l inst h = record {
  need = found-need s.settings l (s.fetch l.pc) inst h;
  after = λ x. found-after l x (s.fetch l.pc) inst h;
}

pub fails-unfetched : (s : Start) (l : Local) → s.fetch l.pc ≡ None → FailsToFetch s l 1
unfolding program rv32ima.program
fails-unfetched s l h = ap (need_of_word (in_ram s.settings) l) h

pub fails-undecoded : (s : Start) (l : Local) (w : ℕ) → s.fetch l.pc ≡ Some w → decoded w ≡ None → FailsToFetch s l 2
unfolding program rv32ima.program
fails-undecoded s l w h e = rw (h, e) refl

pub runs-decoded : (s : Start) (l : Local) (w : ℕ) (inst : Inst) → s.fetch l.pc ≡ Some w → decoded w ≡ Some inst → Runs s l inst
runs-decoded s l w inst h e = runs-found s l inst (rw h e)
