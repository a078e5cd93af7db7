-- What the proofs take of a state that a run reaches.
use Rattle.std.specs.Prelude.{ℕ, ◌<◌, List, Contains}
use Rattle.std.proofs.Common.{arith}
use Rattle.rules_program.specs.Program.{Program}
use Rattle.rules_maps.specs.Shape.{Shape}
use Rattle.rules_tcc.specs.Step.{History}
use Rattle.theorem_serial.specs.Invariants.{Carried, CarriedInMemory}
use Rattle.theorem_serial.specs.Owners.{Grant}
use Rattle.theorem_serial.specs.Ways.{Ways}
use Rattle.theorem_serial.proofs.Lemmas.{numbered-most}
use Rattle.theorem_live.specs.Fits.{KeptFits}
use Rattle.theorem_live.specs.Progress.{IsEquipped}

pub record Reached (sh : Shape) (p : Program) (h : History) : Type 0 where
  -- the grants and the ways of TIDs along the run
  pub grants : List Grant
  pub ways : Ways
  pub equipped : IsEquipped sh p
  pub fits : KeptFits sh h.world
  pub carried : Carried sh grants ways h
  pub memory : CarriedInMemory sh h

-- a TID that was granted is below the vendor's next
pub granted_below : (sh : Shape) (p : Program) (h : History) (c t : ℕ) (k : Reached sh p h)
    → Contains k.grants (record { tid = t; core = c }) → t < h.world.next
granted_below sh p h c t k m =
    let g = k.carried.granted_tids_are_those_below_next in
    omega (arith, numbered-most 1 k.grants (record { tid = t; core = c }) (g.0) m, g.1)
