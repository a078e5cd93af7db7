-- A core that has no more to do.
use Rattle.std.specs.Prelude.{◌≡◌, false}
use Rattle.tcc_base.specs.Settings.{Settings}
use Rattle.rules_maps.specs.Cache.{is_dirty}
use Rattle.rules_maps.specs.Shape.{lines}
use Rattle.rules_maps.specs.Words.{any_below}
use Rattle.rules_tcc.specs.State.{CoreState, Halted}

-- it has halted, and no frame has a dirty word of a line in RAM
pub record IsAtRest (s : Settings) (c : CoreState) : Type 0 where
  pub halted : c.phase ≡ Halted
  pub clean : any_below (is_dirty c.cache) (lines s) ≡ false
