-- What every state that a run reaches satisfies.
use Rattle.std.specs.Prelude.{List}
use Rattle.rules_maps.specs.Shape.{Shape}
use Rattle.rules_tcc.specs.State.{World}
use Rattle.rules_tcc.specs.Step.{History}
use Rattle.theorem_serial.specs.Asked.{KeptAsked}
use Rattle.theorem_serial.specs.Committing.{KeptCommitting}
use Rattle.theorem_serial.specs.Counted.{KeptCounted}
use Rattle.theorem_serial.specs.Marks.{KeptMarks}
use Rattle.theorem_serial.specs.Masked.{KeptMasks}
use Rattle.theorem_serial.specs.Named.{KeptNamed}
use Rattle.theorem_serial.specs.OneCore.{KeptCores}
use Rattle.theorem_serial.specs.Owners.{Grant, KeptOwners, LastGranted, SparesCommitter}
use Rattle.theorem_serial.specs.Probing.{KeptProbing}
use Rattle.theorem_serial.specs.Tids.{KeptTids}
use Rattle.theorem_serial.specs.Partly.{KeptWhole}
use Rattle.theorem_serial.specs.Owed.{KeptOwed}
use Rattle.theorem_serial.specs.Probes.{KeptProbes}
use Rattle.theorem_serial.specs.Stored.{KeptStored}
use Rattle.theorem_serial.specs.Told.{KeptLive, KeptCommitted}
use Rattle.theorem_serial.specs.Ways.{Ways, KeptWays}
use Rattle.theorem_serial.specs.Worked.{KeptLoads, KeptWorked}

-- where TIDs are, and what is owed
pub record KeptTold (sh : Shape) (w : World) : Type 0 where
  pub tids : KeptTids sh w
  pub owed : KeptOwed sh w

pub record Kept (sh : Shape) (w : World) : Type 0 where
  pub told : KeptTold sh w
  pub probes : KeptProbes sh w

-- all of it, along a run whose grants are gs
pub record KeptAll (sh : Shape) (gs : List Grant) (h : History) : Type 0 where
  pub kept : Kept sh h.world
  pub owners : KeptOwners sh gs h.world h.commits
  pub cores : KeptCores sh h.world
  pub committing : KeptCommitting h.world
  pub probing : KeptProbing h.world
  pub last : LastGranted gs h.world
  pub spared : SparesCommitter sh gs h.world
  pub marks : KeptMarks sh gs h.world
  pub counted : KeptCounted sh h.world
  pub whole : KeptWhole sh h.world
  pub named : KeptNamed sh h.world
  pub asked : KeptAsked sh h.world
  pub masks : KeptMasks sh h.world
  pub stored : KeptStored sh h.commits h.world

-- and the ways ys in which each TID was given to each directory, and where the commits worked
pub record KeptRun (sh : Shape) (gs : List Grant) (ys : Ways) (h : History) : Type 0 where
  pub all : KeptAll sh gs h
  pub ways : KeptWays sh ys h.world
  pub live : KeptLive sh ys h.world
  pub committed : KeptCommitted sh ys h.commits
  pub loads : KeptLoads sh h.world
  pub worked : KeptWorked sh h.world h.commits
