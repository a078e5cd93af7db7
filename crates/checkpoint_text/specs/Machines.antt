-- The tables of a machine all of whose messages stand on their links.
use Rattle.std.specs.Prelude.{ℕ, List, [], ◌∷◌, ◌++◌, codes}
use Rattle.tcc_base.specs.Settings.{Settings}
use Rattle.net_core.specs.Machine.{Machine, settings_of}
use Rattle.checkpoint_text.specs.Tables.{Table}
use Rattle.checkpoint_text.specs.Cores.{core_tables}
use Rattle.checkpoint_text.specs.Directories.{directory_tables}
use Rattle.checkpoint_text.specs.Messages.{message_tables}
use Rattle.checkpoint_text.specs.Commits.{commit_tables}

abbrev pub settings_numbers : Settings → List ℕ
settings_numbers s = s.cores ∷ s.dirs ∷ s.sets ∷ s.ways ∷ s.ram ∷ s.base ∷ []

-- the version of such texts; its settings; how many events it has taken, and the TID that is granted next
unfoldable pub head_tables : Machine → List Table
head_tables m =
    record { word = codes "tcc-checkpoint"; rows = (1 ∷ []) ∷ [] }
    ∷ record { word = codes "settings"; rows = settings_numbers (settings_of m) ∷ [] }
    ∷ record { word = codes "events"; rows = (m.events ∷ m.next ∷ []) ∷ [] }
    ∷ []

unfoldable pub machine_tables : Machine → List Table
machine_tables m = head_tables m ++ (core_tables m.cores.cores ++ (directory_tables m.cores.code m.dirs.dirs
    ++ (message_tables m.flights.lanes ++ commit_tables m.commits)))
