-- The directories of the world are those of the bank.
use Rattle.std.proofs.Common.{◌∙◌, ap}
use Rattle.image_load.specs.Start.{first_ram}
use Rattle.machine_dirs.specs.Bank.{dirs_of}
use Rattle.net_core.specs.Inside.{machine_of}
use Rattle.net_core.specs.Machine.{Machine, start_of, world_of}
use Rattle.net_core.proofs.system.System.serving.Goals as goal

pub returns : goal.returns
unfolding world_of
returns c =
    c.serving.ensures (first_ram (start_of (machine_of c.self.inside)))
    ∙ ap (λ (m : Machine). (dirs_of (first_ram (start_of m)) m.dirs c.args.dir.0).serving.serving) c.self.view_is
