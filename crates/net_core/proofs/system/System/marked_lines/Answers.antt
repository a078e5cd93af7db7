-- The directories of the world are those of the bank.
use Rattle.std.proofs.Common.{◌∙◌, ap}
use Rattle.image_load.specs.Start.{first_ram}
use Rattle.tcc_base.specs.Settings.{Settings}
use Rattle.rules_maps.specs.Lines.{has_mark}
use Rattle.rules_maps.specs.Shape.{lines}
use Rattle.rules_maps.specs.Words.{count_below}
use Rattle.machine_dirs.specs.Bank.{dirs_of}
use Rattle.net_core.specs.Inside.{machine_of}
use Rattle.net_core.specs.Machine.{Machine, settings_of, start_of, world_of}
use Rattle.net_core.proofs.system.System.marked_lines.Goals as goal

pub returns : goal.returns
unfolding world_of
returns c =
    let m = machine_of c.self.inside in
    let d = dirs_of (first_ram (start_of m)) m.dirs c.args.dir.0 in
    c.marked_lines.ensures (first_ram (start_of m))
    ∙ ap (λ (s : Settings). count_below (has_mark d.lines) (lines s)) c.self.invariant.dirs
    ∙ ap (λ (n : Machine). count_below (has_mark (dirs_of (first_ram (start_of n)) n.dirs c.args.dir.0).lines) (lines (settings_of n)))
    c.self.view_is
