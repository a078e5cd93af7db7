-- The directories of the world are those of the bank.
use Rattle.std.proofs.Common.{◌≡◌, ◌∙◌, ap, subst, sym}
use Rattle.directory.specs.Data.{dir_of}
use Rattle.image_load.specs.Start.{first_ram}
use Rattle.tcc_base.specs.Settings.{Settings}
use Rattle.machine_dirs.specs.Bank.{dirs_of}
use Rattle.net_core.specs.Inside.{machine_of}
use Rattle.net_core.specs.Machine.{Machine, settings_of, start_of, world_of}
use Rattle.net_core.proofs.system.System.directory.Goals as goal

pub returns-clause-place : goal.returns-clause-place
returns-clause-place c =
    subst (λ (s : Settings). c.directory.result.now.lines.place ≡ record { shape = s; dir = c.args.dir.0 })
    (c.self.invariant.dirs ∙ ap (λ (m : Machine). settings_of m) c.self.view_is) c.directory.ensures.place

pub returns-clause-state : goal.returns-clause-state
unfolding world_of
returns-clause-state c =
    ap (λ (n : Machine). dir_of (first_ram (start_of n)) c.directory.result.now) (sym c.self.view_is)
    ∙ c.directory.ensures.state (first_ram (start_of (machine_of c.self.inside)))
    ∙ ap (λ (m : Machine). dirs_of (first_ram (start_of m)) m.dirs c.args.dir.0) c.self.view_is
