-- The directories of the world are those of the bank.
use Rattle.std.proofs.Common.{◌≡◌, ◌∙◌, ap}
use Rattle.image_load.specs.Start.{first_ram}
use Rattle.tcc_base.specs.Settings.{Settings}
use Rattle.rules_maps.specs.Shape.{home}
use Rattle.rules_tcc.specs.State.{DirState}
use Rattle.machine_dirs.specs.Bank.{dirs_of}
use Rattle.net_core.specs.Inside.{machine_of}
use Rattle.net_core.specs.Machine.{Machine, settings_of, start_of, world_of}
use Rattle.net_core.proofs.system.System.line_state.Goals as goal

-- the line's home in the bank and in the world
same-home : (c : goal.After-line_state) → let m = machine_of c.self.inside in
    dirs_of (first_ram (start_of m)) m.dirs (home m.dirs.settings c.args.line.0)
    ≡ (world_of c.args.self.now).dirs (home (settings_of c.args.self.now) c.args.line.0)
unfolding world_of
same-home c =
    let m = machine_of c.self.inside in
    ap (λ (s : Settings). dirs_of (first_ram (start_of m)) m.dirs (home s c.args.line.0)) c.self.invariant.dirs
    ∙ ap (λ (n : Machine). dirs_of (first_ram (start_of n)) n.dirs (home (settings_of n) c.args.line.0)) c.self.view_is

pub returns-clause-mark : goal.returns-clause-mark
returns-clause-mark c =
    c.line_state.ensures.mark (first_ram (start_of (machine_of c.self.inside)))
    ∙ ap (λ (d : DirState). d.lines.mark c.args.line.0) (same-home c)

pub returns-clause-owner : goal.returns-clause-owner
returns-clause-owner c =
    c.line_state.ensures.owner (first_ram (start_of (machine_of c.self.inside)))
    ∙ ap (λ (d : DirState). d.lines.owner c.args.line.0) (same-home c)

pub returns-clause-asked : goal.returns-clause-asked
returns-clause-asked c =
    c.line_state.ensures.asked (first_ram (start_of (machine_of c.self.inside)))
    ∙ ap (λ (d : DirState). d.lines.asked c.args.line.0) (same-home c)

pub returns-clause-tag : goal.returns-clause-tag
returns-clause-tag c =
    c.line_state.ensures.tag (first_ram (start_of (machine_of c.self.inside)))
    ∙ ap (λ (d : DirState). d.lines.tag c.args.line.0) (same-home c)
