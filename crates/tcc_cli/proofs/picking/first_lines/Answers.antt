-- The version, and the settings behind it.
use Rattle.std.proofs.Common.{◌++◌, ◌∙◌, ap}
use Rattle.schedule_text.specs.Grammar.{config_line, version_line}
use Rattle.tcc_cli.proofs.picking.first_lines.Goals as goal

pub returns : goal.returns
returns c =
    let k = c.args.config.now in
    c.in_ok-push_config.ensures
    ∙ ap (λ t. t ++ config_line k) (c.in_ok-push_version.ensures
    ∙ ap (λ t. t ++ version_line c.version_needed.result) c.new-text.ensures.bytes
    ∙ ap version_line c.version_needed.ensures)
