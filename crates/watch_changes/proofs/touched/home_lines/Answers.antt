-- By the kind of message.
use Rattle.std.proofs.Common.{◌∙◌, sym}
use Rattle.rules_maps.specs.Shape.{lines}
use Rattle.watch_changes.proofs.Silent.{home-silent}
use Rattle.watch_changes.proofs.touched.home_lines.Goals as goal

pub returns-in_default : goal.returns-in_default
returns-in_default c =
    c.no_lines.ensures
    ∙ sym (home-silent c.args.msg.now (lines c.args.config.now) c.in_default.not-WriteBack c.in_default.not-Flush)
