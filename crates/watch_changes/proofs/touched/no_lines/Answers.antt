use Rattle.std.proofs.Common.{ap, sym, ◌∙◌}
use Rattle.rules_maps.specs.Shape.{lines}
use Rattle.watch_changes.specs.Plain.{line_numbers}
use Rattle.watch_changes.proofs.Listing.{those-none}
use Rattle.watch_changes.proofs.touched.no_lines.Goals as goal

pub returns : goal.returns
returns c = ap (λ ls. line_numbers ls) c.new.ensures ∙ sym (those-none (lines c.args.config.now))
