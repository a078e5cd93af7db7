-- Line by line.
use Rattle.std.proofs.Common.{◌≡◌, ◌++◌, ◌∙◌, ap, arith, codes}
use Rattle.std.specs.List.{flat_map}
use Rattle.rules_maps.specs.Shape.{lines}
use Rattle.rules_tcc.specs.Seen.{numbers}
use Rattle.checkpoint_text.specs.Directories.{line_row}
use Rattle.checkpoint_text.specs.Written.{table_text}
use Rattle.checkpoint_text.proofs.Written.{lines-more, lines-start}
use Rattle.checkpoint_text.proofs.directories.push_line_table.Goals as goal

pub loop-line-init : goal.loop-line-init
loop-line-init c = lines-start _ (line_row c.args.system.now.cores.code c.args.system.now.dirs.dirs) _

pub loop-line-preserved : goal.loop-line-preserved
loop-line-preserved c =
    lines-more _ (line_row c.args.system.now.cores.code c.args.system.now.dirs.dirs) c.loop-line.line _ _ _ c.loop-line.invariant
    c.in_ok-push_line.ensures

pub returns : goal.returns
returns c =
    let m = c.args.system.now in
    let row = line_row m.cores.code m.dirs.dirs in
    let all : c.loop-line.line ≡ lines c.config.result.now =
    omega (arith, c.words-line-end.ensures.value, c.loop-line.auto.line-end, c.loop-line-test.false) in
    c.loop-line.invariant
    ∙ ap (λ n. c.args.text.now ++ table_text (codes "line") (flat_map row (numbers n))) (all ∙ ap lines c.config.ensures)
