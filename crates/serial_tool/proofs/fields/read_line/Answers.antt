use Rattle.std.proofs.Common.{◌≡◌, ◌++◌, ◌≤◌, Some, codes, arith}
use Rattle.std.proofs.lemmas.Bool.Decides.{Decides-eqb}
use Rattle.std.proofs.lemmas.Slice.Eq.{strip_prefix_is}
use Rattle.serial_tool.specs.Lines.{commit_word}
use Rattle.serial_tool.proofs.Texts.{behind-word, numbers-text}
use Rattle.serial_tool.proofs.fields.read_line.Goals as goal

pub returns-in_default-from_utf8 : goal.returns-in_default-from_utf8
returns-in_default-from_utf8 c =
    let parts : c.args.line.now ≡ commit_word ++ c.in-Some.text.now =
    strip_prefix_is Decides-eqb c.args.line.now (codes "commit ") (Some c.in-Some.text) c.in-Some.ensures.cases in
    let few : c.args.cores ≤ 256 = omega arith in (
      (c.in-Some.text.now, parts),
      λ o is. c.in_default-from_utf8.ensures.cases.0
          (numbers-text c.args.cores c.in-Some.text.now o few (behind-word c.args.cores c.args.line.now c.in-Some.text.now o parts is)),
    )
