-- The tag that was read is the one that the home knows.
use Rattle.std.proofs.Common.{◌∙◌, ap}
use Rattle.std.specs.Prelude.{nat_lt}
use Rattle.net_core.specs.Machine.{world_of}
use Rattle.live_core.specs.declared.reason.Reason.TheVariants.{Tag}
use Rattle.live_core.proofs.Tables.{tested, words-so}
use Rattle.live_core.proofs.waiting.words_wait.Goals as goal

pub returns : goal.returns
returns c =
    let last = c.line_state.result.tag in
    let s = (world_of c.args.system.now).dirs c.args.dir.0 in
    tested c.then_some.result (nat_lt last.0 c.args.tag.0) (Tag last) c.then_some.ensures
    ∙ words-so c.args.line.0 c.args.tag.0 last.0 s
    (c.line_state.ensures.tag ∙ ap (λ d. ((world_of c.args.system.now).dirs d).lines.tag c.args.line.0) c.requires.home)
