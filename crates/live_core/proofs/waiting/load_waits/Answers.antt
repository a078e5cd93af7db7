-- What was read of the line is what its home knows.
use Rattle.std.proofs.Common.{◌∙◌, ap}
use Rattle.std.specs.Option.{option_map}
use Rattle.net_core.specs.Machine.{world_of}
use Rattle.live_core.proofs.Tables.{load-asked, load-early, load-marked}
use Rattle.live_core.proofs.waiting.load_waits.Goals as goal

pub returns-then-serving-after : goal.returns-then-serving-after
returns-then-serving-after c =
    load-early c.args.line.0 c.args.after.0 c.serving-serving.result.0 ((world_of c.args.system.now).dirs c.args.dir.0)
    c.serving-serving.ensures c.if-serving-after.true

pub returns-then-state-gt0 : goal.returns-then-state-gt0
returns-then-state-gt0 c =
    let w = world_of c.args.system.now in
    load-marked c.args.line.0 c.args.after.0 c.serving-serving.result.0 c.line_state-state.result.mark.0 (w.dirs c.args.dir.0)
    c.serving-serving.ensures c.if-serving-after.false
    (c.line_state-state.ensures.mark ∙ ap (λ d. (w.dirs d).lines.mark c.args.line.0) c.requires.home) c.if-state-gt0.true

pub returns : goal.returns
returns c =
    let w = world_of c.args.system.now in
    let state = c.line_state-state.result in
    c.owner_asked.ensures
    ∙ load-asked c.args.line.0 c.args.after.0 c.serving-serving.result.0 state.mark.0 (w.dirs c.args.dir.0) state.asked
    (option_map (λ k. k.0) state.owner) c.serving-serving.ensures c.if-serving-after.false
    (c.line_state-state.ensures.mark ∙ ap (λ d. (w.dirs d).lines.mark c.args.line.0) c.requires.home) c.if-state-gt0.false
    (c.line_state-state.ensures.asked ∙ ap (λ d. (w.dirs d).lines.asked c.args.line.0) c.requires.home)
    (c.line_state-state.ensures.owner ∙ ap (λ d. (w.dirs d).lines.owner c.args.line.0) c.requires.home)
