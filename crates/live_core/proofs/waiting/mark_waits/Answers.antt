-- What was read of the line is what its home knows.
use Rattle.std.proofs.Common.{◌≡◌, ◌∙◌, ap, arith}
use Rattle.std.specs.Option.{option_map}
use Rattle.net_core.specs.Machine.{world_of}
use Rattle.live_core.proofs.Tables.{mark-asked, mark-early, mark-past, mark-whole}
use Rattle.live_core.proofs.waiting.mark_waits.Goals as goal
use Rattle.live_core.proofs.waiting.mark_waits.Goals.{then-tid-serving-via-then-tid-serving}
use Rattle.live_core.proofs.waiting.mark_waits.Goals.{then-tid-serving-via-else-tid-serving+then-mask-eq255}

pub returns-then-serving-tid : goal.returns-then-serving-tid
returns-then-serving-tid c =
    mark-early c.args.line.0 c.args.mask.0 c.args.tid.0 c.serving-serving.result.0 ((world_of c.args.system.now).dirs c.args.dir.0)
    c.serving-serving.ensures c.if-serving-tid.true

pub returns-then-tid-serving : goal.returns-then-tid-serving
returns-then-tid-serving c =
    let s = (world_of c.args.system.now).dirs c.args.dir.0 in
    elim c.then-tid-serving.branch [
      | then-tid-serving-via-then-tid-serving w ↦
          mark-past c.args.line.0 c.args.mask.0 c.args.tid.0 c.serving-serving.result.0 s c.serving-serving.ensures w.if-tid-serving.true
      | then-tid-serving-via-else-tid-serving+then-mask-eq255 w ↦
          mark-whole c.args.line.0 c.args.mask.0 c.args.tid.0 c.serving-serving.result.0 s c.serving-serving.ensures
          c.if-serving-tid.false w.if-mask-eq255.true
    ]

pub returns : goal.returns
returns c =
    let w = world_of c.args.system.now in
    let state = c.line_state-state.result in
    let served : c.serving-serving.result.0 ≡ c.args.tid.0 = omega (arith, c.if-serving-tid.false, c.if-tid-serving.false) in
    c.owner_asked.ensures
    ∙ mark-asked c.args.line.0 c.args.mask.0 c.args.tid.0 c.serving-serving.result.0 (w.dirs c.args.dir.0) state.asked
    (option_map (λ k. k.0) state.owner) c.serving-serving.ensures served c.if-mask-eq255.false
    (c.line_state-state.ensures.asked ∙ ap (λ d. (w.dirs d).lines.asked c.args.line.0) c.requires.home)
    (c.line_state-state.ensures.owner ∙ ap (λ d. (w.dirs d).lines.owner c.args.line.0) c.requires.home)
