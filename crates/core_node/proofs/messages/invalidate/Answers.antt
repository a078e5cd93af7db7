use Rattle.std.proofs.Common.{◌≡◌, ◌&&◌, refl, ap, ◌∙◌}
use Rattle.tcc_base.specs.Settings.{Settings}
use Rattle.rules_maps.specs.Shape.{home}
use Rattle.rules_maps.specs.CacheLook.{reads_masked}
use Rattle.rules_tcc.specs.CoreDeliver.{invalidate, is_violated, may_be_above}
use Rattle.spec_cache.specs.Held.{maps}
use Rattle.commit_engine.specs.Engine.{phase_of}
use Rattle.core_node.specs.View.{core_of}
use Rattle.core_node.proofs.Steps.{did_acknowledged}
use Rattle.core_node.proofs.messages.invalidate.Goals as goal

pub returns-clause-does : goal.returns-clause-does
unfolding invalidate is_violated core_of
returns-clause-does c =
    let k = c.args.core.now in
    let same = c.answer_violation.ensures.stays.config ∙ c.strike-read.ensures.stays.config in
    let v : c.both.result ≡ (reads_masked c.args.line.0 c.args.mask.0 (maps k.cache) && may_be_above c.args.tid.0 (phase_of k.phase)) =
    c.both.ensures ∙ rw (c.strike-read.ensures.read, c.may_be_above-above.ensures, c.strike-read.ensures.phase) refl in
    let done = rw (c.strike-read.ensures.stays.config, v, c.strike-read.ensures.does) at c.answer_violation.ensures.does in
    did_acknowledged k.config c.args.line _ _ _ _ _ _ c.home.result c.keeps-keeps.result done c.hand_out.ensures.sent
    c.hand_out.ensures.room
    (c.home.ensures.value ∙ ap (λ (s : Settings). home s c.args.line.0) same) c.keeps-keeps.ensures
