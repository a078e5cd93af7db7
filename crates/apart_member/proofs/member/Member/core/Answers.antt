-- A core at its start.
use Rattle.std.proofs.Common.{◌∙◌, ap}
use Rattle.std.specs.Arc.{arc_value}
use Rattle.image_load.specs.Contents.{started}
use Rattle.core_node.specs.View.{core_of}
use Rattle.apart_member.specs.declared.kind.MemberKind.TheVariants as kind
use Rattle.apart_member.proofs.Starts.{core-starts, starts-there}
use Rattle.apart_member.proofs.member.Member.core.Goals as goal

pub at_start-requires-clause-start : goal.at_start-requires-clause-start
at_start-requires-clause-start c =
    core-starts (arc_value c.args.code) c.args.id.0 c.config.result.now c.entry.result (core_of c.in_ok-core.core)
    (c.config.ensures ∙ ap (λ k. k.settings) c.deref.ensures)
    (c.entry.ensures ∙ ap (λ k. (started k).entry c.args.id.0) c.deref-2.ensures)
    c.in_ok-core.ensures.state

pub returns-clause-start : goal.returns-clause-start
returns-clause-start c =
    starts-there (arc_value c.args.code) c.at_start.result (kind.Core c.args.id c.in_ok-core.core) c.at_start.ensures
    (core-starts (arc_value c.args.code) c.args.id.0 c.config.result.now c.entry.result (core_of c.in_ok-core.core)
    (c.config.ensures ∙ ap (λ k. k.settings) c.deref.ensures)
    (c.entry.ensures ∙ ap (λ k. (started k).entry c.args.id.0) c.deref-2.ensures)
    c.in_ok-core.ensures.state)
