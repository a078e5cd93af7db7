use Rattle.std.proofs.Common.{refl, ap, sym, ◌∙◌}
use Rattle.spec_cache.specs.Look.{look_of}
use Rattle.core_node.specs.View.{core_of}
use Rattle.core_node.proofs.MissedLines.{fetched_overflow, fetched_waits, never_hits}
use Rattle.core_node.proofs.missing.fetch.Goals as goal

pub returns-then-is_alone-clause-blocked : goal.returns-then-is_alone-clause-blocked
unfolding core_of
returns-then-is_alone-clause-blocked c =
    let k = c.args.core.now in
    rw (
      fetched_overflow k.config c.args.line.0 c.in-Overflow.field-0 (core_of k) (sym (ap look_of c.in-Overflow.is) ∙ c.requires.found),
      ← c.is_alone.ensures,
      c.if-is_alone.true,
    ) refl

pub returns-else-is_alone-clause-does : goal.returns-else-is_alone-clause-does
unfolding core_of
returns-else-is_alone-clause-does c =
    let k = c.args.core.now in
    rw (
      fetched_overflow k.config c.args.line.0 c.in-Overflow.field-0 (core_of k) (sym (ap look_of c.in-Overflow.is) ∙ c.requires.found),
      ← c.is_alone.ensures,
      c.if-is_alone.false,
    ) c.overflow.ensures.does

pub returns-in-NeedsRoom-clause-blocked : goal.returns-in-NeedsRoom-clause-blocked
unfolding core_of
returns-in-NeedsRoom-clause-blocked c =
    let k = c.args.core.now in
    fetched_waits k.config c.args.line.0 c.in-NeedsRoom.field-0 (core_of k) (sym (ap look_of c.in-NeedsRoom.is) ∙ c.requires.found)

pub returns-in-Hit-clause-blocked : goal.returns-in-Hit-clause-blocked
unfolding core_of
returns-in-Hit-clause-blocked c =
    let k = c.args.core.now in
    never_hits k.config c.args.line.0 c.in-Hit.field-0 (core_of k) (sym (ap look_of c.in-Hit.is) ∙ c.requires.found)
