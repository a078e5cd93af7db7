-- A word chooses the next event, where one is left.
use Rattle.std.proofs.Common.{refl}
use Rattle.watch_run.proofs.Picking.{first-chosen, none-chosen, none-left, one-chosen}
use Rattle.watch_run.proofs.events.PickedEvents.next.Goals as goal

pub returns-then-self-eq0-clause-none : goal.returns-then-self-eq0-clause-none
returns-then-self-eq0-clause-none c = λ e. none-left c.args.self.now.left c.args.self.now.chooser c.args.system.now c.if-self-eq0.true

pub returns-clause-none : goal.returns-clause-none
returns-clause-none c =
    none-chosen c.args.self.now.left c.args.self.now.chooser c.args.system.now c.next.result c.if-self-eq0.false c.next.ensures.chosen

pub returns-clause-first : goal.returns-clause-first
returns-clause-first c =
    first-chosen c.args.self.now.left _ c.args.self.now.chooser c.next.new.self c.args.system.now c.next.result c.if-self-eq0.false refl
    c.next.ensures.chosen c.next.ensures.drawn

pub returns-clause-some : goal.returns-clause-some
returns-clause-some c =
    one-chosen c.args.self.now.left c.args.self.now.chooser c.args.system.now c.next.result c.if-self-eq0.false c.next.ensures.chosen
