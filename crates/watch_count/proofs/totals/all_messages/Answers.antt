-- The next kind is added.
use Rattle.std.proofs.Common.{get_or, arith, refl, rules}
use Rattle.std.proofs.lemmas.Grind.{common_steps}
use Rattle.watch_count.specs.Messages.{no_messages}
use Rattle.watch_count.specs.Totals.{messages_sum, all_messages}
use Rattle.watch_count.specs.Sizes.{messages_size}
use Rattle.watch_count.proofs.Adding.{messages-add, messages-more}
use Rattle.watch_count.proofs.totals.all_messages.Goals as goal

pub loop-kind-init : goal.loop-kind-init
unfolding messages_size
loop-kind-init c = rw c.nothing-total.ensures (record { total = refl; small = omega arith })

pub loop-kind-preserved : goal.loop-kind-preserved
loop-kind-preserved c =
    let i = c.loop-kind.kind-index in
    let adds = messages-add c.loop-kind.total (get_or c.args.messages.now i no_messages) in
    let one = c.requires i no_messages (search rules) in
    record {
      total = messages-more c.args.messages.now i no_messages c.loop-kind.total c.add_messages.new.to (all_messages c.args.messages.now)
          (search rules) c.add_messages.ensures c.loop-kind.invariant.total;
      small = rw c.add_messages.ensures (omega (arith, adds, one, c.loop-kind.invariant.small));
    }

pub returns : goal.returns
unfolding messages_sum
returns c = grind (arith, common_steps)
