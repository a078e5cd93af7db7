-- The marked ones in front, and behind it.
use Rattle.std.proofs.Common.{sym, ap, ◌∙◌, ◌++◌, ◌-◌, arith}
use Rattle.std.specs.Prelude.{slice_get}
use Rattle.machine_links.proofs.Numbers.{ready-laid}
use Rattle.machine_links.proofs.Pieces.{ready, ready-left, ready-right}
use Rattle.machine_links.proofs.lane.Lane.ready_at.Goals as goal

pub returns-then-k-marked : goal.returns-then-k-marked
returns-then-k-marked c =
    let i = c.self.inside in
    let listed = ap (λ ks. slice_get ks c.args.k) (ready-laid i.sent (i.front ++ i.rest) c.self.invariant.rising) in
    rw (← c.self.view_is) (c.nth_ready.ensures
    ∙ (sym (ready-left i.front i.rest c.args.k (omega (arith, c.if-k-marked.true, c.marked-marked.ensures))) ∙ sym listed))

pub returns-else-k-marked : goal.returns-else-k-marked
returns-else-k-marked c =
    let i = c.self.inside in
    let listed = ap (λ ks. slice_get ks c.args.k) (ready-laid i.sent (i.front ++ i.rest) c.self.invariant.rising) in
    rw (← c.self.view_is) (c.nth_ready-else-k-marked.ensures
    ∙ (ap (λ n. slice_get (ready i.rest) (c.args.k - n)) c.marked-marked.ensures
    ∙ (sym (ready-right i.front i.rest c.args.k (omega (arith, c.if-k-marked.false, c.marked-marked.ensures))) ∙ sym listed)))
