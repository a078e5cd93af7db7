-- As many are listed as are kept.
use Rattle.std.proofs.Common.{ap, ◌∙◌, ◌++◌, length, length-append, arith}
use Rattle.std.proofs.lemmas.List.{length-map}
use Rattle.machine_links.proofs.Numbers.{waiting-laid}
use Rattle.machine_links.proofs.lane.Lane.waiting.Goals as goal

pub returns : goal.returns
returns c =
    let i = c.self.inside in
    let listed = ap length (waiting-laid i.sent (i.front ++ i.rest) c.self.invariant.rising)
    ∙ length-map (i.front ++ i.rest) (λ w. w.seq) in
    rw (← c.self.view_is) (omega (arith, listed, c.len.ensures, c.len-2.ensures, length-append i.front i.rest))
