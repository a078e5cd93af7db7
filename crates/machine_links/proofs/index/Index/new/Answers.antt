-- All lists were passed.
use Rattle.std.proofs.Common.{◌≡◌, [], replicate, ap, ◌∙◌, arith}
use Rattle.machine_links.proofs.index.Index.new.Goals as goal

pub returns : goal.returns
returns c =
    let all : c.loop.counter ≡ 4096 = omega (arith, c.loop.auto.counter-end, c.loop-test.false) in
    c.loop.invariant ∙ ap (λ n. replicate n []) all
