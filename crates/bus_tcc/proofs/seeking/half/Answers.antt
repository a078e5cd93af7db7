-- The one that is sought is in one of two halves.
use Rattle.std.proofs.Common.{◌%◌, ◌<◌, refl, ap, ◌∙◌, arith}
use Rattle.std.specs.Prelude.{count_ones}
use Rattle.bus_tcc.proofs.Halves.{high-half, low-half, one-shifted}
use Rattle.bus_tcc.proofs.seeking.half.Goals as goal

pub returns-then-all-ones-clause-among : goal.returns-then-all-ones-clause-among
returns-then-all-ones-clause-among c = λ m k h.
    let w = c.args.width in
    let narrow : w < 64 = omega (arith, c.requires) in
    let low = ap (λ n. c.args.all.bits % n) (one-shifted w narrow) in
    low-half m k w c.args.all _ refl low refl (omega (arith, c.if-all-ones.true, c.from-ones.ensures)) h

pub returns-else-all-ones-clause-among : goal.returns-else-all-ones-clause-among
returns-else-all-ones-clause-among c = λ m k h.
    let w = c.args.width in
    let narrow : w < 64 = omega (arith, c.requires) in
    let low = ap (λ n. count_ones (c.args.all.bits % n)) (one-shifted w narrow) in
    high-half m k w c.from-ones.result c.args.all _ (c.from-ones.ensures ∙ low) (omega (arith, c.if-all-ones.false)) refl refl refl h
