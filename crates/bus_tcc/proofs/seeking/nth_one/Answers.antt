-- Half by half.
use Rattle.std.proofs.Common.{◌<◌, refl, arith}
use Rattle.bus_tcc.proofs.Halves.{IsSought, all-bits, last-bit}
use Rattle.bus_tcc.proofs.seeking.nth_one.Goals as goal

sought : (c : goal.After-half-3) → IsSought c.args.bits c.args.k c.half-3.result.at
sought c =
    let m = c.args.bits in
    let k = c.args.k in
    let fits : m < 18446744073709551616 = omega (arith, c.ranges.bits.fits) in
    let all = all-bits m k _ fits refl refl refl c.requires in
    last-bit m k c.half-3.result
    (c.half-3.ensures.among m k (c.half-2.ensures.among m k (c.half-few.ensures.among m k (c.half.ensures.among m k
    (c.sixteen.ensures.among m k all)))))

pub returns-clause-set : goal.returns-clause-set
returns-clause-set c = (sought c).set

pub returns-clause-before : goal.returns-clause-before
returns-clause-before c = (sought c).before
