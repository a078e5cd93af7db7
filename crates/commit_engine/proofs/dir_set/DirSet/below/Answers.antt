use Rattle.std.proofs.Common.{◌≡◌, ◌<◌, ◌*◌, ◌%◌, ◌^◌, arith}
use Rattle.std.proofs.lemmas.Nat.{one_shl}
use Rattle.commit_engine.proofs.Bits.{has-below}
use Rattle.commit_engine.proofs.dir_set.DirSet.below.Goals as goal

pub returns-then-count-eq64 : goal.returns-then-count-eq64
returns-then-count-eq64 c = rw c.if-count-eq64.true (λ i d. (has-below 64 d) i)

pub returns-else-count-eq64 : goal.returns-else-count-eq64
returns-else-count-eq64 c =
    let small : c.args.count < 64 = omega arith in
    let e : (1 * 2 ^ c.args.count) % 18446744073709551616 ≡ 2 ^ c.args.count = one_shl c.args.count 64 small in
    rw e (λ i d. (has-below c.args.count d) i)
