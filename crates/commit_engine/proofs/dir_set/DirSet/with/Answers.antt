use Rattle.std.proofs.Common.{◌≡◌, ◌*◌, ◌%◌, ◌^◌}
use Rattle.std.proofs.lemmas.Nat.{one_shl}
use Rattle.commit_engine.proofs.Bits.{has-with}
use Rattle.commit_engine.proofs.dir_set.DirSet.with.Goals as goal

pub returns : goal.returns
returns c =
    let e : (1 * 2 ^ c.args.d.0) % 18446744073709551616 ≡ 2 ^ c.args.d.0 = one_shl c.args.d.0 64 c.requires in
    rw e (λ i j. (has-with c.args.self.bits c.args.d.0 j) i)
