use Rattle.std.proofs.Common.{◌*ℤ◌, FitsSigned, w32, w64, rules, arith}
use Rattle.std.proofs.lemmas.Int.{ints, to_z-of_z}
use Rattle.rv_exec.proofs.Products.{high_word_of_product, product_fits}
use Rattle.rv_exec.specs.Words.{signed}
use Rattle.rv_exec.proofs.operations.mulh.Goals as goal

pub returns : goal.returns
returns c =
    let x = c.cast_signed.result in
    let y = c.cast_signed-2.result in
    let fx : FitsSigned w32 x = search rules in
    let fy : FitsSigned w32 y = search rules in
    let gx : FitsSigned w64 x = search (rules, ints) in
    let gy : FitsSigned w64 y = search (rules, ints) in
    let p : FitsSigned w64 (signed c.args.a *ℤ signed c.args.b) = product_fits c.args.a c.args.b (omega arith) (omega arith) in
    let q : FitsSigned w64 (x *ℤ y) = rw (c.cast_signed.ensures, c.cast_signed-2.ensures) p in
    high_word_of_product c.args.a c.args.b c.cast_unsigned.result x y (omega arith) (omega arith)
    c.cast_signed.ensures c.cast_signed-2.ensures (simp to_z-of_z at c.cast_unsigned.ensures)
