-- A line is stored.
use Rattle.std.proofs.Common.{◌≡◌, refl, subst, arith}
use Rattle.bus_tcc.proofs.Stores.{Stored, stored-all, stored-first, stored-next}
use Rattle.bus_tcc.proofs.storing.store_line.Goals as goal

pub loop-k-init : goal.loop-k-init
loop-k-init c = stored-first _ _

pub loop-k-preserved : goal.loop-k-preserved
loop-k-preserved c =
    stored-next c.args.line.now c.loop-k.k _ c.args.ram.now c.loop-k.ram c.store_if.new.ram c.holds.result c.loop-k.invariant
    c.loop-k-test.true
    c.requires c.holds.ensures refl c.store_if.ensures

pub returns : goal.returns
returns c =
    let all : c.loop-k.k ≡ 8 = omega (arith, c.loop-k-test.false, c.loop-k.auto.k-end) in
    let done : Stored c.args.line.now 8 c.args.ram.now c.loop-k.ram =
    subst (λ k. Stored c.args.line.now k c.args.ram.now c.loop-k.ram) all c.loop-k.invariant in
    record { count = done.count; words = stored-all c.args.line.now c.args.ram.now c.loop-k.ram done }
