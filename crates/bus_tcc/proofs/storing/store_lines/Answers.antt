-- All lines are stored.
use Rattle.std.proofs.Common.{◌≡◌, ◌+◌, ◌-◌, ◌<◌, [], length, subst, arith}
use Rattle.tcc_base.specs.declared.access.Tagged.{Tagged}
use Rattle.bus_tcc.proofs.Stores.{StoredFrom, from-first, from-last, from-next}
use Rattle.bus_tcc.proofs.storing.store_lines.Goals as goal

unfoldable none : Tagged
none = record { line = record { 0 = 0 }; mask = record { 0 = 0 }; words = []; tag = record { 0 = 0 } }

pub loop-left-init : goal.loop-left-init
loop-left-init c = record { so_far = from-last c.args.lines.now c.args.ram.now; most = omega arith }

pub store_line-requires : goal.store_line-requires
unfolding none
store_line-requires c =
    let i = c.loop-left.left - 1 in
    let l : i < length c.args.lines.now = omega (arith, c.loop-left-test.true, c.loop-left.invariant.most) in
    let fits = c.requires i none l in
    omega (arith, fits, c.loop-left.auto.ram)

pub loop-left-preserved : goal.loop-left-preserved
unfolding none
loop-left-preserved c =
    let i = c.loop-left.left - 1 in
    let l : i < length c.args.lines.now = omega (arith, c.loop-left-test.true, c.loop-left.invariant.most) in
    let back : c.loop-left.left ≡ i + 1 = omega (arith, c.loop-left-test.true) in
    record {
      so_far = from-next c.args.lines.now i none c.args.ram.now c.loop-left.ram c.store_line.new.ram
          (subst (λ k. StoredFrom c.args.lines.now k c.args.ram.now c.loop-left.ram) back c.loop-left.invariant.so_far) l
          c.store_line.ensures.count c.store_line.ensures.words;
      most = omega (arith, l);
    }

pub returns : goal.returns
returns c =
    let first : c.loop-left.left ≡ 0 = omega (arith, c.loop-left-test.false) in
    record {
      count = c.loop-left.invariant.so_far.count;
      words = from-first c.args.lines.now c.loop-left.left c.args.ram.now c.loop-left.ram c.loop-left.invariant.so_far first;
    }
