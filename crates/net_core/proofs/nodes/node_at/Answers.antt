-- A core, a directory, the vendor, or none.
use Rattle.std.proofs.Common.{◌-◌, sym, arith}
use Rattle.net_core.proofs.Places.{core-at, dir-at, no-more, vendor-at}
use Rattle.net_core.proofs.nodes.node_at.Goals as goal

pub returns-then-place-cores : goal.returns-then-place-cores
returns-then-place-cores c =
    sym (core-at c.args.config.now c.args.place (omega (arith, c.cores-cores.ensures.value, c.if-place-cores.true)))

pub returns-then-place-cores-2 : goal.returns-then-place-cores-2
returns-then-place-cores-2 c =
    sym (dir-at c.args.config.now c.args.place (c.args.place - c.cores-cores.result)
    (omega (arith, c.cores-cores.ensures.value, c.if-place-cores.false))
    (omega (arith, c.dirs-dirs.ensures.value, c.if-place-cores-2.true)))

pub returns-then-place-cores-3 : goal.returns-then-place-cores-3
returns-then-place-cores-3 c =
    sym (vendor-at c.args.config.now c.args.place
    (omega (arith, c.cores-cores.ensures.value, c.dirs-dirs.ensures.value, c.if-place-cores.false, c.if-place-cores-3.true)))

pub returns-else-place-cores-3 : goal.returns-else-place-cores-3
returns-else-place-cores-3 c =
    sym (no-more c.args.config.now c.args.place
    (omega (
      arith,
      c.cores-cores.ensures.value,
      c.dirs-dirs.ensures.value,
      c.if-place-cores.false,
      c.if-place-cores-2.false,
      c.if-place-cores-3.false,
    )))
