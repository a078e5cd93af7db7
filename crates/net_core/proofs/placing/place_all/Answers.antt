-- One more message is put on its link.
use Rattle.std.proofs.Common.{◌<◌, length, arith}
use Rattle.net_core.proofs.Links.Placing.{next-first, next-goes, next-link, placed-step}
use Rattle.net_core.proofs.placing.place_all.Goals as goal

pub is_ready-ready-requires : goal.is_ready-ready-requires
is_ready-ready-requires c =
    let h : c.loop-placed.placed < length c.args.out.now.list.items = omega (arith, c.args.out.now.list.ok) in
    next-goes _ _ _ _ _ _ _ _ _ c.requires.go c.loop-placed.invariant
    (next-first _ _ c.index.result.now h c.index.ensures)

pub push-requires : goal.push-requires
push-requires c =
    let h : c.loop-placed.placed < length c.args.out.now.list.items = omega (arith, c.args.out.now.list.ok) in
    next-link c.args.dirs.now.settings _ _ _ _ _ _ _ c.index.result.now
    (next-goes _ _ _ _ _ _ _ _ _ c.requires.go c.loop-placed.invariant
    (next-first _ _ c.index.result.now h c.index.ensures))
    c.loop-placed.invariant c.requires.cores c.requires.dirs

pub loop-placed-preserved : goal.loop-placed-preserved
loop-placed-preserved c =
    let h : c.loop-placed.placed < length c.args.out.now.list.items = omega (arith, c.args.out.now.list.ok) in
    placed-step _ _ _ _ _ _ _ _ c.index.result.now c.is_ready-ready.result c.loop-placed.invariant
    (next-first _ _ c.index.result.now h c.index.ensures)
    c.in_ok-push.ensures.cores c.in_ok-push.ensures.dirs c.in_ok-push.ensures.net c.in_ok-push.ensures.ready c.is_ready-ready.ensures
