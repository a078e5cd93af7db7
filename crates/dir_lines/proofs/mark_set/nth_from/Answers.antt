use Rattle.std.proofs.Common.{rules, ◌+◌, ◌*◌, ◌<◌, ◌≤◌, length, refl, arith}
use Rattle.dir_lines.proofs.Finding.{finds, goes-on}
use Rattle.dir_lines.proofs.mark_set.nth_from.Goals as goal

pub loop-left-init : goal.loop-left-init
loop-left-init c = record { before = refl; some = c.requires.some }

pub bounds-records-at : goal.bounds-records-at
bounds-records-at c = finds c.args.records.now c.args.from c.args.k c.loop-left.at c.loop-left.left c.loop-left.invariant

pub offset_bounds-records-at : goal.offset_bounds-records-at
offset_bounds-records-at c =
    let h : c.loop-left.at < length c.args.records.now =
    finds c.args.records.now c.args.from c.args.k c.loop-left.at c.loop-left.left c.loop-left.invariant in
    let f : length c.args.records.now < 4294967296 = c.requires.fits in
    let s : c.loop-left.at * 32 < 18446744073709551616 = omega arith in
    search rules

pub bounds-records-at-in-loop-left : goal.bounds-records-at-in-loop-left
bounds-records-at-in-loop-left c = finds c.args.records.now c.args.from c.args.k c.loop-left.at c.loop-left.left c.loop-left.invariant

pub offset_bounds-records-at-in-loop-left : goal.offset_bounds-records-at-in-loop-left
offset_bounds-records-at-in-loop-left c =
    let h : c.loop-left.at < length c.args.records.now =
    finds c.args.records.now c.args.from c.args.k c.loop-left.at c.loop-left.left c.loop-left.invariant in
    let f : length c.args.records.now < 4294967296 = c.requires.fits in
    let s : c.loop-left.at * 32 < 18446744073709551616 = omega arith in
    search rules

pub overflow_add-at : goal.overflow_add-at
overflow_add-at c =
    let h : c.loop-left.at < length c.args.records.now =
    finds c.args.records.now c.args.from c.args.k c.loop-left.at c.loop-left.left c.loop-left.invariant in
    let f : length c.args.records.now < 4294967296 = c.requires.fits in
    let s : c.loop-left.at + 1 < 18446744073709551616 = omega arith in
    search rules

pub loop-left-smaller : goal.loop-left-smaller
loop-left-smaller c =
    let h : c.loop-left.at < length c.args.records.now =
    finds c.args.records.now c.args.from c.args.k c.loop-left.at c.loop-left.left c.loop-left.invariant in
    omega arith

pub loop-left-preserved : goal.loop-left-preserved
loop-left-preserved c =
    let left : c.marks_of-left.result ≤ c.loop-left.left =
    omega (arith, c.marks_of-left.ensures, c.marks_of.ensures, c.loop-left-test.true) in
    goes-on c.args.records.now c.args.from c.args.k c.loop-left.at c.loop-left.left c.marks_of-left.result c.marks_of-left.ensures left
    c.loop-left.invariant
