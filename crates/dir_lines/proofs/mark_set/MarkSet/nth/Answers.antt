use Rattle.std.proofs.Common.{rules, ◌≡◌, ◌*◌, ◌<◌, ◌≤◌, length, sum, refl, arith}
use Rattle.rules_maps.specs.Words.{count_below}
use Rattle.dir_lines.specs.Marking.{marked_at}
use Rattle.dir_lines.proofs.Finding.{at-most, falls-some, finds, nth-found, nth-none}
use Rattle.dir_lines.proofs.Sixteens.{counts-sum}
use Rattle.dir_lines.proofs.mark_set.MarkSet.nth.Goals as goal

pub overflow_mul-sixteen : goal.overflow_mul-sixteen
overflow_mul-sixteen c =
    let some : 0 < sum c.args.self.now.many = omega (arith, c.total.ensures, c.if-total-eq0.false) in
    let within : 16 * c.in-Some.sixteen < length c.args.records.now =
    finds c.args.records.now (16 * c.in-Some.sixteen) c.in-Some.into (16 * c.in-Some.sixteen) c.in-Some.into (record {
      before = refl;
      some = falls-some c.args.records.now c.args.self.now.many c.args.k c.in-Some.sixteen c.in-Some.into
          (c.requires.marks.counted some).1 c.in-Some.ensures.falls;
    }) in
    let f : length c.args.records.now < 4294967296 = c.requires.fits in
    let s : 16 * c.in-Some.sixteen < 18446744073709551616 = omega arith in
    search rules

pub nth_from-requires-clause-some : goal.nth_from-requires-clause-some
nth_from-requires-clause-some c =
    let some : 0 < sum c.args.self.now.many = omega (arith, c.total.ensures, c.if-total-eq0.false) in
    falls-some c.args.records.now c.args.self.now.many c.args.k c.in-Some.sixteen c.in-Some.into
    (c.requires.marks.counted some).1 c.in-Some.ensures.falls

pub returns-in-Some : goal.returns-in-Some
returns-in-Some c =
    let some : 0 < sum c.args.self.now.many = omega (arith, c.total.ensures, c.if-total-eq0.false) in
    nth-found c.args.records.now c.args.self.now.many c.args.k c.in-Some.sixteen c.in-Some.into c.nth_from.result
    (c.requires.marks.counted some).1 c.in-Some.ensures.falls c.nth_from.ensures.marked c.nth_from.ensures.before

pub returns-in-None : goal.returns-in-None
returns-in-None c =
    let some : 0 < sum c.args.self.now.many = omega (arith, c.total.ensures, c.if-total-eq0.false) in
    let all : sum c.args.self.now.many ≡ count_below (marked_at c.args.records.now) (16 * length c.args.self.now.many) =
    counts-sum (marked_at c.args.records.now) c.args.self.now.many (c.requires.marks.counted some).1 in
    let most : sum c.args.self.now.many ≤ c.args.k =
    at-most (sum c.args.self.now.many) c.args.k (λ q. let e = c.in-None.ensures.below.1 q in cc) in
    nth-none (marked_at c.args.records.now) (16 * length c.args.self.now.many) c.args.k (omega arith)
