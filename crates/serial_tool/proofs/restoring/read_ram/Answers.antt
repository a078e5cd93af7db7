use Rattle.std.proofs.Common.{◌/◌, length, refl, ap, ◌∙◌, arith}
use Rattle.serial_tool.proofs.RamReading.{end-alone, end-front, mem-front, no-end, no-line-ram, one-line, parts-next, ram-begin, ram-end}
use Rattle.serial_tool.proofs.RamReading.{rows-begin, zero-next}
use Rattle.serial_tool.proofs.restoring.read_ram.Goals as goal

pub loop-after-init : goal.loop-after-init
loop-after-init c = record {
  numbers = refl;
  count = refl;
  next = omega arith;
  line = omega arith;
  zero = c.requires.zero;
  parts = rows-begin c.args.ram.now c.args.bytes.now;
  one = λ ram long fits e. e ∙ ram-begin ram (length c.args.ram.now) long;
}

pub returns-in-None-clause-refused : goal.returns-in-None-clause-refused
returns-in-None-clause-refused c =
    let small = c.requires.small in
    let count = c.loop-after.invariant.count in
    let none = rw count at c.in-None.ensures.put in
    λ ram long fits e.
    no-line-ram ram (length c.args.ram.now / 8) c.loop-after.next c.read_row.new.numbers c.in-Some.after.now fits
    (mem-front ram (length c.args.ram.now / 8) c.loop-after.next c.loop-after.rest.now c.read_row.new.numbers c.in-Some.after.now
    c.in-Some.ensures.read (c.loop-after.invariant.one ram long fits e)) none

pub loop-after-preserved : goal.loop-after-preserved
loop-after-preserved c =
    let inv = c.loop-after.invariant in
    let small = c.requires.small in
    let put = c.in-Some-put_line.ensures.put in
    let kept = c.in-Some-put_line.ensures.length in
    let there = put.there in
    let late = put.late in
    let follows = put.follows in
    let line = inv.line in
    record {
      numbers = c.in-Some.ensures.length ∙ inv.numbers;
      count = kept ∙ inv.count;
      next = omega arith;
      line = omega arith;
      zero = zero-next c.loop-after.ram c.put_line.new.ram c.read_row.new.numbers c.loop-after.next c.in-Some-put_line.after_line put
          inv.zero;
      parts = parts-next c.args.bytes.now c.loop-after.rest.now c.in-Some.after.now c.read_row.new.numbers c.loop-after.ram
          c.put_line.new.ram c.loop-after.next c.in-Some-put_line.after_line put inv.zero inv.parts c.in-Some.ensures.read;
      one = λ ram long fits e.
          one-line ram (length c.args.ram.now / 8) c.loop-after.next c.read_row.new.numbers c.in-Some.after.now c.loop-after.ram
          c.put_line.new.ram c.in-Some-put_line.after_line
          (mem-front ram (length c.args.ram.now / 8) c.loop-after.next c.loop-after.rest.now c.read_row.new.numbers c.in-Some.after.now
          c.in-Some.ensures.read (inv.one ram long fits e)) put;
    }

pub returns-in-Some-empty-clause-read : goal.returns-in-Some-empty-clause-read
returns-in-Some-empty-clause-read c =
    let inv = c.loop-after.invariant in
    let short = c.in-Some-empty.len_below in
    ram-end c.args.bytes.now c.loop-after.rest.now c.loop-after.ram c.read_row-2.new.numbers c.in-Some-empty.field-0.now
    c.loop-after.next inv.next inv.zero inv.parts c.in-Some-empty.ensures.read c.in-Some-empty.ensures.length (omega arith)

pub returns-in-Some-read_row-clause-refused : goal.returns-in-Some-read_row-clause-refused
returns-in-Some-read_row-clause-refused c =
    let inv = c.loop-after.invariant in
    let small = c.requires.small in
    let none = rw inv.numbers at c.in_default.ensures.read in
    let more = c.in-Some-read_row.len_at_least in
    λ ram long fits e.
    let ends = end-front ram (length c.args.ram.now / 8) c.loop-after.next c.loop-after.rest.now (omega arith) (omega arith) fits none
    (inv.one ram long fits e) in
    let empty = ap length (end-alone c.loop-after.rest.now c.read_row-2.new.numbers c.in-Some-read_row.field-0.now ends
    c.in-Some-read_row.ensures.read) in
    omega arith

pub returns-in-None-read_row-clause-refused : goal.returns-in-None-read_row-clause-refused
returns-in-None-read_row-clause-refused c =
    let inv = c.loop-after.invariant in
    let small = c.requires.small in
    let none = rw inv.numbers at c.in_default.ensures.read in
    λ ram long fits e.
    no-end c.loop-after.rest.now
    (end-front ram (length c.args.ram.now / 8) c.loop-after.next c.loop-after.rest.now (omega arith) (omega arith) fits none
    (inv.one ram long fits e)) c.in-None-read_row.ensures.read
