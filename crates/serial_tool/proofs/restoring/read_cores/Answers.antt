use Rattle.std.proofs.Common.{◌≡◌, ◌++◌, ◌∷◌, [], refl, ◌∙◌, arith}
use Rattle.std.proofs.lemmas.Grind.{common_steps}
use Rattle.std.proofs.lemmas.List.Elements.{All-append, All-cons, All-nil}
use Rattle.serial_tool.specs.PlainTexts.{IsFresh}
use Rattle.serial_tool.proofs.CoreReading.{cores-begin, cores-end, no-core-cores, no-row-cores, one-core, parts-next}
use Rattle.serial_tool.proofs.restoring.read_cores.Goals as goal

pub loop-core-init : goal.loop-core-init
loop-core-init c = rw c.requires (record {
  numbers = refl;
  count = refl;
  fresh = All-nil IsFresh;
  parts = cores-begin c.args.bytes.now;
  one = λ cores tail long fits e. e;
})

pub returns-in_default-clause-refused : goal.returns-in_default-clause-refused
returns-in_default-clause-refused c =
    no-row-cores c.args.bytes.now c.loop-core.rest.now c.args.cores c.loop-core.core c.loop-core-test.true c.loop-core.invariant.one
    (omega arith) (rw c.loop-core.invariant.numbers at c.in_default.ensures.read)

pub returns-in_default-core_of-clause-refused : goal.returns-in_default-core_of-clause-refused
returns-in_default-core_of-clause-refused c =
    no-core-cores c.args.bytes.now c.loop-core.rest.now c.args.cores c.loop-core.core c.read_row.new.numbers c.in-Some.after.now
    c.loop-core-test.true c.loop-core.invariant.one (omega arith) c.in-Some.ensures.read c.in_default-core_of.ensures

pub loop-core-preserved : goal.loop-core-preserved
loop-core-preserved c =
    let pushed : c.push.new.self ≡ c.loop-core.found ++ c.in-Some-core_of.state ∷ [] = grind (arith, common_steps) in
    let long = c.in-Some.ensures.length in
    let count = c.loop-core.invariant.numbers in
    let before = c.loop-core.invariant.count in
    rw pushed (record {
      numbers = omega arith;
      count = grind (arith, common_steps);
      fresh = All-append IsFresh c.loop-core.found (c.in-Some-core_of.state ∷ []) c.loop-core.invariant.fresh
          (All-cons IsFresh c.in-Some-core_of.state [] c.in-Some-core_of.ensures.1 (All-nil IsFresh));
      parts = parts-next c.args.bytes.now c.loop-core.rest.now c.in-Some.after.now c.read_row.new.numbers c.loop-core.core
          c.loop-core.found c.in-Some-core_of.state before c.loop-core.invariant.parts c.in-Some.ensures.read
          c.in-Some-core_of.ensures.0;
      one = one-core c.args.bytes.now c.loop-core.rest.now c.args.cores c.loop-core.core c.read_row.new.numbers c.in-Some.after.now
          c.loop-core-test.true c.loop-core.invariant.one (omega arith) c.in-Some.ensures.read;
    })

pub returns-clause-read : goal.returns-clause-read
returns-clause-read c = record {
  parts = c.loop-core.invariant.parts;
  one = λ cores tail long fits e.
      c.loop-core.invariant.one cores tail long fits e
      ∙ cores-end c.loop-core.core cores tail (let past = c.loop-core-test.false in omega arith);
}
