use Rattle.std.proofs.Common.{◌≡◌, ◌<◌, ◌≤◌, ◌+◌, ◌∷◌, ◌++◌, ◌∙◌, [], true, false, length, drop, length-append, sym, ap, arith}
use Rattle.std.proofs.lemmas.Bool.Decides.{nat_tests}
use Rattle.std.proofs.lemmas.Grind.{common_steps}
use Rattle.image_load.specs.Raw.{raw_image, raw_images, fits}
use Rattle.image_load.proofs.LaidFiles.{next_line-is, raw_fault-passed, raw_fault-failed, raw_fault-done, raw_images-more, raw_images-done}
use Rattle.image_load.proofs.raw_files.raw.Goals as goal
use Rattle.image_load.proofs.raw_files.raw.Goals.{then-first-end-via-then-first-end, then-first-end-via-else-first-end+then-past-end}

pub returns-then-first-end-clause-fault : goal.returns-then-first-end-clause-fault
returns-then-first-end-clause-fault c = λ _.
    let file = c.index-files-number.result in
    let size : length c.bytes-file.result.now ≡ length file = ap length c.bytes-file.ensures in
    let outside : fits c.args.config.now c.loop-number.first file ≡ false
    = elim c.then-first-end.branch [
      | then-first-end-via-then-first-end w ↦ grind (arith, nat_tests)
      | then-first-end-via-else-first-end+then-past-end w ↦ grind (arith, nat_tests)
    ] in
    c.loop-number.invariant.tested
    ∙ raw_fault-failed c.args.config.now c.loop-number.first c.args.files.now c.loop-number.number file c.loop-number-test.true
    c.index-files-number.is outside

pub loop-number-preserved : goal.loop-number-preserved
loop-number-preserved c =
    let settings = c.args.config.now in
    let files = c.args.files.now in
    let j = c.loop-number.number in
    let first = c.loop-number.first in
    let file = c.index-files-number.result in
    let size : length c.bytes-file.result.now ≡ length file = ap length c.bytes-file.ensures in
    let inside : fits settings first file ≡ true = grind (arith, nat_tests) in
    let past : first + length c.bytes-file.result.now ≡ first + length file = ap (λ n. first + n) size in
    let low : first + length file ≤ c.next_multiple_of-first.result = omega (arith, c.next_multiple_of-first.ensures.lower_bound) in
    let high : c.next_multiple_of-first.result < first + length file + 32 = omega (arith, c.next_multiple_of-first.ensures.upper_bound) in
    let next = next_line-is (first + length file) c.next_multiple_of-first.result c.next_multiple_of-first.ensures.multiple low high in
    let image : c.in_ok-image_at.field-0 ≡ raw_image first file
    = c.in_ok-image_at.ensures.value ∙ ap (raw_image first) c.bytes-file.ensures in
    record {
      tested = c.loop-number.invariant.tested
          ∙ raw_fault-passed settings first c.next_multiple_of-first.result files j file c.loop-number-test.true c.index-files-number.is
          inside next;
      laid =
          c.loop-number.invariant.laid
          ∙ raw_images-more first c.next_multiple_of-first.result files j file c.loop-number.images.items c.loop-number-test.true
          c.index-files-number.is next
          ∙ ap (λ one. (c.loop-number.images.items ++ one ∷ []) ++ raw_images c.next_multiple_of-first.result (drop (j + 1) files))
          (sym image)
          ∙ ap (λ images. images ++ raw_images c.next_multiple_of-first.result (drop (j + 1) files)) (sym c.in_ok-push.ensures.items);
      count = omega (arith, ap length c.in_ok-push.ensures.items, length-append c.loop-number.images.items (c.in_ok-image_at.field-0 ∷ []));
      within = grind (arith, common_steps);
      from = omega arith;
      bound = omega arith;
    }

pub returns-clause-images : goal.returns-clause-images
returns-clause-images c =
    sym (c.loop-number.invariant.laid ∙ raw_images-done c.loop-number.first c.args.files.now c.loop-number.number c.loop-number.images.items
    c.loop-number-test.false)

pub returns-clause-accepted : goal.returns-clause-accepted
returns-clause-accepted c =
    c.loop-number.invariant.tested ∙ raw_fault-done c.args.config.now c.loop-number.number c.loop-number.first c.args.files.now
    c.loop-number.number c.loop-number-test.false
