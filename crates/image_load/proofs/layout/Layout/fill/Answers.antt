use Rattle.std.proofs.Common.{◌≡◌, ◌+◌, ◌-◌, ◌<◌, ◌≤◌, ◌∙◌, ℕ, false, arith}
use Rattle.std.proofs.lemmas.Bool.Decides.{nat_tests}
use Rattle.base_lemmas.proofs.Lemmas.{write_back-whole}
use Rattle.image_load.specs.Contents.{code_at}
use Rattle.image_load.specs.Overlap.{segments_laid}
use Rattle.image_load.specs.Filled.{IsFilled}
use Rattle.image_load.proofs.Memory.{filled-more, filled-nothing}
use Rattle.image_load.proofs.Overlaps.{free-from_find}
use Rattle.image_load.proofs.layout.Layout.fill.Goals as goal

pub returns-then-segment-eq0-clause-filled : goal.returns-then-segment-eq0-clause-filled
returns-then-segment-eq0-clause-filled c = λ image earlier before none.
    filled-nothing c.args.self.now.config.base c.args.self.now.bytes.items c.args.self.now.taken.items c.args.self.now.code.items
    (segments_laid earlier) c.args.segment.now c.if-segment-eq0.true before

pub returns-clause-filled : goal.returns-clause-filled
returns-clause-filled c = λ image earlier before none.
    let self = c.args.self.now in
    let segment = c.args.segment.now in
    let base = self.config.base in
    let first = segment.addr - c.base.result in
    let end = first + segment.size in
    let begins : base + first ≡ segment.addr = grind (arith, nat_tests) in
    let ends : base + end ≡ segment.addr + segment.size = omega arith in
    let bytes = write_back-whole c.write_at.new.ram self.bytes.items self.bytes.len (omega arith) (omega arith) in
    let taken = write_back-whole c.mark.new.marks self.taken.items self.taken.len (omega arith) (omega arith) in
    let code = write_back-whole c.mark-2.new.marks self.code.items self.code.len (omega arith) (omega arith) in
    let filled : IsFilled base c.as_mut_slice.result.now c.as_mut_slice-2.result.now c.as_mut_slice-3.result.now (segments_laid earlier)
    = rw (c.as_mut_slice.ensures.value, c.as_mut_slice-2.ensures.value, c.as_mut_slice-3.ensures.value) before in
    let free : (k : ℕ) → first ≤ k → k < end → code_at c.as_mut_slice-2.result.now k ≡ false
    = λ k low high. filled.held k ∙ free-from_find image segment earlier none (base + k) (omega arith) (omega arith) in
    rw (bytes, taken, code) (filled-more base c.as_mut_slice.result.now c.write_at.new.ram c.as_mut_slice-2.result.now c.mark.new.marks
    c.as_mut_slice-3.result.now c.mark-2.new.marks
    (segments_laid earlier) segment first end filled begins ends c.requires.within free
    (rw c.contents.ensures at c.write_at.ensures.written) c.write_at.ensures.below (rw c.contents.ensures at c.write_at.ensures.above)
    c.mark.ensures.marked c.mark.ensures.below c.mark.ensures.above
    c.mark-2.ensures.marked c.mark-2.ensures.below c.mark-2.ensures.above)
