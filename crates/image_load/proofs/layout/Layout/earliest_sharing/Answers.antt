use Rattle.std.proofs.Common.{◌≡◌, ◌+◌, ◌-◌, ◌≤◌, ◌∙◌, length, sym, ap, arith}
use Rattle.std.proofs.lemmas.Bool.Decides.{nat_tests}
use Rattle.image_load.specs.Memory.{is_held}
use Rattle.image_load.specs.Overlap.{segments_laid}
use Rattle.image_load.proofs.Memory.{unmarked-part}
use Rattle.image_load.proofs.Overlaps.{find-empty, find-from_free}
use Rattle.image_load.proofs.layout.Layout.earliest_sharing.Goals as goal

pub returns-then-segment-eq0 : goal.returns-then-segment-eq0
returns-then-segment-eq0 c = λ earlier laid. sym (find-empty c.args.image c.args.segment.now earlier c.if-segment-eq0.true)

pub returns-then-is_free : goal.returns-then-is_free
returns-then-is_free c = λ earlier laid.
    let base = c.args.self.now.config.base in
    let first = c.args.segment.now.addr - c.base.result in
    let end = first + c.args.segment.now.size in
    let taken = c.deref.result.now in
    let within : end ≤ length taken = grind (arith, nat_tests) in
    let from : base ≤ c.args.segment.now.addr = grind (arith, nat_tests) in
    sym (find-from_free c.args.image c.args.segment.now earlier (λ addr low high.
    let unmarked = unmarked-part taken first end within (c.is_free.ensures.0 c.if-is_free.true) (addr - base) (omega arith) (omega arith) in
    let place : base + (addr - base) ≡ addr = omega arith in
    sym (ap (is_held (segments_laid earlier)) place) ∙ sym (laid.filled.held (addr - base)) ∙ rw c.deref.ensures.value at unmarked))
