use Rattle.std.proofs.Common.{◌<◌, ◌≤◌, ◌++◌, ◌∙◌, take, length, sym, ap, arith, subst}
use Rattle.std.proofs.lemmas.List.{take_all}
use Rattle.std.proofs.lemmas.Result.{err_from_is_err_and}
use Rattle.image_load.specs.Layout.{IsLaid}
use Rattle.image_load.specs.Overlap.{laid}
use Rattle.image_load.proofs.FirstFaults.{laid-more, segments_fault-passed, segments_fault-failed, segments_fault-done}
use Rattle.image_load.proofs.FirstFaults.{image_fault-segments, image_fault-entry, image_fault-none}
use Rattle.image_load.proofs.layout.Layout.lay_image.Goals as goal

pub returns-in_err-lay_segment-clause-fault : goal.returns-in_err-lay_segment-clause-fault
returns-in_err-lay_segment-clause-fault c =
    let p = err_from_is_err_and c.from_residual.result c.from_residual.ensures.1 in
    rw (p.1, p.2) (λ other earlier before.
    let settings = c.args.self.now.config in
    let xs = c.args.image.now.segments in
    let j = c.loop-segment.segment-index in
    let below : j < length xs = omega (arith, ap length c.segments-segment-items.ensures) in
    let is = rw c.segments-segment-items.ensures at c.segment-item.is in
    let failed =
    rw c.loop-segment.invariant.config
    at (c.in_err-lay_segment.ensures.fault other (earlier ++ laid c.args.number (take j xs))
    (c.loop-segment.invariant.is_laid earlier before)) in
    image_fault-segments settings c.args.number earlier c.args.image.now c.in_err-lay_segment.field-0.0
    (c.loop-segment.invariant.left earlier before
    ∙ segments_fault-failed settings c.args.number earlier xs j c.segment-item.result c.in_err-lay_segment.field-0.0 below is
    failed))

pub loop-segment-preserved : goal.loop-segment-preserved
loop-segment-preserved c =
    let settings = c.args.self.now.config in
    let xs = c.args.image.now.segments in
    let j = c.loop-segment.segment-index in
    let below : j < length xs = omega (arith, ap length c.segments-segment-items.ensures) in
    let is = rw c.segments-segment-items.ensures at c.segment-item.is in
    record {
      config = c.in_ok-lay_segment.ensures.config ∙ c.loop-segment.invariant.config;
      is_laid = λ earlier before.
          subst (IsLaid c.lay_segment.new.self) (laid-more earlier c.args.number xs j c.segment-item.result below is)
          (c.in_ok-lay_segment.ensures.laid (earlier ++ laid c.args.number (take j xs)) (c.loop-segment.invariant.is_laid earlier before));
      left = λ earlier before.
          let passed =
          rw c.loop-segment.invariant.config
          at (c.in_ok-lay_segment.ensures.passed (earlier ++ laid c.args.number (take j xs))
          (c.loop-segment.invariant.is_laid earlier before)) in
          c.loop-segment.invariant.left earlier before ∙ segments_fault-passed settings c.args.number earlier xs j c.segment-item.result
          below is passed;
    }

pub returns-then-not-is_entry-clause-fault : goal.returns-then-not-is_entry-clause-fault
returns-then-not-is_entry-clause-fault c = λ _ earlier before.
    let settings = c.args.self.now.config in
    let xs = c.args.image.now.segments in
    let j = c.loop-segment.segment-index in
    let past : length xs ≤ j = omega (arith, ap length c.segments-segment-items.ensures) in
    let all = take_all j xs past in
    let outside = sym (c.is_entry.ensures (earlier ++ laid c.args.number (take j xs)) (c.loop-segment.invariant.is_laid earlier before))
    ∙ c.if-not-is_entry.true in
    image_fault-entry settings c.args.number earlier c.args.image.now
    (c.loop-segment.invariant.left earlier before ∙ segments_fault-done settings c.args.number
    (earlier ++ laid c.args.number (take j xs)) xs j past)
    (rw all at outside)

pub returns-clause-passed : goal.returns-clause-passed
returns-clause-passed c = λ earlier before.
    let settings = c.args.self.now.config in
    let xs = c.args.image.now.segments in
    let j = c.loop-segment.segment-index in
    let past : length xs ≤ j = omega (arith, ap length c.segments-segment-items.ensures) in
    let all = take_all j xs past in
    let inside = sym (c.is_entry.ensures (earlier ++ laid c.args.number (take j xs)) (c.loop-segment.invariant.is_laid earlier before))
    ∙ c.if-not-is_entry.false in
    image_fault-none settings c.args.number earlier c.args.image.now
    (c.loop-segment.invariant.left earlier before ∙ segments_fault-done settings c.args.number
    (earlier ++ laid c.args.number (take j xs)) xs j past)
    (rw all at inside)
