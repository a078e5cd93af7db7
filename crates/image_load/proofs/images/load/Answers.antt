use Rattle.std.proofs.Common.{◌≡◌, ◌<◌, ◌∷◌, ◌++◌, ◌∙◌, [], take, length, sym, ap, subst}
use Rattle.std.proofs.lemmas.List.{take_all}
use Rattle.std.proofs.lemmas.Result.{err_from_is_err_and}
use Rattle.image_load.specs.Contents.{started}
use Rattle.image_load.specs.Faults.{images_fault}
use Rattle.image_load.specs.Filled.{IsFilled}
use Rattle.image_load.specs.Layout.{IsLaid}
use Rattle.image_load.specs.Overlap.{segments_laid}
use Rattle.image_load.specs.Start.{segments_of, entries_of, start}
use Rattle.image_load.proofs.LaidImages.{laid_all, laid_all-nil, laid_all-more, entries-more, images_fault-passed, images_fault-failed}
use Rattle.image_load.proofs.LaidImages.{images_fault-done, segments_laid-all}
use Rattle.image_load.proofs.Started.{started-filled}
use Rattle.image_load.proofs.images.load.Goals as goal

pub loop-number-init : goal.loop-number-init
loop-number-init c = record {
  config = c.in_ok-layout.ensures.config;
  is_laid = rw (laid_all-nil 0) c.in_ok-layout.ensures.laid;
  left = ap (λ earlier. images_fault c.args.config.now 0 earlier c.args.images.now) (sym (laid_all-nil 0));
  entries = c.new-entries.ensures.items;
}

pub returns-in_err-lay_image-clause-fault : goal.returns-in_err-lay_image-clause-fault
returns-in_err-lay_image-clause-fault c =
    let p = err_from_is_err_and c.from_residual-in_err-lay_image.result c.from_residual-in_err-lay_image.ensures.1 in
    rw (p.1, p.2) (λ other.
    let xs = c.args.images.now in
    let j = c.loop-number.number in
    let failed =
    rw c.loop-number.invariant.config
    at (c.in_err-lay_image.ensures.fault other (laid_all 0 (take j xs)) c.loop-number.invariant.is_laid) in
    c.loop-number.invariant.left
    ∙ images_fault-failed c.args.config.now xs j c.index-images-number.result c.in_err-lay_image.field-0.0 c.loop-number-test.true
    c.index-images-number.is failed)

pub loop-number-preserved : goal.loop-number-preserved
loop-number-preserved c =
    let xs = c.args.images.now in
    let j = c.loop-number.number in
    let x = c.index-images-number.result in
    let below : j < length xs = c.loop-number-test.true in
    let is = c.index-images-number.is in
    let passed =
    rw c.loop-number.invariant.config at (c.in_ok-lay_image.ensures.passed (laid_all 0 (take j xs)) c.loop-number.invariant.is_laid) in
    record {
      config = c.in_ok-lay_image.ensures.config ∙ c.loop-number.invariant.config;
      is_laid =
          subst (IsLaid c.lay_image.new.self) (laid_all-more xs j x below is)
          (c.in_ok-lay_image.ensures.laid (laid_all 0 (take j xs)) c.loop-number.invariant.is_laid);
      left = c.loop-number.invariant.left ∙ images_fault-passed c.args.config.now xs j x below is passed;
      entries = c.in_ok-push.ensures.items ∙ ap (λ entries. entries ++ x.entry ∷ []) c.loop-number.invariant.entries
          ∙ entries-more xs j x below is;
    }

pub returns-clause-start : goal.returns-clause-start
returns-clause-start c =
    let xs = c.args.images.now in
    let j = c.loop-number.number in
    let all = take_all j xs c.loop-number-test.false in
    let layout = c.loop-number.layout in
    let segments : segments_laid (laid_all 0 (take j xs)) ≡ segments_of xs = ap (λ images. segments_laid (laid_all 0 images)) all
    ∙ segments_laid-all 0 xs in
    let filled : IsFilled layout.config.base layout.bytes.items layout.taken.items layout.code.items (segments_of xs)
    =
    subst (IsFilled layout.config.base layout.bytes.items layout.taken.items layout.code.items) segments
    c.loop-number.invariant.is_laid.filled in
    ap started c.into_loaded.ensures
    ∙ started-filled layout.config layout.bytes.items layout.taken.items layout.code.items c.loop-number.entries.items xs filled
    (c.loop-number.invariant.entries ∙ ap entries_of all)
    ∙ ap (λ settings. start settings xs) c.loop-number.invariant.config

pub returns-clause-accepted : goal.returns-clause-accepted
returns-clause-accepted c =
    c.loop-number.invariant.left
    ∙ images_fault-done c.args.config.now c.loop-number.number (laid_all 0 (take c.loop-number.number c.args.images.now)) c.args.images.now
    c.loop-number.number c.loop-number-test.false
