use Rattle.std.proofs.Common.{◌≡◌, ◌<◌, ◌∙◌, ap, List, Option, length, get_or, None, refl, arith, length-set}
use Rattle.std.specs.Option.{option_map}
use Rattle.spec_cache.specs.declared.frame.FrameView.{FrameView}
use Rattle.spec_cache.specs.Change.{changed_frame}
use Rattle.spec_cache.specs.Held.{Held}
use Rattle.spec_cache.proofs.NotedWays.{either_then, done_then, all_done}
use Rattle.spec_cache.proofs.noted.change_at.Goals as goal

pub loop-at-preserved : goal.loop-at-preserved
loop-at-preserved c =
    let at = get_or c.args.places.now c.loop-at.at-index 0 in
    let was : List (Option FrameView) = c.args.ways.now.frames in
    let is : List (Option FrameView) = c.loop-at.ways.frames in
    let b : at < length is = (let r = c.requires.inside c.loop-at.at-index (omega arith) in omega (arith, r, c.loop-at.invariant.size)) in
    let new : c.changed-way.result ≡ option_map (changed_frame c.args.change) (get_or is at None) = c.changed-way.ensures
    ∙ ap (option_map (changed_frame c.args.change)) c.way.ensures in
    record {
      config = ap (λ (h : Held). h.config) c.put.ensures ∙ c.loop-at.invariant.config;
      size = ap (λ (h : Held). length h.frames) c.put.ensures ∙ length-set is at c.changed-way.result ∙ c.loop-at.invariant.size;
      either = rw c.put.ensures (either_then c.args.change was is at b c.loop-at.invariant.either c.changed-way.result new);
      done =
          rw c.put.ensures (done_then c.args.change was is at b c.loop-at.invariant.either c.changed-way.result new c.args.places.now
          c.loop-at.at-index refl c.loop-at.invariant.done);
    }

pub returns : goal.returns
returns c =
    let frames = all_done c.args.change c.args.ways.now.frames c.loop-at.ways.frames c.args.places.now c.loop-at.at-index
    c.loop-at.invariant.size (omega arith)
    c.requires.marked c.loop-at.invariant.either c.loop-at.invariant.done in
    λ i. record { config = c.loop-at.invariant.config i; frames = frames i }
