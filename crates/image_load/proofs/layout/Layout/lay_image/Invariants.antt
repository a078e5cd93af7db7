use Rattle.std.proofs.Common.{◌≡◌, List, ◌++◌, take, drop}
use Rattle.image_load.specs.Faults.{segments_fault}
use Rattle.image_load.specs.Overlap.{Laid, laid}
use Rattle.image_load.specs.Layout.{IsLaid}
use Rattle.image_load.proofs.layout.Layout.lay_image.Given as goal

-- the segments so far are laid, and the first fault is that of those that are left
abbrev pub invariant-loop-segment : goal.invariant-loop-segment
invariant-loop-segment l = record {
  config : l.self.config ≡ l.fn.self.config;
  is_laid : (earlier : List Laid) → IsLaid l.fn.self earlier
      → IsLaid l.self (earlier ++ laid l.number (take l.segment-index l.image.segments));
  left : (earlier : List Laid) → IsLaid l.fn.self earlier →
      segments_fault l.fn.self.config l.number earlier l.image.segments
      ≡ segments_fault l.fn.self.config l.number (earlier ++ laid l.number (take l.segment-index l.image.segments))
      (drop l.segment-index l.image.segments);
}
