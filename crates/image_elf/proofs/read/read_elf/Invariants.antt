use Rattle.std.proofs.Common.{◌≡◌, ◌≤◌, ◌-◌, ◌++◌, length}
use Rattle.std.specs.Prelude.{All}
use Rattle.image_elf.specs.Elf.{segments_from}
use Rattle.image_elf.specs.Tests.{first_fault, segments_tests}
use Rattle.image_elf.proofs.read.read_elf.Given as goal

-- what is left to test and to keep, and what was kept
abbrev pub invariant-loop-index : goal.invariant-loop-index
invariant-loop-index l = record {
  tested : first_fault (segments_tests l.bytes 0 l.count) ≡ first_fault (segments_tests l.bytes l.index (l.count - l.index));
  kept : segments_from l.bytes 0 l.count ≡ l.segments.items ++ segments_from l.bytes l.index (l.count - l.index);
  within : All (λ segment. length segment.bytes ≤ segment.size) l.segments.items;
}
