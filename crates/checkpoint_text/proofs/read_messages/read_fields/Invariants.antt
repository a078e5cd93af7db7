use Rattle.std.proofs.Common.{◌≡◌, ◌≤◌, length}
use Rattle.checkpoint_text.proofs.read_messages.read_fields.Given as goal

-- what is left grows no longer
abbrev pub invariant-loop-i : goal.invariant-loop-i
invariant-loop-i l = record {
  fields : length l.fields ≡ 11;
  shorter : length l.rest ≤ length l.bytes;
}
