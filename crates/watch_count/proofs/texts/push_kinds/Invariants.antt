-- What is written, with the lines of the kinds that are left, is the text of all.
use Rattle.std.proofs.Common.{◌≡◌, ◌++◌, string_bytes, drop}
use Rattle.watch_count.specs.Text.{kinds_from}
use Rattle.watch_count.proofs.texts.push_kinds.Given as goal

abbrev pub invariant-loop-place : goal.invariant-loop-place
invariant-loop-place l =
    string_bytes l.text ++ kinds_from l.place (drop l.place l.messages) ≡ string_bytes l.fn.text ++ kinds_from 0 l.messages
