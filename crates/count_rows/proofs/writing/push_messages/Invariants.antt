-- What is written, with the rows of the kinds that are left, is the rows of all.
use Rattle.std.proofs.Common.{◌≡◌, ◌++◌, codes, drop}
use Rattle.count_rows.specs.Rows.{message_numbers, numbered}
use Rattle.count_rows.proofs.Written.{text_of}
use Rattle.count_rows.proofs.writing.push_messages.Given as goal

abbrev pub invariant-loop-k : goal.invariant-loop-k
invariant-loop-k l =
    l.text ++ text_of (codes "messages") (numbered message_numbers l.k (drop l.k l.messages))
    ≡ l.fn.text ++ text_of (codes "messages") (numbered message_numbers 0 l.messages)
