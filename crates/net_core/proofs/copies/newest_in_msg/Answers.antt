-- Words of another line, or no words.
use Rattle.std.proofs.Common.{inl, inr}
use Rattle.net_core.proofs.Words.Places.{newest-elsewhere, newest-wordless}
use Rattle.net_core.proofs.copies.newest_in_msg.Goals as goal

pub returns-in_default : goal.returns-in_default
returns-in_default c = λ k b. newest-wordless _ _ c.args.msg.now c.in_default.not-WriteBack c.in_default.not-Flush

pub returns-else-own-line : goal.returns-else-own-line
returns-else-own-line c =
    let w = c.in-WriteBack in
    elim w.is [
      | inl e ↦ λ k b. rw e (newest-elsewhere _ c.args.line.0 k w.own.0 w.mask.0 w.words w.tag.0 c.if-own-line.false b)
      | inr e ↦ λ k b. rw e (newest-elsewhere _ c.args.line.0 k w.own.0 w.mask.0 w.words w.tag.0 c.if-own-line.false b)
    ]
