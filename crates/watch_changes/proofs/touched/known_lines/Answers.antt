-- By the kind of message.
use Rattle.std.proofs.Common.{◌∙◌, inl, inr, sym}
use Rattle.rules_maps.specs.Shape.{lines}
use Rattle.directory.specs.Data.{dir_of}
use Rattle.watch_changes.specs.Touched.{may_change}
use Rattle.watch_changes.proofs.Silent.{known-silent}
use Rattle.watch_changes.proofs.touched.known_lines.Goals as goal

pub returns-in-InvAck : goal.returns-in-InvAck
unfolding may_change
returns-in-InvAck c = λ e. rw c.in-InvAck.is (c.line_and_marked.ensures e)

pub returns-in-Commit : goal.returns-in-Commit
unfolding may_change
returns-in-Commit c = λ e. elim c.in-Commit.is [
  | inl w ↦ rw w.2 (c.marked.ensures e)
  | inr w ↦ rw w.1 (c.marked.ensures e)
]

pub returns-in_default : goal.returns-in_default
returns-in_default c = λ e.
    c.no_lines.ensures
    ∙ sym (known-silent c.args.msg.now (dir_of e c.args.dir.now).lines (lines c.args.config.now) c.in_default.not-LoadReq
    c.in_default.not-Mark c.in_default.not-Commit c.in_default.not-Abort c.in_default.not-WriteBack c.in_default.not-Flush
    c.in_default.not-InvAck)
