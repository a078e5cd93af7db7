use Rattle.std.proofs.Common.{◌≡◌, ◌==◌, ◌&&◌, Bool, true, false, not, ap, sym, ◌∙◌, append-nil}
use borrow.Author.Tests.{eq-eqb, ne_eqb}
use Rattle.tcc_base.specs.declared.names.NodeId.TheVariants as node
use Rattle.tcc_msg.specs.declared.msg.Msg.TheVariants as code
use Rattle.dir_lines.specs.Kept.{kept}
use Rattle.directory.specs.Invs.{told, is_told}
use Rattle.directory.proofs.Told.{told-grows, told-stays, told-yes, told-itself, told-other}
use Rattle.directory.proofs.invalidate.tell.Goals as goal
use Rattle.directory.proofs.invalidate.tell.Goals.{then-core-src+then-contains+in_ok-push, else-core-src}
use Rattle.directory.proofs.invalidate.tell.Goals.{else-core-src-via-then-core-src+else-contains, else-core-src-via-else-core-src}

pub loop-core-init : goal.loop-core-init
unfolding told
loop-core-init c = sym (append-nil c.args.out.now.list.items)

pub loop-core-preserved : goal.loop-core-preserved
loop-core-preserved c =
    elim c.if-core-src.branch [
      | then-core-src+then-contains+in_ok-push w ↦
          ap (λ o. o.list.items) w.out-is
          ∙ told-grows c.args.out.now.list.items c.loop-core.out.list.items w.push.new.self.list.items c.args.line.0
          ((kept c.args.lines.now).mark c.args.line.0) c.args.tid.0
          (is_told (kept c.args.lines.now) c.args.src.0 c.args.line.0) c.loop-core.core
          (node.Core (record { 0 = c.loop-core.core }), code.Inv c.args.line c.get-record.result.mark c.args.tid)
          (told-yes (kept c.args.lines.now) c.args.src.0 c.args.line.0 c.loop-core.core w.if-core-src.true
          (sym (c.get-record.ensures.sharers c.loop-core.core) ∙ (sym w.contains.ensures ∙ w.if-contains.true)))
          (ap (λ m. (node.Core (record { 0 = c.loop-core.core }), code.Inv c.args.line (record { 0 = m }) c.args.tid))
          c.get-record.ensures.mark)
          c.loop-core.invariant w.in_ok-push.ensures.sent
      | else-core-src w ↦
          ap (λ o. o.list.items) w.out-is
          ∙ told-stays c.args.out.now.list.items c.loop-core.out.list.items c.args.line.0 ((kept c.args.lines.now).mark c.args.line.0)
          c.args.tid.0
          (is_told (kept c.args.lines.now) c.args.src.0 c.args.line.0) c.loop-core.core
          (elim w.else-core-src.branch [
            | else-core-src-via-then-core-src+else-contains v ↦
                told-other (kept c.args.lines.now) c.args.src.0 c.args.line.0 c.loop-core.core
                (sym (c.get-record.ensures.sharers c.loop-core.core) ∙ (sym v.contains.ensures ∙ v.if-contains.false))
            | else-core-src-via-else-core-src v ↦ told-itself (kept c.args.lines.now) c.args.src.0 c.args.line.0 c.loop-core.core
                v.if-core-src.false
          ])
          c.loop-core.invariant
    ]
