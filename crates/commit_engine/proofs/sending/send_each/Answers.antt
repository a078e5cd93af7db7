use Rattle.std.proofs.Common.{◌≡◌, refl, sym, ◌∙◌, true, false}
use Rattle.rules_maps.specs.Masks.{has}
use Rattle.tcc_msg.specs.Plain.{msg_of}
use Rattle.commit_engine.specs.Sent.{to_members}
use Rattle.commit_engine.proofs.Lemmas.{sent_none, sent_more, sent_same, member_in, member_out}
use Rattle.commit_engine.proofs.sending.send_each.Goals.{then-contains, else-contains}
use Rattle.commit_engine.proofs.sending.send_each.Goals as goal

pub loop-d-init : goal.loop-d-init
loop-d-init c = record { sent = sent_none c.args.out.now (to_members c.args.set.bits (msg_of c.args.msg)) }

pub loop-d-preserved : goal.loop-d-preserved
loop-d-preserved c = elim c.if-contains.branch [
  | then-contains w ↦ (let e : has c.args.set.bits c.loop-d.d ≡ true = sym c.contains.ensures ∙ w.if-contains.true in
      record {
        sent =
            rw w.out-is (sent_more c.args.out.now c.loop-d.out w.hand_out.new.self (to_members c.args.set.bits (msg_of c.args.msg))
            c.loop-d.d _ c.args.msg
            c.loop-d.invariant.sent w.hand_out.ensures.sent w.hand_out.ensures.room refl
            (member_in c.args.set.bits (msg_of c.args.msg) c.loop-d.d e));
      })
  | else-contains w ↦ (let e : has c.args.set.bits c.loop-d.d ≡ false = sym c.contains.ensures ∙ w.if-contains.false in
      record {
        sent = rw w.out-is (sent_same c.args.out.now c.loop-d.out (to_members c.args.set.bits (msg_of c.args.msg)) c.loop-d.d
            c.loop-d.invariant.sent (member_out c.args.set.bits (msg_of c.args.msg) c.loop-d.d e));
      })
]
