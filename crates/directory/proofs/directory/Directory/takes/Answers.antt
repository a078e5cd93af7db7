use Rattle.std.proofs.Common.{◌≡◌, false, not, ◌&&◌, ap, sym, ◌∙◌}
use Rattle.rules_tcc.specs.DirDeliver.{dir_deliver}
use Rattle.tcc_msg.specs.Plain.{msg_of}
use Rattle.directory.specs.Data.{dir_of}
use Rattle.directory.specs.Foreign.{is_foreign}
use Rattle.directory.specs.Gives.{is_taken}
use Rattle.directory.proofs.Taking.{skip-taken, abort-taken, acknowledgement-taken}
use Rattle.directory.proofs.directory.Directory.takes.Goals as goal

pub returns-in-Probe : goal.returns-in-Probe
unfolding dir_deliver
returns-in-Probe c = λ e.
    let own : is_foreign c.args.self.now.lines.place (msg_of c.args.msg.now) ≡ false = sym c.is_foreign.ensures ∙ c.if-is_foreign.false in
    c.takes_probe.ensures e c.args.src.0
    ∙ (ap (λ m. is_taken (dir_deliver c.args.self.now.lines.place.shape (dir_of e c.args.self.now) c.args.src.0 (msg_of m)))
    (sym c.in-Probe.is)
    ∙ ap (λ b. not b && is_taken
    (dir_deliver c.args.self.now.lines.place.shape (dir_of e c.args.self.now) c.args.src.0 (msg_of c.args.msg.now))) (sym own))

pub returns-in-LoadReq : goal.returns-in-LoadReq
unfolding dir_deliver
returns-in-LoadReq c = λ e.
    let own : is_foreign c.args.self.now.lines.place (msg_of c.args.msg.now) ≡ false = sym c.is_foreign.ensures ∙ c.if-is_foreign.false in
    c.takes_load.ensures e c.args.src.0
    ∙ (ap (λ m. is_taken (dir_deliver c.args.self.now.lines.place.shape (dir_of e c.args.self.now) c.args.src.0 (msg_of m)))
    (sym c.in-LoadReq.is)
    ∙ ap (λ b. not b && is_taken
    (dir_deliver c.args.self.now.lines.place.shape (dir_of e c.args.self.now) c.args.src.0 (msg_of c.args.msg.now))) (sym own))

pub returns-in-Mark : goal.returns-in-Mark
unfolding dir_deliver
returns-in-Mark c = λ e.
    let own : is_foreign c.args.self.now.lines.place (msg_of c.args.msg.now) ≡ false = sym c.is_foreign.ensures ∙ c.if-is_foreign.false in
    c.takes_mark.ensures e
    ∙ (ap (λ m. is_taken (dir_deliver c.args.self.now.lines.place.shape (dir_of e c.args.self.now) c.args.src.0 (msg_of m)))
    (sym c.in-Mark.is)
    ∙ ap (λ b. not b && is_taken
    (dir_deliver c.args.self.now.lines.place.shape (dir_of e c.args.self.now) c.args.src.0 (msg_of c.args.msg.now))) (sym own))

pub returns-in-Commit : goal.returns-in-Commit
unfolding dir_deliver
returns-in-Commit c = λ e.
    let own : is_foreign c.args.self.now.lines.place (msg_of c.args.msg.now) ≡ false = sym c.is_foreign.ensures ∙ c.if-is_foreign.false in
    c.takes_commit.ensures e c.args.src.0
    ∙ (ap (λ m. is_taken (dir_deliver c.args.self.now.lines.place.shape (dir_of e c.args.self.now) c.args.src.0 (msg_of m)))
    (sym c.in-Commit.is)
    ∙ ap (λ b. not b && is_taken
    (dir_deliver c.args.self.now.lines.place.shape (dir_of e c.args.self.now) c.args.src.0 (msg_of c.args.msg.now))) (sym own))

pub returns-in-WriteBack : goal.returns-in-WriteBack
unfolding dir_deliver
returns-in-WriteBack c = λ e.
    let own : is_foreign c.args.self.now.lines.place (msg_of c.args.msg.now) ≡ false = sym c.is_foreign.ensures ∙ c.if-is_foreign.false in
    c.takes_home.ensures e c.in-WriteBack.mask.0 c.in-WriteBack.words
    ∙ (ap (λ m. is_taken (dir_deliver c.args.self.now.lines.place.shape (dir_of e c.args.self.now) c.args.src.0 (msg_of m)))
    (sym c.in-WriteBack.is)
    ∙ ap (λ b. not b && is_taken
    (dir_deliver c.args.self.now.lines.place.shape (dir_of e c.args.self.now) c.args.src.0 (msg_of c.args.msg.now))) (sym own))

pub returns-in-Flush : goal.returns-in-Flush
unfolding dir_deliver
returns-in-Flush c = λ e.
    let own : is_foreign c.args.self.now.lines.place (msg_of c.args.msg.now) ≡ false = sym c.is_foreign.ensures ∙ c.if-is_foreign.false in
    c.takes_home-in-Flush.ensures e c.in-Flush.mask.0 c.in-Flush.words
    ∙ (ap (λ m. is_taken (dir_deliver c.args.self.now.lines.place.shape (dir_of e c.args.self.now) c.args.src.0 (msg_of m)))
    (sym c.in-Flush.is)
    ∙ ap (λ b. not b && is_taken
    (dir_deliver c.args.self.now.lines.place.shape (dir_of e c.args.self.now) c.args.src.0 (msg_of c.args.msg.now))) (sym own))

pub returns-in-Skip : goal.returns-in-Skip
unfolding dir_deliver
returns-in-Skip c = λ e.
    let own : is_foreign c.args.self.now.lines.place (msg_of c.args.msg.now) ≡ false = sym c.is_foreign.ensures ∙ c.if-is_foreign.false in
    skip-taken c.in-Skip.tid.0 (dir_of e c.args.self.now)
    ∙ (ap (λ m. is_taken (dir_deliver c.args.self.now.lines.place.shape (dir_of e c.args.self.now) c.args.src.0 (msg_of m)))
    (sym c.in-Skip.is)
    ∙ ap (λ b. not b && is_taken
    (dir_deliver c.args.self.now.lines.place.shape (dir_of e c.args.self.now) c.args.src.0 (msg_of c.args.msg.now))) (sym own))

pub returns-in-Abort : goal.returns-in-Abort
unfolding dir_deliver
returns-in-Abort c = λ e.
    let own : is_foreign c.args.self.now.lines.place (msg_of c.args.msg.now) ≡ false = sym c.is_foreign.ensures ∙ c.if-is_foreign.false in
    abort-taken c.in-Abort.tid.0 (dir_of e c.args.self.now)
    ∙ (ap (λ m. is_taken (dir_deliver c.args.self.now.lines.place.shape (dir_of e c.args.self.now) c.args.src.0 (msg_of m)))
    (sym c.in-Abort.is)
    ∙ ap (λ b. not b && is_taken
    (dir_deliver c.args.self.now.lines.place.shape (dir_of e c.args.self.now) c.args.src.0 (msg_of c.args.msg.now))) (sym own))

pub returns-in-InvAck : goal.returns-in-InvAck
unfolding dir_deliver
returns-in-InvAck c = λ e.
    let own : is_foreign c.args.self.now.lines.place (msg_of c.args.msg.now) ≡ false = sym c.is_foreign.ensures ∙ c.if-is_foreign.false in
    acknowledgement-taken c.args.src.0 c.in-InvAck.line.0 c.in-InvAck.keeps (dir_of e c.args.self.now)
    ∙ (ap (λ m. is_taken (dir_deliver c.args.self.now.lines.place.shape (dir_of e c.args.self.now) c.args.src.0 (msg_of m)))
    (sym c.in-InvAck.is)
    ∙ ap (λ b. not b && is_taken
    (dir_deliver c.args.self.now.lines.place.shape (dir_of e c.args.self.now) c.args.src.0 (msg_of c.args.msg.now))) (sym own))
