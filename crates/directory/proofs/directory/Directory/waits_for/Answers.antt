use Rattle.std.proofs.Common.{ℕ, Option, None, sym, subst}
use Rattle.rules_tcc.specs.DirDeliver.{dir_deliver}
use Rattle.rules_maps.specs.Shape.{Shape}
use Rattle.rules_tcc.specs.State.{DirState}
use Rattle.directory.specs.declared.waits.Cause.{Cause}
use Rattle.tcc_msg.specs.declared.msg.Msg.{Msg}
use Rattle.tcc_msg.specs.Plain.{msg_of}
use Rattle.directory.specs.Data.{dir_of}
use Rattle.directory.specs.Tells.{Tells}
use Rattle.directory.proofs.Taking.{skip-taken, abort-taken, acknowledgement-taken}
use Rattle.directory.proofs.directory.Directory.waits_for.Goals as goal

-- what is told of a message
abbrev TellsOfMessage : Shape → (core : ℕ) → DirState → Option Cause → Msg → Type 0
TellsOfMessage sh c s k m = Tells (λ n. dir_deliver sh n c (msg_of m)) s k

pub returns-in-Probe : goal.returns-in-Probe
unfolding dir_deliver
returns-in-Probe c = λ e.
    subst (TellsOfMessage c.args.self.now.lines.place.shape c.args.src.0 (dir_of e c.args.self.now) c.probe_waits_for.result)
    (sym c.in-Probe.is)
    (c.probe_waits_for.ensures e c.args.src.0)

pub returns-in-LoadReq : goal.returns-in-LoadReq
unfolding dir_deliver
returns-in-LoadReq c = λ e.
    subst (TellsOfMessage c.args.self.now.lines.place.shape c.args.src.0 (dir_of e c.args.self.now) c.load_waits_for.result)
    (sym c.in-LoadReq.is)
    (c.load_waits_for.ensures e c.args.src.0)

pub returns-in-Mark : goal.returns-in-Mark
unfolding dir_deliver
returns-in-Mark c = λ e.
    subst (TellsOfMessage c.args.self.now.lines.place.shape c.args.src.0 (dir_of e c.args.self.now) c.mark_waits_for.result)
    (sym c.in-Mark.is)
    (c.mark_waits_for.ensures e)

pub returns-in-Commit : goal.returns-in-Commit
unfolding dir_deliver
returns-in-Commit c = λ e.
    subst (TellsOfMessage c.args.self.now.lines.place.shape c.args.src.0 (dir_of e c.args.self.now) c.commit_waits_for.result)
    (sym c.in-Commit.is)
    (c.commit_waits_for.ensures e c.args.src.0)

pub returns-in-WriteBack : goal.returns-in-WriteBack
unfolding dir_deliver
returns-in-WriteBack c = λ e.
    subst (TellsOfMessage c.args.self.now.lines.place.shape c.args.src.0 (dir_of e c.args.self.now) c.words_wait_for.result)
    (sym c.in-WriteBack.is)
    (c.words_wait_for.ensures e c.in-WriteBack.mask.0 c.in-WriteBack.words)

pub returns-in-Flush : goal.returns-in-Flush
unfolding dir_deliver
returns-in-Flush c = λ e.
    subst (TellsOfMessage c.args.self.now.lines.place.shape c.args.src.0 (dir_of e c.args.self.now) c.words_wait_for-in-Flush.result)
    (sym c.in-Flush.is)
    (c.words_wait_for-in-Flush.ensures e c.in-Flush.mask.0 c.in-Flush.words)

pub returns-in-Skip : goal.returns-in-Skip
unfolding dir_deliver
returns-in-Skip c = λ e.
    subst (TellsOfMessage c.args.self.now.lines.place.shape c.args.src.0 (dir_of e c.args.self.now) None) (sym c.in-Skip.is)
    (record { none = skip-taken c.in-Skip.tid.0 (dir_of e c.args.self.now); holds = tt; stays = tt })

pub returns-in-Abort : goal.returns-in-Abort
unfolding dir_deliver
returns-in-Abort c = λ e.
    subst (TellsOfMessage c.args.self.now.lines.place.shape c.args.src.0 (dir_of e c.args.self.now) None) (sym c.in-Abort.is)
    (record { none = abort-taken c.in-Abort.tid.0 (dir_of e c.args.self.now); holds = tt; stays = tt })

pub returns-in-InvAck : goal.returns-in-InvAck
unfolding dir_deliver
returns-in-InvAck c = λ e.
    subst (TellsOfMessage c.args.self.now.lines.place.shape c.args.src.0 (dir_of e c.args.self.now) None) (sym c.in-InvAck.is) (record {
      none = acknowledgement-taken c.args.src.0 c.in-InvAck.line.0 c.in-InvAck.keeps (dir_of e c.args.self.now);
      holds = tt;
      stays = tt;
    })
