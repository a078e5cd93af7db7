use Rattle.std.proofs.Common.{ap}
use Rattle.rules_tcc.specs.DirDeliver.{dir_deliver, skip, abort, probe, load_request, mark, dir_commit, acknowledgement, write_back}
use Rattle.tcc_msg.specs.Plain.{msg_of}
use Rattle.directory.specs.Data.{dir_of}
use Rattle.directory.proofs.Giving.{gives-by, gives-ok}
use Rattle.directory.proofs.directory.Directory.take.Goals as goal

pub returns-in-Skip-clause-gives : goal.returns-in-Skip-clause-gives
unfolding dir_deliver
returns-in-Skip-clause-gives c =
    gives-ok c.args.self.now c.skip.new.self c.args.out.now.list.items c.skip.new.out.list.items c.skip.result (skip c.in-Skip.tid.0)
    (λ s. dir_deliver c.args.self.now.lines.place.shape s c.args.src.0 (msg_of c.args.msg.now))
    (λ e. ap (λ m. dir_deliver c.args.self.now.lines.place.shape (dir_of e c.args.self.now) c.args.src.0 (msg_of m)) c.in-Skip.is)
    c.skip.ensures.gives

pub returns-in-Abort-clause-gives : goal.returns-in-Abort-clause-gives
unfolding dir_deliver
returns-in-Abort-clause-gives c =
    gives-ok c.args.self.now c.abort.new.self c.args.out.now.list.items c.abort.new.out.list.items c.abort.result (abort c.in-Abort.tid.0)
    (λ s. dir_deliver c.args.self.now.lines.place.shape s c.args.src.0 (msg_of c.args.msg.now))
    (λ e. ap (λ m. dir_deliver c.args.self.now.lines.place.shape (dir_of e c.args.self.now) c.args.src.0 (msg_of m)) c.in-Abort.is)
    c.abort.ensures.gives

pub returns-in-Probe-clause-gives : goal.returns-in-Probe-clause-gives
unfolding dir_deliver
returns-in-Probe-clause-gives c =
    gives-ok c.args.self.now c.args.self.now c.args.out.now.list.items c.probe.new.out.list.items c.probe.result
    (probe c.args.src.0 c.in-Probe.tid.0) (λ s. dir_deliver c.args.self.now.lines.place.shape s c.args.src.0 (msg_of c.args.msg.now))
    (λ e. ap (λ m. dir_deliver c.args.self.now.lines.place.shape (dir_of e c.args.self.now) c.args.src.0 (msg_of m)) c.in-Probe.is)
    c.probe.ensures.gives

pub returns-in-LoadReq-clause-gives : goal.returns-in-LoadReq-clause-gives
unfolding dir_deliver
returns-in-LoadReq-clause-gives c =
    gives-ok c.args.self.now c.load.new.self c.args.out.now.list.items c.load.new.out.list.items c.load.result
    (load_request c.args.src.0 c.in-LoadReq.line.0 c.in-LoadReq.after.0)
    (λ s. dir_deliver c.args.self.now.lines.place.shape s c.args.src.0 (msg_of c.args.msg.now))
    (λ e. ap (λ m. dir_deliver c.args.self.now.lines.place.shape (dir_of e c.args.self.now) c.args.src.0 (msg_of m)) c.in-LoadReq.is)
    c.load.ensures.gives

pub returns-in-Mark-clause-gives : goal.returns-in-Mark-clause-gives
unfolding dir_deliver
returns-in-Mark-clause-gives c =
    gives-ok c.args.self.now c.mark.new.self c.args.out.now.list.items c.mark.new.out.list.items c.mark.result
    (mark c.in-Mark.line.0 c.in-Mark.mask.0 c.in-Mark.tid.0)
    (λ s. dir_deliver c.args.self.now.lines.place.shape s c.args.src.0 (msg_of c.args.msg.now))
    (λ e. ap (λ m. dir_deliver c.args.self.now.lines.place.shape (dir_of e c.args.self.now) c.args.src.0 (msg_of m)) c.in-Mark.is)
    c.mark.ensures.gives

pub returns-in-Commit-clause-gives : goal.returns-in-Commit-clause-gives
unfolding dir_deliver
returns-in-Commit-clause-gives c =
    gives-ok c.args.self.now c.commit.new.self c.args.out.now.list.items c.commit.new.out.list.items c.commit.result
    (dir_commit c.args.self.now.lines.place.shape c.args.src.0 c.in-Commit.tid.0 c.in-Commit.count)
    (λ s. dir_deliver c.args.self.now.lines.place.shape s c.args.src.0 (msg_of c.args.msg.now))
    (λ e. ap (λ m. dir_deliver c.args.self.now.lines.place.shape (dir_of e c.args.self.now) c.args.src.0 (msg_of m)) c.in-Commit.is)
    c.commit.ensures.gives

pub returns-in-InvAck-clause-gives : goal.returns-in-InvAck-clause-gives
unfolding dir_deliver
returns-in-InvAck-clause-gives c =
    gives-by (acknowledgement c.args.src.0 c.in-InvAck.line.0 c.in-InvAck.keeps)
    (λ s. dir_deliver c.args.self.now.lines.place.shape s c.args.src.0 (msg_of c.args.msg.now))
    (λ e. ap (λ m. dir_deliver c.args.self.now.lines.place.shape (dir_of e c.args.self.now) c.args.src.0 (msg_of m)) c.in-InvAck.is)
    c.acknowledge.ensures.gives

pub returns-in-WriteBack-clause-gives : goal.returns-in-WriteBack-clause-gives
unfolding dir_deliver
returns-in-WriteBack-clause-gives c =
    gives-by (write_back c.args.src.0 c.in-WriteBack.line.0 c.in-WriteBack.mask.0 c.in-WriteBack.words c.in-WriteBack.tag.0)
    (λ s. dir_deliver c.args.self.now.lines.place.shape s c.args.src.0 (msg_of c.args.msg.now))
    (λ e. ap (λ m. dir_deliver c.args.self.now.lines.place.shape (dir_of e c.args.self.now) c.args.src.0 (msg_of m)) c.in-WriteBack.is)
    c.take_home.ensures.gives

pub returns-in-Flush-clause-gives : goal.returns-in-Flush-clause-gives
unfolding dir_deliver
returns-in-Flush-clause-gives c =
    gives-by (write_back c.args.src.0 c.in-Flush.line.0 c.in-Flush.mask.0 c.in-Flush.words c.in-Flush.tag.0)
    (λ s. dir_deliver c.args.self.now.lines.place.shape s c.args.src.0 (msg_of c.args.msg.now))
    (λ e. ap (λ m. dir_deliver c.args.self.now.lines.place.shape (dir_of e c.args.self.now) c.args.src.0 (msg_of m)) c.in-Flush.is)
    c.take_home-in-Flush.ensures.gives
