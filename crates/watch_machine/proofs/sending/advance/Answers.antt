-- The step, and what was sent put on its links.
use Rattle.std.proofs.Common.{Some, ap, sym, ◌∙◌, subst}
use Rattle.tcc_msg.specs.Plain.{event_of, sends_of}
use Rattle.net_core.specs.Answers.{IsSent, acts_in}
use Rattle.net_core.specs.Machine.{world_of}
use Rattle.watch_machine.proofs.AnyOrder.{ends-exist}
use Rattle.watch_machine.proofs.Happening.{same-world}
use Rattle.watch_machine.proofs.sending.advance.Goals as goal

pub returns-in-Ok : goal.returns-in-Ok
returns-in-Ok c =
    let m = c.args.system.now in
    let n = c.step.new.self in
    let o = c.settle.new.self in
    let a = acts_in (event_of c.args.e) in
    let sent = subst (λ xs. IsSent (world_of m) (world_of o) a (sends_of xs)) (sym c.settle.ensures.last)
    (subst (λ v. IsSent (world_of m) v a (sends_of n.last)) (sym (same-world n o c.settle.ensures.history)) c.in_ok-step.ensures.sent) in
    record {
      next = c.in_ok-step.ensures.next ∙ ap (λ h. Some h) (sym c.settle.ensures.history);
      tells = c.in_ok-step.ensures.told;
      sent = sent;
      ends = ends-exist m o a c.events.ensures.sound sent;
      settled = c.in-Ok.ensures.settled;
      events = c.settle.ensures.events ∙ c.in_ok-step.ensures.counted;
      code = ap (λ d. d.code) c.settle.ensures.cores ∙ c.in_ok-step.ensures.code;
    }
