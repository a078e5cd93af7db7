use Rattle.std.proofs.Common.{ℕ, Option, not, is_some, ap, sym, ◌∙◌, rules, refl}
use Rattle.image_load.specs.Contents.{started}
use Rattle.rv_code.specs.Machine.{program}
use Rattle.rv_exec.specs.Needs.{need_of}
use Rattle.core_node.specs.View.{core_of}
use Rattle.core_node.proofs.Blocked.{blocked_room}
use Rattle.core_node.proofs.Enabled.{execute_or_room}
use Rattle.core_node.proofs.InstAtPc.{executed_as, trapped_as}
use Rattle.core_node.proofs.exec.exec_here.Goals as goal

pub returns-then-core : goal.returns-then-core
unfolding core_of
returns-then-core c =
    let k = c.args.core.now in
    record {
      does = tt;
      noted = tt;
      blocked =
          blocked_room _ _ c.error_of.result (execute_or_room k.config (program (started c.args.code.now)) k.id.0 (core_of k)
          ∙ ap (λ (r : Option ℕ). not (is_some r)) (sym c.room_at_pc.ensures))
          c.error_of.ensures;
      stays = record { config = refl; id = refl; whole = c.requires.whole };
      unchanged = search rules;
      unsent = search rules;
    }

pub returns-in-Ok : goal.returns-in-Ok
unfolding core_of started
returns-in-Ok c =
    let k = c.args.core.now in
    rw (executed_as k.config (started c.args.code.now) k.id.0 (core_of k) c.in-Ok.inst
    (need_of c.plan-need.result) c.in-Ok.ensures c.plan-need.ensures.need)
    c.execute_need.ensures

pub returns-in-Err : goal.returns-in-Err
unfolding core_of
returns-in-Err c =
    let k = c.args.core.now in
    rw (trapped_as k.config (started c.args.code.now) k.id.0 (core_of k) c.in-Err.trap c.in-Err.ensures) c.stop.ensures
