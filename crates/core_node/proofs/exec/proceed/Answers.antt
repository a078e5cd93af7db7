use Rattle.std.proofs.Common.{ℕ, Option, not, is_some, ap, sym, ◌∙◌, rules, refl}
use Rattle.rv_exec.specs.Needs.{need_of}
use Rattle.rv_exec.specs.Running.{alone}
use Rattle.core_node.specs.View.{core_of}
use Rattle.core_node.proofs.Blocked.{blocked_room}
use Rattle.core_node.proofs.Enabled.{need_or_room}
use Rattle.core_node.proofs.Needed.{unnoted_goes_on, notes_none}
use Rattle.core_node.proofs.exec.proceed.Goals as goal

pub returns-in_default : goal.returns-in_default
returns-in_default c =
    let k = c.args.core.now in
    record {
      does = tt;
      noted = tt;
      blocked =
          blocked_room _ _ c.error_of.result (need_or_room k.config (alone c.args.inst.now) k.id.0 (core_of k) (need_of c.args.need)
          ∙ ap (λ (r : Option ℕ). not (is_some r)) (sym c.room_at_need.ensures))
          c.error_of.ensures;
      stays = record { config = refl; id = refl; whole = c.requires.whole };
      unchanged = refl;
      unsent = search rules;
    }

pub returns-in-Ok-go_on : goal.returns-in-Ok-go_on
returns-in-Ok-go_on c =
    let k = c.args.core.now in
    record {
      does = search rules;
      noted =
          notes_none _ 1 c.make_room.new.out c.go_on.new.out c.go_on.new.core
          (unnoted_goes_on k.config (alone c.args.inst.now) k.id.0 (core_of k) (need_of c.args.need) c.requires.goes_on)
          c.in-Ok-go_on.ensures.does;
      blocked = search rules;
      stays = c.go_on.ensures.stays;
      unchanged = tt;
      unsent = tt;
    }
