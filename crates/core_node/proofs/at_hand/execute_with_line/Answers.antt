use Rattle.rv_exec.specs.Running.{alone}
use Rattle.core_node.specs.View.{core_of}
use Rattle.core_node.proofs.Lined.{change-leaves, filling-goes-on, filling-word, load-leaves, on-ok, served-aligned}
use Rattle.core_node.proofs.at_hand.execute_with_line.Goals as goal

pub load_with_line-requires-clause-goes_on : goal.load_with_line-requires-clause-goes_on
load_with_line-requires-clause-goes_on c =
    let k = c.args.core.now in
    filling-goes-on k.config (core_of k) c.args.need c.args.w.0 c.requires.fills

pub load_with_line-requires-clause-fills : goal.load_with_line-requires-clause-fills
load_with_line-requires-clause-fills c =
    let k = c.args.core.now in
    filling-word k.config (core_of k) c.args.need c.args.w.0 c.requires.fills

pub change_with_line-requires-clause-goes_on : goal.change_with_line-requires-clause-goes_on
change_with_line-requires-clause-goes_on c =
    let k = c.args.core.now in
    filling-goes-on k.config (core_of k) c.args.need c.args.w.0 c.requires.fills

pub change_with_line-requires-clause-aligned : goal.change_with_line-requires-clause-aligned
change_with_line-requires-clause-aligned c =
    let k = c.args.core.now in
    served-aligned k.config.base k.config.ram c.args.need c.requires.served

pub change_with_line-requires-clause-fills : goal.change_with_line-requires-clause-fills
change_with_line-requires-clause-fills c =
    let k = c.args.core.now in
    filling-word k.config (core_of k) c.args.need c.args.w.0 c.requires.fills

pub returns-in-Load-clause-does : goal.returns-in-Load-clause-does
returns-in-Load-clause-does c =
    let k = c.args.core.now in
    on-ok c.load_with_line.result
    (load-leaves k.config (alone c.args.inst.now) k.id.0 (core_of k) (core_of c.load_with_line.new.core) c.args.need c.in-Load.addr
    c.in-Load.size
    c.args.w.0 c.args.words.now c.in-Load.is c.requires.fills) c.load_with_line.ensures.does

pub returns-in_ok-make_room-in_default : goal.returns-in_ok-make_room-in_default
returns-in_ok-make_room-in_default c =
    let k = c.args.core.now in
    record {
      does = on-ok c.change_with_line.result
          (change-leaves k.config (alone c.args.inst.now) k.id.0 (core_of k) (core_of c.change_with_line.new.core) c.args.need
          c.args.w.0 c.args.words.now c.in_default.not-Load c.requires.fills) c.change_with_line.ensures.does;
      cause = c.change_with_line.ensures.cause;
      stays = c.change_with_line.ensures.stays;
      unchanged = c.change_with_line.ensures.unchanged;
    }
