-- One node acted.
use Rattle.std.proofs.Common.{◌≡◌, ◌<◌, ap, sym, subst}
use Rattle.std.specs.Prelude.{Some, slice_get, slice_index_or, slice_set, length}
use Rattle.std.specs.Arc.{arc_value}
use Rattle.base_lemmas.proofs.Lemmas.{get-some}
use Rattle.apart_node.specs.Acts.{AnswersAct, SameNode}
use Rattle.rules_apart.specs.Fitting.{node_count}
use Rattle.node_locks.proofs.Peers.{are-kept}
use Rattle.node_locks.proofs.nodes.Nodes.act.Goals as goal

pub invariant_of-self : goal.invariant_of-self
invariant_of-self g c =
    let all = c.self.inside.nodes.items in
    let enough : c.args.node < node_count (arc_value c.self.inside.code).settings =
    subst (λ v. c.args.node < node_count v.code.settings) (sym c.self.view_is) c.requires in
    let within : c.args.node < length all = rw c.self.invariant.count enough in
    are-kept (arc_value c.self.inside.code) all c.args.node (slice_index_or all c.args.node c.index_mut-acting.result.now) c.act.new.self
    c.self.invariant (get-some all c.args.node c.index_mut-acting.result.now within)
    (subst (λ n. SameNode n c.act.new.self) c.index_mut-acting.ensures.value c.act.ensures.same)

pub returns : goal.returns
returns g c =
    let all = c.self.inside.nodes.items in
    let enough : c.args.node < node_count (arc_value c.self.inside.code).settings =
    subst (λ v. c.args.node < node_count v.code.settings) (sym c.self.view_is) c.requires in
    let within : c.args.node < length all = rw c.self.invariant.count enough in
    let x = slice_index_or all c.args.node c.index_mut-acting.result.now in
    record {
      before = x;
      after = c.act.new.self;
      found = subst (λ v. slice_get v.nodes c.args.node ≡ Some x) c.self.view_is
          (get-some all c.args.node c.index_mut-acting.result.now within);
      acted = subst (λ n. AnswersAct n c.args.pick c.act.new.self c.act.result) c.index_mut-acting.ensures.value c.act.ensures.acted;
      left = ap (λ v. record { code = v.code; nodes = slice_set v.nodes c.args.node c.act.new.self }) c.self.view_is;
    }
