-- An event is done.
use Rattle.std.proofs.Common.{[], ◌∷◌, ◌++◌, length, refl, ap, sym, ◌∙◌}
use Rattle.base_lemmas.proofs.Lemmas.{on_err-from}
use Rattle.rules_maps.specs.Bridge.{node_of}
use Rattle.tcc_msg.specs.Plain.{event_of}
use Rattle.rules_apart.specs.declared.logs.Logged.{Logged}
use Rattle.apart_node.specs.Deeds.{IsPossible, mail_in}
use Rattle.apart_node.specs.Node.{NodeData}
use Rattle.apart_node.specs.NodeInside.{node_of_parts}
use Rattle.apart_node.proofs.Keeping.Gathering.{gathers-keep, gathers-refl, gathers-same}
use Rattle.apart_node.proofs.Picking.Choices.{own-same}
use Rattle.apart_node.proofs.Keeping.Performing.{Parts, may-perform, none-lost, performs-keep, performs-parts, waiting-is}
use Rattle.apart_node.proofs.Running.Stamps.{last-push}
use Rattle.apart_node.proofs.node.Node.perform.Goals as goal

pub returns-then-is_err-clause-unchanged : goal.returns-then-is_err-clause-unchanged
returns-then-is_err-clause-unchanged c = rw (← c.self.view_is, c.reserve.ensures.items) (gathers-refl (node_of_parts c.self.inside))

pub returns-in_err-consumed-clause-unchanged : goal.returns-in_err-consumed-clause-unchanged
returns-in_err-consumed-clause-unchanged c =
    on_err-from c.from_residual.result _ (rw (← c.self.view_is, c.reserve.ensures.items)
    (gathers-same (node_of_parts c.self.inside) c.act.new.member c.act.new.self
    (record {
      code = c.act.ensures.code;
      node = c.act.ensures.node;
      done = c.in_err-consumed.ensures.uncounted;
      state = c.in_err-consumed.ensures.unchanged;
    })
    (rw (← c.self.view_is) at c.requires.flushed) c.act.ensures.ports c.in_err-consumed.ensures.unsent))

pub invariant_of-self-in_err-consumed : goal.invariant_of-self-in_err-consumed
invariant_of-self-in_err-consumed c =
    let mid = node_of_parts c.self.inside in
    let new : NodeData = record { member = c.act.new.member; log = mid.log; room = c.act.new.self } in
    record {
      last = rw c.reserve.ensures.items c.self.invariant.last;
      node = rw c.reserve.ensures.items (gathers-keep mid new
          (gathers-same mid c.act.new.member c.act.new.self
          (record {
            code = c.act.ensures.code;
            node = c.act.ensures.node;
            done = c.in_err-consumed.ensures.uncounted;
            state = c.in_err-consumed.ensures.unchanged;
          })
          (rw (← c.self.view_is) at c.requires.flushed) c.act.ensures.ports c.in_err-consumed.ensures.unsent) c.self.invariant.node);
      own = c.self.invariant.own ∙ ap length (sym (own-same c.self.inside.member c.act.new.member c.act.ensures.code c.act.ensures.node
          c.in_err-consumed.ensures.unchanged));
    }

-- the event took what waited
taken : (c : goal.After-drop_waiting) → Parts (node_of_parts c.self.inside) (event_of c.args.deed.now.event)
    (mail_in c.args.deed.now.waiting) c.act.new.member
    c.act.new.self c.drop_waiting.new.self (record { stamp = c.stamp-stamp.result; event = c.args.deed.now.event })
    c.in_ok-consumed.consumed
taken c =
    let mid = node_of_parts c.self.inside in
    let h : IsPossible mid c.args.deed.now = rw (← c.self.view_is) at c.requires.possible in
    let w = waiting-is mid.room (node_of mid.member.node) (event_of c.args.deed.now.event) c.args.deed.now.waiting c.in-Some.waiting
    c.in-Some.is h.waits in
    let own = ap (λ r. r.own) c.act.ensures.ports ∙ c.self.invariant.node.own in
    record {
      flushed = rw (← c.self.view_is) at c.requires.flushed;
      acts = rw c.msg.ensures at c.in_ok-consumed.ensures.acted.rule;
      ports = c.act.ensures.ports;
      code = c.act.ensures.code;
      node = c.act.ensures.node;
      done = c.in_ok-consumed.ensures.done;
      event = refl;
      stamp = rw c.self.invariant.last at c.stamp-stamp.ensures;
      loses = rw (c.if-consumed.true, w.1, ← own) c.drop_waiting.ensures.room;
      same = c.drop_waiting.ensures.sent c.stamp-stamp.result;
    }

pub returns-in-Some-clause-performs : goal.returns-in-Some-clause-performs
returns-in-Some-clause-performs c =
    rw (← c.self.view_is, c.push_reserved.ensures.items, c.reserve.ensures.items)
    (performs-parts (node_of_parts c.self.inside) (event_of c.args.deed.now.event) (mail_in c.args.deed.now.waiting) c.act.new.member
    c.act.new.self
    c.drop_waiting.new.self (record { stamp = c.stamp-stamp.result; event = c.args.deed.now.event }) c.in_ok-consumed.consumed (taken c))

pub invariant_of-self-in-Some : goal.invariant_of-self-in-Some
invariant_of-self-in-Some c =
    let mid = node_of_parts c.self.inside in
    let d = c.args.deed.now in
    let entry : Logged = record { stamp = c.stamp-stamp.result; event = d.event } in
    let new : NodeData = record { member = c.act.new.member; log = mid.log ++ entry ∷ []; room = c.drop_waiting.new.self } in
    let h : IsPossible mid d = rw (← c.self.view_is) at c.requires.possible in
    let p = performs-parts mid (event_of d.event) (mail_in d.waiting) c.act.new.member c.act.new.self c.drop_waiting.new.self entry
    c.in_ok-consumed.consumed (taken c) in
    record {
      last = rw (c.push_reserved.ensures.items, c.reserve.ensures.items) (sym (last-push 0 mid.log entry));
      node = rw (c.push_reserved.ensures.items, c.reserve.ensures.items)
          (performs-keep mid new (event_of d.event) (mail_in d.waiting) p (may-perform mid d h) c.self.invariant.node);
      own = c.own_count-self-inside.ensures;
    }

-- what waits stays
stays : (c : goal.Else-consumed) → Parts (node_of_parts c.self.inside) (event_of c.args.deed.now.event) (mail_in c.args.deed.now.waiting)
    c.act.new.member
    c.act.new.self c.act.new.self (record { stamp = c.stamp-stamp.result; event = c.args.deed.now.event }) c.in_ok-consumed.consumed
stays c = record {
  flushed = rw (← c.self.view_is) at c.requires.flushed;
  acts = rw c.msg.ensures at c.in_ok-consumed.ensures.acted.rule;
  ports = c.act.ensures.ports;
  code = c.act.ensures.code;
  node = c.act.ensures.node;
  done = c.in_ok-consumed.ensures.done;
  event = refl;
  stamp = rw c.self.invariant.last at c.stamp-stamp.ensures;
  loses = rw c.if-consumed.false (none-lost (event_of c.args.deed.now.event) c.act.new.self);
  same = λ dst. refl;
}

pub returns-else-consumed-clause-performs : goal.returns-else-consumed-clause-performs
returns-else-consumed-clause-performs c =
    rw (← c.self.view_is, c.push_reserved.ensures.items, c.reserve.ensures.items)
    (performs-parts (node_of_parts c.self.inside) (event_of c.args.deed.now.event) (mail_in c.args.deed.now.waiting) c.act.new.member
    c.act.new.self
    c.act.new.self (record { stamp = c.stamp-stamp.result; event = c.args.deed.now.event }) c.in_ok-consumed.consumed (stays c))

pub invariant_of-self-else-consumed : goal.invariant_of-self-else-consumed
invariant_of-self-else-consumed c =
    let mid = node_of_parts c.self.inside in
    let d = c.args.deed.now in
    let entry : Logged = record { stamp = c.stamp-stamp.result; event = d.event } in
    let new : NodeData = record { member = c.act.new.member; log = mid.log ++ entry ∷ []; room = c.act.new.self } in
    let h : IsPossible mid d = rw (← c.self.view_is) at c.requires.possible in
    let p = performs-parts mid (event_of d.event) (mail_in d.waiting) c.act.new.member c.act.new.self c.act.new.self entry
    c.in_ok-consumed.consumed (stays c) in
    record {
      last = rw (c.push_reserved.ensures.items, c.reserve.ensures.items) (sym (last-push 0 mid.log entry));
      node = rw (c.push_reserved.ensures.items, c.reserve.ensures.items)
          (performs-keep mid new (event_of d.event) (mail_in d.waiting) p (may-perform mid d h) c.self.invariant.node);
      own = c.own_count-self-inside.ensures;
    }
