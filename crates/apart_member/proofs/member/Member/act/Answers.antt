-- The part's event is the member's.
use Rattle.std.proofs.Common.{◌≡◌, ◌∙◌, ◌+◌, ◌<◌, ap, subst, sym}
use Rattle.std.specs.Option.{option_map}
use Rattle.tcc_base.specs.Limits.{run_limit}
use Rattle.base_lemmas.proofs.Lemmas.{on_err-from}
use Rattle.tcc_msg.specs.Plain.{event_of, msg_of}
use Rattle.apart_member.specs.Acting.{Acts, ActsAs, MayDo}
use Rattle.apart_member.specs.Data.{state_of}
use Rattle.apart_member.specs.DataInside.{member_of}
use Rattle.apart_member.proofs.Members.{acts-are, acts-same, acts-whole, may-act, member_with, placed-same, same-state, stays-whole}
use Rattle.apart_member.proofs.member.Member.act.Goals as goal

pub act_part-requires-clause-may : goal.act_part-requires-clause-may
act_part-requires-clause-may c =
    may-act (member_of c.self.inside) c.deref.result.now (event_of c.args.event) (option_map msg_of c.args.msg) c.deref.ensures
    c.self.invariant (subst (λ m. MayDo m (event_of c.args.event) (option_map msg_of c.args.msg)) (sym c.self.view_is) c.requires.may)
    (subst (λ m. m.done < run_limit) (sym c.self.view_is) c.requires.few)

-- ---- want of memory

kept : (c : goal.After-from_residual) → state_of (member_with (member_of c.self.inside) c.act_part.new.self c.self.inside.done)
    ≡ state_of (member_of c.self.inside)
kept c = same-state (member_of c.self.inside) c.deref.result.now c.act_part.new.self c.self.inside.done c.deref.ensures
    c.in_err-consumed.ensures.unchanged

pub invariant_of-self : goal.invariant_of-self
invariant_of-self c =
    stays-whole (member_of c.self.inside) c.act_part.new.self c.self.invariant
    (placed-same (member_of c.self.inside) c.deref.result.now c.act_part.new.self c.deref.ensures c.in_err-consumed.ensures.placed)
    c.in_err-consumed.ensures.node (kept c)

pub returns-in_err-consumed-clause-unchanged : goal.returns-in_err-consumed-clause-unchanged
returns-in_err-consumed-clause-unchanged c = on_err-from c.from_residual.result _ (kept c ∙ ap state_of c.self.view_is)

-- ---- the event

did : (c : goal.After-self-1) → ActsAs (member_of c.self.inside).code (state_of (member_of c.self.inside))
    (state_of (member_with (member_of c.self.inside) c.act_part.new.self (c.self.inside.done + 1)))
    (event_of c.args.event) (option_map msg_of c.args.msg) c.act_part.new.out.list.items c.in_ok-consumed.consumed
did c = acts-same (member_of c.self.inside) c.deref.result.now c.act_part.new.self (c.self.inside.done + 1) (event_of c.args.event)
    (option_map msg_of c.args.msg) c.act_part.new.out.list.items c.in_ok-consumed.consumed c.deref.ensures c.in_ok-consumed.ensures.acts

pub invariant_of-self-2 : goal.invariant_of-self-2
invariant_of-self-2 c =
    acts-whole (member_of c.self.inside) c.act_part.new.self (event_of c.args.event) (option_map msg_of c.args.msg)
    c.act_part.new.out.list.items
    c.in_ok-consumed.consumed c.self.invariant
    (subst (λ m. MayDo m (event_of c.args.event) (option_map msg_of c.args.msg)) (sym c.self.view_is) c.requires.may)
    (subst (λ m. m.done < run_limit) (sym c.self.view_is) c.requires.few)
    (placed-same (member_of c.self.inside) c.deref.result.now c.act_part.new.self c.deref.ensures c.in_ok-consumed.ensures.placed)
    c.in_ok-consumed.ensures.node (did c)

pub returns-clause-acted : goal.returns-clause-acted
returns-clause-acted c =
    subst (λ m. Acts m (member_with (member_of c.self.inside) c.act_part.new.self (c.self.inside.done + 1)) (event_of c.args.event)
    (option_map msg_of c.args.msg) c.act_part.new.out.list.items c.in_ok-consumed.consumed) c.self.view_is
    (acts-are (member_of c.self.inside) _ (event_of c.args.event) (option_map msg_of c.args.msg) c.act_part.new.out.list.items
    c.in_ok-consumed.consumed c.self.invariant
    (subst (λ m. MayDo m (event_of c.args.event) (option_map msg_of c.args.msg)) (sym c.self.view_is) c.requires.may)
    (subst (λ m. m.done < run_limit) (sym c.self.view_is) c.requires.few) (did c))
