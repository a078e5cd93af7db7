-- The k-th of a core's events, or none.
use Rattle.std.proofs.Common.{◌≡◌, ◌∙◌, ap, subst, None}
use Rattle.std.specs.Prelude.{IfSome, slice_get}
use Rattle.std.specs.Option.{option_map}
use Rattle.tcc_msg.specs.Plain.{event_of}
use Rattle.apart_member.specs.Acting.{MayDo}
use Rattle.image_load.specs.Contents.{started}
use Rattle.rv_code.specs.Machine.{program}
use Rattle.core_node.specs.View.{core_of}
use Rattle.apart_member.specs.DataInside.{member_of}
use Rattle.apart_member.specs.Own.{core_events, own_events}
use Rattle.apart_member.proofs.Choices.{core-own, kth-may, none-own}
use Rattle.apart_member.proofs.member.Member.own_at.Goals as goal

value-in-Core : (c : goal.After-core_at) → option_map event_of c.core_at.result ≡ slice_get (own_events (member_of c.self.inside)) c.args.k
value-in-Core c =
    let x = c.in-Core.core in
    c.core_at.ensures
    ∙ ap (λ k. slice_get (core_events x.config (program (started k)) x.id.0 (core_of x)) c.args.k) c.deref.ensures
    ∙ ap (λ es. slice_get es c.args.k) (core-own (member_of c.self.inside) c.in-Core.id x c.self.invariant c.in-Core.is)

pub returns-in-Core-clause-value : goal.returns-in-Core-clause-value
returns-in-Core-clause-value c = value-in-Core c ∙ ap (λ m. slice_get (own_events m) c.args.k) c.self.view_is

pub returns-in-Core-clause-may : goal.returns-in-Core-clause-may
returns-in-Core-clause-may c =
    subst (λ m. IfSome c.core_at.result (λ e. MayDo m (event_of e) None)) c.self.view_is
    (kth-may (member_of c.self.inside) c.args.k c.core_at.result c.self.invariant (value-in-Core c))

pub returns-in-Directory-clause-value : goal.returns-in-Directory-clause-value
returns-in-Directory-clause-value c =
    ap (λ es. slice_get es c.args.k) (none-own (member_of c.self.inside) c.self.invariant c.in-Directory.is)
    ∙ ap (λ m. slice_get (own_events m) c.args.k) c.self.view_is

pub returns-in-Directory-2-clause-value : goal.returns-in-Directory-2-clause-value
returns-in-Directory-2-clause-value c =
    ap (λ es. slice_get es c.args.k) (none-own (member_of c.self.inside) c.self.invariant c.in-Directory.is)
    ∙ ap (λ m. slice_get (own_events m) c.args.k) c.self.view_is
