-- A core's events, or none.
use Rattle.std.proofs.Common.{◌∙◌, ap, length}
use Rattle.image_load.specs.Contents.{started}
use Rattle.rv_code.specs.Machine.{program}
use Rattle.core_node.specs.View.{core_of}
use Rattle.apart_member.specs.DataInside.{member_of}
use Rattle.apart_member.specs.Own.{core_events, own_events}
use Rattle.apart_member.proofs.Choices.{core-own, none-own}
use Rattle.apart_member.proofs.member.Member.own_count.Goals as goal

pub returns-in-Core : goal.returns-in-Core
returns-in-Core c =
    let x = c.in-Core.core in
    c.core_count.ensures
    ∙ ap (λ k. length (core_events x.config (program (started k)) x.id.0 (core_of x))) c.deref.ensures
    ∙ ap length (core-own (member_of c.self.inside) c.in-Core.field-0 x c.self.invariant c.in-Core.is)
    ∙ ap (λ m. length (own_events m)) c.self.view_is

pub returns-in-Directory : goal.returns-in-Directory
returns-in-Directory c =
    ap length (none-own (member_of c.self.inside) c.self.invariant c.in-Directory.is) ∙ ap (λ m. length (own_events m)) c.self.view_is

pub returns-in-Directory-2 : goal.returns-in-Directory-2
returns-in-Directory-2 c =
    ap length (none-own (member_of c.self.inside) c.self.invariant c.in-Directory.is) ∙ ap (λ m. length (own_events m)) c.self.view_is
