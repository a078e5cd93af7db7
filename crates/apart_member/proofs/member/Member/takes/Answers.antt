-- A core and the vendor take every message at once; a directory says whether it does.
use Rattle.std.proofs.Common.{◌≡◌, ◌∙◌, sym, subst, true, Some, is_some}
use Rattle.rules_maps.specs.Bridge.{node_of}
use Rattle.tcc_msg.specs.Plain.{msg_of}
use Rattle.rules_tcc.specs.Local.{takes}
use Rattle.rules_apart.specs.Carried.{IsCarried}
use Rattle.apart_member.specs.Data.{state_of}
use Rattle.apart_member.specs.DataInside.{member_of}
use Rattle.apart_member.proofs.Taken.{at-once, dir-member_core, dir-member_from, dir-member_takes, takes-may}
use Rattle.apart_member.proofs.member.Member.takes.Goals as goal

pub returns-in-Core-clause-value : goal.returns-in-Core-clause-value
returns-in-Core-clause-value c =
    subst (λ m. true ≡ is_some (takes m.code.settings (state_of m) (node_of c.args.src) (Some (msg_of c.args.msg.now)))) c.self.view_is
    (at-once (member_of c.self.inside) (node_of c.args.src) (msg_of c.args.msg.now) c.self.invariant c.in-Core.is
    (subst (λ m. IsCarried m.code.settings (node_of c.args.src) (node_of m.node) (msg_of c.args.msg.now)) (sym c.self.view_is) c.requires))

pub returns-in-Core-clause-may : goal.returns-in-Core-clause-may
returns-in-Core-clause-may c =
    takes-may c.args.self.now (node_of c.args.src) (msg_of c.args.msg.now) true c.requires
    (subst (λ m. true ≡ is_some (takes m.code.settings (state_of m) (node_of c.args.src) (Some (msg_of c.args.msg.now)))) c.self.view_is
    (at-once (member_of c.self.inside) (node_of c.args.src) (msg_of c.args.msg.now) c.self.invariant c.in-Core.is
    (subst (λ m. IsCarried m.code.settings (node_of c.args.src) (node_of m.node) (msg_of c.args.msg.now)) (sym c.self.view_is) c.requires)))

pub returns-in-Core-2-clause-value : goal.returns-in-Core-2-clause-value
returns-in-Core-2-clause-value c =
    subst (λ m. true ≡ is_some (takes m.code.settings (state_of m) (node_of c.args.src) (Some (msg_of c.args.msg.now)))) c.self.view_is
    (at-once (member_of c.self.inside) (node_of c.args.src) (msg_of c.args.msg.now) c.self.invariant c.in-Core.is
    (subst (λ m. IsCarried m.code.settings (node_of c.args.src) (node_of m.node) (msg_of c.args.msg.now)) (sym c.self.view_is) c.requires))

pub returns-in-Core-2-clause-may : goal.returns-in-Core-2-clause-may
returns-in-Core-2-clause-may c =
    takes-may c.args.self.now (node_of c.args.src) (msg_of c.args.msg.now) true c.requires
    (subst (λ m. true ≡ is_some (takes m.code.settings (state_of m) (node_of c.args.src) (Some (msg_of c.args.msg.now)))) c.self.view_is
    (at-once (member_of c.self.inside) (node_of c.args.src) (msg_of c.args.msg.now) c.self.invariant c.in-Core.is
    (subst (λ m. IsCarried m.code.settings (node_of c.args.src) (node_of m.node) (msg_of c.args.msg.now)) (sym c.self.view_is) c.requires)))

pub unreachable-requires : goal.unreachable-requires
unreachable-requires c =
    dir-member_from (member_of c.self.inside) c.in-Directory.field-0 c.in-Directory.dir c.args.src (msg_of c.args.msg.now) c.self.invariant
    c.in-Directory.is
    (subst (λ m. IsCarried m.code.settings (node_of c.args.src) (node_of m.node) (msg_of c.args.msg.now)) (sym c.self.view_is) c.requires)
    c.in_default.not-Core

pub takes-requires : goal.takes-requires
takes-requires c =
    dir-member_core (member_of c.self.inside) c.in-Directory.field-0 c.in-Directory.dir c.in-Core-src.core.0 (msg_of c.args.msg.now)
    c.self.invariant c.in-Directory.is
    (subst (λ n. IsCarried (member_of c.self.inside).code.settings (node_of n) (node_of (member_of c.self.inside).node)
    (msg_of c.args.msg.now)) c.in-Core-src.is
    (subst (λ m. IsCarried m.code.settings (node_of c.args.src) (node_of m.node) (msg_of c.args.msg.now)) (sym c.self.view_is) c.requires))

dir-value : (c : goal.After-takes)
    → c.takes.result
    ≡ is_some (takes c.args.self.now.code.settings (state_of c.args.self.now) (node_of c.args.src) (Some (msg_of c.args.msg.now)))
dir-value c =
    subst (λ m. c.takes.result ≡ is_some (takes m.code.settings (state_of m) (node_of c.args.src) (Some (msg_of c.args.msg.now))))
    c.self.view_is
    (dir-member_takes (member_of c.self.inside) c.in-Directory.field-0 c.in-Directory.dir c.in-Core-src.core.0 (msg_of c.args.msg.now)
    c.takes.result c.self.invariant c.in-Directory.is
    (subst (λ n. IsCarried (member_of c.self.inside).code.settings (node_of n) (node_of (member_of c.self.inside).node)
    (msg_of c.args.msg.now)) c.in-Core-src.is
    (subst (λ m. IsCarried m.code.settings (node_of c.args.src) (node_of m.node) (msg_of c.args.msg.now)) (sym c.self.view_is) c.requires))
    c.takes.ensures
    ∙ (λ i. is_some (takes (member_of c.self.inside).code.settings (state_of (member_of c.self.inside)) (node_of ((sym c.in-Core-src.is) i))
    (Some (msg_of c.args.msg.now)))))

pub returns-in-Core-src-clause-value : goal.returns-in-Core-src-clause-value
returns-in-Core-src-clause-value c = dir-value c

pub returns-in-Core-src-clause-may : goal.returns-in-Core-src-clause-may
returns-in-Core-src-clause-may c =
    takes-may c.args.self.now (node_of c.args.src) (msg_of c.args.msg.now) c.takes.result c.requires (dir-value c)
