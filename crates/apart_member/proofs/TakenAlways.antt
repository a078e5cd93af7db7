-- What never waits is taken in whatever state the node is.
use Rattle.std.proofs.Common.{◌≡◌, ℕ, true, Some, is_some, sym, ◌∙◌, subst}
use Rattle.tcc_base.specs.Settings.{Settings}
use Rattle.rules_maps.specs.Nodes.{Node, Core, Dir, Vendor, Msg, Skip, Abort, InvAck}
use Rattle.rules_maps.specs.Bridge.{node_of}
use Rattle.rules_tcc.specs.DirDeliver.{dir_deliver}
use Rattle.rules_tcc.specs.Local.{AtCore, AtDir, AtVendor, NodeState, takes}
use Rattle.rules_tcc.specs.State.{DirState}
use Rattle.directory.specs.Gives.{is_taken}
use Rattle.directory.proofs.Lemmas.{skip-taken, abort-taken, acknowledgement-taken}
use Rattle.image_load.specs.Contents.{started}
use Rattle.image_load.specs.Start.{first_ram}
use Rattle.theorem_apart.proofs.Lemmas.{to_dir_from_core}
use Rattle.rules_apart.specs.Carried.{IsCarried}
use Rattle.apart_member.specs.Always.{IsOfKind, never_waits}
use Rattle.apart_member.specs.Data.{MemberData, kind_state, node_at, state_of}
use Rattle.apart_member.specs.DataInside.{IsMember}
use Rattle.apart_member.specs.declared.kind.MemberKind.{MemberKind}
use Rattle.apart_member.specs.declared.kind.MemberKind.TheVariants as kind
use Rattle.apart_member.proofs.Events.{answer-some}
use Rattle.apart_member.proofs.Taken.{core-takes, vendor-takes}

dir-always : (sh : Settings) (s : DirState) (d c : ℕ) (x : Msg) → never_waits (Dir d) x ≡ true → is_taken (dir_deliver sh s c x) ≡ true
unfolding dir_deliver
dir-always sh s d c (Skip t) e = skip-taken t s
dir-always sh s d c (Abort t) e = abort-taken t s
dir-always sh s d c (InvAck l keeps) e = acknowledgement-taken c l keeps s
dir-always sh s d c x e = absurd (cc)

-- a message that never waits
pub always-taken : (sh : Settings) (own src : Node) (s : NodeState) (x : Msg) → IsOfKind own s → IsCarried sh src own x
    → never_waits own x ≡ true → is_some (takes sh s src (Some x)) ≡ true
always-taken sh (Core c) src (AtCore s) x k h e = core-takes sh s src c x h
always-taken sh Vendor src (AtVendor t) x k h e = vendor-takes sh t src x h
always-taken sh (Dir d) src (AtDir s) x k h e =
    let from = to_dir_from_core sh src d x h in
    subst (λ n. is_some (takes sh (AtDir s) n (Some x)) ≡ true) (sym from.1)
    (answer-some s (dir_deliver sh s from.0 x) ∙ dir-always sh s d from.0 x e)
always-taken sh own src s x k h e = absurd k

-- ---- a member

kind-is : (ram : ℕ → ℕ) (k : MemberKind) → IsOfKind (node_of (node_at k)) (kind_state ram k)
kind-is ram (kind.Core id core) = tt
kind-is ram (kind.Directory id dir) = tt
kind-is ram (kind.Vendor next) = tt

pub member-kind : (m : MemberData) → IsMember m → IsOfKind (node_of m.node) (state_of m)
unfolding state_of
member-kind m w =
    subst (λ n. IsOfKind (node_of n) (kind_state (first_ram (started m.code)) m.kind)) (sym w.named)
    (kind-is (first_ram (started m.code)) m.kind)
