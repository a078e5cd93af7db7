-- What a member takes of what its links bring.
use Rattle.std.proofs.Common.{◌≡◌, ℕ, ◌<◌, ◌^◌, Bool, true, false, not, ◌&&◌, Option, Some, is_some, refl, ap, sym, ◌∙◌, subst}
use Rattle.std.proofs.Common.{◌⊎◌, inl, inr}
use Rattle.std.specs.Prelude.{nat_lt, IfSome}
use Rattle.dir_lines.specs.Home.{Home}
use Rattle.tcc_base.specs.Settings.{Settings}
use Rattle.rules_maps.specs.Messages.{line_named, tid_named, fits, goes_to_core, goes_to_dir, is_grant}
use Rattle.rules_maps.specs.Nodes.{Node, Core, Dir, Vendor, Msg, TidReq, TidGrant, LoadReq, Fill, Skip, Probe, ProbeReply, Mark, Commit}
use Rattle.rules_maps.specs.Nodes.{Abort, Deliver, WriteBack, Flush, DataReq, Inv, InvAck}
use Rattle.rules_maps.specs.Shape.{lines, home}
use Rattle.rules_tcc.specs.CoreDeliver.{core_deliver, from_dir, from_vendor}
use Rattle.rules_tcc.specs.DirDeliver.{dir_deliver}
use Rattle.rules_tcc.specs.Local.{AtCore, AtDir, AtVendor, NodeState, act, takes}
use Rattle.rules_tcc.specs.State.{CoreState, DirState}
use Rattle.directory.specs.Foreign.{HasSmallTids, is_foreign}
use Rattle.directory.specs.Gives.{is_taken}
use Rattle.std.proofs.lemmas.Bool.{and_from}
use Rattle.rv_code.specs.Machine.{program}
use Rattle.rules_program.specs.Program.{Program}
use Rattle.rules_tcc.specs.Step.{names_nodes}
use Rattle.apart_member.specs.Acting.{MayDo}
use Rattle.theorem_apart.proofs.Lemmas.{joins_nodes, brought_to_dir, to_dir_from_core, to_vendor_from_core}
use Rattle.rules_apart.specs.Carried.{IsCarried}
use Rattle.core_node.specs.View.{core_of}
use Rattle.core_node.specs.declared.state.Core.{Core as CoreData}
use Rattle.directory.specs.Data.{DirData, dir_of}
use Rattle.image_load.specs.Contents.{started}
use Rattle.image_load.specs.Start.{first_ram}
use Rattle.tcc_base.specs.declared.names.CoreId.{CoreId}
use Rattle.tcc_base.specs.declared.names.DirId.{DirId}
use Rattle.tcc_base.specs.declared.names.NodeId.{NodeId}
use Rattle.tcc_base.specs.declared.names.NodeId.TheVariants as code_node
use Rattle.base_lemmas.proofs.Lemmas.{and-right, at_home}
use Rattle.rules_maps.specs.Bridge.{node_of}
use Rattle.apart_member.specs.Data.{MemberData, kind_state, node_at, state_of}
use Rattle.apart_member.specs.DataInside.{IsMember}
use Rattle.apart_member.specs.Placed.{IsPlaced}
use Rattle.apart_member.specs.declared.kind.MemberKind.{MemberKind}
use Rattle.apart_member.specs.declared.kind.MemberKind.TheVariants as kind
use Rattle.apart_member.proofs.Events.{acted-some, answer-some}

-- ---- a core

dir-says : (s : Settings) (d : ℕ) (c : CoreState) (x : Msg) → goes_to_core x ≡ true → is_some (from_dir s d c x) ≡ true
dir-says s d c (Fill l ws) e = refl
dir-says s d c (ProbeReply t u) e = refl
dir-says s d c (DataReq l) e = refl
dir-says s d c (Inv l m t) e = refl
dir-says s d c x e = absurd (cc)

vendor-says : (s : Settings) (c : CoreState) (x : Msg) → is_grant x ≡ true → is_some (from_vendor s c x) ≡ true
vendor-says s c (TidGrant t) e = refl
vendor-says s c x e = absurd (cc)

-- a core takes each at once
pub core-takes : (s : Settings) (c : CoreState) (src : Node) (id : ℕ) (x : Msg) → IsCarried s src (Core id) x
    → is_some (takes s (AtCore c) src (Some x)) ≡ true
unfolding fits core_deliver
core-takes s c (Dir d) id x k =
    acted-some true (from_dir s d c x)
    ∙ dir-says s d c x (and-right (nat_lt d s.dirs) (goes_to_core x)
    (and-right (nat_lt id s.cores) (nat_lt d s.dirs && goes_to_core x) k.fits))
core-takes s c Vendor id x k =
    acted-some true (from_vendor s c x) ∙ vendor-says s c x (and-right (nat_lt id s.cores) (is_grant x) k.fits)
core-takes s c (Core d) id x k = absurd (let f = k.fits in cc)

-- ---- the vendor

-- and so does the vendor
pub vendor-takes : (s : Settings) (t : ℕ) (src : Node) (x : Msg) → IsCarried s src Vendor x
    → is_some (takes s (AtVendor t) src (Some x)) ≡ true
vendor-takes s t src x k =
    let from = to_vendor_from_core s src x k in
    (λ i. is_some (takes s (AtVendor t) (from.1 i) (Some (from.2 i))))

-- ---- a directory

not-foreign : (s : Settings) (d : ℕ) (x : Msg) → goes_to_dir x ≡ true → IfSome (line_named x) (λ l. (l < lines s) × (home s l ≡ d))
    → is_foreign (record { shape = s; dir = d }) x ≡ false
not-foreign s d (Skip t) g l = refl
not-foreign s d (Abort t) g l = refl
not-foreign s d (Probe t) g l = refl
not-foreign s d (Commit t count) g l = refl
not-foreign s d (LoadReq y after) g l = rw (at_home s y d l.0 l.1) refl
not-foreign s d (Mark y m t) g l = rw (at_home s y d l.0 l.1) refl
not-foreign s d (InvAck y keeps) g l = rw (at_home s y d l.0 l.1) refl
not-foreign s d (WriteBack y m ws t) g l = rw (at_home s y d l.0 l.1) refl
not-foreign s d (Flush y m ws t) g l = rw (at_home s y d l.0 l.1) refl
not-foreign s d TidReq g l = absurd (cc)
not-foreign s d (TidGrant t) g l = absurd (cc)
not-foreign s d (Fill y ws) g l = absurd (cc)
not-foreign s d (ProbeReply t v) g l = absurd (cc)
not-foreign s d (DataReq y) g l = absurd (cc)
not-foreign s d (Inv y m t) g l = absurd (cc)

-- what the directory's own test says of a message that it is brought
pub dir-takes : (s : Settings) (h : Home) (d c : ℕ) (state : DirState) (x : Msg) (b : Bool) → h ≡ record { shape = s; dir = d }
    → IsCarried s (Core c) (Dir d) x → b ≡ (not (is_foreign h x) && is_taken (dir_deliver h.shape state c x))
    → b ≡ is_some (takes s (AtDir state) (Core c) (Some x))
dir-takes s h d c state x b place k e =
    let to = brought_to_dir s c d x k in
    e ∙ (λ i. not (is_foreign (place i) x) && is_taken (dir_deliver (place i).shape state c x))
    ∙ ap (λ f. not f && is_taken (dir_deliver s state c x)) (not-foreign s d x to.kind to.line)
    ∙ sym (answer-some state (dir_deliver s state c x))

-- a TID in it is small
pub small-tids : (x : Msg) → IfSome (tid_named x) (λ t. t < 2 ^ 62) → HasSmallTids x
small-tids (Skip t) h = h
small-tids (Abort t) h = h
small-tids (Commit t c) h = h
small-tids TidReq h = tt
small-tids (TidGrant t) h = tt
small-tids (LoadReq l after) h = tt
small-tids (Fill l ws) h = tt
small-tids (Probe t) h = tt
small-tids (ProbeReply t s) h = tt
small-tids (Mark l a t) h = tt
small-tids (WriteBack l a ws t) h = tt
small-tids (Flush l a ws t) h = tt
small-tids (DataReq l) h = tt
small-tids (Inv l a t) h = tt
small-tids (InvAck l k) h = tt

-- ---- a member

-- what its link brings, to what it is
brought : (m : MemberData) (k : MemberKind) (src : Node) (x : Msg) → IsMember m → m.kind ≡ k
    → IsCarried m.code.settings src (node_of m.node) x → IsCarried m.code.settings src (node_of (node_at k)) x
brought m k src x w is h = subst (λ n. IsCarried m.code.settings src (node_of n) x) (w.named ∙ ap node_at is) h

-- it takes it by the rules of what it is
taken-by : (m : MemberData) (k : MemberKind) (src : Node) (x : Msg) → m.kind ≡ k
    → is_some (takes m.code.settings (kind_state (first_ram (started m.code)) k) src (Some x))
    ≡ is_some (takes m.code.settings (state_of m) src (Some x))
unfolding state_of
taken-by m k src x is = ap (λ y. is_some (takes m.code.settings (kind_state (first_ram (started m.code)) y) src (Some x))) (sym is)

core-member_takes : (m : MemberData) (id : CoreId) (core : CoreData) (src : Node) (x : Msg) → IsMember m → m.kind ≡ kind.Core id core
    → IsCarried m.code.settings src (node_of m.node) x → true ≡ is_some (takes m.code.settings (state_of m) src (Some x))
core-member_takes m id core src x w is h =
    sym (core-takes m.code.settings (core_of core) src id.0 x (brought m (kind.Core id core) src x w is h))
    ∙ taken-by m (kind.Core id core) src x is

vendor-member_takes : (m : MemberData) (next : ℕ) (src : Node) (x : Msg) → IsMember m → m.kind ≡ kind.Vendor next
    → IsCarried m.code.settings src (node_of m.node) x → true ≡ is_some (takes m.code.settings (state_of m) src (Some x))
vendor-member_takes m next src x w is h =
    sym (vendor-takes m.code.settings next src x (brought m (kind.Vendor next) src x w is h)) ∙ taken-by m (kind.Vendor next) src x is

-- a core and the vendor take it at once
pub at-once : (m : MemberData) (src : Node) (x : Msg) → IsMember m
    → ((id : CoreId) × (core : CoreData) × (m.kind ≡ kind.Core id core)) ⊎ ((next : ℕ) × (m.kind ≡ kind.Vendor next))
    → IsCarried m.code.settings src (node_of m.node) x → true ≡ is_some (takes m.code.settings (state_of m) src (Some x))
at-once m src x w (inl c) h = core-member_takes m c.0 c.1 src x w c.2 h
at-once m src x w (inr v) h = vendor-member_takes m v.0 src x w v.1 h

-- the directory by its own place
pub placed-here : (m : MemberData) (id : DirId) (dir : DirData) → IsMember m → m.kind ≡ kind.Directory id dir
    → dir.lines.place ≡ record { shape = m.code.settings; dir = id.0 }
placed-here m id dir w is = subst (IsPlaced m.code.settings) is w.placed

pub dir-member_takes : (m : MemberData) (id : DirId) (dir : DirData) (c : ℕ) (x : Msg) (b : Bool) → IsMember m
    → m.kind ≡ kind.Directory id dir → IsCarried m.code.settings (Core c) (node_of m.node) x
    → ((ram : ℕ → ℕ) → b ≡ (not (is_foreign dir.lines.place x) && is_taken (dir_deliver dir.lines.place.shape (dir_of ram dir) c x)))
    → b ≡ is_some (takes m.code.settings (state_of m) (Core c) (Some x))
dir-member_takes m id dir c x b w is h e =
    dir-takes m.code.settings dir.lines.place id.0 c (dir_of (first_ram (started m.code)) dir) x b (placed-here m id dir w is)
    (brought m (kind.Directory id dir) (Core c) x w is h) (e (first_ram (started m.code)))
    ∙ taken-by m (kind.Directory id dir) (Core c) x is

-- the core that sent exists
pub dir-member_core : (m : MemberData) (id : DirId) (dir : DirData) (c : ℕ) (x : Msg) → IsMember m
    → m.kind ≡ kind.Directory id dir → IsCarried m.code.settings (Core c) (node_of m.node) x → c < dir.lines.place.shape.cores
dir-member_core m id dir c x w is h =
    subst (λ p. c < p.shape.cores) (sym (placed-here m id dir w is))
    (brought_to_dir m.code.settings c id.0 x (brought m (kind.Directory id dir) (Core c) x w is h)).core

-- a directory takes messages from cores alone
pub dir-member_from : (m : MemberData) (id : DirId) (dir : DirData) (src : NodeId) (x : Msg) → IsMember m → m.kind ≡ kind.Directory id dir
    → IsCarried m.code.settings (node_of src) (node_of m.node) x → ((c : CoreId) → src ≡ code_node.Core c → ⊥) → ⊥
dir-member_from m id dir src x w is h other =
    let from = to_dir_from_core m.code.settings (node_of src) id.0 x (brought m (kind.Directory id dir) (node_of src) x w is h) in
    go src from.0 from.1 other
  where
    go : (n : NodeId) (c : ℕ) → node_of n ≡ Core c → ((b : CoreId) → n ≡ code_node.Core b → ⊥) → ⊥
    go (code_node.Core b) c e k = k b refl
    go (code_node.Dir d) c e k = absurd (cc)
    go code_node.Vendor c e k = absurd (cc)

-- ---- what it takes it may do

deliver-is : (s : Settings) (p : Program) (n : NodeState) (src dst : Node) (k : ℕ) (x : Option Msg)
    → act s p n (Deliver src dst k) x ≡ takes s n src x
deliver-is s p (AtCore c) src dst k x = refl
deliver-is s p (AtDir d) src dst k x = refl
deliver-is s p (AtVendor t) src dst k x = refl

pub takes-may : (m : MemberData) (src : Node) (x : Msg) (b : Bool) → IsCarried m.code.settings src (node_of m.node) x
    → b ≡ is_some (takes m.code.settings (state_of m) src (Some x))
    → (k : ℕ) → b ≡ true → MayDo m (Deliver src (node_of m.node) k) (Some x)
unfolding names_nodes
takes-may m src x b h e k t =
    let ends = joins_nodes m.code.settings src (node_of m.node) x h in
    record {
      at = refl;
      names = and_from _ _ ends.source ends.destination;
      enabled = ap is_some (deliver-is m.code.settings (program (started m.code)) (state_of m) src (node_of m.node) k (Some x)) ∙ sym e ∙ t;
      carried = h;
    }
