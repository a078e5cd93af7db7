-- The useful events of a core, counted and by number.
use Rattle.std.proofs.Common.{◌≡◌, ℕ, ◌+◌, ◌-◌, ◌≢◌, Bool, true, false, List, [], ◌∷◌, map, length, length-append, Option, Some, None}
use Rattle.std.proofs.Common.{is_some, if◌then◌else◌, Fits, w32, w64, refl, ap, sym, ◌∙◌, subst, arith, ◌⊎◌, inl, inr}
use Rattle.std.specs.Prelude.{slice_get}
use Rattle.std.specs.Option.{option_map}
use Rattle.std.proofs.lemmas.List.{length-map}
use Rattle.std.proofs.lemmas.Option.{slice_get-map}
use mir.Val.{bool_byte}
use Rattle.tcc_base.specs.Settings.{IsAllowed}
use Rattle.rules_maps.specs.Nodes.{Event, Exec, Evict}
use Rattle.rules_maps.specs.Shape.{Shape}
use Rattle.rules_program.specs.Program.{Program}
use Rattle.rules_tcc.specs.CoreExec.{core_exec}
use Rattle.rules_tcc.specs.State.{CoreState}
use Rattle.machine_cores.proofs.Lemmas.{evicts-fit, get-right}
use Rattle.core_node.specs.Useful.{useful_evicts}
use Rattle.core_node.specs.View.{core_of}
use Rattle.core_node.specs.declared.state.Core.{Core as CoreData}
use Rattle.image_load.specs.Contents.{started}
use Rattle.rv_code.specs.Machine.{program}
use Rattle.image_load.specs.Start.{first_ram}
use Rattle.tcc_base.specs.declared.names.CoreId.{CoreId}
use Rattle.tcc_base.specs.declared.names.DirId.{DirId}
use Rattle.directory.specs.Data.{DirData}
use Rattle.rules_maps.specs.Bridge.{node_of}
use Rattle.apart_member.specs.Data.{MemberData, kind_state, node_at, state_of}
use Rattle.apart_member.specs.DataInside.{IsMember}
use Rattle.apart_member.specs.Own.{core_events, node_events, own_events}
use Rattle.apart_member.specs.Placed.{IsPlaced}
use Rattle.std.specs.Prelude.{IfSome, ◌<◌}
use Rattle.std.specs.List.{flat_map}
use Rattle.std.proofs.lemmas.Bool.{and_from, and_parts, lt-ltb}
use Rattle.tcc_base.specs.declared.names.NodeId.TheVariants as code_node
use Rattle.tcc_msg.specs.Plain.{event_of}
use Rattle.tcc_msg.specs.declared.event.Event.{Event as CodeEvent}
use Rattle.rules_tcc.specs.CoreEvict.{core_evict}
use Rattle.rules_tcc.specs.Local.{act}
use Rattle.rules_tcc.specs.Seen.{numbers}
use Rattle.rules_tcc.specs.Step.{is_node, names_nodes}
use Rattle.core_node.specs.Useful.{evict_is_useful}
use Rattle.apart_member.specs.Acting.{MayDo}
use Rattle.apart_member.proofs.Every.{Every, every-append, every-cons, every-filter, every-flat, every-map, every-none, every-number}
use Rattle.apart_member.proofs.Events.{acted-some}
use Rattle.apart_member.specs.declared.kind.MemberKind.{MemberKind}
use Rattle.apart_member.specs.declared.kind.MemberKind.TheVariants as kind

-- the execution, where there is one
abbrev execs : Bool → (core : ℕ) → List Event
execs can c = if can then Exec c ∷ [] else []

abbrev evicts : Shape → Program → (core : ℕ) → CoreState → List Event
evicts sh p c s = map (λ q. Evict c q.0 q.1) (useful_evicts sh p s)

pub count-is : (sh : Shape) (p : Program) (c : ℕ) (s : CoreState) (can : Bool) (n : ℕ) → can ≡ is_some (core_exec sh p c s)
    → n ≡ length (useful_evicts sh p s) → bool_byte can + n ≡ length (core_events sh p c s)
unfolding core_events
count-is sh p c s can n e f =
    by can ∙ ap (λ b. length (execs b c) + length (useful_evicts sh p s)) e
    ∙ ap (λ k. length (execs (is_some (core_exec sh p c s)) c) + k) (sym (length-map (useful_evicts sh p s) (λ q. Evict c q.0 q.1)))
    ∙ sym (length-append (execs (is_some (core_exec sh p c s)) c) (evicts sh p c s))
  where
    by : (b : Bool) → bool_byte b + n ≡ length (execs b c) + length (useful_evicts sh p s)
    by true = omega (arith, f)
    by false = omega (arith, f)

pub count-fits : (sh : Shape) (p : Program) (s : CoreState) (can : Bool) (n : ℕ) → IsAllowed sh → n ≡ length (useful_evicts sh p s)
    → Fits w64 (bool_byte can + n)
count-fits sh p s can n allowed e = by can (evicts-fit sh p s n allowed e)
  where
    by : (b : Bool) → Fits w32 n → Fits w64 (bool_byte b + n)
    by true h = omega (arith, h)
    by false h = omega (arith, h)

-- the k-th of them: the execution, an eviction where there is no execution, and one behind it
pub first-is : (sh : Shape) (p : Program) (c : ℕ) (s : CoreState) (k : ℕ) → is_some (core_exec sh p c s) ≡ true → k ≡ 0
    → Some (Exec c) ≡ slice_get (core_events sh p c s) k
unfolding core_events
first-is sh p c s k e z = rw (e, z) refl

pub evict-alone : (sh : Shape) (p : Program) (c : ℕ) (s : CoreState) (k : ℕ) → is_some (core_exec sh p c s) ≡ false
    → option_map (λ q. Evict c q.0 q.1) (slice_get (useful_evicts sh p s) k) ≡ slice_get (core_events sh p c s) k
unfolding core_events
evict-alone sh p c s k e = rw e (sym (slice_get-map (λ q. Evict c q.0 q.1) (useful_evicts sh p s) k))

pub evict-behind : (sh : Shape) (p : Program) (c : ℕ) (s : CoreState) (k : ℕ) → is_some (core_exec sh p c s) ≡ true → k ≢ 0
    → option_map (λ q. Evict c q.0 q.1) (slice_get (useful_evicts sh p s) (k - 1)) ≡ slice_get (core_events sh p c s) k
unfolding core_events
evict-behind sh p c s k e z = rw e (sym (get-right (Exec c ∷ []) (evicts sh p c s) (k - 1) k (omega arith)
    ∙ slice_get-map (λ q. Evict c q.0 q.1) (useful_evicts sh p s) (k - 1)))

-- ---- a member

-- those of what it is
own-of : (m : MemberData) (k : MemberKind) → IsMember m → m.kind ≡ k
    → own_events m
    ≡ node_events m.code.settings (program (started m.code)) (node_of (node_at k)) (kind_state (first_ram (started m.code)) k)
unfolding own_events state_of
own-of m k w is =
    (λ i. node_events m.code.settings (program (started m.code)) (node_of ((w.named ∙ ap node_at is) i))
    (kind_state (first_ram (started m.code)) (is i)))

pub core-own : (m : MemberData) (id : CoreId) (x : CoreData) → IsMember m → m.kind ≡ kind.Core id x
    → core_events x.config (program (started m.code)) x.id.0 (core_of x) ≡ own_events m
core-own m id x w is =
    let placed = subst (IsPlaced m.code.settings) is w.placed in
    (λ i. core_events (placed.0 i) (program (started m.code)) (placed.1 i).0 (core_of x)) ∙ sym (own-of m (kind.Core id x) w is)

-- a directory and the vendor have none
pub none-own : (m : MemberData) → IsMember m
    → ((id : DirId) × (x : DirData) × (m.kind ≡ kind.Directory id x)) ⊎ ((next : ℕ) × (m.kind ≡ kind.Vendor next)) → [] ≡ own_events m
none-own m w (inl h) = sym (own-of m (kind.Directory h.0 h.1) w h.2)
none-own m w (inr h) = sym (own-of m (kind.Vendor h.0) w h.1)

-- ---- they may be done

-- the useful evictions are of sets and ways that exist, and enabled
useful-there : (sh : Shape) (p : Program) (s : CoreState)
    → Every (λ q. (is_some (core_evict sh q.0 q.1 s) ≡ true) × (q.0 < sh.sets) × (q.1 < sh.ways)) (useful_evicts sh p s)
unfolding useful_evicts evict_is_useful
useful-there sh p s k q e =
    let row : ℕ → List (ℕ × ℕ) = λ x. map (λ y. (x, y)) (numbers sh.ways) in
    let way : ℕ × ℕ → Type 0 = λ r. (r.0 < sh.sets) × (r.1 < sh.ways) in
    let all : Every way (flat_map row (numbers sh.sets)) =
    every-flat way row (numbers sh.sets) (λ i x g.
    every-map way (λ y. (x, y)) (numbers sh.ways) (λ j y f. (every-number sh.sets i x g, every-number sh.ways j y f))) in
    let h = every-filter way (λ r. evict_is_useful sh p s r.0 r.1) (flat_map row (numbers sh.sets)) all k q e in
    ((and_parts _ _ h.0).0, h.1.0, h.1.1)

-- by the rules of a core that exists
may-exec : (m : MemberData) (id : CoreId) (x : CoreData) → m.node ≡ code_node.Core id → m.kind ≡ kind.Core id x
    → is_node m.code.settings (node_of m.node) ≡ true
    → is_some (core_exec m.code.settings (program (started m.code)) id.0 (core_of x)) ≡ true → MayDo m (Exec id.0) None
unfolding names_nodes state_of
may-exec m id x n is there e = record {
  at = ap node_of (sym n);
  names = (λ i. is_node m.code.settings (node_of ((sym n) i))) ∙ there;
  enabled = (λ i. is_some (act m.code.settings (program (started m.code)) (kind_state (first_ram (started m.code)) (is i))
      (Exec id.0) None))
      ∙ acted-some false (core_exec m.code.settings (program (started m.code)) id.0 (core_of x)) ∙ e;
  carried = tt;
}

may-evict : (m : MemberData) (id : CoreId) (x : CoreData) (set way : ℕ) → m.node ≡ code_node.Core id → m.kind ≡ kind.Core id x
    → is_node m.code.settings (node_of m.node) ≡ true → set < m.code.settings.sets → way < m.code.settings.ways
    → is_some (core_evict m.code.settings set way (core_of x)) ≡ true → MayDo m (Evict id.0 set way) None
unfolding names_nodes state_of
may-evict m id x set way n is there k l e = record {
  at = ap node_of (sym n);
  names = and_from _ _ ((λ i. is_node m.code.settings (node_of ((sym n) i))) ∙ there)
      (and_from _ _ (lt-ltb set m.code.settings.sets k) (lt-ltb way m.code.settings.ways l));
  enabled = (λ i. is_some (act m.code.settings (program (started m.code)) (kind_state (first_ram (started m.code)) (is i))
      (Evict id.0 set way) None))
      ∙ acted-some false (core_evict m.code.settings set way (core_of x)) ∙ e;
  carried = tt;
}

may-core : (m : MemberData) (id : CoreId) (x : CoreData) → IsMember m → m.kind ≡ kind.Core id x
    → Every (λ e. MayDo m e None) (core_events m.code.settings (program (started m.code)) id.0 (core_of x))
unfolding core_events
may-core m id x w is =
    let s = m.code.settings in
    let p = program (started m.code) in
    let n : m.node ≡ code_node.Core id = w.named ∙ ap node_at is in
    every-append (λ e. MayDo m e None) (execs (is_some (core_exec s p id.0 (core_of x))) id.0) (evicts s p id.0 (core_of x))
    (first (is_some (core_exec s p id.0 (core_of x))) (λ e. may-exec m id x n is w.exists e))
    (every-map (λ e. MayDo m e None) (λ q. Evict id.0 q.0 q.1) (useful_evicts s p (core_of x))
    (λ k q g. let h = useful-there s p (core_of x) k q g in may-evict m id x q.0 q.1 n is w.exists h.1 h.2 h.0))
  where
    first : (b : Bool) → (b ≡ true → MayDo m (Exec id.0) None) → Every (λ e. MayDo m e None) (execs b id.0)
    first true h = every-cons (λ e. MayDo m e None) (Exec id.0) [] (h refl) (every-none (λ e. MayDo m e None))
    first false h = every-none (λ e. MayDo m e None)

own-may : (m : MemberData) (k : MemberKind) → IsMember m → m.kind ≡ k → Every (λ e. MayDo m e None) (own_events m)
own-may m (kind.Core id x) w is = subst (Every (λ e. MayDo m e None)) (sym (own-of m (kind.Core id x) w is)) (may-core m id x w is)
own-may m (kind.Directory id x) w is =
    subst (Every (λ e. MayDo m e None)) (sym (own-of m (kind.Directory id x) w is)) (every-none (λ e. MayDo m e None))
own-may m (kind.Vendor t) w is =
    subst (Every (λ e. MayDo m e None)) (sym (own-of m (kind.Vendor t) w is)) (every-none (λ e. MayDo m e None))

-- the k-th event may be done
pub kth-may : (m : MemberData) (k : ℕ) (r : Option CodeEvent) → IsMember m → option_map event_of r ≡ slice_get (own_events m) k
    → IfSome r (λ e. MayDo m (event_of e) None)
kth-may m k None w e = tt
kth-may m k (Some r) w e = own-may m m.kind w refl k (event_of r) (sym e)
