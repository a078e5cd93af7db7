-- Lines: what is read is a line of the grammar, and a line of the grammar is read.
use Rattle.std.proofs.Common.{◌≡◌, ℕ, ◌^◌, ◌<◌, List, ◌∷◌, ◌++◌, Option, Some, None, true, cond, eqb, ◌||◌, ◌⊎◌, refl, sym, ap, subst}
use Rattle.std.proofs.Common.{◌∙◌, inl, inr, append_assoc, arith}
use Rattle.std.specs.Prelude.{codes}
use Rattle.std.specs.Fmt.{decimal}
use Rattle.std.proofs.lemmas.Bool.{eqb-true, or_cases}
use Rattle.std.proofs.lemmas.Option.{same_Some}
use Rattle.tcc_base.specs.Settings.{Settings, IsAllowed}
use Rattle.tcc_base.specs.declared.names.CoreId.{CoreId}
use Rattle.tcc_base.specs.declared.names.NodeId.{NodeId}
use Rattle.tcc_base.specs.declared.names.NodeId.TheVariants.{Core, Dir, Vendor}
use Rattle.tcc_msg.specs.declared.event.Event.{Event}
use Rattle.tcc_msg.specs.declared.event.Event.TheVariants.{Exec, Evict, Deliver}
use Rattle.tcc_msg.specs.declared.event.Name.{Name}
use Rattle.schedule_text.specs.WellFormed.{IsNode, one_is_core, Names}
use Rattle.schedule_text.specs.Grammar.{newline, version_line, config_line, node_word, event_line, end_line}
use Rattle.schedule_text.specs.Reading.{or_else, word_at, number_at, below_at, field_at, version_at, settings_at, core_node_at}
use Rattle.schedule_text.specs.Reading.{dir_node_at, vendor_at, node_at, exec_at, evict_at, deliver_at, event_at, end_at}
use Rattle.schedule_text.proofs.Words.{bind_some, kept, word_takes}
use Rattle.schedule_text.proofs.Numbers.{number_takes, number_again, below_takes, below_again, field_takes, field_again}

-- ---- what is written so is read

pub version_again : (v : ℕ) (rest : List ℕ) → (v ≡ 1) ⊎ (v ≡ 2) → version_at (version_line v ++ rest) ≡ Some (v, rest)
unfolding version_at version_line
version_again v rest known =
    let grouped : version_line v ++ rest ≡ codes "tcc-schedule " ++ (decimal v ++ 10 ∷ rest) = simp append_assoc in
    let read : field_at (codes "tcc-schedule ") 10 (version_line v ++ rest) ≡ Some (v, rest) =
    ap (field_at (codes "tcc-schedule ") 10) grouped
    ∙ field_again (codes "tcc-schedule ") 10 v rest (omega arith) (elim known [ inl e ↦ omega arith | inr e ↦ omega arith ]) in
    let passes : (eqb v 1 || eqb v 2) ≡ true = elim known [ inl e ↦ rw e refl | inr e ↦ rw e refl ] in
    rw (read, passes) refl

-- the second line and what follows it, as its fields are read
grouped : (c : Settings) (rest : List ℕ) → config_line c ++ rest ≡
    codes "cores " ++ (decimal c.cores ++ 32 ∷ (codes "dirs " ++ (decimal c.dirs ++ 32 ∷ (codes "sets " ++ (decimal c.sets ++ 32 ∷
    (codes "ways " ++ (decimal c.ways ++ 32 ∷ (codes "base " ++
    (decimal c.base ++ 32 ∷ (codes "ram " ++ (decimal c.ram ++ 10 ∷ rest)))))))))))
unfolding config_line
grouped c rest = simp append_assoc

line_parts : (c : Settings) → (codes "cores " ++ (decimal c.cores ++
    (codes " dirs " ++ (decimal c.dirs ++ (codes " sets " ++ decimal c.sets)))))
    ++ (codes " ways " ++ (decimal c.ways ++ (codes " base " ++
    (decimal c.base ++ (codes " ram " ++ (decimal c.ram ++ newline)))))) ≡ config_line c
unfolding config_line
line_parts c = simp append_assoc

-- the second line, in the two parts in which it is written
pub line_from_parts : (c : Settings) (t0 t1 t2 : List ℕ)
    → t1 ≡ t0 ++ (codes "cores " ++ (decimal c.cores ++ (codes " dirs " ++ (decimal c.dirs ++ (codes " sets " ++ decimal c.sets)))))
    → t2 ≡ t1 ++ (codes " ways " ++ (decimal c.ways ++
    (codes " base " ++ (decimal c.base ++ (codes " ram " ++ (decimal c.ram ++ newline))))))
    → t2 ≡ t0 ++ config_line c
line_from_parts c t0 t1 t2 first second =
    let back : List ℕ = codes " ways " ++ (decimal c.ways ++
    (codes " base " ++ (decimal c.base ++ (codes " ram " ++ (decimal c.ram ++ newline))))) in
    let front : List ℕ = codes "cores " ++ (decimal c.cores ++
    (codes " dirs " ++ (decimal c.dirs ++ (codes " sets " ++ decimal c.sets)))) in
    second ∙ ap (λ (r : List ℕ). r ++ back) first ∙ append_assoc t0 front back ∙ ap (λ (r : List ℕ). t0 ++ r) (line_parts c)

pub settings_again : (c : Settings) (rest : List ℕ) → IsAllowed c → settings_at (config_line c ++ rest) ≡ Some (c, rest)
unfolding settings_at
settings_again c rest allowed =
    let r5 : List ℕ = codes "ram " ++ (decimal c.ram ++ 10 ∷ rest) in
    let r4 : List ℕ = codes "base " ++ (decimal c.base ++ 32 ∷ r5) in
    let r3 : List ℕ = codes "ways " ++ (decimal c.ways ++ 32 ∷ r4) in
    let r2 : List ℕ = codes "sets " ++ (decimal c.sets ++ 32 ∷ r3) in
    let r1 : List ℕ = codes "dirs " ++ (decimal c.dirs ++ 32 ∷ r2) in
    ap settings_at (grouped c rest) ∙ rw (
      field_again (codes "cores ") 32 c.cores r1 (omega arith) (omega arith),
      field_again (codes "dirs ") 32 c.dirs r2 (omega arith) (omega arith),
      field_again (codes "sets ") 32 c.sets r3 (omega arith) (omega arith),
      field_again (codes "ways ") 32 c.ways r4 (omega arith) (omega arith),
      field_again (codes "base ") 32 c.base r5 (omega arith) (omega arith),
      field_again (codes "ram ") 10 c.ram rest (omega arith) (omega arith),
    ) refl

pub node_again : (c : Settings) (n : NodeId) (rest : List ℕ) → IsAllowed c → IsNode c n
    → node_at c (node_word n ++ 32 ∷ rest) ≡ Some (n, rest)
unfolding node_at node_word core_node_at dir_node_at vendor_at word_at
node_again c (Core core) rest allowed exists = rw (below_again 32 c.cores core.0 rest (omega arith) (omega arith) exists) refl
node_again c (Dir dir) rest allowed exists = rw (below_again 32 c.dirs dir.0 rest (omega arith) (omega arith) exists) refl
node_again c Vendor rest allowed exists = refl

exec_again : (c : Settings) (core : CoreId) (rest : List ℕ) → IsAllowed c → Names c (Exec core)
    → event_at c (event_line (Exec core) ++ rest) ≡ Some (Exec core, rest)
unfolding event_at event_line exec_at word_at
exec_again c core rest allowed names =
    let grouped : event_line (Exec core) ++ rest ≡ codes "e " ++ (decimal core.0 ++ 10 ∷ rest) = simp append_assoc in
    ap (event_at c) grouped ∙ rw (below_again 10 c.cores core.0 rest (omega arith) (omega arith) names) refl

evict_again : (c : Settings) (core : CoreId) (set way : ℕ) (rest : List ℕ) → IsAllowed c → Names c (Evict core set way)
    → event_at c (event_line (Evict core set way) ++ rest) ≡ Some (Evict core set way, rest)
unfolding event_at event_line exec_at evict_at word_at
evict_again c core set way rest allowed names =
    let r2 : List ℕ = decimal way ++ 10 ∷ rest in
    let r1 : List ℕ = decimal set ++ 32 ∷ r2 in
    let grouped : event_line (Evict core set way) ++ rest ≡ codes "x " ++ (decimal core.0 ++ 32 ∷ r1) = simp append_assoc in
    ap (event_at c) grouped ∙ rw (
      below_again 32 c.cores core.0 r1 (omega arith) (omega arith) names.0,
      below_again 32 c.sets set r2 (omega arith) (omega arith) names.1,
      below_again 10 c.ways way rest (omega arith) (omega arith) names.2,
    ) refl

deliver_again : (c : Settings) (name : Name) (rest : List ℕ) → IsAllowed c → Names c (Deliver name)
    → event_at c (event_line (Deliver name) ++ rest) ≡ Some (Deliver name, rest)
unfolding event_at event_line exec_at evict_at deliver_at word_at
deliver_again c name rest allowed names =
    let r2 : List ℕ = decimal name.seq ++ 10 ∷ rest in
    let r1 : List ℕ = node_word name.dst ++ 32 ∷ r2 in
    let grouped : event_line (Deliver name) ++ rest ≡ codes "d " ++ (node_word name.src ++ 32 ∷ r1) = simp append_assoc in
    let link : one_is_core name.src name.dst ≡ true = names.2 in
    ap (event_at c) grouped ∙ rw (
      node_again c name.src r1 allowed names.0,
      node_again c name.dst r2 allowed names.1,
      number_again 10 name.seq rest (omega arith) names.3,
      link,
    ) refl

pub event_again : (c : Settings) (e : Event) (rest : List ℕ) → IsAllowed c → Names c e → event_at c (event_line e ++ rest) ≡ Some (e, rest)
event_again c (Exec core) rest allowed names = exec_again c core rest allowed names
event_again c (Evict core set way) rest allowed names = evict_again c core set way rest allowed names
event_again c (Deliver name) rest allowed names = deliver_again c name rest allowed names

pub end_again : (count : ℕ) (rest : List ℕ) → count < 2 ^ 62 → end_at (end_line count ++ rest) ≡ Some (count, rest)
unfolding end_at end_line
end_again count rest small =
    let grouped : end_line count ++ rest ≡ codes "end " ++ (decimal count ++ 10 ∷ rest) = simp append_assoc in
    ap (field_at (codes "end ") 10) grouped ∙ field_again (codes "end ") 10 count rest (omega arith) small

-- the last line is no event's
pub no_event : (c : Settings) (count : ℕ) (rest : List ℕ) → event_at c (end_line count ++ rest) ≡ None
unfolding event_at end_line exec_at evict_at deliver_at word_at
no_event c count rest = refl

-- ---- what is read is written so

pub version_takes : (bytes : List ℕ) (v : ℕ) (rest : List ℕ) → version_at bytes ≡ Some (v, rest)
    → (bytes ≡ version_line v ++ rest) × ((v ≡ 1) ⊎ (v ≡ 2))
unfolding version_at version_line
version_takes bytes v rest e =
    let b = bind_some (field_at (codes "tcc-schedule ") 10 bytes) (λ x. cond (eqb x.0 1 || eqb x.0 2) (Some x) None) (v, rest) e in
    let k = kept (eqb b.0.0 1 || eqb b.0.0 2) (Some b.0) (v, rest) b.2 in
    let t = field_takes (codes "tcc-schedule ") 10 bytes b.0.0 b.0.1 b.1 in
    let known : (b.0.0 ≡ 1) ⊎ (b.0.0 ≡ 2) = elim (or_cases (eqb b.0.0 1) (eqb b.0.0 2) k.0) [
      | inl h ↦ inl (eqb-true b.0.0 1 h)
      | inr h ↦
          inr (eqb-true b.0.0 2 h)
    ] in
    let parts : bytes ≡ version_line b.0.0 ++ b.0.1 = t.0 ∙ simp append_assoc in
    subst (λ (x : ℕ × List ℕ). (bytes ≡ version_line x.0 ++ x.1) × ((x.0 ≡ 1) ⊎ (x.0 ≡ 2))) (same_Some b.0 (v, rest) k.1) (parts, known)

pub settings_take : (bytes : List ℕ) (x : Settings × List ℕ) → settings_at bytes ≡ Some x → bytes ≡ config_line x.0 ++ x.1
unfolding settings_at
settings_take bytes x e =
    let a = bind_some (field_at (codes "cores ") 32 bytes) _ x e in
    let b = bind_some (field_at (codes "dirs ") 32 a.0.1) _ x a.2 in
    let d = bind_some (field_at (codes "sets ") 32 b.0.1) _ x b.2 in
    let f = bind_some (field_at (codes "ways ") 32 d.0.1) _ x d.2 in
    let g = bind_some (field_at (codes "base ") 32 f.0.1) _ x f.2 in
    let h = bind_some (field_at (codes "ram ") 10 g.0.1) _ x g.2 in
    let ta = (field_takes (codes "cores ") 32 bytes a.0.0 a.0.1 a.1).0 in
    let tb = (field_takes (codes "dirs ") 32 a.0.1 b.0.0 b.0.1 b.1).0 in
    let td = (field_takes (codes "sets ") 32 b.0.1 d.0.0 d.0.1 d.1).0 in
    let tf = (field_takes (codes "ways ") 32 d.0.1 f.0.0 f.0.1 f.1).0 in
    let tg = (field_takes (codes "base ") 32 f.0.1 g.0.0 g.0.1 g.1).0 in
    let th = (field_takes (codes "ram ") 10 g.0.1 h.0.0 h.0.1 h.1).0 in
    let c : Settings = record { cores = a.0.0; dirs = b.0.0; sets = d.0.0; ways = f.0.0; base = g.0.0; ram = h.0.0 } in
    let parts : bytes ≡ config_line c ++ h.0.1 = ta
    ∙ ap (λ (r : List ℕ). codes "cores " ++ (decimal c.cores ++ 32 ∷ r)) (tb
    ∙ ap (λ (r : List ℕ). codes "dirs " ++ (decimal c.dirs ++ 32 ∷ r)) (td
    ∙ ap (λ (r : List ℕ). codes "sets " ++ (decimal c.sets ++ 32 ∷ r)) (tf
    ∙ ap (λ (r : List ℕ). codes "ways " ++ (decimal c.ways ++ 32 ∷ r)) (tg
    ∙ ap (λ (r : List ℕ). codes "base " ++ (decimal c.base ++ 32 ∷ r)) th))))
    ∙ sym (grouped c h.0.1) in
    subst (λ (y : Settings × List ℕ). bytes ≡ config_line y.0 ++ y.1) (same_Some (c, h.0.1) x h.2) parts

-- what stands in front is this node, and a space
abbrev IsNodeRead : Settings → List ℕ → NodeId × List ℕ → Type 0
IsNodeRead c bytes x = (bytes ≡ node_word x.0 ++ 32 ∷ x.1) × IsNode c x.0

core_node_takes : (c : Settings) (bytes : List ℕ) (x : NodeId × List ℕ) → core_node_at c bytes ≡ Some x → IsNodeRead c bytes x
unfolding core_node_at node_word
core_node_takes c bytes x e =
    let a = bind_some (word_at (codes "c") bytes) _ x e in
    let b = bind_some (below_at 32 c.cores a.0) _ x a.2 in
    let t = below_takes 32 c.cores a.0 b.0.0 b.0.1 b.1 in
    let parts : bytes ≡ codes "c" ++ (decimal b.0.0 ++ 32 ∷ b.0.1) = word_takes (codes "c") bytes a.0 a.1
    ∙ ap (λ (r : List ℕ). codes "c" ++ r) t.0.parts in
    subst (IsNodeRead c bytes) (same_Some (Core (record { 0 = b.0.0 }), b.0.1) x b.2) (parts, t.1)

dir_node_takes : (c : Settings) (bytes : List ℕ) (x : NodeId × List ℕ) → dir_node_at c bytes ≡ Some x → IsNodeRead c bytes x
unfolding dir_node_at node_word
dir_node_takes c bytes x e =
    let a = bind_some (word_at (codes "d") bytes) _ x e in
    let b = bind_some (below_at 32 c.dirs a.0) _ x a.2 in
    let t = below_takes 32 c.dirs a.0 b.0.0 b.0.1 b.1 in
    let parts : bytes ≡ codes "d" ++ (decimal b.0.0 ++ 32 ∷ b.0.1) = word_takes (codes "d") bytes a.0 a.1
    ∙ ap (λ (r : List ℕ). codes "d" ++ r) t.0.parts in
    subst (IsNodeRead c bytes) (same_Some (Dir (record { 0 = b.0.0 }), b.0.1) x b.2) (parts, t.1)

vendor_takes : (c : Settings) (bytes : List ℕ) (x : NodeId × List ℕ) → vendor_at bytes ≡ Some x → IsNodeRead c bytes x
unfolding vendor_at node_word
vendor_takes c bytes x e =
    let a = bind_some (word_at (codes "v ") bytes) _ x e in
    subst (IsNodeRead c bytes) (same_Some (Vendor, a.0) x a.2) (word_takes (codes "v ") bytes a.0 a.1, tt)

-- what one of two readings gives, one of them gives
pub either : {A : Type 0} (P : A → Type 0) (a b : Option A) → ((x : A) → a ≡ Some x → P x) → ((x : A) → b ≡ Some x → P x) → (x : A)
    → or_else a b ≡ Some x → P x
either P None b first second x e = second x e
either P (Some y) b first second x e = first x e

pub node_takes : (c : Settings) (bytes : List ℕ) (x : NodeId × List ℕ) → node_at c bytes ≡ Some x → IsNodeRead c bytes x
unfolding node_at
node_takes c bytes =
    either (IsNodeRead c bytes) (core_node_at c bytes) (or_else (dir_node_at c bytes) (vendor_at bytes)) (core_node_takes c bytes)
    (either (IsNodeRead c bytes) (dir_node_at c bytes) (vendor_at bytes) (dir_node_takes c bytes) (vendor_takes c bytes))

-- what stands in front is the line of this event
abbrev pub IsEventRead : Settings → List ℕ → Event × List ℕ → Type 0
IsEventRead c bytes x = (bytes ≡ event_line x.0 ++ x.1) × Names c x.0

exec_takes : (c : Settings) (bytes : List ℕ) (x : Event × List ℕ) → exec_at c bytes ≡ Some x → IsEventRead c bytes x
unfolding exec_at event_line
exec_takes c bytes x e =
    let a = bind_some (word_at (codes "e ") bytes) _ x e in
    let b = bind_some (below_at 10 c.cores a.0) _ x a.2 in
    let t = below_takes 10 c.cores a.0 b.0.0 b.0.1 b.1 in
    let core : CoreId = record { 0 = b.0.0 } in
    let parts : bytes ≡ event_line (Exec core) ++ b.0.1 =
    word_takes (codes "e ") bytes a.0 a.1 ∙ ap (λ (r : List ℕ). codes "e " ++ r) t.0.parts ∙ simp append_assoc in
    subst (IsEventRead c bytes) (same_Some (Exec core, b.0.1) x b.2) (parts, t.1)

evict_takes : (c : Settings) (bytes : List ℕ) (x : Event × List ℕ) → evict_at c bytes ≡ Some x → IsEventRead c bytes x
unfolding evict_at event_line
evict_takes c bytes x e =
    let a = bind_some (word_at (codes "x ") bytes) _ x e in
    let b = bind_some (below_at 32 c.cores a.0) _ x a.2 in
    let d = bind_some (below_at 32 c.sets b.0.1) _ x b.2 in
    let f = bind_some (below_at 10 c.ways d.0.1) _ x d.2 in
    let tb = below_takes 32 c.cores a.0 b.0.0 b.0.1 b.1 in
    let td = below_takes 32 c.sets b.0.1 d.0.0 d.0.1 d.1 in
    let tf = below_takes 10 c.ways d.0.1 f.0.0 f.0.1 f.1 in
    let core : CoreId = record { 0 = b.0.0 } in
    let parts : bytes ≡ event_line (Evict core d.0.0 f.0.0) ++ f.0.1 =
    word_takes (codes "x ") bytes a.0 a.1
    ∙ ap (λ (r : List ℕ). codes "x " ++ r) (tb.0.parts
    ∙ ap (λ (r : List ℕ). decimal b.0.0 ++ 32 ∷ r) (td.0.parts
    ∙ ap (λ (r : List ℕ). decimal d.0.0 ++ 32 ∷ r) tf.0.parts))
    ∙ simp append_assoc in
    subst (IsEventRead c bytes) (same_Some (Evict core d.0.0 f.0.0, f.0.1) x f.2) (parts, (tb.1, td.1, tf.1))

deliver_takes : (c : Settings) (bytes : List ℕ) (x : Event × List ℕ) → deliver_at c bytes ≡ Some x → IsEventRead c bytes x
unfolding deliver_at event_line
deliver_takes c bytes x e =
    let a = bind_some (word_at (codes "d ") bytes) _ x e in
    let b = bind_some (node_at c a.0) _ x a.2 in
    let d = bind_some (node_at c b.0.1) _ x b.2 in
    let f = bind_some (number_at 10 d.0.1) _ x d.2 in
    let name : Name = record { src = b.0.0; dst = d.0.0; seq = f.0.0 } in
    let k = kept (one_is_core b.0.0 d.0.0) (Some (Deliver name, f.0.1)) x f.2 in
    let tb = node_takes c a.0 b.0 b.1 in
    let td = node_takes c b.0.1 d.0 d.1 in
    let tf = number_takes 10 d.0.1 f.0.0 f.0.1 f.1 in
    let parts : bytes ≡ event_line (Deliver name) ++ f.0.1 =
    word_takes (codes "d ") bytes a.0 a.1
    ∙ ap (λ (r : List ℕ). codes "d " ++ r) (tb.0
    ∙ ap (λ (r : List ℕ). node_word b.0.0 ++ 32 ∷ r) (td.0
    ∙ ap (λ (r : List ℕ). node_word d.0.0 ++ 32 ∷ r) tf.parts))
    ∙ simp append_assoc in
    subst (IsEventRead c bytes) (same_Some (Deliver name, f.0.1) x k.1) (parts, (tb.1, td.1, k.0, tf.small))

pub event_takes : (c : Settings) (bytes : List ℕ) (x : Event × List ℕ) → event_at c bytes ≡ Some x → IsEventRead c bytes x
unfolding event_at
event_takes c bytes =
    either (IsEventRead c bytes) (exec_at c bytes) (or_else (evict_at c bytes) (deliver_at c bytes)) (exec_takes c bytes)
    (either (IsEventRead c bytes) (evict_at c bytes) (deliver_at c bytes) (evict_takes c bytes) (deliver_takes c bytes))

pub end_takes : (bytes : List ℕ) (count : ℕ) (rest : List ℕ) → end_at bytes ≡ Some (count, rest) → bytes ≡ end_line count ++ rest
unfolding end_at end_line
end_takes bytes count rest e = (field_takes (codes "end ") 10 bytes count rest e).0 ∙ simp append_assoc
