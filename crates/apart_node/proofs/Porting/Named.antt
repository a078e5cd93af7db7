-- The messages of a port's pool, by name and by number.
use Rattle.std.proofs.Common.{◌≡◌, ℕ, zero, suc, ◌<◌, ◌==◌, ◌&&◌, Bool, true, false, List, [], ◌∷◌, ◌++◌, map, take, drop}
use Rattle.std.proofs.Common.{Some, None, refl, ap}
use Rattle.std.proofs.Common.{arith}
use Rattle.std.specs.Prelude.{slice_get, All}
use Rattle.std.specs.List.{remove}
use Rattle.std.proofs.lemmas.Bool.{ne_eqb}
use Rattle.std.proofs.lemmas.List.{map-append}
use Rattle.std.proofs.lemmas.List.Elements.{All-append, All-take, All-drop}
use Rattle.tcc_base.specs.declared.names.NodeId.{NodeId}
use Rattle.rules_maps.specs.Bridge.{node_of}
use Rattle.rules_maps.specs.Nodes.{node_eq}
use Rattle.tcc_msg.specs.Held.{held, name_eq}
use Rattle.tcc_msg.specs.declared.event.Name.{Name}
use Rattle.rules_apart.specs.declared.logs.Mail.{Mail}
use Rattle.apart_node.specs.PortInside.{IsNamed, entry_of}

last-false : (a b c : Bool) → c ≡ false → (a && (b && c)) ≡ false
last-false true true c e = e
last-false true false c e = refl
last-false false b c e = refl

-- no message has a name whose number is above all numbers
pub held-above : (es : List (Name × Mail)) (n : Name) → ((k : ℕ) (e : ℕ × Mail) → slice_get (map entry_of es) k ≡ Some e → e.0 < n.seq)
    → held es n ≡ None
unfolding held
held-above [] n h = refl
held-above (x ∷ es) n h =
    let low : x.0.seq < n.seq = h 0 (entry_of x) refl in
    let apart : (n.seq == x.0.seq) ≡ false = ne_eqb n.seq x.0.seq (λ e. omega (arith, low, e)) in
    let other : name_eq n x.0 ≡ false =
    last-false (node_eq (node_of n.src) (node_of x.0.src)) (node_eq (node_of n.dst) (node_of x.0.dst)) (n.seq == x.0.seq) apart in
    rw other (held-above es n (λ k e g. h (suc k) e g))

pub entries-push : (es : List (Name × Mail)) (n : Name) (m : Mail) → map entry_of (es ++ (n, m) ∷ []) ≡ map entry_of es ++ (n.seq, m) ∷ []
entries-push es n m = map-append entry_of es ((n, m) ∷ [])

pub entries-remove : (es : List (Name × Mail)) (i : ℕ) → map entry_of (remove es i) ≡ remove (map entry_of es) i
entries-remove [] zero = refl
entries-remove [] (suc i) = refl
entries-remove (x ∷ es) zero = refl
entries-remove (x ∷ es) (suc i) = ap (λ l. entry_of x ∷ l) (entries-remove es i)

pub names-remove : (from to : NodeId) (es : List (Name × Mail)) (i : ℕ) → All (IsNamed from to) es → All (IsNamed from to) (remove es i)
names-remove from to es i h =
    All-append (IsNamed from to) (take i es) (drop (suc i) es) (All-take (IsNamed from to) i es h) (All-drop (IsNamed from to) (suc i) es h)
