-- A pool with one more message, and with one less.
use Rattle.std.proofs.Common.{◌≡◌, ℕ, zero, suc, ◌<◌, ◌≤◌, Bool, true, false, not, List, [], ◌∷◌, ◌++◌, length, take, drop}
use Rattle.std.proofs.Common.{Some, refl, ap, sym, arith}
use Rattle.std.specs.Prelude.{slice_get, All, ◌==◌}
use Rattle.std.specs.List.{filter, remove}
use Rattle.std.proofs.lemmas.Bool.Decides.{nat_tests}
use Rattle.std.proofs.lemmas.List.Elements.{All-push, All-weaker, All-append, All-take, All-drop}
use Rattle.std.proofs.lemmas.Option.{slice_get_within, same_Some}
use Rattle.rules_maps.specs.Bridge.{node_of}
use Rattle.tcc_msg.specs.Plain.{msg_of}
use Rattle.net_links.specs.Views.{InletData}
use Rattle.rules_apart.specs.Carried.{IsCarried}
use Rattle.rules_apart.specs.declared.logs.Mail.{Mail}
use Rattle.apart_node.specs.Ports.{IsEntry, IsPort, NumbersRise, PortData}
use Rattle.apart_node.proofs.Running.Stored.{get-behind}

-- ---- one more

abbrev pub with_mail : InletData → Mail → InletData
with_mail i m = record i { got = i.got ++ m ∷ [] }

entry-later : (i : InletData) (m : Mail) (e : ℕ × Mail) → IsEntry i e → IsEntry (with_mail i m) e
entry-later i m e h = record { brought = get-behind i.got (m ∷ []) e.0 e.1 h.brought; carried = h.carried }

get-last : {A : Type 0} (xs : List A) (x : A) → slice_get (xs ++ x ∷ []) (length xs) ≡ Some x
get-last [] x = refl
get-last (y ∷ xs) x = get-last xs x

-- an element of a list with one more is one of it, or the last
pub get-push : {A : Type 0} (P : Type 0) (xs : List A) (x y : A) (k : ℕ) → slice_get (xs ++ x ∷ []) k ≡ Some y
    → (slice_get xs k ≡ Some y → P) → (k ≡ length xs → x ≡ y → P) → P
get-push P [] x y zero h in' last = last refl (same_Some x y h)
get-push P [] x y (suc k) h in' last = absurd (cc)
get-push P (z ∷ xs) x y zero h in' last = in' h
get-push P (z ∷ xs) x y (suc k) h in' last = get-push P xs x y k h in' (λ e. last (ap suc e))

pub all-at : {A : Type 0} (P : A → Type 0) (xs : List A) (k : ℕ) (x : A) → All P xs → slice_get xs k ≡ Some x → P x
all-at P [] k x h e = absurd (cc)
all-at P (y ∷ xs) zero x h e = let p : P y = h 0 y (omega arith) in rw (same_Some y x e) at p
all-at P (y ∷ xs) (suc k) x h e = all-at P xs k x (λ j d l. h (suc j) d (omega arith)) e

pub below-got : (i : InletData) (es : List (ℕ × Mail)) (k : ℕ) (e : ℕ × Mail) → All (IsEntry i) es → slice_get es k ≡ Some e
    → e.0 < length i.got
below-got i es k e h g = slice_get_within i.got e.0 e.1 (all-at (IsEntry i) es k e h g).brought

rise-push : (i : InletData) (es : List (ℕ × Mail)) (m : Mail) (n : ℕ) → n ≡ length i.got → All (IsEntry i) es → NumbersRise es
    → NumbersRise (es ++ (n, m) ∷ [])
rise-push i es m n q a r = λ j k d e l g h.
    get-push (d.0 < e.0) es (n, m) e k h
    (λ h'. get-push (d.0 < e.0) es (n, m) d j g (λ g'. r j k d e l g' h') (λ x y. absurd (omega (arith, slice_get_within es k e h'))))
    (λ x y. get-push (d.0 < e.0) es (n, m) d j g
    (λ g'. let low = below-got i es j d a g' in let up : n ≡ e.0 = ap (λ p. p.0) y in omega arith)
    (λ x' y'. absurd (omega arith)))

pub port-push : (p : PortData) (m : Mail) (n : ℕ) → n ≡ length p.inlet.got
    → IsCarried p.inlet.ends.settings (node_of p.inlet.ends.src) (node_of p.inlet.ends.dst) (msg_of m.msg) → IsPort p
    → IsPort (record p { inlet = with_mail p.inlet m; pool = p.pool ++ (n, m) ∷ [] })
port-push p m n q c h = record {
  entries = All-push (IsEntry (with_mail p.inlet m)) p.pool (n, m)
      (All-weaker (IsEntry p.inlet) (IsEntry (with_mail p.inlet m)) (entry-later p.inlet m) p.pool h.entries)
      (record { brought = rw q (get-last p.inlet.got m); carried = c });
  rise = rise-push p.inlet p.pool m n q h.entries h.rise;
}

-- ---- one less

get-remove : {A : Type 0} (xs : List A) (i k : ℕ) (x : A) → slice_get (remove xs i) k ≡ Some x
    → (j : ℕ) × (slice_get xs j ≡ Some x) × ((k < i → j ≡ k) × (i ≤ k → j ≡ suc k))
get-remove [] i k x h = absurd (nothing i h)
  where
    nothing : (i : ℕ) → slice_get (remove [] i) k ≡ Some x → ⊥
    nothing zero h = cc
    nothing (suc i) h = cc
get-remove (y ∷ xs) zero k x h = (suc k, h, (λ l. absurd (omega arith), λ l. refl))
get-remove (y ∷ xs) (suc i) zero x h = (zero, h, (λ l. refl, λ l. absurd (omega arith)))
get-remove (y ∷ xs) (suc i) (suc k) x h =
    let r = get-remove xs i k x h in
    (suc r.0, r.1, (λ l. ap suc (r.2.0 (omega arith)), λ l. ap suc (r.2.1 (omega arith))))

rise-remove : (es : List (ℕ × Mail)) (i : ℕ) → NumbersRise es → NumbersRise (remove es i)
rise-remove es i r = λ j k d e l g h.
    let a = get-remove es i j d g in
    let b = get-remove es i k e h in
    r a.0 b.0 d e (apart i j k a.0 b.0 l a.2 b.2) a.1 b.1
  where
    apart : (i j k a b : ℕ) → j < k → (j < i → a ≡ j) × (i ≤ j → a ≡ suc j) → (k < i → b ≡ k) × (i ≤ k → b ≡ suc k) → a < b
    apart i j k a b l p q = grind (arith, p.0, p.1, q.0, q.1)

pub port-remove : (p : PortData) (i : ℕ) → IsPort p → IsPort (record p { pool = remove p.pool i })
port-remove p i h = record {
  entries = All-append (IsEntry p.inlet) (take i p.pool) (drop (suc i) p.pool) (All-take (IsEntry p.inlet) i p.pool h.entries)
      (All-drop (IsEntry p.inlet) (suc i) p.pool h.entries);
  rise = rise-remove p.pool i h.rise;
}

-- ---- to take out the place is to take out the number

abbrev pub others : ℕ → ℕ × Mail → Bool
others n e = not (e.0 == n)

rise-tail : (e : ℕ × Mail) (es : List (ℕ × Mail)) → NumbersRise (e ∷ es) → NumbersRise es
rise-tail e es r = λ i j a b l g h. r (suc i) (suc j) a b (omega arith) g h

keeps-all : (n : ℕ) (es : List (ℕ × Mail)) → ((k : ℕ) (e : ℕ × Mail) → slice_get es k ≡ Some e → n < e.0) → filter (others n) es ≡ es
keeps-all n [] h = refl
keeps-all n (e ∷ es) h =
    let up = h 0 e refl in
    let t : others n e ≡ true = grind (arith, nat_tests) in
    rw t (ap (λ l. e ∷ l) (keeps-all n es (λ k d g. h (suc k) d g)))

pub remove-filter : (es : List (ℕ × Mail)) (i n : ℕ) (m : Mail) → NumbersRise es → slice_get es i ≡ Some (n, m)
    → remove es i ≡ filter (others n) es
remove-filter [] i n m r g = absurd (cc)
remove-filter (e ∷ es) zero n m r g =
    let at : e.0 ≡ n = ap (λ p. p.0) (same_Some e (n, m) g) in
    let t : others n e ≡ false = grind (arith, nat_tests) in
    rw t (sym (keeps-all n es (λ k d h. let up = r 0 (suc k) e d (omega arith) refl h in omega arith)))
remove-filter (e ∷ es) (suc i) n m r g =
    let low = r 0 (suc i) e (n, m) (omega arith) refl g in
    let t : others n e ≡ true = grind (arith, nat_tests) in
    rw t (ap (λ l. e ∷ l) (remove-filter es i n m (rise-tail e es r) g))
