-- A link as the receiver sees it: what the source sent, without what was consumed.
use Rattle.std.proofs.Common.{◌≡◌, ℕ, suc, zero, ◌<◌, ◌≤◌, Bool, true, false, cond, ◌&&◌, List, [], ◌∷◌, ◌++◌, length, Some, None, refl, ap}
use Rattle.std.proofs.Common.{arith}
use Rattle.std.specs.Prelude.{slice_get, slice_set, slice_index_or, ◌==◌}
use Rattle.std.proofs.lemmas.Bool.Decides.{nat_tests}
use Rattle.rules_maps.specs.Nodes.{Node, Core, Dir, Vendor, Msg, Event, Exec, Evict, Deliver, node_eq}
use Rattle.rules_tcc.specs.State.{Link}
use Rattle.rules_tcc.specs.Links.{sent_all, taking}
use Rattle.rules_tcc.specs.Local.{Mail, mailed, consumed, at_node}

unfoldable pub link_of : List Mail → (ℕ → Bool) → Link
link_of [] g = []
link_of (m ∷ ms) g = cond (g 0) None (Some m.msg) ∷ link_of ms (λ k. g (suc k))

pub link-same : (ms : List Mail) (g h : ℕ → Bool) → ((k : ℕ) → g k ≡ h k) → link_of ms g ≡ link_of ms h
unfolding link_of
link-same [] g h e = refl
link-same (m ∷ ms) g h e = rw (e 0, link-same ms (λ k. g (suc k)) (λ k. h (suc k)) (λ k. e (suc k)))

pub link-get : (ms : List Mail) (g : ℕ → Bool) (k : ℕ) (mail : Mail) → slice_get ms k ≡ Some mail → g k ≡ false
    → slice_index_or (link_of ms g) k None ≡ Some mail.msg
unfolding link_of
link-get [] g k mail e f = absurd (cc)
link-get (m ∷ ms) g zero mail e f = let i : m ≡ mail = cc in rw (f, i)
link-get (m ∷ ms) g (suc k) mail e f = link-get ms (λ k. g (suc k)) k mail e f

fresh-link : (t : ℕ) (sends : List Msg) (g : ℕ → Bool) → ((k : ℕ) → g k ≡ false) → link_of (mailed t sends) g ≡ sent_all sends
unfolding link_of mailed sent_all
fresh-link t [] g f = refl
fresh-link t (m ∷ ms) g f = rw (f 0, fresh-link t ms (λ k. g (suc k)) (λ k. f (suc k)))

pub link-append : (ms : List Mail) (t : ℕ) (sends : List Msg) (g : ℕ → Bool) → ((k : ℕ) → length ms ≤ k → g k ≡ false)
    → link_of (ms ++ mailed t sends) g ≡ link_of ms g ++ sent_all sends
unfolding link_of
link-append [] t sends g f = fresh-link t sends g (λ k. f k (omega arith))
link-append (m ∷ ms) t sends g f =
    ap (λ l. cond (g 0) None (Some m.msg) ∷ l) (link-append ms t sends (λ k. g (suc k)) (λ k h. f (suc k) (omega arith)))

pub link-set : (ms : List Mail) (g : ℕ → Bool) (k : ℕ) → slice_set (link_of ms g) k None ≡ link_of ms (λ j. cond (j == k) true (g j))
unfolding link_of
link-set [] g k = refl
link-set (m ∷ ms) g zero =
    ap (λ l. None ∷ l) (link-same ms (λ j. g (suc j)) (λ j. cond (suc j == 0) true (g (suc j))) (λ j. grind (arith, nat_tests)))
link-set (m ∷ ms) g (suc k) =
    let e : cond (0 == suc k) true (g 0) ≡ g 0 = grind (arith, nat_tests) in
    rw (e, link-set ms (λ j. g (suc j)) k)
    (ap (λ l. cond (g 0) None (Some m.msg) ∷ l)
    (link-same ms (λ j. cond (j == k) true (g (suc j))) (λ j. cond (suc j == suc k) true (g (suc j)))
    (λ j. grind (arith, nat_tests))))

pub node_eq-eq : (a b : Node) → node_eq a b ≡ true → a ≡ b
node_eq-eq (Core c) (Core d) e = let h : c ≡ d = grind (arith, nat_tests) in ap Core h
node_eq-eq (Core c) (Dir d) e = absurd (cc)
node_eq-eq (Core c) Vendor e = absurd (cc)
node_eq-eq (Dir c) (Core d) e = absurd (cc)
node_eq-eq (Dir c) (Dir d) e = let h : c ≡ d = grind (arith, nat_tests) in ap Dir h
node_eq-eq (Dir c) Vendor e = absurd (cc)
node_eq-eq Vendor (Core d) e = absurd (cc)
node_eq-eq Vendor (Dir d) e = absurd (cc)
node_eq-eq Vendor Vendor e = refl

-- the links once an event's message is consumed, where it is
abbrev pub net_before : (Node → Node → Link) → Event → Bool → Node → Node → Link
net_before net (Deliver src dst k) true s d = taking net src dst k s d
net_before net (Deliver src dst k) false s d = net s d
net_before net (Exec c) b s d = net s d
net_before net (Evict c x y) b s d = net s d

taking-same : (net : Node → Node → Link) (src : Node) (k : ℕ) (s d : Node) (ms : List Mail) (gone : Node → ℕ → Bool) (b : Bool)
    → node_eq s src ≡ b → net s d ≡ link_of ms (gone s) →
    cond (b && true) (slice_set (net s d) k None) (net s d) ≡ link_of ms (λ j. cond (b && j == k) true (gone s j))
taking-same net src k s d ms gone true e h = rw h (link-set ms (gone s) k)
taking-same net src k s d ms gone false e h = h

-- at the node of the event
pub before-here : (net : Node → Node → Link) (ev : Event) (b : Bool) (s d : Node) (ms : List Mail) (gone : Node → ℕ → Bool)
    → node_eq d (at_node ev) ≡ true → net s d ≡ link_of ms (gone s) → net_before net ev b s d ≡ link_of ms (consumed b ev gone s)
before-here net (Exec c) true s d ms gone e h = h
before-here net (Exec c) false s d ms gone e h = h
before-here net (Evict c x y) true s d ms gone e h = h
before-here net (Evict c x y) false s d ms gone e h = h
before-here net (Deliver src dst k) false s d ms gone e h = h
before-here net (Deliver src dst k) true s d ms gone e h = rw e (taking-same net src k s d ms gone (node_eq s src) refl h)

-- at another node
pub before-there : (net : Node → Node → Link) (ev : Event) (b : Bool) (s d : Node) → node_eq d (at_node ev) ≡ false
    → net_before net ev b s d ≡ net s d
before-there net (Exec c) b s d e = refl
before-there net (Evict c x y) b s d e = refl
before-there net (Deliver src dst k) false s d e = refl
before-there net (Deliver src dst k) true s d e = grind (arith, nat_tests)

-- a number that was consumed was sent
abbrev pub WasSent : (Node → Node → List Mail) → Event → Type 0
WasSent sent (Deliver src dst k) = k < length (sent src dst)
WasSent sent (Exec c) = Unit {0}
WasSent sent (Evict c x y) = Unit {0}

pub consumed-small : (sent : Node → Node → List Mail) (ev : Event) (b : Bool) (s d : Node) (gone : Node → ℕ → Bool) → WasSent sent ev
    → d ≡ at_node ev → ((j : ℕ) → length (sent s d) ≤ j → gone s j ≡ false) →
    (j : ℕ) → length (sent s d) ≤ j → consumed b ev gone s j ≡ false
consumed-small sent (Exec c) true s d gone w e f j h = f j h
consumed-small sent (Exec c) false s d gone w e f j h = f j h
consumed-small sent (Evict c x y) true s d gone w e f j h = f j h
consumed-small sent (Evict c x y) false s d gone w e f j h = f j h
consumed-small sent (Deliver src dst k) false s d gone w e f j h = f j h
consumed-small sent (Deliver src dst k) true s d gone w e f j h = small_at (node_eq s src) refl
  where
    small_at : (b : Bool) → node_eq s src ≡ b → cond (b && j == k) true (gone s j) ≡ false
    small_at false q = f j h
    small_at true q =
        let i : s ≡ src = node_eq-eq s src q in
        let l : length (sent s d) ≡ length (sent src dst) = cc in
        let n : (j == k) ≡ false = grind (arith, nat_tests) in
        rw n (f j h)
