-- A message that waits is handled.
use Rattle.std.proofs.Common.{◌≡◌, ℕ, ◌<◌, ◌≤◌, Bool, true, false, cond, ◌&&◌, List, length, map, Option, Some, None, refl}
use Rattle.std.proofs.Common.{ap, ◌∙◌, arith}
use Rattle.std.specs.Prelude.{slice_get, option_and_then, All, IfSome, IsSomeAnd, ◌==◌}
use Rattle.std.specs.List.{filter}
use Rattle.std.proofs.lemmas.Bool.Decides.{nat_tests}
use Rattle.std.proofs.lemmas.List.Elements.{All-filter, filter_passes}
use Rattle.std.proofs.lemmas.Option.{slice_get-map, slice_get_within}
use Rattle.base_lemmas.proofs.Lemmas.{node_eq-refl, not-false}
use Rattle.rules_maps.specs.Bridge.{node_of}
use Rattle.rules_maps.specs.Nodes.{Node, Event, Exec, Evict, Deliver, node_eq}
use Rattle.rules_tcc.specs.Local.{Mail, consumed, is_gone}
use Rattle.rules_tcc.proofs.Lemmas.{node_eq-eq}
use Rattle.rules_apart.specs.Filled.{handled, mail_of}
use Rattle.rules_apart.specs.declared.logs.Mail.{Mail as CodeMail}
use Rattle.apart_node.specs.Acts.{Loses}
use Rattle.apart_node.specs.Choice.{stamp_after}
use Rattle.apart_node.specs.Deeds.{IsFor, IsWaiting, mail_in}
use Rattle.apart_node.specs.Moves.{Both}
use Rattle.apart_node.specs.Node.{CameBefore}
use Rattle.apart_node.specs.Ports.{PortData, RoomData, got_at, port_to, taken_from}
use Rattle.apart_node.specs.declared.room.Waiting.{Waiting}
use Rattle.apart_node.proofs.Porting.Pools.{all-at, others}

-- the message of a delivery has come
abbrev pub Within : (Node → List Mail) → Event → Type 0
Within from (Deliver src dst k) = k < length (from src)
Within from (Exec c) = Unit {0}
Within from (Evict c x y) = Unit {0}

-- what waits wasn't consumed
abbrev pub AreFresh : (Node → ℕ → Bool) → RoomData → Type 0
AreFresh gone r = (src : Node) → IfSome (port_to r src) (λ p. All (λ e. gone src e.0 ≡ false) p.pool)

-- the event handles this message, which came with an earlier stamp and waits
pub record Handles (r : RoomData) (t : ℕ) (e : Event) (m : Option Mail) : Type 0 where
  pub handles : handled (taken_from r) e ≡ m
  pub before : CameBefore (taken_from r) t e
  pub open' : (gone : Node → ℕ → Bool) → AreFresh gone r → is_gone gone e ≡ false
  pub within : Within (taken_from r) e

module _ (r : RoomData) (last : ℕ) (w : Waiting) (h : IsWaiting r w) where
  found : port_to r (node_of w.src) ≡ Some h.port
  unfolding port_to
  found = ap (option_and_then (slice_get r.ports)) h.place ∙ h.at

  came : slice_get (taken_from r (node_of w.src)) w.letter.number ≡ Some (mail_of w.letter.mail)
  came = rw found (slice_get-map mail_of h.port.inlet.got w.letter.number
      ∙ ap (λ o. option_and_then (λ m. Some (mail_of m)) o) h.letter.brought)

  came-before : (o : Option Mail) → o ≡ Some (mail_of w.letter.mail) → IsSomeAnd o
      (λ m. m.stamp < stamp_after last (Some (mail_of w.letter.mail)))
  came-before o e = rw e (omega arith)

  waits-fresh : (gone : Node → ℕ → Bool) → AreFresh gone r → gone (node_of w.src) w.letter.number ≡ false
  waits-fresh gone f =
      let a : All (λ x. gone (node_of w.src) x.0 ≡ false) h.port.pool = rw found at (f (node_of w.src)) in
      all-at (λ x. gone (node_of w.src) x.0 ≡ false) h.port.pool w.letter.place (w.letter.number, w.letter.mail) a h.letter.entry

pub handles-for : (r : RoomData) (own : Node) (last : ℕ) (e : Event) (w : Option Waiting) → IsFor r own e w
    → Handles r (stamp_after last (mail_in w)) e (mail_in w)
handles-for r own last (Exec c) None h = record { handles = refl; before = tt; open' = λ g f. refl; within = tt }
handles-for r own last (Evict c x y) None h = record { handles = refl; before = tt; open' = λ g f. refl; within = tt }
handles-for r own last (Deliver src dst k) None h = absurd h
handles-for r own last e (Some w) h = rw h.1 (record {
  handles = came r last w h.0;
  before = came-before r last w h.0 (slice_get (taken_from r (node_of w.src)) w.letter.number) (came r last w h.0);
  open' = waits-fresh r last w h.0;
  within = slice_get_within (taken_from r (node_of w.src)) w.letter.number (mail_of w.letter.mail) (came r last w h.0);
})

-- ---- what was consumed

node_eq-swap : (a b : Node) → node_eq a b ≡ false → node_eq b a ≡ false
node_eq-swap a b h = by_test (node_eq b a) refl
  where
    by_test : (t : Bool) → node_eq b a ≡ t → node_eq b a ≡ false
    by_test false e = e
    by_test true e = absurd (let q : b ≡ a = node_eq-eq b a e in let n : node_eq a b ≡ true = rw q (node_eq-refl a) in cc)

other-fresh : (gone : Node → ℕ → Bool) (s src d : Node) (k j : ℕ) → (j == k) ≡ false → gone src j ≡ false
    → consumed true (Deliver s d k) gone src j ≡ false
other-fresh gone s src d k j n f = rw n (both-ways (node_eq src s))
  where
    both-ways : (t : Bool) → cond (t && false) true (gone src j) ≡ false
    both-ways true = f
    both-ways false = f

elsewhere-fresh : (gone : Node → ℕ → Bool) (s src d : Node) (k j : ℕ) → node_eq src s ≡ false → gone src j ≡ false
    → consumed true (Deliver s d k) gone src j ≡ false
elsewhere-fresh gone s src d k j n f = rw n f

left-fresh : (gone : Node → ℕ → Bool) (s src d : Node) (k : ℕ) (pool : List (ℕ × CodeMail)) (t : Bool) → node_eq s src ≡ t
    → All (λ e. gone src e.0 ≡ false) pool → All (λ e. consumed true (Deliver s d k) gone src e.0 ≡ false)
    (cond t (filter (others k) pool) pool)
left-fresh gone s src d k pool true q f =
    let a = All-filter (others k) (λ (e : ℕ × CodeMail). gone src e.0 ≡ false) pool f in
    let b = filter_passes (others k) pool in
    λ i e l. other-fresh gone s src d k _ (not-false _ (b i e l)) (a i e l)
left-fresh gone s src d k pool false q f = λ i e l. elsewhere-fresh gone s src d k _ (node_eq-swap s src q) (f i e l)

pub loses-fresh : (c : Bool) (e : Event) (gone : Node → ℕ → Bool) (src : Node) (a b : Option PortData) → Both (Loses c e src) a b
    → IfSome a (λ p. All (λ x. gone src x.0 ≡ false) p.pool) → IfSome b (λ p. All (λ x. consumed c e gone src x.0 ≡ false) p.pool)
loses-fresh c e gone src None None h f = tt
loses-fresh c e gone src None (Some q) h f = absurd h
loses-fresh c e gone src (Some p) None h f = absurd h
loses-fresh false e gone src (Some p) (Some q) h f = rw h.pool f
loses-fresh true (Exec c) gone src (Some p) (Some q) h f = rw h.pool f
loses-fresh true (Evict c x y) gone src (Some p) (Some q) h f = rw h.pool f
loses-fresh true (Deliver s d k) gone src (Some p) (Some q) h f = rw h.pool (left-fresh gone s src d k p.pool (node_eq s src) refl f)

pub loses-got : (c : Bool) (e : Event) (src : Node) (a b : Option PortData) → Both (Loses c e src) a b → got_at b ≡ got_at a
loses-got c e src None None h = refl
loses-got c e src None (Some q) h = absurd h
loses-got c e src (Some p) None h = absurd h
loses-got c e src (Some p) (Some q) h = ap (map mail_of) h.got

pub loses-ahead : (c : Bool) (e : Event) (gone : Node → ℕ → Bool) (from : Node → List Mail) (src : Node) (j : ℕ) → Within from e
    → length (from src) ≤ j → gone src j ≡ false → consumed c e gone src j ≡ false
loses-ahead false e gone from src j w l f = f
loses-ahead true (Exec c) gone from src j w l f = f
loses-ahead true (Evict c x y) gone from src j w l f = f
loses-ahead true (Deliver s d k) gone from src j w l f = by_test (node_eq src s) refl
  where
    by_test : (t : Bool) → node_eq src s ≡ t → consumed true (Deliver s d k) gone src j ≡ false
    by_test false q = elsewhere-fresh gone s src d k j q f
    by_test true q =
        let same : src ≡ s = node_eq-eq src s q in
        let low : k < length (from src) = rw same w in
        let n : (j == k) ≡ false = grind (arith, nat_tests) in
        other-fresh gone s src d k j n f
