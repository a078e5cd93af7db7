-- Which evictions are useful: those that a machine lists for its cores.
use Rattle.std.proofs.Common.{◌≡◌, ℕ, zero, suc, ◌+◌, ◌<◌, Bool, true, false, inl, inr, List, [], ◌∷◌, ◌++◌, map, length, Option, Some}
use Rattle.std.proofs.Common.{refl, ap, sym, ◌∙◌, subst, arith}
use Rattle.std.specs.Prelude.{slice_get, ◌↔◌, IsTrue}
use borrow.Author.Count.{below_more}
use Rattle.std.specs.List.{flat_map}
use Rattle.rules_maps.specs.Nodes.{Node, Event, Exec, Evict, Deliver}
use Rattle.rules_tcc.specs.Laws.{IsIn}
use Rattle.rules_tcc.specs.Useful.{is_useful}
use Rattle.rules_tcc.proofs.Lemmas.{useful-holds}
use Rattle.machine_cores.specs.Uses.{exec_events}
use Rattle.machine_links.specs.Flights.{Flights, nodes_of, ready_list, ready_on}
use Rattle.net_core.specs.Machine.{Machine, program_of, settings_of, world_of}
use Rattle.net_core.specs.Whole.{IsWhole}
use Rattle.net_core.proofs.Useful.Listed.{evicts_of, execs_of, useful-parts}

-- ---- what is in a list

in-left : (e : Event) (xs ys : List Event) → IsIn e xs → IsIn e (xs ++ ys)
in-left e [] ys h = absurd h
in-left e (x ∷ xs) ys (inl q) = inl q
in-left e (x ∷ xs) ys (inr h) = inr (in-left e xs ys h)

in-right : (e : Event) (xs ys : List Event) → IsIn e ys → IsIn e (xs ++ ys)
in-right e [] ys h = h
in-right e (x ∷ xs) ys h = inr (in-right e xs ys h)

in-second : (e : Event) (xs ys : List Event) → (IsIn e xs → ⊥) → IsIn e (xs ++ ys) → IsIn e ys
in-second e [] ys none h = h
in-second e (x ∷ xs) ys none (inl q) = absurd (none (inl q))
in-second e (x ∷ xs) ys none (inr h) = in-second e xs ys (λ g. none (inr g)) h

in-first : (e : Event) (xs ys : List Event) → (IsIn e ys → ⊥) → IsIn e (xs ++ ys) → IsIn e xs
in-first e [] ys none h = absurd (none h)
in-first e (x ∷ xs) ys none (inl q) = inl q
in-first e (x ∷ xs) ys none (inr h) = inr (in-first e xs ys none h)

at-in : (e : Event) (xs : List Event) (k : ℕ) → slice_get xs k ≡ Some e → IsIn e xs
at-in e [] k q = absurd (cc)
at-in e (x ∷ xs) zero q = inl (cc)
at-in e (x ∷ xs) (suc k) q = inr (at-in e xs k q)

-- it isn't there where none of its elements is that one
not-in : (e : Event) (xs : List Event) → ((k : ℕ) → k < length xs → slice_get xs k ≡ Some e → ⊥) → IsIn e xs → ⊥
not-in e [] none h = h
not-in e (x ∷ xs) none (inl q) = none 0 (omega arith) (ap (λ y. Some y) q)
not-in e (x ∷ xs) none (inr h) = not-in e xs (λ k l q. none (suc k) (omega (arith, l)) q) h

not-flat : {A : Type 0} (e : Event) (f : A → List Event) → ((x : A) → IsIn e (f x) → ⊥) → (xs : List A) → IsIn e (flat_map f xs) → ⊥
not-flat e f none [] h = h
not-flat e f none (x ∷ xs) h = not-flat e f none xs (in-second e (f x) (flat_map f xs) (none x) h)

not-exec : (c x y : ℕ) (ns : List ℕ) → IsIn (Evict c x y) (map Exec ns) → ⊥
not-exec c x y [] h = h
not-exec c x y (n ∷ ns) (inl q) = cc
not-exec c x y (n ∷ ns) (inr h) = not-exec c x y ns h

not-deliver : (c x y : ℕ) (src dst : Node) (ns : List ℕ) → IsIn (Evict c x y) (map (Deliver src dst) ns) → ⊥
not-deliver c x y src dst [] h = h
not-deliver c x y src dst (n ∷ ns) (inl q) = cc
not-deliver c x y src dst (n ∷ ns) (inr h) = not-deliver c x y src dst ns h

-- ---- of a machine

not-of-execs : (m : Machine) (c x y : ℕ) → IsIn (Evict c x y) (execs_of m) → ⊥
unfolding exec_events
not-of-execs m c x y h = not-exec c x y _ h

not-ready : (f : Flights) (c x y : ℕ) → IsIn (Evict c x y) (ready_list f) → ⊥
unfolding ready_list ready_on
not-ready f c x y h =
    not-flat (Evict c x y) (λ src. flat_map (ready_on f src) (nodes_of f))
    (λ src. not-flat (Evict c x y) (ready_on f src) (λ dst. not-deliver c x y src dst _) (nodes_of f)) (nodes_of f) h

useful-listed : (m : Machine) → IsWhole m → m.unsent ≡ [] → (c x y : ℕ) → IsIn (Evict c x y) (evicts_of m)
    → is_useful (settings_of m) (program_of m) (world_of m) (Evict c x y) ≡ true
useful-listed m h e c x y g =
    let all : IsIn (Evict c x y) (execs_of m ++ (evicts_of m ++ ready_list m.flights)) =
    in-right (Evict c x y) (execs_of m) (evicts_of m ++ ready_list m.flights)
    (in-left (Evict c x y) (evicts_of m) (ready_list m.flights) g) in
    (useful-holds (settings_of m) (program_of m) (world_of m) (Evict c x y)).0 (subst (IsIn (Evict c x y)) (sym (useful-parts m h e)) all)

listed-useful : (m : Machine) → IsWhole m → m.unsent ≡ [] → (c x y : ℕ)
    → is_useful (settings_of m) (program_of m) (world_of m) (Evict c x y) ≡ true → IsIn (Evict c x y) (evicts_of m)
listed-useful m h e c x y u =
    let all : IsIn (Evict c x y) (execs_of m ++ (evicts_of m ++ ready_list m.flights)) =
    subst (IsIn (Evict c x y)) (useful-parts m h e)
    ((useful-holds (settings_of m) (program_of m) (world_of m) (Evict c x y)).1 u) in
    in-first (Evict c x y) (evicts_of m) (ready_list m.flights) (not-ready m.flights c x y)
    (in-second (Evict c x y) (execs_of m) (evicts_of m ++ ready_list m.flights) (not-of-execs m c x y) all)

-- ---- as the code looks for it

abbrev pub NotBelow : Machine → (core set way n : ℕ) → Type 0
NotBelow m c x y n = (k : ℕ) → k < n → slice_get (evicts_of m) k ≡ Some (Evict c x y) → ⊥

-- one more that is another
pub more-absent : (m now : Machine) (c x y k : ℕ) (o : Option Event) (b : Bool) → m ≡ now → o ≡ slice_get (evicts_of m) k
    → (IsTrue b ↔ (o ≡ Some (Evict c x y))) → b ≡ false → NotBelow now c x y k → NotBelow now c x y (k + 1)
more-absent m now c x y k o b v at is f below =
    below_more (λ j. slice_get (evicts_of now) j ≡ Some (Evict c x y) → ⊥) k below
    (λ e. let found : b ≡ true = is.1 (at ∙ (ap (λ n. slice_get (evicts_of n) k) v ∙ e)) in absurd (cc))

module _ (m now : Machine) (h : IsWhole m) (v : m ≡ now) (settled : now.unsent ≡ []) (c x y : ℕ) where
  pub found-useful : (k : ℕ) → slice_get (evicts_of m) k ≡ Some (Evict c x y)
      → true ≡ is_useful (settings_of now) (program_of now) (world_of now) (Evict c x y)
  found-useful k e =
      subst (λ n. true ≡ is_useful (settings_of n) (program_of n) (world_of n) (Evict c x y)) v
      (sym (useful-listed m h (ap (λ n. n.unsent) v ∙ settled) c x y (at-in (Evict c x y) (evicts_of m) k e)))

  pub absent-useless : (n : ℕ) → n ≡ length (evicts_of m) → NotBelow now c x y n
      → false ≡ is_useful (settings_of now) (program_of now) (world_of now) (Evict c x y)
  absent-useless n all below =
      subst (λ o. false ≡ is_useful (settings_of o) (program_of o) (world_of o) (Evict c x y)) v
      (go (is_useful (settings_of m) (program_of m) (world_of m) (Evict c x y)) refl)
    where
      same : NotBelow m c x y n
      same = subst (λ o. NotBelow o c x y n) (sym v) below

      go : (b : Bool) → is_useful (settings_of m) (program_of m) (world_of m) (Evict c x y) ≡ b → false ≡ b
      go false u = refl
      go true u = absurd (not-in (Evict c x y) (evicts_of m) (λ k l q. same k (omega (arith, l, all)) q)
          (listed-useful m h (ap (λ n. n.unsent) v ∙ settled) c x y u))
