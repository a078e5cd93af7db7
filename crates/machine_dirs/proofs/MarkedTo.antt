-- The messages of one link looked at again, one after another.
use Rattle.std.proofs.Common.{◌≡◌, ◌≢◌, ℕ, zero, suc, ◌+◌, ◌<◌, ◌≤◌, Bool, true, false, ◌&&◌, List, [], ◌∷◌, ◌++◌, length, Option, Some}
use Rattle.std.proofs.Common.{None, refl, ap, sym, ◌∙◌, subst, arith, inl, inr, if◌then◌else◌}
use Rattle.std.specs.Prelude.{slice_get, slice_index_or, is_some, ◌==◌}
use Rattle.std.proofs.lemmas.Bool.{cases_eq, ne_eqb}
use Rattle.std.proofs.lemmas.Bool.Decides.{nat_tests}
use Rattle.rules_maps.specs.Nodes.{Node, Msg, Core, Dir, node_eq}
use Rattle.rules_maps.specs.Words.{those}
use Rattle.rules_tcc.specs.DirDeliver.{dir_deliver}
use Rattle.rules_tcc.specs.Links.{in_flight}
use Rattle.rules_tcc.specs.State.{Link}
use Rattle.directory.specs.Data.{DirData, dir_of}
use Rattle.directory.specs.Gives.{is_taken}
use Rattle.machine_links.specs.Flights.{Flights, net_of, is_ready, with_mark}
use Rattle.machine_links.proofs.Lemmas.{with_mark-own, with_mark-other}

-- the numbers in flight on the link, rising
abbrev pub waiting_of : Flights → (src dst : ℕ) → List ℕ
waiting_of f s d = those (λ k. is_some (in_flight (net_of f) (Core s) (Dir d) k)) (length (net_of f (Core s) (Dir d)))

-- the first i of them have the mark that they are to have, and all other marks are as before
pub record MarkedTo (x : DirData) (s d i : ℕ) (old new : Flights) : Type 0 where
  pub cores : new.cores ≡ old.cores
  pub dirs : new.dirs ≡ old.dirs
  pub net : net_of new ≡ net_of old
  pub here : (e : ℕ → ℕ) (j k : ℕ) (m : Msg) → j < i → slice_get (waiting_of old s d) j ≡ Some k
      → in_flight (net_of old) (Core s) (Dir d) k ≡ Some m
      → is_ready new (Core s) (Dir d) k ≡ is_taken (dir_deliver x.lines.place.shape (dir_of e x) s m)
  pub others : (t u : Node) (k : ℕ) → (node_eq t (Core s) && node_eq u (Dir d)) ≡ false → is_ready new t u k ≡ is_ready old t u k

-- no number stands there
pub marked-skip : (x : DirData) (s d i : ℕ) (old mid : Flights) → MarkedTo x s d i old mid → slice_get (waiting_of mid s d) i ≡ None
    → MarkedTo x s d (i + 1) old mid
marked-skip x s d i old mid w none = record {
  cores = w.cores;
  dirs = w.dirs;
  net = w.net;
  here = λ e j k m h at fly. elim (cases_eq j i) [
    | inl q ↦ (let gone : slice_get (waiting_of old s d) i ≡ None = subst
        (λ n. slice_get (those (λ l. is_some (in_flight n (Core s) (Dir d) l)) (length (n (Core s) (Dir d)))) i ≡ None) w.net none in
        let both : Some k ≡ None = sym (subst (λ l. slice_get (waiting_of old s d) l ≡ Some k) q at) ∙ gone in absurd (cc))
    | inr n ↦ w.here e j k m (omega arith) at fly
  ];
  others = w.others;
}

-- one more is marked
pub marked-step : (x : DirData) (s d i q : ℕ) (m0 : Msg) (r : Bool) (old mid new : Flights) → MarkedTo x s d i old mid
    → slice_get (waiting_of mid s d) i ≡ Some q → in_flight (net_of mid) (Core s) (Dir d) q ≡ Some m0
    → ((e : ℕ → ℕ) → r ≡ is_taken (dir_deliver x.lines.place.shape (dir_of e x) s m0))
    → new.cores ≡ mid.cores → new.dirs ≡ mid.dirs → net_of new ≡ net_of mid
    → is_ready new ≡ with_mark (is_ready mid) (Core s) (Dir d) q r → MarkedTo x s d (i + 1) old new
marked-step x s d i q m0 r old mid new w at fly takes cs ds net ready = record {
  cores = cs ∙ w.cores;
  dirs = ds ∙ w.dirs;
  net = net ∙ w.net;
  here = λ e j k m h got there. elim (cases_eq k q) [
    | inl y ↦ own e k m y there
    | inr n ↦ other e j k m h got there n
  ];
  others = λ t u k h. (λ o. ready o t u k) ∙ with_mark-other (is_ready mid) (Core s) (Dir d) q r t u k (apart t u k h) ∙ w.others t u k h;
}
  where
    apart : (t u : Node) (k : ℕ) → (node_eq t (Core s) && node_eq u (Dir d)) ≡ false
        → (node_eq t (Core s) && (node_eq u (Dir d) && k == q)) ≡ false
    apart t u k h = grind (arith, nat_tests)

    own : (e : ℕ → ℕ) (k : ℕ) (m : Msg) → k ≡ q → in_flight (net_of old) (Core s) (Dir d) k ≡ Some m
        → is_ready new (Core s) (Dir d) k ≡ is_taken (dir_deliver x.lines.place.shape (dir_of e x) s m)
    own e k m y there =
        let same : Some m0 ≡ Some m = sym fly ∙ subst (λ l. in_flight (net_of mid) (Core s) (Dir d) l ≡ Some m) y
        (subst (λ n. in_flight n (Core s) (Dir d) k ≡ Some m) (sym w.net) there) in
        let is : m0 ≡ m = cc in
        ap (is_ready new (Core s) (Dir d)) y
        ∙ (λ o. ready o (Core s) (Dir d) q)
        ∙ with_mark-own (is_ready mid) (Core s) (Dir d) q r
        ∙ takes e ∙ ap (λ z. is_taken (dir_deliver x.lines.place.shape (dir_of e x) s z)) is

    other : (e : ℕ → ℕ) (j k : ℕ) (m : Msg) → j < i + 1 → slice_get (waiting_of old s d) j ≡ Some k
        → in_flight (net_of old) (Core s) (Dir d) k ≡ Some m → k ≢ q
        → is_ready new (Core s) (Dir d) k ≡ is_taken (dir_deliver x.lines.place.shape (dir_of e x) s m)
    other e j k m h got there n = elim (cases_eq j i) [
      | inl y ↦ (let here : slice_get (waiting_of old s d) i ≡ Some q = subst
          (λ l. slice_get (those (λ z. is_some (in_flight l (Core s) (Dir d) z)) (length (l (Core s) (Dir d)))) i ≡ Some q) w.net at in
          let both : Some k ≡ Some q = sym (subst (λ l. slice_get (waiting_of old s d) l ≡ Some k) y got) ∙ here in
          let is : k ≡ q = cc in absurd (n is))
      | inr a ↦ (λ o. ready o (Core s) (Dir d) k)
          ∙ with_mark-other (is_ready mid) (Core s) (Dir d) q r (Core s) (Dir d) k (let b : (k == q) ≡ false = ne_eqb k q n in
          grind (arith, nat_tests))
          ∙ w.here e j k m (omega arith) got there
    ]

-- a number that is in flight stands somewhere
pub those-find : (p : ℕ → Bool) (n k : ℕ) → k < n → p k ≡ true → (j : ℕ) × (slice_get (those p n) j ≡ Some k)
unfolding those
those-find p zero k h e = absurd (omega arith)
those-find p (suc n) k h e = elim (cases_eq k n) [
  | inl y ↦ (length (those p n), rw (← y, e) (last (those p k) k))
  | inr a ↦ (let r = those-find p n k (omega arith) e in (r.0, left (those p n) (if p n then n ∷ [] else []) r.0 k r.1))
]
  where
    last : (xs : List ℕ) (y : ℕ) → slice_get (xs ++ y ∷ []) (length xs) ≡ Some y
    last [] y = refl
    last (x ∷ xs) y = last xs y

    left : (xs ys : List ℕ) (j y : ℕ) → slice_get xs j ≡ Some y → slice_get (xs ++ ys) j ≡ Some y
    left [] ys j y e = absurd (cc)
    left (x ∷ xs) ys zero y e = e
    left (x ∷ xs) ys (suc j) y e = left xs ys j y e

pub link-within : (l : Link) (k : ℕ) (m : Msg) → slice_index_or l k None ≡ Some m → k < length l
link-within [] k m e = absurd (cc)
link-within (x ∷ xs) zero m e = omega arith
link-within (x ∷ xs) (suc k) m e = let r = link-within xs k m e in omega arith

pub get-within : (xs : List ℕ) (j y : ℕ) → slice_get xs j ≡ Some y → j < length xs
get-within [] j y e = absurd (cc)
get-within (x ∷ xs) zero y e = omega arith
get-within (x ∷ xs) (suc j) y e = let r = get-within xs j y e in omega arith

pub marked-all : (x : DirData) (s d i : ℕ) (old new : Flights) → MarkedTo x s d i old new → length (waiting_of old s d) ≤ i
    → (e : ℕ → ℕ) (k : ℕ) (m : Msg) → in_flight (net_of old) (Core s) (Dir d) k ≡ Some m
    → is_ready new (Core s) (Dir d) k ≡ is_taken (dir_deliver x.lines.place.shape (dir_of e x) s m)
marked-all x s d i old new w all e k m fly =
    let n = length (net_of old (Core s) (Dir d)) in
    let p : ℕ → Bool = λ l. is_some (in_flight (net_of old) (Core s) (Dir d) l) in
    let f = those-find p n k (link-within (net_of old (Core s) (Dir d)) k m fly) (ap (λ o. is_some o) fly) in
    w.here e f.0 k m (let h = get-within (those p n) f.0 k f.1 in omega arith) f.1 fly

-- an empty link
pub none-waiting : (f : Flights) (s d n k : ℕ) → n ≡ length (waiting_of f s d) → n ≤ 0 → in_flight (net_of f) (Core s) (Dir d) k ≡ None
none-waiting f s d n k all none = by (in_flight (net_of f) (Core s) (Dir d) k) refl
  where
    by : (o : Option Msg) → in_flight (net_of f) (Core s) (Dir d) k ≡ o → o ≡ None
    by None q = refl
    by (Some m) q =
        let l = net_of f (Core s) (Dir d) in
        let p : ℕ → Bool = λ i. is_some (in_flight (net_of f) (Core s) (Dir d) i) in
        let r = those-find p (length l) k (link-within l k m q) (ap (λ o. is_some o) q) in
        let within = get-within (those p (length l)) r.0 k r.1 in
        absurd (omega (arith, all, none, within))
