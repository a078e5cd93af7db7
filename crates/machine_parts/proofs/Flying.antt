-- The messages on one link, one after another by their numbers.
use Rattle.std.proofs.Common.{◌≡◌, ℕ, ◌+◌, ◌<◌, ◌≤◌, inl, inr, Bool, List, length, Some, ap, sym, ◌∙◌, subst, arith}
use Rattle.std.specs.Prelude.{is_some, slice_get}
use Rattle.std.proofs.lemmas.Bool.{cases_eq}
use Rattle.rules_maps.specs.Nodes.{Node, Msg}
use Rattle.rules_maps.specs.Words.{those}
use Rattle.rules_tcc.specs.Links.{in_flight}
use Rattle.rules_tcc.specs.State.{Link}
use Rattle.machine_dirs.proofs.Lemmas.{get-within, link-within, those-find}

-- the numbers of those in flight, rising
abbrev pub waiting_on : (net : Node → Node → Link) → (src dst : Node) → List ℕ
waiting_on net s d = those (λ k. is_some (in_flight net s d k)) (length (net s d))

-- of the first i of them each is as P says
abbrev pub FirstAre : (net : Node → Node → Link) → (src dst : Node) → (i : ℕ) → (ℕ → Msg → Type 0) → Type 0
FirstAre net s d i P = (j k : ℕ) (m : Msg) → j < i → slice_get (waiting_on net s d) j ≡ Some k → in_flight net s d k ≡ Some m → P k m

pub first-none : (net : Node → Node → Link) (s d : Node) (P : ℕ → Msg → Type 0) → FirstAre net s d 0 P
first-none net s d P = λ j k m l at fly. absurd (omega (arith, l))

-- one more
pub first-more : (net : Node → Node → Link) (s d : Node) (i q : ℕ) (x : Msg) (P : ℕ → Msg → Type 0) → FirstAre net s d i P
    → slice_get (waiting_on net s d) i ≡ Some q → in_flight net s d q ≡ Some x → P q x → FirstAre net s d (i + 1) P
first-more net s d i q x P w here own p = λ j k m l at fly. elim (cases_eq j i) [
  | inl e ↦ (let both : Some k ≡ Some q = sym at ∙ subst (λ n. slice_get (waiting_on net s d) n ≡ Some q) (sym e) here in
      let same : k ≡ q = cc in
      let found : Some m ≡ Some x = sym fly ∙ subst (λ n. in_flight net s d n ≡ Some x) (sym same) own in
      let is : m ≡ x = cc in
      subst (P k) (sym is) (subst (λ n. P n x) (sym same) p))
  | inr e ↦ w j k m (omega (arith, l, e)) at fly
]

-- and all
pub all-are : (net : Node → Node → Link) (s d : Node) (i : ℕ) (P : ℕ → Msg → Type 0) → FirstAre net s d i P
    → length (waiting_on net s d) ≤ i → (k : ℕ) (m : Msg) → in_flight net s d k ≡ Some m → P k m
all-are net s d i P w all k m fly =
    let p : ℕ → Bool = λ l. is_some (in_flight net s d l) in
    let f = those-find p (length (net s d)) k (link-within (net s d) k m fly) (ap is_some fly) in
    w f.0 k m (let h = get-within (waiting_on net s d) f.0 k f.1 in omega (arith, h, all)) f.1 fly
