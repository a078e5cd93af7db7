-- Lists of the passes' views, and lists of messages.
use Rattle.std.proofs.Common.{◌≡◌, ◌≢◌, ℕ, zero, suc, List, [], ◌∷◌, ◌++◌, length, set, sym, refl, ap, subst, ⊎_elim, arith}
use Rattle.std.specs.Prelude.{All}
use mathlib.Core.Option.{some, some-ne-none}
use lib.ListN.{get_elem?}
use Rattle.crossbeam_queue.proofs.Lists.{at_set, at_snoc}
use Rattle.rules_apart.specs.declared.logs.Mail.{Mail}
use Rattle.net_links.specs.declared.rule.Hand.{Hand}

-- what is so of each pass and its view
abbrev pub Each : (ℕ → Hand → Type 0) → List Hand → Type 0
Each F views = (port : ℕ) (v : Hand) → get_elem? views port ≡ some v → F port v

-- one pass has a new view
pub each_set : (F : ℕ → Hand → Type 0) (views : List Hand) (port : ℕ) (w : Hand) → F port w
    → ((j : ℕ) (u : Hand) → j ≢ port → get_elem? views j ≡ some u → F j u) → Each F (set views port w)
each_set F views port w mine others j u e =
    ⊎_elim
    (λ (x : (j ≡ port) × (w ≡ u)). subst (λ (y : ℕ × Hand). F y.0 y.1) (λ i. (sym x.0 i, x.1 i)) mine)
    (λ (x : (j ≢ port) × (get_elem? views j ≡ some u)). others j u x.0 x.1)
    (at_set views port j w u e)

-- one more pass, of which all is so at any number
pub each_snoc : (F : ℕ → Hand → Type 0) (views : List Hand) (w : Hand) → Each F views → ((j : ℕ) → F j w) → Each F (views ++ w ∷ [])
each_snoc F views w old new j u e =
    ⊎_elim (λ x. old j u x) (λ (is : w ≡ u). subst (λ (y : Hand). F j y) is (new j)) (at_snoc views w u j e)

-- a view that no pass had stands at the end
pub at_end : (l : List Hand) (a b : Hand) (j : ℕ) → get_elem? l j ≢ some b → get_elem? (l ++ a ∷ []) j ≡ some b → j ≡ length l
at_end [] a b zero n e = refl
at_end [] a b (suc j) n e = absurd (some-ne-none b (sym e))
at_end (x ∷ xs) a b zero n e = absurd (n e)
at_end (x ∷ xs) a b (suc j) n e = ap suc (at_end xs a b j n e)

pub nothing_left : (got items : List Mail) → got ++ items ≡ [] → (got ≡ []) × (items ≡ [])
nothing_left [] items e = (refl, e)
nothing_left (x ∷ xs) items e = absurd (omega (arith, ap length e))

pub all_of_none : (P : Mail → Type 0) (items : List Mail) → items ≡ [] → All P items
all_of_none P items none k d below = absurd (omega (arith, ap length none, below))
