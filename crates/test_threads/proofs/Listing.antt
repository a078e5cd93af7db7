-- Calls that are listed one after another, and the words that are drawn for them.
use Rattle.std.proofs.Common.{◌≡◌, ℕ, suc, ◌≤◌, List, [], ◌∷◌, Option, Some, None, refl, ap, sym, ◌∙◌, subst, arith}
use Rattle.std.proofs.Common.{append-nil}
use Rattle.rand_pcg.specs.Lcg.{Lcg}
use Rattle.rand_pcg.specs.Pcg.{pcg32}
use Rattle.node_locks.specs.Turns.{IsTurn, after_words, moved_in, nth_word}
use Rattle.node_locks.specs.declared.acts.Acts.{Acts}
use Rattle.tcc_workers.specs.Calls.{Made, acts_at}
use Rattle.tcc_workers.specs.declared.turns.Call.{Call}
use Rattle.tcc_workers.specs.declared.turns.Call.TheVariants.{Turn}
use Rattle.tcc_workers.proofs.Lemmas.{made-more, one-entry}

pub listed-none : (node : ℕ) (g : Lcg) (a : Option (List Call)) → Made a a (acts_at node g 0)
unfolding acts_at
listed-none node g None = tt
listed-none node g (Some xs) = sym (append-nil xs)

pub drawn-none : (g : Lcg) → g ≡ after_words 0 g
unfolding after_words
drawn-none g = refl

module _ (g words : Lcg) (n k pick : ℕ) (drawn : Lcg) (at : words ≡ after_words n g) (draws : (pick, drawn) ≡ pcg32 words)
    (more : k ≡ suc n) where
  pub drawn-more : drawn ≡ after_words k g
  unfolding after_words
  drawn-more = ap (λ p. p.1) draws ∙ ap (λ w. (pcg32 w).1) at ∙ ap (λ m. after_words m g) (sym more)

  pub listed-more : (node : ℕ) (a b c : Option (List Call)) → Made a b (acts_at node g n) → Made b c (Turn node pick ∷ [])
      → Made a c (acts_at node g k)
  unfolding acts_at
  listed-more node a b c p q =
      let word : pick ≡ nth_word n g = ap (λ p. p.0) draws ∙ ap (λ w. (pcg32 w).0) at in
      subst (λ m. Made a c (acts_at node g m)) (sym more)
      (made-more a b c _ _ p (subst (λ x. Made b c (Turn node x ∷ [])) word q))

-- a turn of one act moves one at most
pub one-moved : (t : Acts) → IsTurn 1 t → moved_in t ≤ 1
one-moved t is = (let f = is.few in let one = one-entry t.last in omega (arith, f, one))
