-- The acts of a turn, one after another.
use Rattle.std.proofs.Common.{◌≡◌, ℕ, suc, ap, sym, ◌∙◌, subst}
use Rattle.rand_pcg.specs.Lcg.{Lcg}
use Rattle.rand_pcg.specs.Pcg.{pcg32}
use Rattle.apart_node.specs.Acts.{AnswersAct}
use Rattle.apart_node.specs.Node.{NodeData}
use Rattle.apart_node.specs.declared.node.Act.{Act}
use Rattle.apart_node.specs.declared.node.Act.TheVariants.{Moved}
use Rattle.node_locks.specs.Turns.{MovedOn, after_words, nth_word}

module _ (g words : Lcg) (n k pick : ℕ) (drawn : Lcg) (at : words ≡ after_words n g) (draws : (pick, drawn) ≡ pcg32 words) where
  pub word-next : pick ≡ nth_word n g
  word-next = ap (λ p. p.0) draws ∙ ap (λ w. (pcg32 w).0) at

  pub drawn-more : k ≡ suc n → drawn ≡ after_words k g
  unfolding after_words
  drawn-more more = ap (λ p. p.1) draws ∙ ap (λ w. (pcg32 w).1) at ∙ ap (λ m. after_words m g) (sym more)

  pub acted-next : (mid new : NodeData) (a : Act) → AnswersAct mid pick new a → AnswersAct mid (nth_word n g) new a
  acted-next mid new a acted = subst (λ p. AnswersAct mid p new a) word-next acted

  pub moved-more : (old mid new : NodeData) (a : Act) → k ≡ suc n → MovedOn old g n mid → AnswersAct mid pick new a → a ≡ Moved
      → MovedOn old g k new
  unfolding MovedOn
  moved-more old mid new a more moved acted is =
      let next : AnswersAct mid (nth_word n g) new Moved =
      subst (λ b. AnswersAct mid (nth_word n g) new b) is (acted-next mid new a acted) in
      subst (λ m. MovedOn old g m new) (sym more) (mid, (moved, next))
