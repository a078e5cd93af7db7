-- The mask of the words of a line that are modified or spilled.
use Rattle.std.proofs.Common.{ℕ, ◌^◌, ◌<◌, ◌≡◌, Bool, true, false, ◌||◌, None, is_some, bit_or, refl, ap, sym, ◌∙◌, arith}
use Rattle.std.proofs.lemmas.Nat.{or_lt}
use Rattle.base_lemmas.proofs.Lemmas.{mask_of-same}
use Rattle.rules_maps.specs.Words.{line_of, word_at}
use Rattle.rules_maps.specs.Masks.{has, mask_of, join}
use Rattle.rules_maps.specs.Shape.{Shape}
use Rattle.rules_maps.specs.Cache.{Cache, IsCache, modified_mask}
use Rattle.rules_maps.specs.Spilled.{Spilled, spilled_mask}
use Rattle.rules_tcc.specs.Commit.{written_mask}
use Rattle.rules_maps.proofs.Lemmas.{has-join, has-mask_of, mask_of-has, mask_of-small}

mask_of-or : (p q : ℕ → Bool) → join (mask_of p) (mask_of q) ≡ mask_of (λ k. p k || q k)
mask_of-or p q =
    let m = join (mask_of p) (mask_of q) in
    let a : mask_of p < 2 ^ 8 = mask_of-small p in
    let b : mask_of q < 2 ^ 8 = mask_of-small q in
    let small : m < 256 = or_lt 8 (mask_of p) (mask_of q) a b in
    sym (mask_of-has m small) ∙ mask_of-same (has m) (λ k. p k || q k)
    (λ k h. rw (has-join (mask_of p) (mask_of q) k, has-mask_of p k h, has-mask_of q k h) refl)

pub masks_join : (c : Cache) (sp : Spilled) (l : ℕ) → bit_or (modified_mask c l) (spilled_mask sp l) ≡ written_mask c sp l
unfolding modified_mask spilled_mask written_mask
masks_join c sp l = mask_of-or (λ k. c.modified (word_at l k)) (λ k. is_some (sp (word_at l k)))

-- a line without a frame has no modified word
unmodified : (v : Bool) → (v ≡ true → false ≡ true) → v ≡ false
unmodified true h = sym (h refl)
unmodified false h = refl

pub mask_absent : (sh : Shape) (c : Cache) (l : ℕ) → IsCache sh c → c.held l ≡ false → modified_mask c l ≡ 0
unfolding modified_mask mask_of
mask_absent sh c l i e = mask_of-same (λ k. c.modified (word_at l k)) (λ k. false) each ∙ none
  where
    each : (k : ℕ) → k < 8 → c.modified (word_at l k) ≡ false
    each k h =
        let at : line_of (word_at l k) ≡ l = omega arith in
        let v : c.value (word_at l k) ≡ None = i.valued (word_at l k) (rw at e) in
        unmodified (c.modified (word_at l k)) (λ t. sym (ap is_some v) ∙ i.modified (word_at l k) t)

    none : mask_of (λ k. false) ≡ 0
    none = refl
