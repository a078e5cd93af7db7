-- The lines that an attempt has written, one after another.
use Rattle.std.proofs.Common.{◌≡◌, ℕ, zero, suc, ◌+◌, ◌<◌, ◌≤◌, Bool, true, false, List, [], ◌∷◌, ◌++◌, map, length, get_or, take, refl}
use Rattle.std.proofs.Common.{ap, sym, ◌∙◌, subst, arith}
use Rattle.std.specs.Prelude.{cond}
use Rattle.std.proofs.Math.Seq.{take-suc}
use Rattle.std.proofs.lemmas.List.{map-append}
use Rattle.tcc_base.specs.declared.access.Tagged.{Tagged}
use Rattle.tcc_base.specs.declared.names.LineAddr.{LineAddr}
use Rattle.tcc_base.specs.declared.names.Mask.{Mask}
use Rattle.rules_maps.specs.Shape.{Shape, lines}
use Rattle.rules_maps.specs.Words.{those}
use Rattle.rules_tcc.specs.State.{CoreState}
use Rattle.spec_cache.specs.Home.{mark_of}
use Rattle.commit_engine.specs.Solo.{solo_list}
use Rattle.core_node.specs.AtHand.{line_told, lines_told}

unfoldable pub Below : ℕ → List (ℕ × ℕ) → Type 0
Below n [] = Unit {0}
Below n (m ∷ ms) = (m.0 < n) × Below n ms

below-more : (n : ℕ) (ms : List (ℕ × ℕ)) → Below n ms → Below (suc n) ms
unfolding Below
below-more n [] h = tt
below-more n (m ∷ ms) h = (omega (arith, h.0), below-more n ms h.1)

below-both : (n : ℕ) (f : ℕ → ℕ × ℕ) (xs ys : List ℕ) → Below n (map f xs) → Below n (map f ys) → Below n (map f (xs ++ ys))
unfolding Below
below-both n f [] ys h k = k
below-both n f (x ∷ xs) ys h k = (h.0, below-both n f xs ys h.1 k)

below-those : (p : ℕ → Bool) (g : ℕ → ℕ) (n : ℕ) → Below n (map (λ l. (l, g l)) (those p n))
unfolding those Below
below-those p g zero = tt
below-those p g (suc n) =
    below-both (suc n) (λ l. (l, g l)) (those p n) (cond (p n) (n ∷ []) []) (below-more n _ (below-those p g n)) (last (p n))
  where
    last : (b : Bool) → Below (suc n) (map (λ l. (l, g l)) (cond b (n ∷ []) []))
    last true = (omega arith, tt)
    last false = tt

solo-below : (sh : Shape) (s : CoreState) → Below (lines sh) (solo_list sh s.cache s.spilled)
unfolding solo_list
solo-below sh s = below-those _ _ (lines sh)

below-at : (n : ℕ) (marks : List (LineAddr × Mask)) (i : ℕ) (x : LineAddr × Mask) → Below n (map mark_of marks) → i < length marks
    → (get_or marks i x).0.0 < n
unfolding Below
below-at n [] i x h l = absurd (omega (arith, l))
below-at n (m ∷ ms) zero x h l = h.0
below-at n (m ∷ ms) (suc i) x h l = below-at n ms i x h.1 (omega (arith, l))

-- each of them lies in memory
pub mark-below : (sh : Shape) (s : CoreState) (marks : List (LineAddr × Mask)) (i : ℕ) (d : LineAddr × Mask)
    → map mark_of marks ≡ solo_list sh s.cache s.spilled → i < length marks → (get_or marks i d).0.0 < lines sh
mark-below sh s marks i d e l = below-at (lines sh) marks i d (subst (Below (lines sh)) (sym e) (solo-below sh s)) l

take-more : (marks : List (LineAddr × Mask)) (i : ℕ) (d : LineAddr × Mask) (f : ℕ × ℕ → Tagged) → i < length marks
    → map f (map mark_of (take (i + 1) marks)) ≡ map f (map mark_of (take i marks)) ++ f (mark_of (get_or marks i d)) ∷ []
take-more marks i d f l =
    let one : i + 1 ≡ suc i = omega arith in
    ap (λ k. map f (map mark_of (take k marks))) one
    ∙ ap (λ ms. map f (map mark_of ms)) (take-suc marks i d l)
    ∙ ap (map f) (map-append mark_of (take i marks) (get_or marks i d ∷ []))
    ∙ map-append f (map mark_of (take i marks)) (mark_of (get_or marks i d) ∷ [])

-- one more
pub told-more : (s : CoreState) (t : ℕ) (marks : List (LineAddr × Mask)) (i : ℕ) (d : LineAddr × Mask) (told : List Tagged) (one : Tagged)
    → i < length marks → told ≡ map (line_told s t) (map mark_of (take i marks))
    → one ≡ line_told s t ((get_or marks i d).0.0, (get_or marks i d).1.0)
    → told ++ one ∷ [] ≡ map (line_told s t) (map mark_of (take (i + 1) marks))
told-more s t marks i d told one l h e = (λ j. h j ++ e j ∷ []) ∙ sym (take-more marks i d (line_told s t) l)

take-all : (marks : List (LineAddr × Mask)) (i : ℕ) → length marks ≤ i → take i marks ≡ marks
take-all [] zero l = refl
take-all [] (suc i) l = refl
take-all (m ∷ ms) zero l = absurd (omega (arith, l))
take-all (m ∷ ms) (suc i) l = ap (λ ts. m ∷ ts) (take-all ms i (omega (arith, l)))

-- all
pub told-all : (sh : Shape) (s : CoreState) (t : ℕ) (marks : List (LineAddr × Mask)) (i : ℕ) (told : List Tagged)
    → map mark_of marks ≡ solo_list sh s.cache s.spilled → length marks ≤ i → told ≡ map (line_told s t) (map mark_of (take i marks))
    → told ≡ lines_told sh t s
unfolding lines_told
told-all sh s t marks i told e l h = h ∙ ap (λ ms. map (line_told s t) (map mark_of ms)) (take-all marks i l) ∙ ap (map (line_told s t)) e
