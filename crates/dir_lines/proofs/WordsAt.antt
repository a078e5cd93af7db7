-- The array of words as a map by word: reading a word and a line, and putting some words of a line in their place.
use Rattle.std.proofs.Common.{◌≡◌, ◌≢◌, ℕ, zero, suc, ◌+◌, ◌*◌, ◌/◌, ◌<◌, ◌≤◌, Bool, true, false, ◌==◌, ◌&&◌, if◌then◌else◌, List, [], ◌∷◌}
use Rattle.std.proofs.Common.{length, get_or, take, drop, refl, ap, sym, subst, ◌∙◌, arith}
use Rattle.std.proofs.Math.Nat.{mod-add-div'}
use Rattle.base_lemmas.proofs.Lemmas.{eight-same}
use borrow.Author.Tests.{eqb-true, eqb-false}
use Rattle.rules_maps.specs.Words.{eight, word_at, line_of, place_of}
use Rattle.rules_maps.specs.Masks.{has, hit}
use Rattle.dir_lines.specs.Home.{Home, IsAtHome}
use Rattle.dir_lines.specs.Pages.{is_at_home}
use Rattle.dir_lines.specs.Words.{Words, words_at, first_place, with_words, IsWritten}
use Rattle.dir_lines.proofs.PagesAt.{is_at_home-true, is_at_home-only}

pub words_at-own : (e : ℕ → ℕ) (p : Words) (w : ℕ) → IsAtHome p.place (line_of w)
    → words_at e p w ≡ get_or p.words (first_place p.place (line_of w) + place_of w) 0
unfolding words_at
words_at-own e p w h = rw (is_at_home-true p.place (line_of w) h) refl

-- the word at a place of a line
pub words_at-place : (e : ℕ → ℕ) (p : Words) (l k : ℕ) → k < 8 → IsAtHome p.place l
    → words_at e p (word_at l k) ≡ get_or p.words (first_place p.place l + k) 0
words_at-place e p l k lt h =
    let a : line_of (word_at l k) ≡ l = omega arith in
    let b : place_of (word_at l k) ≡ k = omega arith in
    words_at-own e p (word_at l k) (subst (λ m. IsAtHome p.place m) (sym a) h) ∙ (λ i. get_or p.words (first_place p.place (a i) + b i) 0)

-- the first eight of a list
eight-take : (xs : List ℕ) → 8 ≤ length xs → take 8 xs ≡ eight (λ k. get_or xs k 0)
unfolding eight
eight-take [] h = absurd (omega arith)
eight-take (a ∷ []) h = absurd (omega arith)
eight-take (a ∷ b ∷ []) h = absurd (omega arith)
eight-take (a ∷ b ∷ c ∷ []) h = absurd (omega arith)
eight-take (a ∷ b ∷ c ∷ d ∷ []) h = absurd (omega arith)
eight-take (a ∷ b ∷ c ∷ d ∷ e ∷ []) h = absurd (omega arith)
eight-take (a ∷ b ∷ c ∷ d ∷ e ∷ f ∷ []) h = absurd (omega arith)
eight-take (a ∷ b ∷ c ∷ d ∷ e ∷ f ∷ g ∷ []) h = absurd (omega arith)
eight-take (a ∷ b ∷ c ∷ d ∷ e ∷ f ∷ g ∷ h ∷ xs) q = refl

pub eight-drop : (n : ℕ) (xs : List ℕ) → n + 8 ≤ length xs → take 8 (drop n xs) ≡ eight (λ k. get_or xs (n + k) 0)
eight-drop zero xs h =
    eight-take xs (omega arith)
    ∙ eight-same (λ k. get_or xs k 0) (λ k. get_or xs (0 + k) 0) (λ k lt. let q : k ≡ 0 + k = omega arith in ap (λ j. get_or xs j 0) q)
eight-drop (suc n) [] h = absurd (omega arith)
eight-drop (suc n) (x ∷ xs) h =
    eight-drop n xs (omega arith)
    ∙ eight-same (λ k. get_or xs (n + k) 0) (λ k. get_or (x ∷ xs) (suc n + k) 0) (λ k lt. let q : suc (n + k) ≡ suc n + k = omega arith in
    ap (λ j. get_or (x ∷ xs) j 0) q)

pub line-read : (e : ℕ → ℕ) (p : Words) (l : ℕ) → IsAtHome p.place l → first_place p.place l + 8 ≤ length p.words
    → take 8 (drop (first_place p.place l) p.words) ≡ eight (λ k. words_at e p (word_at l k))
line-read e p l h within =
    eight-drop (first_place p.place l) p.words within
    ∙ eight-same (λ k. get_or p.words (first_place p.place l + k) 0) (λ k. words_at e p (word_at l k))
    (λ k lt. sym (words_at-place e p l k lt h))

-- two lines of one home don't stand at one place
pub one-place : (h : Home) (j l : ℕ) → IsAtHome h j → IsAtHome h l → j / h.shape.dirs ≡ l / h.shape.dirs → j ≡ l
one-place h j l a b q =
    sym (mod-add-div' j h.shape.dirs) ∙ ((λ i. (a.1 ∙ sym b.1) i + q i * h.shape.dirs) ∙ mod-add-div' l h.shape.dirs)

pub words_at-written : (e : ℕ → ℕ) (h : Home) (old new : List ℕ) (l m : ℕ) (ws : List ℕ) → IsAtHome h l
    → IsWritten (first_place h l) m 8 ws old new
    → words_at e (record { place = h; words = new }) ≡ with_words l m ws (words_at e (record { place = h; words = old }))
unfolding words_at hit
words_at-written e h old new l m ws at wr = λ i w. by w (is_at_home h (line_of w)) refl (l == line_of w) refl i
  where
    clash : (w : ℕ) → l ≡ line_of w → is_at_home h (line_of w) ≡ false → ⊥
    clash w q f = let g : is_at_home h (line_of w) ≡ true = is_at_home-true h (line_of w) (subst (IsAtHome h) q at) in cc

    apart : (w : ℕ) → (l ≡ line_of w → ⊥) → IsAtHome h (line_of w) → (k : ℕ) → k < 8
        → first_place h (line_of w) + place_of w ≢ first_place h l + k
    apart w ne k j lt q =
        let s : line_of w / h.shape.dirs ≡ l / h.shape.dirs = omega arith in
        ne (sym (one-place h (line_of w) l k at s))

    by : (w : ℕ) (a : Bool) → is_at_home h (line_of w) ≡ a → (b : Bool) → (l == line_of w) ≡ b
        → (if a then get_or new (first_place h (line_of w) + place_of w) 0 else e w)
        ≡ (if b && has m (place_of w) then get_or ws (place_of w) 0
        else (if a then get_or old (first_place h (line_of w) + place_of w) 0 else e w))
    by w true f true g =
        let q : l ≡ line_of w = eqb-true l (line_of w) g in
        subst (λ k. get_or new (first_place h k + place_of w) 0 ≡ (if has m (place_of w) then get_or ws (place_of w) 0
        else get_or old (first_place h k + place_of w) 0)) q (wr.here (place_of w) (omega arith))
    by w true f false g =
        wr.others (first_place h (line_of w) + place_of w) (apart w (eqb-false l (line_of w) g) (is_at_home-only h (line_of w) f))
    by w false f true g = absurd (clash w (eqb-true l (line_of w) g) f)
    by w false f false g = refl
