-- What is counted set by set, and block by block, after one way changed.
use Rattle.std.proofs.Common.{ℕ, suc, zero, ◌+◌, ◌*◌, ◌/◌, ◌%◌, ◌<◌, ◌≤◌, ◌≡◌, ◌≢◌, Bool, true, false, ◌&&◌, inl, inr, List, length, get_or}
use Rattle.std.proofs.Common.{set, replicate, Option, None, nat_eq, sym, ◌∙◌, ap, arith, get_or-set_same, get_or-set_other}
use Rattle.std.proofs.lemmas.Bool.{cases_eq, eq-eqb, ne_eqb}
use Rattle.std.proofs.lemmas.List.{length-replicate}
use Rattle.std.proofs.lemmas.Nat.{div_below, div-mul-add}
use Rattle.std.proofs.Math.Nat.{div-div-eq-div-mul}
use Rattle.tcc_base.specs.Settings.{Settings}
use Rattle.base_lemmas.proofs.Lemmas.{count_below-most, count_below-same}
use Rattle.rules_maps.specs.Words.{num, count_below}
use Rattle.spec_cache.specs.declared.frame.FrameView.{FrameView}
use Rattle.spec_cache.specs.Held.{Held}
use Rattle.spec_cache.specs.PerSet.{Counted, count_row, count_set, count_block, IsPerSet}
use Rattle.spec_cache.specs.Tracked.{count_ways}
use Rattle.spec_cache.proofs.Counted.{count_below-none, count_below-within}
use Rattle.spec_cache.proofs.Forms.{get_or-none}
use Rattle.spec_cache.proofs.Tallied.{count-set, count-some, count-most, count-none, zeros}

-- one number whose test changed
count_below-change : (p r : ℕ → Bool) (n x : ℕ) → x < n → ((k : ℕ) → k ≢ x → r k ≡ p k)
    → count_below r n + num (p x) ≡ count_below p n + num (r x)
unfolding count_below
count_below-change p r zero x b e = absurd (omega arith)
count_below-change p r (suc n) x b e = elim (cases_eq x n) [
  | inl s ↦ (let a : count_below r n ≡ count_below p n = count_below-same r p n
      (λ k h. e k (λ z. let y : k ≡ n = z ∙ s in omega (arith, y))) in
      rw (a, s) (omega arith))
  | inr d ↦ (let a = count_below-change p r n x (omega arith) e in let c : r n ≡ p n = e n (λ z. d (sym z)) in rw c (omega (arith, a)))
]

-- the counts of rows of n ways, after way i changed
module _ (q : Option FrameView → Bool) (fs : List (Option FrameView)) (i : ℕ) (o : Option FrameView) (inside : i < length fs) (n : ℕ)
    (some : 1 ≤ n) where
  here : i / n * n + i % n ≡ i
  here = omega (arith, some)

  place : i % n < n
  place = omega (arith, some)

  changed-here : count_row q (set fs i o) n (i / n) + num (q (get_or fs i None)) ≡ count_row q fs n (i / n) + num (q o)
  changed-here =
      let p : ℕ → Bool = λ y. q (get_or fs (i / n * n + y) None) in
      let r : ℕ → Bool = λ y. q (get_or (set fs i o) (i / n * n + y) None) in
      let was : p (i % n) ≡ q (get_or fs i None) = ap (λ x. q (get_or fs x None)) here in
      let is : r (i % n) ≡ q o = ap (λ x. q (get_or (set fs i o) x None)) here ∙ ap q (get_or-set_same fs i o None inside) in
      let e = count_below-change p r n (i % n) place
      (λ k d. ap q (get_or-set_other fs i (i / n * n + k) o None (λ z. d (omega (arith, z, here))))) in
      rw (← was, ← is) e

  same-there : (s : ℕ) → s ≢ i / n → count_row q (set fs i o) n s ≡ count_row q fs n s
  same-there s d =
      count_below-same _ _ n
      (λ y b. ap q (get_or-set_other fs i (s * n + y) o None (λ z. d (sym (div-mul-add s n y b) ∙ ap (λ x. x / n) z))))

  -- a number of each row, shifted by the change
  row-shifted : (xs ys : List ℕ) (s : ℕ)
      → get_or ys s 0 + num (nat_eq s (i / n) && q (get_or fs i None)) ≡ get_or xs s 0 + num (nat_eq s (i / n) && q o)
      → get_or xs s 0 ≡ count_row q fs n s → get_or ys s 0 ≡ count_row q (set fs i o) n s
  row-shifted xs ys s e f = elim (cases_eq s (i / n)) [
    | inl z ↦ (let c = changed-here in let g = rw (eq-eqb s (i / n) z) at e in
        rw z (let f2 = rw z at f in let g2 = rw z at g in omega (arith, c, f2, g2)))
    | inr d ↦ (let g = rw (ne_eqb s (i / n) d) at e in let c = same-there s d in omega (arith, c, f, g))
  ]

  row-some : q (get_or fs i None) ≡ true → 0 < count_row q fs n (i / n)
  row-some t =
      let r = count_below-within (λ y. q (get_or fs (i / n * n + y) None)) n (i % n) place (ap (λ x. q (get_or fs x None)) here ∙ t) in
      omega (arith, r)

module _ (q : Option FrameView → Bool) (h : Held) (ways : 1 ≤ h.config.ways) (few : h.config.ways ≤ 16)
    (whole : length h.frames ≡ h.config.sets * h.config.ways) where
  abbrev wide : ℕ
  wide = h.config.ways * 32

  some-wide : 1 ≤ wide
  some-wide = omega (arith, ways)

  module _ (i : ℕ) (o : Option FrameView) (inside : i < length h.frames) where
    -- the block of a place is that of its set
    block-of : i / h.config.ways / 32 ≡ i / wide
    block-of = div-div-eq-div-mul i h.config.ways 32

    pub set_exists : i / h.config.ways < h.config.sets
    set_exists = div_below i h.config.ways h.config.sets ways (omega (arith, inside, whole))

    pub block-exists : h.config.sets ≤ 1024 → i / h.config.ways / 32 < 32
    block-exists b = let e = set_exists in omega (arith, b, e)

    pub IsPerSet-set : (p r : Counted) → IsPerSet q h p → length r.counts ≡ length p.counts →
        ((s : ℕ) → get_or r.counts s 0 + num (nat_eq s (i / h.config.ways) && q (get_or h.frames i None)) ≡ get_or p.counts s 0 + num
        (nat_eq s (i / h.config.ways) && q o)) →
        ((b : ℕ) → get_or r.blocks b 0 + num (nat_eq b (i / h.config.ways / 32) && q (get_or h.frames i None)) ≡ get_or p.blocks b 0 + num
        (nat_eq b (i / h.config.ways / 32) && q o)) →
        r.all + num (q (get_or h.frames i None)) ≡ p.all + num (q o) → IsPerSet q (record h { frames = set h.frames i o }) r
    unfolding count_ways count_set count_block
    IsPerSet-set p r k l e f a = record {
      sets = l ∙ k.sets;
      each = λ s b. row-shifted q h.frames i o inside h.config.ways ways p.counts r.counts s (e s) (k.each s b);
      blocks = λ t b. row-shifted q h.frames i o inside wide some-wide p.blocks r.blocks t (rw block-of at (f t)) (k.blocks t b);
      all = (let c = count-set q h.frames i o inside in let g = k.all in omega (arith, c, g, a));
    }

    module _ (p : Counted) (k : IsPerSet q h p) where
      pub shift-exists : i / h.config.ways < length p.counts
      shift-exists = rw k.sets set_exists

      pub shift-some : q (get_or h.frames i None) ≡ true → 0 < get_or p.counts (i / h.config.ways) 0
      unfolding count_set
      shift-some t = let r = row-some q h.frames i o inside h.config.ways ways t in let e = k.each (i / h.config.ways) set_exists in
          omega (arith, r, e)

      pub shift-some_block : h.config.sets ≤ 1024 → q (get_or h.frames i None) ≡ true → 0 < get_or p.blocks (i / h.config.ways / 32) 0
      unfolding count_block
      shift-some_block b t =
          let r = row-some q h.frames i o inside wide some-wide t in
          let e = k.blocks (i / h.config.ways / 32) (block-exists b) in
          let f = rw block-of at e in rw block-of (omega (arith, r, f))

      pub shift-some_all : q (get_or h.frames i None) ≡ true → 0 < p.all
      unfolding count_ways
      shift-some_all t = let r = count-some q h.frames i inside t in let e = k.all in omega (arith, r, e)

      pub shift-few : get_or p.counts (i / h.config.ways) 0 ≤ 16
      unfolding count_set
      shift-few =
          let r = count_below-most (λ y. q (get_or h.frames (i / h.config.ways * h.config.ways + y) None)) h.config.ways in
          let e = k.each (i / h.config.ways) set_exists in omega (arith, r, e, few)

      pub shift-few_block : h.config.sets ≤ 1024 → get_or p.blocks (i / h.config.ways / 32) 0 ≤ 512
      unfolding count_block
      shift-few_block b =
          let r = count_below-most (λ y. q (get_or h.frames (i / h.config.ways / 32 * wide + y) None)) wide in
          let e = k.blocks (i / h.config.ways / 32) (block-exists b) in omega (arith, r, e, few)

  pub shift-few_all : (p : Counted) → IsPerSet q h p → length h.frames ≤ 16384 → p.all ≤ 16384
  unfolding count_ways
  shift-few_all p k small = let r = count-most q h.frames in let e = k.all in omega (arith, r, e, small)

pub IsPerSet-empty : (q : Option FrameView → Bool) → q None ≡ false → (s : Settings) (n : ℕ) →
    IsPerSet q (record { config = s; frames = replicate n None }) (record { counts = replicate s.sets 0; blocks = replicate 32 0; all = 0 })
unfolding count_set count_block count_ways
IsPerSet-empty q none s n = record {
  sets = length-replicate s.sets 0;
  each = λ t b. zeros s.sets t ∙ sym (count_below-none _ s.ways (λ y. ap q (get_or-none n (t * s.ways + y)) ∙ none));
  blocks = λ b l. zeros 32 b ∙ sym (count_below-none _ (s.ways * 32) (λ y. ap q (get_or-none n (b * (s.ways * 32) + y)) ∙ none));
  all = sym (count-none q n none);
}
