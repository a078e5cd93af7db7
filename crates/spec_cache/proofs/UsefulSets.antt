-- The useful ways, set by set.
use Rattle.std.proofs.Common.{ℕ, suc, zero, ◌+◌, ◌-◌, ◌*◌, ◌/◌, ◌%◌, ◌<◌, ◌≤◌, ◌≡◌, Bool, true, false, not, cond, ◌&&◌, ◌||◌, inl, inr}
use Rattle.std.proofs.Common.{length, get_or, Option, Some, None, nat_eq, refl, sym, ◌∙◌, ap, arith}
use Rattle.std.specs.Option.{option_map}
use Rattle.std.specs.Prelude.{MatchBool, nat_lt}
use Rattle.std.proofs.lemmas.Bool.{false≢true, cases_eq, or_parts, eq-eqb, ne_eqb, ltb-false}
use Rattle.std.proofs.lemmas.List.{get_or_past}
use Rattle.std.proofs.lemmas.Nat.{div-mul-add}
use Rattle.std.proofs.Math.Nat.{mul-le-mul_right, div-div-eq-div-mul}
use Rattle.base_lemmas.proofs.Lemmas.{count_below-most, count_below-same}
use Rattle.rules_maps.specs.Words.{count_below}
use Rattle.rules_maps.specs.CacheUse.{Wants, is_number, useful_ways}
use Rattle.spec_cache.specs.declared.frame.FrameView.{FrameView}
use Rattle.spec_cache.specs.Useful.{useful_in, awaited_set}
use Rattle.spec_cache.specs.Held.{Held, IsHeld, maps}
use Rattle.spec_cache.specs.PerSet.{count_set, count_block, idle_way, used_way, IsNthWay, useful_before, IsUsefulWay}
use Rattle.spec_cache.proofs.Counted.{count_below-zero, count_below-none}
use Rattle.spec_cache.proofs.Counts.{useful_counted, useful_nth, useful_more}

-- the numbers below a sum
pub count_below-plus : (p : ℕ → Bool) (m n : ℕ) → count_below p (m + n) ≡ count_below p m + count_below (λ j. p (m + j)) n
unfolding count_below
count_below-plus p m zero = let e : m + 0 ≡ m = omega arith in ap (count_below p) e ∙ omega arith
count_below-plus p m (suc n) = let e : m + suc n ≡ suc (m + n) = omega arith in
    ap (count_below p) e ∙ (rw (count_below-plus p m n) (omega arith))

pub next_row : (t n : ℕ) → (t + 1) * n ≡ t * n + n
next_row t n = grind arith

-- ---- a frame

plain : (k x m d : Bool) → (not (false || (not k && not (x && m))) && (not (m && d) || false)) ≡ cond k (not (m && d))
    (not d && not (not (x && m)))
plain true x true true = refl
plain true x true false = refl
plain true x false d = refl
plain false true true true = refl
plain false true true false = refl
plain false true false true = refl
plain false true false false = refl
plain false false m true = refl
plain false false m false = refl

same : (b : Bool) → false ≡ cond b false false
same true = refl
same false = refl

plain-none : (q : Wants) (t : ℕ) → useful_in q t None ≡ cond q.alone (used_way None) (idle_way None)
unfolding useful_in used_way idle_way
plain-none q t = same q.alone

plain-frame : (q : Wants) (t : ℕ) (f : FrameView) → is_number q.awaited f.line.0 ≡ false → is_number q.room t ≡ false
    → useful_in q t (Some f) ≡ cond q.alone (used_way (Some f)) (idle_way (Some f))
unfolding useful_in used_way idle_way
plain-frame q t f a r = rw (a, r) (plain q.alone (nat_eq f.read.0 0) (nat_eq f.modified.0 0) (nat_eq f.dirty.0 0))

module _ (h : Held) (s : IsHeld h) (q : Wants) where
  abbrev pub in_way : ℕ → Bool
  in_way i = useful_in q (i / h.config.ways) (get_or h.frames i None)

  -- a way of a set, by its number
  pub at_set : (t y : ℕ) → y < h.config.ways → in_way (t * h.config.ways + y) ≡ useful_in q t (get_or h.frames (t * h.config.ways + y) None)
  at_set t y b = ap (λ x. useful_in q x (get_or h.frames (t * h.config.ways + y) None)) (div-mul-add t h.config.ways y b)

  pub next_set : (t : ℕ) → count_below in_way ((t + 1) * h.config.ways) ≡ count_below in_way (t * h.config.ways) + count_set
      (useful_in q t) h t
  unfolding count_set
  next_set t = ap (count_below in_way) (next_row t h.config.ways) ∙ count_below-plus in_way (t * h.config.ways) h.config.ways
      ∙ ap (λ x. count_below in_way (t * h.config.ways) + x) (count_below-same _ _ h.config.ways (at_set t))

  pub first_set : count_below in_way (0 * h.config.ways) ≡ 0
  first_set = let e : 0 * h.config.ways ≡ 0 = omega arith in ap (count_below in_way) e ∙ count_below-zero in_way

  pub fewer_left : (t k left m : ℕ) → count_below in_way (t * h.config.ways) + left ≡ k → m ≡ count_set (useful_in q t) h t → m ≤ left
      → count_below in_way ((t + 1) * h.config.ways) + (left - m) ≡ k
  fewer_left t k left m e f b = let c = next_set t in omega (arith, c, e, f, b)

  none-useful : (t : ℕ) → useful_in q t None ≡ false
  unfolding useful_in
  none-useful t = refl

  pub nth_way : (t y k left : ℕ) → t < h.config.sets → count_below in_way (t * h.config.ways) + left ≡ k
      → IsNthWay (useful_in q t) h t left y → IsUsefulWay h q k (t, y)
  nth_way t y k left b c n =
      let i : ℕ = t * h.config.ways + y in
      let row : (t + 1) * h.config.ways ≤ h.config.sets * h.config.ways = mul-le-mul_right h.config.ways (omega (arith, b)) in
      let inside : i < h.config.sets * h.config.ways =
      (let e = next_row t h.config.ways in let y_exists = n.exists in omega (arith, row, e, y_exists)) in
      let here : in_way i ≡ true = at_set t y n.exists ∙ n.passes in
      let before : count_below in_way i ≡ k =
      count_below-plus in_way (t * h.config.ways) y ∙ ap (λ x. count_below in_way (t * h.config.ways) + x)
      (count_below-same _ _ y (λ z l. at_set t z (omega (arith, l, n.exists))) ∙ n.before) ∙ c in
      record {
        more = useful_more h s q i k inside here before;
        set_exists = b;
        way_exists = n.exists;
        is = useful_nth h s q i k inside here before;
      }

  -- a set of another line than the awaited one
  not_awaited : (o : Option ℕ) (l t : ℕ) → l % h.config.sets ≡ t → is_number (option_map (λ m. m % h.config.sets) o) t ≡ false
      → is_number o l ≡ false
  not_awaited None l t e f = refl
  not_awaited (Some m) l t e f = elim (cases_eq m l) [
    | inl z ↦ absurd (false≢true (sym f ∙ eq-eqb (m % h.config.sets) t (ap (λ x. x % h.config.sets) z ∙ e)))
    | inr n ↦ ne_eqb m l n
  ]

  -- the set holds no line that is awaited, and no room is wanted in it
  abbrev pub IsPlain : ℕ → Type 0
  IsPlain t = (is_number q.room t || is_number (awaited_set h.config.sets q) t) ≡ false

  plain-at : (t : ℕ) → IsPlain t → (i : ℕ) → i / h.config.ways ≡ t → (o : Option FrameView) → get_or h.frames i None ≡ o
      → useful_in q t o ≡ cond q.alone (used_way o) (idle_way o)
  plain-at t e i d None p = plain-none q t
  plain-at t e i d (Some f) p =
      let parts = or_parts (is_number q.room t) (is_number (awaited_set h.config.sets q) t) e in
      plain-frame q t f (not_awaited q.awaited f.line.0 t (s.placed i f p ∙ d) parts.1) parts.0

  -- ways in a row whose sets are plain, by the numbers of their sets
  plain-row : (set : ℕ → ℕ) (first n : ℕ) → ((y : ℕ) → y < n → IsPlain (set y)) → ((y : ℕ) → y < n → (first + y) / h.config.ways ≡ set y)
      → cond q.alone (count_below (λ y. used_way (get_or h.frames (first + y) None)) n)
      (count_below (λ y. idle_way (get_or h.frames (first + y) None)) n)
      ≡ count_below (λ y. useful_in q (set y) (get_or h.frames (first + y) None)) n
  plain-row set first n e d = go q.alone refl
    where
      way : (b : Bool) → q.alone ≡ b → (y : ℕ) → y < n → cond b (used_way (get_or h.frames (first + y) None))
          (idle_way (get_or h.frames (first + y) None)) ≡ useful_in q (set y) (get_or h.frames (first + y) None)
      way b f y l = sym (plain-at (set y) (e y l) (first + y) (d y l) (get_or h.frames (first + y) None) refl ∙ (rw f refl))

      go : (b : Bool) → q.alone ≡ b →
          cond b (count_below (λ y. used_way (get_or h.frames (first + y) None)) n)
          (count_below (λ y. idle_way (get_or h.frames (first + y) None)) n)
          ≡ count_below (λ y. useful_in q (set y) (get_or h.frames (first + y) None)) n
      go true f = count_below-same _ _ n (way true f)
      go false f = count_below-same _ _ n (way false f)

  pub plain-set : (t : ℕ) → IsPlain t → cond q.alone (count_set used_way h t) (count_set idle_way h t) ≡ count_set (useful_in q t) h t
  unfolding count_set
  plain-set t e = plain-row (λ y. t) (t * h.config.ways) h.config.ways (λ y b. e) (λ y b. div-mul-add t h.config.ways y b)

  -- ---- blocks of sets

  abbrev wide : ℕ
  wide = h.config.ways * 32

  before-block : (b : ℕ) → useful_before h q (b * 32) ≡ count_below in_way (b * wide)
  before-block b = let e : b * 32 * h.config.ways ≡ b * wide = grind arith in ap (count_below in_way) e

  pub plain-block : (b : ℕ) → ((t : ℕ) → t / 32 ≡ b → IsPlain t) → (n : ℕ)
      → n ≡ cond q.alone (count_block used_way h b) (count_block idle_way h b)
      → useful_before h q ((b + 1) * 32) ≡ useful_before h q (b * 32) + n
  unfolding count_block
  plain-block b e n c =
      let own : (y : ℕ) → y < wide → (b * wide + y) / h.config.ways / 32 ≡ b =
      λ y l. div-div-eq-div-mul (b * wide + y) h.config.ways 32 ∙ div-mul-add b wide y l in
      let row = plain-row (λ y. (b * wide + y) / h.config.ways) (b * wide) wide (λ y l. e _ (own y l)) (λ y l. refl) in
      before-block (b + 1) ∙ ap (count_below in_way) (next_row b wide) ∙ count_below-plus in_way (b * wide) wide
      ∙ ap (λ x. count_below in_way (b * wide) + x) (sym (c ∙ row)) ∙ ap (λ x. x + n) (sym (before-block b))

  -- there are no ways past the last set
  pub past-end : (t : ℕ) → h.config.sets ≤ t → useful_before h q t ≡ useful_before h q h.config.sets
  past-end t b =
      let m : ℕ = (t - h.config.sets) * h.config.ways in
      let n : ℕ = h.config.sets * h.config.ways in
      let parts : t ≡ h.config.sets + (t - h.config.sets) = omega (arith, b) in
      let product : (x y : ℕ) → (x + y) * h.config.ways ≡ x * h.config.ways + y * h.config.ways = λ x y. grind arith in
      let e : t * h.config.ways ≡ n + m = ap (λ x. x * h.config.ways) parts ∙ product h.config.sets (t - h.config.sets) in
      let none : (j : ℕ) → in_way (n + j) ≡ false =
      λ j. ap (useful_in q ((n + j) / h.config.ways)) (get_or_past h.frames (n + j) None (let w = s.filled_ways in omega (arith, w)))
      ∙ none-useful ((n + j) / h.config.ways) in
      let rest = count_below-none (λ j. in_way (n + j)) m none in
      ap (count_below in_way) e ∙ count_below-plus in_way n m ∙ ap (λ x. count_below in_way n + x) rest ∙ omega arith

  -- the sets of a block were gone over, as far as there are sets
  pub block-done : (b t m e : ℕ) → m ≡ h.config.sets → MatchBool (nat_lt (b * 32 + 32) m) (e ≡ b * 32 + 32) (e ≡ m) → t ≡ e
      → useful_before h q ((b + 1) * 32) ≡ useful_before h q t
  block-done b t m e i d f = go (nat_lt (b * 32 + 32) m) refl d
    where
      go : (x : Bool) → nat_lt (b * 32 + 32) m ≡ x → MatchBool x (e ≡ b * 32 + 32) (e ≡ m)
          → useful_before h q ((b + 1) * 32) ≡ useful_before h q t
      go true l d = ap (useful_before h q) (omega (arith, d, f))
      go false l d = past-end ((b + 1) * 32) (let z = ltb-false (b * 32 + 32) m l in omega (arith, z, i))
          ∙ ap (useful_before h q) (sym (f ∙ d ∙ i))

  pub all_blocks : (t : ℕ) → h.config.sets ≤ t → useful_before h q t ≡ length (useful_ways h.config q (maps h))
  all_blocks t b = past-end t b ∙ sym (useful_counted h s q)

  pub few-in_set : (t : ℕ) → count_set (useful_in q t) h t ≤ 16
  unfolding count_set
  few-in_set t = let m = count_below-most (λ y. useful_in q t (get_or h.frames (t * h.config.ways + y) None)) h.config.ways in let w =
      s.allowed.3.1 in omega (arith, m, w)

-- a whole set was looked at
pub set_whole : (t : Option FrameView → Bool) (h : Held) (s n w a : ℕ) → w ≡ h.config.ways → a ≡ w
    → n ≡ count_below (λ y. t (get_or h.frames (s * w + y) None)) a → n ≡ count_set t h s
unfolding count_set
set_whole t h s n w a e f c =
    c ∙ ap (count_below (λ y. t (get_or h.frames (s * w + y) None))) (f ∙ e)
    ∙ ap (λ x. count_below (λ y. t (get_or h.frames (s * x + y) None)) h.config.ways) e
