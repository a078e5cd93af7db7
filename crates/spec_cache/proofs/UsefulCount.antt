-- The useful ways as those that are counted, put right in the sets where what is wanted counts.
use Rattle.std.proofs.Common.{ℕ, suc, zero, ◌+◌, ◌*◌, ◌/◌, ◌%◌, ◌<◌, ◌≤◌, ◌≡◌, ◌≢◌, Bool, true, false, cond, inl, inr}
use Rattle.std.proofs.Common.{length, get_or, Option, Some, None, refl, sym, ◌∙◌, ap, arith}
use Rattle.std.specs.Option.{option_map, IfSome}
use Rattle.std.specs.Prelude.{nat_lt, if◌then◌else◌}
use Rattle.std.proofs.lemmas.Bool.{false≢true, cases_eq, cases_Bool, eq-eqb, eqb-true, ne_eqb, lt-ltb}
use Rattle.std.proofs.lemmas.Nat.{div-mul-add}
use Rattle.base_lemmas.proofs.Lemmas.{count_below-most, count_below-same}
use Rattle.rules_maps.specs.Words.{count_below}
use Rattle.rules_maps.specs.CacheUse.{Wants, is_number, useful_ways}
use Rattle.spec_cache.specs.declared.frame.FrameView.{FrameView}
use Rattle.spec_cache.specs.Useful.{useful_in, set_below, other_set, room_set, line_set, in_set}
use Rattle.spec_cache.specs.Held.{Held, IsHeld, maps}
use Rattle.spec_cache.specs.PerSet.{count_set, idle_way, used_way}
use Rattle.spec_cache.specs.Tracked.{count_ways}
use Rattle.spec_cache.proofs.Counted.{count_below-zero}
use Rattle.spec_cache.proofs.Counts.{useful_counted}
use Rattle.spec_cache.proofs.Tallied.{count-most, few-ways}
use Rattle.spec_cache.proofs.UsefulSets.{count_below-plus, in_way, at_set, plain-set}

-- ---- two tests of the numbers in rows of w

module _ (w : ℕ) where
  abbrev row : (ℕ → Bool) → ℕ → ℕ
  row p t = count_below (λ y. p (t * w + y)) w

  more_rows : (p : ℕ → Bool) (n : ℕ) → count_below p (suc n * w) ≡ count_below p (n * w) + row p n
  more_rows p n = let e : suc n * w ≡ n * w + w = grind arith in ap (count_below p) e ∙ count_below-plus p (n * w) w

  no_rows : (p : ℕ → Bool) → count_below p (0 * w) ≡ 0
  no_rows p = let e : 0 * w ≡ 0 = omega arith in ap (count_below p) e ∙ count_below-zero p

  same_row : (p r : ℕ → Bool) (t : ℕ) → ((y : ℕ) → y < w → p (t * w + y) ≡ r (t * w + y)) → row p t ≡ row r t
  same_row p r t e = count_below-same _ _ w e

  same_rows : (p r : ℕ → Bool) (n : ℕ) → ((t : ℕ) → t < n → row p t ≡ row r t) → count_below p (n * w) ≡ count_below r (n * w)
  same_rows p r zero e = no_rows p ∙ sym (no_rows r)
  same_rows p r (suc n) e =
      let a = more_rows p n in let b = more_rows r n in let c = same_rows p r n (λ t l. e t (omega arith)) in let d = e n (omega arith) in
      omega (arith, a, b, c, d)

  -- they differ in one row at most
  one_row : (p r : ℕ → Bool) (n s : ℕ) → s < n → ((t : ℕ) → t < n → t ≢ s → row p t ≡ row r t)
      → count_below p (n * w) + row r s ≡ count_below r (n * w) + row p s
  one_row p r zero s l e = absurd (omega arith)
  one_row p r (suc n) s l e =
      let a = more_rows p n in let b = more_rows r n in
      elim (cases_eq s n) [
        | inl z ↦ (let c = same_rows p r n (λ t k. e t (omega arith) (λ y. omega (arith, k, y, z))) in
            let u = ap (row p) z in let v = ap (row r) z in omega (arith, a, b, c, u, v))
        | inr d ↦ (let c = one_row p r n s (omega arith) (λ t k f. e t (omega arith) f) in
            let u = e n (omega arith) (λ y. d (sym y)) in omega (arith, a, b, c, u))
      ]

  -- they differ in this row alone, if at all
  maybe_row : (p r : ℕ → Bool) (n : ℕ) (o : Option ℕ) → IfSome o (λ s. s < n)
      → ((t : ℕ) → t < n → is_number o t ≡ false → row p t ≡ row r t)
      → count_below p (n * w) + in_set (row r) o ≡ count_below r (n * w) + in_set (row p) o
  maybe_row p r n None l e = ap (λ x. x + 0) (same_rows p r n (λ t k. e t k refl))
  maybe_row p r n (Some s) l e = one_row p r n s l (λ t k d. e t k (ne_eqb s t (λ z. d (sym z))))

same_in : (f g : ℕ → ℕ) (o : Option ℕ) → ((t : ℕ) → is_number o t ≡ true → f t ≡ g t) → in_set f o ≡ in_set g o
same_in f g None e = refl
same_in f g (Some t) e = e t (eq-eqb t t refl)

-- ---- the two sets

-- a set that exists, where no room is wanted
no_room : (n : ℕ) (o : Option ℕ) (t : ℕ) → t < n → is_number (set_below n o) t ≡ false → is_number o t ≡ false
no_room n None t l e = refl
no_room n (Some r) t l e = by (nat_lt r n) refl e
  where
    by : (b : Bool) → nat_lt r n ≡ b → is_number (if b then Some r else None) t ≡ false → is_number (Some r) t ≡ false
    by true f g = g
    by false f g = ne_eqb r t (λ z. false≢true (sym f ∙ lt-ltb r n (omega (arith, l, z))))

-- a set other than the first
no_line : (first o : Option ℕ) (t : ℕ) → is_number first t ≡ false → is_number (other_set first o) t ≡ false → is_number o t ≡ false
no_line first None t e f = refl
no_line first (Some r) t e f = by (is_number first r) refl f
  where
    by : (b : Bool) → is_number first r ≡ b → is_number (if b then None else Some r) t ≡ false → is_number (Some r) t ≡ false
    by true g k = ne_eqb r t (λ z. false≢true (sym e ∙ ap (is_number first) (sym z) ∙ g))
    by false g k = k

other_first : (first o : Option ℕ) (t : ℕ) → is_number (other_set first o) t ≡ true → is_number first t ≡ false
other_first first None t e = absurd (false≢true e)
other_first first (Some r) t e = by (is_number first r) refl e
  where
    by : (b : Bool) → is_number first r ≡ b → is_number (if b then None else Some r) t ≡ true → is_number first t ≡ false
    by true g k = absurd (false≢true k)
    by false g k = ap (is_number first) (sym (eqb-true r t k)) ∙ g

-- ---- the frames of a cache

module _ (h : Held) (s : IsHeld h) (q : Wants) where
  -- way y of set t
  abbrev way : ℕ → ℕ → Option FrameView
  way t y = get_or h.frames (t * h.config.ways + y) None

  abbrev counts : ℕ → Bool
  counts i = cond q.alone (used_way (get_or h.frames i None)) (idle_way (get_or h.frames i None))

  abbrev room : Option ℕ
  room = room_set h.config.sets q

  abbrev line : Option ℕ
  line = line_set h.config.sets q

  -- what is found where room is wanted, what is counted elsewhere
  abbrev mixed : ℕ → Bool
  mixed i = if is_number room (i / h.config.ways) then in_way h s q i else counts i

  abbrev pub kept : ℕ → ℕ
  kept t = cond q.alone (count_set used_way h t) (count_set idle_way h t)

  abbrev pub found : ℕ → ℕ
  found t = count_set (useful_in q t) h t

  found-row : (t : ℕ) → row h.config.ways (in_way h s q) t ≡ found t
  unfolding count_set
  found-row t = count_below-same _ _ h.config.ways (at_set h s q t)

  kept-row : (t : ℕ) → row h.config.ways counts t ≡ kept t
  unfolding count_set
  kept-row t = by q.alone
    where
      by : (b : Bool) → count_below (λ y. cond b (used_way (way t y)) (idle_way (way t y))) h.config.ways
          ≡ cond b (count_below (λ y. used_way (way t y)) h.config.ways) (count_below (λ y. idle_way (way t y)) h.config.ways)
      by true = refl
      by false = refl

  chosen-true : (b : Bool) (x y : Bool) → b ≡ true → (if b then x else y) ≡ x
  chosen-true b x y e = rw e refl

  chosen-false : (b : Bool) (x y : Bool) → b ≡ false → (if b then x else y) ≡ y
  chosen-false b x y e = rw e refl

  of_row : (t y : ℕ) → y < h.config.ways → (b : Bool) → is_number room t ≡ b → is_number room ((t * h.config.ways + y) / h.config.ways) ≡ b
  of_row t y l b e = ap (is_number room) (div-mul-add t h.config.ways y l) ∙ e

  mixed-found : (t : ℕ) → is_number room t ≡ true → row h.config.ways mixed t ≡ row h.config.ways (in_way h s q) t
  mixed-found t e = same_row h.config.ways mixed (in_way h s q) t
      (λ y l. let i : ℕ = t * h.config.ways + y in
      chosen-true (is_number room (i / h.config.ways)) (in_way h s q i) (counts i) (of_row t y l true e))

  mixed-kept : (t : ℕ) → is_number room t ≡ false → row h.config.ways mixed t ≡ row h.config.ways counts t
  mixed-kept t e = same_row h.config.ways mixed counts t
      (λ y l. let i : ℕ = t * h.config.ways + y in
      chosen-false (is_number room (i / h.config.ways)) (in_way h s q i) (counts i) (of_row t y l false e))

  elsewhere : (t : ℕ) → t < h.config.sets → is_number room t ≡ false → is_number line t ≡ false
      → row h.config.ways counts t ≡ row h.config.ways (in_way h s q) t
  elsewhere t l e f =
      let r = no_room h.config.sets q.room t l e in
      let a = no_line room (option_map (λ m. m % h.config.sets) q.awaited) t e f in
      kept-row t ∙ plain-set h s q t (rw (r, a) refl) ∙ sym (found-row t)

  last : (t : ℕ) → t < h.config.sets → is_number line t ≡ false → row h.config.ways mixed t ≡ row h.config.ways (in_way h s q) t
  last t l f = elim (cases_Bool (is_number room t)) [
    | inl e ↦ mixed-found t e
    | inr e ↦ mixed-kept t e ∙ elsewhere t l e f
  ]

  abbrev pub useful : ℕ
  useful = length (useful_ways h.config q (maps h))

  abbrev pub all : ℕ
  all = cond q.alone (count_ways used_way h.frames) (count_ways idle_way h.frames)

  all-counts : count_below counts (h.config.sets * h.config.ways) ≡ all
  unfolding count_ways
  all-counts = by q.alone
    where
      by : (b : Bool)
          → count_below (λ i. cond b (used_way (get_or h.frames i None)) (idle_way (get_or h.frames i None)))
          (h.config.sets * h.config.ways)
          ≡ cond b (count_below (λ i. used_way (get_or h.frames i None)) (length h.frames))
          (count_below (λ i. idle_way (get_or h.frames i None)) (length h.frames))
      by true = ap (count_below (λ i. used_way (get_or h.frames i None))) (sym s.filled_ways)
      by false = ap (count_below (λ i. idle_way (get_or h.frames i None))) (sym s.filled_ways)

  -- what is counted, and found in the two sets, is what is useful, and counted there
  pub put_right : IfSome room (λ t. t < h.config.sets) → IfSome line (λ t. t < h.config.sets)
      → all + (in_set found room + in_set found line) ≡ useful + (in_set kept room + in_set kept line)
  put_right l m =
      let w : ℕ = h.config.ways in
      let a = maybe_row w counts mixed h.config.sets room l (λ t k e. sym (mixed-kept t e)) in
      let b = maybe_row w mixed (in_way h s q) h.config.sets line m (λ t k e. last t k e) in
      let c = same_in (row w mixed) found room (λ t e. mixed-found t e ∙ found-row t) in
      let d = same_in (row w counts) kept room (λ t e. kept-row t) in
      let e = same_in (row w (in_way h s q)) found line (λ t f. found-row t) in
      let f = same_in (row w mixed) kept line (λ t g. mixed-kept t (other_first room _ t g) ∙ kept-row t) in
      let g = all-counts in
      let u = useful_counted h s q in
      omega (arith, a, b, c, d, e, f, g, u)

  few : (t : Option FrameView → Bool) → count_ways t h.frames ≤ 16384
  few t = let m = count-most t h.frames in let k = few-ways h.config s.allowed in let f = s.filled_ways in omega (arith, m, k, f)

  pub all-few : all ≤ 16384
  all-few = by q.alone
    where
      by : (b : Bool) → cond b (count_ways used_way h.frames) (count_ways idle_way h.frames) ≤ 16384
      by true = few used_way
      by false = few idle_way

  -- the same with what the calls gave
  pub put_right_as : (n a f g k m : ℕ) (r l : Option ℕ) → n ≡ h.config.sets → r ≡ room_set n q → IfSome r (λ t. t < n)
      → l ≡ line_set n q → IfSome l (λ t. t < n)
      → a ≡ all → f ≡ in_set found r → g ≡ in_set found l → k ≡ in_set kept r → m ≡ in_set kept l → a + (f + g) ≡ useful + (k + m)
  put_right_as n a f g k m r l ns rs re ls le az fz gz kz mz =
      let rr : r ≡ room = rs ∙ ap (λ x. room_set x q) ns in
      let ll : l ≡ line = ls ∙ ap (λ x. line_set x q) ns in
      let p = put_right (rw (rr, ns) at re) (rw (ll, ns) at le) in
      let u = fz ∙ ap (in_set found) rr in
      let v = gz ∙ ap (in_set found) ll in
      let x = kz ∙ ap (in_set kept) rr in
      let y = mz ∙ ap (in_set kept) ll in
      omega (arith, p, u, v, x, y, az)

-- all that is counted is useful where no line is awaited and no room is wanted
pub plain-all : (h : Held) → IsHeld h → (q : Wants) → q.awaited ≡ None → q.room ≡ None → (n : ℕ)
    → n ≡ cond q.alone (count_ways used_way h.frames) (count_ways idle_way h.frames) → n ≡ length (useful_ways h.config q (maps h))
plain-all h s q a r n e =
    let p = put_right_as h s q h.config.sets n 0 0 0 0 None None refl (rw r refl) tt (rw a refl) tt e refl refl refl refl in
    omega (arith, p)

few-of : (u : Option FrameView → Bool) (h : Held) → IsHeld h → (t : ℕ) → count_set u h t ≤ 16
unfolding count_set
few-of u h s t =
    let m = count_below-most (λ y. u (get_or h.frames (t * h.config.ways + y) None)) h.config.ways in
    let w = s.allowed.3.1 in
    omega (arith, m, w)

pub kept-few : (h : Held) → IsHeld h → (b : Bool) (t : ℕ) → cond b (count_set used_way h t) (count_set idle_way h t) ≤ 16
kept-few h s true t = few-of used_way h s t
kept-few h s false t = few-of idle_way h s t
