-- What a set has free and marked, and what a load or a store finds, read off the frames.
use Rattle.std.proofs.Common.{ℕ, suc, zero, ◌+◌, ◌*◌, ◌<◌, ◌≤◌, ◌≡◌, Bool, true, false, not, inl, inr, get_or, Option, Some, None, is_some}
use Rattle.std.proofs.Common.{is_none, refl, sym, ◌∙◌, ap, subst, arith, add-one}
use Rattle.std.proofs.lemmas.Bool.{cases_eq, lt-ltb}
use Rattle.std.proofs.Math.Bool.{and-false}
use Rattle.tcc_base.specs.Settings.{Settings}
use Rattle.rules_maps.specs.Words.{line_of, place_of, lowest, all_below}
use Rattle.rules_maps.specs.Shape.{set_of}
use Rattle.rules_maps.specs.Cache.{free_way, all_marked, way_marked}
use Rattle.rules_maps.specs.CacheLook.{Hit, Miss, NeedsRoom, Overflow, look_line, look_load, look_value, look_store}
use Rattle.spec_cache.specs.declared.frame.FrameView.{FrameView}
use Rattle.spec_cache.specs.Frame.{value_in, line_in, marked_in, IsWay}
use Rattle.spec_cache.specs.Held.{Held, IsHeld, IsWayOf, frame_of, frame_at, maps}
use Rattle.spec_cache.proofs.FrameFound.{frame_of-way}
use Rattle.spec_cache.proofs.Readings.{is_marked-frame}
use Rattle.spec_cache.proofs.Calls.{found_line}

pub lowest-found : (p : ℕ → Bool) (n y : ℕ) → lowest p y ≡ None → p y ≡ true → y < n → lowest p n ≡ Some y
unfolding lowest
lowest-found p zero y e t h = absurd (omega arith)
lowest-found p (suc n) y e t h = elim (cases_eq y n) [
  | inl q ↦ rw (← q, e, t) refl
  | inr m ↦ rw (lowest-found p n y e t (omega arith)) refl
]

pub lowest-further : (p : ℕ → Bool) (n : ℕ) → lowest p n ≡ None → p n ≡ false → lowest p (n + 1) ≡ None
unfolding lowest
lowest-further p n e f = rw (add-one, e, f) refl

pub lowest-none : (p : ℕ → Bool) → lowest p 0 ≡ None
unfolding lowest
lowest-none p = refl

pub all_below-not : (p : ℕ → Bool) (n k : ℕ) → k < n → p k ≡ false → all_below p n ≡ false
unfolding all_below
all_below-not p zero k h f = absurd (omega arith)
all_below-not p (suc n) k h f = elim (cases_eq k n) [
  | inl q ↦ rw (← q, f) (and-false (all_below p k))
  | inr m ↦ rw (all_below-not p n k (omega arith) f) refl
]

pub all_below-further : (p : ℕ → Bool) (n : ℕ) → all_below p n ≡ true → p n ≡ true → all_below p (n + 1) ≡ true
unfolding all_below
all_below-further p n e f = rw (add-one, e, f) refl

pub all_below-none : (p : ℕ → Bool) → all_below p 0 ≡ true
unfolding all_below
all_below-none p = refl

module _ (h : Held) (t y : ℕ) (way : y < h.config.ways) where
  pub at_way : (maps h).at t y ≡ line_in (get_or h.frames (t * h.config.ways + y) None)
  unfolding maps frame_at
  at_way = rw (lt-ltb y h.config.ways way) refl

  module _ (s : IsHeld h) where
    pub way_marked-at : (o : Option FrameView) → o ≡ get_or h.frames (t * h.config.ways + y) None
        → way_marked (maps h) ((maps h).at t y) ≡ marked_in o
    unfolding way_marked line_in marked_in IsWay
    way_marked-at None e = rw (at_way, ← e) refl
    way_marked-at (Some f) e =
        rw (at_way, ← e) (is_marked-frame h f.line.0 f (frame_of-way h s (t * h.config.ways + y) f (sym e))
        (rw (sym e) at (s.frame (t * h.config.ways + y))))

module _ (h : Held) (l : ℕ) (absent : frame_of h.frames l ≡ None) where
  pub not_held : (maps h).held l ≡ false
  unfolding maps
  not_held = rw absent refl

  module _ (t : ℕ) (set : t ≡ set_of h.config l) (o : Option ℕ) (free : o ≡ free_way h.config (maps h) t) where
    free_here : is_some (free_way h.config (maps h) (set_of h.config l)) ≡ is_some o
    free_here = ap (λ x. is_some (free_way h.config (maps h) x)) (sym set) ∙ ap (λ (x : Option ℕ). is_some x) (sym free)

    pub look_line-free : is_some o ≡ true → Miss ≡ look_line h.config l (maps h)
    unfolding look_line
    look_line-free e = rw (not_held, free_here, e) refl

    pub look_line-marked : is_some o ≡ false → true ≡ all_marked h.config (maps h) t → Overflow t ≡ look_line h.config l (maps h)
    unfolding look_line
    look_line-marked e m = rw (not_held, free_here, e, ← set, ← m) refl

    pub look_line-unmarked : is_some o ≡ false → false ≡ all_marked h.config (maps h) t → NeedsRoom t ≡ look_line h.config l (maps h)
    unfolding look_line
    look_line-unmarked e m = rw (not_held, free_here, e, ← set, ← m) refl

  pub look_load-absent : (w : ℕ) → l ≡ line_of w → look_load h.config w (maps h) ≡ look_line h.config l (maps h)
  unfolding look_load look_value maps value_in
  look_load-absent w q = rw (subst (λ (x : ℕ). frame_of h.frames x ≡ None) q absent) (ap (λ x. look_line h.config x (maps h)) (sym q))

  pub look_store-absent : (w : ℕ) → l ≡ line_of w → look_store h.config w true (maps h) ≡ look_line h.config l (maps h)
  unfolding look_store
  look_store-absent w q = rw (ap (maps h).held (sym q) ∙ not_held) (ap (λ x. look_line h.config x (maps h)) (sym q))

module _ (h : Held) (s : IsHeld h) (l : ℕ) (p : ℕ × FrameView) (k : IsWayOf h l p) where
  pub is_held : (maps h).held l ≡ true
  unfolding maps
  is_held = rw (found_line h s l p k) refl

  module _ (w : ℕ) (q : l ≡ line_of w) where
    value_here : (maps h).value w ≡ value_in (Some p.1) (place_of w)
    unfolding maps
    value_here = rw (subst (λ (x : ℕ). frame_of h.frames x ≡ Some p.1) q (found_line h s l p k)) refl

    pub look_load-hit : (x : ℕ) → Some x ≡ value_in (Some p.1) (place_of w) → look_load h.config w (maps h) ≡ Hit x
    unfolding look_load look_value
    look_load-hit x e = rw (value_here, ← e) refl

    pub look_load-miss : None ≡ value_in (Some p.1) (place_of w) → look_load h.config w (maps h) ≡ Miss
    unfolding look_load look_value look_line
    look_load-miss e = rw (value_here, ← e) (rw (ap (maps h).held (sym q) ∙ is_held) refl)

    pub look_store-hit : look_store h.config w true (maps h) ≡ Hit 0
    unfolding look_store
    look_store-hit = rw (ap (maps h).held (sym q) ∙ is_held) refl

pub look_store-part : (h : Held) (w : ℕ) → look_store h.config w false (maps h) ≡ look_load h.config w (maps h)
unfolding look_store
look_store-part h w = refl

-- a way below the settings' number of ways, and the last one past
pub within : (y n : ℕ) (c d : Settings) → n ≡ c.ways → c ≡ d → y < n → y < d.ways
within y n c d e q b = let f : n ≡ d.ways = e ∙ ap (λ (x : Settings). x.ways) q in omega arith

pub whole : (y n : ℕ) (c d : Settings) → n ≡ c.ways → c ≡ d → n ≤ y → y ≤ n → y ≡ d.ways
whole y n c d e q a b = let f : n ≡ d.ways = e ∙ ap (λ (x : Settings). x.ways) q in omega arith

-- ---- one step further in a search of a set

abbrev pub is_free : Held → ℕ → ℕ → Bool
is_free h t y = not (is_some ((maps h).at t y))

abbrev pub marked_way : Held → ℕ → ℕ → Bool
marked_way h t y = way_marked (maps h) ((maps h).at t y)

free-at : (h : Held) (t y : ℕ) (o : Option FrameView) → y < h.config.ways → o ≡ get_or h.frames (t * h.config.ways + y) None
    → is_free h t y ≡ not (is_some o)
unfolding line_in
free-at h t y None b e = rw (at_way h t y b, ← e) refl
free-at h t y (Some f) b e = rw (at_way h t y b, ← e) refl

module _ (h : Held) (t y i : ℕ) (o : Option FrameView) (b : y < h.config.ways) (place : i ≡ t * h.config.ways + y)
    (e : o ≡ get_or h.frames i None) where
  here : o ≡ get_or h.frames (t * h.config.ways + y) None
  here = e ∙ ap (λ x. get_or h.frames x None) place

  pub free_found : is_none o ≡ true → lowest (λ y. is_free h t y) y ≡ None → Some y ≡ free_way h.config (maps h) t
  unfolding free_way
  free_found n inv = sym (lowest-found (λ y. is_free h t y) h.config.ways y inv (free-at h t y o b here ∙ n) b)

  pub free_next : is_none o ≡ false → lowest (λ y. is_free h t y) y ≡ None → lowest (λ y. is_free h t y) (y + 1) ≡ None
  free_next n inv = lowest-further (λ y. is_free h t y) y inv (free-at h t y o b here ∙ n)

  pub marked_not : (s : IsHeld h) → marked_in o ≡ false → false ≡ all_marked h.config (maps h) t
  unfolding all_marked
  marked_not s n = sym (all_below-not (λ y. marked_way h t y) h.config.ways y b (way_marked-at h t y b s o here ∙ n))

  pub marked_next : (s : IsHeld h) → marked_in o ≡ true → all_below (λ y. marked_way h t y) y ≡ true
      → all_below (λ y. marked_way h t y) (y + 1) ≡ true
  marked_next s n inv = all_below-further (λ y. marked_way h t y) y inv (way_marked-at h t y b s o here ∙ n)

pub free_none : (h : Held) (t n : ℕ) → n ≡ h.config.ways → lowest (λ y. is_free h t y) n ≡ None → None ≡ free_way h.config (maps h) t
unfolding free_way
free_none h t n e inv = sym (ap (lowest (λ y. is_free h t y)) (sym e) ∙ inv)

pub marked_all : (h : Held) (t n : ℕ) → n ≡ h.config.ways → all_below (λ y. marked_way h t y) n ≡ true
    → true ≡ all_marked h.config (maps h) t
unfolding all_marked
marked_all h t n e inv = sym (ap (all_below (λ y. marked_way h t y)) (sym e) ∙ inv)
