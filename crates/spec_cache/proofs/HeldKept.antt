-- The ways of a cache stay in order when one of them changes, and when all frames do.
use Rattle.std.proofs.Common.{ℕ, ◌/◌, ◌%◌, ◌<◌, ◌≡◌, ◌≢◌, ◌⊎◌, inl, inr, length, get_or, set, map, Option, Some, None, refl, sym, ◌∙◌, ap}
use Rattle.std.proofs.Common.{subst, length-set, get_or-set_same, get_or-set_other}
use Rattle.std.specs.Option.{option_map}
use Rattle.std.proofs.lemmas.Bool.{cases_eq}
use Rattle.std.proofs.lemmas.List.{length-map}
use Rattle.rules_maps.specs.Shape.{lines}
use Rattle.spec_cache.specs.declared.frame.FrameView.{FrameView}
use Rattle.spec_cache.specs.Frame.{IsFrame, IsWay, empty_frame}
use Rattle.spec_cache.specs.Held.{Held, IsHeld, FitsAt, FitsWay, frame_of}
use Rattle.spec_cache.proofs.FrameKept.{IsFrame-empty}
use Rattle.spec_cache.proofs.FrameFound.{frame_of-way}
use Rattle.spec_cache.proofs.MapsAll.{get_or-all}

module _ (h : Held) (s : IsHeld h) where
  -- what stands at a place after way i changed: the new frame, or another one
  after_set : (i : ℕ) (o : Option FrameView) (j : ℕ) (f : FrameView) → i < length h.frames → get_or (set h.frames i o) j None ≡ Some f →
      ((j ≡ i) × (o ≡ Some f)) ⊎ ((j ≢ i) × (get_or h.frames j None ≡ Some f))
  after_set i o j f inside e = elim (cases_eq j i) [
    | inl q ↦ inl (q, sym (get_or-set_same h.frames i o None inside) ∙ ap (λ x. get_or (set h.frames i o) x None) (sym q) ∙ e)
    | inr n ↦ inr (n, sym (get_or-set_other h.frames i j o None n) ∙ e)
  ]

  fits_at : (i : ℕ) (o : Option FrameView) (f : FrameView) → FitsWay h i o → o ≡ Some f → FitsAt h i f
  unfolding FitsWay
  fits_at i o f w e = rw e at w

  way_kept : (i : ℕ) (o : Option FrameView) → FitsWay h i o → IsWay o
  unfolding FitsWay IsWay
  way_kept i None w = tt
  way_kept i (Some f) w = w.frame

  pub IsHeld-set : (i : ℕ) (o : Option FrameView) → i < length h.frames → FitsWay h i o → IsHeld (record h { frames = set h.frames i o })
  IsHeld-set i o inside w = record {
    allowed = s.allowed;
    filled_ways = length-set h.frames i o ∙ s.filled_ways;
    frame = λ j. elim (cases_eq j i) [
      | inl q ↦ rw (q, get_or-set_same h.frames i o None inside) (way_kept i o w)
      | inr n ↦ rw (get_or-set_other h.frames i j o None n) (s.frame j)
    ];
    placed = λ j f e. elim (after_set i o j f inside e) [
      | inl q ↦ rw q.0 ((fits_at i o f w q.1).placed)
      | inr n ↦ s.placed j f n.1
    ];
    exists = λ j f e. elim (after_set i o j f inside e) [
      | inl q ↦ (fits_at i o f w q.1).exists
      | inr n ↦ s.exists j f n.1
    ];
    once = λ j k f g e d l. elim (after_set i o j f inside e) [
      | inl q ↦ elim (after_set i o k g inside d) [
        | inl r ↦ q.0 ∙ sym r.0
        | inr m ↦ q.0 ∙ sym ((fits_at i o f w q.1).alone k g m.1 (sym l))
      ]
      | inr n ↦ elim (after_set i o k g inside d) [
        | inl r ↦ (fits_at i o g w r.1).alone j f n.1 l ∙ sym r.0
        | inr m ↦ s.once j k f g n.1 m.1 l
      ]
    ];
  }

  -- a frame of the line that stood there fits
  pub FitsWay-changed : (i : ℕ) (f g : FrameView) → get_or h.frames i None ≡ Some f → g.line.0 ≡ f.line.0 → IsFrame g → FitsWay h i (Some g)
  unfolding FitsWay
  FitsWay-changed i f g p e k = record {
    frame = k;
    placed = rw e (s.placed i f p);
    exists = rw e (s.exists i f p);
    alone = λ j q d l. s.once j i q f d p (l ∙ e);
  }

  pub FitsWay-none : (i : ℕ) → FitsWay h i None
  unfolding FitsWay
  FitsWay-none i = tt

  pub FitsWay-empty : (i l : ℕ) → l % h.config.sets ≡ i / h.config.ways → l < lines h.config → frame_of h.frames l ≡ None
      → FitsWay h i (Some (empty_frame l))
  unfolding FitsWay
  FitsWay-empty i l p x n = record {
    frame = IsFrame-empty l;
    placed = unfold empty_frame in p;
    exists = unfold empty_frame in x;
    alone =
        λ j q d e. absurd (let r : None ≡ Some q = sym n ∙ subst (λ (z : ℕ). frame_of h.frames z ≡ Some q)
        (e ∙ (unfold empty_frame in refl)) (frame_of-way h s j q d) in cc);
  }

some_of : (g : FrameView → FrameView) (o : Option FrameView) (f : FrameView) → option_map g o ≡ Some f
    → (e : FrameView) × (o ≡ Some e) × (f ≡ g e)
some_of g None f p = absurd (cc)
some_of g (Some e) f p = (e, refl, (let q : f ≡ g e = cc in q))

way_all : (g : FrameView → FrameView) → ((f : FrameView) → IsFrame f → IsFrame (g f)) → (o : Option FrameView) → IsWay o
    → IsWay (option_map g o)
unfolding IsWay
way_all g k None w = tt
way_all g k (Some f) w = k f w

-- a change of all frames that keeps their lines
module _ (g : FrameView → FrameView) (same_line : (f : FrameView) → (g f).line.0 ≡ f.line.0) (keeps : (f : FrameView) → IsFrame f
    → IsFrame (g f)) where
  was : (h : Held) (i : ℕ) (f : FrameView) → get_or (map (option_map g) h.frames) i None ≡ Some f
      → (e : FrameView) × (get_or h.frames i None ≡ Some e) × (f.line.0 ≡ e.line.0)
  was h i f p = let r = some_of g (get_or h.frames i None) f (sym (get_or-all g h.frames i) ∙ p) in
      (r.0, r.1, ap (λ (x : FrameView). x.line.0) r.2 ∙ same_line r.0)

  pub IsHeld-all : (h : Held) → IsHeld h → IsHeld (record h { frames = map (option_map g) h.frames })
  IsHeld-all h s = record {
    allowed = s.allowed;
    filled_ways = length-map h.frames (option_map g) ∙ s.filled_ways;
    frame = λ i. rw (get_or-all g h.frames i) (way_all g keeps (get_or h.frames i None) (s.frame i));
    placed = λ i f p. let r = was h i f p in rw r.2 (s.placed i r.0 r.1);
    exists = λ i f p. let r = was h i f p in rw r.2 (s.exists i r.0 r.1);
    once = λ i j f e p q l. let r = was h i f p in let t = was h j e q in s.once i j r.0 t.0 r.1 t.1 (sym r.2 ∙ l ∙ t.2);
  }
