-- The maps of a cache fit together: the ways and the lines, and the marks of a line.
use Rattle.std.proofs.Common.{ℕ, zero, suc, ◌+◌, ◌*◌, ◌/◌, ◌%◌, ◌<◌, ◌≡◌, ◌≢◌, Bool, true, false, cond, List, [], ◌∷◌, length, get_or}
use Rattle.std.proofs.Common.{Option, Some, None, is_some, nat_lt, refl, sym, ◌∙◌, ap, subst, arith}
use Rattle.std.proofs.lemmas.Bool.{false≢true, ltb-true, eqb-true}
use Rattle.std.proofs.lemmas.Nat.{div_below, div-mul-add}
use Rattle.base_lemmas.proofs.Lemmas.{is_some-cond}
use Rattle.rules_maps.specs.Words.{line_of, place_of}
use Rattle.rules_maps.specs.Masks.{has}
use Rattle.rules_maps.specs.Shape.{set_of, lines}
use Rattle.rules_maps.specs.Cache.{IsCache}
use Rattle.rules_maps.proofs.Lemmas.{has-zero}
use Rattle.spec_cache.specs.declared.frame.FrameView.{FrameView}
use Rattle.spec_cache.specs.Frame.{value_in, read_in, modified_in, dirty_in, line_in, holds_line, IsFrame}
use Rattle.spec_cache.specs.Held.{Held, IsHeld, frame_of, frame_at, maps}
use Rattle.spec_cache.proofs.FrameList.{frame_of-found}
use Rattle.spec_cache.proofs.FrameFound.{frame_of-way}
use Rattle.spec_cache.proofs.MapsAll.{frame_found}
use Rattle.spec_cache.proofs.MapsPlaced.{same_place}
use Rattle.spec_cache.proofs.Looks.{at_way}

line_in-some : (o : Option FrameView) (l : ℕ) → line_in o ≡ Some l → (f : FrameView) × (o ≡ Some f) × (f.line.0 ≡ l)
unfolding line_in
line_in-some None l e = absurd (let z : None ≡ Some l = e in cc)
line_in-some (Some f) l e = (f, refl, (let z : f.line.0 ≡ l = cc in z))

is_some-some : {A : Type 0} (o : Option A) → is_some o ≡ true → (x : A) × (o ≡ Some x)
is_some-some None e = absurd (false≢true e)
is_some-some (Some x) e = (x, refl)

is_some-none : {A : Type 0} (o : Option A) → is_some o ≡ false → o ≡ None
is_some-none None e = refl
is_some-none (Some x) e = absurd (false≢true (sym e))

-- what is known of a word of the line of a way, where the way has a frame and where it has none
module _ (o : Option FrameView) (s : (f : FrameView) → o ≡ Some f → IsFrame f) where
  value_none : (k : ℕ) → is_some o ≡ false → value_in o k ≡ None
  unfolding value_in
  value_none k e = rw (is_some-none o e) refl

  read_none : (k : ℕ) → is_some o ≡ false → read_in o k ≡ false
  unfolding read_in
  read_none k e = rw (is_some-none o e) refl

modified_is_valid : (o : Option FrameView) (s : (f : FrameView) → o ≡ Some f → IsFrame f) (k : ℕ) → modified_in o k ≡ true
    → is_some (value_in o k) ≡ true
unfolding modified_in value_in
modified_is_valid None s k e = absurd (false≢true e)
modified_is_valid (Some f) s k e = is_some-cond (has f.valid.0 k) (get_or f.words k 0) ∙ (s f refl).modified_valid k e

dirty_is_valid : (o : Option FrameView) (s : (f : FrameView) → o ≡ Some f → IsFrame f) (k : ℕ) → is_some (dirty_in o k) ≡ true
    → is_some (value_in o k) ≡ true
unfolding dirty_in value_in
dirty_is_valid None s k e = absurd (false≢true e)
dirty_is_valid (Some f) s k e = is_some-cond (has f.valid.0 k) (get_or f.words k 0)
    ∙ (s f refl).dirty_valid k (sym (is_some-cond (has f.dirty.0 k) f.tag.0) ∙ e)

not_either : (o : Option FrameView) (s : (f : FrameView) → o ≡ Some f → IsFrame f) (j k : ℕ) → modified_in o j ≡ true → dirty_in o k ≡ None
unfolding modified_in dirty_in
not_either None s j k e = refl
not_either (Some f) s j k e =
    let n : f.modified.0 ≢ 0 = λ z. false≢true (sym (has-zero j) ∙ (rw z at e)) in
    rw ((s f refl).either n, has-zero) refl

tag_of : (o : Option FrameView) (k t : ℕ) → dirty_in o k ≡ Some t → (f : FrameView) × (o ≡ Some f) × (t ≡ f.tag.0)
unfolding dirty_in
tag_of None k t e = absurd (let z : None ≡ Some t = e in cc)
tag_of (Some f) k t e = (f, refl, sym (go (has f.dirty.0 k) e))
  where
    go : (b : Bool) → cond b (Some f.tag.0) None ≡ Some t → f.tag.0 ≡ t
    go true q = let z : f.tag.0 ≡ t = cc in z
    go false q = absurd (let z : None ≡ Some t = q in cc)

same_tag : (o : Option FrameView) (j k t u : ℕ) → dirty_in o j ≡ Some t → dirty_in o k ≡ Some u → t ≡ u
same_tag o j k t u d e = let p = tag_of o j t d in let q = tag_of o k u e in
    let z : Some p.0 ≡ Some q.0 = sym p.1 ∙ q.1 in let y : p.0 ≡ q.0 = cc in p.2 ∙ ap (λ (x : FrameView). x.tag.0) y ∙ sym q.2

some-within : (fs : List (Option FrameView)) (i : ℕ) (f : FrameView) → get_or fs i None ≡ Some f → i < length fs
some-within [] i f e = absurd (let z : None ≡ Some f = e in cc)
some-within (o ∷ os) zero f e = omega arith
some-within (o ∷ os) (suc i) f e = let b = some-within os i f e in omega (arith, b)

module _ (h : Held) (s : IsHeld h) where
  -- what stands at a set and way
  pub way_of : (t y l : ℕ) → (maps h).at t y ≡ Some l
      → (y < h.config.ways) × ((f : FrameView) × (get_or h.frames (t * h.config.ways + y) None ≡ Some f) × (f.line.0 ≡ l))
  unfolding maps frame_at
  way_of t y l e = go (nat_lt y h.config.ways) refl e
    where
      go : (b : Bool) → nat_lt y h.config.ways ≡ b → line_in (cond b (get_or h.frames (t * h.config.ways + y) None) None) ≡ Some l →
          (y < h.config.ways) × ((f : FrameView) × (get_or h.frames (t * h.config.ways + y) None ≡ Some f) × (f.line.0 ≡ l))
      go true q r = (ltb-true y h.config.ways q, line_in-some _ l r)
      go false q r = absurd (let z = line_in-some None l r in let k : None ≡ Some z.0 = z.1 in cc)

  held_way : (f : FrameView) (i : ℕ) → get_or h.frames i None ≡ Some f → (maps h).held f.line.0 ≡ true
  unfolding maps
  held_way f i p = rw (frame_of-way h s i f p) refl

  at_line : (l : ℕ) (f : FrameView) → frame_of h.frames l ≡ Some f → (y : ℕ) × ((maps h).at (set_of h.config l) y ≡ Some l)
  unfolding holds_line line_in
  at_line l f e =
      let r = frame_of-found h.frames l f e in
      let i : ℕ = r.0 in
      let line : f.line.0 ≡ l = eqb-true f.line.0 l r.2 in
      let positive : 0 < h.config.ways = s.allowed.3.0 in
      let set : l % h.config.sets ≡ i / h.config.ways = sym (ap (λ x. x % h.config.sets) line) ∙ s.placed i f r.1 in
      let below : i % h.config.ways < h.config.ways = omega (arith, positive) in
      let place : l % h.config.sets * h.config.ways + i % h.config.ways ≡ i = ap (λ x. x * h.config.ways + i % h.config.ways) set
      ∙ omega (arith, positive) in
      (i % h.config.ways, at_way h (set_of h.config l) (i % h.config.ways) below ∙ (rw (place, r.1) (ap Some line)))

  pub IsCache-maps : IsCache h.config (maps h)
  IsCache-maps = record {
    placed = λ t y l e.
        (let r = way_of t y l e in
        let p : l % h.config.sets ≡ (t * h.config.ways + y) / h.config.ways = sym (ap (λ x. x % h.config.sets) r.1.2)
        ∙ s.placed (t * h.config.ways + y) r.1.0 r.1.1 in (
          sym (p ∙ div-mul-add t h.config.ways y r.0),
          r.0,
          subst (λ (x : ℕ). (maps h).held x ≡ true) r.1.2
              (held_way r.1.0 (t * h.config.ways + y) r.1.1),
        ));
    held = λ l e. let r = is_some-some (frame_of h.frames l) (unfold maps in e) in at_line l r.0 r.1;
    once = λ t y z l e d.
        (let r = way_of t y l e in let q = way_of t z l d in
        (same_place h.config.ways t y t z r.0 q.0
        (s.once (t * h.config.ways + y) (t * h.config.ways + z) r.1.0 q.1.0 r.1.1 q.1.1 (r.1.2 ∙ sym q.1.2))).1);
    valued = λ w e. unfold maps in value_none (frame_of h.frames (line_of w)) (frame_found h s (line_of w)) (place_of w) e;
    unread = λ w e. unfold maps in read_none (frame_of h.frames (line_of w)) (frame_found h s (line_of w)) (place_of w) e;
    modified = λ w e. unfold maps in modified_is_valid (frame_of h.frames (line_of w)) (frame_found h s (line_of w)) (place_of w) e;
    dirty = λ w e. unfold maps in dirty_is_valid (frame_of h.frames (line_of w)) (frame_found h s (line_of w)) (place_of w) e;
    either = λ v w e m. unfold maps in not_either (frame_of h.frames (line_of w)) (frame_found h s (line_of w)) (place_of v) (place_of w)
        (subst (λ (x : ℕ). modified_in (frame_of h.frames x) (place_of v) ≡ true) e m);
    one_tag = λ v w t u e m n. unfold maps in same_tag (frame_of h.frames (line_of w)) (place_of v) (place_of w) t u
        (subst (λ (x : ℕ). dirty_in (frame_of h.frames x) (place_of v) ≡ Some t) e m) n;
  }

  -- there is no such set, or no such way
  pub no_such_way : (t y : ℕ) → (t < h.config.sets → y < h.config.ways → ⊥) → None ≡ (maps h).at t y
  no_such_way t y none = go ((maps h).at t y) refl
    where
      go : (o : Option ℕ) → (maps h).at t y ≡ o → None ≡ o
      go None e = refl
      go (Some l) e =
          let r = way_of t y l e in
          let inside : t * h.config.ways + y < length h.frames = some-within h.frames (t * h.config.ways + y) r.1.0 r.1.1 in
          let set : (t * h.config.ways + y) / h.config.ways < h.config.sets =
          div_below (t * h.config.ways + y) h.config.ways h.config.sets s.allowed.3.0 (omega (arith, inside, s.filled_ways)) in
          absurd (none (rw (div-mul-add t h.config.ways y r.0) at set) r.0)

  -- a line that has a frame is one of memory
  pub held_exists : (l : ℕ) → (maps h).held l ≡ true → l < lines h.config
  unfolding maps holds_line
  held_exists l e =
      let r = is_some-some (frame_of h.frames l) e in
      let q = frame_of-found h.frames l r.0 r.1 in
      subst (λ (x : ℕ). x < lines h.config) (eqb-true r.0.line.0 l q.2) (s.exists q.0 r.0 q.1)
