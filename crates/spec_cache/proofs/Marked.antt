-- The lines of a directory that a cache has read or written: lists of them, and what the maps say.
use Rattle.std.proofs.Common.{ℕ, suc, zero, ◌+◌, ◌%◌, ◌<◌, ◌≤◌, ◌≡◌, Bool, true, false, not, cond, ◌&&◌, inl, inr, List, [], ◌∷◌, ◌++◌}
use Rattle.std.proofs.Common.{length, get_or, map, take, Option, Some, None, nat_eq, refl, sym, ◌∙◌, ap, subst, arith, Contains}
use Rattle.std.specs.List.{AllPairs}
use Rattle.std.specs.Bool.{MatchBool}
use Rattle.std.proofs.lemmas.Bool.{false≢true, cases_eq, cases_lt, cases_Bool, and_parts, eqb-true}
use Rattle.std.proofs.lemmas.List.Elements.{Contains-append_left, Contains-push, Contains-push_cases}
use Rattle.std.proofs.lemmas.List.{take_all, take_more, map-append}
use Rattle.tcc_base.specs.declared.names.LineAddr.{LineAddr}
use Rattle.tcc_base.specs.declared.names.Mask.{Mask}
use Rattle.base_lemmas.proofs.Lemmas.{any_below-same, at_head, head_or_tail, in_tail, line_of-word_at}
use Rattle.rules_maps.specs.Words.{line_of, place_of, word_at, any_below, any_word, those}
use Rattle.rules_maps.specs.Masks.{has}
use Rattle.rules_maps.specs.Shape.{lines}
use Rattle.rules_maps.specs.Cache.{is_modified, written_lines, marks_by_home, modified_mask, reads_at}
use Rattle.rules_maps.proofs.Lemmas.{any_below-found, any_below-at, those-holds, those-only, those-rise}
use Rattle.spec_cache.specs.declared.frame.FrameView.{FrameView}
use Rattle.spec_cache.specs.Frame.{read_in, modified_in, IsFrame, IsWay}
use Rattle.spec_cache.specs.Held.{Held, IsHeld, IsWayOf, frame_of, maps}
use Rattle.spec_cache.specs.Home.{reads_in, written_in, written_found, Collects, mark_of}
use Rattle.spec_cache.proofs.FrameFound.{frame_of-way}
use Rattle.spec_cache.proofs.FrameList.{frame_of-found}
use Rattle.spec_cache.proofs.Readings.{any-has, read-at, modified-at, modified_mask-frame}
use Rattle.spec_cache.proofs.Calls.{found_line, frame_here}

-- ---- lists that rise

abbrev pub Rises : List ℕ → Type 0
Rises xs = AllPairs (λ x y. x < y) xs

above_head : (x k : ℕ) (xs : List ℕ) → Rises (x ∷ xs) → Contains xs k → x < k
above_head x k xs r c = let h : c.0 < length xs = c.1 in let e : get_or xs c.0 k ≡ k = c.2 in let b : x < get_or xs c.0 k =
    r 0 (suc c.0) k (omega arith) (omega arith) in omega (arith, b, e)

tail_rises : (x : ℕ) (xs : List ℕ) → Rises (x ∷ xs) → Rises xs
tail_rises x xs r = λ i j d h l. r (suc i) (suc j) d (omega arith) (omega arith)

-- two rising lists of the same numbers are the same
pub rising_same : (xs ys : List ℕ) → Rises xs → Rises ys → ((k : ℕ) → Contains xs k → Contains ys k)
    → ((k : ℕ) → Contains ys k → Contains xs k) → xs ≡ ys
rising_same [] [] r t f g = refl
rising_same [] (y ∷ ys) r t f g = absurd (let c = g y (at_head y ys) in let h : c.0 < 0 = c.1 in omega arith)
rising_same (x ∷ xs) [] r t f g = absurd (let c = f x (at_head x xs) in let h : c.0 < 0 = c.1 in omega arith)
rising_same (x ∷ xs) (y ∷ ys) r t f g =
    let e : x ≡ y = same_head x y xs ys r t f g in
    let rest : xs ≡ ys = rising_same xs ys (tail_rises x xs r) (tail_rises y ys t)
    (λ k c. later x y k xs ys r (f k) c (sym e)) (λ k c. later y x k ys xs t (g k) c e) in
    cc
  where
    later : (x y k : ℕ) (xs ys : List ℕ) → Rises (x ∷ xs) → (Contains (x ∷ xs) k → Contains (y ∷ ys) k) → Contains xs k → y ≡ x
        → Contains ys k
    later x y k xs ys r f c e = elim (head_or_tail y k ys (f (in_tail x k xs c))) [
      | inl q ↦ absurd (let b : x < k = above_head x k xs r c in omega (arith, b, e, q))
      | inr d ↦ d
    ]

    same_head : (x y : ℕ) (xs ys : List ℕ) → Rises (x ∷ xs) → Rises (y ∷ ys) → ((k : ℕ) → Contains (x ∷ xs) k → Contains (y ∷ ys) k)
        → ((k : ℕ) → Contains (y ∷ ys) k → Contains (x ∷ xs) k) → x ≡ y
    same_head x y xs ys r t f g = elim (head_or_tail y x ys (f x (at_head x xs))) [
      | inl q ↦ sym q
      | inr c ↦ elim (head_or_tail x y xs (g y (at_head y ys))) [
        | inl q ↦ q
        | inr d ↦ absurd (let a : y < x = above_head y x ys t c in let b : x < y = above_head x y xs r d in omega (arith, a, b))
      ]
    ]

-- ---- what is collected, place by place

pub collects_more : (found : ℕ → Option ℕ) (n : ℕ) (xs : List ℕ) (y : ℕ) → found n ≡ Some y →
    ((j x : ℕ) → j < n → found j ≡ Some x → Contains xs x) → (j x : ℕ) → j < n + 1 → found j ≡ Some x → Contains (xs ++ y ∷ []) x
collects_more found n xs y e each j x h p = elim (cases_eq j n) [
  | inl q ↦ (let z : Some y ≡ Some x = sym e ∙ ap found (sym q) ∙ p in let w : y ≡ x = cc in
      subst (λ (k : ℕ). Contains (xs ++ y ∷ []) k) w (Contains-push xs y))
  | inr m ↦ Contains-append_left xs (y ∷ []) x (each j x (omega arith) p)
]

pub collects_only : (found : ℕ → Option ℕ) (n : ℕ) (xs : List ℕ) (y : ℕ) → found n ≡ Some y →
    ((x : ℕ) → Contains xs x → (j : ℕ) × (found j ≡ Some x)) → (x : ℕ) → Contains (xs ++ y ∷ []) x → (j : ℕ) × (found j ≡ Some x)
collects_only found n xs y e only x c = elim (Contains-push_cases xs y x c) [
  | inl p ↦ only x p
  | inr q ↦ (n, e ∙ ap Some q)
]

pub collects_same : (found : ℕ → Option ℕ) (n : ℕ) (xs : List ℕ) → found n ≡ None →
    ((j x : ℕ) → j < n → found j ≡ Some x → Contains xs x) → (j x : ℕ) → j < n + 1 → found j ≡ Some x → Contains xs x
collects_same found n xs e each j x h p = elim (cases_eq j n) [
  | inl q ↦ absurd (let z : None ≡ Some x = sym e ∙ ap found (sym q) ∙ p in cc)
  | inr m ↦ each j x (omega arith) p
]

none_beyond : (fs : List (Option FrameView)) (i : ℕ) → length fs ≤ i → get_or fs i None ≡ None
none_beyond [] i h = refl
none_beyond (o ∷ os) zero h = absurd (omega arith)
none_beyond (o ∷ os) (suc i) h = none_beyond os i (omega arith)

pub written_within : (dirs d : ℕ) (fs : List (Option FrameView)) (i x : ℕ) → written_found dirs d fs i ≡ Some x → i < length fs
unfolding written_in
written_within dirs d fs i x e = elim (cases_lt i (length fs)) [
  | inl b ↦ b
  | inr past ↦ absurd (let z : None ≡ Some x = sym (ap (written_in dirs d) (none_beyond fs i past)) ∙ e in cc)
]

pub reads_beyond : (dirs d : ℕ) (fs : List (Option FrameView)) (n : ℕ) → length fs ≤ n
    → ((j : ℕ) → j < n → reads_in dirs d (get_or fs j None) ≡ false) → (j : ℕ) → reads_in dirs d (get_or fs j None) ≡ false
unfolding reads_in
reads_beyond dirs d fs n past none j = elim (cases_lt j n) [
  | inl b ↦ none j b
  | inr k ↦ rw (none_beyond fs j (omega arith)) refl
]

-- ---- what the maps say

module _ (h : Held) (s : IsHeld h) where
  -- the frame of a way, as the frame of its line
  frame_in : (i : ℕ) (f : FrameView) → get_or h.frames i None ≡ Some f → IsFrame f
  unfolding IsWay
  frame_in i f e = rw e at (s.frame i)

  read_words : (l : ℕ) (f : FrameView) → frame_of h.frames l ≡ Some f → IsFrame f → any_word (maps h).read l ≡ not (nat_eq f.read.0 0)
  unfolding any_word
  read_words l f e k = any_below-same _ (has f.read.0) 8 (read-at h l f e) ∙ any-has f.read.0 k.read_fits

  modified_words : (l : ℕ) (f : FrameView) → frame_of h.frames l ≡ Some f → IsFrame f
      → any_word (maps h).modified l ≡ not (nat_eq f.modified.0 0)
  unfolding any_word
  modified_words l f e k = any_below-same _ (has f.modified.0) 8 (modified-at h l f e) ∙ any-has f.modified.0 k.modified_fits

  -- a line with a word that passes has a frame, and so a way
  way_of_line : (l : ℕ) (p : Option FrameView → ℕ → Bool) → ((k : ℕ) → p None k ≡ false)
      → any_word (λ w. p (frame_of h.frames (line_of w)) (place_of w)) l ≡ true →
      (f : FrameView) × (frame_of h.frames l ≡ Some f) × ((i : ℕ) × (get_or h.frames i None ≡ Some f) × (f.line.0 ≡ l))
  unfolding any_word
  way_of_line l p none e =
      let r = any_below-found (λ k. p (frame_of h.frames (line_of (word_at l k))) (place_of (word_at l k))) 8 e in
      let q : p (frame_of h.frames l) (place_of (word_at l r.0)) ≡ true =
      subst (λ (x : ℕ). p (frame_of h.frames x) (place_of (word_at l r.0)) ≡ true) (line_of-word_at l r.0 r.1) r.2 in
      some_frame (frame_of h.frames l) refl (place_of (word_at l r.0)) q
    where
      some_frame : (o : Option FrameView) → frame_of h.frames l ≡ o → (k : ℕ) → p o k ≡ true
          → (f : FrameView) × (frame_of h.frames l ≡ Some f) × ((i : ℕ) × (get_or h.frames i None ≡ Some f) × (f.line.0 ≡ l))
      some_frame None g k t = absurd (false≢true (sym (none k) ∙ t))
      some_frame (Some f) g k t = let r = frame_of-found h.frames l f g in
          (f, g, (r.0, r.1, unfold Rattle.spec_cache.specs.Frame.holds_line in eqb-true f.line.0 l r.2))

  read_none : (k : ℕ) → read_in None k ≡ false
  unfolding read_in
  read_none k = refl

  modified_none : (k : ℕ) → modified_in None k ≡ false
  unfolding modified_in
  modified_none k = refl

  read_test : (d i : ℕ) (o : Option FrameView) → get_or h.frames i None ≡ o → reads_in h.config.dirs d o ≡ true →
      (f : FrameView) × (get_or h.frames i None ≡ Some f) × ((nat_eq d (f.line.0 % h.config.dirs) && not (nat_eq f.read.0 0)) ≡ true)
  unfolding reads_in
  read_test d i None q e = absurd (false≢true e)
  read_test d i (Some f) q e = (f, q, e)

  written_test : (d i x : ℕ) (o : Option FrameView) → get_or h.frames i None ≡ o → written_in h.config.dirs d o ≡ Some x →
      (f : FrameView) × (get_or h.frames i None ≡ Some f) × (f.line.0 ≡ x)
      × ((nat_eq d (f.line.0 % h.config.dirs) && not (nat_eq f.modified.0 0)) ≡ true)
  unfolding written_in
  written_test d i x None q e = absurd (let z : None ≡ Some x = e in cc)
  written_test d i x (Some f) q e = chosen (nat_eq d (f.line.0 % h.config.dirs) && not (nat_eq f.modified.0 0)) refl e
    where
      chosen : (b : Bool) → (nat_eq d (f.line.0 % h.config.dirs) && not (nat_eq f.modified.0 0)) ≡ b → cond b (Some f.line.0) None ≡ Some x
          →
          (g : FrameView) × (get_or h.frames i None ≡ Some g) × (g.line.0 ≡ x)
          × ((nat_eq d (g.line.0 % h.config.dirs) && not (nat_eq g.modified.0 0)) ≡ true)
      chosen true t k = (f, q, (let z : f.line.0 ≡ x = cc in z), t)
      chosen false t k = absurd (let z : None ≡ Some x = k in cc)

  module _ (d : ℕ) where
    pub reads_true : (i : ℕ) → reads_in h.config.dirs d (get_or h.frames i None) ≡ true → true ≡ reads_at h.config (maps h) d
    unfolding reads_at
    reads_true i e =
        let r = read_test d i (get_or h.frames i None) refl e in
        let f : FrameView = r.0 in
        let w : any_word (maps h).read f.line.0 ≡ not (nat_eq f.read.0 0) =
        read_words f.line.0 f (frame_of-way h s i f r.1) (frame_in i f r.1) in
        sym (any_below-at (λ l. nat_eq d (l % h.config.dirs) && any_word (maps h).read l) (lines h.config) f.line.0 (s.exists i f r.1)
        (ap (λ b. nat_eq d (f.line.0 % h.config.dirs) && b) w ∙ r.2))

    -- a line that is read has a way that is
    read_way : (l : ℕ) → (nat_eq d (l % h.config.dirs) && any_word (maps h).read l) ≡ true
        → (i : ℕ) × (reads_in h.config.dirs d (get_or h.frames i None) ≡ true)
    unfolding reads_in
    read_way l e =
        let p = and_parts (nat_eq d (l % h.config.dirs)) (any_word (maps h).read l) e in
        let r = way_of_line l read_in read_none (unfold maps in p.1) in
        let f : FrameView = r.0 in
        let w : any_word (maps h).read l ≡ not (nat_eq f.read.0 0) = read_words l f r.1 (frame_in r.2.0 f r.2.1) in (
          r.2.0,
          (rw r.2.1 (ap (λ x. nat_eq d (x % h.config.dirs) && not (nat_eq f.read.0 0)) r.2.2
              ∙ ap (λ b. nat_eq d (l % h.config.dirs) && b) (sym w) ∙ e)),
        )

    pub reads_false : ((i : ℕ) → reads_in h.config.dirs d (get_or h.frames i None) ≡ false) → false ≡ reads_at h.config (maps h) d
    unfolding reads_at
    reads_false none = elim (cases_Bool (any_below (λ l. nat_eq d (l % h.config.dirs) && any_word (maps h).read l) (lines h.config))) [
      | inr f ↦ sym f
      | inl t ↦ absurd (let r = any_below-found (λ l. nat_eq d (l % h.config.dirs) && any_word (maps h).read l) (lines h.config) t in
          let q = read_way r.0 r.2 in false≢true (sym (none q.0) ∙ q.1))
    ]

    -- a line that is written has a way that is, and the other way about
    written_way : (l : ℕ) → (nat_eq d (l % h.config.dirs) && is_modified (maps h) l) ≡ true
        → (i : ℕ) × (written_found h.config.dirs d h.frames i ≡ Some l)
    unfolding written_in is_modified
    written_way l e =
        let p = and_parts (nat_eq d (l % h.config.dirs)) (any_word (maps h).modified l) e in
        let r = way_of_line l modified_in modified_none (unfold maps in p.1) in
        let f : FrameView = r.0 in
        let w : any_word (maps h).modified l ≡ not (nat_eq f.modified.0 0) = modified_words l f r.1 (frame_in r.2.0 f r.2.1) in
        let t : (nat_eq d (f.line.0 % h.config.dirs) && not (nat_eq f.modified.0 0)) ≡ true =
        ap (λ x. nat_eq d (x % h.config.dirs) && not (nat_eq f.modified.0 0)) r.2.2 ∙ ap (λ b. nat_eq d (l % h.config.dirs) && b)
        (sym w) ∙ e in
        (r.2.0, (rw (r.2.1, t) (ap Some r.2.2)))

    written_line : (i l : ℕ) → written_found h.config.dirs d h.frames i ≡ Some l
        → (l < lines h.config) × ((nat_eq d (l % h.config.dirs) && is_modified (maps h) l) ≡ true)
    unfolding is_modified
    written_line i l e =
        let r = written_test d i l (get_or h.frames i None) refl e in
        let f : FrameView = r.0 in
        let w : any_word (maps h).modified f.line.0 ≡ not (nat_eq f.modified.0 0) =
        modified_words f.line.0 f (frame_of-way h s i f r.1) (frame_in i f r.1) in
        let b : f.line.0 < lines h.config = s.exists i f r.1 in
        let t : (nat_eq d (f.line.0 % h.config.dirs) && any_word (maps h).modified f.line.0) ≡ true =
        ap (λ b. nat_eq d (f.line.0 % h.config.dirs) && b) w ∙ r.3 in (
          subst (λ (x : ℕ). x < lines h.config) r.2 b,
          subst (λ (x : ℕ). (nat_eq d (x % h.config.dirs) && any_word (maps h).modified x) ≡ true) r.2 t,
        )

    -- a line that is collected has a frame
    pub collected_held : (xs : List ℕ) → Collects (written_found h.config.dirs d h.frames) xs → (l : ℕ) → Contains xs l
        → (maps h).held l ≡ true
    unfolding maps
    collected_held xs c l m =
        let o = c.only l m in
        let r = written_test d o.0 l (get_or h.frames o.0 None) refl o.1 in
        rw (subst (λ (x : ℕ). frame_of h.frames x ≡ Some r.0) r.2 (frame_of-way h s o.0 r.0 r.1)) refl

    -- the lines that are collected are those that are written
    pub collects_written : (xs : List ℕ) → Collects (written_found h.config.dirs d h.frames) xs → (ys : List ℕ) → Rises ys
        → ((l : ℕ) → (Contains ys l → Contains xs l) × (Contains xs l → Contains ys l)) → ys ≡ written_lines h.config (maps h) d
    unfolding written_lines
    collects_written xs c ys r same =
        let p : ℕ → Bool = λ l. nat_eq d (l % h.config.dirs) && is_modified (maps h) l in
        rising_same ys (those p (lines h.config)) r (those-rise p (lines h.config))
        (λ k m. let o = c.only k ((same k).0 m) in let q = written_line o.0 k o.1 in those-holds p (lines h.config) k q.0 q.1)
        (λ k m. let q = those-only p (lines h.config) k m in let o = written_way k q.1 in (same k).1 (c.each o.0 k o.1))

    pub reads_answer : (b : Bool) → MatchBool b ((i : ℕ) × (reads_in h.config.dirs d (get_or h.frames i None) ≡ true))
        ((i : ℕ) → reads_in h.config.dirs d (get_or h.frames i None) ≡ false) → b ≡ reads_at h.config (maps h) d
    reads_answer true m = reads_true m.0 m.1
    reads_answer false m = reads_false m

-- ---- the marks, line by line

module _ (h : Held) (s : IsHeld h) where
  -- a line with the mask of its modified words
  abbrev pub with_mask : ℕ → ℕ × ℕ
  with_mask l = (l, modified_mask (maps h) l)

  pub mark_here : (l : ℕ) (p : ℕ × FrameView) (w : IsWayOf h l p) → mark_of (p.1.line, p.1.modified) ≡ with_mask l
  mark_here l p w = rw (w.line, modified_mask-frame h l p.1 (found_line h s l p w) (frame_here h s l p w)) refl

  pub marks_more : (ls : List ℕ) (i : ℕ) (ms : List (LineAddr × Mask)) (m : LineAddr × Mask) → i < length ls →
      map mark_of ms ≡ map with_mask (take i ls) → mark_of m ≡ with_mask (get_or ls i 0)
      → map mark_of (ms ++ m ∷ []) ≡ map with_mask (take (i + 1) ls)
  marks_more ls i ms m b e q = rw (map-append, take_more ls i 0 b, map-append, e, q) refl

  pub marks_whole : (d : ℕ) (ls : List ℕ) (i : ℕ) (ms : List (LineAddr × Mask)) → length ls ≤ i → map mark_of ms ≡ map with_mask (take i ls)
      →
      ls ≡ written_lines h.config (maps h) d → map mark_of ms ≡ marks_by_home h.config (maps h) d
  unfolding marks_by_home
  marks_whole d ls i ms b e q = e ∙ ap (map with_mask) (take_all i ls b ∙ q)
