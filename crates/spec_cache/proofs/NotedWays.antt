-- Where all marked frames stand at noted places, to change or to search these places is to change or to search all.
use Rattle.std.proofs.Common.{ℕ, suc, zero, ◌+◌, ◌%◌, ◌<◌, ◌≤◌, ◌≡◌, Bool, true, false, not, ◌&&◌, ◌⊎◌, inl, inr, List, [], ◌∷◌, length}
use Rattle.std.proofs.Common.{get_or, set, Option, Some, None, nat_eq, bit_xor, refl, sym, ◌∙◌, ap, subst, arith, Contains, get_or-set_same}
use Rattle.std.proofs.Common.{get_or-set_other}
use Rattle.std.specs.Option.{option_map}
use Rattle.std.proofs.lemmas.Bool.{false≢true, cases_eq, cases_Bool, and_parts, eqb-true}
use Rattle.std.proofs.lemmas.Nat.{and_comm, xor_comm}
use Rattle.rules_maps.specs.Masks.{minus}
use Rattle.spec_cache.specs.declared.frame.FrameView.{FrameView}
use Rattle.spec_cache.specs.declared.frame.Change.{Change}
use Rattle.spec_cache.specs.declared.frame.Change.TheVariants.{RollBack, ClearRead, Commit}
use Rattle.spec_cache.specs.Frame.{marked_in, rolled_back_frame, read_cleared_frame, committed_frame, committed_modified}
use Rattle.spec_cache.specs.Change.{changed_frame, all_changed}
use Rattle.spec_cache.specs.Home.{written_in, written_found}
use Rattle.spec_cache.proofs.MapsAll.{all_of}

-- ---- the place of a noted one

same_default : (xs : List ℕ) (k a b : ℕ) → k < length xs → get_or xs k a ≡ get_or xs k b
same_default [] k a b h = absurd (omega arith)
same_default (x ∷ xs) zero a b h = refl
same_default (x ∷ xs) (suc k) a b h = same_default xs k a b (omega arith)

pub place_in : (ps : List ℕ) (i : ℕ) → Contains ps i → (j : ℕ) × (j < length ps) × (get_or ps j 0 ≡ i)
place_in ps i c = (c.0, c.1, same_default ps c.0 0 i c.1 ∙ c.2)

-- ---- a frame that is read or written is marked

marked_by : (a b : Bool) → (not a ≡ true) ⊎ (not b ≡ true) → not (a && b) ≡ true
marked_by true true (inl e) = e
marked_by true true (inr e) = e
marked_by true false e = refl
marked_by false b e = refl

written_marked : (dirs d x : ℕ) (o : Option FrameView) → written_in dirs d o ≡ Some x → marked_in o ≡ true
unfolding written_in marked_in
written_marked dirs d x None e = absurd (let z : None ≡ Some x = e in cc)
written_marked dirs d x (Some f) e = elim (cases_Bool (nat_eq d (f.line.0 % dirs) && not (nat_eq f.modified.0 0))) [
  | inl t ↦ marked_by (nat_eq f.read.0 0) (nat_eq f.modified.0 0)
      (inr (and_parts (nat_eq d (f.line.0 % dirs)) (not (nat_eq f.modified.0 0)) t).1)
  | inr n ↦ absurd (let z : None ≡ Some x = rw n at e in cc)
]

module _ (dirs d : ℕ) (fs : List (Option FrameView)) (ps : List ℕ) (marked : (i : ℕ) → marked_in (get_or fs i None) ≡ true → Contains ps i)
    (n : ℕ) (whole : length ps ≤ n) where
  pub each_written : (xs : List ℕ) → ((j x : ℕ) → j < n → written_found dirs d fs (get_or ps j 0) ≡ Some x → Contains xs x) → (i x : ℕ)
      → written_found dirs d fs i ≡ Some x → Contains xs x
  each_written xs each i x e =
      let p = place_in ps i (marked i (written_marked dirs d x (get_or fs i None) e)) in
      each p.0 x (let h : p.0 < length ps = p.1 in omega arith) (ap (written_found dirs d fs) p.2 ∙ e)

-- ---- a change of all frames does nothing to those that aren't marked, and the same when it is done twice

minus-zero : (v : ℕ) → minus v 0 ≡ v
minus-zero v = ap (bit_xor v) (and_comm v 0) ∙ xor_comm v 0

committed_modified-twice : (t : ℕ) (f : FrameView) (b : Bool) → nat_eq f.modified.0 0 ≡ b
    → committed_frame t (committed_modified b t f) ≡ committed_modified b t f
unfolding committed_frame committed_modified
committed_modified-twice t f true e = rw e refl
committed_modified-twice t f false e = refl

changed_frame-twice : (c : Change) (f : FrameView) → changed_frame c (changed_frame c f) ≡ changed_frame c f
unfolding rolled_back_frame read_cleared_frame
changed_frame-twice RollBack f = rw (minus-zero (minus f.valid.0 f.modified.0)) refl
changed_frame-twice ClearRead f = refl
changed_frame-twice (Commit t) f = unfold committed_frame in committed_modified-twice t.0 f (nat_eq f.modified.0 0) refl

twice : (c : Change) (o : Option FrameView) → option_map (changed_frame c) (option_map (changed_frame c) o) ≡ option_map (changed_frame c) o
twice c None = refl
twice c (Some f) = ap Some (changed_frame-twice c f)

unmarked_parts : (a b : Bool) → not (a && b) ≡ false → (a ≡ true) × (b ≡ true)
unmarked_parts true true e = (refl, refl)
unmarked_parts true false e = absurd (false≢true (sym e))
unmarked_parts false b e = absurd (false≢true (sym e))

unmarked_frame : (c : Change) (f : FrameView) → f.read.0 ≡ 0 → f.modified.0 ≡ 0 → changed_frame c f ≡ f
unfolding rolled_back_frame read_cleared_frame committed_frame committed_modified
unmarked_frame RollBack f r m = rw (m, minus-zero f.valid.0, ← r) refl
unmarked_frame ClearRead f r m = rw (← r) refl
unmarked_frame (Commit t) f r m = rw m (rw (← r) refl)

unmarked : (c : Change) (o : Option FrameView) → marked_in o ≡ false → option_map (changed_frame c) o ≡ o
unfolding marked_in
unmarked c None e = refl
unmarked c (Some f) e = let p = unmarked_parts (nat_eq f.read.0 0) (nat_eq f.modified.0 0) e in
    ap Some (unmarked_frame c f (eqb-true f.read.0 0 p.0) (eqb-true f.modified.0 0 p.1))

-- ---- one place changed

abbrev pub Either : Change → List (Option FrameView) → List (Option FrameView) → ℕ → Type 0
Either c old new i = (get_or new i None ≡ get_or old i None) ⊎ (get_or new i None ≡ option_map (changed_frame c) (get_or old i None))

abbrev pub IsDone : Change → List (Option FrameView) → List (Option FrameView) → ℕ → Type 0
IsDone c old new i = get_or new i None ≡ option_map (changed_frame c) (get_or old i None)

module _ (c : Change) (old now : List (Option FrameView)) (at : ℕ) (inside : at < length now) (either : (i : ℕ) → Either c old now i)
    (x : Option FrameView) (e : x ≡ option_map (changed_frame c) (get_or now at None)) where
  here : IsDone c old (set now at x) at
  here = get_or-set_same now at x None inside ∙ e ∙ elim (either at) [
    | inl q ↦ ap (option_map (changed_frame c)) q
    | inr q ↦ ap (option_map (changed_frame c)) q ∙ twice c (get_or old at None)
  ]

  pub either_then : (i : ℕ) → Either c old (set now at x) i
  either_then i = elim (cases_eq i at) [
    | inl q ↦ inr (subst (λ (k : ℕ). IsDone c old (set now at x) k) (sym q) here)
    | inr n ↦ elim (either i) [
      | inl p ↦ inl (get_or-set_other now at i x None n ∙ p)
      | inr p ↦ inr (get_or-set_other now at i x None n ∙ p)
    ]
  ]

  pub done_then : (ps : List ℕ) (n : ℕ) → get_or ps n 0 ≡ at → ((j : ℕ) → j < n → IsDone c old now (get_or ps j 0)) → (j : ℕ) → j < n + 1
      → IsDone c old (set now at x) (get_or ps j 0)
  done_then ps n p done j h = elim (cases_eq (get_or ps j 0) at) [
    | inl q ↦ subst (λ (k : ℕ). IsDone c old (set now at x) k) (sym q) here
    | inr m ↦ get_or-set_other now at (get_or ps j 0) x None m
        ∙ done j (elim (cases_eq j n) [ inl q ↦ absurd (m (ap (λ k. get_or ps k 0) q ∙ p)) | inr k ↦ omega arith ])
  ]

-- all noted places changed
pub all_done : (c : Change) (old new : List (Option FrameView)) (ps : List ℕ) (n : ℕ) → length new ≡ length old → length ps ≤ n
    → ((i : ℕ) → marked_in (get_or old i None) ≡ true → Contains ps i) →
    ((i : ℕ) → Either c old new i) → ((j : ℕ) → j < n → IsDone c old new (get_or ps j 0)) → new ≡ all_changed c old
all_done c old new ps n l whole marked either done =
    all_of (changed_frame c) old new l (λ i h. elim (cases_Bool (marked_in (get_or old i None))) [
      | inl t ↦ (let p = place_in ps i (marked i t) in
          subst (λ (k : ℕ). IsDone c old new k) p.2 (done p.0 (let b : p.0 < length ps = p.1 in omega arith)))
      | inr f ↦ elim (either i) [
        | inl q ↦ q ∙ sym (unmarked c (get_or old i None) f)
        | inr q ↦ q
      ]
    ])
