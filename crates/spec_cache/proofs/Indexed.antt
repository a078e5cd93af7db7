-- The index of marked frames is kept by each change.
use Rattle.std.proofs.Common.{ℕ, ◌<◌, ◌≡◌, Bool, true, false, not, ◌&&◌, inl, inr, [], length, get_or, set, replicate, ◌*◌, Option, Some}
use Rattle.std.proofs.Common.{None, nat_eq, refl, sym, ◌∙◌, ap, subst, Contains, length-set, get_or-set_same, get_or-set_other}
use Rattle.std.specs.Option.{option_map}
use Rattle.std.proofs.lemmas.Bool.{false≢true, cases_eq}
use Rattle.std.proofs.lemmas.List.{length-map, length-replicate}
use Rattle.tcc_base.specs.Settings.{Settings, IsAllowed}
use Rattle.spec_cache.specs.declared.frame.FrameView.{FrameView}
use Rattle.spec_cache.specs.declared.frame.Change.{Change}
use Rattle.spec_cache.specs.declared.frame.Change.TheVariants.{RollBack, ClearRead, Commit}
use Rattle.spec_cache.specs.Frame.{marked_in, rolled_back_frame, read_cleared_frame, committed_frame, committed_modified}
use Rattle.spec_cache.specs.Change.{changed_frame, all_changed}
use Rattle.spec_cache.specs.Held.{Held, FitsWay}
use Rattle.spec_cache.specs.Places.{Noted, IsIndexed}
use Rattle.spec_cache.proofs.HeldKept.{IsHeld-set}
use Rattle.spec_cache.proofs.MapsAll.{get_or-all}
use Rattle.spec_cache.proofs.Forms.{IsHeld-changed, IsHeld-empty, get_or-none}

unmarked_none : (o : Option FrameView) → o ≡ None → marked_in o ≡ false
unfolding marked_in
unmarked_none o e = rw e refl

-- no frame is marked after a roll back or a commit
rolled_back_unmarked : (o : Option FrameView) → marked_in (option_map rolled_back_frame o) ≡ false
unfolding marked_in rolled_back_frame
rolled_back_unmarked None = refl
rolled_back_unmarked (Some f) = refl

committed_modified_unmarked : (t : ℕ) (f : FrameView) (b : Bool) → nat_eq f.modified.0 0 ≡ b
    → marked_in (Some (committed_modified b t f)) ≡ false
unfolding marked_in committed_modified
committed_modified_unmarked t f true e = rw e refl
committed_modified_unmarked t f false e = refl

committed_unmarked : (t : ℕ) (o : Option FrameView) → marked_in (option_map (committed_frame t) o) ≡ false
unfolding committed_frame
committed_unmarked t None = unmarked_none None refl
committed_unmarked t (Some f) = committed_modified_unmarked t f (nat_eq f.modified.0 0) refl

still_marked : (a b : Bool) → not (true && b) ≡ true → not (a && b) ≡ true
still_marked true b e = e
still_marked false b e = refl

-- a frame that is marked once the read marks are cleared was marked before
cleared_was_marked : (o : Option FrameView) → marked_in (option_map read_cleared_frame o) ≡ true → marked_in o ≡ true
unfolding marked_in read_cleared_frame
cleared_was_marked None e = e
cleared_was_marked (Some f) e = still_marked (nat_eq f.read.0 0) (nat_eq f.modified.0 0) e

module _ (h : Held) (p : Noted) (k : IsIndexed h p) where
  size_changed : (c : Change) → p.size ≡ length (all_changed c h.frames)
  size_changed c = k.size ∙ sym (length-map h.frames (option_map (changed_frame c)))

  pub IsIndexed-rolled_back : IsIndexed (record h { frames = all_changed RollBack h.frames }) (record { size = p.size; places = [] })
  IsIndexed-rolled_back = record {
    in_order = IsHeld-changed RollBack h k.in_order;
    size = size_changed RollBack;
    marked =
        λ i e. absurd (false≢true (sym (rw (get_or-all rolled_back_frame h.frames i) (rolled_back_unmarked (get_or h.frames i None))) ∙ e));
  }

  pub IsIndexed-committed : (t : ℕ) → IsIndexed (record h { frames = all_changed (Commit (record { 0 = t })) h.frames })
      (record { size = p.size; places = [] })
  IsIndexed-committed t = record {
    in_order = IsHeld-changed (Commit (record { 0 = t })) h k.in_order;
    size = size_changed (Commit (record { 0 = t }));
    marked =
        λ i e. absurd (false≢true (sym (rw (get_or-all (committed_frame t) h.frames i) (committed_unmarked t (get_or h.frames i None)))
        ∙ e));
  }

  pub IsIndexed-read_cleared : IsIndexed (record h { frames = all_changed ClearRead h.frames }) p
  IsIndexed-read_cleared = record {
    in_order = IsHeld-changed ClearRead h k.in_order;
    size = size_changed ClearRead;
    marked =
        λ i e. k.marked i (cleared_was_marked (get_or h.frames i None) (sym (ap marked_in (get_or-all read_cleared_frame h.frames i)) ∙ e));
  }

  -- one way changed, and noted where its frame is marked then
  pub IsIndexed-set : (i : ℕ) (o : Option FrameView) → i < length h.frames → FitsWay h i o → (q : Noted) → q.size ≡ p.size →
      (marked_in o ≡ true → Contains q.places i) → ((j : ℕ) → Contains p.places j → Contains q.places j)
      → IsIndexed (record h { frames = set h.frames i o }) q
  IsIndexed-set i o inside fits q size noted keeps = record {
    in_order = IsHeld-set h k.in_order i o inside fits;
    size = size ∙ k.size ∙ sym (length-set h.frames i o);
    marked = λ j e. elim (cases_eq j i) [
      | inl r ↦ subst (λ (x : ℕ). Contains q.places x) (sym r)
          (noted (sym (ap marked_in (ap (λ x. get_or (set h.frames i o) x None) r ∙ get_or-set_same h.frames i o None inside)) ∙ e))
      | inr n ↦ keeps j (k.marked j (sym (ap marked_in (get_or-set_other h.frames i j o None n)) ∙ e))
    ];
  }

pub IsIndexed-empty : (s : Settings) → IsAllowed s
    → IsIndexed (record { config = s; frames = replicate (s.sets * s.ways) None }) (record { size = s.sets * s.ways; places = [] })
IsIndexed-empty s a = record {
  in_order = IsHeld-empty s a;
  size = sym (length-replicate (s.sets * s.ways) None);
  marked =
      λ i e. absurd (false≢true (sym (unmarked_none (get_or (replicate (s.sets * s.ways) None) i None) (get_or-none (s.sets * s.ways) i))
      ∙ e));
}
