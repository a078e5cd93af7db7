-- What each change of a frame does to each of its words, and that it leaves a frame.
use Rattle.std.proofs.Common.{ℕ, ◌<◌, ◌≡◌, Bool, true, false, not, cond, ◌&&◌, ◌||◌, List, length, get_or, unwrap_or, Some, None, nat_eq}
use Rattle.std.proofs.Common.{refl, sym, ap, get_or-set_same, get_or-set_other}
use Rattle.std.proofs.lemmas.Bool.{eqb-true, eqb-false}
use Rattle.base_lemmas.proofs.Lemmas.{get_or-eight, has-full, has-zero}
use Rattle.rules_maps.specs.Masks.{has}
use Rattle.spec_cache.specs.declared.frame.FrameView.{FrameView}
use Rattle.spec_cache.specs.Frame.{value_in, read_in, modified_in, dirty_in, IsFrame, marked_frame, stored_frame, filled_up, filled_frame}
use Rattle.spec_cache.specs.Frame.{invalidated_frame, cleaned_frame, dropped_frame, rolled_back_frame, read_cleared_frame, committed_frame}
use Rattle.spec_cache.specs.Frame.{committed_modified}
use Rattle.spec_cache.proofs.MaskLaws.{has-join, has-minus, has-pow}

-- a test that chooses between a value and none
pub minus_some : {A : Type 0} (a b : Bool) (x : A) → cond (a && not b) (Some x) None ≡ cond b None (cond a (Some x) None)
minus_some true true x = refl
minus_some true false x = refl
minus_some false true x = refl
minus_some false false x = refl

-- ---- value_in, read_in, modified_in, dirty_in of each changed frame

pub value_in-invalidated : (m : ℕ) (f : FrameView) (k : ℕ) →
    value_in (Some (invalidated_frame m f)) k ≡ cond (has m k && not (modified_in (Some f) k)) None (value_in (Some f) k)
unfolding value_in invalidated_frame modified_in
value_in-invalidated m f k =
    rw (has-minus, has-minus) (minus_some (has f.valid.0 k) (has m k && not (has f.modified.0 k)) (get_or f.words k 0))

pub dirty_in-invalidated : (m : ℕ) (f : FrameView) (k : ℕ) →
    dirty_in (Some (invalidated_frame m f)) k ≡ cond (has m k && not (modified_in (Some f) k)) None (dirty_in (Some f) k)
unfolding dirty_in invalidated_frame modified_in
dirty_in-invalidated m f k = rw (has-minus, has-minus) (minus_some (has f.dirty.0 k) (has m k && not (has f.modified.0 k)) f.tag.0)

flip_some : (a b c : Bool) → (a || (b && not c)) ≡ cond b (a || not c) a
flip_some true true true = refl
flip_some true true false = refl
flip_some true false c = refl
flip_some false true true = refl
flip_some false true false = refl
flip_some false false c = refl

pub read_in-marked : (j : ℕ) (f : FrameView) (k : ℕ) →
    read_in (Some (marked_frame j f)) k ≡ cond (nat_eq j k) (read_in (Some f) k || not (modified_in (Some f) k)) (read_in (Some f) k)
unfolding read_in marked_frame modified_in
read_in-marked j f k = rw (has-join, has-minus, has-pow) (flip_some (has f.read.0 k) (nat_eq j k) (has f.modified.0 k))

value_stored : (a b : Bool) (x y z : ℕ) → (b ≡ true → x ≡ y) → (b ≡ false → x ≡ z)
    → cond (a || b) (Some x) None ≡ cond b (Some y) (cond a (Some z) None)
value_stored true true x y z p q = ap Some (p refl)
value_stored true false x y z p q = ap Some (q refl)
value_stored false true x y z p q = ap Some (p refl)
value_stored false false x y z p q = refl

pub value_in-stored : (j v : ℕ) (also : Bool) (f : FrameView) (k : ℕ) → j < length f.words →
    value_in (Some (stored_frame j v also f)) k ≡ cond (nat_eq j k) (Some v) (value_in (Some f) k)
unfolding value_in stored_frame
value_in-stored j v also f k inside =
    rw (has-join, has-pow) (value_stored (has f.valid.0 k) (nat_eq j k) _ v (get_or f.words k 0)
    (λ e. let s : j ≡ k = eqb-true j k e in rw (← s) (get_or-set_same f.words j v 0 inside))
    (λ e. get_or-set_other f.words j k v 0 (λ s. eqb-false j k e (sym s))))

read_stored : (also a b : Bool) → cond also (a || b) a ≡ cond b (also || a) a
read_stored true true true = refl
read_stored true true false = refl
read_stored true false true = refl
read_stored true false false = refl
read_stored false true true = refl
read_stored false true false = refl
read_stored false false true = refl
read_stored false false false = refl

has_cond : (also : Bool) (m n k : ℕ) → has (cond also m n) k ≡ cond also (has m k) (has n k)
has_cond true m n k = refl
has_cond false m n k = refl

pub read_in-stored : (j v : ℕ) (also : Bool) (f : FrameView) (k : ℕ) →
    read_in (Some (stored_frame j v also f)) k ≡ cond (nat_eq j k) (also || read_in (Some f) k) (read_in (Some f) k)
unfolding read_in stored_frame
read_in-stored j v also f k =
    rw (has_cond, has-join, has-pow) (read_stored also (has f.read.0 k) (nat_eq j k))

or_true : (a b : Bool) → (a || b) ≡ cond b true a
or_true true true = refl
or_true true false = refl
or_true false true = refl
or_true false false = refl

pub modified_in-stored : (j v : ℕ) (also : Bool) (f : FrameView) (k : ℕ) →
    modified_in (Some (stored_frame j v also f)) k ≡ cond (nat_eq j k) true (modified_in (Some f) k)
unfolding modified_in stored_frame
modified_in-stored j v also f k = rw (has-join, has-pow) (or_true (has f.modified.0 k) (nat_eq j k))

pub dirty_in-stored : (j v : ℕ) (also : Bool) (f : FrameView) (k : ℕ) → dirty_in (Some (stored_frame j v also f)) k ≡ None
unfolding dirty_in stored_frame
dirty_in-stored j v also f k = rw has-zero refl

pub dirty_in-cleaned : (f : FrameView) (k : ℕ) → dirty_in (Some (cleaned_frame f)) k ≡ None
unfolding dirty_in cleaned_frame
dirty_in-cleaned f k = rw has-zero refl

filled_value : (b : Bool) (x y : ℕ) → cond b x y ≡ unwrap_or (cond b (Some x) None) y
filled_value true x y = refl
filled_value false x y = refl

pub value_in-filled : (ws : List ℕ) (f : FrameView) (k : ℕ) → k < 8 →
    value_in (Some (filled_frame ws f)) k ≡ Some (unwrap_or (value_in (Some f) k) (get_or ws k 0))
unfolding value_in filled_frame filled_up
value_in-filled ws f k h =
    rw (has-full k h, get_or-eight _ k 0 h) (ap Some (filled_value (has f.valid.0 k) (get_or f.words k 0) (get_or ws k 0)))

pub value_in-dropped : (m : ℕ) (f : FrameView) (k : ℕ) →
    value_in (Some (dropped_frame m f)) k ≡ cond (has m k) None (value_in (Some f) k)
unfolding value_in dropped_frame
value_in-dropped m f k = rw has-minus (minus_some (has f.valid.0 k) (has m k) (get_or f.words k 0))

pub dirty_in-dropped : (m : ℕ) (f : FrameView) (k : ℕ) →
    dirty_in (Some (dropped_frame m f)) k ≡ cond (has m k) None (dirty_in (Some f) k)
unfolding dirty_in dropped_frame
dirty_in-dropped m f k = rw has-minus (minus_some (has f.dirty.0 k) (has m k) f.tag.0)

and_not : (a b : Bool) → (a && not b) ≡ cond b false a
and_not true true = refl
and_not true false = refl
and_not false true = refl
and_not false false = refl

pub modified_in-dropped : (m : ℕ) (f : FrameView) (k : ℕ) →
    modified_in (Some (dropped_frame m f)) k ≡ cond (has m k) false (modified_in (Some f) k)
unfolding modified_in dropped_frame
modified_in-dropped m f k = rw has-minus (and_not (has f.modified.0 k) (has m k))

pub value_in-rolled_back : (f : FrameView) (k : ℕ) →
    value_in (Some (rolled_back_frame f)) k ≡ cond (modified_in (Some f) k) None (value_in (Some f) k)
unfolding value_in rolled_back_frame modified_in
value_in-rolled_back f k = rw has-minus (minus_some (has f.valid.0 k) (has f.modified.0 k) (get_or f.words k 0))

pub read_in-rolled_back : (f : FrameView) (k : ℕ) → read_in (Some (rolled_back_frame f)) k ≡ false
unfolding read_in rolled_back_frame
read_in-rolled_back f k = has-zero k

pub modified_in-rolled_back : (f : FrameView) (k : ℕ) → modified_in (Some (rolled_back_frame f)) k ≡ false
unfolding modified_in rolled_back_frame
modified_in-rolled_back f k = has-zero k

pub read_in-read_cleared : (f : FrameView) (k : ℕ) → read_in (Some (read_cleared_frame f)) k ≡ false
unfolding read_in read_cleared_frame
read_in-read_cleared f k = has-zero k

-- a mask with no word
none_of : (m k : ℕ) → m ≡ 0 → has m k ≡ false
none_of m k e = rw e (has-zero k)

module _ (t : ℕ) (f : FrameView) (k : ℕ) where
  pub value_in-committed_modified : (b : Bool) → value_in (Some (committed_modified b t f)) k ≡ value_in (Some f) k
  unfolding value_in committed_modified
  value_in-committed_modified true = refl
  value_in-committed_modified false = refl

  pub read_in-committed_modified : (b : Bool) → read_in (Some (committed_modified b t f)) k ≡ false
  unfolding read_in committed_modified
  read_in-committed_modified true = has-zero k
  read_in-committed_modified false = has-zero k

  pub modified_in-committed_modified : (b : Bool) → nat_eq f.modified.0 0 ≡ b → modified_in (Some (committed_modified b t f)) k ≡ false
  unfolding modified_in committed_modified
  modified_in-committed_modified true e = none_of f.modified.0 k (eqb-true f.modified.0 0 e)
  modified_in-committed_modified false e = has-zero k

  pub dirty_in-committed_modified : (b : Bool) → nat_eq f.modified.0 0 ≡ b → IsFrame f →
      dirty_in (Some (committed_modified b t f)) k ≡ cond (modified_in (Some f) k) (Some t) (dirty_in (Some f) k)
  unfolding dirty_in modified_in committed_modified
  dirty_in-committed_modified true e s = rw (none_of f.modified.0 k (eqb-true f.modified.0 0 e)) refl
  dirty_in-committed_modified false e s = rw (none_of f.dirty.0 k (s.either (eqb-false f.modified.0 0 e))) refl

pub value_in-committed : (t : ℕ) (f : FrameView) (k : ℕ) → value_in (Some (committed_frame t f)) k ≡ value_in (Some f) k
unfolding committed_frame
value_in-committed t f k = value_in-committed_modified t f k (nat_eq f.modified.0 0)

pub read_in-committed : (t : ℕ) (f : FrameView) (k : ℕ) → read_in (Some (committed_frame t f)) k ≡ false
unfolding committed_frame
read_in-committed t f k = read_in-committed_modified t f k (nat_eq f.modified.0 0)

pub modified_in-committed : (t : ℕ) (f : FrameView) (k : ℕ) → modified_in (Some (committed_frame t f)) k ≡ false
unfolding committed_frame
modified_in-committed t f k = modified_in-committed_modified t f k (nat_eq f.modified.0 0) refl

pub dirty_in-committed : (t : ℕ) (f : FrameView) (k : ℕ) → IsFrame f →
    dirty_in (Some (committed_frame t f)) k ≡ cond (modified_in (Some f) k) (Some t) (dirty_in (Some f) k)
unfolding committed_frame
dirty_in-committed t f k s = dirty_in-committed_modified t f k (nat_eq f.modified.0 0) refl s
