use Rattle.std.proofs.Common.{Some, ◌≡◌, ◌≤◌, ◌^◌, ◌==◌, ℕ, Bool, true, false, cond, refl, ap, arith}
use Rattle.std.proofs.lemmas.Bool.Decides.{nat_tests}
use Rattle.std.proofs.lemmas.Nat.{le_or_l}
use Rattle.rules_maps.specs.Masks.{join}
use Rattle.spec_cache.specs.declared.frame.FrameView.{FrameView}
use Rattle.spec_cache.specs.Frame.{stored_frame}
use Rattle.spec_cache.specs.Tracked.{IsAlike}
use Rattle.spec_cache.proofs.in_place.store_into.Goals as goal

more : (m n : ℕ) → m ≤ n → (m == 0) ≡ false → (m == 0) ≡ (n == 0)
more m n l e = grind (arith, nat_tests)

joined : (m n : ℕ) → (m == 0) ≡ false → (m == 0) ≡ (join m n == 0)
joined m n e = more m _ (le_or_l m n) e

read_too : (also : Bool) (m n : ℕ) → (also ≡ true → (m == 0) ≡ false) → (m == 0) ≡ (cond also (join m n) m == 0)
read_too true m n e = joined m n (e refl)
read_too false m n e = refl

alike_stored : (f : FrameView) (k x : ℕ) (also : Bool) → f.dirty.0 ≡ 0 → (f.modified.0 == 0) ≡ false
    → (also ≡ true → (f.read.0 == 0) ≡ false) → IsAlike f (stored_frame k x also f)
unfolding stored_frame
alike_stored f k x also d m r = record {
  line = refl;
  read = read_too also f.read.0 (2 ^ k) r;
  modified = joined f.modified.0 (2 ^ k) m;
  dirty = rw d refl;
}

pub returns : goal.returns
returns c =
    let f = c.args.frame.now in
    let m : (f.modified.0 == 0) ≡ false = (let z = c.if-frame-eq0.false in grind (arith, nat_tests)) in
    let r : c.args.also ≡ true → (f.read.0 == 0) ≡ false = c.may_be_marked.ensures c.if-not-may_be_marked.false in
    record {
      line = c.if-frame-line.false;
      clean = c.if-frame-ne0.false;
      modified = m;
      alike = alike_stored f c.args.k c.args.value c.args.also c.if-frame-ne0.false m r;
      is = ap Some c.store.ensures.frame;
    }
