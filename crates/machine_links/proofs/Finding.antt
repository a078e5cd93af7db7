-- The messages in flight on a link by rising number: what is found at a number, and after a change of the list.
use Rattle.std.proofs.Common.{◌≡◌, ℕ, suc, zero, ◌<◌, ◌≤◌, ◌≢◌, eqb, ⊎_elim, inl, inr, List, [], ◌∷◌, ◌++◌, length, get_or, set, Option}
use Rattle.std.proofs.Common.{Some, None, IsSome, if◌then◌else◌, refl, ap, sym, subst, ◌∙◌, arith}
use Rattle.std.specs.Prelude.{IfSome, IfNone, Result, Ok, Err}
use Rattle.std.specs.Result.{result_ok}
use Rattle.std.specs.List.{remove}
use Rattle.std.specs.List.Sorted.{IsSearchInRange, IsBinarySearchResult, IsNonDecreasingBy}
use Rattle.std.specs.Ordering.{nat_cmp, ordering_index}
use Rattle.std.proofs.lemmas.Bool.{cases_eq, cases_lt, false≢true, eq-eqb, ne_eqb}
use Rattle.std.proofs.lemmas.Bool.Decides.{nat_tests}
use Rattle.std.proofs.lemmas.Cmp.{ranked}
use Rattle.machine_links.specs.declared.lane.Waiting.{Waiting}
use Rattle.machine_links.specs.Laid.{held_at, Rises}

pub rises-le : (low high : ℕ) (ws : List Waiting) → Rises low high ws → low ≤ high
rises-le low high [] r = r
rises-le low high (w ∷ ws) r = omega (arith, r.0, rises-le (suc w.seq) high ws r.1)

pub rises-lower : (lower low high : ℕ) (ws : List Waiting) → lower ≤ low → Rises low high ws → Rises lower high ws
rises-lower lower low high [] h r = omega arith
rises-lower lower low high (w ∷ ws) h r = (omega (arith, r.0), r.1)

pub rises-get : (low high : ℕ) (ws : List Waiting) (i : ℕ) (d : Waiting) → Rises low high ws → i < length ws
    → (low ≤ (get_or ws i d).seq) × ((get_or ws i d).seq < high)
rises-get low high [] i d r h = absurd (omega arith)
rises-get low high (w ∷ ws) zero d r h = (r.0, rises-le (suc w.seq) high ws r.1)
rises-get low high (w ∷ ws) (suc i) d r h = let t = rises-get (suc w.seq) high ws i d r.1 (omega arith) in (omega (arith, r.0, t.0), t.1)

-- the numbers rise from place to place
pub rises-order : (low high : ℕ) (ws : List Waiting) (i j : ℕ) (d : Waiting) → Rises low high ws → i ≤ j → j < length ws
    → (get_or ws i d).seq ≤ (get_or ws j d).seq
rises-order low high [] i j d r e h = absurd (omega arith)
rises-order low high (w ∷ ws) zero zero d r e h = omega arith
rises-order low high (w ∷ ws) zero (suc j) d r e h = omega (arith, (rises-get (suc w.seq) high ws j d r.1 (omega arith)).0)
rises-order low high (w ∷ ws) (suc i) zero d r e h = absurd (omega arith)
rises-order low high (w ∷ ws) (suc i) (suc j) d r e h = rises-order (suc w.seq) high ws i j d r.1 (omega arith) (omega arith)

pub held-low : (low high : ℕ) (ws : List Waiting) (k : ℕ) → Rises low high ws → k < low → held_at ws k ≡ None
unfolding held_at
held-low low high [] k r h = refl
held-low low high (w ∷ ws) k r h =
    let le : low ≤ w.seq = r.0 in rw (ne_eqb w.seq k (λ e. omega arith)) (held-low (suc w.seq) high ws k r.1 (omega arith))

pub held-high : (low high : ℕ) (ws : List Waiting) (k : ℕ) → Rises low high ws → high ≤ k → held_at ws k ≡ None
unfolding held_at
held-high low high [] k r h = refl
held-high low high (w ∷ ws) k r h =
    let le : suc w.seq ≤ high = rises-le (suc w.seq) high ws r.1 in
    rw (ne_eqb w.seq k (λ e. omega arith)) (held-high (suc w.seq) high ws k r.1 h)

-- what stands at a place is found by its number
pub held-get : (low high : ℕ) (ws : List Waiting) (i : ℕ) (d : Waiting) → Rises low high ws → i < length ws
    → held_at ws (get_or ws i d).seq ≡ Some (get_or ws i d).held
unfolding held_at
held-get low high [] i d r h = absurd (omega arith)
held-get low high (w ∷ ws) zero d r h = rw (eq-eqb w.seq w.seq refl) refl
held-get low high (w ∷ ws) (suc i) d r h =
    let lt : suc w.seq ≤ (get_or ws i d).seq = (rises-get (suc w.seq) high ws i d r.1 (omega arith)).0 in
    rw (ne_eqb w.seq (get_or ws i d).seq (λ e. omega arith)) (held-get (suc w.seq) high ws i d r.1 (omega arith))

pub held-absent : (ws : List Waiting) (k : ℕ) → ((i : ℕ) (d : Waiting) → i < length ws → (get_or ws i d).seq ≢ k) → held_at ws k ≡ None
unfolding held_at
held-absent [] k h = refl
held-absent (w ∷ ws) k h = rw (ne_eqb w.seq k (h 0 w (omega arith))) (held-absent ws k (λ i d l. h (suc i) d (omega arith)))

-- one message taken out
pub rises-remove : (low high : ℕ) (ws : List Waiting) (i : ℕ) → Rises low high ws → i < length ws → Rises low high (remove ws i)
rises-remove low high [] i r h = absurd (omega arith)
rises-remove low high (w ∷ ws) zero r h = rises-lower low (suc w.seq) high ws (omega (arith, r.0)) r.1
rises-remove low high (w ∷ ws) (suc i) r h = (r.0, rises-remove (suc w.seq) high ws i r.1 (omega arith))

pub held-remove_own : (low high : ℕ) (ws : List Waiting) (i : ℕ) (d : Waiting) → Rises low high ws → i < length ws
    → held_at (remove ws i) (get_or ws i d).seq ≡ None
unfolding held_at
held-remove_own low high [] i d r h = absurd (omega arith)
held-remove_own low high (w ∷ ws) zero d r h = held-low (suc w.seq) high ws w.seq r.1 (omega arith)
held-remove_own low high (w ∷ ws) (suc i) d r h =
    let lt : suc w.seq ≤ (get_or ws i d).seq = (rises-get (suc w.seq) high ws i d r.1 (omega arith)).0 in
    rw (ne_eqb w.seq (get_or ws i d).seq (λ e. omega arith)) (held-remove_own (suc w.seq) high ws i d r.1 (omega arith))

pub held-remove_other : (ws : List Waiting) (i : ℕ) (d : Waiting) (q : ℕ) → i < length ws → q ≢ (get_or ws i d).seq
    → held_at (remove ws i) q ≡ held_at ws q
unfolding held_at
held-remove_other [] i d q h ne = absurd (omega arith)
held-remove_other (w ∷ ws) zero d q h ne = rw (ne_eqb w.seq q (λ e. ne (sym e))) refl
held-remove_other (w ∷ ws) (suc i) d q h ne = ap (λ o. if eqb w.seq q then Some w.held else o) (held-remove_other ws i d q (omega arith) ne)

-- one message changed, with the same number
pub rises-set : (low high : ℕ) (ws : List Waiting) (i : ℕ) (d v : Waiting) → v.seq ≡ (get_or ws i d).seq → i < length ws → Rises low high ws
    → Rises low high (set ws i v)
rises-set low high [] i d v e h r = r
rises-set low high (w ∷ ws) zero d v e h r = (omega (arith, r.0), subst (λ k. Rises (suc k) high ws) (sym e) r.1)
rises-set low high (w ∷ ws) (suc i) d v e h r = (r.0, rises-set (suc w.seq) high ws i d v e (omega arith) r.1)

pub held-set_own : (low high : ℕ) (ws : List Waiting) (i : ℕ) (d v : Waiting) → Rises low high ws → i < length ws
    → v.seq ≡ (get_or ws i d).seq → held_at (set ws i v) v.seq ≡ Some v.held
unfolding held_at
held-set_own low high [] i d v r h e = absurd (omega arith)
held-set_own low high (w ∷ ws) zero d v r h e = rw (eq-eqb v.seq v.seq refl) refl
held-set_own low high (w ∷ ws) (suc i) d v r h e =
    let lt : suc w.seq ≤ (get_or ws i d).seq = (rises-get (suc w.seq) high ws i d r.1 (omega arith)).0 in
    rw (ne_eqb w.seq v.seq (λ f. omega arith)) (held-set_own (suc w.seq) high ws i d v r.1 (omega arith) e)

pub held-set_other : (ws : List Waiting) (i : ℕ) (d v : Waiting) (q : ℕ) → i < length ws → v.seq ≡ (get_or ws i d).seq → q ≢ v.seq
    → held_at (set ws i v) q ≡ held_at ws q
unfolding held_at
held-set_other [] i d v q h e ne = absurd (omega arith)
held-set_other (w ∷ ws) zero d v q h e ne = rw (ne_eqb v.seq q (λ f. ne (sym f)), ne_eqb w.seq q (λ f. ne (sym f ∙ sym e))) refl
held-set_other (w ∷ ws) (suc i) d v q h e ne =
    ap (λ o. if eqb w.seq q then Some w.held else o) (held-set_other ws i d v q (omega arith) e ne)

-- one more message behind the others
pub rises-push : (low high : ℕ) (ws : List Waiting) (w : Waiting) → w.seq ≡ high → Rises low high ws → Rises low (suc high) (ws ++ w ∷ [])
rises-push low high [] w e r = (omega arith, omega arith)
rises-push low high (v ∷ ws) w e r = (r.0, rises-push (suc v.seq) high ws w e r.1)

pub held-push_own : (low high : ℕ) (ws : List Waiting) (w : Waiting) → w.seq ≡ high → Rises low high ws
    → held_at (ws ++ w ∷ []) high ≡ Some w.held
unfolding held_at
held-push_own low high [] w e r = rw (eq-eqb w.seq high e) refl
held-push_own low high (v ∷ ws) w e r =
    let le : suc v.seq ≤ high = rises-le (suc v.seq) high ws r.1 in
    rw (ne_eqb v.seq high (λ f. omega arith)) (held-push_own (suc v.seq) high ws w e r.1)

pub held-push_other : (ws : List Waiting) (w : Waiting) (q : ℕ) → q ≢ w.seq → held_at (ws ++ w ∷ []) q ≡ held_at ws q
unfolding held_at
held-push_other [] w q ne = rw (ne_eqb w.seq q (λ f. ne (sym f))) refl
held-push_other (v ∷ ws) w q ne = ap (λ o. if eqb v.seq q then Some v.held else o) (held-push_other ws w q ne)

-- the last message taken back
pub rises-front : (low high : ℕ) (ws : List Waiting) (w : Waiting) → Rises low high (ws ++ w ∷ []) → Rises low w.seq ws × (w.seq < high)
rises-front low high [] w r = (r.0, r.1)
rises-front low high (v ∷ ws) w r = let t = rises-front (suc v.seq) high ws w r.1 in ((r.0, t.0), t.1)

pub last-seq : (low high : ℕ) (ws : List Waiting) (w : Waiting) → Rises low (suc high) (ws ++ w ∷ []) → IsSome (held_at (ws ++ w ∷ []) high)
    → w.seq ≡ high
last-seq low high ws w r some =
    let t = rises-front low (suc high) ws w r in
    ⊎_elim (λ e. sym e) (λ ne. absurd (gone (held-push_other ws w high ne ∙ held-high low w.seq ws high t.0 (omega (arith, t.1)))))
    (cases_eq high w.seq)
  where
    gone : held_at (ws ++ w ∷ []) high ≡ None → ⊥
    gone e = false≢true (rw e at some)

-- what a binary search finds
rise : (ws : List Waiting) (k : ℕ) → IsNonDecreasingBy (λ w. w.seq) ws → IsNonDecreasingBy (λ w. ordering_index (nat_cmp w.seq k)) ws
rise ws k sorted i j d le within = let o : (get_or ws i d).seq ≤ (get_or ws j d).seq = sorted i j d le within in grind (arith, nat_tests)

pub record Found (ws : List Waiting) (k : ℕ) (r : Option ℕ) : Type 0 where
  pub within : IfSome r (λ i. i < length ws)
  pub found : IfSome r (λ i. (d : Waiting) → (get_or ws i d).seq ≡ k)
  pub absent : IfNone r (held_at ws k ≡ None)

pub searched : (ws : List Waiting) (k : ℕ) → IsNonDecreasingBy (λ w. w.seq) ws → (r : Result ℕ ℕ) → IsSearchInRange r (length ws)
    → IsBinarySearchResult (λ w. nat_cmp w.seq k) ws r → Found ws k (result_ok r)
searched ws k sorted (Ok at) in_range equal = record {
  within = in_range;
  found = λ d. ranked _ k _ (sym (equal d));
  absent = tt;
}
searched ws k sorted (Err at) in_range parted = record {
  within = tt;
  found = tt;
  absent = held-absent ws k (λ i d l e. elim (cases_lt i at) [
    | inl below ↦ let lt : (get_or ws i d).seq < k = ranked _ k _ (sym ((parted (rise ws k sorted)).0 i d (omega arith) below)) in
        omega arith
    | inr above ↦ let gt : k < (get_or ws i d).seq = ranked _ k _ (sym ((parted (rise ws k sorted)).1 i d above l)) in omega arith
  ]);
}
