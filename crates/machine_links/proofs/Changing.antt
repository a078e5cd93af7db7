-- A link over its fields: what its readers give, and what each change of the fields does to the list of what was sent.
use Rattle.std.proofs.Common.{◌≡◌, ℕ, suc, ◌+◌, ◌<◌, Bool, ⊎_elim, List, [], ◌∷◌, ◌++◌, length, get_or, set, map}
use Rattle.std.proofs.Common.{Some, None, refl, ap, sym, subst, ◌∙◌, add-one, arith}
use Rattle.std.specs.Prelude.{Option, option_map, slice_get}
use Rattle.std.specs.List.{remove, count_by}
use Rattle.std.proofs.lemmas.Bool.{cases_lt}
use Rattle.std.proofs.lemmas.List.{get_or_past, length-set}
use Rattle.std.proofs.lemmas.Option.{slice_get-map, slice_get_within, get_or_from_slice_get}
use Rattle.std.proofs.lemmas.List.Edits.{length-remove}
use Rattle.machine_links.specs.declared.lane.Held.{Held}
use Rattle.machine_links.specs.declared.lane.Waiting.{Waiting}
use Rattle.machine_links.specs.Lane.{Lane, is_marked, is_waiting, numbers_of, marked_as}
use Rattle.machine_links.specs.Laid.{laid, held_at, Rises}
use Rattle.machine_links.specs.Pieces.{Marked, Taken}
use Rattle.machine_links.proofs.Pieces.{blank}
use Rattle.machine_links.proofs.Laid.{length-laid, get-laid, laid-push, laid-set}
use Rattle.machine_links.proofs.Finding.{rises-get, rises-remove, rises-set, rises-push, held-high, held-get, held-remove_own}
use Rattle.machine_links.proofs.Finding.{held-remove_other, held-set_own, held-set_other, held-push_own, held-push_other}
use Rattle.machine_links.proofs.Numbers.{few-marked, waiting-laid}

-- the link's fields with the list of what was sent on it
pub record Kept (n : ℕ) (ws : List Waiting) (l : Lane) : Type 0 where
  pub rising : Rises 0 n ws
  pub few : length ws < 4294967296
  pub view : laid (held_at ws) n ≡ l

pub get-lane : (n : ℕ) (ws : List Waiting) (l : Lane) (k : ℕ) → Kept n ws l → get_or l k None ≡ held_at ws k
get-lane n ws l k kept =
    ap (λ m. get_or m k None) (sym kept.view)
    ∙ ⊎_elim (λ lt. get-laid (held_at ws) n k None lt)
    (λ le. get_or_past (laid (held_at ws) n) k None (omega (arith, length-laid (held_at ws) n)) ∙ sym (held-high 0 n ws k kept.rising le))
    (cases_lt k n)

-- a message that was found, and one that wasn't
pub record At (ws : List Waiting) (k i : ℕ) : Type 0 where
  pub within : i < length ws
  pub own : (d : Waiting) → (get_or ws i d).seq ≡ k

pub found-held : (n : ℕ) (ws : List Waiting) (l : Lane) (k i : ℕ) (d : Waiting) → Kept n ws l → At ws k i
    → get_or l k None ≡ Some (get_or ws i d).held
found-held n ws l k i d kept at =
    get-lane n ws l k kept ∙ (ap (held_at ws) (sym (at.own d)) ∙ held-get 0 n ws i d kept.rising at.within)

pub missing-held : (n : ℕ) (ws : List Waiting) (l : Lane) (k : ℕ) → Kept n ws l → held_at ws k ≡ None → get_or l k None ≡ None
missing-held n ws l k kept e = get-lane n ws l k kept ∙ e

below : (n : ℕ) (ws : List Waiting) (l : Lane) (k i : ℕ) (d : Waiting) → Kept n ws l → At ws k i → k < n
below n ws l k i d kept at = let a = (rises-get 0 n ws i d kept.rising at.within).1 in let b : (get_or ws i d).seq ≡ k =
    at.own d in omega arith

-- taken out
pub taken : (n : ℕ) (ws vs : List Waiting) (l : Lane) (k i : ℕ) (d : Waiting) → Kept n ws l → At ws k i → vs ≡ remove ws i
    → Kept n vs (set l k None)
taken n ws vs l k i d kept at e = subst (λ us. Kept n us (set l k None)) (sym e) (record {
  rising = rises-remove 0 n ws i kept.rising at.within;
  few = omega (arith, kept.few, length-remove ws i at.within);
  view = laid-set (held_at ws) (held_at (remove ws i)) n k None (below n ws l k i d kept at)
      (ap (held_at (remove ws i)) (sym (at.own d)) ∙ held-remove_own 0 n ws i d kept.rising at.within)
      (λ q ne. held-remove_other ws i d q at.within (λ f. ne (f ∙ at.own d)))
      ∙ ap (λ m. set m k None) kept.view;
})

-- marked
pub marked : (n : ℕ) (ws vs : List Waiting) (l : Lane) (k i : ℕ) (b : Bool) (d : Waiting) → Kept n ws l → At ws k i
    → vs ≡ set ws i (record (get_or ws i d) { held = record (get_or ws i d).held { ready = b } })
    → Kept n vs (set l k (marked_as b (get_or l k None)))
unfolding marked_as
marked n ws vs l k i b d kept at e = subst (λ us. Kept n us (set l k (marked_as b (get_or l k None)))) (sym e) (record {
  rising = rises-set 0 n ws i d v refl at.within kept.rising;
  few = omega (arith, kept.few, length-set ws i v);
  view = laid-set (held_at ws) (held_at (set ws i v)) n k (marked_as b (get_or l k None)) (below n ws l k i d kept at)
      (ap (held_at (set ws i v)) (sym (at.own d))
      ∙ (held-set_own 0 n ws i d v kept.rising at.within refl ∙ ap (marked_as b) (sym (found-held n ws l k i d kept at))))
      (λ q ne. held-set_other ws i d v q at.within refl (λ f. ne (f ∙ at.own d)))
      ∙ ap (λ m. set m k (marked_as b (get_or l k None))) kept.view;
})
  where
    v : Waiting
    v = record (get_or ws i d) { held = record (get_or ws i d).held { ready = b } }

pub few-kept : (n : ℕ) (ws : List Waiting) (l : Lane) → Kept n ws l → count_by is_marked l < 4294967296
few-kept n ws l kept = subst (λ m. count_by is_marked m < 4294967296) kept.view (omega (arith, few-marked n ws kept.rising, kept.few))

-- sent
pub pushed : (n : ℕ) (ws vs : List Waiting) (l : Lane) (h : Held) → Kept n ws l → length ws < 4294967295
    → vs ≡ ws ++ record { seq = n; held = h } ∷ [] → Kept (n + 1) vs (l ++ Some h ∷ [])
pushed n ws vs l h kept few e = rw add-one (subst (λ us. Kept (suc n) us (l ++ Some h ∷ [])) (sym e) (record {
  rising = rises-push 0 n ws w refl kept.rising;
  few = omega (arith, few, count ws);
  view = laid-push (held_at ws) (held_at (ws ++ w ∷ [])) n (λ k lt. held-push_other ws w k (λ f. omega arith))
      ∙ ((λ i. kept.view i ++ held-push_own 0 n ws w refl kept.rising i ∷ []));
}))
  where
    w : Waiting
    w = record { seq = n; held = h }

    count : (us : List Waiting) → length (us ++ w ∷ []) ≡ length us + 1
    count [] = omega arith
    count (u ∷ us) = omega (arith, count us)

-- one taken out, and one marked
pub taken-lane : (n : ℕ) (ws vs : List Waiting) (l : Lane) (k : ℕ) (was : Bool) → Kept n ws l → Taken ws vs k was
    → Kept n vs (set l k None)
taken-lane n ws vs l k was kept t = taken n ws vs l k t.at blank kept (record { within = t.within; own = t.own }) t.left

pub was-taken : (n : ℕ) (ws vs : List Waiting) (l : Lane) (k : ℕ) (was : Bool) → Kept n ws l → Taken ws vs k was
    → was ≡ is_marked (get_or l k None)
unfolding is_marked
was-taken n ws vs l k was kept t =
    sym (ap is_marked (found-held n ws l k t.at blank kept (record { within = t.within; own = t.own })) ∙ t.was blank)

pub marked-lane : (n : ℕ) (ws vs : List Waiting) (l : Lane) (k : ℕ) (b was : Bool) → Kept n ws l → Marked ws vs k b was
    → Kept n vs (set l k (marked_as b (get_or l k None)))
marked-lane n ws vs l k b was kept m = marked n ws vs l k m.at b blank kept (record { within = m.within; own = m.own }) (m.left blank)

pub was-marked : (n : ℕ) (ws vs : List Waiting) (l : Lane) (k : ℕ) (b was : Bool) → Kept n ws l → Marked ws vs k b was
    → was ≡ is_marked (get_or l k None)
unfolding is_marked
was-marked n ws vs l k b was kept m =
    sym (ap is_marked (found-held n ws l k m.at blank kept (record { within = m.within; own = m.own })) ∙ m.was blank)

-- listed by place
pub listed : (n : ℕ) (ws : List Waiting) (l : Lane) (i : ℕ) (o : Option Waiting) → Kept n ws l → o ≡ slice_get ws i
    → option_map (λ w. w.seq) o ≡ slice_get (numbers_of is_waiting l) i
listed n ws l i o kept e =
    let a : numbers_of is_waiting l ≡ map (λ w. w.seq) ws = ap (numbers_of is_waiting) (sym kept.view) ∙ waiting-laid n ws kept.rising in
    ap (option_map (λ w. w.seq)) e ∙ sym (ap (λ ks. slice_get ks i) a ∙ slice_get-map (λ w. w.seq) ws i)

pub listed-own : (n : ℕ) (ws : List Waiting) (l : Lane) (i : ℕ) (x : Waiting) → Kept n ws l → Some x ≡ slice_get ws i
    → get_or l x.seq None ≡ Some x.held
listed-own n ws l i x kept e =
    let h : i < length ws = slice_get_within ws i x (sym e) in
    let own : (d : Waiting) → get_or ws i d ≡ x = λ d. get_or_from_slice_get ws i x d (sym e) in
    found-held n ws l x.seq i x kept (record { within = h; own = λ d. ap (λ w. w.seq) (own d) }) ∙ ap (λ w. Some w.held) (own x)
