-- The counts of cores, of which one is counted anew.
use Rattle.std.proofs.Common.{◌≡◌, ◌≢◌, ℕ, ◌<◌, ◌≤◌, Bool, true, false, List, length, refl, ap, sym, ◌∙◌, subst, arith, inl, inr}
use Rattle.std.specs.Prelude.{get_or, slice_set, if◌then◌else◌}
use Rattle.std.proofs.lemmas.Bool.{cases_eq}
use Rattle.std.proofs.lemmas.Grind.{get_or-set_at}
use Rattle.std.proofs.lemmas.List.{get_or-set_other, length-set}
use Rattle.rules_maps.specs.Shape.{Shape}
use Rattle.rules_program.specs.Program.{Program}
use Rattle.rules_tcc.specs.State.{CoreState}
use Rattle.bus_tcc.specs.Uses.{AreCounted, AreCountedBut, HavePlaces, IsCounted, counts_taken, exec_count, way_count}
use Rattle.bus_tcc.specs.declared.counts.Counts.{Counts}

-- one core is counted anew
pub record IsRenewed (sh : Shape) (p : Program) (f : Bool) (core : ℕ) (s : CoreState) (old new : Counts) : Type 0 where
  pub free : new.free ≡ slice_set old.free core (exec_count sh p true core s)
  pub taken : new.taken ≡ (if counts_taken sh f then slice_set old.taken core (exec_count sh p false core s) else old.taken)
  pub ways : new.ways ≡ slice_set old.ways core (way_count sh p s)

length-if : (b : Bool) (xs : List ℕ) (c x : ℕ) → length (if b then slice_set xs c x else xs) ≡ length xs
length-if true xs c x = length-set xs c x
length-if false xs c x = refl

-- it is set where it is counted
set-where : (b : Bool) (old new : List ℕ) (c x : ℕ) → new ≡ (if b then slice_set old c x else old) → b ≡ true → new ≡ slice_set old c x
set-where true old new c x q e = q
set-where false old new c x q e = cc

pub places-stay : (sh : Shape) (p : Program) (f : Bool) (c : ℕ) (s : CoreState) (old new : Counts) → HavePlaces sh old
    → IsRenewed sh p f c s old new → HavePlaces sh new
places-stay sh p f c s old new h r = record {
  free = ap length r.free ∙ length-set old.free c (exec_count sh p true c s) ∙ h.free;
  taken = ap length r.taken ∙ length-if (counts_taken sh f) old.taken c (exec_count sh p false c s) ∙ h.taken;
  ways = ap length r.ways ∙ length-set old.ways c (way_count sh p s) ∙ h.ways;
}

at-own : (old new : List ℕ) (c x n : ℕ) → length old ≡ n → c < n → new ≡ slice_set old c x → get_or new c 0 ≡ x
at-own old new c x n e l q = ap (λ xs. get_or xs c 0) q ∙ get_or-set_at old c c x 0 refl (rw e l)

at-other : (old new : List ℕ) (c x j y : ℕ) → j ≢ c → new ≡ slice_set old c x → get_or old j 0 ≡ y → get_or new j 0 ≡ y
at-other old new c x j y m q e = ap (λ xs. get_or xs j 0) q ∙ get_or-set_other old c j x 0 m ∙ e

-- the core that is counted anew, and the others
pub own-counted : (sh : Shape) (p : Program) (f : Bool) (c : ℕ) (s : CoreState) (old new : Counts) → HavePlaces sh old → c < sh.cores
    → IsRenewed sh p f c s old new → IsCounted sh p f new c s
own-counted sh p f c s old new h l r = record {
  free = at-own old.free new.free c (exec_count sh p true c s) sh.cores h.free l r.free;
  taken = λ e. at-own old.taken new.taken c (exec_count sh p false c s) sh.cores h.taken l (set-where _ old.taken new.taken c _ r.taken e);
  ways = at-own old.ways new.ways c (way_count sh p s) sh.cores h.ways l r.ways;
}

pub other-counted : (sh : Shape) (p : Program) (f : Bool) (c : ℕ) (s : CoreState) (old new : Counts) (j : ℕ) (t : CoreState)
    → IsRenewed sh p f c s old new → j ≢ c → IsCounted sh p f old j t → IsCounted sh p f new j t
other-counted sh p f c s old new j t r m k = record {
  free = at-other old.free new.free c (exec_count sh p true c s) j (exec_count sh p true j t) m r.free k.free;
  taken = λ e. at-other old.taken new.taken c (exec_count sh p false c s) j (exec_count sh p false j t) m
      (set-where _ old.taken new.taken c _ r.taken e) (k.taken e);
  ways = at-other old.ways new.ways c (way_count sh p s) j (way_count sh p t) m r.ways k.ways;
}

-- the first n cores are counted
pub record AreCountedTo (sh : Shape) (p : Program) (f : Bool) (cores : ℕ → CoreState) (n : ℕ) (k : Counts) : Type 0 where
  pub places : HavePlaces sh k
  pub each : (c : ℕ) → c < n → IsCounted sh p f k c (cores c)

pub none-counted : (sh : Shape) (p : Program) (f : Bool) (cores : ℕ → CoreState) (k : Counts) → HavePlaces sh k
    → AreCountedTo sh p f cores 0 k
none-counted sh p f cores k h = record { places = h; each = λ c l. absurd (omega (arith, l)) }

pub all-counted : (sh : Shape) (p : Program) (f : Bool) (cores : ℕ → CoreState) (n : ℕ) (k : Counts) → sh.cores ≤ n
    → AreCountedTo sh p f cores n k → AreCounted sh p f cores k
all-counted sh p f cores n k l h = record { places = h.places; each = λ c i. h.each c (omega (arith, i, l)) }

-- the one core that wasn't counted is counted anew
pub one-counted : (sh : Shape) (p : Program) (f : Bool) (cores : ℕ → CoreState) (c : ℕ) (old new : Counts) → c < sh.cores
    → IsRenewed sh p f c (cores c) old new → AreCountedBut sh p f c cores old → AreCounted sh p f cores new
one-counted sh p f cores c old new l r h = record {
  places = places-stay sh p f c (cores c) old new h.places r;
  each = λ j i. elim (cases_eq j c) [
    | inl e ↦ subst (λ k. IsCounted sh p f new k (cores k)) (sym e) (own-counted sh p f c (cores c) old new h.places l r)
    | inr m ↦ other-counted sh p f c (cores c) old new j (cores j) r m (h.each j i m)
  ];
}

-- one core has changed, and of the others no more is counted
pub others-counted : (sh : Shape) (p : Program) (f g : Bool) (cores after : ℕ → CoreState) (c : ℕ) (k : Counts)
    → ((j : ℕ) → j ≢ c → after j ≡ cores j)
    → ((j : ℕ) → j < sh.cores → j ≢ c → counts_taken sh g ≡ true → counts_taken sh f ≡ true)
    → AreCounted sh p f cores k → AreCountedBut sh p g c after k
others-counted sh p f g cores after c k same more h = record {
  places = h.places;
  each = λ j i m. subst (IsCounted sh p g k j) (sym (same j m)) (let n = h.each j i in record {
    free = n.free;
    taken = λ e. n.taken (more j i m e);
    ways = n.ways;
  });
}
