-- States that tell the same are counted together, one state after another.
use Rattle.std.proofs.Common.{ℕ, ◌≡◌, ◌+◌, ◌<◌, List, [], ◌∷◌, ◌++◌, refl, sym, ◌∙◌, ap, subst, length, length-append, map}
use Rattle.std.proofs.Common.{Some, Result, Ok, Err, OnOk, slice_index, slice_set, length-set, inl, inr, arith}
use Rattle.std.proofs.lemmas.Bool.{cases_lt}
use Rattle.std.proofs.lemmas.Bool.Decides.{eqb_tells}
use Rattle.std.proofs.lemmas.Grind.{common_steps}
use Rattle.std.proofs.lemmas.List.{get_or-map, length-map, map-append}
use Rattle.std.proofs.lemmas.List.Elements.{All-nil, All-push}
use Rattle.std.proofs.lemmas.List.Folds.{fold-map}
use Rattle.std.specs.List.{fold}
use Rattle.run_outcomes.proofs.Chained.{IsWalked, walk-at}
use Rattle.run_outcomes.proofs.Tallies.{none-at-all, one-more, no-more}
use Rattle.run_outcomes.proofs.Telling.{told-grown}
use Rattle.run_outcomes.specs.Chains.{AreChained}
use Rattle.run_outcomes.specs.Digests.{mixed, mixed_bytes, mixed_changes, end_digest, state_digest}
use Rattle.run_outcomes.specs.Explored.{state_at}
use Rattle.run_outcomes.specs.Results.{AreAlike, AreEnds, AreGroups, IsEnd, IsTold, Tells, mixed_told, told_core, told_digest}
use Rattle.run_outcomes.specs.declared.outcomes.Groups.{Groups}
use Rattle.run_outcomes.specs.declared.outcomes.Tell.{Tell}
use Rattle.run_outcomes.specs.declared.outcomes.Tell.TheVariants.{Consoles, Memory, Everything}
use Rattle.run_outcomes.specs.declared.states.Snapshot.{Snapshot}
use Rattle.rv_plain.specs.declared.plain.CoreState.{CoreState}
use Rattle.tcc_base.specs.declared.access.CoreEnd.{CoreEnd}
use Rattle.base_lemmas.proofs.Lemmas.{read-set}

pub alike-itself : (tell : Tell) (a : Snapshot) → AreAlike tell a a
alike-itself Consoles a = refl
alike-itself Memory a = (refl, refl)
alike-itself Everything a = refl

pub alike-sym : (tell : Tell) (a b : Snapshot) → AreAlike tell a b → AreAlike tell b a
alike-sym Consoles a b h = sym h
alike-sym Memory a b h = (sym h.0, sym h.1)
alike-sym Everything a b h = sym h

pub alike-trans : (tell : Tell) (a b c : Snapshot) → AreAlike tell a b → AreAlike tell b c → AreAlike tell a c
alike-trans Consoles a b c h k = h ∙ k
alike-trans Memory a b c h k = (h.0 ∙ k.0, h.1 ∙ k.1)
alike-trans Everything a b c h k = h ∙ k

-- what a core tells is mixed into a digest
abbrev mixed_with : ℕ → CoreEnd × List ℕ → ℕ
mixed_with s told = mixed_bytes (mixed s (end_digest told.0)) told.1

mixed_told-map : (cores : List CoreState) → fold mixed_with 0 (map told_core cores) ≡ mixed_told cores
unfolding mixed_told
mixed_told-map cores = fold-map mixed_with told_core 0 cores

mixed_told-same : (a b : List CoreState) → map told_core a ≡ map told_core b → mixed_told a ≡ mixed_told b
mixed_told-same a b same = sym (mixed_told-map a) ∙ ap (fold mixed_with 0) same ∙ mixed_told-map b

pub digest-alike : (tell : Tell) (a b : Snapshot) → AreAlike tell a b → told_digest tell a ≡ told_digest tell b
unfolding told_digest
digest-alike Consoles a b h = mixed_told-same a.cores b.cores h
digest-alike Memory a b h =
    ap (λ s. mixed_changes s a.changes) (mixed_told-same a.cores b.cores h.0) ∙ ap (mixed_changes (mixed_told b.cores)) h.1
digest-alike Everything a b h = ap state_digest h

-- the digests by which results are found
abbrev pub told_keys : Tell → List Snapshot → (firsts : List ℕ) → List ℕ
told_keys tell states firsts = map (λ k. told_digest tell (state_at states k)) firsts

pub key-at : (tell : Tell) (states : List Snapshot) (firsts : List ℕ) (i : ℕ) → i < length firsts
    → slice_index (told_keys tell states firsts) i ≡ told_digest tell (state_at states (slice_index firsts i))
key-at tell states firsts i lt = get_or-map (λ k. told_digest tell (state_at states k)) firsts i 0 0 lt

pub groups-start : (tell : Tell) (states : List Snapshot) (g : Groups) → g.firsts ≡ [] → g.counts ≡ [] → AreChained [] g.chains
    → AreGroups tell states g 0
groups-start tell states g firsts counts chained =
    let none : length g.firsts ≡ 0 = ap length firsts in
    record {
      ends = subst (AreEnds states) (sym firsts) (All-nil (λ k. (k < length states) × IsEnd (state_at states k)));
      told = λ k lt. absurd (omega (arith, lt));
      apart = λ i j lt. absurd (omega (arith, lt, none));
      least = λ i lt. absurd (omega (arith, lt, none));
      counted = ap length counts ∙ sym none;
      counts = λ i lt. absurd (omega (arith, lt, none));
      chained = subst (λ fs. AreChained (told_keys tell states fs) g.chains) (sym firsts) chained;
    }

-- a state in which not all cores have ended
pub groups-skip : (tell : Tell) (states : List Snapshot) (g : Groups) (n : ℕ) → AreGroups tell states g n
    → (IsEnd (state_at states n) → ⊥) → AreGroups tell states g (n + 1)
groups-skip tell states g n h running = record {
  ends = h.ends;
  told = λ k lt end. elim (cases_lt k n) [
    | inl below ↦ h.told k below end
    | inr ge ↦ let at : k ≡ n = omega (arith, ge, lt) in absurd (running (subst (λ j. IsEnd (state_at states j)) at end))
  ];
  apart = h.apart;
  least = h.least;
  counted = h.counted;
  counts = λ i lt. no-more (Tells tell states (slice_index g.firsts i)) n (slice_index g.counts i) (λ t. running t.0) (h.counts i lt);
  chained = h.chained;
}

set-other : (xs : List ℕ) (i j v : ℕ) → (j ≡ i → ⊥) → slice_index (slice_set xs i v) j ≡ slice_index xs j
set-other xs i j v ne = grind (arith, common_steps)

index-kept : (xs : List ℕ) (x k : ℕ) → k < length xs → slice_index (xs ++ x ∷ []) k ≡ slice_index xs k
index-kept xs x k lt = grind (arith, common_steps)

index-last : (xs : List ℕ) (x k : ℕ) → k ≡ length xs → slice_index (xs ++ x ∷ []) k ≡ x
index-last xs x k e = grind (arith, common_steps)

-- a state that tells the same as an earlier one
pub groups-again : (tell : Tell) (states : List Snapshot) (g new : Groups) (n i : ℕ) → AreGroups tell states g n
    → IsEnd (state_at states n) → i < length g.firsts
    → AreAlike tell (state_at states (slice_index g.firsts i)) (state_at states n)
    → new.firsts ≡ g.firsts → new.counts ≡ slice_set g.counts i (slice_index g.counts i + 1) → new.chains ≡ g.chains
    → AreGroups tell states new (n + 1)
groups-again tell states g new n i h end inside alike firsts counts chains =
    let there : i < length g.counts = omega (arith, inside, h.counted) in
    let P : ℕ → ℕ → Type 0 = λ j. Tells tell states (slice_index g.firsts j) in
    subst (λ x. AreGroups tell states x (n + 1))
    (λ q. record { firsts = (sym firsts) q; counts = (sym counts) q; chains = (sym chains) q })
    (record {
      ends = h.ends;
      told = λ k lt ended. elim (cases_lt k n) [
        | inl below ↦ h.told k below ended
        | inr ge ↦
            let at : n ≡ k = omega (arith, ge, lt) in
            subst (IsTold tell states g.firsts) at (i, inside, alike)
      ];
      apart = h.apart;
      least = h.least;
      counted = length-set g.counts i (slice_index g.counts i + 1) ∙ h.counted;
      counts = λ j lt. elim (eqb_tells j i) [
        | inl e ↦ rw (e.1, read-set g.counts i (slice_index g.counts i + 1) there)
            (one-more (P i) n (slice_index g.counts i) (end, alike) (h.counts i inside))
        | inr e ↦ rw (set-other g.counts i j (slice_index g.counts i + 1) e.1)
            (no-more (P j) n (slice_index g.counts j)
            (λ t. e.1 (h.apart j i lt inside
            (alike-trans tell (state_at states (slice_index g.firsts j)) (state_at states n) (state_at states (slice_index g.firsts i)) t.1
            (alike-sym tell (state_at states (slice_index g.firsts i)) (state_at states n) alike))))
            (h.counts j lt))
      ];
      chained = h.chained;
    })

-- a state that tells what no earlier one does
pub groups-new : (tell : Tell) (states : List Snapshot) (g new : Groups) (n : ℕ) → AreGroups tell states g n → n < length states
    → IsEnd (state_at states n)
    → ((i : ℕ) → i < length g.firsts → AreAlike tell (state_at states (slice_index g.firsts i)) (state_at states n) → ⊥)
    → new.firsts ≡ g.firsts ++ n ∷ [] → new.counts ≡ g.counts ++ 1 ∷ []
    → AreChained (told_keys tell states g.firsts ++ told_digest tell (state_at states n) ∷ []) new.chains
    → AreGroups tell states new (n + 1)
groups-new tell states g new n h below end absent firsts counts chained =
    let len : length (g.firsts ++ n ∷ []) ≡ length g.firsts + 1 = length-append g.firsts (n ∷ []) in
    subst (λ x. AreGroups tell states x (n + 1))
    (λ q. record { firsts = (sym firsts) q; counts = (sym counts) q; chains = new.chains })
    (record {
      ends = All-push (λ k. (k < length states) × IsEnd (state_at states k)) g.firsts n h.ends (below, end);
      told = λ k lt ended. elim (cases_lt k n) [
        | inl early ↦ told-grown tell states g.firsts (n ∷ []) k (h.told k early ended)
        | inr ge ↦
            let at : n ≡ k = omega (arith, ge, lt) in
            let last : length g.firsts < length (g.firsts ++ n ∷ []) = omega (arith, len) in
            subst (IsTold tell states (g.firsts ++ n ∷ [])) at (
              length g.firsts,
              last,
              subst (λ j. AreAlike tell (state_at states j) (state_at states n)) (sym (index-last g.firsts n (length g.firsts) refl))
                  (alike-itself tell (state_at states n)),
            )
      ];
      apart = λ i j lt lt' alike. elim (cases_lt i (length g.firsts)) [
        | inl a ↦ elim (cases_lt j (length g.firsts)) [
          | inl b ↦ h.apart i j a b (rw (index-kept g.firsts n i a, index-kept g.firsts n j b) at alike)
          | inr b ↦
              let at : j ≡ length g.firsts = omega (arith, b, lt', len) in
              absurd (absent i a (rw (index-kept g.firsts n i a, index-last g.firsts n j at) at alike))
        ]
        | inr a ↦
            let at : i ≡ length g.firsts = omega (arith, a, lt, len) in
            elim (cases_lt j (length g.firsts)) [
              | inl b ↦ absurd (absent j b
                  (alike-sym tell (state_at states n) (state_at states (slice_index g.firsts j))
                  (rw (index-last g.firsts n i at, index-kept g.firsts n j b) at alike)))
              | inr b ↦ omega (arith, at, b, lt', len)
            ]
      ];
      least = λ i lt k early tells. elim (cases_lt i (length g.firsts)) [
        | inl a ↦
            let e = index-kept g.firsts n i a in
            h.least i a k (subst (λ f. k < f) e early) (subst (λ f. Tells tell states f k) e tells)
        | inr a ↦
            let at : i ≡ length g.firsts = omega (arith, a, lt, len) in
            let e = index-last g.firsts n i at in
            earlier k (subst (λ f. k < f) e early) (subst (λ f. Tells tell states f k) e tells)
      ];
      counted = length-append g.counts (1 ∷ []) ∙ ap (λ k. k + 1) h.counted ∙ sym len;
      counts = λ i lt. elim (cases_lt i (length g.firsts)) [
        | inl a ↦
            let a' : i < length g.counts = omega (arith, a, h.counted) in
            rw (index-kept g.firsts n i a, index-kept g.counts 1 i a')
            (no-more (Tells tell states (slice_index g.firsts i)) n (slice_index g.counts i) (λ t. absent i a t.1) (h.counts i a))
        | inr a ↦
            let at : i ≡ length g.firsts = omega (arith, a, lt, len) in
            let at' : i ≡ length g.counts = omega (arith, at, h.counted) in
            rw (index-last g.firsts n i at, index-last g.counts 1 i at')
            (one-more (Tells tell states n) n 0 (end, alike-itself tell (state_at states n))
            (none-at-all (Tells tell states n) n (λ k lt' t. earlier k lt' t)))
      ];
      chained = subst (λ keys. AreChained keys new.chains)
          (sym (map-append (λ k. told_digest tell (state_at states k)) g.firsts (n ∷ []))) chained;
    })
  where
    earlier : (k : ℕ) → k < n → Tells tell states n k → ⊥
    earlier k lt t =
        let told = h.told k lt t.0 in
        absent told.0 told.1
        (alike-trans tell (state_at states (slice_index g.firsts told.0)) (state_at states k) (state_at states n) told.2
        (alike-sym tell (state_at states n) (state_at states k) t.1))

-- the result of that index tells otherwise than state k
abbrev pub IsOther : Tell → List Snapshot → (firsts : List ℕ) → (k i : ℕ) → Type 0
IsOther tell states firsts k i = AreAlike tell (state_at states (slice_index firsts i)) (state_at states k) → ⊥

pub place-at : (tell : Tell) (states : List Snapshot) (firsts : List ℕ) (digest k i : ℕ)
    → IsWalked (told_keys tell states firsts) digest (IsOther tell states firsts k) (Some i) → i < length firsts
place-at tell states firsts digest k i w =
    subst (λ n. i < n) (length-map firsts (λ j. told_digest tell (state_at states j)))
    (walk-at (told_keys tell states firsts) digest (IsOther tell states firsts k) i w).0

pub groups-if : {T E : Type 0} (tell : Tell) (states : List Snapshot) (g new : Groups) (n digest : ℕ) (r : Result T E)
    → AreGroups tell states g n → n < length states → IsEnd (state_at states n)
    → ((i : ℕ) → i < length g.firsts → AreAlike tell (state_at states (slice_index g.firsts i)) (state_at states n) → ⊥)
    → digest ≡ told_digest tell (state_at states n) → OnOk r (new.firsts ≡ g.firsts ++ n ∷ [])
    → OnOk r (new.counts ≡ g.counts ++ 1 ∷ [])
    → OnOk r ((keys : List ℕ) → AreChained keys g.chains → AreChained (keys ++ digest ∷ []) new.chains)
    → OnOk r (AreGroups tell states new (n + 1))
groups-if tell states g new n digest (Err e) h below end absent is firsts counts chains = tt
groups-if tell states g new n digest (Ok u) h below end absent is firsts counts chains =
    groups-new tell states g new n h below end absent firsts counts
    (subst (λ d. AreChained (told_keys tell states g.firsts ++ d ∷ []) new.chains) is
    (chains (told_keys tell states g.firsts) h.chained))
