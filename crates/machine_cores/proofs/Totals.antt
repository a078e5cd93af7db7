-- The useful events of all cores, as the counts by core find them.
use Rattle.std.proofs.Common.{◌≡◌, ℕ, zero, suc, ◌+◌, ◌<◌, Bool, true, false, cond, if◌then◌else◌, List, [], ◌∷◌}
use Rattle.std.proofs.Common.{◌++◌, map, take, length, Some, None, is_some, refl, ap, sym, ◌∙◌, arith, inl, inr}
use Rattle.std.specs.Prelude.{get_or, slice_get, sum}
use Rattle.std.specs.List.{flat_map}
use Rattle.std.proofs.lemmas.Bool.{cases_lt}
use Rattle.std.proofs.lemmas.Grind.{flat_map-append}
use Rattle.std.specs.Option.{option_map}
use Rattle.std.proofs.lemmas.List.{ext_get_or, get_or-map, length-map, map-append}
use Rattle.std.proofs.lemmas.Option.{get_or_from_slice_get, slice_get-map, slice_get_past}
use Rattle.base_lemmas.proofs.Lemmas.{get-front}
use Rattle.rules_maps.specs.Nodes.{Event, Exec, Evict}
use Rattle.rules_maps.specs.Shape.{Shape}
use Rattle.rules_maps.specs.Words.{those}
use Rattle.rules_program.specs.Program.{Program}
use Rattle.rules_tcc.specs.CoreExec.{core_exec}
use Rattle.rules_tcc.specs.Seen.{numbers}
use Rattle.rules_tcc.specs.State.{CoreState}
use Rattle.core_node.specs.Useful.{useful_evicts}
use Rattle.base_sums.specs.Falls.{FallsAt}
use Rattle.machine_cores.specs.Uses.{AreCounted, evict_events, exec_events}
use Rattle.machine_cores.proofs.Flat.{flat-at, flat-length, get-right}
use Rattle.machine_cores.proofs.Limits.{numbers-length}

-- ---- lists by core

pub numbers-at : (n i : ℕ) → i < n → slice_get (numbers n) i ≡ Some i
unfolding those
numbers-at zero i h = absurd (omega arith)
numbers-at (suc n) i h = elim (cases_lt i n) [
  | inl l ↦ get-front (numbers n) (n ∷ []) i (rw (numbers-length n) l) ∙ numbers-at n i l
  | inr m ↦ (let last : i ≡ n = omega arith in
      get-right (numbers n) (n ∷ []) 0 i (omega (arith, last, numbers-length n)) ∙ ap Some (sym last))
]

-- these counts are the lengths of these lists
abbrev pub Counts : {A : Type 0} → (ℕ → List A) → ℕ → List ℕ → Type 0
Counts f n counts = (length counts ≡ n) × ((c : ℕ) → c < n → get_or counts c 0 ≡ length (f c))

same-counts : {A : Type 0} (f : ℕ → List A) (n : ℕ) (counts : List ℕ) → Counts f n counts → map (λ c. length (f c)) (numbers n) ≡ counts
same-counts f n counts h =
    let long : length (map (λ c. length (f c)) (numbers n)) ≡ n = length-map (numbers n) (λ c. length (f c)) ∙ numbers-length n in
    ext_get_or 0 (map (λ c. length (f c)) (numbers n)) counts (long ∙ sym h.0) (λ i l. at i (rw long at l))
  where
    at : (i : ℕ) → i < n → get_or (map (λ c. length (f c)) (numbers n)) i 0 ≡ get_or counts i 0
    at i l = get_or-map (λ c. length (f c)) (numbers n) i 0 0 (rw (numbers-length n) l)
        ∙ ap (λ c. length (f c)) (get_or_from_slice_get (numbers n) i i 0 (numbers-at n i l)) ∙ sym (h.1 i l)

total : {A : Type 0} (f : ℕ → List A) (n : ℕ) (counts : List ℕ) → Counts f n counts → sum counts ≡ length (flat_map f (numbers n))
total f n counts h = ap sum (sym (same-counts f n counts h)) ∙ sym (flat-length f (numbers n))

pub past : {A : Type 0} (f : ℕ → List A) (n : ℕ) (counts : List ℕ) (k : ℕ) → Counts f n counts → (k < sum counts → ⊥)
    → slice_get (flat_map f (numbers n)) k ≡ None
past f n counts k h l =
    slice_get_past (flat_map f (numbers n)) k (elim (cases_lt k (sum counts)) [
      | inl q ↦ absurd (l q)
      | inr q ↦ rw (sym (total f n counts h)) q
    ])

-- the k-th of the lists of all cores is in the list of the core in which it falls
pub record IsFound {A : Type 0} (f : ℕ → List A) (n k c r : ℕ) : Type 0 where
  pub core : c < n
  pub within : r < length (f c)
  pub same : slice_get (flat_map f (numbers n)) k ≡ slice_get (f c) r

pub found : {A : Type 0} (f : ℕ → List A) (n : ℕ) (counts : List ℕ) (k c r : ℕ) → Counts f n counts → FallsAt counts k c r
    → IsFound f n k c r
found f n counts k c r h a =
    let core : c < n = rw (sym h.0) a.exists in
    let within : r < length (f c) = rw (sym (h.1 c core)) a.within in
    record {
      core = core;
      within = within;
      same = flat-at f (numbers n) c r k c (numbers-at n c core) within
          (a.before ∙ ap (λ ms. sum (take c ms) + r) (sym (same-counts f n counts h)));
    }

-- ---- executions

abbrev exec_one : Bool → ℕ → List Event
exec_one b c = cond b (Exec c ∷ []) []

-- a core's executions, one or none
abbrev pub execs_of : Shape → Program → (ℕ → CoreState) → ℕ → List Event
execs_of sh p cores c = exec_one (is_some (core_exec sh p c (cores c))) c

one_more : (b : Bool) (n : ℕ) → map Exec (cond b (n ∷ []) []) ≡ exec_one b n ++ []
one_more true n = refl
one_more false n = refl

those-flat : (t : ℕ → Bool) (n : ℕ) → map Exec (those t n) ≡ flat_map (λ c. exec_one (t c) c) (numbers n)
unfolding those
those-flat t zero = refl
those-flat t (suc n) =
    map-append Exec (those t n) (cond (t n) (n ∷ []) [])
    ∙ ap (λ es. es ++ map Exec (cond (t n) (n ∷ []) [])) (those-flat t n)
    ∙ ap (λ es. flat_map (λ c. exec_one (t c) c) (numbers n) ++ es) (one_more (t n) n)
    ∙ sym (flat_map-append (λ c. exec_one (t c) c) (numbers n) (n ∷ []))

exec-flat : (sh : Shape) (p : Program) (cores : ℕ → CoreState) → exec_events sh p cores ≡ flat_map (execs_of sh p cores) (numbers sh.cores)
unfolding exec_events
exec-flat sh p cores = those-flat (λ c. is_some (core_exec sh p c (cores c))) sh.cores

one-length : (b : Bool) (c : ℕ) → (if b then 1 else 0) ≡ length (exec_one b c)
one-length true c = refl
one-length false c = refl

exec-counts : (sh : Shape) (p : Program) (cores : ℕ → CoreState) (es vs : List ℕ) → AreCounted sh p cores es vs
    → Counts (execs_of sh p cores) sh.cores es
exec-counts sh p cores es vs h =
    (h.exec_places, λ c l. h.can_execute c l ∙ one-length (is_some (core_exec sh p c (cores c))) c)

pub exec-total : (sh : Shape) (p : Program) (cores : ℕ → CoreState) (es vs : List ℕ) → AreCounted sh p cores es vs
    → sum es ≡ length (exec_events sh p cores)
exec-total sh p cores es vs h =
    total (execs_of sh p cores) sh.cores es (exec-counts sh p cores es vs h) ∙ ap length (sym (exec-flat sh p cores))

pub exec-past : (sh : Shape) (p : Program) (cores : ℕ → CoreState) (es vs : List ℕ) (k : ℕ) → AreCounted sh p cores es vs
    → (k < sum es → ⊥) → slice_get (exec_events sh p cores) k ≡ None
exec-past sh p cores es vs k h l =
    ap (λ ev. slice_get ev k) (exec-flat sh p cores) ∙ past (execs_of sh p cores) sh.cores es k (exec-counts sh p cores es vs h) l

first_only : (b : Bool) (c r : ℕ) → r < length (exec_one b c) → slice_get (exec_one b c) r ≡ Some (Exec c)
first_only true c zero h = refl
first_only true c (suc r) h = absurd (omega arith)
first_only false c r h = absurd (omega arith)

pub exec-found : (sh : Shape) (p : Program) (cores : ℕ → CoreState) (es vs : List ℕ) (k c r : ℕ) → AreCounted sh p cores es vs
    → FallsAt es k c r → slice_get (exec_events sh p cores) k ≡ Some (Exec c)
exec-found sh p cores es vs k c r h a =
    let f : IsFound (execs_of sh p cores) sh.cores k c r =
    found (execs_of sh p cores) sh.cores es k c r (exec-counts sh p cores es vs h) a in
    ap (λ ev. slice_get ev k) (exec-flat sh p cores) ∙ f.same ∙ first_only (is_some (core_exec sh p c (cores c))) c r f.within

-- ---- evictions

-- a core's useful evictions
abbrev pub evicts_of : Shape → Program → (ℕ → CoreState) → ℕ → List Event
evicts_of sh p cores c = map (λ q. Evict c q.0 q.1) (useful_evicts sh p (cores c))

evict-counts : (sh : Shape) (p : Program) (cores : ℕ → CoreState) (es vs : List ℕ) → AreCounted sh p cores es vs
    → Counts (evicts_of sh p cores) sh.cores vs
evict-counts sh p cores es vs h =
    (h.evict_places, λ c l. h.can_evict c l ∙ sym (length-map (useful_evicts sh p (cores c)) (λ q. Evict c q.0 q.1)))

pub evict-total : (sh : Shape) (p : Program) (cores : ℕ → CoreState) (es vs : List ℕ) → AreCounted sh p cores es vs
    → sum vs ≡ length (evict_events sh p cores)
unfolding evict_events
evict-total sh p cores es vs h = total (evicts_of sh p cores) sh.cores vs (evict-counts sh p cores es vs h)

pub evict-past : (sh : Shape) (p : Program) (cores : ℕ → CoreState) (es vs : List ℕ) (k : ℕ) → AreCounted sh p cores es vs
    → (k < sum vs → ⊥) → slice_get (evict_events sh p cores) k ≡ None
unfolding evict_events
evict-past sh p cores es vs k h l = past (evicts_of sh p cores) sh.cores vs k (evict-counts sh p cores es vs h) l

pub evict-found : (sh : Shape) (p : Program) (cores : ℕ → CoreState) (es vs : List ℕ) (k c r : ℕ) → AreCounted sh p cores es vs
    → FallsAt vs k c r → (r < length (useful_evicts sh p (cores c)))
    × (slice_get (evict_events sh p cores) k ≡ option_map (λ q. Evict c q.0 q.1) (slice_get (useful_evicts sh p (cores c)) r))
unfolding evict_events
evict-found sh p cores es vs k c r h a =
    let f : IsFound (evicts_of sh p cores) sh.cores k c r =
    found (evicts_of sh p cores) sh.cores vs k c r (evict-counts sh p cores es vs h) a in (
      rw (sym (length-map (useful_evicts sh p (cores c)) (λ q. Evict c q.0 q.1))) f.within,
      f.same ∙ slice_get-map (λ q. Evict c q.0 q.1) (useful_evicts sh p (cores c)) r,
    )
