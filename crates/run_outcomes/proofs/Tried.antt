-- What is noted of the pairs that were tried: as states are found, and as one pair more is tried.
use Rattle.std.proofs.Common.{ℕ, zero, suc, ◌≡◌, ◌==◌, ◌+◌, ◌*◌, ◌/◌, ◌%◌, ◌<◌, ◌≤◌, ◌^◌, ◌-◌, min}
use Rattle.std.proofs.Common.{Bool, true, false, List, Option, Some, None}
use Rattle.std.proofs.Common.{IfSome, IfNone, IsSomeAnd, refl, sym, ◌∙◌, ap, subst, length, length-append, length-set, arith}
use Rattle.std.proofs.Common.{mul-zero}
use Rattle.std.proofs.lemmas.Bool.{false≢true}
use Rattle.std.proofs.lemmas.Nat.{div-mul-add, mod-mul-add, div_below}
use Rattle.image_load.specs.Contents.{Contents, started}
use Rattle.run_outcomes.proofs.Added.{sized-at}
use Rattle.run_outcomes.proofs.Distinct.{no-machine}
use Rattle.run_outcomes.proofs.Once.{not-yet}
use Rattle.run_outcomes.proofs.Reach.{leads-transaction, no-transaction, state-kept}
use Rattle.run_outcomes.proofs.Tallies.{first-more, first-no-more, first-same, many-same, no-more, none-yet, one-more}
use Rattle.run_outcomes.specs.Edges.{HasEdge, IsEdgedAt, edge_at}
use Rattle.run_outcomes.specs.Explored.{AreFound, IsEndless, IsGrown, state_at}
use Rattle.run_outcomes.specs.HowMany.{IsFirst}
use Rattle.run_outcomes.specs.Next.{IsNext}
use Rattle.run_outcomes.specs.States.{machine_of, core_in, after_core, IsPlaced}
use Rattle.run_outcomes.specs.Tried.{AreTried, AreTriedTo, EndsWithin, EndsWithinAt, IsCount, IsEndlessAt, IsFirstPair, LeadsOut}
use Rattle.run_outcomes.specs.Tried.{HasTried, LeadsOutAt, out_if, pair_at, transaction_of, tried_of}
use Rattle.run_outcomes.specs.Ways.{Explored}
use Rattle.run_outcomes.specs.declared.next.Next.TheVariants.{Endless, Leads}
use Rattle.run_outcomes.specs.declared.search.Edge.{Edge}
use Rattle.run_outcomes.specs.declared.search.Limits.{Limits}
use Rattle.run_outcomes.specs.declared.search.Pair.{Pair}
use Rattle.run_outcomes.specs.declared.states.Place.{Place}
use Rattle.run_outcomes.specs.declared.states.Place.TheVariants.{Full}
use Rattle.run_outcomes.specs.declared.states.Snapshot.{Snapshot}
use Rattle.rv_code.specs.Machine.{program}
use Rattle.rv_plain.specs.declared.plain.CoreState.{CoreState}
use Rattle.tcc_base.specs.declared.access.CoreEnd.TheVariants.{Run}
use Rattle.rules_program.specs.Plain.{Plain, Attempt, transaction}

abbrev pub pair_of : (k c : ℕ) → Pair
pair_of k c = record { state = k; core = record { 0 = c } }

pub pair-is : (cores k c : ℕ) → c < cores → pair_at cores (k * cores + c) ≡ pair_of k c
pair-is cores k c lt = λ i. record { state = (div-mul-add k cores c lt) i; core = record { 0 = (mod-mul-add k cores c lt) i } }

-- counts, one number after another
count-more : (P : ℕ → Type 0) (n count now : ℕ) → P n → now ≡ min (count + 1) (2 ^ 64 - 1) → IsCount P n count → IsCount P (n + 1) now
count-more P n count now p is h =
    let old : count ≡ min h.0 (2 ^ 64 - 1) = h.2 in
    (h.0 + 1, one-more P n h.0 p h.1, omega (arith, is, old))

count-same : (P : ℕ → Type 0) (n count : ℕ) → (P n → ⊥) → IsCount P n count → IsCount P (n + 1) count
count-same P n count p h = (h.0, no-more P n h.0 p h.1, h.2)

first-pair-more : (P : ℕ → Type 0) (cores n : ℕ) (at now : Option Pair) → P n → IfSome at (λ known. now ≡ Some known)
    → IfNone at (now ≡ Some (pair_at cores n)) → IsFirstPair P cores n at → IsFirstPair P cores (n + 1) now
first-pair-more P cores n None now p kept new h =
    subst (IsFirstPair P cores (n + 1)) (sym new) (n, first-more P n None p h, refl)
first-pair-more P cores n (Some pair) now p kept new h =
    subst (IsFirstPair P cores (n + 1)) (sym kept) (h.0, first-more P n (Some h.0) p h.1, h.2)

first-pair-no_more : (P : ℕ → Type 0) (cores n : ℕ) (at : Option Pair) → (P n → ⊥) → IsFirstPair P cores n at
    → IsFirstPair P cores (n + 1) at
first-pair-no_more P cores n None p h = first-no-more P n None p h
first-pair-no_more P cores n (Some pair) p h = (h.0, first-no-more P n (Some h.0) p h.1, h.2)

first-pair-same : (P Q : ℕ → Type 0) (cores n : ℕ) (at : Option Pair) → ((k : ℕ) → k < n → P k → Q k)
    → ((k : ℕ) → k < n → Q k → P k) → IsFirstPair P cores n at → IsFirstPair Q cores n at
first-pair-same P Q cores n None to from h = first-same P Q n None to from h
first-pair-same P Q cores n (Some pair) to from h = (h.0, first-same P Q n (Some h.0) to from h.1, h.2)

count-alike : (P Q : ℕ → Type 0) (n count : ℕ) → ((k : ℕ) → k < n → P k → Q k) → ((k : ℕ) → k < n → Q k → P k)
    → IsCount P n count → IsCount Q n count
count-alike P Q n count to from h = (h.0, many-same P Q n h.0 to from h.1, h.2)

some-cores : (a cores i : ℕ) → i < a * cores → 0 < cores
some-cores a zero i lt = absurd (omega (arith, lt, mul-zero a))
some-cores a (suc cores) i lt = omega arith

-- the states of the first pairs stay in their places as states are found
pair-inside : (cores : ℕ) (states : List Snapshot) (i : ℕ) → i < length states * cores → i / cores < length states
pair-inside cores states i lt = div_below i cores (length states) (some-cores (length states) cores i lt) lt

pair-kept : (cores : ℕ) (old new : List Snapshot) (i : ℕ) → IsGrown old new → i < length old * cores
    → state_at new (i / cores) ≡ state_at old (i / cores)
pair-kept cores old new i g lt =
    ap (λ x. state_at x (i / cores)) g.1 ∙ state-kept old g.0 (i / cores) (pair-inside cores old i lt)

pub grown-longer : (old new : List Snapshot) → IsGrown old new → length old ≤ length new
grown-longer old new g =
    let len : length new ≡ length old + length g.0 = ap length g.1 ∙ length-append old g.0 in
    omega (arith, len)

endless-to : (l : Contents) (old new : List Snapshot) (longest i : ℕ) → IsGrown old new → i < length old * l.settings.cores
    → IsEndlessAt l old longest i → IsEndlessAt l new longest i
endless-to l old new longest i g lt h =
    let more = grown-longer old new g in
    let there : i / l.settings.cores < length new = omega (arith, more, h.0) in (
      there,
      h.1,
      subst (λ s. IsNext l (core_in s (i % l.settings.cores)) s.changes longest Endless)
          (sym (pair-kept l.settings.cores old new i g lt)) h.2,
    )

endless-from : (l : Contents) (old new : List Snapshot) (longest i : ℕ) → IsGrown old new → i < length old * l.settings.cores
    → IsEndlessAt l new longest i → IsEndlessAt l old longest i
endless-from l old new longest i g lt h = (
  pair-inside l.settings.cores old i lt,
  h.1,
  subst (λ s. IsNext l (core_in s (i % l.settings.cores)) s.changes longest Endless) (pair-kept l.settings.cores old new i g lt) h.2,
)

-- n instructions of a core from this state end its transaction
abbrev IsTransaction : Contents → (core n : ℕ) → Snapshot → Type 0
IsTransaction l core n s = IsSomeAnd (transaction l.settings.base (program (started l)) (machine_of l s) core n) (λ r. Unit {0})

ends-to : (l : Contents) (old new : List Snapshot) (longest i : ℕ) → IsGrown old new → i < length old * l.settings.cores
    → EndsWithinAt l old longest i → EndsWithinAt l new longest i
ends-to l old new longest i g lt h =
    (h.0, h.1, subst (IsTransaction l (i % l.settings.cores) h.0) (sym (pair-kept l.settings.cores old new i g lt)) h.2)

ends-from : (l : Contents) (old new : List Snapshot) (longest i : ℕ) → IsGrown old new → i < length old * l.settings.cores
    → EndsWithinAt l new longest i → EndsWithinAt l old longest i
ends-from l old new longest i g lt h =
    (h.0, h.1, subst (IsTransaction l (i % l.settings.cores) h.0) (pair-kept l.settings.cores old new i g lt) h.2)

out-from : (l : Contents) (old new : List Snapshot) (longest i : ℕ) → IsGrown old new → i < length old * l.settings.cores
    → LeadsOutAt l new longest i → LeadsOutAt l old longest i
out-from l old new longest i g lt h =
    let c = i % l.settings.cores in (
      h.0,
      h.1,
      fewer (transaction_of l old (pair_at l.settings.cores i) h.0)
          (subst (λ s. IsSomeAnd (transaction l.settings.base (program (started l)) (machine_of l s) c h.0)
          (λ r. (k : ℕ) → k < length new → machine_of l (state_at new k) ≡ r.0 → ⊥)) (pair-kept l.settings.cores old new i g lt) h.2),
    )
  where
    kept : (k : ℕ) → k < length old → state_at new k ≡ state_at old k
    kept k below = ap (λ x. state_at x k) g.1 ∙ state-kept old g.0 k below

    fewer : (x : Option (Plain × Attempt)) → IsSomeAnd x (λ r. (k : ℕ) → k < length new → machine_of l (state_at new k) ≡ r.0 → ⊥)
        → IsSomeAnd x (λ r. (k : ℕ) → k < length old → machine_of l (state_at old k) ≡ r.0 → ⊥)
    fewer None out = absurd out
    fewer (Some r) out = λ k below same.
        let more = grown-longer old new g in
        let there : k < length new = omega (arith, below, more) in
        out k there (ap (machine_of l) (kept k below) ∙ same)

pub wide : (a b cores : ℕ) → a ≤ b → a * cores ≤ b * cores
wide a b cores le = grind (arith, le)

wider : (a b n cores : ℕ) → a ≤ b → n ≤ a * cores → n ≤ b * cores
wider a b n cores le h =
    let more = wide a b cores le in
    omega (arith, h, more)

pub tried-grown : (l : Contents) (old new : List Snapshot) (longest n transactions endless : ℕ) (at : Option Pair) → IsGrown old new
    → AreTried l old longest n None transactions endless at → AreTried l new longest n None transactions endless at
tried-grown l old new longest n transactions endless at g h =
    let below : (i : ℕ) → i < n → i < length old * l.settings.cores = λ i lt. let le = h.inside in omega (arith, lt, le) in
    record {
      inside = wider (length old) (length new) n l.settings.cores (grown-longer old new g) h.inside;
      out_first = λ i lt out. h.out_first i lt (out-from l old new longest i g (below i lt) out);
      counted = count-alike (EndsWithinAt l old longest) (EndsWithinAt l new longest) n transactions
          (λ i lt. ends-to l old new longest i g (below i lt)) (λ i lt. ends-from l old new longest i g (below i lt)) h.counted;
      endless_counted = count-alike (IsEndlessAt l old longest) (IsEndlessAt l new longest) n endless
          (λ i lt. endless-to l old new longest i g (below i lt)) (λ i lt. endless-from l old new longest i g (below i lt))
          h.endless_counted;
      endless_first = first-pair-same (IsEndlessAt l old longest) (IsEndlessAt l new longest) l.settings.cores n at
          (λ i lt. endless-to l old new longest i g (below i lt)) (λ i lt. endless-from l old new longest i g (below i lt)) h.endless_first;
    }

-- the transaction of a pair ends or doesn't, and not both
pub ends-once : (l : Contents) (states : List Snapshot) (longest : ℕ) (pair : Pair) → EndsWithin l states longest pair
    → IsEndless l states longest pair → ⊥
unfolding machine_of
ends-once l states longest pair ends endless =
    not-yet l.settings.base (program (started l)) (machine_of l (state_at states pair.state)) pair.core.0 ends.0 longest ends.1
    endless.2.1 ends.2

out-ends : (l : Contents) (states : List Snapshot) (longest : ℕ) (pair : Pair) → LeadsOut l states longest pair
    → EndsWithin l states longest pair
out-ends l states longest pair h = (h.0, h.1, go (transaction_of l states pair h.0) h.2)
  where
    go : (x : Option (Plain × Attempt)) → IsSomeAnd x (λ r. (k : ℕ) → k < length states → machine_of l (state_at states k) ≡ r.0 → ⊥)
        → IsSomeAnd x (λ r. Unit {0})
    go None e = absurd e
    go (Some r) e = tt

pub stopped-ends : (l : Contents) (states : List Snapshot) (longest k c : ℕ) → ((core_in (state_at states k) c).ended ≡ Run → ⊥)
    → EndsWithin l states longest (pair_of k c) → ⊥
stopped-ends l states longest k c stopped h =
    subst (λ x. IsSomeAnd x (λ r. Unit {0})) (no-transaction l (state_at states k) c h.0 stopped) h.2

-- where an edge tells where the transaction leads, it doesn't lead out
pub edged-into : (l : Contents) (states : List Snapshot) (edges : List Edge) (longest k c : ℕ) → IsEdgedAt l states edges k c
    → LeadsOut l states longest (pair_of k c) → ⊥
unfolding IsEdgedAt
edged-into l states edges longest k c edged h = go (transaction_of l states (pair_of k c) h.0) (edged h.0) h.2
  where
    go : (x : Option (Plain × Attempt)) → IfSome x (λ r. HasEdge l states edges k r.0)
        → IsSomeAnd x (λ r. (j : ℕ) → j < length states → machine_of l (state_at states j) ≡ r.0 → ⊥) → ⊥
    go None e out = absurd out
    go (Some r) e out = out (edge_at edges e.edge).to e.inside e.to

one-inside : (k c count cores : ℕ) → k < count → c < cores → k * cores + c + 1 ≤ count * cores
one-inside k c count cores lt core =
    let le : suc k * cores ≤ count * cores = wide (suc k) count cores (omega (arith, lt)) in
    omega (arith, le, core)

-- the pair k, c is tried next: its core has halted
pub tried-stopped : (l : Contents) (states : List Snapshot) (longest k c transactions endless : ℕ) (at : Option Pair)
    → k < length states → c < l.settings.cores → ((core_in (state_at states k) c).ended ≡ Run → ⊥)
    → AreTried l states longest (k * l.settings.cores + c) None transactions endless at
    → AreTried l states longest (k * l.settings.cores + c + 1) None transactions endless at
tried-stopped l states longest k c transactions endless at lt core stopped h =
    let n = k * l.settings.cores + c in
    let pair = pair-is l.settings.cores k c core in
    let ends : EndsWithinAt l states longest n → ⊥ = λ e.
    stopped-ends l states longest k c stopped (subst (EndsWithin l states longest) pair e) in
    let goes : IsEndlessAt l states longest n → ⊥ = λ e. stopped (subst (IsEndless l states longest) pair e).2.0 in
    record {
      inside = one-inside k c (length states) l.settings.cores lt core;
      out_first = first-no-more (LeadsOutAt l states longest) n None
          (λ e. ends (out-ends l states longest (pair_at l.settings.cores n) e)) h.out_first;
      counted = count-same (EndsWithinAt l states longest) n transactions ends h.counted;
      endless_counted = count-same (IsEndlessAt l states longest) n endless goes h.endless_counted;
      endless_first = first-pair-no_more (IsEndlessAt l states longest) l.settings.cores n at goes h.endless_first;
    }

-- or its transaction doesn't end
pub tried-endless : (l : Contents) (states : List Snapshot) (longest k c transactions endless now : ℕ) (at first : Option Pair)
    → k < length states → c < l.settings.cores → IsNext l (core_in (state_at states k) c) (state_at states k).changes longest Endless
    → now ≡ min (endless + 1) (2 ^ 64 - 1) → IfSome at (λ known. first ≡ Some known) → IfNone at (first ≡ Some (pair_of k c))
    → AreTried l states longest (k * l.settings.cores + c) None transactions endless at
    → AreTried l states longest (k * l.settings.cores + c + 1) None transactions now first
tried-endless l states longest k c transactions endless now at first lt core next is kept new h =
    let n = k * l.settings.cores + c in
    let pair = pair-is l.settings.cores k c core in
    let goes : IsEndlessAt l states longest n = subst (IsEndless l states longest) (sym pair) (lt, core, next) in
    let ends : EndsWithinAt l states longest n → ⊥ = λ e. ends-once l states longest (pair_at l.settings.cores n) e goes in
    record {
      inside = one-inside k c (length states) l.settings.cores lt core;
      out_first = first-no-more (LeadsOutAt l states longest) n None
          (λ e. ends (out-ends l states longest (pair_at l.settings.cores n) e)) h.out_first;
      counted = count-same (EndsWithinAt l states longest) n transactions ends h.counted;
      endless_counted = count-more (IsEndlessAt l states longest) n endless now goes is h.endless_counted;
      endless_first = first-pair-more (IsEndlessAt l states longest) l.settings.cores n at first goes kept
          (subst (λ p. IfNone at (first ≡ Some p)) (sym pair) new) h.endless_first;
    }

tried-end : (n : ℕ) (full : Bool) → tried_of (n + 1) (out_if full n) ≡ n + 1
tried-end n false = refl
tried-end n true = refl

-- or it ends, and leads into the states or out of them
pub tried-ends : (l : Contents) (states : List Snapshot) (longest k c transactions endless now : ℕ) (at : Option Pair) (full : Bool)
    → k < length states → c < l.settings.cores → EndsWithin l states longest (pair_of k c)
    → (full ≡ false → LeadsOut l states longest (pair_of k c) → ⊥) → (full ≡ true → LeadsOut l states longest (pair_of k c))
    → now ≡ min (transactions + 1) (2 ^ 64 - 1)
    → AreTried l states longest (k * l.settings.cores + c) None transactions endless at
    → AreTried l states longest (k * l.settings.cores + c + 1) (out_if full (k * l.settings.cores + c)) now endless at
tried-ends l states longest k c transactions endless now at full lt core ends into out is h = record {
  inside = one-inside k c (length states) l.settings.cores lt core;
  out_first = out_first full into out;
  counted = subst (λ m. IsCount (EndsWithinAt l states longest) m now) (sym (tried-end n full))
      (count-more (EndsWithinAt l states longest) n transactions now ends' is h.counted);
  endless_counted = subst (λ m. IsCount (IsEndlessAt l states longest) m endless) (sym (tried-end n full))
      (count-same (IsEndlessAt l states longest) n endless goes h.endless_counted);
  endless_first = subst (λ m. IsFirstPair (IsEndlessAt l states longest) l.settings.cores m at) (sym (tried-end n full))
      (first-pair-no_more (IsEndlessAt l states longest) l.settings.cores n at goes h.endless_first);
}
  where
    n : ℕ
    n = k * l.settings.cores + c

    pair : pair_at l.settings.cores n ≡ pair_of k c
    pair = pair-is l.settings.cores k c core

    ends' : EndsWithinAt l states longest n
    ends' = subst (EndsWithin l states longest) (sym pair) ends

    goes : IsEndlessAt l states longest n → ⊥
    goes e = ends-once l states longest (pair_at l.settings.cores n) ends' e

    out_first : (b : Bool) → (b ≡ false → LeadsOut l states longest (pair_of k c) → ⊥)
        → (b ≡ true → LeadsOut l states longest (pair_of k c)) → IsFirst (LeadsOutAt l states longest) (n + 1) (out_if b n)
    out_first false into' out' = first-no-more (LeadsOutAt l states longest) n None
        (λ e. into' refl (subst (LeadsOut l states longest) pair e)) h.out_first
    out_first true into' out' = (omega arith, subst (LeadsOut l states longest) (sym pair) (out' refl), h.out_first)

-- what the transaction of a core leads to
pub leads-ends : (l : Contents) (old new : List Snapshot) (k c longest n : ℕ) (after : CoreState) (left : List (ℕ × ℕ))
    → AreFound l old → k < length old → c < l.settings.cores
    → IsNext l (core_in (state_at old k) c) (state_at old k).changes longest (Leads n after left) → IsGrown old new
    → EndsWithin l new longest (pair_of k c)
leads-ends l old new k c longest n after left found lt core next g =
    let s = state_at old k in
    let inside : c < length s.cores = rw (sized-at l old k found lt) core in
    let same : state_at new k ≡ s = ap (λ x. state_at x k) g.1 ∙ state-kept old g.0 k lt in (
      n,
      next.0,
      subst (IsTransaction l c n) (sym same)
          (subst (λ x. IsSomeAnd x (λ r. Unit {0})) (sym (leads-transaction l s c n after left inside next.2)) tt),
    )

pub leads-out : (l : Contents) (old new : List Snapshot) (k c limit longest n : ℕ) (after : CoreState) (left : List (ℕ × ℕ))
    (place : Place) → AreFound l old → k < length old → c < l.settings.cores
    → IsNext l (core_in (state_at old k) c) (state_at old k).changes longest (Leads n after left)
    → IsPlaced old new (after_core (state_at old k) c after left) limit place → place ≡ Full → LeadsOut l new longest (pair_of k c)
leads-out l old new k c limit longest n after left place found lt core next placed is =
    let s = state_at old k in
    let s' = after_core s c after left in
    let full = subst (IsPlaced old new s' limit) is placed in
    let inside : c < length s.cores = rw (sized-at l old k found lt) core in
    let sized : length s'.cores ≡ l.settings.cores = length-set s.cores c after ∙ sized-at l old k found lt in
    subst (λ x. LeadsOut l x longest (pair_of k c)) (sym full.0) (
      n,
      next.0,
      subst (λ x. IsSomeAnd x (λ r. (j : ℕ) → j < length old → machine_of l (state_at old j) ≡ r.0 → ⊥))
          (sym (leads-transaction l s c n after left inside next.2)) (no-machine l old s' found sized next.3 full.2),
    )

-- before the first pair nothing is noted
pub none-tried : (l : Contents) (states : List Snapshot) (longest : ℕ) → AreTried l states longest 0 None 0 0 None
none-tried l states longest = record {
  inside = omega arith;
  out_first = λ k lt out. omega (arith, lt);
  counted = (0, none-yet (EndsWithinAt l states longest), refl);
  endless_counted = (0, none-yet (IsEndlessAt l states longest), refl);
  endless_first = λ k lt h. omega (arith, lt);
}

-- further pairs after one that leads out aren't tried
pub tried-further : (l : Contents) (states : List Snapshot) (longest n m : ℕ) (full : Bool) (transactions endless : ℕ) (at : Option Pair)
    → full ≡ true → n ≤ m → m ≤ length states * l.settings.cores → AreTriedTo l states longest n full transactions endless at
    → AreTriedTo l states longest m full transactions endless at
tried-further l states longest n m full transactions endless at is le inside (None, some, h) = absurd (false≢true (some ∙ is))
tried-further l states longest n m full transactions endless at is le inside (Some i, some, h) = (
  Some i,
  some,
  record {
    inside = inside;
    out_first = (omega (arith, h.out_first.0, le), h.out_first.1, h.out_first.2);
    counted = h.counted;
    endless_counted = h.endless_counted;
    endless_first = h.endless_first;
  },
)

pub tried-all : (l : Contents) (states : List Snapshot) (longest n : ℕ) (full : Bool) (transactions endless : ℕ) (at : Option Pair)
    → full ≡ false → AreTriedTo l states longest n full transactions endless at → AreTried l states longest n None transactions endless at
tried-all l states longest n full transactions endless at is (None, some, h) = h
tried-all l states longest n full transactions endless at is (Some i, some, h) = absurd (false≢true (sym (some ∙ is)))

-- the next pair of the same state
pub tried-next : (l' l : Contents) (states : List Snapshot) (longest k c : ℕ) (full : Bool) (transactions endless : ℕ) (at : Option Pair)
    → l' ≡ l → full ≡ false
    → AreTried l' states longest (k * l.settings.cores + c + 1) (out_if full (k * l.settings.cores + c)) transactions endless at
    → AreTried l' states longest (k * l'.settings.cores + (c + 1)) None transactions endless at
tried-next l' l states longest k c full transactions endless at same is h =
    let i = k * l.settings.cores + c in
    let later : i + 1 ≡ k * l.settings.cores + (c + 1) = omega arith in
    subst (λ (x : Contents). AreTried l' states longest (k * x.settings.cores + (c + 1)) None transactions endless at) (sym same)
    (subst (λ n. AreTried l' states longest n None transactions endless at) later
    (subst (λ b. AreTried l' states longest (i + 1) (out_if b i) transactions endless at) is h))

row-end : (k cores : ℕ) → k * cores + cores ≡ (k + 1) * cores
row-end k cores = grind arith

-- the pairs of a state are tried, up to one that leads out
pub tried-row : (l' l : Contents) (states : List Snapshot) (longest k c : ℕ) (transactions endless : ℕ) (at : Option Pair)
    → l' ≡ l → c ≡ l.settings.cores → AreTried l' states longest (k * l'.settings.cores + c) None transactions endless at
    → AreTriedTo l' states longest ((k + 1) * l.settings.cores) false transactions endless at
tried-row l' l states longest k c transactions endless at same last h =
    let cores : l'.settings.cores ≡ l.settings.cores = ap (λ (x : Contents). x.settings.cores) same in (
      None,
      refl,
      subst (λ n. AreTried l' states longest n None transactions endless at)
          (ap (λ x. k * x + c) cores ∙ ap (λ x. k * l.settings.cores + x) last ∙ row-end k l.settings.cores) h,
    )

pub tried-cut : (l' l : Contents) (states : List Snapshot) (longest k c : ℕ) (full : Bool) (transactions endless : ℕ) (at : Option Pair)
    → l' ≡ l → full ≡ true → k < length states → c < l.settings.cores
    → AreTried l' states longest (k * l.settings.cores + c + 1) (out_if full (k * l.settings.cores + c)) transactions endless at
    → AreTriedTo l' states longest ((k + 1) * l.settings.cores) true transactions endless at
tried-cut l' l states longest k c full transactions endless at same is lt core h =
    let i = k * l.settings.cores + c in
    let cores : l'.settings.cores ≡ l.settings.cores = ap (λ (x : Contents). x.settings.cores) same in
    let row = row-end k l.settings.cores in
    let inside : (k + 1) * l.settings.cores ≤ length states * l.settings.cores =
    wide (k + 1) (length states) l.settings.cores (omega (arith, lt)) in
    let later : i + 1 ≤ (k + 1) * l.settings.cores = omega (arith, row, core) in
    tried-further l' states longest (i + 1) ((k + 1) * l.settings.cores) true transactions endless at refl later (rw cores inside)
    (Some i, refl, subst (λ b. AreTried l' states longest (i + 1) (out_if b i) transactions endless at) is h)

pub has-tried : (limits : Limits) (e : Explored) (full : Bool)
    → AreTriedTo e.loaded e.states limits.longest (length e.states * e.loaded.settings.cores) full e.transactions e.endless e.endless_at
    → (full ≡ true → length e.states ≡ limits.states) → (full ≡ false → e.done ≡ (e.endless == 0)) → (full ≡ true → e.done ≡ false)
    → HasTried limits e
has-tried limits e full (None, some, h) limit whole cut = record { out = None; tried = h; full = tt; done = whole (sym some) }
has-tried limits e full (Some i, some, h) limit whole cut =
    record { out = Some i; tried = h; full = limit (sym some); done = cut (sym some) }
