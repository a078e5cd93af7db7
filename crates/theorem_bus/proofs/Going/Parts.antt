-- The useful events core by core: of each its Exec, its evictions in the set in which it waits for room, and its Take.
use Rattle.std.specs.Prelude.{ℕ, zero, suc, ◌≡◌, ◌<◌, ◌≤◌, Bool, true, false, ◌&&◌, ◌||◌, ◌==◌, not, List, [], ◌∷◌, ◌++◌, map, filter}
use Rattle.std.specs.Prelude.{Option, Some, None, is_some, IfSome, nat_lt, if◌then◌else◌}
use Rattle.std.specs.List.{flat_map}
use Rattle.std.proofs.Common.{arith, append-nil, refl, ap, sym, ◌∙◌, cond, inl, inr}
use Rattle.std.proofs.lemmas.Bool.{cases_eq, lt-ltb}
use Rattle.std.proofs.lemmas.Bool.Decides.{nat_tests}
use Rattle.std.proofs.lemmas.Grind.{flat_map-append}
use Rattle.std.proofs.lemmas.List.{map-append}
use Rattle.std.proofs.lemmas.List.Elements.{filter-append}
use Rattle.tcc_base.specs.declared.access.Size.TheVariants.{Byte, Half, Word}
use Rattle.base_lemmas.proofs.Lemmas.{and-true, filter-flat, flat-nothing}
use Rattle.rules_maps.specs.Cache.{free_way, all_marked}
use Rattle.rules_maps.specs.Shape.{Shape, set_of}
use Rattle.rules_maps.specs.Spilled.{holds}
use Rattle.rules_maps.specs.Words.{line_of, those}
use Rattle.rules_program.specs.Program.{Need, Nothing, Loads, Stores, Changes, Prints, Ends, Halts, Traps, Program}
use Rattle.rules_program.specs.Ram.{word_of}
use Rattle.rules_tcc.specs.Attempt.{Out, is_solo}
use Rattle.rules_tcc.specs.CoreEvict.{core_evict}
use Rattle.rules_tcc.specs.Seen.{numbers}
use Rattle.rules_tcc.specs.State.{CoreState, Awaited, Phase, Running, Solo}
use Rattle.rules_tcc.specs.Useful.{is_this_set, room, room_for_line, room_for_need, room_for_store, room_for_word, room_in_phase}
use Rattle.rules_tcc.specs.Useful.{room_unless_awaiting}
use Rattle.rules_bus.specs.Exec.{bus_exec}
use Rattle.rules_bus.specs.State.{BusEvent, BusWorld, Exec, Evict, Take}
use Rattle.rules_bus.specs.Step.{bus_names, bus_step, if_evicted}
use Rattle.rules_bus.specs.Take.{bus_take}
use Rattle.rules_bus.specs.Useful.{bus_evicts, bus_execs, bus_is_useful, bus_takes, bus_useful}

-- ---- lists

each-filter : {A B : Type 0} (t : B → Bool) (g : A → B) (xs : List A) → filter t (map g xs) ≡ flat_map (λ x. filter t (g x ∷ [])) xs
each-filter t g [] = refl
each-filter t g (x ∷ xs) = by (t (g x)) (each-filter t g xs)
  where
    by : (b : Bool) → filter t (map g xs) ≡ flat_map (λ y. filter t (g y ∷ [])) xs
        → cond b (g x ∷ filter t (map g xs)) (filter t (map g xs))
        ≡ cond b (g x ∷ []) [] ++ flat_map (λ y. filter t (g y ∷ [])) xs
    by true e = ap (λ ys. g x ∷ ys) e
    by false e = e

pub flat-same : {A : Type 0} (f g : ℕ → List A) (n : ℕ) → ((k : ℕ) → k < n → f k ≡ g k) → flat_map f (numbers n) ≡ flat_map g (numbers n)
unfolding those
flat-same f g zero h = refl
flat-same f g (suc n) h =
    flat_map-append f (numbers n) (n ∷ [])
    ∙ ap (λ ys. ys ++ (f n ++ [])) (flat-same f g n (λ k l. h k (omega arith)))
    ∙ ap (λ ys. flat_map g (numbers n) ++ (ys ++ [])) (h n (omega arith))
    ∙ sym (flat_map-append g (numbers n) (n ∷ []))

-- one of the numbers has a list
flat-one : {A : Type 0} (f : ℕ → List A) (z n : ℕ)
    → flat_map (λ x. if z == x then f x else []) (numbers n) ≡ (if nat_lt z n then f z else [])
unfolding those
flat-one f z zero = let e : nat_lt z 0 ≡ false = grind (arith, nat_tests) in rw e refl
flat-one f z (suc n) = flat_map-append (λ x. if z == x then f x else []) (numbers n) (n ∷ [])
    ∙ ap (λ ys. ys ++ ((if z == n then f n else []) ++ [])) (flat-one f z n) ∙ elim (cases_eq z n) [
      | inl e ↦ (let a : nat_lt n n ≡ false = grind (arith, nat_tests) in
          let b : (n == n) ≡ true = grind (arith, nat_tests) in
          let d : nat_lt n (suc n) ≡ true = grind (arith, nat_tests) in
          rw e (rw (a, b, d) (append-nil (f n))))
      | inr m ↦ (let b : (z == n) ≡ false = grind (arith, nat_tests) in
          let d : nat_lt z (suc n) ≡ nat_lt z n = grind (arith, nat_tests) in
          rw (b, d) (append-nil (if nat_lt z n then f z else [])))
    ]

-- a test of numbers below a bound, and one more
filter-both : {A : Type 0} (t : A → Bool) (g : ℕ → A) (q : ℕ → Bool) (b : Bool) (n : ℕ) → ((k : ℕ) → k < n → t (g k) ≡ (q k && b))
    → filter t (map g (numbers n)) ≡ (if b then map g (filter q (numbers n)) else [])
unfolding those
filter-both t g q true zero h = refl
filter-both t g q false zero h = refl
filter-both t g q b (suc n) h =
    ap (filter t) (map-append g (numbers n) (n ∷ []))
    ∙ filter-append t (map g (numbers n)) (g n ∷ [])
    ∙ ap (λ ys. ys ++ cond (t (g n)) (g n ∷ []) []) (filter-both t g q b n (λ k l. h k (omega arith)))
    ∙ ap (λ c. (if b then map g (filter q (numbers n)) else []) ++ cond c (g n ∷ []) []) (h n (omega arith))
    ∙ last b (q n)
    ∙ ap (λ ys. if b then map g ys else []) (sym (filter-append q (numbers n) (n ∷ [])))
  where
    last : (b r : Bool) → (if b then map g (filter q (numbers n)) else []) ++ cond (r && b) (g n ∷ []) []
        ≡ (if b then map g (filter q (numbers n) ++ cond r (n ∷ []) []) else [])
    last false true = refl
    last false false = refl
    last true true = sym (map-append g (filter q (numbers n)) (n ∷ []))
    last true false = sym (map-append g (filter q (numbers n)) [])

-- ---- the parts

-- all evictions of a core
abbrev pub evicts_of : Shape → ℕ → List BusEvent
evicts_of sh c = flat_map (λ x. map (λ y. Evict c x y) (numbers sh.ways)) (numbers sh.sets)

-- what is useful of some events of each core
abbrev pub useful_by : Shape → Program → BusWorld → (ℕ → List BusEvent) → List BusEvent
useful_by sh p w f = flat_map (λ c. filter (bus_is_useful sh p w) (f c)) (numbers sh.cores)

bus-parts : (sh : Shape) (p : Program) (w : BusWorld) → bus_useful sh p w
    ≡ useful_by sh p w (λ c. Exec c ∷ []) ++ (useful_by sh p w (evicts_of sh) ++ useful_by sh p w (λ c. Take c ∷ []))
unfolding bus_useful bus_execs bus_evicts bus_takes
bus-parts sh p w =
    let t : BusEvent → Bool = bus_is_useful sh p w in
    let n : List ℕ = numbers sh.cores in
    filter-append t (map Exec n) (flat_map (evicts_of sh) n ++ map Take n)
    ∙ ap (λ ys. filter t (map Exec n) ++ ys) (filter-append t (flat_map (evicts_of sh) n) (map Take n))
    ∙ ap (λ ys. ys ++ (filter t (flat_map (evicts_of sh) n) ++ filter t (map Take n))) (each-filter t Exec n)
    ∙ ap (λ ys. useful_by sh p w (λ c. Exec c ∷ []) ++ (ys ++ filter t (map Take n))) (filter-flat t (evicts_of sh) n)
    ∙ ap (λ ys. useful_by sh p w (λ c. Exec c ∷ []) ++ (useful_by sh p w (evicts_of sh) ++ ys)) (each-filter t Take n)

-- ---- of one core

exec-useful : (sh : Shape) (p : Program) (w : BusWorld) (c : ℕ) → c < sh.cores
    → bus_is_useful sh p w (Exec c) ≡ is_some (bus_exec sh p w c)
unfolding bus_is_useful bus_step bus_names
exec-useful sh p w c l = rw (lt-ltb c sh.cores l) (and-true (is_some (bus_exec sh p w c)))

take-useful : (sh : Shape) (p : Program) (w : BusWorld) (c : ℕ) → c < sh.cores
    → bus_is_useful sh p w (Take c) ≡ is_some (bus_take sh w c)
unfolding bus_is_useful bus_step bus_names
take-useful sh p w c l = rw (lt-ltb c sh.cores l) (and-true (is_some (bus_take sh w c)))

pub evicted-some : (w : BusWorld) (c : ℕ) (o : Option Out) → is_some (if_evicted w c o) ≡ is_some o
evicted-some w c None = refl
evicted-some w c (Some o) = refl

evict-useful : (sh : Shape) (p : Program) (w : BusWorld) (c x y : ℕ) → c < sh.cores → x < sh.sets → y < sh.ways
    → bus_is_useful sh p w (Evict c x y) ≡ (is_some (core_evict sh x y (w.cores c)) && is_this_set (room sh p (w.cores c)) x)
unfolding bus_is_useful bus_step bus_names
evict-useful sh p w c x y l m n =
    rw (lt-ltb c sh.cores l, lt-ltb x sh.sets m, lt-ltb y sh.ways n)
    (ap (λ b. b && is_this_set (room sh p (w.cores c)) x) (evicted-some w c (core_evict sh x y (w.cores c))))

-- the set in which a core waits for room exists
line-below : (sh : Shape) (l : ℕ) (s : CoreState) → 1 ≤ sh.sets → IfSome (room_for_line sh l s) (λ x. x < sh.sets)
unfolding room_for_line
line-below sh l s h =
    by (s.cache.held l || is_some (free_way sh s.cache (set_of sh l))) (is_solo s.phase || not (all_marked sh s.cache (set_of sh l)))
  where
    by : (a b : Bool) → IfSome (if a then None else if b then Some (set_of sh l) else None) (λ x. x < sh.sets)
    by true b = tt
    by false true = omega arith
    by false false = tt

word-below : (sh : Shape) (w : ℕ) (s : CoreState) → 1 ≤ sh.sets → IfSome (room_for_word sh w s) (λ x. x < sh.sets)
unfolding room_for_word
word-below sh w s h = by (is_some (s.spilled w) || is_some (s.cache.value w))
  where
    by : (a : Bool) → IfSome (if a then None else room_for_line sh (line_of w) s) (λ x. x < sh.sets)
    by true = tt
    by false = line-below sh (line_of w) s h

store-below : (sh : Shape) (w : ℕ) (s : CoreState) → 1 ≤ sh.sets → IfSome (room_for_store sh w s) (λ x. x < sh.sets)
unfolding room_for_store
store-below sh w s h = by (holds s.spilled (line_of w))
  where
    by : (a : Bool) → IfSome (if a then None else room_for_line sh (line_of w) s) (λ x. x < sh.sets)
    by true = tt
    by false = line-below sh (line_of w) s h

need-below : (sh : Shape) (s : CoreState) (n : Need) → 1 ≤ sh.sets → IfSome (room_for_need sh s n) (λ x. x < sh.sets)
need-below sh s Nothing h = tt
need-below sh s (Loads addr size) h = word-below sh (word_of sh.base addr) s h
need-below sh s (Stores addr Word value) h = store-below sh (word_of sh.base addr) s h
need-below sh s (Stores addr Half value) h = word-below sh (word_of sh.base addr) s h
need-below sh s (Stores addr Byte value) h = word-below sh (word_of sh.base addr) s h
need-below sh s (Changes addr f) h = word-below sh (word_of sh.base addr) s h
need-below sh s (Prints byte) h = tt
need-below sh s Ends h = tt
need-below sh s (Halts code) h = tt
need-below sh s (Traps code) h = tt

pub room-below : (sh : Shape) (p : Program) (s : CoreState) → 1 ≤ sh.sets → IfSome (room sh p s) (λ x. x < sh.sets)
unfolding room
room-below sh p s h = by s.phase
  where
    at : (o : Option Awaited) → IfSome (room_unless_awaiting sh p s o) (λ x. x < sh.sets)
    at (Some a) = tt
    at None = need-below sh s (p.need s.local) h

    by : (q : Phase) → IfSome (room_in_phase sh p s q) (λ x. x < sh.sets)
    by Running = at s.awaited
    by (Solo t) = at s.awaited
    by _ = tt

-- the evictions in the set in which a core waits for room
abbrev pub evicts_in : Shape → CoreState → (core : ℕ) → Option ℕ → List BusEvent
evicts_in sh s c None = []
evicts_in sh s c (Some x) = map (λ y. Evict c x y) (filter (λ y. is_some (core_evict sh x y s)) (numbers sh.ways))

evicts-one : (sh : Shape) (p : Program) (w : BusWorld) (c : ℕ) → c < sh.cores → 1 ≤ sh.sets
    → filter (bus_is_useful sh p w) (evicts_of sh c) ≡ evicts_in sh (w.cores c) c (room sh p (w.cores c))
evicts-one sh p w c l h =
    filter-flat t (λ x. map (λ y. Evict c x y) (numbers sh.ways)) (numbers sh.sets)
    ∙ flat-same _ (λ x. if is_this_set (room sh p s) x then f x else []) sh.sets
    (λ x m. filter-both t (λ y. Evict c x y) (λ y. is_some (core_evict sh x y s)) (is_this_set (room sh p s) x) sh.ways
    (λ y n. evict-useful sh p w c x y l m n))
    ∙ by (room sh p s) (room-below sh p s h)
  where
    s : CoreState
    s = w.cores c

    t : BusEvent → Bool
    t = bus_is_useful sh p w

    f : ℕ → List BusEvent
    f x = map (λ y. Evict c x y) (filter (λ y. is_some (core_evict sh x y s)) (numbers sh.ways))

    by : (o : Option ℕ) → IfSome o (λ x. x < sh.sets)
        → flat_map (λ x. if is_this_set o x then f x else []) (numbers sh.sets) ≡ evicts_in sh s c o
    by None k = flat-nothing (λ x. if is_this_set None x then f x else []) (numbers sh.sets) (λ x. refl)
    by (Some z) k = flat-one f z sh.sets ∙ rw (lt-ltb z sh.sets k) refl

-- one event of a core, where it is enabled
abbrev pub one_if : Bool → BusEvent → List BusEvent
one_if b e = cond b (e ∷ []) []

-- all of it
pub useful-by_core : (sh : Shape) (p : Program) (w : BusWorld) → 1 ≤ sh.sets → bus_useful sh p w
    ≡ flat_map (λ c. one_if (is_some (bus_exec sh p w c)) (Exec c)) (numbers sh.cores)
    ++ (flat_map (λ c. evicts_in sh (w.cores c) c (room sh p (w.cores c))) (numbers sh.cores)
    ++ flat_map (λ c. one_if (is_some (bus_take sh w c)) (Take c)) (numbers sh.cores))
useful-by_core sh p w h =
    bus-parts sh p w
    ∙ ap (λ ys. ys ++ (useful_by sh p w (evicts_of sh) ++ useful_by sh p w (λ c. Take c ∷ [])))
    (flat-same _ execs sh.cores (λ c l. ap (λ b. one_if b (Exec c)) (exec-useful sh p w c l)))
    ∙ ap (λ ys. flat_map execs (numbers sh.cores) ++ (ys ++ useful_by sh p w (λ c. Take c ∷ [])))
    (flat-same _ (λ c. evicts_in sh (w.cores c) c (room sh p (w.cores c))) sh.cores (λ c l. evicts-one sh p w c l h))
    ∙ ap (λ ys. flat_map execs (numbers sh.cores)
    ++ (flat_map (λ c. evicts_in sh (w.cores c) c (room sh p (w.cores c))) (numbers sh.cores) ++ ys))
    (flat-same _ (λ c. one_if (is_some (bus_take sh w c)) (Take c)) sh.cores
    (λ c l. ap (λ b. one_if b (Take c)) (take-useful sh p w c l)))
  where
    execs : ℕ → List BusEvent
    execs c = one_if (is_some (bus_exec sh p w c)) (Exec c)
