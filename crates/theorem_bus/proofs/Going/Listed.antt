-- What holds of a list of events holds of each event that was listed.
use Rattle.std.specs.Prelude.{ℕ, zero, suc, ◌≡◌, ◌<◌, Bool, true, false, List, [], ◌∷◌, ◌++◌, map, filter, if◌then◌else◌}
use Rattle.std.specs.List.{flat_map}
use Rattle.std.proofs.Common.{arith, refl, ◌⊎◌, inl, inr}
use Rattle.std.proofs.lemmas.Bool.{cases_eq}
use Rattle.rules_maps.specs.Words.{those}
use Rattle.rules_maps.specs.Shape.{Shape}
use Rattle.rules_program.specs.Program.{Program}
use Rattle.rules_tcc.specs.Seen.{numbers}
use Rattle.rules_bus.specs.State.{BusWorld, BusEvent, Exec, Evict, Take}
use Rattle.rules_bus.specs.Useful.{bus_is_useful, bus_execs, bus_evicts, bus_takes, bus_useful}

abbrev pub Each : {A : Type 0} → (A → Type 0) → List A → Type 0
Each P [] = Unit {0}
Each P (x ∷ xs) = P x × Each P xs

each-left : {A : Type 0} (P : A → Type 0) (xs ys : List A) → Each P (xs ++ ys) → Each P xs
each-left P [] ys k = tt
each-left P (x ∷ xs) ys k = (k.0, each-left P xs ys (k.1))

each-right : {A : Type 0} (P : A → Type 0) (xs ys : List A) → Each P (xs ++ ys) → Each P ys
each-right P [] ys k = k
each-right P (x ∷ xs) ys k = each-right P xs ys (k.1)

each-map : {A B : Type 0} (P : B → Type 0) (f : A → B) (xs : List A) → Each P (map f xs) → Each (λ x. P (f x)) xs
each-map P f [] k = tt
each-map P f (x ∷ xs) k = (k.0, each-map P f xs (k.1))

each-flat : {A B : Type 0} (P : B → Type 0) (f : A → List B) (xs : List A) → Each P (flat_map f xs) → Each (λ x. Each P (f x)) xs
each-flat P f [] k = tt
each-flat P f (x ∷ xs) k = (each-left P (f x) (flat_map f xs) k, each-flat P f xs (each-right P (f x) (flat_map f xs) k))

-- each number below n is listed
each-number : (P : ℕ → Type 0) (n : ℕ) → Each P (numbers n) → (k : ℕ) → k < n → P k
unfolding those
each-number P zero k i l = absurd (omega arith)
each-number P (suc n) k i l = go (cases_eq i n) (λ m. each-number P n (each-left P (numbers n) (n ∷ []) k) i m)
  where
    go : (i ≡ n) ⊎ (i ≡ n → ⊥) → (i < n → P i) → P i
    go (inl e) f = rw e (each-right P (numbers n) (n ∷ []) k).0
    go (inr d) f = f (omega arith)

-- where nothing passes the test
each-fails : {A : Type 0} (p : A → Bool) (xs : List A) → filter p xs ≡ [] → Each (λ x. p x ≡ false) xs
each-fails p [] e = tt
each-fails p (x ∷ xs) e = go (p x) refl e (λ f. each-fails p xs f)
  where
    go : (b : Bool) → p x ≡ b → (if b then x ∷ filter p xs else filter p xs) ≡ []
        → (filter p xs ≡ [] → Each (λ x. p x ≡ false) xs) → (p x ≡ false) × Each (λ x. p x ≡ false) xs
    go true q f g = absurd (cc)
    go false q f g = (q, g f)

-- no event of the machine is useful
pub record NoneUseful (sh : Shape) (p : Program) (w : BusWorld) : Type 0 where
  pub execs : (c : ℕ) → c < sh.cores → bus_is_useful sh p w (Exec c) ≡ false
  pub evicts : (c x y : ℕ) → c < sh.cores → x < sh.sets → y < sh.ways → bus_is_useful sh p w (Evict c x y) ≡ false
  pub takes : (c : ℕ) → c < sh.cores → bus_is_useful sh p w (Take c) ≡ false

pub none-useful : (sh : Shape) (p : Program) (w : BusWorld) → bus_useful sh p w ≡ [] → NoneUseful sh p w
unfolding bus_useful bus_execs bus_evicts bus_takes
none-useful sh p w e = record {
  execs = each-number (λ c. F (Exec c)) sh.cores (each-map F Exec (numbers sh.cores) (each-left F (bus_execs sh) rest all));
  evicts = λ c x y l i j. each-number (λ y. F (Evict c x y)) sh.ways (each-map F (λ y. Evict c x y) (numbers sh.ways)
      (each-number (λ x. Each F (map (λ y. Evict c x y) (numbers sh.ways))) sh.sets
      (each-flat F (λ x. map (λ y. Evict c x y) (numbers sh.ways)) (numbers sh.sets)
      (each-number (λ c. Each F (flat_map (λ x. map (λ y. Evict c x y) (numbers sh.ways)) (numbers sh.sets))) sh.cores
      (each-flat F (λ c. flat_map (λ x. map (λ y. Evict c x y) (numbers sh.ways)) (numbers sh.sets)) (numbers sh.cores)
      (each-left F (bus_evicts sh) (bus_takes sh) more)) c l)) x i)) y j;
  takes = each-number (λ c. F (Take c)) sh.cores (each-map F Take (numbers sh.cores) (each-right F (bus_evicts sh) (bus_takes sh) more));
}
  where
    F : BusEvent → Type 0
    F e = bus_is_useful sh p w e ≡ false

    rest : List BusEvent
    rest = bus_evicts sh ++ bus_takes sh

    all : Each F (bus_execs sh ++ rest)
    all = each-fails (bus_is_useful sh p w) (bus_execs sh ++ rest) e

    more : Each F rest
    more = each-right F (bus_execs sh) rest all
