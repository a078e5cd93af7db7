-- The sets that an event reaches, as the code lists them.
use Rattle.std.proofs.Common.{◌≡◌, ℕ, suc, ◌+◌, ◌<◌, ◌==◌, ◌||◌, Bool, true, false, List, [], ◌∷◌, ◌++◌, get_or, Option, Some}
use Rattle.std.proofs.Common.{None, IfSome}
use Rattle.std.proofs.Common.{refl, ap, subst, sym, ◌∙◌, arith}
use Rattle.std.proofs.lemmas.Bool.Decides.{nat_tests}
use Rattle.std.proofs.lemmas.List.Elements.{Contains-get_or}
use Rattle.std.specs.List.{All}
use Rattle.std.specs.Option.{option_map, option_to_list}
use Rattle.tcc_base.specs.declared.names.LineAddr.{LineAddr}
use Rattle.base_lemmas.proofs.Lemmas.{those-same}
use Rattle.rules_maps.specs.Cache.{Cache, IsCache}
use Rattle.rules_maps.specs.CacheUse.{is_number}
use Rattle.rules_maps.specs.Shape.{Shape, set_of}
use Rattle.rules_maps.specs.Words.{any_below, those}
use Rattle.rules_maps.proofs.Lemmas.{any_below-found, those-only}
use Rattle.spec_cache.specs.MarkedSets.{has_marked}
use Rattle.watch_changes.specs.Touched.{NoMore, Marked, Every, may_hold, reaches}
use Rattle.watch_changes.proofs.Listing.{alone-inside, those-none}

-- in a machine's cache a line is in a way of its own set alone
number-is : (o : Option ℕ) (l : ℕ) → is_number o l ≡ true → o ≡ Some l
number-is None l e = absurd (cc)
number-is (Some m) l e = let same : m ≡ l = grind (arith, nat_tests) in ap Some same

pub own-set : (sh : Shape) (c : Cache) (l x : ℕ) → IsCache sh c → may_hold sh c (Some l) x ≡ (set_of sh l == x)
own-set sh c l x k = go (set_of sh l == x) (any_below (λ y. is_number (c.at x y) l) sh.ways) refl refl
  where
    go : (a b : Bool) → (set_of sh l == x) ≡ a → any_below (λ y. is_number (c.at x y) l) sh.ways ≡ b → (a || b) ≡ a
    go true b p q = refl
    go false false p q = refl
    go false true p q = absurd (
        let y = any_below-found (λ y. is_number (c.at x y) l) sh.ways q in
        let here : x ≡ set_of sh l = (k.placed x y.0 l (number-is (c.at x y.0) l y.2)).0 in
        grind (arith, nat_tests)
        )

-- ---- of the line alone

lone : (sh : Shape) (c : Cache) (l : ℕ) → IsCache sh c → set_of sh l < sh.sets
    → those (reaches sh c (record { line = Some l; more = NoMore })) sh.sets ≡ set_of sh l ∷ []
unfolding reaches
lone sh c l k b =
    those-same (λ x. may_hold sh c (Some l) x || false) (λ x. x == set_of sh l) sh.sets
    (λ x h. both (may_hold sh c (Some l) x) (set_of sh l == x) (x == set_of sh l) (own-set sh c l x k) (turned (set_of sh l) x))
    ∙ alone-inside (set_of sh l) sh.sets b
  where
    turned : (a b : ℕ) → (a == b) ≡ (b == a)
    turned a b = grind (arith, nat_tests)

    both : (a b d : Bool) → a ≡ b → b ≡ d → (a || false) ≡ d
    both true b d e f = e ∙ f
    both false b d e f = e ∙ f

none : (sh : Shape) (c : Cache) → those (reaches sh c (record { line = None; more = NoMore })) sh.sets ≡ []
unfolding reaches
none sh c = those-none sh.sets

pub one-reached : (sh : Shape) (c : Cache) (line : Option LineAddr) (set : Option ℕ) → set ≡ option_map (λ l. set_of sh l.0) line
    → IfSome set (λ x. x < sh.sets) → IfSome line (λ l. IsCache sh c)
    → option_to_list set ≡ those (reaches sh c (record { line = option_map (λ l. l.0) line; more = NoMore })) sh.sets
one-reached sh c None set e b k = ap (λ o. option_to_list o) e ∙ sym (none sh c)
one-reached sh c (Some l) set e b k =
    let below : IfSome (Some (set_of sh l.0)) (λ x. x < sh.sets) = subst (λ (o : Option ℕ). IfSome o (λ x. x < sh.sets)) e b in
    ap (λ o. option_to_list o) e ∙ sym (lone sh c l.0 k below)

-- ---- of the line and the marked ones

pub marked-reached : (sh : Shape) (c : Cache) (line : Option LineAddr) (set : Option ℕ) → set ≡ option_map (λ l. set_of sh l.0) line
    → IfSome line (λ l. IsCache sh c)
    → those (λ x. is_number set x || has_marked sh c x) sh.sets
    ≡ those (reaches sh c (record { line = option_map (λ l. l.0) line; more = Marked })) sh.sets
unfolding reaches
marked-reached sh c None set e k = ap (λ o. those (λ x. is_number o x || has_marked sh c x) sh.sets) e
marked-reached sh c (Some l) set e k =
    ap (λ o. those (λ x. is_number o x || has_marked sh c x) sh.sets) e
    ∙ those-same (λ x. set_of sh l.0 == x || has_marked sh c x) (λ x. may_hold sh c (Some l.0) x || has_marked sh c x) sh.sets
    (λ x h. ap (λ b. b || has_marked sh c x) (sym (own-set sh c l.0 x k)))

-- ---- all

every : (sh : Shape) (c : Cache) (o : Option ℕ) (x : ℕ) → true ≡ reaches sh c (record { line = o; more = Every }) x
unfolding reaches
every sh c o x = go (may_hold sh c o x)
  where
    go : (a : Bool) → true ≡ (a || true)
    go true = refl
    go false = refl

pub every-reached : (sh : Shape) (c : Cache) (o : Option ℕ)
    → those (λ x. true) sh.sets ≡ those (reaches sh c (record { line = o; more = Every })) sh.sets
every-reached sh c o =
    those-same (λ x. true) (reaches sh c (record { line = o; more = Every })) sh.sets (λ x h. every sh c o x)

pub every-more : (n : ℕ) → those (λ x. true) (n + 1) ≡ those (λ x. true) n ++ n ∷ []
unfolding those
every-more n = let e : n + 1 ≡ suc n = omega arith in ap (λ m. those (λ x. true) m) e

-- ---- all are sets of the cache

pub sets-inside : (xs : List ℕ) (p : ℕ → Bool) (n : ℕ) → xs ≡ those p n → All (λ x. x < n) xs
sets-inside xs p n e = λ k d h.
    let has = Contains-get_or xs k d h in
    (those-only p n (get_or xs k d) (subst (λ ys. Rattle.std.proofs.Common.Contains ys (get_or xs k d)) e has)).0

pub no-lines-inside : (n : ℕ) (ls : List LineAddr) → ls ≡ [] → All (λ l. l.0 < n) ls
no-lines-inside n ls e = subst (λ (ks : List LineAddr). All (λ l. l.0 < n) ks) (sym e) (λ k d h. absurd (omega (arith, h)))

pub no-sets-inside : (n : ℕ) (xs : List ℕ) → xs ≡ [] → All (λ x. x < n) xs
no-sets-inside n xs e = subst (λ (ys : List ℕ). All (λ x. x < n) ys) (sym e) (λ k d h. absurd (omega (arith, h)))
