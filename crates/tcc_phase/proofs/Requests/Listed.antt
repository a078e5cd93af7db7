-- The requests of those that wait are the useful events that are held back.
use Rattle.std.proofs.Common.{◌≡◌, ℕ, zero, suc, ◌<◌, Bool, true, false, cond, ◌&&◌, ◌==◌, List, [], ◌∷◌, ◌++◌, map, Option, Some, None}
use Rattle.std.proofs.Common.{is_some, refl, ap, sym, ◌∙◌, subst, arith, inl, inr, ⊎_elim}
use Rattle.std.specs.Prelude.{IsSome, filter, get_or, nat_lt}
use Rattle.std.proofs.lemmas.Bool.Decides.{nat_tests}
use Rattle.std.proofs.lemmas.List.{map-append}
use Rattle.image_load.specs.Start.{Start}
use Rattle.rv_code.specs.Machine.{program}
use Rattle.tcc_base.specs.Settings.{Settings}
use Rattle.base_lemmas.proofs.Lemmas.{and-both, and-left, and-true}
use Rattle.rules_maps.specs.Nodes.{Core, Dir, Vendor, Msg, Event, Exec, Evict, Deliver}
use Rattle.rules_maps.specs.Words.{those}
use Rattle.rules_program.specs.Program.{Program}
use Rattle.rules_tcc.specs.Laws.{IsBeforeAll, IsIn, IsOrdered, UsefulHolds, UsefulOrdered}
use Rattle.rules_tcc.specs.Links.{in_flight}
use Rattle.rules_tcc.specs.State.{World}
use Rattle.rules_tcc.specs.Step.{History, Stepped, happens, if_in_flight, is_enabled, names_nodes, step}
use Rattle.rules_tcc.specs.Useful.{event_before, is_useful, useful}
use Rattle.rules_phases.specs.Phased.{is_held, is_late}
use Rattle.tcc_phase.specs.Requests.{IsAsked, is_behind, is_waiting, request}
use Rattle.tcc_phase.proofs.Requests.Asked.{asked-at}
use Rattle.tcc_phase.proofs.Order.Ordered.{filter-in, filter-ordered, in-filter, same-events}

-- ---- events of those numbers below n

in-left : (e : Event) (xs ys : List Event) → IsIn e xs → IsIn e (xs ++ ys)
in-left e [] ys i = absurd i
in-left e (x ∷ xs) ys i = ⊎_elim (λ s. inl s) (λ j. inr (in-left e xs ys j)) i

in-right : (e : Event) (xs ys : List Event) → IsIn e ys → IsIn e (xs ++ ys)
in-right e [] ys i = i
in-right e (x ∷ xs) ys i = inr (in-right e xs ys i)

in-parts : (P : Type 0) (e : Event) (xs ys : List Event) → (IsIn e xs → P) → (IsIn e ys → P) → IsIn e (xs ++ ys) → P
in-parts P e [] ys f g i = g i
in-parts P e (x ∷ xs) ys f g i = ⊎_elim (λ s. f (inl s)) (λ j. in-parts P e xs ys (λ k. f (inr k)) g j) i

module _ (f : ℕ → Event) (q : ℕ → Bool) where
  -- such an event is of one of them
  pub record Of (e : Event) (n : ℕ) : Type 0 where
    pub number : ℕ
    pub below : number < n
    pub passes : q number ≡ true
    pub is : f number ≡ e

  more : (e : Event) (n : ℕ) → Of e n → Of e (suc n)
  more e n o = let b = o.below in record { number = o.number; below = omega (arith, b); passes = o.passes; is = o.is }

  pub of-those : (e : Event) (n : ℕ) → IsIn e (map f (those q n)) → Of e n
  unfolding those
  of-those e zero i = absurd i
  of-those e (suc n) i =
      in-parts (Of e (suc n)) e (map f (those q n)) (map f (cond (q n) (n ∷ []) [])) (λ j. more e n (of-those e n j)) (λ j. go (q n) refl j)
      (subst (IsIn e) (map-append f (those q n) (cond (q n) (n ∷ []) [])) i)
    where
      go : (b : Bool) → q n ≡ b → IsIn e (map f (cond b (n ∷ []) [])) → Of e (suc n)
      go true t j = ⊎_elim (λ s. record { number = n; below = omega arith; passes = t; is = s }) (λ k. absurd k) j
      go false t j = absurd j

  pub in-those : (c n : ℕ) → c < n → q c ≡ true → IsIn (f c) (map f (those q n))
  unfolding those
  in-those c zero l t = absurd (omega (arith, l))
  in-those c (suc n) l t =
      subst (IsIn (f c)) (sym (map-append f (those q n) (cond (q n) (n ∷ []) []))) (go (c == n) refl (λ m. in-those c n m t))
    where
      go : (b : Bool) → (c == n) ≡ b → (c < n → IsIn (f c) (map f (those q n)))
          → IsIn (f c) (map f (those q n) ++ map f (cond (q n) (n ∷ []) []))
      go true e rest =
          let s : c ≡ n = grind (arith, nat_tests) in
          let u : q n ≡ true = subst (λ d. q d ≡ true) s t in
          in-right (f c) (map f (those q n)) (map f (cond (q n) (n ∷ []) [])) (rw u (inl (ap f (sym s))))
      go false e rest =
          let m : c < n = grind (arith, nat_tests) in in-left (f c) (map f (those q n)) (map f (cond (q n) (n ∷ []) [])) (rest m)

  -- one more behind them all
  before-more : (x y : Event) (es : List Event) → IsBeforeAll x es → event_before x y ≡ true → IsBeforeAll x (es ++ y ∷ [])
  before-more x y [] b l = (l, tt)
  before-more x y (e ∷ es) b l = (b.0, before-more x y es b.1 l)

  ordered-more : (y : Event) (es : List Event) → IsOrdered es → ((e : Event) → IsIn e es → event_before e y ≡ true) →
      IsOrdered (es ++ y ∷ [])
  ordered-more y [] o l = (tt, tt)
  ordered-more y (e ∷ es) o l = (before-more e y es o.0 (l e (inl refl)), ordered-more y es o.1 (λ d i. l d (inr i)))

  pub those-ordered : ((c d : ℕ) → c < d → event_before (f c) (f d) ≡ true) → (n : ℕ) → IsOrdered (map f (those q n))
  unfolding those
  those-ordered h zero = tt
  those-ordered h (suc n) =
      subst IsOrdered (sym (map-append f (those q n) (cond (q n) (n ∷ []) []))) (go (q n) (those-ordered h n))
    where
      none : (es : List Event) → IsOrdered es → IsOrdered (es ++ [])
      none [] o = tt
      none (e ∷ es) o = (all e es o.0, none es o.1)
        where
          all : (x : Event) (es : List Event) → IsBeforeAll x es → IsBeforeAll x (es ++ [])
          all x [] b = tt
          all x (e ∷ es) b = (b.0, all x es b.1)

      go : (b : Bool) → IsOrdered (map f (those q n)) → IsOrdered (map f (those q n) ++ map f (cond b (n ∷ []) []))
      go true o = ordered-more (f n) (map f (those q n)) o
          (λ e i. let w = of-those e n i in subst (λ x. event_before x (f n) ≡ true) w.is (h w.number n w.below))
      go false o = none (map f (those q n)) o

-- ---- requests

requests-rise : (asked : List ℕ) (c d : ℕ) → c < d → event_before (request asked c) (request asked d) ≡ true
requests-rise asked c d l = grind (arith, nat_tests)

named : (b : Bool) (o : Option Stepped) → is_some (cond b o None) ≡ true → (b ≡ true) × (is_some o ≡ true)
named true o e = (refl, e)
named false o e = absurd (cc)

flies : (sh : Settings) (w : World) (c k : ℕ) (m : Option Msg) → is_some (if_in_flight sh w (Core c) Vendor k m) ≡ true → is_some m ≡ true
flies sh w c k None e = absurd (cc)
flies sh w c k (Some m) e = refl

-- a request that may be delivered is of a core, and in flight
enabled-request : (sh : Settings) (p : Program) (w : World) (c k : ℕ) → is_some (step sh p w (Deliver (Core c) Vendor k)) ≡ true
    → (c < sh.cores) × IsSome (in_flight w.net (Core c) Vendor k)
unfolding step happens names_nodes
enabled-request sh p w c k e =
    let n = named (nat_lt c sh.cores && true) (if_in_flight sh w (Core c) Vendor k (in_flight w.net (Core c) Vendor k)) e in
    let t = and-left (nat_lt c sh.cores) true n.0 in
    (grind (arith, nat_tests), flies sh w c k (in_flight w.net (Core c) Vendor k) n.1)

module _ (s : Start) (h : History) (own asked : List ℕ) (holds : UsefulHolds) (ordered : UsefulOrdered)
    (late : (c : ℕ) → c < s.settings.cores → is_late s h c ≡ is_behind s.settings.cores h.world own (get_or own c 0))
    (next : (c : ℕ) → c < s.settings.cores → IsAsked (h.world.net (Core c) Vendor) (get_or asked c 0)) where
  abbrev waits : ℕ → Bool
  waits c = is_waiting s.settings (program s) h.world own asked c

  abbrev all : List Event
  all = useful s.settings (program s) h.world

  from-those : (e : Event) → IsIn e (map (request asked) (those waits s.settings.cores)) → IsIn e (filter (is_held s h) all)
  unfolding is_waiting is_held is_useful is_enabled
  from-those e i =
      let w = of-those (request asked) waits e s.settings.cores i in
      let c = w.number in
      let both = and-both (is_behind s.settings.cores h.world own (get_or own c 0)) _ w.passes in
      let u : is_useful s.settings (program s) h.world (request asked c) ≡ true = and-true _ ∙ both.1 in
      let t : is_held s h (request asked c) ≡ true = late c w.below ∙ both.0 in
      subst (λ x. IsIn x (filter (is_held s h) all)) w.is
      (in-filter (is_held s h) (request asked c) all ((holds s.settings (program s) h.world (request asked c)).1 u) t)

  to-those : (e : Event) → IsIn e all × (is_held s h e ≡ true) → IsIn e (map (request asked) (those waits s.settings.cores))
  unfolding is_waiting is_held is_useful is_enabled
  to-those (Exec c) (i, t) = absurd (cc)
  to-those (Evict c x y) (i, t) = absurd (cc)
  to-those (Deliver (Core c) (Core d) k) (i, t) = absurd (cc)
  to-those (Deliver (Core c) (Dir d) k) (i, t) = absurd (cc)
  to-those (Deliver (Dir c) d k) (i, t) = absurd (cc)
  to-those (Deliver Vendor d k) (i, t) = absurd (cc)
  to-those (Deliver (Core c) Vendor k) (i, t) =
      let u = (holds s.settings (program s) h.world (Deliver (Core c) Vendor k)).0 i in
      let on : is_some (step s.settings (program s) h.world (Deliver (Core c) Vendor k)) ≡ true = and-left _ true u in
      let at = enabled-request s.settings (program s) h.world c k on in
      let same : k ≡ get_or asked c 0 = asked-at (h.world.net (Core c) Vendor) (get_or asked c 0) k (next c at.0) at.1 in
      let w : waits c ≡ true =
      (λ j. sym (late c at.0) j && is_some (step s.settings (program s) h.world (Deliver (Core c) Vendor (sym same j))))
      ∙ (λ j. t j && on j) in
      subst (λ j. IsIn (Deliver (Core c) Vendor j) (map (request asked) (those waits s.settings.cores))) (sym same)
      (in-those (request asked) waits c s.settings.cores at.0 w)

  pub held-listed : map (request asked) (those waits s.settings.cores) ≡ filter (is_held s h) all
  held-listed =
      same-events (map (request asked) (those waits s.settings.cores)) (filter (is_held s h) all)
      (those-ordered (request asked) waits (requests-rise asked) s.settings.cores)
      (filter-ordered (is_held s h) all (ordered s.settings (program s) h.world))
      from-those (λ e i. to-those e (filter-in (is_held s h) e all i))
