-- What becomes of the states that were found when one more is added.
use Rattle.std.proofs.Common.{ℕ, ◌≡◌, ◌+◌, ◌<◌, ◌/◌, List, [], ◌∷◌, ◌++◌, refl, sym, ◌∙◌, ap, subst, length, length-append}
use Rattle.std.proofs.Common.{length-set, slice_index_or, arith, inl, inr}
use Rattle.std.proofs.lemmas.Grind.{common_steps}
use Rattle.std.proofs.lemmas.List.Elements.{All-push, All-nil, All-cons, All-get_or}
use Rattle.std.proofs.lemmas.Bool.{cases_lt}
use Rattle.image_load.specs.Contents.{Contents, started}
use Rattle.run_outcomes.proofs.Distinct.{no-machine, once-more}
use Rattle.run_outcomes.proofs.Normal.{normal-nothing}
use Rattle.run_outcomes.proofs.Reach.{leads-transaction, reached-next, state-kept}
use Rattle.run_outcomes.specs.Changes.{changed_ram, value_in, AreInside, AreNormal}
use Rattle.run_outcomes.specs.Explored.{AreFound, AreLed, HasFurther, IsWay, IsNoted, way_at, IsReachedState}
use Rattle.run_outcomes.specs.Explored.{state_at, no_snapshot}
use Rattle.run_outcomes.specs.Next.{IsNext}
use Rattle.run_outcomes.specs.States.{machine_of, core_in, after_core, IsPlaced}
use Rattle.run_outcomes.specs.declared.next.Next.TheVariants.{Leads}
use Rattle.run_outcomes.specs.declared.search.Way.{Way}
use Rattle.run_outcomes.specs.declared.states.Place.{Place}
use Rattle.run_outcomes.specs.declared.states.Place.TheVariants.{Known, New, Full}
use Rattle.run_outcomes.specs.declared.states.Snapshot.{Snapshot}
use Rattle.rv_code.specs.Machine.{program}
use Rattle.image_load.specs.Start.{first_ram}
use Rattle.rv_plain.specs.Buffered.{seen}
use Rattle.rv_plain.specs.Cores.{core_of, no_state}
use Rattle.rv_plain.specs.Machine.{plain_start, start_core}
use Rattle.rv_plain.specs.declared.plain.CoreState.{CoreState}
use Rattle.rules_program.specs.Plain.{serial}
use Rattle.rv_plain.proofs.Lemmas.{core-started}

pub sized-at : (l : Contents) (states : List Snapshot) (k : ℕ) → AreFound l states → k < length states
    → length (state_at states k).cores ≡ l.settings.cores
sized-at l states k found lt = All-get_or (λ s. length s.cores ≡ l.settings.cores) states k no_snapshot lt found.sized

-- a serial execution leads to the state after a transaction
reached-after : (l : Contents) (old : List Snapshot) (k c longest n : ℕ) (after : CoreState) (left : List (ℕ × ℕ))
    → AreFound l old → k < length old → c < l.settings.cores
    → IsNext l (core_in (state_at old k) c) (state_at old k).changes longest (Leads n after left)
    → IsReachedState l (after_core (state_at old k) c after left)
reached-after l old k c longest n after left found lt core next =
    let s = state_at old k in
    let inside : c < length s.cores = rw (sized-at l old k found lt) core in
    reached-next l.settings.base (program (started l)) (plain_start (started l)) (machine_of l s) c n
    (machine_of l (after_core s c after left), next.2.attempt)
    (All-get_or (IsReachedState l) old k no_snapshot lt found.reached) (leads-transaction l s c n after left inside next.2)

pub added-found : (l : Contents) (old new : List Snapshot) (k c limit longest n : ℕ) (after : CoreState) (left : List (ℕ × ℕ))
    (place : Place) → AreFound l old → k < length old → c < l.settings.cores
    → IsNext l (core_in (state_at old k) c) (state_at old k).changes longest (Leads n after left)
    → IsPlaced old new (after_core (state_at old k) c after left) limit place → AreFound l new
added-found l old new k c limit longest n after left (Known number) found lt core next placed = subst (AreFound l) (sym placed.0) found
added-found l old new k c limit longest n after left Full found lt core next placed = subst (AreFound l) (sym placed.0) found
added-found l old new k c limit longest n after left (New number) found lt core next placed =
    let s = state_at old k in
    let sized = sized-at l old k found lt in
    subst (AreFound l) (sym placed.0) (record {
      some = grind (arith, common_steps, found.some);
      first = ap (machine_of l) (state-kept old (after_core s c after left ∷ []) 0 found.some) ∙ found.first;
      inside = All-push (λ x. AreInside (l.settings.ram / 4) x.changes) old (after_core s c after left) found.inside next.1;
      sized = All-push (λ x. length x.cores ≡ l.settings.cores) old (after_core s c after left) found.sized
          (length-set s.cores c after ∙ sized);
      normal = All-push (λ x. AreNormal (first_ram (started l)) x.changes) old (after_core s c after left) found.normal next.3;
      once = once-more l old (after_core s c after left) found (length-set s.cores c after ∙ sized) next.3 placed.2;
      reached = All-push (IsReachedState l) old (after_core s c after left) found.reached
          (reached-after l old k c longest n after left found lt core next);
    })

-- a state that finds no room is a further one
pub added-further : (l : Contents) (old new : List Snapshot) (k c limit longest n : ℕ) (after : CoreState) (left : List (ℕ × ℕ))
    (place : Place) → AreFound l old → k < length old → c < l.settings.cores
    → IsNext l (core_in (state_at old k) c) (state_at old k).changes longest (Leads n after left)
    → IsPlaced old new (after_core (state_at old k) c after left) limit place → place ≡ Full → HasFurther l new
added-further l old new k c limit longest n after left place found lt core next placed is =
    let s = after_core (state_at old k) c after left in
    let full = subst (IsPlaced old new s limit) is placed in
    let sized : length s.cores ≡ l.settings.cores = length-set (state_at old k).cores c after ∙ sized-at l old k found lt in
    subst (HasFurther l) (sym full.0)
    (s, reached-after l old k c longest n after left found lt core next, no-machine l old s found sized next.3 full.2)

machine-started : (l : Contents) (cores : List CoreState) → length cores ≡ l.settings.cores
    → ((k : ℕ) → k < l.settings.cores → core_of (slice_index_or cores k no_state) ≡ start_core l.settings.cores k ((started l).entry k))
    → machine_of l (record { cores = cores; changes = [] }) ≡ plain_start (started l)
unfolding machine_of changed_ram plain_start seen value_in started
machine-started l cores len each = λ i. record {
  ram = first_ram (started l);
  cores = λ c. (core-started (started l) cores len each c) i;
}

pub first-found : (l : Contents) (cores : List CoreState) (states : List Snapshot) → length cores ≡ l.settings.cores
    → ((k : ℕ) → k < l.settings.cores → core_of (slice_index_or cores k no_state) ≡ start_core l.settings.cores k ((started l).entry k))
    → states ≡ record { cores = cores; changes = [] } ∷ [] → AreFound l states
unfolding serial
first-found l cores states len each is =
    let s : Snapshot = record { cores = cores; changes = [] } in
    subst (AreFound l) (sym is) (record {
      some = omega arith;
      first = machine-started l cores len each;
      inside = All-cons (λ x. AreInside (l.settings.ram / 4) x.changes) s [] (All-nil (λ change. change.0 < l.settings.ram / 4))
          (All-nil (λ x. AreInside (l.settings.ram / 4) x.changes));
      sized = All-cons (λ x. length x.cores ≡ l.settings.cores) s [] len (All-nil (λ x. length x.cores ≡ l.settings.cores));
      normal = All-cons (λ x. AreNormal (first_ram (started l)) x.changes) s [] (normal-nothing (first_ram (started l)))
          (All-nil (λ x. AreNormal (first_ram (started l)) x.changes));
      once = λ i j lt lt' same. omega (arith, lt, lt');
      reached = All-cons (IsReachedState l) s [] ([], machine-started l cores len each) (All-nil (IsReachedState l));
    })

-- the way to a state stays as the lists grow
way-kept : (l : Contents) (old more : List Snapshot) (w w' : Way) (k : ℕ) → k < length old → w' ≡ w → IsWay l old w k
    → IsWay l (old ++ more) w' k
way-kept l old more w w' k lt e h =
    let from : w.from < length old = omega (arith, h.before) in
    subst (λ x. IsWay l (old ++ more) x k) (sym e) (record {
      before = h.before;
      leads = rw (state-kept old more k lt, state-kept old more w.from from) h.leads;
    })

pub added-led : (l : Contents) (old new : List Snapshot) (ways noted : List Way) (k c limit longest n : ℕ) (after : CoreState)
    (left : List (ℕ × ℕ)) (place : Place) → AreFound l old → AreLed l old ways → k < length old → c < l.settings.cores
    → IsNext l (core_in (state_at old k) c) (state_at old k).changes longest (Leads n after left)
    → IsPlaced old new (after_core (state_at old k) c after left) limit place
    → IsNoted ways noted place (record { from = k; core = record { 0 = c }; n = n }) → AreLed l new noted
added-led l old new ways noted k c limit longest n after left (Known number) found led lt core next placed is =
    rw (placed.0, is) led
added-led l old new ways noted k c limit longest n after left Full found led lt core next placed is =
    rw (placed.0, is) led
added-led l old new ways noted k c limit longest n after left (New number) found led lt core next placed is =
    let s = state_at old k in
    let s' = after_core s c after left in
    let way : Way = record { from = k; core = record { 0 = c }; n = n } in
    let inside : c < length s.cores = rw (sized-at l old k found lt) core in
    rw (placed.0, is) (record {
      counted = length-append ways (way ∷ []) ∙ ap (λ j. j + 1) led.counted ∙ sym (length-append old (s' ∷ []));
      led = λ j positive below.
          elim (cases_lt j (length old)) [
            | inl early ↦
                let there : j < length ways = rw led.counted early in
                way-kept l old (s' ∷ []) (way_at ways j) (way_at (ways ++ way ∷ []) j) j early (way-stays ways way j there)
                (led.led j positive early)
            | inr late ↦
                let at : j ≡ length old = omega (arith, length-append old (s' ∷ []), below) in
                let last : way_at (ways ++ way ∷ []) j ≡ way = way-last ways way j (at ∙ sym led.counted) in
                rw (last, at) (record {
                  before = lt;
                  leads = rw (
                    state-kept old (s' ∷ []) k lt,
                    state-last old s',
                    leads-transaction l s c n after left inside next.2,
                  ) refl;
                })
          ];
    })
  where
    way-stays : (ws : List Way) (w : Way) (j : ℕ) → j < length ws → way_at (ws ++ w ∷ []) j ≡ way_at ws j
    way-stays ws w j lt' = grind (arith, common_steps)

    way-last : (ws : List Way) (w : Way) (j : ℕ) → j ≡ length ws → way_at (ws ++ w ∷ []) j ≡ w
    way-last ws w j e = grind (arith, common_steps)

    state-last : (ss : List Snapshot) (s' : Snapshot) → state_at (ss ++ s' ∷ []) (length ss) ≡ s'
    state-last ss s' = grind (arith, common_steps)
