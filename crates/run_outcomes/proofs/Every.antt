-- Where all states were found, and each in which all cores have ended tells a result, no serial execution tells another.
use Rattle.std.proofs.Common.{ℕ, ◌≡◌, ◌<◌, List, Option, Some, None, IfSome, Contains, length, map, slice_index_or}
use Rattle.std.proofs.Common.{sym, ◌∙◌, ap, subst}
use Rattle.std.proofs.lemmas.List.{get_or-map, get_or_default, length-map}
use Rattle.std.proofs.lemmas.List.Elements.{All-get_or, All-from_get_or}
use Rattle.image_load.specs.Contents.{Contents, started}
use Rattle.run_outcomes.specs.Changes.{changed_ram}
use Rattle.run_outcomes.specs.Explored.{AreFound, AreAllStates, machines, state_at, no_snapshot}
use Rattle.run_outcomes.specs.Outcomes.{HaveEnded, HasEveryOutcome, IsOutcome, TellSameConsoles, TellTheSame}
use Rattle.run_outcomes.specs.Results.{AreAlike, AreEnds, HasStopped, IsEnd, IsTold, told_core}
use Rattle.run_outcomes.specs.States.{machine_of}
use Rattle.run_outcomes.specs.declared.outcomes.Tell.{Tell}
use Rattle.run_outcomes.specs.declared.outcomes.Tell.TheVariants.{Consoles, Memory, Everything}
use Rattle.run_outcomes.specs.declared.states.Snapshot.{Snapshot}
use Rattle.rv_code.specs.Machine.{program}
use Rattle.rv_plain.specs.Cores.{no_state}
use Rattle.rv_plain.specs.Machine.{plain_start}
use Rattle.rv_plain.specs.declared.plain.CoreState.{CoreState}
use Rattle.tcc_base.specs.declared.access.CoreEnd.{CoreEnd}
use Rattle.tcc_base.specs.declared.access.Commit.{Commit}
use Rattle.rules_program.specs.Plain.{Plain, serial}

-- lists of cores that tell the same do so core by core
told-at : (a b : List CoreState) (core : ℕ) → core < length a → core < length b → map told_core a ≡ map told_core b
    → told_core (slice_index_or a core no_state) ≡ told_core (slice_index_or b core no_state)
told-at a b core in-a in-b same =
    let none : CoreEnd × List ℕ = told_core no_state in
    sym (get_or-map told_core a core no_state none in-a) ∙ ap (λ xs. slice_index_or xs core none) same
    ∙ get_or-map told_core b core no_state none in-b

-- and so do the items that were read there
pub told-items : (a b : List CoreState) (k : ℕ) (x y : CoreState) → k < length a → length a ≡ length b → x ≡ slice_index_or a k x
    → y ≡ slice_index_or b k y → map told_core a ≡ map told_core b → told_core x ≡ told_core y
told-items a b k x y lt sized is is' same =
    let lt' : k < length b = subst (λ n. k < n) sized lt in
    ap told_core (is ∙ get_or_default a k x no_state lt) ∙ told-at a b k lt lt' same
    ∙ sym (ap told_core (is' ∙ get_or_default b k y no_state lt'))

same-consoles : (l : Contents) (a b : Snapshot) → length a.cores ≡ l.settings.cores → length b.cores ≡ l.settings.cores
    → map told_core a.cores ≡ map told_core b.cores → TellSameConsoles l.settings.cores (machine_of l a) (machine_of l b)
unfolding machine_of
same-consoles l a b sized-a sized-b same core lt =
    told-at a.cores b.cores core (subst (λ n. core < n) (sym sized-a) lt) (subst (λ n. core < n) (sym sized-b) lt) same

alike-same : (l : Contents) (tell : Tell) (a b : Snapshot) → length a.cores ≡ l.settings.cores
    → length b.cores ≡ l.settings.cores → AreAlike tell a b → TellTheSame tell l.settings.cores (machine_of l a) (machine_of l b)
unfolding machine_of
alike-same l Consoles a b sized-a sized-b alike = same-consoles l a b sized-a sized-b alike
alike-same l Memory a b sized-a sized-b alike = (same-consoles l a b sized-a sized-b alike.0, ap (changed_ram l) alike.1)
alike-same l Everything a b sized-a sized-b alike = ap (machine_of l) alike

-- where all of the machine's cores have ended, all of the state's have
pub ended-state : (l : Contents) (s : Snapshot) → length s.cores ≡ l.settings.cores → HaveEnded l.settings.cores (machine_of l s) → IsEnd s
unfolding machine_of
ended-state l s sized ended =
    All-from_get_or HasStopped s.cores no_state (λ core lt. ended core (subst (λ n. core < n) sized lt))

-- what a state that was found tells is told
state-outcome : (l : Contents) (tell : Tell) (states : List Snapshot) (firsts : List ℕ) (k : ℕ) → AreFound l states
    → AreEnds states firsts → k < length states → IsTold tell states firsts k
    → IsOutcome l tell states firsts (machine_of l (state_at states k))
state-outcome l tell states firsts k found ends lt told =
    let Sized : Snapshot → Type 0 = λ s. length s.cores ≡ l.settings.cores in
    let first : ℕ = slice_index_or firsts told.0 0 in
    let end = All-get_or (λ j. (j < length states) × IsEnd (state_at states j)) firsts told.0 0 told.1 ends in (
      told.0,
      told.1,
      alike-same l tell (state_at states first) (state_at states k)
          (All-get_or Sized states first no_snapshot end.0 found.sized) (All-get_or Sized states k no_snapshot lt found.sized) told.2,
    )

pub every-outcome : (l : Contents) (tell : Tell) (states : List Snapshot) (firsts : List ℕ) → AreFound l states
    → AreEnds states firsts → ((k : ℕ) → k < length states → IsEnd (state_at states k) → IsTold tell states firsts k)
    → AreAllStates l states → HasEveryOutcome l tell states firsts
every-outcome l tell states firsts found ends told all last orders =
    go (serial l.settings.base (program (started l)) last orders (plain_start (started l))) (all last orders)
  where
    at : (m : Plain) (has : Contains (machines l states) m) → has.0 < length states → HaveEnded l.settings.cores m
        → IsOutcome l tell states firsts m
    at m has lt ended =
        let is : machine_of l (state_at states has.0) ≡ m =
        sym (get_or-map (machine_of l) states has.0 no_snapshot m lt) ∙ has.2 in
        let sized = All-get_or (λ s. length s.cores ≡ l.settings.cores) states has.0 no_snapshot lt found.sized in
        let end = ended-state l (state_at states has.0) sized (subst (HaveEnded l.settings.cores) (sym is) ended) in
        subst (IsOutcome l tell states firsts) is (state-outcome l tell states firsts has.0 found ends lt (told has.0 lt end))

    go : (x : Option (Plain × List Commit)) → IfSome x (λ r. Contains (machines l states) r.0)
        → IfSome x (λ r. HaveEnded l.settings.cores r.0 → IsOutcome l tell states firsts r.0)
    go None has = tt
    go (Some r) has = at r.0 has (subst (λ n. has.0 < n) (length-map states (machine_of l)) has.1)
