-- From an attempt of the code to the core's next transaction.
use Rattle.std.proofs.Common.{ℕ, ◌≡◌, ◌+◌, ◌*◌, ◌/◌, ◌≤◌, ◌<◌, List, [], ◌∷◌, Some, None, IfSome, IsSomeAnd, Result, Ok, Err}
use Rattle.std.proofs.Common.{IfOk, All, refl, sym, ◌∙◌, ap, subst, length, drop, get_or, arith}
use Rattle.std.proofs.lemmas.Bool.{ne_eqb}
use Rattle.std.proofs.lemmas.List.{drop_more}
use Rattle.std.proofs.lemmas.List.Elements.{All-head, All-tail}
use Rattle.image_load.specs.Contents.{Contents, started}
use Rattle.rv_code.specs.Machine.{program}
use Rattle.image_load.specs.Start.{first_ram}
use Rattle.rv_plain.specs.Attempts.{attempt_of}
use Rattle.rv_plain.specs.Buffered.{seen, plain_view, or_else}
use Rattle.rv_plain.specs.Store.{Store, buffer_of}
use Rattle.rv_plain.specs.declared.attempt.Attempt.{Attempt as CodeAttempt}
use Rattle.rv_exec.specs.declared.outcome.Outcome.{Outcome as CodeOutcome}
use Rattle.rv_exec.specs.declared.outcome.Outcome.TheVariants as code
use Rattle.rv_plain.specs.declared.plain.CoreState.{CoreState}
use Rattle.run_outcomes.proofs.Elsewhere.{Keeps, steps-keeps}
use Rattle.run_outcomes.specs.Changes.{value_in, changed_ram, AreInside, AreNormal}
use Rattle.run_outcomes.specs.Left.{sees, IsUntouched, Leaves, IsLeft, AreStoresInside}
use Rattle.run_outcomes.specs.Next.{LeadsTo, IsNext, next_steps}
use Rattle.run_outcomes.specs.declared.next.Next.{Next}
use Rattle.run_outcomes.specs.declared.next.Next.TheVariants.{Stopped, Endless, Leads}
use Rattle.tcc_base.specs.Put.{put}
use Rattle.tcc_base.specs.declared.access.CoreEnd.TheVariants.{Run}
use Rattle.rules_program.specs.Plain.{Attempt, Goes, begun, steps}
use Rattle.rules_program.specs.Program.{Local}
use Rattle.rules_program.specs.Ram.{flat}

pub value_in-drop : (xs : List (ℕ × ℕ)) (k : ℕ) (d : ℕ × ℕ) → k < length xs
    → value_in (drop k xs) ≡ put (value_in (drop (k + 1) xs)) (get_or xs k d).0 (Some (get_or xs k d).1)
unfolding value_in
value_in-drop xs k d lt = ap value_in (drop_more xs k d lt)

-- an attempt begins over what this memory shows
begun-sees : (l : Local) (m : Store) (a : CodeAttempt)
    → a ≡ record { state = l; n = 0; loads = []; stores = []; console = [] }
    → plain_view (attempt_of a m code.Goes) ≡ begun l (sees m)
unfolding plain_view attempt_of begun
begun-sees l m a e = rw e refl

-- RAM as it was loaded, before which these changes wait, shows the changed RAM
sees-changed : (l : Contents) (m : Store) (changes : List (ℕ × ℕ)) → flat m.ram ≡ first_ram (started l)
    → buffer_of m.waiting ≡ value_in changes → sees m ≡ changed_ram l changes
unfolding changed_ram
sees-changed l m changes ram waits = λ i. seen (ram i) (waits i)

-- no change is to this word
unchanged-none : (changes : List (ℕ × ℕ)) (w : ℕ) → All (λ change. change.0 ≡ w → ⊥) changes → value_in changes w ≡ None
unfolding value_in
unchanged-none [] w all = refl
unchanged-none (c ∷ changes) w all =
    rw (ne_eqb w c.0 (λ e. All-head (λ change. change.0 ≡ w → ⊥) c changes all (sym e)))
    (unchanged-none changes w (All-tail (λ change. change.0 ≡ w → ⊥) c changes all))

-- these instructions of the code's attempt are the core's next ones
pub run-steps : (l : Contents) (local : Local) (m : Store) (changes : List (ℕ × ℕ)) (a : CodeAttempt) (n : ℕ) (end : Attempt)
    → a ≡ record { state = local; n = 0; loads = []; stores = []; console = [] }
    → flat m.ram ≡ first_ram (started l) → buffer_of m.waiting ≡ value_in changes
    → steps l.settings.base (program (started l)) n (plain_view (attempt_of a m code.Goes)) ≡ Some end
    → steps l.settings.base (program (started l)) n (begun local (changed_ram l changes)) ≡ Some end
run-steps l local m changes a n end is ram waits h =
    subst (λ s. steps l.settings.base (program (started l)) n s ≡ Some end)
    (begun-sees local m a is ∙ ap (begun local) (sees-changed l m changes ram waits)) h

begun-stores : (local : Local) (ram : ℕ → ℕ) → (begun local ram).stores ≡ []
unfolding begun
begun-stores local ram = refl

pub run-keeps : (l : Contents) (local : Local) (ram : ℕ → ℕ) (n : ℕ) (end : Attempt)
    → steps l.settings.base (program (started l)) n (begun local ram) ≡ Some end
    → Keeps l.settings l.settings.base (begun local ram) end
unfolding started
run-keeps l local ram n end h =
    subst (λ x. IfSome x (Keeps l.settings l.settings.base (begun local ram))) h
    (steps-keeps (started l) l.settings.base n (begun local ram) (begun-stores local ram))

view-stores : (m : Store) (a : CodeAttempt) (o : CodeOutcome) → (plain_view (attempt_of a m o)).stores ≡ a.stores
unfolding plain_view attempt_of
view-stores m a o = refl

pub stores-in-ram : (l : Contents) (local : Local) (ram : ℕ → ℕ) (n : ℕ) (m : Store) (a : CodeAttempt) (o : CodeOutcome)
    → steps l.settings.base (program (started l)) n (begun local ram) ≡ Some (plain_view (attempt_of a m o))
    → AreStoresInside l.settings a.stores
stores-in-ram l local ram n m a o h =
    subst (AreStoresInside l.settings) (view-stores m a o) (run-keeps l local ram n (plain_view (attempt_of a m o)) h).inside

-- a word that no change and no store touches is seen as RAM has it
untouched-same : (l : Contents) (local : Local) (changes : List (ℕ × ℕ)) (n : ℕ) (m : Store) (a : CodeAttempt) (o : CodeOutcome) (w : ℕ)
    → flat m.ram ≡ first_ram (started l)
    → steps l.settings.base (program (started l)) n (begun local (changed_ram l changes)) ≡ Some (plain_view (attempt_of a m o))
    → IsUntouched l.settings.base changes a.stores w → flat m.ram w ≡ sees m w
unfolding changed_ram seen plain_view attempt_of begun
untouched-same l local changes n m a o w ram h u =
    let none : value_in changes w ≡ None = unchanged-none changes w u.unchanged in
    let k = (run-keeps l local (changed_ram l changes) n (plain_view (attempt_of a m o)) h).elsewhere w u.unstored in
    let first : or_else (value_in changes w) (first_ram (started l) w) ≡ first_ram (started l) w = rw none refl in
    ap (λ r. r w) ram ∙ sym first ∙ sym k

pub leads : (l : Contents) (core after : CoreState) (changes left : List (ℕ × ℕ)) (n : ℕ) (m : Store) (a : CodeAttempt) (o : CodeOutcome)
    → core.ended ≡ Run → flat m.ram ≡ first_ram (started l)
    → steps l.settings.base (program (started l)) n (begun core.state (changed_ram l changes)) ≡ Some (plain_view (attempt_of a m o))
    → Leaves l.settings.base m core changes a o after left
    → LeadsTo l core (changed_ram l changes) n after (changed_ram l left)
unfolding plain_view attempt_of changed_ram
leads l core after changes left n m a o runs ram h v = record {
  attempt = plain_view (attempt_of a m o);
  runs = runs;
  does = h;
  ends = v.ends;
  local = v.state;
  prints = v.prints;
  ram = λ i w. ((ap (λ r. seen r (value_in left) w) (sym ram) ∙ v.ram w (untouched-same l core.state changes n m a o w ram h)) i);
}

pub next-if : {E : Type 0} (l : Contents) (core : CoreState) (changes : List (ℕ × ℕ)) (longest n : ℕ) (m : Store) (a : CodeAttempt)
    (o : CodeOutcome) (r : Result Next E) → core.ended ≡ Run → flat m.ram ≡ first_ram (started l)
    → 4 * length m.ram ≡ l.settings.ram → a.n ≤ longest
    → steps l.settings.base (program (started l)) a.n (begun core.state (changed_ram l changes)) ≡ Some (plain_view (attempt_of a m o))
    → IfOk r (IsLeft l.settings.base m core changes a o) → IfOk r (IsNext l core changes longest)
next-if l core changes longest n m a o (Err e) runs ram whole few h left = tt
next-if l core changes longest n m a o (Ok Stopped) runs ram whole few h left = absurd left
next-if l core changes longest n m a o (Ok Endless) runs ram whole few h left = absurd left
next-if l core changes longest n m a o (Ok (Leads k after changed)) runs ram whole few h left =
    let words : length m.ram ≡ l.settings.ram / 4 = omega arith in (
      rw left.0 few,
      subst (λ len. AreInside len changed) words left.1.inside,
      rw left.0 (leads l core after changes changed a.n m a o runs ram h left.1),
      subst (λ r. AreNormal r changed) ram left.1.normal,
    )

pub endless : (l : Contents) (core : CoreState) (changes : List (ℕ × ℕ)) (longest : ℕ) (m : Store) (a : CodeAttempt)
    → steps l.settings.base (program (started l)) longest (begun core.state (changed_ram l changes))
    ≡ Some (plain_view (attempt_of a m code.Goes))
    → IsSomeAnd (next_steps l core (changed_ram l changes) longest) (λ x. x.outcome ≡ Goes)
unfolding plain_view attempt_of
endless l core changes longest m a h = rw h refl
