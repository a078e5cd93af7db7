-- A schedule that follows a list is a run, and ends early only where no event may come.
use Rattle.std.proofs.Common.{◌≡◌, ℕ, zero, suc, ◌<◌, ◌≤◌, Bool, true, false, inl, inr, List, [], ◌∷◌, length, Option, Some, None, is_some}
use Rattle.std.proofs.Common.{refl}
use Rattle.std.proofs.Common.{arith}
use Rattle.std.specs.Prelude.{IfSome, cond}
use Rattle.std.specs.List.{find}
use Rattle.base_lemmas.proofs.Lemmas.{and-left}
use Rattle.image_load.specs.Start.{Start}
use Rattle.rv_code.specs.Machine.{program}
use Rattle.rules_maps.specs.Nodes.{Event}
use Rattle.rules_program.specs.Plain.{Order}
use Rattle.rules_program.specs.Program.{Program}
use Rattle.rules_maps.specs.Shape.{Shape}
use Rattle.rules_tcc.specs.Laws.{IsIn}
use Rattle.rules_tcc.specs.State.{World}
use Rattle.rules_tcc.specs.Step.{History, Stepped, and_then, is_enabled, next_history, recorded, run, run_from, step}
use Rattle.rules_tcc.specs.Useful.{is_of_use, is_useful, useful}
use Rattle.rules_tcc.proofs.Lemmas.{useful-holds}
use Rattle.run_follow.specs.Following.{after_event, comes, followed_by, followed_from, may_come, next_in, next_of, turn_of}
use Rattle.rules_riscv.specs.Starting.{at_start}

-- what is found is in the list
found-is_in : (turn : Option ℕ) (es : List Event) (e : Event) → next_of turn es ≡ Some e → IsIn e es
unfolding next_of
found-is_in turn [] e h = absurd (cc)
found-is_in turn (x ∷ es) e h = go (may_come turn x) h (found-is_in turn es e)
  where
    go : (b : Bool) → cond b (Some x) (find (may_come turn) es) ≡ Some e → (next_of turn es ≡ Some e → IsIn e es) → IsIn e (x ∷ es)
    go true q rest = inl (cc)
    go false q rest = inr (rest q)

-- what comes next is enabled
enabled : (sh : Shape) (p : Program) (w : World) (e : Event) → IsIn e (useful sh p w) → is_some (step sh p w e) ≡ true
unfolding is_useful is_enabled
enabled sh p w e i = and-left (is_enabled sh p w e) (is_of_use sh p w e) ((useful-holds sh p w e).0 i)

-- what is said of a schedule of at most n events
record Follows (s : Start) (os : List Order) (n : ℕ) (es : List Event) (o : Option History) : Type 0 where
  runs : is_some o ≡ true
  few : length es ≤ n
  ends : length es < n → IfSome o (λ h. next_in s os h ≡ None)

takes-one : (s : Start) (os : List Order) (n : ℕ) (rest : History → List Event) (h : History) (e : Event) (o : Option History)
    → is_some o ≡ true
    → ((g : History) → Follows s os n (rest g) (run_from s.settings (program s) (rest g) g))
    → Follows s os (suc n) (e ∷ after_event rest o) (and_then (run_from s.settings (program s) (after_event rest o)) o)
takes-one s os n rest h e None q f = absurd (cc)
takes-one s os n rest h e (Some g) q f =
    let i = f g in
    record { runs = i.runs; few = (let x = i.few in omega (arith, x)); ends = λ l. i.ends (omega (arith, l)) }

is-recorded : (h : History) (o : Option Stepped) → is_some o ≡ true → is_some (recorded h o) ≡ true
is-recorded h None q = absurd (cc)
is-recorded h (Some o) q = refl

comes-one : (s : Start) (os : List Order) (n : ℕ) (rest : History → List Event) (h : History) (o : Option Event) → next_in s os h ≡ o
    → ((g : History) → Follows s os n (rest g) (run_from s.settings (program s) (rest g) g))
    → Follows s os (suc n) (comes s h rest o) (run_from s.settings (program s) (comes s h rest o) h)
unfolding run_from next_history
comes-one s os n rest h None c f = record { runs = refl; few = omega arith; ends = λ l. c }
comes-one s os n rest h (Some e) c f =
    takes-one s os n rest h e (next_history s.settings (program s) h e)
    (is-recorded h (step s.settings (program s) h.world e)
    (enabled s.settings (program s) h.world e
    (found-is_in (turn_of os h.commits) (useful s.settings (program s) h.world) e c))) f

follows : (s : Start) (os : List Order) (n : ℕ) (h : History)
    → Follows s os n (followed_from s os n h) (run_from s.settings (program s) (followed_from s os n h) h)
unfolding followed_from run_from
follows s os zero h = record { runs = refl; few = omega arith; ends = λ l. absurd (omega (arith, l)) }
follows s os (suc n) h = comes-one s os n (followed_from s os n) h (next_in s os h) refl (follows s os n)

pub followed-is_run : (s : Start) (os : List Order) (n : ℕ)
    → is_some (run s.settings (program s) (at_start s).world (followed_by s os n)) ≡ true
unfolding run
followed-is_run s os n = (follows s os n (at_start s)).runs

pub followed-few : (s : Start) (os : List Order) (n : ℕ) (h : History) → length (followed_from s os n h) ≤ n
followed-few s os n h = (follows s os n h).few

pub followed-ends : (s : Start) (os : List Order) (n : ℕ) → length (followed_by s os n) < n
    → IfSome (run s.settings (program s) (at_start s).world (followed_by s os n)) (λ h. next_in s os h ≡ None)
unfolding run
followed-ends s os n l = (follows s os n (at_start s)).ends l
