-- A run that follows a list commits the list's transactions, all of them where it is done.
use Rattle.std.proofs.Common.{◌≡◌, ◌<◌, ℕ, Bool, true, false, List, Option, Some, None, IfSome, nat_lt, if◌then◌else◌, refl, arith}
use Rattle.std.proofs.lemmas.Bool.Decides.{nat_tests}
use Rattle.std.specs.Prelude.{IsSome}
use Rattle.image_load.specs.Start.{Start}
use Rattle.outcomes_law.proofs.Lemmas.{done-runs-have-ended}
use Rattle.run_outcomes.specs.Outcomes.{HaveEnded}
use Rattle.rv_code.specs.Machine.{program}
use Rattle.rv_plain.specs.Machine.{no_core, plain_start}
use Rattle.theorem_riscv.proofs.Lemmas.{runs_give_the_plain_machine}
use Rattle.theorem_riscv.specs.Given.{IsSerial, committed}
use Rattle.rules_riscv.specs.Starting.{world_at_start}
use Rattle.tcc_base.specs.declared.access.CoreEnd.TheVariants.{Run}
use Rattle.rules_program.specs.Plain.{Order, PlainCore, serial}
use Rattle.rules_tcc.specs.Seen.{IsDone}
use Rattle.rules_tcc.specs.Step.{History, run}
use Rattle.theorem_serial.specs.Shown.{shown_core}
use Rattle.run_follow.specs.Following.{followed_by}
use Rattle.run_follow.specs.Laws.{FollowedKeeps, Keeps}
use Rattle.run_follow.proofs.Along.{Kept, followed-kept}
use Rattle.run_follow.proofs.Lengths.{FirstPart, all-of-them, first-part}

-- a core that the machine doesn't have doesn't run either
pub one-ended : (s : Start) (h : History) (core : ℕ) → (core < s.settings.cores → ((committed s h).cores core).ended ≡ Run → ⊥)
    → ((committed s h).cores core).ended ≡ Run → ⊥
unfolding committed
one-ended s h core = go (nat_lt core s.settings.cores) refl
  where
    one : Bool → PlainCore
    one b = if b then shown_core core (h.world.cores core) h.commits else no_core

    go : (b : Bool) → nat_lt core s.settings.cores ≡ b → (core < s.settings.cores → (one (nat_lt core s.settings.cores)).ended ≡ Run → ⊥)
        → (one b).ended ≡ Run → ⊥
    go true e f r = f (grind (arith, nat_tests, e)) (rw e r)
    go false e f r = cc

-- what is committed is the first part of the list
abbrev pub IsPart : Start → List Order → History → Type 0
IsPart s os h = FirstPart s.settings.base (program s) h.commits os (committed s h)

pub is-part : (s : Start) (os : List Order) (h : History) → IsSome (serial s.settings.base (program s) 0 os (plain_start s)) → IsSerial s h
    → Kept s os h → IsPart s os h
unfolding IsSerial
is-part s os h some given kept =
    first-part s.settings.base (program s) 0 0 h.commits os (plain_start s) (committed s h, h.commits) kept.in_turn.firsts given some

keeps : (s : Start) (os : List Order) (h : History) → IsPart s os h
    → (IsDone s.settings h.world → HaveEnded s.settings.cores (committed s h)) → Keeps s os h
keeps s os h part ended = record {
  firsts = part.agree;
  all = λ done. all-of-them s.settings.base (program s) h.commits os (committed s h) part (λ core. one-ended s h core (ended done core));
}

pub followed-keeps : FollowedKeeps
followed-keeps s os most allowed some =
    let es = followed_by s os most in
    go (run s.settings (program s) (world_at_start s) es) (runs_give_the_plain_machine s es allowed) (followed-kept s os most)
    (done-runs-have-ended s es)
  where
    go : (x : Option History) → IfSome x (IsSerial s) → IfSome x (Kept s os)
        → IfSome x (λ h. IsDone s.settings h.world → HaveEnded s.settings.cores (committed s h)) → IfSome x (Keeps s os)
    go None given kept ended = tt
    go (Some h) given kept ended = keeps s os h (is-part s os h some given kept) ended
