-- A run that follows a list isn't stuck before the list's end. The core whose turn it is runs, since the plain machine executes its
-- transaction next; an event by which it goes on may come, since no other core has a TID.
use Rattle.std.proofs.Common.{◌≡◌, ◌<◌, ◌≤◌, ℕ, suc, ◌⊎◌, inl, inr, Bool, true, false, List, [], ◌∷◌, drop, length}
use Rattle.std.proofs.Common.{Option, Some, None, IfSome, refl, subst, arith}
use Rattle.std.proofs.lemmas.Bool.{cases_lt}
use Rattle.std.proofs.lemmas.Bool.Decides.{nat_tests}
use Rattle.std.proofs.lemmas.List.{take_all}
use Rattle.std.specs.List.{find}
use Rattle.std.specs.Prelude.{IsSome, cond, slice_get}
use Rattle.image_load.specs.Start.{Start}
use Rattle.outcomes_law.proofs.Lemmas.{HaltsEnd, halted-cores-have-ended}
use Rattle.rv_code.specs.Machine.{program}
use Rattle.theorem_riscv.proofs.Lemmas.{riscv_cores_go_on, runs_give_the_plain_machine}
use Rattle.theorem_riscv.specs.Given.{IsSerial, committed}
use Rattle.rules_riscv.specs.Starting.{world_at_start}
use Rattle.tcc_base.specs.declared.access.CoreEnd.TheVariants.{Run}
use Rattle.base_lemmas.proofs.Lemmas.{none-past}
use Rattle.theorem_live.specs.Progress.{EachGoesOn, IsPlaced}
use Rattle.rules_maps.specs.Nodes.{Event, Exec, Evict, Deliver}
use Rattle.rules_program.specs.Plain.{Order, serial}
use Rattle.rules_tcc.specs.Laws.{IsIn}
use Rattle.rules_tcc.specs.State.{Phase, Halted}
use Rattle.rules_tcc.specs.Step.{History, run}
use Rattle.rules_tcc.specs.Useful.{useful}
use Rattle.rules_tcc.proofs.Lemmas.{useful-holds}
use Rattle.run_follow.specs.Following.{Agree, followed_by, is_turn, may_come, next_in, next_of, turn_of}
use Rattle.run_follow.specs.Laws.{FollowedAll}
use Rattle.run_follow.proofs.Along.{Kept, followed-kept}
use Rattle.run_follow.proofs.Clear.{clear-has}
use Rattle.run_follow.proofs.Finding.{from-here}
use Rattle.run_follow.proofs.InTurn.{InTurn}
use Rattle.run_follow.proofs.Keeping.{IsPart, is-part, one-ended}
use Rattle.run_follow.proofs.Lengths.{first-runs}
use Rattle.run_follow.proofs.Runs.{followed-ends}

-- an event that may come is found
is-found : (turn : Option ℕ) (es : List Event) (e : Event) → IsIn e es → may_come turn e ≡ true → next_of turn es ≡ None → ⊥
unfolding next_of
is-found turn [] e i m n = i
is-found turn (x ∷ es) e i m n = go (may_come turn x) refl n i (λ j. is-found turn es e j m)
  where
    go : (b : Bool) → may_come turn x ≡ b → cond b (Some x) (find (may_come turn) es) ≡ None → IsIn e (x ∷ es)
        → (IsIn e es → next_of turn es ≡ None → ⊥) → ⊥
    go true q f j rest = cc
    go false q f (inl same) rest = let here : may_come turn x ≡ true = rw same m in cc
    go false q f (inr j) rest = rest j f

-- a core that has a TID is the one whose turn it is
placed-is_turn : (os : List Order) (h : History) (c : ℕ) → InTurn os h → IsPlaced h.world c → is_turn (turn_of os h.commits) c ≡ true
placed-is_turn os h c k p = go (is_turn (turn_of os h.commits) c) refl
  where
    go : (b : Bool) → is_turn (turn_of os h.commits) c ≡ b → is_turn (turn_of os h.commits) c ≡ true
    go true e = e
    go false e = let none = clear-has (h.world.cores c).phase p.0 (k.clear c e) in let has = p.1 in absurd (cc)

-- the core whose turn it is goes on by an event that may come
goes-may : (os : List Order) (h : History) (c : ℕ) (e : Event) → is_turn (turn_of os h.commits) c ≡ true → InTurn os h
    → ((a : ℕ) → e ≡ Exec a → (a ≡ c) ⊎ IsPlaced h.world a) → may_come (turn_of os h.commits) e ≡ true
unfolding may_come
goes-may os h c (Exec a) t k f = go (f a refl)
  where
    go : (a ≡ c) ⊎ IsPlaced h.world a → is_turn (turn_of os h.commits) a ≡ true
    go (inl e) = rw e t
    go (inr p) = placed-is_turn os h a k p
goes-may os h c (Evict a x y) t k f = refl
goes-may os h c (Deliver src dst i) t k f = refl

halted-or : (q : Phase) → (q ≡ Halted) ⊎ (q ≡ Halted → ⊥)
halted-or Halted = inl refl
halted-or q = inr (λ e. absurd (cc))

-- where no event may come the core whose turn it is doesn't run
turn-ended : (s : Start) (os : List Order) (h : History) (o : Order) → EachGoesOn s.settings (program s) h.world → HaltsEnd s h
    → InTurn os h → slice_get os (length h.commits) ≡ Some o → next_in s os h ≡ None
    → ((committed s h).cores o.core).ended ≡ Run → ⊥
turn-ended s os h o each ends k at none = one-ended s h o.core (λ lt. go lt (halted-or (h.world.cores o.core).phase))
  where
    turn : is_turn (turn_of os h.commits) o.core ≡ true
    turn = rw at (grind (arith, nat_tests))

    go : o.core < s.settings.cores → ((h.world.cores o.core).phase ≡ Halted) ⊎ ((h.world.cores o.core).phase ≡ Halted → ⊥)
        → ((committed s h).cores o.core).ended ≡ Run → ⊥
    go lt (inl e) = ends o.core lt e
    go lt (inr n) =
        let on = each o.core lt n in
        absurd (is-found (turn_of os h.commits) (useful s.settings (program s) h.world) on.event
        ((useful-holds s.settings (program s) h.world on.event).1 on.is_useful) (goes-may os h o.core on.event turn k on.executes) none)

-- so none is left
all-committed : (s : Start) (os : List Order) (h : History) → IsPart s os h → EachGoesOn s.settings (program s) h.world → HaltsEnd s h
    → InTurn os h → next_in s os h ≡ None → Agree h.commits os
all-committed s os h part each ends k none = go (slice_get os (length h.commits)) refl
  where
    go : (o : Option Order) → slice_get os (length h.commits) ≡ o → Agree h.commits os
    go None e = subst (Agree h.commits) (take_all (length h.commits) os (past (cases_lt (length h.commits) (length os)))) part.agree
      where
        past : (length h.commits < length os) ⊎ (length os ≤ length h.commits) → length os ≤ length h.commits
        past (inl l) = absurd (none-past os (length h.commits) e l)
        past (inr l) = l
    go (Some o) e =
        let rest = subst (λ xs. IsSome (serial s.settings.base (program s) part.last xs (committed s h)))
        (from-here os (length h.commits) o e) part.rest in
        absurd (first-runs s.settings.base (program s) part.last o (drop (suc (length h.commits)) os) (committed s h) rest
        (turn-ended s os h o each ends k e none))

pub followed-all : FollowedAll
followed-all s os most allowed some few =
    let es = followed_by s os most in
    go (run s.settings (program s) (world_at_start s) es) (runs_give_the_plain_machine s es allowed) (followed-kept s os most)
    (riscv_cores_go_on s es allowed) (halted-cores-have-ended s es) (followed-ends s os most few)
  where
    go : (x : Option History) → IfSome x (IsSerial s) → IfSome x (Kept s os)
        → IfSome x (λ h. EachGoesOn s.settings (program s) h.world) → IfSome x (HaltsEnd s) → IfSome x (λ h. next_in s os h ≡ None)
        → IfSome x (λ h. Agree h.commits os)
    go None given kept each ends none = tt
    go (Some h) given kept each ends none = all-committed s os h (is-part s os h some given kept) each ends kept.in_turn none
