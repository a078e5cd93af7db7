-- The attempt that a core commits: the instruction that ends it writes nothing.
use Rattle.std.proofs.Common.{◌≡◌, ℕ, Bool, true, false, None, Some, Option, is_some, Err, refl, ap, sym, ◌∙◌, subst}
use Rattle.std.specs.Prelude.{if◌then◌else◌}
use Rattle.rules_maps.specs.Shape.{Shape}
use Rattle.rules_program.specs.Program.{Need, Nothing, Loads, Stores, Changes, Prints, Ends, Halts, Traps, Program}
use Rattle.rules_tcc.specs.Attempt.{Out, finished, is_solo, one_more_instruction}
use Rattle.rules_tcc.specs.Commit.{commit, solo_commit}
use Rattle.rules_tcc.specs.CoreExec.{core_exec, exec_in_phase, unless_awaiting}
use Rattle.rules_tcc.specs.Execute.{end_transaction, execute, execute_need}
use Rattle.rules_tcc.specs.State.{CoreState, Phase, Running, AwaitTid, DoomedTid, Probing, Ready, Overflowing, Solo, Halted}
use Rattle.rules_bus.specs.Commit.{commit_out, written_words}
use Rattle.core_node.specs.Answers.{IsBlocked, IsMemory}
use Rattle.core_node.specs.Executing.{TellsOfEvent}
use Rattle.core_node.specs.declared.exec.Executed.{Executed}
use Rattle.core_node.specs.declared.delivering.CoreError.{CoreError}
use Rattle.core_node.specs.declared.delivering.CoreError.TheVariants as core_error
use Rattle.core_node.specs.AtHand.{ends_by, line_told, lines_told}
use Rattle.bus_tcc.specs.Committing.{CanCommit}
use Rattle.bus_tcc.specs.Ending.{CommitsBy, at_commit}

-- ---- what stays

-- what the core holds of memory's words is the same
pub record HoldsAs (u s : CoreState) : Type 0 where
  pub cache : u.cache ≡ s.cache
  pub spilled : u.spilled ≡ s.spilled
  pub phase : u.phase ≡ s.phase

finished-holds : (p : Program) (q : Need) (s : CoreState) → ends_by q ≡ true → HoldsAs (finished p q 0 s) s
unfolding finished one_more_instruction
finished-holds p Ends s e = record { cache = refl; spilled = refl; phase = refl }
finished-holds p (Halts code) s e = record { cache = refl; spilled = refl; phase = refl }
finished-holds p (Traps code) s e = record { cache = refl; spilled = refl; phase = refl }
finished-holds p Nothing s e = cc
finished-holds p (Loads addr size) s e = cc
finished-holds p (Stores addr size value) s e = cc
finished-holds p (Changes addr changed) s e = cc
finished-holds p (Prints byte) s e = cc

-- where it is alone
pub alone-commits : (p : Program) (s : CoreState) → is_solo s.phase ≡ true → at_commit p s ≡ finished p (p.need s.local) 0 s
unfolding at_commit
alone-commits p s e = ap (λ b. if b then finished p (p.need s.local) 0 s else s) e

-- and where it isn't
pub waiting-commits : (p : Program) (s : CoreState) → is_solo s.phase ≡ false → at_commit p s ≡ s
unfolding at_commit
waiting-commits p s e = ap (λ b. if b then finished p (p.need s.local) 0 s else s) e

ends-there : (p : Program) (t : ℕ) (s : CoreState) (q : Phase) → is_solo q ≡ true → CommitsBy p t s q → ends_by (p.need s.local) ≡ true
ends-there p t s (Solo u) e h = h.1
ends-there p t s AwaitTid e h = cc
ends-there p t s Running e h = cc
ends-there p t s DoomedTid e h = cc
ends-there p t s (Probing u) e h = cc
ends-there p t s (Ready u) e h = cc
ends-there p t s (Overflowing u) e h = cc
ends-there p t s Halted e h = cc

pub commit-holds : (p : Program) (t : ℕ) (s : CoreState) → CommitsBy p t s s.phase → HoldsAs (at_commit p s) s
commit-holds p t s h = by (is_solo s.phase) refl
  where
    by : (b : Bool) → is_solo s.phase ≡ b → HoldsAs (at_commit p s) s
    by true e = subst (λ u. HoldsAs u s) (sym (alone-commits p s e)) (finished-holds p (p.need s.local) s (ends-there p t s s.phase e h))
    by false e = subst (λ u. HoldsAs u s) (sym (waiting-commits p s e)) (record { cache = refl; spilled = refl; phase = refl })

pub written-same : (u s : CoreState) → HoldsAs u s → written_words u ≡ written_words s
unfolding written_words
written-same u s h = λ i. written_words (record u { cache = h.cache i; spilled = h.spilled i })

pub told-same : (sh : Shape) (t : ℕ) (u s : CoreState) → HoldsAs u s → lines_told sh t u ≡ lines_told sh t s
unfolding lines_told line_told
told-same sh t u s h = λ i. lines_told sh t (record u { cache = h.cache i; spilled = h.spilled i })

pub can-same : (sh : Shape) (u s : CoreState) → HoldsAs u s → CanCommit sh s → CanCommit sh u
can-same sh u s h k = record {
  clean = λ x. ap (λ c. c.dirty x) h.cache ∙ k.clean x;
  valid = λ x. subst (λ c. c.modified x ≡ true → is_some (c.value x) ≡ true) (sym h.cache) (k.valid x);
  inside = λ x e. k.inside x (ap (λ f. is_some (f x)) (sym (written-same u s h)) ∙ e);
}

-- ---- what is done

close-alone : (sh : Shape) (p : Program) (c u : ℕ) (s : CoreState) (q : Need) → s.phase ≡ Solo u → ends_by q ≡ true
    → execute_need sh p c s q ≡ Some (solo_commit sh c u (finished p q 0 s))
close-alone sh p c u s Ends e b = ap (λ y. Some (end_transaction sh c y (finished p Ends 0 s))) e
close-alone sh p c u s (Halts code) e b = ap (λ y. Some (end_transaction sh c y (finished p (Halts code) 0 s))) e
close-alone sh p c u s (Traps code) e b = ap (λ y. Some (end_transaction sh c y (finished p (Traps code) 0 s))) e
close-alone sh p c u s Nothing e b = cc
close-alone sh p c u s (Loads addr size) e b = cc
close-alone sh p c u s (Stores addr size value) e b = cc
close-alone sh p c u s (Changes addr changed) e b = cc
close-alone sh p c u s (Prints byte) e b = cc

out-alone : (sh : Shape) (c t : ℕ) (s : CoreState) → is_solo s.phase ≡ true → solo_commit sh c t s ≡ commit_out sh c t s
out-alone sh c t s e = rw e refl

pub out-waiting : (sh : Shape) (c t : ℕ) (s : CoreState) → is_solo s.phase ≡ false → commit sh c t s ≡ commit_out sh c t s
out-waiting sh c t s e = rw e refl

-- a core that is alone executes its commit
pub ends-alone : (sh : Shape) (p : Program) (c t : ℕ) (s : CoreState) → is_solo s.phase ≡ true → s.awaited ≡ None
    → CommitsBy p t s s.phase → core_exec sh p c s ≡ Some (commit_out sh c t (at_commit p s))
unfolding core_exec execute
ends-alone sh p c t s b a h = by s.phase refl b h
  where
    by : (q : Phase) → s.phase ≡ q → is_solo q ≡ true → CommitsBy p t s q
        → exec_in_phase sh p c s s.phase ≡ Some (commit_out sh c t (at_commit p s))
    by (Solo u) e b h =
        ap (exec_in_phase sh p c s) e ∙ ap (unless_awaiting sh p c s) a ∙ close-alone sh p c u s (p.need s.local) e h.1
        ∙ ap (λ v. Some (solo_commit sh c v (finished p (p.need s.local) 0 s))) h.0
        ∙ ap (λ y. Some (solo_commit sh c t y)) (sym (alone-commits p s (ap is_solo e)))
        ∙ ap (λ o. Some o) (out-alone sh c t (at_commit p s) (ap is_solo (commit-holds p t s (subst (CommitsBy p t s) (sym e) h)).phase
        ∙ ap is_solo e))
    by AwaitTid e b h = cc
    by Running e b h = cc
    by DoomedTid e b h = cc
    by (Probing u) e b h = cc
    by (Ready u) e b h = cc
    by (Overflowing u) e b h = cc
    by Halted e b h = cc

pub ends-waiting : (sh : Shape) (p : Program) (c t : ℕ) (s : CoreState) → is_solo s.phase ≡ false
    → commit sh c t s ≡ commit_out sh c t (at_commit p s)
ends-waiting sh p c t s e = out-waiting sh c t s e ∙ ap (commit_out sh c t) (sym (waiting-commits p s e))

pub never-blocked : (A B : Type 0) (error : CoreError) (o : Option Out) (x : Out) → o ≡ Some x → IsBlocked {A = A} (Err error) o
    → IsMemory {A = B} (Err error)
never-blocked A B core_error.Blocked o x e b = let q = sym e ∙ b in absurd (cc)
never-blocked A B core_error.Memory o x e b = record {}

pub as-told : (a b : Executed) (o p : Option Out) → a ≡ b → o ≡ p → TellsOfEvent a o → TellsOfEvent b p
as-told a b o p e q h = subst (TellsOfEvent b) q (subst (λ x. TellsOfEvent x o) e h)
