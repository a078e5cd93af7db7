-- An instruction of the bus machine is one of the core's, with the line of the word that it reads; so it asks for no line.
use Rattle.std.specs.Prelude.{ℕ, ◌≡◌, Bool, true, false, ◌&&◌, ◌||◌, ◌⊎◌, Option, Some, None, is_some, IfSome}
use Rattle.std.proofs.Common.{refl, ap, sym, subst, ◌∙◌}
use Rattle.tcc_base.specs.declared.access.Size.TheVariants.{Byte, Half, Word}
use Rattle.rules_maps.specs.Shape.{Shape}
use Rattle.rules_program.specs.Program.{Need, Loads, Stores, Changes, Program}
use Rattle.rules_tcc.specs.Attempt.{Out, is_solo}
use Rattle.rules_tcc.specs.CoreExec.{core_exec}
use Rattle.rules_tcc.specs.State.{CoreState, Running}
use Rattle.rules_bus.specs.Exec.{word_read, line_at_hand, instruction}
use Rattle.theorem_bus.proofs.OneCore.Did.{AtHand, LineSet, How, Ran, Closed, Overflowed, Executed, NeedIn, goes, exec-executed}
use Rattle.theorem_bus.proofs.OneCore.Filled.{Hand, Same, Has, ReadIn, at-hand}

pub if-at : {A : Type 0} (x : Option A) (y : A) (P : A → Type 0) → x ≡ Some y → IfSome x P → P y
if-at x y P e h = rw e at h

-- it executes an instruction
abbrev pub Executes : Program → CoreState → Type 0
Executes p s = (s.phase ≡ Running) ⊎ ((is_solo s.phase && goes (p.need s.local)) ≡ true)

-- the word that it reads
abbrev pub read_by : Shape → Program → CoreState → Option ℕ
read_by sh p s = word_read sh.base (p.need s.local)

pub read-in : (M : LineSet) (base : ℕ) (n : Need) → NeedIn M base n → ReadIn M (word_read base n)
read-in M base (Loads addr size) m = m
read-in M base (Stores addr Word value) m = tt
read-in M base (Stores addr Half value) m = m
read-in M base (Stores addr Byte value) m = m
read-in M base (Changes addr changed) m = m
read-in M base _ m = tt

-- its line isn't asked for then
hand-at : (sh : Shape) (s t : CoreState) (o : Option ℕ) → Hand sh s t o → AtHand sh t o
hand-at sh s t o (Same e h) = subst (λ u. AtHand sh u o) (sym e) h
hand-at sh s t o (Has w r n f v h) = subst (AtHand sh t) (sym r) (rw v (or-true (is_some (t.spilled w))))
  where
    or-true : (b : Bool) → (b || true) ≡ true
    or-true true = refl
    or-true false = refl

-- what one execution does
pub record Once (sh : Shape) (M : LineSet) (p : Program) (c : ℕ) (s : CoreState) (o : Out) : Type 0 where
  pub is : core_exec sh p c s ≡ Some o
  pub executed : Executed M s o
  pub none : o.core.awaited ≡ None

none-awaited : (s : CoreState) (o : Out) → s.awaited ≡ None → How s o.core → o.core.awaited ≡ None
none-awaited s o a (Ran e b) = b ∙ a
none-awaited s o a (Closed r e b) = b ∙ a
none-awaited s o a (Overflowed r e) = ap (λ (t : CoreState). t.awaited) e ∙ a

-- to show Q of what an instruction leaves
pub instructed : (sh : Shape) (M : LineSet) (p : Program) (ram : ℕ → ℕ) (c : ℕ) (s : CoreState) (Q : Out → Type 0)
    → NeedIn M sh.base (p.need s.local) → s.awaited ≡ None → Executes p s
    → ((o : Out) → Once sh M p c (line_at_hand sh p ram s) o → Q o)
    → IfSome (instruction sh p ram c s) Q
unfolding instruction line_at_hand
instructed sh M p ram c s Q m a x all = go (core_exec sh p c t) refl (exec-executed sh M p c t m hand a x)
  where
    t : CoreState
    t = line_at_hand sh p ram s

    hand : AtHand sh t (read_by sh p s)
    hand = hand-at sh s t (read_by sh p s) (at-hand sh ram s (read_by sh p s))

    go : (y : Option Out) → core_exec sh p c t ≡ y → IfSome y (Executed M t) → IfSome y Q
    go None e k = tt
    go (Some o) e k = all o (record { is = e; executed = k; none = none-awaited t o a k.how })
