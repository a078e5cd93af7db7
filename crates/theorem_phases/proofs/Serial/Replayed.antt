-- What an attempt loads decides where it leads: two attempts from the same registers with the same loads have the same ones at the end,
-- whatever the memory is.
use Rattle.std.specs.Prelude.{ℕ, zero, suc, ◌≡◌, ◌≢◌, Bool, true, false, ◌==◌, List, [], ◌∷◌, ◌++◌, Option}
use Rattle.std.specs.Prelude.{Some, None, IfSome, if◌then◌else◌}
use Rattle.std.proofs.Common.{arith, refl, ap, sym, subst, append_assoc, ◌∙◌}
use Rattle.std.proofs.lemmas.Bool.Decides.{nat_tests}
use Rattle.std.proofs.lemmas.List.{append_cancel_left}
use Rattle.tcc_base.specs.declared.access.CoreEnd.{CoreEnd}
use Rattle.tcc_base.specs.declared.access.CoreEnd.TheVariants.{Run, Halt, Trap}
use Rattle.tcc_base.specs.declared.access.Load.{Load}
use Rattle.tcc_base.specs.declared.access.Size.TheVariants.{Word}
use Rattle.rules_program.specs.Plain.{Attempt, Outcome, Goes, Ended, Halted, Trapped, Plain, load_of, stepped, plain_step, when_going}
use Rattle.rules_program.specs.Plain.{then_step, steps, begun, closed, close, close_if, end_of, if_runs, transaction}
use Rattle.rules_program.specs.Program.{Local, Need, Nothing, Loads, Stores, Changes, Prints, Ends, Halts, Traps, Program}
use Rattle.rules_program.specs.Ram.{loaded}

pub record Same (a b : Attempt) : Type 0 where
  pub local : a.local ≡ b.local
  pub loads : a.loads ≡ b.loads

-- where the loads begin one list they are the same, and so are the registers
abbrev Agrees : (a b : Attempt) → Type 0
Agrees a b = (xs ys : List Load) → a.loads ++ xs ≡ b.loads ++ ys → Same a b

-- what an instruction loads
abbrev more : (base : ℕ) → Attempt → Need → List Load
more base a (Loads addr size) = load_of addr size (loaded base a.ram addr size) ∷ []
more base a (Changes addr changed) = load_of addr Word (loaded base a.ram addr Word) ∷ []
more base a _ = []

loads-more : (base : ℕ) (p : Program) (a : Attempt) (m : Need) (xs : List Load)
    → (stepped base p a m).loads ++ xs ≡ a.loads ++ (more base a m ++ xs)
loads-more base p a (Loads addr size) xs = append_assoc a.loads (more base a (Loads addr size)) xs
loads-more base p a (Changes addr changed) xs = append_assoc a.loads (more base a (Changes addr changed)) xs
loads-more base p a Nothing xs = refl
loads-more base p a (Stores addr size value) xs = refl
loads-more base p a (Prints byte) xs = refl
loads-more base p a Ends xs = refl
loads-more base p a (Halts code) xs = refl
loads-more base p a (Traps code) xs = refl

-- the value that a list begins with
abbrev first-value : List Load → ℕ
first-value [] = 0
first-value (x ∷ xs) = x.value

-- the same instruction over the same loads
stepped-same : (base : ℕ) (p : Program) (a b : Attempt) (m : Need) (xs ys : List Load) → Same a b
    → more base a m ++ xs ≡ more base b m ++ ys → Same (stepped base p a m) (stepped base p b m)
stepped-same base p a b (Loads addr size) xs ys k e =
    let v : loaded base a.ram addr size ≡ loaded base b.ram addr size = ap first-value e in
    record {
      local = λ i. p.after (k.local i) (Some (v i));
      loads = λ i. k.loads i ++ load_of addr size (v i) ∷ [];
    }
stepped-same base p a b (Changes addr changed) xs ys k e =
    let v : loaded base a.ram addr Word ≡ loaded base b.ram addr Word = ap first-value e in
    record {
      local = λ i. p.after (k.local i) (Some (v i));
      loads = λ i. k.loads i ++ load_of addr Word (v i) ∷ [];
    }
stepped-same base p a b Nothing xs ys k e = record { local = λ i. p.after (k.local i) None; loads = k.loads }
stepped-same base p a b (Stores addr size value) xs ys k e = record { local = λ i. p.after (k.local i) None; loads = k.loads }
stepped-same base p a b (Prints byte) xs ys k e = record { local = λ i. p.after (k.local i) None; loads = k.loads }
stepped-same base p a b Ends xs ys k e = record { local = λ i. record (p.after (k.local i) None) { reserved = None }; loads = k.loads }
stepped-same base p a b (Halts code) xs ys k e = record { local = λ i. record (k.local i) { reserved = None }; loads = k.loads }
stepped-same base p a b (Traps code) xs ys k e = record { local = λ i. record (k.local i) { reserved = None }; loads = k.loads }

step-agrees : (base : ℕ) (p : Program) (a b : Attempt) → Agrees a b → Agrees (plain_step base p a) (plain_step base p b)
unfolding plain_step
step-agrees base p a b h xs ys e =
    subst (λ n. more base a m ++ xs ≡ more base b n ++ ys → Same (stepped base p a m) (stepped base p b n)) (ap p.need same.local)
    (stepped-same base p a b m xs ys same) rest
  where
    m : Need
    m = p.need a.local

    n : Need
    n = p.need b.local

    both : a.loads ++ (more base a m ++ xs) ≡ b.loads ++ (more base b n ++ ys)
    both = sym (loads-more base p a m xs) ∙ e ∙ loads-more base p b n ys

    same : Same a b
    same = h (more base a m ++ xs) (more base b n ++ ys) both

    rest : more base a m ++ xs ≡ more base b n ++ ys
    rest = append_cancel_left b.loads (more base a m ++ xs) (more base b n ++ ys)
        (ap (λ ls. ls ++ (more base a m ++ xs)) (sym same.loads) ∙ both)

-- any two that there are
abbrev Both : Option Attempt → Option Attempt → Type 0
Both o q = IfSome o (λ a. IfSome q (Agrees a))

no-other : (o : Option Attempt) → Both o None
no-other None = tt
no-other (Some a) = tt

steps-agree : (base : ℕ) (p : Program) (n : ℕ) (l : Local) (here there : ℕ → ℕ)
    → Both (steps base p n (begun l here)) (steps base p n (begun l there))
unfolding steps begun
steps-agree base p zero l here there = λ xs ys e. record { local = refl; loads = refl }
steps-agree base p (suc n) l here there =
    go (steps base p n (begun l here)) (steps base p n (begun l there)) (steps-agree base p n l here there)
  where
    go : (o q : Option Attempt) → Both o q → Both (then_step base p o) (then_step base p q)
    go None q h = tt
    go (Some a) None h = no-other (when_going base p a a.outcome)
    go (Some a) (Some b) h = at a.outcome b.outcome
      where
        at : (u v : Outcome) → Both (when_going base p a u) (when_going base p b v)
        at Goes Goes = step-agrees base p a b h
        at Goes Ended = tt
        at Goes (Halted code) = tt
        at Goes (Trapped code) = tt
        at Ended v = tt
        at (Halted code) v = tt
        at (Trapped code) v = tt

-- transactions

-- a transaction leaves its core as its attempt ended, and all others alone
pub record Closes (m : Plain) (core : ℕ) (d : Plain × Attempt) : Type 0 where
  pub own : (d.0.cores core).local ≡ d.1.local
  pub others : (c : ℕ) → c ≢ core → d.0.cores c ≡ m.cores c

-- two transactions of one core, from the same registers, with the same loads leave the same registers
abbrev pub Alike : (d f : Plain × Attempt) → Type 0
Alike d f = d.1.loads ≡ f.1.loads → d.1.local ≡ f.1.local

closed-closes : (m : Plain) (core : ℕ) (a : Attempt) (e : CoreEnd) → Closes m core (closed m core a e, a)
unfolding closed
closed-closes m core a e = record { own = grind (arith, nat_tests); others = λ c n. other c (c == core) refl n }
  where
    other : (c : ℕ) (b : Bool) → (c == core) ≡ b → c ≢ core
        → (if b then record { local = a.local; ended = e; console = (m.cores core).console ++ a.console } else m.cores c) ≡ m.cores c
    other c true q n = absurd (n (grind (arith, nat_tests)))
    other c false q n = refl

pub transaction-closes : (base : ℕ) (p : Program) (m : Plain) (core n : ℕ) → IfSome (transaction base p m core n) (Closes m core)
unfolding transaction
transaction-closes base p m core n = go (m.cores core).ended (steps base p n (begun (m.cores core).local m.ram))
  where
    ends : (a : Attempt) (e : Option CoreEnd) → IfSome (close m core a e) (Closes m core)
    ends a None = tt
    ends a (Some e) = closed-closes m core a e

    go : (e : CoreEnd) (x : Option Attempt) → IfSome (if_runs e (close_if m core x)) (Closes m core)
    go Run None = tt
    go Run (Some a) = ends a (end_of a.outcome)
    go (Halt k) x = tt
    go (Trap k) x = tt

abbrev BothAlike : Option (Plain × Attempt) → Option (Plain × Attempt) → Type 0
BothAlike x y = IfSome x (λ d. IfSome y (Alike d))

none-alike : (x : Option (Plain × Attempt)) → BothAlike x None
none-alike None = tt
none-alike (Some d) = tt

pub transactions-alike : (base : ℕ) (p : Program) (m k : Plain) (core n : ℕ) → (m.cores core).local ≡ (k.cores core).local
    → BothAlike (transaction base p m core n) (transaction base p k core n)
unfolding transaction
transactions-alike base p m k core n e =
    go (m.cores core).ended (k.cores core).ended (steps base p n (begun (m.cores core).local m.ram))
    (steps base p n (begun (k.cores core).local k.ram))
    (subst (λ l. Both (steps base p n (begun (m.cores core).local m.ram)) (steps base p n (begun l k.ram))) e
    (steps-agree base p n (m.cores core).local m.ram k.ram))
  where
    ends : (a b : Attempt) (u v : Option CoreEnd) → Agrees a b → BothAlike (close m core a u) (close k core b v)
    ends a b None v h = tt
    ends a b (Some u) None h = tt
    ends a b (Some u) (Some v) h = λ q. (h [] [] (ap (λ ls. ls ++ []) q)).local

    go : (u v : CoreEnd) (x y : Option Attempt) → Both x y → BothAlike (if_runs u (close_if m core x)) (if_runs v (close_if k core y))
    go Run Run None y h = tt
    go Run Run (Some a) None h = none-alike (close m core a (end_of a.outcome))
    go Run Run (Some a) (Some b) h = ends a b (end_of a.outcome) (end_of b.outcome) h
    go Run (Halt j) x y h = none-alike (close_if m core x)
    go Run (Trap j) x y h = none-alike (close_if m core x)
    go (Halt j) v x y h = tt
    go (Trap j) v x y h = tt
