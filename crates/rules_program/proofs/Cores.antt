-- The consoles after a serial execution, and the cores that it leaves alone.
use Rattle.std.specs.Prelude.{ℕ, ◌≡◌, ◌==◌, Bool, true, false, List, [], ◌∷◌, ◌++◌, Option, Some, None, IfSome, nat_lt, if◌then◌else◌}
use Rattle.std.proofs.Common.{arith, refl, ap, sym, ◌∙◌, append_assoc}
use Rattle.std.proofs.lemmas.Bool.Decides.{nat_tests}
use Rattle.std.proofs.lemmas.List.{append-nil}
use Rattle.tcc_base.specs.declared.access.CoreEnd.{CoreEnd}
use Rattle.tcc_base.specs.declared.access.CoreEnd.TheVariants.{Run, Halt, Trap}
use Rattle.tcc_base.specs.declared.access.Commit.{Commit}
use Rattle.rules_program.specs.Cores.{printed, ConsolesArePrinted, AreBy, with_others, and_others, SerialTakesItsCores}
use Rattle.rules_program.specs.Plain.{Attempt, Plain, PlainCore, begun, closed, close, close_if, end_of, if_runs, steps, transaction, Order}
use Rattle.rules_program.specs.Plain.{commit_of, and_commit, after_order, serial}
use Rattle.rules_program.specs.Program.{Program}

-- consoles

-- what a transaction of this core printed, as core j has it
abbrev Prints : (m : Plain) → (core j : ℕ) → Plain × Attempt → Type 0
Prints m core j d = (d.0.cores j).console ≡ (m.cores j).console ++ (if j == core then d.1.console else [])

closed-prints : (m : Plain) (core j : ℕ) (a : Attempt) (e : CoreEnd) → Prints m core j (closed m core a e, a)
unfolding closed
closed-prints m core j a e = go (j == core) refl
  where
    go : (b : Bool) → (j == core) ≡ b
        → (if b then record { local = a.local; ended = e; console = (m.cores core).console ++ a.console } else m.cores j).console
        ≡ (m.cores j).console ++ (if b then a.console else [])
    go true q = let same : j ≡ core = grind (arith, nat_tests) in rw same refl
    go false q = sym (append-nil (m.cores j).console)

transaction-prints : (base : ℕ) (p : Program) (m : Plain) (core n j : ℕ) → IfSome (transaction base p m core n) (Prints m core j)
unfolding transaction
transaction-prints base p m core n j = go (m.cores core).ended (steps base p n (begun (m.cores core).local m.ram))
  where
    ends : (a : Attempt) (e : Option CoreEnd) → IfSome (close m core a e) (Prints m core j)
    ends a None = tt
    ends a (Some e) = closed-prints m core j a e

    go : (e : CoreEnd) (x : Option Attempt) → IfSome (if_runs e (close_if m core x)) (Prints m core j)
    go Run None = tt
    go Run (Some a) = ends a (end_of a.outcome)
    go (Halt k) x = tt
    go (Trap k) x = tt

pub consoles_are_printed : ConsolesArePrinted
unfolding serial printed commit_of
consoles_are_printed base p last [] m j = sym (append-nil (m.cores j).console)
consoles_are_printed base p last (o ∷ os) m j =
    go (nat_lt last o.tid) (transaction base p m o.core o.n) (transaction-prints base p m o.core o.n j)
    (λ k. consoles_are_printed base p o.tid os k j)
  where
    more : (d : Plain × Attempt) (x : Option (Plain × List Commit)) → Prints m o.core j d
        → IfSome x (λ r. (r.0.cores j).console ≡ (d.0.cores j).console ++ printed j r.1)
        → IfSome (and_commit (commit_of o d.1) x) (λ r. (r.0.cores j).console ≡ (m.cores j).console ++ printed j r.1)
    more d None t h = tt
    more d (Some r) t h = h ∙ ap (λ y. y ++ printed j r.1) t ∙ append_assoc (m.cores j).console (if j == o.core then d.1.console else [])
        (printed j r.1)

    go : (b : Bool) (x : Option (Plain × Attempt)) → IfSome x (Prints m o.core j)
        → ((k : Plain) → IfSome (serial base p o.tid os k) (λ r. (r.0.cores j).console ≡ (k.cores j).console ++ printed j r.1))
        → IfSome (if b then after_order (serial base p o.tid os) o x else None)
        (λ r. (r.0.cores j).console ≡ (m.cores j).console ++ printed j r.1)
    go false x t h = tt
    go true None t h = tt
    go true (Some d) t h = more d (serial base p o.tid os d.0) t (h d.0)

-- other cores

-- the same of a transaction
abbrev done_with : (set : ℕ → Bool) → (ℕ → PlainCore) → Option (Plain × Attempt) → Option (Plain × Attempt)
done_with set others None = None
done_with set others (Some d) = Some (with_others set others d.0, d.1)

closed-others : (set : ℕ → Bool) (others : ℕ → PlainCore) (m : Plain) (core : ℕ) (a : Attempt) (e : CoreEnd) → set core ≡ true
    → closed (with_others set others m) core a e ≡ with_others set others (closed m core a e)
unfolding closed
closed-others set others m core a e own = λ i. record { ram = a.ram; cores = λ c. (at c) i }
  where
    new : PlainCore
    new = record { local = a.local; ended = e; console = (m.cores core).console ++ a.console }

    at : (c : ℕ)
        → (if c == core then record {
          local = a.local;
          ended = e;
          console = (if set core then m.cores core else others core).console
              ++ a.console;
        } else (if set c then m.cores c else others c))
        ≡ (if set c then (if c == core then new else m.cores c) else others c)
    at c = rw own (go (c == core) refl (set c) refl)
      where
        go : (b : Bool) → (c == core) ≡ b → (s : Bool) → set c ≡ s
            → (if b then new else (if s then m.cores c else others c)) ≡ (if s then (if b then new else m.cores c) else others c)
        go true q true r = refl
        go true q false r = let same : c ≡ core = grind (arith, nat_tests) in absurd (let z : set core ≡ false = rw (sym same) r in cc)
        go false q true r = refl
        go false q false r = refl

transaction-others : (set : ℕ → Bool) (others : ℕ → PlainCore) (base : ℕ) (p : Program) (m : Plain) (core n : ℕ) → set core ≡ true
    → transaction base p (with_others set others m) core n ≡ done_with set others (transaction base p m core n)
unfolding transaction
transaction-others set others base p m core n own =
    rw own (go (m.cores core).ended (steps base p n (begun (m.cores core).local m.ram)))
  where
    ends : (a : Attempt) (e : Option CoreEnd)
        → close (with_others set others m) core a e ≡ done_with set others (close m core a e)
    ends a None = refl
    ends a (Some e) = ap (λ k. Some (k, a)) (closed-others set others m core a e own)

    go : (e : CoreEnd) (x : Option Attempt)
        → if_runs e (close_if (with_others set others m) core x) ≡ done_with set others (if_runs e (close_if m core x))
    go Run None = refl
    go Run (Some a) = ends a (end_of a.outcome)
    go (Halt k) x = refl
    go (Trap k) x = refl

serial-others : (set : ℕ → Bool) (others : ℕ → PlainCore) (base : ℕ) (p : Program) (last : ℕ) (os : List Order) (m : Plain)
    → AreBy set os → serial base p last os (with_others set others m) ≡ and_others set others (serial base p last os m)
unfolding serial AreBy
serial-others set others base p last [] m own = refl
serial-others set others base p last (o ∷ os) m own =
    rw (transaction-others set others base p m o.core o.n (own.0))
    (go (nat_lt last o.tid) (transaction base p m o.core o.n) (λ k. serial-others set others base p o.tid os k (own.1)))
  where
    more : (c : Commit) (x : Option (Plain × List Commit)) → and_commit c (and_others set others x) ≡ and_others set others (and_commit c x)
    more c None = refl
    more c (Some r) = refl

    go : (b : Bool) (x : Option (Plain × Attempt))
        → ((k : Plain) → serial base p o.tid os (with_others set others k) ≡ and_others set others (serial base p o.tid os k))
        → (if b then after_order (serial base p o.tid os) o (done_with set others x) else None)
        ≡ and_others set others (if b then after_order (serial base p o.tid os) o x else None)
    go false x h = refl
    go true None h = refl
    go true (Some d) h = ap (and_commit (commit_of o d.1)) (h d.0) ∙ more (commit_of o d.1) (serial base p o.tid os d.0)

pub serial_takes_its_cores : SerialTakesItsCores
serial_takes_its_cores base p last os set here there own same =
    ap (serial base p last os) machines ∙ serial-others set there.cores base p last os here own
  where
    core : (c : ℕ) → there.cores c ≡ (if set c then here.cores c else there.cores c)
    core c = go (set c) refl
      where
        go : (b : Bool) → set c ≡ b → there.cores c ≡ (if b then here.cores c else there.cores c)
        go true q = sym (same.cores c q)
        go false q = refl

    machines : there ≡ with_others set there.cores here
    machines = λ i. record { ram = λ w. (sym (same.ram w)) i; cores = λ c. (core c) i }
