-- From a core's next transaction to the states that follow.
use Rattle.std.proofs.Common.{ℕ, ◌≡◌, ◌+◌, ◌<◌, ◌≤◌, true, List, [], ◌∷◌, ◌++◌, Option, Some, None, IsSomeAnd, Contains, map}
use Rattle.std.proofs.Common.{refl, sym, ◌∙◌, ap, subst, length, nat_lt, append_assoc, arith}
use Rattle.std.proofs.lemmas.Grind.{common_steps}
use Rattle.std.proofs.lemmas.Bool.Decides.{nat_tests}
use Rattle.std.proofs.lemmas.List.{get_or-map, length-map, get_or_past}
use Rattle.std.proofs.lemmas.List.Elements.{All-get_or, All-from_get_or, All-map, Contains-get_or}
use Rattle.image_load.specs.Contents.{Contents, started}
use Rattle.run_outcomes.proofs.Serially.{every-end}
use Rattle.run_outcomes.specs.Changes.{changed_ram}
use Rattle.run_outcomes.specs.Explored.{AreFound, AreAllStates, IsFollowedAt, IsGrown, machines, state_at, no_snapshot}
use Rattle.run_outcomes.specs.Next.{LeadsTo}
use Rattle.run_outcomes.specs.Serially.{IsFollowed, IsReached}
use Rattle.run_outcomes.specs.States.{machine_of, core_in, after_core}
use Rattle.run_outcomes.specs.declared.states.Snapshot.{Snapshot}
use Rattle.rv_code.specs.Machine.{program}
use Rattle.rv_plain.specs.Cores.{no_state}
use Rattle.rv_plain.specs.Machine.{plain_start}
use Rattle.rv_plain.specs.declared.plain.CoreState.{CoreState}
use Rattle.tcc_base.specs.declared.access.CoreEnd.{CoreEnd}
use Rattle.tcc_base.specs.declared.access.CoreEnd.TheVariants.{Run, Halt, Trap}
use Rattle.tcc_base.specs.declared.access.Commit.{Commit}
use Rattle.rules_program.proofs.Lemmas.{serial-snoc}
use Rattle.rules_program.specs.Orders.{last_tid}
use Rattle.rules_program.specs.Plain.{Plain, Attempt, Order, transaction, closed, begun, steps, close_if, if_runs, serial}
use Rattle.rules_program.specs.Program.{Program}
use Rattle.rv_plain.proofs.Lemmas.{cores-put}

-- the transaction of a core is that of its machine
pub leads-transaction : (l : Contents) (s : Snapshot) (c n : ℕ) (after : CoreState) (left : List (ℕ × ℕ)) → c < length s.cores
    → (t : LeadsTo l (core_in s c) (changed_ram l s.changes) n after (changed_ram l left))
    → transaction l.settings.base (program (started l)) (machine_of l s) c n
    ≡ Some (machine_of l (after_core s c after left), t.attempt)
unfolding machine_of transaction closed
leads-transaction l s c n after left lt t =
    rw (t.runs, t.does, t.ends) (λ i. Some (
      record {
        ram = (sym t.ram) i;
        cores = λ j. (sym (cores-put s.cores c after
            (record { local = t.attempt.local; ended = after.ended; console = (core_in s c).console ++ t.attempt.console })
            (λ k. record { local = t.local k; ended = after.ended; console = t.prints k }) lt j)) i;
      },
      t.attempt,
    ))

abbrev HasHalted : CoreEnd → Type 0
HasHalted Run = ⊥
HasHalted (Halt code) = Unit {0}
HasHalted (Trap code) = Unit {0}

-- a core that has halted has no next transaction
stops : (base : ℕ) (p : Program) (m : Plain) (c n : ℕ) (end : CoreEnd) → (end ≡ Run → ⊥)
    → if_runs end (close_if m c (steps base p n (begun (m.cores c).local m.ram))) ≡ None
stops base p m c n Run h = absurd (h refl)
stops base p m c n (Halt code) h = refl
stops base p m c n (Trap code) h = refl

pub no-transaction : (l : Contents) (s : Snapshot) (c n : ℕ) → ((core_in s c).ended ≡ Run → ⊥)
    → transaction l.settings.base (program (started l)) (machine_of l s) c n ≡ None
unfolding transaction machine_of
no-transaction l s c n h = stops l.settings.base (program (started l)) (machine_of l s) c n (core_in s c).ended h

-- one transaction more from a machine that is reached
pub reached-next : (base : ℕ) (p : Program) (start m : Plain) (c n : ℕ) (d : Plain × Attempt) → IsReached base p start m
    → transaction base p m c n ≡ Some d → IsReached base p start d.0
reached-next base p start m c n d h is = go (serial base p 0 h.0 start) refl h.1
  where
    o : Order
    o = record { tid = last_tid 0 h.0 + 1; core = c; n = n }

    go : (x : Option (Plain × List Commit)) → serial base p 0 h.0 start ≡ x → IsSomeAnd x (λ r. m ≡ r.0)
        → IsReached base p start d.0
    go None e f = absurd f
    go (Some r) e f =
        let rises : nat_lt (last_tid 0 h.0) (last_tid 0 h.0 + 1) ≡ true = grind (arith, nat_tests) in
        let does : transaction base p r.0 c n ≡ Some d = subst (λ y. transaction base p y c n ≡ Some d) f is in
        (h.0 ++ o ∷ [], rw (serial-snoc base p 0 h.0 o start r d e rises does) refl)

pub contains-map : {X Y : Type 0} (f : X → Y) (xs : List X) (x : X) → Contains xs x → Contains (map f xs) (f x)
contains-map f xs x h =
    (h.0, rw (length-map xs f) h.1, get_or-map f xs h.0 x (f x) h.1 ∙ ap f h.2)

-- a state of the list stays in its place as the list grows
pub state-kept : (old more : List Snapshot) (k : ℕ) → k < length old → state_at (old ++ more) k ≡ state_at old k
state-kept old more k lt = grind (arith, common_steps)

pub grown-grown : {X : Type 0} (a b c : List X) → IsGrown a b → IsGrown b c → IsGrown a c
grown-grown a b c h g = (h.0 ++ g.0, g.1 ∙ ap (λ x. x ++ g.0) h.1 ∙ append_assoc a h.0 g.0)

pub all-states : (l : Contents) (states : List Snapshot) → AreFound l states
    → ((k : ℕ) → k < length states → (core : ℕ) → IsFollowedAt l states k core) → AreAllStates l states
all-states l states found each =
    let base = l.settings.base in
    let p = program (started l) in
    let ms = machines l states in
    let P : Plain → Type 0 = λ m. (core : ℕ) → IsFollowed base p ms m core in
    every-end base p ms
    (All-map P (machine_of l) states (All-from_get_or (λ s. P (machine_of l s)) states no_snapshot each))
    (plain_start (started l))
    (subst (λ m. Contains ms m) found.first
    (contains-map (machine_of l) states (state_at states 0) (Contains-get_or states 0 no_snapshot found.some)))

-- a core that the machine doesn't have has halted
pub beyond-halted : (l : Contents) (states : List Snapshot) (k core : ℕ) → AreFound l states → k < length states
    → l.settings.cores ≤ core → (core_in (state_at states k) core).ended ≡ Run → ⊥
beyond-halted l states k core found lt beyond e =
    let sized : length (state_at states k).cores ≡ l.settings.cores =
    All-get_or (λ s. length s.cores ≡ l.settings.cores) states k no_snapshot lt found.sized in
    let out : length (state_at states k).cores ≤ core = omega arith in
    let none : core_in (state_at states k) core ≡ no_state = get_or_past (state_at states k).cores core no_state out in
    subst HasHalted (ap (λ c. c.ended) (sym none) ∙ e) tt
