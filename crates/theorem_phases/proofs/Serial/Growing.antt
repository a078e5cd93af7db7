-- What an event does to the phases, after any run: nothing where it notes no commit; else the commit has the phase that its core was in,
-- and the core's next transaction begins at the new checkpoint.
use Rattle.std.specs.Prelude.{ℕ, ◌+◌, ◌≡◌, ◌≢◌, ◌<◌, ◌≤◌, ◌==◌, true, List, [], ◌∷◌, ◌++◌, length}
use Rattle.std.specs.Prelude.{max, Contains, Option, Some, None, IfSome, nat_lt}
use Rattle.std.proofs.Common.{arith, refl, ap, sym, ◌∙◌}
use Rattle.std.proofs.lemmas.Bool.Decides.{nat_tests}
use Rattle.image_load.specs.Start.{Start, first_ram}
use Rattle.rv_code.specs.Machine.{program}
use Rattle.rv_plain.specs.Machine.{plain_start}
use Rattle.tcc_base.specs.Settings.{IsAllowed}
use Rattle.tcc_base.specs.declared.access.Commit.{Commit}
use Rattle.rules_program.specs.Plain.{Plain}
use Rattle.rules_program.specs.Program.{Program}
use Rattle.rules_maps.specs.Nodes.{Event}
use Rattle.rules_maps.specs.Shape.{Shape}
use Rattle.rules_maps.specs.Words.{num}
use Rattle.rules_tcc.specs.State.{World}
use Rattle.rules_tcc.specs.Step.{History, Stepped, step, and_noted, insert_commit, recorded, next_history, and_then, run_from, run}
use Rattle.theorem_serial.specs.Invariants.{Carried, first_state}
use Rattle.theorem_serial.specs.Owners.{Grant, IsNumbered, IsRising, AreGranted, times, holder, LastGranted}
use Rattle.theorem_serial.specs.Pairs.{pair}
use Rattle.theorem_serial.specs.Tids.{has_tid}
use Rattle.theorem_serial.specs.Ways.{Ways, first_ways, ways_from}
use Rattle.theorem_serial.proofs.Lemmas.{runs_carry}
use Rattle.theorem_riscv.specs.Given.{committed, IsSerial, grants_of}
use Rattle.rules_riscv.specs.Starting.{local_at_start, world_at_start, AfterRun}
use Rattle.theorem_riscv.proofs.Lemmas.{runs_give_the_plain_machine}
use Rattle.theorem_phases.specs.Laws.{Grows, PhasesGrow, noted_by}
use Rattle.rules_phases.specs.Phases.{x27, phases_in, phases_of, phase_of}
use Rattle.theorem_phases.proofs.Serial.Followed.{phase_at}
use Rattle.theorem_phases.proofs.Serial.Inserted.{IsLast, Grown, with_phase, grown, along-count, with-phase_put_in}
use Rattle.theorem_phases.proofs.Events.Noting.{NotedIn, step-notes}
use Rattle.theorem_phases.proofs.Serial.Ran.{Ran, ran}

-- one more event

and_then-none : (sh : Shape) (p : Program) (x : Option History) → and_then (run_from sh p []) x ≡ x
unfolding run_from
and_then-none sh p None = refl
and_then-none sh p (Some h) = refl

pub run-snoc : (sh : Shape) (p : Program) (es : List Event) (e : Event) (h : History)
    → run_from sh p (es ++ e ∷ []) h ≡ and_then (λ g. next_history sh p g e) (run_from sh p es h)
unfolding run_from
run-snoc sh p [] e h = and_then-none sh p (next_history sh p h e)
run-snoc sh p (f ∷ es) e h = go (next_history sh p h f) (run-snoc sh p es e)
  where
    go : (x : Option History)
        → ((g : History) → run_from sh p (es ++ e ∷ []) g ≡ and_then (λ g. next_history sh p g e) (run_from sh p es g))
        → and_then (run_from sh p (es ++ e ∷ [])) x ≡ and_then (λ g. next_history sh p g e) (and_then (run_from sh p es) x)
    go None k = refl
    go (Some g) k = k g

-- what is known of a state after a run with these grants

pub record State (s : Start) (gs : List Grant) (h : History) : Type 0 where
  pub serial : IsSerial s h
  pub rising : IsRising 0 h.commits
  pub granted : AreGranted gs h.commits
  pub numbered : IsNumbered 1 gs × (h.world.next ≡ length gs + 1)
  pub live : (c d t : ℕ) → c < s.settings.cores → 1 ≤ holder t (pair h.world c d)
      → Contains gs (record { tid = t; core = c }) × (times t h.commits ≡ 0)
  pub last : LastGranted gs h.world

pub state_after : (s : Start) (es : List Event) → IsAllowed s.settings → AfterRun s es (State s (grants_of s es))
state_after s es k = go (run s.settings (program s) (world_at_start s) es) (runs_give_the_plain_machine s es k)
    (runs_carry s.settings (program s) (local_at_start s) (first_ram s) es)
  where
    ys : Ways
    ys = ways_from s.settings (program s) es first_ways (first_state (local_at_start s) (first_ram s))

    go : (x : Option History) → IfSome x (IsSerial s) → IfSome x (Carried s.settings (grants_of s es) ys)
        → IfSome x (State s (grants_of s es))
    go None a b = tt
    go (Some h) a b = record {
      serial = a;
      rising = b.commits_are_of_granted_tids.0;
      granted = b.commits_are_of_granted_tids.1;
      numbered = b.granted_tids_are_those_below_next;
      live = b.live_tid_is_granted_to_its_core;
      last = b.live_tid_is_the_last_granted_to_its_core;
    }

-- what is noted is the last of its core

is-last : (gs : List Grant) (x : Commit) (cs : List Commit) → times x.tid.0 cs ≡ 0 → AreGranted gs cs
    → ((u : ℕ) → Contains gs (record { tid = u; core = x.core.0 }) → u ≤ x.tid.0) → IsLast x cs
unfolding times AreGranted IsLast
is-last gs x [] z a f = tt
is-last gs x (c ∷ cs) z a f = (differs, smaller, is-last gs x cs (omega (arith, z)) (a.1) f)
  where
    differs : c.tid.0 ≢ x.tid.0
    differs e = let one : num (c.tid.0 == x.tid.0) ≡ 1 = grind (arith, nat_tests) in absurd (omega (arith, z, one))

    smaller : c.core.0 ≡ x.core.0 → c.tid.0 < x.tid.0
    smaller e = let l : c.tid.0 ≤ x.tid.0 = f c.tid.0 (rw e at (a.0)) in
        let n : c.tid.0 ≢ x.tid.0 = differs in grind (arith, nat_tests)

pub holds : (w : World) (c t : ℕ) → has_tid (w.cores c).phase t ≡ true → 1 ≤ holder t (pair w c 0)
unfolding holder pair
holds w c t e = let one : num (has_tid (w.cores c).phase t) ≡ 1 = rw e refl in omega (arith, one)

pub noted-last : (s : Start) (gs : List Grant) (h : History) (x : Commit) → State s gs h → NotedIn s.settings h.world x
    → IsLast x h.commits
noted-last s gs h x k n =
    let l = holds h.world x.core.0 x.tid.0 n.has in
    is-last gs x h.commits ((k.live x.core.0 0 x.tid.0 n.core l).1) k.granted (λ u i. k.last x.core.0 0 x.tid.0 u l i)

-- phases and the plain machine

pub ran-of : (s : Start) (h : History) → IsSerial s h → Ran s.settings.base (program s) (plain_start s) h.commits (committed s h)
unfolding IsSerial
ran-of s h k = ran s.settings.base (program s) 0 h.commits (plain_start s) (committed s h) k

saved : (s : Start) (h : History) (c : ℕ) → c < s.settings.cores → ((committed s h).cores c).local ≡ (h.world.cores c).saved
unfolding committed
saved s h c l = let e : nat_lt c s.settings.cores ≡ true = grind (arith, nat_tests) in rw e refl

phase-at : (s : Start) (h : History) (c : ℕ) → c < s.settings.cores
    → phase_at (phases_in s h).last (committed s h) c ≡ phase_of s h c
unfolding phase_of
phase-at s h c l = λ i. max ((phases_in s h).last c) (x27 (saved s h c l i))

-- one more commit

abbrev pub after_noting : History → World → Commit → History
after_noting h w x = record { world = w; commits = insert_commit x h.commits }

pub record Added (s : Start) (h g : History) (x : Commit) : Type 0 where
  pub each : phases_of s g ≡ with_phase x.tid.0 (phase_of s h x.core.0) h.commits (phases_of s h)
  pub own : phase_of s g x.core.0 ≡ max (phase_of s h x.core.0) (x27 (g.world.cores x.core.0).saved)
  pub others : (c : ℕ) → c < s.settings.cores → c ≢ x.core.0 → phase_of s g c ≡ phase_of s h c

pub added : (s : Start) (gs : List Grant) (h : History) (w : World) (x : Commit) → State s gs h → IsSerial s (after_noting h w x)
    → NotedIn s.settings h.world x → Added s h (after_noting h w x) x
unfolding phases_of phase_of phases_in
added s gs h w x k new n = record {
  each = g.each ∙ ap (λ q. with_phase x.tid.0 q h.commits (phases_of s h)) (phase-at s h x.core.0 n.core);
  own = ap (λ q. max q (x27 (w.cores x.core.0).saved)) (g.own ∙ phase-at s h x.core.0 n.core);
  others = λ c l d. λ i. max (g.lasts c d i) (x27 (stays c l d i));
}
  where
    g : Grown x h.commits (phases_in s h) (phases_in s (after_noting h w x)) (committed s h) (committed s (after_noting h w x))
    g = grown s.settings.base (program s) x 0 h.commits (plain_start s) (committed s h) (committed s (after_noting h w x)) (λ c. 0)
        k.rising (noted-last s gs h x k n) (ran-of s h k.serial) (ran-of s (after_noting h w x) new)

    stays : (c : ℕ) → c < s.settings.cores → c ≢ x.core.0 → (w.cores c).saved ≡ (h.world.cores c).saved
    stays c l d = sym (saved s (after_noting h w x) c l) ∙ g.locals c d ∙ saved s h c l

-- no commit

abbrev pub after_silence : History → World → History
after_silence h w = record { world = w; commits = h.commits }

abbrev machine_of : Plain → Option (Plain × List Commit) → Plain
machine_of m None = m
machine_of m (Some r) = r.0

same-machine : (s : Start) (h : History) (w : World) → IsSerial s h → IsSerial s (after_silence h w)
    → committed s (after_silence h w) ≡ committed s h
unfolding IsSerial
same-machine s h w old new = ap (machine_of (committed s h)) (sym new ∙ old)

pub silent : (s : Start) (h : History) (w : World) → IsSerial s h → IsSerial s (after_silence h w) → (c : ℕ)
    → c < s.settings.cores
    → phase_of s (after_silence h w) c ≡ phase_of s h c
unfolding phase_of phases_in
silent s h w old new c l = λ i. max ((phases_in s h).last c) (x27 (stays i))
  where
    stays : (w.cores c).saved ≡ (h.world.cores c).saved
    stays = sym (saved s (after_silence h w) c l) ∙ ap (λ m. (m.cores c).local) (same-machine s h w old new) ∙ saved s h c l

-- every event

pub counted : (s : Start) (h : History) → IsSerial s h → length (phases_of s h) ≡ length h.commits
unfolding phases_of phases_in
counted s h k = along-count s.settings.base (program s) h.commits (plain_start s) (committed s h) (λ c. 0) (ran-of s h k)

grows : (s : Start) (gs : List Grant) (h : History) (o : Stepped) → State s gs h
    → IsSerial s (record { world = o.world; commits = and_noted o.noted h.commits }) → IfSome o.noted (NotedIn s.settings h.world)
    → Grows s h (record { world = o.world; commits = and_noted o.noted h.commits }) o.noted
unfolding phases_of phases_in
grows s gs h o k new n = go o.noted new n
  where
    go : (x : Option Commit) → IsSerial s (record { world = o.world; commits = and_noted x h.commits })
        → IfSome x (NotedIn s.settings h.world) → Grows s h (record { world = o.world; commits = and_noted x h.commits }) x
    go None new n = (refl, silent s h o.world k.serial new)
    go (Some x) new n =
        let a = added s gs h o.world x k new n in
        let placed = with-phase_put_in x (phase_of s h x.core.0) 0 h.commits (phases_of s h) (counted s h k.serial) k.rising
        (noted-last s gs h x k n) in
        (a.each ∙ placed, a.own, a.others)

-- after every run

abbrev EachGrows : Start → Event → History → Type 0
EachGrows s e h = IfSome (next_history s.settings (program s) h e) (λ g. Grows s h g (noted_by (step s.settings (program s) h.world e)))

event-grows : (s : Start) (gs : List Grant) (e : Event) (h : History) → State s gs h
    → IfSome (next_history s.settings (program s) h e) (IsSerial s) → EachGrows s e h
unfolding next_history
event-grows s gs e h k new = go (step s.settings (program s) h.world e) new (step-notes s.settings (program s) h.world e)
  where
    go : (o : Option Stepped) → IfSome (recorded h o) (IsSerial s) → IfSome o (λ t. IfSome t.noted (NotedIn s.settings h.world))
        → IfSome (recorded h o) (λ g. Grows s h g (noted_by o))
    go None new n = tt
    go (Some o) new n = grows s gs h o k new n

pub phases_grow : PhasesGrow
unfolding run
phases_grow s es e k = go (run_from s.settings (program s) es first) (state_after s es k)
    (rw (run-snoc s.settings (program s) es e first) at (runs_give_the_plain_machine s (es ++ e ∷ []) k))
  where
    first : History
    first = record { world = world_at_start s; commits = [] }

    go : (o : Option History) → IfSome o (State s (grants_of s es))
        → IfSome (and_then (λ g. next_history s.settings (program s) g e) o) (IsSerial s)
        → IfSome o (EachGrows s e)
    go None a b = tt
    go (Some h) a b = event-grows s (grants_of s es) e h a b
