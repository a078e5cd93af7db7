-- Along a run by phases the phases of the commits never fall, by rising TID.
use Rattle.std.specs.Prelude.{ℕ, ◌+◌, ◌≡◌, ◌≢◌, ◌≤◌, Bool, true}
use Rattle.std.specs.Prelude.{false, List, [], ◌∷◌, ◌++◌, length, Contains, Option, Some, None, IfSome, nat_lt}
use Rattle.std.specs.Prelude.{if◌then◌else◌}
use Rattle.std.proofs.Common.{arith, refl, ◌∙◌, ◌⊎◌, inl, inr}
use Rattle.std.proofs.lemmas.Bool.Decides.{nat_tests}
use Rattle.std.proofs.lemmas.List.Elements.{Contains-append_cases}
use Rattle.image_load.specs.Start.{Start}
use Rattle.rv_code.specs.Machine.{program}
use Rattle.tcc_base.specs.Settings.{IsAllowed}
use Rattle.tcc_base.specs.declared.access.Commit.{Commit}
use Rattle.base_lemmas.proofs.Lemmas.{none_below}
use Rattle.rules_maps.specs.Nodes.{Event}
use Rattle.rules_tcc.specs.State.{Phase, Halted, World}
use Rattle.rules_tcc.specs.Step.{History, Stepped, step, and_noted, recorded, next_history, and_then, run_from, run}
use Rattle.theorem_serial.specs.Owners.{Grant, granted_by, grants_from, IsNumbered, AreGranted}
use Rattle.theorem_serial.specs.Tids.{has_tid}
use Rattle.theorem_serial.proofs.Lemmas.{numbered-most}
use Rattle.theorem_riscv.specs.Given.{IsSerial, grants_of}
use Rattle.theorem_riscv.proofs.Lemmas.{runs_give_the_plain_machine}
use Rattle.theorem_phases.specs.Laws.{InPhases, PhasesNeverFall}
use Rattle.rules_riscv.specs.Starting.{at_start}
use Rattle.rules_phases.specs.Phased.{has_halted, goes_before, is_late, is_held, phased_next, phased_from}
use Rattle.rules_phases.specs.Phases.{phases_along, phases_in, phases_of, phase_of}
use Rattle.theorem_phases.proofs.Events.Granting.{Granting, none-in, grants-snoc, granting, granting-silent}
use Rattle.theorem_phases.proofs.Serial.Growing.{State, state_after, run-snoc, holds, noted-last, added, silent, counted}
use Rattle.theorem_phases.proofs.Events.Halting.{StayHalted, step-stays}
use Rattle.theorem_phases.proofs.Serial.Inserted.{IsLast}
use Rattle.theorem_phases.proofs.Events.Noting.{NotedIn, step-notes}
use Rattle.theorem_phases.proofs.Running.Ordered.{Above, NoneFrom, AtMost, Rises, Ordered, Fresh, silent-keeps, noted-keeps, never-falls}

abbrev Going : History → (core : ℕ) → Type 0
Going h c = (h.world.cores c).phase ≢ Halted

abbrev Given : List Grant → (tid core : ℕ) → Type 0
Given gs t c = Contains gs (record { tid = t; core = c })

abbrev InOrder : Start → List Grant → History → Type 0
InOrder s gs h = Ordered s.settings.cores (Going h) (Given gs) (phase_of s h) h.commits (phases_of s h)

start-ordered : (s : Start) → InOrder s [] (at_start s)
unfolding phases_of phases_in phases_along AtMost Rises
start-ordered s = record {
  behind = λ c l n. tt;
  first = λ c t j l i n m g. absurd (none-in (record { tid = t; core = c }) i);
  above = λ c t l i n. absurd (none-in (record { tid = t; core = c }) i);
  rise = tt;
}

-- a TID that is granted to a core that isn't late

goes-on : (q : Phase) → q ≢ Halted → has_halted q ≡ false
goes-on Halted n = absurd (n refl)
goes-on _ n = refl

not-before : (s : Start) (h : History) (c j : ℕ) → goes_before s h c j ≡ false → Going h j → phase_of s h c ≤ phase_of s h j
not-before s h c j e n =
    go (nat_lt (phase_of s h j) (phase_of s h c)) refl (rw (goes-on (h.world.cores j).phase n) at e)
  where
    go : (y : Bool) → nat_lt (phase_of s h j) (phase_of s h c) ≡ y → y ≡ false → phase_of s h c ≤ phase_of s h j
    go true q r = absurd (cc)
    go false q r = grind (arith, nat_tests)

above-none : (gs : List Grant) (t b : ℕ) (cs : List Commit) (qs : List ℕ) → AreGranted gs cs → IsNumbered 1 gs
    → t ≡ length gs + 1
    → Above t b cs qs
unfolding AreGranted Above
above-none gs t b [] qs a n e = tt
above-none gs t b (c ∷ cs) [] a n e = tt
above-none gs t b (c ∷ cs) (q ∷ qs) a n e =
    let most = numbered-most 1 gs (record { tid = c.tid.0; core = c.core.0 }) n (a.0) in
    (λ l. absurd (omega (arith, l, e, most)), above-none gs t b cs qs (a.1) n e)

fresh : (s : Start) (gs : List Grant) (h : History) (t c : ℕ) → State s gs h → Granting s h t c
    → Fresh s.settings.cores (Going h) (phase_of s h) h.commits (phases_of s h) t c
unfolding is_late
fresh s gs h t c k g = record {
  first = λ j l n. not-before s h c j (none_below (goes_before s h c) s.settings.cores j g.late l) n;
  above = above-none gs t (phase_of s h c) h.commits (phases_of s h) k.granted (k.numbered.0) (g.tid ∙ k.numbered.1);
}

-- one event

none-from_last : (x : Commit) (cs : List Commit) → IsLast x cs → NoneFrom x.core.0 x.tid.0 cs
unfolding IsLast NoneFrom
none-from_last x [] k = tt
none-from_last x (c ∷ cs) k = (k.1, none-from_last x cs (k.2))

has-going : (q : Phase) (t : ℕ) → has_tid q t ≡ true → q ≢ Halted
unfolding has_tid
has-going q t h e = absurd (let z : has_tid Halted t ≡ true = rw e at h in cc)

abbrev after_event : History → World → Option Commit → History
after_event h w n = record { world = w; commits = and_noted n h.commits }

silent-ordered : (s : Start) (gs more : List Grant) (h : History) (w : World) → State s gs h → InOrder s gs h
    → IsSerial s (after_event h w None) → StayHalted h.world w
    → ((t c : ℕ) → Given more t c → Granting s h t c) → InOrder s (gs ++ more) (after_event h w None)
unfolding phases_of phases_in
silent-ordered s gs more h w k o new stay given =
    silent-keeps s.settings.cores (Going h) (Going (after_event h w None)) (Given gs) (Given (gs ++ more)) (phase_of s h)
    (phase_of s (after_event h w None)) h.commits (phases_of s h) o (silent s h w k.serial new) (λ c n e. n (stay c e))
    (λ t c l i. from t c (Contains-append_cases gs more (record { tid = t; core = c }) i))
  where
    from : (t c : ℕ) → Given gs t c ⊎ Given more t c
        → Given gs t c ⊎ Fresh s.settings.cores (Going h) (phase_of s h) h.commits (phases_of s h) t c
    from t c (inl i) = inl i
    from t c (inr i) = inr (fresh s gs h t c k (given t c i))

noted-ordered : (s : Start) (gs more : List Grant) (h : History) (w : World) (x : Commit) → State s gs h → InOrder s gs h
    → IsSerial s (after_event h w (Some x)) → NotedIn s.settings h.world x → StayHalted h.world w
    → ((g : Grant) → Contains more g → ⊥) → InOrder s (gs ++ more) (after_event h w (Some x))
noted-ordered s gs more h w x k o new n stay none =
    let a = added s gs h w x k new n in
    let l = holds h.world x.core.0 x.tid.0 n.has in
    rw a.each (noted-keeps s.settings.cores (Going h) (Going (after_event h w (Some x))) (Given gs) (Given (gs ++ more)) (phase_of s h)
    (phase_of s (after_event h w (Some x))) h.commits (phases_of s h) x o (counted s h k.serial) k.rising n.core
    (has-going (h.world.cores x.core.0).phase x.tid.0 n.has)
    ((k.live x.core.0 0 x.tid.0 n.core l).0)
    (none-from_last x h.commits (noted-last s gs h x k n))
    (λ t i. k.last x.core.0 0 x.tid.0 t l i)
    (omega (arith, a.own))
    a.others
    (λ c n e. n (stay c e))
    (λ t c i. from t c (Contains-append_cases gs more (record { tid = t; core = c }) i)))
  where
    from : (t c : ℕ) → Given gs t c ⊎ Given more t c → Given gs t c
    from t c (inl i) = i
    from t c (inr i) = absurd (none (record { tid = t; core = c }) i)

event-ordered : (s : Start) (gs : List Grant) (h : History) (e : Event) → State s gs h → InOrder s gs h → is_held s h e ≡ false
    → IfSome (next_history s.settings (program s) h e) (IsSerial s)
    → IfSome (next_history s.settings (program s) h e) (InOrder s (gs ++ granted_by h.world e))
unfolding next_history
event-ordered s gs h e k o held new =
    go (step s.settings (program s) h.world e) new (step-notes s.settings (program s) h.world e)
    (step-stays s.settings (program s) h.world e) (granting-silent s.settings (program s) h.world e)
  where
    more : List Grant
    more = granted_by h.world e

    at : (w : World) (n : Option Commit) → IsSerial s (after_event h w n) → IfSome n (NotedIn s.settings h.world)
        → StayHalted h.world w
        → ((g : Grant) → Contains more g → n ≡ None) → InOrder s (gs ++ more) (after_event h w n)
    at w None new n stay none = silent-ordered s gs more h w k o new stay (λ t c i. granting s h e t c held i)
    at w (Some x) new n stay none = noted-ordered s gs more h w x k o new n stay (λ g i. absurd (let z = none g i in cc))

    go : (q : Option Stepped) → IfSome (recorded h q) (IsSerial s) → IfSome q (λ t. IfSome t.noted (NotedIn s.settings h.world))
        → IfSome q (λ t. StayHalted h.world t.world) → ((g : Grant) → Contains more g → IfSome q (λ t. t.noted ≡ None))
        → IfSome (recorded h q) (InOrder s (gs ++ more))
    go None new n stay none = tt
    go (Some t) new n stay none = at t.world t.noted new n stay none

-- runs

-- a run leads there, with its grants
pub record Reached (s : Start) (h : History) : Type 0 where
  pub events : List Event
  pub ran : run_from s.settings (program s) events (at_start s) ≡ Some h
  pub order : InOrder s (grants_of s events) h

state-of : (s : Start) (h : History) → IsAllowed s.settings → (r : Reached s h) → State s (grants_of s r.events) h
unfolding run
state-of s h k r = rw r.ran at (state_after s r.events k)

serial-next : (s : Start) (h : History) (e : Event) → IsAllowed s.settings → Reached s h
    → IfSome (next_history s.settings (program s) h e) (IsSerial s)
unfolding run
serial-next s h e k r =
    rw (run-snoc s.settings (program s) r.events e (at_start s), r.ran) at (runs_give_the_plain_machine s (r.events ++ e ∷ []) k)

grants-next : (s : Start) (h g : History) (e : Event) → (r : Reached s h) → next_history s.settings (program s) h e ≡ Some g
    → grants_of s (r.events ++ e ∷ []) ≡ grants_of s r.events ++ granted_by h.world e
grants-next s h g e r n = (rw r.ran at (grants-snoc s.settings (program s) r.events e (at_start s))) (rw n refl)

reached-next : (s : Start) (h : History) (e : Event) → IsAllowed s.settings → Reached s h → is_held s h e ≡ false
    → IfSome (next_history s.settings (program s) h e) (Reached s)
reached-next s h e k r held =
    go (next_history s.settings (program s) h e) refl
    (event-ordered s (grants_of s r.events) h e (state-of s h k r) r.order held (serial-next s h e k r))
  where
    go : (x : Option History) → next_history s.settings (program s) h e ≡ x
        → IfSome x (InOrder s (grants_of s r.events ++ granted_by h.world e))
        → IfSome x (Reached s)
    go None n o = tt
    go (Some g) n o = record {
      events = r.events ++ e ∷ [];
      ran = run-snoc s.settings (program s) r.events e (at_start s) ∙ rw (r.ran) n;
      order = rw (grants-next s h g e r n) o;
    }

reached-after : (s : Start) (es : List Event) (h : History) → IsAllowed s.settings → Reached s h
    → IfSome (phased_from s es h) (Reached s)
unfolding phased_from phased_next
reached-after s [] h k r = r
reached-after s (e ∷ es) h k r =
    go (is_held s h e) refl (next_history s.settings (program s) h e) (reached-next s h e k r) (λ g q. reached-after s es g k q)
  where
    go : (b : Bool) → is_held s h e ≡ b → (x : Option History) → (is_held s h e ≡ false → IfSome x (Reached s))
        → ((g : History) → Reached s g → IfSome (phased_from s es g) (Reached s))
        → IfSome (and_then (phased_from s es) (if b then None else x)) (Reached s)
    go true p x f g = tt
    go false p None f g = tt
    go false p (Some y) f g = g y (f p)

reached-start : (s : Start) → Reached s (at_start s)
unfolding run_from grants_from
reached-start s = record { events = []; ran = refl; order = start-ordered s }

pub phases_never_fall : PhasesNeverFall
phases_never_fall s es k = go (phased_from s es (at_start s)) (reached-after s es (at_start s) k (reached-start s))
  where
    go : (x : Option History) → IfSome x (Reached s) → IfSome x (InPhases s)
    go None r = tt
    go (Some h) r = record {
      count = counted s h (state-of s h k r).serial;
      rise = never-falls (phases_of s h) r.order.rise;
    }
