-- What holds of each state that a run reaches, and so along one that follows a list.
use Rattle.std.proofs.Common.{◌≡◌, ℕ, zero, suc, ◌+◌, Bool, true, false, List, [], ◌∷◌, ◌++◌, length, Option, Some, None, IfSome, refl}
use Rattle.std.proofs.Common.{◌∙◌, sym, subst, arith}
use Rattle.std.specs.Prelude.{cond}
use Rattle.std.specs.List.{find}
use Rattle.image_load.specs.Start.{Start, first_ram}
use Rattle.net_core.proofs.Lemmas.{run-on}
use Rattle.rv_code.specs.Machine.{program}
use Rattle.rules_riscv.specs.Starting.{local_at_start, world_at_start, at_start}
use Rattle.tcc_base.specs.declared.access.Commit.{Commit as Noted}
use Rattle.rules_maps.specs.Nodes.{Event}
use Rattle.rules_maps.specs.Shape.{Shape}
use Rattle.rules_program.specs.Plain.{Order}
use Rattle.rules_tcc.specs.State.{start, core_start}
use Rattle.rules_tcc.specs.Step.{History, Stepped, and_then, next_history, recorded, run, run_from, step}
use Rattle.rules_tcc.specs.Useful.{useful}
use Rattle.theorem_serial.specs.Invariants.{Carried}
use Rattle.theorem_serial.specs.Owners.{AreGranted, Grant, IsNumbered, holder}
use Rattle.theorem_serial.specs.Count.{live}
use Rattle.theorem_serial.specs.Pairs.{pair}
use Rattle.theorem_serial.specs.Tids.{has_tid}
use Rattle.theorem_serial.specs.Ways.{Ways}
use Rattle.theorem_serial.proofs.Lemmas.{numbered-most, runs_carry}
use Rattle.run_follow.specs.Following.{after_event, comes, followed_by, followed_from, may_come, next_in, next_of, turn_of}
use Rattle.run_follow.proofs.InTurn.{AreBelow, AreFirst, InTurn, Sound, after, in-turn-on}
use Rattle.run_follow.proofs.Turning.{Turning, step-turns}

-- some run from the start leads here
pub record Reached (s : Start) (h : History) : Type 0 where
  pub past : List Event
  pub ran : run s.settings (program s) (world_at_start s) past ≡ Some h

-- ---- what holds there

granted-below : (gs : List Grant) (next : ℕ) (cs : List Noted) → IsNumbered 1 gs → next ≡ length gs + 1 → AreGranted gs cs
    → AreBelow next cs
unfolding AreGranted AreBelow
granted-below gs next [] n e g = tt
granted-below gs next (c ∷ cs) n e g =
    let most = numbered-most 1 gs (record { tid = c.tid.0; core = c.core.0 }) n g.0 in
    (omega (arith, most, e), granted-below gs next cs n e g.1)

carried-sound : (sh : Shape) (gs : List Grant) (ys : Ways) (h : History) → Carried sh gs ys h → Sound h
carried-sound sh gs ys h c =
    let (numbered, next) = c.granted_tids_are_those_below_next in
    record {
      granted = granted-below gs h.world.next h.commits numbered next c.commits_are_of_granted_tids.1;
      requests = λ j. c.one_tid_request_or_grant j 0;
    }

sound : (s : Start) (h : History) → Reached s h → Sound h
sound s h k =
    carried-sound s.settings _ _ h (rw k.ran at (runs_carry s.settings (program s) (local_at_start s) (first_ram s) k.past))

-- ---- one more event

reached-on : (s : Start) (h g : History) (e : Event) → Reached s h → next_history s.settings (program s) h e ≡ Some g → Reached s g
reached-on s h g e k n = record {
  past = k.past ++ e ∷ [];
  ran = run-on s.settings (program s) (world_at_start s) k.past e h k.ran ∙ n;
}

found-may : (turn : Option ℕ) (es : List Event) (e : Event) → next_of turn es ≡ Some e → may_come turn e ≡ true
unfolding next_of
found-may turn [] e h = absurd (cc)
found-may turn (x ∷ es) e h = go (may_come turn x) refl h (found-may turn es e)
  where
    go : (b : Bool) → may_come turn x ≡ b → cond b (Some x) (find (may_come turn) es) ≡ Some e
        → (next_of turn es ≡ Some e → may_come turn e ≡ true) → may_come turn e ≡ true
    go true q f rest = let same : x ≡ e = cc in rw (sym same) q
    go false q f rest = rest f

-- a state that is reached in turn
pub record Kept (s : Start) (os : List Order) (h : History) : Type 0 where
  pub reached : Reached s h
  pub in_turn : InTurn os h

kept-on : (s : Start) (os : List Order) (h g : History) (e : Event) → Kept s os h → next_in s os h ≡ Some e
    → next_history s.settings (program s) h e ≡ Some g → Kept s os g
unfolding next_history
kept-on s os h g e k c n =
    go (step s.settings (program s) h.world e)
    (step-turns s.settings (program s) h.world e (turn_of os h.commits)
    (found-may (turn_of os h.commits) (useful s.settings (program s) h.world) e c)) n
  where
    go : (o : Option Stepped) → IfSome o (λ x. Turning (turn_of os h.commits) h.world x.world x.noted) → recorded h o ≡ Some g → Kept s os g
    go None t q = absurd (cc)
    go (Some x) t q =
        let there = reached-on s h g e k.reached n in
        let same : after h x.world x.noted ≡ g = cc in
        let sound-there = subst Sound (sym same) (sound s g there) in
        record {
          reached = there;
          in_turn = subst (InTurn os) same (in-turn-on os h x.world x.noted t k.in_turn (sound s h k.reached) sound-there);
        }

-- ---- all that follow

comes-kept : (s : Start) (os : List Order) (rest : History → List Event) (h : History) (o : Option Event) → next_in s os h ≡ o → Kept s os h
    → ((g : History) → Kept s os g → IfSome (run_from s.settings (program s) (rest g) g) (Kept s os))
    → IfSome (run_from s.settings (program s) (comes s h rest o) h) (Kept s os)
unfolding run_from
comes-kept s os rest h None c k f = k
comes-kept s os rest h (Some e) c k f = go (next_history s.settings (program s) h e) refl
  where
    go : (x : Option History) → next_history s.settings (program s) h e ≡ x
        → IfSome (and_then (run_from s.settings (program s) (after_event rest x)) x) (Kept s os)
    go None q = tt
    go (Some g) q = f g (kept-on s os h g e k c q)

from-kept : (s : Start) (os : List Order) (n : ℕ) (h : History) → Kept s os h
    → IfSome (run_from s.settings (program s) (followed_from s os n h) h) (Kept s os)
unfolding followed_from run_from
from-kept s os zero h k = k
from-kept s os (suc n) h k = comes-kept s os (followed_from s os n) h (next_in s os h) refl k (from-kept s os n)

start-kept : (s : Start) (os : List Order) → Kept s os (at_start s)
unfolding run run_from start core_start pair holder has_tid live AreBelow AreFirst
start-kept s os = record {
  reached = record { past = []; ran = refl };
  in_turn = record { clear = λ c f. refl; later = λ c t h. tt; firsts = tt };
}

pub followed-kept : (s : Start) (os : List Order) (n : ℕ)
    → IfSome (run s.settings (program s) (world_at_start s) (followed_by s os n)) (Kept s os)
unfolding run
followed-kept s os n = from-kept s os n (at_start s) (start-kept s os)
