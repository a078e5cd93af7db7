-- What an event did, from what was told of it and behind it.
use Rattle.std.proofs.Common.{◌≡◌, suc, ◌-◌, List, [], ◌∷◌, ◌++◌, length, map, Option, Some, None, refl, ap, sym, ◌∙◌, arith}
use Rattle.std.specs.Prelude.{option_map, slice_get}
use Rattle.tcc_base.specs.declared.access.Commit.{Commit}
use Rattle.rules_bus.specs.Commit.{BusStepped}
use Rattle.rules_bus.specs.State.{BusEvent}
use Rattle.rules_bus.specs.Step.{BusHistory, and_noted, bus_next, recorded}
use Rattle.bus_tcc.specs.Answers.{Took, bus_step_of, tid_noted, tid_told}
use Rattle.bus_tcc.specs.Machine.{BusMachine, bus_history_of, bus_program_of, bus_settings_of, bus_world_of}
use Rattle.bus_tcc.specs.declared.event.BusStep.{BusStep}
use Rattle.watch.specs.Happened.{commit_fact, phase_fact}
use Rattle.bus_watch.specs.Facts.{BusFact, Common}
use Rattle.bus_watch.specs.Happened.{acted, bus_happened, core_of, facts_of, holder, holder_fact, sent}
use Rattle.bus_watch.specs.Plain.{bus_fact_of}
use Rattle.bus_watch.specs.Telling.{behind_told, commit_told, last_commit, sent_told}
use Rattle.bus_watch.specs.Watched.{BusTookAndTold}
use Rattle.bus_watch.specs.declared.fact.BusFact.{BusFact as CodeFact}

-- ---- the rules' step

pub record StepIs (m n : BusMachine) (e : BusEvent) (told : BusStep) : Type 0 where
  pub o : BusStepped
  pub step : bus_step_of m e ≡ Some o
  pub world : o.world ≡ bus_world_of n
  pub commit : map Common (commit_fact o.noted) ≡ commit_told (tid_told told) n.commits
  pub sends : sent (bus_settings_of n) o.noted (bus_world_of n).bus ≡ sent_told (bus_settings_of n) (tid_told told) (bus_world_of n).bus

at-end : (cs : List Commit) (c : Commit) → slice_get (cs ++ c ∷ []) (length (cs ++ c ∷ []) - 1) ≡ Some c
at-end [] c = refl
at-end (d ∷ cs) c =
    let m = more cs c in
    let one : length ((d ∷ cs) ++ c ∷ []) - 1 ≡ suc (length (cs ++ c ∷ []) - 1) = omega (arith, m) in
    ap (slice_get ((d ∷ cs) ++ c ∷ [])) one ∙ at-end cs c
  where
    more : (xs : List Commit) (x : Commit) → length (xs ++ x ∷ []) ≡ suc (length (xs ++ x ∷ []) - 1)
    more [] x = refl
    more (y ∷ xs) x = omega (arith)

commit-is : (m n : BusMachine) (told : BusStep) (x : Option Commit) → tid_told told ≡ option_map (λ c. c.tid) x
    → and_noted x m.commits ≡ n.commits → map Common (commit_fact x) ≡ commit_told (tid_told told) n.commits
commit-is m n told None t cs = sym (ap (λ t. commit_told t n.commits) t)
commit-is m n told (Some c) t cs =
    ap (λ o. map Common (commit_fact o)) (sym (at-end m.commits c))
    ∙ ap (λ k. map Common (commit_fact (last_commit k))) cs ∙ sym (ap (λ t. commit_told t n.commits) t)

sends-is : (n : BusMachine) (told : BusStep) (x : Option Commit) → tid_told told ≡ option_map (λ c. c.tid) x
    → sent (bus_settings_of n) x (bus_world_of n).bus ≡ sent_told (bus_settings_of n) (tid_told told) (bus_world_of n).bus
sends-is n told None t = sym (ap (λ t. sent_told (bus_settings_of n) t (bus_world_of n).bus) t)
sends-is n told (Some c) t = sym (ap (λ t. sent_told (bus_settings_of n) t (bus_world_of n).bus) t)

step-is : (m n : BusMachine) (e : BusEvent) (told : BusStep) → Took m n e told → StepIs m n e told
unfolding bus_next bus_history_of
step-is m n e told a = go (bus_step_of m e) refl a.next a.tells
  where
    go : (s : Option BusStepped) → bus_step_of m e ≡ s
        → recorded (record { world = bus_world_of m; commits = m.commits }) s
        ≡ Some (record { world = bus_world_of n; commits = n.commits })
        → tid_told told ≡ tid_noted s → StepIs m n e told
    go None q p t = absurd (cc)
    go (Some o) q p t =
        let h : BusHistory = record { world = o.world; commits = and_noted o.noted m.commits } in
        let k : BusHistory = record { world = bus_world_of n; commits = n.commits } in
        let same : h ≡ k = cc in
        record {
          o = o;
          step = q;
          world = ap (λ x. x.world) same;
          commit = commit-is m n told o.noted t (ap (λ x. x.commits) same);
          sends = sends-is n told o.noted t;
        }

-- ---- all that happened

abbrev pub told_of_event : (m n : BusMachine) → BusEvent → List BusFact
told_of_event m n e = acted (bus_settings_of m) (bus_program_of m) m.commits (bus_world_of m) (bus_world_of n) e

-- what is told behind it
abbrev pub told_behind : (m n : BusMachine) → BusEvent → BusStep → List BusFact
told_behind m n e told =
    behind_told n (core_of e) ((bus_world_of m).cores (core_of e)).phase (holder (bus_world_of m)) (tid_told told)

happened-is : (m n : BusMachine) (e : BusEvent) (told : BusStep) → Took m n e told
    → bus_happened (bus_settings_of m) (bus_program_of m) (bus_history_of m) e ≡ told_of_event m n e ++ told_behind m n e told
unfolding bus_happened bus_history_of
happened-is m n e told a =
    let s = step-is m n e told a in
    let sh = bus_settings_of m in
    let c = core_of e in
    let h : BusHistory = record { world = bus_world_of m; commits = m.commits } in
    ap (facts_of sh (bus_program_of m) h e) s.step
    ∙ (λ i. acted sh (bus_program_of m) m.commits (bus_world_of m) (s.world i) e
    ++ (s.commit i
    ++ (map Common (phase_fact c ((bus_world_of m).cores c).phase ((s.world i).cores c).phase)
    ++ (holder_fact (holder (bus_world_of m)) (holder (s.world i)) ++ sent sh s.o.noted (s.world i).bus))))
    ∙ ap (λ fs. told_of_event m n e
    ++ (commit_told (tid_told told) n.commits
    ++ (map Common (phase_fact c ((bus_world_of m).cores c).phase ((bus_world_of n).cores c).phase)
    ++ (holder_fact (holder (bus_world_of m)) (holder (bus_world_of n)) ++ fs))))
    (ap (λ k. sent k.settings s.o.noted (bus_world_of n).bus) (sym a.code) ∙ s.sends)

-- the event was taken, and what was told of it is what it did
pub told-all : (m n : BusMachine) (e : BusEvent) (told : BusStep) (facts : List CodeFact) → Took m n e told
    → map bus_fact_of facts ≡ told_of_event m n e ++ told_behind m n e told → BusTookAndTold m n e facts
told-all m n e told facts a f = record {
  next = a.next;
  told = f ∙ sym (happened-is m n e told a);
  events = a.events;
  code = a.code;
}
