-- What an event did, from what was seen of its node before and after it.
use Rattle.std.proofs.Common.{◌≡◌, ℕ, ◌+◌, ◌-◌, List, [], ◌∷◌, ◌++◌, length, length-append, append_assoc, drop, map}
use Rattle.std.proofs.Common.{Option, Some, None, refl, ap, sym, ◌∙◌, subst, arith}
use Rattle.std.specs.List.{flat_map}
use Rattle.std.proofs.Math.Seq.{drop-append_seam}
use Rattle.std.specs.Option.{option_map}
use Rattle.tcc_base.specs.declared.access.Commit.{Commit}
use Rattle.tcc_base.specs.declared.names.NodeId.{NodeId}
use Rattle.base_lemmas.proofs.Lemmas.{flat-each}
use Rattle.rules_maps.specs.Bridge.{node_of}
use Rattle.rules_maps.specs.Nodes.{Node, Msg, Event, Exec, Evict, Deliver}
use Rattle.tcc_msg.specs.Plain.{sends_of}
use Rattle.rules_tcc.specs.Links.{in_flight, sent_all}
use Rattle.rules_tcc.specs.State.{World}
use Rattle.rules_tcc.specs.Step.{History, Stepped, and_noted, next_history, recorded}
use Rattle.rules_tcc.specs.Useful.{nodes}
use Rattle.net_core.specs.Answers.{IsSent, StandBehind, acts_in, step_of, tid_noted, tid_told}
use Rattle.net_core.specs.Machine.{Machine, history_of, program_of, settings_of, world_of}
use Rattle.net_core.specs.Whole.{IsSound}
use Rattle.net_core.specs.declared.taking.Step.{Step}
use Rattle.net_core.specs.declared.taking.Step.TheVariants.{Moved, Committed}
use Rattle.net_core.proofs.Lemmas.{new-tid}
use Rattle.watch.specs.Facts.{Fact, Sent}
use Rattle.watch.specs.Happened.{acted, actor, commit_fact, delivered, facts_of, happened, if_in_flight, moved, numbered, sent, sent_to}
use Rattle.watch.specs.Messages.{commit_of}
use Rattle.watch.specs.Plain.{fact_of}
use Rattle.watch.specs.declared.fact.Fact.{Fact as CodeFact}
use Rattle.watch_machine.specs.Telling.{Advanced, HasRoomFor, count_on, last_facts, last_to, numbered_from}
use Rattle.watch_machine.specs.Watched.{TookAndToldOfNode, noted_by, told_commit}
use Rattle.watch_machine.proofs.Named.{inserted-named}
use Rattle.theorem_bounds.proofs.Lemmas.{sent-length}

-- ---- the rules' step

pub record StepIs (m n : Machine) (e : Event) (told : Step) : Type 0 where
  pub o : Stepped
  pub step : step_of m e ≡ Some o
  pub world : o.world ≡ world_of n
  pub noted : o.noted ≡ told_commit told n.commits

-- the commit that was noted is the one that the step told of
noted-is : (m n : Machine) (e : Event) (told : Step) (o : Stepped) → IsSound m → step_of m e ≡ Some o → (x : Option Commit) → o.noted ≡ x
    → tid_told told ≡ option_map (λ c. c.tid) x → and_noted x m.commits ≡ n.commits → x ≡ told_commit told n.commits
noted-is m n e Moved o r s None is t cs = refl
noted-is m n e Moved o r s (Some c) is t cs = absurd (cc)
noted-is m n e (Committed u) o r s None is t cs = absurd (cc)
noted-is m n e (Committed u) o r s (Some c) is t cs =
    let same : c.tid ≡ u = cc in
    sym (inserted-named c m.commits (new-tid m e o c r s is)) ∙ (λ i. commit_of (same i).0 (cs i))

step-is : (m n : Machine) (e : Event) (told : Step) → IsSound m → Advanced m n e told → StepIs m n e told
unfolding next_history history_of
step-is m n e told r a = go (step_of m e) refl a.next a.tells
  where
    go : (s : Option Stepped) → step_of m e ≡ s
        → recorded (record { world = world_of m; commits = m.commits }) s ≡ Some (record { world = world_of n; commits = n.commits })
        → tid_told told ≡ tid_noted s → StepIs m n e told
    go None q p t = absurd (cc)
    go (Some o) q p t =
        let h : History = record { world = o.world; commits = and_noted o.noted m.commits } in
        let k : History = record { world = world_of n; commits = n.commits } in
        let same : h ≡ k = cc in
        record {
          o = o;
          step = q;
          world = ap (λ x. x.world) same;
          noted = noted-is m n e told o r q o.noted refl t (ap (λ x. x.commits) same);
        }

-- ---- what was sent

numbered-sent : (src dst : Node) (k : ℕ) (ms : List Msg) → numbered src dst k (sent_all ms) ≡ numbered_from src dst k ms
unfolding numbered numbered_from sent_all
numbered-sent src dst k [] = refl
numbered-sent src dst k (m ∷ ms) = ap (λ fs. Sent src dst k m ∷ fs) (numbered-sent src dst (k + 1) ms)

-- how many messages there are, of which the last ones are new
length-behind : (w v : World) (src dst : Node) (ms : List Msg) → StandBehind w v src dst ms
    → length (v.net src dst) ≡ length (w.net src dst) + length ms
length-behind w v src dst ms b =
    ap length b.behind ∙ length-append b.front (sent_all ms) ∙ (λ i. b.as_many i + sent-length ms i)

pub room-for : (m n : Machine) (src : Node) → IsSent (world_of m) (world_of n) src (sends_of n.last) → HasRoomFor n src
room-for m n src s = λ dst.
    let l = length-behind (world_of m) (world_of n) src dst (sends_of n.last dst) (s dst) in omega (arith, l)

link-is : (m n : Machine) (src dst : Node) → StandBehind (world_of m) (world_of n) src dst (sends_of n.last dst)
    → sent_to (world_of m) (world_of n) src dst ≡ last_to n src dst
unfolding sent_to last_to
link-is m n src dst b =
    let ms = sends_of n.last dst in
    let k = length ((world_of m).net src dst) in
    let first : k ≡ count_on n src dst - length ms =
    (let l = length-behind (world_of m) (world_of n) src dst ms b in omega (arith, l)) in
    let rest : drop k ((world_of n).net src dst) ≡ sent_all ms =
    (λ i. drop (sym b.as_many i) (b.behind i)) ∙ drop-append_seam b.front (sent_all ms) in
    ap (numbered src dst k) rest ∙ numbered-sent src dst k ms ∙ ap (λ j. numbered_from src dst j ms) first

sent-is : (m n : Machine) (src : Node) → n.cores.code ≡ m.cores.code → IsSent (world_of m) (world_of n) src (sends_of n.last)
    → sent (settings_of m) (world_of m) (world_of n) src ≡ last_facts n src
unfolding sent last_facts
sent-is m n src code s =
    flat-each (sent_to (world_of m) (world_of n) src) (last_to n src) (λ dst. link-is m n src dst (s dst)) (nodes (settings_of m))
    ∙ ap (λ k. flat_map (last_to n src) (nodes k.settings)) (sym code)

-- ---- all that happened

actor-is : (e : Event) → actor e ≡ acts_in e
actor-is (Exec c) = refl
actor-is (Evict c x y) = refl
actor-is (Deliver src dst k) = refl

-- what is told behind the event itself, but for what it sent
abbrev pub told_behind : (m n : Machine) → Event → Step → List Fact
told_behind m n e told = commit_fact (told_commit told n.commits) ++ moved (world_of m) (world_of n) (acts_in e)

abbrev pub told_of_event : (m n : Machine) → Event → List Fact
told_of_event m n e = acted (settings_of m) (program_of m) m.commits (world_of m) (world_of n) e

happened-is : (m n : Machine) (e : Event) (told : Step) → IsSound m → Advanced m n e told
    → happened (settings_of m) (program_of m) (history_of m) e ≡ told_of_event m n e
    ++ (commit_fact (told_commit told n.commits) ++ (moved (world_of m) (world_of n) (acts_in e) ++ last_facts n (acts_in e)))
unfolding happened history_of
happened-is m n e told r a =
    let s = step-is m n e told r a in
    let sh = settings_of m in
    let h : History = record { world = world_of m; commits = m.commits } in
    ap (facts_of sh (program_of m) h e) s.step
    ∙ (λ i. acted sh (program_of m) m.commits (world_of m) (s.world i) e
    ++ (commit_fact (s.noted i) ++ (moved (world_of m) (s.world i) (actor-is e i) ++ sent sh (world_of m) (s.world i) (actor-is e i))))
    ∙ ap (λ fs. told_of_event m n e
    ++ (commit_fact (told_commit told n.commits) ++ (moved (world_of m) (world_of n) (acts_in e) ++ fs)))
    (sent-is m n (acts_in e) a.code a.sent)

-- the event was taken, and what was told of it is what it did at its node
pub told-all : (m n : Machine) (e : Event) (told : Step) (facts : List CodeFact) → IsSound m → Advanced m n e told
    → map fact_of facts ≡ told_of_event m n e ++ told_behind m n e told → TookAndToldOfNode m n e facts told
told-all m n e told facts r a f =
    let of_event = told_of_event m n e in
    let noted = commit_fact (told_commit told n.commits) in
    let came_to = moved (world_of m) (world_of n) (acts_in e) in
    let sends = last_facts n (acts_in e) in
    let s = step-is m n e told r a in
    record {
      next = a.next;
      told = (λ i. f i ++ last_facts n (actor-is e i)) ∙ append_assoc of_event (noted ++ came_to) sends
          ∙ ap (λ fs. of_event ++ fs) (append_assoc noted came_to sends) ∙ sym (happened-is m n e told r a);
      room = subst (HasRoomFor n) (sym (actor-is e)) (room-for m n (acts_in e) a.sent);
      ends = a.ends;
      settled = a.settled;
      events = a.events;
      code = a.code;
      noted = sym (ap noted_by s.step ∙ s.noted);
    }

-- ---- a delivery

-- what is told of the message that was in flight
pub flown : (m n : Machine) (src dst : Node) (k : ℕ) (x : Msg) → in_flight (world_of m).net src dst k ≡ Some x
    → told_of_event m n (Deliver src dst k) ≡ delivered (settings_of m) m.commits (world_of m) (world_of n) src dst x
flown m n src dst k x f = ap (if_in_flight (settings_of m) m.commits (world_of m) (world_of n) src dst) f

pub joined : (a b c d : List Fact) → a ++ (b ++ (c ++ d)) ≡ (a ++ (b ++ c)) ++ d
joined a b c d = ap (λ x. a ++ x) (sym (append_assoc b c d)) ∙ sym (append_assoc a (b ++ c) d)

-- the same event where the node's name is known
pub advanced-to : (m n : Machine) (src : Node) (a b : NodeId) (k : ℕ) (told : Step) → a ≡ b
    → Advanced m n (Deliver src (node_of a) k) told → Advanced m n (Deliver src (node_of b) k) told
advanced-to m n src a b k told e = subst (λ d. Advanced m n (Deliver src (node_of d) k) told) e

pub advanced-from : (m n : Machine) (a b : NodeId) (dst : Node) (k : ℕ) (told : Step) → a ≡ b
    → Advanced m n (Deliver (node_of a) dst k) told → Advanced m n (Deliver (node_of b) dst k) told
advanced-from m n a b dst k told e = subst (λ s. Advanced m n (Deliver (node_of s) dst k) told) e

-- ---- the state is the same

pub same-world : (m n : Machine) → history_of n ≡ history_of m → world_of n ≡ world_of m
unfolding history_of
same-world m n e = ap (λ h. h.world) e
