-- A machine that takes its first useful event, time after time.
use Rattle.std.proofs.Common.{◌≡◌, ℕ, suc, ◌+◌, ◌-◌, ◌<◌, ◌≤◌, ◌%◌, List, [], ◌∷◌, ◌++◌, length, append-nil, append_assoc}
use Rattle.std.proofs.Common.{Option, Some, None, refl, ap, sym, ◌∙◌, subst, arith}
use Rattle.std.specs.Prelude.{replicate, slice_get}
use Rattle.tcc_base.specs.Limits.{run_limit}
use Rattle.image_load.specs.Contents.{started}
use Rattle.net_core.specs.Machine.{Machine, history_of, program_of, settings_of, world_of}
use Rattle.rv_code.specs.Machine.{program}
use Rattle.rules_maps.specs.Nodes.{Event}
use Rattle.tcc_msg.specs.Plain.{event_of}
use Rattle.tcc_msg.specs.declared.event.Event.{Event as CodeEvent}
use Rattle.tcc_pick.specs.Picking.{TookAll}
use Rattle.tcc_pick.proofs.Lemmas.{Same, Takes, chosen-at, chosen-none, took-more, took-none, took-same, leads-to}
use Rattle.tcc_refine.specs.Refined.{Refined}
use Rattle.rules_tcc.specs.Picked.{chosen, pick, picked}
use Rattle.rules_tcc.specs.Step.{next_history, step}
use Rattle.rules_tcc.specs.Useful.{useful}
use Rattle.apart_run.specs.Going.{goes_on}

-- the first useful event
abbrev pub first_of : Machine → Option Event
first_of m = chosen 0 (useful (settings_of m) (program_of m) (world_of m))

none-below : (n : ℕ) → 0 < n → 0 % n ≡ 0
none-below n l = omega (arith, l)

-- the event at number 0 is the one that the word 0 chooses
pub first-chosen : (l : List Event) → slice_get l 0 ≡ chosen 0 l
first-chosen [] = sym (chosen-none 0 [] refl)
first-chosen (e ∷ es) =
    ap (slice_get (e ∷ es)) (sym (none-below (length (e ∷ es)) (omega arith))) ∙ chosen-at 0 (e ∷ es) (omega arith)

-- ---- what comes

goes-same : (k : ℕ) (m n : Refined) → Same m n → goes_on k n.machine ≡ goes_on k m.machine
unfolding history_of
goes-same k m n s =
    λ i. picked (s.code i).settings (program (started (s.code i))) (replicate k 0) ((ap (λ h. h.world) s.history) i)

goes-first : (k : ℕ) (m : Machine)
    → goes_on (suc k) m
    ≡ pick (settings_of m) (program_of m) (world_of m) (picked (settings_of m) (program_of m) (replicate k 0)) (first_of m)
unfolding picked
goes-first k m = refl

-- no event is useful
goes-none : (k : ℕ) (m : Machine) → first_of m ≡ None → goes_on (suc k) m ≡ []
goes-none k m e = goes-first k m
    ∙ ap (pick (settings_of m) (program_of m) (world_of m) (picked (settings_of m) (program_of m) (replicate k 0))) e

goes-one : (k : ℕ) (m n : Machine) (e : Event) → first_of m ≡ Some e
    → next_history (settings_of m) (program_of m) (history_of m) e ≡ Some (history_of n) → n.cores.code ≡ m.cores.code
    → goes_on (suc k) m ≡ e ∷ goes_on k n
unfolding next_history history_of
goes-one k m n e c s code = goes-first k m
    ∙ ap (pick (settings_of m) (program_of m) (world_of m) (picked (settings_of m) (program_of m) (replicate k 0))) c
    ∙ ap (λ es. e ∷ es) (leads-to (record { world = world_of m; commits = m.commits }) (step (settings_of m) (program_of m) (world_of m) e)
    (record { world = world_of n; commits = n.commits }) (picked (settings_of m) (program_of m) (replicate k 0)) s
    ∙ (λ i. picked (sym code i).settings (program (started (sym code i))) (replicate k 0) (world_of n)))

goes-end : (m : Machine) (left : ℕ) → left ≡ 0 → goes_on left m ≡ []
unfolding picked
goes-end m left e = ap (λ k. goes_on k m) e

-- ---- in the loop

-- i events were taken, and what is left is what comes from there on
pub record Going (m n : Refined) (all i : ℕ) : Type 0 where
  pub left : ℕ
  pub count : left + i ≡ all
  pub few : n.machine.events + left ≤ run_limit
  pub firsts : List Event
  pub took : TookAll m n firsts
  pub rest : goes_on all m.machine ≡ firsts ++ goes_on left n.machine

pub going-none : (m : Refined) (all : ℕ) → m.machine.events + all ≤ run_limit → Going m m all 0
going-none m all h = record { left = all; count = omega arith; few = h; firsts = []; took = took-none m; rest = refl }

pub going-same : {m n : Refined} {all i : ℕ} (o : Refined) → Going m n all i → Same n o → Going m o all i
going-same {m} {n} {all} {i} o s t = record {
  left = s.left;
  count = s.count;
  few = let a = s.few in let b = t.events in omega (arith, a, b);
  firsts = s.firsts;
  took = took-same m n o s.firsts s.took t;
  rest = s.rest ∙ ap (λ es. s.firsts ++ es) (sym (goes-same s.left n o t));
}

pub going-more : {m n : Refined} {all i : ℕ} (o : Refined) (e : CodeEvent) → Going m n all i → i < all
    → first_of n.machine ≡ Some (event_of e) → Takes n o e → Going m o all (i + 1)
going-more {m} {n} {all} {i} o e s h c t =
    let x = event_of e in
    let less = s.left - 1 in
    let sc = s.count in
    let sf = s.few in
    let te = t.events in
    let l : s.left ≡ suc less = omega (arith, sc, h) in
    record {
      left = less;
      count = omega (arith, sc, h);
      few = omega (arith, sc, sf, te, h);
      firsts = s.firsts ++ x ∷ [];
      took = took-more m n o s.firsts e s.took t;
      rest = s.rest
          ∙ ap (λ es. s.firsts ++ es) (ap (λ k. goes_on k n.machine) l ∙ goes-one less n.machine o.machine x c t.next t.code)
          ∙ sym (append_assoc s.firsts (x ∷ []) (goes_on less o.machine));
    }

-- nothing is left
took-all : (m n : Refined) (all i : ℕ) (s : Going m n all i) → goes_on s.left n.machine ≡ [] → TookAll m n (goes_on all m.machine)
took-all m n all i s e =
    subst (TookAll m n) (sym (s.rest ∙ ap (λ es. s.firsts ++ es) e ∙ append-nil s.firsts)) s.took

-- no event is useful
pub going-stops : {m n : Refined} {all i : ℕ} → Going m n all i → i < all → first_of n.machine ≡ None
    → TookAll m n (goes_on all m.machine)
going-stops {m} {n} {all} {i} s h c =
    let sc = s.count in
    let l : s.left ≡ suc (s.left - 1) = omega (arith, sc, h) in
    took-all m n all i s (ap (λ k. goes_on k n.machine) l ∙ goes-none (s.left - 1) n.machine c)

-- so many were taken
pub going-ends : {m n : Refined} {all i : ℕ} → Going m n all i → i ≡ all → TookAll m n (goes_on all m.machine)
going-ends {m} {n} {all} {i} s h = let sc = s.count in took-all m n all i s (goes-end n.machine s.left (omega (arith, sc, h)))
