-- One event more is counted.
use Rattle.std.proofs.Common.{◌≡◌, ℕ, ◌+◌, List, [], ◌∷◌, map, Some, None, refl, ap, sym, ◌∙◌, arith}
use Rattle.image_load.specs.Contents.{Contents, started}
use Rattle.rv_code.specs.Machine.{program}
use Rattle.rules_bus.specs.State.{BusEvent}
use Rattle.rules_bus.specs.Step.{bus_next}
use Rattle.bus_tcc.specs.Machine.{BusMachine, bus_history_of, bus_program_of, bus_settings_of}
use Rattle.bus_tool.specs.Running.{bus_picked_by}
use Rattle.bus_tool.proofs.Lemmas.{no-words}
use Rattle.bus_watch.specs.Facts.{BusFact}
use Rattle.bus_watch.specs.Happened.{bus_happened, core_of}
use Rattle.bus_watch.specs.Plain.{bus_fact_of}
use Rattle.bus_count.specs.Counts.{BusCounts, bus_event_counted, bus_run_counted, nothing_on_bus}
use Rattle.bus_run.specs.Counted.{and_later, bus_run_facts, counts_of_bus_run}
use Rattle.bus_run.specs.Counting.{AreCounted, facts}
use Rattle.bus_run.specs.Going.{GoneOn, Moves, Starts, coming}
use Rattle.bus_run.specs.Laws.{gone-more, gone-none}
use Rattle.bus_run.specs.declared.running.BusRun.{BusRun}
use Rattle.bus_run.proofs.Going.{gone-end, gone-one}
use Rattle.bus_run.proofs.Leading.{coming-first}

-- what an event does to a machine
abbrev did : BusMachine → BusEvent → ℕ × List BusFact
did m e = (core_of e, bus_happened (bus_settings_of m) (bus_program_of m) (bus_history_of m) e)

facts-one : (m n : BusMachine) (e : BusEvent) (es : List BusEvent)
    → bus_next (bus_settings_of m) (bus_program_of m) (bus_history_of m) e ≡ Some (bus_history_of n) → n.code ≡ m.code
    → facts m (e ∷ es) ≡ did m e ∷ facts n es
unfolding bus_run_facts
facts-one m n e es s code =
    ap (and_later (did m e) (bus_run_facts (bus_settings_of m) (bus_program_of m) es)) s
    ∙ (λ i. did m e ∷ bus_run_facts (sym code i).settings (program (started (sym code i))) es (bus_history_of n))

counted-one : (x : ℕ × List BusFact) (xs : List (ℕ × List BusFact)) (c : BusCounts)
    → bus_run_counted (x ∷ xs) c ≡ bus_run_counted xs (bus_event_counted x.0 x.1 c)
unfolding bus_run_counted
counted-one x xs c = refl

counted-none : (m : BusMachine) (c : BusCounts) → bus_run_counted (facts m []) c ≡ c
unfolding bus_run_facts bus_run_counted
counted-none m c = refl

-- ---- in the loop

-- so many events were taken and counted: the counts of all that came are those so far with what is still to come
pub record Tallied (first now : BusRun) (number : ℕ) (before counts : BusCounts) : Type 0 where
  pub gone : GoneOn first now
  pub left : now.left + number ≡ first.left
  pub counted : bus_run_counted (facts first.system (coming first)) before ≡ bus_run_counted (facts now.system (coming now)) counts

pub tallied-none : (r : BusRun) (c : BusCounts) → Tallied r r 0 c c
tallied-none r c = record { gone = gone-none r; left = omega arith; counted = refl }

pub tallied-more : (first now next : BusRun) (number : ℕ) (before counts later : BusCounts) (e : BusEvent)
    → Tallied first now number before counts → Moves now next (Some e)
    → later ≡ bus_event_counted (core_of e) (map bus_fact_of next.facts) counts → Tallied first next (number + 1) before later
tallied-more first now next number before counts later e t (took, come, less) is =
    let left = t.left in
    record {
      gone = gone-more first now next t.gone (gone-one now next e (took, come, less));
      left = omega (arith, left, less);
      counted = t.counted ∙ ap (λ es. bus_run_counted (facts now.system es) counts) come
          ∙ ap (λ fs. bus_run_counted fs counts) (facts-one now.system next.system e (coming next) took.next took.code)
          ∙ counted-one (did now.system e) (facts next.system (coming next)) counts
          ∙ ap (bus_run_counted (facts next.system (coming next)))
          (ap (λ fs. bus_event_counted (core_of e) fs counts) (sym took.told) ∙ sym is);
    }

-- nothing comes any more
pub tallied-ends : (first now next : BusRun) (number : ℕ) (before counts : BusCounts) → Tallied first now number before counts
    → Moves now next None → AreCounted first next before counts
tallied-ends first now next number before counts t (same, left, none, still) = record {
  gone = gone-more first now next t.gone (gone-end now next (same, left, none, still));
  ended = still;
  counted = sym (t.counted ∙ ap (λ es. bus_run_counted (facts now.system es) counts) none ∙ counted-none now.system counts);
}

-- all words are drawn
pub tallied-all : (first now : BusRun) (number : ℕ) (before counts : BusCounts) → Tallied first now number before counts
    → number ≡ first.left → AreCounted first now before counts
tallied-all first now number before counts t e =
    let left = t.left in
    let none : coming now ≡ [] = no-words now.left now.words now.system (omega (arith, left, e)) in
    record {
      gone = t.gone;
      ended = none;
      counted = sym (t.counted ∙ ap (λ es. bus_run_counted (facts now.system es) counts) none ∙ counted-none now.system counts);
    }

-- ---- from the start

pub counted-first : (c : Contents) (seed steps : ℕ) (r : BusRun) (before counts : BusCounts) → Starts c seed steps r
    → before ≡ nothing_on_bus (bus_settings_of r.system).cores → counts ≡ bus_run_counted (facts r.system (coming r)) before
    → counts ≡ counts_of_bus_run (started c) (bus_picked_by (started c) seed steps)
unfolding counts_of_bus_run started
counted-first c seed steps r before counts s b e =
    e ∙ (λ i. bus_run_counted
    (bus_run_facts (s.code i).settings (program (started (s.code i))) (coming-first c seed steps r s i) (s.history i))
    ((b ∙ ap (λ k. nothing_on_bus k.settings.cores) s.code) i))
