-- After each run the counts of each core add up.
use Rattle.std.proofs.Common.{◌≡◌, ◌<◌, ℕ, List, [], ◌∷◌, Option, Some, None, IfSome, get_or, length}
use Rattle.std.proofs.Common.{refl, sym, ap, subst, ◌∙◌}
use Rattle.std.proofs.lemmas.List.{get_or-replicate, length-replicate}
use Rattle.rv_code.specs.Machine.{program}
use Rattle.image_load.specs.Start.{first_ram}
use Rattle.rules_riscv.specs.Starting.{local_at_start, world_at_start, at_start}
use Rattle.rules_maps.specs.Nodes.{Event}
use Rattle.rules_maps.specs.Shape.{Shape}
use Rattle.rules_program.specs.Program.{Local, Program}
use Rattle.rules_tcc.specs.State.{start, core_start}
use Rattle.rules_tcc.specs.Step.{History, Stepped, and_noted, and_then, next_history, recorded, run, run_from, step}
use Rattle.watch.specs.Happened.{actor, facts_of, happened}
use Rattle.watch_count.specs.Counts.{Counts, event_counted, nothing_counted, run_counted}
use Rattle.watch_count.specs.Tables.{nothing, event_came}
use Rattle.watch_count.specs.declared.tables.CoreCounts.{CoreCounts}
use Rattle.watch_run.specs.Looked.{and_later, counts_of_run, run_facts}
use Rattle.count_law.specs.Sums.{AddUp, CountsAddUp, row_of}
use Rattle.count_law.proofs.Events.{Holds, step-holds}
use Rattle.count_law.proofs.Rows.{row_after, row-event, length-event}

-- what holds of each core, by its counts
abbrev AllHold : History → (rows : ℕ → CoreCounts) → Type 0
AllHold h rows = (j : ℕ) → Holds j (h.world.cores j) h.commits (rows j)

-- the counts have these rows
abbrev HasRows : Counts → (rows : ℕ → CoreCounts) → Type 0
HasRows c rows = (j : ℕ) → j < length c.cores → get_or c.cores j nothing ≡ rows j

-- the rows after an event
abbrev rows_after : Shape → Program → History → Event → Stepped → (rows : ℕ → CoreCounts) → ℕ → CoreCounts
rows_after sh p h e t rows j = row_after (actor e) j (facts_of sh p h e (Some t)) (event_came (rows j))

came-holds : (j : ℕ) (h : History) (k : CoreCounts) → Holds j (h.world.cores j) h.commits k
    → Holds j (h.world.cores j) h.commits (event_came k)
unfolding event_came
came-holds j h k held = record { starts = held.starts; kept = held.kept }

all-step : (sh : Shape) (p : Program) (h : History) (e : Event) (rows : ℕ → CoreCounts) → AllHold h rows
    → IfSome (step sh p h.world e) (λ t. AllHold (record { world = t.world; commits = and_noted t.noted h.commits })
    (rows_after sh p h e t rows))
all-step sh p h e rows all =
    go (step sh p h.world e)
    (λ j. step-holds sh p h e j (event_came (rows j)) (λ c. (all c).starts) (came-holds j h (rows j) (all j)))
  where
    go : (o : Option Stepped) → ((j : ℕ) → IfSome o (λ t. Holds j (t.world.cores j) (and_noted t.noted h.commits)
        (row_after (actor e) j (facts_of sh p h e (Some t)) (event_came (rows j)))))
        → IfSome o (λ t. AllHold (record { world = t.world; commits = and_noted t.noted h.commits }) (rows_after sh p h e t rows))
    go None each = tt
    go (Some t) each = each

has-rows-after : (sh : Shape) (p : Program) (h : History) (e : Event) (t : Stepped) (c : Counts) (rows : ℕ → CoreCounts) → HasRows c rows
    → HasRows (event_counted (actor e) (facts_of sh p h e (Some t)) c) (rows_after sh p h e t rows)
has-rows-after sh p h e t c rows has j lt =
    let facts = facts_of sh p h e (Some t) in
    let there : j < length c.cores = subst (λ n. j < n) (length-event (actor e) facts c) lt in
    row-event (actor e) facts c j there ∙ ap (λ k. row_after (actor e) j facts (event_came k)) (has j there)

-- after a run from this state, where core j has a row
abbrev AfterRunFrom : Shape → Program → List Event → History → Counts → ℕ → Type 0
AfterRunFrom sh p es h c j =
    IfSome (run_from sh p es h)
    (λ g. Holds j (g.world.cores j) g.commits (get_or (run_counted (run_facts sh p es h) c).cores j nothing))

runs-hold : (sh : Shape) (p : Program) (es : List Event) (h : History) (c : Counts) (rows : ℕ → CoreCounts) → AllHold h rows
    → HasRows c rows → (j : ℕ) → j < length c.cores → AfterRunFrom sh p es h c j
unfolding run_from next_history run_facts run_counted happened
runs-hold sh p [] h c rows all has j lt = subst (λ k. Holds j (h.world.cores j) h.commits k) (sym (has j lt)) (all j)
runs-hold sh p (e ∷ es) h c rows all has j lt = go (step sh p h.world e) (all-step sh p h e rows all) (runs-hold sh p es)
  where
    go : (o : Option Stepped)
        → IfSome o (λ t. AllHold (record { world = t.world; commits = and_noted t.noted h.commits }) (rows_after sh p h e t rows))
        → ((g : History) (d : Counts) (rows : ℕ → CoreCounts) → AllHold g rows → HasRows d rows → (i : ℕ) → i < length d.cores
        → AfterRunFrom sh p es g d i)
        → IfSome (and_then (run_from sh p es) (recorded h o)) (λ g. Holds j (g.world.cores j) g.commits
        (get_or (run_counted (and_later (actor e, facts_of sh p h e o) (run_facts sh p es) (recorded h o)) c).cores j nothing))
    go None all rest = tt
    go (Some t) all rest =
        let facts = facts_of sh p h e (Some t) in
        rest (record { world = t.world; commits = and_noted t.noted h.commits }) (event_counted (actor e) facts c)
        (rows_after sh p h e t rows) all (has-rows-after sh p h e t c rows has) j
        (subst (λ n. j < n) (sym (length-event (actor e) facts c)) lt)

first-holds : (entries : ℕ → Local) (ram : ℕ → ℕ) → AllHold (record { world = start entries ram; commits = [] }) (λ j. nothing)
unfolding start core_start
first-holds entries ram j = record {
  starts = refl;
  kept = record { executed = refl; under_way = refl; begun = refl; one = refl; commits = refl; instructions = refl };
}

first-rows : (n : ℕ) → HasRows (nothing_counted n) (λ j. nothing)
unfolding nothing_counted
first-rows n j lt = get_or-replicate n j nothing nothing (subst (λ m. j < m) (length-replicate n nothing) lt)

pub counts-add-up : CountsAddUp
unfolding run counts_of_run nothing_counted
counts-add-up s es =
    go (run s.settings (program s) (world_at_start s) es)
    (λ j lt. runs-hold s.settings (program s) es (at_start s) (nothing_counted s.settings.cores) (λ i. nothing)
    (first-holds (local_at_start s) (first_ram s)) (first-rows s.settings.cores) j
    (subst (λ n. j < n) (sym (length-replicate s.settings.cores nothing)) lt))
  where
    go : (x : Option History) → ((j : ℕ) → j < s.settings.cores → IfSome x (λ h. Holds j (h.world.cores j) h.commits (row_of s es j)))
        → IfSome x (λ h. (c : ℕ) → c < s.settings.cores → AddUp h c (row_of s es c))
    go None each = tt
    go (Some h) each = λ c lt.
        let held = each c lt in
        record {
          executed = held.kept.executed;
          under_way = held.kept.under_way;
          begun = held.kept.begun;
          one_open = held.kept.one;
          commits = held.kept.commits;
          instructions = held.kept.instructions;
        }
