-- A table that is done tells every end, and each table only ends that are reached.
use Rattle.std.proofs.Common.{◌≡◌, ◌<◌, ℕ, List, Option, Some, None, IfSome, IsSomeAnd, length, map, slice_index_or}
use Rattle.std.proofs.Common.{sym, ap, subst, arith}
use Rattle.std.proofs.lemmas.List.Elements.{All-from_get_or, All-get_or}
use Rattle.std.proofs.lemmas.List.FromFn.{get_or-map-range_with_len, length-map-range_with_len}
use Rattle.std.specs.List.{range_with_len}
use Rattle.image_load.specs.Contents.{Contents, started}
use Rattle.run_outcomes.proofs.Lemmas.{orders_to-lead, have-ended}
use Rattle.run_outcomes.specs.Explored.{AreFound, AreLed, no_snapshot, state_at}
use Rattle.run_outcomes.specs.Outcomes.{HaveEnded, IsOutcome}
use Rattle.run_outcomes.specs.Results.{AreEnds, IsEnd}
use Rattle.run_outcomes.specs.States.{machine_of}
use Rattle.run_outcomes.specs.Ways.{Explored, orders_to}
use Rattle.run_outcomes.specs.declared.outcomes.Results.{Results}
use Rattle.run_outcomes.specs.declared.outcomes.Tell.{Tell}
use Rattle.run_outcomes.specs.declared.stuck.Stuck.{Stuck}
use Rattle.run_outcomes.specs.declared.states.Snapshot.{Snapshot}
use Rattle.rv_code.specs.Machine.{program}
use Rattle.rv_plain.specs.Machine.{plain_start}
use Rattle.tcc_base.specs.declared.access.Commit.{Commit}
use Rattle.rules_program.specs.Plain.{Plain, serial}
use Rattle.text_outcomes.specs.Laws.{HasOutcome, IsReached, TablesTellEveryEnd, TablesTellOnlyEnds}
use Rattle.text_outcomes.specs.Table.{outcome_of, table_of}
use Rattle.text_outcomes.specs.Told.{machine_shown}
use Rattle.text_outcomes.proofs.Alike.{told-alike}

-- ---- every end is told

has-outcome : (tell : Tell) (e : Explored) (r : Results) (stuck : Stuck) (m : Plain)
    → IsOutcome e.loaded tell e.states r.firsts m → HasOutcome tell (table_of e r stuck) (machine_shown e.loaded m)
has-outcome tell e r stuck m is =
    let i = is.0 in
    let o = outcome_of e r i in
    let count = length-map-range_with_len (outcome_of e r) 0 (length r.firsts) in (
      o,
      (i, subst (λ n. i < n) (sym count) is.1, get_or-map-range_with_len (outcome_of e r) 0 (length r.firsts) i i o is.1 (omega arith)),
      told-alike e.loaded tell (machine_of e.loaded (state_at e.states (slice_index_or r.firsts i 0))) m is.2,
    )

pub tables-tell-every-end : TablesTellEveryEnd
tables-tell-every-end tell e r stuck every last orders =
    go (serial e.loaded.settings.base (program (started e.loaded)) last orders (plain_start (started e.loaded))) (every last orders)
  where
    go : (x : Option (Plain × List Commit))
        → IfSome x (λ y. HaveEnded e.loaded.settings.cores y.0 → IsOutcome e.loaded tell e.states r.firsts y.0)
        → IfSome x (λ y. HaveEnded e.loaded.settings.cores y.0 → HasOutcome tell (table_of e r stuck) (machine_shown e.loaded y.0))
    go None has = tt
    go (Some y) has = λ ended. has-outcome tell e r stuck y.0 (has ended)

-- ---- only ends that are reached are told

reached : (l : Contents) (s : Snapshot) (x : Option (Plain × List Commit)) → HaveEnded l.settings.cores (machine_of l s)
    → IsSomeAnd x (λ y. machine_of l s ≡ y.0)
    → IsSomeAnd x (λ y. HaveEnded l.settings.cores y.0 × (machine_shown l (machine_of l s) ≡ machine_shown l y.0))
reached l s None ended leads = absurd leads
reached l s (Some y) ended leads = (subst (HaveEnded l.settings.cores) leads ended, ap (machine_shown l) leads)

outcome-reached : (e : Explored) (r : Results) (i : ℕ) → AreFound e.loaded e.states → AreLed e.loaded e.states e.ways
    → AreEnds e.states r.firsts → i < length r.firsts → IsReached e.loaded (outcome_of e r i)
outcome-reached e r i found led ends lt =
    let k = slice_index_or r.firsts i 0 in
    let end = All-get_or (λ j. (j < length e.states) × IsEnd (state_at e.states j)) r.firsts i 0 lt ends in
    let sized = All-get_or (λ s. length s.cores ≡ e.loaded.settings.cores) e.states k no_snapshot end.0 found.sized in
    reached e.loaded (state_at e.states k)
    (serial e.loaded.settings.base (program (started e.loaded)) 0 (orders_to e.ways k) (plain_start (started e.loaded)))
    (have-ended e.loaded (state_at e.states k) sized end.1)
    (orders_to-lead e.loaded e.states e.ways k found led end.0)

pub tables-tell-only-ends : TablesTellOnlyEnds
tables-tell-only-ends e r stuck found led ends =
    let count = length-map-range_with_len (outcome_of e r) 0 (length r.firsts) in
    All-from_get_or (IsReached e.loaded) (map (outcome_of e r) (range_with_len 0 (length r.firsts))) (outcome_of e r 0)
    (λ i lt.
    let inside = subst (λ n. i < n) count lt in
    subst (IsReached e.loaded)
    (sym (get_or-map-range_with_len (outcome_of e r) 0 (length r.firsts) i i (outcome_of e r 0) inside (omega arith)))
    (outcome-reached e r i found led ends inside))
