-- What a machine took that a seed ran from its start on, and the text of it.
use Rattle.std.proofs.Common.{◌≡◌, ℕ, ◌+◌, ◌≤◌, List, [], ◌++◌, length, map, Some, ap, refl, sym, ◌∙◌, subst, arith}
use Rattle.std.specs.List.{flat_map}
use Rattle.std.proofs.lemmas.List.{length-map}
use Rattle.tcc_base.specs.Limits.{run_limit}
use Rattle.tcc_base.specs.Settings.{IsAllowed, Settings}
use Rattle.image_load.specs.Contents.{Contents, started}
use Rattle.rand_pcg.specs.Lcg.{Lcg}
use Rattle.rv_code.specs.Machine.{program}
use Rattle.rules_riscv.specs.Starting.{world_at_start, at_start}
use Rattle.schedule_text.proofs.Lemmas.{text_from_parts}
use Rattle.schedule_text.specs.Grammar.{config_line, end_line, event_line, text_of, version_line, version_of}
use Rattle.schedule_text.specs.WellFormed.{IsWellFormed}
use Rattle.tcc_msg.specs.Plain.{event_of}
use Rattle.tcc_msg.specs.declared.event.Event.{Event}
use Rattle.rules_tcc.specs.Laws.{PickedEnds}
use Rattle.rules_tcc.specs.Picked.{picked}
use Rattle.rules_tcc.specs.Step.{run, run_from}
use Rattle.net_core.specs.Machine.{Machine, history_of}
use Rattle.tcc_replay.specs.Replayed.{TakenHasText}
use Rattle.tcc_pick.specs.Picking.{NotedAll, picks}
use Rattle.tcc_pick.specs.Words.{seeded, words}
use Rattle.tcc_cli.proofs.Machines.{is-refined}
use Rattle.tcc_cli.proofs.Taken.{as-many}
use Rattle.tcc_cli.specs.Runs.{picked_by}
use Rattle.tcc_cli.specs.Schedules.{HasTaken, IsPicked}

-- a machine at its start took what a seed picks
picks-there : (l : Contents) (m : Machine) (g : Lcg) (seed steps : ℕ) → m.cores.code ≡ l → history_of m ≡ at_start (started l)
    → g ≡ seeded seed → picks steps g m ≡ picked_by (started l) seed steps
unfolding started history_of
picks-there l m g seed steps code history e =
    λ i. picked (code i).settings (program (started (code i))) (words steps (e i)) ((ap (λ h. h.world) history) i)

-- the events that were noted lead from the start
leads-there : (l : Contents) (old new : Machine) (g : Lcg) (steps : ℕ) (line : Event → List ℕ) (before after : List ℕ)
    → old.cores.code ≡ l → history_of old ≡ at_start (started l) → (n : NotedAll old new (picks steps g old) line before after)
    → run l.settings (program (started l)) (world_at_start (started l)) (map event_of n.taken) ≡ Some (history_of new)
unfolding run
leads-there l old new g steps line before after code start n =
    (λ i. run_from (sym code i).settings (program (started (sym code i))) (n.took.taken i) (sym start i)) ∙ n.took.ran

pub has-picked : (l : Contents) (old new : Machine) (g : Lcg) (seed steps : ℕ) (line : Event → List ℕ) (before after : List ℕ)
    → old.cores.code ≡ l → history_of old ≡ at_start (started l) → old.events ≡ 0 → g ≡ seeded seed
    → NotedAll old new (picks steps g old) line before after
    → HasTaken (started l) (λ es. IsPicked (started l) seed steps es × (after ≡ before ++ flat_map line es)) new
unfolding started
has-picked l old new g seed steps line before after code start none e n =
    let all : length n.taken ≡ length (picks steps g old) = sym (length-map n.taken event_of) ∙ ap length n.took.taken in
    let more : new.events ≡ old.events + length (picks steps g old) = n.took.events in
    record {
      taken = n.taken;
      schedule = (n.took.taken ∙ picks-there l old g seed steps code start e, n.noted);
      is_run = leads-there l old new g steps line before after code start n;
      count = omega (arith, all, more, none);
    }

-- at most one for each that was asked for
took-few : PickedEnds → (l : Contents) (es : List Event) (seed steps : ℕ) → IsPicked (started l) seed steps es → length es ≤ steps
took-few ends l es seed steps took =
    let s = started l in
    let most : length (picked_by s seed steps) ≤ length (words steps (seeded seed)) =
    (ends s.settings (program s) (words steps (seeded seed)) (world_at_start s)).0 in
    let count : length (words steps (seeded seed)) ≡ steps = as-many steps (seeded seed) in
    let taken : length es ≡ length (picked_by s seed steps) = sym (length-map es event_of) ∙ ap length took in
    omega (arith, most, count, taken)

-- what it took has a text
pub has-text : TakenHasText → PickedEnds → (l : Contents) (m : Machine) (es : List Event) (seed steps : ℕ) → IsAllowed l.settings
    → m.cores.code ≡ l → steps ≤ run_limit → IsPicked (started l) seed steps es
    → run l.settings (program (started l)) (world_at_start (started l)) (map event_of es) ≡ Some (history_of m) → length es ≡ m.events
    → IsWellFormed (record { config = l.settings; events = es })
has-text law ends l m es seed steps allowed code few picked r count =
    let n : length es ≤ steps = took-few ends l es seed steps picked in
    let room : m.events ≤ run_limit = omega (arith, n, few, count) in
    subst (λ c. IsWellFormed (record { config = c.settings; events = es })) code
    (law (record { machine = m; taken = es }) (is-refined l m es allowed code r count) room)

-- the first lines, a line for each event, and the last
pub written-so : (config settings : Settings) (es : List Event) (first lines all : List ℕ) (count : ℕ) → config ≡ settings
    → first ≡ version_line (version_of config) ++ config_line config → lines ≡ first ++ flat_map event_line es → count ≡ length es
    → all ≡ lines ++ end_line count → all ≡ text_of (record { config = settings; events = es })
written-so config settings es first lines all count is f n c e =
    text_from_parts (record { config = settings; events = es }) (version_of settings) count [] (version_line (version_of settings)) first
    lines all refl c refl refl (f ∙ ap (λ k. version_line (version_of k) ++ config_line k) is) n e
