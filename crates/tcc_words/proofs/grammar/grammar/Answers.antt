use Rattle.std.proofs.Common.{◌≡◌, ◌⊎◌, ap, codes, inl, inr}
use Rattle.std.proofs.lemmas.Result.{IfOk-weaker}
use Rattle.tcc_words.specs.Grammar.{file_rules, rules}
use Rattle.tcc_words.proofs.Rules.{bus_made, count_made, filed_made, follow_made, outcomes_made, phases_made, run_made}
use Rattle.tcc_words.proofs.Rules.{state_made, trace_made, trial_made}
use Rattle.tcc_words.proofs.grammar.grammar.Goals as goal
use Rattle.tcc_words.specs.declared.command.Verb.{Verb}
use Rattle.tcc_words.specs.declared.command.Verb.TheVariants.{Replay, Why}

of_schedule : (verb : Verb) → (verb ≡ Replay) ⊎ (verb ≡ Why) → rules verb ≡ file_rules (codes "schedule")
of_schedule verb (inl e) = ap rules e
of_schedule verb (inr e) = ap rules e

pub returns-in_ok-batch-in-Run : goal.returns-in_ok-batch-in-Run
returns-in_ok-batch-in-Run c =
    IfOk-weaker c.with_record.result _ _ (λ m h. run_made c.args.verb c.args.name.now _ _ _ _ _ _ c.in-Run.is c.requires
    c.bare-named.ensures c.in_ok-machine-in-Run.ensures c.in_ok-events-in-Run.ensures c.in_ok-threads-in-Run.ensures
    c.in_ok-batch-in-Run.ensures h)
    c.with_record.ensures

pub returns-in-Replay : goal.returns-in-Replay
returns-in-Replay c =
    IfOk-weaker c.with_file.result _ _ (λ m h. filed_made c.args.verb c.args.name.now (codes "schedule") _ _
    (of_schedule c.args.verb c.in-Replay.is) c.requires c.bare-named.ensures h) c.with_file.ensures

pub returns-in-Serial : goal.returns-in-Serial
returns-in-Serial c =
    IfOk-weaker c.with_file-in-Serial.result _ _ (λ m h. filed_made c.args.verb c.args.name.now (codes "report") _ _
    (ap rules c.in-Serial.is) c.requires c.bare-named.ensures h) c.with_file-in-Serial.ensures

pub returns-in_ok-kind-in-Trial : goal.returns-in_ok-kind-in-Trial
returns-in_ok-kind-in-Trial c =
    IfOk-weaker c.with_place-in-Trial.result _ _ (λ m h. trial_made c.args.verb c.args.name.now _ _ _ _ _ c.in-Trial.is c.requires
    c.bare-named.ensures c.in_ok-nodes-in-Trial.ensures c.in_ok-events-in-Trial.ensures c.in_ok-kind-in-Trial.ensures h)
    c.with_place-in-Trial.ensures

pub returns-in_ok-events-in-Phases : goal.returns-in_ok-events-in-Phases
returns-in_ok-events-in-Phases c =
    IfOk-weaker c.with_record-in-Phases.result _ _ (λ m h. phases_made c.args.verb c.args.name.now _ _ _ _ c.in-Phases.is c.requires
    c.bare-named.ensures c.in_ok-machine-in-Phases.ensures c.in_ok-events-in-Phases.ensures h)
    c.with_record-in-Phases.ensures

pub returns-in_ok-events-in-Bus : goal.returns-in_ok-events-in-Bus
returns-in_ok-events-in-Bus c =
    IfOk-weaker c.with_places.result _ _ (λ m h. bus_made c.args.verb c.args.name.now _ _ _ _ _ c.in-Bus.is c.requires
    c.bare-named.ensures c.in_ok-cores-in-Bus.ensures c.in_ok-machine-in-Bus.ensures c.in_ok-events-in-Bus.ensures h)
    c.with_places.ensures

pub returns-in_ok-resume-in-Trace : goal.returns-in_ok-resume-in-Trace
returns-in_ok-resume-in-Trace c =
    IfOk-weaker c.with_places-in-Trace.result _ _ (λ m h. trace_made c.args.verb c.args.name.now _ _ _ _ _ _ _ c.in-Trace.is c.requires
    c.bare-named.ensures c.in_ok-source-in-Trace.ensures c.in_ok-from-in-Trace.ensures c.in_ok-to-in-Trace.ensures
    c.in_ok-states-in-Trace.ensures c.in_ok-resume-in-Trace.ensures h)
    c.with_places-in-Trace.ensures

pub returns-in_ok-checkpoint-in-Count : goal.returns-in_ok-checkpoint-in-Count
returns-in_ok-checkpoint-in-Count c =
    IfOk-weaker c.with_places-in-Count.result _ _ (λ m h. count_made c.args.verb c.args.name.now _ _ _ _ _ _ _ _ c.in-Count.is c.requires
    c.bare-named.ensures c.in_ok-source-in-Count.ensures c.in_ok-csv-in-Count.ensures c.in_ok-every-in-Count.ensures
    c.in_ok-consoles-in-Count.ensures c.in_ok-resume-in-Count.ensures c.in_ok-checkpoint-in-Count.ensures h)
    c.with_places-in-Count.ensures

pub returns-in_ok-resume-in-State : goal.returns-in_ok-resume-in-State
returns-in_ok-resume-in-State c =
    IfOk-weaker c.with_places-in-State.result _ _ (λ m h. state_made c.args.verb c.args.name.now _ _ _ _ _ c.in-State.is c.requires
    c.bare-named.ensures c.in_ok-source-in-State.ensures c.in_ok-events-in-State.ensures c.in_ok-resume-in-State.ensures h)
    c.with_places-in-State.ensures

pub returns-in_ok-tell-in-Outcomes : goal.returns-in_ok-tell-in-Outcomes
returns-in_ok-tell-in-Outcomes c =
    IfOk-weaker c.with_places-in-Outcomes.result _ _ (λ m h. outcomes_made c.args.verb c.args.name.now _ _ _ _ _ _ _ c.in-Outcomes.is
    c.requires c.bare-named.ensures c.in_ok-cores-in-Outcomes.ensures c.in_ok-memory-in-Outcomes.ensures
    c.in_ok-states-in-Outcomes.ensures c.in_ok-longest-in-Outcomes.ensures c.in_ok-tell-in-Outcomes.ensures h)
    c.with_places-in-Outcomes.ensures

pub returns-in_ok-list-in-Follow : goal.returns-in_ok-list-in-Follow
returns-in_ok-list-in-Follow c =
    IfOk-weaker c.with_places-in-Follow.result _ _ (λ m h. follow_made c.args.verb c.args.name.now _ _ _ _ _ c.in-Follow.is c.requires
    c.bare-named.ensures c.in_ok-machine-in-Follow.ensures c.in_ok-record-in-Follow.ensures c.in_ok-list-in-Follow.ensures h)
    c.with_places-in-Follow.ensures
