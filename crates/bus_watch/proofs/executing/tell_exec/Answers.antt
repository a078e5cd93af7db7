-- The execution, and what is told behind it.
use Rattle.std.proofs.Common.{◌++◌, append_assoc, map, ap, sym, ◌∙◌, subst}
use Rattle.std.proofs.lemmas.Result.{on_ok_weaker}
use Rattle.bus_tcc.specs.Answers.{tid_told}
use Rattle.bus_tcc.specs.Machine.{bus_program_of, bus_settings_of, bus_world_of}
use Rattle.bus_watch.specs.Happened.{executed}
use Rattle.bus_watch.specs.Plain.{bus_fact_of}
use Rattle.bus_watch.specs.Telling.{SawExec, behind_told}
use Rattle.bus_watch.proofs.executing.tell_exec.Goals as goal

pub returns : goal.returns
returns c = λ s h saw before.
    let m = c.args.system.now in
    let p = bus_program_of m in
    let id = c.args.id.0 in
    let old = map bus_fact_of c.args.facts.now in
    let behind = behind_told m id s.phase h (tid_told c.args.step) in
    let seen = subst (λ k. SawExec c.args.seen k p s) (sym c.config.ensures) saw in
    on_ok_weaker c.tell_behind.result
    (λ last. last
    ∙ ap (λ xs. xs ++ behind)
    (c.in_ok-tell_executed.ensures p s seen ∙ (λ i. old ++ executed (c.config.ensures i) p id s (c.core.ensures.state i)))
    ∙ append_assoc old (executed (bus_settings_of m) p id s ((bus_world_of m).cores id)) behind)
    (c.tell_behind.ensures s h before)
