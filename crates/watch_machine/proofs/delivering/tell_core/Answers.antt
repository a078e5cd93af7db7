-- One fact after another is told.
use Rattle.std.proofs.Common.{◌≡◌, ◌++◌, List, Result, Ok, Err, OnOk, map, ap, ◌∙◌, append_assoc}
use Rattle.tcc_base.specs.declared.collections.NoMemory.{NoMemory}
use Rattle.commit_engine.specs.Engine.{phase_of}
use Rattle.core_node.specs.View.{core_of}
use Rattle.net_core.specs.Machine.{world_of}
use Rattle.watch.specs.Facts.{Fact}
use Rattle.watch.specs.Happened.{commit_fact, phase_fact}
use Rattle.watch.specs.Messages.{grant_given_up, taken, violated}
use Rattle.watch.specs.Plain.{fact_of}
use Rattle.watch_machine.specs.Watched.{told_commit}
use Rattle.watch_machine.proofs.delivering.tell_core.Goals as goal

on-ok : (r : Result (Unit {0}) NoMemory) (P Q : Type 0) → (P → Q) → OnOk r P → OnOk r Q
on-ok (Ok u) P Q f p = f p
on-ok (Err e) P Q f p = tt

-- what was told, and what is told behind it
and-then : (now old a r new : List Fact) → now ≡ old ++ a → new ≡ now ++ r → new ≡ old ++ (a ++ r)
and-then now old a r new e f = f ∙ ap (λ x. x ++ r) e ∙ append_assoc old a r

pub returns : goal.returns
unfolding core_of
returns c = λ src m cs s saw.
    let id = c.args.id.0 in
    let t = (world_of c.args.system.now).cores id in
    let n = c.instructions.ensures ∙ ap (λ s. s.n) c.core-core.ensures.state in
    let after = c.phase.ensures ∙ ap (λ s. s.phase) c.core-core.ensures.state in
    let given = c.in_ok-tell_given_up.ensures
    ∙ (λ i. map fact_of c.tell_violated.new.facts ++ grant_given_up id (saw.msg i) (saw.phase i)) in
    let commit = c.in_ok-tell_commit.ensures
    ∙ ap (λ cs. map fact_of c.tell_given_up.new.facts ++ commit_fact (told_commit c.args.step cs)) c.commits.ensures in
    let f0 = map fact_of c.args.facts.now in
    let f1 = map fact_of c.tell_taken.new.facts in
    let f2 = map fact_of c.tell_violated.new.facts in
    let f3 = map fact_of c.tell_given_up.new.facts in
    let f4 = map fact_of c.tell_commit.new.facts in
    let f5 = map fact_of c.tell_phase.new.facts in
    let a = taken src m s in
    let b = violated id cs m s t in
    let d = grant_given_up id m s.phase in
    let e = commit_fact (told_commit c.args.step c.args.system.now.commits) in
    let g = phase_fact id s.phase t.phase in
    on-ok c.tell_phase.result (f5 ≡ f4 ++ phase_fact id (phase_of c.args.seen.now.phase) (phase_of c.phase.result))
    (f5 ≡ f0 ++ (a ++ (b ++ (d ++ (e ++ g)))))
    (λ last. and-then f1 f0 a (b ++ (d ++ (e ++ g))) f5 (c.in_ok-tell_taken.ensures src m cs s saw)
    (and-then f2 f1 b (d ++ (e ++ g)) f5 (c.in_ok-tell_violated.ensures src m cs s t saw n)
    (and-then f3 f2 d (e ++ g) f5 given (and-then f4 f3 e g f5 commit (last ∙ (λ i. f4 ++ phase_fact id (saw.phase i) (after i)))))))
    c.tell_phase.ensures
