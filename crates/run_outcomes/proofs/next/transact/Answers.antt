use Rattle.std.proofs.Common.{◌≡◌, ◌∙◌, ap, length, ◌*◌}
use Rattle.run_outcomes.proofs.Leads.{run-steps, stores-in-ram, next-if, endless}
use Rattle.run_outcomes.specs.Changes.{changed_ram}
use Rattle.rv_plain.specs.Attempts.{attempt_of}
use Rattle.rv_plain.specs.Buffered.{plain_view}
use Rattle.rv_exec.specs.declared.outcome.Outcome.TheVariants.{Goes}
use Rattle.rules_program.specs.Ram.{flat}
use Rattle.run_outcomes.proofs.next.transact.Goals as goal

pub leave-requires-clause-stores : goal.leave-requires-clause-stores
leave-requires-clause-stores c =
    let l = c.args.code.now in
    let run = rw c.in-Some.is at c.in_ok-run_to_end.ensures.runs in
    let ram = ap flat c.in_ok-write_all.ensures.ram ∙ c.requires.start in
    let h = run-steps l c.args.core.now.state c.write_all.new.memory c.args.changes.now c.begin-attempt.result c.run_to_end.new.attempt.n
    (plain_view (attempt_of c.run_to_end.new.attempt c.run_to_end.new.memory c.in-Some.outcome)) c.begin-attempt.ensures ram
    c.in_ok-write_all.ensures.waits run.0 in
    stores-in-ram l c.args.core.now.state (changed_ram l c.args.changes.now) c.run_to_end.new.attempt.n c.run_to_end.new.memory
    c.run_to_end.new.attempt c.in-Some.outcome h

pub returns-in-None-clause-next : goal.returns-in-None-clause-next
returns-in-None-clause-next c =
    let l = c.args.code.now in
    let run = rw c.in-None.is at c.in_ok-run_to_end.ensures.runs in
    let ram = ap flat c.in_ok-write_all.ensures.ram ∙ c.requires.start in
    let h = run-steps l c.args.core.now.state c.write_all.new.memory c.args.changes.now c.begin-attempt.result c.args.longest
    (plain_view (attempt_of c.run_to_end.new.attempt c.run_to_end.new.memory Goes)) c.begin-attempt.ensures ram
    c.in_ok-write_all.ensures.waits run in
    (c.requires.runs, endless l c.args.core.now c.args.changes.now c.args.longest c.run_to_end.new.memory c.run_to_end.new.attempt h)

pub returns-in-Some-clause-next : goal.returns-in-Some-clause-next
returns-in-Some-clause-next c =
    let l = c.args.code.now in
    let run = rw c.in-Some.is at c.in_ok-run_to_end.ensures.runs in
    let ram = ap flat c.in_ok-write_all.ensures.ram ∙ c.requires.start in
    let late = ap flat c.run_to_end.ensures.ram ∙ ram in
    let whole : 4 * length c.run_to_end.new.memory.ram ≡ l.settings.ram =
    rw (c.run_to_end.ensures.ram, c.in_ok-write_all.ensures.ram) c.requires.whole in
    let h = run-steps l c.args.core.now.state c.write_all.new.memory c.args.changes.now c.begin-attempt.result c.run_to_end.new.attempt.n
    (plain_view (attempt_of c.run_to_end.new.attempt c.run_to_end.new.memory c.in-Some.outcome)) c.begin-attempt.ensures ram
    c.in_ok-write_all.ensures.waits run.0 in
    next-if l c.args.core.now c.args.changes.now c.args.longest c.run_to_end.new.attempt.n c.run_to_end.new.memory
    c.run_to_end.new.attempt c.in-Some.outcome c.leave.result c.requires.runs late whole run.2 h c.leave.ensures.left
