-- The head, the counts and the machine that were read are all of the text.
use Rattle.std.proofs.Common.{◌≡◌, subst, sym}
use Rattle.watch_run.specs.Runs.{RunData}
use Rattle.checkpoint_run.specs.Runs.{run_text}
use Rattle.checkpoint_run.proofs.Rows.{run-read}
use Rattle.checkpoint_run.proofs.reading.read_run.Goals as goal

pub returns-in-Ok-machine_at_end-clause-text : goal.returns-in-Ok-machine_at_end-clause-text
returns-in-Ok-machine_at_end-clause-text c =
    let r : RunData = record {
      machine = c.in-Ok-machine_at_end.system;
      counts = c.in-Ok.counts;
      seed = c.in_ok-seed.seed;
      drawn = c.in_ok-seed.drawn;
    } in
    subst (λ (q : RunData). run_text q ≡ c.args.bytes.now) (sym c.restored.ensures)
    (run-read r _ _ _ c.in_ok-seed.ensures c.in-Ok.ensures c.in-Ok-machine_at_end.ensures.text)
