-- The logs of one machine's nodes fit one another.
use Rattle.std.proofs.Common.{subst, sym}
use Rattle.image_load.specs.Contents.{started}
use Rattle.stamp_merge.specs.Merging.{AreLogs}
use Rattle.stamp_merge.proofs.Lemmas.{are_logs}
use Rattle.test_command.proofs.program.turns.merged.Goals as goal

pub merge-requires : goal.merge-requires
unfolding started
merge-requires g c = record {
  logs = subst (λ t. AreLogs t c.in-Ok.logs.by_node) (sym c.in-Ok.ensures.config)
      (are_logs (started c.args.nodes.code) c.in-Ok.logs.by_node c.in-Ok.ensures.fits);
}
