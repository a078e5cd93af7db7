use Rattle.checkpoint_text.proofs.read_commits.read_stores.Goals as goal

pub loop-k-smaller : goal.loop-k-smaller
loop-k-smaller c = c.in-Some.ensures
