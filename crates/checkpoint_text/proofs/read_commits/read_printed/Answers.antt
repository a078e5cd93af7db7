use Rattle.checkpoint_text.proofs.read_commits.read_printed.Goals as goal

pub loop-k-smaller : goal.loop-k-smaller
loop-k-smaller c = c.in-Some.ensures
