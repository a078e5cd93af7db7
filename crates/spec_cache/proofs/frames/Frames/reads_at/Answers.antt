use Rattle.spec_cache.proofs.Marked.{reads_answer}
use Rattle.spec_cache.proofs.frames.Frames.reads_at.Goals as goal

pub returns : goal.returns
returns g c = reads_answer (g.Self.Ways.held c.args.self.now) c.any_reads_at.ensures.in_order c.args.d.0 c.any_reads_at.result
    c.any_reads_at.ensures.any
