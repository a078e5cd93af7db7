-- The cores and the others are all nodes, and all have met.
use Rattle.std.proofs.Common.{◌∙◌, rules}
use Rattle.node_locks.proofs.Fits.Meeting.{split-wired, split-met}
use Rattle.node_locks.proofs.Fits.Whole.{fit-all}
use Rattle.node_locks.proofs.closing.fit.Goals as goal

pub meet_all-requires : goal.meet_all-requires
meet_all-requires g c =
    let both = c.split_at_mut-cores in
    record {
      wired = split-wired c.args.code.now c.args.nodes.now both.result.0.now both.result.1.now c.requires both.ensures.value
          (both.ensures.front_len ∙ c.cores.ensures.value ∙ search rules);
    }

pub returns-clause-fits : goal.returns-clause-fits
returns-clause-fits g c =
    let both = c.split_at_mut-cores in
    fit-all c.args.code.now c.args.nodes.now
    (split-met c.args.code.now c.args.nodes.now both.result.0.now both.result.1.now c.requires both.ensures.value
    (both.ensures.front_len ∙ c.cores.ensures.value ∙ search rules) c.look_at.ensures c.meet_all.ensures.met)
