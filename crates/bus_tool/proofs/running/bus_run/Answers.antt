-- A machine that took what a seed picks from its start.
use Rattle.bus_tool.proofs.Ran.{ran-by-seed}
use Rattle.bus_tool.proofs.running.bus_run.Goals as goal

pub returns-clause-ran : goal.returns-clause-ran
returns-clause-ran c =
    ran-by-seed c.args.loaded.now c.in_ok-bus.bus c.take_picked.new.bus c.seed_from_u64-words.result c.args.seed c.args.steps
    c.in_ok-bus.ensures.code c.in_ok-bus.ensures.start c.in_ok-bus.ensures.events c.seed_from_u64-words.ensures
    c.in_ok-take_picked.ensures c.commits.ensures.refined
