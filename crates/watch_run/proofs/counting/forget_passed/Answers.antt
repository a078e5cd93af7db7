-- What is forgotten, all directories have passed.
use Rattle.watch_run.proofs.Forgetting.{keeps-unpassed}
use Rattle.watch_run.proofs.counting.forget_passed.Goals as goal

pub returns : goal.returns
returns c =
    let f = c.forget.ensures in
    keeps-unpassed c.args.system.now c.forget.new.self f.forgot f.world f.unsent f.cores f.events
