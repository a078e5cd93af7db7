-- What is forgotten, all directories have passed.
use Rattle.std.proofs.Common.{subst, sym}
use Rattle.watch_run.specs.Forgetting.{StillKeeps}
use Rattle.watch_run.specs.Runs.{IsRunOf, RunData}
use Rattle.watch_run.proofs.Forgetting.{keeps-unpassed}
use Rattle.watch_run.proofs.Runs.{run-still}
use Rattle.watch_run.proofs.run.Run.forget.Goals as goal

still : (c : goal.After-forget) → StillKeeps c.self.inside.system c.forget.new.self
still c =
    let f = c.forget.ensures in
    keeps-unpassed c.self.inside.system c.forget.new.self f.forgot f.world f.unsent f.cores f.events

pub returns-clause-same : goal.returns-clause-same
returns-clause-same c = λ k n h.
    let run : RunData = record {
      machine = c.self.inside.system;
      counts = c.self.inside.counts;
      seed = c.self.inside.seed;
      drawn = c.self.inside.drawn;
    } in
    run-still run c.forget.new.self (still c) k n (subst (IsRunOf k n) (sym c.self.view_is) h)

pub returns-clause-still : goal.returns-clause-still
returns-clause-still c = subst (λ (r : RunData). StillKeeps r.machine c.forget.new.self) c.self.view_is (still c)
