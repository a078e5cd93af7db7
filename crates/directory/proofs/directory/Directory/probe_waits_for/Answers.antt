use Rattle.std.proofs.Common.{ap, sym, ◌∙◌}
use borrow.Author.Tests.{lt-ltb}
use Rattle.directory.specs.Data.{dir_of}
use Rattle.directory.specs.Gives.{is_taken}
use Rattle.directory.proofs.RuleCases.{probe-early}
use Rattle.directory.proofs.Staying.{probe-holds}
use Rattle.directory.proofs.directory.Directory.probe_waits_for.Goals as goal

pub returns : goal.returns
returns c = λ e k. record {
  none = sym c.if-takes_probe.false ∙ c.takes_probe.ensures e k;
  holds = probe-holds k c.args.tid.0 (dir_of e c.args.self.now) (sym (c.takes_probe.ensures e k) ∙ c.if-takes_probe.false);
  stays = λ n h. ap is_taken (probe-early k c.args.tid.0 n (lt-ltb n.serving.serving c.args.tid.0 h));
}
