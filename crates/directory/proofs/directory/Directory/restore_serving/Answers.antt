use Rattle.std.proofs.Common.{ap}
use Rattle.directory.specs.Data.{dir_of}
use Rattle.directory.specs.Restored.{restored_serving}
use Rattle.directory.proofs.directory.Directory.restore_serving.Goals as goal

pub returns-clause-restored : goal.returns-clause-restored
unfolding dir_of restored_serving
returns-clause-restored c = λ e. ap (λ d. restored_serving c.args.skips c.args.owed (dir_of e d)) c.self.view_is
