-- A line of memory.
use Rattle.std.proofs.Common.{◌∙◌}
use Rattle.bus_tcc.specs.Machine.{bus_world_of}
use Rattle.bus_tool.proofs.Shown.{line-shown}
use Rattle.bus_tool.proofs.memory.CommittedShownWords.line.Goals as goal

pub returns : goal.returns
returns c = c.line.ensures ∙ line-shown (bus_world_of c.args.self.now.bus.now).ram c.args.line.0
