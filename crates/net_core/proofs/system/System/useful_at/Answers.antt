-- The part of the list that the number falls into.
use Rattle.std.proofs.Common.{ap, ◌∙◌, arith}
use Rattle.std.specs.Option.{option_map}
use Rattle.tcc_msg.specs.Plain.{event_of}
use Rattle.net_core.proofs.Useful.Listed.{at-evicts, at-execs, at-ready}
use Rattle.net_core.proofs.system.System.useful_at.Goals as goal

pub returns-then-k-execs : goal.returns-then-k-execs
returns-then-k-execs c = at-execs _ c.args.self.now c.args.k c.self.invariant c.self.view_is c.requires _ c.exec_at.ensures (omega arith)

pub returns-then-k-execs-2 : goal.returns-then-k-execs-2
returns-then-k-execs-2 c =
    at-evicts _ c.args.self.now c.args.k c.self.invariant c.self.view_is c.requires _ _ c.evict_at.ensures (omega arith) (omega arith)

pub returns-in_err-name : goal.returns-in_err-name
returns-in_err-name c =
    ap (option_map event_of) c.from_residual.ensures
    ∙ at-ready _ c.args.self.now c.args.k c.self.invariant c.self.view_is c.requires _ _ c.in_err-name.ensures (omega arith)

pub returns : goal.returns
returns c =
    at-ready _ c.args.self.now c.args.k c.self.invariant c.self.view_is c.requires _ _ c.in_ok-name.ensures (omega arith)
