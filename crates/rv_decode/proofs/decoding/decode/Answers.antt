-- The function of the fields is the table, both ways.
use Rattle.std.proofs.Common.{Option, IfSome, subst, sym, ◌∙◌, arith}
use Rattle.rv_decode.specs.declared.instruction.Inst.{Inst}
use Rattle.rv_decode.specs.Table.{Encodes}
use Rattle.rv_decode.proofs.Writing.{decoded-encoding}
use Rattle.rv_decode.proofs.Reading.{Encodes-decoded}
use Rattle.rv_decode.proofs.decoding.decode.Goals as goal

pub returns-clause-row : goal.returns-clause-row
returns-clause-row c =
    subst (λ (i : Option Inst). IfSome i (Encodes c.args.word)) (sym c.by_opcode.ensures) (Encodes-decoded c.args.word (omega arith))

pub returns-clause-only : goal.returns-clause-only
returns-clause-only c = λ inst e. c.by_opcode.ensures ∙ decoded-encoding c.args.word inst e
