-- A word of the table decodes to its instruction.
use Rattle.rv_decode.proofs.Writing.{decoded-encoding}
use Rattle.rv_decode.proofs.encoding.encode.Goals as goal

pub returns-clause-back : goal.returns-clause-back
returns-clause-back c =
    decoded-encoding c.table_word.result c.args.inst
    (record { registers = c.table_word.ensures.registers; range = c.requires; row = c.table_word.ensures.row })
