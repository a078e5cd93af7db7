use Rattle.std.proofs.Common.{◌∙◌}
use Rattle.serial_tool.proofs.HeadReading.{head-read, no-last, no-version, other-version}
use Rattle.serial_tool.proofs.restoring.read_head.Goals as goal

pub returns-in_default-clause-refused : goal.returns-in_default-clause-refused
returns-in_default-clause-refused c = no-version c.args.bytes.now c.in_default.ensures.read

pub returns-then-one-ne1-clause-refused : goal.returns-then-one-ne1-clause-refused
returns-then-one-ne1-clause-refused c =
    other-version c.args.bytes.now c.read_row.new.numbers c.in-Some.rest.now c.in-Some.ensures.read c.if-one-ne1.true

pub returns-in-Some-read_row-clause-read : goal.returns-in-Some-read_row-clause-read
returns-in-Some-read_row-clause-read c =
    head-read c.args.bytes.now c.read_row.new.numbers c.in-Some.rest.now c.read_row-2.new.numbers c.in-Some-read_row.rest.now
    c.in-Some.ensures.length c.if-one-ne1.false (c.in-Some-read_row.ensures.length ∙ c.in-Some.ensures.length) c.in-Some.ensures.read
    c.in-Some-read_row.ensures.read

pub returns-in-None-clause-refused : goal.returns-in-None-clause-refused
returns-in-None-clause-refused c =
    no-last c.args.bytes.now c.read_row.new.numbers c.in-Some.rest.now c.in-Some.ensures.read
    (rw c.in-Some.ensures.length at c.in-None.ensures.read)
