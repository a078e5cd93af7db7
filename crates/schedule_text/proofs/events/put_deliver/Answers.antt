use Rattle.std.proofs.Common.{arith}
use Rattle.std.specs.Fmt.{decimal}
use Rattle.schedule_text.specs.Grammar.{node_word, event_line}
use Rattle.schedule_text.proofs.Ascii.{three_words}
use Rattle.schedule_text.proofs.events.put_deliver.Goals as goal

pub returns-clause-ascii : goal.returns-clause-ascii
unfolding event_line
returns-clause-ascii c =
    let name = c.args.name.now in
    three_words 100 (node_word name.src) (node_word name.dst) (decimal name.seq) (omega arith)
    c.put_node_field-at-2.ensures.ascii c.put_node_field-at.ensures.ascii c.put_field-at.ensures.ascii
