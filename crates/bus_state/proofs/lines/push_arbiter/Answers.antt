-- Piece after piece.
use Rattle.std.proofs.Common.{codes, string_bytes}
use Rattle.schedule_text.specs.Grammar.{newline}
use Rattle.watch_trace.specs.Words.{field}
use Rattle.bus_state.specs.Lines.{bus_record_line, holding_words}
use Rattle.bus_state.specs.Plain.{holding_of}
use Rattle.bus_state.proofs.Pieces.{ended}
use Rattle.bus_state.proofs.lines.push_arbiter.Goals as goal

pub returns : goal.returns
unfolding bus_record_line
returns c =
    ended c.push_str.result (string_bytes c.args.text.now) (string_bytes c.push_field.new.text) (string_bytes c.push_holding.new.text)
    (string_bytes c.push_str.new.self) (field (codes "arbiter next ") c.args.next.0) (holding_words (holding_of c.args.holding)) newline
    c.in_ok-push_field.ensures c.in_ok-push_holding.ensures c.push_str.ensures.bytes
