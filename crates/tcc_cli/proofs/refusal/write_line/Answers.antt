use Rattle.std.proofs.Common.{ap, sym, ◌∙◌}
use Rattle.tcc_cli.proofs.Pieces.{told_same, schedule_pieces, value_pieces, store_pieces, words_piece, output_piece, memory_piece}
use Rattle.tcc_cli.specs.Refusals.{line_of}
use Rattle.tcc_cli.proofs.refusal.write_line.Goals as goal

pub returns-in-Words : goal.returns-in-Words
returns-in-Words g c =
    told_same _ (line_of c.args.refusal.now) (record {
      before = g.S.Sink.page c.args.sink.now;
      after = g.S.Sink.page c.write_pieces.new.sink;
    })
    (words_piece ∙ ap line_of (sym c.in-Words.is)) c.write_pieces.ensures

pub returns-in-Value : goal.returns-in-Value
returns-in-Value g c =
    told_same _ (line_of c.args.refusal.now) (record {
      before = g.S.Sink.page c.args.sink.now;
      after = g.S.Sink.page c.write_pieces-in-Value.new.sink;
    })
    (value_pieces c.in-Value.field c.word.result.now c.word.ensures ∙ ap line_of (sym c.in-Value.is)) c.write_pieces-in-Value.ensures

pub returns-in-Image : goal.returns-in-Image
returns-in-Image g c =
    told_same _ (line_of c.args.refusal.now) (record {
      before = g.S.Sink.page c.args.sink.now;
      after = g.S.Sink.page c.write_fault.new.sink;
    })
    (ap line_of (sym c.in-Image.is)) c.write_fault.ensures

pub returns-in-Schedule : goal.returns-in-Schedule
returns-in-Schedule g c =
    told_same _ (line_of c.args.refusal.now) (record {
      before = g.S.Sink.page c.args.sink.now;
      after = g.S.Sink.page c.write_pieces-in-Schedule.new.sink;
    })
    (schedule_pieces c.in-Schedule.line ∙ ap line_of (sym c.in-Schedule.is)) c.write_pieces-in-Schedule.ensures

pub returns-in-Store : goal.returns-in-Store
returns-in-Store g c =
    told_same _ (line_of c.args.refusal.now) (record {
      before = g.S.Sink.page c.args.sink.now;
      after = g.S.Sink.page c.write_pieces-in-Store.new.sink;
    })
    (store_pieces c.in-Store.name ∙ ap line_of (sym c.in-Store.is)) c.write_pieces-in-Store.ensures

pub returns-in-Output : goal.returns-in-Output
returns-in-Output g c =
    told_same _ (line_of c.args.refusal.now) (record {
      before = g.S.Sink.page c.args.sink.now;
      after = g.S.Sink.page c.write_pieces-in-Output.new.sink;
    })
    (output_piece ∙ ap line_of (sym c.in-Output.is)) c.write_pieces-in-Output.ensures

pub returns-in-Memory : goal.returns-in-Memory
returns-in-Memory g c =
    told_same _ (line_of c.args.refusal.now) (record {
      before = g.S.Sink.page c.args.sink.now;
      after = g.S.Sink.page c.write_pieces-in-Memory.new.sink;
    })
    (memory_piece ∙ ap line_of (sym c.in-Memory.is)) c.write_pieces-in-Memory.ensures
