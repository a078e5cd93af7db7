use Rattle.tcc_cli.proofs.Pieces.{told_same, fault_pieces}
use Rattle.tcc_cli.specs.Refusals.{line_of}
use Rattle.tcc_cli.specs.declared.refusal.Refusal.TheVariants.{Image}
use Rattle.tcc_cli.proofs.refusal.write_fault.Goals as goal

pub returns : goal.returns
returns g c =
    told_same _ (line_of (Image c.args.fault.now)) (record {
      before = g.S.Sink.page c.args.sink.now;
      after = g.S.Sink.page
          c.write_pieces.new.sink;
    }) (fault_pieces c.args.fault.now c.reader_word.result.now c.reader_word.ensures) c.write_pieces.ensures
