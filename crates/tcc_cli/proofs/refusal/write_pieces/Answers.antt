use Rattle.std.proofs.Common.{rules, inr}
use Rattle.base_lemmas.proofs.Lemmas.{appends-none}
use Rattle.tcc_cli.proofs.Pieces.{cut_at, told_more}
use Rattle.tcc_cli.specs.Lines.{piece_text}
use Rattle.tcc_cli.proofs.refusal.write_pieces.Goals as goal
use Rattle.text_outcomes.proofs.Lemmas.{rose-later}

pub loop-piece-init : goal.loop-piece-init
loop-piece-init g c = search (rules, appends-none)

pub returns-in-Err : goal.returns-in-Err
returns-in-Err g c =
    let cut = c.in-Err.ensures.cut in
    inr
    (cut_at piece_text c.args.pieces.now c.loop-piece.piece-index cut.0 _ _ (g.S.Sink.page c.loop-piece.sink).bytes
    c.loop-piece-test.true c.loop-piece.invariant.written cut.1 cut.2
    (rose-later _ _ _ c.loop-piece.invariant.faults_stay cut.3))

pub loop-piece-preserved : goal.loop-piece-preserved
loop-piece-preserved g c = record {
  written = told_more piece_text c.args.pieces.now c.loop-piece.piece-index _ (g.S.Sink.page c.args.sink.now).bytes
      (g.S.Sink.page c.loop-piece.sink).bytes (g.S.Sink.page c.write_piece.new.sink).bytes c.loop-piece-test.true
      c.loop-piece.invariant.written
      c.in-Ok.ensures.written;
  faults_stay = search (rules, c.loop-piece.invariant.faults_stay, c.write_piece.ensures.faults_stay);
}
