use Rattle.std.proofs.Common.{◌≤◌, take}
use Rattle.std.specs.List.{flat_map}
use Rattle.tcc_cli.specs.Lines.{piece_text}
use Rattle.std.specs.Io.KnownBytes.{Appends}
use Rattle.tcc_cli.proofs.refusal.write_pieces.Given as goal

abbrev pub invariant-loop-piece : goal.invariant-loop-piece
invariant-loop-piece g l = record {
  written : Appends (g.S.Sink.page l.fn.sink).bytes (g.S.Sink.page l.sink).bytes (flat_map piece_text (take l.piece-index l.pieces));
  faults_stay : (g.S.Sink.page l.fn.sink).faults ≤ (g.S.Sink.page l.sink).faults;
}
