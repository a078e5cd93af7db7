-- One message after another goes onto its link.
use Rattle.std.proofs.Common.{refl, arith}
use Rattle.apart_node.specs.Moves.{Stands}
use Rattle.apart_node.proofs.Porting.SeveralMoves.{room-refl, stands-refl}
use Rattle.apart_node.proofs.room.Mailroom.flush.Goals as goal

pub loop-init : goal.loop-init
loop-init g c = record { room = room-refl (λ n. Stands) c.args.self.now (λ n. stands-refl); sent = λ dst. refl; left = omega arith }
