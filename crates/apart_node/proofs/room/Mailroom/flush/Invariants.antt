-- What stands on the links so far.
use Rattle.std.proofs.Common.{◌≡◌, ◌+◌, length}
use Rattle.apart_node.specs.Moves.{Room, SameSent, Stands}
use Rattle.apart_node.proofs.room.Mailroom.flush.Given as goal

abbrev pub invariant-loop : goal.invariant-loop
invariant-loop g l = record {
  room : Room (λ peer. Stands) l.initial.self l.self;
  sent : SameSent l.stamp l.initial.self l.self;
  left : l.counter + length l.self.unsent ≡ l.end;
}
