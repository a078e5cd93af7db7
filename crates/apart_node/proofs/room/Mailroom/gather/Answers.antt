-- What has arrived is taken from the links.
use Rattle.std.proofs.Common.{◌≡◌, length, subst, arith}
use Rattle.std.proofs.lemmas.List.{with_items_is}
use Rattle.apart_node.specs.Moves.{AtEach, Takes}
use Rattle.apart_node.specs.RoomInside.{room_of}
use Rattle.apart_node.proofs.Porting.Rooms.{gathered-room, gathered-sent, gathered-whole}
use Rattle.apart_node.proofs.room.Mailroom.gather.Goals as goal

pub invariant_of-self : goal.invariant_of-self
invariant_of-self g c =
    let ports = c.gather_rung.new.ports in
    let t = subst (λ l. AtEach Takes l ports) c.as_mut_slice.ensures.value c.gather_rung.ensures.takes in
    let n : length ports ≡ c.self.inside.ports.len = omega arith in
    record {
      placed = c.self.invariant.placed;
      room = rw (with_items_is c.self.inside.ports ports n) (gathered-whole (room_of c.self.inside) ports t c.self.invariant.room);
      tally = rw (with_items_is c.self.inside.ports ports n) c.gather_rung.ensures.tallied;
    }

pub returns-clause-room : goal.returns-clause-room
returns-clause-room g c =
    let ports = c.gather_rung.new.ports in
    let t = subst (λ l. AtEach Takes l ports) c.as_mut_slice.ensures.value c.gather_rung.ensures.takes in
    let n : length ports ≡ c.self.inside.ports.len = omega arith in
    rw (← c.self.view_is, with_items_is c.self.inside.ports ports n) (gathered-room (room_of c.self.inside) ports t)

pub returns-clause-sent : goal.returns-clause-sent
returns-clause-sent g c = λ stamp dst.
    let ports = c.gather_rung.new.ports in
    let t = subst (λ l. AtEach Takes l ports) c.as_mut_slice.ensures.value c.gather_rung.ensures.takes in
    let n : length ports ≡ c.self.inside.ports.len = omega arith in
    rw (← c.self.view_is, with_items_is c.self.inside.ports ports n) (gathered-sent (room_of c.self.inside) ports t stamp dst)
