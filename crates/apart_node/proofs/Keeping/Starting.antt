-- A node that has done nothing.
use Rattle.std.proofs.Common.{◌≡◌, false, List, [], ◌++◌, map, Option, Some, None, refl, ap, sym, arith}
use Rattle.std.specs.Prelude.{All, IfSome}
use Rattle.image_load.specs.Contents.{started}
use Rattle.rules_riscv.specs.Starting.{world_at_start}
use Rattle.tcc_base.specs.Settings.{Settings}
use Rattle.rules_maps.specs.Bridge.{node_of}
use Rattle.rules_maps.specs.Nodes.{Node}
use Rattle.tcc_msg.specs.Plain.{sends_of}
use Rattle.rules_tcc.specs.Local.{Side, local, mailed, side_start, state_at}
use Rattle.rules_apart.specs.Filled.{mail_of}
use Rattle.apart_member.specs.Data.{MemberData, state_of}
use Rattle.apart_node.specs.Node.{IsNode, IsRun, NodeData, last_from, sent_to}
use Rattle.apart_node.specs.Ports.{IsUnused, PortData, RoomData, port_to, sent_at}
use Rattle.apart_node.proofs.Porting.Pools.{all-at}
use Rattle.apart_node.proofs.Porting.Rooms.{found-at}

abbrev pub first_room : Settings → MemberData → List PortData → RoomData
first_room s m ports = record { settings = s; own = m.node; ports = ports; unsent = [] }

abbrev pub first_node : Settings → MemberData → List PortData → NodeData
first_node s m ports = record { member = m; log = []; room = first_room s m ports }

-- no port has sent anything
none-sent : (r : RoomData) (n : Node) (o : Option PortData) → port_to r n ≡ o → All IsUnused r.ports → sent_at o ≡ []
none-sent r n None e u = refl
none-sent r n (Some p) e u =
    let f = found-at r n p e in
    ap (map mail_of) (all-at IsUnused r.ports f.0 p u f.2).sent

module _ (s : Settings) (m : MemberData) (ports : List PortData) (u : All IsUnused ports)
    (start : state_of m ≡ state_at (world_at_start (started m.code)) (node_of m.node)) where
  side : Side
  side = side_start (state_at (world_at_start (started m.code)) (node_of m.node))

  nothing-sent : (dst : Node) → side.sent dst ≡ sent_to (first_node s m ports) dst
  unfolding side side_start mailed sends_of
  nothing-sent dst =
      sym (ap (λ l. l ++ []) (none-sent (first_room s m ports) dst (port_to (first_room s m ports) dst) refl u))

  all-fresh : (src : Node) (o : Option PortData) → IfSome o (λ p. All (λ e. side.gone src e.0 ≡ false) p.pool)
  unfolding side side_start
  all-fresh src None = tt
  all-fresh src (Some p) = λ k d l. refl

  first-run : IsRun (first_node s m ports) side
  unfolding side side_start local
  first-run = record {
    run = refl;
    state = sym start;
    sent = nothing-sent;
    fresh = λ src. all-fresh src (port_to (first_room s m ports) src);
    ahead = λ src k l. refl;
  }

  pub starts : s ≡ m.code.settings → m.done ≡ 0 → IsNode (first_node s m ports)
  unfolding last_from
  starts e z = record {
    side = side;
    run = first-run;
    stored = λ k d l. absurd (omega (arith, l));
    rises = tt;
    stamps = omega arith;
    done = z;
    few = omega arith;
    settings = e;
    own = refl;
  }
