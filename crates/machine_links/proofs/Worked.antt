-- The definitions computed: one core and one directory, three messages on two links, of which two are marked.
use Rattle.std.proofs.Common.{◌≡◌, true, false, [], ◌∷◌, Some, None, refl}
use Rattle.rules_maps.specs.Words.{those}
use Rattle.rules_maps.specs.Nodes.{Core, Dir, Vendor, Deliver}
use Rattle.rules_maps.specs.Nodes as plain
use Rattle.tcc_msg.specs.declared.msg.Msg.TheVariants.{TidReq, Skip}
use Rattle.machine_links.specs.Lane.{Lane, message, is_marked}
use Rattle.machine_links.specs.Places.{place}
use Rattle.machine_links.specs.Flights.{Flights, lane, net_of, is_ready, nodes_of, ready_on, ready_list}

-- two skips from the core to the directory after one that is consumed, the second of them marked, and a marked request to the vendor
skips : Lane
skips =
    None
    ∷ Some (record { msg = Skip (record { 0 = 7 }); ready = false })
    ∷ Some (record { msg = Skip (record { 0 = 8 }); ready = true })
    ∷ []

asks : Lane
asks = Some (record { msg = TidReq; ready = true }) ∷ []

three : Flights
three = record { cores = 1; dirs = 1; lanes = [] ∷ skips ∷ asks ∷ [] ∷ [] ∷ [] ∷ [] ∷ [] ∷ [] ∷ []; index = [] }

links : net_of three (Core 0) (Dir 0) ≡ None ∷ Some (plain.Skip 7) ∷ Some (plain.Skip 8) ∷ []
unfolding three skips net_of lane place message
links = refl

listed : ready_list three ≡ Deliver (Core 0) (Dir 0) 2 ∷ Deliver (Core 0) Vendor 0 ∷ []
unfolding three skips asks net_of lane place message is_marked is_ready nodes_of ready_on ready_list those
listed = refl
