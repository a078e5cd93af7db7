-- The tree was changed at the name alone, so the map is the old one with this name set.
use Rattle.std.proofs.Common.{string_bytes, refl}
use Rattle.std.proofs.lemmas.Map.Text.{btree_map_updates_text}
use Rattle.tcc_world.proofs.Files.{from_tree-set}
use Rattle.tcc_world.proofs.map_store.MapStore.hold.Goals as goal

pub returns-clause-set : goal.returns-clause-set
returns-clause-set c =
    let sets =
    btree_map_updates_text (string_bytes c.in_ok-name.name) c.self.inside.files c.insert.new.self _ c.in_ok-insert.ensures.updates in
    let same = from_tree-set string_bytes (λ v. v.items) c.self.inside.files.entries c.insert.new.self.entries
    (string_bytes c.in_ok-name.name) c.in_ok-bytes.bytes sets in
    let set = rw (c.in_ok-name.ensures.ok, c.in_ok-bytes.ensures.items) at same in
    rw (← c.self.view_is, set) refl
