-- The tree has at the name what the map has there.
use Rattle.std.proofs.Common.{ℕ, Vec, Global, Some, string_bytes, option_map, ap, sym, ◌∙◌}
use Rattle.std.specs.FinMap as by_name
use Rattle.tcc_world.proofs.Files.{get-from_tree}
use Rattle.tcc_world.proofs.map_store.MapStore.get.Goals as goal

pub returns-in-Some : goal.returns-in-Some
returns-in-Some c =
    ap (λ x. Some x) c.as_slice.ensures.value
    ∙ ap (option_map (λ (v : Vec ℕ Global). v.items)) c.in-Some.ensures.value
    ∙ sym (get-from_tree string_bytes (λ v. v.items) c.args.name.now c.self.inside.files.entries)
    ∙ ap (λ s. by_name.get s.files c.args.name.now) c.self.view_is

pub returns-in-None : goal.returns-in-None
returns-in-None c =
    ap (option_map (λ (v : Vec ℕ Global). v.items)) c.in-None.ensures.value
    ∙ sym (get-from_tree string_bytes (λ v. v.items) c.args.name.now c.self.inside.files.entries)
    ∙ ap (λ s. by_name.get s.files c.args.name.now) c.self.view_is
