-- The records where a window begins are told node by node.
use Rattle.std.proofs.Common.{◌≡◌, ℕ, List, [], ◌∷◌, ◌++◌, append-nil, map, refl, ap, sym, ◌∙◌}
use Rattle.std.specs.List.{flat_map}
use Rattle.std.proofs.lemmas.List.Concat.{flat_map-append}
use Rattle.std.proofs.lemmas.List.Folds.{flat_map-map}
use Rattle.image_load.specs.Start.{Start, first_ram}
use Rattle.rules_maps.specs.Nodes.{Node, Core, Dir, Vendor}
use Rattle.rules_maps.specs.Shape.{Shape}
use Rattle.rules_tcc.specs.Seen.{numbers}
use Rattle.rules_tcc.specs.State.{World}
use Rattle.rules_tcc.specs.Useful.{nodes}
use Rattle.watch_state.specs.Cores.{core_records}
use Rattle.watch_state.specs.Directories.{directory_records}
use Rattle.watch_state.specs.Records.{Record, VendorIs}
use Rattle.watch_state.specs.Text.{node_records, records_from, state_records}
use Rattle.watch_changes.specs.Changes.{Told, all_told, change_lines, changes}
use Rattle.watch_changes.specs.Nodes.{records_at}
use Rattle.watch_changes.proofs.Told.{changes-from-none, lines-append, no-lines}

-- all records told
abbrev told : List Record → List ℕ
told rs = change_lines (changes [] rs)

all-append : (rs ss : List Record) → all_told (rs ++ ss) ≡ all_told rs ++ all_told ss
all-append [] ss = refl
all-append (r ∷ rs) ss = ap (λ cs. Told r ∷ cs) (all-append rs ss)

pub told-append : (rs ss : List Record) → told (rs ++ ss) ≡ told rs ++ told ss
told-append rs ss =
    ap (λ cs. change_lines cs) (changes-from-none (rs ++ ss) ∙ all-append rs ss) ∙ lines-append (all_told rs) (all_told ss)
    ∙ (λ i. change_lines (sym (changes-from-none rs) i) ++ change_lines (sym (changes-from-none ss) i))

told-none : told [] ≡ []
told-none = ap (λ cs. change_lines cs) (changes-from-none []) ∙ no-lines

told-flat : {A : Type 0} (f : A → List Record) (ns : List A) → told (flat_map f ns) ≡ flat_map (λ k. told (f k)) ns
told-flat f [] = told-none
told-flat f (n ∷ ns) = told-append (f n) (flat_map f ns) ∙ ap (λ t. told (f n) ++ t) (told-flat f ns)

-- of all nodes
pub nodes-by-node : (sh : Shape) (first : ℕ → ℕ) (w : World)
    → change_lines (changes [] (node_records sh first w))
    ≡ flat_map (λ n. change_lines (changes [] (records_at sh first w n))) (nodes sh)
unfolding node_records records_at nodes
nodes-by-node sh first w =
    let g : Node → List ℕ = λ n. told (records_at sh first w n) in
    let cores : ℕ → List Record = λ c. core_records sh c (w.cores c) in
    let dirs : ℕ → List Record = λ d. directory_records sh first d (w.dirs d) in
    let cs = numbers sh.cores in
    let ds = numbers sh.dirs in
    let vendor : List Record = VendorIs w.next ∷ [] in
    let of_cores : told (flat_map cores cs) ≡ flat_map g (map (λ c. Core c) cs) =
    told-flat cores cs ∙ sym (flat_map-map g (λ c. Core c) cs) in
    let of_dirs : told (flat_map dirs ds) ≡ flat_map g (map (λ d. Dir d) ds) =
    told-flat dirs ds ∙ sym (flat_map-map g (λ d. Dir d) ds) in
    let of_vendor : told vendor ≡ flat_map g (Vendor ∷ []) = sym (append-nil (told vendor)) in
    told-append (flat_map cores cs) (flat_map dirs ds ++ vendor)
    ∙ ap (λ t. told (flat_map cores cs) ++ t) (told-append (flat_map dirs ds) vendor)
    ∙ (λ i. of_cores i ++ (of_dirs i ++ of_vendor i))
    ∙ sym (flat_map-append g (map (λ c. Core c) cs) (map (λ d. Dir d) ds ++ Vendor ∷ [])
    ∙ ap (λ t. flat_map g (map (λ c. Core c) cs) ++ t) (flat_map-append g (map (λ d. Dir d) ds) (Vendor ∷ [])))

-- and of all messages
pub begins-by-node : (s : Start) (w : World)
    → change_lines (changes [] (state_records s w))
    ≡ flat_map (λ n. change_lines (changes [] (records_at s.settings (first_ram s) w n))) (nodes s.settings)
    ++ flat_map (λ n. change_lines (changes [] (records_from s.settings w n))) (nodes s.settings)
unfolding state_records
begins-by-node s w =
    told-append (node_records s.settings (first_ram s) w) (flat_map (records_from s.settings w) (nodes s.settings))
    ∙ (λ i. nodes-by-node s.settings (first_ram s) w i ++ told-flat (records_from s.settings w) (nodes s.settings) i)
