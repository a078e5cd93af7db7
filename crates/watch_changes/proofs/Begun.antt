-- The lines that tell all records where a window begins, node by node.
use Rattle.std.proofs.Common.{◌≡◌, ℕ, List, [], ◌∷◌, ◌++◌, map}
use Rattle.std.proofs.Common.{append-nil, append_assoc, refl, ap, sym, ◌∙◌}
use Rattle.std.specs.Prelude.{codes}
use Rattle.std.specs.List.{flat_map}
use Rattle.std.proofs.lemmas.List.Concat.{flat_map-append}
use Rattle.std.proofs.lemmas.List.Folds.{flat_map-map}
use Rattle.image_load.specs.Start.{Start, first_ram}
use Rattle.rules_maps.specs.Nodes.{Node, Core, Dir, Vendor}
use Rattle.rules_tcc.specs.Seen.{numbers}
use Rattle.rules_tcc.specs.State.{World}
use Rattle.rules_tcc.specs.Useful.{nodes}
use Rattle.watch_state.specs.Records as plain
use Rattle.watch_state.specs.Lines.{led_lines, record_line}
use Rattle.watch_state.specs.Text.{node_records, records_from, state_records}
use Rattle.watch_changes.specs.Changes.{all_lines, change_line, change_lines, changes}
use Rattle.watch_changes.specs.Nodes.{records_at}
use Rattle.watch_changes.proofs.Beginning.{nodes-by-node, told-append}
use Rattle.watch_changes.proofs.Told.{changes-from-none}

-- records with a space before each line are told
led-all : (rs : List plain.Record) → led_lines (codes " ") rs ≡ all_lines rs
unfolding led_lines change_lines change_line
led-all [] = refl
led-all (r ∷ rs) = ap (λ t. (codes " " ++ record_line r) ++ t) (led-all rs)

led-told : (rs : List plain.Record) → led_lines (codes " ") rs ≡ change_lines (changes [] rs)
led-told rs = led-all rs ∙ ap change_lines (sym (changes-from-none rs))

-- with the messages behind them, the lines of all nodes are those of all records
pub told-all : (s : Start) (w : World) (text of_cores of_dirs of_vendor all : List ℕ)
    → of_cores ≡ text ++ flat_map (λ c. all_lines (records_at s.settings (first_ram s) w (Core c))) (numbers s.settings.cores)
    → of_dirs ≡ of_cores ++ flat_map (λ d. all_lines (records_at s.settings (first_ram s) w (Dir d))) (numbers s.settings.dirs)
    → of_vendor ≡ of_dirs ++ all_lines (records_at s.settings (first_ram s) w Vendor)
    → all ≡ of_vendor ++ led_lines (codes " ") (flat_map (records_from s.settings w) (nodes s.settings))
    → all ≡ text ++ change_lines (changes [] (state_records s w))
unfolding nodes state_records
told-all s w text of_cores of_dirs of_vendor all c d v f =
    let sh = s.settings in
    let at : Node → List plain.Record = records_at sh (first_ram s) w in
    let g : Node → List ℕ = λ n. change_lines (changes [] (at n)) in
    let same : (n : Node) → all_lines (at n) ≡ g n = λ n. ap change_lines (sym (changes-from-none (at n))) in
    let cs = flat_map (λ k. all_lines (at (Core k))) (numbers sh.cores) in
    let ds = flat_map (λ k. all_lines (at (Dir k))) (numbers sh.dirs) in
    let vs = all_lines (at Vendor) in
    let flights = flat_map (records_from sh w) (nodes sh) in
    let by_core : cs ≡ flat_map g (map Core (numbers sh.cores)) =
    (λ i. flat_map (λ k. same (Core k) i) (numbers sh.cores)) ∙ sym (flat_map-map g Core (numbers sh.cores)) in
    let by_dir : ds ≡ flat_map g (map Dir (numbers sh.dirs)) =
    (λ i. flat_map (λ k. same (Dir k) i) (numbers sh.dirs)) ∙ sym (flat_map-map g Dir (numbers sh.dirs)) in
    let by_vendor : vs ≡ flat_map g (Vendor ∷ []) = same Vendor ∙ sym (append-nil (g Vendor)) in
    let by_node : of_vendor ≡ text ++ change_lines (changes [] (node_records sh (first_ram s) w)) =
    v ∙ ap (λ t. t ++ vs) d ∙ ap (λ t. (t ++ ds) ++ vs) c
    ∙ append_assoc (text ++ cs) ds vs ∙ append_assoc text cs (ds ++ vs)
    ∙ (λ i. text ++ (by_core i ++ (by_dir i ++ by_vendor i)))
    ∙ ap (λ t. text ++ t)
    (sym (flat_map-append g (map Core (numbers sh.cores)) (map Dir (numbers sh.dirs) ++ Vendor ∷ [])
    ∙ ap (λ t. flat_map g (map Core (numbers sh.cores)) ++ t) (flat_map-append g (map Dir (numbers sh.dirs)) (Vendor ∷ []))))
    ∙ ap (λ t. text ++ t) (sym (nodes-by-node sh (first_ram s) w)) in
    f ∙ (λ i. by_node i ++ led-told flights i)
    ∙ append_assoc text (change_lines (changes [] (node_records sh (first_ram s) w))) (change_lines (changes [] flights))
    ∙ ap (λ t. text ++ t) (sym (told-append (node_records sh (first_ram s) w) flights))
