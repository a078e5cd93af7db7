-- The useful events of a machine's cores, core by core.
use Rattle.std.proofs.Common.{◌≡◌, ℕ, ◌<◌, Bool, true, List, map, Option, Some, None, is_some, refl, ap, sym, ◌∙◌, arith}
use Rattle.std.specs.Prelude.{nat_lt}
use Rattle.std.specs.List.{filter, flat_map}
use Rattle.std.proofs.lemmas.Bool.Decides.{nat_tests}
use Rattle.base_lemmas.proofs.Lemmas.{and-true, filter-flat, filter-map, map-map, those-same}
use Rattle.rules_program.specs.Program.{Program}
use Rattle.rules_maps.specs.Nodes.{Event, Exec, Evict}
use Rattle.rules_maps.specs.Shape.{Shape}
use Rattle.rules_maps.specs.Words.{those}
use Rattle.rules_tcc.specs.Attempt.{Out}
use Rattle.rules_tcc.specs.CoreEvict.{core_evict}
use Rattle.rules_tcc.specs.CoreExec.{core_exec}
use Rattle.rules_tcc.specs.Seen.{numbers}
use Rattle.rules_tcc.specs.State.{World}
use Rattle.rules_tcc.specs.Step.{is_enabled, if_core_moves, names_nodes, happens, step}
use Rattle.rules_tcc.specs.Useful.{evicts, execs, is_useful}
use Rattle.core_node.specs.Useful.{evict_is_useful, useful_evicts}
use Rattle.core_node.proofs.Evictions.{by_set}
use Rattle.core_node.proofs.Listed.{filter-numbers, flat-same, map-flat}

below : (k n : ℕ) → k < n → nat_lt k n ≡ true
below k n l = grind (arith, nat_tests)

pub is_moved : (w : World) (c : ℕ) (o : Option Out) → is_some (if_core_moves w c o) ≡ is_some o
is_moved w c None = refl
is_moved w c (Some o) = refl

-- an Exec of a core that exists is useful where the core may execute
exec-useful : (sh : Shape) (p : Program) (w : World) (c : ℕ) → c < sh.cores
    → is_useful sh p w (Exec c) ≡ is_some (core_exec sh p c (w.cores c))
unfolding is_useful is_enabled step names_nodes happens
exec-useful sh p w c l =
    rw (below c sh.cores l) (rw (is_moved w c (core_exec sh p c (w.cores c))) (and-true (is_some (core_exec sh p c (w.cores c)))))

-- an Evict of a core, set and way that exist is useful where it is one of the core's
evict-useful : (sh : Shape) (p : Program) (w : World) (c x y : ℕ) → c < sh.cores → x < sh.sets → y < sh.ways
    → is_useful sh p w (Evict c x y) ≡ evict_is_useful sh p (w.cores c) x y
unfolding is_useful is_enabled step names_nodes happens evict_is_useful
evict-useful sh p w c x y l m n =
    rw (below c sh.cores l, below x sh.sets m, below y sh.ways n) (rw (is_moved w c (core_evict sh x y (w.cores c))) refl)

-- the useful Execs, by core
pub useful-execs : (sh : Shape) (p : Program) (w : World)
    → filter (is_useful sh p w) (execs sh) ≡ map Exec (those (λ c. is_some (core_exec sh p c (w.cores c))) sh.cores)
unfolding execs
useful-execs sh p w =
    filter-map (is_useful sh p w) Exec (numbers sh.cores)
    ∙ ap (map Exec) (filter-numbers (λ c. is_useful sh p w (Exec c)) sh.cores ∙ those-same _ _ sh.cores (exec-useful sh p w))

-- the evictions of one core
abbrev evicts_of : Shape → ℕ → List Event
evicts_of sh c = flat_map (λ x. map (λ y. Evict c x y) (numbers sh.ways)) (numbers sh.sets)

useful-evicts_of : (sh : Shape) (p : Program) (w : World) (c : ℕ) → c < sh.cores
    → filter (is_useful sh p w) (evicts_of sh c) ≡ map (λ q. Evict c q.0 q.1) (useful_evicts sh p (w.cores c))
useful-evicts_of sh p w c l =
    let found : (x y : ℕ) → Bool = evict_is_useful sh p (w.cores c) in
    filter-flat (is_useful sh p w) (λ x. map (λ y. Evict c x y) (numbers sh.ways)) (numbers sh.sets)
    ∙ flat-same _ (λ x. map (λ q. Evict c q.0 q.1) (map (λ y. (x, y)) (those (found x) sh.ways))) sh.sets
    (λ x m. filter-map (is_useful sh p w) (λ y. Evict c x y) (numbers sh.ways)
    ∙ ap (map (λ y. Evict c x y)) (filter-numbers (λ y. is_useful sh p w (Evict c x y)) sh.ways
    ∙ those-same _ (found x) sh.ways (λ y n. evict-useful sh p w c x y l m n))
    ∙ sym (map-map (λ q. Evict c q.0 q.1) (λ y. (x, y)) (those (found x) sh.ways)))
    ∙ sym (map-flat (λ q. Evict c q.0 q.1) (λ x. map (λ y. (x, y)) (those (found x) sh.ways)) (numbers sh.sets))
    ∙ sym (ap (map (λ q. Evict c q.0 q.1)) (by_set sh p (w.cores c)))

-- the useful Evicts, by core
pub useful-evicts : (sh : Shape) (p : Program) (w : World)
    → filter (is_useful sh p w) (evicts sh) ≡ flat_map (λ c. map (λ q. Evict c q.0 q.1) (useful_evicts sh p (w.cores c))) (numbers sh.cores)
unfolding evicts
useful-evicts sh p w =
    filter-flat (is_useful sh p w) (evicts_of sh) (numbers sh.cores) ∙ flat-same _ _ sh.cores (useful-evicts_of sh p w)
