-- The nodes of a machine by place.
use Rattle.std.proofs.Common.{◌≡◌, ℕ, ◌+◌, ◌<◌, List, [], ◌∷◌, ◌++◌, map, length, length-append, Some, None}
use Rattle.std.proofs.Common.{ap, sym, ◌∙◌, arith}
use Rattle.std.specs.Prelude.{slice_get}
use Rattle.std.specs.Option.{option_map}
use Rattle.std.proofs.lemmas.List.{length-map}
use Rattle.std.proofs.lemmas.Option.{slice_get-map, slice_get_past}
use Rattle.base_lemmas.proofs.Lemmas.{get-front}
use Rattle.rules_maps.specs.Nodes.{Node, Core, Dir, Vendor}
use Rattle.rules_maps.specs.Shape.{Shape}
use Rattle.rules_tcc.specs.Seen.{numbers}
use Rattle.rules_tcc.specs.Useful.{nodes}
use Rattle.machine_cores.proofs.Lemmas.{get-right, numbers-length, numbers-at}

cores-length : (sh : Shape) → length (map Core (numbers sh.cores)) ≡ sh.cores
cores-length sh = length-map (numbers sh.cores) Core ∙ numbers-length sh.cores

dirs-length : (sh : Shape) → length (map Dir (numbers sh.dirs)) ≡ sh.dirs
dirs-length sh = length-map (numbers sh.dirs) Dir ∙ numbers-length sh.dirs

-- those behind the cores
abbrev others : Shape → List Node
others sh = map Dir (numbers sh.dirs) ++ Vendor ∷ []

pub nodes-length : (sh : Shape) → length (nodes sh) ≡ sh.cores + sh.dirs + 1
unfolding nodes
nodes-length sh =
    length-append (map Core (numbers sh.cores)) (others sh)
    ∙ omega (arith, cores-length sh, dirs-length sh, length-append (map Dir (numbers sh.dirs)) (Vendor ∷ []))

pub core-at : (sh : Shape) (k : ℕ) → k < sh.cores → slice_get (nodes sh) k ≡ Some (Core k)
unfolding nodes
core-at sh k l =
    get-front (map Core (numbers sh.cores)) (others sh) k (rw (cores-length sh) l)
    ∙ slice_get-map Core (numbers sh.cores) k ∙ ap (option_map Core) (numbers-at sh.cores k l)

behind-cores : (sh : Shape) (k i : ℕ) → k ≡ sh.cores + i → slice_get (nodes sh) k ≡ slice_get (others sh) i
unfolding nodes
behind-cores sh k i e = get-right (map Core (numbers sh.cores)) (others sh) i k (e ∙ ap (λ n. n + i) (sym (cores-length sh)))

pub dir-at : (sh : Shape) (k i : ℕ) → k ≡ sh.cores + i → i < sh.dirs → slice_get (nodes sh) k ≡ Some (Dir i)
dir-at sh k i e l =
    behind-cores sh k i e ∙ get-front (map Dir (numbers sh.dirs)) (Vendor ∷ []) i (rw (dirs-length sh) l)
    ∙ slice_get-map Dir (numbers sh.dirs) i ∙ ap (option_map Dir) (numbers-at sh.dirs i l)

pub vendor-at : (sh : Shape) (k : ℕ) → k ≡ sh.cores + sh.dirs → slice_get (nodes sh) k ≡ Some Vendor
vendor-at sh k e =
    behind-cores sh k sh.dirs e
    ∙ get-right (map Dir (numbers sh.dirs)) (Vendor ∷ []) 0 sh.dirs (omega (arith, dirs-length sh))

pub no-more : (sh : Shape) (k : ℕ) → sh.cores + sh.dirs < k → slice_get (nodes sh) k ≡ None
no-more sh k l = slice_get_past (nodes sh) k (omega (arith, nodes-length sh, l))
