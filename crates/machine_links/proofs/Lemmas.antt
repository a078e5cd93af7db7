-- What other crates may cite: the list of marked deliveries is that of the rules where the marks are right, and marks after a change;
-- and a node is itself.
use Rattle.std.proofs.Common.{◌≡◌, ℕ, suc, zero, ◌<◌, ◌==◌, Bool, false, cond, ◌&&◌, if◌then◌else◌, List, [], ◌∷◌, ◌++◌, map, length}
use Rattle.std.proofs.Common.{refl, ap, ◌∙◌}
use Rattle.std.specs.List.{flat_map, filter}
use Rattle.std.proofs.lemmas.Bool.{eq-eqb}
use Rattle.std.proofs.lemmas.List.Elements.{filter-append}
use Rattle.base_lemmas.proofs.Lemmas.{filter-flat, filter-map, flat-each, node_eq-refl, those-same}
use Rattle.rules_maps.specs.Words.{those}
use Rattle.rules_maps.specs.Nodes.{Node, Core, Dir, Vendor, Event, Deliver, node_eq}
use Rattle.rules_maps.specs.Shape.{Shape}
use Rattle.rules_tcc.specs.State.{World, Link}
use Rattle.rules_tcc.specs.Seen.{numbers}
use Rattle.rules_tcc.specs.Useful.{nodes, delivers}
use Rattle.machine_links.specs.Flights.{Flights, net_of, is_ready, with_mark, nodes_of, ready_on, ready_list}
pub use Rattle.machine_links.proofs.Passed.{length-passed, passed-flight}
pub use Rattle.machine_links.proofs.Reading.{marked-flies}

filter-numbers : (p : ℕ → Bool) (n : ℕ) → filter p (numbers n) ≡ those p n
unfolding those
filter-numbers p zero = refl
filter-numbers p (suc n) = filter-append p (numbers n) (n ∷ []) ∙ ap (λ ks. ks ++ cond (p n) (n ∷ []) []) (filter-numbers p n)

same-nodes : (sh : Shape) (f : Flights) → sh.cores ≡ f.cores → sh.dirs ≡ f.dirs → nodes sh ≡ nodes_of f
unfolding nodes nodes_of
same-nodes sh f cores dirs = λ i. map Core (numbers (cores i)) ++ (map Dir (numbers (dirs i)) ++ Vendor ∷ [])

-- a test that agrees with the marks of the messages on all links
abbrev pub Agrees : Flights → (Event → Bool) → Type 0
Agrees f q = (src dst : Node) (k : ℕ) → k < length (net_of f src dst) → q (Deliver src dst k) ≡ is_ready f src dst k

on-link : (f : Flights) (q : Event → Bool) → Agrees f q → (s d : Node)
    → filter q (map (λ k. Deliver s d k) (numbers (length (net_of f s d)))) ≡ ready_on f s d
unfolding ready_on
on-link f q agrees s d =
    filter-map q (Deliver s d) (numbers (length (net_of f s d)))
    ∙ ap (map (Deliver s d)) (filter-numbers (λ k. q (Deliver s d k)) (length (net_of f s d))
    ∙ those-same (λ k. q (Deliver s d k)) (is_ready f s d) (length (net_of f s d)) (agrees s d))

-- the deliveries of the rules that pass such a test are the list of the marked ones
pub ready-delivers : (sh : Shape) (w : World) (f : Flights) (q : Event → Bool) → sh.cores ≡ f.cores → sh.dirs ≡ f.dirs → w.net ≡ net_of f
    → Agrees f q
    → filter q (delivers sh w) ≡ ready_list f
unfolding delivers ready_list
ready-delivers sh w f q cores dirs net agrees =
    let all : (Node → Node → Link) → List Node → List Event =
    λ links ns. flat_map (λ src. flat_map (λ dst. map (λ k. Deliver src dst k) (numbers (length (links src dst)))) ns) ns in
    ap (filter q) (λ i. all (net i) (same-nodes sh f cores dirs i))
    ∙ (filter-flat q (λ src. flat_map (λ dst. map (λ k. Deliver src dst k) (numbers (length (net_of f src dst)))) (nodes_of f)) (nodes_of f)
    ∙ flat-each (λ src. filter q (flat_map (λ dst. map (λ k. Deliver src dst k) (numbers (length (net_of f src dst)))) (nodes_of f)))
    (λ src. flat_map (ready_on f src) (nodes_of f))
    (λ src. filter-flat q (λ dst. map (λ k. Deliver src dst k) (numbers (length (net_of f src dst)))) (nodes_of f)
    ∙ flat-each (λ dst. filter q (map (λ k. Deliver src dst k) (numbers (length (net_of f src dst))))) (ready_on f src)
    (on-link f q agrees src) (nodes_of f))
    (nodes_of f))

-- the mark that was changed, and the others
pub with_mark-own : (f : Node → Node → ℕ → Bool) (s d : Node) (k : ℕ) (b : Bool) → with_mark f s d k b s d k ≡ b
unfolding with_mark
with_mark-own f s d k b = (λ i. if node_eq-refl s i && (node_eq-refl d i && eq-eqb k k refl i) then b else f s d k)

pub with_mark-other : (f : Node → Node → ℕ → Bool) (s d : Node) (k : ℕ) (b : Bool) (t e : Node) (j : ℕ)
    → (node_eq t s && (node_eq e d && j == k)) ≡ false → with_mark f s d k b t e j ≡ f t e j
unfolding with_mark
with_mark-other f s d k b t e j h = λ i. if h i then b else f t e j
