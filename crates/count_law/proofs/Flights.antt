-- How many messages of a kind are in flight, once a node has sent and once one is consumed.
use Rattle.std.proofs.Common.{◌≡◌, ◌+◌, ℕ, zero, suc, Bool, true, false, [], ◌∷◌, ◌++◌, Option, Some, None, ◌&&◌, sum_by}
use Rattle.std.proofs.Common.{cond, if◌then◌else◌, refl, sym, ap, subst, arith}
use Rattle.std.specs.Prelude.{slice_set, slice_index_or}
use Rattle.std.proofs.lemmas.List.Sums.{sum_by-cons, sum_by-append}
use Rattle.rules_maps.specs.Nodes.{Node, Msg, node_eq}
use Rattle.rules_maps.specs.Shape.{Shape}
use Rattle.rules_tcc.specs.Links.{in_flight, sending, sent_all, taking}
use Rattle.rules_tcc.specs.Sends.{Sends}
use Rattle.rules_tcc.specs.State.{Link}
use Rattle.rules_tcc.specs.Step.{is_node}
use Rattle.rules_tcc.specs.Useful.{nodes}
use Rattle.rules_tcc.proofs.Lemmas.{node_eq-eq}
use Rattle.count_law.specs.Messages.{is_of_kind, flying_on, flying}
use Rattle.count_law.proofs.Nodes.{where_so, sums-balance, sum-none, node-once}

-- what a place of a link counts as
abbrev pub as_one : (kind : ℕ) → Option Msg → ℕ
as_one k m = where_so (is_of_kind k m) 1

-- a node's messages of this kind
unfoldable pub all_sent : Shape → (kind : ℕ) → Sends → ℕ
all_sent sh k sends = sum_by (λ dst. flying_on k (sent_all (sends dst))) (nodes sh)

pub flying-cons : (k : ℕ) (m : Option Msg) (ms : Link) → flying_on k (m ∷ ms) ≡ as_one k m + flying_on k ms
unfolding flying_on
flying-cons k m ms = sum_by-cons (λ x. cond (is_of_kind k x) 1 0) m ms

flying-append : (k : ℕ) (l ms : Link) → flying_on k (l ++ ms) ≡ flying_on k l + flying_on k ms
unfolding flying_on
flying-append k l ms = sum_by-append (λ x. cond (is_of_kind k x) 1 0) l ms

consumed : (k i : ℕ) (m : Msg) (l : Link) → slice_index_or l i None ≡ Some m
    → flying_on k (slice_set l i None) + as_one k (Some m) ≡ flying_on k l
consumed k i m [] e = absurd cc
consumed k zero m (x ∷ xs) e = omega (arith, flying-cons k x xs, flying-cons k None xs, ap (as_one k) e)
consumed k (suc i) m (x ∷ xs) e =
    omega (arith, flying-cons k x xs, flying-cons k x (slice_set xs i None), consumed k i m xs e)

-- ---- a node has sent

sent-from : (sh : Shape) (k : ℕ) (net : Node → Node → Link) (n : Node) (sends : Sends) (s : Node)
    → sum_by (λ d. flying_on k (sending net n sends s d)) (nodes sh) + 0
    ≡ sum_by (λ d. flying_on k (net s d)) (nodes sh) + where_so (node_eq s n) (all_sent sh k sends)
unfolding all_sent
sent-from sh k net n sends s = go (node_eq s n)
  where
    go : (b : Bool) → sum_by (λ d. flying_on k (if b then net s d ++ sent_all (sends d) else net s d)) (nodes sh) + 0
        ≡ sum_by (λ d. flying_on k (net s d)) (nodes sh) + where_so b (sum_by (λ d. flying_on k (sent_all (sends d))) (nodes sh))
    go true =
        let all = sums-balance (λ d. flying_on k (net s d ++ sent_all (sends d))) (λ d. 0) (λ d. flying_on k (net s d))
        (λ d. flying_on k (sent_all (sends d))) (nodes sh) (λ d. omega (arith, flying-append k (net s d) (sent_all (sends d)))) in
        omega (arith, all, sum-none (nodes sh))
    go false = refl

pub flying-sent : (sh : Shape) (k : ℕ) (net : Node → Node → Link) (n : Node) (sends : Sends) → is_node sh n ≡ true
    → flying sh k (sending net n sends) ≡ flying sh k net + all_sent sh k sends
unfolding flying
flying-sent sh k net n sends e =
    let all = sums-balance (λ s. sum_by (λ d. flying_on k (sending net n sends s d)) (nodes sh)) (λ s. 0)
    (λ s. sum_by (λ d. flying_on k (net s d)) (nodes sh)) (λ s. where_so (node_eq s n) (all_sent sh k sends)) (nodes sh)
    (sent-from sh k net n sends) in
    omega (arith, all, sum-none (nodes sh), node-once sh n (all_sent sh k sends) e)

-- ---- a message is consumed

taken-there : (k : ℕ) (net : Node → Node → Link) (src dst : Node) (i : ℕ) (m : Msg) (s d : Node) → in_flight net src dst i ≡ Some m
    → flying_on k (taking net src dst i s d) + where_so (node_eq s src && node_eq d dst) (as_one k (Some m)) ≡ flying_on k (net s d) + 0
taken-there k net src dst i m s d e = go (node_eq s src) (node_eq d dst) refl refl
  where
    go : (b c : Bool) → node_eq s src ≡ b → node_eq d dst ≡ c
        → flying_on k (if b && c then slice_set (net s d) i None else net s d) + where_so (b && c) (as_one k (Some m))
        ≡ flying_on k (net s d) + 0
    go true true f g =
        let here : slice_index_or (net s d) i None ≡ Some m =
        subst (λ x. slice_index_or (net x d) i None ≡ Some m) (sym (node_eq-eq s src f))
        (subst (λ x. slice_index_or (net src x) i None ≡ Some m) (sym (node_eq-eq d dst g)) e) in
        omega (arith, consumed k i m (net s d) here)
    go true false f g = refl
    go false c f g = refl

taken-from : (sh : Shape) (k : ℕ) (net : Node → Node → Link) (src dst : Node) (i : ℕ) (m : Msg) (s : Node) → is_node sh dst ≡ true
    → in_flight net src dst i ≡ Some m
    → sum_by (λ d. flying_on k (taking net src dst i s d)) (nodes sh) + where_so (node_eq s src) (as_one k (Some m))
    ≡ sum_by (λ d. flying_on k (net s d)) (nodes sh) + 0
taken-from sh k net src dst i m s node e =
    let one = as_one k (Some m) in
    let all = sums-balance (λ d. flying_on k (taking net src dst i s d)) (λ d. where_so (node_eq s src && node_eq d dst) one)
    (λ d. flying_on k (net s d)) (λ d. 0) (nodes sh) (λ d. taken-there k net src dst i m s d e) in
    omega (arith, all, sum-none (nodes sh), go (node_eq s src))
  where
    go : (b : Bool) → sum_by (λ d. where_so (b && node_eq d dst) (as_one k (Some m))) (nodes sh) ≡ where_so b (as_one k (Some m))
    go true = node-once sh dst (as_one k (Some m)) node
    go false = sum-none (nodes sh)

pub flying-taken : (sh : Shape) (k : ℕ) (net : Node → Node → Link) (src dst : Node) (i : ℕ) (m : Msg) → is_node sh src ≡ true
    → is_node sh dst ≡ true → in_flight net src dst i ≡ Some m
    → flying sh k (taking net src dst i) + as_one k (Some m) ≡ flying sh k net
unfolding flying
flying-taken sh k net src dst i m from to e =
    let one = as_one k (Some m) in
    let all = sums-balance (λ s. sum_by (λ d. flying_on k (taking net src dst i s d)) (nodes sh)) (λ s. where_so (node_eq s src) one)
    (λ s. sum_by (λ d. flying_on k (net s d)) (nodes sh)) (λ s. 0) (nodes sh) (λ s. taken-from sh k net src dst i m s to e) in
    omega (arith, all, sum-none (nodes sh), node-once sh src one from)
