-- What is sent to one node, for lists that grow at their end: for the proofs of callers too.
use Rattle.std.proofs.Common.{◌≡◌, List, [], ◌∷◌, ◌++◌, if◌then◌else◌, append_assoc, append-nil, refl, ap, sym, ◌∙◌}
use Rattle.tcc_base.specs.declared.names.NodeId.{NodeId}
use Rattle.rules_maps.specs.Nodes as plain
use Rattle.rules_maps.specs.Bridge.{node_of}
use Rattle.tcc_msg.specs.declared.msg.Msg.{Msg}
use Rattle.tcc_msg.specs.Plain.{msg_of, sends_of}

pub sends_of-push : (xs : List (NodeId × Msg)) (d : NodeId) (m : Msg) (n : plain.Node)
    → sends_of (xs ++ (d, m) ∷ []) n ≡ sends_of xs n ++ (if plain.node_eq n (node_of d) then msg_of m ∷ [] else [])
unfolding sends_of
sends_of-push [] d m n = append-nil (if plain.node_eq n (node_of d) then msg_of m ∷ [] else [])
sends_of-push (x ∷ xs) d m n =
    let first : List plain.Msg = if plain.node_eq n (node_of x.0) then msg_of x.1 ∷ [] else [] in
    ap (λ ys. first ++ ys) (sends_of-push xs d m n)
    ∙ sym (append_assoc first (sends_of xs n) (if plain.node_eq n (node_of d) then msg_of m ∷ [] else []))

-- what goes to a node of two lists, one behind the other
pub sends_of-append : (xs ys : List (NodeId × Msg)) (n : plain.Node) → sends_of (xs ++ ys) n ≡ sends_of xs n ++ sends_of ys n
unfolding sends_of
sends_of-append [] ys n = refl
sends_of-append (x ∷ xs) ys n =
    let first : List plain.Msg = if plain.node_eq n (node_of x.0) then msg_of x.1 ∷ [] else [] in
    ap (λ zs. first ++ zs) (sends_of-append xs ys n) ∙ sym (append_assoc first (sends_of xs n) (sends_of ys n))
