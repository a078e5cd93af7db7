-- A message sought by its number among those that a node sent to another one.
use Rattle.std.proofs.Common.{◌≡◌, ℕ, zero, suc, ◌+◌, ◌-◌, ◌<◌, ◌≤◌, Bool, true, false, List, [], ◌∷◌, ◌++◌}
use Rattle.std.proofs.Common.{length, drop, Some, None, refl, ap, sym, ◌∙◌, arith}
use Rattle.std.specs.Prelude.{slice_get, slice_index_or, if◌then◌else◌}
use Rattle.std.proofs.Math.ListN.{drop_of_length-le, get_or-append}
use Rattle.std.proofs.Math.Seq.{get_or-append_right}
use Rattle.tcc_base.specs.declared.names.NodeId.{NodeId}
use Rattle.rules_maps.specs.Bridge.{node_of}
use Rattle.rules_maps.specs.Nodes.{Node, Msg as PlainMsg, node_eq}
use Rattle.tcc_msg.specs.Plain.{msg_of, sends_of}
use Rattle.tcc_msg.specs.declared.msg.Msg.{Msg}
use Rattle.rules_tcc.specs.Links.{in_flight, sending, sent_all}
use Rattle.rules_tcc.specs.State.{Link}

-- it is the first one
pub sought-here : (xs : List (NodeId × Msg)) (i : ℕ) (n : Node) (x : NodeId × Msg) (left : ℕ) → drop i xs ≡ x ∷ drop (i + 1) xs
    → node_eq n (node_of x.0) ≡ true → left ≡ 0 → slice_get (sends_of (drop i xs) n) left ≡ Some (msg_of x.1)
unfolding sends_of
sought-here xs i n x left first e z = rw (first, e, z) refl

-- it is behind one that goes to the same node
pub sought-past : (xs : List (NodeId × Msg)) (i : ℕ) (n : Node) (x : NodeId × Msg) (left : ℕ) → drop i xs ≡ x ∷ drop (i + 1) xs
    → node_eq n (node_of x.0) ≡ true → (left ≡ 0 → ⊥)
    → slice_get (sends_of (drop i xs) n) left ≡ slice_get (sends_of (drop (i + 1) xs) n) (left - 1)
unfolding sends_of
sought-past xs i n x zero first e z = absurd (z refl)
sought-past xs i n x (suc left) first e z =
    rw (first, e) (ap (slice_get (sends_of (drop (i + 1) xs) n)) (let s : left ≡ suc left - 1 = omega arith in s))

-- it is behind one that goes elsewhere
pub sought-other : (xs : List (NodeId × Msg)) (i : ℕ) (n : Node) (x : NodeId × Msg) (left : ℕ) → drop i xs ≡ x ∷ drop (i + 1) xs
    → node_eq n (node_of x.0) ≡ false → slice_get (sends_of (drop i xs) n) left ≡ slice_get (sends_of (drop (i + 1) xs) n) left
unfolding sends_of
sought-other xs i n x left first e = rw (first, e) refl

-- nothing is left
pub sought-none : (xs : List (NodeId × Msg)) (i : ℕ) (n : Node) (left : ℕ) → length xs ≤ i → slice_get (sends_of (drop i xs) n) left ≡ None
unfolding sends_of
sought-none xs i n left h = rw (drop_of_length-le xs h) refl

at-sent : (ms : List PlainMsg) (k : ℕ) → slice_index_or (sent_all ms) k None ≡ slice_get ms k
unfolding sent_all
at-sent [] k = refl
at-sent (m ∷ ms) zero = refl
at-sent (m ∷ ms) (suc k) = at-sent ms k

-- a number past those on the link is that of a message which doesn't stand there
pub flies-unsent : (net : Node → Node → Link) (n : Node) (sends : Node → List PlainMsg) (src dst : Node) (k : ℕ) → node_eq src n ≡ true
    → length (net src dst) ≤ k
    → slice_get (sends dst) (k - length (net src dst)) ≡ in_flight (sending net n sends) src dst k
flies-unsent net n sends src dst k e h =
    rw e (sym (get_or-append_right (net src dst) (sent_all (sends dst)) k None h ∙ at-sent (sends dst) (k - length (net src dst))))

-- other numbers, and those of other sources, stand there
pub flies-placed : (net : Node → Node → Link) (n : Node) (sends : Node → List PlainMsg) (src dst : Node) (k : ℕ) → k < length (net src dst)
    → in_flight net src dst k ≡ in_flight (sending net n sends) src dst k
flies-placed net n sends src dst k h = by (node_eq src n)
  where
    by : (b : Bool) → slice_index_or (net src dst) k None
        ≡ slice_index_or (if b then net src dst ++ sent_all (sends dst) else net src dst) k None
    by true = sym (get_or-append (net src dst) (sent_all (sends dst)) None k h)
    by false = refl

pub flies-elsewhere : (net : Node → Node → Link) (n : Node) (sends : Node → List PlainMsg) (src dst : Node) (k : ℕ) → node_eq src n ≡ false
    → in_flight net src dst k ≡ in_flight (sending net n sends) src dst k
flies-elsewhere net n sends src dst k e = rw e refl
