-- The messages of a list that go to one node, and their numbers.
use Rattle.std.proofs.Common.{◌≡◌, ℕ, ◌+◌, ◌-◌, ◌<◌, ◌≤◌, Bool, true, false, List, [], ◌∷◌, ◌++◌, take, drop, length, get_or}
use Rattle.std.proofs.Common.{Some, refl, ap, sym, ◌∙◌, append_assoc, append-nil, arith}
use Rattle.std.specs.Prelude.{slice_get}
use Rattle.std.specs.List.{flat_map}
use Rattle.std.proofs.lemmas.List.{drop_all, drop_more, flat_map_more, take_more}
use Rattle.std.proofs.lemmas.Option.{get_or_from_slice_get, slice_get_within}
use Rattle.tcc_base.specs.declared.names.NodeId.{NodeId}
use Rattle.rules_maps.specs.Bridge.{node_of}
use Rattle.rules_maps.specs.Nodes.{Node, Msg as PlainMsg, node_eq}
use Rattle.tcc_msg.specs.Plain.{msg_of, sends_of}
use Rattle.tcc_msg.specs.declared.msg.Msg.{Msg}
use Rattle.net_core.specs.Machine.{Machine}
use Rattle.watch.specs.Facts.{Fact, Sent}
use Rattle.watch_machine.specs.Telling.{count_on, last_to, numbered_from}

pub goes : (m : NodeId × Msg) (ms : List (NodeId × Msg)) (n : Node) → node_eq n (node_of m.0) ≡ true
    → sends_of (m ∷ ms) n ≡ msg_of m.1 ∷ sends_of ms n
unfolding sends_of
goes m ms n e = rw e refl

pub stays : (m : NodeId × Msg) (ms : List (NodeId × Msg)) (n : Node) → node_eq n (node_of m.0) ≡ false → sends_of (m ∷ ms) n ≡ sends_of ms n
unfolding sends_of
stays m ms n e = rw e refl

pub nothing-goes : (n : Node) → sends_of [] n ≡ []
unfolding sends_of
nothing-goes n = refl

-- the next of the list goes to the node, or doesn't
pub next-goes : (ms : List (NodeId × Msg)) (i : ℕ) (d : NodeId × Msg) (n : Node) (b : Bool) → i < length ms
    → b ≡ node_eq n (node_of (get_or ms i d).0) → b ≡ true
    → sends_of (drop i ms) n ≡ msg_of (get_or ms i d).1 ∷ sends_of (drop (i + 1) ms) n
next-goes ms i d n b l e t = ap (λ ys. sends_of ys n) (drop_more ms i d l) ∙ goes (get_or ms i d) (drop (i + 1) ms) n (sym e ∙ t)

pub next-stays : (ms : List (NodeId × Msg)) (i : ℕ) (d : NodeId × Msg) (n : Node) (b : Bool) → i < length ms
    → b ≡ node_eq n (node_of (get_or ms i d).0) → b ≡ false
    → sends_of (drop i ms) n ≡ sends_of (drop (i + 1) ms) n
next-stays ms i d n b l e t = ap (λ ys. sends_of ys n) (drop_more ms i d l) ∙ stays (get_or ms i d) (drop (i + 1) ms) n (sym e ∙ t)

pub none-left : (ms : List (NodeId × Msg)) (i : ℕ) (n : Node) → length ms ≤ i → sends_of (drop i ms) n ≡ []
none-left ms i n l = ap (λ ys. sends_of ys n) (drop_all i ms l) ∙ nothing-goes n

-- the next one is told
one-told : (src dst : Node) (k : ℕ) (m : PlainMsg) (ms : List PlainMsg) (fs : List Fact)
    → (fs ++ Sent src dst k m ∷ []) ++ numbered_from src dst (k + 1) ms ≡ fs ++ numbered_from src dst k (m ∷ ms)
unfolding numbered_from
one-told src dst k m ms fs = append_assoc fs (Sent src dst k m ∷ []) (numbered_from src dst (k + 1) ms)

pub told-more : (src dst : Node) (k j : ℕ) (m : PlainMsg) (left rest : List PlainMsg) (old now whole : List Fact) → left ≡ m ∷ rest
    → j ≡ k + 1 → now ≡ old ++ Sent src dst k m ∷ [] → old ++ numbered_from src dst k left ≡ whole
    → now ++ numbered_from src dst j rest ≡ whole
told-more src dst k j m left rest old now whole e f g h =
    (λ i. g i ++ numbered_from src dst (f i) rest)
    ∙ one-told src dst k m rest old
    ∙ ap (λ ms. old ++ numbered_from src dst k ms) (sym e)
    ∙ h

pub told-same : (src dst : Node) (k j : ℕ) (left rest : List PlainMsg) (old now whole : List Fact) → left ≡ rest → j ≡ k → now ≡ old
    → old ++ numbered_from src dst k left ≡ whole → now ++ numbered_from src dst j rest ≡ whole
told-same src dst k j left rest old now whole e f g h = (λ i. g i ++ numbered_from src dst (f i) (sym e i)) ∙ h

-- all of them are told
pub all-told : (src dst : Node) (k : ℕ) (left : List PlainMsg) (now whole : List Fact) → left ≡ []
    → now ++ numbered_from src dst k left ≡ whole → now ≡ whole
unfolding numbered_from
all-told src dst k left now whole e h = sym (append-nil now) ∙ ap (λ ms. now ++ numbered_from src dst k ms) (sym e) ∙ h

-- where nothing was sent nothing is told
pub none-to : (m : Machine) (src dst : Node) → length (sends_of m.last dst) ≡ 0 → last_to m src dst ≡ []
unfolding last_to numbered_from
none-to m src dst e = go (sends_of m.last dst) e
  where
    go : (ms : List PlainMsg) → length ms ≡ 0 → numbered_from src dst (count_on m src dst - length ms) ms ≡ []
    go [] e = refl
    go (x ∷ xs) e = absurd (omega (arith, e))

-- the facts of the next node are appended
pub node-told : (f : Node → List Fact) (ns : List Node) (k : ℕ) (n : Node) (old now new : List Fact) → slice_get ns k ≡ Some n
    → now ≡ old ++ flat_map f (take k ns) → new ≡ now ++ f n
    → new ≡ old ++ flat_map f (take (k + 1) ns)
node-told f ns k n old now new at h e =
    let more : take (k + 1) ns ≡ take k ns ++ n ∷ [] =
    take_more ns k n (slice_get_within ns k n at) ∙ ap (λ y. take k ns ++ y ∷ []) (get_or_from_slice_get ns k n n at) in
    e ∙ ap (λ t. t ++ f n) h ∙ flat_map_more f old (take k ns) n ∙ ap (λ ys. old ++ flat_map f ys) (sym more)
