-- What an event sent is counted as it stands in the machine.
use Rattle.std.proofs.Common.{◌≡◌, ℕ, ◌+◌, true, List, [], ◌∷◌, ◌++◌, map, refl, ap, sym, ◌∙◌}
use Rattle.std.specs.Prelude.{All}
use Rattle.std.specs.List.{flat_map, fold}
use Rattle.std.proofs.lemmas.List.Sums.{fold-append}
use Rattle.rules_maps.specs.Bridge.{node_of}
use Rattle.rules_maps.specs.Nodes.{Node, Msg}
use Rattle.tcc_msg.specs.Plain.{msg_of, sends_of}
use Rattle.rules_tcc.specs.Step.{is_node}
use Rattle.rules_tcc.specs.Useful.{nodes}
use Rattle.net_core.specs.Machine.{Machine, settings_of}
use Rattle.watch.specs.Facts.{Fact}
use Rattle.watch_count.specs.Counts.{Counts, all_counted, event_begun, event_counted, message_sent}
use Rattle.watch_count.proofs.Lemmas.{counted-append, sent-both, sent-told}
use Rattle.watch_machine.specs.Telling.{last_facts, last_to, numbered_from}
use Rattle.watch_machine.proofs.Lemmas.{in-any-order}

-- on one link
numbered-counted : (a src dst : Node) (k : ℕ) (ms : List Msg) (c : Counts)
    → all_counted a (numbered_from src dst k ms) c ≡ fold message_sent c ms
unfolding all_counted numbered_from
numbered-counted a src dst k [] c = refl
numbered-counted a src dst k (m ∷ ms) c =
    ap (all_counted a (numbered_from src dst (k + 1) ms)) (sent-told a src dst k m c)
    ∙ numbered-counted a src dst (k + 1) ms (message_sent c m)

link-counted : (a src : Node) (m : Machine) (dst : Node) (c : Counts)
    → all_counted a (last_to m src dst) c ≡ fold message_sent c (sends_of m.last dst)
unfolding last_to
link-counted a src m dst c = numbered-counted a src dst _ (sends_of m.last dst) c

-- on all, by destination
links-counted : (a src : Node) (m : Machine) (ns : List Node) (c : Counts)
    → all_counted a (flat_map (last_to m src) ns) c ≡ fold message_sent c (flat_map (sends_of m.last) ns)
unfolding all_counted
links-counted a src m [] c = refl
links-counted a src m (n ∷ ns) c =
    counted-append a (last_to m src n) (flat_map (last_to m src) ns) c
    ∙ ap (all_counted a (flat_map (last_to m src) ns)) (link-counted a src m n c)
    ∙ links-counted a src m ns (fold message_sent c (sends_of m.last n))
    ∙ sym (fold-append message_sent c (sends_of m.last n) (flat_map (sends_of m.last) ns))

sends-counted : (a src : Node) (m : Machine) (c : Counts) → All (λ x. is_node (settings_of m) (node_of x.0) ≡ true) m.last
    → all_counted a (last_facts m src) c ≡ fold message_sent c (map (λ x. msg_of x.1) m.last)
unfolding last_facts
sends-counted a src m c ends =
    links-counted a src m (nodes (settings_of m)) c ∙ in-any-order message_sent sent-both (settings_of m) m.last ends c

-- the facts of the node are counted, and then what was sent
pub node-and-sends : (a src : Node) (m : Machine) (of_node all : List Fact) (before between behind : Counts)
    → All (λ x. is_node (settings_of m) (node_of x.0) ≡ true) m.last → of_node ++ last_facts m src ≡ all
    → between ≡ event_counted a of_node before → behind ≡ fold message_sent between (map (λ x. msg_of x.1) m.last)
    → behind ≡ event_counted a all before
unfolding event_counted
node-and-sends a src m of_node all before between behind ends told now sent =
    sent ∙ sym (sends-counted a src m between ends) ∙ ap (all_counted a (last_facts m src)) now
    ∙ sym (counted-append a of_node (last_facts m src) (event_begun before))
    ∙ ap (λ fs. all_counted a fs (event_begun before)) told
