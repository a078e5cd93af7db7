-- What messages add that were sent, in whatever order.
use Rattle.std.proofs.Common.{◌≡◌, ℕ, zero, suc, ◌+◌, ◌<◌, ◌≤◌, ◌^◌, List, [], ◌∷◌, ◌++◌, map, drop, get_or, length, refl, ap, sym, ◌∙◌}
use Rattle.std.specs.List.{fold}
use Rattle.std.specs.Map.{values_of}
use Rattle.std.proofs.lemmas.List.{at_drop_more, drop_all}
use Rattle.tcc_base.specs.declared.names.NodeId.{NodeId}
use Rattle.rules_maps.specs.Nodes.{Node, Vendor, Msg}
use Rattle.tcc_msg.specs.Plain.{msg_of}
use Rattle.tcc_msg.specs.declared.msg.Msg.{Msg as CodeMsg}
use Rattle.watch.specs.Facts.{Fact, Sent}
use Rattle.watch_count.specs.declared.messages.MessageCounts.{MessageCounts}
use Rattle.watch_count.specs.Messages.{kind_place, messages_after, one_sent}
use Rattle.watch_count.specs.Sizes.{line_size, conflict_size, weight}
use Rattle.watch_count.specs.Counts.{Counts, changed, counted, all_counted, message_sent}
use Rattle.watch_count.specs.CountsInside.{IsKept}
use Rattle.watch_count.proofs.Keeping.{all-below}
use Rattle.watch_count.proofs.Views.{made, counted-kept}

-- the same change at two places
changed-both : {A : Type 0} (f : A → A) (i j : ℕ) (xs : List A) → changed j f (changed i f xs) ≡ changed i f (changed j f xs)
unfolding changed
changed-both f i j [] = refl
changed-both f zero zero (x ∷ xs) = refl
changed-both f zero (suc j) (x ∷ xs) = refl
changed-both f (suc i) zero (x ∷ xs) = refl
changed-both f (suc i) (suc j) (x ∷ xs) = ap (λ ys. x ∷ ys) (changed-both f i j xs)

-- the fields after a message
sent-is : (c : Counts) (m : Msg)
    → message_sent c m ≡ made c.cores (changed (kind_place m) one_sent c.messages) c.lines c.conflicts (c.bound + 5)
unfolding message_sent counted messages_after weight
sent-is c m = refl

-- two messages may change places
pub sent-both : (c : Counts) (x y : Msg) → message_sent (message_sent c x) y ≡ message_sent (message_sent c y) x
sent-both c x y =
    (λ i. message_sent (sent-is c x i) y)
    ∙ sent-is (made c.cores (changed (kind_place x) one_sent c.messages) c.lines c.conflicts (c.bound + 5)) y
    ∙ ap (λ ms. made c.cores ms c.lines c.conflicts (c.bound + 5 + 5)) (changed-both one_sent (kind_place x) (kind_place y) c.messages)
    ∙ sym (sent-is (made c.cores (changed (kind_place y) one_sent c.messages) c.lines c.conflicts (c.bound + 5)) x)
    ∙ (λ i. message_sent (sym (sent-is c y) i) x)

-- what tells of a message that was sent adds just that
pub sent-told : (a src dst : Node) (k : ℕ) (m : Msg) (c : Counts) → counted a (Sent src dst k m) c ≡ message_sent c m
unfolding message_sent counted messages_after weight
sent-told a src dst k m c = refl

-- facts after facts
pub counted-append : (a : Node) (fs gs : List Fact) (c : Counts) → all_counted a (fs ++ gs) c ≡ all_counted a gs (all_counted a fs c)
unfolding all_counted
counted-append a [] gs c = refl
counted-append a (f ∷ fs) gs c = counted-append a fs gs (counted a f c)

-- ---- in code

pub message-is : (s now : Counts) (m : Msg) (ms : List MessageCounts) → s ≡ now → ms ≡ changed (kind_place m) one_sent s.messages
    → made s.cores ms s.lines s.conflicts (s.bound + 5) ≡ message_sent now m
message-is s now m ms h e =
    ap (λ xs. made s.cores xs s.lines s.conflicts (s.bound + 5)) e ∙ sym (sent-is s m) ∙ ap (λ c. message_sent c m) h

pub message-kept : (s : Counts) (m : Msg) (ms : List MessageCounts) → IsKept s → ms ≡ changed (kind_place m) one_sent s.messages
    → s.bound + 5 ≤ 2 ^ 56 → IsKept (made s.cores ms s.lines s.conflicts (s.bound + 5))
unfolding weight messages_after
message-kept s m ms k e l =
    counted-kept Vendor (Sent Vendor Vendor 0 m) s s.cores ms s.lines s.conflicts 5 k refl e
    (all-below line_size s.bound 5 (values_of s.lines) k.lines)
    (all-below conflict_size s.bound 5 (values_of s.conflicts) k.conflicts) refl l

-- the next one is counted
pub sent-more : (ms : List (NodeId × CodeMsg)) (i : ℕ) (d : NodeId × CodeMsg) (s now all : Counts) → i < length ms
    → now ≡ message_sent s (msg_of (get_or ms i d).1)
    → fold message_sent s (map (λ m. msg_of m.1) (drop i ms)) ≡ all → fold message_sent now (map (λ m. msg_of m.1) (drop (i + 1) ms)) ≡ all
sent-more ms i d s now all l e h =
    ap (λ c. fold message_sent c (map (λ m. msg_of m.1) (drop (i + 1) ms))) e
    ∙ sym (at_drop_more (λ ys. fold message_sent s (map (λ m. msg_of m.1) ys)) ms i d l) ∙ h

pub sent-all : (ms : List (NodeId × CodeMsg)) (i : ℕ) (s all : Counts) → length ms ≤ i
    → fold message_sent s (map (λ m. msg_of m.1) (drop i ms)) ≡ all → s ≡ all
sent-all ms i s all l h = sym (ap (λ ys. fold message_sent s (map (λ m. msg_of m.1) ys)) (drop_all i ms l)) ∙ h
