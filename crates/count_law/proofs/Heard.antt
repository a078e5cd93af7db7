-- What facts tell of messages of a kind, and what the kind's row in the counts makes of them.
use Rattle.std.proofs.Common.{◌≡◌, ◌==◌, ◌<◌, ◌+◌, ℕ, Bool, true, false, List, [], ◌∷◌, ◌++◌}
use Rattle.std.proofs.Common.{get_or, length, if◌then◌else◌, refl, sym, subst, sum_by, arith}
use Rattle.std.specs.List.{flat_map}
use Rattle.std.proofs.lemmas.List.Sums.{sum_by-cons}
use Rattle.rules_maps.specs.Nodes.{Node}
use Rattle.watch.specs.Facts.{Fact, Took, Dropped, AskedOwner}
use Rattle.watch.specs.Facts.{Sent}
use Rattle.watch_count.specs.Counts.{Counts, counted, all_counted, event_begun, event_counted}
use Rattle.watch_count.specs.Messages.{kind_of, messages_after, no_messages, kind_place}
use Rattle.watch_count.specs.declared.messages.MessageCounts.{MessageCounts}
use Rattle.count_law.proofs.Nodes.{where_so}
use Rattle.count_law.proofs.Rows.{is_told, row-changed_if}
use Rattle.watch_count.proofs.Lemmas.{length-changed_if}

-- a message of this kind was sent
abbrev pub sends : (kind : ℕ) → Fact → ℕ
sends k (Sent src dst i m) = where_so (kind_place m == k) 1
sends k _ = 0

-- and one left its link
abbrev pub ends : (kind : ℕ) → Fact → ℕ
ends k (Took m) = where_so (kind_place m == k) 1
ends k (Dropped m) = where_so (kind_place m == k) 1
ends k _ = 0

unfoldable pub all_sends : (kind : ℕ) → List Fact → ℕ
all_sends k [] = 0
all_sends k (f ∷ fs) = sends k f + all_sends k fs

unfoldable pub all_ends : (kind : ℕ) → List Fact → ℕ
all_ends k [] = 0
all_ends k (f ∷ fs) = ends k f + all_ends k fs

-- the row after facts of so many that were sent and so many that left
pub record Heard (m m' : MessageCounts) (x y : ℕ) : Type 0 where
  pub sent : m'.sent ≡ m.sent + x
  pub ended : m'.took + m'.dropped ≡ m.took + m.dropped + y

pub all_sends-append : (k : ℕ) (fs gs : List Fact) → all_sends k (fs ++ gs) ≡ all_sends k fs + all_sends k gs
unfolding all_sends
all_sends-append k [] gs = omega arith
all_sends-append k (f ∷ fs) gs = omega (arith, all_sends-append k fs gs)

pub all_ends-append : (k : ℕ) (fs gs : List Fact) → all_ends k (fs ++ gs) ≡ all_ends k fs + all_ends k gs
unfolding all_ends
all_ends-append k [] gs = omega arith
all_ends-append k (f ∷ fs) gs = omega (arith, all_ends-append k fs gs)

pub all_sends-flat : (k : ℕ) (f : Node → List Fact) (ns : List Node) → all_sends k (flat_map f ns) ≡ sum_by (λ n. all_sends k (f n)) ns
unfolding all_sends
all_sends-flat k f [] = refl
all_sends-flat k f (n ∷ ns) =
    omega (arith, all_sends-append k (f n) (flat_map f ns), all_sends-flat k f ns, sum_by-cons (λ m. all_sends k (f m)) n ns)

pub all_ends-flat : (k : ℕ) (f : Node → List Fact) (ns : List Node) → ((n : Node) → all_ends k (f n) ≡ 0)
    → all_ends k (flat_map f ns) ≡ 0
unfolding all_ends
all_ends-flat k f [] each = refl
all_ends-flat k f (n ∷ ns) each = omega (arith, all_ends-append k (f n) (flat_map f ns), all_ends-flat k f ns each, each n)

-- ---- one fact

unheard : (m : MessageCounts) → Heard m m 0 0
unheard m = record { sent = omega arith; ended = omega arith }

took-heard : (b : Bool) (m n : MessageCounts) → n ≡ record m { took = m.took + 1 } → Heard m (if b then n else m) 0 (where_so b 1)
took-heard true m n e = rw e (record { sent = omega arith; ended = omega arith })
took-heard false m n e = unheard m

dropped-heard : (b : Bool) (m n : MessageCounts) → n ≡ record m { dropped = m.dropped + 1 }
    → Heard m (if b then n else m) 0 (where_so b 1)
dropped-heard true m n e = rw e (record { sent = omega arith; ended = omega arith })
dropped-heard false m n e = unheard m

asked-heard : (b : Bool) (m n : MessageCounts) → n ≡ record m { asked = m.asked + 1 } → Heard m (if b then n else m) 0 0
asked-heard true m n e = rw e (record { sent = omega arith; ended = omega arith })
asked-heard false m n e = unheard m

sent-heard : (b : Bool) (m n : MessageCounts) → n ≡ record m { sent = m.sent + 1 } → Heard m (if b then n else m) (where_so b 1) 0
sent-heard true m n e = rw e (record { sent = omega arith; ended = omega arith })
sent-heard false m n e = unheard m

fact-heard : (k : ℕ) (f : Fact) (m : MessageCounts)
    → Heard m (if is_told k (kind_of f) then messages_after f m else m) (sends k f) (ends k f)
unfolding messages_after
fact-heard k (Took x) m = took-heard (kind_place x == k) m (record m { took = m.took + 1 }) refl
fact-heard k (Dropped x) m = dropped-heard (kind_place x == k) m (record m { dropped = m.dropped + 1 }) refl
fact-heard k (AskedOwner x) m = asked-heard (kind_place x == k) m (record m { asked = m.asked + 1 }) refl
fact-heard k (Sent src dst i x) m = sent-heard (kind_place x == k) m (record m { sent = m.sent + 1 }) refl
fact-heard k _ m = unheard m

-- ---- all facts of an event

then-heard : (m n o : MessageCounts) (x y x' y' : ℕ) → Heard m n x y → Heard n o x' y' → Heard m o (x + x') (y + y')
then-heard m n o x y x' y' h g = record { sent = omega (arith, h.sent, g.sent); ended = omega (arith, h.ended, g.ended) }

counted-heard : (a : Node) (k : ℕ) (f : Fact) (c : Counts) → k < length c.messages
    → Heard (get_or c.messages k no_messages) (get_or (counted a f c).messages k no_messages) (sends k f) (ends k f)
unfolding counted
counted-heard a k f c l =
    subst (λ m. Heard (get_or c.messages k no_messages) m (sends k f) (ends k f))
    (sym (row-changed_if (messages_after f) (kind_of f) k c.messages no_messages l))
    (fact-heard k f (get_or c.messages k no_messages))

as-many : (a : Node) (f : Fact) (c : Counts) → length (counted a f c).messages ≡ length c.messages
unfolding counted
as-many a f c = length-changed_if (messages_after f) (kind_of f) c.messages

all-heard : (a : Node) (k : ℕ) (fs : List Fact) (c : Counts) → k < length c.messages
    → Heard (get_or c.messages k no_messages) (get_or (all_counted a fs c).messages k no_messages) (all_sends k fs) (all_ends k fs)
unfolding all_counted all_sends all_ends
all-heard a k [] c l = unheard (get_or c.messages k no_messages)
all-heard a k (f ∷ fs) c l =
    then-heard (get_or c.messages k no_messages) (get_or (counted a f c).messages k no_messages)
    (get_or (all_counted a fs (counted a f c)).messages k no_messages) (sends k f) (ends k f) (all_sends k fs) (all_ends k fs)
    (counted-heard a k f c l) (all-heard a k fs (counted a f c) (subst (λ n. k < n) (sym (as-many a f c)) l))

all-as-many : (a : Node) (fs : List Fact) (c : Counts) → length (all_counted a fs c).messages ≡ length c.messages
unfolding all_counted
all-as-many a [] c = refl
all-as-many a (f ∷ fs) c = omega (arith, all-as-many a fs (counted a f c), as-many a f c)

pub event-as-many : (a : Node) (fs : List Fact) (c : Counts) → length (event_counted a fs c).messages ≡ length c.messages
unfolding event_counted event_begun
event-as-many a fs c = all-as-many a fs (event_begun c)

pub event-heard : (a : Node) (k : ℕ) (fs : List Fact) (c : Counts) → k < length c.messages
    → Heard (get_or c.messages k no_messages) (get_or (event_counted a fs c).messages k no_messages) (all_sends k fs) (all_ends k fs)
unfolding event_counted event_begun
event-heard a k fs c l = all-heard a k fs (event_begun c) l
