-- The messages that a trace tells of: as sent, and as taken, dropped or kept waiting.
use Rattle.std.specs.Prelude.{ℕ, ◌≡◌, ◌⊎◌, ◌==◌, ◌&&◌, Bool, true, false, not, List, [], ◌∷◌, ◌++◌, length}
use Rattle.std.specs.Prelude.{is_some, nat_lt, IfSome, if◌then◌else◌}
use Rattle.std.specs.List.{Contains, count_by, list_any}
use Rattle.rules_maps.specs.Nodes.{Node, Msg, Event, Deliver, node_eq}
use Rattle.rules_maps.specs.Shape.{Shape}
use Rattle.rules_program.specs.Program.{Program}
use Rattle.rules_tcc.specs.Laws.{counting}
use Rattle.rules_tcc.specs.Links.{in_flight}
use Rattle.rules_tcc.specs.State.{World}
use Rattle.rules_tcc.specs.Step.{is_node, run}
use Rattle.watch.specs.Facts.{Fact, Took, Dropped, AskedOwner, Sent}
use Rattle.trace_law.specs.Told.{Told, told, facts_in, begun}

-- nothing was sent before, as at a program's start
abbrev pub NothingSent : World → Type 0
NothingSent w = (src dst : Node) → w.net src dst ≡ []

-- the number of a message that is told as sent from src to dst
abbrev pub number_in : (src dst : Node) → Fact → List ℕ
number_in src dst (Sent s d k m) = if node_eq s src && node_eq d dst then k ∷ [] else []
number_in src dst _ = []

-- in the order told
unfoldable pub numbers_in : (src dst : Node) → List Fact → List ℕ
numbers_in src dst [] = []
numbers_in src dst (f ∷ fs) = number_in src dst f ++ numbers_in src dst fs

-- the numbers from each node to each node of the machine are 0, 1, 2 and so on, one for each message that was sent
abbrev pub SentNumbered : Type 0
SentNumbered =
    (sh : Shape) (p : Program) (w : World) (es : List Event) → NothingSent w
    → IfSome (run sh p w es) (λ h. (src dst : Node) → is_node sh dst ≡ true
    → numbers_in src dst (facts_in (told sh p es (begun w))) ≡ counting 0 (length (h.world.net src dst)))

-- what became of the message is told
abbrev pub Hears : Msg → List Fact → Type 0
Hears m fs = Contains fs (Took m) ⊎ (Contains fs (Dropped m) ⊎ Contains fs (AskedOwner m))

-- it was told as sent before, with the number under which it is delivered
abbrev pub HeardWasSent : Type 0
HeardWasSent =
    (sh : Shape) (p : Program) (w : World) (es : List Event) → NothingSent w
    → (before after : List Told) (src dst : Node) (k : ℕ) (facts : List Fact) (m : Msg)
    → told sh p es (begun w) ≡ before ++ record { event = Deliver src dst k; facts = facts } ∷ after → Hears m facts
    → Contains (facts_in before) (Sent src dst k m)

abbrev pub is_delivery : (src dst : Node) → (k : ℕ) → Event → Bool
is_delivery src dst k (Deliver s d j) = node_eq s src && node_eq d dst && j == k
is_delivery src dst k _ = false

abbrev pub is_consumed : Fact → Bool
is_consumed (Took m) = true
is_consumed (Dropped m) = true
is_consumed _ = false

-- the event consumes message k from src to dst: it delivers it, and the message was taken or dropped
abbrev pub consumes : (src dst : Node) → (k : ℕ) → Told → Bool
consumes src dst k t = is_delivery src dst k t.event && list_any is_consumed t.facts

-- message k from src to dst was sent, and isn't in flight
abbrev pub is_gone : World → (src dst : Node) → (k : ℕ) → Bool
is_gone w src dst k = nat_lt k (length (w.net src dst)) && not (is_some (in_flight w.net src dst k))

-- one event consumes a message that was sent and isn't in flight, and none consumes another
abbrev pub ConsumedOnce : Type 0
ConsumedOnce =
    (sh : Shape) (p : Program) (w : World) (es : List Event) → NothingSent w
    → IfSome (run sh p w es) (λ h. (src dst : Node) (k : ℕ)
    → count_by (consumes src dst k) (told sh p es (begun w)) ≡ (if is_gone h.world src dst k then 1 else 0))
