-- All that is counted of a run: sums over the facts of its events.
use Rattle.std.specs.Prelude.{ℕ, zero, suc, ◌+◌, List, [], ◌∷◌, map, replicate, Option, Some, None, unwrap_or}
use Rattle.std.specs.declared.cmp.Ordering.{Ordering}
use Rattle.std.specs.Ordering.{nat_cmp, on, then_cmp}
use Rattle.std.specs.BTreeMap.{is_at, insert_entry}
use Rattle.std.specs.Map.{lookup}
use Rattle.rules_maps.specs.Nodes.{Node, Core, Vendor, Msg, Fill}
use Rattle.watch.specs.Facts.{Fact, Did, Missed, Overflowed, Evicted, Took, Violated, GaveUp, Committed, CameTo, Sent}
use Rattle.watch_count.specs.declared.tables.CoreCounts.{CoreCounts}
use Rattle.watch_count.specs.declared.messages.MessageCounts.{MessageCounts}
use Rattle.watch_count.specs.declared.places.LineCounts.{LineCounts}
use Rattle.watch_count.specs.declared.places.Conflict.{Conflict}
use Rattle.watch_count.specs.declared.places.ConflictCounts.{ConflictCounts}
use Rattle.watch_count.specs.Tables.{nothing, core_after, event_came}
use Rattle.watch_count.specs.Messages.{no_messages, kind_of, messages_after}
use Rattle.watch_count.specs.Places.{nothing_there, line_of, line_after, no_conflict, conflict_of, conflict_after}
use Rattle.watch_count.specs.Sizes.{weight}

pub record Counts : Type 0 where
  pub cores : List CoreCounts  -- by number
  pub messages : List MessageCounts  -- by kind
  pub lines : List (ℕ × LineCounts)  -- by rising number
  pub conflicts : List (Conflict × ConflictCounts)  -- in their order
  pub bound : ℕ  -- no number is above this

abbrev pub core_taking : Node → Option ℕ
core_taking (Core c) = Some c
core_taking _ = None

-- the core that a fact counts for; what was taken was taken by the node that acts
abbrev pub core_of : (actor : Node) → Fact → Option ℕ
core_of a (Did c pc d) = Some c
core_of a (Missed c pc addr l) = Some c
core_of a (Overflowed c pc addr l) = Some c
core_of a (Evicted c l dirty modified) = Some c
core_of a (Took (Fill l ws)) = core_taking a
core_of a (Violated c by t l words lost p) = Some c
core_of a (GaveUp t c) = Some c
core_of a (Committed t c n) = Some c
core_of a (CameTo c p) = Some c
core_of _ _ = None

-- the element at a place is changed, where there is one
unfoldable pub changed : {A : Type 0} → ℕ → (A → A) → List A → List A
changed k f [] = []
changed zero f (x ∷ xs) = f x ∷ xs
changed (suc k) f (x ∷ xs) = x ∷ changed k f xs

abbrev pub changed_if : {A : Type 0} → Option ℕ → (A → A) → List A → List A
changed_if None f xs = xs
changed_if (Some k) f xs = changed k f xs

-- what is kept of a key is changed, in order; `fresh` is what is kept of a key that is new
unfoldable pub kept_changed : {K X : Type 0} → (K → K → Ordering) → (fresh : X) → K → (X → X) → List (K × X) → List (K × X)
kept_changed cmp fresh k f entries = insert_entry cmp entries k (f (unwrap_or (lookup (is_at (cmp k)) entries) fresh))

abbrev pub kept_changed_if : {K X : Type 0} → (K → K → Ordering) → (fresh : X) → Option K → (X → X) → List (K × X) → List (K × X)
kept_changed_if cmp fresh None f entries = entries
kept_changed_if cmp fresh (Some k) f entries = kept_changed cmp fresh k f entries

-- by who committed, who was violated, and line
abbrev pub conflict_cmp : Conflict → Conflict → Ordering
conflict_cmp = then_cmp (on (λ c. c.by) nat_cmp) (then_cmp (on (λ c. c.victim) nat_cmp) (on (λ c. c.line) nat_cmp))

-- nothing has happened
unfoldable pub nothing_counted : (cores : ℕ) → Counts
nothing_counted n = record { cores = replicate n nothing; messages = replicate 15 no_messages; lines = []; conflicts = []; bound = 0 }

-- one fact of an event of this node
unfoldable pub counted : (actor : Node) → Fact → Counts → Counts
counted a f c = record {
  cores = changed_if (core_of a f) (core_after f) c.cores;
  messages = changed_if (kind_of f) (messages_after f) c.messages;
  lines = kept_changed_if nat_cmp nothing_there (line_of f) (line_after f) c.lines;
  conflicts = kept_changed_if conflict_cmp no_conflict (conflict_of f) (conflict_after f) c.conflicts;
  bound = c.bound + weight f;
}

unfoldable pub all_counted : (actor : Node) → List Fact → Counts → Counts
all_counted a [] c = c
all_counted a (f ∷ fs) c = all_counted a fs (counted a f c)

-- a message was sent: what it adds depends on its kind alone, not on who sent it to whom, nor on its number
unfoldable pub message_sent : Counts → Msg → Counts
message_sent c m = counted Vendor (Sent Vendor Vendor 0 m) c

-- an event comes
unfoldable pub event_begun : Counts → Counts
event_begun c = record c { cores = map event_came c.cores; bound = c.bound + 1 }

-- an event of this node with these facts
unfoldable pub event_counted : (actor : Node) → List Fact → Counts → Counts
event_counted a fs c = all_counted a fs (event_begun c)

-- the events of a run, each with its node and its facts
unfoldable pub run_counted : List (Node × List Fact) → Counts → Counts
run_counted [] c = c
run_counted (e ∷ es) c = run_counted es (event_counted e.0 e.1 c)
