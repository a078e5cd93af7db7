-- No number is above the bound, whatever is counted.
use Rattle.std.proofs.Common.{ℕ, ◌+◌, ◌≤◌, List, map, arith}
use Rattle.std.specs.Prelude.{All}
use Rattle.std.specs.Map.{values_of}
use Rattle.std.specs.Ordering.{nat_cmp}
use Rattle.std.proofs.lemmas.List.Elements.{All-map, All-weaker}
use Rattle.rules_maps.specs.Nodes.{Node}
use Rattle.watch.specs.Facts.{Fact}
use Rattle.watch_count.specs.Tables.{core_after, event_came}
use Rattle.watch_count.specs.Messages.{kind_of, messages_after}
use Rattle.watch_count.specs.Places.{nothing_there, line_of, line_after, no_conflict, conflict_of, conflict_after}
use Rattle.watch_count.specs.Sizes.{core_size, messages_size, line_size, conflict_size, weight}
use Rattle.watch_count.specs.Counts.{Counts, core_of, changed_if, kept_changed_if, conflict_cmp}
use Rattle.watch_count.specs.CountsInside.{IsKept}
use Rattle.watch_count.proofs.Growth.{core-grows, event-grows, messages-grow, line-grows, conflict-grows}
use Rattle.watch_count.proofs.Growth.{All-changed_if, All-kept_changed_if}

-- what is below a bound is below a greater one
pub all-below : {A : Type 0} (size : A → ℕ) (b w : ℕ) (xs : List A) → All (λ x. size x ≤ b) xs → All (λ x. size x ≤ b + w) xs
all-below size b w xs all = All-weaker (λ x. size x ≤ b) (λ x. size x ≤ b + w) (λ x h. omega arith) xs all

pub cores-kept : (a : Node) (f : Fact) (c : Counts) → IsKept c
    → All (λ x. core_size x ≤ c.bound + weight f) (changed_if (core_of a f) (core_after f) c.cores)
cores-kept a f c k =
    All-changed_if (λ x. core_size x ≤ c.bound) (λ x. core_size x ≤ c.bound + weight f) (core_after f)
    (λ x h. omega (arith, core-grows f x)) (λ x h. omega arith) (core_of a f) c.cores k.cores

pub cores-came : (c : Counts) → IsKept c → All (λ x. core_size x ≤ c.bound + 1) (map event_came c.cores)
cores-came c k =
    All-map (λ x. core_size x ≤ c.bound + 1) event_came c.cores
    (All-weaker (λ x. core_size x ≤ c.bound) (λ x. core_size (event_came x) ≤ c.bound + 1)
    (λ x h. omega (arith, event-grows x)) c.cores k.cores)

pub messages-kept : (f : Fact) (c : Counts) → IsKept c
    → All (λ x. messages_size x ≤ c.bound + weight f) (changed_if (kind_of f) (messages_after f) c.messages)
messages-kept f c k =
    All-changed_if (λ x. messages_size x ≤ c.bound) (λ x. messages_size x ≤ c.bound + weight f) (messages_after f)
    (λ x h. omega (arith, messages-grow f x)) (λ x h. omega arith) (kind_of f) c.messages k.messages

pub lines-kept : (f : Fact) (c : Counts) → IsKept c
    → All (λ x. line_size x ≤ c.bound + weight f) (values_of (kept_changed_if nat_cmp nothing_there (line_of f) (line_after f) c.lines))
unfolding line_size
lines-kept f c k =
    All-kept_changed_if nat_cmp (λ x. line_size x ≤ c.bound) (λ x. line_size x ≤ c.bound + weight f) nothing_there
    (omega arith) (line_after f)
    (λ x h. omega (arith, line-grows f x)) (λ x h. omega arith) (line_of f) c.lines k.lines

pub conflicts-kept : (f : Fact) (c : Counts) → IsKept c
    → All (λ x. conflict_size x ≤ c.bound + weight f)
    (values_of (kept_changed_if conflict_cmp no_conflict (conflict_of f) (conflict_after f) c.conflicts))
unfolding conflict_size
conflicts-kept f c k =
    All-kept_changed_if conflict_cmp (λ x. conflict_size x ≤ c.bound) (λ x. conflict_size x ≤ c.bound + weight f) no_conflict
    (omega arith)
    (conflict_after f) (λ x h. omega (arith, conflict-grows f x)) (λ x h. omega arith) (conflict_of f) c.conflicts k.conflicts
