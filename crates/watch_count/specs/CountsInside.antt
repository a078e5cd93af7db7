-- The fields of counts, and what always holds of them.
use Rattle.std.specs.Prelude.{◌≤◌, ◌^◌, length, map, All}
use Rattle.std.specs.Map.{values_of}
use Rattle.watch_count.specs.declared.counts.Counts.TheInside.{Inside}
use Rattle.watch_count.specs.Sizes.{core_size, messages_size, line_size, conflict_size}
use Rattle.watch_count.specs.KeptCores.{numbers_after}
use Rattle.watch_count.specs.Counts.{Counts}

abbrev pub counts_of : Inside → Counts
counts_of c = record {
  cores = map (numbers_after c.events) c.cores.items;
  messages = c.messages;
  lines = c.lines.entries;
  conflicts = c.conflicts.entries;
  bound = c.bound;
}

-- no number is above the bound, and there are at most 64 cores
pub record IsKept (c : Counts) : Type 0 where
  pub cores : All (λ x. core_size x ≤ c.bound) c.cores
  pub messages : All (λ x. messages_size x ≤ c.bound) c.messages
  pub lines : All (λ x. line_size x ≤ c.bound) (values_of c.lines)
  pub conflicts : All (λ x. conflict_size x ≤ c.bound) (values_of c.conflicts)
  pub small : c.bound ≤ 2 ^ 56
  pub few : length c.cores ≤ 64

-- no core came to its phase later than now, and each event has raised the bound
pub record IsInside (c : Inside) : Type 0 where
  pub kept : IsKept (counts_of c)
  pub since : All (λ k. k.since ≤ c.events) c.cores.items
  pub events : c.events ≤ c.bound
