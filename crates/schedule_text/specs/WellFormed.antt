-- Which schedules have a text: those that a machine of these settings could have run, as far as names and numbers tell.
use Rattle.std.specs.Prelude.{length, Bool, true, false, ◌<◌, ◌≤◌, ◌^◌, IsTrue, All}
use Rattle.tcc_base.specs.Limits.{text_limit}
use Rattle.tcc_base.specs.Settings.{Settings, IsAllowed}
use Rattle.tcc_base.specs.declared.names.NodeId.{NodeId}
use Rattle.tcc_base.specs.declared.names.NodeId.TheVariants.{Core, Dir, Vendor}
use Rattle.tcc_msg.specs.declared.event.Event.{Event}
use Rattle.tcc_msg.specs.declared.event.Event.TheVariants.{Exec, Evict, Deliver}
use Rattle.tcc_msg.specs.declared.event.Schedule.{Schedule}

-- the machine has this node
abbrev pub IsNode : Settings → NodeId → Type 0
IsNode config (Core core) = core.0 < config.cores
IsNode config (Dir dir) = dir.0 < config.dirs
IsNode config Vendor = Unit {0}

-- exactly one of two nodes is a core
abbrev pub one_is_core : NodeId → NodeId → Bool
one_is_core (Core a) (Core b) = false
one_is_core (Core a) b = true
one_is_core a (Core b) = true
one_is_core a b = false

-- the machine has the core, the set, the way, and the link that the event names, and the number on the link is below 2^62
abbrev pub Names : Settings → Event → Type 0
Names config (Exec core) = core.0 < config.cores
Names config (Evict core set way) = (core.0 < config.cores) × (set < config.sets) × (way < config.ways)
Names config (Deliver name) =
    IsNode config name.src × IsNode config name.dst × IsTrue (one_is_core name.src name.dst) × (name.seq < 2 ^ 62)

-- the schedules that have a text
pub record IsWellFormed (s : Schedule) : Type 0 where
  pub allowed : IsAllowed s.config
  pub count : length s.events ≤ text_limit
  pub named : All (Names s.config) s.events
