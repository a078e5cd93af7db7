-- A core of the code as the state that the rules speak of.
use Rattle.std.specs.Prelude.{ℕ, ◌≡◌, ◌<◌, true, length, Option, Some, None}
use Rattle.tcc_base.specs.Settings.{Settings}
use Rattle.tcc_base.specs.declared.names.NodeId.{NodeId}
use Rattle.tcc_base.specs.declared.names.NodeId.TheVariants as code_node
use Rattle.rules_maps.specs.Cache.{Cache}
use Rattle.rules_maps.specs.Masks.{has}
use Rattle.tcc_msg.specs.declared.outgoing.Outgoing.{Outgoing}
use Rattle.rules_tcc.specs.State as rules
use Rattle.rules_tcc.specs.Attempt.{Out}
use Rattle.spec_cache.specs.Held.{maps}
use Rattle.overflow_buf.specs.Kept.{spilled}
use Rattle.rv_exec.specs.Outcomes.{outcome_of}
use Rattle.commit_engine.specs.Engine.{phase_of, after_of}
use Rattle.commit_engine.specs.Sent.{Sent}
use Rattle.core_node.specs.declared.state.Core.{Core}
use Rattle.core_node.specs.declared.state.Awaited.{Awaited}

abbrev pub awaited_of : Option Awaited → Option rules.Awaited
awaited_of None = None
awaited_of (Some a) = Some (record { line = a.line.0; stale = a.stale })

unfoldable pub core_of : Core → rules.CoreState
core_of c = record {
  local = c.state;
  saved = c.check;
  n = c.n;
  loads = c.loads;
  stores = c.stores;
  console = c.console;
  ended = outcome_of c.ended;
  phase = phase_of c.phase;
  owing = has c.owing.bits;
  cache = maps c.cache;
  spilled = spilled c.spilled;
  awaited = awaited_of c.awaited;
  last_commit = after_of c.after;
}

-- the line that is awaited has a frame
abbrev pub AwaitsFrame : Cache → Option Awaited → Type 0
AwaitsFrame c None = Unit {0}
AwaitsFrame c (Some a) = c.held a.line.0 ≡ true

-- what holds of every core
pub record IsCore (c : Core) : Type 0 where
  pub cache : c.cache.config ≡ c.config
  pub awaited : AwaitsFrame (maps c.cache) c.awaited
  pub after : length c.after ≡ 64

-- the core and what was sent are as a rule says, with at most so many messages
pub record Did (o : Out) (most : ℕ) (before : Outgoing) (new : Core) (out : Outgoing) : Type 0 where
  pub core : core_of new ≡ o.core
  pub sent : Sent before out o.sends most

-- the settings and the core's number stay, and what holds of every core
pub record Stays (old new : Core) : Type 0 where
  pub config : new.config ≡ old.config
  pub id : new.id ≡ old.id
  pub whole : IsCore new

-- a sender that exists
abbrev pub IsKnown : Settings → NodeId → Type 0
IsKnown s (code_node.Core c) = Unit {0}
IsKnown s (code_node.Dir d) = d.0 < s.dirs
IsKnown s code_node.Vendor = Unit {0}
