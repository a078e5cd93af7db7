-- What a call answers, in the words of the rules.
use Rattle.std.specs.Prelude.{◌≡◌, ◌≢◌, Option, Some, None, Result, Ok, Err}
use Rattle.tcc_msg.specs.Plain.{sends_of}
use Rattle.tcc_msg.specs.declared.outgoing.Outgoing.{Outgoing}
use Rattle.rules_tcc.specs.Attempt.{Out}
use Rattle.commit_engine.specs.Sent.{followed}
use Rattle.core_node.specs.View.{core_of}
use Rattle.core_node.specs.declared.state.Core.{Core}
use Rattle.core_node.specs.declared.delivering.CoreError.{CoreError}
use Rattle.core_node.specs.declared.delivering.CoreError.TheVariants.{Blocked, Memory}

-- a rule's event happened: the core is what the rule says, and so is what was sent to each node, in order
pub record HappenedAs (o : Out) (before : Outgoing) (new : Core) (out : Outgoing) : Type 0 where
  pub core : core_of new ≡ o.core
  pub sends : sends_of out.list.items ≡ followed (sends_of before.list.items) o.sends

abbrev pub Happened : Option Out → Outgoing → Core → Outgoing → Type 0
Happened None before new out = ⊥
Happened (Some o) before new out = HappenedAs o before new out

-- blocked exactly where the rules have no event
abbrev pub IsBlocked : {A : Type 0} → Result A CoreError → Option Out → Type 0
IsBlocked (Ok x) o = o ≢ None
IsBlocked (Err Blocked) o = o ≡ None
IsBlocked (Err Memory) o = o ≢ None

-- it was memory that was wanted
abbrev pub IsMemory : {A : Type 0} → Result A CoreError → Type 0
IsMemory (Ok x) = Unit {0}
IsMemory (Err Blocked) = ⊥
IsMemory (Err Memory) = Unit {0}
