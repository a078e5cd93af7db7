-- What an execution answers, and what an instruction leaves in an attempt, in the words of the rules.
use Rattle.std.specs.Prelude.{ℕ, Bool, true, false, ◌||◌, is_some, ◌≡◌, ◌+◌, ◌%◌, [], ◌∷◌, ◌++◌, Option, Some, None, Result}
use Rattle.std.specs.Prelude.{IfOk, OnOk, OnErr}
use Rattle.rv_exec.specs.declared.need.Need.{Need as CodeNeed}
use Rattle.rv_exec.specs.declared.need.Need.TheVariants as code
use Rattle.tcc_base.specs.Bytes.{bytes_of}
use Rattle.tcc_base.specs.declared.access.Commit.{Commit}
use Rattle.tcc_base.specs.declared.access.Size.TheVariants.{Word}
use Rattle.tcc_msg.specs.declared.outgoing.Outgoing.{Outgoing}
use Rattle.rules_program.specs.Program.{Local, Need, Loads, Stores, Changes, Prints, Ends, Halts, Traps}
use Rattle.rules_program.specs.Plain.{Outcome, load_of, store_of}
use Rattle.rules_program.specs.Ram.{part}
use Rattle.commit_engine.specs.Engine.{overflows}
use Rattle.rules_tcc.specs.State.{CoreState}
use Rattle.rules_tcc.specs.Attempt.{Out, moves}
use Rattle.rules_tcc.specs.Sends.{nothing}
use Rattle.core_node.specs.Answers.{Happened, IsBlocked}
use Rattle.core_node.specs.View.{Did, Stays, core_of}
use Rattle.core_node.specs.declared.delivering.CoreError.{CoreError}
use Rattle.core_node.specs.declared.exec.Executed.{Executed}
use Rattle.core_node.specs.declared.exec.Executed.TheVariants.{Stepped, Asked, Committed}
use Rattle.core_node.specs.declared.state.Core.{Core}

-- a rule's event happened
abbrev pub DidSome : Option Out → (most : ℕ) → Outgoing → Core → Outgoing → Type 0
DidSome None most before new out = ⊥
DidSome (Some o) most before new out = Did o most before new out

-- this is what is noted of a rule's event
abbrev pub Notes : Option Commit → Option Out → Type 0
Notes c None = ⊥
Notes c (Some o) = c ≡ o.commit

-- the bytes that an instruction loads from the word that it found
abbrev pub given : Need → (x : ℕ) → Option ℕ
given (Loads addr size) x = Some (part x addr size)
given (Changes addr changed) x = Some (part x addr Word)
given _ x = None

-- what an instruction loads, stores and prints is noted
abbrev pub noted : Need → (x : ℕ) → CoreState → CoreState
noted (Loads addr size) x s = record s { loads = s.loads ++ load_of addr size (part x addr size) ∷ [] }
noted (Stores addr size value) x s = record s { stores = s.stores ++ store_of addr size value ∷ [] }
noted (Changes addr changed) x s = record s {
  loads = s.loads ++ load_of addr Word (part x addr Word) ∷ [];
  stores = s.stores ++ store_of addr Word (changed (part x addr Word)) ∷ [];
}
noted (Prints byte) x s = record s { console = s.console ++ byte ∷ [] }
noted _ x s = s

-- the access is at a multiple of its size
abbrev pub IsAligned : CodeNeed → Type 0
IsAligned (code.Load addr size) = addr % bytes_of size ≡ 0
IsAligned (code.Store addr size value) = addr % bytes_of size ≡ 0
IsAligned (code.Amo addr op value) = addr % 4 ≡ 0
IsAligned _ = Unit {0}

-- the transaction goes on after it
abbrev pub GoesOn : Need → Type 0
GoesOn Ends = ⊥
GoesOn (Halts code) = ⊥
GoesOn (Traps code) = ⊥
GoesOn _ = Unit {0}

-- an instruction is counted, and ends its transaction with these registers and pc
unfoldable pub concluded : Local → Outcome → CoreState → CoreState
concluded l o s = record s { n = s.n + 1; local = l; ended = o }

-- a line, or a TID to go on alone, is awaited
abbrev pub asks : CoreState → Bool
asks s = overflows s.phase || is_some s.awaited

-- what an execution tells that left this state and noted this
abbrev pub Tells : Executed → CoreState → Option Commit → Type 0
Tells Stepped s noted = (noted ≡ None) × (asks s ≡ false)
Tells Asked s noted = (noted ≡ None) × (asks s ≡ true)
Tells (Committed c) s noted = noted ≡ Some c

-- an event happened, and it is what an execution tells
abbrev pub TellsOfEvent : Executed → Option Out → Type 0
TellsOfEvent e None = ⊥
TellsOfEvent e (Some o) = Tells e o.core o.commit

-- done at once: a rule's event happened that sends and notes nothing; or else the state is as before
abbrev pub AtOnce : Bool → Option Out → (old new : CoreState) → Type 0
AtOnce true o old new = o ≡ Some (moves new nothing)
AtOnce false o old new = new ≡ old

-- What a call answers that tries a rule's event: where the event happened, what the rule says of core, messages and what is noted; blocked
-- exactly where the rule has none; and after an error the core is as before, and nothing was sent.
pub record IsExecution (rule : Option Out) (old new : Core) (before out : Outgoing) (r : Result (Option Commit) CoreError) : Type 0 where
  pub does : OnOk r (Happened rule before new out)
  pub noted : IfOk r (λ c. Notes c rule)
  pub blocked : IsBlocked r rule
  pub stays : Stays old new
  pub unchanged : OnErr r (core_of new ≡ core_of old)
  pub unsent : OnErr r (out.list.items ≡ before.list.items)
