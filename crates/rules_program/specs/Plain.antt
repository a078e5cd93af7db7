-- The plain machine: one flat memory, one core at a time, no cache. What one instruction does, what a transaction is, and
-- what executing transactions one after another gives.
use Rattle.std.specs.Prelude.{ℕ, zero, suc, List, [], ◌∷◌, ◌++◌, Option, Some, None, nat_lt, if◌then◌else◌}
use Rattle.tcc_base.specs.Put.{put}
use Rattle.tcc_base.specs.declared.access.Commit.{Commit}
use Rattle.tcc_base.specs.declared.access.CoreEnd.{CoreEnd}
use Rattle.tcc_base.specs.declared.access.CoreEnd.TheVariants.{Run, Halt, Trap}
use Rattle.tcc_base.specs.declared.access.Load.{Load}
use Rattle.tcc_base.specs.declared.access.Size.{Size}
use Rattle.tcc_base.specs.declared.access.Size.TheVariants.{Word}
use Rattle.tcc_base.specs.declared.access.Stored.{Stored}
use Rattle.rules_program.specs.Program.{Local, unreserved, Need, Nothing, Loads, Stores, Changes, Prints, Ends, Halts, Traps, Program}
use Rattle.rules_program.specs.Ram.{loaded, stored}

-- how an instruction leaves its transaction
pub data Outcome : Type 0 where
  Goes : Outcome
  Ended : Outcome
  Halted : (code : ℕ) → Outcome
  Trapped : (code : ℕ) → Outcome

-- a transaction on its way: the core's state, the memory as it sees it, what it did so far and how its last instruction left it
pub record Attempt : Type 0 where
  pub local : Local
  pub ram : ℕ → ℕ
  pub loads : List Load
  pub stores : List Stored
  pub console : List ℕ
  pub outcome : Outcome

abbrev pub load_of : ℕ → Size → ℕ → Load
load_of addr size value = record { addr = addr; size = size; value = value }

abbrev pub store_of : ℕ → Size → ℕ → Stored
store_of addr size value = record { addr = addr; size = size; value = value }

-- one instruction that needs this
abbrev pub stepped : (base : ℕ) → Program → Attempt → Need → Attempt
stepped base p a Nothing = record a { local = p.after a.local None }
stepped base p a (Loads addr size) =
    let value = loaded base a.ram addr size in
    record a { local = p.after a.local (Some value); loads = a.loads ++ load_of addr size value ∷ [] }
stepped base p a (Stores addr size value) =
    record a {
      local = p.after a.local None;
      ram = stored base a.ram addr size value;
      stores = a.stores ++ store_of addr size value ∷ [];
    }
stepped base p a (Changes addr changed) =
    let value = loaded base a.ram addr Word in
    record a {
      local = p.after a.local (Some value);
      ram = stored base a.ram addr Word (changed value);
      loads = a.loads ++ load_of addr Word value ∷ [];
      stores = a.stores ++ store_of addr Word (changed value) ∷ [];
    }
stepped base p a (Prints byte) = record a { local = p.after a.local None; console = a.console ++ byte ∷ [] }
stepped base p a Ends = record a { local = unreserved (p.after a.local None); outcome = Ended }
stepped base p a (Halts code) = record a { local = unreserved a.local; outcome = Halted code }
stepped base p a (Traps code) = record a { local = unreserved a.local; outcome = Trapped code }

unfoldable pub plain_step : (base : ℕ) → Program → Attempt → Attempt
plain_step base p a = stepped base p a (p.need a.local)

-- a further instruction, where the one before it goes on
abbrev pub when_going : (base : ℕ) → Program → Attempt → Outcome → Option Attempt
when_going base p a Goes = Some (plain_step base p a)
when_going base p a Ended = None
when_going base p a (Halted code) = None
when_going base p a (Trapped code) = None

abbrev pub then_step : (base : ℕ) → Program → Option Attempt → Option Attempt
then_step base p None = None
then_step base p (Some a) = when_going base p a a.outcome

-- n instructions of which all but the last go on
unfoldable pub steps : (base : ℕ) → Program → (n : ℕ) → Attempt → Option Attempt
steps base p zero a = Some a
steps base p (suc n) a = then_step base p (steps base p n a)

pub record PlainCore : Type 0 where
  pub local : Local
  pub ended : CoreEnd
  pub console : List ℕ

pub record Plain : Type 0 where
  pub ram : ℕ → ℕ
  pub cores : ℕ → PlainCore

-- the attempt with which a core's transaction begins
unfoldable pub begun : Local → (ℕ → ℕ) → Attempt
begun local ram = record { local = local; ram = ram; loads = []; stores = []; console = []; outcome = Goes }

-- the machine after a core's transaction
unfoldable pub closed : Plain → (core : ℕ) → Attempt → CoreEnd → Plain
closed m core a ended = record {
  ram = a.ram;
  cores = put m.cores core (record { local = a.local; ended = ended; console = (m.cores core).console ++ a.console });
}

-- how the core stands after a transaction that left it so; None where it hasn't ended
abbrev pub end_of : Outcome → Option CoreEnd
end_of Goes = None
end_of Ended = Some Run
end_of (Halted code) = Some (Halt code)
end_of (Trapped code) = Some (Trap code)

abbrev pub close : Plain → (core : ℕ) → Attempt → Option CoreEnd → Option (Plain × Attempt)
close m core a None = None
close m core a (Some ended) = Some (closed m core a ended, a)

abbrev pub close_if : Plain → (core : ℕ) → Option Attempt → Option (Plain × Attempt)
close_if m core None = None
close_if m core (Some a) = close m core a (end_of a.outcome)

abbrev pub if_runs : {A : Type 0} → CoreEnd → Option A → Option A
if_runs Run x = x
if_runs (Halt code) x = None
if_runs (Trap code) x = None

-- n instructions of the core, of which the n-th ends its transaction and no earlier one does: the machine after it and what
-- the transaction did; None where it isn't so or the core has halted
unfoldable pub transaction : (base : ℕ) → Program → Plain → (core n : ℕ) → Option (Plain × Attempt)
transaction base p m core n =
    let c = m.cores core in
    if_runs c.ended (close_if m core (steps base p n (begun c.local m.ram)))

-- which core commits how many instructions under which TID
pub record Order : Type 0 where
  pub tid : ℕ
  pub core : ℕ
  pub n : ℕ

unfoldable pub commit_of : Order → Attempt → Commit
commit_of o a = record {
  tid = record { 0 = o.tid };
  core = record { 0 = o.core };
  n = o.n;
  loads = a.loads;
  stores = a.stores;
  console = a.console;
}

abbrev pub and_commit : Commit → Option (Plain × List Commit) → Option (Plain × List Commit)
and_commit c None = None
and_commit c (Some rest) = Some (rest.0, c ∷ rest.1)

abbrev pub after_order : (rest : Plain → Option (Plain × List Commit)) → Order → Option (Plain × Attempt) → Option (Plain × List Commit)
after_order rest o None = None
after_order rest o (Some done) = and_commit (commit_of o done.1) (rest done.0)

-- the transactions of the orders from first to last, their TIDs rising from above `last`: the machine at the end and the commits
unfoldable pub serial : (base : ℕ) → Program → (last : ℕ) → List Order → Plain → Option (Plain × List Commit)
serial base p last [] m = Some (m, [])
serial base p last (o ∷ os) m =
    (if nat_lt last o.tid then after_order (serial base p o.tid os) o (transaction base p m o.core o.n) else None)
