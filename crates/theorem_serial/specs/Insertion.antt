-- One more transaction in a serial execution: where the later transactions touch no word that it stores, they give what they
-- gave before.
use Rattle.std.specs.Prelude.{ℕ, ◌≡◌, ◌<◌, ◌≢◌, Bool, true, false, ◌||◌, ◌==◌, List, [], ◌∷◌, ◌++◌, Option, Some}
use Rattle.tcc_base.specs.declared.access.Commit.{Commit}
use Rattle.rules_program.specs.Program.{Program}
use Rattle.rules_program.specs.Orders.{last_tid}
use Rattle.rules_program.specs.Plain.{Attempt, Plain, Order, commit_of, serial, transaction}
use Rattle.theorem_serial.specs.Uses.{loads_word, stores_word}

-- a commit of the list stores, touches (loads or stores) the word
unfoldable pub commits_store : (base : ℕ) → List Commit → ℕ → Bool
commits_store base [] w = false
commits_store base (c ∷ cs) w = stores_word base c.stores w || commits_store base cs w

unfoldable pub commits_touch : (base : ℕ) → List Commit → ℕ → Bool
commits_touch base [] w = false
commits_touch base (c ∷ cs) w = (loads_word base c.loads w || stores_word base c.stores w) || commits_touch base cs w

-- an order of the list is this core's
unfoldable pub orders_core : List Order → ℕ → Bool
orders_core [] c = false
orders_core (o ∷ os) c = (o.core == c) || orders_core os c

-- every later order has a larger TID, where their TIDs rise
abbrev pub IsBelow : (tid : ℕ) → List Order → Type 0
IsBelow tid [] = Unit {0}
IsBelow tid (o ∷ os) = tid < o.tid

-- the same orders from another machine: the same commits, the same in what they changed, and all else as it was
pub record Again (base : ℕ) (os : List Order) (here there : Plain) (done : Plain × List Commit)
    (other : Option (Plain × List Commit)) : Type 0 where
  pub plain : Plain
  pub same : other ≡ Some (plain, done.1)
  pub ran : (c : ℕ) → orders_core os c ≡ true → plain.cores c ≡ done.0.cores c
  pub idle_here : (c : ℕ) → orders_core os c ≡ false → done.0.cores c ≡ here.cores c
  pub idle_there : (c : ℕ) → orders_core os c ≡ false → plain.cores c ≡ there.cores c
  pub stored : (w : ℕ) → commits_store base done.1 w ≡ true → plain.ram w ≡ done.0.ram w
  pub kept_here : (w : ℕ) → commits_store base done.1 w ≡ false → done.0.ram w ≡ here.ram w
  pub kept_there : (w : ℕ) → commits_store base done.1 w ≡ false → plain.ram w ≡ there.ram w

-- the execution with one more transaction in its midst, against the one without it
pub record Inserted (base : ℕ) (before : List Commit) (o : Order) (a : Attempt) (after : List Commit) (done without : Plain)
    (with_it : Option (Plain × List Commit)) : Type 0 where
  pub plain : Plain
  pub commits : with_it ≡ Some (plain, before ++ commit_of o a ∷ after)
  pub own_core : plain.cores o.core ≡ done.cores o.core
  pub other_cores : (c : ℕ) → c ≢ o.core → plain.cores c ≡ without.cores c
  pub stored : (w : ℕ) → stores_word base a.stores w ≡ true → plain.ram w ≡ done.ram w
  pub others : (w : ℕ) → stores_word base a.stores w ≡ false → plain.ram w ≡ without.ram w

-- What must be known to insert the order o between early and late: it is executed where early ends, its TID fits, and no later
-- transaction is its core's or touches a word that it stores.
pub record CanInsert (base : ℕ) (p : Program) (last : ℕ) (early late : List Order) (o : Order) (m start done end : Plain) (a : Attempt)
    (before after : List Commit) : Type 0 where
  pub first : serial base p last early m ≡ Some (start, before)
  pub then_late : serial base p (last_tid last early) late start ≡ Some (end, after)
  pub executed : transaction base p start o.core o.n ≡ Some (done, a)
  pub above : last_tid last early < o.tid
  pub below : IsBelow o.tid late
  pub another_core : orders_core late o.core ≡ false
  pub apart : (w : ℕ) → stores_word base a.stores w ≡ true → commits_touch base after w ≡ false
