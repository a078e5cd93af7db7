-- The results of a program: the states in which all cores have ended, and what two of them have in common.
use Rattle.std.specs.Prelude.{ℕ, ◌≡◌, ◌<◌, List, All, map, length, slice_index, slice_index_or}
use Rattle.std.specs.List.{fold}
use Rattle.run_outcomes.specs.Chains.{AreChained}
use Rattle.run_outcomes.specs.Digests.{mixed, mixed_bytes, mixed_changes, end_digest, state_digest}
use Rattle.run_outcomes.specs.Explored.{state_at}
use Rattle.run_outcomes.specs.HowMany.{HowMany}
use Rattle.run_outcomes.specs.declared.outcomes.Groups.{Groups}
use Rattle.run_outcomes.specs.declared.outcomes.Tell.{Tell}
use Rattle.run_outcomes.specs.declared.outcomes.Tell.TheVariants.{Consoles, Memory, Everything}
use Rattle.run_outcomes.specs.declared.states.Snapshot.{Snapshot}
use Rattle.rv_plain.specs.declared.plain.CoreState.{CoreState}
use Rattle.tcc_base.specs.declared.access.CoreEnd.{CoreEnd}
use Rattle.tcc_base.specs.declared.access.CoreEnd.TheVariants.{Run}

-- a core has ended
abbrev pub HasStopped : CoreState → Type 0
HasStopped core = core.ended ≡ Run → ⊥

-- all cores have ended
abbrev pub IsEnd : Snapshot → Type 0
IsEnd s = All HasStopped s.cores

-- how a core ended and what it has printed
abbrev pub told_core : CoreState → CoreEnd × List ℕ
told_core core = (core.ended, core.console)

-- two states tell the same: of each core how it ended and what it has printed; and RAM too; or all that they hold
abbrev pub AreAlike : Tell → Snapshot → Snapshot → Type 0
AreAlike Consoles a b = map told_core a.cores ≡ map told_core b.cores
AreAlike Memory a b = (map told_core a.cores ≡ map told_core b.cores) × (a.changes ≡ b.changes)
AreAlike Everything a b = a ≡ b

-- one of these numbers is that of a state which tells the same as state k
abbrev pub IsTold : Tell → List Snapshot → (firsts : List ℕ) → (k : ℕ) → Type 0
IsTold tell states firsts k =
    (i : ℕ) × (i < length firsts) × AreAlike tell (state_at states (slice_index_or firsts i 0)) (state_at states k)

-- these are the numbers of states in which all cores have ended
abbrev pub AreEnds : List Snapshot → (firsts : List ℕ) → Type 0
AreEnds states firsts = All (λ k. (k < length states) × IsEnd (state_at states k)) firsts

-- no two of these numbers are those of states that tell the same
abbrev pub AreApart : Tell → List Snapshot → (firsts : List ℕ) → Type 0
AreApart tell states firsts =
    (i j : ℕ) → i < length firsts → j < length firsts
    → AreAlike tell (state_at states (slice_index firsts i)) (state_at states (slice_index firsts j)) → i ≡ j

-- all cores have ended in state k, and it tells the same as the first one
abbrev pub Tells : Tell → List Snapshot → (first k : ℕ) → Type 0
Tells tell states first k = IsEnd (state_at states k) × AreAlike tell (state_at states first) (state_at states k)

-- each of these results has the number of the first state that tells it
abbrev pub AreLeast : Tell → List Snapshot → (firsts : List ℕ) → Type 0
AreLeast tell states firsts =
    (i : ℕ) → i < length firsts → (k : ℕ) → k < slice_index firsts i → Tells tell states (slice_index firsts i) k → ⊥

-- of each of these results it is counted how many of the first n states tell it
abbrev pub AreCounted : Tell → List Snapshot → (firsts counts : List ℕ) → (n : ℕ) → Type 0
AreCounted tell states firsts counts n =
    (i : ℕ) → i < length firsts → HowMany (Tells tell states (slice_index firsts i)) n (slice_index counts i)

unfoldable pub mixed_told : List CoreState → ℕ
mixed_told cores = fold (λ s core. mixed_bytes (mixed s (end_digest core.ended)) core.console) 0 cores

-- a digest that states which tell the same have in common
unfoldable pub told_digest : Tell → Snapshot → ℕ
told_digest Consoles s = mixed_told s.cores
told_digest Memory s = mixed_changes (mixed_told s.cores) s.changes
told_digest Everything s = state_digest s

-- the results among the first n states
pub record AreGroups (tell : Tell) (states : List Snapshot) (g : Groups) (n : ℕ) : Type 0 where
  pub ends : AreEnds states g.firsts
  pub told : (k : ℕ) → k < n → IsEnd (state_at states k) → IsTold tell states g.firsts k
  pub apart : AreApart tell states g.firsts
  pub least : AreLeast tell states g.firsts
  pub counted : length g.counts ≡ length g.firsts
  pub counts : AreCounted tell states g.firsts g.counts n
  pub chained : AreChained (map (λ k. told_digest tell (state_at states k)) g.firsts) g.chains
