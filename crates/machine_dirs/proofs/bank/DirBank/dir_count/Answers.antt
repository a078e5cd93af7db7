-- No other directory stands in the list.
use Rattle.std.proofs.Common.{◌≡◌, ℕ, ◌≤◌, zero, suc, List, [], ◌∷◌, length, None, ap, sym, subst, arith, refl}
use Rattle.std.specs.Prelude.{slice_get}
use Rattle.rules_tcc.specs.State.{dir_start}
use Rattle.directory.specs.Data.{DirData}
use Rattle.machine_dirs.specs.Bank.{DirsData, dir_or, dirs_of}
use Rattle.machine_dirs.specs.BankInside.{bank_of}
use Rattle.machine_dirs.proofs.bank.DirBank.dir_count.Goals as goal

past : (xs : List DirData) (d : ℕ) → length xs ≤ d → slice_get xs d ≡ None
past [] d l = refl
past (x ∷ xs) zero l = absurd (omega (arith, l))
past (x ∷ xs) (suc d) l = past xs d (omega (arith, l))

other : (ram : ℕ → ℕ) (b : DirsData) (d : ℕ) → length b.dirs ≤ d → dirs_of ram b d ≡ dir_start ram
unfolding dirs_of
other ram b d l = ap (dir_or ram) (past b.dirs d l)

pub returns-clause-others : goal.returns-clause-others
returns-clause-others c = λ ram n l.
    let b = bank_of c.self.inside in
    subst (λ (k : DirsData). dirs_of ram k n ≡ dir_start ram) c.self.view_is
    (other ram b n (let count = c.self.invariant.dirs.count in
    let most = subst (λ (k : DirsData). k.settings.dirs ≤ n) (sym c.self.view_is) l in omega (arith, count, most)))
