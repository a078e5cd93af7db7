-- No other core stands in the list.
use Rattle.std.proofs.Common.{◌≡◌, ℕ, ◌≤◌, zero, suc, List, [], ◌∷◌, length, None, ap, sym, subst, arith, refl}
use Rattle.std.specs.Prelude.{slice_get}
use Rattle.image_load.specs.Contents.{started}
use Rattle.core_node.specs.declared.state.Core.{Core}
use Rattle.machine_cores.specs.Bank.{CoresData, cores_of, core_or, first_core}
use Rattle.machine_cores.specs.BankInside.{bank_of}
use Rattle.machine_cores.proofs.bank.CoreBank.core_count.Goals as goal

past : (xs : List Core) (c : ℕ) → length xs ≤ c → slice_get xs c ≡ None
past [] c l = refl
past (x ∷ xs) zero l = absurd (omega (arith, l))
past (x ∷ xs) (suc c) l = past xs c (omega (arith, l))

other : (b : CoresData) (c : ℕ) → length b.cores ≤ c → cores_of b c ≡ first_core (started b.code) c
unfolding cores_of
other b c l = ap (core_or (first_core (started b.code) c)) (past b.cores c l)

pub returns-clause-others : goal.returns-clause-others
returns-clause-others c = λ n l.
    let b = bank_of c.self.inside in
    subst (λ (k : CoresData). cores_of k n ≡ first_core (started k.code) n) c.self.view_is
    (other b n (let count = c.self.invariant.cores.count in
    let most = subst (λ (k : CoresData). k.code.settings.cores ≤ n) (sym c.self.view_is) l in omega (arith, count, most)))
