-- Each instruction of a program has its immediate in range, and the loop is short.
use Rattle.std.proofs.Common.{◌≡◌, ℕ, pos, neg_ℤ, ◌+◌, ◌*◌, ◌≤◌, List, [], ◌∷◌, ◌++◌, length, suc, refl, rules, arith}
use Rattle.std.specs.List.{All}
use Rattle.std.proofs.lemmas.Int.{ints}
use Rattle.std.proofs.lemmas.List.Elements.{All-cons, All-append, All-from_recursion}
use Rattle.rv_decode.specs.Table.{IsBranchOffset, IsInRange}
use Rattle.rv_decode.specs.declared.instruction.Inst.{Inst}
use Rattle.rv_decode.specs.declared.instruction.Inst.TheVariants.{Lui, Branch, Ecall}
use Rattle.rv_decode.specs.declared.instruction.Cond.TheVariants.{Bne}
use Rattle.work_gen.specs.Programs.{addi, body, program}
use Rattle.work_gen.specs.declared.work.Work.{Work}
use Rattle.work_gen.specs.declared.work.Work.TheVariants.{Counters, Transfers, Stencil, Sharing}

pub length-body : (work : Work) → length (body work) ≤ 13
unfolding body
length-body Counters = omega arith
length-body Transfers = omega arith
length-body Stencil = omega arith
length-body Sharing = omega arith

pub body-in_range : (work : Work) → All IsInRange (body work)
unfolding body
body-in_range Counters = All-from_recursion IsInRange (body Counters) (search rules)
body-in_range Transfers = All-from_recursion IsInRange (body Transfers) (search rules)
body-in_range Stencil = All-from_recursion IsInRange (body Stencil) (search rules)
body-in_range Sharing = All-from_recursion IsInRange (body Sharing) (search rules)

-- the branch goes back by less than 4096
back-in_range : (n : ℕ) → n ≤ 13 → IsBranchOffset (neg_ℤ (pos (4 * (n + 2))))
back-in_range n short =
    let e : 4 * (n + 2) ≡ suc (4 * n + 7) = omega arith in
    rw e ((omega (arith, ints), omega (arith, ints)), omega arith)

-- the end of a program, behind so many instructions
unfoldable pub ending : ℕ → List Inst
ending n = Ecall ∷ addi 7 7 (neg_ℤ (pos 1)) ∷ Branch Bne 7 0 (neg_ℤ (pos (4 * (n + 2)))) ∷ addi 17 0 (pos 93) ∷ Ecall ∷ []

ending-in_range : (n : ℕ) → n ≤ 13 → All IsInRange (ending n)
unfolding ending
ending-in_range n short =
    All-from_recursion IsInRange (ending n)
    (tt, ((omega (arith, ints), omega (arith, ints)), (back-in_range n short, ((omega (arith, ints), omega (arith, ints)), (tt, tt)))))

pub program-in_range : (work : Work) (number : ℕ) → number ≤ 2047 → All IsInRange (program work number)
unfolding program ending
program-in_range work number most =
    let rest : List Inst = body work ++ ending (length (body work)) in
    All-cons IsInRange (Lui 6 0x80000000) (addi 7 0 (pos number) ∷ rest) refl
    (All-cons IsInRange (addi 7 0 (pos number)) rest (omega (arith, ints), omega (arith, ints))
    (All-append IsInRange (body work) (ending (length (body work))) (body-in_range work)
    (ending-in_range (length (body work)) (length-body work))))
