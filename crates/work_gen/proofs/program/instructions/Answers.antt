use Rattle.std.proofs.Common.{◌≡◌, ◌+◌, ◌*◌, ◌++◌, [], ◌∷◌, length, pos, neg_ℤ, refl, ap, ◌∙◌, subst, sym, arith, rules}
use Rattle.std.proofs.Common.{length-append}
use Rattle.std.specs.List.{All}
use Rattle.std.proofs.lemmas.Int.{ints}
use Rattle.rv_decode.specs.Table.{IsInRange}
use Rattle.rv_decode.specs.declared.instruction.Inst.TheVariants.{Lui, Branch, Ecall}
use Rattle.rv_decode.specs.declared.instruction.Cond.TheVariants.{Bne}
use Rattle.work_gen.specs.Programs.{addi, body, program}
use Rattle.work_gen.proofs.Ranges.{length-body, program-in_range}
use Rattle.work_gen.proofs.program.instructions.Goals as goal
use Rattle.work_gen.proofs.program.instructions.Goals.{After-len}

-- how many instructions stand before the end
length_before : (c : goal.After-len) → c.len.result ≡ length (body c.args.kind) + 2
length_before c =
    let head : c.extend_from_slice.new.self.items ≡ c.lui.result ∷ c.addi.result ∷ [] = search rules in
    let all : c.add_body.new.insts.items ≡ c.extend_from_slice.new.self.items ++ body c.args.kind = c.in_ok-add_body.ensures in
    let total : length c.add_body.new.insts.items ≡ length c.extend_from_slice.new.self.items + length (body c.args.kind) =
    ap length all ∙ length-append c.extend_from_slice.new.self.items (body c.args.kind) in
    let two : length c.extend_from_slice.new.self.items ≡ 2 = ap length head in
    omega (arith, total, two, c.len.ensures, c.add_body.new.insts.ok)

pub bytes_of-back-requires : goal.bytes_of-back-requires
bytes_of-back-requires c = omega (arith, length_before c, length-body c.args.kind)

is_program : (c : goal.In_ok-extend_from_slice-2) → c.len.result ≡ length (body c.args.kind) + 2
    → c.extend_from_slice-2.new.self.items ≡ program c.args.kind c.args.number
unfolding program
is_program c len =
    let first : c.lui.result ≡ Lui 6 2147483648 = search rules in
    let count : c.addi.result ≡ addi 7 0 (pos c.args.number) = search (rules, ints) in
    let less : c.addi-2.result ≡ addi 7 7 (neg_ℤ (pos 1)) = search (rules, ints) in
    let back : c.bne.result ≡ Branch Bne 7 0 (neg_ℤ (pos (4 * (length (body c.args.kind) + 2)))) =
    c.bne.ensures ∙ ap (Branch Bne 7 0) (omega (arith, ints, len, c.bytes_of-back.ensures)) in
    let code : c.addi-3.result ≡ addi 17 0 (pos 93) = search (rules, ints) in
    let head : c.extend_from_slice.new.self.items ≡ c.lui.result ∷ c.addi.result ∷ [] = search rules in
    let middle : c.add_body.new.insts.items ≡ c.extend_from_slice.new.self.items ++ body c.args.kind = c.in_ok-add_body.ensures in
    let end : c.extend_from_slice-2.new.self.items
    ≡ c.add_body.new.insts.items ++ Ecall ∷ c.addi-2.result ∷ c.bne.result ∷ c.addi-3.result ∷ Ecall ∷ [] =
    c.in_ok-extend_from_slice-2.ensures.items in
    rw (end, middle, head, first, count, less, back, code) refl

pub returns-clause-program : goal.returns-clause-program
returns-clause-program c = is_program c (length_before (goal.at.returns-clause-program c).After-len)

pub returns-clause-range : goal.returns-clause-range
returns-clause-range c =
    let is = is_program c (length_before (goal.at.returns-clause-range c).After-len) in
    subst (All IsInRange) (sym is) (program-in_range c.args.kind c.args.number c.requires)
