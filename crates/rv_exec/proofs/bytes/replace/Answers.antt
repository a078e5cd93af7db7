use Rattle.std.proofs.Common.{◌<◌, ◌%◌, ◌≡◌, arith, subst}
use Rattle.tcc_base.specs.Bytes.{bytes_of}
use Rattle.tcc_base.specs.declared.access.Size.TheVariants.{Half, Word}
use Rattle.rules_program.specs.Ram.{unit_of}
use Rattle.rv_exec.proofs.Splice.{spliced-byte, spliced-half, spliced-word}
use Rattle.rv_exec.proofs.bytes.replace.Goals as goal
use Rattle.rv_exec.proofs.bytes.replace.Goals.{in-Byte, in-Half, in-Word}

pub overflow_cast-result-2 : goal.overflow_cast-result-2
unfolding unit_of
overflow_cast-result-2 c =
    let r = c.args.addr % 4 in
    let small : r < 4 = omega arith in
    elim c.match-size.branch [
      | in-Byte w ↦ rw (c.unit-unit.ensures.value, w.span-is)
          (record { fits = spliced-byte c.args.word r c.args.value c.ranges.word.fits small })
      | in-Half w ↦
          let even : c.args.addr % bytes_of Half ≡ 0 = subst (λ s. c.args.addr % bytes_of s ≡ 0) w.in-Half.is c.requires in
          let half : r % 2 ≡ 0 = omega arith in
          rw (c.unit-unit.ensures.value, w.span-is)
          (record { fits = spliced-half c.args.word r c.args.value c.ranges.word.fits small half })
      | in-Word w ↦
          let zero : c.args.addr % bytes_of Word ≡ 0 = subst (λ s. c.args.addr % bytes_of s ≡ 0) w.in-Word.is c.requires in
          rw (c.unit-unit.ensures.value, w.span-is) (record { fits = spliced-word c.args.word r c.args.value c.ranges.word.fits zero })
    ]
