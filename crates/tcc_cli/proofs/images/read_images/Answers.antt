use Rattle.std.proofs.Common.{◌∙◌}
use Rattle.image_elf.specs.Elf.{image_of, IsWithinSizes}
use Rattle.tcc_cli.proofs.Loading.{elf_passed, elf_done, images_next, all_next}
use Rattle.tcc_cli.proofs.Refusing.{refused_elf}
use Rattle.tcc_cli.proofs.images.read_images.Goals as goal

pub returns-in-Err : goal.returns-in-Err
returns-in-Err c = record {
  images = tt;
  count = tt;
  within = tt;
  accepted = tt;
  refused = refused_elf c.loop-number.number c.args.files.now _ c.bytes.result.now c.in-Err.fault c.of_elf.result
      c.loop-number-test.true c.loop-number.invariant.tested (c.bytes.ensures
      ∙ c.index-files-number.is) c.in-Err.ensures.fault c.of_elf.ensures.want
      c.of_elf.ensures.named;
}

pub loop-number-preserved : goal.loop-number-preserved
loop-number-preserved c = record {
  images = images_next image_of c.loop-number.number c.args.files.now _ c.bytes.result.now c.loop-number.images.items
      c.push.new.self.items c.in-Ok.image c.loop-number-test.true c.loop-number.invariant.images c.in-Ok-push.ensures.items
      c.in-Ok.ensures.image (c.bytes.ensures ∙ c.index-files-number.is);
  within = all_next IsWithinSizes c.loop-number.images.items c.push.new.self.items c.in-Ok.image c.loop-number.invariant.within
      c.in-Ok-push.ensures.items c.in-Ok.ensures.within;
  tested = elf_passed c.loop-number.number c.args.files.now _ c.bytes.result.now c.loop-number-test.true
      c.loop-number.invariant.tested (c.bytes.ensures ∙ c.index-files-number.is) c.in-Ok.ensures.accepted;
}

pub returns-clause-accepted : goal.returns-clause-accepted
returns-clause-accepted c = c.loop-number.invariant.tested ∙ elf_done c.loop-number.number c.args.files.now c.loop-number-test.false
