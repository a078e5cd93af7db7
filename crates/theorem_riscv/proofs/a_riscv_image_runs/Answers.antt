use Rattle.theorem_riscv.proofs.ImageRun.{images_are_laid, image_counts}
use Rattle.theorem_riscv.proofs.a_riscv_image_runs.Goals as goal

pub returns : goal.returns
returns c = record { laid = images_are_laid; counts = image_counts }
