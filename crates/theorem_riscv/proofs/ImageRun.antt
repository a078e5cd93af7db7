-- The run of the two images is computed by the definitions alone.
use Rattle.std.specs.Prelude.{◌≡◌, ◌⊎◌, count_ones}
use Rattle.std.proofs.Common.{arith, refl, inl, inr}
use Rattle.std.proofs.lemmas.Bool.{cases_eq}
use Rattle.std.proofs.lemmas.Bool.Decides.{nat_tests}
use Rattle.std.proofs.lemmas.Nat.{zero_from_ones, ones_le_self}
use Rattle.image_load.specs.Memory.{segment_at, word_of as image_load-word_of, all_four}
use Rattle.image_load.specs.Raw.{raw_images, raw_fault}
use Rattle.image_load.specs.Start.{start as image_load-start, first_ram}
use Rattle.rv_decode.specs.Decoding.{inst_of, decoded}
use Rattle.rv_exec.specs.Effects.{planned, results, finished}
use Rattle.rv_exec.specs.Running.{program as rv_exec-program}
use Rattle.rv_code.specs.Machine.{program, in_ram, start_regs}
use Rattle.tcc_base.specs.Settings.{Keeps}
use Rattle.tcc_base.specs.declared.config.Limit.TheVariants.{Cores, Dirs, Sets, Ways, Ram, Base}
use Rattle.rules_program.specs.Cores.{printed}
use Rattle.rules_program.specs.Registers.{zeroed, register, written}
use Rattle.theorem_serial.specs.Counter.{two_cores}
use Rattle.theorem_serial.specs.Shown.{changed, shown}
use Rattle.rules_tcc.proofs.Lemmas.{computed}
use Rattle.theorem_riscv.specs.CounterImage.{ImagesAreLaid, ImageCounts}

-- one digit of 1 is set
one : count_ones 1 ≡ 1
one = go (cases_eq (count_ones 1) 0)
  where
    go : (count_ones 1 ≡ 0) ⊎ (count_ones 1 ≡ 0 → ⊥) → count_ones 1 ≡ 1
    go (inl z) = absurd (omega (arith, zero_from_ones 1 z))
    go (inr n) = omega (arith, ones_le_self 1)

pub images_are_laid : ImagesAreLaid
unfolding raw_fault
images_are_laid = ((cores, dirs, sets, ways, ram, base), refl)
  where
    cores : Keeps two_cores Cores
    cores = (omega arith, omega arith)

    dirs : Keeps two_cores Dirs
    dirs = (omega arith, omega arith)

    sets : Keeps two_cores Sets
    sets = (grind (arith, nat_tests, one), omega arith)

    ways : Keeps two_cores Ways
    ways = (omega arith, omega arith)

    ram : Keeps two_cores Ram
    ram = (omega arith, omega arith, refl)

    base : Keeps two_cores Base
    base = (refl, omega arith)

pub image_counts : ImageCounts
unfolding computed printed changed shown segment_at image_load-word_of all_four raw_images image_load-start inst_of decoded planned
    results finished rv_exec-program program first_ram in_ram start_regs zeroed register written
image_counts = refl
