-- A message that fits its link has a core and a directory of the machine as its ends, and a kind that goes there.
use Rattle.std.specs.Prelude.{ℕ, ◌≡◌, ◌<◌, Bool, true, false, ◌&&◌, nat_lt}
use Rattle.std.proofs.Common.{arith, refl}
use Rattle.std.proofs.lemmas.Bool.Decides.{nat_tests}
use Rattle.rules_maps.specs.Nodes.{Core, Dir, Msg}
use Rattle.rules_maps.specs.Shape.{Shape}
use Rattle.rules_maps.specs.Messages.{fits, goes_to_core, goes_to_dir}

-- both nodes exist, and the message is of a kind that goes there
pub record Between (sh : Shape) (c d : ℕ) (kind : Bool) : Type 0 where
  pub core : c < sh.cores
  pub dir : d < sh.dirs
  pub goes : kind ≡ true

between : (sh : Shape) (c d : ℕ) (g : Bool) → (nat_lt c sh.cores && (nat_lt d sh.dirs && g)) ≡ true → Between sh c d g
between sh c d g e = go (nat_lt c sh.cores) refl (nat_lt d sh.dirs) refl g e
  where
    go : (a : Bool) → nat_lt c sh.cores ≡ a → (b : Bool) → nat_lt d sh.dirs ≡ b → (x : Bool) → (a && (b && x)) ≡ true
        → Between sh c d x
    go true p true q true z = record { core = grind (arith, nat_tests); dir = grind (arith, nat_tests); goes = refl }
    go true p true q false z = absurd (cc)
    go true p false q x z = absurd (cc)
    go false p b q x z = absurd (cc)

pub fits_out : (sh : Shape) (c d : ℕ) (m : Msg) → fits sh (Core c) (Dir d) m ≡ true → Between sh c d (goes_to_dir m)
unfolding fits
fits_out sh c d m e = between sh c d (goes_to_dir m) e

pub fits_back : (sh : Shape) (c d : ℕ) (m : Msg) → fits sh (Dir d) (Core c) m ≡ true → Between sh c d (goes_to_core m)
unfolding fits
fits_back sh c d m e = between sh c d (goes_to_core m) e
