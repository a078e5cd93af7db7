-- What callers' proofs need of a directory's lines: only lines of the home are ever marked.
use Rattle.std.proofs.Common.{◌≡◌, ℕ, true, Some, length, slice_get}
use Rattle.rules_maps.specs.Words.{those, count_below}
use Rattle.rules_maps.specs.Shape.{lines}
use Rattle.rules_maps.proofs.Lemmas.{length-those, those-only}
use Rattle.rules_maps.specs.Lines.{has_mark}
use Rattle.dir_lines.specs.Home.{IsAtHome}
use Rattle.dir_lines.specs.Pages.{Pages}
use Rattle.dir_lines.specs.Kept.{kept}
use Rattle.dir_lines.proofs.Clearing.{found}
use Rattle.dir_lines.proofs.PagesKeep.{marked-at_home}
pub use Rattle.dir_lines.proofs.PagesAt.{is_at_home-only, is_at_home-true}
pub use Rattle.dir_lines.proofs.Restoring.{kept-elsewhere}

pub kept-at_home : (p : Pages) (l : ℕ) → has_mark (kept p) l ≡ true → IsAtHome p.place l
unfolding kept
kept-at_home p l e = marked-at_home p l e

-- a line in the list of the marked ones is at home
pub listed-at_home : (p : Pages) (k l : ℕ) → slice_get (those (has_mark (kept p)) (lines p.place.shape)) k ≡ Some l → IsAtHome p.place l
listed-at_home p k l e =
    kept-at_home p l ((those-only (has_mark (kept p)) (lines p.place.shape) l
    (found (those (has_mark (kept p)) (lines p.place.shape)) k l e)).1)

pub listed-count : (p : Pages) → length (those (has_mark (kept p)) (lines p.place.shape)) ≡ count_below (has_mark (kept p))
    (lines p.place.shape)
listed-count p = length-those (has_mark (kept p)) (lines p.place.shape)
