-- A marked line is at home, since nothing is known of others.
use Rattle.std.proofs.Common.{◌≡◌, ℕ, ◌<◌, true, false, inl, inr, Option, None, Some, refl, subst, arith}
use Rattle.std.specs.Prelude.{IfSome}
use Rattle.std.proofs.lemmas.Bool.{cases_eq}
use Rattle.rules_maps.specs.Lines.{has_mark}
use Rattle.rules_maps.specs.Shape.{home}
use Rattle.rules_tcc.specs.State.{DirState}
use Rattle.dir_lines.specs.Home.{Home, IsAtHome}
use Rattle.dir_lines.specs.Restored.{IsUnknown}
use Rattle.directory.specs.Data.{dir_of}
use Rattle.machine_parts.proofs.dirs.is_good_directory.Goals as goal

marked-home : (h : Home) (s : DirState) (l : ℕ) → ((IsAtHome h l → ⊥) → IsUnknown s.lines l) → has_mark s.lines l ≡ true
    → home h.shape l ≡ h.dir
marked-home h s l unknown m = elim (cases_eq (home h.shape l) h.dir) [
  | inl e ↦ e
  | inr n ↦ (let none = (unknown (λ at. n at.1)).mark in absurd (let no : has_mark s.lines l ≡ false = rw none refl in cc))
]

of-some : (o : Option ℕ) (P : ℕ → Type 0) → ((c : ℕ) → o ≡ Some c → P c) → IfSome o P
of-some None P h = tt
of-some (Some c) P h = h c refl

pub returns-then-serving-gt0 : goal.returns-then-serving-gt0
returns-then-serving-gt0 c = λ ram. (
  λ t. record {
    lines = record {
      marked = λ l m. marked-home c.args.dir.now.lines.place (dir_of ram c.args.dir.now) l (c.keeps_lines_home.ensures ram l) m;
      owners = λ l j e.
          subst (λ o. IfSome o (λ n. n < c.args.dir.now.lines.place.shape.cores)) e ((c.lines_fit.ensures ram).0 t l).1;
    };
    sharers = λ l j e. ((c.lines_fit.ensures ram).0 t l).0 j e;
    serves = omega (arith, c.if-serving-gt0.true, c.serving.ensures ram);
  },
  λ g. (c.lines_fit.ensures ram).1 (λ l. (g.sharers l, of-some ((dir_of ram c.args.dir.now).lines.owner l) _ (g.lines.owners l))),
)
