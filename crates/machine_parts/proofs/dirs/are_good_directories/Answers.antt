-- One directory after another; others are as at the start.
use Rattle.std.proofs.Common.{◌≡◌, ℕ, ⊎_elim, ap, refl, sym, ◌∙◌, subst, arith}
use Rattle.std.proofs.lemmas.Bool.{cases_lt}
use Rattle.rules_maps.specs.Lines.{no_lines}
use Rattle.rules_maps.specs.Serving.{first_serving}
use Rattle.rules_maps.specs.Shape.{Shape}
use Rattle.rules_tcc.specs.State.{DirState, dir_start}
use Rattle.dir_lines.specs.Home.{Home}
use Rattle.machine_dirs.specs.Bank.{DirsData, dirs_of}
use Rattle.machine_parts.specs.Directories.{IsGoodDirectory}
use Rattle.machine_parts.proofs.Below.{below-more, below-none}
use Rattle.machine_parts.proofs.dirs.are_good_directories.Goals as goal

at-start : (sh : Shape) (d : ℕ) (ram : ℕ → ℕ) → IsGoodDirectory sh d (dir_start ram)
unfolding dir_start no_lines first_serving
at-start sh d ram = record {
  lines = record { marked = λ l e. absurd (cc); owners = λ l c e. absurd (cc) };
  sharers = λ l c e. absurd (cc);
  serves = omega arith;
}

good-so : (b : DirsData) (n : ℕ) (h : Home) (s t : DirState) → h ≡ record { shape = b.settings; dir = n } → s ≡ t
    → IsGoodDirectory h.shape h.dir s → IsGoodDirectory b.settings n t
good-so b n h s t place state g = subst (IsGoodDirectory b.settings n) state (subst (λ k. IsGoodDirectory k.shape k.dir s) place g)

good-back : (b : DirsData) (n : ℕ) (h : Home) (s t : DirState) → h ≡ record { shape = b.settings; dir = n } → s ≡ t
    → IsGoodDirectory b.settings n t → IsGoodDirectory h.shape h.dir s
good-back b n h s t place state g =
    subst (λ k. IsGoodDirectory k.shape k.dir s) (sym place) (subst (IsGoodDirectory b.settings n) (sym state) g)

pub loop-d-init : goal.loop-d-init
loop-d-init c = λ ram. below-none (λ n. IsGoodDirectory c.args.dirs.now.settings n (dirs_of ram c.args.dirs.now n))

pub loop-d-preserved : goal.loop-d-preserved
loop-d-preserved c = λ ram.
    below-more c.loop-d.d (λ n. IsGoodDirectory c.args.dirs.now.settings n (dirs_of ram c.args.dirs.now n)) (c.loop-d.invariant ram)
    (good-so c.args.dirs.now c.loop-d.d _ _ _ c.directory.ensures.place (c.directory.ensures.state ram)
    ((c.is_good_directory.ensures ram).0 c.if-not-is_good_directory.false))

pub returns-then-not-is_good_directory : goal.returns-then-not-is_good_directory
returns-then-not-is_good_directory c = λ ram. (
  λ t. absurd (cc),
  λ g. sym c.if-not-is_good_directory.true ∙ (c.is_good_directory.ensures ram).1
      (good-back c.args.dirs.now c.loop-d.d _ _ _ c.directory.ensures.place (c.directory.ensures.state ram) (g c.loop-d.d)),
)

pub returns : goal.returns
returns c = λ ram. (
  λ t n. ⊎_elim
      (λ l. c.loop-d.invariant ram n l)
      (λ l. subst (IsGoodDirectory c.args.dirs.now.settings n)
      (sym (c.dir_count.ensures.others ram n
      (let sum = c.dirs-d-end.ensures.value in let config = ap (λ k. k.dirs) c.config.ensures in
      omega (arith, l, c.loop-d-test.false, sum, config))))
      (at-start c.args.dirs.now.settings n ram)) (cases_lt n c.loop-d.d),
  λ g. refl,
)
