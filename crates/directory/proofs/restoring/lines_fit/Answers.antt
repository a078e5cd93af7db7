-- Each line of the home in turn; the lines between two of them are at home elsewhere.
use Rattle.std.proofs.Common.{◌≡◌, ℕ, ◌+◌, ◌%◌, ◌<◌, ◌≤◌, ap, refl, sym, subst, ◌∙◌, arith}
use Rattle.std.proofs.Math.Nat.{add-mod_right, mod-eq_of_lt}
use Rattle.rules_maps.specs.Shape.{lines}
use Rattle.dir_lines.specs.Home.{Home}
use Rattle.dir_lines.specs.Kept.{kept}
use Rattle.dir_lines.specs.Restored.{RecordFits}
use Rattle.directory.proofs.Fitting.{fit-here, fit-past, fit-all, record-fits_line}
use Rattle.directory.proofs.LoadedWords.{NoneBetween, none-after, none-before}
use Rattle.directory.proofs.restoring.lines_fit.Goals as goal

pub loop-line-init : goal.loop-line-init
loop-line-init c =
    let home : Home = c.args.lines.now.place in
    let n : ℕ = home.shape.cores in
    let dir : c.home-line.result.0 ≡ home.dir = c.home-line.ensures.dir in
    let exists : home.dir < home.shape.dirs = omega (arith, c.home-line.ensures.exists) in
    let none : NoneBetween home 0 c.home-line.result.0 = subst (NoneBetween home 0) (sym dir) (none-before home exists) in
    let own : c.home-line.result.0 % home.shape.dirs ≡ c.home-line.result.0 = mod-eq_of_lt c.home-line.ensures.exists in
    (own ∙ dir, fit-past n (kept c.args.lines.now) home 0 c.home-line.result.0 none (λ l lt at. absurd (omega (arith, lt))))

pub loop-line-preserved : goal.loop-line-preserved
loop-line-preserved c =
    let home : Home = c.args.lines.now.place in
    let line : ℕ = c.loop-line.line in
    let dirs : home.shape.dirs ≡ c.dirs-dirs.result = ap (λ s. s.dirs) (sym c.config-config.ensures) ∙ sym c.dirs-dirs.ensures.value in
    let cores : c.cores.result ≡ home.shape.cores = c.cores.ensures.value ∙ ap (λ s. s.cores) c.config-config.ensures in
    let none : NoneBetween home (line + 1) (line + c.dirs-dirs.result) =
    subst (λ d. NoneBetween home (line + 1) (line + d)) dirs (none-after home line c.loop-line.invariant.0) in
    let fits : RecordFits home.shape.cores c.get.result =
    subst (λ n. RecordFits n c.get.result) cores (c.fits.ensures.0 c.if-not-fits.false) in (
      ap (λ d. (line + d) % home.shape.dirs) (sym dirs) ∙ (add-mod_right line home.shape.dirs ∙ c.loop-line.invariant.0),
      fit-past home.shape.cores (kept c.args.lines.now) home (line + 1) (line + c.dirs-dirs.result) none
          (fit-here home.shape.cores (kept c.args.lines.now) home line
          (record-fits_line home.shape.cores c.get.result (kept c.args.lines.now) line
          (record { sharers = c.get.ensures.sharers; owner = c.get.ensures.owner }) fits)
          c.loop-line.invariant.1),
    )

pub returns : goal.returns
returns c =
    let home : Home = c.args.lines.now.place in
    let ram : c.config-config.result.ram ≡ home.shape.ram = ap (λ s. s.ram) c.config-config.ensures in
    let all : lines home.shape ≤ c.loop-line.line = omega (arith, c.loop-line-test.false, c.words-count.ensures.value) in
    (λ h. fit-all home.shape.cores c.args.lines.now c.loop-line.line all c.loop-line.invariant.1, λ h. refl)
