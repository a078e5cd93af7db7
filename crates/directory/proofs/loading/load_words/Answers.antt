-- Each line of the home in turn; the lines between two of them are at home elsewhere.
use Rattle.std.proofs.Common.{◌≡◌, ℕ, ◌+◌, ◌%◌, ◌<◌, ◌≤◌, ap, refl, sym, subst, ◌∙◌, arith}
use Rattle.std.proofs.Math.Nat.{add-mod_right, mod-eq_of_lt}
use Rattle.rules_maps.specs.Shape.{lines}
use Rattle.dir_lines.specs.Home.{Home, IsAtHome}
use Rattle.image_load.specs.Contents.{started}
use Rattle.directory.proofs.LoadedWords.{NoneBetween, loaded-all, loaded-here, loaded-past, none-after, none-before}
use Rattle.directory.proofs.LoadedWords.{small-all, small-here, small-past}
use Rattle.directory.proofs.loading.load_words.Goals as goal

pub loop-line-init : goal.loop-line-init
loop-line-init c =
    let ram : ℕ → ℕ = (started c.args.loaded.now).word in
    let home : Home = c.args.words.now.place in
    let dir : home.dir ≡ c.args.id.0 = ap (λ h. h.dir) c.requires.place in
    let dirs : home.shape.dirs ≡ c.args.cfg.now.dirs = ap (λ h. h.shape.dirs) c.requires.place in
    let exists : home.dir < home.shape.dirs = omega (arith, c.requires.exists) in
    let none : NoneBetween home 0 c.args.id.0 = subst (NoneBetween home 0) dir (none-before home exists) in
    let own : c.args.id.0 % home.shape.dirs ≡ c.args.id.0 = mod-eq_of_lt (omega (arith, c.requires.exists)) in (
      refl,
      own ∙ sym dir,
      loaded-past ram c.args.words.now 0 c.args.id.0 none (λ w lt. absurd (omega (arith, lt))),
      small-past ram home 0 c.args.id.0 none (λ w lt at. absurd (omega (arith, lt))),
    )

pub write-requires : goal.write-requires
write-requires c =
    let home : Home = c.args.words.now.place in
    let ram : home.shape.ram ≡ c.args.cfg.now.ram = ap (λ h. h.shape.ram) c.requires.place in
    let inside : c.loop-line.line < lines home.shape = omega (arith, c.loop-line-test.true, c.words-count.ensures.value) in
    subst (λ h. IsAtHome h c.loop-line.line) (sym c.loop-line.invariant.0) (inside, c.loop-line.invariant.1)

pub loop-line-preserved : goal.loop-line-preserved
loop-line-preserved c =
    let ram : ℕ → ℕ = (started c.args.loaded.now).word in
    let home : Home = c.args.words.now.place in
    let line : ℕ = c.loop-line.line in
    let place : c.write.new.self.place ≡ home = c.write.ensures.place ∙ c.loop-line.invariant.0 in
    let dirs : home.shape.dirs ≡ c.dirs-dirs.result = ap (λ h. h.shape.dirs) c.requires.place ∙ sym c.dirs-dirs.ensures.value in
    let none : NoneBetween home (line + 1) (line + c.dirs-dirs.result) =
    subst (λ d. NoneBetween home (line + 1) (line + d)) dirs (none-after home line c.loop-line.invariant.1) in (
      place,
      ap (λ d. (line + d) % home.shape.dirs) (sym dirs) ∙ (add-mod_right line home.shape.dirs ∙ c.loop-line.invariant.1),
      loaded-past ram c.write.new.self (line + 1) (line + c.dirs-dirs.result)
          (subst (λ h. NoneBetween h (line + 1) (line + c.dirs-dirs.result)) (sym place) none)
          (loaded-here ram c.loop-line.words c.write.new.self line c.loaded_line.result (c.write.ensures.words ram)
          c.loaded_line.ensures.words c.loop-line.invariant.2),
      small-past ram home (line + 1) (line + c.dirs-dirs.result) none
          (small-here ram home line c.loaded_line.ensures.fits c.loop-line.invariant.3),
    )

pub returns-clause-place : goal.returns-clause-place
returns-clause-place c = c.loop-line.invariant.0

pub returns-clause-words : goal.returns-clause-words
returns-clause-words c =
    let place : c.loop-line.words.place.shape.ram ≡ c.args.cfg.now.ram =
    ap (λ h. h.shape.ram) (c.loop-line.invariant.0 ∙ c.requires.place) in
    let all : lines c.loop-line.words.place.shape ≤ c.loop-line.line =
    omega (arith, c.loop-line-test.false, c.words-count.ensures.value) in
    loaded-all (started c.args.loaded.now).word c.loop-line.words c.loop-line.line all c.loop-line.invariant.2

pub returns-clause-fits : goal.returns-clause-fits
returns-clause-fits c =
    let home : Home = c.args.words.now.place in
    let ram : home.shape.ram ≡ c.args.cfg.now.ram = ap (λ h. h.shape.ram) c.requires.place in
    let all : lines home.shape ≤ c.loop-line.line = omega (arith, c.loop-line-test.false, c.words-count.ensures.value) in
    small-all (started c.args.loaded.now).word home c.loop-line.line all c.loop-line.invariant.3
