-- A directory at its start.
use Rattle.std.proofs.Common.{◌≡◌, ◌<◌, ◌^◌, ◌∙◌, ℕ, ap, subst}
use Rattle.std.specs.Arc.{arc_value}
use Rattle.image_load.specs.Contents.{started}
use Rattle.rules_maps.specs.Words.{line_of}
use Rattle.rules_tcc.specs.State.{dir_start}
use Rattle.dir_lines.specs.Home.{IsAtHome}
use Rattle.directory.specs.Data.{dir_of}
use Rattle.apart_member.specs.declared.kind.MemberKind.TheVariants as kind
use Rattle.apart_member.proofs.Starts.{dir-starts, starts-there}
use Rattle.apart_member.proofs.member.Member.directory.Goals as goal

pub at_start-requires-clause-start : goal.at_start-requires-clause-start
at_start-requires-clause-start c =
    dir-starts (arc_value c.args.code) c.args.id.0 c.config.result.now c.in_ok-dir.dir
    (c.config.ensures ∙ ap (λ k. k.settings) c.deref.ensures)
    (subst (λ k. dir_of (started k).word c.in_ok-dir.dir ≡ dir_start (started k).word) c.requires.made c.in_ok-dir.ensures.start)
    c.in_ok-dir.ensures.words_place c.in_ok-dir.ensures.place
    (subst (λ k. (w : ℕ) → IsAtHome c.in_ok-dir.dir.lines.place (line_of w) → (started k).word w < 2 ^ 32) c.requires.made
    c.in_ok-dir.ensures.fits)

pub returns-clause-start : goal.returns-clause-start
returns-clause-start c =
    starts-there (arc_value c.args.code) c.at_start.result (kind.Directory c.args.id c.in_ok-dir.dir) c.at_start.ensures
    (dir-starts (arc_value c.args.code) c.args.id.0 c.config.result.now c.in_ok-dir.dir
    (c.config.ensures ∙ ap (λ k. k.settings) c.deref.ensures)
    (subst (λ k. dir_of (started k).word c.in_ok-dir.dir ≡ dir_start (started k).word) c.requires.made c.in_ok-dir.ensures.start)
    c.in_ok-dir.ensures.words_place c.in_ok-dir.ensures.place
    (subst (λ k. (w : ℕ) → IsAtHome c.in_ok-dir.dir.lines.place (line_of w) → (started k).word w < 2 ^ 32) c.requires.made
    c.in_ok-dir.ensures.fits))
