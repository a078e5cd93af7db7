-- Directory by directory.
use Rattle.std.proofs.Common.{◌≡◌, map, refl}
use Rattle.directory.specs.Data.{DirData}
use Rattle.checkpoint_text.specs.Numbers.{flag}
use Rattle.checkpoint_text.proofs.Each.{all-hold, none-below, one-more}
use Rattle.checkpoint_text.proofs.Written.{each-more, numbered-end}
use Rattle.checkpoint_text.proofs.directories.push_skip_table.Goals as goal

pub loop-k-init : goal.loop-k-init
loop-k-init c = record { written = refl; home = none-below _ _ }

pub loop-k-preserved : goal.loop-k-preserved
loop-k-preserved c = record {
  written = each-more _ (λ (d : DirData). map flag d.serving.skips) _ _ _ _ _ _ _ _ c.loop-k-test.true c.index-dirs-k.is refl
      c.loop-k.invariant.written c.in_ok-push_skips.ensures.text;
  home = one-more (λ (d : DirData). d.words.place ≡ d.lines.place) _ _ _ _ c.index-dirs-k.is c.in_ok-push_skips.ensures.home
      c.loop-k.invariant.home;
}

pub returns-clause-home : goal.returns-clause-home
returns-clause-home c = all-hold (λ (d : DirData). d.words.place ≡ d.lines.place) _ _ c.loop-k-test.false c.loop-k.invariant.home

pub returns-clause-text : goal.returns-clause-text
returns-clause-text c = numbered-end _ _ _ _ _ _ c.loop-k-test.false c.loop-k.invariant.written
