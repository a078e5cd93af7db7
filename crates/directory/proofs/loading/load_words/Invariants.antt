-- The lines below this one, which is at home, are loaded.
use Rattle.std.proofs.Common.{◌≡◌, ◌%◌, ◌-◌}
use Rattle.image_load.specs.Contents.{started}
use Rattle.directory.proofs.LoadedWords.{LoadedBelow, SmallBelow}
use Rattle.directory.proofs.loading.load_words.Given as goal

abbrev pub invariant-loop-line : goal.invariant-loop-line
invariant-loop-line l =
    (l.words.place ≡ l.fn.words.place) × (l.line % l.fn.words.place.shape.dirs ≡ l.fn.words.place.dir)
    × LoadedBelow (started l.loaded).word l.words l.line × SmallBelow (started l.loaded).word l.fn.words.place l.line

abbrev pub decreases-loop-line : goal.decreases-loop-line
decreases-loop-line l = l.count - l.line
