use Rattle.std.proofs.Common.{◌≡◌, ◌<◌, ◌⊎◌, ℕ, get_or, length, None}
use Rattle.std.specs.Option.{option_map}
use Rattle.spec_cache.specs.Change.{changed_frame}
use Rattle.spec_cache.proofs.noted.change_at.Given as goal

abbrev pub invariant-loop-at : goal.invariant-loop-at
invariant-loop-at l = record {
  config : l.ways.config ≡ l.initial.ways.config;
  size : length l.ways.frames ≡ length l.initial.ways.frames;
  either : (i : ℕ) → (get_or l.ways.frames i None ≡ get_or l.initial.ways.frames i None)
      ⊎ (get_or l.ways.frames i None ≡ option_map (changed_frame l.change) (get_or l.initial.ways.frames i None));
  done : (j : ℕ) → j < l.at-index → get_or l.ways.frames (get_or l.places j 0) None ≡ option_map (changed_frame l.change)
      (get_or l.initial.ways.frames (get_or l.places j 0) None);
}
