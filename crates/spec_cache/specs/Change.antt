-- The changes of all frames at once.
use Rattle.std.specs.Prelude.{List, map, Option}
use Rattle.std.specs.Option.{option_map}
use Rattle.spec_cache.specs.declared.frame.FrameView.{FrameView}
use Rattle.spec_cache.specs.declared.frame.Change.{Change}
use Rattle.spec_cache.specs.declared.frame.Change.TheVariants.{RollBack, ClearRead, Commit}
use Rattle.spec_cache.specs.Frame.{rolled_back_frame, read_cleared_frame, committed_frame}

abbrev pub changed_frame : Change → FrameView → FrameView
changed_frame RollBack f = rolled_back_frame f
changed_frame ClearRead f = read_cleared_frame f
changed_frame (Commit t) f = committed_frame t.0 f

-- every frame changed
abbrev pub all_changed : Change → List (Option FrameView) → List (Option FrameView)
all_changed c fs = map (option_map (changed_frame c)) fs
