-- What the code's own parts show, as the values of records.
use Rattle.std.specs.Prelude.{ℕ, Bool, not, ◌==◌, ◌||◌, List, [], ◌∷◌, is_some, option_map, if◌then◌else◌}
use Rattle.rules_maps.specs.Masks.{has, masked}
use Rattle.rules_maps.specs.Words.{any_below, those}
use Rattle.dir_lines.specs.declared.core_set.CoreSet.{CoreSet}
use Rattle.directory.specs.declared.directory.LineState.{LineState}
use Rattle.spec_cache.specs.declared.frame.FrameView.{FrameView}
use Rattle.watch_state.specs.Records.{Frame, Known, Record, LineIs}

-- at this home, of a machine with so many cores
abbrev pub shown_line : (home cores : ℕ) → LineState → CoreSet → Known
shown_line home cores s sharers = record {
  home = home;
  owner = option_map (λ c. c.0) s.owner;
  tag = s.tag.0;
  asked = s.asked;
  mark = s.mark.0;
  sharers = those (has sharers.0) cores;
}

unfoldable pub knows : LineState → CoreSet → (cores : ℕ) → Bool
knows s sharers cores = is_some s.owner || (not (s.tag.0 == 0) || (s.asked || (not (s.mark.0 == 0) || any_below (has sharers.0) cores)))

abbrev pub shown_record : (line home cores : ℕ) → LineState → CoreSet → List Record
shown_record l home cores s sharers = if knows s sharers cores then LineIs l (shown_line home cores s sharers) ∷ [] else []

-- without a tag where no word is dirty, and without the words that aren't valid
abbrev pub shown_frame : FrameView → Frame
shown_frame f = record {
  line = f.line.0;
  valid = f.valid.0;
  read = f.read.0;
  modified = f.modified.0;
  dirty = f.dirty.0;
  tag = if f.dirty.0 == 0 then 0 else f.tag.0;
  words = masked f.valid.0 f.words;
}
