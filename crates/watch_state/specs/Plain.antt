-- The records of the code as the records that are defined.
use Rattle.std.specs.Prelude.{option_map}
use Rattle.rules_maps.specs.Masks.{has}
use Rattle.rules_maps.specs.Words.{those}
use Rattle.commit_engine.specs.Engine.{phase_of}
use Rattle.rv_exec.specs.Outcomes.{outcome_of}
use Rattle.spec_cache.specs.declared.frame.FrameView.{FrameView}
use Rattle.watch_state.specs.Records as plain
use Rattle.watch_state.specs.declared.records.Known.{Known}
use Rattle.watch_state.specs.declared.records.Record.{Record}
use Rattle.watch_state.specs.declared.records.Record.TheVariants as code

abbrev pub known_of : Known → plain.Known
known_of k = record {
  home = k.home.0;
  owner = option_map (λ c. c.0) k.owner;
  tag = k.tag.0;
  asked = k.asked;
  mark = k.mark.0;
  sharers = those (has k.sharers.0) 64;
}

abbrev pub frame_of : FrameView → plain.Frame
frame_of f = record {
  line = f.line.0;
  valid = f.valid.0;
  read = f.read.0;
  modified = f.modified.0;
  dirty = f.dirty.0;
  tag = f.tag.0;
  words = f.words;
}

abbrev pub record_of : Record → plain.Record
record_of (code.CoreIs c n pc p) = plain.CoreIs c.0 n pc (phase_of p)
record_of (code.Reserved c addr) = plain.Reserved c.0 addr
record_of (code.EndedBy c o) = plain.EndedBy c.0 (outcome_of o)
record_of (code.AwaitsLine c l stale) = plain.AwaitsLine c.0 l.0 stale
record_of (code.OwedBy c dirs) = plain.OwedBy c.0 (those (has dirs.bits) 64)
record_of (code.CommittedAt c d t) = plain.CommittedAt c.0 d.0 t.0
record_of (code.Register c number value) = plain.Register c.0 number value
record_of (code.SavedPc c pc) = plain.SavedPc c.0 pc
record_of (code.SavedRegister c number value) = plain.SavedRegister c.0 number value
record_of (code.Holds c set way frame) = plain.Holds c.0 set way (frame_of frame)
record_of (code.Spilled c addr value) = plain.Spilled c.0 addr value
record_of (code.DirectoryIs d t owed) = plain.DirectoryIs d.0 t.0 owed
record_of (code.Skipped d t) = plain.Skipped d.0 t.0
record_of (code.LineIs l known) = plain.LineIs l.0 (known_of known)
record_of (code.HomeWord addr value) = plain.HomeWord addr value
record_of (code.VendorIs t) = plain.VendorIs t.0
