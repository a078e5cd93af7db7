-- What a sink in memory holds, and what a call does with it.
use Rattle.std.specs.Prelude.{ℕ, ◌-◌, Bool, List, [], ◌++◌, length, take, min, ◌==◌, ◌||◌, nat_le, Result, Ok, Err, if◌then◌else◌}
use Rattle.std.specs.List.{list_any}
use Rattle.tcc_world.specs.declared.sinks.SinkFailed.{SinkFailed}
use Rattle.tcc_world.specs.Faults.{raised}

pub record Held : Type 0 where
  pub bytes : List ℕ  -- what was taken, in order
  pub limit : ℕ  -- how many bytes there is room for
  pub fails : List ℕ  -- the numbers of the calls that fail
  pub calls : ℕ  -- the number of the coming call that brings a byte
  pub faults : ℕ  -- how many calls failed

-- nothing is taken yet
abbrev pub empty_sink : ℕ → List ℕ → Held
empty_sink limit fails = record { bytes = []; limit = limit; fails = fails; calls = 0; faults = 0 }

-- the coming call fails if it brings a byte: its number is in the list, or the sink is full
abbrev pub refuses : Held → Bool
refuses s = nat_le s.limit (length s.bytes) || list_any (λ n. n == s.calls) s.fails

-- how many bytes of the piece there is room for
abbrev pub room_for : Held → List ℕ → ℕ
room_for s piece = min (s.limit - length s.bytes) (length piece)

-- what a call with a piece that isn't empty answers
abbrev pub answer : Held → List ℕ → Result ℕ SinkFailed
answer s piece = if refuses s then Err (record {}) else Ok (room_for s piece)

-- the sink after a call with a piece that isn't empty
abbrev pub after_call : Held → List ℕ → Held
after_call s piece =
    if refuses s then record s { calls = raised s.calls; faults = raised s.faults }
    else record s { bytes = s.bytes ++ take (room_for s piece) piece; calls = raised s.calls }
