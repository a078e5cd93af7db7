-- What decides whether a directory takes a message, and which messages have to be looked at again once it has handled one.
use Rattle.std.specs.Prelude.{ℕ, ◌≡◌, ◌≢◌, Bool, true, false, ◌==◌, if◌then◌else◌, Option, Some, None}
use Rattle.rules_maps.specs.Nodes.{Msg, LoadReq, Skip, Probe, Mark, Abort, WriteBack, Flush, InvAck}
use Rattle.rules_tcc.specs.State.{DirState}
use Rattle.directory.specs.declared.handled.Handled.{Handled}
use Rattle.directory.specs.declared.handled.Handled.TheVariants.{Handled as Done, Waits, Asked, Dropped}
use Rattle.machine_links.specs.Subject.{Subject, Line, Marks, about}
use Rattle.net_core.specs.declared.looking.Look.{Look as CodeLook}
use Rattle.net_core.specs.declared.looking.Look.TheVariants as code

-- the same TID is served, and each line is known as it was but for its sharers
pub record SameTaking (s t : DirState) : Type 0 where
  pub serving : t.serving.serving ≡ s.serving.serving
  pub mark : t.lines.mark ≡ s.lines.mark
  pub owner : t.lines.owner ≡ s.lines.owner
  pub asked : t.lines.asked ≡ s.lines.asked
  pub tag : t.lines.tag ≡ s.lines.tag

-- the same of each line but this one
pub record SameBut (line : ℕ) (s t : DirState) : Type 0 where
  pub serving : t.serving.serving ≡ s.serving.serving
  pub mark : (l : ℕ) → l ≢ line → t.lines.mark l ≡ s.lines.mark l
  pub owner : (l : ℕ) → l ≢ line → t.lines.owner l ≡ s.lines.owner l
  pub asked : (l : ℕ) → l ≢ line → t.lines.asked l ≡ s.lines.asked l
  pub tag : (l : ℕ) → l ≢ line → t.lines.tag l ≡ s.lines.tag l

-- none; those about this line, and those about the marks; or all
pub data Look : Type 0 where
  Nothing : Look
  AtLine : (line : ℕ) → Look
  All : Look

abbrev pub look_of : CodeLook → Look
look_of code.Nothing = Nothing
look_of (code.Line l) = AtLine l.0
look_of code.All = All

-- after a message that was handled so, where the one TID was served before it and the other is served after it. Skips, acknowledgements
-- and what gives a TID up matter only where the directory moves on, and answers to probes and fills never; a mark, a question for a line's
-- data and what comes home change what is known of one line
abbrev pub looks : Handled → Msg → (before after : ℕ) → Look
looks Done (Skip t) before after = if after == before then Nothing else All
looks Done (Abort t) before after = if after == before then Nothing else All
looks Done (InvAck l keeps) before after = if after == before then Nothing else All
looks Done (Probe t) before after = Nothing
looks Done (LoadReq l last) before after = Nothing
looks Done (Mark l m t) before after = AtLine l
looks Done (WriteBack l m ws t) before after = AtLine l
looks Done (Flush l m ws t) before after = AtLine l
looks Done m before after = All
looks Asked (LoadReq l last) before after = AtLine l
looks Asked (Mark l m t) before after = AtLine l
looks Asked m before after = All
looks Waits m before after = Nothing
looks Dropped m before after = Nothing

-- the message is among those that are looked at
abbrev pub is_at : (line dir : ℕ) → Option Subject → Bool
is_at l d None = false
is_at l d (Some (Line k)) = k == l
is_at l d (Some (Marks e)) = e == d

abbrev pub is_seen : Look → (dir : ℕ) → Msg → Bool
is_seen Nothing d m = false
is_seen (AtLine l) d m = is_at l d (about d m)
is_seen All d m = true
