-- Which messages a directory takes.
use Rattle.std.specs.Prelude.{ℕ, ◌^◌, ◌<◌, Bool, true, false, not}
use Rattle.rules_maps.specs.Nodes.{Msg, TidReq, TidGrant, LoadReq, Fill, Skip, Probe, ProbeReply, Mark, Commit, Abort, WriteBack, Flush}
use Rattle.rules_maps.specs.Nodes.{DataReq, Inv, InvAck}
use Rattle.dir_lines.specs.Home.{Home}
use Rattle.dir_lines.specs.Pages.{is_at_home}

-- the message isn't of a kind that goes to directories, or its line isn't at home there
abbrev pub is_foreign : Home → Msg → Bool
is_foreign h (Skip t) = false
is_foreign h (Abort t) = false
is_foreign h (Probe t) = false
is_foreign h (Commit t count) = false
is_foreign h (LoadReq l after) = not (is_at_home h l)
is_foreign h (Mark l m t) = not (is_at_home h l)
is_foreign h (InvAck l keeps) = not (is_at_home h l)
is_foreign h (WriteBack l m ws g) = not (is_at_home h l)
is_foreign h (Flush l m ws g) = not (is_at_home h l)
is_foreign h TidReq = true
is_foreign h (TidGrant t) = true
is_foreign h (Fill l ws) = true
is_foreign h (ProbeReply t serving) = true
is_foreign h (DataReq l) = true
is_foreign h (Inv l m t) = true

-- a TID that is skipped, given up or committed is one that can be given
abbrev pub HasSmallTids : Msg → Type 0
HasSmallTids (Skip t) = t < 2 ^ 62
HasSmallTids (Abort t) = t < 2 ^ 62
HasSmallTids (Commit t count) = t < 2 ^ 62
HasSmallTids _ = Unit {0}
