-- Whatever a core does with a message, it notes no commit.
use Rattle.std.proofs.Common.{◌≡◌, ℕ, Bool, true, false, List, Option, Some, None, refl}
use Rattle.std.specs.Prelude.{if◌then◌else◌}
use Rattle.tcc_base.specs.Settings.{Settings}
use Rattle.rules_maps.specs.Nodes.{Node, Core, Dir, Vendor, Msg, TidReq, TidGrant, LoadReq, Fill, Skip, Probe, ProbeReply, Mark, Commit}
use Rattle.rules_maps.specs.Nodes.{Abort, WriteBack, Flush, DataReq, Inv, InvAck}
use Rattle.rules_tcc.specs.Attempt.{Out}
use Rattle.rules_tcc.specs.CoreDeliver.{acknowledged, core_deliver, data_request, fill, fill_awaited, grant, grant_in_phase, if_violated}
use Rattle.rules_tcc.specs.CoreDeliver.{ignored, invalidate, is_violated, probe_reply, reply_in_phase, violated_in_phase, words_invalidated}
use Rattle.rules_tcc.specs.State.{Awaited, CoreState, Phase, Running, AwaitTid, DoomedTid, Probing, Ready, Overflowing, Solo, Halted}
use Rattle.net_core.proofs.Events.Cores.{Unnoted}

either : (b : Bool) (o p : Out) → o.commit ≡ None → p.commit ≡ None → (if b then o else p).commit ≡ None
either true o p e f = e
either false o p e f = f

replies : (sh : Settings) (d t : ℕ) (s : CoreState) (p : Phase) → (reply_in_phase sh d t s p).commit ≡ None
replies sh d t s (Probing u) = either _ _ _ refl refl
replies sh d t s (Overflowing (Some u)) = either _ _ _ refl refl
replies sh d t s (Overflowing None) = refl
replies sh d t s Running = refl
replies sh d t s AwaitTid = refl
replies sh d t s DoomedTid = refl
replies sh d t s (Ready u) = refl
replies sh d t s (Solo u) = refl
replies sh d t s Halted = refl

grants : (sh : Settings) (t : ℕ) (s : CoreState) (p : Phase) → (grant_in_phase sh t s p).commit ≡ None
grants sh t s AwaitTid = refl
grants sh t s DoomedTid = refl
grants sh t s (Overflowing None) = refl
grants sh t s (Overflowing (Some u)) = refl
grants sh t s Running = refl
grants sh t s (Probing u) = refl
grants sh t s (Ready u) = refl
grants sh t s (Solo u) = refl
grants sh t s Halted = refl

violated : (sh : Settings) (s : CoreState) (p : Phase) → (violated_in_phase sh s p).commit ≡ None
violated sh s Running = refl
violated sh s AwaitTid = refl
violated sh s DoomedTid = refl
violated sh s (Probing t) = refl
violated sh s (Ready t) = refl
violated sh s (Overflowing None) = refl
violated sh s (Overflowing (Some t)) = refl
violated sh s (Solo t) = refl
violated sh s Halted = refl

fills : (l : ℕ) (ws : List ℕ) (s : CoreState) (a : Option Awaited) → (fill_awaited l ws s a).commit ≡ None
fills l ws s None = refl
fills l ws s (Some a) = either _ _ _ refl refl

pub deliver-unnoted : (sh : Settings) (s : CoreState) (src : Node) (x : Msg) → Unnoted (core_deliver sh s src x)
unfolding core_deliver acknowledged probe_reply fill data_request invalidate if_violated grant
deliver-unnoted sh s (Dir d) (ProbeReply t serving) = replies sh d t s s.phase
deliver-unnoted sh s (Dir d) (Fill l ws) = fills l ws s s.awaited
deliver-unnoted sh s (Dir d) (DataReq l) = refl
deliver-unnoted sh s (Dir d) (Inv l m t) =
    either (is_violated l m t s) (violated_in_phase sh (words_invalidated l m s) (words_invalidated l m s).phase)
    (ignored (words_invalidated l m s)) (violated sh (words_invalidated l m s) (words_invalidated l m s).phase) refl
deliver-unnoted sh s (Dir d) TidReq = tt
deliver-unnoted sh s (Dir d) (TidGrant t) = tt
deliver-unnoted sh s (Dir d) (LoadReq l after) = tt
deliver-unnoted sh s (Dir d) (Skip t) = tt
deliver-unnoted sh s (Dir d) (Probe t) = tt
deliver-unnoted sh s (Dir d) (Mark l m t) = tt
deliver-unnoted sh s (Dir d) (Commit t count) = tt
deliver-unnoted sh s (Dir d) (Abort t) = tt
deliver-unnoted sh s (Dir d) (WriteBack l m ws t) = tt
deliver-unnoted sh s (Dir d) (Flush l m ws t) = tt
deliver-unnoted sh s (Dir d) (InvAck l k) = tt
deliver-unnoted sh s Vendor (TidGrant t) = grants sh t s s.phase
deliver-unnoted sh s Vendor _ = tt
deliver-unnoted sh s (Core c) x = tt
