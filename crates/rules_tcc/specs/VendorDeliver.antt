-- TID request: the vendor gives the next TID, and the one after it next time.
use Rattle.std.specs.Prelude.{ℕ, ◌+◌, [], ◌∷◌, Option, Some, None}
use Rattle.rules_maps.specs.Nodes.{Core, Msg, TidReq, TidGrant}
use Rattle.rules_tcc.specs.Sends.{Sends, to}

pub record Granted : Type 0 where
  pub next : ℕ
  pub sends : Sends

abbrev pub vendor_deliver : (next core : ℕ) → Msg → Option Granted
vendor_deliver next c TidReq = Some (record { next = next + 1; sends = to (Core c) (TidGrant next ∷ []) })
vendor_deliver next c _ = None
