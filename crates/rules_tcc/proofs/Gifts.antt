-- What the vendor is asked, and what it gives. Its rule is walked here alone: a message that it takes is an Ask, and what is proved of
-- what it gives is proved of a Gift. A further message to it that it answers like these is a constructor of Ask.
use Rattle.std.specs.Prelude.{ℕ, ◌+◌, ◌≡◌, true, List, [], ◌∷◌, None, IfSome, is_some}
use Rattle.std.proofs.Common.{refl}
use Rattle.rules_maps.specs.Nodes.{Core, Msg, TidReq, TidGrant}
use Rattle.rules_maps.specs.Messages.{is_request, line_named, tid_named}
use Rattle.rules_tcc.specs.Sends.{Sends, nothing, to}
use Rattle.rules_tcc.specs.VendorDeliver.{Granted, vendor_deliver}

-- its next TID, or nothing
pub data Gift : Type 0 where
  Gives_tid : Gift
  Gives_none : Gift

-- the next TID after it
unfoldable pub next_after : Gift → (next : ℕ) → ℕ
next_after Gives_tid n = n + 1
next_after Gives_none n = n

-- what goes to the core that asked
unfoldable pub gift_of : Gift → (next : ℕ) → List Msg
gift_of Gives_tid n = TidGrant n ∷ []
gift_of Gives_none n = []

unfoldable pub gift_sends : Gift → (next core : ℕ) → Sends
gift_sends Gives_tid n c = to (Core c) (TidGrant n ∷ [])
gift_sends Gives_none n c = nothing

abbrev pub giving : Gift → (next core : ℕ) → Granted
giving g n c = record { next = next_after g n; sends = gift_sends g n c }

-- a message that the vendor takes
pub data Ask : Type 0 where
  Asks_tid : Ask

abbrev pub asking : Ask → Msg
asking Asks_tid = TidReq

abbrev pub gift : Ask → Gift
gift Asks_tid = Gives_tid

pub each-ask : (next core : ℕ) (P : Msg → Granted → Type 0) → ((a : Ask) → P (asking a) (giving (gift a) next core)) → (m : Msg)
    → IfSome (vendor_deliver next core m) (P m)
unfolding next_after gift_sends
each-ask n c P k TidReq = k Asks_tid
each-ask n c P k _ = tt

-- a message that fits the link to the vendor is taken, and names neither a line nor a TID
pub request-taken : (next core : ℕ) (m : Msg) → is_request m ≡ true → is_some (vendor_deliver next core m) ≡ true
request-taken n c TidReq h = refl
request-taken n c _ h = absurd (cc)

pub request-bare : (m : Msg) → is_request m ≡ true → (line_named m ≡ None) × (tid_named m ≡ None)
request-bare TidReq h = (refl, refl)
request-bare _ h = absurd (cc)
