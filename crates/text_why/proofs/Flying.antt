-- The messages in flight on a link are those of all that were sent there that can wait.
use Rattle.std.proofs.Common.{◌≡◌, ℕ, false, List, [], length, Option, Some, None, is_some, refl}
use Rattle.std.specs.List.{flat_map}
use Rattle.rules_maps.specs.Nodes.{Node, Core, Dir, Vendor, Msg}
use Rattle.rules_maps.specs.Shape.{Shape}
use Rattle.rules_maps.specs.Words.{those}
use Rattle.rules_tcc.specs.Links.{in_flight}
use Rattle.rules_tcc.specs.State.{World}
use Rattle.live_core.specs.Waiting.{reason_at, reason_in}
use Rattle.text_why.specs.Lines.{line_if_waiting}
use Rattle.text_why.specs.Text.{link_text}
use Rattle.text_why.proofs.Lists.{only-those}

-- the numbers of those in flight on a link
abbrev pub flying_on : World → (src dst : Node) → List ℕ
flying_on w src dst = those (λ k. is_some (in_flight w.net src dst k)) (length (w.net src dst))

-- the line of the message of that name
abbrev pub line_of : Shape → World → (src dst : Node) → ℕ → List ℕ
line_of sh w src dst k = line_if_waiting src dst k (reason_in sh w src dst k)

-- what isn't in flight doesn't wait
none-waits : (sh : Shape) (w : World) (src dst : Node) (k : ℕ) (o : Option Msg) → is_some o ≡ false
    → line_if_waiting src dst k (reason_at sh w dst o) ≡ []
none-waits sh w src dst k (Some m) e = absurd (cc)
none-waits sh w src (Core c) k None e = refl
none-waits sh w src (Dir d) k None e = refl
none-waits sh w src Vendor k None e = refl

pub flying-text : (sh : Shape) (w : World) (src dst : Node) → flat_map (line_of sh w src dst) (flying_on w src dst) ≡ link_text sh w src dst
unfolding link_text
flying-text sh w src dst =
    only-those (line_of sh w src dst) (λ k. is_some (in_flight w.net src dst k))
    (λ k e. none-waits sh w src dst k (in_flight w.net src dst k) e) (length (w.net src dst))
