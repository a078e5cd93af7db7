-- Which of the messages in flight may be delivered: those without a reason to wait.
use Rattle.std.proofs.Common.{◌≡◌, ℕ, ◌<◌, Bool, true, false, ◌&&◌, Option, Some, None, IfSome, refl, ap, ◌∙◌, arith}
use Rattle.std.specs.Prelude.{is_some, nat_lt, not}
use Rattle.std.specs.Option.{option_map}
use Rattle.std.proofs.lemmas.Bool.Decides.{nat_tests}
use Rattle.base_lemmas.proofs.Lemmas.{and-right}
use Rattle.theorem_live.specs.Fits.{LinksFit}
use Rattle.theorem_sound.specs.Sound.{GoodMessage}
use Rattle.rules_maps.specs.Messages.{line_named, fits, goes_to_core, is_grant, is_request}
use Rattle.theorem_bounds.proofs.Lemmas.{fits_out, fits_back}
use Rattle.rules_maps.specs.Nodes.{Node, Core, Dir, Vendor, Deliver, Msg, TidGrant, Fill, ProbeReply, DataReq, Inv}
use Rattle.rules_maps.specs.Shape.{Shape, home, lines}
use Rattle.rules_program.specs.Program.{Program}
use Rattle.rules_tcc.specs.CoreDeliver.{core_deliver, from_dir, from_vendor}
use Rattle.rules_tcc.specs.DirDeliver.{dir_deliver}
use Rattle.rules_tcc.specs.Links.{in_flight}
use Rattle.rules_tcc.specs.State.{CoreState, World}
use Rattle.rules_tcc.specs.Step.{delivered, happens, names_nodes, step}
use Rattle.live_core.specs.Plain.{plain_reason}
use Rattle.live_core.specs.Waiting.{reason_at, reason_in}
use Rattle.live_core.specs.declared.reason.Reason.{Reason as CodeReason}
use Rattle.live_core.proofs.Rules.{reasons-are-rules}
use Rattle.theorem_live.proofs.Lemmas.{some_granted, some_taken}
use Rattle.net_core.proofs.Lemmas.{answered-some}

-- ---- what fits its link

pub dir-exists : (sh : Shape) (src : Node) (d : ℕ) (m : Msg) → fits sh src (Dir d) m ≡ true → d < sh.dirs
unfolding fits
dir-exists sh (Core c) d m e = (fits_out sh c d m e).dir
dir-exists sh (Dir c) d m e = absurd (cc)
dir-exists sh Vendor d m e = absurd (cc)

pub line-home : (sh : Shape) (n : ℕ) (src : Node) (d : ℕ) (m : Msg) → GoodMessage sh n src (Dir d) m
    → IfSome (line_named m) (λ l. (l < lines sh) × (home sh l ≡ d))
unfolding fits
line-home sh n (Core c) d m b = b.line
line-home sh n (Dir c) d m b = let e = b.fits in absurd (cc)
line-home sh n Vendor d m b = let e = b.fits in absurd (cc)

names : (sh : Shape) (src dst : Node) (k : ℕ) (m : Msg) → fits sh src dst m ≡ true → names_nodes sh (Deliver src dst k) ≡ true
unfolding fits names_nodes
names sh (Core c) (Dir d) k m e = grind (arith, nat_tests)
names sh (Core c) Vendor k m e = grind (arith, nat_tests)
names sh (Dir d) (Core c) k m e = grind (arith, nat_tests)
names sh Vendor (Core c) k m e = grind (arith, nat_tests)
names sh (Core c) (Core d) k m e = absurd (cc)
names sh (Dir c) (Dir d) k m e = absurd (cc)
names sh (Dir c) Vendor k m e = absurd (cc)
names sh Vendor (Dir d) k m e = absurd (cc)
names sh Vendor Vendor k m e = absurd (cc)

-- ---- what each node does with it

dir-says : (sh : Shape) (d : ℕ) (c : CoreState) (m : Msg) → goes_to_core m ≡ true → is_some (from_dir sh d c m) ≡ true
dir-says sh d c (Fill l ws) e = refl
dir-says sh d c (ProbeReply t u) e = refl
dir-says sh d c (DataReq l) e = refl
dir-says sh d c (Inv l x t) e = refl
dir-says sh d c m e = absurd (cc)

vendor-says : (sh : Shape) (c : CoreState) (m : Msg) → is_grant m ≡ true → is_some (from_vendor sh c m) ≡ true
vendor-says sh c (TidGrant t) e = refl
vendor-says sh c m e = absurd (cc)

delivers : (sh : Shape) (w : World) (src dst : Node) (k : ℕ) (m : Msg) → fits sh src dst m ≡ true
    → is_some (delivered sh w src dst k m) ≡ not (is_some (reason_at sh w dst (Some m)))
unfolding fits core_deliver
delivers sh w (Core c) (Dir d) k m e =
    answered-some w c d k (dir_deliver sh (w.dirs d) c m) ∙ reasons-are-rules sh (w.dirs d) c m (fits_out sh c d m e).goes
delivers sh w (Core c) Vendor k m e = some_granted w c k m (and-right (nat_lt c sh.cores) (is_request m) e)
delivers sh w (Dir d) (Core c) k m e =
    some_taken w (Dir d) c k (from_dir sh d (w.cores c) m) (dir-says sh d (w.cores c) m (fits_back sh c d m e).goes)
delivers sh w Vendor (Core c) k m e =
    some_taken w Vendor c k (from_vendor sh (w.cores c) m) (vendor-says sh (w.cores c) m (and-right (nat_lt c sh.cores) (is_grant m) e))
delivers sh w (Core c) (Core d) k m e = absurd (cc)
delivers sh w (Dir c) (Dir d) k m e = absurd (cc)
delivers sh w (Dir c) Vendor k m e = absurd (cc)
delivers sh w Vendor (Dir d) k m e = absurd (cc)
delivers sh w Vendor Vendor k m e = absurd (cc)

-- ---- of a machine

steps : (sh : Shape) (p : Program) (w : World) (src dst : Node) (k : ℕ) (m : Msg) → in_flight w.net src dst k ≡ Some m
    → fits sh src dst m ≡ true → step sh p w (Deliver src dst k) ≡ delivered sh w src dst k m
unfolding step happens
steps sh p w src dst k m fly e = rw (names sh src dst k m e, fly) refl

none-waits : (sh : Shape) (w : World) (dst : Node) → reason_at sh w dst None ≡ None
none-waits sh w (Core c) = refl
none-waits sh w (Dir d) = refl
none-waits sh w Vendor = refl

twice : (a b : Bool) → a ≡ not b → b ≡ not a
twice true true e = absurd (cc)
twice true false e = refl
twice false true e = refl
twice false false e = absurd (cc)

-- a message waits exactly where it is in flight and its delivery isn't enabled
waits : (sh : Shape) (p : Program) (w : World) (src dst : Node) (k : ℕ) → LinksFit sh w
    → is_some (reason_in sh w src dst k)
    ≡ (is_some (in_flight w.net src dst k) && not (is_some (step sh p w (Deliver src dst k))))
waits sh p w src dst k b = go (in_flight w.net src dst k) refl
  where
    go : (o : Option Msg) → in_flight w.net src dst k ≡ o
        → is_some (reason_at sh w dst o) ≡ (is_some o && not (is_some (step sh p w (Deliver src dst k))))
    go None q = ap is_some (none-waits sh w dst)
    go (Some m) q =
        let e = b src dst k m q in
        twice (is_some (step sh p w (Deliver src dst k))) (is_some (reason_at sh w dst (Some m)))
        (ap is_some (steps sh p w src dst k m q e) ∙ delivers sh w src dst k m e)

mapped : (o : Option CodeReason) → is_some o ≡ is_some (option_map plain_reason o)
mapped None = refl
mapped (Some r) = refl

pub waits-so : (sh : Shape) (p : Program) (w : World) (src dst : Node) (k : ℕ) (o : Option CodeReason) → LinksFit sh w
    → option_map plain_reason o ≡ reason_in sh w src dst k
    → is_some o ≡ (is_some (in_flight w.net src dst k) && not (is_some (step sh p w (Deliver src dst k))))
waits-so sh p w src dst k o b e = mapped o ∙ ap is_some e ∙ waits sh p w src dst k b
