-- What is said of each message in flight, as counts of those that break it, and back.
use Rattle.std.specs.Prelude.{ℕ, suc, ◌*◌, ◌≡◌, ◌<◌, ◌≤◌, ◌%◌, ◌==◌, ◌&&◌, not, Bool, true, false, [], ◌∷◌, Some, None}
use Rattle.std.specs.Prelude.{IfSome, get_or, nat_lt}
use Rattle.std.proofs.Common.{arith, refl, inl, inr}
use Rattle.std.proofs.lemmas.Bool.{cases_lt}
use Rattle.std.proofs.lemmas.Bool.Decides.{nat_tests}
use Rattle.base_lemmas.proofs.Lemmas.{and-never, eq-self}
use Rattle.rules_maps.specs.Messages.{fits, goes_to_core, is_grant, is_request, line_named, IsLine}
use Rattle.rules_maps.specs.Nodes.{Node, Core, Dir, Vendor, Msg, TidReq, TidGrant, LoadReq, Fill, Skip, Mark, Commit}
use Rattle.rules_maps.specs.Nodes.{Abort, WriteBack, Flush, DataReq, Inv, InvAck}
use Rattle.rules_maps.specs.Shape.{Shape, home, lines}
use Rattle.rules_maps.specs.Words.{num}
use Rattle.rules_tcc.specs.Links.{in_flight}
use Rattle.rules_tcc.specs.State.{Link, World}
use Rattle.rules_tcc.specs.Step.{History}
use Rattle.theorem_serial.specs.Count.{Kind, CopyOf, LinesAway, Resolves, live, passes}
use Rattle.theorem_serial.specs.Pairs.{pair}
use Rattle.theorem_serial.proofs.Lemmas.{FromCores, live-some, none-taken}
use Rattle.theorem_live.proofs.Lemmas.{link-clean, strays_on}
use Rattle.theorem_bounds.proofs.Lemmas.{LineOf, LinkInside, back-no_copy, below, fits_back, is_inside, line-named, link-all}
use Rattle.theorem_bounds.specs.Bounds.{most_sent}
use Rattle.theorem_sound.specs.Sound.{GoodMessage, Sound, tid_resolved}
use Rattle.theorem_sound.proofs.Pairs.{PairsSound}

ruleset nats = (arith, nat_tests)

-- a link has no message of a kind where no message that it has is of that kind
none-live : (k : Kind) (l : Link) → ((i : ℕ) (m : Msg) → get_or l i None ≡ Some m → passes k m ≡ false) → live k l ≡ 0
unfolding live
none-live k [] h = refl
none-live k (None ∷ l) h = none-live k l (λ i m e. h (suc i) m e)
none-live k (Some x ∷ l) h =
    let n : num (passes k x) ≡ 0 = rw (h 0 x refl) refl in
    omega (arith, n, none-live k l (λ i m e. h (suc i) m e))

-- one message

-- its line is of memory
inside : (sh : Shape) (src dst : Node) (m : Msg) → IfSome (line_named m) (IsLine sh src dst) → is_inside sh m ≡ true
unfolding is_inside
inside sh src dst (LoadReq l a) g = below sh l (g.0)
inside sh src dst (Fill l ws) g = below sh l (g.0)
inside sh src dst (Mark l m t) g = below sh l (g.0)
inside sh src dst (DataReq l) g = below sh l (g.0)
inside sh src dst (Inv l m t) g = below sh l (g.0)
inside sh src dst (InvAck l k) g = below sh l (g.0)
inside sh src dst m g = refl

-- between a core and directory d
module _ (sh : Shape) (next d : ℕ) where
  here : (l : ℕ) → home sh l ≡ d → not ((l % sh.dirs) == d) ≡ false
  here l e = grind nats

  -- a line that it names is at home
  at-home : (m : Msg) → IfSome (line_named m) (LineOf sh d) → passes (LinesAway sh.dirs d) m ≡ false
  unfolding passes
  at-home (LoadReq l a) g = here l (g.1)
  at-home (Fill l ws) g = here l (g.1)
  at-home (Mark l m t) g = here l (g.1)
  at-home (WriteBack l m ws t) g = here l (g.1)
  at-home (Flush l m ws t) g = here l (g.1)
  at-home (DataReq l) g = here l (g.1)
  at-home (Inv l m t) g = here l (g.1)
  at-home (InvAck l k) g = here l (g.1)
  at-home m g = refl

  -- no words are of a line that memory doesn't have
  no-copy : (l t : ℕ) → lines sh ≤ l → (m : Msg) → IfSome (line_named m) (LineOf sh d) → passes (CopyOf l t) m ≡ false
  unfolding passes
  no-copy l t i (WriteBack k m ws g) f = let n : (k == l) ≡ false = (let b = f.0 in grind nats) in rw n refl
  no-copy l t i (Flush k m ws g) f = let n : (k == l) ≡ false = (let b = f.0 in grind nats) in rw n refl
  no-copy l t i m f = refl

  -- and none gives up or commits a TID that is still to be granted
  unresolved : (t : ℕ) → next ≤ t → (m : Msg) → IfSome (tid_resolved m) (λ u. u < next) → passes (Resolves t) m ≡ false
  unfolding passes
  unresolved t i (Skip u) f = grind nats
  unresolved t i (Abort u) f = grind nats
  unresolved t i (Commit u n) f = grind nats
  unresolved t i m f = refl

  lower : (u : ℕ) → (next ≤ u → (u == u) ≡ false) → u < next
  lower u f = elim (cases_lt u next) [ inl l ↦ l | inr l ↦ absurd (let a = f l in let b = eq-self u in cc) ]

  -- so its TID is below the next
  resolved : (m : Msg) → ((t : ℕ) → next ≤ t → passes (Resolves t) m ≡ false) → IfSome (tid_resolved m) (λ u. u < next)
  unfolding passes
  resolved (Skip u) f = lower u (f u)
  resolved (Abort u) f = lower u (f u)
  resolved (Commit u n) f = lower u (f u)
  resolved m f = tt

-- what goes to a core gives up and commits no TID, and is of no words on their way home
unresolving : (next : ℕ) (m : Msg) → goes_to_core m ≡ true → IfSome (tid_resolved m) (λ t. t < next)
unresolving next (Skip t) g = absurd (cc)
unresolving next (Abort t) g = absurd (cc)
unresolving next (Commit t n) g = absurd (cc)
unresolving next m g = tt

-- requests and grants of TIDs name nothing else
asking : (sh : Shape) (next c : ℕ) (m : Msg) → fits sh (Core c) Vendor m ≡ true → GoodMessage sh next (Core c) Vendor m
unfolding fits
asking sh next c TidReq f = record { fits = f; line = tt; tid = tt }
asking sh next c m f = absurd (and-never (nat_lt c sh.cores) f)

granting : (sh : Shape) (next c : ℕ) (m : Msg) → fits sh Vendor (Core c) m ≡ true → GoodMessage sh next Vendor (Core c) m
unfolding fits
granting sh next c (TidGrant t) f = record { fits = f; line = tt; tid = tt }
granting sh next c m f = absurd (and-never (nat_lt c sh.cores) f)

-- of all messages

pub links-clean : (sh : Shape) (events : ℕ) (h : History) → Sound sh events h → (s d : Node) → strays_on sh s d (h.world.net s d) ≡ 0
links-clean sh events h k s d = link-clean sh s d (h.world.net s d) (λ i m e. (k.messages s d i m e).fits)

pub links-inside : (sh : Shape) (events : ℕ) (h : History) → Sound sh events h → (s d : Node)
    → LinkInside sh (events * most_sent sh) (h.world.net s d)
links-inside sh events h k s d = record {
  none = link-all sh (h.world.net s d) (λ i m e. inside sh s d m (k.messages s d i m e).line);
  few = k.links s d;
}

pub pairs-sound : (sh : Shape) (events : ℕ) (h : History) → Sound sh events h → PairsSound sh h.world
unfolding pair
pairs-sound sh events h k c d =
    let next = h.world.next in
    let net = h.world.net in
    record {
      out = none-live (LinesAway sh.dirs d) (net (Core c) (Dir d)) (λ i m e. at-home sh next d m (k.messages (Core c) (Dir d) i m e).line);
      back = none-live (LinesAway sh.dirs d) (net (Dir d) (Core c)) (λ i m e. at-home sh next d m (k.messages (Dir d) (Core c) i m e).line);
      copies = λ l t b. none-live (CopyOf l t) (net (Core c) (Dir d))
          (λ i m e. no-copy sh next d l t b m (k.messages (Core c) (Dir d) i m e).line);
      tids = λ t b. none-live (Resolves t) (net (Core c) (Dir d))
          (λ i m e. unresolved sh next d t b m (k.messages (Core c) (Dir d) i m e).tid);
      lines = k.lines d;
    }

-- so the cores that they come from and go to are of the machine
pub from-cores : (sh : Shape) (events : ℕ) (h : History) → Sound sh events h → FromCores sh h.world
unfolding fits
from-cores sh events h k = record {
  grants = λ c i m e. of-core c (is_grant m) (k.messages Vendor (Core c) i m e).fits;
  back = λ c d i m e. (fits_back sh c d m (k.messages (Dir d) (Core c) i m e).fits).core;
  asks = λ c i m e. of-core c (is_request m) (k.messages (Core c) Vendor i m e).fits;
}
  where
    of-core : (c : ℕ) (b : Bool) → (nat_lt c sh.cores && b) ≡ true → c < sh.cores
    of-core c b e = grind nats

-- and back

out-good : (sh : Shape) (w : World) (c d i : ℕ) (m : Msg) → PairsSound sh w → in_flight w.net (Core c) (Dir d) i ≡ Some m
    → fits sh (Core c) (Dir d) m ≡ true → is_inside sh m ≡ true → GoodMessage sh w.next (Core c) (Dir d) m
unfolding pair
out-good sh w c d i m p e f s = record {
  fits = f;
  line = line-named sh d m s (omega (arith, live-some (LinesAway sh.dirs d) (w.net (Core c) (Dir d)) i m e, (p c d).out)) copied;
  tid = resolved sh w.next d m (λ t b. none-taken (Resolves t) (w.net (Core c) (Dir d)) i e ((p c d).tids t b));
}
  where
    copied : (l t : ℕ) → num (passes (CopyOf l t) m) ≡ 1 → l < lines sh
    copied l t n = elim (cases_lt l (lines sh)) [
      | inl b ↦ b
      | inr b ↦ absurd (omega (arith, n, live-some (CopyOf l t) (w.net (Core c) (Dir d)) i m e, (p c d).copies l t b))
    ]

back-good : (sh : Shape) (w : World) (d c i : ℕ) (m : Msg) → PairsSound sh w → in_flight w.net (Dir d) (Core c) i ≡ Some m
    → fits sh (Dir d) (Core c) m ≡ true → is_inside sh m ≡ true → GoodMessage sh w.next (Dir d) (Core c) m
unfolding pair
back-good sh w d c i m p e f s =
    let g = (fits_back sh c d m f).goes in
    record {
      fits = f;
      line = line-named sh d m s (omega (arith, live-some (LinesAway sh.dirs d) (w.net (Dir d) (Core c)) i m e, (p c d).back))
          (λ l t n. absurd (omega (arith, n, back-no_copy m l t g)));
      tid = unresolving w.next m g;
    }

pub good : (sh : Shape) (w : World) (src dst : Node) (i : ℕ) (m : Msg) → PairsSound sh w → in_flight w.net src dst i ≡ Some m
    → fits sh src dst m ≡ true → is_inside sh m ≡ true → GoodMessage sh w.next src dst m
unfolding fits
good sh w (Core c) (Dir d) i m p e f s = out-good sh w c d i m p e f s
good sh w (Dir d) (Core c) i m p e f s = back-good sh w d c i m p e f s
good sh w (Core c) Vendor i m p e f s = asking sh w.next c m f
good sh w Vendor (Core c) i m p e f s = granting sh w.next c m f
good sh w (Core c) (Core d) i m p e f s = absurd (cc)
good sh w (Dir c) (Dir d) i m p e f s = absurd (cc)
good sh w (Dir d) Vendor i m p e f s = absurd (cc)
good sh w Vendor (Dir d) i m p e f s = absurd (cc)
good sh w Vendor Vendor i m p e f s = absurd (cc)
