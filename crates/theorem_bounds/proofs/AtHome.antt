-- Lines that messages in flight name are of memory, and at home at the link's directory.
use Rattle.std.specs.Prelude.{ℕ, ◌≡◌, ◌<◌, ◌≤◌, ◌%◌, Bool, true, false, not, ◌==◌, ◌&&◌, Some, IfSome}
use Rattle.std.proofs.Common.{arith, refl}
use Rattle.std.proofs.lemmas.Bool.Decides.{nat_tests}
use Rattle.base_lemmas.proofs.Lemmas.{in-memory}
use Rattle.rules_maps.specs.Nodes.{Core, Dir, Msg, LoadReq, Fill, ProbeReply, Mark, WriteBack, Flush, DataReq, Inv, InvAck}
use Rattle.rules_maps.specs.Shape.{Shape, home, lines}
use Rattle.rules_maps.specs.Words.{num}
use Rattle.rules_tcc.specs.Links.{in_flight}
use Rattle.rules_tcc.specs.Step.{History}
use Rattle.theorem_serial.specs.Count.{CopyOf, LinesAway, passes}
use Rattle.theorem_serial.specs.InMemory.{CopiesInMemory}
use Rattle.theorem_serial.specs.Pairs.{pair}
use Rattle.theorem_serial.proofs.Lemmas.{live-some}
use Rattle.rules_maps.specs.Messages.{goes_to_core, line_named}
use Rattle.theorem_bounds.proofs.Granted.{Reached}
use Rattle.theorem_bounds.proofs.Outside.{is_inside}

-- a line of memory at home at this directory
abbrev pub LineOf : Shape → (dir : ℕ) → (line : ℕ) → Type 0
LineOf sh d l = (l < lines sh) × (home sh l ≡ d)

-- a line that isn't away is at home
at-home : (sh : Shape) (d l : ℕ) → num (not ((l % sh.dirs) == d)) ≤ 0 → home sh l ≡ d
at-home sh d l z = go ((l % sh.dirs) == d) refl z
  where
    go : (b : Bool) → ((l % sh.dirs) == d) ≡ b → num (not b) ≤ 0 → l % sh.dirs ≡ d
    go true q z = grind (arith, nat_tests)
    go false q z = absurd (omega (arith, z))

-- words on their way home are of a line of memory
copy-passes : (l t : ℕ) → num ((l == l) && (t == t)) ≡ 1
copy-passes l t =
    let a : (l == l) ≡ true = grind (arith, nat_tests) in
    let b : (t == t) ≡ true = grind (arith, nat_tests) in rw (a, b) refl

pub named : (sh : Shape) (d : ℕ) (m : Msg) → is_inside sh m ≡ true → num (passes (LinesAway sh.dirs d) m) ≤ 0
    → ((l t : ℕ) → num (passes (CopyOf l t) m) ≡ 1 → l < lines sh) → IfSome (line_named m) (LineOf sh d)
unfolding is_inside passes
named sh d (LoadReq l a) i z c = (in-memory sh l i, at-home sh d l z)
named sh d (Fill l ws) i z c = (in-memory sh l i, at-home sh d l z)
named sh d (Mark l m t) i z c = (in-memory sh l i, at-home sh d l z)
named sh d (DataReq l) i z c = (in-memory sh l i, at-home sh d l z)
named sh d (Inv l m t) i z c = (in-memory sh l i, at-home sh d l z)
named sh d (InvAck l b) i z c = (in-memory sh l i, at-home sh d l z)
named sh d (WriteBack l m ws g) i z c = (c l g (copy-passes l g), at-home sh d l z)
named sh d (Flush l m ws g) i z c = (c l g (copy-passes l g), at-home sh d l z)
named sh d m i z c = tt

pub out-line : (sh : Shape) (h : History) (r : Reached sh h) (c d k : ℕ) (m : Msg) → CopiesInMemory sh h.world → is_inside sh m ≡ true
    → in_flight h.world.net (Core c) (Dir d) k ≡ Some m → IfSome (line_named m) (LineOf sh d)
unfolding pair
out-line sh h r c d k m q i e = named sh d m i
    (omega (
      arith,
      live-some (LinesAway sh.dirs d) (h.world.net (Core c) (Dir d)) k m e,
      (r.carried.records_and_messages_are_at_home c d 0).out,
    ))
    (λ l t n. q c d l t (omega (arith, n, live-some (CopyOf l t) (h.world.net (Core c) (Dir d)) k m e)))

-- none of these come from a directory
pub no-copy : (m : Msg) (l t : ℕ) → goes_to_core m ≡ true → num (passes (CopyOf l t) m) ≡ 0
unfolding passes
no-copy (Fill x ws) l t g = refl
no-copy (ProbeReply x s) l t g = refl
no-copy (DataReq x) l t g = refl
no-copy (Inv x m u) l t g = refl
no-copy m l t g = absurd (cc)

pub back-line : (sh : Shape) (h : History) (r : Reached sh h) (c d k : ℕ) (m : Msg) → is_inside sh m ≡ true → goes_to_core m ≡ true
    → in_flight h.world.net (Dir d) (Core c) k ≡ Some m → IfSome (line_named m) (LineOf sh d)
unfolding pair
back-line sh h r c d k m i g e = named sh d m i
    (omega (
      arith,
      live-some (LinesAway sh.dirs d) (h.world.net (Dir d) (Core c)) k m e,
      (r.carried.records_and_messages_are_at_home c d 0).back,
    ))
    (λ l t n. absurd (omega (arith, n, no-copy m l t g)))
