-- A directory that takes a message of a line that is at home there sends of such lines alone, marks no others, and has owners that exist.
use Rattle.std.specs.Prelude.{ℕ, ◌≡◌, ◌<◌, ◌==◌, ◌&&◌, not, Bool, true, false, [], ◌∷◌, Some, None}
use Rattle.std.specs.Prelude.{nat_lt, if◌then◌else◌}
use Rattle.std.proofs.Common.{arith, refl}
use Rattle.std.proofs.lemmas.Bool.Decides.{nat_tests}
use Rattle.rules_maps.specs.Nodes.{Core, Msg, DataReq, Fill, Inv, ProbeReply}
use Rattle.rules_maps.specs.Shape.{Shape, home, lines}
use Rattle.rules_tcc.specs.State.{DirState}
use Rattle.rules_tcc.specs.DirDeliver.{Answer, Asks, Takes, dir_deliver, home_words, invalidations, invs_to, is_invalidated}
use Rattle.rules_tcc.specs.Sends.{Sends, nothing}
use Rattle.theorem_serial.specs.Count.{LinesAway, passes}
use Rattle.theorem_serial.proofs.Lemmas.{AsksOwner, DirOutcome, Homely, TakesAbort, TakesAck, TakesCommit, TakesCopy, TakesLoad, TakesMark}
use Rattle.theorem_serial.proofs.Lemmas.{TakesProbe, TakesSkip, ToLoad, ToMark, WantsOwned, homely-none, homely-those, one-data, one-fill}
use Rattle.theorem_serial.proofs.Lemmas.{one-inv, one-reply, one-to, outcome}
use Rattle.theorem_sound.specs.Sound.{LinesHome}

-- what an answer leaves and sends
pub record Answers (sh : Shape) (d : ℕ) (new : DirState) (sends : Sends) : Type 0 where
  pub lines : LinesHome sh d new.lines
  pub homely : (j : ℕ) → Homely sh d (sends (Core j))

abbrev pub HomeBy : Shape → (dir : ℕ) → Answer → Type 0
HomeBy sh d (Asks new sends) = Answers sh d new sends
HomeBy sh d (Takes new sends) = Answers sh d new sends
HomeBy sh d _ = Unit {0}

ruleset nats = (arith, nat_tests)

quietly : (sh : Shape) (d : ℕ) (new : DirState) → LinesHome sh d new.lines → Answers sh d new nothing
quietly sh d new h = record { lines = h; homely = λ j. homely-none sh d }

at-home : (x d : ℕ) → not (x == d) ≡ false → x ≡ d
at-home x d e = grind nats

pub dir-home : (sh : Shape) (d : ℕ) (s : DirState) (c : ℕ) (m : Msg) → c < sh.cores → passes (LinesAway sh.dirs d) m ≡ false
    → LinesHome sh d s.lines → HomeBy sh d (dir_deliver sh s c m)
unfolding passes invalidations invs_to is_invalidated
dir-home sh d s c m cl aw h = go (outcome sh s c m) aw
  where
    wants : {l : ℕ} {m : Msg} → WantsOwned s l m → passes (LinesAway sh.dirs d) m ≡ false → home sh l ≡ d
    wants {l = l} (ToLoad x) a = at-home (home sh l) d a
    wants {l = l} (ToMark k) a = at-home (home sh l) d a

    -- marks that are cleared, or stay
    cleared : (b : Bool) (l : ℕ) → nat_lt 0 (if b then 0 else s.lines.mark l) ≡ true → home sh l ≡ d
    cleared true l e = absurd (grind nats)
    cleared false l e = h.marked l e

    one-more : (l k x : ℕ) → home sh l ≡ d → (b : Bool) → (x == l) ≡ b → nat_lt 0 (if b then k else s.lines.mark x) ≡ true → home sh x ≡ d
    one-more l k x p true q e = let r : l ≡ x = grind nats in rw r at p
    one-more l k x p false q e = h.marked x e

    owned : (b : Bool) (l j : ℕ) → (if b then Some c else s.lines.owner l) ≡ Some j → j < sh.cores
    owned true l j e = let q : c ≡ j = cc in rw q at cl
    owned false l j e = h.owners l j e

    disowned : (b : Bool) (l j : ℕ) → (if b then None else s.lines.owner l) ≡ Some j → j < sh.cores
    disowned true l j e = absurd (cc)
    disowned false l j e = h.owners l j e

    marked : (a m b e : Bool) → (a && m && b && e) ≡ true → m ≡ true
    marked a m b e q = grind nats

    inv : (j l : ℕ) → (nat_lt j sh.cores && nat_lt 0 (s.lines.mark l) && s.lines.sharers l j && not (j == c)) ≡ true
        → Homely sh d (Inv l (s.lines.mark l) s.serving.serving ∷ [])
    inv j l q = let m = marked (nat_lt j sh.cores) (nat_lt 0 (s.lines.mark l)) (s.lines.sharers l j) (not (j == c)) q in
        one-inv sh d l (s.lines.mark l) s.serving.serving (h.marked l m) m

    go : {m : Msg} {a : Answer} → DirOutcome sh s c m a → passes (LinesAway sh.dirs d) m ≡ false → HomeBy sh d a
    go (AsksOwner m l o w e) a = record {
      lines = record { marked = h.marked; owners = h.owners };
      homely = λ j. one-to sh d o j (DataReq l) (one-data sh d l (wants w a));
    }
    go (TakesSkip u b e i) a = quietly sh d _ h
    go (TakesAbort u b e i) a = quietly sh d _ (record { marked = cleared b; owners = h.owners })
    go (TakesProbe t i) a =
        record { lines = h; homely = λ j. one-to sh d c j (ProbeReply t s.serving.serving) (one-reply sh d t s.serving.serving) }
    go (TakesLoad l k i e o) a = record {
      lines = record { marked = h.marked; owners = h.owners };
      homely = λ j. one-to sh d c j (Fill l (home_words s l)) (one-fill sh d l (home_words s l) (at-home (home sh l) d a));
    }
    go (TakesMark l k i) a = quietly sh d _ (record {
      marked = λ x e. one-more l k x (at-home (home sh l) d a) (x == l) refl e;
      owners = h.owners;
    })
    go (TakesCommit b e) a = record {
      lines = record { marked = cleared b; owners = λ l j q. owned (nat_lt 0 (s.lines.mark l)) l j q };
      homely = λ j. homely-those sh d (λ l. Inv l (s.lines.mark l) s.serving.serving ∷ []) (is_invalidated sh s.lines c j) (lines sh)
          (inv j);
    }
    go (TakesAck l k b i e) a = quietly sh d _ (record { marked = cleared b; owners = h.owners })
    go (TakesCopy m l k ws g y e o) a = quietly sh d _ (record { marked = h.marked; owners = λ x j q. disowned (x == l) x j q })
    go _ a = tt
