-- A directory sends of lines of memory only: of the one that a message names, and of those among which it looks for marks.
use Rattle.std.specs.Prelude.{ℕ, ◌≡◌, Bool, true, ◌==◌, ◌&&◌, ◌||◌, List, Option, Some, None, nat_lt, nat_le, false, if◌then◌else◌}
use Rattle.std.proofs.Common.{arith, refl}
use Rattle.rules_maps.specs.Words.{count_below}
use Rattle.rules_maps.specs.Judge.{Judgement, judge, Current, Outdated, TooEarly}
use Rattle.rules_maps.specs.Lines.{Lines, has_mark}
use Rattle.rules_maps.specs.Masks.{full}
use Rattle.rules_maps.specs.Nodes.{Core, Dir, Vendor, Msg, LoadReq, Fill, Skip, Probe, ProbeReply, Mark, Commit, Abort, WriteBack, Flush}
use Rattle.rules_maps.specs.Nodes.{DataReq, Inv, InvAck}
use Rattle.rules_maps.specs.Shape.{Shape, lines}
use Rattle.rules_tcc.specs.DirDeliver.{Answer, Waits, Drops, Asks, Takes, skip, abort, probe, ask_owner, home_words, load_unless_owned}
use Rattle.rules_tcc.specs.DirDeliver.{load_request, mark_unless_owned, mark, is_invalidated, invs_to, invalidations, dir_commit}
use Rattle.rules_tcc.specs.DirDeliver.{acknowledgement, judged, write_back, dir_deliver}
use Rattle.rules_tcc.specs.State.{DirState}
use Rattle.theorem_bounds.specs.Bounds.{most_sent}
use Rattle.theorem_bounds.proofs.Outside.{is_inside, SendsInside, no-message, one-message, some, wider, those-messages, nothing-inside}
use Rattle.theorem_bounds.proofs.Outside.{to-inside, below}

abbrev pub AnswerInside : Shape → Answer → Type 0
AnswerInside sh Waits = Unit {0}
AnswerInside sh Drops = Unit {0}
AnswerInside sh (Asks s sends) = SendsInside sh (most_sent sh) sends
AnswerInside sh (Takes s sends) = SendsInside sh (most_sent sh) sends

either : (sh : Shape) (b : Bool) (x y : Answer) → AnswerInside sh x → AnswerInside sh y → AnswerInside sh (if b then x else y)
either sh true x y f g = f
either sh false x y f g = g

skips : (sh : Shape) (t : ℕ) (s : DirState) → AnswerInside sh (skip t s)
unfolding skip
skips sh t s = either sh (nat_lt t s.serving.serving) Drops _ tt (nothing-inside sh _)

aborts : (sh : Shape) (t : ℕ) (s : DirState) → AnswerInside sh (abort t s)
unfolding abort
aborts sh t s = either sh (nat_lt t s.serving.serving) Drops _ tt
    (either sh (s.serving.serving == t) _ _ (nothing-inside sh _) (nothing-inside sh _))

probes : (sh : Shape) (c t : ℕ) (s : DirState) → AnswerInside sh (probe c t s)
unfolding probe is_inside
probes sh c t s = either sh (nat_lt s.serving.serving t) Waits _ tt
    (to-inside sh _ (Core c) _ (one-message sh _ (ProbeReply t s.serving.serving) (some sh) refl))

asks_owner : (sh : Shape) (o l : ℕ) (s : DirState) → nat_lt l (lines sh) ≡ true → AnswerInside sh (ask_owner o l s)
unfolding ask_owner is_inside
asks_owner sh o l s e = either sh (s.lines.asked l) Waits _ tt (to-inside sh _ (Core o) _ (one-message sh _ (DataReq l) (some sh) e))

loads : (sh : Shape) (c l a : ℕ) (s : DirState) → nat_lt l (lines sh) ≡ true → AnswerInside sh (load_request c l a s)
unfolding load_request is_inside
loads sh c l a s e = either sh (nat_le s.serving.serving a || has_mark s.lines l) Waits _ tt (go (s.lines.owner l))
  where
    go : (o : Option ℕ) → AnswerInside sh (load_unless_owned c l s o)
    go None = to-inside sh _ (Core c) _ (one-message sh _ (Fill l (home_words s l)) (some sh) e)
    go (Some o) = asks_owner sh o l s e

marks : (sh : Shape) (l m t : ℕ) (s : DirState) → nat_lt l (lines sh) ≡ true → AnswerInside sh (mark l m t s)
unfolding mark
marks sh l m t s e = either sh (nat_lt t s.serving.serving) Drops _ tt
    (either sh (nat_lt s.serving.serving t) Waits _ tt (either sh (m == full) _ _ (nothing-inside sh _) (go (s.lines.owner l))))
  where
    go : (o : Option ℕ) → AnswerInside sh (mark_unless_owned l m s o)
    go None = nothing-inside sh _
    go (Some o) = asks_owner sh o l s e

invalidates : (sh : Shape) (ls : Lines) (c t : ℕ) → SendsInside sh (most_sent sh) (invalidations sh ls c t)
unfolding invalidations invs_to is_inside
invalidates sh ls c t (Dir e) = no-message sh _
invalidates sh ls c t Vendor = no-message sh _
invalidates sh ls c t (Core j) = wider sh (lines sh) (most_sent sh) _ (omega arith)
    (those-messages sh (λ l. Inv l (ls.mark l) t) (is_invalidated sh ls c j) (lines sh) (λ l i. below sh l i))

commits : (sh : Shape) (c t n : ℕ) (s : DirState) → AnswerInside sh (dir_commit sh c t n s)
unfolding dir_commit
commits sh c t n s = either sh (s.serving.serving == t && count_below (has_mark s.lines) (lines sh) == n) _ Waits
    (invalidates sh s.lines c t) tt

acks : (sh : Shape) (c l : ℕ) (keeps : Bool) (s : DirState) → AnswerInside sh (acknowledgement c l keeps s)
unfolding acknowledgement
acks sh c l keeps s = either sh (s.owed == 0) Drops _ tt (nothing-inside sh _)

backs : (sh : Shape) (c l m : ℕ) (ws : List ℕ) (g : ℕ) (s : DirState) → AnswerInside sh (write_back c l m ws g s)
unfolding write_back
backs sh c l m ws g s = go (judge (s.lines.owner l) (s.lines.tag l) c g)
  where
    go : (j : Judgement) → AnswerInside sh (judged l m ws s j)
    go TooEarly = tt
    go Outdated = tt
    go Current = nothing-inside sh _

pub answer-inside : (sh : Shape) (c : ℕ) (s : DirState) (m : Msg) → is_inside sh m ≡ true → AnswerInside sh (dir_deliver sh s c m)
unfolding dir_deliver is_inside
answer-inside sh c s (Skip t) e = skips sh t s
answer-inside sh c s (Abort t) e = aborts sh t s
answer-inside sh c s (Probe t) e = probes sh c t s
answer-inside sh c s (LoadReq l a) e = loads sh c l a s e
answer-inside sh c s (Mark l m t) e = marks sh l m t s e
answer-inside sh c s (Commit t n) e = commits sh c t n s
answer-inside sh c s (InvAck l x) e = acks sh c l x s
answer-inside sh c s (WriteBack l m ws g) e = backs sh c l m ws g s
answer-inside sh c s (Flush l m ws g) e = backs sh c l m ws g s
answer-inside sh c s _ e = tt
