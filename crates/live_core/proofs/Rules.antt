-- A directory takes a message exactly where there is no reason to wait: rule by rule.
use Rattle.std.proofs.Common.{◌≡◌, ℕ, Bool, true, false, ◌&&◌, ◌||◌, List, Option, Some, None, refl, sym, ap, arith}
use Rattle.std.specs.Prelude.{not, is_some, nat_lt, nat_le, ◌==◌, if◌then◌else◌}
use Rattle.std.proofs.lemmas.Bool.Decides.{nat_tests}
use Rattle.directory.specs.Gives.{is_taken}
use Rattle.rules_maps.specs.Judge.{judge, is_owner, Current, Outdated, TooEarly}
use Rattle.rules_maps.specs.Lines.{has_mark}
use Rattle.rules_maps.specs.Masks.{full}
use Rattle.rules_maps.specs.Nodes.{TidReq, TidGrant, LoadReq, Fill, Skip, Probe, ProbeReply, Mark, Commit, Abort}
use Rattle.rules_maps.specs.Nodes.{WriteBack, Flush, DataReq, Inv, InvAck}
use Rattle.rules_maps.specs.Shape.{Shape}
use Rattle.rules_tcc.specs.DirDeliver.{Answer, Waits, Drops, Asks, Takes, dir_deliver, skip, abort, probe, ask_owner}
use Rattle.rules_tcc.specs.DirDeliver.{load_unless_owned, load_request, mark, mark_unless_owned, mark_taken, dir_commit, acknowledgement}
use Rattle.rules_tcc.specs.DirDeliver.{judged, write_back}
use Rattle.rules_tcc.specs.Sends.{Sends}
use Rattle.rules_tcc.specs.State.{DirState}
use Rattle.live_core.specs.Reasons.{Reason, Early, Marked, Count, Tag, probe_waits, owner_asked, load_waits, mark_waits, marked_lines}
use Rattle.live_core.specs.Reasons.{commit_waits, words_wait, reason_of}
use Rattle.live_core.specs.Waiting.{ReasonsAreTheRules}
use Rattle.directory.proofs.Lemmas.{if-always}

-- this answer takes the message exactly where there is no such reason
abbrev Agree : Answer → Option Reason → Type 0
Agree a r = is_taken a ≡ not (is_some r)

-- one reason before others
before : (b : Bool) (a : Answer) (r : Reason) (o : Option Reason) → Agree a o → Agree (if b then Waits else a) (if b then Some r else o)
before true a r o h = refl
before false a r o h = h

asks : (o l : ℕ) (s : DirState) → Agree (ask_owner o l s) (owner_asked (s.lines.asked l) (Some o))
unfolding ask_owner
asks o l s = go (s.lines.asked l) _ _
  where
    go : (b : Bool) (x : DirState) (y : Sends) → Agree (if b then Waits else Asks x y) (owner_asked b (Some o))
    go true x y = refl
    go false x y = refl

unowned : (b : Bool) → owner_asked b None ≡ None
unowned true = refl
unowned false = refl

loads : (c l : ℕ) (s : DirState) (o : Option ℕ) → Agree (load_unless_owned c l s o) (owner_asked (s.lines.asked l) o)
loads c l s None = sym (ap (λ r. not (is_some r)) (unowned (s.lines.asked l)))
loads c l s (Some o) = asks o l s

marks : (l m : ℕ) (s : DirState) (o : Option ℕ) → Agree (mark_unless_owned l m s o) (owner_asked (s.lines.asked l) o)
marks l m s None = sym (ap (λ r. not (is_some r)) (unowned (s.lines.asked l)))
marks l m s (Some o) = asks o l s

-- ---- rule by rule

probing : (c t : ℕ) (s : DirState) → Agree (probe c t s) (probe_waits t s)
unfolding probe probe_waits
probing c t s = before (nat_lt s.serving.serving t) _ (Early s.serving.serving) None refl

loading : (c l after : ℕ) (s : DirState) → Agree (load_request c l after s) (load_waits l after s)
unfolding load_request load_waits
loading c l after s =
    go (nat_le s.serving.serving after) (has_mark s.lines l) (loads c l s (s.lines.owner l))
  where
    go : (a b : Bool) → Agree (load_unless_owned c l s (s.lines.owner l)) (owner_asked (s.lines.asked l) (s.lines.owner l))
        → Agree (if a || b then Waits else load_unless_owned c l s (s.lines.owner l))
        (if a then Some (Early s.serving.serving) else if b then Some (Marked (s.lines.mark l))
        else owner_asked (s.lines.asked l) (s.lines.owner l))
    go true b h = refl
    go false true h = refl
    go false false h = h

marking-agrees : (l m t : ℕ) (s : DirState) → Agree (mark l m t s) (mark_waits l m t s)
unfolding mark mark_waits
marking-agrees l m t s =
    go (nat_lt t s.serving.serving) refl (nat_lt s.serving.serving t) refl (m == full) (marks l m s (s.lines.owner l))
  where
    apart : nat_lt t s.serving.serving ≡ true → nat_lt s.serving.serving t ≡ true → ⊥
    apart p q = grind (arith, nat_tests)

    go : (a : Bool) → nat_lt t s.serving.serving ≡ a → (b : Bool) → nat_lt s.serving.serving t ≡ b → (f : Bool)
        → Agree (mark_unless_owned l m s (s.lines.owner l)) (owner_asked (s.lines.asked l) (s.lines.owner l))
        → Agree (if a then Drops else if b then Waits else if f then mark_taken l m s else mark_unless_owned l m s (s.lines.owner l))
        (if b then Some (Early s.serving.serving) else if a || f then None else owner_asked (s.lines.asked l) (s.lines.owner l))
    go true p true q f h = absurd (apart p q)
    go true p false q f h = refl
    go false p true q f h = refl
    go false p false q true h = refl
    go false p false q false h = h

committing : (sh : Shape) (c t n : ℕ) (s : DirState) → Agree (dir_commit sh c t n s) (commit_waits sh t n s)
unfolding dir_commit commit_waits
committing sh c t n s = go (s.serving.serving == t) (marked_lines sh s == n) _ _
  where
    go : (a b : Bool) (x : DirState) (y : Sends) → Agree (if a && b then Takes x y else Waits)
        (if a then (if b then None else Some (Count (marked_lines sh s))) else Some (Early s.serving.serving))
    go true true x y = refl
    go true false x y = refl
    go false b x y = refl

words-wait : (c l m g : ℕ) (ws : List ℕ) (s : DirState) → Agree (write_back c l m ws g s) (words_wait l g s)
unfolding write_back words_wait judge
words-wait c l m g ws s = go (nat_lt (s.lines.tag l) g) (s.lines.tag l == g && is_owner (s.lines.owner l) c)
  where
    go : (a b : Bool) → Agree (judged l m ws s (if a then TooEarly else if b then Current else Outdated))
        (if a then Some (Tag (s.lines.tag l)) else None)
    go true b = refl
    go false true = refl
    go false false = refl

pub reasons-are-rules : ReasonsAreTheRules
unfolding dir_deliver reason_of skip abort acknowledgement
reasons-are-rules sh s c (Probe t) g = probing c t s
reasons-are-rules sh s c (LoadReq l after) g = loading c l after s
reasons-are-rules sh s c (Mark l m t) g = marking-agrees l m t s
reasons-are-rules sh s c (Commit t n) g = committing sh c t n s
reasons-are-rules sh s c (WriteBack l m ws t) g = words-wait c l m t ws s
reasons-are-rules sh s c (Flush l m ws t) g = words-wait c l m t ws s
reasons-are-rules sh s c (Skip t) g = if-always (nat_lt t s.serving.serving) _ _ refl refl
reasons-are-rules sh s c (Abort t) g =
    if-always (nat_lt t s.serving.serving) _ _ refl (if-always (s.serving.serving == t) _ _ refl refl)
reasons-are-rules sh s c (InvAck l keeps) g = if-always (s.owed == 0) _ _ refl refl
reasons-are-rules sh s c TidReq g = absurd (cc)
reasons-are-rules sh s c (TidGrant t) g = absurd (cc)
reasons-are-rules sh s c (Fill l ws) g = absurd (cc)
reasons-are-rules sh s c (ProbeReply t v) g = absurd (cc)
reasons-are-rules sh s c (DataReq l) g = absurd (cc)
reasons-are-rules sh s c (Inv l m t) g = absurd (cc)
