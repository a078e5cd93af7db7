-- A directory that has handled a message takes those that aren't looked at again as before.
use Rattle.std.proofs.Common.{◌≡◌, ◌≢◌, ℕ, ◌<◌, Bool, true, false, ◌||◌, ◌&&◌, List, [], ◌∷◌, Option, Some, None, refl, sym, subst, arith}
use Rattle.std.specs.Prelude.{nat_lt, nat_le, ◌==◌, ◌-◌, if◌then◌else◌}
use Rattle.std.proofs.lemmas.Bool.{ne_eqb}
use Rattle.std.proofs.lemmas.Bool.Decides.{nat_tests}
use Rattle.tcc_base.specs.Settings.{Settings}
use Rattle.tcc_base.specs.Put.{put}
use Rattle.rules_maps.specs.Judge.{Judgement, judge, Current, Outdated, TooEarly}
use Rattle.rules_maps.specs.Lines.{has_mark, with_asked, with_mark, with_owner, with_sharer}
use Rattle.rules_maps.specs.Masks.{full}
use Rattle.rules_maps.specs.Nodes.{Core, Msg, TidReq, TidGrant, LoadReq, Fill, Skip, Probe, ProbeReply, Mark, Commit, Abort}
use Rattle.rules_maps.specs.Nodes.{WriteBack, Flush, DataReq, Inv, InvAck}
use Rattle.rules_maps.specs.Serving.{Serving, kept, skipped}
use Rattle.rules_maps.specs.Shape.{lines}
use Rattle.rules_maps.specs.Words.{count_below}
use Rattle.rules_maps.proofs.Lemmas.{advance-rises}
use Rattle.rules_tcc.specs.DirDeliver.{Answer, Waits, Drops, Asks, Takes, abort, acknowledgement, ask_owner, came_home, dir_commit}
use Rattle.rules_tcc.specs.DirDeliver.{dir_deliver, judged, load_request, load_unless_owned, mark, mark_taken, mark_unless_owned, moved_on}
use Rattle.rules_tcc.specs.DirDeliver.{moved_on_if_settled, probe, skip, unless_keeps, write_back}
use Rattle.rules_tcc.specs.Sends.{Sends, nothing, to}
use Rattle.rules_tcc.specs.State.{DirState}
use Rattle.directory.specs.Gives.{acts, answer_of, is_taken}
use Rattle.directory.specs.declared.handled.Handled.{Handled}
use Rattle.directory.specs.declared.handled.Handled.TheVariants.{Handled as Done, Waits as Waited, Asked, Dropped}
use Rattle.net_core.specs.Taking.{All, AtLine, Look, Nothing, SameBut, SameTaking, is_seen, looks}
use Rattle.net_core.proofs.Events.TakesAlike.{taken-alike, taken-but}

-- what is as it was, by what is looked at again
abbrev pub SameUnder : Look → DirState → DirState → Type 0
SameUnder Nothing s t = SameTaking s t
SameUnder (AtLine l) s t = SameBut l s t
SameUnder All s t = Unit {0}

abbrev Quiet : Msg → DirState → Answer → Type 0
Quiet m s (Takes t sends) = SameUnder (looks Done m s.serving.serving t.serving.serving) s t
Quiet m s (Asks t sends) = SameUnder (looks Asked m s.serving.serving t.serving.serving) s t
Quiet m s Waits = Unit {0}
Quiet m s Drops = Unit {0}

itself : (s : DirState) → SameTaking s s
itself s = record { serving = refl; mark = refl; owner = refl; asked = refl; tag = refl }

-- where the same TID is served this is as it was, and else all is looked at
if-served : (s t : DirState) → (t.serving.serving ≡ s.serving.serving → SameTaking s t)
    → SameUnder (if t.serving.serving == s.serving.serving then Nothing else All) s t
if-served s t same = by (t.serving.serving == s.serving.serving) refl
  where
    by : (b : Bool) → (t.serving.serving == s.serving.serving) ≡ b → SameUnder (if b then Nothing else All) s t
    by true q = same (grind (arith, nat_tests))
    by false q = tt

-- only who is skipped changes
served-quiet : (s : DirState) (v : Serving)
    → SameUnder (if v.serving == s.serving.serving then Nothing else All) s (record s { serving = v })
served-quiet s v =
    if-served s (record s { serving = v }) (λ q. record { serving = q; mark = refl; owner = refl; asked = refl; tag = refl })

-- a larger TID is served
risen-quiet : (s t : DirState) → s.serving.serving < t.serving.serving
    → SameUnder (if t.serving.serving == s.serving.serving then Nothing else All) s t
risen-quiet s t rises = if-served s t (λ q. absurd (omega (arith, rises, q)))

skip-quiet : (k : ℕ) (s : DirState) → Quiet (Skip k) s (skip k s)
unfolding skip
skip-quiet k s = by (nat_lt k s.serving.serving)
  where
    by : (b : Bool) → Quiet (Skip k) s (if b then Drops else Takes (record s { serving = skipped k s.serving }) nothing)
    by true = tt
    by false = served-quiet s (skipped k s.serving)

-- a directory that moves on serves a larger TID
moved-serving : (s : DirState) → s.serving.serving < (moved_on s).serving.serving
unfolding moved_on
moved-serving s = advance-rises s.serving

abort-quiet : (k : ℕ) (s : DirState) → Quiet (Abort k) s (abort k s)
unfolding abort
abort-quiet k s = by (nat_lt k s.serving.serving) (s.serving.serving == k)
  where
    by : (a b : Bool)
        → Quiet (Abort k) s (if a
        then Drops
        else (if b then Takes (moved_on s) nothing else Takes (record s { serving = kept k s.serving }) nothing))
    by true b = tt
    by false true = risen-quiet s (moved_on s) (moved-serving s)
    by false false = served-quiet s (kept k s.serving)

probe-quiet : (c k : ℕ) (s : DirState) → Quiet (Probe k) s (probe c k s)
unfolding probe
probe-quiet c k s = by (nat_lt s.serving.serving k)
  where
    by : (b : Bool) → Quiet (Probe k) s (if b then Waits else Takes s (to (Core c) (ProbeReply k s.serving.serving ∷ [])))
    by true = tt
    by false = itself s

-- one sharer more or less, and so many acknowledgements owed
sharer-quiet : (l c : ℕ) (b : Bool) (n : ℕ) (s : DirState) → SameTaking s (record s { lines = with_sharer l c b s.lines; owed = n })
unfolding with_sharer
sharer-quiet l c b n s = record { serving = refl; mark = refl; owner = refl; asked = refl; tag = refl }

-- ---- one line alone changes

put-other : {A : Type 0} (f : ℕ → A) (i : ℕ) (v : A) (j : ℕ) → j ≢ i → put f i v j ≡ f j
put-other f i v j ne = rw (ne_eqb j i ne) refl

asked-but : (l : ℕ) (s : DirState) → SameBut l s (record s { lines = with_asked l true s.lines })
unfolding with_asked
asked-but l s = record {
  serving = refl;
  mark = λ k ne. refl;
  owner = λ k ne. refl;
  asked = put-other s.lines.asked l true;
  tag = λ k ne. refl;
}

marked-but : (l m : ℕ) (s : DirState) → SameBut l s (record s { lines = with_mark l m s.lines })
unfolding with_mark
marked-but l m s = record {
  serving = refl;
  mark = put-other s.lines.mark l m;
  owner = λ k ne. refl;
  asked = λ k ne. refl;
  tag = λ k ne. refl;
}

home-but : (l m : ℕ) (ws : List ℕ) (s : DirState) → SameBut l s (came_home l m ws s)
unfolding came_home with_asked with_owner
home-but l m ws s = record {
  serving = refl;
  mark = λ k ne. refl;
  owner = put-other s.lines.owner l None;
  asked = put-other s.lines.asked l false;
  tag = λ k ne. refl;
}

ask-quiet : (l last o : ℕ) (s : DirState) → Quiet (LoadReq l last) s (ask_owner o l s)
unfolding ask_owner
ask-quiet l last o s = by (s.lines.asked l)
  where
    by : (b : Bool) → Quiet (LoadReq l last) s
        (if b then Waits else Asks (record s { lines = with_asked l true s.lines }) (to (Core o) (DataReq l ∷ [])))
    by true = tt
    by false = asked-but l s

ask-mark-quiet : (l m k o : ℕ) (s : DirState) → Quiet (Mark l m k) s (ask_owner o l s)
unfolding ask_owner
ask-mark-quiet l m k o s = by (s.lines.asked l)
  where
    by : (b : Bool) → Quiet (Mark l m k) s
        (if b then Waits else Asks (record s { lines = with_asked l true s.lines }) (to (Core o) (DataReq l ∷ [])))
    by true = tt
    by false = asked-but l s

mark-quiet : (l m k : ℕ) (s : DirState) → Quiet (Mark l m k) s (mark l m k s)
unfolding mark
mark-quiet l m k s = by (nat_lt k s.serving.serving) (nat_lt s.serving.serving k) (m == full) (s.lines.owner l)
  where
    by : (a b f : Bool) (o : Option ℕ) → Quiet (Mark l m k) s
        (if a then Drops else (if b then Waits else (if f then mark_taken l m s else mark_unless_owned l m s o)))
    by true b f o = tt
    by false true f o = tt
    by false false true o = marked-but l m s
    by false false false None = marked-but l m s
    by false false false (Some o) = ask-mark-quiet l m k o s

-- what came home, for a kind of message that is looked at again at its line
home-quiet : (x : Msg) (c l m : ℕ) (ws : List ℕ) (g : ℕ) (s : DirState)
    → ((before after : ℕ) → looks Done x before after ≡ AtLine l) → Quiet x s (write_back c l m ws g s)
unfolding write_back
home-quiet x c l m ws g s at = by (judge (s.lines.owner l) (s.lines.tag l) c g)
  where
    by : (j : Judgement) → Quiet x s (judged l m ws s j)
    by TooEarly = tt
    by Outdated = tt
    by Current = subst (λ k. SameUnder k s (came_home l m ws s))
        (sym (at s.serving.serving (came_home l m ws s).serving.serving)) (home-but l m ws s)

commit-quiet : (sh : Settings) (c k count : ℕ) (s : DirState) → Quiet (Commit k count) s (dir_commit sh c k count s)
unfolding dir_commit
commit-quiet sh c k count s = by (s.serving.serving == k && count_below (has_mark s.lines) (lines sh) == count) _ _
  where
    by : (b : Bool) (t : DirState) (sends : Sends) → Quiet (Commit k count) s (if b then Takes t sends else Waits)
    by true t sends = tt
    by false t sends = tt

load-quiet : (c l last : ℕ) (s : DirState) → Quiet (LoadReq l last) s (load_request c l last s)
unfolding load_request
load-quiet c l last s = by (nat_le s.serving.serving last || has_mark s.lines l) (s.lines.owner l)
  where
    by : (b : Bool) (o : Option ℕ) → Quiet (LoadReq l last) s (if b then Waits else load_unless_owned c l s o)
    by true o = tt
    by false None = sharer-quiet l c true s.owed s
    by false (Some o) = ask-quiet l last o s

owed-quiet : (c l : ℕ) (keeps : Bool) (n : ℕ) (s : DirState) → SameTaking s (record s { lines = unless_keeps keeps c l s.lines; owed = n })
owed-quiet c l true n s = record { serving = refl; mark = refl; owner = refl; asked = refl; tag = refl }
owed-quiet c l false n s = sharer-quiet l c false n s

settled-quiet : (s t : DirState) → SameTaking s t
    → SameUnder (if (moved_on_if_settled t).serving.serving == s.serving.serving then Nothing else All) s (moved_on_if_settled t)
unfolding moved_on_if_settled
settled-quiet s t e = by (t.owed == 0)
  where
    by : (b : Bool) → SameUnder (if (if b then moved_on t else t).serving.serving == s.serving.serving then Nothing else All) s
        (if b then moved_on t else t)
    by true = risen-quiet s (moved_on t) (subst (λ k. k < (moved_on t).serving.serving) e.serving (moved-serving t))
    by false = if-served s t (λ q. e)

acknowledgement-quiet : (c l : ℕ) (keeps : Bool) (s : DirState) → Quiet (InvAck l keeps) s (acknowledgement c l keeps s)
unfolding acknowledgement
acknowledgement-quiet c l keeps s = by (s.owed == 0)
  where
    by : (b : Bool)
        → Quiet (InvAck l keeps) s (if b
        then Drops
        else Takes (moved_on_if_settled (record s { lines = unless_keeps keeps c l s.lines; owed = s.owed - 1 })) nothing)
    by true = tt
    by false =
        settled-quiet s (record s { lines = unless_keeps keeps c l s.lines; owed = s.owed - 1 }) (owed-quiet c l keeps (s.owed - 1) s)

quiet : (sh : Settings) (s : DirState) (c : ℕ) (m : Msg) → Quiet m s (dir_deliver sh s c m)
unfolding dir_deliver
quiet sh s c (Skip k) = skip-quiet k s
quiet sh s c (Abort k) = abort-quiet k s
quiet sh s c (InvAck l keeps) = acknowledgement-quiet c l keeps s
quiet sh s c (Probe k) = probe-quiet c k s
quiet sh s c (LoadReq l last) = load-quiet c l last s
quiet sh s c (Mark l m k) = mark-quiet l m k s
quiet sh s c (Commit k count) = commit-quiet sh c k count s
quiet sh s c (WriteBack l m ws g) = home-quiet (WriteBack l m ws g) c l m ws g s (λ b a. refl)
quiet sh s c (Flush l m ws g) = home-quiet (Flush l m ws g) c l m ws g s (λ b a. refl)
quiet sh s c TidReq = tt
quiet sh s c (TidGrant k) = tt
quiet sh s c (Fill l ws) = tt
quiet sh s c (ProbeReply k serving) = tt
quiet sh s c (DataReq l) = tt
quiet sh s c (Inv l m k) = tt

-- of an answer that was given
pub quiet-after : (sh : Settings) (s t : DirState) (c : ℕ) (m : Msg) (h : Handled) (sends : Sends)
    → dir_deliver sh s c m ≡ answer_of h t sends
    → (acts h ≡ false → t ≡ s) → SameUnder (looks h m s.serving.serving t.serving.serving) s t
quiet-after sh s t c m Done sends e still = subst (Quiet m s) e (quiet sh s c m)
quiet-after sh s t c m Asked sends e still = subst (Quiet m s) e (quiet sh s c m)
quiet-after sh s t c m Waited sends e still = subst (SameTaking s) (sym (still refl)) (itself s)
quiet-after sh s t c m Dropped sends e still = subst (SameTaking s) (sym (still refl)) (itself s)

-- and what isn't looked at again is taken as before
pub taken-unseen : (look : Look) (sh : Settings) (s t : DirState) (c d : ℕ) (m : Msg) → SameUnder look s t → is_seen look d m ≡ false
    → is_taken (dir_deliver sh t c m) ≡ is_taken (dir_deliver sh s c m)
taken-unseen Nothing sh s t c d m e f = taken-alike sh s t c m e
taken-unseen (AtLine l) sh s t c d m e f = taken-but sh s t c d l m e f
taken-unseen All sh s t c d m e f = absurd (cc)
