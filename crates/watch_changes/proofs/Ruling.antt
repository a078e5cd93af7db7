-- A directory that takes a message leaves as they are all lines but its own line and the marked ones.
use Rattle.std.proofs.Common.{◌≡◌, ℕ, zero, suc, ◌-◌, ◌<◌, ◌==◌, ◌&&◌, ◌||◌, Bool, true, false, not, List, [], ◌∷◌, ◌++◌}
use Rattle.std.proofs.Common.{Option, Some, None}
use Rattle.std.proofs.Common.{if◌then◌else◌, nat_le, nat_lt, is_some, refl, ap, subst, sym, ◌∙◌, arith}
use Rattle.std.specs.List.{flat_map}
use Rattle.std.proofs.lemmas.Bool.Decides.{nat_tests}
use Rattle.std.proofs.lemmas.List.Concat.{flat_map-append}
use Rattle.base_lemmas.proofs.Lemmas.{neither}
use Rattle.rules_maps.specs.Judge.{Judgement, judge, Current, Outdated, TooEarly}
use Rattle.rules_maps.specs.Lines.{Lines, has_mark, unmarked, with_asked, with_mark, with_owner, with_sharer}
use Rattle.rules_maps.specs.Masks.{full, hit}
use Rattle.rules_maps.specs.Nodes.{Msg, LoadReq, Fill, Skip, Probe, ProbeReply, Mark, Commit, Abort, WriteBack, Flush, DataReq, Inv, InvAck}
use Rattle.rules_maps.specs.Nodes.{TidReq, TidGrant}
use Rattle.rules_maps.specs.Serving.{advance}
use Rattle.rules_maps.specs.Shape.{Shape, home, lines}
use Rattle.rules_maps.specs.Words.{any_below, count_below, line_of, those, word_at}
use Rattle.rules_tcc.specs.DirDeliver.{Answer, Waits, Drops, Asks, Takes, abort, acknowledgement, ask_owner, came_home}
use Rattle.rules_tcc.specs.DirDeliver.{dir_commit, dir_deliver}
use Rattle.rules_tcc.specs.DirDeliver.{invalidation_count, judged, load_request, load_unless_owned, mark, mark_taken}
use Rattle.rules_tcc.specs.DirDeliver.{mark_unless_owned, moved_on, moved_on_if_settled, owned_by_committer, probe, skip, unless_keeps}
use Rattle.rules_tcc.specs.DirDeliver.{write_back}
use Rattle.rules_tcc.specs.Seen.{numbers}
use Rattle.rules_tcc.specs.State.{DirState}
use Rattle.watch_state.specs.Directories.{known_of, line_record, word_record, word_records}
use Rattle.watch_state.specs.Records.{Record, LineIs}
use Rattle.watch_changes.specs.Touched.{may_change, may_come_home}

-- the same is known of a line
pub record AreAlike (ls ks : Lines) (l : ℕ) : Type 0 where
  pub owner : ls.owner l ≡ ks.owner l
  pub tag : ls.tag l ≡ ks.tag l
  pub asked : ls.asked l ≡ ks.asked l
  pub mark : ls.mark l ≡ ks.mark l
  pub sharers : (c : ℕ) → ls.sharers l c ≡ ks.sharers l c

pub alike-record : (sh : Shape) (ls ks : Lines) (l : ℕ) → AreAlike ls ks l → line_record sh ls l ≡ line_record sh ks l
unfolding line_record known_of
alike-record sh ls ks l a =
    λ i. if is_some (a.owner i)
    || (not (a.tag i == 0) || (a.asked i || (not (a.mark i == 0) || any_below (λ c. a.sharers c i) sh.cores)))
    then LineIs l (record {
      home = home sh l;
      owner = a.owner i;
      tag = a.tag i;
      asked = a.asked i;
      mark = a.mark i;
      sharers = those (λ c. a.sharers c i) sh.cores;
    }) ∷ [] else []

alike-self : (ls : Lines) (l : ℕ) → AreAlike ls ls l
alike-self ls l = record { owner = refl; tag = refl; asked = refl; mark = refl; sharers = λ c. refl }

alike-then : (ls ks js : Lines) (l : ℕ) → AreAlike ls ks l → AreAlike ks js l → AreAlike ls js l
alike-then ls ks js l a b = record {
  owner = a.owner ∙ b.owner;
  tag = a.tag ∙ b.tag;
  asked = a.asked ∙ b.asked;
  mark = a.mark ∙ b.mark;
  sharers = λ c. a.sharers c ∙ b.sharers c;
}

-- ---- what is put on a line leaves the others

sharer-elsewhere : (j l c : ℕ) (on : Bool) (ls : Lines) → (j == l) ≡ false → AreAlike ls (with_sharer l c on ls) j
unfolding with_sharer
sharer-elsewhere j l c on ls e = record { owner = refl; tag = refl; asked = refl; mark = refl; sharers = λ d. rw e refl }

asked-elsewhere : (j l : ℕ) (on : Bool) (ls : Lines) → (j == l) ≡ false → AreAlike ls (with_asked l on ls) j
unfolding with_asked
asked-elsewhere j l on ls e = record { owner = refl; tag = refl; asked = rw e refl; mark = refl; sharers = λ d. refl }

owner-elsewhere : (j l : ℕ) (o : Option ℕ) (ls : Lines) → (j == l) ≡ false → AreAlike ls (with_owner l o ls) j
unfolding with_owner
owner-elsewhere j l o ls e = record { owner = rw e refl; tag = refl; asked = refl; mark = refl; sharers = λ d. refl }

mark-elsewhere : (j l m : ℕ) (ls : Lines) → (j == l) ≡ false → AreAlike ls (with_mark l m ls) j
unfolding with_mark
mark-elsewhere j l m ls e = record { owner = refl; tag = refl; asked = refl; mark = rw e refl; sharers = λ d. refl }

-- what is put on marked lines leaves the others
unmarked-elsewhere : (j : ℕ) (ls : Lines) → has_mark ls j ≡ false → AreAlike ls (unmarked ls) j
unfolding unmarked
unmarked-elsewhere j ls e =
    record { owner = refl; tag = refl; asked = refl; mark = grind (arith, nat_tests); sharers = λ d. refl }

owned-elsewhere : (j c t : ℕ) (ls : Lines) → has_mark ls j ≡ false → AreAlike ls (owned_by_committer c t ls) j
unfolding owned_by_committer
owned-elsewhere j c t ls e =
    record { owner = rw e refl; tag = rw e refl; asked = rw e refl; mark = refl; sharers = λ d. rw e refl }

-- ---- the words of a line

pub flat-alike : (f g : ℕ → List Record) (n : ℕ) → ((k : ℕ) → k < n → f k ≡ g k) → flat_map f (numbers n) ≡ flat_map g (numbers n)
unfolding those
flat-alike f g zero h = refl
flat-alike f g (suc n) h =
    flat_map-append f (numbers n) (n ∷ [])
    ∙ (λ i. flat-alike f g n (λ k b. h k (omega (arith, b))) i ++ flat_map (λ k. h n (omega arith) i) (n ∷ []))
    ∙ sym (flat_map-append g (numbers n) (n ∷ []))

-- words that came home with another line's
words-elsewhere : (sh : Shape) (first : ℕ → ℕ) (j l m : ℕ) (ws : List ℕ) (s : DirState) → (j == l) ≡ false
    → word_records sh first s.words j ≡ word_records sh first (came_home l m ws s).words j
unfolding word_records word_record came_home hit
words-elsewhere sh first j l m ws s e =
    flat-alike (λ k. word_record sh first s.words (word_at j k)) (λ k. word_record sh first (came_home l m ws s).words (word_at j k)) 8
    (λ k b. let other : (l == line_of (word_at j k)) ≡ false = grind (arith, nat_tests) in rw other refl)

-- ---- an answer

-- but for the lines that the message may change the two are alike
pub record IsChangedBy (sh : Shape) (m : Msg) (s t : DirState) : Type 0 where
  pub lines : (l : ℕ) → may_change m s.lines l ≡ false → AreAlike s.lines t.lines l
  pub words : (first : ℕ → ℕ) (l : ℕ) → may_come_home m l ≡ false → word_records sh first s.words l ≡ word_records sh first t.words l

abbrev pub AnswerChanges : Shape → Msg → DirState → Answer → Type 0
AnswerChanges sh m s Waits = Unit {0}
AnswerChanges sh m s Drops = Unit {0}
AnswerChanges sh m s (Asks t sends) = IsChangedBy sh m s t
AnswerChanges sh m s (Takes t sends) = IsChangedBy sh m s t

if-answer : (sh : Shape) (m : Msg) (s : DirState) (b : Bool) (x y : Answer) → AnswerChanges sh m s x → AnswerChanges sh m s y
    → AnswerChanges sh m s (if b then x else y)
if-answer sh m s true x y p q = p
if-answer sh m s false x y p q = q

-- with the same lines and words nothing is changed
pub same-lines : (sh : Shape) (m : Msg) (s t : DirState) → s.lines ≡ t.lines → s.words ≡ t.words → IsChangedBy sh m s t
same-lines sh m s t e f = record {
  lines = λ l h. subst (λ ls. AreAlike s.lines ls l) e (alike-self s.lines l);
  words = λ first l h. ap (λ ws. word_records sh first ws l) f;
}

skip-changes : (sh : Shape) (t : ℕ) (s : DirState) → AnswerChanges sh (Skip t) s (skip t s)
unfolding skip
skip-changes sh t s =
    if-answer sh (Skip t) s (nat_lt t s.serving.serving) Drops _ (record {}) (same-lines sh (Skip t) s _ refl refl)

abort-changes : (sh : Shape) (t : ℕ) (s : DirState) → AnswerChanges sh (Abort t) s (abort t s)
unfolding abort moved_on may_change
abort-changes sh t s =
    if-answer sh (Abort t) s (nat_lt t s.serving.serving) Drops _ (record {})
    (if-answer sh (Abort t) s (s.serving.serving == t) _ _
    (record { lines = λ l h. unmarked-elsewhere l s.lines h; words = λ first l h. refl })
    (same-lines sh (Abort t) s _ refl refl))

probe-changes : (sh : Shape) (c t : ℕ) (s : DirState) → AnswerChanges sh (Probe t) s (probe c t s)
unfolding probe
probe-changes sh c t s =
    if-answer sh (Probe t) s (nat_lt s.serving.serving t) Waits _ (record {}) (same-lines sh (Probe t) s s refl refl)

-- a message about one line, which is asked for
ask-changes : (sh : Shape) (m : Msg) (o l : ℕ) (s : DirState) → ((j : ℕ) → may_change m s.lines j ≡ false → (j == l) ≡ false)
    → AnswerChanges sh m s (ask_owner o l s)
unfolding ask_owner
ask-changes sh m o l s at =
    if-answer sh m s (s.lines.asked l) Waits _ (record {})
    (record { lines = λ j h. asked-elsewhere j l true s.lines (at j h); words = λ first j h. refl })

load-changes : (sh : Shape) (c l after : ℕ) (s : DirState) → AnswerChanges sh (LoadReq l after) s (load_request c l after s)
unfolding load_request may_change
load-changes sh c l after s =
    if-answer sh (LoadReq l after) s (nat_le s.serving.serving after || has_mark s.lines l) Waits _ (record {}) (go (s.lines.owner l))
  where
    go : (o : Option ℕ) → AnswerChanges sh (LoadReq l after) s (load_unless_owned c l s o)
    go None = record { lines = λ j h. sharer-elsewhere j l c true s.lines h; words = λ first j h. refl }
    go (Some o) = ask-changes sh (LoadReq l after) o l s (λ j h. h)

mark-changes : (sh : Shape) (l m t : ℕ) (s : DirState) → AnswerChanges sh (Mark l m t) s (mark l m t s)
unfolding mark may_change
mark-changes sh l m t s =
    if-answer sh (Mark l m t) s (nat_lt t s.serving.serving) Drops _ (record {})
    (if-answer sh (Mark l m t) s (nat_lt s.serving.serving t) Waits _ (record {})
    (if-answer sh (Mark l m t) s (m == full) _ _ taken (go (s.lines.owner l))))
  where
    taken : AnswerChanges sh (Mark l m t) s (mark_taken l m s)
    taken = record { lines = λ j h. mark-elsewhere j l m s.lines h; words = λ first j h. refl }

    go : (o : Option ℕ) → AnswerChanges sh (Mark l m t) s (mark_unless_owned l m s o)
    go None = taken
    go (Some o) = ask-changes sh (Mark l m t) o l s (λ j h. h)

-- the marks may be cleared then
settled-changes : (sh : Shape) (m : Msg) (s t : DirState) → ((l : ℕ) → may_change m s.lines l ≡ false → has_mark t.lines l ≡ false)
    → IsChangedBy sh m s t → IsChangedBy sh m s (moved_on_if_settled t)
unfolding moved_on_if_settled moved_on
settled-changes sh m s t none x = go (t.owed == 0)
  where
    go : (b : Bool) → IsChangedBy sh m s (if b then record t { lines = unmarked t.lines; serving = advance t.serving } else t)
    go true = record {
      lines = λ l h. alike-then s.lines t.lines (unmarked t.lines) l (x.lines l h) (unmarked-elsewhere l t.lines (none l h));
      words = λ first l h. x.words first l h;
    }
    go false = x

owned-marked : (c t : ℕ) (ls : Lines) (l : ℕ) → has_mark ls l ≡ false → has_mark (owned_by_committer c t ls) l ≡ false
unfolding owned_by_committer
owned-marked c t ls l h = h

left-marked : (l c j : ℕ) (ls : Lines) → has_mark ls j ≡ false → has_mark (with_sharer l c false ls) j ≡ false
unfolding with_sharer
left-marked l c j ls h = h

commit-changes : (sh : Shape) (c t count : ℕ) (s : DirState) → AnswerChanges sh (Commit t count) s (dir_commit sh c t count s)
unfolding dir_commit may_change
commit-changes sh c t count s =
    let owned : DirState = record s { lines = owned_by_committer c t s.lines; owed = invalidation_count sh s.lines c } in
    if-answer sh (Commit t count) s (s.serving.serving == t && count_below (has_mark s.lines) (lines sh) == count) _ Waits
    (settled-changes sh (Commit t count) s owned (λ l h. owned-marked c t s.lines l h)
    (record { lines = λ l h. owned-elsewhere l c t s.lines h; words = λ first l h. refl })) (record {})

ack-changes : (sh : Shape) (c l : ℕ) (keeps : Bool) (s : DirState)
    → AnswerChanges sh (InvAck l keeps) s (acknowledgement c l keeps s)
unfolding acknowledgement may_change
ack-changes sh c l keeps s = if-answer sh (InvAck l keeps) s (s.owed == 0) Drops _ (record {}) (go keeps)
  where
    go : (b : Bool) → IsChangedBy sh (InvAck l keeps) s
        (moved_on_if_settled (record s { lines = unless_keeps b c l s.lines; owed = s.owed - 1 }))
    go true = settled-changes sh (InvAck l keeps) s (record s { owed = s.owed - 1 })
        (λ j h. (neither (j == l) (has_mark s.lines j) h).1) (same-lines sh (InvAck l keeps) s _ refl refl)
    go false = settled-changes sh (InvAck l keeps) s (record s { lines = with_sharer l c false s.lines; owed = s.owed - 1 })
        (λ j h. left-marked l c j s.lines (neither (j == l) (has_mark s.lines j) h).1)
        (record {
          lines = λ j h. sharer-elsewhere j l c false s.lines (neither (j == l) (has_mark s.lines j) h).0;
          words = λ first j h. refl;
        })

home-alike : (j l k : ℕ) (ws : List ℕ) (s : DirState) → (j == l) ≡ false → AreAlike s.lines (came_home l k ws s).lines j
unfolding came_home
home-alike j l k ws s e =
    alike-then s.lines (with_owner l None s.lines) (with_asked l false (with_owner l None s.lines)) j
    (owner-elsewhere j l None s.lines e) (asked-elsewhere j l false (with_owner l None s.lines) e)

home-changes : (sh : Shape) (m : Msg) (l k : ℕ) (ws : List ℕ) (s : DirState) → ((j : ℕ) → may_change m s.lines j ≡ false → (j == l) ≡ false)
    → ((j : ℕ) → may_come_home m j ≡ false → (j == l) ≡ false) → IsChangedBy sh m s (came_home l k ws s)
home-changes sh m l k ws s at on = record {
  lines = λ j h. home-alike j l k ws s (at j h);
  words = λ first j h. words-elsewhere sh first j l k ws s (on j h);
}

back-changes : (sh : Shape) (m : Msg) (c l k : ℕ) (ws : List ℕ) (g : ℕ) (s : DirState)
    → ((j : ℕ) → may_change m s.lines j ≡ false → (j == l) ≡ false) → ((j : ℕ) → may_come_home m j ≡ false → (j == l) ≡ false)
    → AnswerChanges sh m s (write_back c l k ws g s)
unfolding write_back
back-changes sh m c l k ws g s at on = go (judge (s.lines.owner l) (s.lines.tag l) c g)
  where
    go : (j : Judgement) → AnswerChanges sh m s (judged l k ws s j)
    go TooEarly = record {}
    go Current = home-changes sh m l k ws s at on
    go Outdated = record {}

pub answer-changes : (sh : Shape) (s : DirState) (c : ℕ) (m : Msg) → AnswerChanges sh m s (dir_deliver sh s c m)
unfolding dir_deliver may_change may_come_home
answer-changes sh s c TidReq = record {}
answer-changes sh s c (TidGrant t) = record {}
answer-changes sh s c (LoadReq l after) = load-changes sh c l after s
answer-changes sh s c (Fill l ws) = record {}
answer-changes sh s c (Skip t) = skip-changes sh t s
answer-changes sh s c (Probe t) = probe-changes sh c t s
answer-changes sh s c (ProbeReply t v) = record {}
answer-changes sh s c (Mark l m t) = mark-changes sh l m t s
answer-changes sh s c (Commit t count) = commit-changes sh c t count s
answer-changes sh s c (Abort t) = abort-changes sh t s
answer-changes sh s c (WriteBack l m ws g) = back-changes sh (WriteBack l m ws g) c l m ws g s (λ j h. h) (λ j h. h)
answer-changes sh s c (Flush l m ws g) = back-changes sh (Flush l m ws g) c l m ws g s (λ j h. h) (λ j h. h)
answer-changes sh s c (DataReq l) = record {}
answer-changes sh s c (Inv l m t) = record {}
answer-changes sh s c (InvAck l keeps) = ack-changes sh c l keeps s
