-- Whether a message is taken hangs on few things: where they are as they were, it is as it was.
use Rattle.std.proofs.Common.{◌≡◌, ℕ, ◌≤◌, ◌<◌, Bool, true, false, not, ◌==◌, ◌&&◌, ◌||◌, nat_lt, if◌then◌else◌, List, [], ◌∷◌, Option}
use Rattle.std.proofs.Common.{Some, None}
use Rattle.std.proofs.Common.{refl, sym, ◌∙◌, arith}
use Rattle.std.specs.Prelude.{nat_le}
use Rattle.std.proofs.lemmas.Bool.{false≢true}
use borrow.Author.Tests.{ltb-true}
use Rattle.tcc_base.specs.declared.names.LineAddr.{LineAddr}
use Rattle.base_lemmas.proofs.Lemmas.{le-false}
use Rattle.rules_maps.specs.Words.{count_below}
use Rattle.rules_maps.specs.Masks.{full}
use Rattle.rules_maps.specs.Shape.{Shape, lines}
use Rattle.rules_maps.specs.Lines.{has_mark}
use Rattle.rules_maps.specs.Judge.{Judgement, judge, Current, Outdated, TooEarly}
use Rattle.rules_tcc.specs.State.{DirState}
use Rattle.rules_tcc.specs.DirDeliver.{Waits, Drops, Takes, moved_on_if_settled, owned_by_committer, invalidation_count, invalidations}
use Rattle.rules_tcc.specs.DirDeliver.{load_request, load_unless_owned}
use Rattle.rules_tcc.specs.Sends.{to}
use Rattle.rules_maps.specs.Nodes.{Core, ProbeReply}
use Rattle.rules_tcc.specs.DirDeliver.{probe, mark, mark_taken, mark_unless_owned, dir_commit, write_back, judged}
use Rattle.directory.specs.declared.waits.Cause.TheVariants.{Line, Served}
use Rattle.directory.specs.Gives.{is_taken}
use Rattle.directory.specs.Stays.{SameLine, SameServed, SameMarks, Stays}
use Rattle.directory.proofs.Taking.{ask-taken}

-- what a line's cause says of the line and of the TID that is served
pub line-stays : (b : Bool) (l : LineAddr) (s n : DirState) → Stays (if b then Served l else Line l) s n → SameLine l.0 s n
line-stays true l s n h = h.line
line-stays false l s n h = h.line

pub line-rises : (b : Bool) (l : LineAddr) (s n : DirState) → Stays (if b then Served l else Line l) s n
    → s.serving.serving ≤ n.serving.serving
line-rises true l s n h = omega (arith, h.serving)
line-rises false l s n h = h.rises

pub same-line : (l : ℕ) (s : DirState) → SameLine l s s
same-line l s = record { mark = refl; owner = refl; asked = refl; tag = refl }

-- it holds where the line has a mark or not, as it says
pub line-holds : (l : LineAddr) (s : DirState) → Stays (if has_mark s.lines l.0 then Served l else Line l) s s
line-holds l s = by (has_mark s.lines l.0) refl
  where
    by : (b : Bool) → has_mark s.lines l.0 ≡ b → Stays (if b then Served l else Line l) s s
    by true e = record { serving = refl; line = same-line l.0 s }
    by false e = record { unmarked = e; line = same-line l.0 s; rises = omega arith }

free : Option ℕ → Bool → Bool
free None b = true
free (Some o) b = not b

load-test : (c l after : ℕ) (s : DirState)
    → is_taken (load_request c l after s)
    ≡ (not (nat_le s.serving.serving after || nat_lt 0 (s.lines.mark l)) && free (s.lines.owner l) (s.lines.asked l))
unfolding load_request free
load-test c l after s = by (nat_le s.serving.serving after) (nat_lt 0 (s.lines.mark l)) (s.lines.owner l)
  where
    by : (a b : Bool) (o : Option ℕ) →
        is_taken (if a || b then Waits else load_unless_owned c l s o) ≡ (not (a || b) && free o (s.lines.asked l))
    by true b o = refl
    by false true o = refl
    by false false None = refl
    by false false (Some o) = sym (ask-taken o l s)

-- a load that waits for its line alone
pub load-stays : (c l after : ℕ) (s n : DirState) → after < s.serving.serving → s.serving.serving ≤ n.serving.serving → SameLine l s n
    → is_taken (load_request c l after n) ≡ is_taken (load_request c l after s)
load-stays c l after s n late rises h =
    let early : nat_le s.serving.serving after ≡ false = le-false s.serving.serving after late in
    let still : nat_le n.serving.serving after ≡ false = le-false n.serving.serving after (omega arith) in
    let passed : nat_le n.serving.serving after ≡ nat_le s.serving.serving after = still ∙ sym early in
    load-test c l after n
    ∙ ((λ i. not (passed i || nat_lt 0 (h.mark i)) && free (h.owner i) (h.asked i)) ∙ sym (load-test c l after s))

mark-test : (l m t : ℕ) (s : DirState)
    → is_taken (mark l m t s)
    ≡ (nat_lt t s.serving.serving || (not (nat_lt s.serving.serving t) && (m == full || free (s.lines.owner l) (s.lines.asked l))))
unfolding mark free
mark-test l m t s = by (nat_lt t s.serving.serving) (nat_lt s.serving.serving t) (m == full) (s.lines.owner l)
  where
    by : (a b f : Bool) (o : Option ℕ)
        → is_taken (if a then Drops else (if b then Waits else (if f then mark_taken l m s else mark_unless_owned l m s o)))
        ≡ (a || (not b && (f || free o (s.lines.asked l))))
    by true b f o = refl
    by false true f o = refl
    by false false true o = refl
    by false false false None = refl
    by false false false (Some o) = sym (ask-taken o l s)

pub mark-stays : (l m t : ℕ) (s n : DirState) → SameServed l s n → is_taken (mark l m t n) ≡ is_taken (mark l m t s)
mark-stays l m t s n h =
    mark-test l m t n
    ∙ ((λ i. nat_lt t (h.serving i)
    || (not (nat_lt (h.serving i) t) && (m == full || free (h.line.owner i) (h.line.asked i)))) ∙ sym (mark-test l m t s))

commit-test : (sh : Shape) (c t count : ℕ) (s : DirState)
    → is_taken (dir_commit sh c t count s) ≡ (s.serving.serving == t && count_below (λ l. nat_lt 0 (s.lines.mark l)) (lines sh) == count)
unfolding dir_commit
commit-test sh c t count s = by (s.serving.serving == t && count_below (λ l. nat_lt 0 (s.lines.mark l)) (lines sh) == count)
  where
    by : (b : Bool)
        → is_taken (if b
        then Takes (moved_on_if_settled (record s { lines = owned_by_committer c t s.lines; owed = invalidation_count sh s.lines c }))
        (invalidations sh s.lines c t)
        else Waits)
        ≡ b
    by true = refl
    by false = refl

pub commit-stays : (sh : Shape) (c t count : ℕ) (s n : DirState) → SameMarks s n
    → is_taken (dir_commit sh c t count n) ≡ is_taken (dir_commit sh c t count s)
commit-stays sh c t count s n h =
    commit-test sh c t count n
    ∙ ((λ i. h.serving i == t && count_below (λ l. nat_lt 0 (h.mark i l)) (lines sh) == count) ∙ sym (commit-test sh c t count s))

judged-taken : Judgement → Bool
judged-taken TooEarly = false
judged-taken Current = true
judged-taken Outdated = true

home-test : (c l m : ℕ) (ws : List ℕ) (g : ℕ) (s : DirState)
    → is_taken (write_back c l m ws g s) ≡ judged-taken (judge (s.lines.owner l) (s.lines.tag l) c g)
unfolding write_back judged-taken
home-test c l m ws g s = by (judge (s.lines.owner l) (s.lines.tag l) c g)
  where
    by : (j : Judgement) → is_taken (judged l m ws s j) ≡ judged-taken j
    by TooEarly = refl
    by Current = refl
    by Outdated = refl

pub home-stays : (c l m : ℕ) (ws : List ℕ) (g : ℕ) (s n : DirState) → SameLine l s n
    → is_taken (write_back c l m ws g n) ≡ is_taken (write_back c l m ws g s)
home-stays c l m ws g s n h =
    home-test c l m ws g n ∙ ((λ i. judged-taken (judge (h.owner i) (h.tag i) c g)) ∙ sym (home-test c l m ws g s))

pub probe-holds : (c t : ℕ) (s : DirState) → is_taken (probe c t s) ≡ false → s.serving.serving < t
unfolding probe
probe-holds c t s = by (nat_lt s.serving.serving t) refl
  where
    by : (b : Bool) → nat_lt s.serving.serving t ≡ b
        → is_taken (if b then Waits else Takes s (to (Core c) (ProbeReply t s.serving.serving ∷ []))) ≡ false → s.serving.serving < t
    by true e h = ltb-true s.serving.serving t e
    by false e h = absurd (false≢true (sym h))
