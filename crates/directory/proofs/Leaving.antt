-- What each rule leaves as it was: lines without a mark but its own, and all but what a commit or a new turn changes.
use Rattle.std.proofs.Common.{◌≡◌, ℕ, ◌-◌, ◌<◌, ◌≤◌, Bool, true, false, ◌==◌, ◌||◌, nat_lt, ◌&&◌, if◌then◌else◌, List, [], ◌∷◌, Option}
use Rattle.std.proofs.Common.{Some, None}
use Rattle.std.proofs.Common.{refl, sym, subst, ◌∙◌, arith}
use Rattle.std.specs.Prelude.{nat_le}
use Rattle.std.proofs.lemmas.Bool.{false≢true}
use Rattle.std.proofs.lemmas.Bool.Decides.{nat_tests}
use borrow.Author.Tests.{ltb-false}
use Rattle.rules_maps.specs.Words.{count_below, put}
use Rattle.rules_maps.specs.Masks.{full}
use Rattle.rules_maps.specs.Nodes.{Msg, TidReq, TidGrant, LoadReq, Fill, Skip, Probe, ProbeReply, Mark, Commit, Abort, WriteBack, Flush}
use Rattle.rules_maps.specs.Nodes.{Core, DataReq, Inv, InvAck}
use Rattle.rules_maps.specs.Shape.{Shape, lines}
use Rattle.rules_maps.specs.Serving.{Serving, advance, skipped, kept}
use Rattle.rules_maps.specs.Lines.{with_asked, with_owner, with_mark, with_sharer, unmarked, has_mark}
use Rattle.rules_maps.specs.Judge.{Judgement, judge, Current, Outdated, TooEarly}
use Rattle.rules_maps.proofs.Lemmas.{advance-rises}
use Rattle.rules_tcc.specs.State.{DirState}
use Rattle.rules_tcc.specs.Sends.{nothing, to}
use Rattle.rules_tcc.specs.DirDeliver.{Answer, Waits, Drops, Asks, Takes, dir_deliver, skip, abort, probe, ask_owner, load_request}
use Rattle.rules_tcc.specs.DirDeliver.{load_unless_owned}
use Rattle.rules_tcc.specs.DirDeliver.{mark, mark_taken, mark_unless_owned, dir_commit, acknowledgement, unless_keeps, write_back, judged}
use Rattle.rules_tcc.specs.DirDeliver.{came_home}
use Rattle.rules_tcc.specs.DirDeliver.{moved_on, moved_on_if_settled, owned_by_committer, invalidation_count, invalidations}
use Rattle.directory.specs.declared.waits.Cause.TheVariants.{Turn, Done, Line, Served, Marks}
use Rattle.tcc_base.specs.declared.names.NodeId.{NodeId}
use Rattle.base_lemmas.proofs.Lemmas.{neither-left, neither-right}
use Rattle.tcc_msg.specs.declared.msg.Msg as code
use Rattle.tcc_msg.specs.Plain.{sends_of}
use Rattle.directory.specs.declared.handled.Handled.{Handled}
use Rattle.directory.specs.declared.handled.Handled.TheVariants as call
use Rattle.directory.specs.Data.{DirData, dir_of}
use Rattle.directory.specs.Gives.{Gives, answer_of, acts}
use Rattle.directory.specs.Stays.{SameLine}
use Rattle.directory.specs.Leaves.{is_of, is_commit, is_mark, Leaves}
use Rattle.directory.proofs.Staying.{same-line}

-- what a message changed at most
record Changed (m : Msg) (s n : DirState) : Type 0 where
  rises : s.serving.serving ≤ n.serving.serving
  unmarked : (l : ℕ) → is_of m l ≡ false → has_mark s.lines l ≡ false → SameLine l s n
  served : (l : ℕ) → is_of m l ≡ false → is_commit m ≡ false → n.serving.serving ≡ s.serving.serving → SameLine l s n
  marks : is_mark m ≡ false → n.serving.serving ≡ s.serving.serving → n.lines.mark ≡ s.lines.mark

no-rise : (a b : ℕ) → a ≤ b → nat_lt a b ≡ false → b ≡ a
no-rise a b le f = let h : b ≤ a = ltb-false a b f in omega arith

leaves : (m : Msg) (s n : DirState) → Changed m s n → Leaves m s n
leaves m s n c (Turn t) f h = grind (arith, nat_tests)
leaves m s n c (Done t) f h = ltb-false t.0 n.serving.serving f
leaves m s n c (Line l) f h = record { unmarked = h.unmarked; line = c.unmarked l.0 f h.unmarked; rises = c.rises }
leaves m s n c (Served l) f h =
    let rose : Bool = nat_lt s.serving.serving n.serving.serving in
    let front : (is_of m l.0 || is_commit m) ≡ false = neither-left (is_of m l.0 || is_commit m) rose f in
    let same : n.serving.serving ≡ s.serving.serving =
    no-rise s.serving.serving n.serving.serving c.rises (neither-right (is_of m l.0 || is_commit m) rose f) in
    record {
      serving = same;
      line = c.served l.0 (neither-left (is_of m l.0) (is_commit m) front) (neither-right (is_of m l.0) (is_commit m) front) same;
    }
leaves m s n c Marks f h =
    let rose : Bool = nat_lt s.serving.serving n.serving.serving in
    let same : n.serving.serving ≡ s.serving.serving =
    no-rise s.serving.serving n.serving.serving c.rises (neither-right (is_mark m) rose f) in
    record { serving = same; mark = c.marks (neither-left (is_mark m) rose f) same }

-- nothing of that
unchanged : (m : Msg) (s : DirState) → Changed m s s
unchanged m s = record {
  rises = omega arith;
  unmarked = λ l f g. same-line l s;
  served = λ l f g e. same-line l s;
  marks = λ f e. refl;
}

-- the TID that is served alone
serving-changed : (m : Msg) (s : DirState) (v : Serving) → s.serving.serving ≤ v.serving → Changed m s (record s { serving = v })
serving-changed m s v h = record {
  rises = h;
  unmarked = λ l f g. record { mark = refl; owner = refl; asked = refl; tag = refl };
  served = λ l f g e. record { mark = refl; owner = refl; asked = refl; tag = refl };
  marks = λ f e. refl;
}

skipped-rises : (t : ℕ) (v : Serving) → v.serving ≤ (skipped t v).serving
unfolding skipped kept
skipped-rises t v = by (nat_lt t v.serving) (v.serving == t)
  where
    by : (a b : Bool) → v.serving ≤ (if a then v else (if b then advance v else kept t v)).serving
    by true b = omega arith
    by false true = omega (arith, advance-rises v)
    by false false = omega arith

-- and the marks with it
no-mark : (n : ℕ) → nat_lt 0 n ≡ false → 0 ≡ n
no-mark n f = let h : n ≤ 0 = ltb-false 0 n f in omega arith

moved-changed : (m : Msg) (s r : DirState) → r.serving.serving ≡ s.serving.serving → Changed m s r → Changed m s (moved_on r)
unfolding moved_on unmarked
moved-changed m s r e c =
    let rise : r.serving.serving < (advance r.serving).serving = advance-rises r.serving in
    record {
      rises = omega arith;
      unmarked = λ l f g.
          let was = c.unmarked l f g in
          record { mark = no-mark (s.lines.mark l) g; owner = was.owner; asked = was.asked; tag = was.tag };
      served = λ l f g h. absurd (omega arith);
      marks = λ f h. absurd (omega arith);
    }

settled-changed : (m : Msg) (s r : DirState) → r.serving.serving ≡ s.serving.serving → Changed m s r → Changed m s (moved_on_if_settled r)
unfolding moved_on_if_settled
settled-changed m s r e c = by (r.owed == 0)
  where
    by : (b : Bool) → Changed m s (if b then moved_on r else r)
    by true = moved-changed m s r e c
    by false = c

-- an owner is asked
put-other : {A : Type 0} (f : ℕ → A) (i : ℕ) (v : A) (l : ℕ) → (i == l) ≡ false → put f i v l ≡ f l
put-other f i v l e = let g : (l == i) ≡ false = grind (arith, nat_tests) in rw g refl

asked-changed : (m : Msg) (l : ℕ) (b : Bool) (s : DirState) → ((k : ℕ) → is_of m k ≡ (l == k))
    → Changed m s (record s { lines = with_asked l b s.lines })
unfolding with_asked
asked-changed m l b s own = record {
  rises = omega arith;
  unmarked = λ k f g. record { mark = refl; owner = refl; asked = put-other s.lines.asked l b k (sym (own k) ∙ f); tag = refl };
  served = λ k f g e. record { mark = refl; owner = refl; asked = put-other s.lines.asked l b k (sym (own k) ∙ f); tag = refl };
  marks = λ f e. refl;
}

-- the state after an answer
after : Answer → DirState → DirState
after Waits s = s
after Drops s = s
after (Asks n sends) s = n
after (Takes n sends) s = n

ask-changed : (m : Msg) (o l : ℕ) (s : DirState) → ((k : ℕ) → is_of m k ≡ (l == k)) → Changed m s (after (ask_owner o l s) s)
unfolding ask_owner after
ask-changed m o l s own = by (s.lines.asked l)
  where
    by : (b : Bool)
        → Changed m s (after (if b then Waits else Asks (record s { lines = with_asked l true s.lines }) (to (Core o) (DataReq l ∷ []))) s)
    by true = unchanged m s
    by false = asked-changed m l true s own

-- each rule
skip-changed : (t : ℕ) (s : DirState) → Changed (Skip t) s (after (skip t s) s)
unfolding skip after
skip-changed t s = by (nat_lt t s.serving.serving)
  where
    by : (b : Bool) → Changed (Skip t) s (after (if b then Drops else Takes (record s { serving = skipped t s.serving }) nothing) s)
    by true = unchanged (Skip t) s
    by false = serving-changed (Skip t) s (skipped t s.serving) (skipped-rises t s.serving)

abort-changed : (t : ℕ) (s : DirState) → Changed (Abort t) s (after (abort t s) s)
unfolding abort after kept
abort-changed t s = by (nat_lt t s.serving.serving) (s.serving.serving == t)
  where
    by : (a b : Bool)
        → Changed (Abort t) s (after (if a
        then Drops
        else (if b then Takes (moved_on s) nothing else Takes (record s { serving = kept t s.serving }) nothing)) s)
    by true b = unchanged (Abort t) s
    by false true = moved-changed (Abort t) s s refl (unchanged (Abort t) s)
    by false false = serving-changed (Abort t) s (kept t s.serving) (omega arith)

probe-changed : (c t : ℕ) (s : DirState) → Changed (Probe t) s (after (probe c t s) s)
unfolding probe after
probe-changed c t s = by (nat_lt s.serving.serving t)
  where
    by : (b : Bool) → Changed (Probe t) s (after (if b then Waits else Takes s (to (Core c) (ProbeReply t s.serving.serving ∷ []))) s)
    by true = unchanged (Probe t) s
    by false = unchanged (Probe t) s

shared-changed : (m : Msg) (l c : ℕ) (b : Bool) (s : DirState) → Changed m s (record s { lines = with_sharer l c b s.lines })
unfolding with_sharer
shared-changed m l c b s = record {
  rises = omega arith;
  unmarked = λ k f g. record { mark = refl; owner = refl; asked = refl; tag = refl };
  served = λ k f g e. record { mark = refl; owner = refl; asked = refl; tag = refl };
  marks = λ f e. refl;
}

load-changed : (c l t : ℕ) (s : DirState) → Changed (LoadReq l t) s (after (load_request c l t s) s)
unfolding load_request after
load-changed c l t s = by (nat_le s.serving.serving t || has_mark s.lines l) (s.lines.owner l)
  where
    by : (b : Bool) (o : Option ℕ) → Changed (LoadReq l t) s (after (if b then Waits else load_unless_owned c l s o) s)
    by true o = unchanged (LoadReq l t) s
    by false None = shared-changed (LoadReq l t) l c true s
    by false (Some o) = ask-changed (LoadReq l t) o l s (λ k. refl)

marked-changed : (l m t : ℕ) (s : DirState) → Changed (Mark l m t) s (record s { lines = with_mark l m s.lines })
unfolding with_mark
marked-changed l m t s = record {
  rises = omega arith;
  unmarked = λ k f g. record { mark = put-other s.lines.mark l m k f; owner = refl; asked = refl; tag = refl };
  served = λ k f g e. record { mark = put-other s.lines.mark l m k f; owner = refl; asked = refl; tag = refl };
  marks = λ f e. absurd (false≢true (sym f));
}

mark-changed : (l m t : ℕ) (s : DirState) → Changed (Mark l m t) s (after (mark l m t s) s)
unfolding mark after
mark-changed l m t s = by (nat_lt t s.serving.serving) (nat_lt s.serving.serving t) (m == full) (s.lines.owner l)
  where
    by : (a b f : Bool) (o : Option ℕ)
        → Changed (Mark l m t) s
        (after (if a then Drops else (if b then Waits else (if f then mark_taken l m s else mark_unless_owned l m s o))) s)
    by true b f o = unchanged (Mark l m t) s
    by false true f o = unchanged (Mark l m t) s
    by false false true o = marked-changed l m t s
    by false false false None = marked-changed l m t s
    by false false false (Some o) = ask-changed (Mark l m t) o l s (λ k. refl)

owned-changed : (sh : Shape) (c t count : ℕ) (s : DirState)
    → Changed (Commit t count) s (record s { lines = owned_by_committer c t s.lines; owed = invalidation_count sh s.lines c })
unfolding owned_by_committer
owned-changed sh c t count s = record {
  rises = omega arith;
  unmarked = λ l f g. record { mark = refl; owner = rw g refl; asked = rw g refl; tag = rw g refl };
  served = λ l f g e. absurd (false≢true (sym g));
  marks = λ f e. refl;
}

commit-changed : (sh : Shape) (c t count : ℕ) (s : DirState) → Changed (Commit t count) s (after (dir_commit sh c t count s) s)
unfolding dir_commit after
commit-changed sh c t count s = by (s.serving.serving == t && count_below (has_mark s.lines) (lines sh) == count)
  where
    by : (b : Bool)
        → Changed (Commit t count) s (after (if b
        then Takes (moved_on_if_settled (record s { lines = owned_by_committer c t s.lines; owed = invalidation_count sh s.lines c }))
        (invalidations sh s.lines c t)
        else Waits) s)
    by true =
        settled-changed (Commit t count) s (record s { lines = owned_by_committer c t s.lines; owed = invalidation_count sh s.lines c })
        refl
        (owned-changed sh c t count s)
    by false = unchanged (Commit t count) s

left-changed : (c l : ℕ) (keeps : Bool) (n : ℕ) (s : DirState)
    → Changed (InvAck l keeps) s (record s { lines = unless_keeps keeps c l s.lines; owed = n })
unfolding with_sharer
left-changed c l true n s = record {
  rises = omega arith;
  unmarked = λ k f g. record { mark = refl; owner = refl; asked = refl; tag = refl };
  served = λ k f g e. record { mark = refl; owner = refl; asked = refl; tag = refl };
  marks = λ f e. refl;
}
left-changed c l false n s = record {
  rises = omega arith;
  unmarked = λ k f g. record { mark = refl; owner = refl; asked = refl; tag = refl };
  served = λ k f g e. record { mark = refl; owner = refl; asked = refl; tag = refl };
  marks = λ f e. refl;
}

acknowledgement-changed : (c l : ℕ) (keeps : Bool) (s : DirState) → Changed (InvAck l keeps) s (after (acknowledgement c l keeps s) s)
unfolding acknowledgement after
acknowledgement-changed c l keeps s = by (s.owed == 0)
  where
    by : (b : Bool)
        → Changed (InvAck l keeps) s (after (if b
        then Drops
        else Takes (moved_on_if_settled (record s { lines = unless_keeps keeps c l s.lines; owed = s.owed - 1 })) nothing) s)
    by true = unchanged (InvAck l keeps) s
    by false =
        settled-changed (InvAck l keeps) s (record s { lines = unless_keeps keeps c l s.lines; owed = s.owed - 1 }) refl
        (left-changed c l keeps (s.owed - 1) s)

home-changed : (msg : Msg) (l m : ℕ) (ws : List ℕ) (s : DirState) → ((k : ℕ) → is_of msg k ≡ (l == k)) → Changed msg s (came_home l m ws s)
unfolding came_home with_asked with_owner
home-changed msg l m ws s own = record {
  rises = omega arith;
  unmarked = λ k f g. record {
    mark = refl;
    owner = put-other s.lines.owner l None k (sym (own k) ∙ f);
    asked = put-other s.lines.asked l false k (sym (own k) ∙ f);
    tag = refl;
  };
  served = λ k f g e. record {
    mark = refl;
    owner = put-other s.lines.owner l None k (sym (own k) ∙ f);
    asked = put-other s.lines.asked l false k (sym (own k) ∙ f);
    tag = refl;
  };
  marks = λ f e. refl;
}

words-changed : (msg : Msg) (c l m : ℕ) (ws : List ℕ) (g : ℕ) (s : DirState) → ((k : ℕ) → is_of msg k ≡ (l == k))
    → Changed msg s (after (write_back c l m ws g s) s)
unfolding write_back after
words-changed msg c l m ws g s own = by (judge (s.lines.owner l) (s.lines.tag l) c g)
  where
    by : (j : Judgement) → Changed msg s (after (judged l m ws s j) s)
    by TooEarly = unchanged msg s
    by Current = home-changed msg l m ws s own
    by Outdated = unchanged msg s

changed : (sh : Shape) (s : DirState) (c : ℕ) (m : Msg) → Changed m s (after (dir_deliver sh s c m) s)
unfolding dir_deliver after
changed sh s c (Skip t) = skip-changed t s
changed sh s c (Abort t) = abort-changed t s
changed sh s c (Probe t) = probe-changed c t s
changed sh s c (LoadReq l t) = load-changed c l t s
changed sh s c (Mark l m t) = mark-changed l m t s
changed sh s c (Commit t count) = commit-changed sh c t count s
changed sh s c (InvAck l keeps) = acknowledgement-changed c l keeps s
changed sh s c (WriteBack l m ws g) = words-changed (WriteBack l m ws g) c l m ws g s (λ k. refl)
changed sh s c (Flush l m ws g) = words-changed (Flush l m ws g) c l m ws g s (λ k. refl)
changed sh s c TidReq = unchanged TidReq s
changed sh s c (TidGrant t) = unchanged (TidGrant t) s
changed sh s c (Fill l ws) = unchanged (Fill l ws) s
changed sh s c (ProbeReply t v) = unchanged (ProbeReply t v) s
changed sh s c (DataReq l) = unchanged (DataReq l) s
changed sh s c (Inv l m t) = unchanged (Inv l m t) s

-- what a call that did as its rule says leaves as it was
pub gives-leaves : (sh : Shape) (old new : DirData) (before later : List (NodeId × code.Msg)) (h : Handled) (c : ℕ) (m : Msg)
    → Gives old new before later h (λ s. dir_deliver sh s c m) → (e : ℕ → ℕ) → Leaves m (dir_of e old) (dir_of e new)
unfolding after
gives-leaves sh old new before later h c m g e = by h (g.answer e) g.still
  where
    by : (h : Handled) → dir_deliver sh (dir_of e old) c m ≡ answer_of h (dir_of e new) (sends_of g.sent)
        → (acts h ≡ false → (new ≡ old) × (later ≡ before)) → Leaves m (dir_of e old) (dir_of e new)
    by call.Handled a still =
        leaves m (dir_of e old) (dir_of e new)
        (subst (λ w. Changed m (dir_of e old) (after w (dir_of e old))) a (changed sh (dir_of e old) c m))
    by call.Asked a still =
        leaves m (dir_of e old) (dir_of e new)
        (subst (λ w. Changed m (dir_of e old) (after w (dir_of e old))) a (changed sh (dir_of e old) c m))
    by call.Waits a still = rw (still refl).0 (λ k f s. s)
    by call.Dropped a still = rw (still refl).0 (λ k f s. s)
