-- Every event keeps the invariants on TIDs, probes and what is owed, and so does every run.
use Rattle.theorem_serial.proofs
use proofs.Names
use Names.{got, nothing, eq-self, ℕ, ◌+◌, ◌≡◌, ◌<◌, ◌≤◌, ◌%◌, true, false, List, ◌++◌, ◌==◌, Option, Some, None, IfSome, slice_index_or}
use Names.{arith, refl, sym, ◌∙◌, ◌⊎◌, inl, inr, cases_lt, cases_eq, Local, num, no_lines, Core, Dir, Vendor, Msg, Fill, ProbeReply}
use Names.{DataReq, Inv, Shape, home, CoreState, DirState, World, Link, start, dir_start, in_flight, sent_all, Sends, Out, from_dir}
use Names.{core_moves, core_takes, dir_takes, dir_asks, vendor_gives, Invs, InvsNot, InvsAway, Acks, MarksAway, AnyResolve, Any, live}
use Names.{among, passes, Pair, pair, after_move, grant_taken, back_taken, after_answer, out_taken, share}
use Names.{KeptTids, due, OwedAt, AtHomeOf, KeptOwed, Running, core_start, RepliesAbove, Reached, ReachedOf, KeptProbes, Program, Serving}
use Names.{Event, grant, Answer, Waits, Drops, Asks, Takes, dir_deliver, Stepped, step, Resolves, handled, KeptTold, Kept, nats, tid_at}
use Names.{to_dir, to_core, FromCore, FromDir, IfSome_then, ◌≢◌}
use proofs.Counts.{AnswersInside, dir-inside, live-sends, live-takes, total-le, total-zero, live-fewer, none-taken, differ}
use proofs.Counts.{pairs_move, pairs_grant, pairs_back, pairs_dir, pairs_asks, pairs_vendor, sum_move, sum_grant, sum_back, sum_back_away}
use proofs.Counts.{sum_dir, sum_dir_away, sum_asks_here, sum_asks_away, sum_vendor, OfAnswer, step_cases}
use proofs.OneCore.{none-asked, asked-back, asked-exec, asked-evict, asked-grant}
use proofs.Serving.CoreDue.{Clean, CleanOut, AcksHome, acks-back, clean-exec, clean-evict, clean-grant}
use proofs.Serving.DirDue.{Due, nots-invs, at-home, DueBy, dir-due, still-due, Rises, fewer-above, RisesBy, dir-rises, rises-still}
use proofs.Tids.{KeepsRequests, requests-exec, requests-evict, requests-back, KeepsPart, part-exec, part-evict, part-back, HandledBy}
use proofs.Tids.{OnceAt, dir-handled, skipped-above, move-kept, grant-kept, back-kept, dir-kept, asks-kept, vendor-kept, start-kept}
use proofs.Tids.{inside_from, any-one, live-some, once-there, no_sends}
use proofs.Counts.{Ask, gift, gives_to, after_gift, after_other_gift}

-- Each kind of event keeps what is owed equal to what is in flight.
due-moved : {sh : Shape} (v : Pair) (o : Out) {d : ℕ} → Clean sh d (o.sends (Dir d)) → due (after_move v o d) + 0 ≡ due v + 0
unfolding due
due-moved v o {d} c = omega (arith, live-sends)

home-moved : {sh : Shape} {d : ℕ} {v : Pair} (o : Out) → among (MarksAway sh.dirs d) (o.sends (Dir d)) ≡ 0
    → (sh.dirs ≤ d → among AnyResolve (o.sends (Dir d)) ≡ 0) → AtHomeOf sh d v → AtHomeOf sh d (after_move v o d)
home-moved {sh} {d} {v} o c f h = record {
  served = h.served;
  invs = h.invs;
  marks = omega (arith, live-sends);
  far = λ x. omega (arith, live-sends, h.far, f);
  marked = h.marked;
}

move-owed : (sh : Shape) (w : World) (c : ℕ) (o : Out) → KeptOwed sh w → c < sh.cores → CleanOut sh o → KeptOwed sh (core_moves w c o)
unfolding core_moves
move-owed sh w c o k l y = record {
  owed = λ d. let e = sum_move due sh.cores w c o d 0 0 l (due-moved (pair w c d) o (y d)) in omega (arith, k.owed);
  at_home = pairs_move (λ c d v. AtHomeOf sh d v) w c o (λ d. home-moved o (y d).marks (y d).far (k.at_home c d)) k.at_home;
}

grant-owed : (sh : Shape) (w : World) (c k : ℕ) (o : Out) → KeptOwed sh w → c < sh.cores → CleanOut sh o
    → KeptOwed sh (core_takes w Vendor c k o)
unfolding core_takes due
grant-owed sh w c k o h l y = record {
  owed = λ d. let e = sum_grant due sh.cores w c k o d 0 0 l (due-moved (pair w c d) o (y d)) in omega (arith, h.owed);
  at_home = pairs_grant (λ c d v. AtHomeOf sh d v) w c k o granted h.at_home;
}
  where
    granted : (d : ℕ) → AtHomeOf sh d (after_move (grant_taken (pair w c d) k) o d)
    granted d = let m = home-moved o (y d).marks (y d).far (h.at_home c d) in
        record { served = m.served; invs = m.invs; marks = m.marks; far = m.far; marked = m.marked }

-- a core takes a message of a directory

-- the acknowledgement of an invalidation goes back to where it came from, and there is no other
pub record BackDue (sh : Shape) (e : ℕ) (m : Msg) (o : Out) : Type 0 where
  pub here : among Acks (o.sends (Dir e)) ≡ num (passes Invs m)
  pub away : (d : ℕ) → d ≢ e → among Acks (o.sends (Dir d)) ≡ 0
  pub marks : (d : ℕ) → among (MarksAway sh.dirs d) (o.sends (Dir d)) ≡ 0
  pub far : (d : ℕ) → sh.dirs ≤ d → among AnyResolve (o.sends (Dir d)) ≡ 0

back-clean : {sh : Shape} {e : ℕ} {m : Msg} {o : Out} → passes Invs m ≡ false → CleanOut sh o → BackDue sh e m o
back-clean {e} q y = record { here = rw q (y e).acks; away = λ d n. (y d).acks; marks = λ d. (y d).marks; far = λ d. (y d).far }

back-inv : (sh : Shape) (e l k u : ℕ) (o : Out) → home sh l ≡ e → ((d : ℕ) → AcksHome sh l d (o.sends (Dir d))) → BackDue sh e (Inv l k u) o
unfolding passes
back-inv sh e l k u o q y = record {
  here = let b : (e == l % sh.dirs) ≡ true = grind nats in (y e).acks ∙ rw b;
  away = λ d n. let b : (d == l % sh.dirs) ≡ false = grind nats in (y d).acks ∙ rw b;
  marks = λ d. (y d).marks;
  far = λ d. (y d).far;
}

pub back-due : (sh : Shape) (e : ℕ) (s : CoreState) (m : Msg) → passes (InvsAway sh.dirs e) m ≡ false
    → IfSome (from_dir sh e s m) (BackDue sh e m)
unfolding passes
back-due sh e s (ProbeReply u v) a = back-clean refl (λ d. acks-back sh e d s (ProbeReply u v))
back-due sh e s (Fill l ws) a = back-clean refl (λ d. acks-back sh e d s (Fill l ws))
back-due sh e s (DataReq l) a = back-clean refl (λ d. acks-back sh e d s (DataReq l))
back-due sh e s (Inv l k u) a = back-inv sh e l k u _ (at-home (l % sh.dirs) e a) (λ d. acks-back sh e d s (Inv l k u))
back-due sh e s _ a = tt

due-back : (v : Pair) (e k : ℕ) (m : Msg) (o : Out) → slice_index_or v.back k None ≡ Some m
    → among Acks (o.sends (Dir e)) ≡ num (passes Invs m) → due (after_move (back_taken v k) o e) + 0 ≡ due v + 0
unfolding due
due-back v e k m o i a = omega (arith, live-sends, live-takes Invs v.back k m i)

due-away : (v : Pair) (d : ℕ) (o : Out) → among Acks (o.sends (Dir d)) ≡ 0 → due (after_move v o d) + 0 ≡ due v + 0
unfolding due
due-away v d o a = omega (arith, live-sends)

home-back : {sh : Shape} (d k : ℕ) (m : Msg) {v : Pair} → slice_index_or v.back k None ≡ Some m → AtHomeOf sh d v
    → AtHomeOf sh d (back_taken v k)
home-back {sh} d k m {v} i h = record {
  served = omega (arith, live-takes (InvsNot v.dir.serving.serving) v.back k m i);
  invs = omega (arith, live-takes (InvsAway sh.dirs d) v.back k m i);
  marks = h.marks;
  far = h.far;
  marked = h.marked;
}

back-owed : (sh : Shape) (w : World) (e c k : ℕ) (m : Msg) (o : Out) → KeptOwed sh w → c < sh.cores
    → FromDir w e c k m → BackDue sh e m o → KeptOwed sh (core_takes w (Dir e) c k o)
unfolding core_takes pair
back-owed sh w e c k m o h l i y = record {
  owed = λ d. owed d (cases_eq d e);
  at_home = pairs_back (λ c d v. AtHomeOf sh d v) w e c k o (home-moved o (y.marks e) (y.far e) (home-back e k m i (h.at_home c e)))
      (λ d n. home-moved o (y.marks d) (y.far d) (h.at_home c d)) h.at_home;
}
  where
    owed : (d : ℕ) → (d ≡ e) ⊎ (d ≢ e) → OwedAt sh (core_takes w (Dir e) c k o) d
    owed d (inr n) = let q = sum_back_away due sh.cores w e c k o d 0 0 n l (due-away (pair w c d) d o (y.away d n)) in
        omega (arith, h.owed)
    owed d (inl n) = rw n (let q = sum_back due sh.cores w c k o e 0 0 l (due-back (pair w c e) e k m o i y.here) in
        omega (arith, h.owed))

-- what is taken from a directory's link is at home there
taken_home : (sh : Shape) (w : World) (e c k : ℕ) (m : Msg) → KeptOwed sh w → FromDir w e c k m → passes (InvsAway sh.dirs e) m ≡ false
unfolding pair
taken_home sh w e c k m h i = none-taken (InvsAway sh.dirs e) (to_core w e c) k i (h.at_home c e).invs

backs-owed : (sh : Shape) (w : World) (e c k : ℕ) (m : Msg) → KeptOwed sh w → c < sh.cores → FromDir w e c k m
    → IfSome (from_dir sh e (w.cores c) m) (λ o. KeptOwed sh (core_takes w (Dir e) c k o))
backs-owed sh w e c k m h l i = IfSome_then (from_dir sh e (w.cores c) m) (back-due sh e (w.cores c) m (taken_home sh w e c k m h i))
    (λ o y. back-owed sh w e c k m o h l i y)

-- a directory takes a message
due-answered : (v : Pair) (k : ℕ) (m : Msg) (s : DirState) (ms : List Msg) → slice_index_or v.out k None ≡ Some m
    → due (after_answer (out_taken v k) s ms) + num (passes Acks m) ≡ due v + among Invs ms + 0
unfolding due
due-answered v k m s ms i = omega (arith, live-sends, live-takes Acks v.out k m i)

due-other : (v : Pair) (s : DirState) (ms : List Msg) → due (after_answer v s ms) ≡ due v + among Invs ms
unfolding due
due-other v s ms = omega (arith, live-sends)

nots-few : (t : ℕ) (l : Link) → live (InvsNot t) l ≤ live Invs l
nots-few t l = live-fewer (InvsNot t) Invs (nots-invs t) l

invs-any : (m : Msg) → num (passes Invs m) ≤ num (passes Any m)
unfolding passes
invs-any m = grind nats

pub invs-few : (l : Link) → live Invs l ≤ live Any l
invs-few l = live-fewer Invs Any invs-any l

-- where nothing is owed, no invalidation is in flight
none-due : (sh : Shape) (w : World) (d j t : ℕ) → (sh.cores ≤ j → live Any (to_core w d j) ≡ 0) → OwedAt sh w d
    → (w.dirs d).owed ≡ 0 → live (InvsNot t) (to_core w d j) ≡ 0
unfolding share due pair
none-due sh w d j t a o z = elim (cases_lt j sh.cores) [
  | inl l ↦ omega (arith, total-le (share due w d) sh.cores j l, nots-few)
  | inr l ↦ omega (arith, a, invs-few, nots-few)
]

-- a pair at the directory that answers, unless its served TID has changed
home-answered : {sh : Shape} {d : ℕ} {v : Pair} {ack : ℕ} {s : DirState} {sends : Sends} (j : ℕ) → Due sh d v.dir ack s sends
    → live (InvsNot s.serving.serving) (v.back ++ sent_all (sends (Core j))) ≡ 0 → AtHomeOf sh d v
    → AtHomeOf sh d (after_answer v s (sends (Core j)))
home-answered {sh} {d} {v} {sends} j u n h = record {
  served = n;
  invs = omega (arith, live-sends, u.invs);
  marks = h.marks;
  far = h.far;
  marked = u.marked;
}

home-taken : {sh : Shape} (d k : ℕ) (m : Msg) {v : Pair} → slice_index_or v.out k None ≡ Some m → AtHomeOf sh d v
    → AtHomeOf sh d (out_taken v k)
home-taken {sh} d k m {v} i h = record {
  served = h.served;
  invs = h.invs;
  marks = omega (arith, live-takes (MarksAway sh.dirs d) v.out k m i);
  far = λ x. omega (arith, live-takes AnyResolve v.out k m i, h.far x);
  marked = h.marked;
}

owed-answered : (sh : Shape) (w : World) (c e k : ℕ) (m : Msg) (s : DirState) (sends : Sends) → OwedAt sh w e → c < sh.cores
    → FromCore w c e k m → Due sh e (w.dirs e) (num (passes Acks m)) s sends → OwedAt sh (dir_takes w c e k s sends) e
unfolding dir_takes pair
owed-answered sh w c e k m s sends h l i u =
    let p = sum_dir due (λ j. among Invs (sends (Core j))) sh.cores w c k s sends e (num (passes Acks m)) 0 l
    (due-answered (pair w c e) k m s (sends (Core c)) i) (λ j n. due-other (pair w j e) s (sends (Core j))) in
    rw (eq-self e) (omega arith)

served-back : {sh : Shape} (w : World) {e : ℕ} (j : ℕ) {ack : ℕ} {s : DirState} {sends : Sends}
    → live (InvsNot (tid_at w e)) (to_core w e j) ≡ 0 → Due sh e (w.dirs e) ack s sends
    → (s.owed ≡ 0 → live (InvsNot s.serving.serving) (to_core w e j ++ sent_all (sends (Core j))) ≡ 0)
    → live (InvsNot s.serving.serving) (to_core w e j ++ sent_all (sends (Core j))) ≡ 0
served-back w {e} j {s} {sends} h u z = go u.served
  where
    go : ((s.serving.serving ≡ tid_at w e) × ((j : ℕ) → among (InvsNot (tid_at w e)) (sends (Core j)) ≡ 0))
        ⊎ (s.owed ≡ 0) → live (InvsNot s.serving.serving) (to_core w e j ++ sent_all (sends (Core j))) ≡ 0
    go a = grind (nats, live-sends)

dir-owed : {sh : Shape} {w : World} (c e k : ℕ) {m : Msg} (s : DirState) (sends : Sends) → KeptOwed sh w
    → KeptTids sh (dir_takes w c e k s sends) → c < sh.cores → FromCore w c e k m → Due sh e (w.dirs e) (num (passes Acks m)) s sends
    → KeptOwed sh (dir_takes w c e k s sends)
unfolding dir_takes pair
dir-owed {sh} {w} c e k {m} s sends h z l i u = record {
  owed = λ d. owed d (cases_eq d e);
  at_home = pairs_dir (λ c d v. AtHomeOf sh d v) w c e k s sends (home-answered c u (back_of c) (home-taken e k m i (h.at_home c e)))
      (λ j n. home-answered j u (back_of j) (h.at_home j e)) h.at_home;
}
  where
    v : World
    v = dir_takes w c e k s sends

    here : OwedAt sh v e
    here = owed-answered sh w c e k m s sends (h.owed e) l i u

    owed : (d : ℕ) → (d ≡ e) ⊎ (d ≢ e) → OwedAt sh v d
    owed d (inl n) = rw n here
    owed d (inr n) = let p = sum_dir_away due sh.cores w c e k s sends d n in rw (differ d e n) (omega (arith, h.owed))

    back_of : (j : ℕ) → live (InvsNot s.serving.serving) (to_core w e j ++ sent_all (sends (Core j))) ≡ 0
    back_of j = served-back w j (h.at_home j e).served u
        (λ x. rw (eq-self e) at (none-due sh v e j s.serving.serving (z.inside j e).back here (rw (eq-self e) x)))

-- a directory asks
asks-owed : (sh : Shape) (w : World) (e : ℕ) (s : DirState) (sends : Sends) → KeptOwed sh w → KeptTids sh (dir_asks w e s sends)
    → Due sh e (w.dirs e) 0 s sends → KeptOwed sh (dir_asks w e s sends)
unfolding dir_asks pair
asks-owed sh w e s sends h z u = record {
  owed = λ d. owed d (cases_eq d e);
  at_home = pairs_asks (λ c d v. AtHomeOf sh d v) w e s sends (λ j. home-answered j u (back_of j) (h.at_home j e)) h.at_home;
}
  where
    v : World
    v = dir_asks w e s sends

    here : OwedAt sh v e
    here =
        let p = sum_asks_here due (λ j. among Invs (sends (Core j))) sh.cores w s sends e
        (λ j. due-other (pair w j e) s (sends (Core j))) in
        rw (eq-self e) (omega (arith, h.owed))

    owed : (d : ℕ) → (d ≡ e) ⊎ (d ≢ e) → OwedAt sh v d
    owed d (inl n) = rw n here
    owed d (inr n) = let p = sum_asks_away due sh.cores w e s sends d n in rw (differ d e n) (omega (arith, h.owed))

    back_of : (j : ℕ) → live (InvsNot s.serving.serving) (to_core w e j ++ sent_all (sends (Core j))) ≡ 0
    back_of j = served-back w j (h.at_home j e).served u
        (λ x. rw (eq-self e) at (none-due sh v e j s.serving.serving (z.inside j e).back here (rw (eq-self e) x)))

-- the vendor grants
vendor-owed : (sh : Shape) (w : World) (c k : ℕ) (a : Ask) → KeptOwed sh w → c < sh.cores → KeptOwed sh (gives_to w c k a)
unfolding vendor_gives due
vendor-owed sh w c k a h l = record {
  owed = λ d. let p = sum_vendor due sh.cores w c k a d 0 0 l refl (λ j n. refl) in omega (arith, h.owed);
  at_home = pairs_vendor (λ c d v. AtHomeOf sh d v) w c k a (λ d. next (after_gift (pair w c d) k (gift a)) refl refl refl (h.at_home c d))
      (λ j d n. next (after_other_gift (pair w j d) (gift a)) refl refl refl (h.at_home j d));
}
  where
    next : {v : Pair} {d : ℕ} (x : Pair) → x.dir ≡ v.dir → x.out ≡ v.out → x.back ≡ v.back → AtHomeOf sh d v → AtHomeOf sh d x
    next x e f g a = record {
      served = rw (e, g) a.served;
      invs = rw g a.invs;
      marks = rw f a.marks;
      far = rw f a.far;
      marked = rw e a.marked;
    }

share-start : (entries : ℕ → Local) (ram : ℕ → ℕ) (d j : ℕ) → share due (start entries ram) d j ≡ 0
unfolding share due start pair live
share-start entries ram d j = refl

-- at the start nothing is owed
start-owed : (sh : Shape) (entries : ℕ → Local) (ram : ℕ → ℕ) → KeptOwed sh (start entries ram)
unfolding start dir_start pair live no_lines
start-owed sh entries ram = record {
  owed = λ d. sym (total-zero (share due (start entries ram) d) sh.cores (λ j l. (share-start entries ram d j)));
  at_home = λ c d. record { served = refl; invs = refl; marks = refl; far = λ x. refl; marked = λ l e. absurd (cc) };
}

-- what is known of a message to a directory
pub marks_home : {sh : Shape} {w : World} (c e k : ℕ) {m : Msg} → KeptOwed sh w → FromCore w c e k m
    → passes (MarksAway sh.dirs e) m ≡ false
unfolding pair
marks_home {sh} {w} c e k h i = none-taken (MarksAway sh.dirs e) (to_dir w c e) k i (h.at_home c e).marks

pub acks_owed : {sh : Shape} {w : World} (c e k : ℕ) {m : Msg} → KeptOwed sh w → c < sh.cores → FromCore w c e k m
    → num (passes Acks m) ≤ (w.dirs e).owed
unfolding share due pair
acks_owed {sh} {w} c e k {m} h l i = omega (arith, h.owed e, total-le (share due w e) sh.cores c l, live-takes Acks (to_dir w c e) k m i)

-- Each kind of event keeps what is known of the directories that a core asked.

-- what is reached stays so while the served TID rises
later : {sh : Shape} {d x y : ℕ} {s : CoreState} → x ≤ y → Reached sh d x s → Reached sh d y s
later l h = record { reached = λ a b c. let r = h.reached a b c in omega arith; replied = h.replied }

reached-moved : {sh : Shape} {d : ℕ} (v : Pair) (o : Out) → Reached sh d v.dir.serving.serving o.core → ReachedOf sh d v
    → ReachedOf sh d (after_move v o d)
reached-moved v o r h = record { core = r; replies = h.replies }

move-probes : (sh : Shape) (w : World) (c : ℕ) (o : Out) → KeptProbes sh w → ((d : ℕ) → Reached sh d (tid_at w d) o.core)
    → KeptProbes sh (core_moves w c o)
unfolding pair
move-probes sh w c o h r = pairs_move (λ c d v. ReachedOf sh d v) w c o (λ d. reached-moved (pair w c d) o (r d) (h c d)) h

grant-probes : (sh : Shape) (w : World) (c k : ℕ) (o : Out) → KeptProbes sh w
    → ((d : ℕ) → Reached sh d (tid_at w d) o.core) → KeptProbes sh (core_takes w Vendor c k o)
unfolding pair
grant-probes sh w c k o h r = pairs_grant (λ c d v. ReachedOf sh d v) w c k o
    (λ d. reached-moved (grant_taken (pair w c d) k) o (r d) (record { core = (h c d).core; replies = (h c d).replies })) h

back-probes : (sh : Shape) (w : World) (e c k : ℕ) (m : Msg) (o : Out) → KeptProbes sh w → FromDir w e c k m
    → ((d : ℕ) → Reached sh d (tid_at w d) o.core) → KeptProbes sh (core_takes w (Dir e) c k o)
unfolding pair
back-probes sh w e c k m o h i r = pairs_back (λ c d v. ReachedOf sh d v) w e c k o
    (record {
      core = r e;
      replies = omega (
        arith,
        live-takes (RepliesAbove (tid_at w e)) (to_core w e c) k m i,
        (h c e).replies,
      );
    })
    (λ d n. reached-moved (pair w c d) o (r d) (h c d)) h

-- a reply in flight is of a TID that its directory has reached
reply-low : {sh : Shape} (w : World) (e c k : ℕ) {m : Msg} → KeptProbes sh w → FromDir w e c k m
    → passes (RepliesAbove (tid_at w e)) m ≡ false
unfolding pair
reply-low w e c k h i = none-taken (RepliesAbove (tid_at w e)) (to_core w e c) k i (h c e).replies

reached-answered : (sh : Shape) (d : ℕ) (v : Pair) {s : DirState} {sends : Sends} (j : ℕ) → Rises v.dir s sends → ReachedOf sh d v
    → ReachedOf sh d (after_answer v s (sends (Core j)))
reached-answered sh d v {s} {sends} j u h = record {
  core = later u.rises h.core;
  replies =
      omega (arith, live-sends, u.replies, fewer-above v.dir.serving.serving s.serving.serving v.back u.rises);
}

dir-probes : {sh : Shape} (w : World) (c e k : ℕ) {s : DirState} {sends : Sends} → KeptProbes sh w → Rises (w.dirs e) s sends
    → KeptProbes sh (dir_takes w c e k s sends)
unfolding pair
dir-probes {sh} w c e k {s} {sends} h u = pairs_dir (λ c d v. ReachedOf sh d v) w c e k s sends
    (reached-answered sh e (out_taken (pair w c e) k) c u (record { core = (h c e).core; replies = (h c e).replies }))
    (λ j n. reached-answered sh e (pair w j e) j u (h j e)) h

asks-probes : (sh : Shape) (w : World) (e : ℕ) (s : DirState) (sends : Sends) → KeptProbes sh w → Rises (w.dirs e) s sends
    → KeptProbes sh (dir_asks w e s sends)
unfolding pair
asks-probes sh w e s sends h u = pairs_asks (λ c d v. ReachedOf sh d v) w e s sends (λ j. reached-answered sh e (pair w j e) j u (h j e)) h

vendor-probes : (sh : Shape) (w : World) (c k : ℕ) (a : Ask) → KeptProbes sh w → KeptProbes sh (gives_to w c k a)
vendor-probes sh w c k a h = pairs_vendor (λ c d v. ReachedOf sh d v) w c k a
    (λ d. record { core = (h c d).core; replies = (h c d).replies })
    (λ j d n. record { core = (h j d).core; replies = (h j d).replies })

start-probes : (sh : Shape) (entries : ℕ → Local) (ram : ℕ → ℕ) → KeptProbes sh (start entries ram)
unfolding start core_start pair live
start-probes sh entries ram c d = record { core = none-asked Running refl (λ b. refl) refl; replies = refl }

-- Every event keeps the invariants, and so does every run.

-- the core that a message comes from or goes to is one of the machine
pub core_of_grant : {sh : Shape} {w : World} (c k : ℕ) {m : Msg} → KeptTids sh w → in_flight w.net Vendor (Core c) k ≡ Some m → c < sh.cores
unfolding pair
core_of_grant {sh} {w} c k h i = inside_from sh c (live Any (w.net Vendor (Core c))) (h.inside c 0).grants
    (any-one (w.net Vendor (Core c)) k i)

pub core_of_back : {sh : Shape} {w : World} (c d k : ℕ) {m : Msg} → KeptTids sh w → FromDir w d c k m → c < sh.cores
unfolding pair
core_of_back {sh} {w} c d k h i = inside_from sh c (live Any (to_core w d c)) (h.inside c d).back (any-one (to_core w d c) k i)

pub core_of_out : {sh : Shape} {w : World} (c d k : ℕ) {m : Msg} → KeptTids sh w → FromCore w c d k m → c < sh.cores
unfolding pair
core_of_out {sh} {w} c d k h i = inside_from sh c (live Any (to_dir w c d)) (h.inside c d).out (any-one (to_dir w c d) k i)

pub core_of_ask : {sh : Shape} {w : World} (c k : ℕ) {m : Msg} → KeptTids sh w → in_flight w.net (Core c) Vendor k ≡ Some m → c < sh.cores
unfolding pair
core_of_ask {sh} {w} c k h i = inside_from sh c (live Any (w.net (Core c) Vendor)) (h.inside c 0).asks (any-one (w.net (Core c) Vendor) k i)

resolves-any : (t : ℕ) (m : Msg) → num (passes (Resolves t) m) ≤ num (passes AnyResolve m)
unfolding passes
resolves-any t m = grind nats

handled-once : (s : Serving) (owed t : ℕ) → handled s owed t ≤ 1
unfolding handled
handled-once s owed t = let a = skipped-above s t in grind nats

-- what a TID's message tells of it, also at a directory that the machine doesn't have
pub once_at : {sh : Shape} {w : World} (c d k : ℕ) {m : Msg} → KeptTold sh w → FromCore w c d k m → OnceAt (w.dirs d) m
unfolding pair
once_at {sh} {w} c d k {m} h i t = elim (cases_lt d sh.dirs) [
  | inl l ↦ once-there sh w c d k t m (core_of_out c d k h.tids i) i (h.tids.resolved d t l)
  | inr l ↦ omega (arith, resolves-any, live-some AnyResolve (to_dir w c d) k m i, (h.owed.at_home c d).far l, handled-once)
]

-- every event that is enabled keeps the invariants
moves : {sh : Shape} {w : World} (c : ℕ) (o : Out) → KeptTold sh w → c < sh.cores → KeepsRequests 0 (w.cores c) o
    → ((d t : ℕ) → d < sh.dirs → KeepsPart sh d t 0 (w.cores c) o) → CleanOut sh o → KeptTold sh (core_moves w c o)
moves {sh} {w} c o h l r q y = record { tids = move-kept sh w c o h.tids l r q; owed = move-owed sh w c o h.owed l y }

backs : {sh : Shape} {w : World} (c d k : ℕ) {m : Msg} (o : Out) → KeptTold sh w → FromDir w d c k m → KeepsRequests 0 (w.cores c) o
    → ((e t : ℕ) → e < sh.dirs → KeepsPart sh e t 0 (w.cores c) o) → KeptOwed sh (core_takes w (Dir d) c k o)
    → KeptTold sh (core_takes w (Dir d) c k o)
backs {sh} {w} c d k {m} o h i r q y = record { tids = back-kept sh w d c k m o h.tids i r q; owed = y }

answers : {sh : Shape} {w : World} (c d k : ℕ) {m : Msg} → KeptTold sh w → FromCore w c d k m → (a : Answer) → AnswersInside sh a
    → ((t : ℕ) → d < sh.dirs → HandledBy (w.dirs d) m t a) → DueBy sh d (w.dirs d) (num (passes Acks m)) a
    → OfAnswer w c d k (KeptTold sh) a
unfolding pair
answers c d k h i Waits n q u = tt
answers {sh} {w} c d k h i Drops n q u =
    let t = dir-kept c d k (w.dirs d) nothing h.tids i (λ j x. no_sends) (h.tids.inside c d).owners (λ t x. rw (q t x) (omega arith)) in
    record {
      tids = t;
      owed = dir-owed c d k (w.dirs d) nothing h.owed t (core_of_out c d k h.tids i) i
          (rw u (still-due sh d (w.dirs d) (h.owed.at_home c d).marked));
    }
answers {sh} {w} c d k h i (Asks s sends) n q u =
    let t = asks-kept sh w d s sends h.tids n.0 n.1 q in
    record { tids = t; owed = asks-owed sh w d s sends h.owed t u }
answers c d k h i (Takes s sends) n q u =
    let t = dir-kept c d k s sends h.tids i n.0 n.1 q in
    record { tids = t; owed = dir-owed c d k s sends h.owed t (core_of_out c d k h.tids i) i u }

step-told : (sh : Shape) (p : Program) (w : World) (e : Event) → KeptTold sh w → IfSome (step sh p w e) (λ o. KeptTold sh o.world)
unfolding pair
step-told sh p w e h = step_cases sh p w e (λ g o. KeptTold sh o.world)
    (λ c o eq l. moves c o h l (got _ eq (requests-exec sh p c (w.cores c))) (λ d t x. got _ eq (part-exec sh p c d t (w.cores c) x))
    (got _ eq (clean-exec sh p c (w.cores c))))
    (λ c x y o eq l. moves c o h l (got _ eq (requests-evict sh x y (w.cores c))) (λ d t z. got _ eq (part-evict sh x y d t (w.cores c)))
    (got _ eq (clean-evict sh x y (w.cores c))))
    (λ c k t i. record {
      tids = grant-kept sh w c k t h.tids i;
      owed = grant-owed sh w c k (grant sh t (w.cores c)) h.owed (core_of_grant c k h.tids i) (clean-grant sh t (w.cores c));
    })
    (λ c d k m o eq i. backs c d k o h i (got _ eq (requests-back sh d (w.cores c) m))
    (λ e t x. got _ eq (part-back sh d e t (w.cores c) m x)) (got _ eq (backs-owed sh w d c k m h.owed (core_of_back c d k h.tids i) i)))
    (λ c d k m i. answers c d k h i (dir_deliver sh (w.dirs d) c m)
    (dir-inside sh (w.dirs d) c m (core_of_out c d k h.tids i) (h.tids.inside c d).owners)
    (λ t x. dir-handled sh (w.dirs d) c m t (once_at c d k h i))
    (dir-due sh d (w.dirs d) c m (once_at c d k h i) (h.owed.at_home c d).marked (marks_home c d k h.owed i)
    (acks_owed c d k h.owed (core_of_out c d k h.tids i) i)))
    (λ c k a i. record { tids = vendor-kept sh w c k a h.tids i; owed = vendor-owed sh w c k a h.owed (core_of_ask c k h.tids i) })

step-probes : (sh : Shape) (p : Program) (w : World) (e : Event) → KeptProbes sh w → IfSome (step sh p w e) (λ o. KeptProbes sh o.world)
unfolding pair
step-probes sh p w e h = step_cases sh p w e (λ g o. KeptProbes sh o.world)
    (λ c o eq l. move-probes sh w c o h (λ d. got _ eq (asked-exec p c d (h c d).core)))
    (λ c x y o eq l. move-probes sh w c o h (λ d. got _ eq (asked-evict x y d (h c d).core)))
    (λ c k t i. grant-probes sh w c k (grant sh t (w.cores c)) h (λ d. asked-grant t d (h c d).core))
    (λ c d k m o eq i. back-probes sh w d c k m o h i (λ e. got _ eq (asked-back d m (λ q. rw q (reply-low w d c k h i)) (h c e).core)))
    (λ c d k m i. answered c d k (dir_deliver sh (w.dirs d) c m) (dir-rises sh (w.dirs d) c m))
    (λ c k a i. vendor-probes sh w c k a h)
  where
    answered : (c d k : ℕ) (a : Answer) → RisesBy (w.dirs d) a → OfAnswer w c d k (KeptProbes sh) a
    answered c d k Waits r = tt
    answered c d k Drops r = dir-probes w c d k h (rises-still (w.dirs d))
    answered c d k (Asks s sends) r = asks-probes sh w d s sends h r
    answered c d k (Takes s sends) r = dir-probes w c d k h r

pub step-kept : {sh : Shape} (p : Program) {w : World} (e : Event) → Kept sh w → IfSome (step sh p w e) (λ o. Kept sh o.world)
step-kept {sh} p {w} e h = go (step sh p w e) (step-told sh p w e h.told) (step-probes sh p w e h.probes)
  where
    go : (x : Option Stepped) → IfSome x (λ o. KeptTold sh o.world) → IfSome x (λ o. KeptProbes sh o.world)
        → IfSome x (λ o. Kept sh o.world)
    go None a b = tt
    go (Some o) a b = record { told = a; probes = b }

pub start-all : (sh : Shape) (entries : ℕ → Local) (ram : ℕ → ℕ) → Kept sh (start entries ram)
start-all sh entries ram =
    record { told = record { tids = start-kept sh entries ram; owed = start-owed sh entries ram }; probes = start-probes sh entries ram }
