-- Every event keeps that a Commit counts its Marks, and that none is in flight while acknowledgements are owed; then their masks.
use Rattle.theorem_serial.proofs
use proofs.Names
use Names.{got, awaits_replies, after_answer, count_below, CountsMarks, grant_taken, dir_deliver, ap, KeptCounted}
use Names.{EmptyMarks, after_move, core_moves, core_takes, KeptOwners, false, back_taken, may_commit, writes_at, sum_below}
use Names.{marked_by, CountedOf, AnyCommit, dir_start, dir_takes, KeptMarks, KeptCores, cases_lt, has_mark, DirState, sent_all, Resolves}
use Names.{CommitOf, marks_of, Contains, KeptTids, cases_eq, dir_asks, KeptTold, MarksOf, handled, arith, Program, nat_lt, MarkOf, passes}
use Names.{nat_le, IfSome, TidReq, Commit, Answer, Shape, lines, among, ℕ, Grant, opens, World, share, subst, Noted, Local, Event, Phase}
use Names.{start, Sends, grant, Waits, Drops, Takes, true, List, ◌++◌, ◌==◌, ◌&&◌, refl, Skip, Link, live, Pair, Kind, pair, part, Some}
use Names.{None, Core, Asks, step, Acks, Kept, skip, ◌+◌, ◌≡◌, ◌<◌, ◌≤◌, ◌∙◌, ◌⊎◌, inl, inr, num, Dir, Msg, Out, set, nats, tid_at, to_dir}
use Names.{FromCore, grant_to, ◌≢◌, nothing, num-most, not, modified_mask, Vendor, TidGrant, Mark, core_start, in_flight, Grants, MarkMask}
use Names.{wrong_marks, MaskedOf, KeptMasks, has_tid, no_lines, OneMark}
use proofs.Serving.{granted-free, Due, DueBy, dir-due, still-due, core_of_back, core_of_out, once_at, marks_home, acks_owed, grant-alone}
use proofs.Counts.{live-sends, total-same, total-plus, total-le, live-fewer, live-takes, dir-own, dir-other, asks-own, pairs_move}
use proofs.Counts.{pairs_grant, pairs_back, pairs_dir, pairs_asks, pairs_vendor, OfAnswer, step_cases}
use proofs.Marks.CommitMasks.{Counts, CountsAll, total-num, few-any, counts-exec, counts-evict, counts-back, Masking, live-masked}
use proofs.Marks.CommitMasks.{passes-masked, masking-exec, masking-evict, masking-back}
use proofs.Marks.CoreMarking.{Marking, marking-exec, marking-evict, marking-back, granting, few, Granting}
use proofs.Marks.DirRecords.{Marked, Stays, MarkedBy, dir-marked, CountsMarked, OwesBy, dir-owes, marks-grow}
use proofs.Marks.MarksKept.{holds, open-untold, taken-less, empty-one, skip-unmarked, only-there, no-request, no-empty}
use proofs.Marks.MarksKept.{taken-back as back-marks, kinds, marks-granted, has-granted, is-granted, falls}
use proofs.Tids.{granted-once, granted_waits, live-some, is_mine}
use proofs.Counts.{Gift, gift, after_gift, after_other_gift}

-- How each kind of event keeps that a Commit counts its Marks, between a core and a directory.
one-resolve : (t n : ℕ) (m : Msg) → num (passes (CommitOf t n) m) ≤ num (passes (Resolves t) m)
unfolding passes
one-resolve t n m = grind nats

-- a Commit is a word on its TID
is-word : (t n : ℕ) (k : Link) → live (CommitOf t n) k ≤ live (Resolves t) k
is-word t n k = live-fewer (CommitOf t n) (Resolves t) (one-resolve t n) k

-- the same Marks are counted
same-counts : {sh : Shape} {n t : ℕ} {v : Pair} (w : Pair) → ((l : ℕ) → marks_of t l w ≡ marks_of t l v) → CountsMarks sh n t v
    → CountsMarks sh n t w
same-counts {sh} {t} {v} w f h = record {
  each = λ l. omega (arith, f, h.each);
  sum = total-same (λ l. marks_of t l w) (λ l. marks_of t l v) (lines sh) (λ l x. f l) ∙ h.sum;
}

pub none-sent : (t l d : ℕ) (v : Pair) (o : Out) → among (MarkOf t l) (o.sends (Dir d)) ≡ 0
    → marks_of t l (after_move v o d) ≡ marks_of t l v
unfolding marks_of
none-sent t l d v o z = omega (arith, live-sends)

all-sent : (sh : Shape) (t l d : ℕ) (v : Pair) (o : Out) → marks_of t l v ≡ marked_by sh v.core d l
    → marks_of t l (after_move v o d) ≡ among (MarkOf t l) (o.sends (Dir d)) + marked_by sh v.core d l
unfolding marks_of
all-sent sh t l d v o z = omega (arith, live-sends)

-- a core moves
counted-moved : {sh : Shape} (gs : List Grant) (c : ℕ) {d t : ℕ} {v : Pair} {o : Out} → c < sh.cores
    → ((u l : ℕ) → Marking sh d u l v.core o) → CountsAll sh d t v.core o → ((l : ℕ) → MarksOf sh gs c d t l v)
    → (d < sh.dirs → opens v.core.phase (writes_at sh v.core.cache d) t ≡ true → live (Resolves t) v.out ≡ 0)
    → (d < sh.dirs → opens v.core.phase (writes_at sh v.core.cache d) v.dir.serving.serving ≡ true → v.dir.owed ≡ 0) → CountedOf sh d t v
    → CountedOf sh d t (after_move v o d)
counted-moved {sh} gs c {d} {t} {v} {o} cl y k m free unowed h = record {
  counted = λ n dl x. counted n dl x (cases_lt 0 (among (CommitOf t n) (o.sends (Dir d))));
  settled =
      λ l dl x. omega (
        arith,
        h.settled l dl x,
        live-sends,
        quiet l dl x
            (cases_lt 0 (among (MarkOf v.dir.serving.serving l) (o.sends (Dir d)))),
      );
}
  where
    quiet : (l : ℕ) → d < sh.dirs → 1 ≤ v.dir.owed → (0 < among (MarkOf v.dir.serving.serving l) (o.sends (Dir d)))
        ⊎ (among (MarkOf v.dir.serving.serving l) (o.sends (Dir d)) ≤ 0) → among (MarkOf v.dir.serving.serving l) (o.sends (Dir d)) ≡ 0
    quiet l dl x a = grind nats

    told : (n l : ℕ) → d < sh.dirs → 1 ≤ live (CommitOf t n) v.out → (0 < among (MarkOf t l) (o.sends (Dir d)))
        ⊎ (among (MarkOf t l) (o.sends (Dir d)) ≤ 0) → among (MarkOf t l) (o.sends (Dir d)) ≡ 0
    told n l dl x a = grind (nats, is-word)

    sums : (n : ℕ) → d < sh.dirs → Counts sh d t n v.core o → CountsMarks sh n t (after_move v o d)
    sums n dl a = record {
      each = λ l. omega (arith, all-sent sh t l d v o ((m l).held cl dl a.held), a.each);
      sum = total-same (λ l. marks_of t l (after_move v o d)) (λ l. among (MarkOf t l) (o.sends (Dir d)) + marked_by sh v.core d l)
          (lines sh) (λ l x. all-sent sh t l d v o ((m l).held cl dl a.held)) ∙ a.sum;
    }

    counted : (n : ℕ) → d < sh.dirs → 1 ≤ live (CommitOf t n) (v.out ++ sent_all (o.sends (Dir d)))
        → (0 < among (CommitOf t n) (o.sends (Dir d))) ⊎ (among (CommitOf t n) (o.sends (Dir d)) ≤ 0)
        → CountsMarks sh n t (after_move v o d)
    counted n dl x (inl z) = sums n dl (k n (omega arith))
    counted n dl x (inr z) =
        let b : 1 ≤ live (CommitOf t n) v.out = omega (arith, live-sends) in
        same-counts (after_move v o d)
        (λ l. none-sent t l d v o (told n l dl b (cases_lt 0 (among (MarkOf t l) (o.sends (Dir d)))))) (h.counted n dl b)

-- a directory answers: of a TID whose Commit is in flight the Marks stay, in flight or handled
pub marks-stay : (sh : Shape) (d t l : ℕ) (v : Pair) {m : Msg} {s : DirState} (ms : List Msg) (k : Link) → Marked v.dir m s
    → (live (MarkOf t l) k + num (passes (MarkOf t l) m) ≡ live (MarkOf t l) v.out)
    → (m ≡ Skip v.dir.serving.serving → has_mark v.dir.lines l ≡ false) → passes EmptyMarks m ≡ false → s.serving.serving ≤ t
    → marks_of t l v ≤ 1 → marks_of t l (after_answer (record v { out = k }) s ms) ≡ marks_of t l v
unfolding marks_of
marks-stay sh d t l v ms k y eqn skip nonempty ahead one = holds t l (live (MarkOf t l) k) y eqn skip nonempty one (λ x. ahead) refl

-- where a Commit counts the marked lines, none of its Marks is in flight
pub none-away : (sh : Shape) (l : ℕ) (v : Pair) → CountsMarks sh (count_below (has_mark v.dir.lines) (lines sh)) v.dir.serving.serving v
    → live (MarkOf v.dir.serving.serving l) v.out ≡ 0
unfolding marks_of
none-away sh l v h = elim (cases_lt l (lines sh)) [
  | inl z ↦ omega (arith, sum, total-le (λ x. live (MarkOf u x) v.out) (lines sh) l z)
  | inr z ↦ let b : num (nat_lt l (lines sh)) ≡ 0 = grind nats in omega (arith, h.each)
]
  where
    u : ℕ
    u = v.dir.serving.serving

    self : (u == u) ≡ true
    self = grind nats

    split : (x : ℕ) → x < lines sh → live (MarkOf u x) v.out + num (u == u && has_mark v.dir.lines x) ≡ live (MarkOf u x) v.out + num
        (has_mark v.dir.lines x)
    split x z = rw self

    sum : sum_below (λ x. live (MarkOf u x) v.out) (lines sh) ≡ 0
    sum =
        let a = total-plus (λ x. live (MarkOf u x) v.out) (λ x. num (has_mark v.dir.lines x))
        (λ x. live (MarkOf u x) v.out + num (u == u && has_mark v.dir.lines x)) (lines sh) split in
        omega (arith, total-num)

-- a TID that a core has open isn't owed anything for
open-unowed : {sh : Shape} {w : World} (c d : ℕ) → KeptTids sh w → c < sh.cores → d < sh.dirs
    → opens (w.cores c).phase (writes_at sh (w.cores c).cache d) (tid_at w d) ≡ true → (w.dirs d).owed ≡ 0
unfolding share part pair handled
open-unowed {sh} {w} c d k l x h = elim (cases_lt 0 (w.dirs d).owed) [
  | inr q ↦ omega arith
  | inl q ↦ let n : num (opens (w.cores c).phase (writes_at sh (w.cores c).cache d) t) ≡ 1 = ap num h in
      let b : num ((t == t) && nat_lt 0 (w.dirs d).owed) ≡ 1 = grind nats in
      absurd (omega (arith, k.resolved d t x, total-le (share (part sh d t) w d) sh.cores c l))
]
  where
    t : ℕ
    t = tid_at w d

-- a TID of which a word is in flight isn't passed
pub told-ahead : {sh : Shape} {w : World} (c d t : ℕ) → KeptTids sh w → c < sh.cores → d < sh.dirs → 1 ≤ live (Resolves t) (pair w c d).out
    → (pair w c d).dir.serving.serving ≤ t
unfolding share part pair handled
told-ahead {sh} {w} c d t k l x h = elim (cases_lt t (tid_at w d)) [
  | inr q ↦ q
  | inl q ↦ let b : num (nat_lt t (tid_at w d)) ≡ 1 = grind nats in
      absurd (omega (arith, k.resolved d t x, total-le (share (part sh d t) w d) sh.cores c l))
]

below-one : {sh : Shape} {n t : ℕ} (l : ℕ) {v : Pair} → CountsMarks sh n t v → marks_of t l v ≤ 1
below-one l h = grind nats

-- what a directory's answer does to a pair
counted-answered : {sh : Shape} {gs : List Grant} {j d t : ℕ} {v : Pair} (m : Msg) (s : DirState) (ms : List Msg) (k : Link)
    → Marked v.dir m s → ((x : Kind) → live x k ≤ live x v.out)
    → ((l : ℕ) → (Contains gs (grant_to t j)) ⊎ (1 ≤ num (nat_le v.next t))
    → live (MarkOf t l) k + num (passes (MarkOf t l) m) ≡ live (MarkOf t l) v.out)
    → ((l : ℕ) → m ≡ Skip v.dir.serving.serving → has_mark v.dir.lines l ≡ false) → passes EmptyMarks m ≡ false
    → (d < sh.dirs → 1 ≤ live (Resolves t) k → s.serving.serving ≤ t) → ((s.serving.serving ≡ v.dir.serving.serving) ⊎ (s.owed ≡ 0))
    → ((1 ≤ s.owed → 1 ≤ v.dir.owed) ⊎ ((l : ℕ) → d < sh.dirs → live (MarkOf v.dir.serving.serving l) v.out ≡ 0)) → MarksOf sh gs j d t 0 v
    → CountedOf sh d t v → CountedOf sh d t (after_answer (record v { out = k }) s ms)
counted-answered {sh} {gs} {j} {d} {t} {v} m s ms k y less eqn skip nonempty ahead serves owes g h =
    record { counted = counted; settled = λ l dl x. settled l dl x serves owes }
  where
    counted : (n : ℕ) → d < sh.dirs → 1 ≤ live (CommitOf t n) k → CountsMarks sh n t (after_answer (record v { out = k }) s ms)
    counted n dl x =
        let a : 1 ≤ live (Resolves t) k = omega (arith, is-word) in
        let b : CountsMarks sh n t v = h.counted n dl (omega (arith, less)) in
        let c : Contains gs (grant_to t j) = g.owner (omega (arith, less)) in
        same-counts (after_answer (record v { out = k }) s ms)
        (λ l. marks-stay sh d t l v ms k y (eqn l (inl c)) (skip l) nonempty (ahead dl a) (below-one l b)) b

    settled : (l : ℕ) → d < sh.dirs → 1 ≤ s.owed → (s.serving.serving ≡ v.dir.serving.serving) ⊎ (s.owed ≡ 0)
        → (1 ≤ s.owed → 1 ≤ v.dir.owed) ⊎ ((l : ℕ) → d < sh.dirs → live (MarkOf v.dir.serving.serving l) v.out ≡ 0)
        → live (MarkOf s.serving.serving l) k ≡ 0
    settled l dl x a r = grind nats

none-granted : (t l d k : ℕ) (v : Pair) (o : Out) → among (MarkOf t l) (o.sends (Dir d)) ≡ 0
    → marks_of t l (after_move (grant_taken v k) o d) ≡ marks_of t l v
unfolding marks_of
none-granted t l d k v o z = omega (arith, live-sends)

-- a grant sends none of these
counted-granted : {sh : Shape} (d t k : ℕ) {v : Pair} (o : Out) → ((u l : ℕ) → among (MarkOf u l) (o.sends (Dir d)) ≡ 0)
    → among AnyCommit (o.sends (Dir d)) ≡ 0 → CountedOf sh d t v → CountedOf sh d t (after_move (grant_taken v k) o d)
counted-granted d t k {v} o f z h = record {
  counted = λ n dl x. same-counts (after_move (grant_taken v k) o d) (λ l. none-granted t l d k v o (f t l))
      (h.counted n dl (omega (arith, few-any, live-sends)));
  settled =
      λ l dl x. omega (arith, h.settled, f, live-sends);
}

pub is-commit : (u n : ℕ) → num (passes (CommitOf u n) (Commit u n)) ≡ 1
unfolding passes
is-commit u n = grind nats

-- a directory that takes a Commit has all its Marks
none-left : {sh : Shape} {gs : List Grant} (w : World) {cs : List Noted} (c j d k : ℕ) {m : Msg} → KeptOwners sh gs w cs → KeptMarks sh gs w
    → KeptCounted sh w → c < sh.cores → FromCore w c d k m → CountsMarked sh (w.dirs d) m → (l : ℕ) → d < sh.dirs
    → live (MarkOf (tid_at w d) l) (to_dir w j d) ≡ 0
unfolding pair
none-left {sh} {gs} w c j d k y a h cl i q l dl =
    elim (cases_eq j c) [
      | inl e ↦ rw e (none-away sh l (pair w c d) ((h c d u cl).counted n dl sent))
      | inr e ↦ other e
          (cases_lt 0 (live (MarkOf u l) (to_dir w j d)))
    ]
  where
    u : ℕ
    u = tid_at w d

    n : ℕ
    n = count_below (has_mark (w.dirs d).lines) (lines sh)

    sent : 1 ≤ live (CommitOf u n) (to_dir w c d)
    sent = omega (arith, live-some (CommitOf u n) (to_dir w c d) k (Commit u n) (i ∙ ap (λ x. Some x) q), is-commit)

    other : j ≢ c → (0 < live (MarkOf u l) (to_dir w j d)) ⊎ (live (MarkOf u l) (to_dir w j d) ≤ 0) → live (MarkOf u l) (to_dir w j d) ≡ 0
    other e (inr z) = omega arith
    other e (inl z) = absurd (e (granted-once 1 gs u j c y.numbered ((a j d u l).owner (omega (arith, (kinds u l (to_dir w j d)).0)))
        ((a c d u l).owner (omega (arith, sent, is-word u n (to_dir w c d))))))

dir-counted : {sh : Shape} {gs : List Grant} {w : World} {cs : List Noted} (c : ℕ) {d : ℕ}
    (k : ℕ) {ack : ℕ} {m : Msg} {s : DirState} {sends : Sends} → KeptTold sh w → KeptOwners sh gs w cs → KeptMarks sh gs w
    → KeptCounted sh w → KeptTold sh (dir_takes w c d k s sends) → c < sh.cores → FromCore w c d k m → Marked (w.dirs d) m s
    → Due sh d (w.dirs d) ack s sends → (s.owed ≤ (w.dirs d).owed) ⊎ CountsMarked sh (w.dirs d) m
    → KeptCounted sh (dir_takes w c d k s sends)
unfolding pair
dir-counted {sh} {w} c {d} k {m} {s} {sends} b y a h z cl i u p o =
    pairs_dir (λ j e v. (t : ℕ) → j < sh.cores → CountedOf sh e t v) w c d k s sends
    (λ t x. counted-answered m s (sends (Core c)) (set (to_dir w c d) k None) u
    (λ q. taken-less k q (to_dir w c d) i) (λ l q. live-takes (MarkOf t l) (to_dir w c d) k m i) skip nonempty
    (λ dl. subst (λ v. 1 ≤ live (Resolves t) v.out → v.dir.serving.serving ≤ t) (dir-own w c d k s sends)
    (told-ahead c d t z.tids x dl)) (serves p.served) (owes c o) (a c d t 0) (h c d t x))
    (λ j n t x. counted-answered m s (sends (Core j)) (to_dir w j d) u (λ q. omega arith)
    (λ l. only-there c j d k t l y a i n) skip nonempty
    (λ dl. subst (λ v. 1 ≤ live (Resolves t) v.out → v.dir.serving.serving ≤ t) (dir-other w c d k s sends j n)
    (told-ahead j d t z.tids x dl)) (serves p.served) (owes j o) (a j d t 0) (h j d t x)) h
  where
    new : World
    new = dir_takes w c d k s sends

    skip : (l : ℕ) → m ≡ Skip (tid_at w d) → has_mark (w.dirs d).lines l ≡ false
    skip l = skip-unmarked c d k l b a i

    nonempty : passes EmptyMarks m ≡ false
    nonempty = empty-one (to_dir w c d) k i (a c d 0 0).words

    serves : {B : Type 0} → ((s.serving.serving ≡ tid_at w d) × B) ⊎ (s.owed ≡ 0) → (s.serving.serving ≡ tid_at w d) ⊎ (s.owed ≡ 0)
    serves (inl q) = inl q.0
    serves (inr q) = inr q

    owes : (j : ℕ) → (s.owed ≤ (w.dirs d).owed) ⊎ CountsMarked sh (w.dirs d) m
        → (1 ≤ s.owed → 1 ≤ (w.dirs d).owed) ⊎ ((l : ℕ) → d < sh.dirs → live (MarkOf (tid_at w d) l) (to_dir w j d) ≡ 0)
    owes j (inl q) = inl (λ x. omega arith)
    owes j (inr q) = inr (none-left w c j d k y a h cl i q)

asks-counted : {sh : Shape} {gs : List Grant} (w : World) (d : ℕ) (s : DirState) (sends : Sends) → KeptMarks sh gs w → KeptCounted sh w
    → KeptTold sh (dir_asks w d s sends) → (s.serving.serving ≡ tid_at w d) × ((l : ℕ) → s.lines.mark l ≡ (w.dirs d).lines.mark l)
    → s.owed ≤ (w.dirs d).owed → KeptCounted sh (dir_asks w d s sends)
unfolding pair
asks-counted {sh} w d s sends a h z u o = pairs_asks (λ j e v. (t : ℕ) → j < sh.cores → CountedOf sh e t v) w d s sends
    (λ j t x. counted-answered TidReq s (sends (Core j)) (to_dir w j d)
    (Stays u.0 u.1 (λ b e q. let f = no-request b e in absurd (cc))) (λ q. omega arith)
    (λ l q. rw (no-request t l) (omega arith)) (λ l e. absurd (cc)) no-empty
    (λ dl. subst (λ v. 1 ≤ live (Resolves t) v.out → v.dir.serving.serving ≤ t) (asks-own w d s sends j)
    (told-ahead j d t z.tids x dl)) (inl u.0) (inl (λ q. omega arith)) (a j d t 0) (h j d t x)) h
  where
    new : World
    new = dir_asks w d s sends

waits-not : (q : Phase) → may_commit q ≡ true → awaits_replies q ≡ false
waits-not a e = grind nats

taken-back : {sh : Shape} {d t : ℕ} (k : ℕ) {v : Pair} → CountedOf sh d t v → CountedOf sh d t (back_taken v k)
unfolding marks_of
taken-back k h = record {
  counted = λ n dl x. record { each = (h.counted n dl x).each; sum = (h.counted n dl x).sum };
  settled = h.settled;
}

given-kept : {sh : Shape} {d t : ℕ} (k : ℕ) (g : Gift) {v : Pair} → CountedOf sh d t v → CountedOf sh d t (after_gift v k g)
unfolding marks_of
given-kept k g h = record {
  counted = λ n dl x. record { each = (h.counted n dl x).each; sum = (h.counted n dl x).sum };
  settled = h.settled;
}

passed : {sh : Shape} {d t : ℕ} (g : Gift) {v : Pair} → CountedOf sh d t v → CountedOf sh d t (after_other_gift v g)
unfolding marks_of
passed g h = record {
  counted = λ n dl x. record { each = (h.counted n dl x).each; sum = (h.counted n dl x).sum };
  settled = h.settled;
}

pub start-counted : {sh : Shape} (entries : ℕ → Local) (ram : ℕ → ℕ) → KeptCounted sh (start entries ram)
unfolding start dir_start pair live
start-counted entries ram c d t cl = record { counted = λ n dl x. absurd (omega arith); settled = λ l dl x. refl }

pub step-counted : {sh : Shape} (p : Program) {gs : List Grant} {w : World} {cs : List Noted} (e : Event) → Kept sh w
    → KeptOwners sh gs w cs → KeptCores sh w → KeptMarks sh gs w → KeptCounted sh w
    → IfSome (step sh p w e) (λ o. KeptTold sh o.world → KeptCounted sh o.world)
unfolding pair
step-counted {sh} p {gs} {w} e z y x a h = step_cases sh p w e (λ g o. KeptTold sh o.world → KeptCounted sh o.world)
    (λ c o eq l. moved c l o (λ d t l. got _ eq (marking-exec sh p c d t l (w.cores c)))
    (λ d t. got _ eq (counts-exec sh p c d t (w.cores c) (λ q. (x c).owing d (waits-not (w.cores c).phase q)))))
    (λ c r b o eq l. moved c l o (λ d t l. got _ eq (marking-evict sh r b d t l (w.cores c)))
    (λ d t. got _ eq (counts-evict sh r b d t (w.cores c)))) (λ c k u i n. pairs_grant P w c k (grant sh u (w.cores c))
    (λ d t cl. counted-granted d t k (grant sh u (w.cores c))
    (λ b l. (granting sh u d b l (w.cores c) (granted_waits (pair w c d) k i (z.told.tids.requests c d))).marks)
    (granted-free sh u d (w.cores c)) (h c d t cl)) h)
    (λ c d k m o eq i. taken c d k (core_of_back c d k z.told.tids i) o (λ b t l. got _ eq (marking-back sh d b t l (w.cores c) m))
    (λ b t. got _ eq (counts-back sh d b t (w.cores c) m)))
    (λ c d k m i. answered c d k i (core_of_out c d k z.told.tids i) (dir_deliver sh (w.dirs d) c m) (dir-marked sh (w.dirs d) c m)
    (dir-owes sh (w.dirs d) c m)
    (dir-due sh d (w.dirs d) c m (once_at c d k z.told i) (z.told.owed.at_home c d).marked (marks_home c d k z.told.owed i)
    (acks_owed c d k z.told.owed (core_of_out c d k z.told.tids i) i)))
    (λ c k a i n. pairs_vendor P w c k a (λ d t cl. given-kept k (gift a) (h c d t cl))
    (λ j d q t cl. passed (gift a) (h j d t cl)))
  where
    P : ℕ → ℕ → Pair → Type 0
    P c d v = (t : ℕ) → c < sh.cores → CountedOf sh d t v

    own : (c d t : ℕ) (o : Out) → c < sh.cores → ((d t l : ℕ) → Marking sh d t l (w.cores c) o) → CountsAll sh d t (w.cores c) o
        → CountedOf sh d t (after_move (pair w c d) o d)
    own c d t o cl u k = counted-moved gs c cl (u d) k (a c d t)
        (open-untold c d t z.told.tids cl) (open-unowed c d z.told.tids cl) (h c d t cl)

    moved : (c : ℕ) → c < sh.cores → (o : Out) → ((d t l : ℕ) → Marking sh d t l (w.cores c) o)
        → ((d t : ℕ) → CountsAll sh d t (w.cores c) o) → KeptTold sh (core_moves w c o) → KeptCounted sh (core_moves w c o)
    moved c cl o u k = λ n. pairs_move P w c o (λ d t l. own c d t o cl u (k d t)) h

    back : (c d k t : ℕ) (o : Out) → c < sh.cores → ((d t l : ℕ) → Marking sh d t l (w.cores c) o) → CountsAll sh d t (w.cores c) o
        → CountedOf sh d t (after_move (back_taken (pair w c d) k) o d)
    back c d k t o cl u q = counted-moved gs c cl (u d) q
        (λ l. back-marks w k (a c d t l)) (open-untold c d t z.told.tids cl)
        (open-unowed c d z.told.tids cl) (taken-back k (h c d t cl))

    taken : (c d k : ℕ) → c < sh.cores → (o : Out) → ((b t l : ℕ) → Marking sh b t l (w.cores c) o)
        → ((b t : ℕ) → CountsAll sh b t (w.cores c) o) → KeptTold sh (core_takes w (Dir d) c k o)
        → KeptCounted sh (core_takes w (Dir d) c k o)
    taken c d k cl o u f = λ n. pairs_back P w d c k o (λ t l. back c d k t o cl u (f d t)) (λ b r t l. own c b t o cl u (f b t)) h

    answered : (c d k : ℕ) {m : Msg} → FromCore w c d k m → c < sh.cores → (b : Answer) → MarkedBy (w.dirs d) m b → OwesBy sh (w.dirs d) m b
        → DueBy sh d (w.dirs d) (num (passes Acks m)) b → OfAnswer w c d k (λ v. KeptTold sh v → KeptCounted sh v) b
    answered c d k i cl Waits u o p = tt
    answered c d k i cl Drops u o p = λ n. dir-counted c k z.told y a h n cl i
        (Stays refl (λ l. refl) u) (still-due sh d (w.dirs d) (z.told.owed.at_home c d).marked) (inl (omega arith))
    answered c d k i cl (Asks s sends) u o p = λ n. asks-counted w d s sends a h n u o
    answered c d k i cl (Takes s sends) u o p = λ n. dir-counted c k z.told y a h n cl i u p o

-- Every event keeps that the Marks of a core's TID have the words that the core has modified as their masks, and are of different lines.

-- Every event keeps that the Marks of a core's TID have the words that the core has modified as their masks.

-- a Mark with another mask is a Mark
pub wrong-few : (t l q : ℕ) (v : Pair) → wrong_marks t l q v ≤ marks_of t l v
unfolding wrong_marks marks_of
wrong-few t l q v = grind (nats, live-masked)

-- a core moves
masks-moved : {sh : Shape} {gs : List Grant} {c : ℕ} (d t l : ℕ) {v : Pair} (o : Out) → Marking sh d t l v.core o
    → Masking sh d t l v.core o → c < sh.cores → d < sh.dirs → MarksOf sh gs c d t l v → MaskedOf t l v → MaskedOf t l (after_move v o d)
unfolding wrong_marks
masks-moved {sh} d t l {v} o y z cl dl m h = λ x. let k = y.kept x in
    omega (arith, live-sends, z.sent x, before k.0 (z.stays x))
  where
    q : ℕ
    q = modified_mask o.core.cache l

    before : has_tid v.core.phase t ≡ true → (marked_by sh v.core d l ≡ 0) ⊎ (q ≡ modified_mask v.core.cache l) → wrong_marks t l q v ≡ 0
    before a b = grind (nats, wrong-few)

-- a core that takes its grant has marked nothing yet
masks-granted : {sh : Shape} {gs : List Grant} {c : ℕ} (d t l k : ℕ) {u : ℕ} (v : Pair) {o : Out} → c < sh.cores → d < sh.dirs
    → Granting sh u d t l o → MarksOf sh gs c d t l (after_move (grant_taken v k) o d) → MaskedOf t l (after_move (grant_taken v k) o d)
masks-granted d t l k v {o} cl dl y m =
    λ x. omega (arith, wrong-few, m.held, (y.kept dl x).1)

-- a directory answers
wrong-one : (a b t q : ℕ) → (nat_lt 0 b && not (b == q)) ≡ true → 1 ≤ num (passes (MarkMask t a q) (Mark a b t))
unfolding passes
wrong-one a b t q n = grind nats

-- none with another mask before, so none after
pub wrong-falls : {s new : DirState} {m : Msg} (t l q : ℕ) {x : ℕ} (y : ℕ) → Marked s m new → y + num (passes (MarkMask t l q) m) ≡ x
    → (m ≡ Skip s.serving.serving → has_mark s.lines l ≡ false)
    → x + num (s.serving.serving == t && (has_mark s.lines l && not (s.lines.mark l == q))) ≡ 0
    → y + num (new.serving.serving == t && (has_mark new.lines l && not (new.lines.mark l == q))) ≡ 0
wrong-falls {m} t l q y h p k z =
    omega (
      arith,
      marks-grow (λ b. nat_lt 0 b && not (b == q)) t l (num (passes (MarkMask t l q) m)) refl h (λ e. rw (k e))
          (λ i e r. rw e (wrong-one l i t q r)),
    )

masks-answered : (t l : ℕ) (v : Pair) {m : Msg} {s : DirState} (ms : List Msg) (k : Link) → Marked v.dir m s
    → (has_tid v.core.phase t ≡ true
    → live (MarkMask t l (modified_mask v.core.cache l)) k + num (passes (MarkMask t l (modified_mask v.core.cache l)) m) ≡ live
    (MarkMask t l (modified_mask v.core.cache l)) v.out) → (m ≡ Skip v.dir.serving.serving → has_mark v.dir.lines l ≡ false)
    → MaskedOf t l v → MaskedOf t l (after_answer (record v { out = k }) s ms)
unfolding wrong_marks
masks-answered t l v ms k y eqn skip h = λ x. wrong-falls t l (modified_mask v.core.cache l)
    (live (MarkMask t l (modified_mask v.core.cache l)) k) y (eqn x) skip (h x)

-- a message from another core is no Mark of this core's TID
pub masked-there : {sh : Shape} {gs : List Grant} {w : World} {cs : List Noted} (c j d k t l q : ℕ) {m : Msg} → KeptOwners sh gs w cs
    → KeptMarks sh gs w → FromCore w c d k m → j ≢ c → Contains gs (grant_to t j)
    → live (MarkMask t l q) (to_dir w j d) + num (passes (MarkMask t l q) m) ≡ live (MarkMask t l q) (to_dir w j d)
masked-there c j d k t l q {m} y h i n g =
    let z : num (passes (MarkOf t l) m) ≡ 0 = omega (arith, only-there c j d k t l y h i n (inl g)) in
    omega (arith, passes-masked)

dir-masks : {sh : Shape} {gs : List Grant} {w : World} {cs : List Noted} (c d k : ℕ) {m : Msg} (s : DirState) (sends : Sends)
    → KeptTold sh w → KeptOwners sh gs w cs → KeptMarks sh gs w → KeptMasks sh w → FromCore w c d k m → Marked (w.dirs d) m s
    → KeptMasks sh (dir_takes w c d k s sends)
unfolding pair
dir-masks {sh} {w} c d k {m} s sends a y b h i u =
    λ j e t l x z. pairs_dir (λ j e v. (t l : ℕ) → j < sh.cores → e < sh.dirs → MaskedOf t l v) w c d k s sends
    (λ t l x z. masks-answered t l (pair w c d) (sends (Core c)) (set (to_dir w c d) k None) u
    (λ r. live-takes (MarkMask t l (modified_mask (w.cores c).cache l)) (to_dir w c d) k m i) (skip l) (h c d t l x z))
    (λ j n t l x z. masks-answered t l (pair w j d) (sends (Core j)) (to_dir w j d) u
    (λ r. masked-there c j d k t l (modified_mask (w.cores j).cache l) y b i n (has-granted j t y r)) (skip l) (h j d t l x z))
    h j e t l x z
  where
    skip : (l : ℕ) → m ≡ Skip (tid_at w d) → has_mark (w.dirs d).lines l ≡ false
    skip l = skip-unmarked c d k l a b i

-- the marks stay
masks-asked : (t l : ℕ) (v : Pair) (s : DirState) (ms : List Msg) → s.serving.serving ≡ v.dir.serving.serving
    → s.lines.mark l ≡ v.dir.lines.mark l → MaskedOf t l v → MaskedOf t l (after_answer v s ms)
unfolding wrong_marks
masks-asked t l v s ms e f h = λ x. rw (e, f) (h x)

-- every event
pub step-masks : {sh : Shape} (p : Program) {gs : List Grant} {w : World} {cs : List Noted} (e : Event) → Kept sh w → KeptOwners sh gs w cs
    → KeptMarks sh gs w → KeptMasks sh w → IfSome (step sh p w e) (λ o. KeptMasks sh o.world)
unfolding pair wrong_marks
step-masks {sh} p {gs} {w} e z y b h = step_cases sh p w e (λ g o. KeptMasks sh o.world)
    (λ c o eq x. moved c x o (λ d t l. got _ eq (marking-exec sh p c d t l (w.cores c)))
    (λ d t l. got _ eq (masking-exec sh p c d t l (w.cores c))))
    (λ c r q o eq x. moved c x o (λ d t l. got _ eq (marking-evict sh r q d t l (w.cores c)))
    (λ d t l. got _ eq (masking-evict sh r q d t l (w.cores c))))
    (λ c k u i. (pairs_grant P w c k (grant sh u (w.cores c)) (granted c k u i) h))
    (λ c d k m o eq i. taken c d k (core_of_back c d k z.told.tids i) o (λ e t l. got _ eq (marking-back sh d e t l (w.cores c) m))
    (λ e t l. got _ eq (masking-back sh d e t l (w.cores c) m)))
    (λ c d k m i. answered c d k i (dir_deliver sh (w.dirs d) c m) (dir-marked sh (w.dirs d) c m))
    (λ c k a i. pairs_vendor P w c k a (h c) (λ j d n t l x r. h j d t l x r))
  where
    P : ℕ → ℕ → Pair → Type 0
    P c d v = (t l : ℕ) → c < sh.cores → d < sh.dirs → MaskedOf t l v

    granted : (c k u : ℕ) → in_flight w.net Vendor (Core c) k ≡ Some (TidGrant u) → (d t l : ℕ) → c < sh.cores → d < sh.dirs
        → MaskedOf t l (after_move (grant_taken (pair w c d) k) (grant sh u (w.cores c)) d)
    granted c k u i d t l x r = masks-granted d t l k (pair w c d) x r (comes t)
        (marks-granted sh gs c d t l k u (pair w c d) (grant sh u (w.cores c)) i (grant-alone c u y x)
        (is-granted c u y (omega (arith, live-some (Grants u) (w.net Vendor (Core c)) k (TidGrant u) i, is_mine))) comes (λ t. b c d t l))
      where
        comes : (t : ℕ) → Granting sh u d t l (grant sh u (w.cores c))
        comes t = granting sh u d t l (w.cores c) (granted_waits (pair w c d) k i (z.told.tids.requests c d))

    own : (c : ℕ) {d t l : ℕ} {o : Out} → c < sh.cores → d < sh.dirs → Marking sh d t l (w.cores c) o → Masking sh d t l (w.cores c) o
        → MaskedOf t l (after_move (pair w c d) o d)
    own c {d} {t} {l} {o} x r a q = masks-moved d t l o a q x r (b c d t l) (h c d t l x r)

    moved : (c : ℕ) → c < sh.cores → (o : Out) → ((d t l : ℕ) → Marking sh d t l (w.cores c) o)
        → ((d t l : ℕ) → Masking sh d t l (w.cores c) o) → KeptMasks sh (core_moves w c o)
    moved c a o u q = pairs_move P w c o (λ d t l x r. own c x r (u d t l) (q d t l)) h

    taken : (c d k : ℕ) → c < sh.cores → (o : Out) → ((e t l : ℕ) → Marking sh e t l (w.cores c) o)
        → ((e t l : ℕ) → Masking sh e t l (w.cores c) o) → KeptMasks sh (core_takes w (Dir d) c k o)
    taken c d k a o u q = pairs_back P w d c k o (λ t l x r. own c x r (u d t l) (q d t l))
        (λ e n t l x r. own c x r (u e t l) (q e t l)) h

    answered : (c d k : ℕ) {m : Msg} → FromCore w c d k m → (a : Answer) → MarkedBy (w.dirs d) m a
        → OfAnswer w c d k (KeptMasks sh) a
    answered c d k i Waits u = tt
    answered c d k i Drops u = dir-masks c d k (w.dirs d) nothing z.told y b h i (Stays refl (λ l. refl) u)
    answered c d k i (Asks s sends) u =
        pairs_asks P w d s sends (λ j t l x r. masks-asked t l (pair w j d) s (sends (Core j)) u.0 (u.1 l) (h j d t l x r))
        h
    answered c d k i (Takes s sends) u = dir-masks c d k s sends z.told y b h i u

pub start-masks : (sh : Shape) (entries : ℕ → Local) (ram : ℕ → ℕ) → KeptMasks sh (start entries ram)
unfolding start core_start pair has_tid
start-masks sh entries ram c d t l x r = λ q. absurd (cc)

-- Every event keeps that the Marks of a TID at a directory are of different lines.

-- A core that sends a Mark has the TID, and no Mark of the line was sent before.
one-moved : {sh : Shape} {gs : List Grant} {c : ℕ} (d t l : ℕ) {v : Pair} (o : Out) → Marking sh d t l v.core o → c < sh.cores → d < sh.dirs
    → MarksOf sh gs c d t l v → marks_of t l v ≤ 1 → marks_of t l (after_move v o d) ≤ 1
unfolding marks_of
one-moved d t l {v} o y cl dl m h = elim (cases_lt 0 (among (MarkOf t l) (o.sends (Dir d)))) [
  | inl x ↦ omega (arith, live-sends, m.held cl dl (y.owned (omega (arith, (few t l (o.sends (Dir d))).2))))
  | inr x ↦ omega (arith, live-sends)
]

one-granted : (t l d k : ℕ) (v : Pair) (o : Out) → among (MarkOf t l) (o.sends (Dir d)) ≡ 0 → marks_of t l v ≤ 1
    → marks_of t l (after_move (grant_taken v k) o d) ≤ 1
unfolding marks_of
one-granted t l d k v o z h = omega (arith, live-sends)

-- A directory that takes m: a Mark still in flight from the core was the only one, so m is none of the line.
one-answered : (t l : ℕ) (v : Pair) {m : Msg} {s : DirState} (ms : List Msg) (k : Link) → Marked v.dir m s
    → live (MarkOf t l) k ≤ live (MarkOf t l) v.out
    → (1 ≤ live (MarkOf t l) v.out → live (MarkOf t l) k + num (passes (MarkOf t l) m) ≡ live (MarkOf t l) v.out)
    → (m ≡ Skip v.dir.serving.serving → has_mark v.dir.lines l ≡ false) → marks_of t l v ≤ 1
    → marks_of t l (after_answer (record v { out = k }) s ms) ≤ 1
unfolding marks_of
one-answered t l v {s} ms k y less eqn skip h = elim (cases_lt 0 (live (MarkOf t l) k)) [
  | inr x ↦ omega (arith, num-most)
  | inl x ↦ let e = eqn (omega arith) in
      omega (arith, falls t l 0 0 y (omega arith) skip (omega arith))
]

dir-one : {sh : Shape} {gs : List Grant} {w : World} {cs : List Noted} (c d k : ℕ) {m : Msg} (s : DirState) (sends : Sends) → KeptTold sh w
    → KeptOwners sh gs w cs → KeptMarks sh gs w → OneMark sh w → FromCore w c d k m → Marked (w.dirs d) m s
    → OneMark sh (dir_takes w c d k s sends)
unfolding pair
dir-one {sh} {gs} {w} c d k {m} s sends a y b h i u =
    λ j e t l x z. pairs_dir (λ j e v. (t l : ℕ) → j < sh.cores → e < sh.dirs → marks_of t l v ≤ 1) w c d k s sends
    (λ t l x z. one-answered t l (pair w c d) (sends (Core c)) (set (to_dir w c d) k None) u
    (taken-less k (MarkOf t l) (to_dir w c d) i) (λ r. live-takes (MarkOf t l) (to_dir w c d) k m i) (skip l) (h c d t l x z))
    (λ j n t l x z. one-answered t l (pair w j d) (sends (Core j)) (to_dir w j d) u (omega arith)
    (λ r. only-there c j d k t l y b i n (inl (owner j t l r))) (skip l) (h j d t l x z)) h j e t l x z
  where
    skip : (l : ℕ) → m ≡ Skip (tid_at w d) → has_mark (w.dirs d).lines l ≡ false
    skip l = skip-unmarked c d k l a b i

    owner : (j t l : ℕ) → 1 ≤ live (MarkOf t l) (to_dir w j d) → Contains gs (grant_to t j)
    owner j t l r = (b j d t l).owner (omega (arith, (kinds t l (to_dir w j d)).0))

one-asked : (t l : ℕ) (v : Pair) (s : DirState) (ms : List Msg) → s.serving.serving ≡ v.dir.serving.serving
    → s.lines.mark l ≡ v.dir.lines.mark l → marks_of t l v ≤ 1 → marks_of t l (after_answer v s ms) ≤ 1
unfolding marks_of
one-asked t l v s ms e f h = rw (e, f) h

-- every event
pub step-one-mark : {sh : Shape} (p : Program) {gs : List Grant} {w : World} {cs : List Noted} (e : Event) → Kept sh w
    → KeptOwners sh gs w cs → KeptMarks sh gs w → OneMark sh w → IfSome (step sh p w e) (λ o. OneMark sh o.world)
unfolding pair marks_of
step-one-mark {sh} p {w} e z y b h = step_cases sh p w e (λ g o. OneMark sh o.world)
    (λ c o eq x. moved c x o (λ d t l. got _ eq (marking-exec sh p c d t l (w.cores c))))
    (λ c r q o eq x. moved c x o (λ d t l. got _ eq (marking-evict sh r q d t l (w.cores c))))
    (λ c k u i. pairs_grant P w c k (grant sh u (w.cores c)) (λ d t l x r. one-granted t l d k (pair w c d) (grant sh u (w.cores c))
    (granting sh u d t l (w.cores c) (granted_waits (pair w c d) k i (z.told.tids.requests c d))).marks (h c d t l x r))
    h) (λ c d k m o eq i. taken c d k (core_of_back c d k z.told.tids i) o (λ e t l. got _ eq (marking-back sh d e t l (w.cores c) m)))
    (λ c d k m i. answered c d k i (dir_deliver sh (w.dirs d) c m) (dir-marked sh (w.dirs d) c m))
    (λ c k a i. pairs_vendor P w c k a (h c) (λ j d n t l x r. h j d t l x r))
  where
    P : ℕ → ℕ → Pair → Type 0
    P c d v = (t l : ℕ) → c < sh.cores → d < sh.dirs → marks_of t l v ≤ 1

    own : (c : ℕ) {d t l : ℕ} {o : Out} → c < sh.cores → d < sh.dirs → Marking sh d t l (w.cores c) o
        → marks_of t l (after_move (pair w c d) o d) ≤ 1
    own c {d} {t} {l} {o} x r a = one-moved d t l o a x r (b c d t l) (h c d t l x r)

    moved : (c : ℕ) → c < sh.cores → (o : Out) → ((d t l : ℕ) → Marking sh d t l (w.cores c) o) → OneMark sh (core_moves w c o)
    moved c a o u = pairs_move P w c o (λ d t l x r. own c x r (u d t l)) h

    taken : (c d k : ℕ) → c < sh.cores → (o : Out) → ((e t l : ℕ) → Marking sh e t l (w.cores c) o)
        → OneMark sh (core_takes w (Dir d) c k o)
    taken c d k a o u = pairs_back P w d c k o (λ t l x r. own c x r (u d t l)) (λ e n t l x r. own c x r (u e t l))
        h

    answered : (c d k : ℕ) {m : Msg} → FromCore w c d k m → (a : Answer) → MarkedBy (w.dirs d) m a → OfAnswer w c d k (OneMark sh) a
    answered c d k i Waits u = tt
    answered c d k i Drops u = dir-one c d k (w.dirs d) nothing z.told y b h i (Stays refl (λ l. refl) u)
    answered c d k i (Asks s sends) u =
        pairs_asks P w d s sends (λ j t l x r. one-asked t l (pair w j d) s (sends (Core j)) u.0 (u.1 l) (h j d t l x r))
        h
    answered c d k i (Takes s sends) u = dir-one c d k s sends z.told y b h i u

pub start-one-mark : (sh : Shape) (entries : ℕ → Local) (ram : ℕ → ℕ) → OneMark sh (start entries ram)
unfolding start dir_start no_lines pair live marks_of
start-one-mark sh entries ram c d t l x r = omega (arith, num-most)
