-- Every event keeps that a TID that commits has marked what its commit stored, also while acknowledgements of it are owed.
use Rattle.theorem_serial.proofs
use proofs.Names
use Names.{got, num-most, slice_index_or, if◌then◌else◌, modified_mask, insert_commit, SettledCommit, Contains}
use Names.{after_answer, MarkedCommit, wrong_marks, grant_taken, stored_mask, count_below, dir_deliver, EmptyMarks, KeptCounted}
use Names.{after_move, MarkedWith, core_moves, core_takes, KeptOwners, false, back_taken, KeptStored, writes_at, and_noted}
use Names.{AnyCommit, dir_start, [], dir_takes, KeptMarks, KeptMasks, KeptCores, cases_lt, has_mark, DirState, sent_all, Resolves, MarkMask}
use Names.{marks_of, MaskedOf, StoredOf, dir_asks, CommitOf, KeptTold, Commits, MarksOf, arith, Program, Option, length, nat_lt, MarkOf}
use Names.{passes, IfSome, TidReq, Commit, Answer, Noted, Shape, among, ℕ, Grant, opens, subst, Local, Event, lines, World, start, Sends}
use Names.{grant, Waits, Drops, Takes, zero, Bool, true, List, ◌++◌, Some, None, refl, Skip, Link, Kind, live, Pair, Core, Asks, step, Acks}
use Names.{pair, Kept, skip, suc, ◌+◌, ◌≡◌, ◌<◌, ◌≤◌, ◌∷◌, ◌∙◌, ◌⊎◌, inl, inr, num, Dir, Msg, Out, set, sym, ap, nats, tid_at, to_dir}
use Names.{FromCore, grant_to}
use proofs.Counts.{live-sends, live-takes, dir-own, dir-other, asks-own, pairs_move, pairs_grant, pairs_back, pairs_dir, pairs_asks}
use proofs.Counts.{pairs_vendor, OfAnswer, step_cases}
use proofs.Marks.CommitMasks.{Storing, StoresAll, storing-exec, storing-evict, storing-back, few-masked, passes-masked}
use proofs.Serving.{granted-free, few-of, ofs-resolve, Due, DueBy, dir-due, still-due, core_of_back, core_of_out, once_at, marks_home}
use proofs.Serving.{acks_owed}
use proofs.Marks.CoreMarking.{Marking, marking-exec, marking-evict, marking-back, granting}
use proofs.Marks.CountsKept.{none-sent, marks-stay, told-ahead, is-commit, none-away, wrong-few, wrong-falls, masked-there}
use proofs.Marks.DirRecords.{Marked, Stays, MarkedBy, dir-marked, CountsMarked, OwesBy, dir-owes}
use proofs.Marks.MarksKept.{open-untold, taken-less, empty-one, skip-unmarked, only-there, no-request, no-empty, taken-back as back-marks}
use proofs.Marks.NamedKept.{marks-same}
use proofs.Tids.{granted_waits, live-some}
use proofs.Counts.{gift, after_gift, after_other_gift}

-- How each kind of event keeps, between a core and a directory, that a Commit in flight is of a commit that stored what was marked.

-- a further commit in the list
insert-has : (n : Noted) (cs : List Noted) → Contains (insert_commit n cs) n
unfolding insert_commit
insert-has n [] = (0, omega arith, refl)
insert-has n (c ∷ cs) = go (nat_lt n.tid.0 c.tid.0) (insert-has n cs)
  where
    go : (b : Bool) → Contains (insert_commit n cs) n → Contains (if b then n ∷ c ∷ cs else c ∷ insert_commit n cs) n
    go true r = (0, omega arith, refl)
    go false r = (suc r.0, omega arith, r.2)

insert-keeps : (n : Noted) (cs : List Noted) (x : Noted) → Contains cs x → Contains (insert_commit n cs) x
unfolding insert_commit
insert-keeps n [] x h = absurd (omega arith)
insert-keeps n (c ∷ cs) x h = go (nat_lt n.tid.0 c.tid.0) h.0 h.1 h.2 (insert-keeps n cs x)
  where
    go : (b : Bool) (k : ℕ) → k < suc (length cs) → slice_index_or (c ∷ cs) k x ≡ x → (Contains cs x → Contains (insert_commit n cs) x)
        → Contains (if b then n ∷ c ∷ cs else c ∷ insert_commit n cs) x
    go true k l e f = (suc k, omega arith, e)
    go false zero l e f = (0, omega arith, e)
    go false (suc k) l e f = let r = f (k, omega arith, e) in (suc r.0, omega arith, r.2)

pub noted-keeps : (n : Option Noted) (cs : List Noted) (x : Noted) → Contains cs x → Contains (and_noted n cs) x
noted-keeps None cs x h = h
noted-keeps (Some n) cs x h = insert-keeps n cs x h

pub noted-has : {n : Option Noted} (cs : List Noted) {x : Noted} → n ≡ Some x → Contains (and_noted n cs) x
noted-has cs {x} e = rw e (insert-has x cs)

stored-more : {sh : Shape} {cs : List Noted} (n : Option Noted) {c d t : ℕ} {v : Pair} → StoredOf sh cs c d t v
    → StoredOf sh (and_noted n cs) c d t v
stored-more {cs} n h = record {
  sent = λ cl dl x. let k = h.sent cl dl x in
      record {
        commit = k.commit;
        noted = noted-keeps n cs k.commit k.noted;
        tid = k.tid;
        core = k.core;
        stored = k.stored;
        marks = k.marks;
      };
  settled = λ dl x. let k = h.settled dl x in
      record { commit = k.commit; noted = noted-keeps n cs k.commit k.noted; tid = k.tid; stored = k.stored; marks = k.marks };
}

-- a core moves

-- it sends no Mark of the line by this TID
with-none : (t l : ℕ) {q : ℕ} (d : ℕ) (v : Pair) (o : Out) → among (MarkOf t l) (o.sends (Dir d)) ≡ 0 → MarkedWith t l q v
    → MarkedWith t l q (after_move v o d)
unfolding wrong_marks
with-none t l {q} d v o z h = record {
  one = none-sent t l d v o z ∙ h.one;
  right = omega (arith, live-sends, few-masked);
}

-- it commits what it has marked, and marks
with-all : (t l q d : ℕ) {b : ℕ} (v : Pair) (o : Out) → marks_of t l v ≡ b → among (MarkOf t l) (o.sends (Dir d)) + b ≡ num (nat_lt 0 q)
    → among (MarkMask t l q) (o.sends (Dir d)) ≡ 0 → (b ≡ 0) ⊎ (q ≡ modified_mask v.core.cache l)
    → wrong_marks t l (modified_mask v.core.cache l) v ≡ 0 → MarkedWith t l q (after_move v o d)
unfolding marks_of wrong_marks
with-all t l q d {b} v o e m r k h = record {
  one = omega (arith, live-sends);
  right = omega (arith, before, live-sends);
}
  where
    before : (b ≡ 0) ⊎ (q ≡ modified_mask v.core.cache l) → wrong_marks t l q v ≡ 0
    before a = grind (nats, wrong-few)

stored-moved : {sh : Shape} (gs : List Grant) {cs : List Noted} {c d t : ℕ} {v : Pair} {o : Out} → c < sh.cores
    → ((l : ℕ) → Marking sh d t l v.core o) → StoresAll sh c d t v.core o → ((l : ℕ) → MarksOf sh gs c d t l v)
    → (d < sh.dirs → (l : ℕ) → MaskedOf t l v)
    → (d < sh.dirs → opens v.core.phase (writes_at sh v.core.cache d) t ≡ true → live (Resolves t) v.out ≡ 0) → StoredOf sh cs c d t v
    → StoredOf sh (and_noted o.commit cs) c d t (after_move v o d)
stored-moved {sh} gs {cs} {c} {d} {t} {v} {o} cl y s m q free h =
    record { sent = λ cl dl x. sent dl x (cases_lt 0 (live (Commits t) v.out)); settled = (stored-more o.commit h).settled }
  where
    told : (l : ℕ) → d < sh.dirs → 1 ≤ live (Commits t) v.out → (0 < among (MarkOf t l) (o.sends (Dir d)))
        ⊎ (among (MarkOf t l) (o.sends (Dir d)) ≤ 0) → among (MarkOf t l) (o.sends (Dir d)) ≡ 0
    told l dl x a = grind (nats, ofs-resolve)

    new : d < sh.dirs → Storing sh c d t v.core o → MarkedCommit sh (and_noted o.commit cs) c d t (after_move v o d)
    new dl k = record {
      commit = k.commit;
      noted = noted-has cs k.noted;
      tid = k.tid;
      core = k.core;
      stored = k.stored;
      marks = λ l. with-all t l (stored_mask sh d k.commit.stores l) d v o ((m l).held cl dl k.held) (k.marks l)
          (k.right l) (k.before l) (q dl l k.held);
    }

    sent : d < sh.dirs → 1 ≤ live (Commits t) (v.out ++ sent_all (o.sends (Dir d)))
        → (0 < live (Commits t) v.out) ⊎ (live (Commits t) v.out ≤ 0) → MarkedCommit sh (and_noted o.commit cs) c d t (after_move v o d)
    sent dl x (inr z) = new dl (s (omega (arith, live-sends)))
    sent dl x (inl z) = let k = h.sent cl dl (omega arith) in record {
      commit = k.commit;
      noted = noted-keeps o.commit cs k.commit k.noted;
      tid = k.tid;
      core = k.core;
      stored = k.stored;
      marks = λ l. with-none t l d v o (told l dl (omega arith) (cases_lt 0 (among (MarkOf t l) (o.sends (Dir d))))) (k.marks l);
    }

-- a core takes a grant: it sends neither Marks nor Commits
stored-granted : {sh : Shape} {cs : List Noted} (c d t k : ℕ) {v : Pair} (o : Out)
    → ((l : ℕ) → among (MarkOf t l) (o.sends (Dir d)) ≡ 0) → among AnyCommit (o.sends (Dir d)) ≡ 0 → StoredOf sh cs c d t v
    → StoredOf sh (and_noted o.commit cs) c d t (after_move (grant_taken v k) o d)
unfolding marks_of wrong_marks
stored-granted {sh} {cs} c d t k {v} o f z h = record {
  sent = λ cl dl x. let k = h'.sent cl dl (omega (arith, few-of, live-sends))
      in record {
        commit = k.commit;
        noted = k.noted;
        tid = k.tid;
        core = k.core;
        stored = k.stored;
        marks = λ l. record {
          one = omega (arith, (k.marks l).one, f, live-sends);
          right =
              omega (arith, (k.marks l).right, f, few-masked, live-sends);
        };
      };
  settled = h'.settled;
}
  where
    h' : StoredOf sh (and_noted o.commit cs) c d t v
    h' = stored-more o.commit h

-- a directory answers
stored-answered : {sh : Shape} {gs : List Grant} {cs : List Noted} {j d t : ℕ} {v : Pair} (m : Msg) (s : DirState) (ms : List Msg)
    (k : Link) → Marked v.dir m s → ((x : Kind) → live x k ≤ live x v.out)
    → ((l : ℕ) → Contains gs (grant_to t j) → live (MarkOf t l) k + num (passes (MarkOf t l) m) ≡ live (MarkOf t l) v.out)
    → ((l q : ℕ) → Contains gs (grant_to t j) → live (MarkMask t l q) k + num (passes (MarkMask t l q) m) ≡ live (MarkMask t l q) v.out)
    → ((l : ℕ) → m ≡ Skip v.dir.serving.serving → has_mark v.dir.lines l ≡ false) → passes EmptyMarks m ≡ false
    → (j < sh.cores → d < sh.dirs → 1 ≤ live (Resolves t) k → s.serving.serving ≤ t) → (d < sh.dirs → 1 ≤ s.owed → SettledCommit sh cs d s)
    → MarksOf sh gs j d t 0 v → StoredOf sh cs j d t v → StoredOf sh cs j d t (after_answer (record v { out = k }) s ms)
unfolding wrong_marks
stored-answered {sh} {gs} {cs} {j} {d} {t} {v} m s ms k y less ones wrongs skip nonempty ahead settles g h =
    record { sent = sent; settled = settles }
  where
    sent : j < sh.cores → d < sh.dirs → 1 ≤ live (Commits t) k → MarkedCommit sh cs j d t (after_answer (record v { out = k }) s ms)
    sent jl dl x =
        let a : 1 ≤ live (Resolves t) k = omega (arith, ofs-resolve) in
        let b : Contains gs (grant_to t j) = g.owner (omega (arith, less)) in
        let n = h.sent jl dl (omega (arith, less)) in
        record {
          commit = n.commit;
          noted = n.noted;
          tid = n.tid;
          core = n.core;
          stored = n.stored;
          marks = λ l. stays l a b jl dl (n.marks l);
        }
      where
        stays : (l : ℕ) {q : ℕ} → 1 ≤ live (Resolves t) k → Contains gs (grant_to t j) → j < sh.cores → d < sh.dirs → MarkedWith t l q v
            → MarkedWith t l q (after_answer (record v { out = k }) s ms)
        stays l {q} a b jl dl w = record {
          one = marks-stay sh d t l v ms k y (ones l b) (skip l) nonempty (ahead jl dl a) (omega (arith, num-most))
              ∙ w.one;
          right = wrong-falls t l q (live (MarkMask t l q) k) y (wrongs l q b) (skip l) w.right;
        }

-- where a directory takes the Commit, and none of its Marks is in flight, the marks are the words that it stored
pub taken-marks : (l : ℕ) {q : ℕ} (v : Pair) → live (MarkOf v.dir.serving.serving l) v.out ≡ 0 → MarkedWith v.dir.serving.serving l q v
    → v.dir.lines.mark l ≡ q
unfolding marks_of wrong_marks
taken-marks l v z h = grind nats

pub one-commit : (u n : ℕ) (m : Msg) → num (passes (CommitOf u n) m) ≤ num (passes (Commits u) m)
unfolding passes
one-commit u n m = grind nats

-- a directory that takes a Commit has as its marks what the commit stored
pub taken-stored : {sh : Shape} (w : World) {cs : List Noted} (c : ℕ) {d : ℕ} (k : ℕ) {m : Msg} → KeptCounted sh w → KeptStored sh cs w
    → c < sh.cores → d < sh.dirs → FromCore w c d k m → CountsMarked sh (w.dirs d) m → SettledCommit sh cs d (w.dirs d)
unfolding pair
taken-stored {sh} w {cs} c {d} k g h cl dl i q =
    record {
      commit = x.commit;
      noted = x.noted;
      tid = x.tid;
      stored = x.stored;
      marks = λ l. taken-marks l (pair w c d) (none-away sh l (pair w c d) ((g c d u cl).counted n dl sent)) (x.marks l);
    }
  where
    u : ℕ
    u = tid_at w d

    n : ℕ
    n = count_below (has_mark (w.dirs d).lines) (lines sh)

    j : (FromCore w c d k (Commit u n))
    j = i ∙ ap (λ x. Some x) q

    sent : 1 ≤ live (CommitOf u n) (to_dir w c d)
    sent = omega (arith, live-some (CommitOf u n) (to_dir w c d) k (Commit u n) j, is-commit)

    x : MarkedCommit sh cs c d u (pair w c d)
    x =
        (h c d u).sent cl dl (omega (
          arith,
          live-some (Commits u) (to_dir w c d) k (Commit u n) j,
          is-commit u n,
          one-commit u n (Commit u n),
        ))

dir-stored : {sh : Shape} {gs : List Grant} {w : World} {cs : List Noted} (c : ℕ) {d : ℕ}
    (k : ℕ) {ack : ℕ} {m : Msg} {s : DirState} {sends : Sends} → KeptTold sh w → KeptOwners sh gs w cs → KeptMarks sh gs w
    → KeptCounted sh w → KeptStored sh cs w → KeptTold sh (dir_takes w c d k s sends) → c < sh.cores → FromCore w c d k m
    → Marked (w.dirs d) m s → Due sh d (w.dirs d) ack s sends → (s.owed ≤ (w.dirs d).owed) ⊎ CountsMarked sh (w.dirs d) m
    → KeptStored sh cs (dir_takes w c d k s sends)
unfolding pair
dir-stored {sh} {w} {cs} c {d} k {m} {s} {sends} b y a g h z cl i u p o = pairs_dir
    (λ j e v. (t : ℕ) → StoredOf sh cs j e t v) w c d k s sends (λ t. stored-answered m s (sends (Core c)) (set (to_dir w c d) k None) u
    (λ x. taken-less k x (to_dir w c d) i) (λ l x. live-takes (MarkOf t l) (to_dir w c d) k m i)
    (λ l q x. live-takes (MarkMask t l q) (to_dir w c d) k m i) skip nonempty
    (λ jl dl. subst (λ v. 1 ≤ live (Resolves t) v.out → v.dir.serving.serving ≤ t) (dir-own w c d k s sends)
    (told-ahead c d t z.tids jl dl)) settles (a c d t 0) (h c d t))
    (λ j n t. stored-answered m s (sends (Core j)) (to_dir w j d) u (λ x. omega arith)
    (λ l x. only-there c j d k t l y a i n (inl x)) (λ l q x. masked-there c j d k t l q y a i n x) skip nonempty
    (λ jl dl. subst (λ v. 1 ≤ live (Resolves t) v.out → v.dir.serving.serving ≤ t) (dir-other w c d k s sends j n)
    (told-ahead j d t z.tids jl dl)) settles (a j d t 0) (h j d t)) h
  where
    new : World
    new = dir_takes w c d k s sends

    skip : (l : ℕ) → m ≡ Skip (tid_at w d) → has_mark (w.dirs d).lines l ≡ false
    skip l = skip-unmarked c d k l b a i

    nonempty : passes EmptyMarks m ≡ false
    nonempty = empty-one (to_dir w c d) k i (a c d 0 0).words

    -- what the directory serves is settled already, or by this message
    before : d < sh.dirs → 1 ≤ s.owed → (s.owed ≤ (w.dirs d).owed) ⊎ CountsMarked sh (w.dirs d) m → SettledCommit sh cs d (w.dirs d)
    before dl x (inl q) = (h c d 0).settled dl (omega arith)
    before dl x (inr q) = taken-stored w c k g h cl dl i q

    serves : {B : Type 0} → 1 ≤ s.owed → ((s.serving.serving ≡ tid_at w d) × B) ⊎ (s.owed ≡ 0) → s.serving.serving ≡ (tid_at w d)
    serves x a = grind nats

    settles : d < sh.dirs → 1 ≤ s.owed → SettledCommit sh cs d s
    settles dl x = let n = before dl x o in let e = serves x p.served in record {
      commit = n.commit;
      noted = n.noted;
      tid = n.tid ∙ sym e;
      stored = n.stored;
      marks = λ l. marks-same w c d k g cl dl i x e o u l ∙ n.marks l;
    }

asks-stored : {sh : Shape} {gs : List Grant} (w : World) {cs : List Noted} (d : ℕ) (s : DirState) (sends : Sends) → KeptMarks sh gs w
    → KeptStored sh cs w → KeptTold sh (dir_asks w d s sends)
    → (s.serving.serving ≡ tid_at w d) × ((l : ℕ) → s.lines.mark l ≡ (w.dirs d).lines.mark l) → s.owed ≤ (w.dirs d).owed
    → KeptStored sh cs (dir_asks w d s sends)
unfolding pair
asks-stored {sh} w {cs} d s sends a h z u o = pairs_asks (λ j e v. (t : ℕ) → StoredOf sh cs j e t v) w d s sends
    (λ j t. stored-answered TidReq s (sends (Core j)) (to_dir w j d)
    (Stays u.0 u.1 (λ b e q. let f = no-request b e in absurd (cc))) (λ q. omega arith) (λ l x. none t l)
    (λ l q x. omega (arith, passes-masked t l q TidReq (ap num (no-request t l)))) (λ l e. absurd (cc)) no-empty
    (λ jl dl. subst (λ v. 1 ≤ live (Resolves t) v.out → v.dir.serving.serving ≤ t) (asks-own w d s sends j)
    (told-ahead j d t z.tids jl dl)) settles (a j d t 0) (h j d t)) h
  where
    none : {x : ℕ} (t l : ℕ) → x + num (passes (MarkOf t l) TidReq) ≡ x
    none t l = rw (no-request t l) (omega arith)

    settles : d < sh.dirs → 1 ≤ s.owed → SettledCommit sh cs d s
    settles dl x = let n = (h 0 d 0).settled dl (omega arith) in
        record { commit = n.commit; noted = n.noted; tid = n.tid ∙ sym u.0; stored = n.stored; marks = λ l. u.1 l ∙ n.marks l }

-- another pair in which the Marks, the Commits and the directory are the same
same-stored : {sh : Shape} {cs : List Noted} {c d t : ℕ} {v : Pair} (w : Pair) → w.out ≡ v.out → w.dir ≡ v.dir → StoredOf sh cs c d t v
    → StoredOf sh cs c d t w
unfolding marks_of wrong_marks
same-stored w e f h = record {
  sent = λ cl dl x. let k = h.sent cl dl (rw e at x) in
      record {
        commit = k.commit;
        noted = k.noted;
        tid = k.tid;
        core = k.core;
        stored = k.stored;
        marks = λ l. record { one = rw (e, f) (k.marks l).one; right = rw (e, f) (k.marks l).right };
      };
  settled = λ dl x. rw f (h.settled dl (rw f at x));
}

same-masked : (t l : ℕ) (v w : Pair) → w.core ≡ v.core → w.out ≡ v.out → w.dir ≡ v.dir → MaskedOf t l v → MaskedOf t l w
unfolding wrong_marks
same-masked t l v w c e f h = λ x. rw (c, e, f) (h (rw c at x))

pub step-stored : {sh : Shape} (p : Program) {gs : List Grant} {w : World} {cs : List Noted} (e : Event) → Kept sh w → KeptOwners sh gs w cs
    → KeptCores sh w → KeptMarks sh gs w → KeptCounted sh w → KeptMasks sh w → KeptStored sh cs w
    → IfSome (step sh p w e) (λ o. KeptTold sh o.world → KeptStored sh (and_noted o.noted cs) o.world)
unfolding pair
step-stored {sh} p {gs} {w} {cs} e z y x a g q h = step_cases sh p w e
    (λ r o. KeptTold sh o.world → KeptStored sh (and_noted o.noted cs) o.world)
    (λ c o eq l. moved c l o (λ d t l. got _ eq (marking-exec sh p c d t l (w.cores c)))
    (λ d t. got _ eq (storing-exec p c d t (x c))))
    (λ c r b o eq l. moved c l o (λ d t l. got _ eq (marking-evict sh r b d t l (w.cores c)))
    (λ d t. got _ eq (storing-evict sh r b c d t (w.cores c))))
    (λ c k u i n. pairs_grant (P (grant sh u (w.cores c)).commit) w c k (grant sh u (w.cores c))
    (λ d t. stored-granted c d t k (grant sh u (w.cores c))
    (λ l. (granting sh u d t l (w.cores c) (granted_waits (pair w c d) k i (z.told.tids.requests c d))).marks)
    (granted-free sh u d (w.cores c)) (h c d t)) (more (grant sh u (w.cores c)).commit))
    (λ c d k m o eq i. taken c d k (core_of_back c d k z.told.tids i) o (λ b t l. got _ eq (marking-back sh d b t l (w.cores c) m))
    (λ b t. got _ eq (storing-back sh d c b t (w.cores c) m)))
    (λ c d k m i. answered c d k i (core_of_out c d k z.told.tids i) (dir_deliver sh (w.dirs d) c m) (dir-marked sh (w.dirs d) c m)
    (dir-owes sh (w.dirs d) c m)
    (dir-due sh d (w.dirs d) c m (once_at c d k z.told i) (z.told.owed.at_home c d).marked (marks_home c d k z.told.owed i)
    (acks_owed c d k z.told.owed (core_of_out c d k z.told.tids i) i)))
    (λ c k a i n. pairs_vendor (P None) w c k a (λ d t. same-stored (after_gift (pair w c d) k (gift a)) refl refl (h c d t))
    (λ j d r t. same-stored (after_other_gift (pair w j d) (gift a)) refl refl (h j d t)))
  where
    P : Option Noted → ℕ → ℕ → Pair → Type 0
    P n c d v = (t : ℕ) → StoredOf sh (and_noted n cs) c d t v

    more : (n : Option Noted) → KeptStored sh (and_noted n cs) w
    more n c d t = stored-more n (h c d t)

    own : {c d t : ℕ} {o : Out} → c < sh.cores → ((d t l : ℕ) → Marking sh d t l (w.cores c) o) → StoresAll sh c d t (w.cores c) o
        → StoredOf sh (and_noted o.commit cs) c d t (after_move (pair w c d) o d)
    own {c} {d} {t} cl u k = stored-moved gs cl (u d t) k (a c d t) (λ dl l. q c d t l cl dl)
        (open-untold c d t z.told.tids cl) (h c d t)

    moved : (c : ℕ) → c < sh.cores → (o : Out) → ((d t l : ℕ) → Marking sh d t l (w.cores c) o)
        → ((d t : ℕ) → StoresAll sh c d t (w.cores c) o) → KeptTold sh (core_moves w c o)
        → KeptStored sh (and_noted o.commit cs) (core_moves w c o)
    moved c cl o u k = λ n. pairs_move (P o.commit) w c o (λ d t. own cl u (k d t)) (more o.commit)

    back : (c d k t : ℕ) (o : Out) → c < sh.cores → ((d t l : ℕ) → Marking sh d t l (w.cores c) o) → StoresAll sh c d t (w.cores c) o
        → StoredOf sh (and_noted o.commit cs) c d t (after_move (back_taken (pair w c d) k) o d)
    back c d k t o cl u r = stored-moved gs cl (u d t) r (λ l. back-marks w k (a c d t l))
        (λ dl l. same-masked t l (pair w c d) (back_taken (pair w c d) k) refl refl refl (q c d t l cl dl))
        (open-untold c d t z.told.tids cl) (same-stored (back_taken (pair w c d) k) refl refl (h c d t))

    taken : (c d k : ℕ) → c < sh.cores → (o : Out) → ((b t l : ℕ) → Marking sh b t l (w.cores c) o)
        → ((b t : ℕ) → StoresAll sh c b t (w.cores c) o) → KeptTold sh (core_takes w (Dir d) c k o)
        → KeptStored sh (and_noted o.commit cs) (core_takes w (Dir d) c k o)
    taken c d k cl o u f = λ n. pairs_back (P o.commit) w d c k o (λ t. back c d k t o cl u (f d t))
        (λ b r t. own cl u (f b t)) (more o.commit)

    answered : (c d k : ℕ) {m : Msg} → FromCore w c d k m → c < sh.cores → (b : Answer) → MarkedBy (w.dirs d) m b → OwesBy sh (w.dirs d) m b
        → DueBy sh d (w.dirs d) (num (passes Acks m)) b → OfAnswer w c d k (λ v. KeptTold sh v → KeptStored sh cs v) b
    answered c d k i cl Waits u o p = tt
    answered c d k i cl Drops u o p = λ n. dir-stored c k z.told y a g h n cl i
        (Stays refl (λ l. refl) u) (still-due sh d (w.dirs d) (z.told.owed.at_home c d).marked) (inl (omega arith))
    answered c d k i cl (Asks s sends) u o p = λ n. asks-stored w d s sends a h n u o
    answered c d k i cl (Takes s sends) u o p = λ n. dir-stored c k z.told y a g h n cl i u p o

pub start-stored : (sh : Shape) (entries : ℕ → Local) (ram : ℕ → ℕ) → KeptStored sh [] (start entries ram)
unfolding start dir_start pair live
start-stored sh entries ram c d t = record { sent = λ cl dl x. absurd (omega arith); settled = λ dl x. absurd (omega arith) }
