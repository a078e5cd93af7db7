-- Every event keeps that a core notes of each directory the greatest TID of its commits that stored there.
use Rattle.theorem_serial.proofs
use proofs.Names
use Names.{got, nothing, ℕ, ◌≡◌, ◌⊎◌, Bool, true, false, [], ◌∷◌, ◌==◌, Option, Some, None, IfSome, if◌then◌else◌, arith, refl, inl, inr}
use Names.{Noted, Program, word_of, num, line_of, Dir, Msg, LoadReq, Shape, home, CoreState, Awaited, Ready, Out, moves, commit, noted}
use Names.{with_last_commit, committed_core, solo_commit, core_exec, core_evict, grant, from_dir, LoadOf, LoadNot, among, passes, OneCore}
use Names.{executes, stores_at, nats, max, cond, ◌<◌, ◌≤◌, ◌&&◌, List, Contains, nat_lt, ap, sym, subst, ◌∙◌, Local, Vendor, Event}
use Names.{DirState, World, Link, start, core_start, Sends, Answer, Waits, Drops, Asks, Takes, dir_deliver, core_moves, core_takes}
use Names.{dir_takes, step, and_noted, insert_commit, AfterOf, KeptAfter, KeptLoading, stored_there, live, KeptCores, Grant, AreGranted}
use Names.{holder, KeptOwners, LastGranted, Pair, pair, after_move, last_of, to_dir, FromCore, FromDir, grant_to, ◌≢◌}
use proofs.Marks.CoreMarks.{stored-solo, stored-written}
use proofs.OneCore.{Empties, Flushes, Requests, Silent, Tells_alone, Tells_commit, quiet, say, Commits_now, Did, Ends_alone, Given_none}
use proofs.OneCore.{Granted, Hands_out, Heard, Misses, Misses_anew, after_end, each-back, each-evict, each-exec, each-grant, emptied}
use proofs.OneCore.{granted, granted_said, heard, heard-quiet, out, said}
use proofs.Tids.{KeepsHolder, noted_tid, none, holder-exec, holder-evict}
use proofs.Counts.{live-sends, live-takes, either, moves-own, moves-other, pairs_move, pairs_grant, pairs_back, pairs_dir, pairs_asks}
use proofs.Counts.{pairs_vendor, OfAnswer, step_cases}
use proofs.Serving.{holder-moved}

-- What a core's step does to the TIDs that it notes of its last commit at each directory.

-- without a request for a line there is none that carries something else
no-load : (x : ℕ) (m : Msg) → ((l : ℕ) → num (passes (LoadOf l) m) ≡ 0) → num (passes (LoadNot x) m) ≡ 0
unfolding passes
no-load x (LoadReq k a) f = absurd (let y = f k in let z : (k == k) ≡ true = grind nats in let q : num (k == k) ≡ 1 = rw z in
    omega arith)
no-load x _ f = refl

-- nothing is committed, and a load request carries what the core notes of the line's home
pub record Stays (s : CoreState) (o : Out) : Type 0 where
  pub after : o.core.last_commit ≡ s.last_commit
  pub carries : (d : ℕ) → among (LoadNot (s.last_commit d)) (o.sends (Dir d)) ≡ 0
  pub commit : o.commit ≡ None

-- the core commits: it notes the commit's TID of each directory where the commit stored
pub record Notes_commit (sh : Shape) (c : ℕ) (s : CoreState) (o : Out) : Type 0 where
  pub noted : Noted
  pub commit : o.commit ≡ Some noted
  pub core : noted.core.0 ≡ c
  pub after : (d : ℕ) → o.core.last_commit d ≡ (if stores_at sh d noted.stores then noted.tid.0 else s.last_commit d)
  pub quiet : (d x : ℕ) → among (LoadNot x) (o.sends (Dir d)) ≡ 0
  pub idle : s.awaited ≡ None

abbrev pub AfterStep : Shape → (core : ℕ) → CoreState → Out → Type 0
AfterStep sh c s o = Stays s o ⊎ Notes_commit sh c s o

-- no load request is sent, and the core notes what it did
stays : (s : CoreState) (o : Out) → ((d x : ℕ) → among (LoadNot x) (o.sends (Dir d)) ≡ 0) → o.core.last_commit ≡ s.last_commit
    → o.commit ≡ None → Stays s o
stays s o f e c = record { after = e; carries = λ d. f d (s.last_commit d); commit = c }

-- a request carries what the core notes of the line's home
asked : (sh : Shape) (k : ℕ) (s r : CoreState) → r.last_commit ≡ s.last_commit → Stays s (moves r (say sh s (Requests k)))
unfolding among passes
asked sh k s r e = record { after = e; carries = λ d. go d (d == home sh k) refl; commit = refl }
  where
    go : (d : ℕ) (b : Bool) → (d == home sh k) ≡ b
        → among (LoadNot (s.last_commit d)) (if b then LoadReq k (s.last_commit (home sh k)) ∷ [] else []) ≡ 0
    go d a q = grind nats

-- a core whose directories are all ready awaits nothing and has spilled nothing
pub after-exec : {sh : Shape} (p : Program) (c : ℕ) {s : CoreState} → OneCore sh s → IfSome (core_exec sh p c s) (AfterStep sh c s)
unfolding passes commit solo_commit committed_core noted with_last_commit
after-exec {sh} p c {s} h = each-exec sh p c s (AfterStep sh c s) go
  where
    rests : {t : ℕ} → s.phase ≡ Ready t → (a : Option Awaited) → s.awaited ≡ a → a ≡ None
    rests q None e = refl
    rests q (Some a) e = let x = (h.awaited a e).0 in absurd (let y : executes s.phase ≡ false = rw q in cc)

    go : (x : Did sh p c s) → AfterStep sh c s (out x)
    go (Misses a n g i q) = inl (asked sh (line_of (word_of sh.base a)) s _ refl)
    go (Misses_anew a n g i q f) = inl (asked sh (line_of (word_of sh.base a)) s _ refl)
    go (Ends_alone t l e f r i) = inr (record {
      noted = noted t c (after_end s l e);
      commit = refl;
      core = refl;
      after = λ d. rw (stored-solo sh s.cache s.spilled s.stores d h.words.named);
      quiet = λ d x. quiet sh s (LoadNot x) (Tells_alone t) (λ y. refl) d;
      idle = i;
    })
    go (Commits_now t e) = inr (record {
      noted = noted t c s;
      commit = refl;
      core = refl;
      after = λ d. rw (stored-written sh s.cache s.spilled s.stores d (rw e at h.words));
      quiet = λ d x. quiet sh s (LoadNot x) (Tells_commit t) (λ y. refl) d;
      idle = rests e s.awaited refl;
    })
    go x = inl (stays s (out x) (λ d y. quiet sh s (LoadNot y) (said x) (λ z. refl) d) refl refl)

pub after-evict : (sh : Shape) (c x y : ℕ) (s : CoreState) → IfSome (core_evict sh x y s) (AfterStep sh c s)
unfolding passes
after-evict sh c x y s = each-evict sh x y s (AfterStep sh c s)
    (λ k e a m. inl (stays s (emptied sh x y k s) (λ d y. quiet sh s (LoadNot y) (Empties k) (λ z. refl) d) refl refl))

pub after-grant : (sh : Shape) (t : ℕ) (s : CoreState) → Stays s (grant sh t s)
unfolding passes
after-grant sh t s = each-grant sh t s (Stays s) go
  where
    go : (x : Granted sh t s) → Stays s (granted x)
    go (Given_none e) = stays s _ (λ d y. quiet sh s (LoadNot y) Silent (λ z. refl) d) refl refl
    go x = stays s (granted x) (λ d y. quiet sh s (LoadNot y) (granted_said x) (λ z. refl) d) refl refl

pub after-back : (sh : Shape) (e : ℕ) (s : CoreState) (m : Msg) → IfSome (from_dir sh e s m) (Stays s)
unfolding passes
after-back sh e s m = each-back sh e s (λ m o. Stays s o) go m
  where
    go : (x : Heard sh e s) → Stays s (heard x)
    go (Hands_out k) = stays s _ (λ d y. quiet sh s (LoadNot y) (Flushes k) (λ z. refl) d) refl refl
    go x = stays s (heard x) (λ d y. heard-quiet (LoadNot y) x (λ z. refl) (λ b. refl) d) refl refl

-- Every event keeps that a core notes of each directory the greatest TID of its commits that stored there.

pub last-insert : (p : Noted → Bool) (n : Noted) (cs : List Noted)
    → last_of p (insert_commit n cs) ≡ max (cond (p n) n.tid.0 0) (last_of p cs)
unfolding last_of insert_commit
last-insert p n [] = refl
last-insert p n (m ∷ cs) = go (nat_lt n.tid.0 m.tid.0) (last-insert p n cs)
  where
    go : (b : Bool) → last_of p (insert_commit n cs) ≡ max (cond (p n) n.tid.0 0) (last_of p cs)
        → last_of p (if b then n ∷ m ∷ cs else m ∷ insert_commit n cs) ≡ max (cond (p n) n.tid.0 0)
        (max (cond (p m) m.tid.0 0) (last_of p cs))
    go a e = grind nats

-- all commits of a core are below its TID
last-below : (sh : Shape) (gs : List Grant) (c d t : ℕ) (cs : List Noted) → AreGranted gs cs
    → ((u : ℕ) → Contains gs (grant_to u c) → u ≤ t) → last_of (stored_there sh c d) cs ≤ t
unfolding AreGranted last_of stored_there
last-below sh gs c d t [] a f = omega arith
last-below sh gs c d t (m ∷ cs) a f = go (m.core.0 == c) refl (stores_at sh d m.stores) (last-below sh gs c d t cs a.1 f)
  where
    go : (b : Bool) → (m.core.0 == c) ≡ b → (y : Bool) → last_of (stored_there sh c d) cs ≤ t
        → max (cond (b && y) m.tid.0 0) (last_of (stored_there sh c d) cs) ≤ t
    go true q true l = let e : m.core.0 ≡ c = grind nats in let x = f m.tid.0 (rw (sym e) a.0) in omega arith
    go true q false l = omega arith
    go false q y l = omega arith

-- no request for a line, so none that carries something else
no-live : (k : Link) → ((l : ℕ) → live (LoadOf l) k ≡ 0) → (x : ℕ) → live (LoadNot x) k ≡ 0
unfolding live
no-live [] h x = refl
no-live (None ∷ k) h x = no-live k h x
no-live (Some m ∷ k) h x = omega (arith, no-load x m (λ l. omega (arith, h l)), no-live k (λ l. omega (arith, h l)) x)

-- a core that commits nothing
stays-after : {sh : Shape} {cs : List Noted} {c d : ℕ} {v : Pair} {o : Out} → Stays v.core o → AfterOf sh cs c d v
    → AfterOf sh cs c d (after_move v o d)
stays-after {d} {v} {o} y h = record {
  last = ap (λ f. f d) y.after ∙ h.last;
  carried = rw y.after (omega (arith, y.carries, live-sends));
}

-- a core that commits, whose commits so far have smaller TIDs
commits-after : {sh : Shape} {cs : List Noted} (c d : ℕ) {v : Pair} (o : Out) (y : Notes_commit sh c v.core o)
    → last_of (stored_there sh c d) cs ≤ y.noted.tid.0 → ((l : ℕ) → live (LoadOf l) v.out ≡ 0) → AfterOf sh cs c d v
    → AfterOf sh (insert_commit y.noted cs) c d (after_move v o d)
unfolding stored_there
commits-after {sh} {cs} c d {v} o y b n h = record {
  last = y.after d ∙ (go (stores_at sh d y.noted.stores) refl ∙ sym (last-insert (stored_there sh c d) y.noted cs));
  carried =
      omega (
        arith,
        no-live v.out n (o.core.last_commit d),
        y.quiet d (o.core.last_commit d),
        live-sends
            (LoadNot (o.core.last_commit d)) v.out (o.sends (Dir d)),
      );
}
  where
    own : (y.noted.core.0 == c) ≡ true
    own = let e = y.core in grind nats

    at-most : (x l : ℕ) → l ≤ x → x ≡ max x l
    at-most x l i = omega arith

    none-else : (l : ℕ) → l ≡ max 0 l
    none-else l = omega arith

    go : (x : Bool) → stores_at sh d y.noted.stores ≡ x
        → (if x then y.noted.tid.0 else v.core.last_commit d) ≡ max
        (cond ((y.noted.core.0 == c) && stores_at sh d y.noted.stores) y.noted.tid.0 0) (last_of (stored_there sh c d) cs)
    go a q = grind nats

-- another core's commit
other-after : {sh : Shape} {cs : List Noted} (n : Noted) (j d : ℕ) {v : Pair} → (n.core.0 == j) ≡ false → AfterOf sh cs j d v
    → AfterOf sh (insert_commit n cs) j d v
unfolding stored_there
other-after {sh} {cs} n j d e h =
    let none-else : (l : ℕ) → max 0 l ≡ l = λ l. omega arith in
    record {
      last = h.last ∙ sym (last-insert (stored_there sh j d) n cs ∙ rw e (none-else (last_of (stored_there sh j d) cs)));
      carried = h.carried;
    }

pub step-after : {sh : Shape} (p : Program) {gs : List Grant} {w : World} {cs : List Noted} (e : Event) → KeptOwners sh gs w cs
    → KeptCores sh w → LastGranted gs w → KeptLoading sh w → KeptAfter sh w cs
    → IfSome (step sh p w e) (λ o. KeptAfter sh o.world (and_noted o.noted cs))
unfolding pair
step-after {sh} p {gs} {w} {cs} e y k g ld h = step_cases sh p w e (λ x o. KeptAfter sh o.world (and_noted o.noted cs))
    (λ c o eq l. moved c l o (got _ eq (after-exec p c (k c))) (got _ eq (holder-exec sh p c (w.cores c))))
    (λ c a b o eq l. moved c l o (got _ eq (after-evict sh c a b (w.cores c))) (got _ eq (holder-evict sh a b c (w.cores c))))
    (λ c i u q. granted c i u) (λ c d i m o eq q. taken c d i q o (got _ eq (after-back sh d (w.cores c) m)))
    (λ c d i m q. answered c d i m q (dir_deliver sh (w.dirs d) c m))
    (λ c i a q. pairs_vendor P w c i a (λ d cl dl. record { last = (h c d cl dl).last; carried = (h c d cl dl).carried })
    (λ j d n cl dl. record { last = (h j d cl dl).last; carried = (h j d cl dl).carried }))
  where
    P : ℕ → ℕ → Pair → Type 0
    P c d v = c < sh.cores → d < sh.dirs → AfterOf sh cs c d v

    -- no load request is in flight from a core that awaits nothing
    idle : (c d : ℕ) → (w.cores c).awaited ≡ None → (l : ℕ) → live (LoadOf l) (to_dir w c d) ≡ 0
    idle c d n l = let x = ld c d l in omega (arith, rw n at x)

    lower : (c t : ℕ) → 1 ≤ holder t (pair w c 0) → (d : ℕ) → last_of (stored_there sh c d) cs ≤ t
    lower c t x d = last-below sh gs c d t cs y.granted (λ u q. g c 0 t u x q)

    commits : (c : ℕ) (o : Out) (q : Notes_commit sh c (w.cores c) o) → 1 ≤ holder q.noted.tid.0 (pair w c 0)
        → KeptAfter sh (core_moves w c o) (insert_commit q.noted cs)
    commits c o q x j d cl dl = either j c (λ i. rw i (subst (AfterOf sh (insert_commit q.noted cs) c d) (sym (moves-own w c o d))
        (commits-after c d o q (lower c q.noted.tid.0 x d) (idle c d q.idle) (h c d (rw (sym i) cl) dl))))
        (λ n. subst (AfterOf sh (insert_commit q.noted cs) j d) (sym (moves-other w c o j d n))
        (other-after q.noted j d (away j n) (h j d cl dl)))
      where
        away : (j : ℕ) → j ≢ c → (q.noted.core.0 == j) ≡ false
        away j n = grind nats

    noted-one : (n : Noted) → noted_tid n.tid.0 (Some n) ≡ 1
    noted-one n = let z : (n.tid.0 == n.tid.0) ≡ true = grind nats in rw z

    moved : (c : ℕ) → c < sh.cores → (o : Out) → AfterStep sh c (w.cores c) o → KeepsHolder c none (w.cores c) o
        → KeptAfter sh (core_moves w c o) (and_noted o.commit cs)
    moved c l o (inl a) b = subst (λ n. KeptAfter sh (core_moves w c o) (and_noted n cs)) (sym a.commit)
        (pairs_move P w c o (λ d cl dl. stays-after a (h c d cl dl)) h)
    moved c l o (inr a) b = subst (λ n. KeptAfter sh (core_moves w c o) (and_noted n cs)) (sym a.commit)
        (commits c o a (let x = holder-moved (pair w c 0) 0 a.noted.tid.0 b in
        let z : noted_tid a.noted.tid.0 o.commit ≡ 1 = ap (noted_tid a.noted.tid.0) a.commit ∙ noted-one a.noted in
        omega arith))

    granted : (c i u : ℕ) → KeptAfter sh (core_takes w Vendor c i (grant sh u (w.cores c))) (and_noted (grant sh u (w.cores c)).commit cs)
    granted c i u = let a = after-grant sh u (w.cores c) in
        subst (λ n. KeptAfter sh (core_takes w Vendor c i (grant sh u (w.cores c))) (and_noted n cs)) (sym a.commit)
        (pairs_grant P w c i (grant sh u (w.cores c)) (λ d cl dl. let z = stays-after a (h c d cl dl) in
        record { last = z.last; carried = z.carried }) h)

    taken : (c d i : ℕ) {m : Msg} → FromDir w d c i m → (o : Out) → Stays (w.cores c) o
        → KeptAfter sh (core_takes w (Dir d) c i o) (and_noted o.commit cs)
    taken c d i q o a = subst (λ n. KeptAfter sh (core_takes w (Dir d) c i o) (and_noted n cs)) (sym a.commit)
        (pairs_back P w d c i o (λ cl dl. let z = stays-after a (h c d cl dl) in record { last = z.last; carried = z.carried })
        (λ b n cl dl. let z = stays-after a (h c b cl dl) in record { last = z.last; carried = z.carried }) h)

    takes : (c d i : ℕ) (m : Msg) (s : DirState) (sends : Sends) → FromCore w c d i m → KeptAfter sh (dir_takes w c d i s sends) cs
    takes c d i m s sends q = pairs_dir P w c d i s sends
        (λ cl dl. record {
          last = (h c d cl dl).last;
          carried = omega (
            arith,
            (h c d cl dl).carried,
            live-takes (LoadNot ((w.cores c).last_commit d)) (to_dir w c d) i m q,
          );
        })
        (λ j n cl dl. record { last = (h j d cl dl).last; carried = (h j d cl dl).carried }) h

    answered : (c d i : ℕ) (m : Msg) → FromCore w c d i m → (a : Answer) → OfAnswer w c d i (λ v. KeptAfter sh v cs) a
    answered c d i m q Waits = tt
    answered c d i m q Drops = takes c d i m (w.dirs d) nothing q
    answered c d i m q (Asks s sends) =
        pairs_asks P w d s sends (λ j cl dl. record { last = (h j d cl dl).last; carried = (h j d cl dl).carried }) h
    answered c d i m q (Takes s sends) = takes c d i m s sends q

pub start-after : (sh : Shape) (entries : ℕ → Local) (ram : ℕ → ℕ) → KeptAfter sh (start entries ram) []
unfolding start core_start pair live last_of
start-after sh entries ram c d a b = record { last = refl; carried = refl }
