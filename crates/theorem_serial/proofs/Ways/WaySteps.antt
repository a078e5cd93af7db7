-- Every event keeps that each TID is where its way puts it; then the ways of TIDs in every run.
use Rattle.theorem_serial.proofs
use proofs.Names
use Names.{if_recorded, got, and_noted, eq-self, invalidation_count, if◌then◌else◌, advance-rises, dir_deliver, is_skipped, kept-skips}
use Names.{false, DirState, Resolves, Serving, advance, Commits, nat_lt, InvAck, Answer, Aborts, passes, arith, Abort, ℕ, Shape, Takes}
use Names.{Skips, Bool, true, ◌==◌, ◌&&◌, refl, kept, Skip, Asks, ◌+◌, ◌-◌, ◌≡◌, ◌<◌, ◌≤◌, num, Msg, nats, List, Option, Some, None, IfSome}
use Names.{nat_le, slice_index_or, sym, subst, ◌⊎◌, inl, inr, cases_eq, Program, Local, Core, Dir, Vendor, TidGrant, Event, World, start}
use Names.{core_start, vendor_start, in_flight, Sends, nothing, Out, grant, Waits, Drops, sum_below, core_moves, core_takes, dir_takes}
use Names.{dir_asks, vendor_gives, step, live, among, Pair, pair, after_move, grant_taken, back_taken, after_answer, out_taken}
use Names.{share, opens, ResolvedAt, Kept, KeptTold, Way, Untold, Skipped, Aborted, Committed, Ways, told_by, ways_after}
use Names.{sent_by, first_ways, part_in, kept_in, WayAt, KeptWays, FromCore, ◌≢◌, [], ◌∷◌, ◌++◌, append_assoc, append-nil, History}
use Names.{recorded, next_history, and_then, run_from, run, KeptAll, KeptRun, Grant, granted_by, then_grants, grants_from, has_tid}
use Names.{loads_word, then_ways, ways_from, AlwaysTold, zero, suc, ap, Phase, holder, sum_of, is_untold, is_given_up, UntoldWhereOpen}
use Names.{UntoldIsLive, Settled, WaysFit, AllWaysFit, given_up_by, GivenUpOnce, LiveIsOpen, CommittedWhereStored, Contains, Noted}
use Names.{CommitsAreServed, times, SmallerAreResolved, SmallerAreGivenUp, WorkIsReached, worked_at, tid_at, to_dir, IfSome_then}
use Names.{first_state}
use proofs.Counts.{Outcome, Waiting, Spent, AsksOwner, TakesSkip, TakesAbort, TakesCommit, TakesAck, outcome, live-sends, live-takes}
use proofs.Counts.{total-zero, differ, sum_move, sum_grant, sum_back, sum_back_away, sum_dir, sum_dir_away, sum_asks, sum_vendor}
use proofs.Counts.{OfAnswer, sent_cases, total-le, num-one}
use proofs.Tids.{OnceAt, unserved, advance-count, granted_waits, KeepsPart, part-exec, part-evict, part-grant, part-back, positive-granted}
use proofs.Tids.{skipped-above}
use proofs.Serving.{core_of_grant, core_of_back, core_of_out, core_of_ask, once_at, commits_served}
use proofs.Ways.CoreSkips.{parts_in, resolved-split, gained, lost, told-moved, told-nothing, in-way}
use proofs.Run.AllInvariants.{step-all, all-at-start}
use proofs.Ways.ToldSteps.{ByCore, Speaks, step-speaks, step-live-out, step-committed-out, Loads, step-loads, step-later, loads-out}
use proofs.Ways.ToldSteps.{worked-out}
use Names.{Grants}
use proofs.Counts.{Ask, Gift, gift, gift_of, gift-counts, gives_to, after_gift, after_other_gift}

-- What a directory keeps as skipped is a TID of which a Skip or an Abort came, and it is owed acknowledgements only for one whose
-- Commit came.

-- the directory serves the TID, and is owed acknowledgements for it
abbrev pub owes : DirState → (tid : ℕ) → ℕ
owes s t = num ((t == s.serving.serving) && nat_lt 0 s.owed)

pub record Heard (s : DirState) (m : Msg) (t : ℕ) (new : DirState) : Type 0 where
  pub keeps : num (is_skipped new.serving t) ≤ num (is_skipped s.serving t) + num (passes (Skips t) m) + num (passes (Aborts t) m)
  pub owed : owes new t ≤ owes s t + num (passes (Commits t) m)

abbrev pub HeardBy : DirState → Msg → (tid : ℕ) → Answer → Type 0
HeardBy s m t (Asks new sends) = (new.serving ≡ s.serving) × (new.owed ≡ s.owed)
HeardBy s m t (Takes new sends) = Heard s m t new
HeardBy s m t _ = Unit {0}

heard-same : {s : DirState} {m : Msg} {t : ℕ} {new : DirState} → new.serving ≡ s.serving → new.owed ≡ s.owed → Heard s m t new
heard-same e f = record { keeps = rw e (omega arith); owed = rw (e, f) (omega arith) }

heard-still : (s : DirState) (m : Msg) (t : ℕ) → Heard s m t s
heard-still s m t = heard-same refl refl

fewer-skipped : (s : Serving) (t : ℕ) → num (is_skipped (advance s) t) ≤ num (is_skipped s t)
fewer-skipped s t = let a = advance-count s t in let r = advance-rises s in grind nats

kept-more : (s : Serving) (t u : ℕ) → s.serving < u → num (is_skipped (kept u s) t) ≤ num (is_skipped s t) + num (u == t)
kept-more s t u l = rw (kept-skips u s t l) (grind nats)

dir-heard : (sh : Shape) (s : DirState) (c : ℕ) (m : Msg) (t : ℕ) → OnceAt s m → HeardBy s m t (dir_deliver sh s c m)
unfolding passes kept
dir-heard sh s c m t = go (outcome sh s c m)
  where
    -- the served TID is given up, or a larger one
    given : (m : Msg) (u : ℕ) (b : Bool) → (s.serving.serving == u) ≡ b → s.serving.serving ≤ u → passes (Resolves u) m ≡ true
        → num (passes (Skips t) m) + num (passes (Aborts t) m) ≡ num (u == t) → OnceAt s m → (new : DirState)
        → new.serving ≡ (if b then advance s.serving else kept u s.serving) → new.owed ≡ s.owed → Heard s m t new
    given m u true e l p q h new f g =
        let i : s.serving.serving ≡ u = grind nats in
        let o : s.owed ≡ 0 = unserved s m h (rw i p) in
        record { keeps = rw f (omega (arith, fewer-skipped)); owed = rw (g, o) (grind arith) }
    given m u false e l p q h new f g = record {
      keeps = rw f (omega (arith, kept-more s.serving t u (grind nats)));
      owed = rw (f, g) (omega arith);
    }

    -- nothing is owed any more, or it is for the same TID
    settled : (m : Msg) (b : Bool) (n : ℕ) → (n == 0) ≡ b
        → num ((t == s.serving.serving) && nat_lt 0 n) ≤ owes s t + num (passes (Commits t) m) → (new : DirState)
        → new.serving ≡ (if b then advance s.serving else s.serving) → new.owed ≡ n → Heard s m t new
    settled m true n e l new f g = let z : n ≡ 0 = grind nats in
        record { keeps = rw f (omega (arith, fewer-skipped)); owed = rw (g, z) (grind arith) }
    settled m false n e l new f g = record { keeps = rw f (omega arith); owed = rw (f, g) l }

    go : {m : Msg} {a : Answer} → Outcome sh s c m a → OnceAt s m → HeardBy s m t a
    go (Waiting m) h = tt
    go (Spent m i) h = tt
    go (AsksOwner m l o w e) h = (refl, refl)
    go (TakesSkip u b e l) h = given (Skip u) u b e l (eq-self u) (omega arith) h _ refl refl
    go (TakesAbort u b e l) h = given (Abort u) u b e l (eq-self u) (omega arith) h _ refl refl
    go (TakesCommit b e) h = settled _ b (invalidation_count sh s.lines c) e (grind nats) _ refl refl
    go (TakesAck l k b i e) h = settled (InvAck l k) b (s.owed - 1) e (grind nats) _ refl refl
    go _ h = record { keeps = omega arith; owed = omega arith }

-- Every event keeps that each TID is where its way puts it.

-- a core's step
part-moved : (sh : Shape) (d t : ℕ) (v : Pair) (o : Out) → KeepsPart sh d t 0 v.core o → (z : Way)
    → part_in z sh d t (after_move v o d) + lost (o.sends (Dir d)) t z ≡ part_in z sh d t v + gained (o.sends (Dir d)) t z
unfolding part_in
part-moved sh d t v o k a = grind (nats, live-sends)

part-granted : (sh : Shape) (d t k u : ℕ) (v : Pair) (o : Out) → slice_index_or v.grants k None ≡ Some (TidGrant u)
    → KeepsPart sh d t (num (u == t)) v.core o → (z : Way)
    → part_in z sh d t (after_move (grant_taken v k) o d) + lost (o.sends (Dir d)) t z ≡ part_in z sh d t v + gained (o.sends (Dir d)) t z
unfolding part_in passes
part-granted sh d t k u v o e q a = grind (nats, live-takes, live-sends)

way-moved : (sh : Shape) (w : World) (c d t : ℕ) (o : Out) (y : Way) → c < sh.cores → KeepsPart sh d t 0 (w.cores c) o → ResolvedAt sh w d t
    → WayAt sh w d t y → WayAt sh (core_moves w c o) d t (told_by (o.sends (Dir d)) t y)
unfolding core_moves pair
way-moved sh w c d t o y l k r h = told-moved sh w (core_moves w c o) d t (o.sends (Dir d)) y refl refl
    (λ z. sum_move (part_in z sh d t) sh.cores w c o d (lost (o.sends (Dir d)) t z) (gained (o.sends (Dir d)) t z) l
    (part-moved sh d t (pair w c d) o k z)) r h

way-granted : (sh : Shape) (w : World) (c k u d t : ℕ) (o : Out) (y : Way) → c < sh.cores
    → in_flight w.net Vendor (Core c) k ≡ Some (TidGrant u) → KeepsPart sh d t (num (u == t)) (w.cores c) o → ResolvedAt sh w d t
    → WayAt sh w d t y → WayAt sh (core_takes w Vendor c k o) d t (told_by (o.sends (Dir d)) t y)
unfolding core_takes pair
way-granted sh w c k u d t o y l i q r h = told-moved sh w (core_takes w Vendor c k o) d t (o.sends (Dir d)) y refl refl
    (λ z. sum_grant (part_in z sh d t) sh.cores w c k o d (lost (o.sends (Dir d)) t z) (gained (o.sends (Dir d)) t z) l
    (part-granted sh d t k u (pair w c d) o i q z)) r h

part-taken : (sh : Shape) (d t k : ℕ) (v : Pair) (z : Way) → part_in z sh d t (back_taken v k) ≡ part_in z sh d t v
unfolding part_in
part-taken sh d t k v a = grind nats

way-back : (sh : Shape) (w : World) (e c k d t : ℕ) (o : Out) (y : Way) → c < sh.cores → KeepsPart sh d t 0 (w.cores c) o
    → ResolvedAt sh w d t → WayAt sh w d t y → WayAt sh (core_takes w (Dir e) c k o) d t (told_by (o.sends (Dir d)) t y)
unfolding core_takes pair
way-back sh w e c k d t o y l q r h = told-moved sh w (core_takes w (Dir e) c k o) d t (o.sends (Dir d)) y refl refl
    (λ z. sum z (cases_eq d e)) r h
  where
    sum : (z : Way) → (d ≡ e) ⊎ (d ≢ e) → parts_in z sh (core_takes w (Dir e) c k o) d t + lost (o.sends (Dir d)) t z
        ≡ parts_in z sh w d t + gained (o.sends (Dir d)) t z
    sum z (inr n) = sum_back_away (part_in z sh d t) sh.cores w e c k o d (lost (o.sends (Dir d)) t z) (gained (o.sends (Dir d)) t z) n l
        (part-moved sh d t (pair w c d) o q z)
    sum z (inl n) = subst (λ e. parts_in z sh (core_takes w (Dir e) c k o) d t + lost (o.sends (Dir d)) t z ≡ parts_in z sh w d t + gained
        (o.sends (Dir d)) t z) n
        (sum_back (part_in z sh d t) sh.cores w c k o d (lost (o.sends (Dir d)) t z) (gained (o.sends (Dir d)) t z) l
        (rw (part-taken sh d t k (pair w c d) z) at (part-moved sh d t (back_taken (pair w c d) k) o q z)))

-- a directory's answer

-- what it took from the link
abbrev took : Msg → (tid : ℕ) → Way → ℕ
took m t Untold = 0
took m t Skipped = num (passes (Skips t) m)
took m t Aborted = num (passes (Aborts t) m)
took m t Committed = num (passes (Commits t) m)

part-answered : (sh : Shape) (d t k : ℕ) (m : Msg) (v : Pair) (s : DirState) (ms : List Msg) → slice_index_or v.out k None ≡ Some m
    → (z : Way) → part_in z sh d t (after_answer (out_taken v k) s ms) + took m t z ≡ part_in z sh d t v + 0 + 0
unfolding part_in
part-answered sh d t k m v s ms e a = grind (nats, live-takes)

part-still : (sh : Shape) (d t : ℕ) (v : Pair) (s : DirState) (ms : List Msg) (z : Way)
    → part_in z sh d t (after_answer v s ms) ≡ part_in z sh d t v
unfolding part_in
part-still sh d t v s ms a = grind nats

-- what was on its way is kept now
way-heard : (sh : Shape) (w v : World) (d t : ℕ) (m : Msg) (y : Way) → v.next ≡ w.next
    → ((z : Way) → parts_in z sh v d t + took m t z ≡ parts_in z sh w d t) → Heard (w.dirs d) m t (v.dirs d) → ResolvedAt sh w d t
    → ResolvedAt sh v d t → WayAt sh w d t y → WayAt sh v d t y
unfolding kept_in
way-heard sh w v d t m y n q u r z h = go y h
  where
    e : num (nat_le v.next t) ≡ num (nat_le w.next t)
    e = rw n

    go : (y : Way) → WayAt sh w d t y → WayAt sh v d t y
    go Untold h = omega (arith, h, q Untold, e)
    go Skipped h =
        omega (arith, h, q Untold, q Skipped, q Aborted, q Committed, u.owed, resolved-split sh w d t r, resolved-split sh v d t z, e)
    go Aborted h =
        omega (arith, h, q Untold, q Skipped, q Aborted, q Committed, u.owed, resolved-split sh w d t r, resolved-split sh v d t z, e)
    go Committed h =
        omega (arith, h, q Untold, q Skipped, q Aborted, q Committed, u.keeps, resolved-split sh w d t r, resolved-split sh v d t z, e)

way-dir : (sh : Shape) (w : World) (c e k : ℕ) (m : Msg) (s : DirState) (sends : Sends) (d t : ℕ) (y : Way) → c < sh.cores
    → FromCore w c e k m → Heard (w.dirs e) m t s → ResolvedAt sh w d t
    → ResolvedAt sh (dir_takes w c e k s sends) d t → WayAt sh w d t y → WayAt sh (dir_takes w c e k s sends) d t y
unfolding pair dir_takes
way-dir sh w c e k m s sends d t y l i u r z h = elim (cases_eq d e) [
  | inr n ↦ away n y h
  | inl n ↦ subst (λ x. WayAt sh (dir_takes w c x k s sends) d t y) n
      (here (rw (sym n) at i) (rw (sym n) at u) (subst (λ x. ResolvedAt sh (dir_takes w c x k s sends) d t) (sym n) z))
]
  where
    here : FromCore w c d k m → Heard (w.dirs d) m t s → ResolvedAt sh (dir_takes w c d k s sends) d t
        → WayAt sh (dir_takes w c d k s sends) d t y
    here i u z = way-heard sh w (dir_takes w c d k s sends) d t m y refl sum (rw (eq-self d) u) r z h
      where
        none : sum_below (λ j. 0) sh.cores ≡ 0
        none = total-zero (λ j. 0) sh.cores (λ j y. refl)

        sum : (x : Way) → parts_in x sh (dir_takes w c d k s sends) d t + took m t x ≡ parts_in x sh w d t
        sum x =
            omega (
              arith,
              none,
              sum_dir (part_in x sh d t) (λ j. 0) sh.cores w c k s sends d (took m t x) 0 l
                  (part-answered sh d t k m (pair w c d) s (sends (Core c)) i x)
                  (λ j n. omega (arith, part-still)),
            )

    away : d ≢ e → (x : Way) → WayAt sh w d t x → WayAt sh (dir_takes w c e k s sends) d t x
    away n x q = let p = sum_dir_away (part_in x sh d t) sh.cores w c e k s sends d n in rw (differ d e n) (omega arith)

kept-same : (n : ℕ) (s new : DirState) (t : ℕ) (y : Way) → new.serving ≡ s.serving → new.owed ≡ s.owed → kept_in y n new t ≡ kept_in y n s t
unfolding kept_in
kept-same n s new t a e f = grind nats

way-asks : (sh : Shape) (w : World) (e : ℕ) (s : DirState) (sends : Sends) (d t : ℕ) (y : Way) → s.serving ≡ (w.dirs e).serving
    → s.owed ≡ (w.dirs e).owed → WayAt sh w d t y → WayAt sh (dir_asks w e s sends) d t y
unfolding pair dir_asks
way-asks sh w e s sends d t y f g h = elim (cases_eq d e) [
  | inr n ↦ rw (differ d e n) (omega (arith, sum, h))
  | inl n ↦ let b : (d == e) ≡ true = rw n (eq-self e) in
      let q : kept_in y w.next s t ≡ kept_in y w.next (w.dirs d) t = kept-same w.next (w.dirs d) s t y (rw n f) (rw n g) in
      rw b (omega (arith, sum, h, q))
]
  where
    sum : parts_in y sh (dir_asks w e s sends) d t ≡ parts_in y sh w d t
    sum = sum_asks (part_in y sh d t) (λ j. 0) sh.cores w e s sends d (λ j. part-still sh d t (pair w j d) s (sends (Core j)) y)

-- the vendor gives
part-next : (sh : Shape) (d t : ℕ) (v : Pair) (g : Gift) (z : Way) → part_in z sh d t (after_other_gift v g) ≡ part_in z sh d t v
unfolding part_in
part-next sh d t v g z = grind nats

-- what is on its way now, and was not granted before
abbrev given_to : Gift → (next tid : ℕ) → Way → ℕ
given_to g n t Untold = among (Grants t) (gift_of g n)
given_to g n t _ = 0

part-given : (sh : Shape) (d t k : ℕ) (v : Pair) (g : Gift) (z : Way)
    → part_in z sh d t (after_gift v k g) + 0 ≡ part_in z sh d t v + given_to g v.next t z
unfolding part_in
part-given sh d t k v g z = grind (nats, live-sends)

way-vendor : (sh : Shape) (w : World) (c k : ℕ) (a : Ask) (d t : ℕ) (y : Way) → c < sh.cores → WayAt sh w d t y
    → WayAt sh (gives_to w c k a) d t y
unfolding pair vendor_gives kept_in
way-vendor sh w c k a d t y l h = go y h
  where
    sum : (z : Way) → parts_in z sh (gives_to w c k a) d t + 0 ≡ parts_in z sh w d t + given_to (gift a) w.next t z
    sum z = sum_vendor (part_in z sh d t) sh.cores w c k a d 0 (given_to (gift a) w.next t z) l
        (part-given sh d t k (pair w c d) (gift a) z) (λ j n. part-next sh d t (pair w j d) (gift a) z)

    go : (z : Way) → WayAt sh w d t z → WayAt sh (gives_to w c k a) d t z
    go Untold q = omega (arith, sum, gift-counts (gift a) w.next t)
    go m q = omega (arith, sum)

-- every event
pub step-ways : {sh : Shape} (p : Program) (ys : Ways) {w : World} (e : Event) → Kept sh w → KeptWays sh ys w
    → IfSome (step sh p w e) (λ o. KeptTold sh o.world → KeptWays sh (ways_after (sent_by sh p w e) ys) o.world)
unfolding pair
step-ways {sh} p ys {w} e z h = sent_cases sh p w e (λ x g o. KeptTold sh o.world → KeptWays sh (ways_after x ys) o.world)
    (λ c o eq l. moved c l o (λ d t x. got _ eq (part-exec sh p c d t (w.cores c) x)))
    (λ c a b o eq l. moved c l o (λ d t x. got _ eq (part-evict sh a b d t (w.cores c))))
    (λ c k u i n d t x y. way-granted sh w c k u d t (grant sh u (w.cores c)) (ys d t) (core_of_grant c k z.told.tids i) i
    (part-grant sh u d t (w.cores c) x (granted_waits (pair w c d) k i (z.told.tids.requests c d))) (z.told.tids.resolved d t x)
    (h d t x y)) (λ c d k m o eq i. taken c d k (core_of_back c d k z.told.tids i) o
    (λ b t x. got _ eq (part-back sh d b t (w.cores c) m x)))
    (λ c d k m i. answered c d k m i (dir_deliver sh (w.dirs d) c m) (λ t. dir-heard sh (w.dirs d) c m t (once_at c d k z.told i)))
    (λ c k a i n d t x y. rw (told-nothing t (ys d t)) (way-vendor sh w c k a d t (ys d t) (core_of_ask c k z.told.tids i) (h d t x y)))
  where
    moved : (c : ℕ) → c < sh.cores → (o : Out) → ((d t : ℕ) → d < sh.dirs → KeepsPart sh d t 0 (w.cores c) o)
        → KeptTold sh (core_moves w c o) → KeptWays sh (ways_after o.sends ys) (core_moves w c o)
    moved c l o q = λ n d t x y. way-moved sh w c d t o (ys d t) l (q d t x) (z.told.tids.resolved d t x) (h d t x y)

    taken : (c e k : ℕ) → c < sh.cores → (o : Out) → ((d t : ℕ) → d < sh.dirs → KeepsPart sh d t 0 (w.cores c) o)
        → KeptTold sh (core_takes w (Dir e) c k o) → KeptWays sh (ways_after o.sends ys) (core_takes w (Dir e) c k o)
    taken c e k l o q = λ n d t x y. way-back sh w e c k d t o (ys d t) l (q d t x) (z.told.tids.resolved d t x) (h d t x y)

    dir : (c d k : ℕ) (m : Msg) (s : DirState) (sends : Sends) → FromCore w c d k m → ((t : ℕ) → Heard (w.dirs d) m t s)
        → KeptTold sh (dir_takes w c d k s sends) → KeptWays sh (ways_after nothing ys) (dir_takes w c d k s sends)
    dir c e k m s sends i u n d t x y = rw (told-nothing t (ys d t))
        (way-dir sh w c e k m s sends d t (ys d t) (core_of_out c e k z.told.tids i) i (u t) (z.told.tids.resolved d t x)
        (n.tids.resolved d t x) (h d t x y))

    answered : (c d k : ℕ) (m : Msg) → FromCore w c d k m → (a : Answer) → ((t : ℕ) → HeardBy (w.dirs d) m t a)
        → OfAnswer w c d k (λ v. KeptTold sh v → KeptWays sh (ways_after nothing ys) v) a
    answered c d k m i Waits u = tt
    answered c d k m i Drops u = dir c d k m (w.dirs d) nothing i (heard-still (w.dirs d) m)
    answered c e k m i (Asks s sends) u =
        λ n d t x y. rw (told-nothing t (ys d t)) (way-asks sh w e s sends d t (ys d t) (u t).0 (u t).1 (h d t x y))
    answered c d k m i (Takes s sends) u = dir c d k m s sends i u

share-start : (sh : Shape) (entries : ℕ → Local) (ram : ℕ → ℕ) (d t j : ℕ) → share (part_in Untold sh d t) (start entries ram) d j ≡ 0
unfolding share part_in pair start core_start live opens
share-start sh entries ram d t j = refl

pub start-ways : (sh : Shape) (entries : ℕ → Local) (ram : ℕ → ℕ) → KeptWays sh first_ways (start entries ram)
unfolding start vendor_start kept_in
start-ways sh entries ram d t x y = let z = total-zero (share (part_in Untold sh d t) (start entries ram) d) sh.cores
    (λ j l. share-start sh entries ram d t j) in let b : num (nat_le 1 t) ≡ 1 = grind nats in omega arith

-- The ways in which each TID was given to each directory along every run, and what the invariants on them say in words.

-- The ways in which each TID was given to each directory, through every event and along every run.
pub step-run : {sh : Shape} (p : Program) {gs : List Grant} {ys : Ways} {h : History} (e : Event) → KeptRun sh gs ys h
    → IfSome (recorded h (step sh p h.world e)) (λ g. KeptRun sh (gs ++ granted_by h.world e) (ways_after (sent_by sh p h.world e) ys) g)
step-run {sh} p {gs} {ys} {h} e k = if_recorded _ h (step sh p h.world e) (λ o eq.
    let a : KeptAll sh (gs ++ granted_by h.world e) (record { world = o.world; commits = and_noted o.noted h.commits }) =
    got _ (ap (recorded h) eq) (step-all p e k.all) in
    let w : KeptWays sh (ways_after (sent_by sh p h.world e) ys) o.world = got _ eq (step-ways p ys e k.all.kept k.ways) a.kept.told in
    let said = got (ByCore sh h.world (Speaks sh h.world) (sent_by sh p h.world e)) eq
    (step-speaks p e k.all.kept.told.tids k.all.cores) in
    let loads = got (ByCore sh h.world (Loads sh h.world) (sent_by sh p h.world e)) eq
    (step-loads p e k.all.kept k.all.cores k.loads) in
    record {
      all = a;
      ways = w;
      live = step-live-out ys o k.all.kept.told.tids k.all.owners k.ways k.live said a.kept.told.tids a.owners w;
      committed = step-committed-out ys k.all.kept.told.tids k.all.owners k.ways k.live k.committed said;
      loads = loads-out k.loads loads;
      worked = worked-out h.commits (got _ eq (step-later sh p h.world e)) k.worked loads;
    })

run_from-ways : (sh : Shape) (p : Program) (es : List Event) (gs : List Grant) (ys : Ways) (h : History) → KeptRun sh gs ys h
    → IfSome (run_from sh p es h) (KeptRun sh (gs ++ grants_from sh p es h) (ways_from sh p es ys h))
unfolding run_from grants_from ways_from next_history
run_from-ways sh p [] gs ys h k = rw append-nil k
run_from-ways sh p (e ∷ es) gs ys h k = go (recorded h (step sh p h.world e)) (step-run p e k)
    (run_from-ways sh p es (gs ++ granted_by h.world e) x)
  where
    x : Ways
    x = ways_after (sent_by sh p h.world e) ys

    go : (a : Option History) → IfSome a (KeptRun sh (gs ++ granted_by h.world e) x)
        → ((g : History) → KeptRun sh (gs ++ granted_by h.world e) x g
        → IfSome (run_from sh p es g) (λ r. KeptRun sh ((gs ++ granted_by h.world e) ++ grants_from sh p es g) (ways_from sh p es x g) r))
        → IfSome (and_then (run_from sh p es) a)
        (λ r. KeptRun sh (gs ++ then_grants (granted_by h.world e) (grants_from sh p es) a) (then_ways ys (ways_from sh p es x) a) r)
    go None a f = tt
    go (Some g) a f = rw (sym (append_assoc gs (granted_by h.world e) (grants_from sh p es g))) (f g a)

pub start-run : (sh : Shape) (entries : ℕ → Local) (ram : ℕ → ℕ) → KeptRun sh [] first_ways (first_state entries ram)
unfolding start core_start has_tid loads_word
start-run sh entries ram = record {
  all = all-at-start sh entries ram;
  ways = start-ways sh entries ram;
  live = λ c d t l m h. absurd (cc);
  committed = record { stored = λ n d k l. absurd (omega arith); only = λ d t l q. absurd (cc) };
  loads = λ c w s l. absurd (cc);
  worked = λ n d k l w. absurd (omega arith);
}

run-ways : (sh : Shape) (p : Program) (entries : ℕ → Local) (ram : ℕ → ℕ) (es : List Event)
    → IfSome (run sh p (start entries ram) es) (λ r. KeptRun sh (grants_from sh p es (first_state entries ram))
    (ways_from sh p es first_ways (first_state entries ram)) r)
unfolding run
run-ways sh p entries ram es = run_from-ways sh p es [] first_ways (first_state entries ram) (start-run sh entries ram)

-- what follows from all that is kept holds of every run
pub told_from : (P : Shape → Ways → History → Type 0)
    → ((sh : Shape) (gs : List Grant) (ys : Ways) (h : History) → KeptRun sh gs ys h → P sh ys h) → AlwaysTold P
told_from P f sh p entries ram es = IfSome_then (run sh p (start entries ram) es) (run-ways sh p entries ram es)
    (f sh (grants_from sh p es first) (ways_from sh p es first_ways first))
  where
    first : History
    first = first_state entries ram

-- What the invariants on ways say in words.

-- untold where it is open
untold-at : (sh : Shape) (w : World) (d t : ℕ) (y : Way) → ResolvedAt sh w d t → WayAt sh w d t y
    → parts_in Untold sh w d t + num (nat_le w.next t) ≡ num (is_untold y)
unfolding kept_in
untold-at sh w d t a r h = grind (nats, resolved-split)

pub untold_where_open : AlwaysTold UntoldWhereOpen
untold_where_open = told_from UntoldWhereOpen
    (λ sh gs ys h k d t l p. untold-at sh h.world d t (ys d t) (k.all.kept.told.tids.resolved d t l) (k.ways d t l p))

-- a sum that isn't 0 has a summand that isn't
pub some-part : (f : ℕ → ℕ) (n : ℕ) → 1 ≤ sum_below f n → (c : ℕ) × (c < n) × (1 ≤ f c)
unfolding sum_below
some-part f zero l = absurd (omega arith)
some-part f (suc n) l = go (f n) refl (some-part f n)
  where
    go : (x : ℕ) → f n ≡ x → (1 ≤ sum_below f n → (c : ℕ) × (c < n) × (1 ≤ f c)) → (c : ℕ) × (c < suc n) × (1 ≤ f c)
    go (suc x) e g = (n, omega arith, omega arith)
    go zero e g = let r = g (omega arith) in (r.0, omega arith, r.2)

opens-has : (q : Phase) (b : Bool) (t : ℕ) → num (opens q b t) ≤ num (has_tid q t)
unfolding opens has_tid
opens-has a b t = grind nats

untold-live : (sh : Shape) (w : World) (d t : ℕ) (y : Way) → WayAt sh w d t y → y ≡ Untold → t < w.next
    → (c : ℕ) × (c < sh.cores) × (1 ≤ holder t (pair w c d))
unfolding kept_in part_in holder pair share
untold-live sh w d t Untold h e l =
    let n : num (nat_le w.next t) ≡ 0 = grind nats in
    let r = some-part (share (part_in Untold sh d t) w d) sh.cores (omega arith) in
    (r.0, r.1, omega (arith, opens-has))
untold-live sh w d t _ h e l = absurd (cc)

pub untold_is_live : AlwaysTold UntoldIsLive
untold_is_live = told_from UntoldIsLive (λ sh gs ys h k d t l p m e. untold-live sh h.world d t (ys d t) (k.ways d t l p) e m)

-- the kind of a message fits the way

-- a core's part is one of the places of its way
fits : (sh : Shape) (w : World) (c d t : ℕ) (y z : Way) → c < sh.cores → 1 ≤ part_in z sh d t (pair w c d) → ResolvedAt sh w d t
    → WayAt sh w d t y → y ≡ z
unfolding share
fits sh w c d t y z l p r h = in-way sh w d t r h (omega (arith, total-le (share (part_in z sh d t) w d) sh.cores c l))

kept-way : (sh : Shape) (w : World) (d t : ℕ) (y : Way) → ResolvedAt sh w d t → WayAt sh w d t y → is_skipped (w.dirs d).serving t ≡ true
    → is_given_up y ≡ true
unfolding kept_in
kept-way sh w d t y r h k = go y h
  where
    one : num (is_skipped (w.dirs d).serving t) ≡ 1
    one = ap num k

    go : (y : Way) → WayAt sh w d t y → is_given_up y ≡ true
    go Skipped h = refl
    go Aborted h = refl
    go _ h = absurd (omega (arith, h, one, resolved-split sh w d t r))

passed-way : (sh : Shape) (w : World) (d t : ℕ) (y : Way) → ResolvedAt sh w d t → WayAt sh w d t y → t < tid_at w d
    → (is_given_up y ≡ true) ⊎ ((y ≡ Committed) × (parts_in Committed sh w d t ≡ 0))
unfolding kept_in
passed-way sh w d t y r h k = go y h
  where
    one : num (nat_lt t (tid_at w d)) ≡ 1
    one = grind nats

    go : (y : Way) → WayAt sh w d t y → (is_given_up y ≡ true) ⊎ ((y ≡ Committed) × (parts_in Committed sh w d t ≡ 0))
    go Untold h = absurd (omega (arith, h, one, resolved-split sh w d t r))
    go Committed h = inr (refl, omega (arith, h, one))
    go _ h = inl refl

owed-way : (sh : Shape) (w : World) (d t : ℕ) (y : Way) → ResolvedAt sh w d t → WayAt sh w d t y → tid_at w d ≡ t
    → 1 ≤ (w.dirs d).owed → (y ≡ Committed) × (parts_in Committed sh w d t ≡ 0)
unfolding kept_in
owed-way sh w d t y r h k o = go y h
  where
    one : num ((t == tid_at w d) && nat_lt 0 (w.dirs d).owed) ≡ 1
    one = grind nats

    go : (y : Way) → WayAt sh w d t y → (y ≡ Committed) × (parts_in Committed sh w d t ≡ 0)
    go Committed h = (refl, omega (arith, h, one))
    go _ h = absurd (omega (arith, h, one, resolved-split sh w d t r))

settled-way : (sh : Shape) (w : World) (d t : ℕ) → WayAt sh w d t Committed → parts_in Committed sh w d t ≡ 0
    → (t < tid_at w d) ⊎ ((tid_at w d ≡ t) × (1 ≤ (w.dirs d).owed))
unfolding kept_in
settled-way sh w d t h z = go (nat_lt t (tid_at w d)) refl
  where
    go : (b : Bool) → nat_lt t (tid_at w d) ≡ b → (t < tid_at w d) ⊎ ((tid_at w d ≡ t) × (1 ≤ (w.dirs d).owed))
    go true q = inl (grind nats)
    go false q = let n : num (nat_lt t (tid_at w d)) ≡ 0 = ap num q in
        inr (served (num-one ((t == tid_at w d) && nat_lt 0 (w.dirs d).owed) (omega arith)))
      where
        served : ((t == tid_at w d) && nat_lt 0 (w.dirs d).owed) ≡ true → (tid_at w d ≡ t) × (1 ≤ (w.dirs d).owed)
        served q = (grind nats, grind nats)

-- no Commit is in flight where the sum is 0
pub none-sent : (sh : Shape) (w : World) (c d t : ℕ) → c < sh.cores → parts_in Committed sh w d t ≡ 0 → live (Commits t) (to_dir w c d) ≡ 0
unfolding share part_in pair
none-sent sh w c d t l z = omega (arith, total-le (share (part_in Committed sh d t) w d) sh.cores c l)

all-none : (sh : Shape) (w : World) (d t : ℕ) → ((c : ℕ) → c < sh.cores → live (Commits t) (to_dir w c d) ≡ 0)
    → parts_in Committed sh w d t ≡ 0
unfolding share part_in pair
all-none sh w d t h = total-zero (share (part_in Committed sh d t) w d) sh.cores h

ways-fit : (sh : Shape) (ys : Ways) (w : World) (d t : ℕ) → ResolvedAt sh w d t → WayAt sh w d t (ys d t) → WaysFit sh ys w d t
unfolding part_in pair
ways-fit sh ys w d t r h = record {
  skips = λ c l p. fits sh w c d t (ys d t) Skipped l p r h;
  aborts = λ c l p. fits sh w c d t (ys d t) Aborted l p r h;
  commits = λ c l p. fits sh w c d t (ys d t) Committed l p r h;
  kept = λ k. (kept-way sh w d t (ys d t) r h k, skipped-above (w.dirs d).serving t k);
  passed = λ p. passed (passed-way sh w d t (ys d t) r h p);
  owed = λ s o. is_settled (owed-way sh w d t (ys d t) r h s o);
  settled = λ s. settled-way sh w d t (rw s.committed at h) (all-none sh w d t s.handled);
}
  where
    is_settled : (ys d t ≡ Committed) × (parts_in Committed sh w d t ≡ 0) → Settled sh ys w d t
    is_settled a = record { committed = a.0; handled = λ c l. none-sent sh w c d t l a.1 }

    passed : (is_given_up (ys d t) ≡ true) ⊎ ((ys d t ≡ Committed) × (parts_in Committed sh w d t ≡ 0))
        → (is_given_up (ys d t) ≡ true) ⊎ Settled sh ys w d t
    passed (inl a) = inl a
    passed (inr a) = inr (is_settled a)

pub all_ways_fit : AlwaysTold AllWaysFit
all_ways_fit =
    told_from AllWaysFit (λ sh gs ys h k d t l p. ways-fit sh ys h.world d t (k.all.kept.told.tids.resolved d t l) (k.ways d t l p))

-- given up: told, kept or passed
given-split : (sh : Shape) (w : World) (d t n : ℕ) → sum_of (given_up_by t) n w d ≡ sum_of (part_in Skipped sh d t) n w d + sum_of
    (part_in Aborted sh d t) n w d
unfolding sum_below share given_up_by part_in
given-split sh w d t zero = refl
given-split sh w d t (suc n) = omega (arith, given-split sh w d t n)

given-once : (sh : Shape) (w : World) (d t : ℕ) (y : Way) → ResolvedAt sh w d t → WayAt sh w d t y → is_given_up y ≡ true
    → sum_of (given_up_by t) sh.cores w d + num (is_skipped (w.dirs d).serving t) + num (nat_lt t (tid_at w d)) ≡ 1
unfolding kept_in
given-once sh w d t Skipped r h g = omega (arith, given-split sh w d t sh.cores, resolved-split sh w d t r)
given-once sh w d t Aborted r h g = omega (arith, given-split sh w d t sh.cores, resolved-split sh w d t r)
given-once sh w d t _ r h g = absurd (cc)

pub given_up_once : AlwaysTold GivenUpOnce
given_up_once = told_from GivenUpOnce (λ sh gs ys h k d t l p g. given-once sh h.world d t (ys d t) (k.all.kept.told.tids.resolved d t l)
    (k.ways d t l p) g)

-- live TIDs
live-open : (sh : Shape) (gs : List Grant) (ys : Ways) (h : History) → KeptRun sh gs ys h → LiveIsOpen sh ys h
unfolding part_in pair holder
live-open sh gs ys h k = record {
  coming = λ c d t l m g. fits sh h.world c d t (ys d t) Untold l (omega arith) (k.all.kept.told.tids.resolved d t m)
      (k.ways d t m (positive-granted c t k.all.owners (omega arith)));
  held = k.live;
}

pub live_is_open : AlwaysTold LiveIsOpen
live_is_open = told_from LiveIsOpen live-open

pub committed_where_stored : AlwaysTold CommittedWhereStored
committed_where_stored = told_from CommittedWhereStored (λ sh gs ys h k. k.committed)

-- What became of the TIDs below a committed one.

-- a Commit in flight is of the served TID, and else it was handled
reached-in : (sh : Shape) (w : World) (d u : ℕ) → CommitsAreServed sh w → d < sh.dirs → WayAt sh w d u Committed → u ≤ tid_at w d
unfolding kept_in share part_in pair
reached-in sh w d u k l h = go (parts_in Committed sh w d u) refl
  where
    sent : (c : ℕ) × (c < sh.cores) × (1 ≤ share (part_in Committed sh d u) w d c) → u ≤ (tid_at w d)
    sent r = omega (arith, k r.0 d u r.1 l r.2)

    go : (x : ℕ) → parts_in Committed sh w d u ≡ x → u ≤ (tid_at w d)
    go a e = grind (nats, some-part)

reached : (sh : Shape) (gs : List Grant) (ys : Ways) (h : History) (d u : ℕ) → KeptRun sh gs ys h → d < sh.dirs → ys d u ≡ Committed
    → u ≤ (tid_at h.world d)
reached sh gs ys h d zero k l e = omega arith
reached sh gs ys h d (suc u) k l e = reached-in sh h.world d (suc u) (commits_served k.all.kept k.all.committing) l
    (rw e at (k.ways d (suc u) l (omega arith)))

-- a TID that a directory has passed was given up there, or is settled
passed : (sh : Shape) (gs : List Grant) (ys : Ways) (h : History) (d t : ℕ) → KeptRun sh gs ys h → d < sh.dirs → 1 ≤ t
    → t < tid_at h.world d → (is_given_up (ys d t) ≡ true) ⊎ Settled sh ys h.world d t
passed sh gs ys h d t k l p q = elim (passed-way sh h.world d t (ys d t) (k.all.kept.told.tids.resolved d t l) (k.ways d t l p) q) [
  | inl a ↦ inl a
  | inr a ↦ inr (record { committed = a.0; handled = λ c m. none-sent sh h.world c d t m a.1 })
]

pub smaller_are_resolved : AlwaysTold SmallerAreResolved
smaller_are_resolved = told_from SmallerAreResolved (λ sh gs ys h k d u l e. record {
  reached = reached sh gs ys h d u k l e;
  below = λ t p q. passed sh gs ys h d t k l p (omega (arith, q, reached sh gs ys h d u k l e));
})

given_up : (sh : Shape) (gs : List Grant) (ys : Ways) (h : History) (n : Noted) (d t : ℕ) → KeptRun sh gs ys h → Contains h.commits n
    → d < sh.dirs → worked_at sh n d ≡ true → 1 ≤ t → t < n.tid.0 → times t h.commits ≡ 0 → is_given_up (ys d t) ≡ true
given_up sh gs ys h n d t k m l s p q z = go (passed sh gs ys h d t k l p (omega (arith, q, k.worked n d m l s)))
  where
    go : (is_given_up (ys d t) ≡ true) ⊎ Settled sh ys h.world d t → is_given_up (ys d t) ≡ true
    go a = grind nats

pub smaller_are_given_up : AlwaysTold SmallerAreGivenUp
smaller_are_given_up = told_from SmallerAreGivenUp (λ sh gs ys h k n d t m l s p q z. given_up sh gs ys h n d t k m l s p q z)

pub work_is_reached : AlwaysTold WorkIsReached
work_is_reached = told_from WorkIsReached (λ sh gs ys h k. k.worked)
