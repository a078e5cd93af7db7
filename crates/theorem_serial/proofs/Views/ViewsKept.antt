-- Every event keeps what is known of each core's view.
use Rattle.rules_maps.specs.CacheLook.{reads_masked}
use Rattle.theorem_serial.specs.KeepsViews.{KeepsViews}
use Rattle.theorem_serial.proofs
use proofs.Names
use Names.{if_recorded, got, moved_by, taken_by, unnoted, eq-self, hit-line, ℕ, ◌≡◌, ◌<◌, ◌≤◌, ◌⊎◌, ◌==◌, ◌&&◌, Bool, true, false, List, []}
use Names.{◌++◌, Option, Some, None, IfSome, arith, refl, sym, subst, ◌∙◌, inl, inr, put, Noted, Program, writes_at, Shape, CoreState}
use Names.{Phase, Running, AwaitTid, DoomedTid, Probing, Ready, Overflowing, Solo, Halted, World, Out, core_exec, core_evict, History}
use Names.{core_moves, and_noted, insert_commit, Uses, Views, uses_executed, InvWord, live, Carried, CarriedInMemory, Grant, holder, Pair}
use Names.{pair, after_move, may_commit, IsBound, is_applied, has_tid, opens, waits_for_tid, RequestOf, stores_word, is_below, counts}
use Names.{value_at, dooms, UnmodifiedWords, Ways, nats, home_of, IfSome_then, nat_lt, ap, num, hit, Core, Dir, Vendor, Msg}
use Names.{TidGrant, Inv, in_flight, from_dir, grant, is_violated, may_be_above, core_takes, uses_delivered, Invs, passes}
use Names.{grant_taken, back_taken, hit-reads, line_of, home, Answer, Waits, Drops, Asks, Takes, dir_deliver, Stepped, step, next_history}
use Names.{UsesStand, CarriedViews, granted_by, IsDoomed, ViewedWords, HaltedUsesNone, sent_by, ways_after, to_core, FromDir, ◌≢◌, tested}
use proofs.OneCore.{Acts, tid-ahead}
use proofs.Serving.{grant-any, asking-none}
use proofs.Memory.CoreHomes.{marks_at_homes}
use proofs.Counts.{differ, either, pairs_move, new_uses, AllPairs, OfAnswer, event_cases, pairs_grant, pairs_back, pairs_vendor}
use proofs.Values.ValueAt.{IsSilent, value-skip}
use proofs.Views.ViewFacts.{Keeps, Exec, Goes, Commits_own, exec-view, used-each, each-append, evict-view, NearAt, ViewOf, view-empty}
use proofs.Views.ViewFacts.{view-moves, Gets, grant-view, Spares, Back, Empties, Stays, back-view, view-takes, view-grants, view-other}
use proofs.Views.ViewFacts.{view-given, bound-own, open-served, served-unapplied, solo-holds, solo-undoomed, each-one, solo-value, IsSeen}
use proofs.Views.ViewFacts.{doomed-again, uses-seen, each-two, few-doom, value-bounded, listed-below, word-next}
use proofs.Views.ViewDirs.{AllNear, AllSeen, NearAfter, answered-views}
use proofs.Tids.{live-some, granted_waits}
use proofs.Counts.{Ask, asking, gift, asks-tid, gives_to}

-- What a core does, and what the vendor grants, leaves every core's view near: each used word has its value, or it is doomed.

-- the views where one core's has changed
put-own : (vs : Views) (c : ℕ) (us : Uses) → put vs c us c ≡ us
put-own vs c us = rw (eq-self c)

put-other : (vs : Views) (c j : ℕ) (us : Uses) → j ≢ c → put vs c us j ≡ vs j
put-other vs c j us n = rw (differ j c n)

-- a view that is near, and the others as they were
near-put : (sh : Shape) (ram : ℕ → ℕ) (cs : List Noted) (vs : Views) (w : World) (c : ℕ) (us : Uses)
    → ((d : ℕ) → ViewOf sh ram cs us c d (pair w c d)) → ((j d : ℕ) → j ≢ c → ViewOf sh ram cs (vs j) j d (pair w j d))
    → AllNear sh ram cs (put vs c us) w
near-put sh ram cs vs w c us f g j d = either j c
    (λ e. rw e (subst (λ z. ViewOf sh ram cs z c d (pair w c d)) (sym (put-own vs c us)) (f d)))
    (λ n. subst (λ z. ViewOf sh ram cs z j d (pair w j d)) (sym (put-other vs c j us n)) (g j d n))

-- instructions

-- no TID is on its way to a core that runs
running-bound : (v : Pair) (b : Option ℕ) → RequestOf v → v.core.phase ≡ Running → IsBound b v → b ≡ None
unfolding holder waits_for_tid has_tid
running-bound v a r e i = grind (nats, grant-any)

not-halted : {q : Phase} → Acts q → q ≡ Halted → ⊥
not-halted a e = rw e at a

-- a valid word that isn't modified is near when it is used
used-near : {sh : Shape} {gs : List Grant} {ys : Ways} (ram : ℕ → ℕ) (h : History) → Carried sh gs ys h
    → UnmodifiedWords sh ram h.world h.commits → (c d : ℕ) (b : Option ℕ) → c < sh.cores → d < sh.dirs → Acts (h.world.cores c).phase
    → IsBound b (pair h.world c d) → (x y : ℕ) → (h.world.cores c).cache.modified x ≡ false → (h.world.cores c).cache.value x ≡ Some y
    → NearAt sh ram h.commits c d b (pair h.world c d) x y
unfolding pair
used-near {sh} ram h k um c d b cl dl a i x y mo va e = go (h.world.cores c).phase refl a (um c d x y cl dl e va mo)
  where
    go : (q : Phase) → (h.world.cores c).phase ≡ q → Acts q → (y ≡ value_at sh.base ram h.commits (h.world.dirs d) (Some c) None x)
        ⊎ (1 ≤ live (InvWord x) (pair h.world c d).back)
        → (y ≡ value_at sh.base ram h.commits (h.world.dirs d) (Some c) b x) ⊎ (1 ≤ live (dooms b x) (pair h.world c d).back)
    go Running q a r = let z : b ≡ None = running-bound (pair h.world c d) b (k.one_tid_request_or_grant c d) q i in rw z r
    go (Solo t) q a (inl r) = let z : b ≡ Some t = bound-own k c d t b cl (solo-holds q) i in
        rw z (inl (r ∙ solo-value ram h k c d t x cl dl q))
    go (Solo t) q a (inr r) = absurd (omega (arith, r, solo-undoomed k c d x None cl dl (rw q)))
    go AwaitTid q a r = absurd a
    go DoomedTid q a r = absurd a
    go (Probing t) q a r = absurd a
    go (Ready t) q a r = absurd a
    go (Overflowing t) q a r = absurd a
    go Halted q a r = absurd a

-- a commit changes no value for another core
unapplied : {sh : Shape} {gs : List Grant} {ys : Ways} (h : History) → Carried sh gs ys h → CarriedInMemory sh h → (c d t x : ℕ)
    → c < sh.cores → d < sh.dirs → ((h.world.cores c).phase ≡ Ready t) ⊎ ((h.world.cores c).phase ≡ Solo t) → home_of sh x ≡ d
    → stores_word sh.base (h.world.cores c).stores x ≡ true → is_applied (h.world.dirs d) t ≡ false
unfolding opens has_tid
unapplied {sh} h k m c d t x cl dl ph e s = served-unapplied
    (open-served k c d t cl dl (holds ph) (opened ph) (k.directory_that_replied_serves_the_tid.replied c d cl dl (commits ph)))
  where
    eq : (t == t) ≡ true
    eq = eq-self t

    holds : ((h.world.cores c).phase ≡ Ready t) ⊎ ((h.world.cores c).phase ≡ Solo t) → has_tid (h.world.cores c).phase t ≡ true
    holds a = grind nats

    commits : ((h.world.cores c).phase ≡ Ready t) ⊎ ((h.world.cores c).phase ≡ Solo t) → may_commit (h.world.cores c).phase ≡ true
    commits a = grind nats

    modified : (h.world.cores c).phase ≡ Ready t → (h.world.cores c).cache.modified x ≡ true
    modified q = grind nats

    opened : ((h.world.cores c).phase ≡ Ready t) ⊎ ((h.world.cores c).phase ≡ Solo t)
        → opens (h.world.cores c).phase (writes_at sh (h.world.cores c).cache d) t ≡ true
    opened (inl q) =
        let a : writes_at sh (h.world.cores c).cache (home_of sh x) ≡ true =
        (marks_at_homes sh (h.world.cores c).cache (k.frames_stand_in_their_sets c) (m.frames_are_of_lines_in_memory c)).modified x
        (modified q) in
        rw (q, rw e at a) (rw eq)
    opened (inr q) = rw q eq

silent-other : {sh : Shape} {gs : List Grant} {ys : Ways} (h : History) → Carried sh gs ys h → CarriedInMemory sh h
    → (c d j t x : ℕ) (n : Noted) (b : Option ℕ) → c < sh.cores → d < sh.dirs → j ≢ c
    → ((h.world.cores c).phase ≡ Ready t) ⊎ ((h.world.cores c).phase ≡ Solo t) → n.tid.0 ≡ t → n.core.0 ≡ c
    → n.stores ≡ (h.world.cores c).stores → home_of sh x ≡ d → IsSilent sh.base (h.world.dirs d) (Some j) b x n
unfolding counts
silent-other {sh} h k m c d j t x n b cl dl ne ph tn cn st e = elim (tested (stores_word sh.base n.stores x)) [
  | inr q ↦ inr q
  | inl q ↦ let a : is_applied (h.world.dirs d) n.tid.0 ≡ false = rw tn (unapplied h k m c d t x cl dl ph e (rw st at q)) in
      let o : (j == n.core.0) ≡ false = rw cn (differ j c ne) in
      inl (rw (o, a) ((elim (is_below b n.tid.0) as (λ a. (a && false) ≡ false) [ true ↦ refl | false ↦ refl ])))
]

exec-views : (sh : Shape) (p : Program) (gs : List Grant) (ys : Ways) (ram : ℕ → ℕ) (vs : Views) (h : History) → Carried sh gs ys h
    → CarriedInMemory sh h → UnmodifiedWords sh ram h.world h.commits → AllNear sh ram h.commits vs h.world → (c : ℕ) → c < sh.cores
    → IfSome (core_exec sh p c (h.world.cores c))
    (λ o. AllNear sh ram (and_noted o.commit h.commits) (put vs c (uses_executed (Some o) (vs c) (new_uses sh p h.world c)))
    (core_moves h.world c o))
unfolding pair core_moves
exec-views sh p gs ys ram vs h k m um near c cl = IfSome_then (core_exec sh p c w_core) (exec-view sh p c w_core) kind
  where
    w_core : CoreState
    w_core = h.world.cores c

    new : Uses
    new = new_uses sh p h.world c

    goes : (o : Out) → Acts w_core.phase → Keeps w_core o.core → AllNear sh ram h.commits (put vs c (vs c ++ new)) (core_moves h.world c o)
    goes o a q = pairs_move (λ j d v. ViewOf sh ram h.commits (put vs c (vs c ++ new) j) j d v) h.world c o
        (λ d. view-moves d o q (all c d)) all
      where
        mine : (d : ℕ) → ViewOf sh ram h.commits (vs c ++ new) c d (pair h.world c d)
        mine d = record {
          near = λ b cl dl i. each-append (NearAt sh ram h.commits c d b (pair h.world c d)) (vs c) new ((near c d).near b cl dl i)
              (used-each (NearAt sh ram h.commits c d b (pair h.world c d)) sh.base w_core (p.need w_core.local)
              (used-near ram h k um c d b cl dl a i));
          halted = λ e. absurd (not-halted a e);
        }

        all : AllNear sh ram h.commits (put vs c (vs c ++ new)) h.world
        all = near-put sh ram h.commits vs h.world c (vs c ++ new) mine (λ j d n. near j d)

    commits : (o : Out) (t : ℕ) (n : Noted) → (w_core.phase ≡ Ready t) ⊎ (w_core.phase ≡ Solo t) → n.tid.0 ≡ t → n.core.0 ≡ c
        → n.stores ≡ w_core.stores → AllNear sh ram (insert_commit n h.commits) (put vs c []) (core_moves h.world c o)
    commits o t n ph tn cn st = pairs_move (λ j d v. ViewOf sh ram (insert_commit n h.commits) (put vs c [] j) j d v) h.world c o
        (λ d. subst (λ z. ViewOf sh ram (insert_commit n h.commits) z c d (after d)) (sym (put-own vs c []))
        (view-empty sh ram (insert_commit n h.commits) c d (after d))) (near-put sh ram (insert_commit n h.commits) vs h.world c []
        (λ d. view-empty sh ram (insert_commit n h.commits) c d (pair h.world c d)) others)
      where
        after : ℕ → Pair
        after d = after_move (pair h.world c d) o d

        others : (j d : ℕ) → j ≢ c → ViewOf sh ram (insert_commit n h.commits) (vs j) j d (pair h.world j d)
        others j d ne = record {
          near = λ b jl dl i. each-one (NearAt sh ram h.commits j d b (pair h.world j d))
              (NearAt sh ram (insert_commit n h.commits) j d b (pair h.world j d)) (vs j)
              (λ x y f e. one b dl x y e (f e)) ((near j d).near b jl dl i);
          halted = (near j d).halted;
        }
          where
            one : (b : Option ℕ) → d < sh.dirs → (x y : ℕ) → home_of sh x ≡ d
                → (y ≡ value_at sh.base ram h.commits (h.world.dirs d) (Some j) b x) ⊎ (1 ≤ live (dooms b x) (pair h.world j d).back)
                → (y ≡ value_at sh.base ram (insert_commit n h.commits) (h.world.dirs d) (Some j) b x)
                ⊎ (1 ≤ live (dooms b x) (pair h.world j d).back)
            one b dl x y e (inl r) = inl (r ∙ sym (value-skip sh.base ram n h.commits (h.world.dirs d) (Some j) b x
                (silent-other h k m c d j t x n b cl dl ne ph tn cn st e)))
            one b dl x y e (inr r) = inr r

    kind : (o : Out) → Exec w_core c o → AllNear sh ram (and_noted o.commit h.commits) (put vs c (uses_executed (Some o) (vs c) new))
        (core_moves h.world c o)
    kind o (Goes a e q) = rw e (goes o a q)
    kind o (Commits_own t n ph e tn cn st) = rw e (commits o t n ph tn cn st)

-- evictions
evict-views : (sh : Shape) (ram : ℕ → ℕ) (vs : Views) (h : History) → AllNear sh ram h.commits vs h.world → (c x y : ℕ)
    → IfSome (core_evict sh x y (h.world.cores c)) (λ o. AllNear sh ram (and_noted o.commit h.commits) vs (core_moves h.world c o))
unfolding pair core_moves
evict-views sh ram vs h near c x y = IfSome_then (core_evict sh x y (h.world.cores c)) (evict-view sh x y (h.world.cores c)) (λ o a.
    rw a.0 (pairs_move (λ j d v. ViewOf sh ram h.commits (vs j) j d v) h.world c o (λ d. view-moves d o a.1 (near c d)) near))

-- Every event keeps that a viewed word has the value that it has for its core, or that the attempt is doomed.

-- What a core takes from the vendor and from directories, and what the vendor grants, leaves every core's view near.

-- a grant
grant-views : {sh : Shape} {gs : List Grant} {ys : Ways} (ram : ℕ → ℕ) (vs : Views) (h : History) → Carried sh gs ys h
    → AllNear sh ram h.commits vs h.world → ((c : ℕ) → (h.world.cores c).phase ≡ DoomedTid → vs c ≡ []) → (c k u : ℕ)
    → in_flight h.world.net Vendor (Core c) k ≡ Some (TidGrant u)
    → AllNear sh ram (and_noted (grant sh u (h.world.cores c)).commit h.commits) (put vs c (vs c))
    (core_takes h.world Vendor c k (grant sh u (h.world.cores c)))
unfolding pair
grant-views {sh} ram vs h y near dm c k u i =
    go (grant-view sh u (h.world.cores c) (vs c) (granted_waits (pair h.world c 0) k i (y.one_tid_request_or_grant c 0)) (dm c))
  where
    o : Out
    o = grant sh u (h.world.cores c)

    after : ℕ → Pair
    after d = after_move (grant_taken (pair h.world c d) k) o d

    own : Gets u (h.world.cores c) (vs c) o → (d : ℕ) → ViewOf sh ram h.commits (vs c) c d (after d)
    own (inl e) d = subst (λ z. ViewOf sh ram h.commits z c d (after d)) (sym e) (view-empty sh ram h.commits c d (after d))
    own (inr g) d = view-grants d k u o i g.0 g.1 (near c d)

    go : (o.commit ≡ None) × Gets u (h.world.cores c) (vs c) o
        → AllNear sh ram (and_noted o.commit h.commits) (put vs c (vs c)) (core_takes h.world Vendor c k o)
    go a = subst (λ z. AllNear sh ram (and_noted z h.commits) (put vs c (vs c)) (core_takes h.world Vendor c k o)) (sym a.0)
        (pairs_grant (λ j d v. ViewOf sh ram h.commits (put vs c (vs c) j) j d v) h.world c k o
        (λ d. subst (λ z. ViewOf sh ram h.commits z c d (after d)) (sym (put-own vs c (vs c))) (own a.1 d))
        (near-put sh ram h.commits vs h.world c (vs c) (near c) (λ j d n. near j d)))

-- an invalidation that rolls nothing back dooms no use
none-of : {b : Bool} → num b ≤ 0 → b ≡ false
none-of l = grind nats

spares-inv : {sh : Shape} {gs : List Grant} {ys : Ways} (h : History) → Carried sh gs ys h → (c d k l n u x y : ℕ) (b : Option ℕ)
    → c < sh.cores → d < sh.dirs → FromDir h.world d c k (Inv l n u) → is_violated l n u (h.world.cores c) ≡ false
    → IsBound b (pair h.world c d) → IsSeen (h.world.cores c).cache (h.world.cores c).phase x y → passes (dooms b x) (Inv l n u) ≡ false
unfolding pair is_violated passes
spares-inv h k' c d k l n u x y b cl dl i v g s = go (passes (dooms b x) (Inv l n u)) refl
  where
    hits : (b : Option ℕ) → passes (dooms b x) (Inv l n u) ≡ true → hit l n x ≡ true
    hits a q = grind nats

    ahead : (a b : Bool) → a ≡ true → (a && b) ≡ false → b ≡ false
    ahead true b f q = q
    ahead false b f q = absurd (cc)

    below : (t : ℕ) → t ≤ u → b ≡ Some t → passes (dooms b x) (Inv l n u) ≡ true → ⊥
    below t a e q = let z : (hit l n x && nat_lt u t) ≡ true = rw e at q in grind nats

    no : passes (dooms b x) (Inv l n u) ≡ true → IsSeen (h.world.cores c).cache (h.world.cores c).phase x y → ⊥
    no q (inl r) =
        let f = hits b q in
        let a = ahead (reads_masked l n (h.world.cores c).cache) (may_be_above u (h.world.cores c).phase)
        (hit-reads l n (h.world.cores c).cache x r f (hit-line l n x f)) v in
        let t = tid-ahead u (h.world.cores c).phase a in
        below t.0 t.2 (bound-own k' c d t.0 b cl t.1 g) q
    no q (inr r) = let o : num (passes (dooms b x) (Inv l n u)) ≡ 1 = ap num q in
        omega (arith, o, solo-undoomed k' c d x b cl dl r, live-some (dooms b x) (to_core h.world d c) k (Inv l n u) i)

    go : (q : Bool) → passes (dooms b x) (Inv l n u) ≡ q → q ≡ false
    go false q = refl
    go true q = absurd (no q s)

spares : {sh : Shape} {gs : List Grant} {ys : Ways} (h : History) → Carried sh gs ys h → (c d k x y : ℕ) (m : Msg) (b : Option ℕ)
    → c < sh.cores → d < sh.dirs → FromDir h.world d c k m → Spares (h.world.cores c) m → IsBound b (pair h.world c d)
    → IsSeen (h.world.cores c).cache (h.world.cores c).phase x y → passes (dooms b x) m ≡ false
unfolding passes
spares h k' c d k x y m b cl dl i v g s = go m i v
  where
    other : (m : Msg) → num (passes Invs m) ≡ 0 → passes (dooms b x) m ≡ false
    other m e = none-of (omega (arith, few-doom))

    go : (m : Msg) → FromDir h.world d c k m → Spares (h.world.cores c) m → passes (dooms b x) m ≡ false
    go (Inv l n u) i v = spares-inv h k' c d k l n u x y b cl dl i v g s
    go m i v = other m refl

-- a message of a directory
back-views : (sh : Shape) (gs : List Grant) (ys : Ways) (ram : ℕ → ℕ) (vs : Views) (h : History) → Carried sh gs ys h
    → AllSeen vs h.world → AllNear sh ram h.commits vs h.world → ((c : ℕ) → (h.world.cores c).phase ≡ DoomedTid → vs c ≡ [])
    → (c d k : ℕ) (m : Msg) → FromDir h.world d c k m
    → IfSome (from_dir sh d (h.world.cores c) m)
    (λ o. AllNear sh ram (and_noted o.commit h.commits) (put vs c (uses_delivered (h.world.cores c) m (vs c)))
    (core_takes h.world (Dir d) c k o))
unfolding pair
back-views sh gs ys ram vs h y seen near dm c d k m i =
    IfSome_then (from_dir sh d (h.world.cores c) m) (back-view sh d (h.world.cores c) m (vs c) (dm c) (near c 0).halted) kind
  where
    us : Uses
    us = uses_delivered (h.world.cores c) m (vs c)

    at-home : Out → Pair
    at-home o = after_move (back_taken (pair h.world c d) k) o d

    away : Out → ℕ → Pair
    away o e = after_move (pair h.world c e) o e

    put-view : (zs : Uses) (e : ℕ) (v : Pair) → ViewOf sh ram h.commits zs c e v → ViewOf sh ram h.commits (put vs c zs c) c e v
    put-view zs e v x = subst (λ z. ViewOf sh ram h.commits z c e v) (sym (put-own vs c zs)) x

    empties : (o : Out) → AllNear sh ram h.commits (put vs c []) (core_takes h.world (Dir d) c k o)
    empties o = pairs_back (λ j e v. ViewOf sh ram h.commits (put vs c [] j) j e v) h.world d c k o
        (put-view [] d (at-home o) (view-empty sh ram h.commits c d (at-home o)))
        (λ e n. put-view [] e (away o e) (view-empty sh ram h.commits c e (away o e)))
        (near-put sh ram h.commits vs h.world c [] (λ e. view-empty sh ram h.commits c e (pair h.world c e)) (λ j e n. near j e))

    stays : (o : Out) → Keeps (h.world.cores c) o.core → Spares (h.world.cores c) m
        → AllNear sh ram h.commits (put vs c (vs c)) (core_takes h.world (Dir d) c k o)
    stays o q f = pairs_back (λ j e v. ViewOf sh ram h.commits (put vs c (vs c) j) j e v) h.world d c k o
        (put-view (vs c) d (at-home o) (view-moves d o q (view-takes c d k m i
        (λ b cl dl g x z e s. spares h y c d k x z m b cl dl i f g s) (seen c) (near c d))))
        (λ e n. put-view (vs c) e (away o e) (view-moves e o q (near c e)))
        (near-put sh ram h.commits vs h.world c (vs c) (near c) (λ j e n. near j e))

    kind : (o : Out) → Back (h.world.cores c) m (vs c) o
        → AllNear sh ram (and_noted o.commit h.commits) (put vs c us) (core_takes h.world (Dir d) c k o)
    kind o (Empties e u) = subst (λ z. AllNear sh ram (and_noted z h.commits) (put vs c us) (core_takes h.world (Dir d) c k o)) (sym e)
        (subst (λ z. AllNear sh ram h.commits (put vs c z) (core_takes h.world (Dir d) c k o)) (sym u) (empties o))
    kind o (Stays e u q f) = subst (λ z. AllNear sh ram (and_noted z h.commits) (put vs c us) (core_takes h.world (Dir d) c k o)) (sym e)
        (subst (λ z. AllNear sh ram h.commits (put vs c z) (core_takes h.world (Dir d) c k o)) (sym u) (stays o q f))

-- the vendor gives
vendor-views : {sh : Shape} {gs : List Grant} {ys : Ways} (ram : ℕ → ℕ) (vs : Views) (h : History) → Carried sh gs ys h
    → AllNear sh ram h.commits vs h.world → (c k : ℕ) (a : Ask)
    → in_flight h.world.net (Core c) Vendor k ≡ Some (asking a) → AllNear sh ram h.commits vs (gives_to h.world c k a)
unfolding pair
vendor-views {sh} ram vs h y near c k a i = pairs_vendor (λ j d v. ViewOf sh ram h.commits (vs j) j d v) h.world c k a
    (λ d. view-given c d k (gift a)
    (λ e t. asking-none (pair h.world c d) k t (i ∙ ap Some (asks-tid a e)) (y.one_tid_request_or_grant c d))
    (λ cl dl x z f e. one d cl dl x z (f e)) (near c d))
    (λ j d n. view-other (gift a) (near j d))
  where
    one : (d : ℕ) → c < sh.cores → d < sh.dirs → (x z : ℕ) → (z ≡ value_at sh.base ram h.commits (h.world.dirs d) (Some c) None x)
        ⊎ (1 ≤ live (InvWord x) (pair h.world c d).back)
        → (z ≡ value_at sh.base ram h.commits (h.world.dirs d) (Some c) (Some h.world.next) x)
        ⊎ (1 ≤ live (dooms (Some h.world.next) x) (pair h.world c d).back)
    one d cl dl x z (inl r) = inl (r ∙ value-bounded sh.base ram h.commits (h.world.dirs d) c h.world.next x (λ n j q. listed-below y n j))
    one d cl dl x z (inr r) = inr (word-next h y c d x cl dl r)

-- the list's fact from what its pairs say, and the other way
from-pairs : {sh : Shape} {p : Program} (ram : ℕ → ℕ) {gs : List Grant} {ys : Ways} {vs : Views} {h : History} → Carried sh gs ys h
    → CarriedViews sh p vs h → AllPairs (λ c d v. ViewOf sh ram h.commits (vs c) c d v) h.world
    → ViewedWords sh ram h.world h.commits vs × HaltedUsesNone h.world vs
unfolding pair
from-pairs {sh} ram {vs} {h} k q a = (viewed, λ c e. (a c 0).halted e)
  where
    viewed : ViewedWords sh ram h.world h.commits vs
    viewed c d b cl dl i = each-two (NearAt sh ram h.commits c d b (pair h.world c d))
        (IsSeen (h.world.cores c).cache (h.world.cores c).phase)
        (λ x y. home sh (line_of x) ≡ d → (y ≡ value_at sh.base ram h.commits (h.world.dirs d) (Some c) b x)
        ⊎ IsDoomed b x (pair h.world c d)) (vs c) one ((a c d).near b cl dl i)
        (uses-seen (h.world.cores c).cache (h.world.cores c).phase (vs c) (q.read_marks_are_the_view c).stand (λ e. (a c 0).halted e))
      where
        one : (x y : ℕ) → NearAt sh ram h.commits c d b (pair h.world c d) x y → IsSeen (h.world.cores c).cache (h.world.cores c).phase x y
            → home_of sh x ≡ d → (y ≡ value_at sh.base ram h.commits (h.world.dirs d) (Some c) b x) ⊎ IsDoomed b x (pair h.world c d)
        one x y n s e = elim (n e) [ inl r ↦ inl r | inr r ↦ inr (doomed-again h k c d x y b cl dl e i s r) ]

to-pairs : (sh : Shape) (ram : ℕ → ℕ) (vs : Views) (h : History) → ViewedWords sh ram h.world h.commits vs → HaltedUsesNone h.world vs
    → AllPairs (λ c d v. ViewOf sh ram h.commits (vs c) c d v) h.world
unfolding pair
to-pairs sh ram vs h a n c d =
    record {
      near = λ b cl dl i. each-one (λ x y. home sh (line_of x) ≡ d → (y ≡ value_at sh.base ram h.commits (h.world.dirs d) (Some c) b x)
          ⊎ IsDoomed b x (pair h.world c d)) (NearAt sh ram h.commits c d b (pair h.world c d)) (vs c) (λ x y f e. one b x y (f e))
          (a c d b cl dl i);
      halted = n c;
    }
  where
    one : (b : Option ℕ) (x y : ℕ) → (y ≡ value_at sh.base ram h.commits (h.world.dirs d) (Some c) b x) ⊎ IsDoomed b x (pair h.world c d)
        → (y ≡ value_at sh.base ram h.commits (h.world.dirs d) (Some c) b x) ⊎ (1 ≤ live (dooms b x) (pair h.world c d).back)
    one b x y (inl r) = inl r
    one b x y (inr r) = inr r.hit

-- the state after an event
abbrev After : History → Stepped → History
After h o = record { world = o.world; commits = and_noted o.noted h.commits }

abbrev Keeping : Shape → Program → (ℕ → ℕ) → History → Views → Stepped → Type 0
Keeping sh p ram h vs o = (gs : List Grant) (ys : Ways) → Carried sh gs ys (After h o) → CarriedViews sh p vs (After h o)
    → ViewedWords sh ram o.world (and_noted o.noted h.commits) vs × HaltedUsesNone o.world vs

pub keeps_views : KeepsViews
unfolding next_history
keeps_views sh p entries ram gs ys views m h e k =
    if_recorded _ h (step sh p h.world e) (λ o eq. got _ eq (event_cases sh p h.world views e (λ v x g. Keeping sh p ram h v)
    (λ c o eq l. after (put views c (uses_executed (Some o) (views c) (new_uses sh p h.world c))) (moved_by h.world c o)
    (got _ eq (exec-views sh p gs ys ram views h k.carried k.carried_in_memory k.unmodified_word_is_current_or_inv_in_flight near c l)))
    (λ c x y o eq l. after views (moved_by h.world c o) (got _ eq (evict-views sh ram views h near c x y)))
    (λ c i t q. after (put views c (views c))
    (taken_by h.world Vendor c i (grant sh t (h.world.cores c)))
    (grant-views ram views h k.carried near doomed c i t q))
    (λ c d i x o eq q. after (put views c (uses_delivered (h.world.cores c) x (views c))) (taken_by h.world (Dir d) c i o)
    (got _ eq (back-views sh gs ys ram views h k.carried seen near doomed c d i x q)))
    (λ c d i x l y q. answered c d i (dir_deliver sh (h.world.dirs d) c x)
    (answered-views sh gs ys ram views h c d i x k.carried k.carried_in_memory.commits_stay_in_memory seen near l q))
    (λ c i a q. after views (unnoted (gives_to h.world c i a))
    (vendor-views ram views h k.carried near c i a q)))
    (gs ++ granted_by h.world e) (ways_after (sent_by sh p h.world e) ys))
  where
    near : AllNear sh ram h.commits views h.world
    near = to-pairs sh ram views h k.viewed_word_is_current_or_doomed k.no_view_after_the_halt

    seen : AllSeen views h.world
    seen c = uses-seen (h.world.cores c).cache (h.world.cores c).phase (views c) (k.carried_views.read_marks_are_the_view c).stand
        (k.no_view_after_the_halt c)

    doomed : (c : ℕ) → (h.world.cores c).phase ≡ DoomedTid → views c ≡ []
    doomed c q = subst (UsesStand (h.world.cores c).cache (views c)) q (k.carried_views.read_marks_are_the_view c).stand

    after : (vs : Views) (o : Stepped) → AllNear sh ram (and_noted o.noted h.commits) vs o.world → Keeping sh p ram h vs o
    after vs o a gs ys y q = from-pairs ram y q a

    answered : (c d i : ℕ) (a : Answer) → OfAnswer h.world c d i (NearAfter sh ram h.commits views) a
        → OfAnswer h.world c d i (λ v. Keeping sh p ram h views (unnoted v)) a
    answered c d i Waits f = tt
    answered c d i Drops f = λ gs ys y q. from-pairs ram y q (f y.commit_is_on_its_way_or_applied)
    answered c d i (Asks s sends) f = λ gs ys y q. from-pairs ram y q (f y.commit_is_on_its_way_or_applied)
    answered c d i (Takes s sends) f = λ gs ys y q. from-pairs ram y q (f y.commit_is_on_its_way_or_applied)
