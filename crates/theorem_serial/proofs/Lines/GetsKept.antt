-- Every event keeps that of an asked line the request is in flight to the owner, or its words are on their way from the owner; then
-- sharers.
use Rattle.theorem_serial.proofs
use proofs.Names
use Names.{got, nothing, eq-self, line_of-word_at, ℕ, ◌≡◌, ◌≤◌, ◌⊎◌, Bool, true, false, [], ◌∷◌, ◌==◌, Some, if◌then◌else◌, arith, refl}
use Names.{sym, ap, ◌∙◌, inl, inr, Core, Msg, DataReq, Shape, DirState, Sends, to, Answer, Asks, Takes, dir_deliver, CopyOf, DataOf, among}
use Names.{passes, nats, ◌+◌, ◌<◌, ◌&&◌, List, None, IfSome, subst, Noted, Program, Local, num, line_of, word_at, cleaned, no_lines, Dir}
use Names.{Vendor, Fill, ProbeReply, Inv, Event, home, lines, CoreState, World, start, dir_start, Out, from_dir, grant, data_request, Waits}
use Names.{Drops, core_moves, core_takes, dir_takes, dir_asks, and_noted, step, GetsOf, KeptGets, live, Pair, pair}
use Names.{after_move, back_taken, out_taken, after_answer, is_this, to_dir, to_core, FromCore, FromDir, tested, any_below, any_word}
use Names.{empty_cache, core_start, KeptSharers, keeps_unmodified, holds_line, TidGrant, has_mark, cases_lt, in_flight, History, KeptNamed}
use Names.{KeptLoading, KeptHomes, LoadingOf, SharerOf, Kind, Commits, GoneOf, AckOf, Acks, InvOf, InvsAway, FillOf, Grant, grant_taken}
use Names.{is_applied, stores_at, Ways, tid_at}
use proofs.Counts.{Outcome, Waiting, Spent, AsksOwner, TakesCommit, TakesCopy, outcome, among-to, live-sends, live-takes, back-own}
use proofs.Counts.{pairs_move, pairs_grant, pairs_back, pairs_dir, pairs_asks, pairs_vendor, OfAnswer, step_cases, none-taken, back-away}
use proofs.Copies.{frame_copy, clean-frame, KeptLines, Before, LineCopies, of-line}
use proofs.Marks.DirRecords.{RecordsBy, dir-records, Shares, SharesBy, dir-shares, NoCommit}
use proofs.Lines.CoreHolds.{Holds, holds-exec, holds-evict, holds-grant, HoldsTaken, holds-back}
use proofs.Lines.SharersKept.{sharer-answered, gone-ack, gone-acks, SharersAt, reads-valid, dir-sharers, moved-sharers, own-sharers}
use proofs.Lines.SharersKept.{back-sharers}
use proofs.Marks.AfterKept.{AfterStep, Stays, after-exec, after-evict, after-grant, after-back}
use proofs.Marks.NamedKept.{lines-among, acks-line}
use proofs.Marks.ReadsKept.{KeptReads}
use proofs.Serving.{CommitsNoted, noted-exec, noted-evict, Served, served-exec, served-evict, served-grant, CleanOut, clean-exec}
use proofs.Serving.{clean-evict, clean-grant}
use proofs.Tids.{KeepsPart, part-exec, part-evict, live-some}
use proofs.Ways.{Tells, tells-exec, tells-evict, speaks, grant-speaks}
use proofs.Counts.{gift, gives_to, after_gift, after_other_gift}

-- What a directory's rules do to the lines of which it has asked the owner: it asks with a request, and a line that stays asked keeps its
-- owner, whose words don't come by this message.

-- the line stays asked, of the same owner, and the message isn't its copy
pub record StaysAsked (s : DirState) (m : Msg) (new : DirState) (l : ℕ) : Type 0 where
  pub asked : s.lines.asked l ≡ true
  pub owner : new.lines.owner l ≡ s.lines.owner l
  pub tag : new.lines.tag l ≡ s.lines.tag l
  pub other : passes (CopyOf l (s.lines.tag l)) m ≡ false

-- or the owner is asked now
abbrev pub AskedNow : DirState → Sends → DirState → (line : ℕ) → Type 0
AskedNow s sends new l = (s.lines.asked l ≡ true) ⊎ ((j : ℕ) → s.lines.owner l ≡ Some j → 1 ≤ among (DataOf l) (sends (Core j)))

abbrev pub GetsBy : DirState → Msg → Answer → Type 0
GetsBy s m (Asks new sends) = (l : ℕ) → new.lines.asked l ≡ true → AskedNow s sends new l
GetsBy s m (Takes new sends) = (l : ℕ) → new.lines.asked l ≡ true → StaysAsked s m new l
GetsBy s m _ = Unit {0}

dir-gets : (sh : Shape) (s : DirState) (c : ℕ) (m : Msg) → GetsBy s m (dir_deliver sh s c m)
unfolding passes
dir-gets sh s c m = go (outcome sh s c m)
  where
    -- the owner of the line is asked
    sent : (l o : ℕ) → s.lines.owner l ≡ Some o → (x : ℕ) (b : Bool) → (x == l) ≡ b → (if b then true else s.lines.asked x) ≡ true
        → (s.lines.asked x ≡ true) ⊎ ((j : ℕ) → s.lines.owner x ≡ Some j → 1 ≤ among (DataOf x) (to (Core o) (DataReq l ∷ []) (Core j)))
    sent l o e x true q r = inr (λ j w. let i : l ≡ x = grind nats in let y : Some o ≡ Some j = sym e ∙ ap s.lines.owner i ∙ w in
        let z : j ≡ o = cc in let n : among (DataOf x) (to (Core o) (DataReq l ∷ []) (Core j)) ≡ 1 = among-to (DataOf x) o j (DataReq l)
        ∙ rw (z, eq-self o, i, eq-self x) in omega arith)
    sent l o e x false q r = inl r

    go : {m : Msg} {a : Answer} → Outcome sh s c m a → GetsBy s m a
    go (Waiting m) = tt
    go (Spent m i) = tt
    go (AsksOwner m l o w e) = λ x r. sent l o e x (x == l) refl r
    go (TakesCommit b e) = λ x r. record { asked = grind nats; owner = grind nats; tag = grind nats; other = refl }
    go (TakesCopy m l k ws g y e o) = λ x r. record {
      asked = grind nats;
      owner = grind nats;
      tag = refl;
      other = grind (nats, y.alike (CopyOf x (s.lines.tag x)));
    }
    go _ = λ x r. record { asked = r; owner = refl; tag = refl; other = refl }

-- Every event keeps that of an asked line the request is in flight to the owner, or its words are on their way from the owner.

abbrev pub GetsAt : Shape → (core dir : ℕ) → Pair → Type 0
GetsAt sh c d v = (l : ℕ) → c < sh.cores → d < sh.dirs → l < lines sh → home sh l ≡ d → GetsOf c l v

-- a core only adds to what it has sent
gets-moved : (c d l : ℕ) (v : Pair) (o : Out) → GetsOf c l v → GetsOf c l (after_move v o d)
gets-moved c d l v o h a e = omega (arith, h, live-sends)

-- a core that is asked has no dirty word of the line in its frame any more
asked-clean : (sh : Shape) (e l : ℕ) (s : CoreState) (m : Msg) → passes (DataOf l) m ≡ true
    → IfSome (from_dir sh e s m) (λ o. (t : ℕ) → frame_copy o.core.cache l t ≡ 0)
unfolding passes data_request cleaned
asked-clean sh e l s (DataReq k) q = clean-frame (cleaned k s.cache) l
    (λ i j. (let y : (k == line_of (word_at l i)) ≡ true = (let z : line_of (word_at l i) ≡ l = line_of-word_at l i j in rw z q) in
    rw y))
asked-clean sh e l s (ProbeReply t v) q = absurd (cc)
asked-clean sh e l s (Fill k ws) q = absurd (cc)
asked-clean sh e l s (Inv k m u) q = absurd (cc)
asked-clean sh e l s _ q = tt

-- the request is taken: then the owner's one copy is on its way
gets-answered : (base : ℕ) (cs : List Noted) (c l : ℕ) (v : Pair) → LineCopies base cs c l v → ((t : ℕ) → frame_copy v.core.cache l t ≡ 0)
    → GetsOf c l v
gets-answered base cs c l v h z a e =
    let y : (c == c) ≡ true = grind nats in
    let x : num (is_this (v.dir.lines.owner l) c) ≡ 1 = rw (e, y) in
    omega (arith, of-line, z)

-- a message of core c is taken by a directory that keeps the line asked; mine: the message is this core's
gets-taken : (c l : ℕ) (mine : Bool) (m : Msg) (v w : Pair) → (w.dir.lines.asked l ≡ true → StaysAsked v.dir m w.dir l)
    → ((t : ℕ) → live (CopyOf l t) w.out + num (mine && passes (CopyOf l t) m) ≡ live (CopyOf l t) v.out)
    → live (DataOf l) v.back ≤ live (DataOf l) w.back → GetsOf c l v → GetsOf c l w
gets-taken c l mine m v w s f g h a e =
    let x = s a in
    let z : num (mine && passes (CopyOf l (v.dir.lines.tag l)) m) ≡ 0 = rw x.other (none mine) in
    let y : 1 ≤ live (DataOf l) w.back + live (CopyOf l (v.dir.lines.tag l)) w.out =
    omega (arith, h x.asked (sym x.owner ∙ e), f (v.dir.lines.tag l)) in
    rw x.tag y
  where
    none : (b : Bool) → num (b && false) ≡ 0
    none a = grind nats

-- a dropped message isn't the owner's copy
gets-dropped : (c l : ℕ) (m : Msg) (v w : Pair) → w.dir ≡ v.dir
    → (passes (CopyOf l (v.dir.lines.tag l)) m ≡ true → is_this (v.dir.lines.owner l) c ≡ false)
    → ((t : ℕ) → live (CopyOf l t) w.out + num (passes (CopyOf l t) m) ≡ live (CopyOf l t) v.out)
    → live (DataOf l) v.back ≤ live (DataOf l) w.back → GetsOf c l v → GetsOf c l w
gets-dropped c l m v w q u f g h a e =
    let y : 1 ≤ live (DataOf l) w.back + live (CopyOf l (v.dir.lines.tag l)) w.out =
    omega (arith, h (rw q at a) (rw q at e), f (v.dir.lines.tag l), none (passes (CopyOf l (v.dir.lines.tag l)) m) refl) in
    rw q y
  where
    none : (b : Bool) → passes (CopyOf l (v.dir.lines.tag l)) m ≡ b → num (passes (CopyOf l (v.dir.lines.tag l)) m) ≡ 0
    none a r = grind nats

pub step-gets : (sh : Shape) (p : Program) (w : World) (cs : List Noted) (e : Event) → KeptGets sh w
    → IfSome (step sh p w e) (λ o. KeptLines sh (and_noted o.noted cs) o.world → KeptGets sh o.world)
unfolding pair
step-gets sh p w cs e h = step_cases sh p w e (λ g o. KeptLines sh (and_noted o.noted cs) o.world → KeptGets sh o.world)
    (λ c o eq l. moved c o) (λ c x y o eq l. moved c o)
    (λ c k u i n. from (core_takes w Vendor c k (grant sh u (w.cores c))) (pairs_grant (GetsAt sh) w c k (grant sh u (w.cores c))
    (λ d l cl dl ll q. gets-moved c d l (pair w c d) (grant sh u (w.cores c)) (h c d l cl dl ll q)) at-pairs))
    (λ c d k m o eq i. taken c d k m i o (λ l q. got _ eq (asked-clean sh d l (w.cores c) m q)))
    (λ c d k m i. answered c d k m i (dir_deliver sh (w.dirs d) c m) (dir-records sh (w.dirs d) c m) (dir-gets sh (w.dirs d) c m))
    (λ c k a i n. from (gives_to w c k a)
    (pairs_vendor (GetsAt sh) w c k a (h c) (λ j d r l cl dl ll q. h j d l cl dl ll q)))
  where
    at-pairs : (c d : ℕ) → GetsAt sh c d (pair w c d)
    at-pairs c d l cl dl ll q = h c d l cl dl ll q

    from : (v : World) → ((c d : ℕ) → GetsAt sh c d (pair v c d)) → KeptGets sh v
    from v f c d l cl dl ll q = f c d l cl dl ll q

    moved : (c : ℕ) (o : Out) → KeptLines sh (and_noted o.commit cs) (core_moves w c o) → KeptGets sh (core_moves w c o)
    moved c o = λ n. from (core_moves w c o)
        (pairs_move (GetsAt sh) w c o (λ d l cl dl ll q. gets-moved c d l (pair w c d) o (h c d l cl dl ll q)) at-pairs)

    own : (c d k : ℕ) (m : Msg) (o : Out) → FromDir w d c k m
        → ((l : ℕ) → passes (DataOf l) m ≡ true → (t : ℕ) → frame_copy o.core.cache l t ≡ 0)
        → KeptLines sh (and_noted o.commit cs) (core_takes w (Dir d) c k o) → GetsAt sh c d (after_move (back_taken (pair w c d) k) o d)
    own c d k m o i f n l cl dl ll q = elim (tested (passes (DataOf l) m)) [
      | inl r ↦ gets-answered sh.base (and_noted o.commit cs) c l (after_move (back_taken (pair w c d) k) o d)
          (subst (LineCopies sh.base (and_noted o.commit cs) c l) (back-own w c k o d) (n c d l cl dl ll q)) (f l r)
      | inr r ↦ λ a e. (let z : num (passes (DataOf l) m) ≡ 0 = ap num r in
          omega (arith, h c d l cl dl ll q a e, live-takes (DataOf l) (to_core w d c) k m i, live-sends))
    ]

    taken : (c d k : ℕ) (m : Msg) → FromDir w d c k m → (o : Out)
        → ((l : ℕ) → passes (DataOf l) m ≡ true → (t : ℕ) → frame_copy o.core.cache l t ≡ 0)
        → KeptLines sh (and_noted o.commit cs) (core_takes w (Dir d) c k o) → KeptGets sh (core_takes w (Dir d) c k o)
    taken c d k m i o f = λ n. from (core_takes w (Dir d) c k o)
        (pairs_back (GetsAt sh) w d c k o (own c d k m o i f n) (λ b r l cl dl ll q. gets-moved c b l (pair w c b) o (h c b l cl dl ll q))
        at-pairs)

    more : (d j l : ℕ) (sends : Sends)
        → live (DataOf l) (to_core w d j) ≤ live (DataOf l) (after_answer (pair w j d) (w.dirs d) (sends (Core j))).back
    more d j l sends = omega (arith, live-sends)

    answered : (c d k : ℕ) (m : Msg) → FromCore w c d k m → (a : Answer) → RecordsBy sh (w.dirs d) c m a
        → GetsBy (w.dirs d) m a → OfAnswer w c d k (λ v. KeptLines sh cs v → KeptGets sh v) a
    answered c d k m i Waits u f = tt
    answered c d k m i Drops u f =
        λ n. from (dir_takes w c d k (w.dirs d) nothing) (pairs_dir (GetsAt sh) w c d k (w.dirs d) nothing
        (λ l cl dl ll q. gets-dropped c l m (pair w c d) (after_answer (out_taken (pair w c d) k) (w.dirs d) []) refl (u.other l)
        (λ t. live-takes (CopyOf l t) (to_dir w c d) k m i) (more d c l nothing) (h c d l cl dl ll q))
        (λ j r l jl dl ll q a e. omega (arith, h j d l jl dl ll q a e, more d j l nothing)) at-pairs)
    answered c d k m i (Asks s sends) u f =
        λ n. from (dir_asks w d s sends) (pairs_asks (GetsAt sh) w d s sends now at-pairs)
      where
        now : (j l : ℕ) → j < sh.cores → d < sh.dirs → l < lines sh → home sh l ≡ d
            → GetsOf j l (after_answer (pair w j d) s (sends (Core j)))
        now j l jl dl ll q a e = go (f l a)
          where
            was : (w.dirs d).lines.owner l ≡ Some j
            was = sym (u.owners l) ∙ e

            go : ((w.dirs d).lines.asked l ≡ true) ⊎ ((j : ℕ) → (w.dirs d).lines.owner l ≡ Some j → 1 ≤ among (DataOf l) (sends (Core j)))
                → 1 ≤ live (DataOf l) (after_answer (pair w j d) s (sends (Core j))).back + live (CopyOf l (s.lines.tag l)) (to_dir w j d)
            go a = grind (nats, live-sends)
    answered c d k m i (Takes s sends) u f = λ n. from (dir_takes w c d k s sends) (pairs_dir (GetsAt sh) w c d k s sends
        (λ l cl dl ll q. gets-taken c l true m (pair w c d) (after_answer (out_taken (pair w c d) k) s (sends (Core c))) (f l)
        (λ t. live-takes (CopyOf l t) (to_dir w c d) k m i) (more d c l sends) (h c d l cl dl ll q))
        (λ j r l jl dl ll q. gets-taken j l false m (pair w j d) (after_answer (pair w j d) s (sends (Core j))) (f l) (λ t. omega arith)
        (more d j l sends) (h j d l jl dl ll q)) at-pairs)

pub start-gets : (sh : Shape) (entries : ℕ → Local) (ram : ℕ → ℕ) → KeptGets sh (start entries ram)
unfolding start dir_start no_lines pair
start-gets sh entries ram c d l a b i e = λ x. absurd (cc)

-- Every event keeps that a core which holds a line in memory is one of its sharers, each kind of event by itself.

-- At the start no core holds a line.
empty-keeps : (l : ℕ) → keeps_unmodified empty_cache l ≡ false
unfolding keeps_unmodified empty_cache any_word any_below
empty-keeps l = refl

holds-none : (entries : ℕ → Local) (ram : ℕ → ℕ) (c d l : ℕ) → holds_line l (pair (start entries ram) c d) ≡ false
unfolding start core_start pair holds_line live
holds-none entries ram c d l = rw (empty-keeps l)

pub start-sharers : (sh : Shape) (entries : ℕ → Local) (ram : ℕ → ℕ) → KeptSharers sh (start entries ram) []
start-sharers sh entries ram c d l a b i e = record {
  shares = λ x. absurd (let y = holds-none entries ram c d l in cc);
  stays = λ x. absurd (let y = holds-none entries ram c d l in cc);
}

gone-among : (l : ℕ) (ms : List Msg) → among (GoneOf l) ms ≤ among (AckOf l) ms
unfolding among
gone-among l [] = omega arith
gone-among l (m ∷ ms) = omega (arith, gone-ack, gone-among l ms)

none-gone : (l : ℕ) (ms : List Msg) → among Acks ms ≡ 0 → among (GoneOf l) ms ≡ 0
none-gone l ms z = omega (arith, gone-among, (lines-among l 0 ms).2)

no-message : (k : Kind) → among k [] ≡ 0
unfolding among
no-message k = refl

-- what a taken grant leaves
regranted : {base : ℕ} {cs : List Noted} (c d k l : ℕ) (v : Pair) (o : Out) → SharerOf base cs c l (after_move v o d)
    → SharerOf base cs c l (after_move (grant_taken v k) o d)
regranted c d k l v o h = sharer-answered (after_move v o d) (after_move (grant_taken v k) o d)
    (record {
      core = refl;
      kept = inl;
      commits = λ x. inr (record { tid = x.tid; sent = x.sent; line = x.line });
      filled = inl (omega arith);
      gone = omega arith;
    }) h

-- the same with other links to and from the vendor, or with other records that don't count here
same-sharers : {base : ℕ} {cs : List Noted} {c l : ℕ} {v : Pair} (w : Pair) → w.core ≡ v.core
    → w.dir.lines.sharers l c ≡ v.dir.lines.sharers l c → w.out ≡ v.out → w.back ≡ v.back → SharerOf base cs c l v → SharerOf base cs c l w
same-sharers {v} w e f g i h = sharer-answered v w
    (record {
      core = e;
      kept = λ q. inl (f ∙ q);
      commits = λ x. inr (record { tid = x.tid; sent = rw g x.sent; line = x.line });
      filled = inl (rw i (omega arith));
      gone = rw g (omega arith);
    }) h

dropped-sharers : (sh : Shape) (h : History) (c d k : ℕ) (m : Msg) → KeptSharers sh h.world h.commits → FromCore h.world c d k m
    → NoCommit m → KeptSharers sh (dir_takes h.world c d k (h.world.dirs d) nothing) h.commits
unfolding pair
dropped-sharers sh h c d k m t i u = pairs_dir (SharersAt sh h.commits) h.world c d k (h.world.dirs d) nothing
    (λ l cl dl ll q. sharer-answered (pair h.world c d) (after_answer (out_taken (pair h.world c d) k) (h.world.dirs d) [])
    (record {
      core = refl;
      kept = inl;
      commits = λ x. inr (record {
        tid = x.tid;
        sent = (let z : num (passes (Commits x.tid) m) ≡ 0 = ap num (u x.tid) in
            omega (arith, live-takes (Commits x.tid) (to_dir h.world c d) k m i));
        line = x.line;
      });
      filled = inl (omega (arith, live-sends, none));
      gone = omega (arith, live-takes (GoneOf l) (to_dir h.world c d) k m i);
    }) (t c d l cl dl ll q))
    (λ j n l jl dl ll q. sharer-answered (pair h.world j d) (after_answer (pair h.world j d) (h.world.dirs d) [])
    (record {
      core = refl;
      kept = inl;
      commits = λ x. inr (record { tid = x.tid; sent = x.sent; line = x.line });
      filled = inl (omega (arith, live-sends, none));
      gone = omega arith;
    })
    (t j d l jl dl ll q))
    t
  where
    none : (l : ℕ) → among (FillOf l) [] ≡ 0
    none l = no-message (FillOf l)

asked-sharers : (sh : Shape) (h : History) (c d k : ℕ) (m : Msg) (s : DirState) (sends : Sends) → KeptNamed sh h.world
    → KeptSharers sh h.world h.commits → FromCore h.world c d k m → Shares sh (h.world.dirs d) c m s sends
    → KeptSharers sh (dir_asks h.world d s sends) h.commits
unfolding pair
asked-sharers sh h c d k m s sends g t i f = pairs_asks (SharersAt sh h.commits) h.world d s sends
    (λ j l jl dl ll q. sharer-answered (pair h.world j d) (after_answer (pair h.world j d) s (sends (Core j)))
    (record {
      core = refl;
      kept = λ x. kept j l (f.kept l j x);
      commits = λ x. inr (record { tid = x.tid; sent = x.sent; line = x.line });
      filled = filled j l jl dl (cases_lt 0 (among (FillOf l) (sends (Core j))));
      gone = omega arith;
    }) (t j d l jl dl ll q))
    t
  where
    kept : (j l : ℕ) → (s.lines.sharers l j ≡ true) ⊎ ((j ≡ c) × (passes (GoneOf l) m ≡ true))
        → (s.lines.sharers l j ≡ true) ⊎ (1 ≤ live (GoneOf l) (to_dir h.world j d))
    kept j l (inl x) = inl x
    kept j l (inr x) = let n : num (passes (GoneOf l) m) ≡ 1 = ap num x.1 in
        inr (rw x.0 (omega (arith, live-some (GoneOf l) (to_dir h.world c d) k m i)))

    filled : (j l : ℕ) → j < sh.cores → d < sh.dirs → (0 < among (FillOf l) (sends (Core j))) ⊎ (among (FillOf l) (sends (Core j)) ≤ 0)
        → (live (FillOf l) (after_answer (pair h.world j d) s (sends (Core j))).back ≤ live (FillOf l) (to_core h.world d j))
        ⊎ ((s.lines.sharers l j ≡ true) × (live (GoneOf l) (to_dir h.world j d) ≡ 0))
    filled j l jl dl (inr x) = inl (omega (arith, live-sends))
    filled j l jl dl (inl x) = let y = f.filled l j (omega arith) in let n : num (has_mark (h.world.dirs d).lines l) ≡ 0 =
        ap num y.1 in inr (y.0, omega (arith, (g j d l jl dl).one, gone-acks))

pub step-sharers : (sh : Shape) (p : Program) (gs : List Grant) (ys : Ways) (h : History) (e : Event) → Before sh gs ys h
    → KeptLoading sh h.world → KeptHomes sh h.world → KeptReads sh h.world → KeptSharers sh h.world h.commits
    → IfSome (step sh p h.world e) (λ o. KeptLoading sh o.world
    → ((n : Noted) (d : ℕ) → o.noted ≡ Some n → d < sh.dirs → stores_at sh d n.stores ≡ true
    → is_applied (h.world.dirs d) n.tid.0 ≡ false) → KeptSharers sh o.world (and_noted o.noted h.commits))
unfolding pair
step-sharers sh p gs ys h e b ld hm rd t = step_cases sh p h.world e (λ g o. KeptLoading sh o.world
    → ((n : Noted) (d : ℕ) → o.noted ≡ Some n → d < sh.dirs → stores_at sh d n.stores ≡ true
    → is_applied (h.world.dirs d) n.tid.0 ≡ false) → KeptSharers sh o.world (and_noted o.noted h.commits))
    (λ c o eq l. moved c o
    (λ x n. got _ eq (holds-exec x p c (b.told.all.cores c) (reads-valid sh h.world c (b.told.all.cores c) rd n)))
    (λ d u i. got _ eq (part-exec sh p c d u (h.world.cores c) i)) (got _ eq (tells-exec p c (b.told.all.cores c)))
    (got _ eq (noted-exec sh p c (h.world.cores c))) (got _ eq (after-exec p c (b.told.all.cores c)))
    (got _ eq (clean-exec sh p c (h.world.cores c))) (λ d. got _ eq (served-exec p c (b.told.all.kept.probes c d).core)))
    (λ c x y o eq l. moved c o (λ k n. got _ eq (holds-evict sh k x y (h.world.cores c)))
    (λ d u i. got _ eq (part-evict sh x y d u (h.world.cores c))) (got _ eq (tells-evict sh x y (h.world.cores c)))
    (got _ eq (noted-evict sh x y (h.world.cores c))) (got _ eq (after-evict sh c x y (h.world.cores c)))
    (got _ eq (clean-evict sh x y (h.world.cores c))) (λ d. got _ eq (served-evict sh x y d (tid_at h.world d) (h.world.cores c))))
    (λ c k u i n a. granted c k u i)
    (λ c d k m o eq i. taken c d k m i o (λ l. got _ eq (holds-back sh l d (h.world.cores c) m))
    (λ b l. got _ eq (acks-line sh d b l (h.world.cores c) m (not-away c d k m i)))
    (got _ eq (after-back sh d (h.world.cores c) m)))
    (λ c d k m i. answered c d k m i (dir_deliver sh (h.world.dirs d) c m) (dir-records sh (h.world.dirs d) c m)
    (dir-shares sh (h.world.dirs d) c m)) (λ c k a i n b. pairs_vendor (SharersAt sh h.commits) h.world c k a
    (λ d l cl dl ll q. same-sharers (after_gift (pair h.world c d) k (gift a)) refl refl refl refl
    (t c d l cl dl ll q)) (λ j d r l jl dl ll q. same-sharers
    (after_other_gift (pair h.world j d) (gift a)) refl refl refl refl (t j d l jl dl ll q)))
  where
    moved : (c : ℕ) (o : Out) → ((l : ℕ) → 1 ≤ sh.dirs → Holds sh l (h.world.cores c) o)
        → ((d u : ℕ) → d < sh.dirs → KeepsPart sh d u 0 (h.world.cores c) o) → Tells sh (h.world.cores c) o → CommitsNoted o
        → AfterStep sh c (h.world.cores c) o → CleanOut sh o → ((d : ℕ) → Served d (tid_at h.world d) o)
        → KeptLoading sh (core_moves h.world c o)
        → ((n : Noted) (d : ℕ) → o.commit ≡ Some n → d < sh.dirs → stores_at sh d n.stores ≡ true
        → is_applied (h.world.dirs d) n.tid.0 ≡ false) → KeptSharers sh (core_moves h.world c o) (and_noted o.commit h.commits)
    moved c o f q s n a z v = λ l u. moved-sharers h c o b ld t a
        (λ d l dl ll e. record {
          holds = f l (omega arith);
          speaks = speaks sh h.world c o q s n;
          after = a;
          quiet = none-gone l (o.sends (Dir d)) (z d).acks;
          reached = v d;
          unapplied = λ n q s. u n d q dl s;
        })

    granted : (c k u : ℕ) → in_flight h.world.net Vendor (Core c) k ≡ Some (TidGrant u)
        → KeptSharers sh (core_takes h.world Vendor c k (grant sh u (h.world.cores c)))
        (and_noted (grant sh u (h.world.cores c)).commit h.commits)
    granted c k u i =
        let o : Out = grant sh u (h.world.cores c) in
        let a = after-grant sh u (h.world.cores c) in
        pairs_grant (SharersAt sh (and_noted o.commit h.commits)) h.world c k o (λ d l cl dl ll q. regranted c d k l (pair h.world c d) o
        (own-sharers o b ld cl dl ll q
        (record {
          holds = holds-grant l u;
          speaks = grant-speaks c k b.told.all.kept.told.tids i;
          after = inl a;
          quiet = none-gone l (o.sends (Dir d)) (clean-grant sh u (h.world.cores c) d).acks;
          reached = served-grant sh u d (tid_at h.world d) (h.world.cores c);
          unapplied = λ n q s. absurd (let y = sym a.commit ∙ q in cc);
        }) (t c d l cl dl ll q)))
        (λ j d l jl dl ll q. subst (λ n. SharerOf sh.base (and_noted n h.commits) j l (pair h.world j d)) (sym a.commit)
        (t j d l jl dl ll q))

    not-away : (c d k : ℕ) (m : Msg) → FromDir h.world d c k m → passes (InvsAway sh.dirs d) m ≡ false
    not-away c d k m i = none-taken (InvsAway sh.dirs d) (to_core h.world d c) k i (b.told.all.kept.told.owed.at_home c d).invs

    taken : (c d k : ℕ) (m : Msg) → FromDir h.world d c k m → (o : Out) → ((l : ℕ) → HoldsTaken sh l (h.world.cores c) m o)
        → ((b l : ℕ) → among (AckOf l) (o.sends (Dir b)) ≤ num ((b == d) && passes (InvOf l) m)) → Stays (h.world.cores c) o
        → KeptLoading sh (core_takes h.world (Dir d) c k o)
        → ((n : Noted) (d : ℕ) → o.commit ≡ Some n → d < sh.dirs → stores_at sh d n.stores ≡ true
        → is_applied (h.world.dirs d) n.tid.0 ≡ false) → KeptSharers sh (core_takes h.world (Dir d) c k o) (and_noted o.commit h.commits)
    taken c d k m i o f g a = λ n u. subst (λ x. KeptSharers sh (core_takes h.world (Dir d) c k o) (and_noted x h.commits))
        (sym a.commit) (pairs_back (SharersAt sh h.commits) h.world d c k o
        (λ l cl dl ll q. back-sharers sh h.world h.commits c d d k l m (back_taken (pair h.world c d) k) o hm q i refl refl refl
        (omega (arith, live-takes (FillOf l) (to_core h.world d c) k m i)) (f l) (quiet d l)
        (subst (LoadingOf sh d l) (back-own h.world c k o d) (n c d l)) (t c d l cl dl ll q))
        (λ x r l cl dl ll q. back-sharers sh h.world h.commits c d x k l m (pair h.world c x) o hm q i refl refl refl (omega arith) (f l)
        (quiet x l) (subst (LoadingOf sh x l) (back-away h.world d c k o x r) (n c x l)) (t c x l cl dl ll q))
        t)
      where
        quiet : (x l : ℕ) → passes (InvOf l) m ≡ false → among (GoneOf l) (o.sends (Dir x)) ≡ 0
        quiet x l r = let z : num ((x == d) && passes (InvOf l) m) ≡ 0 = rw r (none (x == d)) in
            omega (arith, g, gone-among)
          where
            none : (b : Bool) → num (b && false) ≡ 0
            none true = refl
            none false = refl

    answered : (c d k : ℕ) (m : Msg) → FromCore h.world c d k m → (a : Answer)
        → RecordsBy sh (h.world.dirs d) c m a → SharesBy sh (h.world.dirs d) c m a
        → OfAnswer h.world c d k (λ v. KeptLoading sh v
        → ((n : Noted) (d : ℕ) → None ≡ Some n → d < sh.dirs → stores_at sh d n.stores ≡ true
        → is_applied (h.world.dirs d) n.tid.0 ≡ false) → KeptSharers sh v h.commits) a
    answered c d k m i Waits u f = tt
    answered c d k m i Drops u f = λ n a. dropped-sharers sh h c d k m t i u.commit
    answered c d k m i (Asks s sends) u f = λ n a. asked-sharers sh h c d k m s sends b.told.all.named t i f
    answered c d k m i (Takes s sends) u f = λ n a j x l jl dl ll q. dir-sharers h c d k m s b t i u f j x l jl dl ll q
