-- Every event keeps that a core which holds a line in memory is one of its sharers, or its Commit of the line is in flight.
use Rattle.theorem_serial.proofs
use proofs.Names
use Names.{eq-self as same, ℕ, ◌≡◌, ◌≤◌, ◌⊎◌, ◌&&◌, ◌||◌, Bool, true, false, nat_lt, List, arith, refl, ap, sym, ◌∙◌, inl, inr, Noted}
use Names.{keeps_unmodified, is_fresh, holds_line, CommitsLine, SharerOf, FillOf, GoneOf, live, Pair, ◌+◌, ◌<◌, ◌==◌, [], ◌∷◌, Some, None}
use Names.{subst, cases_lt, num, has_mark, Core, Dir, Msg, Shape, home, lines, DirState, Link, Sends, History, Kind, AckOf, Commits, among}
use Names.{passes, Grant, pair, Ways, wrote_line, Option, IfSome, Out, and_noted, insert_commit, KeptLoading, LoadOf, CommitsAbove, due}
use Names.{after_move, share, is_applied, stores_at, names_line, is_some, CoreState, Phase, Running, World, core_moves, dir_takes}
use Names.{KeptSharers, OneCore, acting, after_answer, out_taken, has_tid, ◌%◌, not, is_awaited, KeptHomes, LoadingOf, InvOf, LinesAway}
use Names.{nats, home_of, tid_at, to_dir, to_core, FromCore, FromDir, ◌≢◌, tested}
use proofs.Copies.{Before, new-of, writer-line, commit-passes, NewCommit, taken-commit, stored-home, applied-or, is_of, wrote-new}
use proofs.Copies.{wrote-other, commit-sent, wrote-unknown}
use proofs.Counts.{live-sends, total-le, live-takes, differ, either, moves-own, moves-other, pairs_dir}
use proofs.Lines.CoreHolds.{Holds, ReadsValid, HoldsTaken, Gone}
use proofs.Marks.DirRecords.{Shares, Records, Still, Came, Settles}
use proofs.Marks.AfterKept.{AfterStep}
use proofs.Marks.NamedKept.{lines-live}
use proofs.Marks.ReadsKept.{KeptReads}
use proofs.OneCore.{ValidOrPassed}
use proofs.Serving.{of-above}
use proofs.Tids.{live-some}
use proofs.Ways.{TellsCommit, Speaks}

-- What each kind of event does, between a core and the line's home, to that a core which holds a line is one of its sharers.

-- a core holds a line by a word that it keeps, or by a Fill that it will take
holds-cases : (l : ℕ) (v : Pair) → holds_line l v ≡ true → (keeps_unmodified v.core.cache l ≡ true)
    ⊎ ((is_fresh v.core.awaited ≡ true) × (1 ≤ live (FillOf l) v.back))
unfolding holds_line
holds-cases l v q = go (keeps_unmodified v.core.cache l) (is_fresh v.core.awaited) (nat_lt 0 (live (FillOf l) v.back)) refl q
  where
    go : (a b c : Bool) → nat_lt 0 (live (FillOf l) v.back) ≡ c → (a || (b && c)) ≡ true
        → (a ≡ true) ⊎ ((b ≡ true) × (1 ≤ live (FillOf l) v.back))
    go true b c r q = inl refl
    go false true true r q = inr (refl, grind nats)
    go false true false r q = absurd (cc)
    go false false c r q = absurd (cc)

holds-kept : (l : ℕ) (v : Pair) → keeps_unmodified v.core.cache l ≡ true → holds_line l v ≡ true
unfolding holds_line
holds-kept l v q = rw q

holds-fill : (l : ℕ) (v : Pair) → is_fresh v.core.awaited ≡ true → 1 ≤ live (FillOf l) v.back → holds_line l v ≡ true
unfolding holds_line
holds-fill l v q i = grind nats

-- a core's event: what it holds it held before, or it has committed the line and has acknowledged nothing of it
sharer-moved : {base : ℕ} {cs ds : List Noted} {c l : ℕ} {v w : Pair} → w.dir ≡ v.dir
    → (holds_line l w ≡ true → (holds_line l v ≡ true) ⊎ (CommitsLine base ds c l w × (live (GoneOf l) v.out ≡ 0)))
    → (CommitsLine base cs c l v → CommitsLine base ds c l w) → (holds_line l w ≡ true → live (GoneOf l) w.out ≡ live (GoneOf l) v.out)
    → SharerOf base cs c l v → SharerOf base ds c l w
sharer-moved {base} {ds} {c} {l} {v} {w} e f g u h = record { shares = λ q. shares (f q); stays = λ q. stays q (f q) }
  where
    shares : (holds_line l v ≡ true) ⊎ (CommitsLine base ds c l w × (live (GoneOf l) v.out ≡ 0))
        → (w.dir.lines.sharers l c ≡ true) ⊎ CommitsLine base ds c l w
    shares (inl x) = elim (h.shares x) [ inl x ↦ inl (rw e x) | inr x ↦ inr (g x) ]
    shares (inr x) = inr x.0

    stays : holds_line l w ≡ true → (holds_line l v ≡ true) ⊎ (CommitsLine base ds c l w × (live (GoneOf l) v.out ≡ 0))
        → live (GoneOf l) w.out ≡ 0
    stays q a = grind nats

-- a directory's answer, as a core sees it
pub record SharerStep (base : ℕ) (cs : List Noted) (c l : ℕ) (v w : Pair) : Type 0 where
  pub core : w.core ≡ v.core
  pub kept : v.dir.lines.sharers l c ≡ true → (w.dir.lines.sharers l c ≡ true) ⊎ (1 ≤ live (GoneOf l) v.out)
  pub commits : CommitsLine base cs c l v → (w.dir.lines.sharers l c ≡ true) ⊎ CommitsLine base cs c l w
  pub filled : (live (FillOf l) w.back ≤ live (FillOf l) v.back) ⊎ ((w.dir.lines.sharers l c ≡ true) × (live (GoneOf l) v.out ≡ 0))
  pub gone : live (GoneOf l) w.out ≤ live (GoneOf l) v.out

pub sharer-answered : {base : ℕ} {cs : List Noted} {c l : ℕ} (v w : Pair) → SharerStep base cs c l v w → SharerOf base cs c l v
    → SharerOf base cs c l w
sharer-answered {base} {cs} {c} {l} v w s h = record { shares = λ q. shares (held q); stays = λ q. stays (held q) }
  where
    -- it held the line before, or it is filled now
    held : holds_line l w ≡ true → (holds_line l v ≡ true) ⊎ ((w.dir.lines.sharers l c ≡ true) × (live (GoneOf l) v.out ≡ 0))
    held q = go (holds-cases l w q) s.filled
      where
        go : (keeps_unmodified w.core.cache l ≡ true) ⊎ ((is_fresh w.core.awaited ≡ true) × (1 ≤ live (FillOf l) w.back))
            → (live (FillOf l) w.back ≤ live (FillOf l) v.back) ⊎ ((w.dir.lines.sharers l c ≡ true) × (live (GoneOf l) v.out ≡ 0))
            → (holds_line l v ≡ true) ⊎ ((w.dir.lines.sharers l c ≡ true) × (live (GoneOf l) v.out ≡ 0))
        go (inl x) y = inl (holds-kept l v (ap (λ r. keeps_unmodified r.cache l) (sym s.core) ∙ x))
        go (inr x) (inl y) = inl (holds-fill l v (ap (λ r. is_fresh r.awaited) (sym s.core) ∙ x.0) (omega arith))
        go (inr x) (inr y) = inr y

    carried : holds_line l v ≡ true → (v.dir.lines.sharers l c ≡ true) ⊎ CommitsLine base cs c l v
        → (w.dir.lines.sharers l c ≡ true) ⊎ CommitsLine base cs c l w
    carried q (inl x) = elim (s.kept x) [ inl y ↦ inl y | inr y ↦ absurd (omega (arith, h.stays)) ]
    carried q (inr x) = s.commits x

    shares : (holds_line l v ≡ true) ⊎ ((w.dir.lines.sharers l c ≡ true) × (live (GoneOf l) v.out ≡ 0))
        → (w.dir.lines.sharers l c ≡ true) ⊎ CommitsLine base cs c l w
    shares (inl x) = carried x (h.shares x)
    shares (inr x) = inl x.0

    stays : (holds_line l v ≡ true) ⊎ ((w.dir.lines.sharers l c ≡ true) × (live (GoneOf l) v.out ≡ 0)) → live (GoneOf l) w.out ≡ 0
    stays a = grind nats

-- Every answer of a directory keeps that a core which holds a line is one of its sharers, or its Commit of the line is in flight.
pub gone-ack : (l : ℕ) (m : Msg) → num (passes (GoneOf l) m) ≤ num (passes (AckOf l) m)
unfolding passes
gone-ack l m = grind nats

pub gone-acks : (l : ℕ) (k : Link) → live (GoneOf l) k ≤ live (AckOf l) k
unfolding live
gone-acks l [] = omega arith
gone-acks l (None ∷ k) = gone-acks l k
gone-acks l (Some m ∷ k) = omega (arith, gone-ack, gone-acks l k)

-- the directory is s now, and has sent these messages; the message was consumed where it came from this core
pub record Seen (mine : Bool) (j : ℕ) (m : Msg) (s : DirState) (sends : Sends) (v w : Pair) : Type 0 where
  pub core : w.core ≡ v.core
  pub dir : w.dir ≡ s
  pub lives : (k : Kind) → live k w.out + num (mine && passes k m) ≡ live k v.out
  pub back : (k : Kind) → live k w.back ≡ live k v.back + among k (sends (Core j))

-- a Commit that the directory takes is of the lines that are marked
takes-commits : {sh : Shape} {gs : List Grant} {ys : Ways} (h : History) (c d k j l : ℕ) {mine : Bool} (m : Msg)
    (s : DirState) {sends : Sends} (w : Pair) → Before sh gs ys h → FromCore h.world c d k m → (j == c) ≡ mine → d < sh.dirs → l < lines sh
    → home sh l ≡ d → Seen mine j m s sends (pair h.world j d) w → Records sh (h.world.dirs d) c m s
    → Shares sh (h.world.dirs d) c m s sends → CommitsLine sh.base h.commits j l (pair h.world j d)
    → (w.dir.lines.sharers l j ≡ true) ⊎ CommitsLine sh.base h.commits j l w
takes-commits {sh} h c d k j l {mine} m s w b i z dl ll e a r f x = go r
  where
    same : num (mine && passes (Commits x.tid) m) ≡ 0 → (w.dir.lines.sharers l j ≡ true) ⊎ CommitsLine sh.base h.commits j l w
    same n = inr (record { tid = x.tid; sent = omega (arith, a.lives); line = x.line })

    none : (y : Bool) → passes (Commits x.tid) m ≡ false → num (y && passes (Commits x.tid) m) ≡ 0
    none a n = grind nats

    go : Records sh (h.world.dirs d) c m s → (w.dir.lines.sharers l j ≡ true) ⊎ CommitsLine sh.base h.commits j l w
    go (Still y n q) = same (none mine (n x.tid))
    go (Came y p o g q n) = same (none mine (n x.tid))
    go (Settles q g o n) = cases (j == c) (tid_at h.world d == x.tid) refl refl
      where
        cases : (p v : Bool) → (j == c) ≡ p → (tid_at h.world d == x.tid) ≡ v
            → (w.dir.lines.sharers l j ≡ true) ⊎ CommitsLine sh.base h.commits j l w
        cases false v e0 e1 = same (rw (sym z ∙ e0))
        cases true false e0 e1 = same (none mine (commit-passes sh (h.world.dirs d) m x.tid q ∙ e1))
        cases true true e0 e1 =
            let y : j ≡ c = grind nats in
            let t : tid_at h.world d ≡ x.tid = grind nats in
            let n' : wrote_line sh.base h.commits c (tid_at h.world d) l ≡ true =
            subst (λ p. wrote_line sh.base h.commits c p l ≡ true) (sym t)
            (subst (λ p. wrote_line sh.base h.commits p x.tid l ≡ true) y x.line) in
            let o' : has_mark (h.world.dirs d).lines l ≡ true = sym (writer-line h l ll e (taken-commit c d k b.told.all dl i q)) ∙ n' in
            inl (ap (λ u. u.lines.sharers l j) a.dir ∙ ap (s.lines.sharers l) y ∙ f.taken l q o')

answer-sharers : {sh : Shape} {gs : List Grant} {ys : Ways} {h : History} {c d : ℕ}
    (k : ℕ) {j l : ℕ} {mine : Bool} {m : Msg} {s : DirState} {sends : Sends} (w : Pair) → Before sh gs ys h → FromCore h.world c d k m
    → (j == c) ≡ mine → j < sh.cores → d < sh.dirs → l < lines sh → home sh l ≡ d → Seen mine j m s sends (pair h.world j d) w
    → Records sh (h.world.dirs d) c m s → Shares sh (h.world.dirs d) c m s sends → SharerOf sh.base h.commits j l (pair h.world j d)
    → SharerOf sh.base h.commits j l w
unfolding pair
answer-sharers {h} {c} {d} k {j} {l} {mine} {m} {s} {sends} w b i z jl dl ll e a r f =
    sharer-answered (pair h.world j d) w (record {
      core = a.core;
      kept = λ q. kept (f.kept l j q);
      commits = takes-commits h c d k j l m s w b i z dl ll e a r f;
      filled = filled (cases_lt 0 (among (FillOf l) (sends (Core j))));
      gone = omega (arith, a.lives);
    })
  where
    kept : (s.lines.sharers l j ≡ true) ⊎ ((j ≡ c) × (passes (GoneOf l) m ≡ true))
        → (w.dir.lines.sharers l j ≡ true) ⊎ (1 ≤ live (GoneOf l) (to_dir h.world j d))
    kept (inl q) = inl (ap (λ u. u.lines.sharers l j) a.dir ∙ q)
    kept (inr q) = let y : mine ≡ true = sym z ∙ (let p = q.0 in grind nats) in
        let n : num (mine && passes (GoneOf l) m) ≡ 1 = rw (y, q.1) in inr (omega (arith, a.lives (GoneOf l)))

    filled : (0 < among (FillOf l) (sends (Core j))) ⊎ (among (FillOf l) (sends (Core j)) ≤ 0)
        → (live (FillOf l) w.back ≤ live (FillOf l) (to_core h.world d j))
        ⊎ ((w.dir.lines.sharers l j ≡ true) × (live (GoneOf l) (to_dir h.world j d) ≡ 0))
    filled (inr q) = inl (omega (arith, a.back))
    filled (inl q) = let x = f.filled l j (omega arith) in let n : num (has_mark (h.world.dirs d).lines l) ≡ 0 = ap num x.1 in
        inr (
          ap (λ u. u.lines.sharers l j) a.dir ∙ x.0,
          omega (arith, (b.told.all.named j d l jl dl).one, gone-acks),
        )

-- Every event of a core keeps that a core which holds a line is one of its sharers, or its Commit of the line is in flight.
above-sent : (s t : ℕ) (ms : List Msg) → s < t → among (Commits t) ms ≤ among (CommitsAbove s) ms
unfolding among
above-sent s t [] l = omega arith
above-sent s t (m ∷ ms) l = omega (arith, of-above s t m l, above-sent s t ms l)

-- what a core's rule does that counts here
pub record Sharing (sh : Shape) (w : History) (c d l : ℕ) (o : Out) : Type 0 where
  pub holds : Holds sh l (w.world.cores c) o
  pub speaks : Speaks sh w.world c o
  pub after : AfterStep sh c (w.world.cores c) o
  pub quiet : among (GoneOf l) (o.sends (Dir d)) ≡ 0
  pub reached : among (CommitsAbove (tid_at w.world d)) (o.sends (Dir d)) ≡ 0
  pub unapplied : (n : Noted) → o.commit ≡ Some n → stores_at sh d n.stores ≡ true → is_applied (w.world.dirs d) n.tid.0 ≡ false

-- a directory that isn't owed anything has none acknowledged
unowed : {sh : Shape} {gs : List Grant} {ys : Ways} (h : History) (c d l : ℕ) → Before sh gs ys h → c < sh.cores → (h.world.dirs d).owed ≡ 0
    → live (GoneOf l) (to_dir h.world c d) ≡ 0
unfolding share due pair
unowed {sh} h c d l b cl z =
    omega (
      arith,
      gone-acks,
      (lines-live l 0 (to_dir h.world c d)).2,
      b.told.all.kept.told.owed.owed d,
      total-le
          (share due h.world d) sh.cores c cl,
    )

served-owed : (s : DirState) (t : ℕ) → t ≤ s.serving.serving → is_applied s t ≡ false → s.owed ≡ 0
served-owed s t l e = go (nat_lt t s.serving.serving) (t == s.serving.serving) (nat_lt 0 s.owed) refl refl refl (applied-or s t)
  where
    go : (a b c : Bool) → nat_lt t s.serving.serving ≡ a → (t == s.serving.serving) ≡ b → nat_lt 0 s.owed ≡ c
        → num (is_applied s t) ≡ num a + num (b && c) → s.owed ≡ 0
    go a b d p q r x = grind nats

pub own-sharers : {sh : Shape} {gs : List Grant} {ys : Ways} {h : History} {c d l : ℕ} (o : Out) → Before sh gs ys h
    → KeptLoading sh h.world → c < sh.cores → d < sh.dirs → l < lines sh → home sh l ≡ d → Sharing sh h c d l o
    → SharerOf sh.base h.commits c l (pair h.world c d)
    → SharerOf sh.base (and_noted o.commit h.commits) c l (after_move (pair h.world c d) o d)
unfolding pair
own-sharers {sh} {h} {c} {d} {l} o b ld cl dl ll e s k = sharer-moved refl
    (λ q. held (holds-cases l w q)) more (λ q. omega (arith, live-sends)) k
  where
    v : Pair
    v = pair h.world c d

    w : Pair
    w = after_move v o d

    new : {n : Noted} → o.commit ≡ Some n → n.core.0 ≡ c → NewCommit sh.base h.commits c d l v o n
    new q r = new-of l b cl dl ll e q r s.speaks

    stored : {n : Noted} → o.commit ≡ Some n → names_line sh.base n.stores l ≡ true → AfterStep sh c (h.world.cores c) o
        → CommitsLine sh.base (and_noted o.commit h.commits) c l w × (live (GoneOf l) v.out ≡ 0)
    stored q i (inl x) = absurd (let y = sym x.commit ∙ q in cc)
    stored {n} q i (inr x) =
        let y : NewCommit sh.base h.commits c d l v o n = new q core in (
          subst (λ a. CommitsLine sh.base (and_noted a h.commits) c l w) (sym q)
              (record {
                tid = n.tid.0;
                sent = omega (arith, y.sent, live-sends);
                line = (wrote-new sh.base n h.commits c n.tid.0 l core refl y.fresh).line ∙ i;
              }),
          unowed h c d l b cl (served-owed (h.world.dirs d) n.tid.0 below (s.unapplied n q (stored-home sh l n ll e i))),
        )
      where
        tells : {a : Option Noted} → a ≡ Some n → IfSome a (TellsCommit sh (h.world.cores c) o) → TellsCommit sh (h.world.cores c) o n
        tells f g = rw f at g

        core : n.core.0 ≡ c
        core =
            let same : Some x.noted ≡ Some n → n.core.0 ≡ c = λ z. let p : x.noted ≡ n = cc in rw p at x.core in
            same (sym x.commit ∙ q)

        below : n.tid.0 ≤ (tid_at h.world d)
        below = elim (cases_lt (tid_at h.world d) n.tid.0) [
          | inr z ↦ z
          | inl z ↦ absurd (omega (
            arith,
            s.reached,
            above-sent (tid_at h.world d) n.tid.0 (o.sends (Dir d)) z,
            commit-sent c d b.told cl
                (tells q s.speaks.tells.commits) dl (stored-home sh l n ll e i),
          ))
        ]

    held : (keeps_unmodified w.core.cache l ≡ true) ⊎ ((is_fresh w.core.awaited ≡ true) × (1 ≤ live (FillOf l) w.back))
        → (holds_line l v ≡ true) ⊎ (CommitsLine sh.base (and_noted o.commit h.commits) c l w × (live (GoneOf l) v.out ≡ 0))
    held (inl q) = elim (s.holds.kept q) [ inl x ↦ inl (holds-kept l v x) | inr x ↦ inr (stored x.noted x.line s.after) ]
    held (inr q) = elim (s.holds.fresh q.0) [
      | inl x ↦ inl (holds-fill l v x q.1)
      | inr x ↦ absurd (let y : live (LoadOf l) v.out + live (FillOf l) v.back ≡ 0 = rw x at (ld c d l) in omega arith)
    ]

    more : CommitsLine sh.base h.commits c l v → CommitsLine sh.base (and_noted o.commit h.commits) c l w
    more x = go s.after
      where
        sent : 1 ≤ live (Commits x.tid) w.out
        sent = omega (arith, live-sends)

        line : (n : Noted) → o.commit ≡ Some n → n.core.0 ≡ c → (a : Bool) → is_of c x.tid n ≡ a
            → wrote_line sh.base (insert_commit n h.commits) c x.tid l ≡ true
        line n q r false z = (wrote-other sh.base n h.commits c x.tid l z).line ∙ x.line
        line n q r true z = absurd (let t : n.tid.0 ≡ x.tid = tids (n.core.0 == c) (n.tid.0 == x.tid) refl z in
            let y = wrote-unknown sh.base h.commits c x.tid l (rw t at (new q r).fresh) in let u = x.line in cc)
          where
            tids : (a b : Bool) → (n.tid.0 == x.tid) ≡ b → (a && b) ≡ true → n.tid.0 ≡ x.tid
            tids true true p f = grind nats
            tids true false p f = absurd (cc)
            tids false b p f = absurd (cc)

        go : AfterStep sh c (h.world.cores c) o → CommitsLine sh.base (and_noted o.commit h.commits) c l w
        go (inl y) = subst (λ a. CommitsLine sh.base (and_noted a h.commits) c l w) (sym y.commit)
            (record { tid = x.tid; sent = sent; line = x.line })
        go (inr y) = subst (λ a. CommitsLine sh.base (and_noted a h.commits) c l w) (sym y.commit)
            (record { tid = x.tid; sent = sent; line = line y.noted y.commit y.core (is_of c x.tid y.noted) refl })

-- the words that a core which executes has marked read are valid
pub reads-valid : (sh : Shape) (w : World) (c : ℕ) → OneCore sh (w.cores c) → KeptReads sh w → 1 ≤ sh.dirs → acting (w.cores c).phase ≡ true
    → ReadsValid (w.cores c).cache
unfolding has_tid
reads-valid sh w c h k n q x r = go (w.cores c).phase refl
  where
    s : CoreState
    s = w.cores c

    valid : s.phase ≡ Running → ValidOrPassed (s.cache.value x) s.phase (tid_at w (home_of sh x)) → is_some (s.cache.value x) ≡ true
    valid e a = grind nats

    go : (p : Phase) → s.phase ≡ p → is_some (s.cache.value x) ≡ true
    go m e = grind nats

abbrev pub SharersAt : Shape → List Noted → (core dir : ℕ) → Pair → Type 0
SharersAt sh cs c d v = (l : ℕ) → c < sh.cores → d < sh.dirs → l < lines sh → home sh l ≡ d → SharerOf sh.base cs c l v

pub dir-sharers : {sh : Shape} {gs : List Grant} {ys : Ways} (h : History) (c d k : ℕ) (m : Msg) (s : DirState) {sends : Sends}
    → Before sh gs ys h → KeptSharers sh h.world h.commits → FromCore h.world c d k m → Records sh (h.world.dirs d) c m s
    → Shares sh (h.world.dirs d) c m s sends → (j e : ℕ) → SharersAt sh h.commits j e (pair (dir_takes h.world c d k s sends) j e)
unfolding pair
dir-sharers {sh} h c d k m s {sends} b t i r f = pairs_dir (SharersAt sh h.commits) h.world c d k s sends
    (λ l cl dl ll e. answer-sharers k (after_answer (out_taken (pair h.world c d) k) s (sends (Core c))) b
    i (same c) cl dl ll e (record {
      core = refl;
      dir = refl;
      lives = λ q. live-takes q (to_dir h.world c d) k m i;
      back = λ q. live-sends q (to_core h.world d c) (sends (Core c));
    }) r f (t c d l cl dl ll e))
    (λ j n l jl dl ll e. answer-sharers k (after_answer (pair h.world j d) s (sends (Core j))) b i
    (differ j c n) jl dl ll e
    (record {
      core = refl;
      dir = refl;
      lives = λ q. omega arith;
      back = λ q. live-sends q (to_core h.world d j) (sends (Core j));
    }) r f (t j d l jl dl ll e))
    t

-- another core's: what it wrote stays
other-sharers : {base : ℕ} (a : Option Noted) {cs : List Noted} (j l : ℕ) {v : Pair} → ((n : Noted) → a ≡ Some n → (n.core.0 == j) ≡ false)
    → SharerOf base cs j l v → SharerOf base (and_noted a cs) j l v
other-sharers {base} a {cs} j l {v} f h = go a refl
  where
    go : (x : Option Noted) → a ≡ x → SharerOf base (and_noted x cs) j l v
    go None e = h
    go (Some n) e = record { shares = λ q. more (h.shares q); stays = h.stays }
      where
        more : (v.dir.lines.sharers l j ≡ true) ⊎ CommitsLine base cs j l v
            → (v.dir.lines.sharers l j ≡ true) ⊎ CommitsLine base (insert_commit n cs) j l v
        more (inl x) = inl x
        more (inr x) =
            inr (record { tid = x.tid; sent = x.sent; line = (wrote-other base n cs j x.tid l (let y = f n e in rw y)).line ∙ x.line })

-- a core executes or evicts
pub moved-sharers : {sh : Shape} {gs : List Grant} {ys : Ways} (h : History) (c : ℕ) (o : Out) → Before sh gs ys h → KeptLoading sh h.world
    → KeptSharers sh h.world h.commits → AfterStep sh c (h.world.cores c) o
    → ((d l : ℕ) → d < sh.dirs → l < lines sh → home sh l ≡ d → Sharing sh h c d l o)
    → KeptSharers sh (core_moves h.world c o) (and_noted o.commit h.commits)
moved-sharers {sh} h c o b ld t a f j d = either j c
    (λ q. subst (λ i. SharersAt sh (and_noted o.commit h.commits) i d (pair (core_moves h.world c o) i d)) (sym q)
    (subst (SharersAt sh (and_noted o.commit h.commits) c d) (sym (moves-own h.world c o d))
    (λ l cl dl ll e. own-sharers o b ld cl dl ll e (f d l dl ll e) (t c d l cl dl ll e))))
    (λ n. subst (SharersAt sh (and_noted o.commit h.commits) j d) (sym (moves-other h.world c o j d n))
    (λ l jl dl ll e. other-sharers o.commit j l (λ x q. unlike x q n a) (t j d l jl dl ll e)))
  where
    unlike : (x : Noted) → o.commit ≡ Some x → j ≢ c → AfterStep sh c (h.world.cores c) o → (x.core.0 == j) ≡ false
    unlike x q n a = grind nats

-- A message that a core takes keeps that a core which holds a line is one of its sharers, or its Commit of the line is in flight.
fill-away : (n e l : ℕ) (m : Msg) → passes (FillOf l) m ≡ true → passes (LinesAway n e) m ≡ not ((l % n) == e)
unfolding passes
fill-away n e l a q = grind nats

-- a Fill comes from the line's home
fill-home : (sh : Shape) (w : World) (c e k l : ℕ) (m : Msg) → KeptHomes sh w → FromDir w e c k m
    → passes (FillOf l) m ≡ true → home sh l ≡ e
unfolding pair
fill-home sh w c e k l m h i q = elim (tested (home sh l == e)) [
  | inl p ↦ grind nats
  | inr p ↦ absurd (let n : num (passes (LinesAway sh.dirs e) m) ≡ 1 = ap num (fill-away sh.dirs e l m q) ∙ rw p in
      omega (arith, live-some (LinesAway sh.dirs e) (to_core w e c) k m i, (h c e l).back))
]

-- v is the core's pair, with the message or without
pub back-sharers : (sh : Shape) (w : World) (cs : List Noted) (c e d k l : ℕ) (m : Msg) (v : Pair) (o : Out) → KeptHomes sh w
    → home sh l ≡ d → FromDir w e c k m → v.core ≡ (pair w c d).core → v.dir ≡ (pair w c d).dir → v.out ≡ (pair w c d).out
    → live (FillOf l) v.back ≤ live (FillOf l) (pair w c d).back → HoldsTaken sh l (w.cores c) m o
    → (passes (InvOf l) m ≡ false → among (GoneOf l) (o.sends (Dir d)) ≡ 0) → LoadingOf sh d l (after_move v o d)
    → SharerOf sh.base cs c l (pair w c d) → SharerOf sh.base cs c l (after_move v o d)
unfolding pair
back-sharers sh w cs c e d k l m v o h q i vc vd vo vb f g ld t =
    sharer-moved vd (λ r. inl (held (holds-cases l x r))) more (λ r. gone r (passes (InvOf l) m) refl) t
  where
    u : Pair
    u = pair w c d

    x : Pair
    x = after_move v o d

    held : (keeps_unmodified o.core.cache l ≡ true) ⊎ ((is_fresh o.core.awaited ≡ true) × (1 ≤ live (FillOf l) v.back))
        → holds_line l u ≡ true
    held (inr r) = holds-fill l u (f.holds.fresh r.0) (omega arith)
    held (inl r) = elim (f.holds.kept r) [
      | inl y ↦ holds-kept l u y
      | inr y ↦ let z : e ≡ d = sym (fill-home sh w c e k l m h i y.0) ∙ q in
          let n : num (passes (FillOf l) m) ≡ 1 = ap num y.0 in
          let p : 1 ≤ live (FillOf l) (to_core w d c) = rw (sym z) (omega (arith, live-some (FillOf l) (to_core w e c) k m i)) in
          holds-fill l u y.1 p
    ]

    more : CommitsLine sh.base cs c l u → CommitsLine sh.base cs c l x
    more y = record {
      tid = y.tid;
      sent = let z : live (Commits y.tid) v.out ≡ live (Commits y.tid) u.out = rw vo in
          omega (arith, live-sends);
      line = y.line;
    }

    same : among (GoneOf l) (o.sends (Dir d)) ≡ 0 → live (GoneOf l) x.out ≡ live (GoneOf l) u.out
    same z = let y : live (GoneOf l) v.out ≡ live (GoneOf l) u.out = rw vo in
        omega (arith, live-sends)

    -- a core that says that it keeps no word holds none
    none : Gone l o.core → (keeps_unmodified o.core.cache l ≡ true) ⊎ ((is_fresh o.core.awaited ≡ true) × (1 ≤ live (FillOf l) v.back)) → ⊥
    none y (inl r) = let z = y.kept in absurd (cc)
    none y (inr r) = elim (tested (is_awaited o.core.awaited l)) [
      | inl p ↦ let z = y.stale p in let a = r.0 in absurd (cc)
      | inr p ↦ let z : live (LoadOf l) x.out + live (FillOf l) v.back ≡ 0 = rw p at ld in absurd (omega arith)
    ]

    gone : holds_line l x ≡ true → (b : Bool) → passes (InvOf l) m ≡ b → live (GoneOf l) x.out ≡ live (GoneOf l) u.out
    gone r false p = same (g p)
    gone r true p = elim (f.gone p) [ inl y ↦ same (rw q at y) | inr y ↦ absurd (none y (holds-cases l x r)) ]
