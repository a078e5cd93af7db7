-- Every event keeps the copies of each line in memory: the owner's one with the line's tag, and those of commits on their way with a
-- larger one. The facts of the list on copies follow from these, and the start has them.
use Rattle.theorem_serial.proofs
use proofs.Names
use Names.{got, ℕ, ◌+◌, ◌≡◌, ◌<◌, ◌≤◌, ◌==◌, false, List, Option, Some, None, IfSome, arith, refl, ap, sym, subst, inl, inr, Noted, num}
use Names.{Dir, Shape, home, lines, World, Out, core_moves, History, and_noted, insert_commit, KeptTags, KeptLineOwners, Commits, live}
use Names.{among, KeptRun, Grant, times, Pair, pair, after_move, share, part, Ways, part_in, nats, to_dir, true, [], Local, any_below}
use Names.{any_word, Cache, empty_cache, is_dirty, dirty_tag, dirty_mask, no_lines, start, core_start, dir_start, copies_with, AboveOf}
use Names.{KeptAbove, OwnedOf, KeptOwned, wrote, wrote_line, ◌≢◌, nothing, eq-self, ◌%◌, ◌⊎◌, Bool, not, cond, ◌∙◌, cases_lt, Core, Msg}
use Names.{Inv, InvsAway, passes, ◌&&◌, nat_lt, Contains, cases_eq, has_mark, DirState, Sends, dir_takes, dir_asks, CopyOf, after_answer}
use Names.{out_taken, is_applied, names_line, Program, Vendor, Event, grant, Answer, Waits, Drops, Asks, Takes, dir_deliver, core_takes}
use Names.{step, grant_taken, back_taken, is_this, tid_at, to_core, FromCore, FromDir, tested}
use proofs.Serving.{ofs-resolve, CommitsNoted, noted-exec, noted-evict, noted-grant, noted-back, commits_served, core_of_back}
use proofs.Marks.AfterKept.{AfterStep, Stays as AfterStays, after-exec, after-evict, after-grant, after-back}
use proofs.Copies.CopySends.{Conserves, frame_copy, frame_wrong}
use proofs.Ways.{TellsCommit, Tells, tells-exec, tells-evict, Speaks, speaks}
use proofs.Copies.CopyRules.{InMemory, uncommitted, commit-sent, few-resolves, SameWrote, wrote-other, BackStep, Kept, Invalidates}
use proofs.Copies.CopyRules.{copies-exec, copies-evict, copies-grant, copies-back, on-its-way, wrote-listed, no-writer}
use proofs.Copies.TagsKept.{untagged, stored-home, inv-tag, tag-below, stored-in, TakenCommit, taken-commit, Invalidating}
use proofs.Counts.{total-le, either, moves-own, moves-other, live-takes, differ, pairs_dir, pairs_asks, pairs_grant, pairs_back}
use proofs.Counts.{pairs_vendor, OfAnswer, step_cases}
use proofs.Tids.{positive-held, positive-committed, KeepsPart, part-exec, part-evict, live-some}
use proofs.Copies.PairCopies.{LineCopies, copies-moved, NewCommit, copies-committed, line_copies, line_wrong, Answered, none-passes}
use proofs.Copies.PairCopies.{still-similar, dropped-similar, came-similar, similar-copies, taken-copies, copies-lost}
use proofs.Marks.DirRecords.{RecordStays, Records, Still, Came, Settles, Dropped, RecordsBy, dir-records, CountsMarked}
use proofs.Counts.{gift, after_gift, after_other_gift}

-- Every event keeps the copies of each line in memory: the owner's one with the line's tag, and those of commits on their way with a
-- larger one.

-- the copies of a line between a core and a directory, where it is a line in memory and at home there
abbrev pub CopiesAt : Shape → List Noted → (core dir : ℕ) → Pair → Type 0
CopiesAt sh cs c d v = (l : ℕ) → c < sh.cores → d < sh.dirs → l < lines sh → home sh l ≡ d → LineCopies sh.base cs c l v

abbrev pub KeptLines : Shape → List Noted → World → Type 0
KeptLines sh cs w = (c d : ℕ) → CopiesAt sh cs c d (pair w c d)

-- what the lemmas below know of the state before the event
pub record Before (sh : Shape) (gs : List Grant) (ys : Ways) (h : History) : Type 0 where
  pub told : KeptRun sh gs ys h
  pub owners : KeptLineOwners gs h.world
  pub tags : KeptTags sh h.world h.commits
  pub lines : KeptLines sh h.commits h.world

-- a core's event

-- what a core's rule does to the copies, and what it says of TIDs and commits
pub record Acts (sh : Shape) (w : World) (c : ℕ) (o : Out) : Type 0 where
  pub copies : (l : ℕ) → InMemory sh l → Conserves sh l (w.cores c) o
  pub speaks : Speaks sh w c o
  pub after : AfterStep sh c (w.cores c) o

conserves-pair : {sh : Shape} (w : World) (c d : ℕ) {l : ℕ} {o : Out} → Conserves sh l (w.cores c) o → Conserves sh l (pair w c d).core o
unfolding pair
conserves-pair w c d k = k

-- a commit that the core notes
pub new-of : {sh : Shape} {gs : List Grant} {ys : Ways} {h : History} {c d : ℕ} (l : ℕ) {o : Out} {n : Noted} → Before sh gs ys h
    → c < sh.cores → d < sh.dirs → l < lines sh → home sh l ≡ d → o.commit ≡ Some n → n.core.0 ≡ c → Speaks sh h.world c o
    → NewCommit sh.base h.commits c d l (pair h.world c d) o n
unfolding pair share part part_in
new-of {sh} {h} {c} {d} l {o} {n} b cl dl ll e q r u = record {
  fresh = fresh;
  core = r;
  tag = λ s f. untagged sh h d l n.tid.0 b.tags dl ll e (positive-held c n.tid.0 b.told.all.owners tells.has) fresh f;
  sent = λ s. sent (commit-sent c d b.told cl tells dl (stored-home sh l n ll e s));
  others = λ t f. let z : among (Commits t) (o.sends (Dir d)) ≤ num (n.tid.0 == t) = rw q at (u.noted d t) in
      let y : num (n.tid.0 == t) ≡ 0 = ap num f in omega arith;
}
  where
    tells : TellsCommit sh (h.world.cores c) o n
    tells = of q u.tells.commits
      where
        of : {a : Option Noted} → a ≡ Some n → IfSome a (TellsCommit sh (h.world.cores c) o) → TellsCommit sh (h.world.cores c) o n
        of e y = rw e at y

    fresh : times n.tid.0 h.commits ≡ 0
    fresh = uncommitted c n.tid.0 b.told cl tells.has

    sent : 1 ≤ among (Commits n.tid.0) (o.sends (Dir d)) → live (Commits n.tid.0) (to_dir h.world c d) + among (Commits n.tid.0)
        (o.sends (Dir d)) ≡ 1
    sent s =
        let z : among (Commits n.tid.0) (o.sends (Dir d)) ≤ num (n.tid.0 == n.tid.0) = rw q at (u.noted d n.tid.0) in
        let y : num (n.tid.0 == n.tid.0) ≡ 1 = grind nats in
        omega (
          arith,
          few-resolves,
          u.untold,
          total-le
              (share (part sh d n.tid.0) h.world d) sh.cores c cl,
          b.told.all.kept.told.tids.resolved,
          ofs-resolve,
        )

in-memory : (sh : Shape) (d l : ℕ) → d < sh.dirs → l < lines sh → home sh l ≡ d → InMemory sh l
in-memory sh d l dl ll e = record { line = ll; home = rw e dl }

-- the core's own pairs
own-lines : {sh : Shape} {gs : List Grant} {ys : Ways} (h : History) (c d : ℕ) (o : Out) → Before sh gs ys h → Acts sh h.world c o
    → CopiesAt sh (and_noted o.commit h.commits) c d (after_move (pair h.world c d) o d)
own-lines {sh} h c d o b a l cl dl ll e = go a.after
  where
    quiet : o.commit ≡ None → (t : ℕ) → among (Commits t) (o.sends (Dir d)) ≡ 0
    quiet q t = let z : among (Commits t) (o.sends (Dir d)) ≤ 0 = rw q at (a.speaks.noted d t) in omega arith

    keeps : Conserves sh l (pair h.world c d).core o
    keeps = conserves-pair h.world c d (a.copies l (in-memory sh d l dl ll e))

    go : AfterStep sh c (h.world.cores c) o → LineCopies sh.base (and_noted o.commit h.commits) c l (after_move (pair h.world c d) o d)
    go (inl x) = subst (λ n. LineCopies sh.base (and_noted n h.commits) c l (after_move (pair h.world c d) o d)) (sym x.commit)
        (copies-moved sh o e x.commit (quiet x.commit) keeps (b.lines c d l cl dl ll e))
    go (inr x) = subst (λ n. LineCopies sh.base (and_noted n h.commits) c l (after_move (pair h.world c d) o d)) (sym x.commit)
        (copies-committed c d l o e x.commit (new-of l b cl dl ll e x.commit x.core a.speaks) keeps (b.lines c d l cl dl ll e))

-- another core's: what it wrote stays
more-lines : {base : ℕ} (n : Noted) {cs : List Noted} (j l : ℕ) {v : Pair} → (n.core.0 == j) ≡ false → LineCopies base cs j l v
    → LineCopies base (insert_commit n cs) j l v
more-lines {base} n {cs} j l e h =
    let same : (t : ℕ) → SameWrote base cs (insert_commit n cs) j t l = λ t. wrote-other base n cs j t l (rw e) in
    record { owned = h.owned; above = λ t i. rw (same t).line (h.above t i); masks = λ t i. rw (same t).mask (h.masks t i) }

other-lines : (sh : Shape) (h : History) (c j d : ℕ) (o : Out) → j ≢ c → KeptLines sh h.commits h.world
    → AfterStep sh c (h.world.cores c) o → CopiesAt sh (and_noted o.commit h.commits) j d (pair h.world j d)
other-lines sh h c j d o n k (inl x) = subst (λ a. CopiesAt sh (and_noted a h.commits) j d (pair h.world j d)) (sym x.commit) (k j d)
other-lines sh h c j d o n k (inr x) = subst (λ a. CopiesAt sh (and_noted a h.commits) j d (pair h.world j d)) (sym x.commit)
    (λ l cl dl ll e. more-lines x.noted j l (let y = x.core in grind nats) (k j d l cl dl ll e))

pub moved-lines : {sh : Shape} {gs : List Grant} {ys : Ways} (h : History) (c : ℕ) (o : Out) → Before sh gs ys h → Acts sh h.world c o
    → KeptLines sh (and_noted o.commit h.commits) (core_moves h.world c o)
moved-lines {sh} h c o b a j d = either j c
    (λ q. subst (λ i. CopiesAt sh (and_noted o.commit h.commits) i d (pair (core_moves h.world c o) i d)) (sym q)
    (subst (CopiesAt sh (and_noted o.commit h.commits) c d) (sym (moves-own h.world c o d)) (own-lines h c d o b a)))
    (λ n. subst (CopiesAt sh (and_noted o.commit h.commits) j d) (sym (moves-other h.world c o j d n))
    (other-lines sh h c j d o n b.lines a.after))

-- The facts of the list on copies, from what is kept of each line in memory; and that the start has it.

-- no frame that is dirty with the tag has another mask
right-mask : (c : Cache) (l t : ℕ) {n : ℕ} → frame_wrong c l t n ≡ 0 → is_dirty c l ≡ true → dirty_tag c l ≡ t → dirty_mask c l ≡ n
unfolding frame_wrong
right-mask c l t z d e = grind nats

above-one : {base : ℕ} {cs : List Noted} (c l t : ℕ) {v : Pair} → LineCopies base cs c l v → v.dir.lines.tag l < t → AboveOf base cs c l t v
unfolding copies_with line_copies line_wrong frame_copy
above-one c l t {v} h i = record {
  one = h.above t i;
  framed = right-mask v.core.cache l t (omega (arith, h.masks));
  sent = omega (arith, h.masks t i);
}

owned-one : {base : ℕ} {cs : List Noted} {c l : ℕ} {v : Pair} → LineCopies base cs c l v → OwnedOf c l v
unfolding copies_with line_copies frame_copy
owned-one h = h.owned

pub above-from : (sh : Shape) {cs : List Noted} (w : World) → KeptLines sh cs w → KeptAbove sh w cs
unfolding pair
above-from sh w k c d l t cl dl ll e i = above-one c l t (k c d l cl dl ll e) i

pub owned-from : (sh : Shape) {cs : List Noted} (w : World) → KeptLines sh cs w → KeptOwned sh w
owned-from sh w k c d l cl dl ll e = owned-one (k c d l cl dl ll e)

-- at the start
no-line : (base c t l : ℕ) → wrote_line base [] c t l ≡ false
unfolding wrote_line any_word any_below wrote
no-line base c t l = refl

clean : (l : ℕ) → is_dirty empty_cache l ≡ false
unfolding is_dirty empty_cache any_word any_below
clean l = refl

pub start-lines : (sh : Shape) (entries : ℕ → Local) (ram : ℕ → ℕ) → KeptLines sh [] (start entries ram)
unfolding start core_start dir_start no_lines pair line_copies line_wrong frame_copy frame_wrong live
start-lines sh entries ram c d l cl dl ll e = record {
  owned = rw (clean l);
  above = λ t i. rw (clean l, no-line sh.base c t l);
  masks = λ t i. rw (clean l);
}

-- Every event keeps the copies of each line in memory, each kind of event by itself.

-- Every message that is taken keeps the copies of each line in memory.

-- a pair in which nothing is different that the copies go by
kept-copies : {base : ℕ} {cs : List Noted} {c l : ℕ} {v : Pair} (w : Pair) → w.core ≡ v.core → w.dir ≡ v.dir → w.out ≡ v.out
    → LineCopies base cs c l v → LineCopies base cs c l w
kept-copies {v} w e f g = similar-copies v w (record {
  cache = rw e;
  tag = rw f;
  owned = rw (f, g);
  copies = λ t i. rw g;
  wrong = λ t m. rw g (omega arith);
  commits = λ t i. rw g;
})

-- no Commit of a TID above the served one is in flight
none-later : {sh : Shape} {gs : List Grant} {ys : Ways} {h : History} (c d t : ℕ) → Before sh gs ys h → c < sh.cores → d < sh.dirs
    → tid_at h.world d < t → live (Commits t) (to_dir h.world c d) ≡ 0
none-later {h} c d t b cl dl l = elim (cases_lt 0 (live (Commits t) (to_dir h.world c d))) [
  | inl x ↦ absurd (let y = commits_served b.told.all.kept b.told.all.committing c d t cl dl (omega arith) in
      omega arith)
  | inr x ↦ omega arith
]

cond-none : (b : Bool) {x : ℕ} → x ≡ 0 → cond b x 0 ≡ 0
cond-none a e = grind nats

-- a core to which an invalidation of the line is in flight has no copy that counts
none-counted : (sh : Shape) (gs : List Grant) (ys : Ways) (h : History) (c d k l m u t : ℕ) → Before sh gs ys h → c < sh.cores → d < sh.dirs
    → l < lines sh → home sh l ≡ d → FromDir h.world d c k (Inv l m u) → (h.world.dirs d).lines.tag l ≤ t
    → line_copies l t (pair h.world c d) ≡ 0
unfolding pair
none-counted sh gs ys h c d k l m u t b cl dl ll e i le = elim (cases_lt ((h.world.dirs d).lines.tag l) t) [
  | inl y ↦ (b.lines c d l cl dl ll e).above t y ∙ cond-none (wrote_line sh.base h.commits c t l)
      (none-later c d t b cl dl (omega (arith, y, x.tag)))
  | inr y ↦ let z : t ≡ (h.world.dirs d).lines.tag l = omega arith in
      rw z ((b.lines c d l cl dl ll e).owned ∙ mine ((h.world.dirs d).lines.owner l) refl)
]
  where
    x : Invalidating sh h c d l
    x = inv-tag h c d k l m u b.told.all (on-its-way sh gs ys h b.told) b.tags cl dl ll e i

    mine : (o : Option ℕ) → (h.world.dirs d).lines.owner l ≡ o → num (is_this o c) ≡ 0
    mine None q = refl
    mine (Some o) q = which (o == c) refl
      where
        which : (y : Bool) → (o == c) ≡ y → num y ≡ 0
        which false r = refl
        which true r = absurd (let z : o ≡ c = grind nats in let w = b.owners d l c (q ∙ ap (λ n. Some n) z) in
            omega (arith, x.sent, (b.told.all.spared c d).own dl (rw x.tag at w)))

-- an invalidation comes from the line's home
inv-home : {sh : Shape} {gs : List Grant} {ys : Ways} (h : History) (c e k l m u : ℕ) → Before sh gs ys h
    → FromDir h.world e c k (Inv l m u) → home sh l ≡ e
unfolding pair passes
inv-home {sh} h c e k l m u b i = elim (tested (home sh l == e)) [
  | inl q ↦ grind nats
  | inr q ↦ absurd (let n : num (not ((l % sh.dirs) == e)) ≡ 1 = rw q in
      omega (arith, live-some (InvsAway sh.dirs e) (to_core h.world e c) k (Inv l m u) i, (b.told.all.kept.told.owed.at_home c e).invs))
]

-- a core takes a message of directory e; v is the pair, with the message or without
back-copies : {sh : Shape} {gs : List Grant} {ys : Ways} (h : History) (c e d k l : ℕ) {m : Msg} (v : Pair) (o : Out)
    → Before sh gs ys h → c < sh.cores → d < sh.dirs → l < lines sh → home sh l ≡ d → FromDir h.world e c k m
    → v.core ≡ (pair h.world c d).core → v.dir ≡ (pair h.world c d).dir → v.out ≡ (pair h.world c d).out → o.commit ≡ None
    → ((t : ℕ) → among (Commits t) (o.sends (Dir d)) ≡ 0) → BackStep sh l (h.world.cores c) m o
    → LineCopies sh.base h.commits c l (after_move v o d)
unfolding pair line_copies
back-copies {sh} h c e d k l v o b cl dl ll q i vc vd vo n z (Kept x) = copies-moved sh o q n z (rw vc x)
    (kept-copies v vc vd vo (b.lines c d l cl dl ll q))
back-copies {sh} {gs} {ys} h c e d k l v o b cl dl ll q i vc vd vo n z (Invalidates x u r a f) =
    let j : FromDir h.world e c k (Inv l x u) = i ∙ ap (λ y. Some y) r in
    let w : d ≡ e = sym q ∙ inv-home h c e k l x u b j in
    let p : FromDir h.world d c k (Inv l x u) = rw w j in
    copies-lost sh c d l v o q z (λ t. rw vc (f t)) (λ t g. rw (vc, vo) (none-counted sh gs ys h c d k l x u t b cl dl ll q p (rw vd at g)))
    (kept-copies v vc vd vo (b.lines c d l cl dl ll q))

-- Every answer of a directory keeps the copies of each line in memory.

-- a line that the commit whose Commit is taken stored, and one that it didn't

-- the commit stored just the lines that are marked
pub marked-line : {sh : Shape} (h : History) {c d : ℕ} (l : ℕ) → l < lines sh → home sh l ≡ d → (t : TakenCommit sh h.commits h.world c d)
    → names_line sh.base t.settled.commit.stores l ≡ has_mark (h.world.dirs d).lines l
marked-line {sh} h {d} l ll e t = stored-in sh d l t.settled.commit ll e ∙ ap (nat_lt 0) (sym (t.settled.marks l))

-- of the core that committed; no other core has a commit with this TID
pub writer-line : {sh : Shape} (h : History) {c d : ℕ} (l : ℕ) → l < lines sh → home sh l ≡ d → TakenCommit sh h.commits h.world c d
    → wrote_line sh.base h.commits c (tid_at h.world d) l ≡ has_mark (h.world.dirs d).lines l
writer-line {sh} h {c} {d} l ll e t =
    let n = t.settled.commit in
    let x = wrote-listed sh.base h.commits n l t.settled.noted
    (λ y k o. t.only y k (sym t.settled.tid ∙ tids y (y.core.0 == n.core.0) (y.tid.0 == n.tid.0) refl o)) in
    subst (λ p. wrote_line sh.base h.commits c p l ≡ has_mark (h.world.dirs d).lines l) t.settled.tid
    (subst (λ p. wrote_line sh.base h.commits p n.tid.0 l ≡ has_mark (h.world.dirs d).lines l) t.core (x.line ∙ marked-line h l ll e t))
  where
    tids : (y : Noted) (a b : Bool) → (y.tid.0 == t.settled.commit.tid.0) ≡ b → (a && b) ≡ true → t.settled.commit.tid.0 ≡ y.tid.0
    tids y true true q o = grind nats
    tids y true false q o = absurd (cc)
    tids y false b q o = absurd (cc)

pub other-writer : (sh : Shape) (h : History) (c j d l : ℕ) → j ≢ c → TakenCommit sh h.commits h.world c d
    → wrote_line sh.base h.commits j (tid_at h.world d) l ≡ false
other-writer sh h c j d l n t = no-writer sh.base h.commits j (tid_at h.world d) l
    (λ x k. go x k (x.core.0 == j) (x.tid.0 == tid_at h.world d) refl refl)
  where
    go : (x : Noted) → Contains h.commits x → (a b : Bool) → (x.core.0 == j) ≡ a → (x.tid.0 == tid_at h.world d) ≡ b → (a && b) ≡ false
    go x k true true q r = absurd (let y : tid_at h.world d ≡ x.tid.0 = grind nats in
        let z : x.core.0 ≡ t.settled.commit.core.0 = ap (λ u. u.core.0) (t.only x k y) in
        let w : x.core.0 ≡ j = grind nats in n (sym w ∙ z ∙ t.core))
    go x k true false q r = refl
    go x k false b q r = refl

-- just one Commit of it is in flight
one-commit : (sh : Shape) (gs : List Grant) (ys : Ways) (h : History) (c d l : ℕ) → Before sh gs ys h → d < sh.dirs → l < lines sh
    → home sh l ≡ d → (t : TakenCommit sh h.commits h.world c d) → names_line sh.base t.settled.commit.stores l ≡ true
    → live (Commits (tid_at h.world d)) (to_dir h.world c d) ≡ 1
one-commit sh gs ys h c d l b dl ll e t s =
    let n = t.settled.commit in
    let x = on-its-way sh gs ys h b.told n d t.settled.noted dl (stored-home sh l n ll e s) in
    let y : live (Commits (tid_at h.world d)) (to_dir h.world c d) + num
    (is_applied (h.world.dirs d) (tid_at h.world d)) ≡ 1 = rw (t.settled.tid, t.core) at x in
    omega arith

pub commit-passes : (sh : Shape) (s : DirState) (m : Msg) (x : ℕ) → CountsMarked sh s m → passes (Commits x) m ≡ (s.serving.serving == x)
unfolding passes
commit-passes sh s m x q = rw q

-- the directory's answer as core j sees it; mine: the message was j's
answer-lines : (sh : Shape) {gs : List Grant} {ys : Ways} (h : History) {c : ℕ} (d k j l : ℕ) {mine : Bool} (m : Msg) {s : DirState}
    (w : Pair) → Before sh gs ys h → FromCore h.world c d k m → (j == c) ≡ mine → j < sh.cores → d < sh.dirs → l < lines sh → home sh l ≡ d
    → Answered mine m s (pair h.world j d) w → Records sh (h.world.dirs d) c m s → LineCopies sh.base h.commits j l w
unfolding pair
answer-lines sh h d k j l {mine} m w b i z jl dl ll e a (Still y n q) = similar-copies (pair h.world j d) w
    (still-similar sh.base h.commits j l a (y.tags l) (y.owners l) (λ t g. q l t)
    (λ t g. none-passes mine (Commits t) m (n t))) (b.lines j d l jl dl ll e)
answer-lines sh h {c} d k j l m {s} w b i z jl dl ll e a (Came x p o g f n) = similar-copies (pair h.world j d) w
    (came-similar sh.base h.commits j c l x m s w z a p o (g l) (f l) n) (b.lines j d l jl dl ll e)
answer-lines sh {gs} {ys} h {c} d k j l {mine} m w b i z jl dl ll e a (Settles q g f n) = elim
    (tested (has_mark (h.world.dirs d).lines l)) [
      | inr r ↦ similar-copies (pair h.world j d) w
          (still-similar sh.base h.commits j l a (g l ∙ rw r) (f l ∙ rw r) (λ x o. n l x) (quiet r)) (b.lines j d l jl dl ll e)
      | inl r ↦ taken-copies c u j l w (record {
        cache = a.cache;
        tag = ap (λ x. x.lines.tag l) a.dir ∙ g l ∙ rw r;
        old = tag-below sh h c d l (on-its-way sh gs ys h b.told) b.tags dl ll e
            (rw (sym t.settled.tid) (positive-committed t.settled.commit b.told.all.owners t.settled.noted))
            (λ x o y. ap (λ n. n.core.0) (t.only x o (sym y)) ∙ t.core) t.sent;
        owner = ap (λ x. x.lines.owner l) a.dir ∙ f l ∙ rw r;
        copies = λ x. (let y = none-passes mine (CopyOf l x) m (n l x) in omega (arith, a.lives));
        writer = writer r (cases_eq j c);
        before = λ x o. none-later j d x b jl dl o;
        after = λ x o. (let y = none-later j d x b jl dl o in omega (arith, a.lives));
      }) (b.lines j d l jl dl ll e)
    ]
  where
    u : ℕ
    u = tid_at h.world d

    t : TakenCommit sh h.commits h.world c d
    t = taken-commit c d k b.told.all dl i q

    -- only the Commit of the served TID is consumed, of a commit that didn't store this line
    quiet : has_mark (h.world.dirs d).lines l ≡ false → (x : ℕ) → wrote_line sh.base h.commits j x l ≡ true
        → num (mine && passes (Commits x) m) ≡ 0
    quiet r x y = which (j == c) (u == x) refl refl z
      where
        which : (p v : Bool) → (j == c) ≡ p → (u == x) ≡ v → p ≡ mine → num (mine && passes (Commits x) m) ≡ 0
        which false v e0 e1 e2 = rw (sym e2)
        which true false e0 e1 e2 = none-passes mine (Commits x) m (commit-passes sh (h.world.dirs d) m x q ∙ e1)
        which true true e0 e1 e2 = absurd (let v : j ≡ c = grind nats in let y' : u ≡ x = grind nats in
            let o : wrote_line sh.base h.commits c u l ≡ true = rw (v, sym y') at y in let p = writer-line h l ll e t in cc)

    writer : has_mark (h.world.dirs d).lines l ≡ true → (j ≡ c) ⊎ (j ≢ c)
        → cond (wrote_line sh.base h.commits j u l) (live (Commits u) (to_dir h.world j d)) 0 ≡ num (c == j)
    writer r (inl x) =
        let y : wrote_line sh.base h.commits j u l ≡ true = rw x (writer-line h l ll e t ∙ r) in
        let n : live (Commits u) (to_dir h.world j d) ≡ 1 = rw x (one-commit sh gs ys h c d l b dl ll e t (marked-line h l ll e t ∙ r)) in
        let p : (c == j) ≡ true = grind nats in
        rw (y, p) n
    writer r (inr x) = let y : (c == j) ≡ false = grind nats in rw (other-writer sh h c j d l x t, y)

-- with the world's frames
dir-lines : {sh : Shape} {gs : List Grant} {ys : Ways} (h : History) (c d k : ℕ) (m : Msg) (s : DirState) (sends : Sends)
    → Before sh gs ys h → FromCore h.world c d k m → Records sh (h.world.dirs d) c m s
    → KeptLines sh h.commits (dir_takes h.world c d k s sends)
unfolding pair
dir-lines {sh} h c d k m s sends b i r = pairs_dir (CopiesAt sh h.commits) h.world c d k s sends
    (λ l cl dl ll e. answer-lines sh h d k c l m (after_answer (out_taken (pair h.world c d) k) s (sends (Core c))) b i
    (eq-self c) cl dl ll e (record { cache = refl; dir = refl; lives = λ q. live-takes q (to_dir h.world c d) k m i }) r)
    (λ j n l jl dl ll e. answer-lines sh h d k j l m (after_answer (pair h.world j d) s (sends (Core j))) b i
    (differ j c n) jl dl ll e (record { cache = refl; dir = refl; lives = λ q. omega arith }) r) b.lines

drop-lines : {sh : Shape} {gs : List Grant} {ys : Ways} (h : History) (c d k : ℕ) (m : Msg) → Before sh gs ys h
    → FromCore h.world c d k m → Dropped (h.world.dirs d) c m
    → KeptLines sh h.commits (dir_takes h.world c d k (h.world.dirs d) nothing)
unfolding pair
drop-lines {sh} h c d k m b i u = pairs_dir (CopiesAt sh h.commits) h.world c d k (h.world.dirs d) nothing
    (λ l cl dl ll e. similar-copies (pair h.world c d) (after_answer (out_taken (pair h.world c d) k) (h.world.dirs d) [])
    (dropped-similar true m (after_answer (out_taken (pair h.world c d) k) (h.world.dirs d) [])
    (record { cache = refl; dir = refl; lives = λ q. live-takes q (to_dir h.world c d) k m i }) u.commit
    (λ t x y. u.late l t y) (λ x y. u.other l y) (b.lines c d l cl dl ll e)) (b.lines c d l cl dl ll e))
    (λ j n l jl dl ll e. similar-copies (pair h.world j d) (after_answer (pair h.world j d) (h.world.dirs d) [])
    (dropped-similar false m (after_answer (pair h.world j d) (h.world.dirs d) [])
    (record { cache = refl; dir = refl; lives = λ q. omega arith }) u.commit (λ t x y. u.late l t y) (λ x y. absurd (cc))
    (b.lines j d l jl dl ll e)) (b.lines j d l jl dl ll e)) b.lines

asks-lines : {sh : Shape} {gs : List Grant} {ys : Ways} (h : History) (d : ℕ) (s : DirState) (sends : Sends) → Before sh gs ys h
    → RecordStays (h.world.dirs d) s → KeptLines sh h.commits (dir_asks h.world d s sends)
unfolding pair
asks-lines {sh} h d s sends b u = pairs_asks (CopiesAt sh h.commits) h.world d s sends
    (λ j l jl dl ll e. similar-copies (pair h.world j d) (after_answer (pair h.world j d) s (sends (Core j)))
    (record {
      cache = refl;
      tag = u.tags l;
      owned = rw (u.owners l);
      copies = λ t i. refl;
      wrong = λ t m. omega arith;
      commits = λ t i. refl;
    }) (b.lines j d l jl dl ll e))
    b.lines

-- nothing is committed
none-sent : (o : Out) → CommitsNoted o → o.commit ≡ None → (d t : ℕ) → among (Commits t) (o.sends (Dir d)) ≡ 0
none-sent o n e d t = let z : among (Commits t) (o.sends (Dir d)) ≤ 0 = rw e at (n d t) in omega arith

pub step-lines : (sh : Shape) (p : Program) (gs : List Grant) (ys : Ways) (h : History) (e : Event) → Before sh gs ys h
    → IfSome (step sh p h.world e) (λ o. KeptLines sh (and_noted o.noted h.commits) o.world)
unfolding pair
step-lines sh p gs ys h e b = step_cases sh p h.world e (λ g o. KeptLines sh (and_noted o.noted h.commits) o.world)
    (λ c o eq l. moved c o (λ x m. got _ eq (copies-exec x p c m (b.told.all.cores c)))
    (λ d t i. got _ eq (part-exec sh p c d t (h.world.cores c) i)) (got _ eq (tells-exec p c (b.told.all.cores c)))
    (got _ eq (noted-exec sh p c (h.world.cores c))) (got _ eq (after-exec p c (b.told.all.cores c))))
    (λ c x y o eq l. moved c o (λ k m. got _ eq (copies-evict sh k x y (h.world.cores c)))
    (λ d t i. got _ eq (part-evict sh x y d t (h.world.cores c))) (got _ eq (tells-evict sh x y (h.world.cores c)))
    (got _ eq (noted-evict sh x y (h.world.cores c))) (got _ eq (after-evict sh c x y (h.world.cores c))))
    (λ c k u i. granted c k u)
    (λ c d k m o eq i. taken c d k (core_of_back c d k b.told.all.kept.told.tids i) i o
    (λ l. got _ eq (copies-back sh l d (h.world.cores c) m (b.told.all.cores c).words.cache))
    (got _ eq (noted-back sh d (h.world.cores c) m)) (got _ eq (after-back sh d (h.world.cores c) m)))
    (λ c d k m i. answered c d k m i (dir_deliver sh (h.world.dirs d) c m) (dir-records sh (h.world.dirs d) c m))
    (λ c k a i. pairs_vendor (CopiesAt sh h.commits) h.world c k a
    (λ d l cl dl ll q. kept-copies (after_gift (pair h.world c d) k (gift a)) refl refl refl (b.lines c d l cl dl ll q))
    (λ j d n l jl dl ll q. kept-copies (after_other_gift (pair h.world j d) (gift a)) refl refl refl (b.lines j d l jl dl ll q)))
  where
    moved : (c : ℕ) (o : Out) → ((l : ℕ) → InMemory sh l → Conserves sh l (h.world.cores c) o)
        → ((d t : ℕ) → d < sh.dirs → KeepsPart sh d t 0 (h.world.cores c) o) → Tells sh (h.world.cores c) o → CommitsNoted o
        → AfterStep sh c (h.world.cores c) o → KeptLines sh (and_noted o.commit h.commits) (core_moves h.world c o)
    moved c o k q t n a = moved-lines h c o b (record { copies = k; speaks = speaks sh h.world c o q t n; after = a })

    granted : (c k u : ℕ)
        → KeptLines sh (and_noted (grant sh u (h.world.cores c)).commit h.commits)
        (core_takes h.world Vendor c k (grant sh u (h.world.cores c)))
    granted c k u =
        let o : Out = grant sh u (h.world.cores c) in
        let a = after-grant sh u (h.world.cores c) in
        subst (λ n. KeptLines sh (and_noted n h.commits) (core_takes h.world Vendor c k o)) (sym a.commit)
        (pairs_grant (CopiesAt sh h.commits) h.world c k o (λ d l cl dl ll q. copies-moved sh o q a.commit
        (none-sent o (noted-grant sh u (h.world.cores c)) a.commit d) (copies-grant sh l u (h.world.cores c))
        (kept-copies (grant_taken (pair h.world c d) k) refl refl refl (b.lines c d l cl dl ll q))) b.lines)

    taken : (c d k : ℕ) {m : Msg} → c < sh.cores → FromDir h.world d c k m → (o : Out) → ((l : ℕ) → BackStep sh l (h.world.cores c) m o)
        → CommitsNoted o → AfterStays (h.world.cores c) o → KeptLines sh (and_noted o.commit h.commits) (core_takes h.world (Dir d) c k o)
    taken c d k cl i o f n a = subst (λ x. KeptLines sh (and_noted x h.commits) (core_takes h.world (Dir d) c k o)) (sym a.commit)
        (pairs_back (CopiesAt sh h.commits) h.world d c k o
        (λ l cl dl ll q. back-copies h c d d k l (back_taken (pair h.world c d) k) o b cl dl ll q i refl refl refl a.commit
        (none-sent o n a.commit d) (f l))
        (λ x r l cl dl ll q. back-copies h c d x k l (pair h.world c x) o b cl dl ll q i refl refl refl a.commit
        (none-sent o n a.commit x) (f l)) b.lines)

    answered : (c d k : ℕ) (m : Msg) → FromCore h.world c d k m → (a : Answer)
        → RecordsBy sh (h.world.dirs d) c m a → OfAnswer h.world c d k (KeptLines sh h.commits) a
    answered c d k m i Waits u = tt
    answered c d k m i Drops u = drop-lines h c d k m b i u
    answered c d k m i (Asks s sends) u = asks-lines h d s sends b u
    answered c d k m i (Takes s sends) u = dir-lines h c d k m s sends b i u
