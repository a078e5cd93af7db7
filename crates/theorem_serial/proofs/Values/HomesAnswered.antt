-- What a directory or the vendor does keeps the values of home words and of copies on their way home.
use Rattle.theorem_serial.proofs
use proofs.Names
use Names.{nothing, and-false, ℕ, ◌+◌, ◌≡◌, ◌<◌, ◌≤◌, ◌⊎◌, ◌==◌, ◌&&◌, ◌||◌, Bool, true, false, cond, nat_lt, List, Contains, Option, Some}
use Names.{None, if◌then◌else◌, arith, refl, ap, sym, ◌∙◌, inl, inr, cases_eq, cases_lt, Noted, Stored, num, count_below, line_of, place_of}
use Names.{word_at, has_mark, has, full, mask_of, Msg, Shape, lines, has-mask_of, World, History, copies_with, Commits, CommitOf, CopyOf}
use Names.{CopyWord, live, passes, pair, is_applied, MarkedCommit, stores_at, stores_in, is_this, stored_mask, stores_word, counts}
use Names.{word_copies, CopiesHave, names_line, wrote, wrote_line, wrote_mask, subst, Plain, Program, Local, DirState, Sends, Answer, Waits}
use Names.{Drops, Asks, Takes, dir_takes, dir_asks, vendor_gives, Uses, Invariants, Grant, CommitsStand, Ways, nats, home_of, tid_at}
use Names.{to_dir, FromCore, ◌≢◌, tested}
use proofs.Copies.{marked-line, writer-line, other-writer, commit-passes, tag-below, applied-owed, TakenCommit, takes-consumes, wrote-at}
use proofs.Counts.{num-same, OfAnswer}
use proofs.Marks.DirRecords.{NoCopy, RecordStays, Records, Still, Came, Settles, Dropped, RecordsBy, CountsMarked}
use proofs.Marks.MaskLaws.{same-commit}
use proofs.Marks.CoreMarks.{stored-line, stored-cases}
use proofs.Memory.CoreHomes.{line-has}
use proofs.Tids.{live-some}
use proofs.Values.WordCopies.{HomeBy, Left, Home, WordsBy, none-copied, copy-has, word-line, few-copies}
use proofs.Values.ValueAt.{same-copies, value-alike, rising-above, Known, Answers, unconsumed, value_of, tag_of, ValuesAt, have-still}
use proofs.Values.ValueAt.{same-value, stored-at-home, quiet-keep, taken-values, dropped-values, away-values, KeptValues, values-of}
use proofs.Values.ValueAt.{same-values, SameCommits}
use proofs.Counts.{Ask, gives_to}

-- A Commit that a directory handles keeps the values of each word: its core's copies have the stored words as they are from now on for
-- all, and the words of a marked line that it didn't store are at home.

-- the commit whose Commit is taken
taken-of : {sh : Shape} {ram : ℕ → ℕ} (h : History) (c d k : ℕ) (m : Msg) → Known sh ram h → c < sh.cores → d < sh.dirs
    → FromCore h.world c d k m → CountsMarked sh (h.world.dirs d) m → TakenCommit sh h.commits h.world c d
unfolding pair passes
taken-of {sh} h c d k m b cl dl i q = record {
  settled =
      record {
        commit = n.commit;
        noted = n.noted;
        tid = n.tid;
        stored = n.stored;
        marks = λ l. b.marks.taken n.commit d l n.noted dl (sym n.tid) counted;
      };
  core = n.core;
  only = λ x j o. same-commit h.commits x n.commit b.rising j n.noted (sym o ∙ sym n.tid);
  sent = sent;
}
  where
    u : ℕ
    u = tid_at h.world d

    r : ℕ
    r = count_below (has_mark (h.world.dirs d).lines) (lines sh)

    sent : 1 ≤ live (Commits u) (to_dir h.world c d)
    sent = let one : num (passes (Commits u) m) ≡ 1 = rw q (grind nats) in
        omega (arith, live-some (Commits u) (to_dir h.world c d) k m i)

    n : MarkedCommit sh h.commits c d u (pair h.world c d)
    n = (b.stored c d u).sent cl dl sent

    counted : 1 ≤ live (CommitOf n.commit.tid.0 r) (to_dir h.world n.commit.core.0 d)
    counted = rw (n.tid, n.core) (let one : num (passes (CommitOf u r) m) ≡ 1 = rw q (grind nats) in
        omega (arith, live-some (CommitOf u r) (to_dir h.world c d) k m i))

-- what the answer does: the marked lines have the commit's TID as their tag, and home words stay
pub record Settled (sh : Shape) (ram : ℕ → ℕ) (h : History) (c d k : ℕ) (m : Msg) (v : World) : Type 0 where
  pub known : Known sh ram h
  pub core : c < sh.cores
  pub dir : d < sh.dirs
  pub flight : (FromCore h.world c d k m)
  pub answers : Answers sh h c d m v
  pub counts : CountsMarked sh (h.world.dirs d) m
  pub tags : (l : ℕ)
      → (v.dirs d).lines.tag l ≡ (if has_mark (h.world.dirs d).lines l then tid_at h.world d
      else (h.world.dirs d).lines.tag l)
  pub copies : NoCopy m
  pub words : (x : ℕ) → (v.dirs d).words x ≡ (h.world.dirs d).words x

-- which commits are applied afterwards: those that were, and those of the core
applied-after : {sh : Shape} {ram : ℕ → ℕ} (h : History) (c d : ℕ) {k : ℕ} (m : Msg) (v : World) → Settled sh ram h c d k m v → (y : Noted)
    → Contains h.commits y → stores_at sh d y.stores ≡ true
    → is_applied (v.dirs d) y.tid.0 ≡ ((c == y.core.0) || is_applied (h.world.dirs d) y.tid.0)
applied-after h c d m v s y i t = go (c == y.core.0) refl
  where
    u : ℕ
    u = tid_at h.world d

    before : ℕ
    before = live (Commits y.tid.0) (to_dir h.world y.core.0 d)

    after : ℕ
    after = live (Commits y.tid.0) (to_dir v y.core.0 d)

    one : before + num (is_applied (h.world.dirs d) y.tid.0) ≡ 1
    one = s.known.stand y d i s.dir t

    then-one : after + num (is_applied (v.dirs d) y.tid.0) ≡ 1
    then-one = s.answers.stand y d i s.dir t

    net : after + num ((y.core.0 == c && d == d) && passes (Commits y.tid.0) m) ≡ before
    net = s.answers.net (Commits y.tid.0) y.core.0 d

    gone : c ≡ y.core.0 → (b : Bool) → (u == y.tid.0) ≡ b → after ≡ 0
    gone e a q = grind (nats, commit-passes)

    go : (b : Bool) → (c == y.core.0) ≡ b → is_applied (v.dirs d) y.tid.0 ≡ (b || is_applied (h.world.dirs d) y.tid.0)
    go true q = let e : c ≡ y.core.0 = grind nats in
        num-same (is_applied (v.dirs d) y.tid.0) true (omega (arith, then-one, gone e (u == y.tid.0) refl))
    go false q =
        let z : (y.core.0 == c) ≡ false = grind nats in
        let o : num ((y.core.0 == c && d == d) && passes (Commits y.tid.0) m) ≡ 0 = rw z in
        num-same (is_applied (v.dirs d) y.tid.0) (is_applied (h.world.dirs d) y.tid.0) (omega (arith, o, net, one, then-one))

-- so a word is for all as it was for the core
value-after : (sh : Shape) (ram : ℕ → ℕ) (h : History) (c d k x : ℕ) (m : Msg) (v : World) → Settled sh ram h c d k m v
    → home_of sh x ≡ d → value_of sh ram v h.commits d None x ≡ value_of sh ram h.world h.commits d (Some c) x
unfolding counts
value-after sh ram h c d k x m v s e = value-alike sh.base ram h.commits (v.dirs d) None None (h.world.dirs d) (Some c) None x
    (λ n i. go n i (stores_word sh.base n.stores x) refl)
  where
    go : (n : Noted) → Contains h.commits n → (y : Bool) → stores_word sh.base n.stores x ≡ y
        → (counts (v.dirs d) None None n ≡ counts (h.world.dirs d) (Some c) None n) ⊎ (stores_word sh.base n.stores x ≡ false)
    go n i false q = inr q
    go n i true q = inl (applied-after h c d m v s n i (stored-at-home h.commits n x s.known.inside i e q))

-- a word that the commit didn't store has the values that it had
unstored-value : {sh : Shape} {ram : ℕ → ℕ} {h : History} {c d k : ℕ} (x : ℕ) {m : Msg} {v : World} → Settled sh ram h c d k m v
    → home_of sh x ≡ d → (t : TakenCommit sh h.commits h.world c d) → stores_word sh.base t.settled.commit.stores x ≡ false → (e : Option ℕ)
    → value_of sh ram v h.commits d e x ≡ value_of sh ram h.world h.commits d e x
unstored-value {sh} {ram} {h} {c} {d} x {m} {v} s e t r =
    same-value ram h.world v h.commits x s.known.stand s.answers.stand s.known.inside s.dir e same
  where
    same : SameCommits sh h.world v h.commits d x
    same y i q =
        omega (
          arith,
          s.answers.net (Commits y.tid.0) y.core.0 d,
          unconsumed (y.core.0 == c && d == d)
              (commit-passes sh (h.world.dirs d) m y.tid.0 s.counts ∙ other (tid_at h.world d == y.tid.0) refl),
        )
      where
        other : (b : Bool) → (tid_at h.world d == y.tid.0) ≡ b → b ≡ false
        other false p = refl
        other true p = absurd (let o : tid_at h.world d ≡ y.tid.0 = grind nats in
            let z : stores_word sh.base t.settled.commit.stores x ≡ true = rw (sym (t.only y i o)) q in cc)

-- a line with a mark of stored words lies in memory
pub mask-inside : (sh : Shape) (d l : ℕ) (ss : List Stored) {m : ℕ} → m ≡ stored_mask sh d ss l → nat_lt 0 m ≡ true → l < lines sh
mask-inside sh d l ss e r = elim (tested (nat_lt l (lines sh))) [
  | inl q ↦ grind nats
  | inr q ↦ absurd (let z : 0 ≡ num (nat_lt 0 (stored_mask sh d ss l)) = rw q at (stored-line sh d ss l) in
      let w : num (nat_lt 0 (stored_mask sh d ss l)) ≡ 1 = ap num (ap (nat_lt 0) (sym e) ∙ r) in omega arith)
]

-- a word of a line that isn't marked
unmarked-values : (sh : Shape) (ram : ℕ → ℕ) (h : History) (c d k x : ℕ) (m : Msg) (v : World) → Settled sh ram h c d k m v
    → home_of sh x ≡ d → TakenCommit sh h.commits h.world c d → has_mark (h.world.dirs d).lines (line_of x) ≡ false
    → ValuesAt sh ram v h.commits d x
unfolding names_line
unmarked-values sh ram h c d k x m v s e t r = quiet-keep v (record {
  cores = s.answers.cores;
  tag = s.tags (line_of x) ∙ rw r;
  words = s.words x;
  copies =
      λ j. omega (
        arith,
        s.answers.net (CopyWord x g) j d,
        unconsumed (j == c && d == d) (no-word (passes (CopyWord x g) m) refl),
      );
  others = λ j u y. omega (arith, s.answers.net);
  value = unstored-value x s e t (unstored (stores_word sh.base t.settled.commit.stores x) refl);
}) (s.known.values d x s.dir e)
  where
    g : ℕ
    g = tag_of h.world d x

    no-word : (b : Bool) → passes (CopyWord x g) m ≡ b → b ≡ false
    no-word a q = grind (nats, word-line)

    unstored : (b : Bool) → stores_word sh.base t.settled.commit.stores x ≡ b → b ≡ false
    unstored false q = refl
    unstored true q = absurd (let i : line_of x < lines sh = (s.known.inside t.settled.commit t.settled.noted).stored x q in
        let y = marked-line h (line_of x) i e t in let z = line-has (stores_word sh.base t.settled.commit.stores) x q in cc)

-- a word of a marked line

-- the commit's mask has the words that it stored
wrote-has : (sh : Shape) (h : History) (c d x : ℕ) → (t : TakenCommit sh h.commits h.world c d)
    → stores_word sh.base t.settled.commit.stores x ≡ true
    → has (wrote_mask sh.base h.commits c (tid_at h.world d) (line_of x)) (place_of x) ≡ true
unfolding wrote_mask
wrote-has sh h c d x t q =
    let at-place : (x : ℕ) → word_at (line_of x) (place_of x) ≡ x = λ x. omega arith in
    has-mask_of (λ k. wrote sh.base h.commits c (tid_at h.world d) (word_at (line_of x) k)) (place_of x) (omega arith)
    ∙ rw (at-place x, sym t.core, sym t.settled.tid)
    (wrote-at sh.base h.commits t.settled.commit x t.settled.noted.0 q t.settled.noted.1 t.settled.noted.2)

-- so that the core's copy has each of them
stored-copied : {sh : Shape} {ram : ℕ → ℕ} (h : History) (c d x : ℕ) → Known sh ram h → c < sh.cores → d < sh.dirs → home_of sh x ≡ d
    → (t : TakenCommit sh h.commits h.world c d) → line_of x < lines sh → has_mark (h.world.dirs d).lines (line_of x) ≡ true
    → tag_of h.world d x < tid_at h.world d → stores_word sh.base t.settled.commit.stores x ≡ true
    → 1 ≤ word_copies x (tid_at h.world d) (pair h.world c d)
unfolding pair
stored-copied {sh} h c d x b cl dl e t i r o q =
    let u : ℕ = tid_at h.world d in
    let a = b.above c d (line_of x) u cl dl i e o in
    let w : wrote_line sh.base h.commits c u (line_of x) ≡ true = writer-line h (line_of x) i e t ∙ r in
    let z : copies_with (line_of x) u (pair h.world c d) ≡ live (Commits u) (to_dir h.world c d) = rw w at a.one in
    let n = copy-has x u (wrote_mask sh.base h.commits c u (line_of x)) (pair h.world c d) (b.caches c) (wrote-has sh h c d x t q)
    a.framed a.sent in
    omega arith

full-has : (k : ℕ) → k < 8 → has full k ≡ true
unfolding mask_of
full-has k i = has-mask_of (λ j. true) k i

-- nothing is owed while the Commit is in flight
unowed : {sh : Shape} {ram : ℕ → ℕ} {h : History} {c d : ℕ} → Known sh ram h → d < sh.dirs → TakenCommit sh h.commits h.world c d
    → (h.world.dirs d).owed ≡ 0
unowed b dl t = grind (nats, applied-owed)

-- a word that the commit didn't store has no copy with the line's old tag
none-old : {sh : Shape} {ram : ℕ → ℕ} (h : History) {c : ℕ} (d j x : ℕ) → Known sh ram h → j < sh.cores → d < sh.dirs → home_of sh x ≡ d
    → (t : TakenCommit sh h.commits h.world c d) → line_of x < lines sh → has_mark (h.world.dirs d).lines (line_of x) ≡ true
    → stores_word sh.base t.settled.commit.stores x ≡ false → word_copies x (tag_of h.world d x) (pair h.world j d) ≡ 0
unfolding pair stores_in
none-old {sh} h d j x b jl dl e t i r q = elim (b.whole d (line_of x) (unowed b dl t) r) [
  | inl f ↦ absurd (let y = stored (sym (t.settled.marks (line_of x)) ∙ f) (stored-cases sh d n.stores (line_of x)) in cc)
  | inr f ↦ let z : num (is_this ((h.world.dirs d).lines.owner (line_of x)) j) ≡ 0 = rw f in
      omega (arith, few-copies x (tag_of h.world d x) (pair h.world j d) (b.caches j), b.owned j d (line_of x) jl dl i e)
]
  where
    n : Noted
    n = t.settled.commit

    stored : stored_mask sh d n.stores (line_of x) ≡ full
        → (stored_mask sh d n.stores (line_of x) ≡ mask_of (λ k. stores_word sh.base n.stores (word_at (line_of x) k)))
        ⊎ (stored_mask sh d n.stores (line_of x) ≡ 0) → stores_word sh.base n.stores x ≡ true
    stored f (inr z) = absurd (let y : full ≡ 0 = sym f ∙ z in omega arith)
    stored f (inl z) =
        let y : has (mask_of (λ k. stores_word sh.base n.stores (word_at (line_of x) k))) (place_of x) ≡ true =
        rw (sym z ∙ f) (full-has (place_of x) (omega arith)) in
        let p : word_at (line_of x) (place_of x) ≡ x = omega arith in
        rw p at (sym (has-mask_of (λ k. stores_word sh.base n.stores (word_at (line_of x) k)) (place_of x) (omega arith)) ∙ y)

cond-zero : (b : Bool) {n : ℕ} → n ≡ 0 → cond b n 0 ≡ 0
cond-zero a e = grind nats

marked-values : (sh : Shape) (ram : ℕ → ℕ) (h : History) (c d k x : ℕ) (m : Msg) (v : World) → Settled sh ram h c d k m v → home_of sh x ≡ d
    → TakenCommit sh h.commits h.world c d → has_mark (h.world.dirs d).lines (line_of x) ≡ true → ValuesAt sh ram v h.commits d x
unfolding pair
marked-values sh ram h c d k x m v s e t r = record {
  at_home = λ p. at-home (stores_word sh.base t.settled.commit.stores x) refl (λ j jl. rw tag at (p j jl));
  in_copies = λ j jl. rw tag (copied j jl (cases_eq j c));
  above = λ j y jl l. above j y jl (rw tag at l);
}
  where
    b : Known sh ram h
    b = s.known

    u : ℕ
    u = tid_at h.world d

    i : line_of x < lines sh
    i = mask-inside sh d (line_of x) t.settled.commit.stores (t.settled.marks (line_of x)) r

    old : tag_of h.world d x < u
    old = tag-below sh h c d (line_of x) b.stand b.tags s.dir i e
        (rw (sym t.settled.tid) (rising-above 0 h.commits t.settled.commit b.rising t.settled.noted))
        (λ y o z. ap (λ n. n.core.0) (t.only y o (sym z)) ∙ t.core) t.sent

    tag : tag_of v d x ≡ u
    tag = s.tags (line_of x) ∙ rw r

    new : ℕ
    new = value_of sh ram v h.commits d None x

    same-core : (j : ℕ) → v.cores j ≡ h.world.cores j
    same-core j = ap (λ f. f j) s.answers.cores

    -- a core without a copy of the line
    none : (j y z : ℕ) → j < sh.cores → tag_of h.world d x < y
        → cond (wrote_line sh.base h.commits j y (line_of x)) (live (Commits y) (to_dir h.world j d)) 0 ≡ 0 → CopiesHave x y z (pair v j d)
    none j y z jl l o = have-still (pair v j d) (same-core j) (omega (arith, s.answers.net))
        refl (none-copied x y z (pair h.world j d) (b.caches j) ((b.above j d (line_of x) y jl s.dir i e l).one ∙ o))

    above : (j y : ℕ) → j < sh.cores → u < y → CopiesHave x y (value_of sh ram v h.commits d (Some j) x) (pair v j d)
    above j y jl l = none j y (value_of sh ram v h.commits d (Some j) x) jl (omega (arith, old, l))
        (cond-zero (wrote_line sh.base h.commits j y (line_of x)) (later (cases_lt 0 (live (Commits y) (to_dir h.world j d)))))
      where
        later : (0 < live (Commits y) (to_dir h.world j d)) ⊎ (live (Commits y) (to_dir h.world j d) ≤ 0)
            → live (Commits y) (to_dir h.world j d) ≡ 0
        later (inr z) = omega arith
        later (inl z) = absurd (omega (arith, b.served j d y jl s.dir (omega arith)))

    copied : (j : ℕ) → j < sh.cores → (j ≡ c) ⊎ (j ≢ c) → CopiesHave x u new (pair v j d)
    copied j jl (inl q) = have-still (pair v j d) (same-core j)
        (omega (arith, s.answers.net))
        (rw q (value-after sh ram h c d k x m v s e)) ((b.values d x s.dir e).above j u jl old)
    copied j jl (inr q) = none j u new jl old (rw (other-writer sh h c j d (line_of x) q t))

    at-home : (y : Bool) → stores_word sh.base t.settled.commit.stores x ≡ y → ((j : ℕ) → j < sh.cores → word_copies x u (pair v j d) ≡ 0)
        → (v.dirs d).words x ≡ new
    at-home true q p = absurd (
        let z : word_copies x u (pair h.world c d) ≡ word_copies x u (pair v c d) =
        same-copies x u (pair h.world c d) (pair v c d) (same-core c)
        (omega (arith, s.answers.net (CopyWord x u) c d, unconsumed (c == c && d == d) (no-word (passes (CopyWord x u) m) refl))) in
        omega (arith, z, p c s.core, stored-copied h c d x b s.core s.dir e t i r old q))
      where
        no-word : (b : Bool) → passes (CopyWord x u) m ≡ b → b ≡ false
        no-word false q = refl
        no-word true q = absurd (let o : num (passes (CopyWord x u) m) ≡ 1 = ap num q in
            let z : num (passes (CopyOf (line_of x) u) m) ≡ 0 = ap num (s.copies (line_of x) u) in omega (arith, word-line))
    at-home false q p = s.words x ∙ (b.values d x s.dir e).at_home (λ j jl. none-old h d j x b jl s.dir e t i r q)
        ∙ sym (unstored-value x s e t q None)

settled-values : (sh : Shape) (ram : ℕ → ℕ) (h : History) (c d k x : ℕ) (m : Msg) (v : World) → Settled sh ram h c d k m v
    → home_of sh x ≡ d → ValuesAt sh ram v h.commits d x
settled-values sh ram h c d k x m v s e = elim (tested (has_mark (h.world.dirs d).lines (line_of x))) [
  | inl r ↦ marked-values sh ram h c d k x m v s e t r
  | inr r ↦ unmarked-values sh ram h c d k x m v s e t r
]
  where
    t : TakenCommit sh h.commits h.world c d
    t = taken-of h c d k m s.known s.core s.dir s.flight s.counts

pub known : (sh : Shape) (p : Program) (entries : ℕ → Local) (ram : ℕ → ℕ) (gs : List Grant) (ys : Ways) (views : ℕ → Uses) (m : Plain)
    (h : History) → Invariants sh p entries ram gs ys views m h → Known sh ram h
unfolding pair
known sh p entries ram gs ys views m h k = record {
  caches = k.carried.frames_stand_in_their_sets;
  rising = k.carried.commits_are_of_granted_tids.0;
  stand = k.carried.commit_is_on_its_way_or_applied;
  served = k.carried.committing_tid_is_served;
  stored = k.carried.marks_sent_are_the_lines_stored.2;
  marks = k.carried.commit_counts_the_lines;
  whole = k.carried.line_marked_in_part_has_no_owner;
  tags = k.carried.line_tag_is_the_last_settled_writer;
  owned = k.carried.owned_line_has_one_copy_with_its_tag;
  above = k.carried.copy_above_the_tag_is_of_a_commit_in_flight;
  inside = k.carried_in_memory.commits_stay_in_memory;
  copies = k.carried_in_memory.copies_in_flight_are_of_lines_in_memory;
  invs = k.carried.owed_counts_invs_and_acks;
  named = k.carried.inv_and_ack_name_a_marked_line;
  spared = λ c d l dl o t. (k.carried.no_inv_to_the_core_that_committed.0 c d).own dl
      (rw t at (k.carried.owner_is_the_core_of_the_tag d l c o));
  values = values-of k.home_words_are_current k.copy_above_the_tag_has_the_committed_words;
}

-- a directory's answer
here : (d : ℕ) (s : DirState) (f : ℕ → DirState) → (if d == d then s else f d) ≡ s
here d s f = let y : (d == d) ≡ true = grind nats in rw y

away : (e d : ℕ) (s : DirState) (f : ℕ → DirState) → e ≢ d → (if e == d then s else f e) ≡ f e
away e d s f n = let y : (e == d) ≡ false = grind nats in rw y

taken : {sh : Shape} {ram : ℕ → ℕ} {h : History} (c d k : ℕ) {m : Msg} (s : DirState) (sends : Sends) → Known sh ram h → c < sh.cores
    → d < sh.dirs → FromCore h.world c d k m → CommitsStand sh (dir_takes h.world c d k s sends) h.commits
    → ((x : ℕ) → home_of sh x ≡ d → Answers sh h c d m (dir_takes h.world c d k s sends) → (dir_takes h.world c d k s sends).dirs d ≡ s
    → ValuesAt sh ram (dir_takes h.world c d k s sends) h.commits d x) → KeptValues sh ram (dir_takes h.world c d k s sends) h.commits
unfolding dir_takes
taken {sh} {h} c d k {m} s sends b cl dl i t f e x el q = elim (cases_eq e d) [
  | inl r ↦ rw r (f x (q ∙ r) a (here d s h.world.dirs))
  | inr n ↦ away-values h c d e x m b n el q a (away e d s h.world.dirs n)
]
  where
    a : Answers sh h c d m (dir_takes h.world c d k s sends)
    a = record { cores = refl; net = takes-consumes h.world c d k m s sends i; stand = t }

-- where no copy is consumed the word stays
stays : {x : ℕ} {m : Msg} {s new : DirState} → NoCopy m → HomeBy s m x new → new.words x ≡ s.words x
stays n (Left e f) = e
stays {x} {m} {s} n (Home e f) = absurd (let o : num (passes (CopyWord x (s.lines.tag (line_of x))) m) ≡ 1 = ap num e in
    let z : num (passes (CopyOf (line_of x) (s.lines.tag (line_of x))) m) ≡ 0 = ap num (n (line_of x) (s.lines.tag (line_of x))) in
    omega (arith, word-line))

takes : {sh : Shape} {ram : ℕ → ℕ} (h : History) (c d k : ℕ) (m : Msg) (s : DirState) (sends : Sends) → Known sh ram h → c < sh.cores
    → d < sh.dirs → FromCore h.world c d k m → CommitsStand sh (dir_takes h.world c d k s sends) h.commits
    → ((x : ℕ) → HomeBy (h.world.dirs d) m x s) → Records sh (h.world.dirs d) c m s
    → KeptValues sh ram (dir_takes h.world c d k s sends) h.commits
takes h c d k m s sends b cl dl i t f (Still y n q) = taken c d k s sends b cl dl i t (λ x e a r. taken-values h c d k x m b cl dl e i a n
    (ap (λ z. z.lines.tag (line_of x)) r ∙ y.tags (line_of x)) (subst (HomeBy (h.world.dirs d) m x) (sym r) (f x)))
takes h c d k m s sends b cl dl i t f (Came l p o g u n) = taken c d k s sends b cl dl i t
    (λ x e a r. taken-values h c d k x m b cl dl e i a n
    (ap (λ z. z.lines.tag (line_of x)) r ∙ g (line_of x)) (subst (HomeBy (h.world.dirs d) m x) (sym r) (f x)))
takes {sh} {ram} h c d k m s sends b cl dl i t f (Settles q g u n) =
    taken c d k s sends b cl dl i t (λ x e a r. settled-values sh ram h c d k x m (dir_takes h.world c d k s sends) (record {
      known = b;
      core = cl;
      dir = dl;
      flight = i;
      answers = a;
      counts = q;
      tags = λ l. ap (λ z. z.lines.tag l) r ∙ g l;
      copies = n;
      words = λ y. ap (λ z. z.words y) r ∙ stays n (f y);
    }) e)

drops : {sh : Shape} {ram : ℕ → ℕ} (h : History) (c d k : ℕ) (m : Msg) → Known sh ram h → c < sh.cores → d < sh.dirs
    → FromCore h.world c d k m → CommitsStand sh (dir_takes h.world c d k (h.world.dirs d) nothing) h.commits
    → Dropped (h.world.dirs d) c m → KeptValues sh ram (dir_takes h.world c d k (h.world.dirs d) nothing) h.commits
drops h c d k m b cl dl i t n = taken c d k (h.world.dirs d) nothing b cl dl i t
    (λ x e a r. dropped-values h c d k x m b cl dl e i a r n)

asks : {sh : Shape} {ram : ℕ → ℕ} (h : History) (d : ℕ) (s : DirState) (sends : Sends) → Known sh ram h
    → CommitsStand sh (dir_asks h.world d s sends) h.commits → ((x : ℕ) → s.words x ≡ (h.world.dirs d).words x)
    → RecordStays (h.world.dirs d) s → KeptValues sh ram (dir_asks h.world d s sends) h.commits
unfolding dir_asks
asks {ram} h d s sends b t f y e x el q = elim (cases_eq e d) [
  | inl r ↦ quiet-keep v (record {
    cores = refl;
    tag = ap (λ z. z.lines.tag (line_of x)) (asked r) ∙ y.tags (line_of x) ∙ rw r;
    words = ap (λ z. z.words x) (asked r) ∙ f x ∙ rw r;
    copies = λ j. refl;
    others = λ j u z. omega arith;
    value = same-value ram h.world v h.commits x b.stand t b.inside el q (λ n o z. refl);
  }) (b.values e x el q)
  | inr n ↦ same-values v refl (away e d s h.world.dirs n) (λ l j. refl) (b.values e x el q)
]
  where
    v : World
    v = dir_asks h.world d s sends

    asked : (e ≡ d) → v.dirs e ≡ s
    asked r = rw r (here d s h.world.dirs)

pub answered : {sh : Shape} {ram : ℕ → ℕ} (h : History) (c d k : ℕ) {m : Msg} (a : Answer) → Known sh ram h → c < sh.cores → d < sh.dirs
    → FromCore h.world c d k m → RecordsBy sh (h.world.dirs d) c m a → ((x : ℕ) → WordsBy (h.world.dirs d) m x a)
    → OfAnswer h.world c d k (λ v. CommitsStand sh v h.commits → KeptValues sh ram v h.commits) a
answered h c d k Waits b cl dl i r f = tt
answered h c d k {m} Drops b cl dl i r f = λ t. drops h c d k m b cl dl i t r
answered h c d k (Asks s sends) b cl dl i r f = λ t. asks h d s sends b t f r
answered h c d k {m} (Takes s sends) b cl dl i r f = λ t. takes h c d k m s sends b cl dl i t f r

-- the vendor's grant
pub granted : {sh : Shape} {ram : ℕ → ℕ} (h : History) (c k : ℕ) (a : Ask) → Known sh ram h
    → KeptValues sh ram (gives_to h.world c k a) h.commits
unfolding vendor_gives
granted h c k a b e x el q = same-values (gives_to h.world c k a) refl refl
    (λ l j. rw (and-false (j == c))) (b.values e x el q)
