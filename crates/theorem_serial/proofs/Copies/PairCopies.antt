-- What events do to the copies of a line, as a pair of a core and the line's home sees them: those of the core, and a directory's answers.
use Rattle.theorem_serial.proofs
use proofs.Names
use Names.{ℕ, ◌+◌, ◌≡◌, ◌<◌, ◌≤◌, ◌⊎◌, ◌==◌, ◌&&◌, Bool, true, false, not, cond, List, [], ◌∷◌, Some, None, arith, refl, ◌∙◌, inl, inr}
use Names.{cases_eq, Noted, num, Dir, Shape, home, Link, Out, insert_commit, Commits, CopyOf, CopyMask, live, among, times, Pair}
use Names.{after_move, is_this, stores_in, names_line, wrote_line, wrote_mask, nats, sym, if◌then◌else◌, ap, Msg, DirState, Kind, passes}
use Names.{◌≢◌}
use proofs.Copies.CopySends.{Conserves, mask-copy, frame_copy, frame_wrong, wrong-copy}
use proofs.Counts.{live-sends}
use proofs.Copies.CopyRules.{Wrote, wrote-new, SameWrote, wrote-other, wrote-unknown}
use proofs.Marks.DirRecords.{NoCommit}

-- What each kind of event does, between a core and the line's home, to the copies of a line.

-- the core's copies of a line with this tag, in its frame and on their way home, and those with another mask
unfoldable pub line_copies : (line tag : ℕ) → Pair → ℕ
line_copies l t v = frame_copy v.core.cache l t + live (CopyOf l t) v.out

unfoldable pub line_wrong : (line tag mask : ℕ) → Pair → ℕ
line_wrong l t m v = frame_wrong v.core.cache l t m + live (CopyMask l t m) v.out

pub record LineCopies (base : ℕ) (cs : List Noted) (c l : ℕ) (v : Pair) : Type 0 where
  pub owned : line_copies l (v.dir.lines.tag l) v ≡ num (is_this (v.dir.lines.owner l) c)
  pub above : (t : ℕ) → v.dir.lines.tag l < t → line_copies l t v ≡ cond (wrote_line base cs c t l) (live (Commits t) v.out) 0
  pub masks : (t : ℕ) → v.dir.lines.tag l < t → line_wrong l t (wrote_mask base cs c t l) v ≡ 0

live-masks : (l t m : ℕ) (k : Link) → live (CopyMask l t m) k ≤ live (CopyOf l t) k
unfolding live
live-masks l t m [] = omega arith
live-masks l t m (None ∷ k) = live-masks l t m k
live-masks l t m (Some x ∷ k) = omega (arith, mask-copy, live-masks l t m k)

few-wrong : (l t m : ℕ) (v : Pair) → line_wrong l t m v ≤ line_copies l t v
unfolding line_wrong line_copies
few-wrong l t m v = omega (arith, wrong-copy, live-masks)

pub of-line : (l t : ℕ) (v : Pair) → line_copies l t v ≡ frame_copy v.core.cache l t + live (CopyOf l t) v.out
unfolding line_copies
of-line l t v = refl

of-wrong : (l t m : ℕ) (v : Pair) → line_wrong l t m v ≡ frame_wrong v.core.cache l t m + live (CopyMask l t m) v.out
unfolding line_wrong
of-wrong l t m v = refl

-- a core's event
moved-copies : (sh : Shape) (d l t : ℕ) (v : Pair) (o : Out) → home sh l ≡ d
    → frame_copy o.core.cache l t + among (CopyOf l t) (o.sends (Dir (home sh l))) + live (CopyOf l t) v.out ≡ line_copies l t
    (after_move v o d)
unfolding line_copies
moved-copies sh d l t v o e = rw e (omega (arith, live-sends))

moved-wrong : (sh : Shape) (d l t m : ℕ) (v : Pair) (o : Out) → home sh l ≡ d
    → frame_wrong o.core.cache l t m + among (CopyMask l t m) (o.sends (Dir (home sh l))) + live (CopyMask l t m) v.out ≡ line_wrong l t m
    (after_move v o d)
unfolding line_wrong
moved-wrong sh d l t m v o e = rw e (omega (arith, live-sends))

same-cond : (b : Bool) (x y : ℕ) → (b ≡ true → x ≡ y) → cond b x 0 ≡ cond b y 0
same-cond a x y h = grind nats

-- nothing is committed
pub copies-moved : (sh : Shape) {cs : List Noted} {c d l : ℕ} {v : Pair} (o : Out) → home sh l ≡ d → o.commit ≡ None
    → ((t : ℕ) → among (Commits t) (o.sends (Dir d)) ≡ 0) → Conserves sh l v.core o → LineCopies sh.base cs c l v
    → LineCopies sh.base cs c l (after_move v o d)
unfolding line_copies line_wrong
copies-moved sh {cs} {c} {d} {l} {v} o e n z k h = record {
  owned = omega (arith, moved-copies sh d l (v.dir.lines.tag l) v o e, rw n at (k.copies (v.dir.lines.tag l)));
  above =
      λ t i. omega (
        arith,
        moved-copies sh d l t v o e,
        rw n at (k.copies t),
        h.above t i,
        same-cond (wrote_line sh.base cs c t l) (live (Commits t) (after_move v o d).out) (live (Commits t) v.out)
            (λ y. omega (arith, z, live-sends)),
      );
  masks = λ t i. omega (
    arith,
    moved-wrong sh d l t (wrote_mask sh.base cs c t l) v o e,
    rw n at
        (k.wrong t (wrote_mask sh.base cs c t l)),
    h.masks,
  );
}

-- copies are lost, and there was none that counts
pub copies-lost : (sh : Shape) {cs : List Noted} (c d l : ℕ) (v : Pair) (o : Out) → home sh l ≡ d
    → ((t : ℕ) → among (Commits t) (o.sends (Dir d)) ≡ 0)
    → ((t : ℕ) → frame_copy o.core.cache l t + among (CopyOf l t) (o.sends (Dir (home sh l))) ≤ frame_copy v.core.cache l t)
    → ((t : ℕ) → v.dir.lines.tag l ≤ t → line_copies l t v ≡ 0) → LineCopies sh.base cs c l v → LineCopies sh.base cs c l (after_move v o d)
copies-lost sh {cs} c d l v o e z k f h = record {
  owned = omega (arith, gone, f);
  above =
      λ t i. omega (
        arith,
        gone t (omega arith),
        f t (omega arith),
        h.above t i,
        same-cond (wrote_line sh.base cs c t l) (live (Commits t) (after_move v o d).out) (live (Commits t) v.out)
            (λ y. omega (arith, z, live-sends)),
      );
  masks = λ t i. omega (arith, gone, few-wrong);
}
  where
    gone : (t : ℕ) → v.dir.lines.tag l ≤ t → line_copies l t (after_move v o d) ≡ 0
    gone t i = omega (arith, moved-copies sh d l t v o e, k t, f t i, (of-line l t v))

-- a commit by the core, of a TID that isn't the line's
pub record NewCommit (base : ℕ) (cs : List Noted) (c d l : ℕ) (v : Pair) (o : Out) (n : Noted) : Type 0 where
  pub fresh : times n.tid.0 cs ≡ 0
  pub core : n.core.0 ≡ c
  pub tag : names_line base n.stores l ≡ true → n.tid.0 ≡ v.dir.lines.tag l → ⊥
  pub sent : names_line base n.stores l ≡ true → live (Commits n.tid.0) v.out + among (Commits n.tid.0) (o.sends (Dir d)) ≡ 1
  pub others : (t : ℕ) → (n.tid.0 == t) ≡ false → among (Commits t) (o.sends (Dir d)) ≡ 0

pub copies-committed : {sh : Shape} {cs : List Noted} (c d l : ℕ) {v : Pair} (o : Out) {n : Noted} → home sh l ≡ d → o.commit ≡ Some n
    → NewCommit sh.base cs c d l v o n → Conserves sh l v.core o → LineCopies sh.base cs c l v
    → LineCopies sh.base (insert_commit n cs) c l (after_move v o d)
copies-committed {sh} {cs} c d l {v} o {n} e q x k h =
    record { owned = owned; above = λ t i. above t i (cases_eq n.tid.0 t); masks = λ t i. masks t i (cases_eq n.tid.0 t) }
  where
    u : ℕ
    u = n.tid.0

    ds : List Noted
    ds = insert_commit n cs

    copies : (t : ℕ) → line_copies l t (after_move v o d) ≡ line_copies l t v + num (names_line sh.base n.stores l && u == t)
    copies t = omega (arith, moved-copies sh d l t v o e, rw q at (k.copies t), of-line)

    wrong : (t m : ℕ)
        → line_wrong l t m (after_move v o d) ≡ line_wrong l t m v + num
        ((names_line sh.base n.stores l && u == t) && not (stores_in sh.base n.stores l == m))
    wrong t m = omega (arith, moved-wrong sh d l t m v o e, rw q at (k.wrong t m), of-wrong)

    none : (t : ℕ) (b : Bool) → (u == t) ≡ false → num (b && u == t) ≡ 0
    none t a r = grind nats

    not-tag : (b : Bool) → names_line sh.base n.stores l ≡ b → num (b && u == v.dir.lines.tag l) ≡ 0
    not-tag a r = grind nats

    owned : line_copies l (v.dir.lines.tag l) (after_move v o d) ≡ num (is_this (v.dir.lines.owner l) c)
    owned = omega (arith, copies (v.dir.lines.tag l), not-tag (names_line sh.base n.stores l) refl)

    -- the commit's own copies: none before
    mine : (t : ℕ) → u ≡ t → wrote_line sh.base cs c t l ≡ false
    mine t r = wrote-unknown sh.base cs c t l (rw r at x.fresh)

    new : (t : ℕ) → u ≡ t → Wrote sh.base ds c t l n
    new t r = wrote-new sh.base n cs c t l x.core r (rw r at x.fresh)

    one : (t : ℕ) (b : Bool) → u ≡ t → names_line sh.base n.stores l ≡ b
        → num (b && u == t) ≡ cond b (live (Commits t) (after_move v o d).out) 0
    one t a r s = grind (nats, live-sends)

    other : (t : ℕ) → u ≢ t → SameWrote sh.base cs ds c t l
    other t r = wrote-other sh.base n cs c t l (let y : (u == t) ≡ false = grind nats in last (n.core.0 == c) (u == t) y)
      where
        last : (a b : Bool) → b ≡ false → (a && b) ≡ false
        last a b z = grind nats

    above : (t : ℕ) → v.dir.lines.tag l < t → (u ≡ t) ⊎ (u ≢ t)
        → line_copies l t (after_move v o d) ≡ cond (wrote_line sh.base ds c t l) (live (Commits t) (after_move v o d).out) 0
    above t i (inl r) = let y = (new t r).line in let z : line_copies l t v ≡ 0 = h.above t i ∙ rw (mine t r) in
        rw y (copies t ∙ rw z (let w = one t (names_line sh.base n.stores l) r refl in omega arith))
    above t i (inr r) =
        let y : (u == t) ≡ false = grind nats in
        let s = (other t r).line in
        rw s (omega (
          arith,
          copies,
          none,
          h.above,
          same-cond (wrote_line sh.base cs c t l) (live (Commits t) (after_move v o d).out)
              (live (Commits t) v.out) (λ w. omega (arith, x.others, live-sends)),
        ))

    masks : (t : ℕ) → v.dir.lines.tag l < t → (u ≡ t) ⊎ (u ≢ t) → line_wrong l t (wrote_mask sh.base ds c t l) (after_move v o d) ≡ 0
    masks t i (inl r) =
        let y = (new t r).mask in
        let z : line_copies l t v ≡ 0 = h.above t i ∙ rw (mine t r) in
        let s : (stores_in sh.base n.stores l == stores_in sh.base n.stores l) ≡ true = grind nats in
        let w : num ((names_line sh.base n.stores l && u == t) && not (stores_in sh.base n.stores l == stores_in sh.base n.stores l)) ≡ 0 =
        rw s (never (names_line sh.base n.stores l && u == t)) in
        rw y (omega (arith, wrong, few-wrong))
      where
        never : (b : Bool) → num (b && false) ≡ 0
        never true = refl
        never false = refl
    masks t i (inr r) =
        let y : (u == t) ≡ false = grind nats in
        let s = (other t r).mask in
        let w : num ((names_line sh.base n.stores l && u == t) && not (stores_in sh.base n.stores l == wrote_mask sh.base cs c t l)) ≡ 0 =
        rw y (off (names_line sh.base n.stores l)) in
        rw s (omega (arith, wrong, h.masks))
      where
        off : (b : Bool) → num ((b && false) && not (stores_in sh.base n.stores l == wrote_mask sh.base cs c t l)) ≡ 0
        off true = refl
        off false = refl

-- What a directory's answer does, between a core and the line's home, to the copies of a line.

-- The line keeps its tag and its copies with a larger tag, and loses a copy with its tag only with its owner.
pub record Similar (base : ℕ) (cs : List Noted) (c l : ℕ) (v w : Pair) : Type 0 where
  pub cache : w.core.cache ≡ v.core.cache
  pub tag : w.dir.lines.tag l ≡ v.dir.lines.tag l
  pub owned : live (CopyOf l (v.dir.lines.tag l)) w.out + num (is_this (v.dir.lines.owner l) c) ≡ live
      (CopyOf l (v.dir.lines.tag l)) v.out + num (is_this (w.dir.lines.owner l) c)
  pub copies : (t : ℕ) → v.dir.lines.tag l < t → live (CopyOf l t) w.out ≡ live (CopyOf l t) v.out
  pub wrong : (t m : ℕ) → live (CopyMask l t m) w.out ≤ live (CopyMask l t m) v.out
  pub commits : (t : ℕ) → wrote_line base cs c t l ≡ true → live (Commits t) w.out ≡ live (Commits t) v.out

same-frames : (l t : ℕ) (v w : Pair) → w.core.cache ≡ v.core.cache → frame_copy w.core.cache l t ≡ frame_copy v.core.cache l t
same-frames l t v w e = rw e

same-wrong : (l t m : ℕ) (v w : Pair) → w.core.cache ≡ v.core.cache → frame_wrong w.core.cache l t m ≡ frame_wrong v.core.cache l t m
same-wrong l t m v w e = rw e

pub similar-copies : {base : ℕ} {cs : List Noted} {c l : ℕ} (v w : Pair) → Similar base cs c l v w → LineCopies base cs c l v
    → LineCopies base cs c l w
similar-copies {base} {cs} {c} {l} v w s h =
    record { owned = rw s.tag owned; above = λ t i. above t (rw s.tag at i); masks = λ t i. masks t (rw s.tag at i) }
  where
    g : ℕ
    g = v.dir.lines.tag l

    owned : line_copies l g w ≡ num (is_this (w.dir.lines.owner l) c)
    owned = omega (arith, of-line, same-frames l g v w s.cache)

    above : (t : ℕ) → g < t → line_copies l t w ≡ cond (wrote_line base cs c t l) (live (Commits t) w.out) 0
    above t i =
        omega (
          arith,
          of-line,
          same-frames l t v w s.cache,
          s.copies t i,
          h.above t i,
          same-cond (wrote_line base cs c t l)
              (live (Commits t) w.out) (live (Commits t) v.out) (s.commits t),
        )

    masks : (t : ℕ) → g < t → line_wrong l t (wrote_mask base cs c t l) w ≡ 0
    masks t i = let m : ℕ = wrote_mask base cs c t l in
        omega (arith, of-wrong l t m w, of-wrong l t m v, same-wrong l t m v w s.cache, s.wrong t m, h.masks t i)

-- Core c's Commit of TID u takes the line over; core j has one copy of it where it is c, and else none.
pub record TakenOver (base : ℕ) (cs : List Noted) (c u j l : ℕ) (v w : Pair) : Type 0 where
  pub cache : w.core.cache ≡ v.core.cache
  pub tag : w.dir.lines.tag l ≡ u
  pub old : v.dir.lines.tag l < u
  pub owner : w.dir.lines.owner l ≡ Some c
  pub copies : (t : ℕ) → live (CopyOf l t) w.out ≡ live (CopyOf l t) v.out
  pub writer : cond (wrote_line base cs j u l) (live (Commits u) v.out) 0 ≡ num (c == j)
  pub before : (t : ℕ) → u < t → live (Commits t) v.out ≡ 0
  pub after : (t : ℕ) → u < t → live (Commits t) w.out ≡ 0

nothing-in : (b : Bool) {x : ℕ} → x ≡ 0 → cond b x 0 ≡ 0
nothing-in a e = grind nats

pub taken-copies : {base : ℕ} {cs : List Noted} (c u j l : ℕ) {v : Pair} (w : Pair) → TakenOver base cs c u j l v w
    → LineCopies base cs j l v → LineCopies base cs j l w
taken-copies {base} {cs} c u j l {v} w s h =
    let owned : line_copies l u w ≡ num (c == j) = copies u ∙ h.above u s.old ∙ s.writer in
    record {
      owned = rw (s.tag, s.owner) owned;
      above = λ t i. above t (rw s.tag at i);
      masks = λ t i. let m : ℕ = wrote_mask base cs j t l in omega (arith, few-wrong, none);
    }
  where
    copies : (t : ℕ) → line_copies l t w ≡ line_copies l t v
    copies t = omega (arith, of-line, same-frames l t v w s.cache, s.copies t)

    none : (t : ℕ) → u < t → line_copies l t w ≡ 0
    none t i = copies t ∙ h.above t (omega arith) ∙ nothing-in (wrote_line base cs j t l) (s.before t i)

    above : (t : ℕ) → u < t → line_copies l t w ≡ cond (wrote_line base cs j t l) (live (Commits t) w.out) 0
    above t i = none t i ∙ sym (nothing-in (wrote_line base cs j t l) (s.after t i))

-- Each answer of a directory leaves the copies of a line similar, but that a Commit takes the lines over that it stored.

-- the directory is s now, and the message is consumed where it came from this core
pub record Answered (mine : Bool) (m : Msg) (s : DirState) (v w : Pair) : Type 0 where
  pub cache : w.core.cache ≡ v.core.cache
  pub dir : w.dir ≡ s
  pub lives : (k : Kind) → live k w.out + num (mine && passes k m) ≡ live k v.out

pub none-passes : (b : Bool) (k : Kind) (m : Msg) → passes k m ≡ false → num (b && passes k m) ≡ 0
none-passes a k m e = grind nats

still-live : {b : Bool} {m : Msg} {s : DirState} {v w : Pair} (k : Kind) → Answered b m s v w → passes k m ≡ false
    → live k w.out ≡ live k v.out
still-live {b} {m} k a e = omega (arith, a.lives, none-passes)

pub still-similar : (base : ℕ) (cs : List Noted) (c l : ℕ) {b : Bool} {m : Msg} {s : DirState} {v w : Pair} → Answered b m s v w
    → s.lines.tag l ≡ v.dir.lines.tag l → s.lines.owner l ≡ v.dir.lines.owner l
    → ((t : ℕ) → v.dir.lines.tag l ≤ t → passes (CopyOf l t) m ≡ false)
    → ((t : ℕ) → wrote_line base cs c t l ≡ true → num (b && passes (Commits t) m) ≡ 0) → Similar base cs c l v w
still-similar base cs c l {v} {w} a e f n q = record {
  cache = a.cache;
  tag = rw a.dir e;
  owned = let y : num (is_this (w.dir.lines.owner l) c) ≡ num (is_this (v.dir.lines.owner l) c) = rw (a.dir, f) in
      omega (arith, still-live (CopyOf l (v.dir.lines.tag l)) a (n (v.dir.lines.tag l) (omega arith)));
  copies = λ t i. still-live (CopyOf l t) a (n t (omega arith));
  wrong = λ t k. omega (arith, a.lives);
  commits = λ t y. omega (arith, a.lives, q);
}

-- a dropped copy isn't counted
pub dropped-similar : {base : ℕ} {cs : List Noted} {c l : ℕ} (b : Bool) (m : Msg) {v : Pair} (w : Pair) → Answered b m v.dir v w
    → NoCommit m → ((t : ℕ) → b ≡ true → passes (CopyOf l t) m ≡ true → t ≤ v.dir.lines.tag l)
    → (b ≡ true → passes (CopyOf l (v.dir.lines.tag l)) m ≡ true → is_this (v.dir.lines.owner l) c ≡ false) → LineCopies base cs c l v
    → Similar base cs c l v w
dropped-similar {c} {l} b m {v} w a n late other h = record {
  cache = a.cache;
  tag = rw a.dir;
  owned = let y : num (is_this (w.dir.lines.owner l) c) ≡ num (is_this (v.dir.lines.owner l) c) = rw a.dir in
      omega (arith, a.lives (CopyOf l (v.dir.lines.tag l)), here b (passes (CopyOf l (v.dir.lines.tag l)) m) refl refl);
  copies = λ t i. omega (arith, a.lives (CopyOf l t), above t i b (passes (CopyOf l t) m) refl refl);
  wrong = λ t k. omega (arith, a.lives);
  commits = λ t y. still-live (Commits t) a (n t);
}
  where
    g : ℕ
    g = v.dir.lines.tag l

    above : (t : ℕ) → g < t → (x y : Bool) → b ≡ x → passes (CopyOf l t) m ≡ y → num (x && y) ≡ 0
    above t i a y e f = grind nats

    here : (x y : Bool) → b ≡ x → passes (CopyOf l g) m ≡ y → num (x && y) ≡ 0
    here true true e f = absurd (let z : num (is_this (v.dir.lines.owner l) c) ≡ 0 = ap num (other e f) in
        let p : num (b && passes (CopyOf l g) m) ≡ 1 = rw (e, f) in
        omega (arith, of-line, a.lives (CopyOf l g)))
    here true false e f = refl
    here false y e f = refl

-- the owner's copy comes home
pub came-similar : (base : ℕ) (cs : List Noted) (c o l k : ℕ) {b : Bool} (m : Msg) (s : DirState) {v : Pair} (w : Pair) → (c == o) ≡ b
    → Answered b m s v w → ((l t : ℕ) → passes (CopyOf l t) m ≡ ((k == l) && (v.dir.lines.tag k == t))) → v.dir.lines.owner k ≡ Some o
    → s.lines.tag l ≡ v.dir.lines.tag l → s.lines.owner l ≡ (if l == k then None else v.dir.lines.owner l) → NoCommit m
    → Similar base cs c l v w
came-similar base cs c o l k {b} m s {v} w z a p own e f n = go (cases_eq k l)
  where
    g : ℕ
    g = v.dir.lines.tag l

    quiet : (t : ℕ) → wrote_line base cs c t l ≡ true → num (b && passes (Commits t) m) ≡ 0
    quiet t y = none-passes b (Commits t) m (n t)

    go : (k ≡ l) ⊎ (k ≢ l) → Similar base cs c l v w
    go (inr q) = let y : (k == l) ≡ false = grind nats in let x : (l == k) ≡ false = grind nats in
        still-similar base cs c l a e (rw x at f) (λ t i. p l t ∙ rw y) quiet
    go (inl q) =
        let y : (l == l) ≡ true = grind nats in
        let x : (g == g) ≡ true = grind nats in
        let r : passes (CopyOf l g) m ≡ true = p l g ∙ rw (q, y, x) in
        let u : w.dir.lines.owner l ≡ None = ap (λ d. d.lines.owner l) a.dir ∙ f ∙ rw (q, y) in
        let i : v.dir.lines.owner l ≡ Some o = rw q at own in
        let j : num (is_this (v.dir.lines.owner l) c) ≡ num b = rw (i, sym z) (turn o c) in
        let d : num (b && passes (CopyOf l g) m) ≡ num b = rw r (all b) in record {
          cache = a.cache;
          tag = rw a.dir e;
          owned = let t : num (is_this (w.dir.lines.owner l) c) ≡ 0 = rw u in omega (arith, a.lives);
          copies = λ t h. still-live (CopyOf l t) a (p l t ∙ rw q (later t h));
          wrong = λ t h. omega (arith, a.lives);
          commits = λ t h. omega (arith, a.lives, quiet);
        }
      where
        all : (b : Bool) → num (b && true) ≡ num b
        all a = grind nats

        turn : (x y : ℕ) → num (x == y) ≡ num (y == x)
        turn x y = grind nats

        later : (t : ℕ) → g < t → ((l == l) && (g == t)) ≡ false
        later t h = let y : (g == t) ≡ false = grind nats in rw y (grind arith)
