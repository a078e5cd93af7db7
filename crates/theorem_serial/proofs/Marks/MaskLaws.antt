-- The laws on the marks of directories, from the invariants.
use Rattle.theorem_serial.proofs
use proofs.Names
use Names.{ℕ, zero, suc, ◌≡◌, ◌<◌, ◌≤◌, true, List, [], ◌∷◌, ◌==◌, Contains, length, slice_index_or, nat_lt, nat_le, arith, sym, ap, subst}
use Names.{◌∙◌, ◌⊎◌, inl, inr, cases_lt, Noted, num, count_below, modified_mask, has_mark, Msg, Shape, lines, CoreState, World, Link, start}
use Names.{History, run, Any, Commits, CommitOf, live, passes, CountsMarks, KeptAll, Always, marks_of, stores_line, marked_by, KeptMarks}
use Names.{wrong_marks, KeptMasks, AlwaysSince, MarkedByServed, MarksOfCommits, Grant, grants_from, IsRising, Pair, pair, stored_mask}
use Names.{stores_at, MarkedWith, KeptStored, nats, tid_at, to_dir, IfSome_then, first_state}
use proofs.Counts.{total-same, live-fewer}
use proofs.Marks.CommitMasks.{total-num}
use proofs.Marks.CountsKept.{none-away}
use proofs.Marks.StoredKept.{taken-marks, one-commit}
use proofs.Run.AllInvariants.{run-all}
use proofs.Tids.{inside_from}

-- a TID is that of one commit
rising-at : (last k : ℕ) (cs : List Noted) (x : Noted) → IsRising last cs → k < length cs → slice_index_or cs k x ≡ x → last < x.tid.0
unfolding IsRising
rising-at last k [] x h l e = absurd (omega arith)
rising-at last zero (c ∷ cs) x h l e = let q : c.tid.0 ≡ x.tid.0 = ap (λ y. y.tid.0) e in omega arith
rising-at last (suc k) (c ∷ cs) x h l e = omega (arith, rising-at c.tid.0 k cs x h.1 (omega arith) e)

same-at : (last i j : ℕ) (cs : List Noted) (x y : Noted) → IsRising last cs → x.tid.0 ≡ y.tid.0 → i < length cs → slice_index_or cs i x ≡ x
    → j < length cs → slice_index_or cs j y ≡ y → x ≡ y
unfolding IsRising
same-at last i j [] x y h t a p b q = absurd (omega arith)
same-at last zero zero (c ∷ cs) x y h t a p b q = sym p ∙ q
same-at last zero (suc j) (c ∷ cs) x y h t a p b q = let r : c.tid.0 ≡ x.tid.0 = ap (λ z. z.tid.0) p in
    absurd (omega (arith, rising-at c.tid.0 j cs y h.1 (omega arith) q))
same-at last (suc i) zero (c ∷ cs) x y h t a p b q = let r : c.tid.0 ≡ y.tid.0 = ap (λ z. z.tid.0) q in
    absurd (omega (arith, rising-at c.tid.0 i cs x h.1 (omega arith) p))
same-at last (suc i) (suc j) (c ∷ cs) x y h t a p b q = same-at c.tid.0 i j cs x y h.1 t (omega arith) p (omega arith) q

pub same-commit : (cs : List Noted) (x y : Noted) → IsRising 0 cs → Contains cs x → Contains cs y → x.tid.0 ≡ y.tid.0 → x ≡ y
same-commit cs x y h a b t = same-at 0 a.0 b.0 cs x y h t a.1 a.2 b.1 b.2

-- a marked line is a Mark of the served TID
marked-one : (l : ℕ) (v : Pair) → has_mark v.dir.lines l ≡ true → 1 ≤ marks_of v.dir.serving.serving l v
unfolding marks_of
marked-one l v h = let e : (v.dir.serving.serving == v.dir.serving.serving) ≡ true = grind nats in rw (e, h) (omega arith)

marked-right : (l q : ℕ) (v : Pair) → has_mark v.dir.lines l ≡ true → wrong_marks v.dir.serving.serving l q v ≡ 0 → v.dir.lines.mark l ≡ q
unfolding wrong_marks
marked-right l q v h z = grind nats

marked-stores : (sh : Shape) (s : CoreState) (d l : ℕ) → 1 ≤ marked_by sh s d l → stores_line sh s.cache d l ≡ true
unfolding marked_by
marked-stores sh s d l x = grind nats

served-marks : {sh : Shape} {gs : List Grant} (w : World) → KeptMarks sh gs w → KeptMasks sh w → MarkedByServed sh w
unfolding pair
served-marks {sh} w m q = record {
  granted = λ d l h. granted d l h (cases_lt (tid_at w d) w.next);
  stored = λ c d l x y t h. marked-stores sh (w.cores c) d l
      (omega (arith, marked-one l (pair w c d) h, (m c d (tid_at w d) l).held x y t));
  masked = λ c d l x y t h. marked-right l (modified_mask (w.cores c).cache l) (pair w c d) h (q c d (tid_at w d) l x y t);
}
  where
    granted : (d l : ℕ) → has_mark (w.dirs d).lines l ≡ true → (tid_at w d < w.next) ⊎ (w.next ≤ tid_at w d) → tid_at w d < w.next
    granted d l h (inl x) = x
    granted d l h (inr x) = let n : num (nat_le w.next (tid_at w d)) ≡ 1 = grind nats in
        absurd (omega (arith, marked-one l (pair w 0 d) h, (m 0 d (tid_at w d) l).fresh (omega arith)))

-- the commits of the list
one-any : (t : ℕ) (m : Msg) → num (passes (Commits t) m) ≤ num (passes Any m)
unfolding passes
one-any t m = grind nats

pub few-any : (t : ℕ) (k : Link) → live (Commits t) k ≤ live Any k
few-any t k = live-fewer (Commits t) Any (one-any t) k

few-commits : (t n : ℕ) (k : Link) → live (CommitOf t n) k ≤ live (Commits t) k
few-commits t n k = live-fewer (CommitOf t n) (Commits t) (one-commit t n) k

commits-marks : (sh : Shape) (gs : List Grant) (h : History) → KeptAll sh gs h → MarksOfCommits sh h.commits h.world
unfolding pair
commits-marks sh gs h k = record { stored = stored; counted = counted; sent = sent; taken = taken; owed = owed }
  where
    w : World
    w = h.world

    inside : (x : Noted) (d : ℕ) → 1 ≤ live (Commits x.tid.0) (to_dir w x.core.0 d) → x.core.0 < sh.cores
    inside x d o = inside_from sh x.core.0 (live Any (to_dir w x.core.0 d)) (k.kept.told.tids.inside x.core.0 d).out
        (omega (arith, few-any))

    sent : (x : Noted) (d l : ℕ) → Contains h.commits x → d < sh.dirs → 1 ≤ live (Commits x.tid.0) (to_dir w x.core.0 d)
        → MarkedWith x.tid.0 l (stored_mask sh d x.stores l) (pair w x.core.0 d)
    sent x d l c dl o =
        let y = (k.stored x.core.0 d x.tid.0).sent (inside x d o) dl o in
        subst (λ z. MarkedWith x.tid.0 l (stored_mask sh d z.stores l) (pair w x.core.0 d))
        (same-commit h.commits y.commit x k.owners.rising y.noted c y.tid) (y.marks l)

    stored : (x : Noted) (d : ℕ) → Contains h.commits x → d < sh.dirs → 1 ≤ live (Commits x.tid.0) (to_dir w x.core.0 d)
        → stores_at sh d x.stores ≡ true
    stored x d c dl o =
        let y = (k.stored x.core.0 d x.tid.0).sent (inside x d o) dl o in
        subst (λ z. stores_at sh d z.stores ≡ true) (same-commit h.commits y.commit x k.owners.rising y.noted c y.tid) y.stored

    counted : (x : Noted) (d n : ℕ) → Contains h.commits x → d < sh.dirs → 1 ≤ live (CommitOf x.tid.0 n) (to_dir w x.core.0 d)
        → count_below (λ l. nat_lt 0 (stored_mask sh d x.stores l)) (lines sh) ≡ n
    counted x d n c dl o =
        let z : 1 ≤ live (Commits x.tid.0) (to_dir w x.core.0 d) = omega (arith, few-commits) in
        sym (total-num (λ l. nat_lt 0 (stored_mask sh d x.stores l)) (lines sh))
        ∙ total-same (λ l. num (nat_lt 0 (stored_mask sh d x.stores l))) (λ l. marks_of x.tid.0 l (pair w x.core.0 d)) (lines sh)
        (λ l b. sym (sent x d l c dl z).one) ∙ ((k.counted x.core.0 d x.tid.0 (inside x d z)).counted n dl o).sum

    taken : (x : Noted) (d l : ℕ) → Contains h.commits x → d < sh.dirs → tid_at w d ≡ x.tid.0
        → 1 ≤ live (CommitOf x.tid.0 (count_below (has_mark (w.dirs d).lines) (lines sh))) (to_dir w x.core.0 d)
        → (w.dirs d).lines.mark l ≡ stored_mask sh d x.stores l
    taken x d l c dl e o =
        let n : ℕ = count_below (has_mark (w.dirs d).lines) (lines sh) in
        let z : 1 ≤ live (Commits x.tid.0) (to_dir w x.core.0 d) = omega (arith, few-commits) in
        let counts : CountsMarks sh n x.tid.0 (pair w x.core.0 d) = (k.counted x.core.0 d x.tid.0 (inside x d z)).counted n dl o in
        taken-marks l (pair w x.core.0 d) (none-away sh l (pair w x.core.0 d) (rw e counts)) (rw e (sent x d l c dl z))

    owed : (x : Noted) (d l : ℕ) → Contains h.commits x → d < sh.dirs → tid_at w d ≡ x.tid.0 → 1 ≤ (w.dirs d).owed
        → (w.dirs d).lines.mark l ≡ stored_mask sh d x.stores l
    owed x d l c dl e o =
        let y = (k.stored 0 d 0).settled dl o in
        subst (λ z. (w.dirs d).lines.mark l ≡ stored_mask sh d z.stores l)
        (same-commit h.commits y.commit x k.owners.rising y.noted c (y.tid ∙ e)) (y.marks l)

-- along every run
from_all : (P : Shape → List Noted → World → Type 0)
    → ((sh : Shape) (gs : List Grant) (h : History) → KeptAll sh gs h → P sh h.commits h.world) → AlwaysSince P
from_all P f sh p entries ram es = IfSome_then (run sh p (start entries ram) es) (run-all sh p entries ram es)
    (f sh (grants_from sh p es (first_state entries ram)))

pub masks_stored : Always KeptMasks
masks_stored = from_all (λ sh cs w. KeptMasks sh w) (λ sh gs h k. k.masks)

pub marked_by_served : Always MarkedByServed
marked_by_served = from_all (λ sh cs w. MarkedByServed sh w) (λ sh gs h k. served-marks h.world k.marks k.masks)

pub commits_stored : AlwaysSince KeptStored
commits_stored = from_all KeptStored (λ sh gs h k. k.stored)

pub marks_of_commits : AlwaysSince MarksOfCommits
marks_of_commits = from_all MarksOfCommits commits-marks
