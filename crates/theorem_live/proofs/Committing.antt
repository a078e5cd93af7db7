-- A TID that commits goes on: where a Commit is in flight, a Mark of its TID can be delivered, or makes the owner of its line answer, or
-- all lines are marked and the Commit is taken.
use Rattle.std.specs.Prelude.{ℕ, zero, suc, ◌+◌, ◌≡◌, ◌<◌, ◌≤◌, Bool, true, false, ◌==◌, ◌&&◌}
use Rattle.std.proofs.Common.{arith, refl, ap, ◌⊎◌, inl, inr}
use Rattle.std.proofs.lemmas.Bool.Decides.{nat_tests}
use Rattle.rules_program.specs.Program.{Program}
use Rattle.rules_maps.specs.Words.{num, count_below}
use Rattle.rules_maps.specs.Nodes.{Msg, Mark, Commit}
use Rattle.rules_maps.specs.Shape.{Shape, home, lines}
use Rattle.rules_maps.specs.Lines.{has_mark}
use Rattle.rules_tcc.specs.State.{DirState}
use Rattle.rules_tcc.specs.Step.{History}
use Rattle.rules_tcc.specs.DirDeliver.{dir_deliver, sum_below}
use Rattle.theorem_serial.specs.Count.{Commits, CommitOf, MarkOf, MarksAway, live, passes}
use Rattle.theorem_serial.specs.Counted.{CountsMarks}
use Rattle.theorem_serial.specs.Marks.{marks_of}
use Rattle.theorem_serial.specs.Pairs.{pair}
use Rattle.theorem_serial.proofs.Lemmas.{total-le, total-num, total-same, some-part}
use Rattle.theorem_live.proofs.Events.{Moves, is_answer, out_moves}
use Rattle.theorem_live.proofs.Found.{out, serving_at, Found, found, counted}
use Rattle.theorem_live.proofs.Owner.{owner_moves}
use Rattle.theorem_live.proofs.State.{Reached}
use Rattle.theorem_live.proofs.Waiting.{IsAsked, mark_answered, commit_answered}

-- Marks

mark_waits : (sh : Shape) (s : DirState) (c l t : ℕ) (m : Msg) → passes (MarkOf t l) m ≡ true → t ≤ s.serving.serving
    → (is_answer (dir_deliver sh s c m) ≡ true) ⊎ IsAsked s l
unfolding passes dir_deliver
mark_waits sh s c l t (Mark k n u) q b = let e : k ≡ l = grind (arith, nat_tests) in let f : u ≡ t = grind (arith, nat_tests) in
    rw (e, f) (mark_answered l n t s b)
mark_waits sh s c l t m q b = absurd (cc)

away : (sh : Shape) (d t l : ℕ) (m : Msg) → passes (MarkOf t l) m ≡ true → passes (MarksAway sh.dirs d) m ≡ false → home sh l ≡ d
unfolding passes
away sh d t l (Mark k n u) q a = let e : k ≡ l = grind (arith, nat_tests) in rw (← e) (grind (arith, nat_tests))
away sh d t l m q a = absurd (cc)

-- a Mark of a TID that is served or passed
pub mark_moves : (sh : Shape) (p : Program) (h : History) (c d t l : ℕ) → Reached sh p h → c < sh.cores → d < sh.dirs → l < lines sh
    → t ≤ serving_at h.world d → 1 ≤ live (MarkOf t l) (out h.world c d) → Moves sh p h.world
unfolding pair
mark_moves sh p h c d t l k i j inside b n = go (mark_waits sh (h.world.dirs d) c l t f.msg f.passes b)
  where
    f : Found (MarkOf t l) (out h.world c d)
    f = found (MarkOf t l) (out h.world c d) n

    near : (x : Bool) → passes (MarksAway sh.dirs d) f.msg ≡ x → passes (MarksAway sh.dirs d) f.msg ≡ false
    near false q = q
    near true q = absurd (omega (
      arith,
      counted (MarksAway sh.dirs d) (out h.world c d) f.at f.msg f.there q,
      (k.carried.marks_name_different_lines c d t l i j).1,
    ))

    go : (is_answer (dir_deliver sh (h.world.dirs d) c f.msg) ≡ true) ⊎ IsAsked (h.world.dirs d) l → Moves sh p h.world
    go (inl a) = out_moves sh p h.world c d f.at f.msg i j f.there a
    go (inr a) = owner_moves sh p h d l k j inside (away sh d t l f.msg f.passes (near (passes (MarksAway sh.dirs d) f.msg) refl)) a

-- Commits

-- a count is a sum of ones
count-total : (q : ℕ → Bool) (f : ℕ → ℕ) (n : ℕ) → ((l : ℕ) → l < n → f l ≡ num (q l)) → count_below q n ≡ sum_below f n
count-total q f n e = omega (arith, total-num q n, total-same f (λ l. num (q l)) n e)

-- it carries a count
record Counting (t : ℕ) (m : Msg) : Type 0 where
  count : ℕ
  is : m ≡ Commit t count

counts : (t : ℕ) (m : Msg) → passes (Commits t) m ≡ true → Counting t m
unfolding passes
counts t (Commit u n) q = let e : u ≡ t = grind (arith, nat_tests) in record { count = n; is = ap (λ x. Commit x n) e }
counts t m q = absurd (cc)

count-passes : (t n : ℕ) (m : Msg) → m ≡ Commit t n → passes (CommitOf t n) m ≡ true
unfolding passes
count-passes t n m e = rw e (grind (arith, nat_tests))

commit_taken : (sh : Shape) (s : DirState) (c t n : ℕ) (m : Msg) → m ≡ Commit t n → s.serving.serving ≡ t
    → count_below (has_mark s.lines) (lines sh) ≡ n → is_answer (dir_deliver sh s c m) ≡ true
unfolding dir_deliver
commit_taken sh s c t n m e b q = rw e (commit_answered sh c t n s b q)

pub commit_moves : (sh : Shape) (p : Program) (h : History) (c d t : ℕ) → Reached sh p h → c < sh.cores → d < sh.dirs
    → 1 ≤ live (Commits t) (out h.world c d) → Moves sh p h.world
unfolding pair marks_of
commit_moves sh p h c d t k i j n = go (sum_below sent (lines sh)) refl
  where
    sent : ℕ → ℕ
    sent l = live (MarkOf t l) (out h.world c d)

    served : serving_at h.world d ≡ t
    served = k.carried.committing_tid_is_served c d t i j n

    f : Found (Commits t) (out h.world c d)
    f = found (Commits t) (out h.world c d) n

    x : Counting t f.msg
    x = counts t f.msg f.passes

    marks : CountsMarks sh x.count t (pair h.world c d)
    marks = ((k.carried.marks_sent_are_in_flight_or_handled).1 c d t i).counted x.count j
        (counted (CommitOf t x.count) (out h.world c d) f.at f.msg f.there (count-passes t x.count f.msg x.is))

    one : (l : ℕ) → sent l ≡ 0
        → live (MarkOf t l) (out h.world c d) + num ((serving_at h.world d == t) && has_mark (h.world.dirs d).lines l)
        ≡ num (has_mark (h.world.dirs d).lines l)
    one l z = rw served (grind (arith, nat_tests, z))

    go : (y : ℕ) → sum_below sent (lines sh) ≡ y → Moves sh p h.world
    go (suc y) e = let r = some-part sent (lines sh) (omega (arith, e)) in
        mark_moves sh p h c d t r.0 k i j (r.1) (omega (arith, served)) (r.2)
    go zero e = out_moves sh p h.world c d f.at f.msg i j f.there
        (commit_taken sh (h.world.dirs d) c t x.count f.msg x.is served
        (counts-all (λ l b. omega (arith, total-le sent (lines sh) l b, e))))
      where
        counts-all : ((l : ℕ) → l < lines sh → sent l ≡ 0) → count_below (has_mark (h.world.dirs d).lines) (lines sh) ≡ x.count
        counts-all z = omega (
          arith,
          marks.sum,
          count-total (has_mark (h.world.dirs d).lines) (λ l. marks_of t l (pair h.world c d))
              (lines sh) (λ l b. one l (z l b)),
        )
