-- What holds of a core's counts all along a run, and the facts that leave it.
use Rattle.std.proofs.Common.{◌≡◌, ◌==◌, ◌<◌, ◌+◌, ℕ, Bool, true, false, not, List, [], ◌∷◌, ◌++◌, Some, None, ◌&&◌}
use Rattle.std.proofs.Common.{if◌then◌else◌, refl, arith, length, drop}
use Rattle.std.proofs.lemmas.Bool.Decides.{nat_tests}
use Rattle.std.specs.List.{flat_map}
use Rattle.rules_maps.specs.Nodes.{Node, Core, Dir, Vendor}
use Rattle.rules_maps.specs.Shape.{Shape}
use Rattle.rules_tcc.specs.State.{Phase, Link, World}
use Rattle.rules_tcc.specs.Useful.{nodes}
use Rattle.watch.specs.Facts.{Done, Fact, Did, Missed, Overflowed, Evicted, Took, Dropped, AskedOwner, Violated, GaveUp, Committed}
use Rattle.watch.specs.Facts.{CameTo, Serves, Sent}
use Rattle.watch.specs.Happened.{moved, same_phase, numbered, sent_to, sent}
use Rattle.watch_count.specs.Counts.{core_of}
use Rattle.watch_count.specs.Tables.{core_after, attempts_after, instructions_after}
use Rattle.watch_count.specs.declared.tables.Attempts.{Attempts}
use Rattle.watch_count.specs.declared.tables.CoreCounts.{CoreCounts}
use Rattle.watch_count.specs.declared.tables.Instructions.{Instructions}
use Rattle.count_law.proofs.Rows.{is_told, fact_after, row_after}

-- an attempt of n instructions is under way, and one has n instructions
abbrev pub open_of : ℕ → ℕ
open_of n = if n == 0 then 0 else 1

-- the core's attempt has n instructions; x commits have y instructions together
pub record Adds (n x y : ℕ) (i : Instructions) (a : Attempts) : Type 0 where
  pub executed : i.executed ≡ i.committed + i.lost + i.still_open
  pub under_way : i.still_open ≡ n
  pub begun : a.begun ≡ a.committed + a.violated + a.still_open
  pub one : a.still_open ≡ open_of n
  pub commits : a.committed ≡ x
  pub instructions : i.committed ≡ y

abbrev pub Kept : (n x y : ℕ) → CoreCounts → Type 0
Kept n x y k = Adds n x y k.instructions k.attempts

pub did-kept : (n x y c pc : ℕ) (d : Done) (k : CoreCounts) → Kept n x y k → Kept (n + 1) x y (core_after (Did c pc d) k)
unfolding core_after attempts_after instructions_after
did-kept n x y c pc d k h = record {
  executed = omega (arith, h.executed);
  under_way = omega (arith, h.under_way);
  begun = (let was = h.one in let all = h.begun in grind (arith, nat_tests, was, all));
  one = grind (arith, nat_tests);
  commits = h.commits;
  instructions = h.instructions;
}

pub committed-kept : (n x y t c m : ℕ) (k : CoreCounts) → 0 < n → m ≡ n → Kept n x y k
    → Kept 0 (x + 1) (y + m) (core_after (Committed t c m) k)
unfolding core_after attempts_after instructions_after
committed-kept n x y t c m k some e h = record {
  executed = omega (arith, h.executed, h.under_way, e);
  under_way = refl;
  begun = (let was = h.one in let all = h.begun in grind (arith, nat_tests, was, all, some));
  one = refl;
  commits = omega (arith, h.commits);
  instructions = omega (arith, h.instructions);
}

pub violated-kept : (n x y c by t l ws : ℕ) (q : Phase) (k : CoreCounts) → 0 < n → Kept n x y k
    → Kept 0 x y (core_after (Violated c by t l ws n q) k)
unfolding core_after attempts_after instructions_after
violated-kept n x y c by t l ws q k some h = record {
  executed = omega (arith, h.executed, h.under_way);
  under_way = refl;
  begun = (let was = h.one in let all = h.begun in grind (arith, nat_tests, was, all, some));
  one = refl;
  commits = h.commits;
  instructions = h.instructions;
}

-- ---- facts that leave what holds of core j: those of other cores, and those that tell of no instruction and no end of an attempt

abbrev pub leaves : (j : ℕ) → Fact → Bool
leaves j (Did c pc d) = not (c == j)
leaves j (Committed t c n) = not (c == j)
leaves j (Violated c by t l ws lost q) = not (c == j)
leaves j _ = true

unfoldable pub all_leave : (j : ℕ) → List Fact → Bool
all_leave j [] = true
all_leave j (f ∷ fs) = leaves j f && all_leave j fs

gave-up-kept : (n x y t c : ℕ) (k : CoreCounts) → Kept n x y k → Kept n x y (core_after (GaveUp t c) k)
unfolding core_after attempts_after instructions_after
gave-up-kept n x y t c k h = record {
  executed = h.executed;
  under_way = h.under_way;
  begun = h.begun;
  one = h.one;
  commits = h.commits;
  instructions = h.instructions;
}

either : (n x y : ℕ) (f : Fact) (k : CoreCounts) (b : Bool) → Kept n x y k → Kept n x y (core_after f k)
    → Kept n x y (if b then core_after f k else k)
either n x y f k true h g = g
either n x y f k false h g = h

other : (n x y : ℕ) (f : Fact) (k : CoreCounts) (b : Bool) → not b ≡ true → Kept n x y k → Kept n x y (if b then core_after f k else k)
other n x y f k true e h = absurd cc
other n x y f k false e h = h

leave-kept : (a : Node) (j n x y : ℕ) (f : Fact) (k : CoreCounts) → leaves j f ≡ true → Kept n x y k → Kept n x y (fact_after a j f k)
unfolding core_after attempts_after instructions_after
leave-kept a j n x y (Did c pc d) k e h = other n x y (Did c pc d) k (c == j) e h
leave-kept a j n x y (Committed t c m) k e h = other n x y (Committed t c m) k (c == j) e h
leave-kept a j n x y (Violated c by t l ws lost q) k e h = other n x y (Violated c by t l ws lost q) k (c == j) e h
leave-kept a j n x y (GaveUp t c) k e h = either n x y (GaveUp t c) k (c == j) h (gave-up-kept n x y t c k h)
leave-kept a j n x y (Missed c pc addr l) k e h = either n x y (Missed c pc addr l) k (c == j) h h
leave-kept a j n x y (Overflowed c pc addr l) k e h = either n x y (Overflowed c pc addr l) k (c == j) h h
leave-kept a j n x y (Evicted c l dirty modified) k e h = either n x y (Evicted c l dirty modified) k (c == j) h h
leave-kept a j n x y (CameTo c q) k e h = either n x y (CameTo c q) k (c == j) h h
leave-kept a j n x y (Took m) k e h = either n x y (Took m) k (is_told j (core_of a (Took m))) h h
leave-kept a j n x y (Dropped m) k e h = h
leave-kept a j n x y (AskedOwner m) k e h = h
leave-kept a j n x y (Serves d t) k e h = h
leave-kept a j n x y (Sent src dst s m) k e h = h

pub all-leave-kept : (a : Node) (j n x y : ℕ) (fs : List Fact) (k : CoreCounts) → all_leave j fs ≡ true → Kept n x y k
    → Kept n x y (row_after a j fs k)
unfolding row_after all_leave
all-leave-kept a j n x y [] k e h = h
all-leave-kept a j n x y (f ∷ fs) k e h = go (leaves j f) refl e (all-leave-kept a j n x y fs (fact_after a j f k))
  where
    go : (b : Bool) → leaves j f ≡ b → (b && all_leave j fs) ≡ true
        → (all_leave j fs ≡ true → Kept n x y (fact_after a j f k) → Kept n x y (row_after a j fs (fact_after a j f k)))
        → Kept n x y (row_after a j fs (fact_after a j f k))
    go true here others rest = rest others (leave-kept a j n x y f k here h)
    go false here others rest = absurd cc

pub leave-append : (j : ℕ) (fs gs : List Fact) → all_leave j fs ≡ true → all_leave j gs ≡ true → all_leave j (fs ++ gs) ≡ true
unfolding all_leave
leave-append j [] gs e g = g
leave-append j (f ∷ fs) gs e g = go (leaves j f) e (λ rest. leave-append j fs gs rest g)
  where
    go : (b : Bool) → (b && all_leave j fs) ≡ true → (all_leave j fs ≡ true → all_leave j (fs ++ gs) ≡ true)
        → (b && all_leave j (fs ++ gs)) ≡ true
    go true e rest = rest e
    go false e rest = absurd cc

-- ---- where a node has come to, and what it has sent

numbered-leave : (j : ℕ) (src dst : Node) (k : ℕ) (ms : Link) → all_leave j (numbered src dst k ms) ≡ true
unfolding all_leave numbered
numbered-leave j src dst k [] = refl
numbered-leave j src dst k (None ∷ ms) = numbered-leave j src dst (k + 1) ms
numbered-leave j src dst k (Some m ∷ ms) = numbered-leave j src dst (k + 1) ms

mapped-leave : (j : ℕ) (f : Node → List Fact) (ns : List Node) → ((n : Node) → all_leave j (f n) ≡ true)
    → all_leave j (flat_map f ns) ≡ true
unfolding all_leave
mapped-leave j f [] each = refl
mapped-leave j f (n ∷ ns) each = leave-append j (f n) (flat_map f ns) (each n) (mapped-leave j f ns each)

sent-leave : (j : ℕ) (sh : Shape) (w v : World) (src : Node) → all_leave j (sent sh w v src) ≡ true
unfolding sent sent_to
sent-leave j sh w v src =
    mapped-leave j (sent_to w v src) (nodes sh)
    (λ dst. numbered-leave j src dst (length (w.net src dst)) (drop (length (w.net src dst)) (v.net src dst)))

moved-leave : (j : ℕ) (w v : World) (a : Node) → all_leave j (moved w v a) ≡ true
unfolding all_leave
moved-leave j w v (Core c) = go (same_phase (w.cores c).phase (v.cores c).phase)
  where
    go : (b : Bool) → all_leave j (if b then [] else CameTo c (v.cores c).phase ∷ []) ≡ true
    go true = refl
    go false = refl
moved-leave j w v (Dir d) = go ((w.dirs d).serving.serving == (v.dirs d).serving.serving)
  where
    go : (b : Bool) → all_leave j (if b then [] else Serves d (v.dirs d).serving.serving ∷ []) ≡ true
    go true = refl
    go false = refl
moved-leave j w v Vendor = refl

pub rest-leave : (j : ℕ) (sh : Shape) (w v : World) (a : Node) → all_leave j (moved w v a ++ sent sh w v a) ≡ true
rest-leave j sh w v a = leave-append j (moved w v a) (sent sh w v a) (moved-leave j w v a) (sent-leave j sh w v a)
