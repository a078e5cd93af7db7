-- Facts that tell of no message and no commit, and what parts of an event's facts are so.
use Rattle.std.proofs.Common.{◌≡◌, ◌==◌, ℕ, Bool, true, false, List, [], ◌∷◌, ◌++◌, Option, Some, None, nat_lt, ◌&&◌}
use Rattle.std.proofs.Common.{if◌then◌else◌, refl}
use Rattle.std.specs.List.{list_any}
use Rattle.tcc_base.specs.declared.access.Commit.{Commit as Noted}
use Rattle.rules_maps.specs.Nodes.{Node, Core, Dir, Vendor, Msg, TidGrant, Inv}
use Rattle.rules_maps.specs.Shape.{Shape}
use Rattle.rules_program.specs.Program.{Program}
use Rattle.rules_tcc.specs.State.{Awaited, CoreState, Phase, DoomedTid, Ready, Overflowing, World}
use Rattle.watch.specs.Facts.{Fact, Took, Dropped, AskedOwner, Committed, Sent, CameTo, Serves, Violated}
use Rattle.watch.specs.Happened.{moved, same_phase}
use Rattle.watch.specs.Instructions.{executed, executed_in, missed_or_else, overflowed_or_done, evicted, evicted_line}
use Rattle.watch.specs.Messages.{violated, grant_given_up, given_up, tid_in, committer, commit_of, words_read}
use Rattle.trace_law.specs.Commits.{commits_in}
use Rattle.trace_law.specs.Sent.{numbers_in, is_consumed}

abbrev pub is_plain : Fact → Bool
is_plain (Took m) = false
is_plain (Dropped m) = false
is_plain (AskedOwner m) = false
is_plain (Committed t c n) = false
is_plain (Sent src dst k m) = false
is_plain _ = true

unfoldable pub all_plain : List Fact → Bool
all_plain [] = true
all_plain (f ∷ fs) = is_plain f && all_plain fs

pub plain-append : (fs gs : List Fact) → all_plain fs ≡ true → all_plain gs ≡ true → all_plain (fs ++ gs) ≡ true
unfolding all_plain
plain-append [] gs a b = b
plain-append (f ∷ fs) gs a b = go (is_plain f) a (λ r. plain-append fs gs r b)
  where
    go : (c : Bool) → (c && all_plain fs) ≡ true → (all_plain fs ≡ true → all_plain (fs ++ gs) ≡ true)
        → (c && all_plain (fs ++ gs)) ≡ true
    go true e rest = rest e
    go false e rest = e

-- ---- what they tell of

pub plain-commits : (fs : List Fact) → all_plain fs ≡ true → commits_in fs ≡ []
unfolding all_plain commits_in
plain-commits [] e = refl
plain-commits (Took m ∷ fs) e = absurd cc
plain-commits (Dropped m ∷ fs) e = absurd cc
plain-commits (AskedOwner m ∷ fs) e = absurd cc
plain-commits (Committed t c n ∷ fs) e = absurd cc
plain-commits (Sent src dst k m ∷ fs) e = absurd cc
plain-commits (_ ∷ fs) e = plain-commits fs e

pub plain-numbers : (src dst : Node) (fs : List Fact) → all_plain fs ≡ true → numbers_in src dst fs ≡ []
unfolding all_plain numbers_in
plain-numbers src dst [] e = refl
plain-numbers src dst (Took m ∷ fs) e = absurd cc
plain-numbers src dst (Dropped m ∷ fs) e = absurd cc
plain-numbers src dst (AskedOwner m ∷ fs) e = absurd cc
plain-numbers src dst (Committed t c n ∷ fs) e = absurd cc
plain-numbers src dst (Sent s d k m ∷ fs) e = absurd cc
plain-numbers src dst (_ ∷ fs) e = plain-numbers src dst fs e

pub plain-consumed : (fs : List Fact) → all_plain fs ≡ true → list_any is_consumed fs ≡ false
unfolding all_plain
plain-consumed [] e = refl
plain-consumed (Took m ∷ fs) e = absurd cc
plain-consumed (Dropped m ∷ fs) e = absurd cc
plain-consumed (AskedOwner m ∷ fs) e = absurd cc
plain-consumed (Committed t c n ∷ fs) e = absurd cc
plain-consumed (Sent src dst k m ∷ fs) e = absurd cc
plain-consumed (_ ∷ fs) e = plain-consumed fs e

-- the messages of which they tell what became
abbrev pub heard_in : Fact → List Msg
heard_in (Took m) = m ∷ []
heard_in (Dropped m) = m ∷ []
heard_in (AskedOwner m) = m ∷ []
heard_in _ = []

unfoldable pub all_heard : List Fact → List Msg
all_heard [] = []
all_heard (f ∷ fs) = heard_in f ++ all_heard fs

pub plain-heard : (fs : List Fact) → all_plain fs ≡ true → all_heard fs ≡ []
unfolding all_plain all_heard
plain-heard [] e = refl
plain-heard (Took m ∷ fs) e = absurd cc
plain-heard (Dropped m ∷ fs) e = absurd cc
plain-heard (AskedOwner m ∷ fs) e = absurd cc
plain-heard (Committed t c n ∷ fs) e = absurd cc
plain-heard (Sent src dst k m ∷ fs) e = absurd cc
plain-heard (_ ∷ fs) e = plain-heard fs e

-- ---- parts of an event's facts that are plain

done-plain : (sh : Shape) (p : Program) (c : ℕ) (s t : CoreState) (q : Phase) → all_plain (overflowed_or_done sh p c s t q) ≡ true
unfolding all_plain
done-plain sh p c s t (Overflowing None) = refl
done-plain sh p c s t _ = refl

missed-plain : (sh : Shape) (p : Program) (c : ℕ) (s t : CoreState) (a : Option Awaited) → all_plain (missed_or_else sh p c s t a) ≡ true
unfolding all_plain
missed-plain sh p c s t (Some a) = refl
missed-plain sh p c s t None = done-plain sh p c s t t.phase

pub exec-plain : (sh : Shape) (p : Program) (c : ℕ) (s t : CoreState) → all_plain (executed sh p c s t) ≡ true
unfolding executed all_plain
exec-plain sh p c s t = go s.phase
  where
    go : (q : Phase) → all_plain (executed_in sh p c s t q) ≡ true
    go (Ready tid) = refl
    go _ = missed-plain sh p c s t t.awaited

pub evict-plain : (c x y : ℕ) (s : CoreState) → all_plain (evicted c x y s) ≡ true
unfolding evicted all_plain
evict-plain c x y s = go (s.cache.at x y)
  where
    go : (l : Option ℕ) → all_plain (evicted_line c s l) ≡ true
    go None = refl
    go (Some l) = refl

grant-plain : (c : ℕ) (m : Msg) (q : Phase) → all_plain (grant_given_up c m q) ≡ true
unfolding all_plain
grant-plain c (TidGrant t) DoomedTid = refl
grant-plain c _ _ = refl

given-up-plain : (c : ℕ) (t : Option ℕ) → all_plain (given_up c t) ≡ true
unfolding all_plain
given-up-plain c None = refl
given-up-plain c (Some t) = refl

violated-plain : (c : ℕ) (cs : List Noted) (m : Msg) (s t : CoreState) → all_plain (violated c cs m s t) ≡ true
unfolding all_plain
violated-plain c cs (Inv l w u) s t = go (nat_lt 0 s.n && t.n == 0)
  where
    go : (b : Bool) → all_plain (if b then Violated c (committer (commit_of u cs)) u l (words_read l w s) s.n s.phase
        ∷ given_up c (tid_in s.phase) else []) ≡ true
    go true = given-up-plain c (tid_in s.phase)
    go false = refl
violated-plain c cs _ s t = refl

-- what else a core's delivery tells than whether the message was taken
pub undone-plain : (c : ℕ) (cs : List Noted) (m : Msg) (s t : CoreState)
    → all_plain (violated c cs m s t ++ grant_given_up c m s.phase) ≡ true
undone-plain c cs m s t =
    plain-append (violated c cs m s t) (grant_given_up c m s.phase) (violated-plain c cs m s t) (grant-plain c m s.phase)

pub moved-plain : (w v : World) (a : Node) → all_plain (moved w v a) ≡ true
unfolding all_plain
moved-plain w v (Core c) = go (same_phase (w.cores c).phase (v.cores c).phase)
  where
    go : (b : Bool) → all_plain (if b then [] else CameTo c (v.cores c).phase ∷ []) ≡ true
    go true = refl
    go false = refl
moved-plain w v (Dir d) = go ((w.dirs d).serving.serving == (v.dirs d).serving.serving)
  where
    go : (b : Bool) → all_plain (if b then [] else Serves d (v.dirs d).serving.serving ∷ []) ≡ true
    go true = refl
    go false = refl
moved-plain w v Vendor = refl
