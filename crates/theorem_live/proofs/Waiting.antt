-- When a directory lets a message wait.
use Rattle.std.specs.Prelude.{ℕ, ◌≡◌, ◌<◌, ◌≤◌, Bool, true, false, List, Option, Some, None, nat_lt, nat_le}
use Rattle.std.proofs.Common.{arith, refl, ◌⊎◌, inl, inr}
use Rattle.std.proofs.lemmas.Bool.Decides.{nat_tests}
use Rattle.rules_maps.specs.Words.{count_below}
use Rattle.rules_maps.specs.Shape.{Shape, lines}
use Rattle.rules_maps.specs.Lines.{has_mark}
use Rattle.rules_maps.specs.Judge.{judge}
use Rattle.rules_tcc.specs.State.{DirState}
use Rattle.rules_tcc.specs.DirDeliver.{skip, abort, probe, ask_owner, load_request, mark, dir_commit, acknowledgement, write_back}
use Rattle.theorem_live.proofs.Events.{is_answer}

-- the line is owned, and its owner was asked for its words
pub record IsAsked (s : DirState) (l : ℕ) : Type 0 where
  pub owner : ℕ
  pub owned : s.lines.owner l ≡ Some owner
  pub asked : s.lines.asked l ≡ true

pub skip_answered : (t : ℕ) (s : DirState) → is_answer (skip t s) ≡ true
unfolding skip
skip_answered t s = grind (arith, nat_tests)

pub abort_answered : (t : ℕ) (s : DirState) → is_answer (abort t s) ≡ true
unfolding abort
abort_answered t s = grind (arith, nat_tests)

pub ack_answered : (c l : ℕ) (keeps : Bool) (s : DirState) → is_answer (acknowledgement c l keeps s) ≡ true
unfolding acknowledgement
ack_answered c l keeps s = grind (arith, nat_tests)

-- a probe waits until its TID is served
pub probe_answered : (c t : ℕ) (s : DirState) → t ≤ s.serving.serving → is_answer (probe c t s) ≡ true
unfolding probe
probe_answered c t s h = grind (arith, nat_tests)

asked_or : (s : DirState) (o l : ℕ) → s.lines.owner l ≡ Some o → (is_answer (ask_owner o l s) ≡ true) ⊎ IsAsked s l
unfolding ask_owner
asked_or s o l e = go (s.lines.asked l) refl
  where
    go : (b : Bool) → s.lines.asked l ≡ b → (is_answer (ask_owner o l s) ≡ true) ⊎ IsAsked s l
    go true q = inr (record { owner = o; owned = e; asked = q })
    go false q = inl (rw q refl)

-- a load request for a line without mark, behind the core's last commit, waits for an owner that was asked
pub load_answered : (c l after : ℕ) (s : DirState) → after < s.serving.serving → has_mark s.lines l ≡ false
    → (is_answer (load_request c l after s) ≡ true) ⊎ IsAsked s l
unfolding load_request
load_answered c l after s h m = go (s.lines.owner l) refl
  where
    early : nat_le s.serving.serving after ≡ false
    early = grind (arith, nat_tests)

    go : (o : Option ℕ) → s.lines.owner l ≡ o → (is_answer (load_request c l after s) ≡ true) ⊎ IsAsked s l
    go None e = inl (rw (early, m, e) refl)
    go (Some o) e = either (asked_or s o l e)
      where
        either : (is_answer (ask_owner o l s) ≡ true) ⊎ IsAsked s l → (is_answer (load_request c l after s) ≡ true) ⊎ IsAsked s l
        either (inl a) = inl (rw (early, m, e) a)
        either (inr a) = inr a

-- a Mark of a TID that is served or passed waits for an owner that was asked
pub mark_answered : (l m t : ℕ) (s : DirState) → t ≤ s.serving.serving → (is_answer (mark l m t s) ≡ true) ⊎ IsAsked s l
unfolding mark
mark_answered l m t s h = go (s.lines.owner l) refl
  where
    ready : nat_lt s.serving.serving t ≡ false
    ready = grind (arith, nat_tests)

    go : (o : Option ℕ) → s.lines.owner l ≡ o → (is_answer (mark l m t s) ≡ true) ⊎ IsAsked s l
    go None e = inl (rw (ready, e) (grind (arith, nat_tests)))
    go (Some o) e = either (asked_or s o l e)
      where
        either : (is_answer (ask_owner o l s) ≡ true) ⊎ IsAsked s l → (is_answer (mark l m t s) ≡ true) ⊎ IsAsked s l
        either (inl a) = inl (rw (ready, e) (grind (arith, nat_tests)))
        either (inr a) = inr a

-- a Commit of the served TID is taken once all its lines are marked
pub commit_answered : (sh : Shape) (c t n : ℕ) (s : DirState) → s.serving.serving ≡ t → count_below (has_mark s.lines) (lines sh) ≡ n
    → is_answer (dir_commit sh c t n s) ≡ true
unfolding dir_commit
commit_answered sh c t n s e q = grind (arith, nat_tests)

-- words of the line's tag or an earlier one don't wait
pub copy_answered : (c l m : ℕ) (ws : List ℕ) (g : ℕ) (s : DirState) → g ≤ s.lines.tag l → is_answer (write_back c l m ws g s) ≡ true
unfolding write_back judge
copy_answered c l m ws g s h = grind (arith, nat_tests)
