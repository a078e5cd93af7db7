-- What an event of a core does to its TID: a core that has none and waits for none goes on so, and is so after it has committed.
use Rattle.std.proofs.Common.{◌≡◌, ℕ, Bool, true, false, Option, Some, None, IfSome, inl, inr, refl, sym, subst, arith}
use Rattle.std.proofs.lemmas.Bool.Decides.{nat_tests}
use Rattle.tcc_base.specs.declared.access.Commit.{Commit as Noted}
use Rattle.rules_maps.specs.Nodes.{Node, Core, Dir, Vendor, Msg, TidGrant, Fill, ProbeReply, DataReq, Inv}
use Rattle.rules_maps.specs.Shape.{Shape}
use Rattle.rules_program.specs.Plain.{Outcome, Goes, Ended, Halted as HaltedWith, Trapped as TrappedWith}
use Rattle.rules_program.specs.Program.{Program}
use Rattle.rules_tcc.specs.Attempt.{Out}
use Rattle.rules_tcc.specs.Commit.{commit, committed_core, noted, phase_after_commit, solo_commit}
use Rattle.rules_tcc.specs.CoreDeliver.{core_deliver, data_request, fill, grant, grant_in_phase, invalidate, probe_reply}
use Rattle.rules_tcc.specs.CoreEvict.{core_evict}
use Rattle.rules_tcc.specs.CoreExec.{core_exec}
use Rattle.rules_tcc.specs.Sends.{Sends}
use Rattle.rules_tcc.specs.State.{CoreState, Phase, Running, AwaitTid, DoomedTid, Overflowing, Halted}
use Rattle.theorem_serial.specs.Tids.{has_tid, waits_for_tid}
use Rattle.theorem_serial.proofs.Lemmas.{Commits_now, Did, Ends_alone, each-exec, out, Steady, evict-steady, fill-steady, data-steady}
use Rattle.theorem_serial.proofs.Lemmas.{Hurt, Unhurt, Rolled, Doomed, Aborted, Gave_up, Invalidated, invalidate-cases}
use Rattle.theorem_serial.proofs.Lemmas.{Replied, Ignored, Probed, Left_alone, reply-cases}

-- a core in this phase has no TID, and waits for none
abbrev pub is_clear : Phase → Bool
is_clear Running = true
is_clear Halted = true
is_clear _ = false

pub clear-waits : (q : Phase) → is_clear q ≡ true → waits_for_tid q ≡ false
unfolding waits_for_tid
clear-waits Running e = refl
clear-waits Halted e = refl
clear-waits _ e = absurd cc

pub clear-has : (q : Phase) (t : ℕ) → is_clear q ≡ true → has_tid q t ≡ false
unfolding has_tid
clear-has Running t e = refl
clear-has Halted t e = refl
clear-has _ t e = absurd cc

not-clear : {A : Type 0} (q r : Phase) → q ≡ r → is_clear r ≡ false → is_clear q ≡ true → A
not-clear q r e f h = let x : is_clear r ≡ true = rw e at h in absurd (cc)

-- ---- events that commit nothing

pub record Calm (s : CoreState) (o : Out) : Type 0 where
  pub quiet : o.commit ≡ None
  pub clear : is_clear s.phase ≡ true → is_clear o.core.phase ≡ true

steady : (s : CoreState) (o : Out) → Steady s o → Calm s o
steady s o k = record { quiet = k.commit; clear = λ h. rw k.phase h }

pub evict-calm : (sh : Shape) (x y : ℕ) (s : CoreState) → IfSome (core_evict sh x y s) (Calm s)
evict-calm sh x y s = go (core_evict sh x y s) (evict-steady sh x y s)
  where
    go : (o : Option Out) → IfSome o (Steady s) → IfSome o (Calm s)
    go None k = tt
    go (Some o) k = steady s o k

granted-calm : (sh : Shape) (t : ℕ) (s : CoreState) (q : Phase) → s.phase ≡ q → Calm s (grant_in_phase sh t s q)
granted-calm sh t s AwaitTid e = record { quiet = refl; clear = not-clear s.phase _ e refl }
granted-calm sh t s DoomedTid e = record { quiet = refl; clear = λ h. refl }
granted-calm sh t s (Overflowing None) e = record { quiet = refl; clear = not-clear s.phase _ e refl }
granted-calm sh t s _ e = record { quiet = refl; clear = λ h. h }

replied-calm : (sh : Shape) (d t : ℕ) (s : CoreState) (o : Out) → Replied sh d t s o → Calm s o
replied-calm sh d t s o (Ignored e n) = subst (Calm s) (sym e) (record { quiet = refl; clear = λ h. h })
replied-calm sh d t s o (Probed e w q x y z n) = record { quiet = n; clear = not-clear s.phase _ e refl }
replied-calm sh d t s o (Left_alone e w q x y z n) = record { quiet = n; clear = not-clear s.phase _ e refl }

hurt-clear : (sh : Shape) (s r : CoreState) (sends : Sends) → Hurt sh s r sends → is_clear s.phase ≡ true → is_clear r.phase ≡ true
hurt-clear sh s r sends (Unhurt e x y z w) h = rw e h
hurt-clear sh s r sends (Rolled e q x z) h = rw q refl
hurt-clear sh s r sends (Doomed (inl e) q x z) h = not-clear s.phase _ e refl h
hurt-clear sh s r sends (Doomed (inr e) q x z) h = not-clear s.phase _ e refl h
hurt-clear sh s r sends (Aborted t e q x z) h = rw q refl
hurt-clear sh s r sends (Gave_up t e q x z) h = rw q refl

invalidated-calm : (sh : Shape) (l : ℕ) (s : CoreState) (o : Out) → Invalidated sh l s o → Calm s o
invalidated-calm sh l s o k = record { quiet = k.commit; clear = hurt-clear sh s o.core k.sends k.hurt }

pub deliver-calm : (sh : Shape) (s : CoreState) (n : Node) (m : Msg) → IfSome (core_deliver sh s n m) (Calm s)
unfolding core_deliver grant
deliver-calm sh s (Dir d) (ProbeReply t serving) = replied-calm sh d t s (probe_reply sh d t s) (reply-cases sh d t s)
deliver-calm sh s (Dir d) (Fill l ws) = steady s (fill l ws s) (fill-steady l ws s)
deliver-calm sh s (Dir d) (DataReq l) = steady s (data_request sh l s) (data-steady sh l s)
deliver-calm sh s (Dir d) (Inv l m t) = invalidated-calm sh l s (invalidate sh l m t s) (invalidate-cases sh l m t s)
deliver-calm sh s (Dir d) _ = tt
deliver-calm sh s Vendor (TidGrant t) = granted-calm sh t s s.phase refl
deliver-calm sh s Vendor _ = tt
deliver-calm sh s (Core c) m = tt

-- ---- a commit

after-commit : (o : Outcome) → is_clear (phase_after_commit o) ≡ true
after-commit Goes = refl
after-commit Ended = refl
after-commit (HaltedWith code) = refl
after-commit (TrappedWith code) = refl

-- what an Exec notes is of the TID that the core had, and leaves it none
pub record Commits (c : ℕ) (s : CoreState) (o : Out) (n : Noted) : Type 0 where
  pub own : n.core.0 ≡ c
  pub had : has_tid s.phase n.tid.0 ≡ true
  pub clear : is_clear o.core.phase ≡ true

pub exec-commits : (sh : Shape) (p : Program) (c : ℕ) (s : CoreState) → IfSome (core_exec sh p c s) (λ o. IfSome o.commit (Commits c s o))
unfolding commit solo_commit committed_core noted has_tid
exec-commits sh p c s = each-exec sh p c s (λ o. IfSome o.commit (Commits c s o)) go
  where
    go : (x : Did sh p c s) → IfSome (out x).commit (Commits c s (out x))
    go (Ends_alone t l e f r i) = record { own = refl; had = rw r (grind (arith, nat_tests)); clear = after-commit e }
    go (Commits_now t r) = record { own = refl; had = rw r (grind (arith, nat_tests)); clear = after-commit s.ended }
    go _ = tt
