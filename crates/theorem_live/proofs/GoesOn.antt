-- Each core that hasn't halted goes on, by an event that is no other core's request for a TID, and no Exec of another core without one.
use Rattle.std.specs.Prelude.{ℕ, zero, suc, ◌+◌, ◌≡◌, ◌<◌, ◌≤◌, Bool, true, false, Option, Some, None, is_some}
use Rattle.std.proofs.Common.{arith, refl, ◌⊎◌, inl, inr}
use Rattle.std.proofs.lemmas.Bool.Decides.{nat_tests}
use Rattle.rules_program.specs.Program.{Program}
use Rattle.rules_maps.specs.Words.{num}
use Rattle.rules_maps.specs.Nodes.{Core, Vendor, Msg}
use Rattle.rules_maps.specs.Lines.{has_mark}
use Rattle.rules_maps.specs.Shape.{Shape}
use Rattle.rules_tcc.specs.State.{Awaited, Phase, Running, AwaitTid, DoomedTid, Probing, Ready, Overflowing, Solo, Halted}
use Rattle.rules_tcc.specs.CoreExec.{core_exec}
use Rattle.rules_tcc.specs.Step.{History}
use Rattle.theorem_serial.specs.Count.{Asks, AnyGrant, live, passes}
use Rattle.theorem_serial.specs.Pairs.{pair}
use Rattle.theorem_serial.specs.Tids.{waits_for_tid, has_tid}
use Rattle.rules_maps.specs.Messages.{is_grant}
use Rattle.theorem_live.specs.Progress.{GoesOn, EachGoesOn}
use Rattle.theorem_live.proofs.Events.{Moves, goes_on, exec_goes_on, grant_counted, ask_goes_on}
use Rattle.theorem_live.proofs.Holder.{NoneHeld, none_or_moves, after_next, awaited_moves}
use Rattle.theorem_live.proofs.Room.{room_moves}
use Rattle.theorem_live.proofs.Found.{serving_at}
use Rattle.theorem_live.proofs.State.{Reached}

granted : (m : Msg) → passes AnyGrant m ≡ true → is_grant m ≡ true
unfolding passes
granted m q = grind (arith, nat_tests)

-- a core that waits for a TID: its request or its grant is on its way
waiting : (sh : Shape) (p : Program) (h : History) (c : ℕ) → Reached sh p h → c < sh.cores → waits_for_tid (h.world.cores c).phase ≡ true
    → GoesOn sh p h.world c
unfolding pair
waiting sh p h c k l q = go (live AnyGrant (h.world.net Vendor (Core c))) refl
  where
    one : live Asks (h.world.net (Core c) Vendor) + live AnyGrant (h.world.net Vendor (Core c)) ≡ 1
    one = let n : num (waits_for_tid (h.world.cores c).phase) ≡ 1 = rw q refl in omega (arith, k.carried.one_tid_request_or_grant c 0, n)

    go : (x : ℕ) → live AnyGrant (h.world.net Vendor (Core c)) ≡ x → GoesOn sh p h.world c
    go (suc x) e = goes_on sh p h.world c (grant_counted sh p h.world AnyGrant c l granted (omega (arith, e)))
    go zero e = ask_goes_on sh p h.world c l (omega (arith, one, e))

-- a core that runs: alone with itself, or it awaits a line, and its home serves a TID beyond all that were granted
running : (sh : Shape) (p : Program) (h : History) (c : ℕ) → Reached sh p h → NoneHeld sh p h.world → c < sh.cores
    → (h.world.cores c).phase ≡ Running → GoesOn sh p h.world c
running sh p h c k n l e = go (h.world.cores c).awaited refl
  where
    unmarked : (d m : ℕ) → d < sh.dirs → h.world.next ≤ serving_at h.world d → has_mark (h.world.dirs d).lines m ≡ false
    unmarked d m i b = test (has_mark (h.world.dirs d).lines m) refl
      where
        test : (x : Bool) → has_mark (h.world.dirs d).lines m ≡ x → has_mark (h.world.dirs d).lines m ≡ false
        test false q = q
        test true q = absurd (omega (arith, b, (k.carried.marked_line_was_marked_by_the_served_tid.0 c d m l i q).1))

    served : (d : ℕ) → d < sh.dirs → Moves sh p h.world ⊎ (h.world.next ≤ serving_at h.world d)
        → Moves sh p h.world ⊎
        (((h.world.cores c).last_commit d < serving_at h.world d) × ((m : ℕ) → has_mark (h.world.dirs d).lines m ≡ false))
    served d i (inl m) = inl m
    served d i (inr b) = inr (omega (arith, b, after_next sh p h c d k l i), λ m. unmarked d m i b)

    moved : (is_some (core_exec sh p c (h.world.cores c)) ≡ true) ⊎ Moves sh p h.world → GoesOn sh p h.world c
    moved (inl x) = exec_goes_on sh p h.world c l x
    moved (inr m) = goes_on sh p h.world c m

    go : (o : Option Awaited) → (h.world.cores c).awaited ≡ o → GoesOn sh p h.world c
    go None a = moved (room_moves sh p h.world c k.equipped l (rw e refl) a)
    go (Some a) q = goes_on sh p h.world c (awaited_moves sh p h c a k l q (λ d i. served d i (n.beyond d i)))

pub each_goes_on : (sh : Shape) (p : Program) (h : History) → Reached sh p h → EachGoesOn sh p h.world
unfolding waits_for_tid has_tid
each_goes_on sh p h k c l n = go (h.world.cores c).phase refl (none_or_moves sh p h k)
  where
    holds : (t : ℕ) → has_tid (h.world.cores c).phase t ≡ true → Moves sh p h.world ⊎ NoneHeld sh p h.world → GoesOn sh p h.world c
    holds t q (inl m) = goes_on sh p h.world c m
    holds t q (inr a) = absurd (a.none t (record { core = c; below = l; has = q }))

    go : (q : Phase) → (h.world.cores c).phase ≡ q → Moves sh p h.world ⊎ NoneHeld sh p h.world → GoesOn sh p h.world c
    go Halted e r = absurd (n e)
    go Running e (inl m) = goes_on sh p h.world c m
    go Running e (inr a) = running sh p h c k a l e
    go AwaitTid e r = waiting sh p h c k l (rw e refl)
    go DoomedTid e r = waiting sh p h c k l (rw e refl)
    go (Overflowing None) e r = waiting sh p h c k l (rw e refl)
    go (Overflowing (Some t)) e r = holds t (rw e (grind (arith, nat_tests))) r
    go (Probing t) e r = holds t (rw e (grind (arith, nat_tests))) r
    go (Ready t) e r = holds t (rw e (grind (arith, nat_tests))) r
    go (Solo t) e r = holds t (rw e (grind (arith, nat_tests))) r
