-- Serving stands: the TID that a directory serves is the vendor's next, or a core has it; else some message about it can go on.
use Rattle.std.specs.Prelude.{ℕ, zero, suc, ◌+◌, ◌≡◌, ◌<◌, ◌≤◌, Bool, true, false, nat_lt}
use Rattle.std.proofs.Common.{arith, refl, ◌⊎◌, inl, inr}
use Rattle.std.proofs.lemmas.Bool.{cases_lt}
use Rattle.std.proofs.lemmas.Bool.Decides.{nat_tests}
use Rattle.rules_program.specs.Program.{Program}
use Rattle.rules_maps.specs.Words.{num}
use Rattle.rules_maps.specs.Nodes.{Core, Vendor, Msg, Skip, Abort, InvAck}
use Rattle.rules_maps.specs.Serving.{is_skipped}
use Rattle.rules_maps.specs.Shape.{Shape}
use Rattle.rules_tcc.specs.State.{DirState, World}
use Rattle.rules_tcc.specs.Step.{History}
use Rattle.rules_tcc.specs.DirDeliver.{dir_deliver, sum_below}
use Rattle.theorem_serial.specs.Count.{Grants, Commits, Skips, Aborts, Invs, Acks, live, passes}
use Rattle.theorem_serial.specs.Owed.{due}
use Rattle.theorem_serial.specs.Owners.{holder}
use Rattle.theorem_serial.specs.Pairs.{pair, share}
use Rattle.theorem_serial.specs.Tids.{has_tid}
use Rattle.theorem_serial.specs.Ways.{Way, Untold, Skipped, Aborted, Committed}
use Rattle.theorem_serial.specs.WayLaws.{Settled, is_given_up, given_up_by}
use Rattle.theorem_serial.proofs.Lemmas.{total-le, some-part, num-one}
use Rattle.rules_maps.specs.Messages.{goes_to_core, is_grant}
use Rattle.theorem_live.proofs.Committing.{commit_moves}
use Rattle.theorem_live.proofs.Events.{Moves, is_answer, back_counted, grant_counted, out_counted}
use Rattle.theorem_live.proofs.State.{Reached}
use Rattle.theorem_live.proofs.Found.{back, out, serving_at}
use Rattle.theorem_live.proofs.Waiting.{skip_answered, abort_answered, ack_answered}

-- a core has the TID
pub record IsHeld (sh : Shape) (w : World) (t : ℕ) : Type 0 where
  pub core : ℕ
  pub below : core < sh.cores
  pub has : has_tid (w.cores core).phase t ≡ true

skip_taken : (sh : Shape) (s : DirState) (c t : ℕ) (m : Msg) → passes (Skips t) m ≡ true → is_answer (dir_deliver sh s c m) ≡ true
unfolding passes dir_deliver
skip_taken sh s c t (Skip u) q = skip_answered u s
skip_taken sh s c t m q = absurd (cc)

abort_taken : (sh : Shape) (s : DirState) (c t : ℕ) (m : Msg) → passes (Aborts t) m ≡ true → is_answer (dir_deliver sh s c m) ≡ true
unfolding passes dir_deliver
abort_taken sh s c t (Abort u) q = abort_answered u s
abort_taken sh s c t m q = absurd (cc)

ack_taken : (sh : Shape) (s : DirState) (c : ℕ) (m : Msg) → passes Acks m ≡ true → is_answer (dir_deliver sh s c m) ≡ true
unfolding passes dir_deliver
ack_taken sh s c (InvAck l b) q = ack_answered c l b s
ack_taken sh s c m q = absurd (cc)

inv_taken : (m : Msg) → passes Invs m ≡ true → goes_to_core m ≡ true
unfolding passes
inv_taken m q = grind (arith, nat_tests)

grant_taken : (t : ℕ) (m : Msg) → passes (Grants t) m ≡ true → is_grant m ≡ true
unfolding passes
grant_taken t m q = grind (arith, nat_tests)

-- a TID that is with a core, or on its way to it
held : (sh : Shape) (p : Program) (w : World) (c d t : ℕ) → c < sh.cores → 1 ≤ holder t (pair w c d) → Moves sh p w ⊎ IsHeld sh w t
unfolding holder pair
held sh p w c d t l n = go (live (Grants t) (w.net Vendor (Core c))) refl
  where
    go : (x : ℕ) → live (Grants t) (w.net Vendor (Core c)) ≡ x → Moves sh p w ⊎ IsHeld sh w t
    go (suc x) e = inl (grant_counted sh p w (Grants t) c l (grant_taken t) (omega (arith, e)))
    go zero e = inr (record { core = c; below = l; has = num-one (has_tid (w.cores c).phase t) (omega (arith, e)) })

-- a served TID that was given up: a Skip or an Abort is on its way
given_up : (sh : Shape) (p : Program) (h : History) (d : ℕ) (k : Reached sh p h) → d < sh.dirs
    → is_given_up (k.ways d (serving_at h.world d)) ≡ true → Moves sh p h.world
unfolding share given_up_by pair
given_up sh p h d k i g =
    let r = some-part (share (given_up_by t) h.world d) sh.cores told in
    go r.0 (r.1) (live (Skips t) (out h.world r.0 d)) refl (r.2)
  where
    t : ℕ
    t = serving_at h.world d

    ahead : (b : Bool) → is_skipped (h.world.dirs d).serving t ≡ b → num (is_skipped (h.world.dirs d).serving t) ≡ 0
    ahead false e = rw e refl
    ahead true e = absurd (omega (arith, (k.carried.kept_skips_are_given_up_and_ahead d t i (k.fits.serves d) e).1))

    here : num (nat_lt t t) ≡ 0
    here = grind (arith, nat_tests)

    told : 1 ≤ sum_below (share (given_up_by t) h.world d) sh.cores
    told = omega (
      arith,
      k.carried.given_up_tid_is_still_to_be_told_or_kept_or_passed d t i (k.fits.serves d) g,
      ahead (is_skipped (h.world.dirs d).serving t) refl,
      here,
    )

    go : (c : ℕ) → c < sh.cores → (x : ℕ) → live (Skips t) (out h.world c d) ≡ x
        → 1 ≤ live (Skips t) (out h.world c d) + live (Aborts t) (out h.world c d) → Moves sh p h.world
    go c l (suc x) e n = out_counted sh p h.world (Skips t) c d l i (skip_taken sh (h.world.dirs d) c t) (omega (arith, e))
    go c l zero e n = out_counted sh p h.world (Aborts t) c d l i (abort_taken sh (h.world.dirs d) c t) (omega (arith, e))

-- acknowledgements that are owed are on their way, or their invalidations are
owed_moves : (sh : Shape) (p : Program) (h : History) (d : ℕ) → Reached sh p h → d < sh.dirs → 1 ≤ (h.world.dirs d).owed
    → Moves sh p h.world
unfolding share due pair
owed_moves sh p h d k i o =
    let r = some-part (share due h.world d) sh.cores (omega (arith, k.carried.owed_counts_invs_and_acks.owed d)) in
    go r.0 (r.1) (live Invs (back h.world r.0 d)) refl (r.2)
  where
    go : (c : ℕ) → c < sh.cores → (x : ℕ) → live Invs (back h.world c d) ≡ x
        → 1 ≤ live Invs (back h.world c d) + live Acks (out h.world c d) → Moves sh p h.world
    go c l (suc x) e n = back_counted sh p h.world Invs d c i l inv_taken (omega (arith, e))
    go c l zero e n = out_counted sh p h.world Acks c d l i (ack_taken sh (h.world.dirs d) c) (omega (arith, e))

-- a committed TID that is served
committed : (sh : Shape) (p : Program) (h : History) (d : ℕ) (k : Reached sh p h) → d < sh.dirs
    → k.ways d (serving_at h.world d) ≡ Committed → Moves sh p h.world
committed sh p h d k i y = go (sum_below sent sh.cores) refl
  where
    t : ℕ
    t = serving_at h.world d

    sent : ℕ → ℕ
    sent c = live (Commits t) (out h.world c d)

    settled : Settled sh k.ways h.world d t → Moves sh p h.world
    settled s = either ((k.carried.each_tid_is_resolved_in_one_way.2 d t i (k.fits.serves d)).settled s)
      where
        either : (t < serving_at h.world d) ⊎ ((serving_at h.world d ≡ t) × (1 ≤ (h.world.dirs d).owed)) → Moves sh p h.world
        either (inl l) = absurd (omega arith)
        either (inr o) = owed_moves sh p h d k i (o.1)

    go : (x : ℕ) → sum_below sent sh.cores ≡ x → Moves sh p h.world
    go (suc x) e = let r = some-part sent sh.cores (omega (arith, e)) in commit_moves sh p h r.0 d t k (r.1) i (r.2)
    go zero e = settled (record { committed = y; handled = λ c l. omega (arith, total-le sent sh.cores c l, e) })

pub serving_stands : (sh : Shape) (p : Program) (h : History) (d : ℕ) → Reached sh p h → d < sh.dirs
    → Moves sh p h.world ⊎ ((h.world.next ≤ serving_at h.world d) ⊎ IsHeld sh h.world (serving_at h.world d))
serving_stands sh p h d k i = go (k.ways d t) refl
  where
    t : ℕ
    t = serving_at h.world d

    open_at : k.ways d t ≡ Untold → (t < h.world.next) ⊎ (h.world.next ≤ t)
        → Moves sh p h.world ⊎ ((h.world.next ≤ t) ⊎ IsHeld sh h.world t)
    open_at y (inr l) = inr (inl l)
    open_at y (inl l) = let r = k.carried.open_tid_is_live d t i (k.fits.serves d) l y in with_core (held sh p h.world r.0 d t (r.1) (r.2))
      where
        with_core : Moves sh p h.world ⊎ IsHeld sh h.world t → Moves sh p h.world ⊎ ((h.world.next ≤ t) ⊎ IsHeld sh h.world t)
        with_core (inl m) = inl m
        with_core (inr a) = inr (inr a)

    go : (y : Way) → k.ways d t ≡ y → Moves sh p h.world ⊎ ((h.world.next ≤ t) ⊎ IsHeld sh h.world t)
    go Untold y = open_at y (cases_lt t h.world.next)
    go Skipped y = inl (given_up sh p h d k i (rw y refl))
    go Aborted y = inl (given_up sh p h d k i (rw y refl))
    go Committed y = inl (committed sh p h d k i y)
