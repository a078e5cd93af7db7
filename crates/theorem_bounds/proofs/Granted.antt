-- The TIDs of cores, directories and commits were granted, and so were those in messages.
use Rattle.std.specs.Prelude.{ℕ, zero, suc, ◌+◌, ◌≡◌, ◌<◌, ◌≤◌, Bool, true, false, not, ◌==◌, List, Contains, slice_index_or, Some, None}
use Rattle.std.specs.Prelude.{IfSome, nat_lt, nat_le}
use Rattle.std.proofs.Common.{arith, refl}
use Rattle.std.proofs.lemmas.Bool.Decides.{nat_tests}
use Rattle.tcc_base.specs.declared.access.Commit.{Commit as Noted}
use Rattle.base_lemmas.proofs.Lemmas.{eq-self}
use Rattle.rules_maps.specs.Lines.{has_mark}
use Rattle.rules_maps.specs.Nodes.{Core, Dir, Vendor, Msg, TidGrant, Fill, Skip, Probe, ProbeReply, Mark, Commit, Abort}
use Rattle.rules_maps.specs.Nodes.{DataReq, Inv}
use Rattle.rules_maps.specs.Shape.{Shape}
use Rattle.rules_maps.specs.Words.{num}
use Rattle.rules_tcc.specs.State.{Link, World}
use Rattle.rules_tcc.specs.Links.{in_flight}
use Rattle.rules_tcc.specs.Step.{History}
use Rattle.theorem_serial.specs.Count.{Kind, Grants, InvOf, InvsNot, Marks, Probes, Replies, Resolves, live, passes}
use Rattle.theorem_serial.specs.Invariants.{Carried}
use Rattle.theorem_serial.specs.Owners.{Grant, KeptOwners, holder}
use Rattle.theorem_serial.specs.Pairs.{pair, share}
use Rattle.theorem_serial.specs.Tids.{has_tid, part, handled}
use Rattle.theorem_serial.specs.Ways.{Ways}
use Rattle.theorem_serial.proofs.Lemmas.{granted-at, live-some, numbered-least, numbered-most, total-le}
use Rattle.theorem_live.specs.Fits.{KeptFits}
use Rattle.rules_maps.specs.Messages.{goes_to_core, goes_to_dir, WasGranted, tid_named}
use Rattle.theorem_bounds.specs.Bounds.{ServesInBounds}

-- what is proved of every run, of the grants and the ways along it
pub record Reached (sh : Shape) (h : History) : Type 0 where
  pub grants : List Grant
  pub ways : Ways
  pub carried : Carried sh grants ways h
  pub owners : KeptOwners sh grants h.world h.commits
  pub fits : KeptFits sh h.world

-- granted to a core
pub granted_to : (sh : Shape) (h : History) (r : Reached sh h) (c t : ℕ) → Contains r.grants (record { tid = t; core = c })
    → WasGranted h.world.next t
granted_to sh h r c t m =
    let o = r.owners in (
      numbered-least 1 r.grants (record { tid = t; core = c }) o.numbered m,
      omega (arith, numbered-most 1 r.grants (record { tid = t; core = c }) o.numbered m, o.next),
    )

pub commit_granted : (sh : Shape) (h : History) (r : Reached sh h) (x : Noted) → Contains h.commits x → WasGranted h.world.next x.tid.0
commit_granted sh h r x m = granted_to sh h r x.core.0 x.tid.0 (granted-at r.grants h.commits x r.owners.granted m)

pub core_granted : (sh : Shape) (h : History) (r : Reached sh h) (c t : ℕ) → has_tid (h.world.cores c).phase t ≡ true
    → WasGranted h.world.next t
unfolding holder pair
core_granted sh h r c t e = granted_to sh h r c t (r.owners.held c 0 t (has (has_tid (h.world.cores c).phase t) e))
  where
    has : (b : Bool) → b ≡ true → 1 ≤ live (Grants t) (h.world.net Vendor (Core c)) + num b
    has true e = omega arith
    has false e = absurd (cc)

pub serves-bounded : (sh : Shape) (h : History) (r : Reached sh h) (d : ℕ) → d < sh.dirs → ServesInBounds h.world.next (h.world.dirs d)
serves-bounded sh h r d l = record { least = r.fits.serves d; most = last (h.world.dirs d).serving.serving refl (r.fits.serves d) }
  where
    last : (s : ℕ) → (h.world.dirs d).serving.serving ≡ s → 1 ≤ s → s ≤ h.world.next
    last zero e i = absurd (omega arith)
    last (suc s) e i =
        let p = r.carried.serving_never_passes_an_unresolved_tid d s l (omega (arith, e)) in
        let g = p.granted in omega (arith, g)

-- messages

-- one of this kind is in flight
pub flies : (k : Kind) (l : Link) (i : ℕ) (m : Msg) → slice_index_or l i None ≡ Some m → passes k m ≡ true → 1 ≤ live k l
flies k l i m e p = let n : num (passes k m) ≡ 1 = rw p refl in omega (arith, live-some k l i m e)

-- a TID that is skipped, given up or committed
resolved_granted : (sh : Shape) (h : History) (r : Reached sh h) (c d t : ℕ) → c < sh.cores → d < sh.dirs
    → 1 ≤ live (Resolves t) (h.world.net (Core c) (Dir d)) → WasGranted h.world.next t
unfolding share part handled pair
resolved_granted sh h r c d t cl dl i = go (nat_le h.world.next t) refl (nat_lt t (h.world.dirs d).serving.serving) refl one
  where
    w : World
    w = h.world

    one : num (nat_le w.next t) + num (nat_lt t (w.dirs d).serving.serving) ≡ 0
    one = omega (
      arith,
      i,
      r.carried.each_tid_is_resolved_in_one_way.0 d t dl,
      total-le (share (part sh d t) w d) sh.cores c cl,
    )

    go : (a : Bool) → nat_le w.next t ≡ a → (b : Bool) → nat_lt t (w.dirs d).serving.serving ≡ b → num a + num b ≡ 0
        → WasGranted w.next t
    go true p b q z = absurd (omega (arith, z))
    go false p true q z = absurd (omega (arith, z))
    go false p false q z =
        let s = r.fits.serves d in
        (let f : (w.dirs d).serving.serving ≤ t = grind (arith, nat_tests) in omega (arith, f, s), grind (arith, nat_tests))

-- on their way to a directory
pub out_granted : (sh : Shape) (h : History) (r : Reached sh h) (c d k : ℕ) (m : Msg) → c < sh.cores → d < sh.dirs
    → in_flight h.world.net (Core c) (Dir d) k ≡ Some m → goes_to_dir m ≡ true → IfSome (tid_named m) (WasGranted h.world.next)
unfolding passes pair
out_granted sh h r c d k (Skip t) cl dl e g =
    resolved_granted sh h r c d t cl dl (flies (Resolves t) (h.world.net (Core c) (Dir d)) k (Skip t) e (eq-self t))
out_granted sh h r c d k (Abort t) cl dl e g =
    resolved_granted sh h r c d t cl dl (flies (Resolves t) (h.world.net (Core c) (Dir d)) k (Abort t) e (eq-self t))
out_granted sh h r c d k (Commit t n) cl dl e g =
    resolved_granted sh h r c d t cl dl (flies (Resolves t) (h.world.net (Core c) (Dir d)) k (Commit t n) e (eq-self t))
out_granted sh h r c d k (Probe t) cl dl e g = granted_to sh h r c t ((r.carried.probes_are_of_tids_already_taken c d t
    (omega (arith, flies (Probes t) (h.world.net (Core c) (Dir d)) k (Probe t) e (eq-self t)))).0)
out_granted sh h r c d k (Mark l m t) cl dl e g = granted_to sh h r c t (r.carried.marks_sent_are_in_flight_or_handled.0 c d t
    (flies (Marks t) (h.world.net (Core c) (Dir d)) k (Mark l m t) e (eq-self t)))
out_granted sh h r c d k (TidGrant t) cl dl e g = absurd (cc)
out_granted sh h r c d k (ProbeReply t s) cl dl e g = absurd (cc)
out_granted sh h r c d k (Inv l m t) cl dl e g = absurd (cc)
out_granted sh h r c d k _ cl dl e g = tt

-- an invalidation is of the served TID, which was granted where a line is marked
inv_granted : (sh : Shape) (h : History) (r : Reached sh h) (c d k l m t : ℕ) → c < sh.cores → d < sh.dirs
    → in_flight h.world.net (Dir d) (Core c) k ≡ Some (Inv l m t) → WasGranted h.world.next t
unfolding passes pair
inv_granted sh h r c d k l m t cl dl e = (let s = r.fits.serves d in omega (arith, s, served), omega (arith, granted, served))
  where
    link : Link
    link = h.world.net (Dir d) (Core c)

    serving : ℕ
    serving = (h.world.dirs d).serving.serving

    served : t ≡ serving
    served = go (t == serving) refl
        (omega (arith, live-some (InvsNot serving) link k (Inv l m t) e, r.carried.owed_counts_invs_and_acks.served c d))
      where
        go : (b : Bool) → (t == serving) ≡ b → num (not b) ≤ 0 → t ≡ serving
        go true q z = grind (arith, nat_tests)
        go false q z = absurd (omega (arith, z))

    marked : has_mark (h.world.dirs d).lines l ≡ true
    marked = go (has_mark (h.world.dirs d).lines l) (omega (
      arith,
      flies (InvOf l) link k (Inv l m t) e (eq-self l),
      (r.carried.inv_and_ack_name_a_marked_line c d l cl dl).one,
    ))
      where
        go : (b : Bool) → 1 ≤ num b → b ≡ true
        go true z = refl
        go false z = absurd (omega (arith, z))

    granted : serving < h.world.next
    granted = ((r.carried.marked_line_was_marked_by_the_served_tid.1).granted d l marked)

-- on their way to a core
pub back_granted : (sh : Shape) (h : History) (r : Reached sh h) (c d k : ℕ) (m : Msg) → c < sh.cores → d < sh.dirs
    → in_flight h.world.net (Dir d) (Core c) k ≡ Some m → goes_to_core m ≡ true → IfSome (tid_named m) (WasGranted h.world.next)
unfolding passes pair
back_granted sh h r c d k (ProbeReply t s) cl dl e g = granted_to sh h r c t ((r.carried.probes_are_of_tids_already_taken c d t
    (omega (arith, flies (Replies t) (h.world.net (Dir d) (Core c)) k (ProbeReply t s) e (eq-self t)))).0)
back_granted sh h r c d k (Inv l m t) cl dl e g = inv_granted sh h r c d k l m t cl dl e
back_granted sh h r c d k (Fill l ws) cl dl e g = tt
back_granted sh h r c d k (DataReq l) cl dl e g = tt
back_granted sh h r c d k m cl dl e g = absurd (cc)

pub grant_granted : (sh : Shape) (h : History) (r : Reached sh h) (c k t : ℕ)
    → in_flight h.world.net Vendor (Core c) k ≡ Some (TidGrant t) → WasGranted h.world.next t
unfolding passes holder pair
grant_granted sh h r c k t e = granted_to sh h r c t (r.owners.held c 0 t
    (omega (arith, flies (Grants t) (h.world.net Vendor (Core c)) k (TidGrant t) e (eq-self t))))
