-- Each event keeps what holds of a core, a directory and the links between them: messages are of lines at home there, words on their way
-- home of lines of memory, and what is given up or committed of TIDs below the next.
use Rattle.std.specs.Prelude.{ℕ, ◌≡◌, ◌<◌, ◌≤◌, ◌==◌, Bool, true, false, List, Some, None, IfSome, slice_index_or}
use Rattle.std.specs.Prelude.{nat_le}
use Rattle.std.proofs.Common.{arith, refl}
use Rattle.std.proofs.lemmas.Bool.Decides.{nat_tests}
use Rattle.tcc_base.specs.declared.access.Commit.{Commit as Noted}
use Rattle.rules_program.specs.Program.{Program}
use Rattle.rules_maps.specs.Nodes.{Core, Dir, Vendor, Event, Msg, TidGrant}
use Rattle.rules_maps.specs.Shape.{Shape, lines}
use Rattle.rules_maps.specs.Words.{num}
use Rattle.rules_tcc.specs.State.{DirState, World}
use Rattle.rules_tcc.specs.Attempt.{Out}
use Rattle.rules_tcc.specs.CoreDeliver.{grant}
use Rattle.rules_tcc.specs.DirDeliver.{Answer, Waits, Drops, Asks, Takes, dir_deliver}
use Rattle.rules_tcc.specs.Links.{in_flight}
use Rattle.rules_tcc.specs.Sends.{Sends, nothing}
use Rattle.rules_tcc.specs.Step.{core_moves, core_takes, dir_takes, step}
use Rattle.rules_tcc.proofs.Lemmas.{Gift, Gives_none, Gives_tid, gift, next_after}
use Rattle.theorem_serial.specs.Count.{CopyOf, Grants, LinesAway, Resolves, live, passes}
use Rattle.theorem_serial.specs.Owners.{holder}
use Rattle.theorem_serial.specs.Pairs.{Pair, after_answer, after_move, back_taken, grant_taken, out_taken, pair, share}
use Rattle.theorem_serial.specs.Tids.{has_tid}
use Rattle.theorem_serial.proofs.Lemmas.{AllPairs, DirtyInMemory, FromCore, FromCores, FromDir, HomelyOut, OfAnswer, Once, SendsInMemory}
use Rattle.theorem_serial.proofs.Lemmas.{back-copies, evict-copies, exec-copies, got, grant-sent, homely-none, homes-back}
use Rattle.theorem_serial.proofs.Lemmas.{homes-evict, homes-exec, homes-grant, live-sends, live-some, live-takes, node_cases}
use Rattle.theorem_serial.proofs.Lemmas.{none-taken, pairs_asks, pairs_back, pairs_dir, pairs_grant, pairs_move, pairs_vendor, total-le}
use Rattle.theorem_sound.specs.Sound.{LinesHome}
use Rattle.theorem_sound.proofs.Dirs.{Answers, HomeBy, dir-home}
use Rattle.theorem_sound.proofs.Resolved.{Unresolved, back-resolves, evict-resolves, exec-resolves, grant-resolves}

ruleset nats = (arith, nat_tests)

-- what holds of them
pub record PairSound (sh : Shape) (d : ℕ) (v : Pair) : Type 0 where
  pub out : live (LinesAway sh.dirs d) v.out ≡ 0
  pub back : live (LinesAway sh.dirs d) v.back ≡ 0
  pub copies : (l t : ℕ) → lines sh ≤ l → live (CopyOf l t) v.out ≡ 0
  pub tids : (t : ℕ) → v.next ≤ t → live (Resolves t) v.out ≡ 0
  pub lines : LinesHome sh d v.dir.lines

abbrev pub PairsSound : Shape → World → Type 0
PairsSound sh w = AllPairs (λ c d v. PairSound sh d v) w

-- what a core sends
record Sent (sh : Shape) (next : ℕ) (sends : Sends) : Type 0 where
  homely : HomelyOut sh sends
  copies : SendsInMemory sh sends
  tids : (t : ℕ) → next ≤ t → Unresolved t sends

-- pairs after an event

-- a core has sent
moved : (sh : Shape) (d : ℕ) (v : Pair) (o : Out) → Sent sh v.next o.sends → PairSound sh d v → PairSound sh d (after_move v o d)
moved sh d v o f k = record {
  out = omega (arith, live-sends (LinesAway sh.dirs d) v.out (o.sends (Dir d)), (f.homely d).away, k.out);
  back = k.back;
  copies = λ l t i. omega (arith, live-sends (CopyOf l t) v.out (o.sends (Dir d)), f.copies d l t i, k.copies l t i);
  tids = λ t i. omega (arith, live-sends (Resolves t) v.out (o.sends (Dir d)), f.tids t i d, k.tids t i);
  lines = k.lines;
}

-- it has taken a grant, or a message of the directory
granted : (sh : Shape) (d : ℕ) (v : Pair) (k : ℕ) → PairSound sh d v → PairSound sh d (grant_taken v k)
granted sh d v k h = record { out = h.out; back = h.back; copies = h.copies; tids = h.tids; lines = h.lines }

heard : (sh : Shape) (d : ℕ) (v : Pair) (k : ℕ) (m : Msg) → slice_index_or v.back k None ≡ Some m → PairSound sh d v
    → PairSound sh d (back_taken v k)
heard sh d v k m e h = record {
  out = h.out;
  back = omega (arith, live-takes (LinesAway sh.dirs d) v.back k m e, h.back);
  copies = h.copies;
  tids = h.tids;
  lines = h.lines;
}

-- the directory has taken a message, and has answered
consumed : (sh : Shape) (d : ℕ) (v : Pair) (k : ℕ) (m : Msg) → slice_index_or v.out k None ≡ Some m → PairSound sh d v
    → PairSound sh d (out_taken v k)
consumed sh d v k m e h = record {
  out = omega (arith, live-takes (LinesAway sh.dirs d) v.out k m e, h.out);
  back = h.back;
  copies = λ l t i. omega (arith, live-takes (CopyOf l t) v.out k m e, h.copies l t i);
  tids = λ t i. omega (arith, live-takes (Resolves t) v.out k m e, h.tids t i);
  lines = h.lines;
}

answered : (sh : Shape) (d j : ℕ) (v : Pair) (s : DirState) (sends : Sends) → Answers sh d s sends → PairSound sh d v
    → PairSound sh d (after_answer v s (sends (Core j)))
answered sh d j v s sends u h = record {
  out = h.out;
  back = omega (arith, live-sends (LinesAway sh.dirs d) v.back (sends (Core j)), (u.homely j).away, h.back);
  copies = h.copies;
  tids = h.tids;
  lines = u.lines;
}

-- the next TID never falls
rises : (g : Gift) (n : ℕ) → n ≤ next_after g n
unfolding next_after
rises Gives_tid n = omega arith
rises Gives_none n = omega arith

-- the vendor has given
later : (sh : Shape) (d : ℕ) (v : Pair) (g : Gift) → PairSound sh d v → (u : Pair) → u.out ≡ v.out → u.back ≡ v.back → u.dir ≡ v.dir
    → u.next ≡ next_after g v.next → PairSound sh d u
later sh d v g h u a b c e = record {
  out = rw a h.out;
  back = rw b h.back;
  copies = λ l t i. rw a (h.copies l t i);
  tids = λ t i. rw a (h.tids t (omega (arith, rises g v.next, i, e)));
  lines = rw c h.lines;
}

-- a TID that isn't granted yet is no core's
ungranted : (sh : Shape) (w : World) (cs : List Noted) (c t : ℕ) → Once sh w cs → c < sh.cores → w.next ≤ t
    → holder t (pair w c 0) ≡ 0
unfolding share
ungranted sh w cs c t k l i =
    let n : num (nat_le w.next t) ≡ 1 = grind nats in
    omega (arith, n, k t, total-le (share (holder t) w 0) sh.cores c l)

-- each event

module _ (sh : Shape) (p : Program) (w : World) (cs : List Noted) (from : FromCores sh w)
    (dirty : (c : ℕ) → DirtyInMemory sh (w.cores c).cache) (once : Once sh w cs) (h : PairsSound sh w) where
  -- it isn't that of a core's phase
  phased : (c t : ℕ) → c < sh.cores → w.next ≤ t → has_tid (w.cores c).phase t ≡ false
  unfolding holder pair
  phased c t l i = go (has_tid (w.cores c).phase t) (omega (arith, ungranted sh w cs c t once l i))
    where
      go : (b : Bool) → num b ≡ 0 → b ≡ false
      go true e = absurd (omega (arith, e))
      go false e = refl

  -- the TID that is granted isn't one that is still to be granted
  new : (c k u t : ℕ) → in_flight w.net Vendor (Core c) k ≡ Some (TidGrant u) → w.next ≤ t → (u == t) ≡ false
  unfolding holder pair passes
  new c k u t i n = go (u == t) refl (omega (
    arith,
    live-some (Grants t) (w.net Vendor (Core c)) k (TidGrant u) i,
    ungranted sh w cs c t once (from.grants c k (TidGrant u) i) n,
  ))
    where
      go : (b : Bool) → (u == t) ≡ b → num b ≤ 0 → (u == t) ≡ false
      go true q z = absurd (omega (arith, z))
      go false q z = q

  -- core c sends
  sent : (c d : ℕ) (o : Out) → Sent sh w.next o.sends → PairSound sh d (after_move (pair w c d) o d)
  unfolding pair
  sent c d o f = moved sh d (pair w c d) o f (h c d)

  -- it does so of its own, where it takes a message of a directory, where it takes a grant
  makes : (c : ℕ) (o : Out) → Sent sh w.next o.sends → PairsSound sh (core_moves w c o)
  makes c o f = pairs_move (λ c d v. PairSound sh d v) w c o (λ d. sent c d o f) h

  takes : (c d k : ℕ) (m : Msg) (o : Out) → FromDir w d c k m → Sent sh w.next o.sends → PairsSound sh (core_takes w (Dir d) c k o)
  unfolding pair
  takes c d k m o i f = pairs_back (λ c d v. PairSound sh d v) w d c k o
      (moved sh d (back_taken (pair w c d) k) o f (heard sh d (pair w c d) k m i (h c d)))
      (λ b n. sent c b o f) h

  gets : (c k : ℕ) (o : Out) → Sent sh w.next o.sends → PairsSound sh (core_takes w Vendor c k o)
  unfolding pair
  gets c k o f = pairs_grant (λ c d v. PairSound sh d v) w c k o
      (λ d. moved sh d (grant_taken (pair w c d) k) o f (granted sh d (pair w c d) k (h c d))) h

  -- a directory answers
  answers : (c d k : ℕ) (m : Msg) (s : DirState) (sends : Sends) → FromCore w c d k m → Answers sh d s sends
      → PairsSound sh (dir_takes w c d k s sends)
  unfolding pair
  answers c d k m s sends i u = pairs_dir (λ c d v. PairSound sh d v) w c d k s sends
      (answered sh d c (out_taken (pair w c d) k) s sends u (consumed sh d (pair w c d) k m i (h c d)))
      (λ j n. answered sh d j (pair w j d) s sends u (h j d)) h

  answers-by : (c d k : ℕ) (m : Msg) → FromCore w c d k m → (a : Answer) → HomeBy sh d a → OfAnswer w c d k (PairsSound sh) a
  unfolding pair
  answers-by c d k m i Waits u = tt
  answers-by c d k m i Drops u =
      answers c d k m (w.dirs d) nothing i (record { lines = (h c d).lines; homely = λ j. homely-none sh d })
  answers-by c d k m i (Asks s sends) u =
      pairs_asks (λ c d v. PairSound sh d v) w d s sends (λ j. answered sh d j (pair w j d) s sends u (h j d)) h
  answers-by c d k m i (Takes s sends) u = answers c d k m s sends i u

  pub step-pairs : (e : Event) → IfSome (step sh p w e) (λ o. PairsSound sh o.world)
  unfolding pair
  step-pairs e = node_cases sh p w e (λ s g o. PairsSound sh o.world)
      (λ c o eq l. makes c o (record {
        homely = got _ eq (homes-exec sh p c (w.cores c));
        copies = got _ eq (exec-copies sh p c (w.cores c) (dirty c));
        tids = λ t i. got _ eq (exec-resolves sh p c (w.cores c) t (phased c t l i));
      }))
      (λ c x y o eq l. makes c o (record {
        homely = got _ eq (homes-evict sh x y (w.cores c));
        copies = got _ eq (evict-copies sh x y (w.cores c) (dirty c));
        tids = λ t i. got _ eq (evict-resolves sh x y (w.cores c) t);
      }))
      (λ c k u i. gets c k (grant sh u (w.cores c)) (record {
        homely = homes-grant sh u (w.cores c);
        copies = grant-sent sh u (w.cores c);
        tids = λ t n. grant-resolves sh u (w.cores c) t (new c k u t i n);
      }))
      (λ c d k m o eq i. takes c d k m o i (record {
        homely = got _ eq (homes-back sh d (w.cores c) m);
        copies = got _ eq (back-copies sh d (w.cores c) m (dirty c));
        tids = λ t n. got _ eq (back-resolves sh d (w.cores c) m t (phased c t (from.back c d k m i) n));
      }))
      (λ c d k m a b i. answers-by c d k m i (dir_deliver sh (w.dirs d) c m) (dir-home sh d (w.dirs d) c m a
      (none-taken (LinesAway sh.dirs d) (w.net (Core c) (Dir d)) k i (h c d).out) (h c d).lines))
      (λ c k a i. pairs_vendor (λ c d v. PairSound sh d v) w c k a
      (λ d. later sh d (pair w c d) (gift a) (h c d) _ refl refl refl refl)
      (λ j d n. later sh d (pair w j d) (gift a) (h j d) _ refl refl refl refl))
