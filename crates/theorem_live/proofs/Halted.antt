-- Where all cores have halted each message left can be delivered, and each frame with dirty words can be emptied; so where nothing is
-- useful all is done.
use Rattle.std.specs.Prelude.{ℕ, zero, suc, ◌+◌, ◌≡◌, ◌<◌, ◌≤◌, Bool, true, false, not, cond, ◌==◌, ◌&&◌, ◌||◌, Option, Some, None, is_some}
use Rattle.std.proofs.Common.{arith, refl, ◌⊎◌, inl, inr}
use Rattle.std.proofs.lemmas.Bool.{cases_lt}
use Rattle.std.proofs.lemmas.Bool.Decides.{nat_tests}
use Rattle.rules_program.specs.Program.{Program}
use Rattle.rules_maps.specs.Words.{num, any_below, any_word, line_of, place_of, word_at}
use Rattle.rules_maps.specs.Cache.{Cache, is_marked, is_dirty, dirty_tag, way_marked}
use Rattle.rules_maps.specs.Nodes.{Node, Core, Dir, Vendor, Event, Msg, LoadReq, Skip, Probe, Mark, Commit, Abort, WriteBack, Flush, InvAck}
use Rattle.rules_maps.specs.Shape.{Shape, home, set_of}
use Rattle.rules_maps.proofs.Lemmas.{any_below-found, any_below-at}
use Rattle.rules_tcc.specs.CoreEvict.{is_awaited}
use Rattle.rules_tcc.specs.State.{Awaited, DirState, Halted, World}
use Rattle.rules_tcc.specs.Links.{in_flight}
use Rattle.rules_tcc.specs.Seen.{IsDone}
use Rattle.rules_tcc.specs.Step.{History}
use Rattle.rules_tcc.specs.DirDeliver.{dir_deliver, mark}
use Rattle.rules_tcc.specs.Useful.{is_useful, holds_written}
use Rattle.theorem_serial.specs.Copies.{copies_with}
use Rattle.theorem_serial.specs.Count.{LoadOf, CopyOf, Commits, Marks, Probes, LinesAway, live, passes}
use Rattle.theorem_serial.specs.OneCore.{executes, Empty}
use Rattle.theorem_serial.specs.Pairs.{pair}
use Rattle.theorem_serial.specs.Wrote.{wrote_line}
use Rattle.rules_maps.specs.Messages.{goes_to_dir, fits}
use Rattle.theorem_live.proofs.Committing.{commit_moves}
use Rattle.theorem_live.proofs.Events.{Moves, is_answer, evict_moves, back_moves, grant_moves, out_moves, ask_useful}
use Rattle.theorem_live.proofs.Found.{out, serving_at, counted}
use Rattle.theorem_live.proofs.Holder.{NoneHeld, none_or_moves}
use Rattle.theorem_live.proofs.Room.{evicts}
use Rattle.theorem_live.proofs.State.{Reached, granted_below}
use Rattle.theorem_live.proofs.Waiting.{skip_answered, abort_answered, ack_answered, probe_answered, copy_answered}

-- a state in which no event is useful
abbrev pub IsStill : Shape → Program → World → Type 0
IsStill sh p w = (e : Event) → is_useful sh p w e ≡ true → ⊥

still : (sh : Shape) (p : Program) (w : World) → IsStill sh p w → Moves sh p w → ⊥
still sh p w s m = s m.event m.is_useful

-- no Commit is in flight, and each directory is beyond the granted TIDs
record IsIdle (sh : Shape) (w : World) : Type 0 where
  uncommitted : (c d t : ℕ) → c < sh.cores → d < sh.dirs → live (Commits t) (out w c d) ≡ 0
  beyond : (d : ℕ) → d < sh.dirs → w.next ≤ serving_at w d

idle : (sh : Shape) (p : Program) (h : History) → Reached sh p h → IsStill sh p h.world → IsIdle sh h.world
idle sh p h k s = record {
  uncommitted = λ c d t l i. none c d t l i (live (Commits t) (out h.world c d)) refl;
  beyond = λ d i. served d i
      (none_or_moves sh p h k);
}
  where
    none : (c d t : ℕ) → c < sh.cores → d < sh.dirs → (x : ℕ) → live (Commits t) (out h.world c d) ≡ x
        → live (Commits t) (out h.world c d) ≡ 0
    none c d t l i zero e = e
    none c d t l i (suc x) e = absurd (still sh p h.world s (commit_moves sh p h c d t k l i (omega (arith, e))))

    served : (d : ℕ) → d < sh.dirs → Moves sh p h.world ⊎ NoneHeld sh p h.world → h.world.next ≤ serving_at h.world d
    served d i (inl m) = absurd (still sh p h.world s m)
    served d i (inr n) = at (n.beyond d i)
      where
        at : Moves sh p h.world ⊎ (h.world.next ≤ serving_at h.world d) → h.world.next ≤ serving_at h.world d
        at (inl m) = absurd (still sh p h.world s m)
        at (inr b) = b

-- what a core has sent to a directory

mark_passed : (l m t : ℕ) (s : DirState) → t < s.serving.serving → is_answer (mark l m t s) ≡ true
unfolding mark
mark_passed l m t s h = grind (arith, nat_tests)

-- a core that has halted awaits no line
unawaited : (sh : Shape) (p : Program) (h : History) (c : ℕ) → Reached sh p h → (h.world.cores c).phase ≡ Halted
    → (h.world.cores c).awaited ≡ None
unawaited sh p h c k e = go (h.world.cores c).awaited refl
  where
    go : (o : Option Awaited) → (h.world.cores c).awaited ≡ o → (h.world.cores c).awaited ≡ None
    go None q = q
    go (Some a) q = absurd (let x = (k.carried.awaited_line_has_a_frame c a q).0 in
        let y : executes (h.world.cores c).phase ≡ false = rw e refl in cc)

-- words on their way home are not ahead of their line's tag
copy_tag : (sh : Shape) (p : Program) (h : History) (c d l g : ℕ) → Reached sh p h → IsIdle sh h.world → c < sh.cores → d < sh.dirs
    → home sh l ≡ d → 1 ≤ live (CopyOf l g) (out h.world c d) → g ≤ (h.world.dirs d).lines.tag l
unfolding copies_with pair
copy_tag sh p h c d l g k z i j e n = go (cases_lt ((h.world.dirs d).lines.tag l) g)
  where
    go : ((h.world.dirs d).lines.tag l < g) ⊎ (g ≤ (h.world.dirs d).lines.tag l) → g ≤ (h.world.dirs d).lines.tag l
    go (inr b) = b
    go (inl b) = absurd (impossible (wrote_line sh.base h.commits c g l)
        ((k.carried.copy_above_the_tag_is_of_a_commit_in_flight c d l g i j
        (k.memory.copies_in_flight_are_of_lines_in_memory c d l g n) e b).one))
      where
        impossible : (x : Bool)
            → num (is_dirty (h.world.cores c).cache l && dirty_tag (h.world.cores c).cache l == g) + live (CopyOf l g) (out h.world c d)
            ≡ cond x (live (Commits g) (out h.world c d)) 0
            → ⊥
        impossible true q = omega (arith, q, n, z.uncommitted c d g i j)
        impossible false q = omega (arith, q, n)

-- a message about a line is at the line's home
at_home : (sh : Shape) (p : Program) (h : History) (c d l i : ℕ) (m : Msg) → Reached sh p h
    → in_flight h.world.net (Core c) (Dir d) i ≡ Some m → passes (LinesAway sh.dirs d) m ≡ not (home sh l == d) → home sh l ≡ d
unfolding pair
at_home sh p h c d l i m k e q = go (home sh l == d) refl
  where
    go : (b : Bool) → (home sh l == d) ≡ b → home sh l ≡ d
    go true r = grind (arith, nat_tests)
    go false r = absurd (omega (
      arith,
      counted (LinesAway sh.dirs d) (out h.world c d) i m e (rw r at q),
      (k.carried.records_and_messages_are_at_home c d l).out,
    ))

out_answered : (sh : Shape) (p : Program) (h : History) (c d i : ℕ) (m : Msg) → Reached sh p h → IsIdle sh h.world → c < sh.cores
    → d < sh.dirs → (h.world.cores c).phase ≡ Halted → in_flight h.world.net (Core c) (Dir d) i ≡ Some m → goes_to_dir m ≡ true
    → is_answer (dir_deliver sh (h.world.dirs d) c m) ≡ true
unfolding dir_deliver passes pair
out_answered sh p h c d i (Skip t) k z a b f e g = skip_answered t (h.world.dirs d)
out_answered sh p h c d i (Abort t) k z a b f e g = abort_answered t (h.world.dirs d)
out_answered sh p h c d i (InvAck l x) k z a b f e g = ack_answered c l x (h.world.dirs d)
out_answered sh p h c d i (Probe t) k z a b f e g =
    let n = counted (Probes t) (out h.world c d) i (Probe t) e (grind (arith, nat_tests)) in
    probe_answered c t (h.world.dirs d) (omega (
      arith,
      granted_below sh p h c t k ((k.carried.probes_are_of_tids_already_taken c d t (omega (arith, n))).0),
      z.beyond d b,
    ))
out_answered sh p h c d i (Mark l m t) k z a b f e g =
    let n = counted (Marks t) (out h.world c d) i (Mark l m t) e (grind (arith, nat_tests)) in
    mark_passed l m t (h.world.dirs d) (omega (
      arith,
      granted_below sh p h c t k (k.carried.marks_sent_are_in_flight_or_handled.0 c d t n),
      z.beyond d b,
    ))
out_answered sh p h c d i (LoadReq l x) k z a b f e g =
    let n = counted (LoadOf l) (out h.world c d) i (LoadReq l x) e (grind (arith, nat_tests)) in
    let o = k.carried.one_load_request_or_fill c d l in
    let y : num (is_awaited (h.world.cores c).awaited l && (home sh l == d)) ≡ 0 = rw (unawaited sh p h c k f) refl in
    absurd (omega (arith, n, o, y))
out_answered sh p h c d i (Commit t x) k z a b f e g =
    absurd (omega (arith, counted (Commits t) (out h.world c d) i (Commit t x) e (grind (arith, nat_tests)), z.uncommitted c d t a b))
out_answered sh p h c d i (WriteBack l m ws t) k z a b f e g =
    let n = counted (CopyOf l t) (out h.world c d) i (WriteBack l m ws t) e (grind (arith, nat_tests)) in
    copy_answered c l m ws t (h.world.dirs d) (copy_tag sh p h c d l t k z a b (at_home sh p h c d l i (WriteBack l m ws t) k e refl) n)
out_answered sh p h c d i (Flush l m ws t) k z a b f e g =
    let n = counted (CopyOf l t) (out h.world c d) i (Flush l m ws t) e (grind (arith, nat_tests)) in
    copy_answered c l m ws t (h.world.dirs d) (copy_tag sh p h c d l t k z a b (at_home sh p h c d l i (Flush l m ws t) k e refl) n)
out_answered sh p h c d i m k z a b f e g = absurd (cc)

-- nothing is in flight
quiet : (sh : Shape) (p : Program) (h : History) → Reached sh p h → IsStill sh p h.world
    → ((c : ℕ) → c < sh.cores → (h.world.cores c).phase ≡ Halted) → (src dst : Node) (i : ℕ) → in_flight h.world.net src dst i ≡ None
unfolding fits
quiet sh p h k s f src dst i = go (in_flight h.world.net src dst i) refl
  where
    none : (src dst : Node) (m : Msg) → in_flight h.world.net src dst i ≡ Some m → fits sh src dst m ≡ true → ⊥
    none (Core c) (Dir d) m e q =
        let l : c < sh.cores = grind (arith, nat_tests) in
        let j : d < sh.dirs = grind (arith, nat_tests) in
        let g : goes_to_dir m ≡ true = grind (arith, nat_tests) in
        still sh p h.world s (out_moves sh p h.world c d i m l j e (out_answered sh p h c d i m k (idle sh p h k s) l j (f c l) e g))
    none (Core c) Vendor m e q = s _ (ask_useful sh p h.world c i m (grind (arith, nat_tests)) e (grind (arith, nat_tests)))
    none (Dir d) (Core c) m e q = still sh p h.world s
        (back_moves sh p h.world d c i m (grind (arith, nat_tests)) (grind (arith, nat_tests)) e (grind (arith, nat_tests)))
    none Vendor (Core c) m e q = still sh p h.world s
        (grant_moves sh p h.world c i m (grind (arith, nat_tests)) e (grind (arith, nat_tests)))
    none _ _ m e q = absurd (cc)

    go : (o : Option Msg) → in_flight h.world.net src dst i ≡ o → in_flight h.world.net src dst i ≡ None
    go None e = e
    go (Some m) e = absurd (none src dst m e (k.fits.links src dst i m e))

-- frames

unmarked : (c : Cache) (l : ℕ) → ((w : ℕ) → c.read w ≡ false) → ((w : ℕ) → c.modified w ≡ false) → is_marked c l ≡ false
unfolding is_marked any_word
unmarked c l r m = go (any_below (λ k. c.read (word_at l k) || c.modified (word_at l k)) 8) refl
  where
    go : (b : Bool) → any_below (λ k. c.read (word_at l k) || c.modified (word_at l k)) 8 ≡ b
        → any_below (λ k. c.read (word_at l k) || c.modified (word_at l k)) 8 ≡ false
    go false e = e
    go true e = absurd (let x = any_below-found (λ k. c.read (word_at l k) || c.modified (word_at l k)) 8 e in
        let y = r (word_at l x.0) in let z = m (word_at l x.0) in let v = x.2 in grind (arith, nat_tests))

dirty_line : (c : Cache) (v g : ℕ) → c.dirty v ≡ Some g → is_dirty c (line_of v) ≡ true
unfolding is_dirty any_word
dirty_line c v g e =
    let w : word_at (line_of v) (place_of v) ≡ v = omega arith in
    let q : is_some (c.dirty (word_at (line_of v) (place_of v))) ≡ true = rw (w, e) refl in
    any_below-at (λ k. is_some (c.dirty (word_at (line_of v) k))) 8 (place_of v) (omega arith) q

held_line : (sh : Shape) (p : Program) (h : History) (c v g : ℕ) → Reached sh p h → (h.world.cores c).cache.dirty v ≡ Some g
    → (h.world.cores c).cache.held (line_of v) ≡ true
held_line sh p h c v g k e = go ((h.world.cores c).cache.held (line_of v)) refl
  where
    go : (b : Bool) → (h.world.cores c).cache.held (line_of v) ≡ b → (h.world.cores c).cache.held (line_of v) ≡ true
    go true q = q
    go false q = absurd (
        let n = (k.carried.frames_stand_in_their_sets c).valued v q in
        let d : is_some ((h.world.cores c).cache.dirty v) ≡ true = rw e refl in
        let y = (k.carried.frames_stand_in_their_sets c).dirty v d in
        let z : is_some ((h.world.cores c).cache.value v) ≡ false = rw n refl in cc)

dirty_moves : (sh : Shape) (p : Program) (h : History) (c v g : ℕ) → Reached sh p h → c < sh.cores → (h.world.cores c).phase ≡ Halted
    → (h.world.cores c).cache.dirty v ≡ Some g → Moves sh p h.world
unfolding way_marked
dirty_moves sh p h c v g k l f e =
    let y = (k.carried.frames_stand_in_their_sets c).held (line_of v) (held_line sh p h c v g k e) in
    let at : (h.world.cores c).cache.at (set_of sh (line_of v)) y.0 ≡ Some (line_of v) = y.1 in
    let b = ((k.carried.frames_stand_in_their_sets c).placed (set_of sh (line_of v)) y.0 (line_of v) at).1 in
    let n = k.equipped.sets in
    let r : Empty (h.world.cores c) = (k.carried.marks_fit_the_phase c).rested (rw f refl) in
    let m : way_marked (h.world.cores c).cache ((h.world.cores c).cache.at (set_of sh (line_of v)) y.0) ≡ false =
    rw at (unmarked (h.world.cores c).cache (line_of v) r.unread r.unmodified) in
    let s : is_some ((h.world.cores c).cache.at (set_of sh (line_of v)) y.0) ≡ true = rw at refl in
    let d = dirty_line (h.world.cores c).cache v g e in
    let u : holds_written (h.world.cores c).cache ((h.world.cores c).cache.at (set_of sh (line_of v)) y.0) ≡ true =
    rw (at, d) (grind (arith, nat_tests)) in
    evict_moves sh p h.world c (set_of sh (line_of v)) y.0 l (omega arith) b
    (evicts sh (set_of sh (line_of v)) y.0 (h.world.cores c) (unawaited sh p h c k f) s (inr m)) (inl u)

pub done : (sh : Shape) (p : Program) (h : History) → Reached sh p h → IsStill sh p h.world
    → ((c : ℕ) → c < sh.cores → (h.world.cores c).phase ≡ Halted) → IsDone sh h.world
done sh p h k s f = record { halted = f; quiet = quiet sh p h k s f; clean = λ c v l. clean c v l ((h.world.cores c).cache.dirty v) refl }
  where
    clean : (c v : ℕ) → c < sh.cores → (o : Option ℕ) → (h.world.cores c).cache.dirty v ≡ o → (h.world.cores c).cache.dirty v ≡ None
    clean c v l None e = e
    clean c v l (Some g) e = absurd (still sh p h.world s (dirty_moves sh p h c v g k l (f c l) e))
