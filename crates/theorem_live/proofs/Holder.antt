-- The core that has the least TID goes on: every directory serves it or a later one.
use Rattle.std.specs.Prelude.{ℕ, zero, suc, ◌+◌, ◌-◌, ◌≡◌, ◌<◌, ◌≤◌, true, false, ◌==◌, ◌&&◌, Contains, Option, Some, None, is_some}
use Rattle.std.proofs.Common.{arith, refl, ◌⊎◌, inl, inr}
use Rattle.std.proofs.lemmas.Bool.{cases_lt}
use Rattle.std.proofs.lemmas.Bool.Decides.{nat_tests}
use Rattle.tcc_base.specs.declared.access.Commit.{Commit as Noted}
use Rattle.rules_program.specs.Program.{Program}
use Rattle.rules_maps.specs.Words.{num}
use Rattle.rules_maps.specs.Nodes.{Msg, Probe}
use Rattle.rules_maps.specs.Lines.{has_mark}
use Rattle.rules_maps.specs.Shape.{Shape, home}
use Rattle.rules_maps.proofs.Lemmas.{any_below-found}
use Rattle.rules_tcc.specs.CoreEvict.{is_awaited}
use Rattle.rules_tcc.specs.CoreExec.{core_exec}
use Rattle.rules_tcc.specs.State.{Awaited, DirState, Phase, Probing, Ready, Overflowing, Solo, World}
use Rattle.rules_tcc.specs.Step.{History}
use Rattle.rules_tcc.specs.DirDeliver.{dir_deliver, sum_below}
use Rattle.theorem_serial.specs.Copies.{stored_there}
use Rattle.theorem_serial.specs.Count.{Probes, Replies, LoadOf, FillOf, live, passes}
use Rattle.theorem_serial.specs.Marks.{marks_of, has_marked}
use Rattle.theorem_serial.specs.OneCore.{awaits_replies}
use Rattle.theorem_serial.specs.Owners.{times}
use Rattle.theorem_serial.specs.Pairs.{pair}
use Rattle.theorem_serial.specs.Tids.{has_tid, opens}
use Rattle.theorem_serial.proofs.Lemmas.{total-le, some-part, num-one, numbered-least, last-most, granted-at, times-listed, own-holder}
use Rattle.rules_maps.specs.Messages.{goes_to_core}
use Rattle.theorem_live.proofs.Events.{Moves, is_answer, exec_moves, back_counted, out_counted}
use Rattle.theorem_live.proofs.Least.{IsLeast, least}
use Rattle.theorem_live.proofs.Owner.{load_moves}
use Rattle.theorem_live.proofs.Room.{room_moves}
use Rattle.theorem_live.proofs.Serving.{IsHeld, serving_stands}
use Rattle.theorem_live.proofs.State.{Reached, granted_below}
use Rattle.theorem_live.proofs.Found.{back, out, serving_at}
use Rattle.theorem_live.proofs.Waiting.{probe_answered}

-- each directory serves t or a later TID, unless something can go on
abbrev pub AllReach : Shape → Program → World → (tid : ℕ) → Type 0
AllReach sh p w t = (d : ℕ) → d < sh.dirs → Moves sh p w ⊎ (t ≤ serving_at w d)

-- probes

probe_taken : (sh : Shape) (s : DirState) (c t : ℕ) (m : Msg) → passes (Probes t) m ≡ true → t ≤ s.serving.serving
    → is_answer (dir_deliver sh s c m) ≡ true
unfolding passes dir_deliver
probe_taken sh s c t (Probe u) q b = let e : u ≡ t = grind (arith, nat_tests) in probe_answered c u s (omega arith)
probe_taken sh s c t m q b = absurd (cc)

reply_taken : (t : ℕ) (m : Msg) → passes (Replies t) m ≡ true → goes_to_core m ≡ true
unfolding passes
reply_taken t m q = grind (arith, nat_tests)

-- a core that waits for replies
probing : (sh : Shape) (p : Program) (h : History) (c t : ℕ) → Reached sh p h → AllReach sh p h.world t → c < sh.cores
    → has_tid (h.world.cores c).phase t ≡ true → awaits_replies (h.world.cores c).phase ≡ true → Moves sh p h.world
probing sh p h c t k reach l q a = go d.0 (d.1) (d.2) (live (Replies t) (back h.world c d.0)) refl (reach d.0 (d.1))
  where
    d : (d : ℕ) × (d < sh.dirs) × ((h.world.cores c).owing d ≡ true)
    d = any_below-found (h.world.cores c).owing sh.dirs ((k.carried.tid_and_owing_fit_the_phase c).some a k.equipped.dirs)

    go : (d : ℕ) → d < sh.dirs → (h.world.cores c).owing d ≡ true → (x : ℕ) → live (Replies t) (back h.world c d) ≡ x
        → Moves sh p h.world ⊎ (t ≤ serving_at h.world d) → Moves sh p h.world
    go d i o (suc x) e r = back_counted sh p h.world (Replies t) d c i l (reply_taken t) (omega (arith, e))
    go d i o zero e (inl m) = m
    go d i o zero e (inr b) =
        let n : num ((h.world.cores c).owing d) ≡ 1 = rw o refl in
        out_counted sh p h.world (Probes t) c d l i (λ m s. probe_taken sh (h.world.dirs d) c t m s b)
        (omega (arith, k.carried.one_probe_or_reply_per_owing_directory c d t q, e, n))

-- what a core's last commit at a directory was

stored_by : (sh : Shape) (c d : ℕ) (x : Noted) → stored_there sh c d x ≡ true → x.core.0 ≡ c
unfolding stored_there
stored_by sh c d x q = grind (arith, nat_tests)

-- it is below the vendor's next
pub after_next : (sh : Shape) (p : Program) (h : History) (c d : ℕ) → Reached sh p h → c < sh.cores → d < sh.dirs
    → (h.world.cores c).last_commit d < h.world.next
unfolding pair
after_next sh p h c d k l i = omega (
  arith,
  (k.carried.after_is_the_last_commit_there c d l i).last,
  last-most (stored_there sh c d) h.commits (h.world.next - 1) each,
  positive,
)
  where
    positive : 1 ≤ h.world.next
    positive = omega (arith, k.carried.granted_tids_are_those_below_next.1)

    each : (x : Noted) → Contains h.commits x → stored_there sh c d x ≡ true → x.tid.0 ≤ h.world.next - 1
    each x m q = omega (
      arith,
      granted_below sh p h x.core.0 x.tid.0 k
          (granted-at k.grants h.commits x (k.carried.commits_are_of_granted_tids.1) m),
    )

-- and below the TID that the core has
after_held : (sh : Shape) (p : Program) (h : History) (c d t : ℕ) → Reached sh p h → c < sh.cores → d < sh.dirs
    → has_tid (h.world.cores c).phase t ≡ true → (h.world.cores c).last_commit d < t
unfolding pair
after_held sh p h c d t k l i q = omega (
  arith,
  (k.carried.after_is_the_last_commit_there c d l i).last,
  last-most (stored_there sh c d) h.commits (t - 1) each,
  first,
)
  where
    granted : Contains k.grants (record { tid = t; core = c }) × (times t h.commits ≡ 0)
    granted = k.carried.live_tid_is_granted_to_its_core c d t l (own-holder h.world c d t q)

    first : 1 ≤ t
    first = numbered-least 1 k.grants (record { tid = t; core = c }) (k.carried.granted_tids_are_those_below_next.0) (granted.0)

    other : (x : Noted) → Contains h.commits x → x.tid.0 ≡ t → ⊥
    other x m e = omega (arith, times-listed t h.commits x m e, granted.1)

    each : (x : Noted) → Contains h.commits x → stored_there sh c d x ≡ true → x.tid.0 ≤ t - 1
    each x m s = go (cases_lt x.tid.0 t)
      where
        its : Contains k.grants (record { tid = x.tid.0; core = c })
        its = rw (stored_by sh c d x s) at (granted-at k.grants h.commits x (k.carried.commits_are_of_granted_tids.1) m)

        go : (x.tid.0 < t) ⊎ (t ≤ x.tid.0) → x.tid.0 ≤ t - 1
        go (inl b) = omega arith
        go (inr b) = absurd (other x m (omega (
          arith,
          k.carried.live_tid_is_the_last_granted_to_its_core c d t x.tid.0 (own-holder h.world c d t q) its,
        )))

-- loads

fill_taken : (l : ℕ) (m : Msg) → passes (FillOf l) m ≡ true → goes_to_core m ≡ true
unfolding passes
fill_taken l m q = grind (arith, nat_tests)

-- an awaited line: its Fill can be delivered, or its request is served, where nothing there lets it wait
pub awaited_moves : (sh : Shape) (p : Program) (h : History) (c : ℕ) (a : Awaited) → Reached sh p h → c < sh.cores
    → (h.world.cores c).awaited ≡ Some a
    → ((d : ℕ) → d < sh.dirs → Moves sh p h.world ⊎ (((h.world.cores c).last_commit d < serving_at h.world d) × ((l : ℕ)
    → has_mark (h.world.dirs d).lines l ≡ false))) → Moves sh p h.world
unfolding pair
awaited_moves sh p h c a k l e served = go (served d i) (live (FillOf a.line) (back h.world c d)) refl
  where
    d : ℕ
    d = home sh a.line

    i : d < sh.dirs
    i = let n = k.equipped.dirs in omega arith

    one : live (LoadOf a.line) (out h.world c d) + live (FillOf a.line) (back h.world c d) ≡ 1
    one =
        let f = k.carried.one_load_request_or_fill c d a.line in
        let n : num (is_awaited (h.world.cores c).awaited a.line && (home sh a.line == d)) ≡ 1 = rw e (grind (arith, nat_tests)) in
        omega (arith, f, n)

    go : Moves sh p h.world ⊎
        (((h.world.cores c).last_commit d < serving_at h.world d) × ((l : ℕ) → has_mark (h.world.dirs d).lines l ≡ false))
        → (x : ℕ) → live (FillOf a.line) (back h.world c d) ≡ x → Moves sh p h.world
    go (inl m) x q = m
    go (inr s) (suc x) q = back_counted sh p h.world (FillOf a.line) d c i l (fill_taken a.line) (omega (arith, q))
    go (inr s) zero q = load_moves sh p h c d a.line k l i refl (omega (arith, one, q)) (s.0) (s.1 a.line)

-- a core that is alone
alone : (sh : Shape) (p : Program) (h : History) (c t : ℕ) → Reached sh p h → c < sh.cores → (h.world.cores c).phase ≡ Solo t
    → Moves sh p h.world
unfolding pair marks_of has_marked has_tid opens
alone sh p h c t k l e = go (h.world.cores c).awaited refl
  where
    has : has_tid (h.world.cores c).phase t ≡ true
    has = rw e (grind (arith, nat_tests))

    serves : (d : ℕ) → d < sh.dirs → serving_at h.world d ≡ t
    serves d i = k.carried.directory_that_replied_serves_the_tid.serves c d t l i (rw e (grind (arith, nat_tests)))
        (k.carried.directory_that_replied_serves_the_tid.replied c d l i (rw e refl))

    unmarked : (d m : ℕ) → d < sh.dirs → has_mark (h.world.dirs d).lines m ≡ false
    unmarked d m i =
        let z = (k.carried.marks_go_out_with_the_reply c d t m l i).unsent has (rw e refl) in
        let s = serves d i in
        grind (arith, nat_tests)

    moved : (is_some (core_exec sh p c (h.world.cores c)) ≡ true) ⊎ Moves sh p h.world → Moves sh p h.world
    moved (inl x) = exec_moves sh p h.world c l (t, has) x
    moved (inr m) = m

    go : (o : Option Awaited) → (h.world.cores c).awaited ≡ o → Moves sh p h.world
    go None a = moved (room_moves sh p h.world c k.equipped l (rw e refl) a)
    go (Some a) q = awaited_moves sh p h c a k l q (λ d i. inr
        (omega (arith, after_held sh p h c d t k l i has, serves d i), λ m. unmarked d m i))

-- a core that may commit
ready : (sh : Shape) (p : Program) (w : World) (c t : ℕ) → c < sh.cores → (w.cores c).phase ≡ Ready t → Moves sh p w
unfolding core_exec has_tid
ready sh p w c t l e = exec_moves sh p w c l (t, rw e (grind (arith, nat_tests))) (rw e refl)

holder_moves : (sh : Shape) (p : Program) (h : History) (c t : ℕ) → Reached sh p h → AllReach sh p h.world t → c < sh.cores
    → has_tid (h.world.cores c).phase t ≡ true → Moves sh p h.world
unfolding has_tid
holder_moves sh p h c t k reach l q = go (h.world.cores c).phase refl
  where
    go : (x : Phase) → (h.world.cores c).phase ≡ x → Moves sh p h.world
    go (Probing u) e = probing sh p h c t k reach l q (rw e refl)
    go (Overflowing (Some u)) e = probing sh p h c t k reach l q (rw e refl)
    go (Ready u) e = ready sh p h.world c u l e
    go (Solo u) e = alone sh p h c u k l e
    go x e = absurd (let n : has_tid (h.world.cores c).phase t ≡ false = rw e refl in cc)

-- the least TID that a core has

held_by : World → (tid core : ℕ) → ℕ
held_by w t c = num (has_tid (w.cores c).phase t)

held_count : Shape → World → (tid : ℕ) → ℕ
held_count sh w t = sum_below (held_by w t) sh.cores

counts : (sh : Shape) (w : World) (t : ℕ) → IsHeld sh w t → 1 ≤ held_count sh w t
unfolding held_count held_by
counts sh w t a = let n : num (has_tid (w.cores a.core).phase t) ≡ 1 = rw a.has refl in
    omega (arith, total-le (held_by w t) sh.cores a.core a.below)

some_core : (sh : Shape) (w : World) (t : ℕ) → 1 ≤ held_count sh w t → IsHeld sh w t
unfolding held_count held_by
some_core sh w t n = let r = some-part (held_by w t) sh.cores n in
    record { core = r.0; below = r.1; has = num-one (has_tid (w.cores r.0).phase t) (r.2) }

-- where some core has a TID, something can go on
least_moves : (sh : Shape) (p : Program) (h : History) (t : ℕ) → Reached sh p h → IsLeast (held_count sh h.world) h.world.next t
    → Moves sh p h.world
least_moves sh p h t k x = let a = some_core sh h.world t x.some in
    holder_moves sh p h a.core t k (λ d i. at d (serving_stands sh p h d k i)) a.below a.has
  where
    at : (d : ℕ) → Moves sh p h.world ⊎ ((h.world.next ≤ serving_at h.world d) ⊎ IsHeld sh h.world (serving_at h.world d))
        → Moves sh p h.world ⊎ (t ≤ serving_at h.world d)
    at d (inl m) = inl m
    at d (inr (inl n)) = inr (omega (arith, x.below))
    at d (inr (inr a)) = go (cases_lt (serving_at h.world d) t)
      where
        go : (serving_at h.world d < t) ⊎ (t ≤ serving_at h.world d) → Moves sh p h.world ⊎ (t ≤ serving_at h.world d)
        go (inr l) = inr l
        go (inl l) = absurd (omega (arith, x.first (serving_at h.world d) l, counts sh h.world (serving_at h.world d) a))

-- a TID that a core has was granted
held_granted : (sh : Shape) (p : Program) (h : History) (t : ℕ) → Reached sh p h → IsHeld sh h.world t → t < h.world.next
held_granted sh p h t k a =
    granted_below sh p h a.core t k ((k.carried.live_tid_is_granted_to_its_core a.core 0 t a.below (own-holder h.world a.core 0 t a.has)).0)

-- either something can go on, or no core has a TID and every directory serves the vendor's next or is beyond it
pub record NoneHeld (sh : Shape) (p : Program) (w : World) : Type 0 where
  pub none : (t : ℕ) → IsHeld sh w t → ⊥
  pub beyond : AllReach sh p w w.next

pub none_or_moves : (sh : Shape) (p : Program) (h : History) → Reached sh p h → Moves sh p h.world ⊎ NoneHeld sh p h.world
none_or_moves sh p h k = go (least (held_count sh h.world) h.world.next)
  where
    go : ((t : ℕ) × IsLeast (held_count sh h.world) h.world.next t) ⊎ ((u : ℕ) → u < h.world.next → held_count sh h.world u ≡ 0)
        → Moves sh p h.world ⊎ NoneHeld sh p h.world
    go (inl x) = inl (least_moves sh p h x.0 k (x.1))
    go (inr z) = inr (record { none = none; beyond = λ d i. at d (serving_stands sh p h d k i) })
      where
        none : (t : ℕ) → IsHeld sh h.world t → ⊥
        none t a = omega (arith, z t (held_granted sh p h t k a), counts sh h.world t a)

        at : (d : ℕ) → Moves sh p h.world ⊎ ((h.world.next ≤ serving_at h.world d) ⊎ IsHeld sh h.world (serving_at h.world d))
            → Moves sh p h.world ⊎ (h.world.next ≤ serving_at h.world d)
        at d (inl m) = inl m
        at d (inr (inl n)) = inr n
        at d (inr (inr a)) = absurd (none (serving_at h.world d) a)
