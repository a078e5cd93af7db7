-- The owner answers: where a line is owned and its words were asked for, the request can be delivered to the owner, or words that it
-- has sent are taken; so a message that only waits for an owner can go on.
use Rattle.std.specs.Prelude.{ℕ, zero, suc, ◌+◌, ◌≡◌, ◌<◌, ◌≤◌, Bool, true, false}
use Rattle.std.proofs.Common.{arith, refl, ap, ◌⊎◌, inl, inr}
use Rattle.std.proofs.lemmas.Bool.Decides.{nat_tests}
use Rattle.rules_program.specs.Program.{Program}
use Rattle.rules_maps.specs.Nodes.{Msg, WriteBack, Flush, LoadReq}
use Rattle.rules_maps.specs.Shape.{Shape, home, lines}
use Rattle.rules_maps.specs.Lines.{has_mark}
use Rattle.rules_tcc.specs.State.{DirState}
use Rattle.rules_tcc.specs.Step.{History}
use Rattle.rules_tcc.specs.DirDeliver.{dir_deliver}
use Rattle.theorem_serial.specs.Count.{DataOf, CopyOf, LoadOf, LoadNot, live, passes}
use Rattle.theorem_serial.specs.Pairs.{pair}
use Rattle.rules_maps.specs.Messages.{goes_to_core}
use Rattle.theorem_live.proofs.Events.{Moves, is_answer, back_counted, out_counted, out_moves}
use Rattle.theorem_live.proofs.Found.{back, out, serving_at, Found, found, counted}
use Rattle.theorem_live.proofs.State.{Reached}
use Rattle.theorem_live.proofs.Waiting.{IsAsked, copy_answered, load_answered}

asks_core : (l : ℕ) (m : Msg) → passes (DataOf l) m ≡ true → goes_to_core m ≡ true
unfolding passes
asks_core l m q = grind (arith, nat_tests)

-- words with the line's tag don't wait
copy_taken : (sh : Shape) (s : DirState) (c l : ℕ) (m : Msg) → passes (CopyOf l (s.lines.tag l)) m ≡ true
    → is_answer (dir_deliver sh s c m) ≡ true
unfolding passes dir_deliver
copy_taken sh s c l (WriteBack k m ws g) q = let e : k ≡ l = grind (arith, nat_tests) in let u : s.lines.tag k ≡ s.lines.tag l =
    ap s.lines.tag e in copy_answered c k m ws g s (grind (arith, nat_tests))
copy_taken sh s c l (Flush k m ws g) q = let e : k ≡ l = grind (arith, nat_tests) in let u : s.lines.tag k ≡ s.lines.tag l =
    ap s.lines.tag e in copy_answered c k m ws g s (grind (arith, nat_tests))
copy_taken sh s c l m q = absurd (cc)

pub owner_moves : (sh : Shape) (p : Program) (h : History) (d l : ℕ) → Reached sh p h → d < sh.dirs → l < lines sh → home sh l ≡ d
    → IsAsked (h.world.dirs d) l → Moves sh p h.world
unfolding pair
owner_moves sh p h d l k i m e a = go (live (DataOf l) (back h.world a.owner d)) refl
  where
    owner : a.owner < sh.cores
    owner = k.fits.owners d l a.owner (a.owned)

    gets : 1 ≤ live (DataOf l) (back h.world a.owner d) + live (CopyOf l ((h.world.dirs d).lines.tag l)) (out h.world a.owner d)
    gets = (k.carried.asked_line_gets_its_words).1 a.owner d l owner i m e (a.asked) (a.owned)

    go : (x : ℕ) → live (DataOf l) (back h.world a.owner d) ≡ x → Moves sh p h.world
    go (suc x) q = back_counted sh p h.world (DataOf l) d a.owner i owner (asks_core l) (omega (arith, q))
    go zero q = out_counted sh p h.world (CopyOf l ((h.world.dirs d).lines.tag l)) a.owner d owner i
        (copy_taken sh (h.world.dirs d) a.owner l) (omega (arith, gets, q))

-- a load request for a line without mark, whose core's last commit there is passed
load_waits : (sh : Shape) (s : DirState) (c l after : ℕ) (m : Msg) → passes (LoadOf l) m ≡ true → passes (LoadNot after) m ≡ false
    → after < s.serving.serving → has_mark s.lines l ≡ false → (is_answer (dir_deliver sh s c m) ≡ true) ⊎ IsAsked s l
unfolding passes dir_deliver
load_waits sh s c l after (LoadReq k a) q n b u = let e : k ≡ l = grind (arith, nat_tests) in let f : a ≡ after =
    grind (arith, nat_tests) in rw (e, f) (load_answered c l after s b u)
load_waits sh s c l after m q n b u = absurd (cc)

pub load_moves : (sh : Shape) (p : Program) (h : History) (c d l : ℕ) → Reached sh p h → c < sh.cores → d < sh.dirs → home sh l ≡ d
    → 1 ≤ live (LoadOf l) (out h.world c d)
    → (h.world.cores c).last_commit d < serving_at h.world d → has_mark (h.world.dirs d).lines l ≡ false → Moves sh p h.world
unfolding pair
load_moves sh p h c d l k i j e n b u = go (load_waits sh (h.world.dirs d) c l ((h.world.cores c).last_commit d) f.msg f.passes
    (carries (passes (LoadNot ((h.world.cores c).last_commit d)) f.msg) refl) b u)
  where
    f : Found (LoadOf l) (out h.world c d)
    f = found (LoadOf l) (out h.world c d) n

    carries : (x : Bool) → passes (LoadNot ((h.world.cores c).last_commit d)) f.msg ≡ x
        → passes (LoadNot ((h.world.cores c).last_commit d)) f.msg ≡ false
    carries false q = q
    carries true q = absurd (omega (
      arith,
      counted (LoadNot ((h.world.cores c).last_commit d)) (out h.world c d) f.at f.msg f.there q,
      (k.carried.after_is_the_last_commit_there c d i j).carried,
    ))

    inside : l < lines sh
    inside = k.memory.loads_in_flight_are_of_lines_in_memory c d l (omega (arith, n))

    go : (is_answer (dir_deliver sh (h.world.dirs d) c f.msg) ≡ true) ⊎ IsAsked (h.world.dirs d) l → Moves sh p h.world
    go (inl a) = out_moves sh p h.world c d f.at f.msg i j f.there a
    go (inr a) = owner_moves sh p h d l k j inside e a
