-- Along a run that follows a list all cores but the one whose turn it is have no TID, and a TID that a core holds is above those of all
-- commits. So each new commit comes last, and the commits are by the cores of the list's first orders.
use Rattle.std.proofs.Common.{◌≡◌, ℕ, ◌<◌, ◌⊎◌, inl, inr, Bool, true, false, List, [], ◌∷◌, ◌++◌}
use Rattle.std.proofs.Common.{Option, Some, None, refl, arith}
use Rattle.std.proofs.lemmas.Bool.Decides.{nat_tests}
use Rattle.tcc_base.specs.declared.access.Commit.{Commit as Noted}
use Rattle.rules_maps.specs.Nodes.{Core, Vendor}
use Rattle.rules_maps.specs.Words.{num}
use Rattle.rules_program.specs.Plain.{Order}
use Rattle.rules_tcc.specs.State.{World}
use Rattle.rules_tcc.specs.Step.{History, and_noted, insert_commit}
use Rattle.theorem_serial.specs.Owners.{holder}
use Rattle.theorem_serial.specs.Pairs.{pair}
use Rattle.theorem_serial.specs.Tids.{RequestOf, has_tid, waits_for_tid}
use Rattle.run_follow.specs.Following.{is_turn, turn_of}
use Rattle.run_follow.proofs.Clear.{clear-has, clear-waits, is_clear}
use Rattle.run_follow.proofs.Turning.{Holds, Turning}
use Rattle.theorem_serial.proofs.Lemmas.{grant-any}

-- all commits have TIDs below this one
unfoldable pub AreBelow : (tid : ℕ) → List Noted → Type 0
AreBelow t [] = Unit {0}
AreBelow t (c ∷ cs) = (c.tid.0 < t) × AreBelow t cs

-- the commits are by the cores of the first orders, one for one
unfoldable pub AreFirst : List Noted → List Order → Type 0
AreFirst [] os = Unit {0}
AreFirst (c ∷ cs) [] = ⊥
AreFirst (c ∷ cs) (o ∷ os) = (c.core.0 ≡ o.core) × AreFirst cs os

-- what is inserted with a TID above all comes last
inserted-last : (n : Noted) (cs : List Noted) → AreBelow n.tid.0 cs → insert_commit n cs ≡ cs ++ n ∷ []
unfolding AreBelow insert_commit
inserted-last n [] b = refl
inserted-last n (c ∷ cs) b = let rest = inserted-last n cs b.1 in let here = b.0 in grind (arith, nat_tests, rest, here)

first-more : (cs : List Noted) (os : List Order) (n : Noted) → is_turn (turn_of os cs) n.core.0 ≡ true → AreFirst cs os
    → AreFirst (cs ++ n ∷ []) os
unfolding AreFirst
first-more [] [] n i f = absurd (cc)
first-more [] (o ∷ os) n i f = (grind (arith, nat_tests, i), tt)
first-more (c ∷ cs) [] n i f = absurd f
first-more (c ∷ cs) (o ∷ os) n i f = (f.0, first-more cs os n i f.1)

clear-holds : (w : World) (c t : ℕ) → is_clear (w.cores c).phase ≡ true → RequestOf (pair w c 0) → Holds w c t → ⊥
unfolding pair holder
clear-holds w c t k r h =
    let quiet : num (waits_for_tid (w.cores c).phase) ≡ 0 = rw (clear-waits (w.cores c).phase k) refl in
    let none : num (has_tid (w.cores c).phase t) ≡ 0 = rw (clear-has (w.cores c).phase t k) refl in
    let few = grant-any t (w.net Vendor (Core c)) in
    omega (arith, quiet, none, few, r, h)

pub record InTurn (os : List Order) (h : History) : Type 0 where
  pub clear : (c : ℕ) → is_turn (turn_of os h.commits) c ≡ false → is_clear (h.world.cores c).phase ≡ true
  pub later : (c t : ℕ) → Holds h.world c t → AreBelow t h.commits
  pub firsts : AreFirst h.commits os

-- what holds of each state that a run reaches
pub record Sound (h : History) : Type 0 where
  pub granted : AreBelow h.world.next h.commits
  pub requests : (c : ℕ) → RequestOf (pair h.world c 0)

abbrev pub after : History → World → Option Noted → History
after h v noted = record { world = v; commits = and_noted noted h.commits }

-- an event that commits nothing
goes-on : (os : List Order) (h : History) (v : World) → Turning (turn_of os h.commits) h.world v None → InTurn os h → Sound h
    → InTurn os (after h v None)
goes-on os h v k i s = record {
  clear = λ c f. k.others c f (i.clear c f);
  later = λ c t x. held c t (k.held c t x);
  firsts = i.firsts;
}
  where
    held : (c t : ℕ) → Holds h.world c t ⊎ (t ≡ h.world.next) → AreBelow t h.commits
    held c t (inl x) = i.later c t x
    held c t (inr e) = rw e s.granted

-- one that commits, and leaves no core a TID
commits-on : (os : List Order) (h : History) (v : World) (n : Noted) → Turning (turn_of os h.commits) h.world v (Some n) → InTurn os h
    → ((c : ℕ) → RequestOf (pair v c 0)) → InTurn os (after h v (Some n))
commits-on os h v n k i r = record {
  clear = λ c f. all c;
  later = λ c t x. absurd (clear-holds v c t (all c) (r c) x);
  firsts = rw last (first-more h.commits os n k.commits.in_turn i.firsts);
}
  where
    last : insert_commit n h.commits ≡ h.commits ++ n ∷ []
    last = inserted-last n h.commits (i.later n.core.0 n.tid.0 k.commits.held)

    mine : (turn : Option ℕ) (c d : ℕ) → is_turn turn c ≡ true → is_turn turn d ≡ true → c ≡ d
    mine None c d e f = absurd (cc)
    mine (Some t) c d e f = grind (arith, nat_tests, e, f)

    all : (c : ℕ) → is_clear (v.cores c).phase ≡ true
    all c = go (is_turn (turn_of os h.commits) c) refl
      where
        go : (b : Bool) → is_turn (turn_of os h.commits) c ≡ b → is_clear (v.cores c).phase ≡ true
        go true e = rw (mine (turn_of os h.commits) c n.core.0 e k.commits.in_turn) k.commits.clear
        go false e = k.others c e (i.clear c e)

pub in-turn-on : (os : List Order) (h : History) (v : World) (noted : Option Noted) → Turning (turn_of os h.commits) h.world v noted
    → InTurn os h → Sound h → Sound (after h v noted) → InTurn os (after h v noted)
in-turn-on os h v None k i s t = goes-on os h v k i s
in-turn-on os h v (Some n) k i s t = commits-on os h v n k i t.requests
