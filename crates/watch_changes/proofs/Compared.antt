-- Records with the same numbers are the same: each is read back from its numbers.
use Rattle.std.proofs.Common.{◌≡◌, ℕ, zero, suc, ◌==◌, Bool, true, false, List, [], ◌∷◌, Option, Some, None}
use Rattle.std.proofs.Common.{if◌then◌else◌, refl, ap, sym, ◌∙◌}
use Rattle.rules_program.specs.Plain.{Outcome, Goes, Ended, Halted, Trapped}
use Rattle.rules_maps.specs.Words.{num}
use Rattle.rules_tcc.specs.State.{Phase, Running, AwaitTid, DoomedTid, Probing, Ready, Overflowing, Solo, Halted as Stopped}
use Rattle.watch_state.specs.Records.{Frame, Known, Record, CoreIs, Reserved, EndedBy, AwaitsLine, OwedBy, CommittedAt, Register, SavedPc}
use Rattle.watch_state.specs.Records.{SavedRegister, Holds, Spilled, DirectoryIs, Skipped, LineIs, HomeWord, VendorIs, InFlight}
use Rattle.watch_changes.specs.Same.{numbers_of, outcome_numbers, owner_numbers, phase_numbers, same, same_numbers}
use Rattle.watch_changes.proofs.Lowering.{alike-is}

-- the number at a place
abbrev at : ℕ → List ℕ → ℕ
at k [] = 0
at zero (x ∷ xs) = x
at (suc k) (x ∷ xs) = at k xs

abbrev rest : ℕ → List ℕ → List ℕ
rest zero xs = xs
rest (suc k) [] = []
rest (suc k) (x ∷ xs) = rest k xs

abbrev flag : ℕ → Bool
flag n = n == 1

abbrev phase_from : List ℕ → Phase
phase_from xs =
    if at 0 xs == 0 then Running
    else if at 0 xs == 1 then AwaitTid
    else if at 0 xs == 2 then DoomedTid
    else if at 0 xs == 3 then Probing (at 1 xs)
    else if at 0 xs == 4 then Ready (at 1 xs)
    else if at 0 xs == 5 then Overflowing None
    else if at 0 xs == 6 then Overflowing (Some (at 1 xs))
    else if at 0 xs == 7 then Solo (at 1 xs)
    else Stopped

abbrev outcome_from : List ℕ → Outcome
outcome_from xs =
    if at 0 xs == 0 then Goes else if at 0 xs == 1 then Ended else if at 0 xs == 2 then Halted (at 1 xs) else Trapped (at 1 xs)

abbrev frame_from : List ℕ → Frame
frame_from xs = record {
  line = at 0 xs;
  valid = at 1 xs;
  read = at 2 xs;
  modified = at 3 xs;
  dirty = at 4 xs;
  tag = at 5 xs;
  words = rest 6 xs;
}

abbrev known_from : List ℕ → Known
known_from xs = record {
  home = at 0 xs;
  owner = if at 4 xs == 0 then None else Some (at 5 xs);
  tag = at 1 xs;
  asked = flag (at 2 xs);
  mark = at 3 xs;
  sharers = if at 4 xs == 0 then rest 5 xs else rest 6 xs;
}

abbrev record_from : List ℕ → Record
record_from xs =
    if at 0 xs == 0 then CoreIs (at 1 xs) (at 2 xs) (at 3 xs) (phase_from (rest 4 xs))
    else if at 0 xs == 1 then Reserved (at 1 xs) (at 2 xs)
    else if at 0 xs == 2 then EndedBy (at 1 xs) (outcome_from (rest 2 xs))
    else if at 0 xs == 3 then AwaitsLine (at 1 xs) (at 2 xs) (flag (at 3 xs))
    else if at 0 xs == 4 then OwedBy (at 1 xs) (rest 2 xs)
    else if at 0 xs == 5 then CommittedAt (at 1 xs) (at 2 xs) (at 3 xs)
    else if at 0 xs == 6 then Register (at 1 xs) (at 2 xs) (at 3 xs)
    else if at 0 xs == 7 then SavedPc (at 1 xs) (at 2 xs)
    else if at 0 xs == 8 then SavedRegister (at 1 xs) (at 2 xs) (at 3 xs)
    else if at 0 xs == 9 then Holds (at 1 xs) (at 2 xs) (at 3 xs) (frame_from (rest 4 xs))
    else if at 0 xs == 10 then Spilled (at 1 xs) (at 2 xs) (at 3 xs)
    else if at 0 xs == 11 then DirectoryIs (at 1 xs) (at 2 xs) (at 3 xs)
    else if at 0 xs == 12 then Skipped (at 1 xs) (at 2 xs)
    else if at 0 xs == 13 then LineIs (at 1 xs) (known_from (rest 2 xs))
    else if at 0 xs == 14 then HomeWord (at 1 xs) (at 2 xs)
    else VendorIs (at 1 xs)

-- what each part is, read back

phase-back : (p : Phase) → phase_from (phase_numbers p) ≡ p
phase-back Running = refl
phase-back AwaitTid = refl
phase-back DoomedTid = refl
phase-back (Probing t) = refl
phase-back (Ready t) = refl
phase-back (Overflowing None) = refl
phase-back (Overflowing (Some t)) = refl
phase-back (Solo t) = refl
phase-back Stopped = refl

outcome-back : (o : Outcome) → outcome_from (outcome_numbers o) ≡ o
outcome-back Goes = refl
outcome-back Ended = refl
outcome-back (Halted c) = refl
outcome-back (Trapped c) = refl

flag-back : (b : Bool) → flag (num b) ≡ b
flag-back true = refl
flag-back false = refl

known-back : (home : ℕ) (owner : Option ℕ) (tag : ℕ) (asked : Bool) (mark : ℕ) (sharers : List ℕ)
    → known_from (home ∷ tag ∷ num asked ∷ mark ∷ owner_numbers owner sharers)
    ≡ record { home = home; owner = owner; tag = tag; asked = asked; mark = mark; sharers = sharers }
known-back home None tag asked mark sharers =
    ap (λ b. record { home = home; owner = None; tag = tag; asked = b; mark = mark; sharers = sharers }) (flag-back asked)
known-back home (Some c) tag asked mark sharers =
    ap (λ b. record { home = home; owner = Some c; tag = tag; asked = b; mark = mark; sharers = sharers }) (flag-back asked)

-- a record is read back from its numbers
abbrev AreOf : Record → Option (List ℕ) → Type 0
AreOf r None = Unit {0}
AreOf r (Some xs) = record_from xs ≡ r

back : (r : Record) → AreOf r (numbers_of r)
back (CoreIs c n pc p) = ap (λ q. CoreIs c n pc q) (phase-back p)
back (Reserved c a) = refl
back (EndedBy c o) = ap (λ q. EndedBy c q) (outcome-back o)
back (AwaitsLine c l b) = ap (λ q. AwaitsLine c l q) (flag-back b)
back (OwedBy c ds) = refl
back (CommittedAt c d t) = refl
back (Register c n v) = refl
back (SavedPc c pc) = refl
back (SavedRegister c n v) = refl
back (Holds c x y f) = refl
back (Spilled c a v) = refl
back (DirectoryIs d s o) = refl
back (Skipped d t) = refl
back (LineIs l k) = ap (λ q. LineIs l q) (known-back k.home k.owner k.tag k.asked k.mark k.sharers)
back (HomeWord a v) = refl
back (VendorIs n) = refl
back (InFlight s d k m) = record {}

pub same-is : (r s : Record) → same r s ≡ true → r ≡ s
unfolding same
same-is r s e = go (numbers_of r) (back r) (numbers_of s) (back s) e
  where
    go : (a : Option (List ℕ)) → AreOf r a → (b : Option (List ℕ)) → AreOf s b → same_numbers a b ≡ true → r ≡ s
    go None p b q h = absurd (cc)
    go (Some xs) p None q h = absurd (cc)
    go (Some xs) p (Some ys) q h = sym p ∙ ap record_from (alike-is xs ys h) ∙ q
