-- Two tests of one fact answer alike.
use Rattle.std.proofs.Common.{◌≡◌, ◌↔◌, Bool, true, false, IsTrue, refl, sym}

pub one-truth : (P : Type 0) (a b : Bool) → IsTrue a ↔ P → IsTrue b ↔ P → a ≡ b
one-truth P true true p q = refl
one-truth P false false p q = refl
one-truth P true false p q = sym (q.1 (p.0 refl))
one-truth P false true p q = p.1 (q.0 refl)
