-- A text that grows piece by piece.
use Rattle.std.proofs.Common.{◌≡◌, ℕ, List, ◌++◌, Result, Ok, Err, ap, ◌∙◌, append_assoc}
use Rattle.std.specs.Prelude.{OnOk, is_ok, if◌then◌else◌}

-- where a string's call went well, the text is this
pub went-well : {T E : Type 0} (r : Result T E) (now good bad : List ℕ) → now ≡ (if is_ok r then good else bad) → OnOk r (now ≡ good)
went-well (Ok v) now good bad e = e
went-well (Err v) now good bad e = tt

-- one piece more
on : (t0 so_far now piece later : List ℕ) → now ≡ t0 ++ so_far → later ≡ now ++ piece → later ≡ t0 ++ (so_far ++ piece)
on t0 so_far now piece later h e = e ∙ ap (λ t. t ++ piece) h ∙ append_assoc t0 so_far piece

-- a text after some pieces: t0 is the text before them, and each of the others is the one before it with one piece more
grown2 : (t0 t1 t2 p1 p2 : List ℕ)
    → t1 ≡ t0 ++ p1 → t2 ≡ t1 ++ p2
    → t2 ≡ t0 ++ (p1 ++ p2)
grown2 t0 t1 t2 p1 p2 e1 e2 =
    on t0 (p1) t1 p2 t2 e1 e2

grown3 : (t0 t1 t2 t3 p1 p2 p3 : List ℕ)
    → t1 ≡ t0 ++ p1 → t2 ≡ t1 ++ p2 → t3 ≡ t2 ++ p3
    → t3 ≡ t0 ++ (p1 ++ p2 ++ p3)
grown3 t0 t1 t2 t3 p1 p2 p3 e1 e2 e3 =
    on t0 (p1 ++ p2) t2 p3 t3 (grown2 t0 t1 t2 p1 p2 e1 e2) e3

grown4 : (t0 t1 t2 t3 t4 p1 p2 p3 p4 : List ℕ)
    → t1 ≡ t0 ++ p1 → t2 ≡ t1 ++ p2 → t3 ≡ t2 ++ p3 → t4 ≡ t3 ++ p4
    → t4 ≡ t0 ++ (p1 ++ p2 ++ p3 ++ p4)
grown4 t0 t1 t2 t3 t4 p1 p2 p3 p4 e1 e2 e3 e4 =
    on t0 (p1 ++ p2 ++ p3) t3 p4 t4 (grown3 t0 t1 t2 t3 p1 p2 p3 e1 e2 e3) e4

grown5 : (t0 t1 t2 t3 t4 t5 p1 p2 p3 p4 p5 : List ℕ)
    → t1 ≡ t0 ++ p1 → t2 ≡ t1 ++ p2 → t3 ≡ t2 ++ p3 → t4 ≡ t3 ++ p4 → t5 ≡ t4 ++ p5
    → t5 ≡ t0 ++ (p1 ++ p2 ++ p3 ++ p4 ++ p5)
grown5 t0 t1 t2 t3 t4 t5 p1 p2 p3 p4 p5 e1 e2 e3 e4 e5 =
    on t0 (p1 ++ p2 ++ p3 ++ p4) t4 p5 t5 (grown4 t0 t1 t2 t3 t4 p1 p2 p3 p4 e1 e2 e3 e4) e5

pub grown6 : (t0 t1 t2 t3 t4 t5 t6 p1 p2 p3 p4 p5 p6 : List ℕ)
    → t1 ≡ t0 ++ p1 → t2 ≡ t1 ++ p2 → t3 ≡ t2 ++ p3 → t4 ≡ t3 ++ p4 → t5 ≡ t4 ++ p5
    → t6 ≡ t5 ++ p6
    → t6 ≡ t0 ++ (p1 ++ p2 ++ p3 ++ p4 ++ p5 ++ p6)
grown6 t0 t1 t2 t3 t4 t5 t6 p1 p2 p3 p4 p5 p6 e1 e2 e3 e4 e5 e6 =
    on t0 (p1 ++ p2 ++ p3 ++ p4 ++ p5) t5 p6 t6 (grown5 t0 t1 t2 t3 t4 t5 p1 p2 p3 p4 p5 e1 e2 e3 e4 e5) e6

pub grown7 : (t0 t1 t2 t3 t4 t5 t6 t7 p1 p2 p3 p4 p5 p6 p7 : List ℕ)
    → t1 ≡ t0 ++ p1 → t2 ≡ t1 ++ p2 → t3 ≡ t2 ++ p3 → t4 ≡ t3 ++ p4 → t5 ≡ t4 ++ p5
    → t6 ≡ t5 ++ p6 → t7 ≡ t6 ++ p7
    → t7 ≡ t0 ++ (p1 ++ p2 ++ p3 ++ p4 ++ p5 ++ p6 ++ p7)
grown7 t0 t1 t2 t3 t4 t5 t6 t7 p1 p2 p3 p4 p5 p6 p7 e1 e2 e3 e4 e5 e6 e7 =
    on t0 (p1 ++ p2 ++ p3 ++ p4 ++ p5 ++ p6) t6 p7 t7 (grown6 t0 t1 t2 t3 t4 t5 t6 p1 p2 p3 p4 p5 p6 e1 e2 e3 e4 e5 e6) e7

pub grown8 : (t0 t1 t2 t3 t4 t5 t6 t7 t8 p1 p2 p3 p4 p5 p6 p7 p8 : List ℕ)
    → t1 ≡ t0 ++ p1 → t2 ≡ t1 ++ p2 → t3 ≡ t2 ++ p3 → t4 ≡ t3 ++ p4 → t5 ≡ t4 ++ p5
    → t6 ≡ t5 ++ p6 → t7 ≡ t6 ++ p7 → t8 ≡ t7 ++ p8
    → t8 ≡ t0 ++ (p1 ++ p2 ++ p3 ++ p4 ++ p5 ++ p6 ++ p7 ++ p8)
grown8 t0 t1 t2 t3 t4 t5 t6 t7 t8 p1 p2 p3 p4 p5 p6 p7 p8 e1 e2 e3 e4 e5 e6 e7 e8 =
    on t0 (p1 ++ p2 ++ p3 ++ p4 ++ p5 ++ p6 ++ p7) t7 p8 t8 (grown7 t0 t1 t2 t3 t4 t5 t6 t7 p1 p2 p3 p4 p5 p6 p7 e1 e2 e3 e4 e5 e6 e7) e8

pub grown9 : (t0 t1 t2 t3 t4 t5 t6 t7 t8 t9 p1 p2 p3 p4 p5 p6 p7 p8 p9 : List ℕ)
    → t1 ≡ t0 ++ p1 → t2 ≡ t1 ++ p2 → t3 ≡ t2 ++ p3 → t4 ≡ t3 ++ p4 → t5 ≡ t4 ++ p5
    → t6 ≡ t5 ++ p6 → t7 ≡ t6 ++ p7 → t8 ≡ t7 ++ p8 → t9 ≡ t8 ++ p9
    → t9 ≡ t0 ++ (p1 ++ p2 ++ p3 ++ p4 ++ p5 ++ p6 ++ p7 ++ p8 ++ p9)
grown9 t0 t1 t2 t3 t4 t5 t6 t7 t8 t9 p1 p2 p3 p4 p5 p6 p7 p8 p9 e1 e2 e3 e4 e5 e6 e7 e8 e9 =
    on t0 (p1 ++ p2 ++ p3 ++ p4 ++ p5 ++ p6 ++ p7 ++ p8) t8 p9 t9
    (grown8 t0 t1 t2 t3 t4 t5 t6 t7 t8 p1 p2 p3 p4 p5 p6 p7 p8 e1 e2 e3 e4 e5 e6 e7 e8) e9
