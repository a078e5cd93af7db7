-- The links between a core and a directory, and from a number of messages to one of them.
use Rattle.std.specs.Prelude.{ℕ, suc, ◌≡◌, ◌≤◌, Bool, true, false, [], ◌∷◌, Some, None, get_or}
use Rattle.std.proofs.Common.{arith, refl}
use Rattle.rules_maps.specs.Words.{num}
use Rattle.rules_maps.specs.Nodes.{Core, Dir, Msg}
use Rattle.rules_tcc.specs.State.{Link, World}
use Rattle.theorem_serial.specs.Count.{Kind, live, passes}
use Rattle.theorem_serial.proofs.Lemmas.{live-some}

-- from a core to a directory, and from the directory to the core
abbrev pub out : World → (core dir : ℕ) → Link
out w c d = w.net (Core c) (Dir d)

abbrev pub back : World → (core dir : ℕ) → Link
back w c d = w.net (Dir d) (Core c)

-- the TID that a directory serves
abbrev pub serving_at : World → (dir : ℕ) → ℕ
serving_at w d = (w.dirs d).serving.serving

-- a message of the kind is in flight on the link
pub record Found (k : Kind) (l : Link) : Type 0 where
  pub at : ℕ
  pub msg : Msg
  pub there : get_or l at None ≡ Some msg
  pub passes : passes k msg ≡ true

-- where there are any, there is one
pub found : (k : Kind) (l : Link) → 1 ≤ live k l → Found k l
unfolding live
found k [] h = absurd (omega arith)
found k (None ∷ l) h = let f = found k l h in record { at = suc f.at; msg = f.msg; there = f.there; passes = f.passes }
found k (Some m ∷ l) h = go (passes k m) refl (found k l)
  where
    go : (b : Bool) → passes k m ≡ b → (1 ≤ live k l → Found k l) → Found k (Some m ∷ l)
    go true e f = record { at = 0; msg = m; there = refl; passes = e }
    go false e f = let h2 : 1 ≤ live k l = omega (arith, rw e at h) in let g = f h2 in
        record { at = suc g.at; msg = g.msg; there = g.there; passes = g.passes }

-- and one that is there counts
pub counted : (k : Kind) (l : Link) (i : ℕ) (m : Msg) → get_or l i None ≡ Some m → passes k m ≡ true → 1 ≤ live k l
counted k l i m e q = let n : num (passes k m) ≡ 1 = rw q refl in omega (arith, live-some k l i m e)
