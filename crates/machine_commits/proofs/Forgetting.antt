-- Commits below a TID are the first of rising ones.
use Rattle.std.proofs.Common.{◌≡◌, ℕ, ◌<◌, ◌≤◌, Bool, true, false, cond, leb, List, [], ◌∷◌, ◌++◌}
use Rattle.std.proofs.Common.{refl, ap, sym, subst, arith}
use Rattle.std.specs.List.{filter}
use Rattle.std.proofs.lemmas.Bool.{leb-true, leb-false, le-leb}
use Rattle.tcc_base.specs.declared.access.Commit.{Commit}
use Rattle.machine_commits.specs.Rising.{Rising, RisesFrom}
use Rattle.machine_commits.specs.Forgetting.{AllBelow, Forgets, NoneBelow}

-- those of no smaller TID
abbrev pub those_from : (tid : ℕ) → List Commit → List Commit
those_from tid cs = filter (λ c. leb tid c.tid.0) cs

-- above it all stay
all-stay : (tid last : ℕ) (cs : List Commit) → tid ≤ last → RisesFrom last cs → those_from tid cs ≡ cs
unfolding RisesFrom
all-stay tid last [] le h = refl
all-stay tid last (c ∷ cs) le h =
    let above : last < c.tid.0 = h.0 in
    let e : leb tid c.tid.0 ≡ true = le-leb tid c.tid.0 (omega (arith, above)) in
    rw e (ap (λ ds. c ∷ ds) (all-stay tid c.tid.0 cs (omega (arith, above)) h.1))

none-below : (tid last : ℕ) (cs : List Commit) → tid ≤ last → RisesFrom last cs → NoneBelow tid cs
unfolding RisesFrom NoneBelow
none-below tid last [] le h = tt
none-below tid last (c ∷ cs) le h =
    let above : last < c.tid.0 = h.0 in
    (omega (arith, above), none-below tid c.tid.0 cs (omega (arith, above)) h.1)

-- above what the first one has, they rise
from-first : (last : ℕ) (cs : List Commit) → RisesFrom last cs → Rising cs
unfolding RisesFrom Rising
from-first last [] h = tt
from-first last (c ∷ cs) h = h.1

pub forgets-first : (tid : ℕ) (cs : List Commit) → Rising cs → Forgets tid cs (those_from tid cs)
unfolding Rising AllBelow NoneBelow
forgets-first tid [] h = record { gone = []; parts = refl; below = tt; stay = tt }
forgets-first tid (c ∷ cs) h = by (forgets-first tid cs (from-first c.tid.0 cs h)) (leb tid c.tid.0) refl
  where
    by : Forgets tid cs (those_from tid cs) → (b : Bool) → leb tid c.tid.0 ≡ b
        → Forgets tid (c ∷ cs) (cond b (c ∷ those_from tid cs) (those_from tid cs))
    by rest true e =
        let le : tid ≤ c.tid.0 = leb-true tid c.tid.0 e in
        let all : those_from tid cs ≡ cs = all-stay tid c.tid.0 cs le h in
        record {
          gone = [];
          parts = ap (λ ds. c ∷ ds) (sym all);
          below = tt;
          stay = (le, subst (NoneBelow tid) (sym all) (none-below tid c.tid.0 cs le h));
        }
    by rest false e = record {
      gone = c ∷ rest.gone;
      parts = ap (λ ds. c ∷ ds) rest.parts;
      below = (leb-false tid c.tid.0 e, rest.below);
      stay = rest.stay;
    }

-- those that stay rise
pub Rising-behind : (gone kept : List Commit) → Rising (gone ++ kept) → Rising kept
unfolding Rising
Rising-behind [] kept h = h
Rising-behind (c ∷ cs) kept h = Rising-behind cs kept (from-first c.tid.0 (cs ++ kept) h)

-- below one TID, and so below a larger one
pub AllBelow-more : (t u : ℕ) (cs : List Commit) → t ≤ u → AllBelow t cs → AllBelow u cs
unfolding AllBelow
AllBelow-more t u [] le h = tt
AllBelow-more t u (c ∷ cs) le h = let below : c.tid.0 < t = h.0 in (omega (arith, below), AllBelow-more t u cs le h.1)
