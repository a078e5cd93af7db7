-- The stamps of a log with one more entry.
use Rattle.std.proofs.Common.{◌≡◌, ℕ, ◌<◌, ◌≤◌, List, [], ◌∷◌, ◌++◌, map, refl, arith}
use Rattle.rules_tcc.specs.Local.{Entry}
use Rattle.rules_tcc.specs.Merged.{Each, Rises}
use Rattle.rules_apart.specs.Filled.{bare}
use Rattle.rules_apart.specs.declared.logs.Logged.{Logged}
use Rattle.apart_node.specs.Node.{last_from, last_stamp}

pub last-push : (t : ℕ) (log : List Logged) (e : Logged) → last_from t (log ++ e ∷ []) ≡ e.stamp
unfolding last_from
last-push t [] e = refl
last-push t (l ∷ log) e = last-push l.stamp log e

-- stamps from here on rise, above t
abbrev Above : ℕ → List Logged → Type 0
Above t log = Each (λ f. t < f.stamp) (map bare log) × Rises (map bare log)

bare-stamp : (l : Logged) → (bare l).stamp ≡ l.stamp
unfolding bare
bare-stamp l = refl

last-above : (t : ℕ) (log : List Logged) → Above t log → t ≤ last_from t log
unfolding last_from
last-above t [] h = omega arith
last-above t (l ∷ log) h =
    let up : t < (bare l).stamp = h.0.0 in
    let rest : Each (λ f. l.stamp < f.stamp) (map bare log) = rw (bare-stamp l) at h.1.0 in
    omega (arith, last-above l.stamp log (rest, h.1.1), bare-stamp l)

each-below : (t u : ℕ) (es : List Entry) → t ≤ u → Each (λ f. f.stamp ≤ t) es → Each (λ f. f.stamp ≤ u) es
each-below t u [] h e = tt
each-below t u (x ∷ es) h e = (omega (arith, e.0), each-below t u es h e.1)

all-below : (t : ℕ) (log : List Logged) → Rises (map bare log) → Each (λ f. f.stamp ≤ last_from t log) (map bare log)
unfolding last_from
all-below t [] h = tt
all-below t (l ∷ log) h =
    let rest : Each (λ f. l.stamp < f.stamp) (map bare log) = rw (bare-stamp l) at h.0 in
    (omega (arith, last-above l.stamp log (rest, h.1), bare-stamp l), all-below l.stamp log h.1)

each-push : (P : Entry → Type 0) (log : List Logged) (e : Logged) → Each P (map bare log) → P (bare e) → Each P (map bare (log ++ e ∷ []))
each-push P [] e h p = (p, tt)
each-push P (l ∷ log) e h p = (h.0, each-push P log e h.1 p)

rises-after : (log : List Logged) (e : Logged) (t : ℕ) → Rises (map bare log) → Each (λ f. f.stamp ≤ t) (map bare log) → t < e.stamp
    → Rises (map bare (log ++ e ∷ []))
rises-after [] e t r b h = (tt, tt)
rises-after (l ∷ log) e t r b h =
    (each-push (λ f. (bare l).stamp < f.stamp) log e r.0 (omega (arith, b.0, bare-stamp e)), rises-after log e t r.1 b.1 h)

pub rises-push : (log : List Logged) (e : Logged) → Rises (map bare log) → last_stamp log < e.stamp → Rises (map bare (log ++ e ∷ []))
rises-push log e r h = rises-after log e (last_stamp log) r (all-below 0 log r) h
