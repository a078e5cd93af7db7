-- A commit that is the last of its core, among the others by its TID: what its core prints then.
use Rattle.std.proofs.Common.{◌≡◌, ℕ, ◌==◌, ◌<◌, Bool, true, false, List, [], ◌∷◌, ◌++◌, if◌then◌else◌}
use Rattle.std.proofs.Common.{append-nil, append_assoc, refl, ap, sym, ◌∙◌, arith}
use Rattle.std.proofs.lemmas.Bool.Decides.{nat_tests}
use Rattle.std.specs.Prelude.{nat_lt}
use Rattle.rules_program.specs.Cores.{printed}
use Rattle.rules_tcc.specs.Step.{insert_commit}
use Rattle.tcc_base.specs.declared.access.Commit.{Commit}
use Rattle.theorem_phases.proofs.Lemmas.{IsLast}
use Rattle.theorem_serial.specs.Owners.{IsRising}

-- what a commit prints, where it is the core's
abbrev pub printed_by : (core : ℕ) → Commit → List ℕ
printed_by core c = if core == c.core.0 then c.console else []

-- a commit above its TID is of another core
another : (x d : Commit) (core : ℕ) → x.tid.0 < d.tid.0 → (d.core.0 ≡ x.core.0 → d.tid.0 < x.tid.0) → core ≡ x.core.0
    → (core == d.core.0) ≡ false
another x d core l own e = go (core == d.core.0) refl
  where
    go : (b : Bool) → (core == d.core.0) ≡ b → b ≡ false
    go false q = refl
    go true q = let same : d.core.0 ≡ x.core.0 = grind (arith, nat_tests) in absurd (omega (arith, l, own same))

-- so the core has printed nothing there
none-above : (x : Commit) (last core : ℕ) (cs : List Commit) → x.tid.0 < last → IsRising last cs → IsLast x cs → core ≡ x.core.0
    → printed core cs ≡ []
unfolding IsRising IsLast printed
none-above x last core [] l r k e = refl
none-above x last core (d ∷ ds) l r k e =
    let above : x.tid.0 < d.tid.0 = omega (arith, l, r.0) in
    rw (another x d core above (k.1) e) (none-above x d.tid.0 core ds above (r.1) (k.2) e)

pub placed : (x : Commit) (last core : ℕ) (cs : List Commit) → IsRising last cs → IsLast x cs
    → printed core (insert_commit x cs) ≡ printed core cs ++ printed_by core x
unfolding IsRising IsLast printed insert_commit
placed x last core [] r k = append-nil (printed_by core x)
placed x last core (d ∷ ds) r k = go (nat_lt x.tid.0 d.tid.0) refl (placed x d.tid.0 core ds (r.1) (k.2))
  where
    others : List ℕ
    others = printed core (d ∷ ds)

    first : (b : Bool) → (core == x.core.0) ≡ b → x.tid.0 < d.tid.0
        → (if b then x.console else []) ++ others ≡ others ++ (if b then x.console else [])
    first false q l = sym (append-nil others)
    first true q l =
        let same : core ≡ x.core.0 = grind (arith, nat_tests) in
        let nothing : others ≡ [] = rw (another x d core l (k.1) same) (none-above x d.tid.0 core ds l (r.1) (k.2) same) in
        rw nothing (append-nil x.console)

    go : (b : Bool) → nat_lt x.tid.0 d.tid.0 ≡ b → printed core (insert_commit x ds) ≡ printed core ds ++ printed_by core x
        → printed core (if b then x ∷ d ∷ ds else d ∷ insert_commit x ds) ≡ printed core (d ∷ ds) ++ printed_by core x
    go true q behind = first (core == x.core.0) refl (grind (arith, nat_tests))
    go false q behind =
        ap (λ xs. printed_by core d ++ xs) behind ∙ sym (append_assoc (printed_by core d) (printed core ds) (printed_by core x))
