-- What a core's commits printed, commit by commit.
use Rattle.std.proofs.Common.{◌≡◌, ℕ, ◌+◌, ◌<◌, ◌==◌, true, false, List, [], ◌∷◌, ◌++◌, length, get_or, take, if◌then◌else◌, sym, ap, ◌∙◌}
use Rattle.std.proofs.Common.{append_assoc, append-nil, add-one}
use Rattle.std.proofs.Math.Seq.{take-suc}
use Rattle.tcc_base.specs.declared.access.Commit.{Commit}
use Rattle.rules_program.specs.Cores.{printed}

-- what one more commit adds
printed-push : (core : ℕ) (cs : List Commit) (d : Commit)
    → printed core (cs ++ d ∷ []) ≡ printed core cs ++ (if core == d.core.0 then d.console else [])
unfolding printed
printed-push core [] d = append-nil (if core == d.core.0 then d.console else [])
printed-push core (c ∷ cs) d =
    let first : List ℕ = if core == c.core.0 then c.console else [] in
    ap (λ ys. first ++ ys) (printed-push core cs d)
    ∙ sym (append_assoc first (printed core cs) (if core == d.core.0 then d.console else []))

-- the first commits, with one more
printed-next : (core : ℕ) (cs : List Commit) (k : ℕ) (d : Commit) → k < length cs → d ≡ get_or cs k d
    → printed core (take (k + 1) cs) ≡ printed core (take k cs) ++ (if core == d.core.0 then d.console else [])
printed-next core cs k d lt is =
    ap (λ n. printed core (take n cs)) (add-one k)
    ∙ (ap (λ xs. printed core xs) (take-suc cs k d lt)
    ∙ (ap (λ x. printed core (take k cs ++ x ∷ [])) (sym is)
    ∙ printed-push core (take k cs) d))

-- which is the core's own
pub printed-own : (core : ℕ) (cs : List Commit) (k : ℕ) (d : Commit) → k < length cs → d ≡ get_or cs k d
    → (core == d.core.0) ≡ true → printed core (take (k + 1) cs) ≡ printed core (take k cs) ++ d.console
printed-own core cs k d lt is own =
    printed-next core cs k d lt is ∙ ap (λ b. printed core (take k cs) ++ (if b then d.console else [])) own

-- or of another core
pub printed-other : (core : ℕ) (cs : List Commit) (k : ℕ) (d : Commit) → k < length cs → d ≡ get_or cs k d
    → (core == d.core.0) ≡ false → printed core (take (k + 1) cs) ≡ printed core (take k cs)
printed-other core cs k d lt is other =
    printed-next core cs k d lt is
    ∙ (ap (λ b. printed core (take k cs) ++ (if b then d.console else [])) other ∙ append-nil (printed core (take k cs)))
