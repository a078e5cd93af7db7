-- The lines of commits and their phases, one after the other.
use Rattle.std.proofs.Common.{◌≡◌, ℕ, ◌+◌, ◌<◌, ◌≤◌, List, ◌++◌, length, drop, get_or, sym, ap, subst, ◌∙◌}
use Rattle.std.proofs.Common.{add-one, append-nil, append_assoc, drop-cons, drop_of_length-le}
use Rattle.tcc_base.specs.declared.access.Commit.{Commit}
use Rattle.tcc_cli.specs.Phased.{phase_line, phase_lines}

lines-more : (cs : List Commit) (qs : List ℕ) (i : ℕ) (d : Commit) → i < length cs → i < length qs
    → phase_lines (drop i cs) (drop i qs) ≡ phase_line (get_or cs i d) (get_or qs i 0) ++ phase_lines (drop (i + 1) cs) (drop (i + 1) qs)
unfolding phase_lines
lines-more cs qs i d l m =
    (λ j. phase_lines (drop-cons cs i d l j) (drop-cons qs i 0 m j))
    ∙ ap (λ k. phase_line (get_or cs i d) (get_or qs i 0) ++ phase_lines (drop k cs) (drop k qs)) (sym (add-one i))

-- one line more
pub push-more : (old new all : List ℕ) (cs : List Commit) (qs : List ℕ) (i : ℕ) (c d : Commit) → i < length cs → length qs ≡ length cs
    → c ≡ get_or cs i d → new ≡ old ++ phase_line c (get_or qs i 0) → old ++ phase_lines (drop i cs) (drop i qs) ≡ all
    → new ++ phase_lines (drop (i + 1) cs) (drop (i + 1) qs) ≡ all
push-more old new all cs qs i c d l same is pushed so_far =
    let rest : List ℕ = phase_lines (drop (i + 1) cs) (drop (i + 1) qs) in
    ap (λ t. t ++ rest) (pushed ∙ ap (λ x. old ++ phase_line x (get_or qs i 0)) is)
    ∙ append_assoc old (phase_line (get_or cs i d) (get_or qs i 0)) rest
    ∙ ap (λ t. old ++ t) (sym (lines-more cs qs i d l (subst (λ n. i < n) (sym same) l)))
    ∙ so_far

-- and none is left
pub push-done : (old all : List ℕ) (cs : List Commit) (qs : List ℕ) (i : ℕ) → length cs ≤ i
    → old ++ phase_lines (drop i cs) (drop i qs) ≡ all → old ≡ all
unfolding phase_lines
push-done old all cs qs i over so_far =
    sym (append-nil old) ∙ ap (λ xs. old ++ phase_lines xs (drop i qs)) (sym (drop_of_length-le cs over)) ∙ so_far
