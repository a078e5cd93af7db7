-- Outcomes that are held or written, one after another.
use Rattle.std.proofs.Common.{◌≡◌, ◌<◌, ◌+◌, ℕ, List, ◌++◌, Option, length, append_assoc, refl, sym, ◌∙◌, ap, subst}
use Rattle.run_outcomes.specs.Ways.{Explored}
use Rattle.run_outcomes.specs.declared.outcomes.Results.{Results}
use Rattle.run_outcomes.specs.declared.outcomes.Tell.{Tell}
use Rattle.text_outcomes.specs.Table.{Table, head_text, outcome_of, outcome_text, outcomes_text, table_text, tail_text}
use Rattle.text_outcomes.specs.Written.{IsBroken, IsCut, IsPut}
use Rattle.tcc_world.specs.Page.{Written}
use Rattle.text_outcomes.specs.declared.writing.Broken.{Broken}
use Rattle.text_outcomes.proofs.Parts.{IsSplit, first_texts, outcome-some, split, texts-more}
use Rattle.text_outcomes.proofs.Put.{broken-more, cut-more, put-cut, put-more, put-put, put-short}

-- the texts of the first i outcomes, and of all
abbrev pub firsts : Tell → Explored → Results → (i : ℕ) → List ℕ
firsts tell e r i = first_texts (outcome_text tell) (outcome_of e r) i

abbrev all : Tell → Explored → Results → List ℕ
all tell e r = firsts tell e r (length r.firsts)

abbrev one : Tell → Explored → Results → (i : ℕ) → List ℕ
one tell e r i = outcome_text tell (outcome_of e r i)

whole : (tell : Tell) (e : Explored) (r : Results) (i : ℕ) (h : List ℕ)
    → (s : IsSplit (all tell e r) (firsts tell e r i) (one tell e r i))
    → (h ++ firsts tell e r i) ++ (one tell e r i ++ s.rest) ≡ h ++ all tell e r
whole tell e r i h s = append_assoc h (firsts tell e r i) (one tell e r i ++ s.rest) ∙ ap (λ xs. h ++ xs) (sym s.parts)

-- the next outcome isn't written
pub outcomes-short : (tell : Tell) (e : Explored) (r : Results) (i : ℕ) (h held : List ℕ) (a b : Option (List ℕ)) → i < length r.firsts
    → IsPut (h ++ firsts tell e r i) held a b → IsCut (h ++ all tell e r) a b
outcomes-short tell e r i h held a b lt p =
    let s = split (outcome_text tell) (outcome_of e r) i (length r.firsts) lt in
    subst (λ xs. IsCut xs a b) (whole tell e r i h s)
    (put-short (h ++ firsts tell e r i) held (one tell e r i ++ s.rest) a b p (outcome-some tell (outcome_of e r i) s.rest))

-- it is, in part
pub outcomes-cut : (tell : Tell) (e : Explored) (r : Results) (i : ℕ) (h held next : List ℕ) (a b c : Option (List ℕ))
    → i < length r.firsts → IsPut (h ++ firsts tell e r i) held a b → next ≡ held ++ one tell e r i → IsCut next b c
    → IsCut (h ++ all tell e r) a c
outcomes-cut tell e r i h held next a b c lt p is cut =
    let s = split (outcome_text tell) (outcome_of e r) i (length r.firsts) lt in
    let more = put-more (h ++ firsts tell e r i) held next (one tell e r i) a b p is in
    let begun = cut-more ((h ++ firsts tell e r i) ++ one tell e r i) s.rest a c
    (put-cut ((h ++ firsts tell e r i) ++ one tell e r i) next a b c more cut) in
    subst (λ xs. IsCut xs a c) (append_assoc (h ++ firsts tell e r i) (one tell e r i) s.rest ∙ whole tell e r i h s) begun

-- it is, or is held
pub outcomes-more : (tell : Tell) (e : Explored) (r : Results) (i : ℕ) (h held mid next : List ℕ) (a b c : Option (List ℕ))
    → IsPut (h ++ firsts tell e r i) held a b → mid ≡ held ++ one tell e r i → IsPut mid next b c
    → IsPut (h ++ firsts tell e r (i + 1)) next a c
outcomes-more tell e r i h held mid next a b c p is q =
    let more = put-more (h ++ firsts tell e r i) held mid (one tell e r i) a b p is in
    let same = append_assoc h (firsts tell e r i) (one tell e r i)
    ∙ ap (λ xs. h ++ xs) (sym (texts-more (outcome_text tell) (outcome_of e r) i)) in
    subst (λ xs. IsPut xs next a c) same (put-put ((h ++ firsts tell e r i) ++ one tell e r i) mid next a b c more q)

-- ---- the whole table

pub table-put : (tell : Tell) (t : Table) (h held : List ℕ) (a b : Option (List ℕ)) → h ≡ head_text t
    → IsPut (h ++ outcomes_text tell t) held a b → IsPut (table_text tell t) (held ++ tail_text t) a b
unfolding table_text
table-put tell t h held a b is p =
    put-more (head_text t ++ outcomes_text tell t) held (held ++ tail_text t) (tail_text t) a b
    (subst (λ xs. IsPut (xs ++ outcomes_text tell t) held a b) is p) refl

pub table-broken : (tell : Tell) (t : Table) (h : List ℕ) (o : Written) (why : Broken) → h ≡ head_text t
    → IsBroken (h ++ outcomes_text tell t) o why → IsBroken (table_text tell t) o why
unfolding table_text
table-broken tell t h o why is p =
    broken-more (head_text t ++ outcomes_text tell t) (tail_text t) o why
    (subst (λ xs. IsBroken (xs ++ outcomes_text tell t) o why) is p)
