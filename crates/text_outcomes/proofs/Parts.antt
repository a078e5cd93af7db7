-- The parts of a table's text.
use Rattle.std.proofs.Common.{◌≡◌, ◌<◌, ◌+◌, ℕ, zero, suc, List, [], ◌∷◌, ◌++◌, length, map, append_assoc, append-nil}
use Rattle.std.proofs.Common.{Some, Result, Ok, Err, OnErr, sym, ◌∙◌, ap, subst, arith}
use Rattle.std.proofs.lemmas.Grind.{flat_map-append}
use Rattle.std.proofs.lemmas.List.{length-append}
use Rattle.std.proofs.lemmas.List.FromFn.{length-map-range_with_len, map-range_with_len_more}
use Rattle.std.specs.List.{flat_map, range_with_len}
use Rattle.run_outcomes.specs.declared.outcomes.Tell.{Tell}
use Rattle.run_outcomes.specs.Ways.{Explored}
use Rattle.run_outcomes.specs.declared.outcomes.Results.{Results}
use Rattle.text_outcomes.specs.Lines.{endless_line, outcome_line, stuck_line}
use Rattle.text_outcomes.specs.Table.{Endless, Outcome, Stuck, Table, endless_text, first_lines, head_text, outcome_of, outcome_text}
use Rattle.text_outcomes.specs.Table.{outcomes_text, stuck_text, table_text, tail_text}

-- the text of the first so many
abbrev pub first_texts : {A : Type 0} → (A → List ℕ) → (ℕ → A) → (i : ℕ) → List ℕ
first_texts g f i = flat_map g (map f (range_with_len 0 i))

pub texts-more : {A : Type 0} (g : A → List ℕ) (f : ℕ → A) (i : ℕ) → first_texts g f (i + 1) ≡ first_texts g f i ++ g (f i)
texts-more g f i =
    ap (flat_map g) (map-range_with_len_more f 0 i i (omega arith)) ∙ flat_map-append g (map f (range_with_len 0 i)) (f i ∷ [])
    ∙ ap (λ xs. first_texts g f i ++ xs) (append-nil (g (f i)))

-- the texts of a range are those before one of its numbers, that of this number, and a rest
pub record IsSplit (all before here : List ℕ) : Type 0 where
  pub rest : List ℕ
  pub parts : all ≡ before ++ (here ++ rest)

split-from : {A : Type 0} (g : A → List ℕ) (f : ℕ → A) (a i n : ℕ) → i < n
    → IsSplit (flat_map g (map f (range_with_len a n))) (flat_map g (map f (range_with_len a i))) (g (f (a + i)))
split-from g f a i zero lt = absurd (omega (arith, lt))
split-from g f a zero (suc n) lt =
    let here : a + 0 ≡ a = omega arith in
    record {
      rest = flat_map g (map f (range_with_len (a + 1) n));
      parts = ap (λ k. g (f k) ++ flat_map g (map f (range_with_len (a + 1) n))) (sym here);
    }
split-from g f a (suc i) (suc n) lt =
    let later = split-from g f (a + 1) i n (omega (arith, lt)) in
    let here : a + 1 + i ≡ a + suc i = omega arith in
    record {
      rest = later.rest;
      parts = ap (λ xs. g (f a) ++ xs) later.parts
          ∙ sym (append_assoc (g (f a)) (flat_map g (map f (range_with_len (a + 1) i))) (g (f (a + 1 + i)) ++ later.rest))
          ∙ ap (λ k. (g (f a) ++ flat_map g (map f (range_with_len (a + 1) i))) ++ (g (f k) ++ later.rest)) here;
    }

pub split : {A : Type 0} (g : A → List ℕ) (f : ℕ → A) (i n : ℕ) → i < n → IsSplit (first_texts g f n) (first_texts g f i) (g (f i))
split g f i n lt =
    let e : 0 + i ≡ i = omega arith in
    subst (λ k. IsSplit (first_texts g f n) (first_texts g f i) (g (f k))) e (split-from g f 0 i n lt)

-- neither the text of an outcome nor the head is empty
pub outcome-some : (tell : Tell) (o : Outcome) (rest : List ℕ) → 0 < length (outcome_text tell o ++ rest)
unfolding outcome_text outcome_line
outcome-some tell o rest = omega arith

pub head-some : (t : Table) (rest : List ℕ) → 0 < length (head_text t ++ rest)
unfolding first_lines
head-some t rest = omega arith

longer : (xs ys : List ℕ) → 0 < length xs → 0 < length (xs ++ ys)
longer xs ys some = let all = length-append xs ys in omega (arith, all, some)

pub longer-end : (xs ys : List ℕ) → 0 < length ys → 0 < length (xs ++ ys)
longer-end xs ys some = let all = length-append xs ys in omega (arith, all, some)

pub table-some : (tell : Tell) (t : Table) → 0 < length (table_text tell t)
unfolding table_text
table-some tell t = longer (head_text t ++ outcomes_text tell t) (tail_text t) (head-some t (outcomes_text tell t))

pub endless-some : (e : Endless) → 0 < length (endless_text (Some e))
unfolding endless_text endless_line
endless-some e = omega arith

pub stuck-some : (s : Stuck) → 0 < length (stuck_text (Some s))
unfolding stuck_text stuck_line
stuck-some s = omega arith

pub on-err : {T E P : Type 0} (r : Result T E) → P → OnErr r P
on-err (Ok v) p = tt
on-err (Err e) p = p

-- a table has as many outcomes as states are told
pub outcomes-count : (e : Explored) (r : Results) → length (map (outcome_of e r) (range_with_len 0 (length r.firsts))) ≡ length r.firsts
outcomes-count e r = length-map-range_with_len (outcome_of e r) 0 (length r.firsts)
