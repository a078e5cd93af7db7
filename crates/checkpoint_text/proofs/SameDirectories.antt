-- Equal tables of directories and lines are of equal directories.
use Rattle.std.proofs.Common.{◌≡◌, ℕ, zero, suc, ◌<◌, ◌==◌, Bool, true, false, cond, List, [], ◌∷◌, ◌++◌, get_or}
use Rattle.std.proofs.Common.{length, Option, Some, None, option_map, nat_lt, refl, sym, ap, ◌∙◌, arith, append-nil}
use Rattle.std.proofs.Common.{◌≤◌, eq-eqb, ne_eqb, ltb-false, ltb-true}
use Rattle.std.specs.List.{flat_map}
use Rattle.base_lemmas.proofs.Lemmas.{eight-at, flat-last}
use Rattle.rules_maps.specs.Words.{eight, those, word_at}
use Rattle.rules_tcc.specs.Seen.{numbers as first_numbers}
use Rattle.tcc_base.specs.declared.names.CoreId.{CoreId}
use Rattle.dir_lines.specs.Pages.{pages_at}
use Rattle.dir_lines.specs.Record.{Record}
use Rattle.dir_lines.specs.Words.{words_at}
use Rattle.directory.specs.Data.{DirData}
use Rattle.checkpoint_text.specs.Directories.{are_same, changed_row, line_numbers, record_numbers}
use Rattle.checkpoint_text.specs.Numbers.{flag, optional}
use Rattle.checkpoint_text.proofs.Numbers.{flag-back, flag_from, made-same, parts-same}
use Rattle.checkpoint_text.proofs.Picked.{behind, behind-append, nothing-either}
use Rattle.checkpoint_text.proofs.Tables.{are-same}

-- ---- the rows of lines

-- what follows a line's number in its row, where it has one
abbrev pub changed : (first : List ℕ) → Option (List ℕ) → List (List ℕ)
changed first None = []
changed first (Some now) = cond (are_same now first) [] (now ∷ [])

pub changed-behind : (first : List ℕ) (now : Option (List ℕ)) (j k : ℕ)
    → behind j (changed_row first k now) ≡ cond (k == j) (changed first now) []
changed-behind first None j k = nothing-either (k == j) [] refl
changed-behind first (Some now) j k = go (are_same now first)
  where
    go : (same : Bool) → behind j (cond same [] ((k ∷ now) ∷ [])) ≡ cond (k == j) (cond same [] (now ∷ [])) []
    go true = nothing-either (k == j) [] refl
    go false = refl

pub changed-same : (first now then : List ℕ) → changed first (Some now) ≡ changed first (Some then) → now ≡ then
changed-same first now then e = go (are_same now first) (are_same then first) refl refl e
  where
    go : (a b : Bool) → are_same now first ≡ a → are_same then first ≡ b → cond a [] (now ∷ []) ≡ cond b [] (then ∷ []) → now ≡ then
    go true true is_now is_then same = are-same now first is_now ∙ sym (are-same then first is_then)
    go true false is_now is_then same = absurd (cc)
    go false true is_now is_then same = absurd (cc)
    go false false is_now is_then same = cc

-- no row of the lines below n begins with a later number
lines-later : (row items : ℕ → List (List ℕ)) → ((j k : ℕ) → behind j (row k) ≡ cond (k == j) (items k) []) → (n l : ℕ) → n ≤ l
    → behind l (flat_map row (first_numbers n)) ≡ []
unfolding those
lines-later row items are zero l le = refl
lines-later row items are (suc n) l le =
    ap (behind l) (flat-last row (λ k. true) n) ∙ behind-append l (flat_map row (first_numbers n)) (row n)
    ∙ ap (λ (rows : List (List ℕ)). rows ++ behind l (row n)) (lines-later row items are n l (omega arith))
    ∙ are l n ∙ ap (λ b. cond b (items n) []) (ne_eqb n l (λ e. omega arith))

-- the row of a line below n
pub lines-behind : (row items : ℕ → List (List ℕ)) → ((j k : ℕ) → behind j (row k) ≡ cond (k == j) (items k) []) → (n l : ℕ) → l < n
    → behind l (flat_map row (first_numbers n)) ≡ items l
lines-behind row items are zero l lt = absurd (omega arith)
lines-behind row items are (suc n) l lt =
    ap (behind l) (flat-last row (λ k. true) n) ∙ behind-append l (flat_map row (first_numbers n)) (row n)
    ∙ go (nat_lt l n) refl (λ below. lines-behind row items are n l below)
  where
    go : (b : Bool) → nat_lt l n ≡ b → (l < n → behind l (flat_map row (first_numbers n)) ≡ items l)
        → behind l (flat_map row (first_numbers n)) ++ behind l (row n) ≡ items l
    go true below before =
        let lt = ltb-true l n below in
        ap (λ (rows : List (List ℕ)). rows ++ behind l (row n)) (before lt)
        ∙ ap (λ (rows : List (List ℕ)). items l ++ rows) (are l n ∙ ap (λ b. cond b (items n) []) (ne_eqb n l (λ e. omega arith)))
        ∙ append-nil (items l)
    go false above before =
        let le = ltb-false l n above in
        let same : n ≡ l = omega arith in
        ap (λ (rows : List (List ℕ)). rows ++ behind l (row n)) (lines-later row items are n l le)
        ∙ are l n ∙ ap (λ b. cond b (items n) []) (eq-eqb n l same) ∙ ap items same

-- ---- one line

abbrev owner_from : (kind n : ℕ) → Option CoreId
owner_from kind n = cond (kind == 0) None (Some (record { 0 = n }))

abbrev record_from : List ℕ → Record
record_from ns = record {
  sharers = record { 0 = get_or ns 0 0 };
  owner = owner_from (get_or ns 1 0) (get_or ns 2 0);
  tag = record { 0 = get_or ns 3 0 };
  asked = flag_from (get_or ns 4 0);
  mark = record { 0 = get_or ns 5 0 };
}

-- the numbers of a record with this owner
abbrev numbers_by : Record → Option CoreId → List ℕ
numbers_by r owner = r.sharers.0 ∷ (optional (option_map (λ (c : CoreId). c.0) owner) ++ (r.tag.0 ∷ flag r.asked ∷ r.mark.0 ∷ []))

record-back : (r : Record) → record_from (record_numbers r) ≡ r
unfolding record_numbers
record-back r = go r.owner
  where
    go : (owner : Option CoreId) → record_from (numbers_by r owner) ≡ record r { owner = owner }
    go None = λ i. record r { owner = None; asked = flag-back r.asked i }
    go (Some c) = λ i. record r { owner = Some c; asked = flag-back r.asked i }

record-long : (r : Record) → length (record_numbers r) ≡ 6
unfolding record_numbers
record-long r = go r.owner
  where
    go : (owner : Option CoreId) → length (numbers_by r owner) ≡ 6
    go None = refl
    go (Some c) = refl

-- two directories know the same of a line, and have the same words of it
pub record IsSameLine (l : ℕ) (x y : DirData) : Type 0 where
  pub known : pages_at x.lines l ≡ pages_at y.lines l
  pub words : (k : ℕ) → k < 8 → words_at (λ w. 0) x.words (word_at l k) ≡ words_at (λ w. 0) y.words (word_at l k)

pub line-same : (l : ℕ) (x y : DirData) → line_numbers l x ≡ line_numbers l y → IsSameLine l x y
unfolding line_numbers
line-same l x y e =
    let known = pages_at x.lines l in
    let now = pages_at y.lines l in
    let f : ℕ → ℕ = λ k. words_at (λ w. 0) x.words (word_at l k) in
    let g : ℕ → ℕ = λ k. words_at (λ w. 0) y.words (word_at l k) in
    let parts = parts-same (record_numbers known) (record_numbers now) (eight f) (eight g) (record-long known ∙ sym (record-long now)) e in
    record {
      known = made-same record_numbers record_from record-back known now parts.0;
      words = λ k lt. sym (eight-at f k lt) ∙ ap (λ ws. get_or ws k 0) parts.1 ∙ eight-at g k lt;
    }
