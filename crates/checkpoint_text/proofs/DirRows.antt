-- Flags of skipped TIDs, and the row of a line, where it has one.
use Rattle.std.proofs.Common.{ℕ, ◌≡◌, ◌<◌, ◌≤◌, ◌+◌, ◌-◌, ◌&&◌, ◌∙◌, Bool, true, false, cond, List, [], ◌∷◌, ◌++◌, Some}
use Rattle.std.proofs.Common.{ap, append-nil, arith, drop, get_or, length, map, nat_lt, option_map, refl, slice_get, sym}
use Rattle.std.specs.List.{flat_map}
use Rattle.std.proofs.lemmas.Grind.{common_steps}
use Rattle.std.proofs.lemmas.Bool.Decides.{nat_tests}
use Rattle.std.proofs.lemmas.List.{drop_more}
use Rattle.base_lemmas.proofs.Lemmas.{eight_of, eq-self}
use Rattle.tcc_base.specs.declared.names.CoreId.{CoreId}
use Rattle.dir_lines.specs.Record.{Record}
use Rattle.rules_maps.specs.Words.{eight}
use Rattle.image_load.specs.Contents.{Contents}
use Rattle.rules_maps.specs.Serving.{Serving, is_skipped}
use Rattle.rules_maps.specs.Shape.{home}
use Rattle.directory.specs.Data.{DirData}
use Rattle.row_text.specs.Rows.{number_text, row_text}
use Rattle.checkpoint_text.specs.Directories.{are_same, changed_row, first_line, line_numbers, line_row, record_numbers}
use Rattle.checkpoint_text.specs.Numbers.{flag, optional}
use Rattle.checkpoint_text.specs.Written.{table_text}

-- ---- flags

-- of the TIDs above the served one the i-th is skipped where its flag says so
skipped-at : (s : Serving) (i : ℕ) → is_skipped s (s.serving + 1 + i) ≡ get_or s.skips i false
unfolding is_skipped
skipped-at s i =
    let later : nat_lt s.serving (s.serving + 1 + i) ≡ true = grind (arith, nat_tests) in
    let at : s.serving + 1 + i - s.serving - 1 ≡ i = omega arith in
    λ k. later k && get_or s.skips (at k) false

-- one more flag is written
pub flag-more : (s : Serving) (i t : ℕ) (skipped : Bool) (n : ℕ) (text new whole : List ℕ)
    → i < length s.skips → t ≡ s.serving + 1 + i → skipped ≡ is_skipped s t → n ≡ flag skipped
    → text ++ flat_map number_text (map flag (drop i s.skips)) ≡ whole → new ≡ text ++ number_text n
    → new ++ flat_map number_text (map flag (drop (i + 1) s.skips)) ≡ whole
flag-more s i t skipped n text new whole l is told number before e =
    let here : n ≡ flag (get_or s.skips i false) = number ∙ ap flag (told ∙ ap (is_skipped s) is ∙ skipped-at s i) in
    grind (arith, common_steps, drop_more)

-- all are
pub flags-end : (flags : List Bool) (i : ℕ) (text whole : List ℕ) → length flags ≤ i
    → text ++ flat_map number_text (map flag (drop i flags)) ≡ whole → text ≡ whole
flags-end flags i text whole l e = grind (arith, common_steps)

-- ---- the row of a line

same-behind : (l : ℕ) (xs ys : List ℕ) → are_same (l ∷ xs) (l ∷ ys) ≡ are_same xs ys
same-behind l xs ys = ap (λ b. b && are_same xs ys) (eq-self l)

-- the row of a line that is at home at a directory
line-row : (c : Contents) (ds : List DirData) (l : ℕ) (d : DirData) (row first : List ℕ) (same : Bool)
    → slice_get ds (home c.settings l) ≡ Some d → row ≡ l ∷ line_numbers l d → first ≡ l ∷ first_line c l → are_same row first ≡ same
    → line_row c ds l ≡ cond same [] (row ∷ [])
unfolding line_row
line-row c ds l d row first same there is start e =
    let test : are_same (line_numbers l d) (first_line c l) ≡ same =
    sym (same-behind l (line_numbers l d) (first_line c l)) ∙ (λ i. are_same (sym is i) (sym start i)) ∙ e in
    ap (λ o. changed_row (first_line c l) l (option_map (line_numbers l) o)) there
    ∙ (λ i. cond (test i) [] (sym is i ∷ []))

-- a line that is as at the start has none
pub line-kept : (w : List ℕ) (c : Contents) (ds : List DirData) (l : ℕ) (d : DirData) (row first : List ℕ) (text : List ℕ)
    → slice_get ds (home c.settings l) ≡ Some d → row ≡ l ∷ line_numbers l d → first ≡ l ∷ first_line c l → are_same row first ≡ true
    → text ≡ text ++ table_text w (line_row c ds l)
unfolding table_text
line-kept w c ds l d row first text there is start e =
    sym (append-nil text) ∙ ap (λ rows. text ++ table_text w rows) (sym (line-row c ds l d row first true there is start e))

-- the row of another line is written
pub line-changed : (w : List ℕ) (c : Contents) (ds : List DirData) (l : ℕ) (d : DirData) (row first : List ℕ) (text new : List ℕ)
    → slice_get ds (home c.settings l) ≡ Some d → row ≡ l ∷ line_numbers l d → first ≡ l ∷ first_line c l → are_same row first ≡ false
    → new ≡ text ++ row_text (record { word = w; numbers = row }) → new ≡ text ++ table_text w (line_row c ds l)
unfolding table_text
line-changed w c ds l d row first text new there is start e written =
    written ∙ ap (λ r. text ++ r) (sym (append-nil (row_text (record { word = w; numbers = row }))))
    ∙ ap (λ rows. text ++ table_text w rows) (sym (line-row c ds l d row first false there is start e))

-- a line, its record and its words, number by number
pub line-numbers : (l : ℕ) (r : Record) (a b f : ℕ) (ws : List ℕ) → optional (option_map (λ (c : CoreId). c.0) r.owner) ≡ a ∷ b ∷ []
    → f ≡ flag r.asked → length ws ≡ 8
    → l ∷ r.sharers.0 ∷ a ∷ b ∷ r.tag.0 ∷ f ∷ r.mark.0 ∷ eight (λ k. get_or ws k 0) ≡ l ∷ (record_numbers r ++ ws)
unfolding record_numbers
line-numbers l r a b f ws owner asked long =
    let words = eight_of ws (λ k. get_or ws k 0) long (λ k h. refl) in
    λ i. l ∷ r.sharers.0 ∷ ((sym owner i ++ (r.tag.0 ∷ asked i ∷ r.mark.0 ∷ [])) ++ sym words i)
