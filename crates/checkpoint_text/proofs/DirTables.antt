-- Equal tables of directories and lines are of directories in the same state.
use Rattle.std.proofs.Common.{◌≡◌, ℕ, ◌+◌, ◌/◌, ◌<◌, ◌==◌, Bool, true, false, cond, List, [], map, get_or}
use Rattle.std.proofs.Common.{Option, Some, None, option_map, slice_get, nat_lt, refl, sym, ap, ◌∙◌, arith, eqb-true, ltb-true}
use Rattle.std.specs.List.{flat_map}
use Rattle.base_lemmas.proofs.Lemmas.{and-both}
use Rattle.image_load.specs.Contents.{Contents}
use Rattle.rules_maps.specs.Shape.{home, lines}
use Rattle.rules_maps.specs.Words.{line_of, place_of, word_at}
use Rattle.rules_tcc.specs.Seen.{numbers as first_numbers}
use Rattle.tcc_base.specs.Settings.{Settings}
use Rattle.dir_lines.specs.Home.{Home}
use Rattle.dir_lines.specs.Kept.{kept}
use Rattle.dir_lines.specs.Pages.{Pages, is_at_home, pages_at}
use Rattle.dir_lines.specs.Record.{blank, lines_of}
use Rattle.dir_lines.specs.Words.{Words, first_place, words_at}
use Rattle.directory.specs.Data.{DirData, dir_of}
use Rattle.machine_dirs.specs.Bank.{dir_or}
use Rattle.checkpoint_text.specs.Directories.{first_line, line_numbers, line_row, serving_numbers}
use Rattle.checkpoint_text.specs.Numbers.{flag}
use Rattle.checkpoint_text.specs.Tables.{each, numbered}
use Rattle.checkpoint_text.proofs.SameDirectories.{IsSameLine, changed, changed-behind, changed-same, line-same, lines-behind}
use Rattle.checkpoint_text.proofs.Numbers.{flag-back, flag_from, map-same}
use Rattle.checkpoint_text.proofs.Picked.{behind, each-same}

-- what a directory says of lines and words of other homes
pages-away : (p : Pages) (l : ℕ) → is_at_home p.place l ≡ false → pages_at p l ≡ blank
unfolding pages_at
pages-away p l away = ap (λ (b : Bool). cond b (get_or p.records (l / p.place.shape.dirs) blank) blank) away

words-away : (f : ℕ → ℕ) (p : Words) (w : ℕ) → is_at_home p.place (line_of w) ≡ false → words_at f p w ≡ f w
unfolding words_at
words-away f p w away =
    ap (λ (b : Bool). cond b (get_or p.words (first_place p.place (line_of w) + place_of w) 0) (f w)) away

-- whatever stands elsewhere
words-home : (f g : ℕ → ℕ) (p : Words) (w : ℕ) → is_at_home p.place (line_of w) ≡ true → words_at f p w ≡ words_at g p w
unfolding words_at
words-home f g p w here =
    ap (λ (b : Bool). cond b (get_or p.words (first_place p.place (line_of w) + place_of w) 0) (f w)) here
    ∙ sym (ap (λ (b : Bool). cond b (get_or p.words (first_place p.place (line_of w) + place_of w) 0) (g w)) here)

-- ---- one directory

-- two directories at one home, which have the same of each line there
record HasSameLines (h : Home) (x y : DirData) : Type 0 where
  place : x.lines.place ≡ h
  place_too : y.lines.place ≡ h
  words : x.words.place ≡ h
  words_too : y.words.place ≡ h
  lines : (l : ℕ) → is_at_home h l ≡ true → IsSameLine l x y

pages-same : (h : Home) (x y : DirData) → HasSameLines h x y → (l : ℕ) → pages_at x.lines l ≡ pages_at y.lines l
pages-same h x y same l = go (is_at_home h l) refl
  where
    go : (b : Bool) → is_at_home h l ≡ b → pages_at x.lines l ≡ pages_at y.lines l
    go true here = (same.lines l here).known
    go false away =
        pages-away x.lines l (ap (λ (p : Home). is_at_home p l) same.place ∙ away)
        ∙ sym (pages-away y.lines l (ap (λ (p : Home). is_at_home p l) same.place_too ∙ away))

words-same : (ram : ℕ → ℕ) (h : Home) (x y : DirData) → HasSameLines h x y → (w : ℕ) → words_at ram x.words w ≡ words_at ram y.words w
words-same ram h x y same w = go (is_at_home h (line_of w)) refl
  where
    zeros : ℕ → ℕ
    zeros v = 0

    go : (b : Bool) → is_at_home h (line_of w) ≡ b → words_at ram x.words w ≡ words_at ram y.words w
    go true here =
        let at : word_at (line_of w) (place_of w) ≡ w = omega arith in
        let given = (same.lines (line_of w) here).words (place_of w) (omega arith) in
        words-home ram zeros x.words w (ap (λ (p : Home). is_at_home p (line_of w)) same.words ∙ here)
        ∙ ap (words_at zeros x.words) (sym at) ∙ given ∙ ap (words_at zeros y.words) at
        ∙ words-home zeros ram y.words w (ap (λ (p : Home). is_at_home p (line_of w)) same.words_too ∙ here)
    go false away =
        words-away ram x.words w (ap (λ (p : Home). is_at_home p (line_of w)) same.words ∙ away)
        ∙ sym (words-away ram y.words w (ap (λ (p : Home). is_at_home p (line_of w)) same.words_too ∙ away))

dir-same : (ram : ℕ → ℕ) (h : Home) (x y : DirData) → HasSameLines h x y → serving_numbers x ≡ serving_numbers y
    → map flag x.serving.skips ≡ map flag y.serving.skips → dir_of ram x ≡ dir_of ram y
unfolding dir_of kept
dir-same ram h x y same serving skips =
    let first = ap (λ ns. get_or ns 0 0) serving in
    let owed = ap (λ ns. get_or ns 1 0) serving in
    let skipped = map-same flag flag_from flag-back x.serving.skips y.serving.skips skips in
    let pages = pages-same h x y same in
    let words = words-same ram h x y same in
    λ i. record {
      words = λ w. words w i;
      serving = record { serving = first i; skips = skipped i };
      lines = lines_of (λ l. pages l i);
      owed = owed i;
    }

-- ---- all directories

-- the directories are laid out by these settings, each at its number
pub record AreLaid (s : Settings) (ds : List DirData) : Type 0 where
  pub lines : (d : ℕ) (x : DirData) → slice_get ds d ≡ Some x → x.lines.place ≡ record { shape = s; dir = d }
  pub words : (d : ℕ) (x : DirData) → slice_get ds d ≡ Some x → x.words.place ≡ x.lines.place

-- two lists of directories of one program with the same tables
pub record HasSameTables (c : Contents) (xs ys : List DirData) : Type 0 where
  pub serving : numbered (each serving_numbers) 0 xs ≡ numbered (each serving_numbers) 0 ys
  pub skipped : numbered (each (λ (d : DirData). map flag d.serving.skips)) 0 xs
      ≡ numbered (each (λ (d : DirData). map flag d.serving.skips)) 0 ys
  pub lines : flat_map (line_row c xs) (first_numbers (lines c.settings)) ≡ flat_map (line_row c ys) (first_numbers (lines c.settings))

-- what the directory at home of a line has of it
abbrev at_home : Contents → List DirData → (line : ℕ) → Option (List ℕ)
at_home c ds l = option_map (line_numbers l) (slice_get ds (home c.settings l))

row-behind : (c : Contents) (ds : List DirData) (j k : ℕ)
    → behind j (line_row c ds k) ≡ cond (k == j) (changed (first_line c k) (at_home c ds k)) []
unfolding line_row
row-behind c ds j k = changed-behind (first_line c k) (at_home c ds k) j k

-- the row of a line is the same
row-same : (c : Contents) (xs ys : List DirData) → HasSameTables c xs ys → (l : ℕ) → l < lines c.settings
    → changed (first_line c l) (at_home c xs l) ≡ changed (first_line c l) (at_home c ys l)
row-same c xs ys same l lt =
    sym (lines-behind (line_row c xs) (λ k. changed (first_line c k) (at_home c xs k)) (row-behind c xs) (lines c.settings) l lt)
    ∙ ap (behind l) same.lines
    ∙ lines-behind (line_row c ys) (λ k. changed (first_line c k) (at_home c ys k)) (row-behind c ys) (lines c.settings) l lt

lines-same : (c : Contents) (xs ys : List DirData) → HasSameTables c xs ys → (d : ℕ) (x y : DirData) → slice_get xs d ≡ Some x
    → slice_get ys d ≡ Some y → (l : ℕ) → is_at_home (record { shape = c.settings; dir = d }) l ≡ true → IsSameLine l x y
lines-same c xs ys same d x y is_x is_y l here =
    let parts = and-both (nat_lt l (lines c.settings)) (home c.settings l == d) here in
    let at = eqb-true (home c.settings l) d parts.1 in
    let of_x : at_home c xs l ≡ Some (line_numbers l x) = ap (option_map (line_numbers l)) (ap (slice_get xs) at ∙ is_x) in
    let of_y : at_home c ys l ≡ Some (line_numbers l y) = ap (option_map (line_numbers l)) (ap (slice_get ys) at ∙ is_y) in
    line-same l x y (changed-same (first_line c l) (line_numbers l x) (line_numbers l y)
    (sym (ap (changed (first_line c l)) of_x) ∙ row-same c xs ys same l (ltb-true l (lines c.settings) parts.0)
    ∙ ap (changed (first_line c l)) of_y))

-- each directory is in the same state
pub dirs-same : (ram : ℕ → ℕ) (c : Contents) (xs ys : List DirData) → AreLaid c.settings xs → AreLaid c.settings ys
    → HasSameTables c xs ys → (d : ℕ) → dir_or ram (slice_get xs d) ≡ dir_or ram (slice_get ys d)
dirs-same ram c xs ys laid_x laid_y same d =
    go (slice_get xs d) (slice_get ys d) refl refl (each-same serving_numbers xs ys same.serving d)
    (each-same (λ (e : DirData). map flag e.serving.skips) xs ys same.skipped d)
  where
    go : (x y : Option DirData) → slice_get xs d ≡ x → slice_get ys d ≡ y → option_map serving_numbers x ≡ option_map serving_numbers y
        → option_map (λ (e : DirData). map flag e.serving.skips) x ≡ option_map (λ (e : DirData). map flag e.serving.skips) y
        → dir_or ram x ≡ dir_or ram y
    go None None is_x is_y serving skips = refl
    go None (Some y) is_x is_y serving skips = absurd (cc)
    go (Some x) None is_x is_y serving skips = absurd (cc)
    go (Some x) (Some y) is_x is_y serving skips =
        let h : Home = record { shape = c.settings; dir = d } in
        let count : serving_numbers x ≡ serving_numbers y = cc in
        let skipped : map flag x.serving.skips ≡ map flag y.serving.skips = cc in
        dir-same ram h x y (record {
          place = laid_x.lines d x is_x;
          place_too = laid_y.lines d y is_y;
          words = laid_x.words d x is_x ∙ laid_x.lines d x is_x;
          words_too = laid_y.words d y is_y ∙ laid_y.lines d y is_y;
          lines = lines-same c xs ys same d x y is_x is_y;
        }) count skipped
