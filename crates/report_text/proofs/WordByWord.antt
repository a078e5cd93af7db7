-- One word of a line more: what is written of it, and what the sum is.
use Rattle.std.proofs.Common.{◌≡◌, ℕ, ◌+◌, ◌-◌, ◌*◌, ◌%◌, ◌^◌, ◌<◌, List, [], ◌++◌, map, get_or, ap}
use Rattle.std.proofs.Common.{refl, ◌∙◌, sym, true, false, Bool, not, nat_eq, ◌==◌, if◌then◌else◌, append_assoc, append-nil, arith}
use Rattle.std.proofs.lemmas.Bool.Decides.{nat_tests}
use Rattle.std.proofs.Math.Nat.{add-mod-mod, mod-add-mod}
use Rattle.std.proofs.lemmas.List.FromFn.{get_or-map-range_with_len, sum_by-map-range_with_len_more}
use Rattle.std.specs.List.{flat_map, range_with_len, sum}
use Rattle.std.specs.Cmp.Lexicographic.{pointwise, same_text}
use Rattle.base_lemmas.proofs.Lemmas.{flat_map-range_with_len_more}
use Rattle.report_text.specs.Lines.{mem_line}
use Rattle.report_text.specs.Text.{word_text}
use Rattle.report_text.specs.Trial.{word_growth}
use Rattle.report_text.proofs.Eights.{flat_map-none}

-- these are the words of a line
pub record IsLine (words : ℕ → ℕ) (line : ℕ) (values : List ℕ) : Type 0 where
  pub is : values ≡ map words (range_with_len (8 * line) 8)

pub get_or-line : (words : ℕ → ℕ) (line : ℕ) (values : List ℕ) (k : ℕ) → IsLine words line values → k < 8
    → get_or values k 0 ≡ words (8 * line + k)
get_or-line words line values k l h = ap (λ xs. get_or xs k 0) l.is ∙ get_or-map-range_with_len words (8 * line) 8 k (8 * line + k) 0 h refl

pub word_more : (base : ℕ) (ram loaded : ℕ → ℕ) (line k : ℕ) (now old before text after : List ℕ)
    → IsLine ram line now → IsLine loaded line old → k < 8
    → text ≡ before ++ flat_map (word_text base ram loaded) (range_with_len (8 * line) k)
    → after ≡ text ++ (if get_or now k 0 == get_or old k 0 then [] else mem_line (base + 4 * (8 * line + k)) (get_or now k 0))
    → after ≡ before ++ flat_map (word_text base ram loaded) (range_with_len (8 * line) (k + 1))
unfolding word_text
word_more base ram loaded line k now old before text after n o h so here =
    let new : get_or now k 0 ≡ ram (8 * line + k) = get_or-line ram line now k n h in
    let was : get_or old k 0 ≡ loaded (8 * line + k) = get_or-line loaded line old k o h in
    let more = flat_map-range_with_len_more (word_text base ram loaded) (8 * line) k (8 * line + k) refl in
    let word : after ≡ text ++ word_text base ram loaded (8 * line + k) = rw (new, was) at here in
    word ∙ ap (λ t. t ++ word_text base ram loaded (8 * line + k)) so
    ∙ append_assoc before _ _ ∙ ap (λ t. before ++ t) (sym more)

-- arrays that a test doesn't tell apart
pub array_same : (xs ys : List ℕ) → false ≡ not (pointwise nat_eq xs ys) → xs ≡ ys
array_same xs ys e = same_text xs ys (told (pointwise nat_eq xs ys) e)
  where
    told : (b : Bool) → false ≡ not b → true ≡ b
    told true f = refl
    told false f = cc

word_text-same : (base : ℕ) (ram loaded : ℕ → ℕ) (word : ℕ) → ram word ≡ loaded word → word_text base ram loaded word ≡ []
unfolding word_text
word_text-same base ram loaded word same = grind (arith, nat_tests)

pub line_same : (base : ℕ) (ram loaded : ℕ → ℕ) (line : ℕ) (now old text : List ℕ)
    → IsLine ram line now → IsLine loaded line old → now ≡ old
    → text ≡ text ++ flat_map (word_text base ram loaded) (range_with_len (8 * line) 8)
line_same base ram loaded line now old text n o same =
    let none : flat_map (word_text base ram loaded) (range_with_len (8 * line) 8) ≡ [] =
    flat_map-none (word_text base ram loaded) (8 * line) 8
    (λ k h. word_text-same base ram loaded (8 * line + k)
    (sym (get_or-line ram line now k n h) ∙ ap (λ xs. get_or xs k 0) same ∙ get_or-line loaded line old k o h)) in
    sym (ap (λ t. text ++ t) none ∙ append-nil text)

pub sums-mod : (a b s t m : ℕ) → s ≡ a % m → t ≡ b % m → (s + t) % m ≡ (a + b) % m
sums-mod a b s t m e f = rw (e, f) (add-mod-mod (a % m) b m ∙ mod-add-mod a m b)

pub growth_more : (ram loaded : ℕ → ℕ) (line k : ℕ) (now old : List ℕ) (total : ℕ)
    → IsLine ram line now → IsLine loaded line old → k < 8
    → total ≡ sum (map (word_growth ram loaded) (range_with_len (8 * line) k)) % 2 ^ 32
    → (total + (get_or now k 0 + (2 ^ 32 - get_or old k 0)) % 2 ^ 32) % 2 ^ 32
    ≡ sum (map (word_growth ram loaded) (range_with_len (8 * line) (k + 1))) % 2 ^ 32
unfolding word_growth
growth_more ram loaded line k now old total n o h so =
    let new : get_or now k 0 ≡ ram (8 * line + k) = get_or-line ram line now k n h in
    let was : get_or old k 0 ≡ loaded (8 * line + k) = get_or-line loaded line old k o h in
    let word : (get_or now k 0 + (2 ^ 32 - get_or old k 0)) % 2 ^ 32 ≡ word_growth ram loaded (8 * line + k) % 2 ^ 32 =
    rw (new, was) refl in
    let more = sum_by-map-range_with_len_more (λ x. x) (word_growth ram loaded) (8 * line) k (8 * line + k) refl in
    sums-mod (sum (map (word_growth ram loaded) (range_with_len (8 * line) k))) (word_growth ram loaded (8 * line + k)) _ _ (2 ^ 32) so word
    ∙ ap (λ x. x % 2 ^ 32) (sym more)
