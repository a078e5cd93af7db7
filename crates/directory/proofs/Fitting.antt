-- Lines whose sharers and owner are cores that the machine has, line by line of those at home.
use Rattle.std.proofs.Common.{◌≡◌, ℕ, ◌+◌, ◌<◌, ◌≤◌, Bool, true, false, IfSome, option_map, nat_lt, eqb, refl, sym, subst, ◌∙◌, arith}
use Rattle.std.proofs.lemmas.Bool.{false≢true}
use borrow.Author.Tests.{eqb-true, eqb-false, ltb-true, ltb-false}
use Rattle.rules_maps.specs.Lines.{Lines}
use Rattle.rules_maps.specs.Masks.{has}
use Rattle.rules_maps.specs.Shape.{lines}
use Rattle.dir_lines.specs.Home.{Home, IsAtHome}
use Rattle.dir_lines.specs.Kept.{kept}
use Rattle.dir_lines.specs.Pages.{Pages, is_at_home}
use Rattle.dir_lines.specs.Record.{Record}
use Rattle.dir_lines.specs.Restored.{IsUnknown, LineFits, RecordFits}
use Rattle.dir_lines.proofs.Lemmas.{is_at_home-only, is_at_home-true, kept-elsewhere}
use Rattle.directory.proofs.LoadedWords.{NoneBetween}

-- a line of which this record was read
pub record ReadsAs (r : Record) (d : Lines) (l : ℕ) : Type 0 where
  pub sharers : (c : ℕ) → has r.sharers.0 c ≡ d.sharers l c
  pub owner : option_map (λ c. c.0) r.owner ≡ d.owner l

pub record-fits_line : (n : ℕ) (r : Record) (d : Lines) (l : ℕ) → ReadsAs r d l → RecordFits n r → LineFits n d l
record-fits_line n r d l reads fits =
    (λ c e. fits.0 c (reads.sharers c ∙ e), subst (λ o. IfSome o (λ c. c < n)) reads.owner fits.1)

pub line-fits_record : (n : ℕ) (r : Record) (d : Lines) (l : ℕ) → ReadsAs r d l → LineFits n d l → RecordFits n r
line-fits_record n r d l reads fits =
    (λ c e. fits.0 c (sym (reads.sharers c) ∙ e), subst (λ o. IfSome o (λ c. c < n)) (sym reads.owner) fits.1)

-- a line of which nothing is known
unknown-fits : (n : ℕ) (d : Lines) (l : ℕ) → IsUnknown d l → LineFits n d l
unknown-fits n d l u =
    (λ c e. absurd (false≢true (sym (u.sharers c) ∙ e)), subst (λ o. IfSome o (λ c. c < n)) (sym u.owner) record {})

-- the first m lines, where they are at home
abbrev pub FitBelow : (cores : ℕ) → Lines → Home → ℕ → Type 0
FitBelow cores d h m = (l : ℕ) → l < m → IsAtHome h l → LineFits cores d l

pub fit-here : (cores : ℕ) (d : Lines) (h : Home) (n : ℕ) → LineFits cores d n → FitBelow cores d h n → FitBelow cores d h (n + 1)
fit-here cores d h n here below = λ l lt a. by l lt a (eqb n l) refl
  where
    by : (l : ℕ) → l < n + 1 → IsAtHome h l → (b : Bool) → eqb n l ≡ b → LineFits cores d l
    by l lt a true e = subst (LineFits cores d) (eqb-true n l e) here
    by l lt a false e = below l (omega (arith, eqb-false n l e)) a

pub fit-past : (cores : ℕ) (d : Lines) (h : Home) (n m : ℕ) → NoneBetween h n m → FitBelow cores d h n → FitBelow cores d h m
fit-past cores d h n m none below = λ l lt a. by l lt a (nat_lt l n) refl
  where
    by : (l : ℕ) → l < m → IsAtHome h l → (b : Bool) → nat_lt l n ≡ b → LineFits cores d l
    by l lt a true e = below l (ltb-true l n e) a
    by l lt a false e = absurd (none l (ltb-false l n e) lt a)

-- all lines
pub fit-all : (cores : ℕ) (p : Pages) (n : ℕ) → lines p.place.shape ≤ n → FitBelow cores (kept p) p.place n
    → (l : ℕ) → LineFits cores (kept p) l
fit-all cores p n all below l = by (is_at_home p.place l) refl
  where
    by : (b : Bool) → is_at_home p.place l ≡ b → LineFits cores (kept p) l
    by true e = let a = is_at_home-only p.place l e in below l (omega (arith, a.0)) a
    by false e = unknown-fits cores (kept p) l (kept-elsewhere p l (λ a. clash a e))
      where
        clash : IsAtHome p.place l → is_at_home p.place l ≡ false → ⊥
        clash a f = let t : is_at_home p.place l ≡ true = is_at_home-true p.place l a in false≢true (sym f ∙ t)
