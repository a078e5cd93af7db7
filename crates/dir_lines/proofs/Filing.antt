-- An ordered map of records as a map by line: filling it, reading it, and putting one record in another's place.
use Rattle.std.proofs.Common.{◌≡◌, ℕ, Bool, true, false, ◌==◌, nat_lt, if◌then◌else◌, List, Option, None, Some, IsSome, IfSome, refl, ap}
use Rattle.std.proofs.Common.{sym, subst, ◌∙◌}
use Rattle.std.specs.Option.{unwrap_or}
use borrow.Author.Tests.{eqb-true, eqb-false, ne_eqb, eq-eqb}
use Rattle.tcc_base.specs.declared.names.Mask.{Mask}
use Rattle.rules_maps.specs.Words.{put}
use Rattle.rules_maps.specs.Lines.{has_mark}
use Rattle.dir_lines.specs.Home.{IsAtHome}
use Rattle.dir_lines.specs.Record.{Record, blank, lines_of}
use Rattle.dir_lines.specs.Pages.{is_at_home}
use Rattle.dir_lines.specs.Filed.{Filed, found, filed_at, AllBlank, HasAll}
use Rattle.dir_lines.proofs.PagesAt.{is_at_home-true, is_at_home-only}

-- all is blank at the start
pub filed_at-blank : (m : Filed) → AllBlank m.entries → filed_at m ≡ (λ _. blank)
unfolding filed_at
filed_at-blank m h = λ i l. by l (is_at_home m.place l) i
  where
    by : (l : ℕ) (b : Bool) → (if b then unwrap_or (found m.entries l) blank else blank) ≡ blank
    by l true = h l
    by l false = refl

-- the record that is filed for a line of the home
pub filed_at-own : (m : Filed) (l : ℕ) → IsAtHome m.place l → filed_at m l ≡ unwrap_or (found m.entries l) blank
unfolding filed_at
filed_at-own m l h = rw (is_at_home-true m.place l h) refl

pub filed_at-found : (m : Filed) (l : ℕ) (r : Record) → IsAtHome m.place l → Some r ≡ found m.entries l → r ≡ filed_at m l
filed_at-found m l r h e = ap (λ o. unwrap_or o blank) e ∙ sym (filed_at-own m l h)

pub filed_at-mark : (m : Filed) (l : ℕ) (k : Mask) → IsAtHome m.place l → IsSome (found m.entries l)
    → IfSome (found m.entries l) (λ r. k ≡ r.mark) → k ≡ (filed_at m l).mark
filed_at-mark m l k h s f = by (found m.entries l) s f ∙ ap (λ r. r.mark) (sym (filed_at-own m l h))
  where
    by : (o : Option Record) → IsSome o → IfSome o (λ r. k ≡ r.mark) → k ≡ (unwrap_or o blank).mark
    by None t g = cc
    by (Some r) t g = g

pub filed-at_home : (m : Filed) (l : ℕ) → has_mark (lines_of (filed_at m)) l ≡ true → IsAtHome m.place l
unfolding lines_of filed_at
filed-at_home m l e = by (is_at_home m.place l) refl e
  where
    by : (b : Bool) → is_at_home m.place l ≡ b → nat_lt 0 (if b then unwrap_or (found m.entries l) blank else blank).mark.0 ≡ true
        → IsAtHome m.place l
    by true f h = is_at_home-only m.place l f
    by false f h = cc

-- putting one record in another's place
pub filed_at-put : (m : Filed) (new : List (ℕ × Record)) (l : ℕ) (r : Record) → IsAtHome m.place l
    → ((q : ℕ) → found new q ≡ (if l == q then Some r else found m.entries q))
    → filed_at (record { place = m.place; entries = new }) ≡ put (filed_at m) l r
unfolding filed_at
filed_at-put m new l r h u = λ i j. by j (j == l) refl (is_at_home m.place j) refl i
  where
    clash : is_at_home m.place l ≡ false → ⊥
    clash f = let g : is_at_home m.place l ≡ true = is_at_home-true m.place l h in cc

    by : (j : ℕ) (a : Bool) → (j == l) ≡ a → (b : Bool) → is_at_home m.place j ≡ b
        → (if b then unwrap_or (found new j) blank else blank)
        ≡ (if a then r else (if b then unwrap_or (found m.entries j) blank else blank))
    by j true e true f =
        ap (λ o. unwrap_or o blank) (u j ∙ ap (λ b. if b then Some r else found m.entries j) (eq-eqb l j (sym (eqb-true j l e))))
    by j true e false f = absurd (clash (subst (λ k. is_at_home m.place k ≡ false) (eqb-true j l e) f))
    by j false e true f =
        ap (λ o. unwrap_or o blank)
        (u j ∙ ap (λ b. if b then Some r else found m.entries j) (ne_eqb l j (λ (q : l ≡ j). eqb-false j l e (sym q))))
    by j false e false f = refl

pub all-put : (old new : List (ℕ × Record)) (n d h l : ℕ) (r : Record) → HasAll n d h old
    → ((q : ℕ) → found new q ≡ (if l == q then Some r else found old q)) → HasAll n d h new
all-put old new n d h l r all u q a e = subst IsSome (sym (u q)) (kept (l == q) (all q a e))
  where
    kept : (b : Bool) → IsSome (found old q) → IsSome (if b then Some r else found old q)
    kept true s = refl
    kept false s = s
