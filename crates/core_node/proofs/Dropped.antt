-- Spilled words are dropped from the frames line by line.
use Rattle.std.proofs.Common.{◌≡◌, ℕ, [], Bool, true, false, ◌&&◌, nat_eq, Option, Some, None, is_some, get_or, if◌then◌else◌, refl, ap}
use Rattle.std.proofs.Common.{◌∙◌, arith}
use Rattle.std.proofs.lemmas.Bool.Decides.{nat_tests}
use Rattle.rules_maps.specs.Cache.{Cache}
use Rattle.rules_maps.specs.CacheChange.{words_dropped}
use Rattle.rules_maps.specs.Masks.{has, hit, mask_of}
use Rattle.rules_maps.specs.Spilled.{Spilled, none_spilled, spill, spilled_mask}
use Rattle.rules_maps.specs.Words.{line_of, place_of, word_at}
use Rattle.rules_maps.proofs.Lemmas.{has-mask_of}
use Rattle.overflow_buf.specs.Kept.{without_line}

at_place : (l v : ℕ) → nat_eq l (line_of v) ≡ true → word_at l (place_of v) ≡ v
at_place l v e = grind (arith, nat_tests)

pub dropped_none : (c : Cache) → words_dropped none_spilled c ≡ c
unfolding words_dropped none_spilled
dropped_none c = refl

-- whether a word is dropped, with the words of one line dropped first
abbrev first : ℕ → Spilled → ℕ → Bool
first l f v = nat_eq l (line_of v) && has (spilled_mask f l) (place_of v)

pub first_is : (l : ℕ) (f : Spilled) (v : ℕ) → first l f v ≡ (nat_eq l (line_of v) && is_some (f v))
unfolding spilled_mask
first_is l f v = by (nat_eq l (line_of v)) refl
  where
    by : (b : Bool) → nat_eq l (line_of v) ≡ b → (b && has (mask_of (λ k. is_some (f (word_at l k)))) (place_of v)) ≡ (b && is_some (f v))
    by false e = refl
    by true e = has-mask_of (λ k. is_some (f (word_at l k))) (place_of v) (omega arith) ∙ ap (λ (w : ℕ). is_some (f w)) (at_place l v e)

twice : {A : Type 0} (b : Bool) (o : Option ℕ) (w : ℕ) (x y : A)
    → (if is_some (if b then None else o) then x else if is_some (if (b && is_some o) then Some w else None) then x else y)
    ≡ (if is_some o then x else y)
twice true None w x y = refl
twice true (Some z) w x y = refl
twice false None w x y = refl
twice false (Some z) w x y = refl

pub dropped_line : (l : ℕ) (m : ℕ) (f g : Spilled) (c d : Cache) → m ≡ spilled_mask f l → g ≡ without_line l f
    → d ≡ words_dropped (spill l m [] none_spilled) c
    → words_dropped g d ≡ words_dropped f c
unfolding words_dropped spill none_spilled hit without_line
dropped_line l m f g c d e h k = rw (h, k, e) (ap (λ (p : ℕ → Bool). both p) (λ i v. (first_is l f v) i) ∙ rest)
  where
    both : (ℕ → Bool) → Cache
    both p = record c {
      value = λ v. if is_some (if nat_eq l (line_of v) then None else f v) then None
          else if is_some {T = ℕ} (if p v then Some (get_or [] (place_of v) 0) else None) then None else c.value v;
      modified = λ v. if is_some (if nat_eq l (line_of v) then None else f v) then false
          else if is_some {T = ℕ} (if p v then Some (get_or [] (place_of v) 0) else None) then false else c.modified v;
      dirty = λ v. if is_some (if nat_eq l (line_of v) then None else f v) then None
          else if is_some {T = ℕ} (if p v then Some (get_or [] (place_of v) 0) else None) then None else c.dirty v;
    }

    rest : both (λ v. nat_eq l (line_of v) && is_some (f v)) ≡ words_dropped f c
    rest = λ i. record c {
      value = λ v. (twice (nat_eq l (line_of v)) (f v) (get_or [] (place_of v) 0) None (c.value v)) i;
      modified = λ v. (twice (nat_eq l (line_of v)) (f v) (get_or [] (place_of v) 0) false (c.modified v)) i;
      dirty = λ v. (twice (nat_eq l (line_of v)) (f v) (get_or [] (place_of v) 0) None (c.dirty v)) i;
    }
