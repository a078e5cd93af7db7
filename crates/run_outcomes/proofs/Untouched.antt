-- The words that changes and stores touch, and what is told of all others.
use Rattle.std.proofs.Common.{ℕ, ◌≡◌, ◌<◌, ◌*◌, ◌++◌, true, List, map, All, Result, Ok, Err, IfOk, inl, inr, arith}
use Rattle.std.proofs.lemmas.Bool.Decides.{nat_tests}
use Rattle.std.proofs.lemmas.List.Elements.{All-append, All-map, All-weaker}
use Rattle.std.proofs.lemmas.List.Sorted.{All-permutation, IsPermutation-sym}
use Rattle.std.specs.List.Sorted.{IsPermutation}
use Rattle.run_outcomes.proofs.Alls.{All-front, All-back, All-unmap, contains-or}
use Rattle.run_outcomes.proofs.Told.{told-elsewhere}
use Rattle.run_outcomes.specs.Changes.{value_in, AreInside}
use Rattle.run_outcomes.specs.Left.{IsTold, IsUntouched, AreStoresInside, sees}
use Rattle.rv_code.specs.Machine.{in_ram}
use Rattle.rv_plain.specs.Buffered.{seen}
use Rattle.rv_plain.specs.Store.{Store}
use Rattle.tcc_base.specs.Settings.{Settings}
use Rattle.tcc_base.specs.declared.access.Size.{Size}
use Rattle.tcc_base.specs.declared.access.Size.TheVariants.{Byte, Half, Word}
use Rattle.tcc_base.specs.declared.access.Stored.{Stored}
use Rattle.rules_program.specs.Ram.{flat, word_of}

abbrev touched_words : (base : ℕ) → List (ℕ × ℕ) → List Stored → List ℕ
touched_words base changes stores = map (λ change. change.0) changes ++ map (λ store. word_of base store.addr) stores

pub touched-inside : (base len : ℕ) (changes : List (ℕ × ℕ)) (stores : List Stored) (words : List ℕ) → AreInside len changes
    → All (λ store. word_of base store.addr < len) stores
    → IsPermutation (map (λ change. change.0) changes ++ map (λ store. word_of base store.addr) stores) words
    → All (λ w. w < len) words
touched-inside base len changes stores words c s same =
    All-permutation (λ w. w < len) (touched_words base changes stores) words same
    (All-append (λ w. w < len) (map (λ change. change.0) changes) (map (λ store. word_of base store.addr) stores)
    (All-map (λ w. w < len) (λ change. change.0) changes c) (All-map (λ w. w < len) (λ store. word_of base store.addr) stores s))

told-all : (base : ℕ) (m : Store) (changes : List (ℕ × ℕ)) (stores : List Stored) (words : List ℕ) (left : List (ℕ × ℕ)) (w : ℕ)
    → IsPermutation (touched_words base changes stores) words → IsTold m words left
    → (IsUntouched base changes stores w → flat m.ram w ≡ sees m w) → seen (flat m.ram) (value_in left) w ≡ sees m w
told-all base m changes stores words left w same t h =
    elim (contains-or words w) [
      | inl c ↦ t.all w c
      | inr none ↦
          let all : All (λ x. x ≡ w → ⊥) (touched_words base changes stores) =
          All-permutation (λ x. x ≡ w → ⊥) words (touched_words base changes stores)
          (IsPermutation-sym (touched_words base changes stores) words same) none in
          told-elsewhere m words left w t (h (record {
            unchanged = All-unmap (λ x. x ≡ w → ⊥) (λ change. change.0) changes
                (All-front (λ x. x ≡ w → ⊥) (map (λ change. change.0) changes) (map (λ store. word_of base store.addr) stores) all);
            unstored = All-unmap (λ x. x ≡ w → ⊥) (λ store. word_of base store.addr) stores
                (All-back (λ x. x ≡ w → ⊥) (map (λ change. change.0) changes) (map (λ store. word_of base store.addr) stores) all);
          }))
    ]

pub told-if : {E : Type 0} (base : ℕ) (m : Store) (changes : List (ℕ × ℕ)) (stores : List Stored) (words : List ℕ)
    (r : Result (List (ℕ × ℕ)) E) → IsPermutation (map (λ change. change.0) changes ++ map (λ store. word_of base store.addr) stores) words
    → IfOk r (IsTold m words)
    → IfOk r (λ left. (w : ℕ) → (IsUntouched base changes stores w → flat m.ram w ≡ sees m w)
    → seen (flat m.ram) (value_in left) w ≡ sees m w)
told-if base m changes stores words (Err e) same t = tt
told-if base m changes stores words (Ok left) same t = λ w h. told-all base m changes stores words left w same t h

-- an access in RAM lies in one of its words
word-inside : (s : Settings) (len addr : ℕ) (size : Size) → 4 * len ≡ s.ram → in_ram s addr size ≡ true → word_of s.base addr < len
unfolding in_ram word_of
word-inside s len addr Byte whole h = grind (arith, nat_tests)
word-inside s len addr Half whole h = grind (arith, nat_tests)
word-inside s len addr Word whole h = grind (arith, nat_tests)

pub stores-inside : (s : Settings) (len : ℕ) (stores : List Stored) → 4 * len ≡ s.ram → AreStoresInside s stores
    → All (λ store. word_of s.base store.addr < len) stores
stores-inside s len stores whole all =
    All-weaker (λ store. in_ram s store.addr store.size ≡ true) (λ store. word_of s.base store.addr < len)
    (λ store h. word-inside s len store.addr store.size whole h) stores all
