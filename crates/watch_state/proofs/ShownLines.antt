-- What is shown of a line is what the rules' directory knows of it.
use Rattle.std.proofs.Common.{◌≡◌, ◌≢◌, ℕ, ◌<◌, ◌/◌, ◌^◌, nat_lt, arith, true, not, ◌||◌, ◌==◌, if◌then◌else◌}
use Rattle.std.proofs.Common.{List, [], ◌∷◌, Option, Some, None, is_some, refl, ap, ◌∙◌}
use Rattle.std.specs.Prelude.{option_map}
use Rattle.std.proofs.lemmas.Bool.{ne_eqb}
use Rattle.std.proofs.lemmas.Bool.Decides.{nat_tests}
use Rattle.image_load.specs.Start.{Start, first_ram}
use Rattle.rules_maps.specs.Lines.{Lines}
use Rattle.rules_maps.specs.Masks.{has}
use Rattle.rules_maps.specs.Shape.{Shape, home}
use Rattle.rules_maps.specs.Words.{any_below, those}
use Rattle.dir_lines.specs.declared.core_set.CoreSet.{CoreSet}
use Rattle.directory.specs.declared.directory.LineState.{LineState}
use Rattle.watch_state.specs.Directories.{at_home, known_of, line_record, word_record}
use Rattle.watch_state.specs.Cores.{addr_of}
use Rattle.watch_state.specs.Records.{HomeWord, LineIs, Record}
use Rattle.watch_state.specs.Shown.{knows, shown_record}

-- what was read of a line at its home
pub record IsRead (ls : Lines) (l : ℕ) (s : LineState) (x : CoreSet) : Type 0 where
  pub owner : option_map (λ c. c.0) s.owner ≡ ls.owner l
  pub tag : s.tag.0 ≡ ls.tag l
  pub asked : s.asked ≡ ls.asked l
  pub mark : s.mark.0 ≡ ls.mark l
  pub sharers : (c : ℕ) → has x.0 c ≡ ls.sharers l c

some-mapped : {A B : Type 0} (f : A → B) (o : Option A) → is_some o ≡ is_some (option_map f o)
some-mapped f None = refl
some-mapped f (Some a) = refl

pub line-shown : (sh : Shape) (ls : Lines) (l h n : ℕ) (s : LineState) (x : CoreSet) → IsRead ls l s x → h ≡ home sh l → n ≡ sh.cores
    → shown_record l h n s x ≡ line_record sh ls l
unfolding line_record known_of knows
line-shown sh ls l h n s x r at cores =
    let owned : is_some s.owner ≡ is_some (ls.owner l) = some-mapped (λ c. c.0) s.owner ∙ ap (λ o. is_some o) r.owner in
    λ i. if owned i || (not (r.tag i == 0) || (r.asked i || (not (r.mark i == 0) || any_below (λ c. r.sharers c i) (cores i))))
    then LineIs l (record {
      home = at i;
      owner = r.owner i;
      tag = r.tag i;
      asked = r.asked i;
      mark = r.mark i;
      sharers = those (λ c. r.sharers c i) (cores i);
    }) ∷ [] else []

pub here-at-home : (sh : Shape) (d l : ℕ) (f : ℕ → List Record) → d ≡ home sh l → at_home sh d f l ≡ f l
unfolding at_home
here-at-home sh d l f e = let z : (d == home sh l) ≡ true = grind (arith, nat_tests) in rw z refl

pub elsewhere-at-home : (sh : Shape) (d l : ℕ) (f : ℕ → List Record) → d ≢ home sh l → at_home sh d f l ≡ []
unfolding at_home
elsewhere-at-home sh d l f n = rw (ne_eqb d (home sh l) n) refl

-- a word as it was loaded
pub first-is : (s : Start) (w x : ℕ) → w < s.settings.ram / 4 → x ≡ s.word w → x < 2 ^ 32 → first_ram s w ≡ x
unfolding first_ram
first-is s w x i e k =
    let here : nat_lt w (s.settings.ram / 4) ≡ true = grind (arith, nat_tests) in
    rw here (omega arith)

pub word-shown : (sh : Shape) (first words : ℕ → ℕ) (w addr value old : ℕ) → addr ≡ addr_of sh w → value ≡ words w → old ≡ first w
    → (if value == old then [] else HomeWord addr value ∷ []) ≡ word_record sh first words w
unfolding word_record
word-shown sh first words w addr value old a v o = λ i. if v i == o i then [] else HomeWord (a i) (v i) ∷ []
