-- Files that are read one after the other, and then as images.
use Rattle.std.proofs.Common.{ℕ, zero, suc, ◌≡◌, ◌≢◌, ◌+◌, ◌<◌, ◌≤◌, List, [], ◌∷◌, ◌++◌, length, map, take, drop, get_or, Bor, Option}
use Rattle.std.proofs.Common.{Some, None, refl, sym, ◌∙◌, ap, subst, arith, add-one, drop-cons, drop_of_length-le, take-suc}
use Rattle.std.proofs.lemmas.List.{map-append, take-append-drop}
use Rattle.std.proofs.lemmas.List.Elements.{All-append}
use Rattle.std.specs.Prelude.{All}
use Rattle.image_elf.specs.declared.image.Image.{Image}
use Rattle.std.specs.Option.{option_or, option_map}
use Rattle.image_elf.specs.Tests.{tests, first_fault}
use Rattle.image_elf.specs.declared.fault.ElfFault.{ElfFault}
use Rattle.tcc_cli.specs.Images.{elf_named, elf_fault}
use Rattle.tcc_cli.specs.Reading.{AreGiven, FailedFirst}
use Rattle.tcc_world.specs.Faults.{Rose}
use Rattle.tcc_world.specs.Told.{Gives}

pub none_given : (told : List ℕ → Option (List ℕ)) → AreGiven told [] []
unfolding AreGiven
none_given told = tt

pub given_more : (told : List ℕ → Option (List ℕ)) (names files : List (List ℕ)) (name file : List ℕ) → AreGiven told names files
    → Gives (told name) file → AreGiven told (names ++ name ∷ []) (files ++ file ∷ [])
unfolding AreGiven
given_more told [] [] name file h g = (g, tt)
given_more told [] (f ∷ fs) name file h g = absurd h
given_more told (n ∷ ns) [] name file h g = absurd h
given_more told (n ∷ ns) (f ∷ fs) name file h g = (h.0, given_more told ns fs name file h.1 g)

-- one name more was read
pub given_next : (told : List ℕ → Option (List ℕ)) (names : List (Bor (List ℕ))) (d : Bor (List ℕ)) (i : ℕ)
    (files more : List (List ℕ)) (file : List ℕ) → i < length names → AreGiven told (map (λ w. w.now) (take i names)) files
    → Gives (told (get_or names i d).now) file → more ≡ files ++ file ∷ []
    → AreGiven told (map (λ w. w.now) (take (i + 1) names)) more
given_next told names d i files more file h given gives is =
    let now = map {A = Bor (List ℕ)} {B = List ℕ} (λ w. w.now) in
    let split : now (take (i + 1) names) ≡ now (take i names) ++ (get_or names i d).now ∷ [] =
    rw (add-one i) (ap now (take-suc names i d h) ∙ map-append (λ w. w.now) (take i names) (get_or names i d ∷ [])) in
    subst (λ fs. AreGiven told (now (take (i + 1) names)) fs) (sym is)
    (subst (λ ns. AreGiven told ns (files ++ file ∷ [])) (sym split)
    (given_more told (now (take i names)) files (get_or names i d).now file given gives))

pub given_length : (told : List ℕ → Option (List ℕ)) (names files : List (List ℕ)) → AreGiven told names files
    → length names ≡ length files
unfolding AreGiven
given_length told [] [] h = refl
given_length told [] (f ∷ fs) h = absurd h
given_length told (n ∷ ns) [] h = absurd h
given_length told (n ∷ ns) (f ∷ fs) h = ap (λ k. suc k) (given_length told ns fs h.1)

-- the name at which reading stops is the first of which the read failed
pub failed_first : (told : List ℕ → Option (List ℕ)) (names : List (Bor (List ℕ))) (d : Bor (List ℕ)) (i : ℕ) (files : List (List ℕ))
    (before mid after : List ℕ → ℕ) → i < length names → AreGiven told (map (λ w. w.now) (take i names)) files
    → ((n : List ℕ) → mid n ≡ before n) → Rose (mid (get_or names i d).now) (after (get_or names i d).now)
    → ((n : List ℕ) → n ≢ (get_or names i d).now → after n ≡ mid n)
    → FailedFirst told (map (λ w. w.now) names) before after (get_or names i d).now
failed_first told names d i files before mid after h given same rose others =
    let now = map {A = Bor (List ℕ)} {B = List ℕ} (λ w. w.now) in
    let name = (get_or names i d).now in record {
      earlier = now (take i names);
      later = now (drop (suc i) names);
      names_are =
          sym (ap now (take-append-drop i names))
          ∙ map-append (λ w. w.now) (take i names) (drop i names)
          ∙ ap (λ rest. now (take i names) ++ now rest) (drop-cons names i d h);
      files = files;
      given = given;
      rose = subst (λ k. Rose k (after name)) (same name) rose;
      others = λ n apart. others n apart ∙ same n;
    }

-- the faults from a file on are its own, or else those from the next one on
elf_step : (n : ℕ) (files : List (List ℕ)) (d : List ℕ) → n < length files
    → elf_fault n (drop n files)
    ≡ option_or (option_map (elf_named n) (first_fault (tests (get_or files n d)))) (elf_fault (n + 1) (drop (n + 1) files))
unfolding elf_fault
elf_step n files d h =
    ap (elf_fault n) (drop-cons files n d h)
    ∙ ap (λ k. option_or (option_map (elf_named n) (first_fault (tests (get_or files n d)))) (elf_fault (n + 1) (drop k files)))
    (sym (add-one n))

pub elf_refused : (n : ℕ) (files : List (List ℕ)) (d : List ℕ) (fault : ElfFault) → n < length files
    → elf_fault 0 files ≡ elf_fault n (drop n files) → first_fault (tests (get_or files n d)) ≡ Some fault
    → elf_fault 0 files ≡ Some (elf_named n fault)
elf_refused n files d fault h tested first =
    tested ∙ elf_step n files d h
    ∙ ap (λ f. option_or (option_map (elf_named n) f) (elf_fault (n + 1) (drop (n + 1) files))) first

pub elf_passed : (n : ℕ) (files : List (List ℕ)) (d file : List ℕ) → n < length files
    → elf_fault 0 files ≡ elf_fault n (drop n files) → file ≡ get_or files n d → first_fault (tests file) ≡ None
    → elf_fault 0 files ≡ elf_fault (n + 1) (drop (n + 1) files)
elf_passed n files d file h tested is first =
    tested ∙ elf_step n files d h
    ∙ ap (λ f. option_or (option_map (elf_named n) f) (elf_fault (n + 1) (drop (n + 1) files)))
    (sym (ap (λ b. first_fault (tests b)) is) ∙ first)

-- one image more was read
pub images_next : (f : List ℕ → Image) (n : ℕ) (files : List (List ℕ)) (d file : List ℕ) (images more : List Image) (image : Image)
    → n < length files → images ≡ map f (take n files) → more ≡ images ++ image ∷ [] → image ≡ f file → file ≡ get_or files n d
    → more ≡ map f (take (n + 1) files)
images_next f n files d file images more image h before pushed from is =
    pushed
    ∙ ap (λ is. is ++ image ∷ []) before
    ∙ ap (λ i. map f (take n files) ++ i ∷ []) (from ∙ ap f is)
    ∙ sym (map-append f (take n files) (get_or files n d ∷ []))
    ∙ ap (map f) (sym (take-suc files n d h))
    ∙ ap (λ k. map f (take k files)) (sym (add-one n))

all_one : {X : Type 0} (P : X → Type 0) (x : X) → P x → All P (x ∷ [])
all_one P x h zero d l = h
all_one P x h (suc k) d l = absurd (omega (arith, l))

pub all_next : {X : Type 0} (P : X → Type 0) (xs more : List X) (x : X) → All P xs → more ≡ xs ++ x ∷ [] → P x → All P more
all_next P xs more x h pushed one = subst (λ ys. All P ys) (sym pushed) (All-append P xs (x ∷ []) h (all_one P x one))

-- there is no fault behind the last file
pub elf_done : (n : ℕ) (files : List (List ℕ)) → length files ≤ n → elf_fault n (drop n files) ≡ None
unfolding elf_fault
elf_done n files h = ap (elf_fault n) (drop_of_length-le files h)
