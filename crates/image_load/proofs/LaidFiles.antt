-- Raw files, one after the other: the first that doesn't fit, and the images.
use Rattle.std.proofs.Common.{◌≡◌, ℕ, ◌+◌, ◌%◌, ◌<◌, ◌≤◌, ◌∙◌, true, false, length, drop, get_or, List, [], ◌∷◌, ◌++◌, Some, None, ap, sym}
use Rattle.std.proofs.Common.{refl, arith}
use Rattle.std.proofs.lemmas.List.{append_assoc, append-nil, drop_all}
use Rattle.tcc_base.specs.Settings.{Settings}
use Rattle.image_elf.specs.declared.image.Image.{Image}
use Rattle.image_load.specs.declared.fault.LoadFault.TheVariants.{Outside}
use Rattle.image_load.specs.Raw.{next_line, raw_image, raw_images, fits, raw_fault}
use Rattle.image_load.proofs.Lists.{drop-left}

pub next_line-is : (addr next : ℕ) → next % 32 ≡ 0 → addr ≤ next → next < addr + 32 → next ≡ next_line addr
next_line-is addr next multiple low high = omega arith

raw_fault-rest : (settings : Settings) (n addr : ℕ) (file : List ℕ) (files : List (List ℕ)) → fits settings addr file ≡ true →
    raw_fault settings n addr (file ∷ files) ≡ raw_fault settings (n + 1) (next_line (addr + length file)) files
unfolding raw_fault
raw_fault-rest settings n addr file files inside = rw inside

raw_fault-first : (settings : Settings) (n addr : ℕ) (file : List ℕ) (files : List (List ℕ)) → fits settings addr file ≡ false →
    raw_fault settings n addr (file ∷ files) ≡ Some (Outside n 0)
unfolding raw_fault
raw_fault-first settings n addr file files outside = rw outside

raw_fault-nil : (settings : Settings) (n addr : ℕ) → raw_fault settings n addr [] ≡ None
unfolding raw_fault
raw_fault-nil settings n addr = refl

raw_images-cons : (addr : ℕ) (file : List ℕ) (files : List (List ℕ)) →
    raw_images addr (file ∷ files) ≡ raw_image addr file ∷ raw_images (next_line (addr + length file)) files
unfolding raw_images
raw_images-cons addr file files = refl

raw_images-nil : (addr : ℕ) → raw_images addr [] ≡ []
unfolding raw_images
raw_images-nil addr = refl

pub raw_fault-passed : (settings : Settings) (addr next : ℕ) (files : List (List ℕ)) (j : ℕ) (file : List ℕ) →
    j < length files → file ≡ get_or files j file → fits settings addr file ≡ true → next ≡ next_line (addr + length file) →
    raw_fault settings j addr (drop j files) ≡ raw_fault settings (j + 1) next (drop (j + 1) files)
raw_fault-passed settings addr next files j file below is inside after =
    ap (raw_fault settings j addr) (drop-left files j file below is)
    ∙ raw_fault-rest settings j addr file (drop (j + 1) files) inside
    ∙ ap (λ a. raw_fault settings (j + 1) a (drop (j + 1) files)) (sym after)

pub raw_fault-failed : (settings : Settings) (addr : ℕ) (files : List (List ℕ)) (j : ℕ) (file : List ℕ) →
    j < length files → file ≡ get_or files j file → fits settings addr file ≡ false →
    raw_fault settings j addr (drop j files) ≡ Some (Outside j 0)
raw_fault-failed settings addr files j file below is outside =
    ap (raw_fault settings j addr) (drop-left files j file below is)
    ∙ raw_fault-first settings j addr file (drop (j + 1) files) outside

pub raw_fault-done : (settings : Settings) (n addr : ℕ) (files : List (List ℕ)) (j : ℕ) → length files ≤ j →
    raw_fault settings n addr (drop j files) ≡ None
raw_fault-done settings n addr files j past = ap (raw_fault settings n addr) (drop_all j files past) ∙ raw_fault-nil settings n addr

pub raw_images-more : (addr next : ℕ) (files : List (List ℕ)) (j : ℕ) (file : List ℕ) (images : List Image) →
    j < length files → file ≡ get_or files j file → next ≡ next_line (addr + length file) →
    images ++ raw_images addr (drop j files) ≡ (images ++ raw_image addr file ∷ []) ++ raw_images next (drop (j + 1) files)
raw_images-more addr next files j file images below is after =
    ap (λ left. images ++ raw_images addr left) (drop-left files j file below is)
    ∙ ap (λ left. images ++ left) (raw_images-cons addr file (drop (j + 1) files))
    ∙ ap (λ a. images ++ raw_image addr file ∷ raw_images a (drop (j + 1) files)) (sym after)
    ∙ sym (append_assoc images (raw_image addr file ∷ []) (raw_images next (drop (j + 1) files)))

pub raw_images-done : (addr : ℕ) (files : List (List ℕ)) (j : ℕ) (images : List Image) → length files ≤ j →
    images ++ raw_images addr (drop j files) ≡ images
raw_images-done addr files j images past =
    ap (λ left. images ++ raw_images addr left) (drop_all j files past) ∙ ap (λ left. images ++ left) (raw_images-nil addr)
    ∙ append-nil images
