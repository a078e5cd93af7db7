-- Why files are refused: the refusal is that of their first fault, or for want of memory.
use Rattle.std.proofs.Common.{ℕ, ◌≡◌, ◌≢◌, ◌<◌, Bool, List, length, drop, get_or, Option}
use Rattle.std.proofs.Common.{Some, None, inl, inr, ◌⊎◌, refl, sym, ◌∙◌, ap, subst}
use Rattle.std.specs.Option.{option_or, option_and_then}
use Rattle.image_elf.specs.Tests.{tests, first_fault}
use Rattle.image_elf.specs.declared.fault.ElfFault.{ElfFault}
use Rattle.image_elf.specs.declared.fault.ElfFault.TheVariants as elf
use Rattle.image_elf.specs.declared.image.Image.{Image}
use Rattle.image_load.specs.Faults.{load_fault}
use Rattle.image_load.specs.declared.fault.LoadFault.{LoadFault}
use Rattle.image_load.specs.declared.fault.LoadFault.TheVariants.{Outside, Overlap, Entry, Memory}
use Rattle.tcc_base.specs.Settings.{Settings}
use Rattle.tcc_cli.proofs.Loading.{elf_refused}
use Rattle.tcc_cli.specs.Images.{images_of, elf_named, load_named, elf_fault, form_fault, fault_of}
use Rattle.tcc_cli.specs.Reading.{RefusedImages}
use Rattle.tcc_cli.specs.declared.refusal.ImageFault.{ImageFault}
use Rattle.tcc_cli.specs.declared.refusal.Refusal.{Refusal}
use Rattle.tcc_cli.specs.declared.refusal.Refusal.TheVariants as why

is_memory : (fault : ElfFault) → (fault ≡ elf.Memory) ⊎ (fault ≢ elf.Memory)
is_memory (elf.Short size) = inr (λ e. absurd (cc))
is_memory elf.NotElf = inr (λ e. absurd (cc))
is_memory (elf.NotRv32 offset) = inr (λ e. absurd (cc))
is_memory elf.Kind = inr (λ e. absurd (cc))
is_memory elf.Compressed = inr (λ e. absurd (cc))
is_memory elf.Dynamic = inr (λ e. absurd (cc))
is_memory (elf.BadSegment index) = inr (λ e. absurd (cc))
is_memory elf.Memory = inl refl

-- a refusal for what is no fault is for want of memory
refused_none : (x : Option ImageFault) (r : Refusal) → RefusedImages None r → RefusedImages x r
refused_none x why.Words h = absurd h
refused_none x (why.Value field) h = absurd h
refused_none x (why.Image fault) h = absurd (cc)
refused_none x (why.Schedule line) h = absurd h
refused_none x (why.Store name) h = absurd h
refused_none x why.Output h = absurd h
refused_none x why.Memory h = tt

refused_image : (x : Option ImageFault) (f : ImageFault) (r : Refusal) → r ≡ why.Image f → x ≡ Some f → RefusedImages x r
refused_image x f r is e = subst (λ q. RefusedImages x q) (sym is) e

refused_memory : (x : Option ImageFault) (r : Refusal) → r ≡ why.Memory → RefusedImages x r
refused_memory x r is = subst (λ q. RefusedImages x q) (sym is) tt

-- the refusal of a file that is no ELF image
pub refused_elf : (n : ℕ) (files : List (List ℕ)) (d file : List ℕ) (fault : ElfFault) (r : Refusal) → n < length files
    → elf_fault 0 files ≡ elf_fault n (drop n files) → file ≡ get_or files n d
    → (fault ≢ elf.Memory → first_fault (tests file) ≡ Some fault)
    → (fault ≡ elf.Memory → r ≡ why.Memory) → (fault ≢ elf.Memory → r ≡ why.Image (elf_named n fault))
    → RefusedImages (elf_fault 0 files) r
refused_elf n files d file fault r h tested is first want named =
    elim (is_memory fault) [
      | inl e ↦ refused_memory (elf_fault 0 files) r (want e)
      | inr e ↦ refused_image (elf_fault 0 files) (elf_named n fault) r (named e) (elf_refused n files d fault h tested (sym (ap
          (λ b. first_fault (tests b)) is) ∙ first e))
    ]

refused_same : (x y : Option ImageFault) (r : Refusal) → x ≡ y → RefusedImages x r → RefusedImages y r
refused_same x y r e h = subst (λ f. RefusedImages f r) e h

IsFault : LoadFault → Type 0
IsFault (Outside image segment) = Unit {0}
IsFault (Overlap image segment i s) = Unit {0}
IsFault (Entry image) = Unit {0}
IsFault Memory = ⊥

pub refused_load : (fault : LoadFault) (x : Option LoadFault) (r : Refusal) → (fault ≢ Memory → x ≡ Some fault)
    → RefusedImages (load_named fault) r → RefusedImages (option_and_then load_named x) r
unfolding IsFault
refused_load (Outside image segment) x r h is = refused_same _ _ r (sym (ap (option_and_then load_named) (h (λ e. subst IsFault e tt)))) is
refused_load (Overlap image segment i s) x r h is = refused_same _ _ r (sym (ap (option_and_then load_named) (h
    (λ e. subst IsFault e tt)))) is
refused_load (Entry image) x r h is = refused_same _ _ r (sym (ap (option_and_then load_named) (h (λ e. subst IsFault e tt)))) is
refused_load Memory x r h is = refused_none (option_and_then load_named x) r is

-- the first of two faults is the first one's, or else the second one's
pub refused_first : (x y : Option ImageFault) (r : Refusal) → RefusedImages x r → RefusedImages (option_or x y) r
refused_first x y why.Words h = h
refused_first x y (why.Value field) h = h
refused_first x y (why.Image fault) h = ap (λ f. option_or f y) h
refused_first x y (why.Schedule line) h = h
refused_first x y (why.Store name) h = h
refused_first x y why.Output h = h
refused_first x y why.Memory h = h

pub refused_second : (x y : Option ImageFault) (r : Refusal) → x ≡ None → RefusedImages y r → RefusedImages (option_or x y) r
refused_second x y r none h = refused_same y (option_or x y) r (sym (ap (λ f. option_or f y) none)) h

pub refused_form : (raw : Bool) (s : Settings) (files : List (List ℕ)) (r : Refusal) → RefusedImages (form_fault raw s files) r
    → RefusedImages (fault_of raw s files) r
unfolding fault_of
refused_form raw s files r h =
    refused_first (form_fault raw s files) (option_and_then load_named (load_fault s (images_of raw s files))) r h

pub refused_load_of : (raw : Bool) (s : Settings) (files : List (List ℕ)) (images : List Image) (fault : LoadFault) (r : Refusal)
    → form_fault raw s files ≡ None → images ≡ images_of raw s files → (fault ≢ Memory → load_fault s images ≡ Some fault)
    → RefusedImages (load_named fault) r → RefusedImages (fault_of raw s files) r
unfolding fault_of
refused_load_of raw s files images fault r none are h is =
    refused_second (form_fault raw s files) (option_and_then load_named (load_fault s (images_of raw s files))) r none
    (subst (λ is. RefusedImages (option_and_then load_named (load_fault s is)) r) are
    (refused_load fault (load_fault s images) r h is))
