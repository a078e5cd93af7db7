-- What files are as images, and the first of them that isn't an image.
use Rattle.std.specs.Prelude.{ℕ, ◌+◌, Bool, true, false, List, [], ◌∷◌, map, Option, None}
use Rattle.std.specs.Option.{option_or, option_map, option_and_then}
use Rattle.image_elf.specs.Elf.{image_of}
use Rattle.image_elf.specs.Faults as elf
use Rattle.image_elf.specs.Tests.{tests, first_fault}
use Rattle.image_elf.specs.declared.fault.ElfFault.{ElfFault}
use Rattle.image_elf.specs.declared.image.Image.{Image}
use Rattle.image_load.specs.Faults.{load_fault}
use Rattle.image_load.specs.Print as load
use Rattle.image_load.specs.Raw.{raw_images, raw_fault}
use Rattle.image_load.specs.Start as image_load
use Rattle.image_load.specs.Start.{Start}
use Rattle.image_load.specs.declared.fault.LoadFault.{LoadFault}
use Rattle.tcc_base.specs.Settings.{Settings}
use Rattle.tcc_cli.specs.declared.refusal.ImageFault.{ImageFault}
use Rattle.tcc_cli.specs.declared.refusal.Reader.TheVariants as reader

-- the images that files are, where all of them are raw, and where all are ELF files
abbrev pub images_of : (raw : Bool) → Settings → List (List ℕ) → List Image
images_of true s files = raw_images s.base files
images_of false s files = map image_of files

-- the start of the machine with these files as its images
unfoldable pub start_of : (raw : Bool) → Settings → List (List ℕ) → Start
start_of raw s files = image_load.start s (images_of raw s files)

-- a fault of the file of that number
abbrev pub elf_named : (number : ℕ) → ElfFault → ImageFault
elf_named number f = record { image = number; by = reader.Elf; number = elf.number_of f; place = elf.place_of f }

-- a fault of images that are laid; it names an image unless it is want of memory
abbrev pub load_named : LoadFault → Option ImageFault
load_named f = option_map (λ i. record { image = i; by = reader.Load; number = load.number_of f; place = load.place_of f })
    (load.image_of f)

-- the first file that is no ELF image, numbered from `number` on
unfoldable pub elf_fault : (number : ℕ) → List (List ℕ) → Option ImageFault
elf_fault number [] = None
elf_fault number (file ∷ files) = option_or (option_map (elf_named number) (first_fault (tests file))) (elf_fault (number + 1) files)

-- the first file that is no image, where all are raw or all are ELF files
unfoldable pub form_fault : (raw : Bool) → Settings → List (List ℕ) → Option ImageFault
form_fault true s files = option_and_then load_named (raw_fault s 0 s.base files)
form_fault false s files = elf_fault 0 files

-- the first fault: the files are read as images first, all of them in order, and then laid
unfoldable pub fault_of : (raw : Bool) → Settings → List (List ℕ) → Option ImageFault
fault_of raw s files = option_or (form_fault raw s files) (option_and_then load_named (load_fault s (images_of raw s files)))
