-- What is loaded of files is the start that they stand for.
use Rattle.std.proofs.Common.{ℕ, ◌≡◌, Bool, List, None, sym, ◌∙◌, ap, subst}
use Rattle.std.specs.Option.{option_or, option_and_then}
use Rattle.image_elf.specs.declared.image.Image.{Image}
use Rattle.image_load.specs.Contents.{Contents, started}
use Rattle.image_load.specs.Faults.{load_fault}
use Rattle.image_load.specs.Start.{start}
use Rattle.tcc_base.specs.Settings.{Settings}
use Rattle.tcc_cli.specs.Images.{images_of, start_of, load_named, form_fault, fault_of}

pub same_start : (raw : Bool) (s : Settings) (files : List (List ℕ)) (images : List Image) (l : Contents)
    → images ≡ images_of raw s files → started l ≡ start s images → started l ≡ start_of raw s files
unfolding start_of
same_start raw s files images l are h = subst (λ is. started l ≡ start s is) are h

pub no_fault : (raw : Bool) (s : Settings) (files : List (List ℕ)) (images : List Image) → form_fault raw s files ≡ None
    → images ≡ images_of raw s files → load_fault s images ≡ None → fault_of raw s files ≡ None
unfolding fault_of
no_fault raw s files images none are h =
    ap (λ f. option_or f (option_and_then load_named (load_fault s (images_of raw s files)))) none
    ∙ ap (option_and_then load_named) (sym (ap (load_fault s) are) ∙ h)
