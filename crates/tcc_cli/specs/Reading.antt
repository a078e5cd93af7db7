-- What was read of files, and why it wasn't.
use Rattle.std.specs.Prelude.{ℕ, List, [], ◌∷◌, ◌++◌, ◌≡◌, ◌≢◌, Option, Some}
use Rattle.tcc_cli.specs.declared.refusal.ImageFault.{ImageFault}
use Rattle.tcc_cli.specs.declared.refusal.Refusal.{Refusal}
use Rattle.tcc_cli.specs.declared.refusal.Refusal.TheVariants.{Image, Store, Memory}
use Rattle.tcc_world.specs.Faults.{Rose}
use Rattle.tcc_world.specs.Told.{Gives}

-- each file has these bytes, where its contents are told
unfoldable pub AreGiven : (told : List ℕ → Option (List ℕ)) → (names files : List (List ℕ)) → Type 0
AreGiven told [] [] = Unit {0}
AreGiven told (name ∷ names) (file ∷ files) = Gives (told name) file × AreGiven told names files
AreGiven told names files = ⊥

-- this is the first name of which the read failed: the files before it were read, with these bytes where their contents are told,
-- and no other name's count of failed reads changed
pub record FailedFirst (told : List ℕ → Option (List ℕ)) (names : List (List ℕ)) (before after : List ℕ → ℕ) (name : List ℕ) : Type 0 where
  pub earlier : List (List ℕ)
  pub later : List (List ℕ)
  pub names_are : names ≡ earlier ++ name ∷ later
  pub files : List (List ℕ)
  pub given : AreGiven told earlier files
  pub rose : Rose (before name) (after name)
  pub others : (n : List ℕ) → n ≢ name → after n ≡ before n

-- files weren't all read: the first of which the read failed is named, or there was no memory
abbrev pub RefusedFiles : (told : List ℕ → Option (List ℕ)) → (names : List (List ℕ)) → (before after : List ℕ → ℕ) → Refusal → Type 0
RefusedFiles told names before after (Store name) = FailedFirst told names before after name.now
RefusedFiles told names before after Memory = Unit {0}
RefusedFiles told names before after _ = ⊥

-- the images are refused for the first fault of their files
abbrev pub RefusedImages : Option ImageFault → Refusal → Type 0
RefusedImages first (Image fault) = first ≡ Some fault
RefusedImages first Memory = Unit {0}
RefusedImages first _ = ⊥
