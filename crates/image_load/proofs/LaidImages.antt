-- Images, one after the other: the segments that were gone through, and the first fault of the images that are left.
use Rattle.std.proofs.Common.{◌≡◌, ℕ, ◌+◌, ◌<◌, ◌≤◌, ◌∙◌, length, take, drop, get_or, List, [], ◌∷◌, ◌++◌, Some, None, ap, sym, refl, arith}
use Rattle.std.proofs.lemmas.List.{append_assoc, append-nil, map-append, drop_all, length-take-le}
use Rattle.tcc_base.specs.Settings.{Settings}
use Rattle.image_elf.specs.declared.image.Image.{Image}
use Rattle.image_elf.specs.declared.image.Segment.{Segment}
use Rattle.image_load.specs.declared.fault.LoadFault.{LoadFault}
use Rattle.image_load.specs.Faults.{image_fault, images_fault}
use Rattle.image_load.proofs.Lists.{drop-left, take-more}
use Rattle.image_load.specs.Overlap.{Laid, laid, segments_laid}
use Rattle.image_load.specs.Start.{segments_of, entries_of}

-- all segments of images that are numbered from n on
unfoldable pub laid_all : ℕ → List Image → List Laid
laid_all n [] = []
laid_all n (image ∷ images) = laid n image.segments ++ laid_all (n + 1) images

pub laid_all-nil : (n : ℕ) → laid_all n [] ≡ []
unfolding laid_all
laid_all-nil n = refl

laid_all-append : (n m : ℕ) (xs : List Image) (x : Image) → n + length xs ≡ m → laid_all n (xs ++ x ∷ []) ≡ laid_all n xs
    ++ laid m x.segments
unfolding laid_all
laid_all-append n m [] x e =
    let same : n ≡ m = omega arith in append-nil (laid n x.segments) ∙ ap (λ i. laid i x.segments) same
laid_all-append n m (y ∷ ys) x e =
    ap (λ ls. laid n y.segments ++ ls) (laid_all-append (n + 1) m ys x (omega arith))
    ∙ sym (append_assoc (laid n y.segments) (laid_all (n + 1) ys) (laid m x.segments))

pub laid_all-more : (xs : List Image) (j : ℕ) (x : Image) → j < length xs → x ≡ get_or xs j x →
    laid_all 0 (take j xs) ++ laid j x.segments ≡ laid_all 0 (take (j + 1) xs)
laid_all-more xs j x below is =
    let count : 0 + length (take j xs) ≡ j = omega (arith, length-take-le j xs) in
    sym (laid_all-append 0 j (take j xs) x count) ∙ ap (laid_all 0) (sym (take-more xs j x below is))

pub entries-more : (xs : List Image) (j : ℕ) (x : Image) → j < length xs → x ≡ get_or xs j x →
    entries_of (take j xs) ++ x.entry ∷ [] ≡ entries_of (take (j + 1) xs)
entries-more xs j x below is =
    sym (map-append (λ image. image.entry) (take j xs) (x ∷ [])) ∙ ap entries_of (sym (take-more xs j x below is))

images_fault-first : (settings : Settings) (n : ℕ) (earlier : List Laid) (x : Image) (xs : List Image) (fault : LoadFault) →
    image_fault settings n earlier x ≡ Some fault → images_fault settings n earlier (x ∷ xs) ≡ Some fault
unfolding images_fault
images_fault-first settings n earlier x xs fault failed = rw failed

images_fault-rest : (settings : Settings) (n : ℕ) (earlier : List Laid) (x : Image) (xs : List Image) →
    image_fault settings n earlier x ≡ None →
    images_fault settings n earlier (x ∷ xs) ≡ images_fault settings (n + 1) (earlier ++ laid n x.segments) xs
unfolding images_fault
images_fault-rest settings n earlier x xs passed = rw passed

images_fault-nil : (settings : Settings) (n : ℕ) (earlier : List Laid) → images_fault settings n earlier [] ≡ None
unfolding images_fault
images_fault-nil settings n earlier = refl

pub images_fault-passed : (settings : Settings) (xs : List Image) (j : ℕ) (x : Image) → j < length xs → x ≡ get_or xs j x →
    image_fault settings j (laid_all 0 (take j xs)) x ≡ None →
    images_fault settings j (laid_all 0 (take j xs)) (drop j xs)
    ≡ images_fault settings (j + 1) (laid_all 0 (take (j + 1) xs)) (drop (j + 1) xs)
images_fault-passed settings xs j x below is passed =
    ap (images_fault settings j (laid_all 0 (take j xs))) (drop-left xs j x below is)
    ∙ images_fault-rest settings j (laid_all 0 (take j xs)) x (drop (j + 1) xs) passed
    ∙ ap (λ ls. images_fault settings (j + 1) ls (drop (j + 1) xs)) (laid_all-more xs j x below is)

pub images_fault-failed : (settings : Settings) (xs : List Image) (j : ℕ) (x : Image) (fault : LoadFault) → j < length xs
    → x ≡ get_or xs j x →
    image_fault settings j (laid_all 0 (take j xs)) x ≡ Some fault →
    images_fault settings j (laid_all 0 (take j xs)) (drop j xs) ≡ Some fault
images_fault-failed settings xs j x fault below is failed =
    ap (images_fault settings j (laid_all 0 (take j xs))) (drop-left xs j x below is)
    ∙ images_fault-first settings j (laid_all 0 (take j xs)) x (drop (j + 1) xs) fault failed

-- all images are laid
pub images_fault-done : (settings : Settings) (n : ℕ) (earlier : List Laid) (xs : List Image) (j : ℕ) → length xs ≤ j →
    images_fault settings n earlier (drop j xs) ≡ None
images_fault-done settings n earlier xs j past =
    ap (images_fault settings n earlier) (drop_all j xs past) ∙ images_fault-nil settings n earlier

segments_laid-laid : (n : ℕ) (segments : List Segment) → segments_laid (laid n segments) ≡ segments
segments_laid-laid n [] = refl
segments_laid-laid n (s ∷ ss) = ap (λ rest. s ∷ rest) (segments_laid-laid n ss)

pub segments_laid-all : (n : ℕ) (images : List Image) → segments_laid (laid_all n images) ≡ segments_of images
unfolding laid_all
segments_laid-all n [] = refl
segments_laid-all n (x ∷ xs) =
    map-append (λ l. l.segment) (laid n x.segments) (laid_all (n + 1) xs)
    ∙ ap (λ ss. ss ++ segments_laid (laid_all (n + 1) xs)) (segments_laid-laid n x.segments)
    ∙ ap (λ ss. x.segments ++ ss) (segments_laid-all (n + 1) xs)
