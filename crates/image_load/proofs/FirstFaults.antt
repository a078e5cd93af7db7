-- The first fault by the answers of the tests, one segment and one image at a time.
use Rattle.std.proofs.Common.{◌≡◌, ℕ, ◌+◌, ◌<◌, ◌∙◌, length, take, drop, get_or, ◌≤◌, true, false, false, List, [], ◌∷◌, ◌++◌, Some, None}
use Rattle.std.proofs.Common.{ap, sym, refl}
use Rattle.std.specs.List.{find}
use Rattle.std.proofs.lemmas.List.{append_assoc, map-append, drop_all}
use Rattle.tcc_base.specs.Settings.{Settings}
use Rattle.image_elf.specs.declared.image.Image.{Image}
use Rattle.image_elf.specs.declared.image.Segment.{Segment}
use Rattle.image_load.specs.declared.extent.Extent.{Extent}
use Rattle.image_load.specs.declared.fault.LoadFault.{LoadFault}
use Rattle.image_load.specs.declared.fault.LoadFault.TheVariants.{Outside, Overlap, Entry}
use Rattle.image_load.specs.Faults.{is_in_ram, is_entry, segment_fault, segments_fault, image_fault}
use Rattle.image_load.proofs.Lists.{drop-left, take-more}
use Rattle.image_load.specs.Overlap.{Laid, laid, segments_laid, extent_of, extents_laid, shares_byte}

pub segment_fault-outside : (settings : Settings) (i : ℕ) (earlier : List Laid) (s : Segment) →
    is_in_ram settings s ≡ false → segment_fault settings i earlier s ≡ Some (Outside i s.index)
unfolding segment_fault
segment_fault-outside settings i earlier s outside = rw outside

pub segment_fault-overlap : (settings : Settings) (i : ℕ) (earlier : List Laid) (s : Segment) (other : Extent) →
    is_in_ram settings s ≡ true → find (shares_byte (extent_of i s)) (extents_laid earlier) ≡ Some other →
    segment_fault settings i earlier s ≡ Some (Overlap i s.index other.image other.segment)
unfolding segment_fault
segment_fault-overlap settings i earlier s other inside shares = rw (inside, shares)

pub segment_fault-none : (settings : Settings) (i : ℕ) (earlier : List Laid) (s : Segment) →
    is_in_ram settings s ≡ true → find (shares_byte (extent_of i s)) (extents_laid earlier) ≡ None →
    segment_fault settings i earlier s ≡ None
unfolding segment_fault
segment_fault-none settings i earlier s inside alone = rw (inside, alone)

segments_fault-first : (settings : Settings) (i : ℕ) (earlier : List Laid) (s : Segment) (ss : List Segment) (fault : LoadFault) →
    segment_fault settings i earlier s ≡ Some fault → segments_fault settings i earlier (s ∷ ss) ≡ Some fault
unfolding segments_fault
segments_fault-first settings i earlier s ss fault failed = rw failed

segments_fault-rest : (settings : Settings) (i : ℕ) (earlier : List Laid) (s : Segment) (ss : List Segment) →
    segment_fault settings i earlier s ≡ None →
    segments_fault settings i earlier (s ∷ ss) ≡ segments_fault settings i (earlier ++ laid i (s ∷ [])) ss
unfolding segments_fault
segments_fault-rest settings i earlier s ss passed = rw passed

segments_fault-nil : (settings : Settings) (i : ℕ) (earlier : List Laid) → segments_fault settings i earlier [] ≡ None
unfolding segments_fault
segments_fault-nil settings i earlier = refl

-- one more segment is laid
pub laid-more : (earlier : List Laid) (i : ℕ) (xs : List Segment) (j : ℕ) (x : Segment) → j < length xs → x ≡ get_or xs j x →
    (earlier ++ laid i (take j xs)) ++ laid i (x ∷ []) ≡ earlier ++ laid i (take (j + 1) xs)
laid-more earlier i xs j x below is =
    append_assoc earlier (laid i (take j xs)) (laid i (x ∷ []))
    ∙ ap (λ ls. earlier ++ ls) (sym (map-append (λ segment. record { image = i; segment = segment }) (take j xs) (x ∷ []))
    ∙ ap (laid i) (sym (take-more xs j x below is)))

pub segments_fault-passed : (settings : Settings) (i : ℕ) (earlier : List Laid) (xs : List Segment) (j : ℕ) (x : Segment) →
    j < length xs → x ≡ get_or xs j x → segment_fault settings i (earlier ++ laid i (take j xs)) x ≡ None →
    segments_fault settings i (earlier ++ laid i (take j xs)) (drop j xs)
    ≡ segments_fault settings i (earlier ++ laid i (take (j + 1) xs)) (drop (j + 1) xs)
segments_fault-passed settings i earlier xs j x below is passed =
    ap (segments_fault settings i (earlier ++ laid i (take j xs))) (drop-left xs j x below is)
    ∙ segments_fault-rest settings i (earlier ++ laid i (take j xs)) x (drop (j + 1) xs) passed
    ∙ ap (λ ls. segments_fault settings i ls (drop (j + 1) xs)) (laid-more earlier i xs j x below is)

pub segments_fault-failed : (settings : Settings) (i : ℕ) (earlier : List Laid) (xs : List Segment) (j : ℕ) (x : Segment)
    (fault : LoadFault) →
    j < length xs → x ≡ get_or xs j x → segment_fault settings i (earlier ++ laid i (take j xs)) x ≡ Some fault →
    segments_fault settings i (earlier ++ laid i (take j xs)) (drop j xs) ≡ Some fault
segments_fault-failed settings i earlier xs j x fault below is failed =
    ap (segments_fault settings i (earlier ++ laid i (take j xs))) (drop-left xs j x below is)
    ∙ segments_fault-first settings i (earlier ++ laid i (take j xs)) x (drop (j + 1) xs) fault failed

-- all segments are laid
pub segments_fault-done : (settings : Settings) (i : ℕ) (earlier : List Laid) (xs : List Segment) (j : ℕ) → length xs ≤ j →
    segments_fault settings i earlier (drop j xs) ≡ None
segments_fault-done settings i earlier xs j past =
    ap (segments_fault settings i earlier) (drop_all j xs past) ∙ segments_fault-nil settings i earlier

pub image_fault-segments : (settings : Settings) (i : ℕ) (earlier : List Laid) (image : Image) (fault : LoadFault) →
    segments_fault settings i earlier image.segments ≡ Some fault → image_fault settings i earlier image ≡ Some fault
unfolding image_fault
image_fault-segments settings i earlier image fault failed = rw failed

pub image_fault-entry : (settings : Settings) (i : ℕ) (earlier : List Laid) (image : Image) →
    segments_fault settings i earlier image.segments ≡ None →
    is_entry (segments_laid (earlier ++ laid i image.segments)) image.entry ≡ false →
    image_fault settings i earlier image ≡ Some (Entry i)
unfolding image_fault
image_fault-entry settings i earlier image passed outside = rw (passed, outside)

pub image_fault-none : (settings : Settings) (i : ℕ) (earlier : List Laid) (image : Image) →
    segments_fault settings i earlier image.segments ≡ None →
    is_entry (segments_laid (earlier ++ laid i image.segments)) image.entry ≡ true →
    image_fault settings i earlier image ≡ None
unfolding image_fault
image_fault-none settings i earlier image passed inside = rw (passed, inside)
