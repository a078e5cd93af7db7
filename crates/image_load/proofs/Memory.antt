-- Memory after one more segment, which lies where no earlier one does.
use Rattle.std.proofs.Common.{◌≡◌, ℕ, ◌+◌, ◌-◌, ◌<◌, ◌≤◌, ◌∙◌, Bool, true, false, List, [], ◌∷◌, ◌++◌, length, slice_index, Option, Some}
use Rattle.std.proofs.Common.{None, is_some, sym, ap, arith, refl, inl, inr, replicate, take, drop, if◌then◌else◌}
use Rattle.std.specs.Option.{option_or}
use Rattle.std.proofs.lemmas.Bool.{cases_lt, lt-leb, le-leb}
use Rattle.std.proofs.lemmas.Bool.Decides.{nat_tests}
use Rattle.std.proofs.lemmas.List.{get_or_past, get_or-take, get_or-drop, length-take-le, length-drop}
use Rattle.std.proofs.lemmas.List.Folds.{find-append}
use Rattle.image_elf.specs.declared.image.Segment.{Segment}
use Rattle.image_load.specs.Memory.{holds, segment_at, byte_in, byte_at, is_held, executes, is_code, all_four}
use Rattle.image_load.specs.Contents.{code_at, code_place}
use Rattle.image_load.specs.Filled.{IsFilled}
use Rattle.image_load.proofs.Lists.{replicate-default}

pub holds-inside : (s : Segment) (addr : ℕ) → s.addr ≤ addr → addr < s.addr + s.size → holds s addr ≡ true
holds-inside s addr low high = grind (arith, nat_tests)

pub holds-below : (s : Segment) (addr : ℕ) → addr < s.addr → holds s addr ≡ false
holds-below s addr low = grind (arith, nat_tests)

pub holds-above : (s : Segment) (addr : ℕ) → s.addr + s.size ≤ addr → holds s addr ≡ false
holds-above s addr high = grind (arith, nat_tests)

pub holds_from : (s : Segment) (addr : ℕ) → holds s addr ≡ true → s.addr ≤ addr
holds_from s addr h = grind (arith, nat_tests)

pub holds_before : (s : Segment) (addr : ℕ) → holds s addr ≡ true → addr < s.addr + s.size
holds_before s addr h = grind (arith, nat_tests)

-- one segment more
segment_at-more : (xs : List Segment) (s : Segment) (addr : ℕ) →
    segment_at (xs ++ s ∷ []) addr ≡ option_or (segment_at xs addr) (if holds s addr then Some s else None)
unfolding segment_at
segment_at-more xs s addr = find-append (λ segment. holds segment addr) xs (s ∷ [])

pub none_from_free : (o : Option Segment) → is_some o ≡ false → o ≡ None
none_from_free None free = refl
none_from_free (Some s) free = cc

or_none : (o : Option Segment) → option_or o None ≡ o
or_none None = refl
or_none (Some s) = refl

segment_at-inside : (xs : List Segment) (s : Segment) (addr : ℕ) → holds s addr ≡ true → is_held xs addr ≡ false →
    segment_at (xs ++ s ∷ []) addr ≡ Some s
segment_at-inside xs s addr inside free =
    segment_at-more xs s addr ∙ rw (none_from_free (segment_at xs addr) free, inside)

segment_at-outside : (xs : List Segment) (s : Segment) (addr : ℕ) → holds s addr ≡ false →
    segment_at (xs ++ s ∷ []) addr ≡ segment_at xs addr
segment_at-outside xs s addr outside = segment_at-more xs s addr ∙ rw outside (or_none (segment_at xs addr))

-- what a place outside the segment keeps
outside_keeps : (base : ℕ) (bytes bytes' : List ℕ) (taken taken' code code' : List Bool) (xs : List Segment) (s : Segment) (k : ℕ) →
    IsFilled base bytes taken code xs → holds s (base + k) ≡ false →
    slice_index bytes' k ≡ slice_index bytes k → code_at taken' k ≡ code_at taken k → code_at code' k ≡ code_at code k →
    (slice_index bytes' k ≡ byte_at (xs ++ s ∷ []) (base + k))
    × (code_at taken' k ≡ is_held (xs ++ s ∷ []) (base + k))
    × (code_at code' k ≡ is_code (xs ++ s ∷ []) (base + k))
outside_keeps base bytes bytes' taken taken' code code' xs s k filled outside b t c =
    let same = segment_at-outside xs s (base + k) outside in (
      b ∙ filled.byte k ∙ sym (ap (byte_in (base + k)) same),
      t ∙ filled.held k ∙ sym (ap is_some same),
      c ∙ filled.executable k
          ∙ sym (ap executes same),
    )

-- a place of the segment: the byte that the file holds there, or zero after them
inside_byte : (base : ℕ) (bytes bytes' : List ℕ) (taken code : List Bool) (xs : List Segment) (s : Segment) (first k : ℕ) →
    IsFilled base bytes taken code xs → base + first ≡ s.addr → first ≤ k → is_held xs (base + k) ≡ false →
    ((j : ℕ) → first ≤ j → j < first + length s.bytes → slice_index bytes' j ≡ slice_index s.bytes (j - first)) →
    ((j : ℕ) → first + length s.bytes ≤ j → slice_index bytes' j ≡ slice_index bytes j) →
    slice_index bytes' k ≡ byte_in (base + k) (Some s)
inside_byte base bytes bytes' taken code xs s first k filled begins low free written above =
    elim (cases_lt k (first + length s.bytes)) [
      | inl early ↦ written k low early ∙ ap (slice_index s.bytes) (let e : k - first ≡ base + k - s.addr = omega arith in e)
      | inr late ↦
          above k late ∙ filled.byte k ∙ ap (byte_in (base + k)) (none_from_free (segment_at xs (base + k)) free)
          ∙ sym (get_or_past s.bytes (base + k - s.addr) 0 (omega arith))
    ]

-- RAM after a segment's bytes were written, its places marked as taken, and as code where it is executable
pub filled-more : (base : ℕ) (bytes bytes' : List ℕ) (taken taken' code code' : List Bool) (xs : List Segment) (s : Segment) (first end : ℕ)
    →
    IsFilled base bytes taken code xs →
    base + first ≡ s.addr → base + end ≡ s.addr + s.size → length s.bytes ≤ s.size →
    ((k : ℕ) → first ≤ k → k < end → code_at taken k ≡ false) →
    ((k : ℕ) → first ≤ k → k < first + length s.bytes → slice_index bytes' k ≡ slice_index s.bytes (k - first)) →
    ((k : ℕ) → k < first → slice_index bytes' k ≡ slice_index bytes k) →
    ((k : ℕ) → first + length s.bytes ≤ k → slice_index bytes' k ≡ slice_index bytes k) →
    ((k : ℕ) → first ≤ k → k < end → code_at taken' k ≡ true) →
    ((k : ℕ) → k < first → code_at taken' k ≡ code_at taken k) →
    ((k : ℕ) → end ≤ k → code_at taken' k ≡ code_at taken k) →
    ((k : ℕ) → first ≤ k → k < end → code_at code' k ≡ s.exec) →
    ((k : ℕ) → k < first → code_at code' k ≡ code_at code k) →
    ((k : ℕ) → end ≤ k → code_at code' k ≡ code_at code k) →
    IsFilled base bytes' taken' code' (xs ++ s ∷ [])
filled-more base bytes bytes' taken taken' code code' xs s first end filled begins ends within free b b_low b_high t t_low t_high c c_low
    c_high =
    record {
      byte = λ k. (all k).0;
      held = λ k. (all k).1;
      executable = λ k. (all k).2;
      from_base = λ addr low. segment_at-outside xs s addr (holds-below s addr (omega arith)) ∙ filled.from_base addr low;
    }
  where
    inside : (k : ℕ) → first ≤ k → k < end →
        (slice_index bytes' k ≡ byte_at (xs ++ s ∷ []) (base + k))
        × (code_at taken' k ≡ is_held (xs ++ s ∷ []) (base + k))
        × (code_at code' k ≡ is_code (xs ++ s ∷ []) (base + k))
    inside k low high =
        let not_held : is_held xs (base + k) ≡ false = sym (filled.held k) ∙ free k low high in
        let here = segment_at-inside xs s (base + k) (holds-inside s (base + k) (omega arith) (omega arith)) not_held in (
          inside_byte base bytes bytes' taken code xs s first k filled begins low not_held b b_high ∙ sym (ap (byte_in (base + k)) here),
          t k low high ∙ sym (ap is_some here),
          c k low high ∙ sym (ap executes here),
        )

    all : (k : ℕ) →
        (slice_index bytes' k ≡ byte_at (xs ++ s ∷ []) (base + k))
        × (code_at taken' k ≡ is_held (xs ++ s ∷ []) (base + k))
        × (code_at code' k ≡ is_code (xs ++ s ∷ []) (base + k))
    all k =
        elim (cases_lt k first) [
          | inl below ↦ outside_keeps base bytes bytes' taken taken' code code' xs s k filled (holds-below s (base + k) (omega arith))
              (b_low k below) (t_low k below) (c_low k below)
          | inr low ↦
              elim (cases_lt k end) [
                | inl high ↦ inside k low high
                | inr above ↦
                    outside_keeps base bytes bytes' taken taken' code code' xs s k filled (holds-above s (base + k) (omega arith))
                    (b_high k (omega arith)) (t_high k above) (c_high k above)
              ]
        ]

-- RAM with no segments
pub filled-empty : (base n : ℕ) (bytes : List ℕ) (taken code : List Bool) →
    bytes ≡ replicate n 0 → taken ≡ replicate n false → code ≡ replicate n false → IsFilled base bytes taken code []
unfolding segment_at
filled-empty base n bytes taken code b t c = record {
  byte = λ k. ap (λ xs. slice_index xs k) b ∙ replicate-default n k 0;
  held = λ k. ap (λ xs. code_at xs k) t ∙ replicate-default n k false;
  executable = λ k. ap (λ xs. code_at xs k) c ∙ replicate-default n k false;
  from_base = λ addr low. refl;
}

-- an empty segment changes nothing
pub filled-nothing : (base : ℕ) (bytes : List ℕ) (taken code : List Bool) (xs : List Segment) (s : Segment) →
    s.size ≡ 0 → IsFilled base bytes taken code xs → IsFilled base bytes taken code (xs ++ s ∷ [])
filled-nothing base bytes taken code xs s empty filled = record {
  byte = λ k. filled.byte k ∙ sym (ap (byte_in (base + k)) (same (base + k)));
  held = λ k. filled.held k ∙ sym (ap is_some (same (base + k)));
  executable = λ k. filled.executable k ∙ sym (ap executes (same (base + k)));
  from_base = λ addr low. same addr ∙ filled.from_base addr low;
}
  where
    same : (addr : ℕ) → segment_at (xs ++ s ∷ []) addr ≡ segment_at xs addr
    same addr = segment_at-outside xs s addr (not_here addr)
      where
        not_here : (a : ℕ) → holds s a ≡ false
        not_here a = elim (cases_lt a s.addr) [ inl below ↦ holds-below s a below | inr from ↦ holds-above s a (omega arith) ]

-- the marks of a part that is all unmarked
pub unmarked-part : (marks : List Bool) (first end : ℕ) → end ≤ length marks →
    ((j : ℕ) → j < length (take (end - first) (drop first marks)) → code_at (take (end - first) (drop first marks)) j ≡ false) →
    (k : ℕ) → first ≤ k → k < end → code_at marks k ≡ false
unmarked-part marks first end within part k low high =
    let dropped = length-drop first marks in
    let taken = length-take-le (end - first) (drop first marks) (omega (arith, dropped)) in
    let place : first + (k - first) ≡ k = omega arith in
    sym (ap (code_at marks) place) ∙ sym (get_or-drop first marks (k - first) false)
    ∙ sym (get_or-take (end - first) (drop first marks) (k - first) false (omega arith))
    ∙ part (k - first) (omega (arith, taken))

-- the code that a place stands for
code-from_base : (base : ℕ) (bytes : List ℕ) (taken code : List Bool) (xs : List Segment) (addr : ℕ) →
    IsFilled base bytes taken code xs → base ≤ addr → code_at code (addr - base) ≡ is_code xs addr
code-from_base base bytes taken code xs addr filled from =
    let place : base + (addr - base) ≡ addr = omega arith in
    filled.executable (addr - base) ∙ ap (is_code xs) place

-- four bytes of code, by their marks and by the segments
pub all_four-from_base : (base : ℕ) (bytes : List ℕ) (taken code : List Bool) (xs : List Segment) (addr : ℕ) →
    IsFilled base bytes taken code xs → base ≤ addr → all_four (code_at code) (addr - base) ≡ all_four (is_code xs) addr
unfolding all_four
all_four-from_base base bytes taken code xs addr filled from =
    let c0 = code-from_base base bytes taken code xs addr filled from in
    let c1 = at 1 in
    let c2 = at 2 in
    let c3 = at 3 in
    rw (c0, c1, c2, c3)
  where
    at : (j : ℕ) → code_at code (addr - base + j) ≡ is_code xs (addr + j)
    at j =
        let place : addr + j - base ≡ addr - base + j = omega arith in
        sym (ap (code_at code) place) ∙ code-from_base base bytes taken code xs (addr + j) filled (omega arith)

pub all_four-below : (base : ℕ) (bytes : List ℕ) (taken code : List Bool) (xs : List Segment) (addr : ℕ) →
    IsFilled base bytes taken code xs → addr < base → all_four (is_code xs) addr ≡ false
unfolding all_four
all_four-below base bytes taken code xs addr filled below =
    let none : is_code xs addr ≡ false = ap executes (filled.from_base addr below) in
    rw none

-- the place of four bytes of code is found exactly where all four are code
pub code_place-is_some : (base : ℕ) (bytes : List ℕ) (taken code : List Bool) (xs : List Segment) (addr : ℕ) →
    IsFilled base bytes taken code xs → is_some (code_place base code addr) ≡ all_four (is_code xs) addr
unfolding code_place
code_place-is_some base bytes taken code xs addr filled =
    elim (cases_lt addr base) [
      | inl below ↦
          let before = lt-leb base addr below in
          let none = all_four-below base bytes taken code xs addr filled below in
          rw (before, none)
      | inr from ↦
          let after = le-leb base addr from in
          let same = all_four-from_base base bytes taken code xs addr filled from in
          rw (after, same) (by_cases (all_four (is_code xs) addr))
    ]
  where
    by_cases : (b : Bool) → is_some (if b then Some (addr - base) else None) ≡ b
    by_cases true = refl
    by_cases false = refl
