-- A segment shares a byte with none of the earlier ones exactly where all its bytes are free.
use Rattle.std.proofs.Common.{◌≡◌, ℕ, ◌+◌, ◌<◌, ◌≤◌, ◌∙◌, Bool, true, false, max, min, List, [], ◌∷◌, Some, None, sym, arith, refl}
use Rattle.std.specs.List.{find}
use Rattle.std.proofs.lemmas.Bool.{ltb-true, lt-ltb}
use Rattle.image_elf.specs.declared.image.Segment.{Segment}
use Rattle.image_load.specs.Memory.{holds, segment_at, is_held}
use Rattle.image_load.specs.Overlap.{Laid, segments_laid, extent_of, extents_laid, shares_byte}
use Rattle.image_load.proofs.Memory.{holds-inside, holds_from, holds_before}

-- an address in both
shares-both : (i j addr : ℕ) (s t : Segment) → s.addr ≤ addr → addr < s.addr + s.size → holds t addr ≡ true →
    shares_byte (extent_of i s) (extent_of j t) ≡ true
shares-both i j addr s t low high other =
    let from = holds_from t addr other in
    let before = holds_before t addr other in
    lt-ltb (max s.addr t.addr) (min (s.addr + s.size) (t.addr + t.size)) (omega arith)

-- the later of the first addresses is one
both-shares : (i j : ℕ) (s t : Segment) → shares_byte (extent_of i s) (extent_of j t) ≡ true →
    (s.addr ≤ max s.addr t.addr) × (max s.addr t.addr < s.addr + s.size) × (holds t (max s.addr t.addr) ≡ true)
both-shares i j s t shares =
    let below = ltb-true (max s.addr t.addr) (min (s.addr + s.size) (t.addr + t.size)) shares in
    (omega arith, omega arith, holds-inside t (max s.addr t.addr) (omega arith) (omega arith))

held-first : (x : Segment) (xs : List Segment) (addr : ℕ) → holds x addr ≡ true → is_held (x ∷ xs) addr ≡ true
unfolding segment_at
held-first x xs addr here = rw here

held-rest : (x : Segment) (xs : List Segment) (addr : ℕ) → holds x addr ≡ false → is_held (x ∷ xs) addr ≡ is_held xs addr
unfolding segment_at
held-rest x xs addr not_here = rw not_here

held-none : (addr : ℕ) → is_held [] addr ≡ false
unfolding segment_at
held-none addr = refl

-- what isn't held by any isn't held by the rest
not_held-rest : (x : Segment) (xs : List Segment) (addr : ℕ) → is_held (x ∷ xs) addr ≡ false → is_held xs addr ≡ false
not_held-rest x xs addr free = go (holds x addr) refl
  where
    go : (b : Bool) → holds x addr ≡ b → is_held xs addr ≡ false
    go true here = let held = held-first x xs addr here in cc
    go false not_here = sym (held-rest x xs addr not_here) ∙ free

pub find-from_free : (i : ℕ) (s : Segment) (earlier : List Laid) →
    ((addr : ℕ) → s.addr ≤ addr → addr < s.addr + s.size → is_held (segments_laid earlier) addr ≡ false) →
    find (shares_byte (extent_of i s)) (extents_laid earlier) ≡ None
find-from_free i s [] free = refl
find-from_free i s (p ∷ ps) free =
    go (shares_byte (extent_of i s) (extent_of p.image p.segment)) refl
    (find-from_free i s ps (λ addr low high. not_held-rest p.segment (segments_laid ps) addr (free addr low high)))
  where
    go : (b : Bool) → shares_byte (extent_of i s) (extent_of p.image p.segment) ≡ b →
        find (shares_byte (extent_of i s)) (extents_laid ps) ≡ None →
        find (shares_byte (extent_of i s)) (extents_laid (p ∷ ps)) ≡ None
    go true shares rest =
        let both = both-shares i p.image s p.segment shares in
        let held = held-first p.segment (segments_laid ps) (max s.addr p.segment.addr) both.2 in
        let not_held = free (max s.addr p.segment.addr) both.0 both.1 in
        cc
    go false apart rest = rw apart rest

pub free-from_find : (i : ℕ) (s : Segment) (earlier : List Laid) →
    find (shares_byte (extent_of i s)) (extents_laid earlier) ≡ None →
    (addr : ℕ) → s.addr ≤ addr → addr < s.addr + s.size → is_held (segments_laid earlier) addr ≡ false
free-from_find i s [] none addr low high = held-none addr
free-from_find i s (p ∷ ps) none addr low high =
    go (shares_byte (extent_of i s) (extent_of p.image p.segment)) refl (λ rest. free-from_find i s ps rest addr low high)
  where
    go : (b : Bool) → shares_byte (extent_of i s) (extent_of p.image p.segment) ≡ b →
        (find (shares_byte (extent_of i s)) (extents_laid ps) ≡ None → is_held (segments_laid ps) addr ≡ false) →
        is_held (segments_laid (p ∷ ps)) addr ≡ false
    go true shares rest =
        let found : find (shares_byte (extent_of i s)) (extents_laid (p ∷ ps)) ≡ Some (extent_of p.image p.segment) = rw shares in cc
    go false apart rest = held_or (holds p.segment addr) refl
      where
        held_or : (b : Bool) → holds p.segment addr ≡ b → is_held (segments_laid (p ∷ ps)) addr ≡ false
        held_or true here = let shares = shares-both i p.image addr s p.segment low high here in cc
        held_or false not_here =
            let none_left : find (shares_byte (extent_of i s)) (extents_laid ps) ≡ None = rw apart at none in
            held-rest p.segment (segments_laid ps) addr not_here ∙ rest none_left

-- an empty segment shares none
pub find-empty : (i : ℕ) (s : Segment) (earlier : List Laid) → s.size ≡ 0 →
    find (shares_byte (extent_of i s)) (extents_laid earlier) ≡ None
find-empty i s earlier empty = find-from_free i s earlier (λ addr low high. absurd (omega arith))
