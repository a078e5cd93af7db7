-- The copies of a line's words, place by place.
use Rattle.std.proofs.Common.{◌≡◌, ◌≢◌, ℕ, ◌+◌, ◌<◌, ◌≤◌, List, [], ◌∷◌, length, length-set, get_or, refl, ap, sym, ◌∙◌, arith, inl, inr}
use Rattle.std.proofs.Common.{if◌then◌else◌}
use Rattle.std.proofs.Common.{Bool, true, false}
use Rattle.std.proofs.Common.{◌*◌, ◌/◌, ◌%◌, map}
use Rattle.std.specs.Prelude.{nat_eq, slice_set}
use Rattle.std.specs.List.{range_with_len}
use Rattle.std.proofs.lemmas.List.{ext_get_or}
use Rattle.std.proofs.lemmas.List.FromFn.{get_or-map-range_with_len, length-map-range_with_len}
use Rattle.std.proofs.lemmas.List.{get_or-set_other, get_or-set_same}
use Rattle.std.proofs.lemmas.Bool.{cases_eq, eq-eqb, ne_eqb}
use Rattle.rules_maps.specs.Masks.{has, hit}
use Rattle.rules_maps.specs.Nodes.{WriteBack}
use Rattle.rules_maps.specs.Words.{line_of, place_of, word_at}
use Rattle.tcc_base.specs.declared.names.LineAddr.{LineAddr}
use Rattle.tcc_base.specs.declared.names.Mask.{Mask}
use Rattle.tcc_base.specs.declared.names.Tid.{Tid}
use Rattle.base_lemmas.proofs.Lemmas.{line_of-word_at, place_of-word_at}
use Rattle.tcc_msg.specs.Plain.{msg_of}
use Rattle.tcc_msg.specs.declared.msg.Msg.{Msg as CodeMsg}
use Rattle.tcc_msg.specs.declared.msg.Msg.TheVariants as code
use Rattle.rules_maps.proofs.Lemmas.{has-zero}
use Rattle.rules_tcc.specs.Seen.{Copy, copy_of, newer, newest}
use Rattle.net_core.specs.Copies.{nth_copy, plain_copy}
use Rattle.net_core.specs.declared.copies.Copied.{Copied}

pub newest-none : (a : Copy) → a ≡ newest a []
unfolding newest
newest-none a = refl

-- what becomes of the copy at a place among words under a mask
unfoldable pub under : (mask : ℕ) → List ℕ → (tag place : ℕ) → Copy → Copy
under m ws g k a = if has m k then newer a (record { tag = g; value = get_or ws k 0 }) else a

pub under-held : (m : ℕ) (ws : List ℕ) (g k : ℕ) (a : Copy) → has m k ≡ true
    → newer a (record { tag = g; value = get_or ws k 0 }) ≡ under m ws g k a
unfolding under
under-held m ws g k a h = rw h refl

pub under-free : (m : ℕ) (ws : List ℕ) (g k : ℕ) (a : Copy) → has m k ≡ false → a ≡ under m ws g k a
unfolding under
under-free m ws g k a h = rw h refl

pub under-copies : (l m : ℕ) (ws : List ℕ) (g k : ℕ) (a : Copy) → k < 8
    → under m ws g k a ≡ newest a (copy_of (word_at l k) (WriteBack l m ws g))
unfolding under hit newest
under-copies l m ws g k a h =
    let own : nat_eq l (line_of (word_at l k)) ≡ true = eq-eqb l (line_of (word_at l k)) (sym (line_of-word_at l k h)) in
    let place : place_of (word_at l k) ≡ k = place_of-word_at l k h in
    rw own (rw place (go (has m k)))
  where
    go : (b : Bool) → (if b then newer a (record { tag = g; value = get_or ws k 0 }) else a)
        ≡ newest a (if b then record { tag = g; value = get_or ws k 0 } ∷ [] else [])
    go true = refl
    go false = refl

-- the places below n are done, and the others as they were
pub record DoneBelow (m : ℕ) (ws : List ℕ) (g n : ℕ) (old new : List Copied) : Type 0 where
  pub count : length new ≡ 8
  pub done : (k : ℕ) → k < n → nth_copy new k ≡ under m ws g k (nth_copy old k)
  pub left : (k : ℕ) → n ≤ k → nth_copy new k ≡ nth_copy old k

done-next : (m : ℕ) (ws : List ℕ) (g n : ℕ) (old new next : List Copied) → DoneBelow m ws g n old new → length next ≡ 8
    → nth_copy next n ≡ under m ws g n (nth_copy new n) → ((k : ℕ) → k ≢ n → nth_copy next k ≡ nth_copy new k)
    → DoneBelow m ws g (n + 1) old next
done-next m ws g n old new next d l own others = record {
  count = l;
  done = λ k b. elim (cases_eq k n) [
    | inl e ↦ rw e (own ∙ ap (under m ws g n) (d.left n (omega arith)))
    | inr e ↦ others k e ∙ d.done k (omega arith)
  ];
  left = λ k b. others k (omega arith) ∙ d.left k (omega arith);
}

-- one place more, where the mask holds it, and where it doesn't
pub done-held : (m : ℕ) (ws : List ℕ) (g n : ℕ) (old new : List Copied) (x : Copied) → DoneBelow m ws g n old new → n < 8 → has m n ≡ true
    → plain_copy x ≡ newer (nth_copy new n) (record { tag = g; value = get_or ws n 0 }) → DoneBelow m ws g (n + 1) old (slice_set new n x)
done-held m ws g n old new x d b h e =
    let within : n < length new = omega (arith, d.count) in
    done-next m ws g n old new (slice_set new n x) d (length-set new n x ∙ d.count)
    (ap plain_copy (get_or-set_same new n x _ within) ∙ e ∙ under-held m ws g n (nth_copy new n) h)
    (λ k q. ap plain_copy (get_or-set_other new n k x _ q))

pub done-free : (m : ℕ) (ws : List ℕ) (g n : ℕ) (old new : List Copied) → DoneBelow m ws g n old new → has m n ≡ false
    → DoneBelow m ws g (n + 1) old new
done-free m ws g n old new d h = done-next m ws g n old new new d d.count (under-free m ws g n (nth_copy new n) h) (λ k q. refl)

-- ---- a message

-- only these kinds carry words
pub newest-wordless : (a : Copy) (w : ℕ) (m : CodeMsg)
    → ((mask : Mask) (line : LineAddr) (ws : List ℕ) (tag : Tid) → m ≡ code.WriteBack mask line ws tag → ⊥)
    → ((mask : Mask) (line : LineAddr) (ws : List ℕ) (tag : Tid) → m ≡ code.Flush mask line ws tag → ⊥)
    → a ≡ newest a (copy_of w (msg_of m))
newest-wordless a w (code.WriteBack mask line ws tag) b f = absurd (b mask line ws tag refl)
newest-wordless a w (code.Flush mask line ws tag) b f = absurd (f mask line ws tag refl)
newest-wordless a w code.TidReq b f = newest-none a
newest-wordless a w (code.TidGrant t) b f = newest-none a
newest-wordless a w (code.LoadReq l t) b f = newest-none a
newest-wordless a w (code.Fill l ws) b f = newest-none a
newest-wordless a w (code.Skip t) b f = newest-none a
newest-wordless a w (code.Probe t) b f = newest-none a
newest-wordless a w (code.ProbeReply t u) b f = newest-none a
newest-wordless a w (code.Mark l m t) b f = newest-none a
newest-wordless a w (code.Commit t n) b f = newest-none a
newest-wordless a w (code.Abort t) b f = newest-none a
newest-wordless a w (code.DataReq l) b f = newest-none a
newest-wordless a w (code.Inv l m t) b f = newest-none a
newest-wordless a w (code.InvAck l k) b f = newest-none a

-- words of another line
pub newest-elsewhere : (a : Copy) (l k : ℕ) (own m : ℕ) (ws : List ℕ) (g : ℕ) → (own ≡ l → ⊥) → k < 8
    → a ≡ newest a (copy_of (word_at l k) (WriteBack own m ws g))
unfolding hit newest
newest-elsewhere a l k own m ws g e h =
    let line : line_of (word_at l k) ≡ l = line_of-word_at l k h in
    let other : nat_eq own l ≡ false = ne_eqb own l e in
    rw (line, other) refl

-- no words
pub newest-empty : (a : Copy) (l k : ℕ) (ws : List ℕ) (g : ℕ) → k < 8 → a ≡ newest a (copy_of (word_at l k) (WriteBack l 0 ws g))
newest-empty a l k ws g h = under-free 0 ws g k a (has-zero k) ∙ under-copies l 0 ws g k a h

-- ---- eight words

-- the words of a line, each by its place
pub line-is : (f : ℕ → ℕ) (l : ℕ) (xs : List ℕ) → length xs ≡ 8 → ((k : ℕ) → k < 8 → get_or xs k 0 ≡ f (word_at l k))
    → xs ≡ map f (range_with_len (8 * l) 8)
line-is f l xs long each =
    ext_get_or 0 xs (map f (range_with_len (8 * l) 8)) (long ∙ sym (length-map-range_with_len f (8 * l) 8))
    (λ k b. let h : k < 8 = omega (arith, long) in each k h ∙ sym (get_or-map-range_with_len f (8 * l) 8 k (word_at l k) 0 h refl))

pub word-of : (f : ℕ → ℕ) (w : ℕ) → get_or (map f (range_with_len (8 * line_of w) 8)) (place_of w) 0 ≡ f w
word-of f w = get_or-map-range_with_len f (8 * line_of w) 8 (place_of w) w 0 (omega arith) (omega arith)

-- RAM is whole lines
pub line-inside : (ram l : ℕ) → ram % 32 ≡ 0 → 8 * l < ram / 4 → l < ram / 32
line-inside ram l e h = omega arith
