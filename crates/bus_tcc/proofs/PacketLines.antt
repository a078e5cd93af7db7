-- The lines of a packet stand in order: those that an attempt has written, and none.
use Rattle.std.proofs.Common.{◌≡◌, ℕ, zero, suc, ◌<◌, Bool, true, false, ◌||◌, List, [], ◌∷◌, ◌++◌, map, get_or, Option, Some, None}
use Rattle.std.proofs.Common.{is_some, refl, ap, sym, ◌∙◌, subst}
use Rattle.std.specs.Prelude.{cond, unwrap_or, if◌then◌else◌}
use Rattle.tcc_base.specs.declared.access.Tagged.{Tagged}
use Rattle.base_lemmas.proofs.Lemmas.{eight-at, eight-same}
use Rattle.rules_maps.proofs.Lemmas.{has-mask_of}
use Rattle.rules_maps.specs.Cache.{is_modified}
use Rattle.rules_maps.specs.Masks.{has, mask_of, masked}
use Rattle.rules_maps.specs.Shape.{Shape, lines}
use Rattle.rules_maps.specs.Spilled.{holds}
use Rattle.rules_maps.specs.Words.{any_below, any_word, eight, line_of, or_else, those, word_at}
use Rattle.rules_tcc.specs.Commit.{is_written, written_mask}
use Rattle.rules_tcc.specs.State.{CoreState}
use Rattle.rules_bus.specs.Commit.{written_words}
use Rattle.core_node.specs.AtHand.{line_told, lines_told, word_told, words_in}
use Rattle.bus_tcc.specs.Left.{packet_words}
use Rattle.bus_tcc.specs.Machine.{bus_of}
use Rattle.bus_tcc.specs.Packets.{AreInOrder, lines_on, packet_line, packet_line_of, packet_lines}
use Rattle.bus_tcc.specs.declared.bus.Bus.{Bus as CodeBus}
use Rattle.bus_tcc.specs.declared.bus.Bus.TheVariants.{Free, Alone, Packet}
use Rattle.bus_tcc.proofs.Writes.{lines-written, the_line, told-each}

-- ---- none

abbrev nothing_at : (word : ℕ) → Option ℕ
nothing_at w = None

no-word : (l : ℕ) → any_word (λ w. is_some (nothing_at w)) l ≡ false
unfolding any_word any_below
no-word l = refl

no-lines : (n : ℕ) → those (any_word (λ w. is_some (nothing_at w))) n ≡ []
unfolding those
no-lines zero = refl
no-lines (suc n) = λ i. no-lines n i ++ cond (no-word n i) (n ∷ []) []

no-packet : (sh : Shape) → packet_lines sh nothing_at ≡ []
unfolding packet_lines
no-packet sh = ap (map (packet_line nothing_at)) (no-lines (lines sh))

pub none-in-order : (sh : Shape) → AreInOrder sh []
unfolding words_in
none-in-order sh = sym (no-packet sh)

-- or those that are in order
pub unless-in-order : (sh : Shape) (none : Bool) (new old : List Tagged) → new ≡ (if none then [] else old) → AreInOrder sh old
    → AreInOrder sh new
unless-in-order sh true new old e h = subst (AreInOrder sh) (sym e) (none-in-order sh)
unless-in-order sh false new old e h = subst (AreInOrder sh) (sym e) h

-- ---- those that an attempt has written

-- a word that the attempt has modified is valid
abbrev IsValid : CoreState → Type 0
IsValid s = (w : ℕ) → s.cache.modified w ≡ true → is_some (s.cache.value w) ≡ true

some-so : (o : Option ℕ) (b : Bool) (v : Option ℕ) → (b ≡ true → is_some v ≡ true)
    → (b || is_some o) ≡ is_some (or_else o (if b then v else None))
some-so (Some x) true v h = refl
some-so (Some x) false v h = refl
some-so None true v h = sym (h refl)
some-so None false v h = refl

wrote-word : (s : CoreState) (w : ℕ) → IsValid s → (s.cache.modified w || is_some (s.spilled w)) ≡ is_some (written_words s w)
unfolding written_words
wrote-word s w h = some-so (s.spilled w) (s.cache.modified w) (s.cache.value w) (h w)

value-so : (o : Option ℕ) (b : Bool) (v : Option ℕ)
    → (if is_some (or_else o (if b then v else None)) then unwrap_or (or_else o v) 0 else 0)
    ≡ unwrap_or (or_else o (if b then v else None)) 0
value-so (Some x) b v = refl
value-so None true (Some y) = refl
value-so None true None = refl
value-so None false v = refl

told-value : (s : CoreState) (w : ℕ) → (if is_some (written_words s w) then word_told s w else 0) ≡ unwrap_or (written_words s w) 0
unfolding written_words
told-value s w = value-so (s.spilled w) (s.cache.modified w) (s.cache.value w)

-- one line
line-so : (s : CoreState) (t l : ℕ) → IsValid s → packet_line_of (the_line s t l) ≡ packet_line (written_words s) l
unfolding line_told written_mask masked
line-so s t l h =
    let wrote : ℕ → Bool = λ k. s.cache.modified (word_at l k) || is_some (s.spilled (word_at l k)) in
    let has_word : ℕ → Bool = λ k. is_some (written_words s (word_at l k)) in
    let same : wrote ≡ has_word = (λ i k. wrote-word s (word_at l k) h i) in
    let words : eight (λ k. if has (mask_of wrote) k then get_or (eight (λ j. word_told s (word_at l j))) k 0 else 0)
    ≡ eight (λ k. unwrap_or (written_words s (word_at l k)) 0) =
    eight-same _ _
    (λ k below. (λ i. if has-mask_of wrote k below i then eight-at (λ j. word_told s (word_at l j)) k below i else 0)
    ∙ ap (λ b. if b then word_told s (word_at l k) else 0) (wrote-word s (word_at l k) h)
    ∙ told-value s (word_at l k)) in
    (λ i. record { line = l; mask = mask_of (same i); words = words i })

or-any : (p q : ℕ → Bool) (n : ℕ) → (any_below p n || any_below q n) ≡ any_below (λ k. p k || q k) n
unfolding any_below
or-any p q zero = refl
or-any p q (suc n) = turned (any_below p n) (p n) (any_below q n) (q n) ∙ ap (λ b. b || (p n || q n)) (or-any p q n)
  where
    turned : (a b c d : Bool) → ((a || b) || (c || d)) ≡ ((a || c) || (b || d))
    turned true b c d = refl
    turned false true true d = refl
    turned false true false d = refl
    turned false false true d = refl
    turned false false false d = refl

-- the lines of which there is one
written-so : (s : CoreState) → IsValid s → is_written s.cache s.spilled ≡ any_word (λ w. is_some (written_words s w))
unfolding is_written is_modified holds any_word
written-so s h = λ i l. (or-any (λ k. s.cache.modified (word_at l k)) (λ k. is_some (s.spilled (word_at l k))) 8
    ∙ (λ j. any_below (λ k. wrote-word s (word_at l k) h j) 8)) i

map-map : (s : CoreState) (t : ℕ) → IsValid s → (xs : List ℕ)
    → map packet_line_of (map (the_line s t) xs) ≡ map (packet_line (written_words s)) xs
map-map s t h [] = refl
map-map s t h (x ∷ xs) = λ i. line-so s t x h i ∷ map-map s t h xs i

pub told-in-order : (sh : Shape) (s : CoreState) (t : ℕ) → IsValid s
    → ((w : ℕ) → is_some (written_words s w) ≡ true → line_of w < lines sh) → AreInOrder sh (lines_told sh t s)
unfolding packet_lines
told-in-order sh s t h mem =
    ap (map packet_line_of) (told-each sh s t)
    ∙ map-map s t h (those (is_written s.cache s.spilled) (lines sh))
    ∙ ap (λ p. map (packet_line (written_words s)) (those p (lines sh))) (written-so s h)
    ∙ ap (packet_lines sh) (sym (lines-written sh s t h mem))

-- ---- the words of the packet that is on a bus

pub on-bus-words : (b : CodeBus) → words_in (lines_on b) ≡ packet_words (bus_of b)
unfolding words_in
on-bus-words Free = refl
on-bus-words (Alone c) = refl
on-bus-words (Packet p) = refl
