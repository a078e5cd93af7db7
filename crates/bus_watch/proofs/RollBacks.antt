-- Some line of a packet has a word that was read, exactly where a word of the packet was.
use Rattle.std.proofs.Common.{◌≡◌, ℕ, zero, suc, Bool, true, false, not, ◌&&◌, ◌||◌, List, [], ◌∷◌, ◌++◌, map, Option, Some, None}
use Rattle.std.proofs.Common.{is_some, refl, ap, sym, ◌∙◌}
use Rattle.std.specs.Prelude.{◌==◌, cond, if◌then◌else◌}
use Rattle.std.proofs.lemmas.List.{map-append}
use Rattle.base_lemmas.proofs.Lemmas.{and-left, any_below-same}
use Rattle.rules_maps.proofs.Lemmas.{any_below-at, any_below-found, has-mask_of}
use Rattle.rules_maps.specs.Masks.{has, mask_of}
use Rattle.rules_maps.specs.Shape.{lines}
use Rattle.rules_maps.specs.Words.{any_below, any_word, or_else, those, word_at}
use Rattle.rules_tcc.specs.State.{CoreState}
use Rattle.rules_bus.specs.Take.{reads_some}
use Rattle.bus_tcc.specs.Packets.{PacketLine, packet_line, packet_lines}
use Rattle.watch.specs.Messages.{words_read}
use Rattle.watch_core.proofs.Lemmas.{some-bit}
use Rattle.bus_watch.specs.Happened.{first_read}
use Rattle.bus_watch.specs.Laws.{ViolationsAreRollBacks}

-- a word of a packet that was read
abbrev hits : (words : ℕ → Option ℕ) → CoreState → (word : ℕ) → Bool
hits f s w = is_some (f w) && s.cache.read w

-- the words of a line that were read are some, exactly where one is
some-read : (f : ℕ → Option ℕ) (s : CoreState) (l : ℕ)
    → not (words_read l (mask_of (λ k. is_some (f (word_at l k)))) s == 0) ≡ any_word (hits f s) l
unfolding words_read any_word
some-read f s l =
    let m : ℕ = mask_of (λ k. is_some (f (word_at l k))) in
    some-bit (λ k. has m k && s.cache.read (word_at l k))
    ∙ any_below-same (λ k. has m k && s.cache.read (word_at l k)) (λ k. hits f s (word_at l k)) 8
    (λ k below. ap (λ b. b && s.cache.read (word_at l k)) (has-mask_of (λ j. is_some (f (word_at l j))) k below))

-- a line of which the packet has no word has none that was read
none-hit : (f : ℕ → Option ℕ) (s : CoreState) (l : ℕ) → any_word (λ w. is_some (f w)) l ≡ false → any_word (hits f s) l ≡ false
unfolding any_word
none-hit f s l e = by (any_below (λ k. hits f s (word_at l k)) 8) refl
  where
    by : (b : Bool) → any_below (λ k. hits f s (word_at l k)) 8 ≡ b → b ≡ false
    by false q = refl
    by true q =
        let r = any_below-found (λ k. hits f s (word_at l k)) 8 q in
        let some = any_below-at (λ k. is_some (f (word_at l k))) 8 r.0 r.1 (and-left _ _ r.2) in
        let bad : true ≡ false = sym some ∙ e in absurd (cc)

-- one after another
some-either : (a b : Option (ℕ × ℕ)) → is_some (or_else a b) ≡ (is_some a || is_some b)
some-either None b = refl
some-either (Some x) b = refl

first-both : (xs ys : List PacketLine) (s : CoreState) → first_read (xs ++ ys) s ≡ or_else (first_read xs s) (first_read ys s)
unfolding first_read
first-both [] ys s = refl
first-both (d ∷ xs) ys s = by (words_read d.line d.mask s == 0) (first-both xs ys s)
  where
    by : (b : Bool) → first_read (xs ++ ys) s ≡ or_else (first_read xs s) (first_read ys s)
        → (if b then first_read (xs ++ ys) s else Some (d.line, words_read d.line d.mask s))
        ≡ or_else (if b then first_read xs s else Some (d.line, words_read d.line d.mask s)) (first_read ys s)
    by true e = e
    by false e = refl

some-unless : (b : Bool) (x : ℕ × ℕ) → is_some (if b then None else Some x) ≡ not b
some-unless true x = refl
some-unless false x = refl

-- one line, where the packet has a word of it
one-line : (f : ℕ → Option ℕ) (s : CoreState) (l : ℕ) (b : Bool) → any_word (λ w. is_some (f w)) l ≡ b
    → is_some (first_read (map (packet_line f) (cond b (l ∷ []) [])) s) ≡ any_word (hits f s) l
unfolding first_read
one-line f s l true e =
    let m : ℕ = mask_of (λ k. is_some (f (word_at l k))) in
    some-unless (words_read l m s == 0) (l, words_read l m s) ∙ some-read f s l
one-line f s l false e = sym (none-hit f s l e)

none-first : (s : CoreState) → is_some (first_read [] s) ≡ false
unfolding first_read
none-first s = refl

below : (f : ℕ → Option ℕ) (s : CoreState) (n : ℕ)
    → is_some (first_read (map (packet_line f) (those (any_word (λ w. is_some (f w))) n)) s) ≡ any_below (any_word (hits f s)) n
unfolding those any_below
below f s zero = none-first s
below f s (suc n) =
    let p : ℕ → Bool = any_word (λ w. is_some (f w)) in
    let last : List ℕ = cond (p n) (n ∷ []) [] in
    ap (λ ds. is_some (first_read ds s)) (map-append (packet_line f) (those p n) last)
    ∙ ap is_some (first-both (map (packet_line f) (those p n)) (map (packet_line f) last) s)
    ∙ some-either (first_read (map (packet_line f) (those p n)) s) (first_read (map (packet_line f) last) s)
    ∙ (λ i. below f s n i || one-line f s n (p n) refl i)

pub violated-read : ViolationsAreRollBacks
unfolding packet_lines reads_some
violated-read sh f s = below f s (lines sh)
