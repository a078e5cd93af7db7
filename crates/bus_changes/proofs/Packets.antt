-- What is told of a packet that came, that is gone, or that stays.
use Rattle.std.proofs.Common.{◌≡◌, ℕ, zero, suc, ◌<◌, ◌==◌, ◌||◌, Bool, true, false, cond, if◌then◌else◌, List, [], ◌∷◌, ◌++◌}
use Rattle.std.proofs.Common.{Option, Some, None, append-nil, inl, inr, length, map, refl, ap, sym, ◌∙◌, arith, nat_le}
use Rattle.std.specs.Prelude.{is_some}
use Rattle.std.specs.List.{flat_map}
use Rattle.std.proofs.lemmas.Bool.Decides.{nat_tests}
use Rattle.std.proofs.lemmas.Bool.{cases_eq}
use Rattle.std.proofs.lemmas.List.{map-append}
use Rattle.std.proofs.lemmas.Simd.{map-map}
use Rattle.tcc_base.specs.declared.access.Tagged.{Tagged}
use Rattle.base_lemmas.proofs.Lemmas.{eq-self, flat-last, those-empty}
use Rattle.rules_maps.specs.Shape.{Shape, lines}
use Rattle.rules_maps.specs.Words.{any_below, any_word, those}
use Rattle.rules_tcc.specs.Seen.{numbers}
use Rattle.rules_bus.specs.State.{Bus}
use Rattle.bus_tcc.specs.Left.{packet_words}
use Rattle.bus_tcc.specs.Packets.{PacketLine, packet_line, packet_line_of, packet_lines}
use Rattle.bus_state.specs.Records.{PacketHas}
use Rattle.bus_changes.specs.Changes.{BusChange, Gone, Told, bus_change_lines, line_changes, line_in}
use Rattle.bus_changes.specs.Changes.{packet_changes}
use Rattle.bus_changes.specs.Following.{NoneInPlace, may_change}
use Rattle.bus_changes.specs.Memory.{number_of_line}
use Rattle.bus_changes.proofs.Words.{flat-none}
use Rattle.watch_changes.proofs.Lemmas.{alike-self}

abbrev has_word : (ℕ → Option ℕ) → ℕ → Bool
has_word f = any_word (λ w. is_some (f w))

-- ---- the lines of a packet without words

no-word : (l : ℕ) → has_word (λ w. None) l ≡ false
unfolding any_word any_below
no-word l = refl

pub no-lines : (sh : Shape) → packet_lines sh (λ w. None) ≡ []
unfolding packet_lines
no-lines sh = ap (map (packet_line (λ w. None))) (those-empty (has_word (λ w. None)) (lines sh) no-word)

-- ---- what is told, line by line

told-at : (f g : ℕ → Option ℕ) (l : ℕ) → has_word f l ≡ false
    → line_changes (line_in f l) (line_in g l) ≡ cond (has_word g l) (Told (PacketHas (packet_line g l)) ∷ []) []
unfolding line_in
told-at f g l e = ap (λ b. line_changes (if b then Some (packet_line f l) else None) (line_in g l)) e ∙ go (has_word g l)
  where
    go : (b : Bool) → line_changes None (if b then Some (packet_line g l) else None)
        ≡ cond b (Told (PacketHas (packet_line g l)) ∷ []) []
    go true = refl
    go false = refl

gone-at : (f g : ℕ → Option ℕ) (l : ℕ) → has_word g l ≡ false
    → line_changes (line_in f l) (line_in g l) ≡ cond (has_word f l) (Gone (PacketHas (packet_line f l)) ∷ []) []
unfolding line_in
gone-at f g l e = ap (λ b. line_changes (line_in f l) (if b then Some (packet_line g l) else None)) e ∙ go (has_word f l)
  where
    go : (b : Bool) → line_changes (if b then Some (packet_line f l) else None) None
        ≡ cond b (Gone (PacketHas (packet_line f l)) ∷ []) []
    go true = refl
    go false = refl

-- some numbers, one after another
each : (h : ℕ → BusChange) (k : ℕ → List BusChange) (p : ℕ → Bool) (n : ℕ) → ((l : ℕ) → l < n → k l ≡ cond (p l) (h l ∷ []) [])
    → flat_map k (numbers n) ≡ map h (those p n)
unfolding those
each h k p zero same = refl
each h k p (suc n) same =
    flat-last k (λ j. true) n
    ∙ (λ i. each h k p n (λ l less. same l (omega (arith, less))) i ++ same n (omega arith) i)
    ∙ ap (λ t. map h (those p n) ++ t) (go (p n)) ∙ sym (map-append h (those p n) (cond (p n) (n ∷ []) []))
  where
    go : (b : Bool) → cond b (h n ∷ []) [] ≡ map h (cond b (n ∷ []) [])
    go true = refl
    go false = refl

-- no number has it
last-none : (p : ℕ → Bool) (n : ℕ) (ns : List ℕ) (b : Bool) → ns ++ cond b (n ∷ []) [] ≡ [] → (ns ≡ []) × (b ≡ false)
last-none p n [] false r = (refl, refl)
last-none p n [] true r = absurd (cc)
last-none p n (x ∷ ns) b r = absurd (cc)

those-none : (p : ℕ → Bool) (n l : ℕ) → those p n ≡ [] → l < n → p l ≡ false
unfolding those
those-none p zero l e h = absurd (omega (arith, h))
those-none p (suc n) l e h =
    let both = last-none p n (those p n) (p n) e in
    elim (cases_eq l n) [
      | inl same ↦ ap p same ∙ both.1
      | inr apart ↦ those-none p n l both.0 (omega (arith, h, apart))
    ]

map-none : {A B : Type 0} (f : A → B) (xs : List A) → map f xs ≡ [] → xs ≡ []
map-none f [] e = refl
map-none f (x ∷ xs) e = absurd (cc)

-- ---- a whole packet

pub packet-came : (sh : Shape) (f g : ℕ → Option ℕ) → packet_lines sh f ≡ []
    → packet_changes sh f g ≡ map Told (map PacketHas (packet_lines sh g))
unfolding packet_changes packet_lines
packet-came sh f g e =
    let none = map-none (packet_line f) (those (has_word f) (lines sh)) e in
    each (λ l. Told (PacketHas (packet_line g l))) (λ l. line_changes (line_in f l) (line_in g l)) (has_word g) (lines sh)
    (λ l less. told-at f g l (those-none (has_word f) (lines sh) l none less))
    ∙ sym (ap (map Told) (map-map PacketHas (packet_line g) (those (has_word g) (lines sh)))
    ∙ map-map Told (λ l. PacketHas (packet_line g l)) (those (has_word g) (lines sh)))

pub packet-went : (sh : Shape) (f g : ℕ → Option ℕ) → packet_lines sh g ≡ []
    → packet_changes sh f g ≡ map Gone (map PacketHas (packet_lines sh f))
unfolding packet_changes packet_lines
packet-went sh f g e =
    let none = map-none (packet_line g) (those (has_word g) (lines sh)) e in
    each (λ l. Gone (PacketHas (packet_line f l))) (λ l. line_changes (line_in f l) (line_in g l)) (has_word f) (lines sh)
    (λ l less. gone-at f g l (those-none (has_word g) (lines sh) l none less))
    ∙ sym (ap (map Gone) (map-map PacketHas (packet_line f) (those (has_word f) (lines sh)))
    ∙ map-map Gone (λ l. PacketHas (packet_line f l)) (those (has_word f) (lines sh)))

same-self : (d : Option PacketLine) → line_changes d d ≡ []
same-self None = refl
same-self (Some d) = rw (eq-self d.mask, alike-self d.words) refl

pub packet-stays : (sh : Shape) (f : ℕ → Option ℕ) → packet_changes sh f f ≡ []
unfolding packet_changes
packet-stays sh f = flat-none (λ l. line_changes (line_in f l) (line_in f l)) (lines sh) (λ l less. same-self (line_in f l))

-- ---- the numbers of its lines

pub numbers-are : (sh : Shape) (b : Bus) (ts : List Tagged) → map packet_line_of ts ≡ packet_lines sh (packet_words b)
    → nat_le sh.cores 1 ≡ false → map number_of_line ts ≡ those (may_change sh b) (lines sh)
unfolding packet_lines
numbers-are sh b ts e many =
    let ls = those (has_word (packet_words b)) (lines sh) in
    sym (map-map (λ (d : PacketLine). d.line) packet_line_of ts)
    ∙ ap (map (λ (d : PacketLine). d.line)) e
    ∙ map-map (λ (d : PacketLine). d.line) (packet_line (packet_words b)) ls
    ∙ itself ls
    ∙ ap (λ t. those (λ l. t || has_word (packet_words b) l) (lines sh)) (sym many)
  where
    itself : (ns : List ℕ) → map (λ l. l) ns ≡ ns
    itself [] = refl
    itself (n ∷ ns) = ap (λ ms. n ∷ ms) (itself ns)

-- ---- whether there is a packet

pub is-none : {A : Type 0} (xs : List A) (b : Bool) → b ≡ (length xs == 0) → b ≡ true → xs ≡ []
is-none {A = A} [] b e t = refl
is-none {A = A} (x ∷ xs) b e t = absurd (let none : (length (x ∷ xs) == 0) ≡ false = grind (arith, nat_tests) in cc)

pub is-some : {A : Type 0} (xs : List A) (b : Bool) → b ≡ (length xs == 0) → b ≡ false → xs ≡ [] → ⊥
is-some {A = A} xs b e t n = let none : (length xs == 0) ≡ true = ap (λ (ys : List A). length ys == 0) n in cc

map-some : {A B : Type 0} (f : A → B) (xs : List A) → (xs ≡ [] → ⊥) → map f xs ≡ [] → ⊥
map-some f xs some e = some (map-none f xs e)

-- one that stays
pub packet-still : (sh : Shape) (b a : Bus) (before after : List Tagged) (text : List ℕ)
    → map packet_line_of before ≡ packet_lines sh (packet_words b) → map packet_line_of after ≡ packet_lines sh (packet_words a)
    → (before ≡ [] → ⊥) → (after ≡ [] → ⊥) → NoneInPlace b a
    → text ≡ text ++ bus_change_lines (packet_changes sh (packet_words b) (packet_words a))
unfolding bus_change_lines
packet-still sh b a before after text p q some still (inl none) =
    absurd (map-some packet_line_of before some (p ∙ ap (packet_lines sh) none ∙ no-lines sh))
packet-still sh b a before after text p q some still (inr (inl none)) =
    absurd (map-some packet_line_of after still (q ∙ ap (packet_lines sh) none ∙ no-lines sh))
packet-still sh b a before after text p q some still (inr (inr same)) =
    sym (append-nil text)
    ∙ ap (λ cs. text ++ bus_change_lines cs)
    (sym (ap (packet_changes sh (packet_words b)) same ∙ packet-stays sh (packet_words b)))
