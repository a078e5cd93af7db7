-- What is told of words and lines of memory, and which of them are looked at.
use Rattle.std.proofs.Common.{◌≡◌, ℕ, zero, suc, ◌+◌, ◌*◌, ◌^◌, ◌<◌, ◌≤◌, ◌==◌, ◌||◌, Bool, true, false, cond, if◌then◌else◌, List}
use Rattle.std.proofs.Common.{[], ◌∷◌, ◌++◌, append-nil, append_assoc, drop, length, take, refl, ap, sym, ◌∙◌, arith, subst}
use Rattle.std.specs.Prelude.{get_or}
use Rattle.std.specs.List.{flat_map}
use Rattle.std.proofs.lemmas.Bool.Decides.{nat_tests}
use Rattle.std.proofs.lemmas.List.{drop_all, drop_more, take_more}
use Rattle.std.proofs.lemmas.List.Concat.{flat_map-append}
use Rattle.std.proofs.lemmas.List.Elements.{Contains-get_or}
use Rattle.base_lemmas.proofs.Lemmas.{eq-self, flat-last, line_of-word_at}
use Rattle.image_load.specs.Start.{first_ram}
use Rattle.rules_maps.specs.Shape.{Shape, lines}
use Rattle.rules_maps.specs.Words.{line_of, those, word_at}
use Rattle.rules_maps.proofs.Lemmas.{those-only}
use Rattle.rules_tcc.specs.Seen.{numbers}
use Rattle.rules_bus.specs.State.{BusWorld}
use Rattle.bus_tcc.specs.Machine.{BusMachine, bus_settings_of, bus_start_of, bus_world_of, word_in}
use Rattle.watch_state.specs.Cores.{addr_of}
use Rattle.bus_changes.specs.Changes.{BusChange, bus_change_line, bus_change_lines, memory_changes, value_changes, word_changes}
use Rattle.bus_changes.specs.Changes.{words_changes}
use Rattle.bus_changes.specs.Following.{IsMemoryKept, may_change}
use Rattle.bus_changes.specs.Memory.{AreInMemory, AreTaken, IsCopy, IsRenewed, is_among, may_have_changed}
use Rattle.theorem_bus.proofs.Lemmas.{flat-same}

-- ---- a word

pub word-told : (sh : Shape) (first f g : ℕ → ℕ) (w addr x y old : ℕ) → addr ≡ addr_of sh w → x ≡ f w → y ≡ g w → old ≡ first w
    → value_changes addr x y old ≡ word_changes sh first f g w
unfolding word_changes
word-told sh first f g w addr x y old a p q o = λ i. value_changes (a i) (p i) (q i) (o i)

-- one that is as it was
word-same : (sh : Shape) (first f g : ℕ → ℕ) (w : ℕ) → g w ≡ f w → word_changes sh first f g w ≡ []
unfolding word_changes value_changes
word-same sh first f g w e =
    ap (λ y. value_changes (addr_of sh w) (f w) y (first w)) e ∙ rw (eq-self (f w)) refl

-- ---- lines, one after another

pub lines-on : (g : ℕ → List BusChange) (xs : List ℕ) (k d : ℕ) (text new all : List ℕ) → k < length xs
    → new ≡ text ++ bus_change_lines (g (get_or xs k d)) → text ++ bus_change_lines (flat_map g (drop k xs)) ≡ all
    → new ++ bus_change_lines (flat_map g (drop (k + 1) xs)) ≡ all
unfolding bus_change_lines
lines-on g xs k d text new all h e q =
    let rest = flat_map g (drop (k + 1) xs) in
    let l = get_or xs k d in
    ap (λ t. t ++ flat_map bus_change_line rest) e
    ∙ append_assoc text (flat_map bus_change_line (g l)) (flat_map bus_change_line rest)
    ∙ ap (λ t. text ++ t) (sym (flat_map-append bus_change_line (g l) rest))
    ∙ ap (λ ys. text ++ flat_map bus_change_line (flat_map g ys)) (sym (drop_more xs k d h)) ∙ q

pub lines-all : (g : ℕ → List BusChange) (xs : List ℕ) (k : ℕ) (text all : List ℕ) → length xs ≤ k
    → text ++ bus_change_lines (flat_map g (drop k xs)) ≡ all → text ≡ all
unfolding bus_change_lines
lines-all g xs k text all h q =
    sym (append-nil text) ∙ ap (λ ys. text ++ flat_map bus_change_line (flat_map g ys)) (sym (drop_all k xs h)) ∙ q

-- ---- the lines that are kept

among-append : (k : ℕ) (xs ys : List ℕ) → is_among k (xs ++ ys) ≡ (is_among k xs || is_among k ys)
unfolding is_among
among-append k [] ys = refl
among-append k (x ∷ xs) ys = rw (among-append k xs ys) (go (k == x))
  where
    go : (b : Bool) → (b || (is_among k xs || is_among k ys)) ≡ ((b || is_among k xs) || is_among k ys)
    go true = refl
    go false = refl

among-one : (k x : ℕ) → is_among k (x ∷ []) ≡ (k == x)
unfolding is_among
among-one k x = go (k == x)
  where
    go : (b : Bool) → (b || false) ≡ b
    go true = refl
    go false = refl

-- one line more is taken
pub taken-more : (xs : List ℕ) (k d : ℕ) (f g new now : ℕ → ℕ) → k < length xs
    → AreTaken (λ x. is_among (line_of x) (take k xs)) f g now → AreTaken (λ x. line_of x == get_or xs k d) g new now
    → AreTaken (λ x. is_among (line_of x) (take (k + 1) xs)) f new now
taken-more xs k d f g new now h before one x =
    let more : is_among (line_of x) (take (k + 1) xs) ≡ (is_among (line_of x) (take k xs) || line_of x == get_or xs k d) =
    ap (is_among (line_of x)) (take_more xs k d h) ∙ among-append (line_of x) (take k xs) (get_or xs k d ∷ [])
    ∙ ap (λ b. is_among (line_of x) (take k xs) || b) (among-one (line_of x) (get_or xs k d)) in
    one x ∙ ap (λ y. if line_of x == get_or xs k d then now x else y) (before x)
    ∙ go (line_of x == get_or xs k d) (is_among (line_of x) (take k xs)) ∙ ap (λ b. if b then now x else f x) (sym more)
  where
    go : (a b : Bool) → (if a then now x else if b then now x else f x) ≡ (if b || a then now x else f x)
    go true true = refl
    go true false = refl
    go false true = refl
    go false false = refl

pub among-those : (p : ℕ → Bool) (n k : ℕ) → k < n → p k ≡ true → is_among k (those p n) ≡ true
unfolding those
among-those p zero k h e = absurd (omega (arith, h))
among-those p (suc n) k h e =
    among-append k (those p n) (cond (p n) (n ∷ []) [])
    ∙ go (k == n) refl (λ less. among-those p n k less e)
  where
    or-true : (b : Bool) → (b || true) ≡ true
    or-true true = refl
    or-true false = refl

    go : (b : Bool) → (k == n) ≡ b → (k < n → is_among k (those p n) ≡ true)
        → (is_among k (those p n) || is_among k (cond (p n) (n ∷ []) [])) ≡ true
    go true q ih =
        let same : n ≡ k = grind (arith, nat_tests) in
        let here : p n ≡ true = ap p same ∙ e in
        ap (λ b. is_among k (those p n) || is_among k (cond b (n ∷ []) [])) here
        ∙ ap (λ b. is_among k (those p n) || b) (among-one k n ∙ q) ∙ or-true (is_among k (those p n))
    go false q ih = let less : k < n = grind (arith, nat_tests) in
        ap (λ b. b || is_among k (cond (p n) (n ∷ []) [])) (ih less)

-- those below a number are below it
pub those-below : (p : ℕ → Bool) (n i d : ℕ) → i < length (those p n) → get_or (those p n) i d < n
those-below p n i d h = (those-only p n (get_or (those p n) i d) (Contains-get_or (those p n) i d h)).0

-- and so they are lines of memory
pub in-memory : (sh : Shape) (p : ℕ → Bool) (all : List ℕ) → lines sh ≤ 2 ^ 29 → all ≡ those p (lines sh) → AreInMemory sh all
in-memory sh p all small e = λ i d h.
    let less : get_or all i d < lines sh =
    subst (λ xs. get_or xs i d < lines sh) (sym e) (those-below p (lines sh) i d (subst (λ xs. i < length xs) e h)) in
    (less, omega (arith, less, small))

-- ---- what is told of some lines is what is told of all

pub flat-some : {A : Type 0} (h k : ℕ → List A) (p : ℕ → Bool) (n : ℕ) → ((l : ℕ) → l < n → p l ≡ true → h l ≡ k l)
    → ((l : ℕ) → l < n → p l ≡ false → k l ≡ []) → flat_map h (those p n) ≡ flat_map k (numbers n)
unfolding those
flat-some h k p zero same none = refl
flat-some h k p (suc n) same none =
    flat-last h p n
    ∙ ap (λ t. t ++ cond (p n) (h n) [])
    (flat-some h k p n (λ l less. same l (omega (arith, less))) (λ l less. none l (omega (arith, less))))
    ∙ ap (λ t. flat_map k (numbers n) ++ t) (go (p n) refl)
    ∙ sym (flat-last k (λ j. true) n)
  where
    go : (b : Bool) → p n ≡ b → cond b (h n) [] ≡ k n
    go true e = same n (omega arith) e
    go false e = sym (none n (omega arith) e)

abbrev map_nothing : (A : Type 0) → List ℕ → List A
map_nothing A ns = flat_map (λ l. []) ns

flat-nothing : (A : Type 0) (ns : List ℕ) → map_nothing A ns ≡ []
flat-nothing A [] = refl
flat-nothing A (x ∷ ns) = flat-nothing A ns

pub flat-none : {A : Type 0} (k : ℕ → List A) (n : ℕ) → ((l : ℕ) → l < n → k l ≡ []) → flat_map k (numbers n) ≡ []
flat-none {A} k n none = flat-same k (λ l. []) n none ∙ flat-nothing A (numbers n)

-- ---- memory

-- nothing is told of a line that is as it was
line-same : (sh : Shape) (first f g : ℕ → ℕ) (l : ℕ) → ((x : ℕ) → line_of x ≡ l → g x ≡ f x) → words_changes sh first f g l ≡ []
unfolding words_changes
line-same sh first f g l same =
    flat-none (λ k. word_changes sh first f g (word_at l k)) 8
    (λ k less. word-same sh first f g (word_at l k) (same (word_at l k) (line_of-word_at l k less)))

pub memory-same : (sh : Shape) (first f g : ℕ → ℕ) → g ≡ f → memory_changes sh first f g ≡ []
unfolding memory_changes
memory-same sh first f g e =
    flat-none (words_changes sh first f g) (lines sh) (λ l less. line-same sh first f g l (λ x i. ap (λ h. h x) e))

-- what was kept of a line is what was
line-kept : (sh : Shape) (first kept f g : ℕ → ℕ) (l : ℕ) → l < lines sh → ((x : ℕ) → x < 8 * lines sh → kept x ≡ f x)
    → words_changes sh first kept g l ≡ words_changes sh first f g l
unfolding words_changes word_changes
line-kept sh first kept f g l h same =
    flat-same (λ k. word_changes sh first kept g (word_at l k)) (λ k. word_changes sh first f g (word_at l k)) 8
    (λ k less. ap (λ y. value_changes (addr_of sh (word_at l k)) y (g (word_at l k)) (first (word_at l k)))
    (same (word_at l k) (omega (arith, h, less))))

pub memory-told : (sh : Shape) (first kept : ℕ → ℕ) (w v : BusWorld) → ((x : ℕ) → x < 8 * lines sh → kept x ≡ w.ram x)
    → IsMemoryKept sh w v
    → flat_map (words_changes sh first kept v.ram) (those (may_change sh v.bus) (lines sh)) ≡ memory_changes sh first w.ram v.ram
unfolding memory_changes
memory-told sh first kept w v same m =
    flat-some (words_changes sh first kept v.ram) (words_changes sh first w.ram v.ram) (may_change sh v.bus) (lines sh)
    (λ l less e. line-kept sh first kept w.ram v.ram l less same)
    (λ l less e. line-same sh first w.ram v.ram l (λ x i. m.1 x (subst (λ j. j < lines sh) (sym i) less)
    (ap (may_change sh v.bus) i ∙ e)))

pub memory-copied : (sh : Shape) (old new : List ℕ) (w v : BusWorld) → IsCopy (lines sh) w.ram old → length new ≡ length old
    → AreTaken (λ x. is_among (line_of x) (those (may_change sh v.bus) (lines sh))) (word_in old) (word_in new) v.ram
    → IsMemoryKept sh w v → IsCopy (lines sh) v.ram new
memory-copied sh old new w v c long taken m = record {
  count = long ∙ c.count;
  words = λ x less. let here : line_of x < lines sh = omega (arith, less) in
      taken x ∙ go x (may_change sh v.bus (line_of x)) refl (is_among (line_of x) ls) refl here less;
}
  where
    ls : List ℕ
    ls = those (may_change sh v.bus) (lines sh)

    go : (x : ℕ) (t : Bool) → may_change sh v.bus (line_of x) ≡ t → (b : Bool) → is_among (line_of x) ls ≡ b → line_of x < lines sh
        → x < 8 * lines sh → (if is_among (line_of x) ls then v.ram x else word_in old x) ≡ v.ram x
    go x t e true q here less = ap (λ b. if b then v.ram x else word_in old x) q
    go x true e false q here less =
        absurd (let yes = among-those (may_change sh v.bus) (lines sh) (line_of x) here e in cc)
    go x false e false q here less =
        ap (λ b. if b then v.ram x else word_in old x) q ∙ c.words x less ∙ sym (m.1 x here e)

-- no commit
pub memory-stays : (m : BusMachine) (w : BusWorld) (ws : List ℕ) (text : List ℕ) → IsCopy (lines (bus_settings_of m)) w.ram ws
    → (bus_world_of m).ram ≡ w.ram → IsRenewed m w ws text text
unfolding bus_change_lines
memory-stays m w ws text k e = record {
  told = sym (append-nil text)
      ∙ ap (λ cs. text ++ bus_change_lines cs)
      (sym (memory-same (bus_settings_of m) (first_ram (bus_start_of m)) w.ram (bus_world_of m).ram e));
  kept = record { count = k.count; words = λ x less. k.words x less ∙ ap (λ f. f x) (sym e) };
}

-- a commit
pub memory-renewed : (m : BusMachine) (w : BusWorld) (old new : List ℕ) (before after : List ℕ)
    → IsCopy (lines (bus_settings_of m)) w.ram old → IsMemoryKept (bus_settings_of m) w (bus_world_of m) → length new ≡ length old
    → after
    ≡ before
    ++ bus_change_lines (flat_map (words_changes (bus_settings_of m) (first_ram (bus_start_of m)) (word_in old) (bus_world_of m).ram)
    (may_have_changed m))
    → AreTaken (λ x. is_among (line_of x) (may_have_changed m)) (word_in old) (word_in new) (bus_world_of m).ram
    → IsRenewed m w new before after
memory-renewed m w old new before after k kept long told taken =
    let sh = bus_settings_of m in
    let v = bus_world_of m in
    record {
      told = told ∙ ap (λ cs. before ++ bus_change_lines cs) (memory-told sh (first_ram (bus_start_of m)) (word_in old) w v k.words kept);
      kept = memory-copied sh old new w v k long taken kept;
    }
