-- A packet is taken line by line.
use Rattle.std.proofs.Common.{◌≡◌, ℕ, ◌+◌, ◌<◌, ◌≤◌, inl, inr, Bool, true, false, not, ◌||◌, ◌&&◌, if◌then◌else◌, List, [], ◌∷◌}
use Rattle.std.proofs.Common.{get_or, drop, length, suc, Option, Some, None, is_some}
use Rattle.std.proofs.Common.{refl, ap, sym, ◌∙◌, subst, arith}
use Rattle.std.proofs.Math.ListN.{drop_of_length-le}
use Rattle.std.proofs.Math.Seq.{drop-cons}
use Rattle.tcc_base.specs.declared.access.Tagged.{Tagged}
use Rattle.base_lemmas.proofs.Lemmas.{and-left, and-right, hit-line, or-cases, or-left, or-right}
use Rattle.rules_maps.proofs.Lemmas.{any_below-at, any_below-found}
use Rattle.rules_maps.specs.Cache.{Cache}
use Rattle.rules_maps.specs.CacheChange.{invalidated, rolled_back}
use Rattle.rules_maps.specs.CacheLook.{reads_masked}
use Rattle.rules_maps.specs.Masks.{hit}
use Rattle.rules_maps.specs.Shape.{Shape, lines}
use Rattle.rules_maps.specs.Words.{any_word, line_of, place_of, word_at}
use Rattle.rules_tcc.specs.Attempt.{roll_back}
use Rattle.rules_tcc.specs.CoreDeliver.{words_invalidated}
use Rattle.rules_tcc.specs.State.{CoreState, Running}
use Rattle.rules_bus.specs.Take.{packet_invalidated, reads_some, packet_taken}
use Rattle.core_node.specs.AtHand.{words_in}
use Rattle.bus_tcc.specs.Taking.{reads_any, struck_by, took}
use Rattle.theorem_serial.proofs.Lemmas.{line-has}

-- ---- the words that are dropped

drops-word : (h m : Bool) (o : Option ℕ) (v : Option ℕ) (x : ℕ)
    → (if is_some o && not m then None else if h && not m then None else v) ≡ (if is_some (if h then Some x else o) && not m then None
    else v)
drops-word true true None v x = refl
drops-word true true (Some y) v x = refl
drops-word true false None v x = refl
drops-word true false (Some y) v x = refl
drops-word false true None v x = refl
drops-word false true (Some y) v x = refl
drops-word false false None v x = refl
drops-word false false (Some y) v x = refl

cleaned-none : (h m : Bool) → ◌≡◌ {A = Option ℕ} (if h && not m then None else None) None
cleaned-none true true = refl
cleaned-none true false = refl
cleaned-none false m = refl

-- no word is dirty and no line awaited
pub record IsClean (s : CoreState) : Type 0 where
  pub awaited : s.awaited ≡ None
  pub dirty : s.cache.dirty ≡ (λ w. None)

without-clean : (l m : ℕ) (s : CoreState) → IsClean s → IsClean (words_invalidated l m s)
unfolding words_invalidated invalidated
without-clean l m s h = record {
  awaited = rw h.awaited refl;
  dirty = λ i v. (ap (λ d. if hit l m v && not (s.cache.modified v) then None else d) (λ j. h.dirty j v)
      ∙ cleaned-none (hit l m v) (s.cache.modified v)) i;
}

none-dropped : (s : CoreState) → packet_invalidated (words_in []) s ≡ s
unfolding packet_invalidated words_in
none-dropped s = refl

one-dropped : (t : Tagged) (ts : List Tagged) (s : CoreState) → IsClean s
    → packet_invalidated (words_in ts) (words_invalidated t.line.0 t.mask.0 s) ≡ packet_invalidated (words_in (t ∷ ts)) s
unfolding packet_invalidated words_in words_invalidated invalidated
one-dropped t ts s h = λ i. record s {
  cache = record s.cache {
    value = λ w. drops-word (hit t.line.0 t.mask.0 w) (s.cache.modified w) (words_in ts w) (s.cache.value w) (get_or t.words (place_of w)
        0) i;
    dirty = λ w. ((without-clean t.line.0 t.mask.0 s h).dirty ∙ sym h.dirty) i w;
  };
  awaited = ((without-clean t.line.0 t.mask.0 s h).awaited ∙ sym h.awaited) i;
}

pub struck-dropped : (ts : List Tagged) (s : CoreState) → IsClean s → struck_by ts s ≡ packet_invalidated (words_in ts) s
unfolding struck_by
struck-dropped [] s h = sym (none-dropped s)
struck-dropped (t ∷ ts) s h =
    struck-dropped ts (words_invalidated t.line.0 t.mask.0 s) (without-clean t.line.0 t.mask.0 s h) ∙ one-dropped t ts s h

-- ---- the attempt begins anew

back-word : (f m : Bool) (v : Option ℕ)
    → (if m then None else if f && not m then None else v) ≡ (if f && not false then None else if m then None else v)
back-word true true v = refl
back-word true false v = refl
back-word false true v = refl
back-word false false v = refl

pub back-dropped : (f : ℕ → Option ℕ) (s : CoreState)
    → record (roll_back (packet_invalidated f s)) { phase = Running } ≡ packet_invalidated f (record (roll_back s) { phase = Running })
unfolding packet_invalidated roll_back rolled_back
back-dropped f s = λ i. record (roll_back s) {
  phase = Running;
  cache = record (rolled_back s.cache) { value = λ w. back-word (is_some (f w)) (s.cache.modified w) (s.cache.value w) i };
}

-- ---- a word of it is marked read

same-truth : (a b : Bool) → (a ≡ true → b ≡ true) → (b ≡ true → a ≡ true) → a ≡ b
same-truth true true f g = refl
same-truth true false f g = let x = f refl in cc
same-truth false true f g = let x = g refl in cc
same-truth false false f g = refl

and-both : (a b : Bool) → a ≡ true → b ≡ true → (a && b) ≡ true
and-both a b e f = rw (e, f) refl

hit-here : (x : ℕ) (o : Option ℕ) (h : Bool) → h ≡ true → is_some (if h then Some x else o) ≡ true
hit-here x o true e = refl
hit-here x o false e = cc

some-behind : (x : ℕ) (o : Option ℕ) (h : Bool) → is_some o ≡ true → is_some (if h then Some x else o) ≡ true
some-behind x o true e = refl
some-behind x o false e = e

-- a word that one of the lines has and that is marked read
abbrev Reads : List Tagged → Cache → Type 0
Reads ts c = (w : ℕ) × (is_some (words_in ts w) ≡ true) × (c.read w ≡ true)

masked-word : (l m : ℕ) (c : Cache) → reads_masked l m c ≡ true → (w : ℕ) × (hit l m w ≡ true) × (c.read w ≡ true)
unfolding reads_masked any_word
masked-word l m c e =
    let r = any_below-found (λ k. hit l m (word_at l k) && c.read (word_at l k)) 8 e in
    (word_at l r.0, and-left _ _ r.2, and-right _ _ r.2)

masked-at : (l m : ℕ) (c : Cache) (w : ℕ) → hit l m w ≡ true → c.read w ≡ true → reads_masked l m c ≡ true
unfolding reads_masked
masked-at l m c w h r =
    subst (λ k. any_word (λ v. hit l m v && c.read v) k ≡ true) (sym (hit-line l m w h))
    (line-has (λ v. hit l m v && c.read v) w (and-both (hit l m w) (c.read w) h r))

reads-found : (ts : List Tagged) (c : Cache) → reads_any ts c ≡ true → Reads ts c
unfolding reads_any words_in
reads-found [] c e = cc
reads-found (t ∷ ts) c e = elim (or-cases (reads_masked t.line.0 t.mask.0 c) (reads_any ts c) e) [
  | inl q ↦ (let r = masked-word t.line.0 t.mask.0 c q in (r.0, hit-here _ (words_in ts r.0) _ r.1, r.2))
  | inr q ↦ (let r = reads-found ts c q in (r.0, some-behind _ (words_in ts r.0) _ r.1, r.2))
]

reads-there : (ts : List Tagged) (c : Cache) (w : ℕ) → is_some (words_in ts w) ≡ true → c.read w ≡ true → reads_any ts c ≡ true
unfolding reads_any words_in
reads-there [] c w e r = cc
reads-there (t ∷ ts) c w e r = by (hit t.line.0 t.mask.0 w) refl (λ q. reads-there ts c w q r) e
  where
    by : (b : Bool) → hit t.line.0 t.mask.0 w ≡ b → (is_some (words_in ts w) ≡ true → reads_any ts c ≡ true)
        → is_some (if b then Some (get_or t.words (place_of w) 0) else words_in ts w) ≡ true
        → (reads_masked t.line.0 t.mask.0 c || reads_any ts c) ≡ true
    by true h rest q = or-left _ _ (masked-at t.line.0 t.mask.0 c w h r)
    by false h rest q = or-right _ _ (rest q)

-- the words of a packet are of memory
abbrev pub InMemory : Shape → List Tagged → Type 0
InMemory sh ts = (x : ℕ) → is_some (words_in ts x) ≡ true → line_of x < lines sh

reads-same : (sh : Shape) (ts : List Tagged) (c : Cache) → InMemory sh ts → reads_any ts c ≡ reads_some sh (words_in ts) c
unfolding reads_some any_word
reads-same sh ts c mem = same-truth (reads_any ts c) _
    (λ e. let r = reads-found ts c e in
    any_below-at (any_word (λ w. is_some (words_in ts w) && c.read w)) (lines sh) (line_of r.0) (mem r.0 r.1)
    (line-has (λ w. is_some (words_in ts w) && c.read w) r.0 (and-both _ _ r.1 r.2)))
    (λ e. let l = any_below-found (any_word (λ w. is_some (words_in ts w) && c.read w)) (lines sh) e in
    let k = any_below-found (λ k. is_some (words_in ts (word_at l.0 k)) && c.read (word_at l.0 k)) 8 l.2 in
    reads-there ts c (word_at l.0 k.0) (and-left _ _ k.2) (and-right _ _ k.2))

pub took-taken : (sh : Shape) (ts : List Tagged) (s : CoreState) → IsClean s → InMemory sh ts → took ts s ≡ packet_taken sh (words_in ts) s
unfolding packet_taken
took-taken sh ts s h mem = by (reads_any ts s.cache) (reads_some sh (words_in ts) s.cache) (reads-same sh ts s.cache mem)
  where
    by : (a b : Bool) → a ≡ b → (if a then record (roll_back (struck_by ts s)) { phase = Running } else struck_by ts s)
        ≡ packet_invalidated (words_in ts) (if b then record (roll_back s) { phase = Running } else s)
    by true true e = ap (λ x. record (roll_back x) { phase = Running }) (struck-dropped ts s h) ∙ back-dropped (words_in ts) s
    by true false e = cc
    by false true e = cc
    by false false e = struck-dropped ts s h

-- ---- so far

-- an invalidation leaves read marks as they are
without-read : (l m : ℕ) (s : CoreState) → (words_invalidated l m s).cache.read ≡ s.cache.read
unfolding words_invalidated invalidated
without-read l m s = refl

masked-same : (l m : ℕ) (c d : Cache) → d.read ≡ c.read → reads_masked l m d ≡ reads_masked l m c
unfolding reads_masked
masked-same l m c d e = ap (λ f. any_word (λ w. hit l m w && f w) l) e

-- the lines from number i on are left
pub record Strikes (ts : List Tagged) (i : ℕ) (old now : CoreState) (read : Bool) : Type 0 where
  pub state : struck_by (drop i ts) now ≡ struck_by ts old
  pub reads : (read || reads_any (drop i ts) old.cache) ≡ reads_any ts old.cache
  pub marks : now.cache.read ≡ old.cache.read

pub strikes-first : (ts : List Tagged) (s : CoreState) → Strikes ts 0 s s false
strikes-first ts s = record { state = refl; reads = refl; marks = refl }

or-assoc : (a b c : Bool) → ((a || b) || c) ≡ (a || (b || c))
or-assoc true b c = refl
or-assoc false b c = refl

pub strikes-next : (ts : List Tagged) (i : ℕ) (d : Tagged) (old now new : CoreState) (read hits : Bool) → Strikes ts i old now read
    → i < length ts → new ≡ words_invalidated (get_or ts i d).line.0 (get_or ts i d).mask.0 now
    → hits ≡ reads_masked (get_or ts i d).line.0 (get_or ts i d).mask.0 now.cache → Strikes ts (i + 1) old new (read || hits)
unfolding struck_by reads_any
strikes-next ts i d old now new read hits h l n e =
    let t = get_or ts i d in
    let one : suc i ≡ i + 1 = omega arith in
    let first : drop i ts ≡ t ∷ drop (i + 1) ts = drop-cons ts i d l ∙ ap (λ k. t ∷ drop k ts) one in
    record {
      state = ap (struck_by (drop (i + 1) ts)) n ∙ sym (ap (λ xs. struck_by xs now) first) ∙ h.state;
      reads = or-assoc read hits (reads_any (drop (i + 1) ts) old.cache)
          ∙ ap (λ b. read || (b || reads_any (drop (i + 1) ts) old.cache)) (e ∙ masked-same t.line.0 t.mask.0 old.cache now.cache h.marks)
          ∙ sym (ap (λ xs. read || reads_any xs old.cache) first) ∙ h.reads;
      marks = ap (λ s. s.cache.read) n ∙ without-read t.line.0 t.mask.0 now ∙ h.marks;
    }

pub strikes-all : (ts : List Tagged) (i : ℕ) (old now : CoreState) (read : Bool) → Strikes ts i old now read → length ts ≤ i
    → (now ≡ struck_by ts old) × (read ≡ reads_any ts old.cache)
unfolding struck_by reads_any
strikes-all ts i old now read h l =
    let none : drop i ts ≡ [] = drop_of_length-le ts l in
    (sym (ap (λ xs. struck_by xs now) none) ∙ h.state, last read ∙ sym (ap (λ xs. read || reads_any xs old.cache) none) ∙ h.reads)
  where
    last : (b : Bool) → b ≡ (b || false)
    last true = refl
    last false = refl
