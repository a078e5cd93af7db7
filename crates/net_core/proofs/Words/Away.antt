-- Lines without a note: no cache has a dirty word of them, and no message carries one, so that only their homes have their words.
use Rattle.std.proofs.Common.{◌≡◌, ℕ, zero, suc, ◌<◌, ◌≤◌, Bool, true, false, ◌&&◌, ◌==◌, List, [], ◌∷◌, ◌++◌, Option, Some, None, is_some}
use Rattle.std.proofs.Common.{refl, ap, sym, ◌∙◌, arith}
use Rattle.std.specs.Int.{is_power_of_two}
use Rattle.std.specs.Int.RustNames.{count_ones}
use Rattle.std.specs.List.{flat_map}
use Rattle.std.specs.Prelude.{IsTrue}
use Rattle.std.proofs.Math.Nat.{mod-lt}
use Rattle.std.proofs.lemmas.Bool.{ne_eqb}
use Rattle.std.proofs.lemmas.Bool.Decides.{nat_tests}
use Rattle.std.proofs.lemmas.Nat.{ones_le_self}
use Rattle.std.proofs.lemmas.List.Concat.{flat_map-append}
use Rattle.base_lemmas.proofs.Lemmas.{unheld-clean, word_at-own}
use Rattle.rules_maps.specs.Cache.{Cache, IsCache, dirty_mask, is_dirty}
use Rattle.rules_maps.specs.Masks.{has, hit}
use Rattle.rules_maps.specs.Nodes.{Core, Dir, WriteBack}
use Rattle.rules_maps.specs.Shape.{Shape, home, lines, set_of}
use Rattle.rules_maps.specs.Words.{any_below, any_word, line_of, place_of, those, word_at}
use Rattle.rules_maps.proofs.Lemmas.{any_below-at, has-zero}
use Rattle.rules_tcc.specs.Seen.{copies, copies_of, copies_on, copy_of, numbers}
use Rattle.rules_tcc.specs.State.{CoreState, World}
use Rattle.machine_cores.specs.Bank.{cores_of}
use Rattle.machine_links.specs.Flights.{net_of}
use Rattle.net_core.specs.Machine.{Machine, settings_of, world_of}
use Rattle.net_core.proofs.Words.Newest.{hit-dirty}
use Rattle.net_core.proofs.Words.Seen.{own-copies}

-- ---- a cache

-- no word of a line of RAM is dirty where no line of RAM is
pub clean-line : (sh : Shape) (c : Cache) (v : ℕ) → line_of v < lines sh → any_below (is_dirty c) (lines sh) ≡ false → c.dirty v ≡ None
unfolding is_dirty any_word
clean-line sh c v inside none = go (c.dirty v) refl
  where
    go : (o : Option ℕ) → c.dirty v ≡ o → o ≡ None
    go None e = refl
    go (Some g) e =
        let dirty : is_some (c.dirty v) ≡ true = ap is_some e in
        let here : is_some (c.dirty (word_at (line_of v) (place_of v))) ≡ true = ap (λ w. is_some (c.dirty w)) (word_at-own v) ∙ dirty in
        let line : is_dirty c (line_of v) ≡ true =
        any_below-at (λ k. is_some (c.dirty (word_at (line_of v) k))) 8 (place_of v) (omega arith) here in
        let some : any_below (is_dirty c) (lines sh) ≡ true = any_below-at (is_dirty c) (lines sh) (line_of v) inside line in
        absurd (cc)

-- no word is dirty of a line with an empty mask
unmasked : (c : Cache) (w : ℕ) → dirty_mask c (line_of w) ≡ 0 → c.dirty w ≡ None
unfolding hit
unmasked c w empty = go (c.dirty w) refl
  where
    by : (a b : Bool) → (a && b) ≡ true → b ≡ false → ⊥
    by true true e none = cc
    by true false e none = cc
    by false b e none = cc

    go : (o : Option ℕ) → c.dirty w ≡ o → o ≡ None
    go None e = refl
    go (Some g) e =
        let dirty : is_some (c.dirty w) ≡ true = ap is_some e in
        let held : hit (line_of w) (dirty_mask c (line_of w)) w ≡ true = hit-dirty c w ∙ dirty in
        let none : has 0 (place_of w) ≡ false = has-zero (place_of w) in
        absurd (by (line_of w == line_of w) (has 0 (place_of w))
        (ap (λ m. (line_of w == line_of w) && has m (place_of w)) (sym empty) ∙ held) none)

positive : (n : ℕ) → IsTrue (is_power_of_two n) → 0 < n
positive n h = let e : count_ones n ≡ 1 = grind (arith, nat_tests) in omega (arith, ones_le_self n)

-- nor of a line that no way holds with a dirty word
pub clean-frames : (sh : Shape) (c : Cache) (l : ℕ) → IsTrue (is_power_of_two sh.sets) → IsCache sh c
    → ((s : ℕ) → s < sh.sets → (y : ℕ) → y < sh.ways → c.at s y ≡ Some l → dirty_mask c l ≡ 0)
    → (w : ℕ) → line_of w ≡ l → c.dirty w ≡ None
clean-frames sh c l some k clean w own = go (c.held (line_of w)) refl
  where
    go : (b : Bool) → c.held (line_of w) ≡ b → c.dirty w ≡ None
    go false e = unheld-clean sh c w k e
    go true e =
        let way = k.held (line_of w) e in
        let placed = k.placed (set_of sh (line_of w)) way.0 (line_of w) way.1 in
        let set : set_of sh (line_of w) < sh.sets = mod-lt (line_of w) (positive sh.sets some) in
        let at : c.at (set_of sh (line_of w)) way.0 ≡ Some l = way.1 ∙ ap (λ n. Some n) own in
        unmasked c w (ap (dirty_mask c) own ∙ clean (set_of sh (line_of w)) set way.0 placed.1 at)

-- ---- a core, and all of them

-- the copies of a core, its cache's and those that it sent home
pub core-covered : (m now : Machine) (w n : ℕ) (x : CoreState) → m ≡ now → now.unsent ≡ [] → x ≡ cores_of m.cores n → x.cache.dirty w ≡ None
    → copies_on w (net_of now.flights (Core n) (Dir (home (settings_of now) (line_of w)))) ≡ []
    → copies_of (settings_of now) (world_of now) w n ≡ []
core-covered m now w n x same settled core clean sent =
    let c : Cache = (cores_of now.cores n).cache in
    let free : c.dirty w ≡ None =
    ap (λ k. (cores_of k.cores n).cache.dirty w) (sym same) ∙ (ap (λ s. s.cache.dirty w) (sym core) ∙ clean) in
    own-copies now w n settled ∙ rw (free, sent) refl

cores-covered : (s : Shape) (w : World) (v n : ℕ) → ((c : ℕ) → c < n → copies_of s w v c ≡ []) → flat_map (copies_of s w v) (numbers n) ≡ []
unfolding those
cores-covered s w v zero none = refl
cores-covered s w v (suc n) none =
    flat_map-append (copies_of s w v) (numbers n) (n ∷ [])
    ∙ (λ i. cores-covered s w v n (λ c lt. none c (omega arith)) i ++ (none n (omega arith) i ++ []))

pub all-covered : (s : Shape) (w : World) (v n : ℕ) → s.cores ≤ n → ((c : ℕ) → c < n → copies_of s w v c ≡ []) → copies s w v ≡ []
unfolding copies
all-covered s w v n all none = cores-covered s w v s.cores (λ c lt. none c (omega arith))

-- ---- a message

-- words of another line
pub elsewhere : (own m w g : ℕ) (ws : List ℕ) → (line_of w ≡ own → ⊥) → copy_of w (WriteBack own m ws g) ≡ []
unfolding hit
elsewhere own m w g ws e = rw (ne_eqb own (line_of w) (λ q. e (sym q))) refl
