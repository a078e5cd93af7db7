-- What changed of a core is what changed of all but its frames, and of the frames that an event reaches.
use Rattle.std.proofs.Common.{◌≡◌, ℕ, suc, ◌<◌, ◌==◌, ◌||◌, Bool, true, false, List, [], ◌∷◌, ◌++◌, Option, Some, None, refl, ap, sym}
use Rattle.std.proofs.Common.{◌∙◌, arith}
use Rattle.std.specs.List.{flat_map}
use Rattle.base_lemmas.proofs.Lemmas.{neither, none_below}
use Rattle.rules_maps.specs.Cache.{Cache, way_marked}
use Rattle.rules_maps.specs.CacheUse.{is_number}
use Rattle.rules_maps.specs.Shape.{Shape, lines, set_of}
use Rattle.rules_maps.specs.Words.{any_below, those}
use Rattle.rules_tcc.specs.Seen.{numbers}
use Rattle.rules_tcc.specs.State.{CoreState}
use Rattle.spec_cache.specs.MarkedSets.{has_marked}
use Rattle.watch_state.specs.Cores.{attempt_records, cached_records, core_part, core_records, frame_of, held_record, register_records}
use Rattle.watch_state.specs.Cores.{set_records, spilled_records, way_record}
use Rattle.watch_state.specs.Records.{Frame, Record, Holds}
use Rattle.watch_changes.specs.Changes.{changes}
use Rattle.watch_changes.specs.Same.{frame_numbers, same}
use Rattle.watch_changes.specs.Touched.{More, NoMore, Marked, Every, Reach, has_more, may_hold, reaches}
use Rattle.watch_changes.proofs.KeptFrames.{frame-kept}
use Rattle.watch_changes.proofs.Lowering.{alike-self}
use Rattle.watch_changes.proofs.Ordering.{Lie, lie-those, up-to-self, widened}
use Rattle.watch_changes.proofs.OrderedCores.{all-spilled-lie, attempt-lies, by_number, joined, of_kind, registers-lie, set-lies}
use Rattle.watch_changes.proofs.Parting.{AreTelling, none-of-same, telling-flat}
use Rattle.watch_changes.proofs.Reaching.{IsWithin, line_reached, more_reaches}
use Rattle.watch_changes.proofs.Rising.{kind-up-to, third-up-to}
use Rattle.watch_changes.proofs.Ruling.{flat-alike}
use Rattle.watch_changes.proofs.Splitting.{changes-append, changes-those}

-- ---- the frames of a set that isn't reached

-- no way of it holds the line
not-held : (sh : Shape) (c : Cache) (o : Option ℕ) (x y l : ℕ) → may_hold sh c o x ≡ false → y < sh.ways → c.at x y ≡ Some l
    → is_number o l ≡ false
not-held sh c None x y l h b e = refl
not-held sh c (Some m) x y l h b e =
    let none = none_below (λ z. is_number (c.at x z) m) sh.ways y
    (neither (set_of sh m == x) (any_below (λ z. is_number (c.at x z) m) sh.ways) h).1 b in
    turned l m (sym (ap (λ o. is_number o m) e) ∙ none)
  where
    turned : (a b : ℕ) → (a == b) ≡ false → (b == a) ≡ false
    turned a b e = grind (arith, Rattle.std.proofs.lemmas.Bool.Decides.nat_tests)

-- nor a frame that is marked, where marked ones are reached
not-more : (sh : Shape) (c : Cache) (m : More) (x y l : ℕ) → has_more sh c m x ≡ false → y < sh.ways → c.at x y ≡ Some l
    → more_reaches c m l ≡ false
unfolding has_marked way_marked
not-more sh c NoMore x y l h b e = refl
not-more sh c Marked x y l h b e =
    sym (ap (λ o. way_marked c o) e) ∙ none_below (λ z. way_marked c (c.at x z)) sh.ways y h b
not-more sh c Every x y l h b e = h

not-reached : (sh : Shape) (c : Cache) (r : Reach) (x y l : ℕ) → reaches sh c r x ≡ false → y < sh.ways → c.at x y ≡ Some l
    → line_reached c r l ≡ false
unfolding reaches
not-reached sh c r x y l h b e =
    let parts = neither (may_hold sh c r.line x) (has_more sh c r.more x) h in
    both (is_number r.line l) (more_reaches c r.more l) (not-held sh c r.line x y l parts.0 b e) (not-more sh c r.more x y l parts.1 b e)
  where
    both : (a b : Bool) → a ≡ false → b ≡ false → (a || b) ≡ false
    both true b e f = absurd (cc)
    both false b e f = f

way-same : (sh : Shape) (r : Reach) (c d : Cache) → IsWithin sh r c d → (k x y : ℕ) → reaches sh c r x ≡ false → y < sh.ways
    → way_record k c x y ≡ way_record k d x y
unfolding way_record reaches
way-same sh r c d w k x y h b =
    holds (c.at x y) refl
    ∙ ap (λ o. held_record k x y d o) (w.at x y (neither (may_hold sh c r.line x) (has_more sh c r.more x) h).0 b)
  where
    holds : (o : Option ℕ) → c.at x y ≡ o → held_record k x y c o ≡ held_record k x y d o
    holds None e = refl
    holds (Some l) e = ap (λ f. Holds k x y f ∷ []) (frame-kept c d l (w.kept l (not-reached sh c r x y l h b e)))

set-same : (sh : Shape) (r : Reach) (c d : Cache) → IsWithin sh r c d → (k x : ℕ) → reaches sh c r x ≡ false
    → set_records k sh.ways c x ≡ set_records k sh.ways d x
unfolding set_records
set-same sh r c d w k x h = flat-alike (way_record k c x) (way_record k d x) sh.ways (λ y b. way-same sh r c d w k x y h b)

-- ---- records that are compared with themselves

frame-same : (k x y : ℕ) (f : Frame) → same (Holds k x y f) (Holds k x y f) ≡ true
unfolding same
frame-same k x y f = alike-self (9 ∷ k ∷ x ∷ y ∷ frame_numbers f)

set-telling : (k ways : ℕ) (c : Cache) (x : ℕ) → AreTelling (set_records k ways c x)
unfolding set_records way_record
set-telling k ways c x = telling-flat (λ y. held_record k x y c (c.at x y)) (λ y. way (c.at x y) y) (numbers ways)
  where
    way : (o : Option ℕ) (y : ℕ) → AreTelling (held_record k x y c o)
    way None y = record {}
    way (Some l) y = (frame-same k x y (frame_of c l), record {})

-- ---- piece by piece

sets-lie : (k ways : ℕ) (c : Cache) (p : ℕ → Bool) (n : ℕ) → Lie (of_kind 9 k) (of_kind 10 k) (flat_map (set_records k ways c) (those p n))
sets-lie k ways c p n =
    widened (of_kind 9 k) (of_kind 9 k) (by_number 9 k n) (of_kind 10 k) (flat_map (set_records k ways c) (those p n))
    (up-to-self (of_kind 9 k)) (kind-up-to 9 10 (k ∷ n ∷ 0 ∷ []) (k ∷ 0 ∷ 0 ∷ []) (omega arith))
    (lie-those (set_records k ways c) (by_number 9 k) p (λ x. third-up-to 9 k x (suc x) (0 ∷ []) (omega arith)) n
    (λ x b. set-lies k ways c x))

sets-changes : (k ways : ℕ) (c d : Cache) (p : ℕ → Bool) → ((x : ℕ) → p x ≡ false → set_records k ways c x ≡ set_records k ways d x)
    → (n : ℕ) → changes (flat_map (set_records k ways c) (numbers n)) (flat_map (set_records k ways d) (numbers n))
    ≡ changes (flat_map (set_records k ways c) (those p n)) (flat_map (set_records k ways d) (those p n))
sets-changes k ways c d p alike n =
    changes-those (set_records k ways c) (set_records k ways d) (by_number 9 k) p
    (λ x. third-up-to 9 k x (suc x) (0 ∷ []) (omega arith)) (set-lies k ways c) (set-lies k ways d)
    (λ x e. none-of-same (set_records k ways c x) (set_records k ways d x) (set-telling k ways c x) (alike x e)) n

-- what changed of all but the frames, and of those of some sets
parts-changes : (sh : Shape) (k n : ℕ) (p : ℕ → Bool) (s t : CoreState)
    → changes (core_part sh k (those p n) s) (core_part sh k (those p n) t)
    ≡ changes (attempt_records sh k s) (attempt_records sh k t)
    ++ (changes (register_records k s) (register_records k t)
    ++ (changes (flat_map (set_records k sh.ways s.cache) (those p n)) (flat_map (set_records k sh.ways t.cache) (those p n))
    ++ changes (flat_map (spilled_records sh k s.spilled) (numbers (lines sh)))
    (flat_map (spilled_records sh k t.spilled) (numbers (lines sh)))))
unfolding core_part
parts-changes sh k n p s t =
    let sets : CoreState → List Record = λ r. flat_map (set_records k sh.ways r.cache) (those p n) in
    let spills : CoreState → List Record = λ r. flat_map (spilled_records sh k r.spilled) (numbers (lines sh)) in
    let cached : (r : CoreState) → Lie (of_kind 9 k) (of_kind 11 k) (sets r ++ spills r) =
    λ r. joined k 9 10 11 (omega arith) (omega arith) (sets r) (spills r) (sets-lie k sh.ways r.cache p n)
    (all-spilled-lie sh k r.spilled) in
    let rest : (r : CoreState) → Lie (of_kind 6 k) (of_kind 11 k) (register_records k r ++ (sets r ++ spills r)) =
    λ r. joined k 6 9 11 (omega arith) (omega arith) (register_records k r) (sets r ++ spills r) (registers-lie k r) (cached r) in
    changes-append (of_kind 6 k) (attempt_records sh k s) (attempt_records sh k t) (register_records k s ++ (sets s ++ spills s))
    (register_records k t ++ (sets t ++ spills t)) (attempt-lies sh k s).below (attempt-lies sh k t).below (rest s).from (rest t).from
    ∙ ap (λ cs. changes (attempt_records sh k s) (attempt_records sh k t) ++ cs)
    (changes-append (of_kind 9 k) (register_records k s) (register_records k t) (sets s ++ spills s) (sets t ++ spills t)
    (registers-lie k s).below (registers-lie k t).below (cached s).from (cached t).from
    ∙ ap (λ cs. changes (register_records k s) (register_records k t) ++ cs)
    (changes-append (of_kind 10 k) (sets s) (sets t) (spills s) (spills t) (sets-lie k sh.ways s.cache p n).below
    (sets-lie k sh.ways t.cache p n).below (all-spilled-lie sh k s.spilled).from (all-spilled-lie sh k t.spilled).from))

all-sets : (sh : Shape) (k : ℕ) (s : CoreState) → core_records sh k s ≡ core_part sh k (numbers sh.sets) s
unfolding core_records cached_records core_part
all-sets sh k s = refl

-- sets that aren't reached may be left out
pub core-changes : (sh : Shape) (r : Reach) (k : ℕ) (s t : CoreState) → IsWithin sh r s.cache t.cache
    → changes (core_records sh k s) (core_records sh k t)
    ≡ changes (core_part sh k (those (reaches sh s.cache r) sh.sets) s) (core_part sh k (those (reaches sh s.cache r) sh.sets) t)
core-changes sh r k s t w =
    (λ i. changes (all-sets sh k s i) (all-sets sh k t i)) ∙ parts-changes sh k sh.sets (λ x. true) s t
    ∙ (λ i. changes (attempt_records sh k s) (attempt_records sh k t)
    ++ (changes (register_records k s) (register_records k t)
    ++ (sets-changes k sh.ways s.cache t.cache (reaches sh s.cache r) (λ x h. set-same sh r s.cache t.cache w k x h) sh.sets i
    ++ changes (flat_map (spilled_records sh k s.spilled) (numbers (lines sh)))
    (flat_map (spilled_records sh k t.spilled) (numbers (lines sh))))))
    ∙ sym (parts-changes sh k sh.sets (reaches sh s.cache r) s t)
