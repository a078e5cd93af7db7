-- The useful evictions of a core, set by set, and as its cache finds them.
use Rattle.std.proofs.Common.{◌≡◌, ℕ, ◌+◌, ◌*◌, ◌/◌, ◌%◌, ◌<◌, ◌≤◌, Bool, true, false, not, ◌&&◌, ◌||◌, if◌then◌else◌}
use Rattle.std.proofs.Common.{List, map, length, get_or, Option, Some, None, is_some, refl, ap, sym, ◌∙◌}
use Rattle.std.specs.Prelude.{MatchOption, slice_get}
use Rattle.std.specs.Option.{option_map}
use Rattle.std.specs.List.{flat_map}
use Rattle.std.proofs.lemmas.List.{length-map}
use Rattle.std.proofs.lemmas.Option.{slice_get-map, slice_get-get_or, slice_get_past}
use Rattle.base_lemmas.proofs.Lemmas.{filter-flat, filter-map, those-same}
use Rattle.rules_program.specs.Program.{Program}
use Rattle.rules_maps.specs.Cache.{Cache, is_marked}
use Rattle.rules_maps.specs.CacheUse.{Wants, is_number, is_useful_way, useful_at, useful_ways}
use Rattle.rules_maps.specs.Shape.{Shape}
use Rattle.rules_maps.specs.Words.{those}
use Rattle.rules_tcc.specs.Attempt.{Out, is_solo}
use Rattle.rules_tcc.specs.CoreEvict.{core_evict, evict_line, is_awaited}
use Rattle.rules_tcc.specs.Seen.{numbers}
use Rattle.rules_tcc.specs.State.{CoreState, Awaited}
use Rattle.rules_tcc.specs.Useful.{holds_written, is_this_set, room}
use Rattle.core_node.specs.Useful.{evict_is_useful, line_awaited, useful_evicts, wants_in}
use Rattle.core_node.proofs.Listed.{filter-numbers, flat-same, in_row, row_of, those-rows}

-- ---- a way

may_leave : (a m o : Bool) (x : Out) → is_some (if a || (m && not o) then None else Some x) ≡ (not a && (o || not m))
may_leave true m o x = refl
may_leave false true true x = refl
may_leave false true false x = refl
may_leave false false true x = refl
may_leave false false false x = refl

same_line : (o : Option Awaited) (l : ℕ) → is_number (line_awaited o) l ≡ is_awaited o l
same_line None l = refl
same_line (Some a) l = refl

same_set : (o : Option ℕ) (x : ℕ) → is_number o x ≡ is_this_set o x
same_set None x = refl
same_set (Some y) x = refl

both : (a k m d r : Bool) → (not a && k && (m || d || r)) ≡ (not a && k && ((m || d) || r))
both a k true d r = refl
both a k false d r = refl

pub way-useful : (sh : Shape) (p : Program) (s : CoreState) (x y : ℕ)
    → is_useful_way (wants_in sh p s) s.cache x (s.cache.at x y) ≡ evict_is_useful sh p s x y
unfolding is_useful_way evict_is_useful core_evict
way-useful sh p s x y = by (s.cache.at x y)
  where
    by : (o : Option ℕ) → is_useful_way (wants_in sh p s) s.cache x o
        ≡ (is_some (evict_line sh x y s o) && (holds_written s.cache o || is_this_set (room sh p s) x))
    by None = refl
    by (Some l) =
        rw (same_line s.awaited l, same_set (room sh p s) x)
        (rw (may_leave (is_awaited s.awaited l) (is_marked s.cache l) (is_solo s.phase) _) refl)

-- the useful evictions, set by set
pub by_set : (sh : Shape) (p : Program) (s : CoreState)
    → useful_evicts sh p s ≡ flat_map (λ x. map (λ y. (x, y)) (those (evict_is_useful sh p s x) sh.ways)) (numbers sh.sets)
unfolding useful_evicts
by_set sh p s =
    filter-flat (λ q. evict_is_useful sh p s q.0 q.1) (λ x. map (λ y. (x, y)) (numbers sh.ways)) (numbers sh.sets)
    ∙ flat-same _ _ sh.sets (λ x l. filter-map (λ q. evict_is_useful sh p s q.0 q.1) (λ y. (x, y)) (numbers sh.ways)
    ∙ ap (map (λ y. (x, y))) (filter-numbers (evict_is_useful sh p s x) sh.ways))

-- ---- as the cache finds them

ways-evicts : (sh : Shape) (p : Program) (s : CoreState)
    → map (row_of sh.ways) (useful_ways sh (wants_in sh p s) s.cache) ≡ useful_evicts sh p s
unfolding useful_ways useful_at
ways-evicts sh p s =
    ap (map (row_of sh.ways)) (those-same _ _ (sh.sets * sh.ways) (λ i l. way-useful sh p s (i / sh.ways) (i % sh.ways)))
    ∙ those-rows (evict_is_useful sh p s) sh.ways sh.sets
    ∙ sym (by_set sh p s)

count-evicts : (sh : Shape) (p : Program) (s : CoreState)
    → length (useful_ways sh (wants_in sh p s) s.cache) ≡ length (useful_evicts sh p s)
count-evicts sh p s =
    sym (length-map (useful_ways sh (wants_in sh p s) s.cache) (row_of sh.ways)) ∙ ap length (ways-evicts sh p s)

-- what the cache answers for the k-th way
abbrev pub IsNth : Shape → List ℕ → ℕ → Option (ℕ × ℕ) → Type 0
IsNth sh all k o =
    MatchOption o (length all ≤ k) (λ q. (k < length all) × (q.0 < sh.sets) × (q.1 < sh.ways) × (get_or all k 0 ≡ q.0 * sh.ways + q.1))

nth_of : (sh : Shape) (all : List ℕ) (k : ℕ) (o : Option (ℕ × ℕ)) → IsNth sh all k o → o ≡ slice_get (map (row_of sh.ways) all) k
nth_of sh all k None h = sym (slice_get_past (map (row_of sh.ways) all) k (rw (length-map all (row_of sh.ways)) h))
nth_of sh all k (Some q) h =
    sym (slice_get-map (row_of sh.ways) all k ∙ ap (option_map (row_of sh.ways)) (slice_get-get_or all k 0 h.0)
    ∙ ap (λ i. Some (row_of sh.ways i)) h.3 ∙ ap Some (in_row sh.ways q.0 q.1 h.2))

nth-evict : (sh : Shape) (p : Program) (s : CoreState) (k : ℕ) (o : Option (ℕ × ℕ))
    → IsNth sh (useful_ways sh (wants_in sh p s) s.cache) k o → o ≡ slice_get (useful_evicts sh p s) k
nth-evict sh p s k o h =
    nth_of sh (useful_ways sh (wants_in sh p s) s.cache) k o h ∙ ap (λ qs. slice_get qs k) (ways-evicts sh p s)

-- ---- the same with what the calls gave

pub wants-as : (sh : Shape) (p : Program) (s : CoreState) (a : Bool) (l r : Option ℕ) → a ≡ is_solo s.phase → l ≡ line_awaited s.awaited
    → r ≡ room sh p s → record { alone = a; awaited = l; room = r } ≡ wants_in sh p s
wants-as sh p s a l r e f g = rw (e, f, g) refl

pub count-as : (sh : Shape) (p : Program) (s : CoreState) (t : Shape) (q : Wants) (c : Cache) (n : ℕ) → t ≡ sh → q ≡ wants_in sh p s
    → c ≡ s.cache → n ≡ length (useful_ways t q c) → n ≡ length (useful_evicts sh p s)
count-as sh p s t q c n e f g h = (rw (e, f, g) at h) ∙ count-evicts sh p s

pub nth-as : (sh : Shape) (p : Program) (s : CoreState) (t : Shape) (q : Wants) (c : Cache) (k : ℕ) (o : Option (ℕ × ℕ)) → t ≡ sh
    → q ≡ wants_in sh p s → c ≡ s.cache → IsNth t (useful_ways t q c) k o → o ≡ slice_get (useful_evicts sh p s) k
nth-as sh p s t q c k o e f g h = nth-evict sh p s k o (rw (e, f, g) at h)
