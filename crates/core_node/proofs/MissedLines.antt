-- What the rules do about a line that isn't there, by what the cache answers.
use Rattle.std.proofs.Common.{◌≡◌, ℕ, Bool, true, false, not, Option, Some, None, is_some, ◌||◌, if◌then◌else◌, refl}
use Rattle.rules_maps.specs.Shape.{Shape, set_of}
use Rattle.rules_maps.specs.Cache.{Cache, free_way, all_marked}
use Rattle.rules_maps.specs.CacheLook.{Look, Hit, Miss, NeedsRoom, Overflow, look_line}
use Rattle.rules_tcc.specs.State.{CoreState}
use Rattle.rules_tcc.specs.Attempt.{Out, is_solo}
use Rattle.rules_tcc.specs.Execute.{request_line, place, overflow, miss, full_set}

abbrev pub look_by : (held free marked : Bool) → (set : ℕ) → Look
look_by held free marked n = if held then Miss else if free then Miss else if marked then Overflow n else NeedsRoom n

abbrev fetch_by : (held free marked solo : Bool) → (a b c : Out) → Option Out
fetch_by held free marked solo a b c = if held then Some a else if free then Some b else if solo || not marked then None else Some c

missed : (h f m : Bool) (n : ℕ) → h ≡ false → Miss ≡ look_by h f m n → f ≡ true
missed true f m n h e = cc
missed false true m n h e = refl
missed false false true n h e = cc
missed false false false n h e = cc

overflows : (h f m solo : Bool) (n k : ℕ) (a b c : Out) → Overflow k ≡ look_by h f m n
    → fetch_by h f m solo a b c ≡ (if solo then None else Some c)
overflows true f m solo n k a b c e = cc
overflows false true m solo n k a b c e = cc
overflows false false true true n k a b c e = refl
overflows false false true false n k a b c e = refl
overflows false false false solo n k a b c e = cc

wants_room : (h f m solo : Bool) (n k : ℕ) (a b c : Out) → NeedsRoom k ≡ look_by h f m n → fetch_by h f m solo a b c ≡ None
wants_room true f m solo n k a b c e = cc
wants_room false true m solo n k a b c e = cc
wants_room false false true solo n k a b c e = cc
wants_room false false false true n k a b c e = refl
wants_room false false false false n k a b c e = refl

hits : (h f m : Bool) (n x : ℕ) → {A : Type 0} → Hit x ≡ look_by h f m n → A
hits true f m n x e = cc
hits false true m n x e = cc
hits false false true n x e = cc
hits false false false n x e = cc

pub fetched_held : (sh : Shape) (l : ℕ) (s : CoreState) → s.cache.held l ≡ true → miss sh l s ≡ Some (request_line sh l s)
unfolding miss
fetched_held sh l s h = rw h refl

pub way_free : (sh : Shape) (l : ℕ) (s : CoreState) → s.cache.held l ≡ false → Miss ≡ look_line sh l s.cache
    → is_some (free_way sh s.cache (set_of sh l)) ≡ true
unfolding look_line
way_free sh l s h e = missed (s.cache.held l) (is_some (free_way sh s.cache (set_of sh l))) (all_marked sh s.cache (set_of sh l))
    (set_of sh l) h e

pub fetched_placed : (sh : Shape) (l : ℕ) (s : CoreState) → s.cache.held l ≡ false
    → is_some (free_way sh s.cache (set_of sh l)) ≡ true → miss sh l s ≡ Some (request_line sh l (place sh l s))
unfolding miss
fetched_placed sh l s h f = rw (h, f) refl

pub fetched_overflow : (sh : Shape) (l k : ℕ) (s : CoreState) → Overflow k ≡ look_line sh l s.cache
    → miss sh l s ≡ (if is_solo s.phase then None else Some (overflow s))
unfolding miss full_set look_line
fetched_overflow sh l k s e =
    overflows (s.cache.held l)
    (is_some (free_way sh s.cache (set_of sh l))) (all_marked sh s.cache (set_of sh l)) (is_solo s.phase)
    (set_of sh l) k
    (request_line sh l s) (request_line sh l (place sh l s)) (overflow s) e

pub fetched_waits : (sh : Shape) (l k : ℕ) (s : CoreState) → NeedsRoom k ≡ look_line sh l s.cache → miss sh l s ≡ None
unfolding miss full_set look_line
fetched_waits sh l k s e =
    wants_room (s.cache.held l) (is_some (free_way sh s.cache (set_of sh l))) (all_marked sh s.cache (set_of sh l)) (is_solo s.phase)
    (set_of sh l) k
    (request_line sh l s) (request_line sh l (place sh l s)) (overflow s) e

pub never_hits_line : {A : Type 0} → (sh : Shape) (l x : ℕ) (c : Cache) → Hit x ≡ look_line sh l c → A
unfolding look_line
never_hits_line sh l x c e = hits (c.held l) (is_some (free_way sh c (set_of sh l))) (all_marked sh c (set_of sh l)) (set_of sh l) x e

pub never_hits : {A : Type 0} → (sh : Shape) (l x : ℕ) (s : CoreState) → Hit x ≡ look_line sh l s.cache → A
never_hits sh l x s e = never_hits_line sh l x s.cache e
