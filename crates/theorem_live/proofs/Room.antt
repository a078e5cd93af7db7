-- Exec or room: a core that executes and awaits no line can execute, or it waits for room in a set where some frame can be emptied.
use Rattle.std.specs.Prelude.{ℕ, ◌≡◌, ◌<◌, ◌≤◌, Bool, true, false, not, ◌||◌, Option, Some, None, is_some}
use Rattle.std.proofs.Common.{arith, refl, ◌⊎◌, inl, inr}
use Rattle.std.proofs.lemmas.Bool.Decides.{nat_tests}
use Rattle.tcc_base.specs.declared.access.Size.TheVariants.{Byte, Half, Word}
use Rattle.rules_program.specs.Program.{Need, Nothing, Loads, Stores, Changes, Prints, Ends, Halts, Traps, Program}
use Rattle.rules_program.specs.Ram.{word_of}
use Rattle.rules_maps.specs.Words.{line_of, lowest}
use Rattle.rules_maps.specs.Shape.{Shape, set_of}
use Rattle.rules_maps.specs.Cache.{Cache, free_way, way_marked, all_marked, is_marked}
use Rattle.rules_maps.specs.Spilled.{holds}
use Rattle.rules_maps.proofs.Lemmas.{LowestIs, lowest-is, all_below-fails}
use Rattle.rules_tcc.specs.State.{CoreState, Awaited, Phase, Running, Solo, World}
use Rattle.rules_tcc.specs.Attempt.{is_solo}
use Rattle.rules_tcc.specs.CoreEvict.{core_evict}
use Rattle.rules_tcc.specs.CoreExec.{unless_awaiting, exec_in_phase, core_exec}
use Rattle.rules_tcc.specs.Execute.{full_set, miss, load, word_store, change_valid, partial_store, execute_need, execute}
use Rattle.rules_tcc.specs.Useful.{room_for_line, room_for_word, room_for_store, room_for_need, room_unless_awaiting, room_in_phase, room}
use Rattle.theorem_serial.specs.OneCore.{executes}
use Rattle.theorem_live.specs.Progress.{IsEquipped}
use Rattle.theorem_live.proofs.Events.{Moves, evict_moves}

-- the room that is wanted is in the line's set, where no way is free, and the core is alone or some way is unmarked
pub record Wants (sh : Shape) (l : ℕ) (s : CoreState) (wanted : Option ℕ) : Type 0 where
  pub room : wanted ≡ Some (set_of sh l)
  pub full : is_some (free_way sh s.cache (set_of sh l)) ≡ false
  pub loose : (is_solo s.phase || not (all_marked sh s.cache (set_of sh l))) ≡ true

full-or : (sh : Shape) (l : ℕ) (s : CoreState) → s.cache.held l ≡ false → is_some (free_way sh s.cache (set_of sh l)) ≡ false
    → (is_some (full_set sh l s) ≡ true) ⊎ Wants sh l s (room_for_line sh l s)
unfolding full_set room_for_line
full-or sh l s h f = go (is_solo s.phase || not (all_marked sh s.cache (set_of sh l))) refl
  where
    go : (b : Bool) → (is_solo s.phase || not (all_marked sh s.cache (set_of sh l))) ≡ b
        → (is_some (full_set sh l s) ≡ true) ⊎ Wants sh l s (room_for_line sh l s)
    go true e = inr (record { room = rw (h, f, e) refl; full = f; loose = e })
    go false e = inl (rw e refl)

fetch-or : (sh : Shape) (l : ℕ) (s : CoreState) → (is_some (miss sh l s) ≡ true) ⊎ Wants sh l s (room_for_line sh l s)
unfolding miss
fetch-or sh l s = go (s.cache.held l) refl (is_some (free_way sh s.cache (set_of sh l))) refl
  where
    go : (a : Bool) → s.cache.held l ≡ a → (b : Bool) → is_some (free_way sh s.cache (set_of sh l)) ≡ b
        → (is_some (miss sh l s) ≡ true) ⊎ Wants sh l s (room_for_line sh l s)
    go true e b f = inl (rw e refl)
    go false e true f = inl (rw (e, f) refl)
    go false e false f = rw (e, f) (full-or sh l s e f)

load-or : (sh : Shape) (p : Program) (need : Need) (w : ℕ) (s : CoreState)
    → (is_some (load sh p need w s) ≡ true) ⊎ Wants sh (line_of w) s (room_for_word sh w s)
unfolding load room_for_word
load-or sh p need w s = go (s.spilled w) refl (s.cache.value w) refl
  where
    go : (a : Option ℕ) → s.spilled w ≡ a → (b : Option ℕ) → s.cache.value w ≡ b
        → (is_some (load sh p need w s) ≡ true) ⊎ Wants sh (line_of w) s (room_for_word sh w s)
    go (Some x) e b f = inl (rw e refl)
    go None e (Some x) f = inl (rw (e, f) refl)
    go None e None f = rw (e, f) (fetch-or sh (line_of w) s)

partial-or : (sh : Shape) (p : Program) (need : Need) (w : ℕ) (s : CoreState)
    → (is_some (partial_store sh p need w s) ≡ true) ⊎ Wants sh (line_of w) s (room_for_word sh w s)
unfolding partial_store room_for_word
partial-or sh p need w s = go (s.spilled w) refl (s.cache.value w) refl
  where
    in_frame : (x : ℕ) → is_some (change_valid sh p need w s (Some x)) ≡ true
    in_frame x = grind (arith, nat_tests)

    go : (a : Option ℕ) → s.spilled w ≡ a → (b : Option ℕ) → s.cache.value w ≡ b
        → (is_some (partial_store sh p need w s) ≡ true) ⊎ Wants sh (line_of w) s (room_for_word sh w s)
    go (Some x) e b f = inl (rw e refl)
    go None e (Some x) f = inl (rw (e, f) (in_frame x))
    go None e None f = rw (e, f) (fetch-or sh (line_of w) s)

word-or : (sh : Shape) (p : Program) (need : Need) (w x : ℕ) (s : CoreState)
    → (is_some (word_store sh p need w x s) ≡ true) ⊎ Wants sh (line_of w) s (room_for_store sh w s)
unfolding word_store room_for_store
word-or sh p need w x s = go (holds s.spilled (line_of w)) refl (s.cache.held (line_of w)) refl
    (is_some (free_way sh s.cache (set_of sh (line_of w)))) refl
  where
    go : (a : Bool) → holds s.spilled (line_of w) ≡ a → (b : Bool) → s.cache.held (line_of w) ≡ b → (c : Bool)
        → is_some (free_way sh s.cache (set_of sh (line_of w))) ≡ c
        → (is_some (word_store sh p need w x s) ≡ true) ⊎ Wants sh (line_of w) s (room_for_store sh w s)
    go true e b f c g = inl (rw e refl)
    go false e true f c g = inl (rw (e, f) refl)
    go false e false f true g = inl (rw (e, f, g) refl)
    go false e false f false g = rw (e, f, g) (full-or sh (line_of w) s f g)

-- an instruction is executed, or wants room
pub record WantsSome (sh : Shape) (s : CoreState) (wanted : Option ℕ) : Type 0 where
  pub line : ℕ
  pub wants : Wants sh line s wanted

some-line : (sh : Shape) (l : ℕ) (s : CoreState) (wanted : Option ℕ) (done : Bool) → (done ≡ true) ⊎ Wants sh l s wanted
    → (done ≡ true) ⊎ WantsSome sh s wanted
some-line sh l s r b (inl e) = inl e
some-line sh l s r b (inr a) = inr (record { line = l; wants = a })

need-or : (sh : Shape) (p : Program) (c : ℕ) (s : CoreState) (n : Need)
    → (is_some (execute_need sh p c s n) ≡ true) ⊎ WantsSome sh s (room_for_need sh s n)
need-or sh p c s Nothing = inl refl
need-or sh p c s (Loads addr size) = some-line sh (line_of (word_of sh.base addr)) s (room_for_word sh (word_of sh.base addr) s)
    (is_some (load sh p (Loads addr size) (word_of sh.base addr) s)) (load-or sh p (Loads addr size) (word_of sh.base addr) s)
need-or sh p c s (Stores addr Word x) = some-line sh (line_of (word_of sh.base addr)) s (room_for_store sh (word_of sh.base addr) s)
    (is_some (word_store sh p (Stores addr Word x) (word_of sh.base addr) x s))
    (word-or sh p (Stores addr Word x) (word_of sh.base addr) x s)
need-or sh p c s (Stores addr Half x) = some-line sh (line_of (word_of sh.base addr)) s (room_for_word sh (word_of sh.base addr) s)
    (is_some (partial_store sh p (Stores addr Half x) (word_of sh.base addr) s))
    (partial-or sh p (Stores addr Half x) (word_of sh.base addr) s)
need-or sh p c s (Stores addr Byte x) = some-line sh (line_of (word_of sh.base addr)) s (room_for_word sh (word_of sh.base addr) s)
    (is_some (partial_store sh p (Stores addr Byte x) (word_of sh.base addr) s))
    (partial-or sh p (Stores addr Byte x) (word_of sh.base addr) s)
need-or sh p c s (Changes addr f) = some-line sh (line_of (word_of sh.base addr)) s (room_for_word sh (word_of sh.base addr) s)
    (is_some (partial_store sh p (Changes addr f) (word_of sh.base addr) s)) (partial-or sh p (Changes addr f) (word_of sh.base addr) s)
need-or sh p c s (Prints byte) = inl refl
need-or sh p c s Ends = inl refl
need-or sh p c s (Halts code) = inl refl
need-or sh p c s (Traps code) = inl refl

pub exec-or : (sh : Shape) (p : Program) (c : ℕ) (s : CoreState) → executes s.phase ≡ true → s.awaited ≡ None
    → (is_some (core_exec sh p c s) ≡ true) ⊎ WantsSome sh s (room sh p s)
unfolding core_exec execute room
exec-or sh p c s x a = in_phase s.phase x
  where
    awaiting : (o : Option Awaited) → o ≡ None → (is_some (unless_awaiting sh p c s o) ≡ true) ⊎ WantsSome sh s
        (room_unless_awaiting sh p s o)
    awaiting None e = need-or sh p c s (p.need s.local)
    awaiting (Some y) e = absurd (cc)

    in_phase : (q : Phase) → executes q ≡ true → (is_some (exec_in_phase sh p c s q) ≡ true) ⊎ WantsSome sh s (room_in_phase sh p s q)
    in_phase Running e = awaiting s.awaited a
    in_phase (Solo t) e = awaiting s.awaited a
    in_phase q e = absurd (cc)

-- some frame of the set can be emptied

-- where no way is free each holds a line
taken-way : (sh : Shape) (c : Cache) (x y : ℕ) → is_some (free_way sh c x) ≡ false → y < sh.ways → is_some (c.at x y) ≡ true
unfolding free_way
taken-way sh c x y f l = go (lowest (λ z. not (is_some (c.at x z))) sh.ways) refl (lowest-is (λ z. not (is_some (c.at x z))) sh.ways)
  where
    go : (o : Option ℕ) → lowest (λ z. not (is_some (c.at x z))) sh.ways ≡ o → LowestIs (λ z. not (is_some (c.at x z))) sh.ways o
        → is_some (c.at x y) ≡ true
    go None e h = let q = h y l in grind (arith, nat_tests)
    go (Some k) e h = absurd (let q : is_some (lowest (λ z. not (is_some (c.at x z))) sh.ways) ≡ true = rw e refl in cc)

pub evicts : (sh : Shape) (x y : ℕ) (s : CoreState) → s.awaited ≡ None → is_some (s.cache.at x y) ≡ true
    → (is_solo s.phase ≡ true) ⊎ (way_marked s.cache (s.cache.at x y) ≡ false) → is_some (core_evict sh x y s) ≡ true
unfolding core_evict way_marked
evicts sh x y s a h u = go (s.cache.at x y) refl u
  where
    go : (o : Option ℕ) → s.cache.at x y ≡ o → (is_solo s.phase ≡ true) ⊎ (way_marked s.cache o ≡ false)
        → is_some (core_evict sh x y s) ≡ true
    go None e v = absurd (let q : is_some (s.cache.at x y) ≡ false = rw e refl in cc)
    go (Some l) e (inl v) = rw (e, a, v) (grind (arith, nat_tests))
    go (Some l) e (inr v) = let m : is_marked s.cache l ≡ false = v in rw (e, a, m) refl

-- the way that is emptied
pub record Emptied (sh : Shape) (x : ℕ) (s : CoreState) : Type 0 where
  pub way : ℕ
  pub below : way < sh.ways
  pub evicts : is_some (core_evict sh x way s) ≡ true

pub emptied : (sh : Shape) (l : ℕ) (s : CoreState) (r : Option ℕ) → 1 ≤ sh.ways → s.awaited ≡ None → Wants sh l s r
    → Emptied sh (set_of sh l) s
unfolding all_marked
emptied sh l s r n a v = go (is_solo s.phase) refl
  where
    x : ℕ
    x = set_of sh l

    go : (b : Bool) → is_solo s.phase ≡ b → Emptied sh x s
    go true e = record { way = 0; below = n; evicts = evicts sh x 0 s a (taken-way sh s.cache x 0 v.full n) (inl e) }
    go false e =
        let m : all_marked sh s.cache x ≡ false = (let q = v.loose in grind (arith, nat_tests)) in
        let w = all_below-fails (λ y. way_marked s.cache (s.cache.at x y)) sh.ways m in
        record { way = w.0; below = w.1; evicts = evicts sh x w.0 s a (taken-way sh s.cache x w.0 v.full (w.1)) (inr (w.2)) }

pub room_moves : (sh : Shape) (p : Program) (w : World) (c : ℕ) → IsEquipped sh p → c < sh.cores → executes (w.cores c).phase ≡ true
    → (w.cores c).awaited ≡ None → (is_some (core_exec sh p c (w.cores c)) ≡ true) ⊎ Moves sh p w
room_moves sh p w c k i x a = go (exec-or sh p c (w.cores c) x a)
  where
    go : (is_some (core_exec sh p c (w.cores c)) ≡ true) ⊎ WantsSome sh (w.cores c) (room sh p (w.cores c))
        → (is_some (core_exec sh p c (w.cores c)) ≡ true) ⊎ Moves sh p w
    go (inl e) = inl e
    go (inr v) =
        let u = v.wants in
        let e = emptied sh v.line (w.cores c) (room sh p (w.cores c)) k.ways a u in
        let n = k.sets in
        inr (evict_moves sh p w c (set_of sh v.line) e.way i (omega arith) e.below e.evicts
        (inr (rw u.room (grind (arith, nat_tests)))))
