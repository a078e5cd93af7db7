-- The records of a core are ordered by their keys.
use Rattle.std.proofs.Common.{◌≡◌, ℕ, suc, ◌<◌, ◌==◌, List, [], ◌∷◌, ◌++◌, Option, Some, None}
use Rattle.std.proofs.Common.{refl, subst, sym, arith}
use Rattle.std.specs.List.{flat_map}
use Rattle.rules_program.specs.Plain.{Outcome, Goes, Ended, Halted, Trapped}
use Rattle.rules_program.specs.Registers.{register}
use Rattle.rules_maps.specs.Cache.{Cache}
use Rattle.rules_maps.specs.Shape.{Shape, lines}
use Rattle.rules_maps.specs.Words.{those, word_at}
use Rattle.rules_tcc.specs.Seen.{numbers}
use Rattle.rules_tcc.specs.State.{Awaited, CoreState}
use Rattle.watch_state.specs.Cores.{addr_of, attempt_records, awaited_record, cached_records, committed_record, core_records, ended_record}
use Rattle.watch_state.specs.Cores.{frame_of, held_record, owed_record, register_record, register_records, reserved_record, saved_record}
use Rattle.watch_state.specs.Cores.{set_records, spilled_record, spilled_records, spilled_word, way_record}
use Rattle.watch_state.specs.Records.{Record, CoreIs, Reserved, EndedBy, AwaitsLine, OwedBy, CommittedAt, Register, SavedPc}
use Rattle.watch_state.specs.Records.{SavedRegister, Holds, Spilled}
use Rattle.watch_changes.specs.Order.{AreOrdered, key}
use Rattle.watch_changes.proofs.Rising.{fourth-lower, head-lower, kind-up-to, lie-at, lie-unless, third-lower, third-up-to}
use Rattle.watch_changes.proofs.Ordering.{IsUpTo, Lie, lie-append, lie-none, lie-numbers, lower-is-up-to, up-to-self, widened}

-- where the records of a kind of a core begin
abbrev pub of_kind : (kind core : ℕ) → List ℕ
of_kind n c = n ∷ c ∷ 0 ∷ 0 ∷ []

-- the records of one kind and those of the kinds behind it
pub joined : (c n m o : ℕ) → n < m → m < o → (rs ss : List Record) → Lie (of_kind n c) (of_kind m c) rs → Lie (of_kind m c) (of_kind o c) ss
    → Lie (of_kind n c) (of_kind o c) (rs ++ ss)
joined c n m o b d rs ss v w =
    let x = c ∷ 0 ∷ 0 ∷ [] in
    lie-append (of_kind n c) (of_kind m c) (of_kind o c) rs ss (kind-up-to n m x x b) (kind-up-to m o x x d) v w

alone : (c n : ℕ) (r : Record) → key r ≡ of_kind n c → Lie (of_kind n c) (of_kind (suc n) c) (r ∷ [])
alone c n r e =
    lie-at (of_kind n c) (of_kind (suc n) c) r e (head-lower n (suc n) (c ∷ 0 ∷ 0 ∷ []) (c ∷ 0 ∷ 0 ∷ []) (omega arith))

-- records of one kind by a number
abbrev pub by_number : (kind core : ℕ) → ℕ → List ℕ
by_number n c x = n ∷ c ∷ x ∷ 0 ∷ []

numbered : (n c : ℕ) (f : ℕ → List Record) → ((x : ℕ) → Lie (by_number n c x) (by_number n c (suc x)) (f x)) → (count : ℕ)
    → Lie (of_kind n c) (of_kind (suc n) c) (flat_map f (numbers count))
numbered n c f h count =
    widened (of_kind n c) (of_kind n c) (by_number n c count) (of_kind (suc n) c) (flat_map f (numbers count)) (up-to-self (of_kind n c))
    (kind-up-to n (suc n) (c ∷ count ∷ 0 ∷ []) (c ∷ 0 ∷ 0 ∷ []) (omega arith))
    (lie-numbers f (by_number n c) (λ x. third-up-to n c x (suc x) (0 ∷ []) (omega arith)) count (λ x b. h x))

at_number : (n c x : ℕ) (r : Record) → key r ≡ by_number n c x → Lie (by_number n c x) (by_number n c (suc x)) (r ∷ [])
at_number n c x r e = lie-at (by_number n c x) (by_number n c (suc x)) r e (third-lower n c x (suc x) (0 ∷ []) (0 ∷ []) (omega arith))

-- ---- the attempt

reserved-lies : (c : ℕ) (o : Option ℕ) → Lie (of_kind 1 c) (of_kind 2 c) (reserved_record c o)
reserved-lies c None = lie-none (of_kind 1 c) (of_kind 2 c)
reserved-lies c (Some a) = alone c 1 (Reserved c a) refl

ended-lies : (c : ℕ) (o : Outcome) → Lie (of_kind 2 c) (of_kind 3 c) (ended_record c o)
ended-lies c Goes = lie-none (of_kind 2 c) (of_kind 3 c)
ended-lies c Ended = alone c 2 (EndedBy c Ended) refl
ended-lies c (Halted x) = alone c 2 (EndedBy c (Halted x)) refl
ended-lies c (Trapped x) = alone c 2 (EndedBy c (Trapped x)) refl

awaited-lies : (c : ℕ) (o : Option Awaited) → Lie (of_kind 3 c) (of_kind 4 c) (awaited_record c o)
awaited-lies c None = lie-none (of_kind 3 c) (of_kind 4 c)
awaited-lies c (Some a) = alone c 3 (AwaitsLine c a.line a.stale) refl

owed-lies : (c : ℕ) (ds : List ℕ) → Lie (of_kind 4 c) (of_kind 5 c) (owed_record c ds)
owed-lies c [] = lie-none (of_kind 4 c) (of_kind 5 c)
owed-lies c (d ∷ ds) = alone c 4 (OwedBy c (d ∷ ds)) refl

committed-lies : (c : ℕ) (last : ℕ → ℕ) (d : ℕ) → Lie (by_number 5 c d) (by_number 5 c (suc d)) (committed_record c last d)
unfolding committed_record
committed-lies c last d =
    lie-unless (by_number 5 c d) (by_number 5 c (suc d)) (last d == 0) (CommittedAt c d (last d) ∷ [])
    (at_number 5 c d (CommittedAt c d (last d)) refl)

pub attempt-lies : (sh : Shape) (c : ℕ) (s : CoreState) → Lie (of_kind 0 c) (of_kind 6 c) (attempt_records sh c s)
unfolding attempt_records
attempt-lies sh c s =
    let reserved = reserved_record c s.local.reserved in
    let ended = ended_record c s.ended in
    let awaited = awaited_record c s.awaited in
    let owed = owed_record c (those s.owing sh.dirs) in
    let committed = flat_map (committed_record c s.last_commit) (numbers sh.dirs) in
    let first = CoreIs c s.n s.local.pc s.phase in
    joined c 0 1 6 (omega arith) (omega arith) (first ∷ []) (reserved ++ (ended ++ (awaited ++ (owed ++ committed)))) (alone c 0 first refl)
    (joined c 1 2 6 (omega arith) (omega arith) reserved (ended ++ (awaited ++ (owed ++ committed))) (reserved-lies c s.local.reserved)
    (joined c 2 3 6 (omega arith) (omega arith) ended (awaited ++ (owed ++ committed)) (ended-lies c s.ended)
    (joined c 3 4 6 (omega arith) (omega arith) awaited (owed ++ committed) (awaited-lies c s.awaited)
    (joined c 4 5 6 (omega arith) (omega arith) owed committed (owed-lies c (those s.owing sh.dirs))
    (numbered 5 c (committed_record c s.last_commit) (committed-lies c s.last_commit) sh.dirs)))))

-- ---- the registers

register-lies : (c : ℕ) (regs : List ℕ) (r : ℕ) → Lie (by_number 6 c r) (by_number 6 c (suc r)) (register_record c regs r)
unfolding register_record
register-lies c regs r =
    lie-unless (by_number 6 c r) (by_number 6 c (suc r)) (register regs r == 0) (Register c r (register regs r) ∷ [])
    (at_number 6 c r (Register c r (register regs r)) refl)

saved-lies : (c : ℕ) (regs : List ℕ) (r : ℕ) → Lie (by_number 8 c r) (by_number 8 c (suc r)) (saved_record c regs r)
unfolding saved_record
saved-lies c regs r =
    lie-unless (by_number 8 c r) (by_number 8 c (suc r)) (register regs r == 0) (SavedRegister c r (register regs r) ∷ [])
    (at_number 8 c r (SavedRegister c r (register regs r)) refl)

pub registers-lie : (c : ℕ) (s : CoreState) → Lie (of_kind 6 c) (of_kind 9 c) (register_records c s)
unfolding register_records
registers-lie c s =
    let regs = flat_map (register_record c s.local.regs) (numbers 32) in
    let pc = SavedPc c s.saved.pc in
    let saved = flat_map (saved_record c s.saved.regs) (numbers 32) in
    joined c 6 7 9 (omega arith) (omega arith) regs (pc ∷ saved)
    (numbered 6 c (register_record c s.local.regs) (register-lies c s.local.regs) 32)
    (joined c 7 8 9 (omega arith) (omega arith) (pc ∷ []) saved (alone c 7 pc refl)
    (numbered 8 c (saved_record c s.saved.regs) (saved-lies c s.saved.regs) 32))

-- ---- the cache

-- of a way
abbrev at_way : (core set : ℕ) → ℕ → List ℕ
at_way c x y = 9 ∷ c ∷ x ∷ y ∷ []

held-lies : (c x y : ℕ) (cache : Cache) (o : Option ℕ) → Lie (at_way c x y) (at_way c x (suc y)) (held_record c x y cache o)
held-lies c x y cache None = lie-none (at_way c x y) (at_way c x (suc y))
held-lies c x y cache (Some l) =
    lie-at (at_way c x y) (at_way c x (suc y)) (Holds c x y (frame_of cache l)) refl (fourth-lower 9 c x y (suc y) (omega arith))

way-lies : (c : ℕ) (cache : Cache) (x y : ℕ) → Lie (at_way c x y) (at_way c x (suc y)) (way_record c cache x y)
unfolding way_record
way-lies c cache x y = held-lies c x y cache (cache.at x y)

pub set-lies : (c ways : ℕ) (cache : Cache) (x : ℕ) → Lie (by_number 9 c x) (by_number 9 c (suc x)) (set_records c ways cache x)
unfolding set_records
set-lies c ways cache x =
    let rs = flat_map (way_record c cache x) (numbers ways) in
    let past : IsUpTo (at_way c x ways) (by_number 9 c (suc x)) =
    lower-is-up-to (at_way c x ways) (by_number 9 c (suc x)) (third-lower 9 c x (suc x) (ways ∷ []) (0 ∷ []) (omega arith)) in
    widened (by_number 9 c x) (by_number 9 c x) (at_way c x ways) (by_number 9 c (suc x)) rs (up-to-self (by_number 9 c x)) past
    (lie-numbers (way_record c cache x) (at_way c x)
    (λ y. lower-is-up-to (at_way c x y) (at_way c x (suc y)) (fourth-lower 9 c x y (suc y) (omega arith))) ways
    (λ y b. way-lies c cache x y))

-- ---- what was spilled

abbrev at_word : Shape → (core word : ℕ) → List ℕ
at_word sh c w = 10 ∷ c ∷ addr_of sh w ∷ 0 ∷ []

word-lies : (sh : Shape) (c w : ℕ) (sp : ℕ → Option ℕ) → Lie (at_word sh c w) (at_word sh c (suc w)) (spilled_word sh c sp w)
unfolding spilled_word
word-lies sh c w sp = go (sp w)
  where
    go : (o : Option ℕ) → Lie (at_word sh c w) (at_word sh c (suc w)) (spilled_record c (addr_of sh w) o)
    go None = lie-none (at_word sh c w) (at_word sh c (suc w))
    go (Some v) =
        lie-at (at_word sh c w) (at_word sh c (suc w)) (Spilled c (addr_of sh w) v) refl
        (third-lower 10 c (addr_of sh w) (addr_of sh (suc w)) (0 ∷ []) (0 ∷ []) (omega arith))

spilled-lie : (sh : Shape) (c : ℕ) (sp : ℕ → Option ℕ) (l : ℕ)
    → Lie (at_word sh c (word_at l 0)) (at_word sh c (word_at (suc l) 0)) (spilled_records sh c sp l)
unfolding spilled_records
spilled-lie sh c sp l =
    let f : ℕ → List Record = λ k. spilled_word sh c sp (word_at l k) in
    let k : ℕ → List ℕ = λ j. at_word sh c (word_at l j) in
    let up : (j : ℕ) → IsUpTo (k j) (k (suc j)) =
    λ j. third-up-to 10 c (addr_of sh (word_at l j)) (addr_of sh (word_at l (suc j))) (0 ∷ []) (omega arith) in
    let next : (j : ℕ) → word_at l (suc j) ≡ suc (word_at l j) = λ j. omega arith in
    widened (k 0) (k 0) (k 8) (at_word sh c (word_at (suc l) 0)) (flat_map f (numbers 8)) (up-to-self (k 0))
    (third-up-to 10 c (addr_of sh (word_at l 8)) (addr_of sh (word_at (suc l) 0)) (0 ∷ []) (omega arith))
    (lie-numbers f k up 8
    (λ j b. subst (λ w. Lie (k j) (at_word sh c w) (f j)) (sym (next j)) (word-lies sh c (word_at l j) sp)))

pub all-spilled-lie : (sh : Shape) (c : ℕ) (sp : ℕ → Option ℕ)
    → Lie (of_kind 10 c) (of_kind 11 c) (flat_map (spilled_records sh c sp) (numbers (lines sh)))
all-spilled-lie sh c sp =
    let k : ℕ → List ℕ = λ l. at_word sh c (word_at l 0) in
    let rs = flat_map (spilled_records sh c sp) (numbers (lines sh)) in
    widened (of_kind 10 c) (k 0) (k (lines sh)) (of_kind 11 c) rs (third-up-to 10 c 0 (addr_of sh (word_at 0 0)) (0 ∷ []) (omega arith))
    (kind-up-to 10 11 (c ∷ addr_of sh (word_at (lines sh) 0) ∷ 0 ∷ []) (c ∷ 0 ∷ 0 ∷ []) (omega arith))
    (lie-numbers (spilled_records sh c sp) k
    (λ l. third-up-to 10 c (addr_of sh (word_at l 0)) (addr_of sh (word_at (suc l) 0)) (0 ∷ []) (omega arith)) (lines sh)
    (λ l b. spilled-lie sh c sp l))

cached-lie : (sh : Shape) (c : ℕ) (s : CoreState) → Lie (of_kind 9 c) (of_kind 11 c) (cached_records sh c s)
unfolding cached_records
cached-lie sh c s =
    joined c 9 10 11 (omega arith) (omega arith) (flat_map (set_records c sh.ways s.cache) (numbers sh.sets))
    (flat_map (spilled_records sh c s.spilled) (numbers (lines sh)))
    (numbered 9 c (set_records c sh.ways s.cache) (set-lies c sh.ways s.cache) sh.sets) (all-spilled-lie sh c s.spilled)

-- ---- the whole

pub core-ordered : (sh : Shape) (c : ℕ) (s : CoreState) → AreOrdered (core_records sh c s)
unfolding core_records
core-ordered sh c s =
    (joined c 0 6 11 (omega arith) (omega arith) (attempt_records sh c s) (register_records c s ++ cached_records sh c s)
    (attempt-lies sh c s)
    (joined c 6 9 11 (omega arith) (omega arith) (register_records c s) (cached_records sh c s) (registers-lie c s)
    (cached-lie sh c s))).ordered
