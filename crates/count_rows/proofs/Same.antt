-- Counts with the same rows are the same.
use Rattle.std.proofs.Common.{◌≡◌, ℕ, true, ◌+◌, ◌==◌, List, [], ◌∷◌, ◌++◌, cond, codes, drop, get_or, map, refl, sym, ap, ◌∙◌, append-nil}
use Rattle.std.proofs.Common.{All}
use Rattle.row_text.specs.Rows.{HasWord, is_word_byte, rows_text}
use Rattle.watch_count.specs.declared.rows.Table.TheVariants as table
use Rattle.watch_count.specs.declared.tables.PhaseName.{PhaseName}
use Rattle.watch_count.specs.declared.tables.PhaseName.TheVariants as name
use Rattle.watch_count.specs.declared.tables.Attempts.{Attempts}
use Rattle.watch_count.specs.declared.tables.Instructions.{Instructions}
use Rattle.watch_count.specs.declared.tables.Accesses.{Accesses}
use Rattle.watch_count.specs.declared.tables.Evictions.{Evictions}
use Rattle.watch_count.specs.declared.tables.Phases.{Phases}
use Rattle.watch_count.specs.declared.tables.CoreCounts.{CoreCounts}
use Rattle.watch_count.specs.declared.messages.MessageCounts.{MessageCounts}
use Rattle.watch_count.specs.declared.places.LineCounts.{LineCounts}
use Rattle.watch_count.specs.declared.places.Conflict.{Conflict}
use Rattle.watch_count.specs.declared.places.ConflictCounts.{ConflictCounts}
use Rattle.watch_count.specs.Counts.{Counts}
use Rattle.count_rows.specs.Rows.{attempts_numbers, instructions_numbers, accesses_numbers, evictions_numbers, phase_place, phases_numbers}
use Rattle.count_rows.specs.Rows.{core_numbers, message_numbers, line_numbers, conflict_numbers, numbered, counts_rows, counts_tables}
use Rattle.count_rows.specs.Rows.{counts_text}
use Rattle.count_rows.proofs.Picked.{are_words, numbers-same, numbers_with, tables-words}

-- ---- the numbers of one row

attempts-same : (x y : Attempts) → attempts_numbers x ≡ attempts_numbers y → x ≡ y
attempts-same x y e = λ i. record {
  begun = get_or (e i) 0 0;
  committed = get_or (e i) 1 0;
  violated = get_or (e i) 2 0;
  still_open = get_or (e i) 3 0;
  unbroken = get_or (e i) 4 0;
  row = get_or (e i) 5 0;
  gave_up = get_or (e i) 6 0;
}

instructions-same : (x y : Instructions) → instructions_numbers x ≡ instructions_numbers y → x ≡ y
instructions-same x y e = λ i. record {
  executed = get_or (e i) 0 0;
  committed = get_or (e i) 1 0;
  lost = get_or (e i) 2 0;
  still_open = get_or (e i) 3 0;
}

accesses-same : (x y : Accesses) → accesses_numbers x ≡ accesses_numbers y → x ≡ y
accesses-same x y e = λ i. record {
  loads = get_or (e i) 0 0;
  stores = get_or (e i) 1 0;
  changes = get_or (e i) 2 0;
  misses = get_or (e i) 3 0;
  fills = get_or (e i) 4 0;
  overflows = get_or (e i) 5 0;
}

evictions-same : (x y : Evictions) → evictions_numbers x ≡ evictions_numbers y → x ≡ y
evictions-same x y e = λ i. record {
  clean = get_or (e i) 0 0;
  dirty = get_or (e i) 1 0;
  modified = get_or (e i) 2 0;
}

abbrev phase_from : (place : ℕ) → PhaseName
phase_from place =
    cond (place == 0) name.Running (
    cond (place == 1) name.AwaitTid (
    cond (place == 2) name.DoomedTid (
    cond (place == 3) name.Probing (
    cond (place == 4) name.Ready (
    cond (place == 5) name.Overflowing (
    cond (place == 6) name.Solo
    name.Halted))))))

phase-back : (p : PhaseName) → phase_from (phase_place p) ≡ p
phase-back name.Running = refl
phase-back name.AwaitTid = refl
phase-back name.DoomedTid = refl
phase-back name.Probing = refl
phase-back name.Ready = refl
phase-back name.Overflowing = refl
phase-back name.Solo = refl
phase-back name.Halted = refl

phases-same : (x y : Phases) (p q : PhaseName) → phases_numbers x p ≡ phases_numbers y q → x ≡ y
phases-same x y p q e = λ i. record {
  running = get_or (e i) 0 0;
  await_tid = get_or (e i) 1 0;
  doomed_tid = get_or (e i) 2 0;
  probing = get_or (e i) 3 0;
  ready = get_or (e i) 4 0;
  overflowing = get_or (e i) 5 0;
  solo = get_or (e i) 6 0;
  halted = get_or (e i) 7 0;
}

phase-same : (x y : Phases) (p q : PhaseName) → phases_numbers x p ≡ phases_numbers y q → p ≡ q
phase-same x y p q e = sym (phase-back p) ∙ ap (λ ns. phase_from (get_or ns 8 0)) e ∙ phase-back q

message-same : (x y : MessageCounts) → message_numbers x ≡ message_numbers y → x ≡ y
message-same x y e = λ i. record {
  sent = get_or (e i) 0 0;
  took = get_or (e i) 1 0;
  dropped = get_or (e i) 2 0;
  asked = get_or (e i) 3 0;
}

line-same : (x y : ℕ × LineCounts) → line_numbers x ≡ line_numbers y → x ≡ y
line-same x y e = λ i. (
  get_or (e i) 0 0,
  record {
    misses = get_or (e i) 1 0;
    invalidations = get_or (e i) 2 0;
    violations = get_or (e i) 3 0;
    lost = get_or (e i) 4 0;
  },
)

conflict-same : (x y : Conflict × ConflictCounts) → conflict_numbers x ≡ conflict_numbers y → x ≡ y
conflict-same x y e = λ i. (
  record { by = get_or (e i) 0 0; victim = get_or (e i) 1 0; line = get_or (e i) 2 0 },
  record { violations = get_or (e i) 3 0; lost = get_or (e i) 4 0 },
)

-- ---- lists of rows

-- things that have the same numbers are the same
all-same : {A : Type 0} (f : A → List ℕ) → ((x y : A) → f x ≡ f y → x ≡ y) → (xs ys : List A) → map f xs ≡ map f ys → xs ≡ ys
all-same f one [] [] e = refl
all-same f one [] (y ∷ ys) e = absurd (cc)
all-same f one (x ∷ xs) [] e = absurd (cc)
all-same f one (x ∷ xs) (y ∷ ys) e =
    let first : f x ≡ f y = cc in
    let others : map f xs ≡ map f ys = cc in
    let head = one x y first in
    let tail = all-same f one xs ys others in
    λ i. head i ∷ tail i

-- also where they are numbered
unnumbered : {A : Type 0} (f : A → List ℕ) (k : ℕ) (xs ys : List A) → numbered f k xs ≡ numbered f k ys → map f xs ≡ map f ys
unfolding numbered
unnumbered f k [] [] e = refl
unnumbered f k [] (y ∷ ys) e = absurd (cc)
unnumbered f k (x ∷ xs) [] e = absurd (cc)
unnumbered f k (x ∷ xs) (y ∷ ys) e =
    let row : k ∷ f x ≡ k ∷ f y = cc in
    let others : numbered f (k + 1) xs ≡ numbered f (k + 1) ys = cc in
    let first : f x ≡ f y = ap (drop 1) row in
    let rest = unnumbered f (k + 1) xs ys others in
    λ i. first i ∷ rest i

-- two lists of cores with the same tables
record HaveSameTables (xs ys : List CoreCounts) : Type 0 where
  attempts : map (core_numbers table.Attempts) xs ≡ map (core_numbers table.Attempts) ys
  instructions : map (core_numbers table.Instructions) xs ≡ map (core_numbers table.Instructions) ys
  accesses : map (core_numbers table.Accesses) xs ≡ map (core_numbers table.Accesses) ys
  evictions : map (core_numbers table.Evictions) xs ≡ map (core_numbers table.Evictions) ys
  phases : map (core_numbers table.Phases) xs ≡ map (core_numbers table.Phases) ys

head-same : (f : CoreCounts → List ℕ) (x y : CoreCounts) (xs ys : List CoreCounts) → map f (x ∷ xs) ≡ map f (y ∷ ys) → f x ≡ f y
head-same f x y xs ys e = cc

tail-same : (f : CoreCounts → List ℕ) (x y : CoreCounts) (xs ys : List CoreCounts) → map f (x ∷ xs) ≡ map f (y ∷ ys) → map f xs ≡ map f ys
tail-same f x y xs ys e = cc

cores-same : (xs ys : List CoreCounts) → HaveSameTables xs ys → xs ≡ ys
cores-same [] [] same = refl
cores-same [] (y ∷ ys) same = let e = same.attempts in absurd (cc)
cores-same (x ∷ xs) [] same = let e = same.attempts in absurd (cc)
cores-same (x ∷ xs) (y ∷ ys) same =
    let attempts = attempts-same x.attempts y.attempts (head-same (core_numbers table.Attempts) x y xs ys same.attempts) in
    let instructions = instructions-same x.instructions y.instructions
    (head-same (core_numbers table.Instructions) x y xs ys same.instructions) in
    let accesses = accesses-same x.accesses y.accesses (head-same (core_numbers table.Accesses) x y xs ys same.accesses) in
    let evictions = evictions-same x.evictions y.evictions (head-same (core_numbers table.Evictions) x y xs ys same.evictions) in
    let in_phases = head-same (core_numbers table.Phases) x y xs ys same.phases in
    let phases = phases-same x.phases y.phases x.phase y.phase in_phases in
    let phase = phase-same x.phases y.phases x.phase y.phase in_phases in
    let tail = cores-same xs ys (record {
      attempts = tail-same (core_numbers table.Attempts) x y xs ys same.attempts;
      instructions = tail-same (core_numbers table.Instructions) x y xs ys same.instructions;
      accesses = tail-same (core_numbers table.Accesses) x y xs ys same.accesses;
      evictions = tail-same (core_numbers table.Evictions) x y xs ys same.evictions;
      phases = tail-same (core_numbers table.Phases) x y xs ys same.phases;
    }) in
    λ i. record {
      attempts = attempts i;
      instructions = instructions i;
      accesses = accesses i;
      evictions = evictions i;
      phases = phases i;
      phase = phase i;
    } ∷ tail i

-- ---- all rows

-- the words of the tables are words
words : (c : Counts) → are_words (counts_tables c) ≡ true
unfolding counts_tables is_word_byte
words c = refl

-- all rows of counts begin with words
pub counts-words : (c : Counts) → All HasWord (counts_rows c)
unfolding counts_rows
counts-words c = tables-words (counts_tables c) (words c)

-- the rows of one table
same-numbers : (word : List ℕ) (c d : Counts) → counts_text c ≡ counts_text d
    → numbers_with word (counts_tables c) ≡ numbers_with word (counts_tables d)
unfolding counts_text counts_rows
same-numbers word c d e = numbers-same word (counts_tables c) (counts_tables d) (words c) (words d) e

whole : (xs ys : List (List ℕ)) → xs ++ [] ≡ ys ++ [] → xs ≡ ys
whole xs ys e = sym (append-nil xs) ∙ e ∙ append-nil ys

core-tables : (c d : Counts) → counts_text c ≡ counts_text d → HaveSameTables c.cores d.cores
unfolding counts_tables
core-tables c d e = record {
  attempts = unnumbered (core_numbers table.Attempts) 0 c.cores d.cores (whole _ _ (same-numbers (codes "attempts") c d e));
  instructions = unnumbered (core_numbers table.Instructions) 0 c.cores d.cores (whole _ _ (same-numbers (codes "instructions") c d e));
  accesses = unnumbered (core_numbers table.Accesses) 0 c.cores d.cores (whole _ _ (same-numbers (codes "accesses") c d e));
  evictions = unnumbered (core_numbers table.Evictions) 0 c.cores d.cores (whole _ _ (same-numbers (codes "evictions") c d e));
  phases = unnumbered (core_numbers table.Phases) 0 c.cores d.cores (whole _ _ (same-numbers (codes "phases") c d e));
}

bound-same : (c d : Counts) → counts_text c ≡ counts_text d → c.bound ≡ d.bound
unfolding counts_tables
bound-same c d e =
    let rows : (c.bound ∷ []) ∷ [] ≡ (d.bound ∷ []) ∷ [] = whole _ _ (same-numbers (codes "counted") c d e) in
    cc

messages-same : (c d : Counts) → counts_text c ≡ counts_text d → c.messages ≡ d.messages
unfolding counts_tables
messages-same c d e =
    all-same message_numbers message-same c.messages d.messages
    (unnumbered message_numbers 0 c.messages d.messages (whole _ _ (same-numbers (codes "messages") c d e)))

lines-same : (c d : Counts) → counts_text c ≡ counts_text d → c.lines ≡ d.lines
unfolding counts_tables
lines-same c d e = all-same line_numbers line-same c.lines d.lines (whole _ _ (same-numbers (codes "at-line") c d e))

conflicts-same : (c d : Counts) → counts_text c ≡ counts_text d → c.conflicts ≡ d.conflicts
unfolding counts_tables
conflicts-same c d e =
    all-same conflict_numbers conflict-same c.conflicts d.conflicts (whole _ _ (same-numbers (codes "conflict") c d e))

pub counts-same : (c d : Counts) → counts_text c ≡ counts_text d → c ≡ d
counts-same c d e =
    let cores = cores-same c.cores d.cores (core-tables c d e) in
    let messages = messages-same c d e in
    let lines = lines-same c d e in
    let conflicts = conflicts-same c d e in
    let bound = bound-same c d e in
    λ i. record { cores = cores i; messages = messages i; lines = lines i; conflicts = conflicts i; bound = bound i }
