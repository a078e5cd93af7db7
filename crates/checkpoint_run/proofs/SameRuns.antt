-- Runs with the same text are the same.
use Rattle.std.proofs.Common.{◌≡◌, ℕ, All, Some, true, List, [], ◌∷◌, ◌++◌, append-nil, codes, drop, get_or, length, refl, sym, ap, ◌∙◌}
use Rattle.std.proofs.Common.{subst}
use Rattle.std.proofs.lemmas.List.Concat.{flat_map-append}
use Rattle.std.proofs.lemmas.List.Elements.{All-append, All-cons, All-nil}
use Rattle.image_load.specs.Contents.{Contents, started}
use Rattle.image_load.specs.Start.{Start}
use Rattle.net_core.specs.Machine.{Machine, history_of, start_of}
use Rattle.rules_maps.specs.Nodes.{Event}
use Rattle.rules_riscv.specs.Starting.{world_at_start}
use Rattle.rules_tcc.specs.Picked.{picked}
use Rattle.rules_tcc.specs.Step.{run}
use Rattle.rv_code.specs.Machine.{program}
use Rattle.tcc_pick.specs.Words.{seeded, words}
use Rattle.row_text.proofs.Lemmas.{is-word, one-text_of_words}
use Rattle.row_text.specs.Rows.{HasWord, Row, is_word_byte, row_text, rows_text}
use Rattle.watch_count.specs.Counts.{Counts}
use Rattle.count_rows.proofs.Lemmas.{counts-same, counts-words}
use Rattle.count_rows.specs.Rows.{counts_rows, counts_tables, counts_text}
use Rattle.checkpoint_text.proofs.Lemmas.{machine-words, machines-same}
use Rattle.checkpoint_text.specs.Laws.{machine_text}
use Rattle.checkpoint_text.specs.Machines.{head_tables, machine_tables}
use Rattle.checkpoint_text.specs.Tables.{table_rows, tables_rows}
use Rattle.watch_run.specs.Forgetting.{IsKeptOf}
use Rattle.watch_run.specs.Looked.{HasCounted, counts_of_run}
use Rattle.watch_run.specs.Runs.{IsRunOf, RunData, seed_events}
use Rattle.checkpoint_run.specs.Laws.{HaveSameText, IsSameRun}
use Rattle.checkpoint_run.specs.Runs.{generator_row, head_rows, run_text, version_row}
use Rattle.checkpoint_run.proofs.Split.{before, before-none, from, from-none, has_none, none-tables}

-- ---- all rows of a run

abbrev machine_rows : Machine → List Row
machine_rows m = tables_rows (machine_tables m)

abbrev all_rows : RunData → List Row
all_rows r = head_rows r ++ (counts_rows r.counts ++ machine_rows r.machine)

rows-append : (xs ys : List Row) → rows_text (xs ++ ys) ≡ rows_text xs ++ rows_text ys
unfolding rows_text
rows-append xs ys = flat_map-append row_text xs ys

text-rows : (r : RunData) → run_text r ≡ rows_text (all_rows r)
unfolding run_text counts_text machine_text
text-rows r =
    sym (rows-append (head_rows r) (counts_rows r.counts ++ machine_rows r.machine)
    ∙ ap (λ t. rows_text (head_rows r) ++ t) (rows-append (counts_rows r.counts) (machine_rows r.machine)))

head-words : (r : RunData) → All HasWord (head_rows r)
unfolding head_rows is_word_byte
head-words r =
    let generator = generator_row r.seed r.drawn in
    All-cons HasWord version_row (generator ∷ []) (is-word _ _ refl) (All-cons HasWord generator [] (is-word _ _ refl) (All-nil HasWord))

all-words : (r : RunData) → All HasWord (all_rows r)
all-words r =
    All-append HasWord (head_rows r) (counts_rows r.counts ++ machine_rows r.machine) (head-words r)
    (All-append HasWord (counts_rows r.counts) (machine_rows r.machine) (counts-words r.counts) (machine-words r.machine))

rows-same : (q r : RunData) → run_text q ≡ run_text r → all_rows q ≡ all_rows r
rows-same q r e =
    one-text_of_words (all_rows q) (all_rows r) (all-words q) (all-words r) (sym (text-rows q) ∙ e ∙ text-rows r)

-- ---- the rows that a run has of its own

abbrev second_numbers : List Row → List ℕ
second_numbers (first ∷ second ∷ rows) = second.numbers
second_numbers _ = []

head-same : (q r : RunData) → run_text q ≡ run_text r → q.seed ∷ q.drawn ∷ [] ≡ r.seed ∷ r.drawn ∷ []
unfolding head_rows
head-same q r e = ap second_numbers (rows-same q r e)

later-same : (q r : RunData) → run_text q ≡ run_text r
    → counts_rows q.counts ++ machine_rows q.machine ≡ counts_rows r.counts ++ machine_rows r.machine
unfolding head_rows
later-same q r e = ap (drop 2) (rows-same q r e)

-- ---- the rows of counts, and those of the machine from its first one on

abbrev first_word : List ℕ
first_word = codes "tcc-checkpoint"

counts-none : (c : Counts) → has_none first_word (counts_rows c) ≡ true
unfolding counts_rows counts_tables
counts-none c = none-tables first_word (counts_tables c) refl

machine-before : (m : Machine) → before first_word (machine_rows m) ≡ []
unfolding machine_tables head_tables tables_rows table_rows
machine-before m = refl

machine-from : (m : Machine) → from first_word (machine_rows m) ≡ machine_rows m
unfolding machine_tables head_tables tables_rows table_rows
machine-from m = refl

counts-alone : (c : Counts) (m : Machine) → before first_word (counts_rows c ++ machine_rows m) ≡ counts_rows c
counts-alone c m =
    before-none first_word (counts_rows c) (machine_rows m) (counts-none c) ∙ ap (λ rs. counts_rows c ++ rs) (machine-before m)
    ∙ append-nil (counts_rows c)

machine-alone : (c : Counts) (m : Machine) → from first_word (counts_rows c ++ machine_rows m) ≡ machine_rows m
machine-alone c m = from-none first_word (counts_rows c) (machine_rows m) (counts-none c) ∙ machine-from m

counts-text : (q r : RunData) → run_text q ≡ run_text r → counts_text q.counts ≡ counts_text r.counts
unfolding counts_text
counts-text q r e =
    ap rows_text (sym (counts-alone q.counts q.machine) ∙ ap (before first_word) (later-same q r e) ∙ counts-alone r.counts r.machine)

machine-text : (q r : RunData) → run_text q ≡ run_text r → machine_text q.machine ≡ machine_text r.machine
unfolding machine_text
machine-text q r e =
    ap rows_text (sym (machine-alone q.counts q.machine) ∙ ap (from first_word) (later-same q r e) ∙ machine-alone r.counts r.machine)

-- ---- the run

pub runs-same : (q r : RunData) → HaveSameText q r → IsSameRun q r
runs-same q r same =
    let head = head-same q r same.text in
    record {
      counts = counts-same q.counts r.counts (counts-text q r same.text);
      seed = ap (λ ns. get_or ns 0 0) head;
      drawn = ap (λ ns. get_or ns 1 0) head;
      machine = machines-same q.machine r.machine same.start same.laid_out same.laid_out_too (machine-text q r same.text);
    }

-- what a seed picks depends on the start alone
picked-same : (c d : Contents) → started c ≡ started d → (seed steps : ℕ) → seed_events c seed steps ≡ seed_events d seed steps
unfolding started
picked-same c d e seed steps =
    ap (λ (s : Start). picked s.settings (program s) (words steps (seeded seed)) (world_at_start s)) e

-- what was counted by events is what was counted by them, whichever machine has their state
counted-same : (q r : RunData) → HaveSameText q r → (c : Contents) (es : List Event) → started c ≡ start_of r.machine
    → HasCounted c es q.machine q.counts → HasCounted r.machine.cores.code es r.machine r.counts
unfolding started
counted-same q r same c es start given =
    let is = runs-same q r same in
    record {
      ends = given.ends;
      ran = subst (λ (s : Start). run s.settings (program s) (world_at_start s) es ≡ Some given.ends) start given.ran;
      kept = subst (λ (s : Start). IsKeptOf s.settings (history_of r.machine) given.ends) start
          (subst (λ h. IsKeptOf c.settings h given.ends) is.machine.history given.kept);
      counted = sym is.counts ∙ given.counted ∙ ap (λ s. counts_of_run s es) start;
      settled = same.laid_out_too.settled;
      events = sym is.machine.events ∙ given.events;
      code = refl;
    }

pub runs-go-on : (q r : RunData) → HaveSameText q r → (c : Contents) (steps : ℕ) → IsRunOf c steps q
    → IsRunOf r.machine.cores.code steps r
runs-go-on q r same c steps is =
    let d = r.machine.cores.code in
    let alike = runs-same q r same in
    let start : started c ≡ started d = sym (ap started is.counted.code) ∙ same.start in
    let events : seed_events c q.seed steps ≡ seed_events d r.seed steps =
    picked-same c d start q.seed steps ∙ ap (λ s. seed_events d s steps) alike.seed in
    record {
      counted = counted-same q r same c (seed_events d r.seed steps) start
          (subst (λ es. HasCounted c es q.machine q.counts) events is.counted);
      drawn = sym alike.drawn ∙ is.drawn ∙ ap length events;
    }
