-- The parts of a run's text.
use Rattle.std.proofs.Common.{◌≡◌, ℕ, List, [], ◌++◌, append-nil, append_assoc, sym, ap, ◌∙◌}
use Rattle.net_core.specs.Machine.{Machine}
use Rattle.row_text.specs.Rows.{row_text, rows_text}
use Rattle.watch_count.specs.Counts.{Counts}
use Rattle.count_rows.specs.Rows.{counts_text}
use Rattle.checkpoint_text.specs.Laws.{machine_text}
use Rattle.watch_run.specs.Runs.{RunData}
use Rattle.checkpoint_run.specs.Runs.{generator_row, head_rows, run_text, version_row}

-- the rows that a run has of its own are two
pub head-parts : (r : RunData) (rest : List ℕ)
    → rows_text (head_rows r) ++ rest ≡ row_text version_row ++ (row_text (generator_row r.seed r.drawn) ++ rest)
unfolding head_rows rows_text
head-parts r rest =
    let one = row_text version_row in
    let two = row_text (generator_row r.seed r.drawn) in
    append_assoc one (two ++ []) rest ∙ ap (λ t. one ++ (t ++ rest)) (append-nil two)

-- they are written
pub head-written : (r : RunData) (seed drawn : ℕ) (text one two : List ℕ) → seed ≡ r.seed → drawn ≡ r.drawn
    → one ≡ text ++ row_text version_row → two ≡ one ++ row_text (generator_row seed drawn) → two ≡ text ++ rows_text (head_rows r)
unfolding head_rows rows_text
head-written r seed drawn text one two is_seed is_drawn first second =
    second ∙ ap (λ t. t ++ row_text (generator_row seed drawn)) first
    ∙ append_assoc text (row_text version_row) (row_text (generator_row seed drawn))
    ∙ ap (λ t. text ++ (row_text version_row ++ t)) (sym (append-nil (row_text (generator_row seed drawn))))
    ∙ (λ i. text ++ (row_text version_row ++ (row_text (generator_row (is_seed i) (is_drawn i)) ++ [])))

-- the head, the counts and the machine are written
pub run-written : (r : RunData) (c : Counts) (m : Machine) (text one two three : List ℕ) → c ≡ r.counts → m ≡ r.machine
    → one ≡ text ++ rows_text (head_rows r) → two ≡ one ++ counts_text c → three ≡ two ++ machine_text m → three ≡ text ++ run_text r
unfolding run_text
run-written r c m text one two three is_c is_m first second third =
    third ∙ ap (λ t. t ++ machine_text m) (second ∙ ap (λ t. t ++ counts_text c) first)
    ∙ append_assoc (text ++ rows_text (head_rows r)) (counts_text c) (machine_text m)
    ∙ append_assoc text (rows_text (head_rows r)) (counts_text c ++ machine_text m)
    ∙ (λ i. text ++ (rows_text (head_rows r) ++ (counts_text (is_c i) ++ machine_text (is_m i))))

-- they are read: a head, counts, and a machine
pub run-read : (r : RunData) (bytes after machine : List ℕ)
    → bytes ≡ row_text version_row ++ (row_text (generator_row r.seed r.drawn) ++ after) → after ≡ counts_text r.counts ++ machine
    → machine_text r.machine ≡ machine → run_text r ≡ bytes
unfolding run_text
run-read r bytes after machine head counts is =
    head-parts r (counts_text r.counts ++ machine_text r.machine)
    ∙ ap (λ t. row_text version_row ++ (row_text (generator_row r.seed r.drawn) ++ t))
    (ap (λ t. counts_text r.counts ++ t) is ∙ sym counts)
    ∙ sym head
