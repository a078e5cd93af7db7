-- The further part of a table stands behind what was written of the first events.
use Rattle.std.proofs.Common.{◌≡◌, ℕ, zero, suc, ◌+◌, ◌≤◌, false, List, [], ◌++◌, length, length-append, append_assoc}
use Rattle.std.proofs.Common.{if◌then◌else◌, refl, ap, sym, ◌∙◌, arith}
use Rattle.std.proofs.lemmas.List.{take-append-le}
use Rattle.image_load.specs.Start.{Start}
use Rattle.rules_maps.specs.Nodes.{Event}
use Rattle.rules_maps.specs.Words.{those}
use Rattle.watch_count.specs.Csv.{names_row}
use Rattle.watch_run.specs.Tables.{TablesJoin, is_due, open_rest, open_table, rest_text, row_of, rows_below, rows_between, table_text}
use Rattle.watch_run.specs.declared.tabling.Rows.{Rows}
use Rattle.watch_run.proofs.Tabled.{below-more, rows-join}

-- the rows of the first events are those of all, below them
below-first : (rows : Rows) (s : Start) (firsts more : List Event) (n : ℕ) → n ≤ length firsts
    → rows_below rows s firsts n ≡ rows_below rows s (firsts ++ more) n
unfolding rows_below those
below-first rows s firsts more zero h = refl
below-first rows s firsts more (suc n) h =
    below-more rows s firsts n
    ∙ (λ i. below-first rows s firsts more n (omega (arith, h)) i
    ++ (if is_due rows n then row_of rows s false (sym (take-append-le n firsts more (omega (arith, h))) i) else []))
    ∙ sym (below-more rows s (firsts ++ more) n)

pub tables-join : TablesJoin
unfolding open_table open_rest rest_text table_text
tables-join rows s done firsts more =
    append_assoc names_row (rows_below rows s firsts (length firsts)) (rest ++ last)
    ∙ ap (λ xs. names_row ++ xs) (sym (append_assoc (rows_below rows s firsts (length firsts)) rest last)
    ∙ ap (λ xs. xs ++ last) both)
    ∙ sym (append_assoc names_row (rows_below rows s all (length all)) last)
  where
    all : List Event
    all = firsts ++ more

    rest : List ℕ
    rest = rows_between rows s all (length firsts) (length all)

    last : List ℕ
    last = row_of rows s done all

    sum : length firsts + length more ≡ length all
    sum = sym (length-append firsts more)

    both : rows_below rows s firsts (length firsts) ++ rest ≡ rows_below rows s all (length all)
    both = ap (λ xs. xs ++ rest) (below-first rows s firsts more (length firsts) (omega arith))
        ∙ (λ i. rows_below rows s all (length firsts) ++ rows_between rows s all (length firsts) (sym sum i))
        ∙ rows-join rows s all (length firsts) (length more)
        ∙ ap (rows_below rows s all) sum
