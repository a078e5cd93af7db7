-- Table by table, from the last one.
use Rattle.std.proofs.Common.{◌≡◌, [], ◌∷◌, ◌++◌, ◌∙◌, Some, codes, map, slice_get, subst, sym}
use Rattle.std.specs.List.{flat_map}
use Rattle.rules_maps.specs.Shape.{lines}
use Rattle.rules_tcc.specs.Seen.{numbers}
use Rattle.directory.specs.Data.{DirData}
use Rattle.net_core.specs.Machine.{settings_of}
use Rattle.row_text.specs.Rows.{rows_text}
use Rattle.checkpoint_text.specs.Directories.{directory_tables, line_row, serving_numbers}
use Rattle.checkpoint_text.specs.Numbers.{flag}
use Rattle.checkpoint_text.specs.Tables.{each, numbered, tables_rows}
use Rattle.checkpoint_text.proofs.Written.{rows-written, table-written, tables-end}
use Rattle.checkpoint_text.proofs.directories.push_directories.Goals as goal

pub returns-clause-home : goal.returns-clause-home
returns-clause-home c = λ k x at.
    c.in_ok-push_skip_table.ensures.home k x (subst (λ ds. slice_get ds k ≡ Some x) (sym c.all_dirs-dirs.ensures.data) at)

pub returns-clause-text : goal.returns-clause-text
unfolding directory_tables
returns-clause-text c =
    let m = c.args.system.now in
    tables-end c.push_line_table.new.text
    ∙ rows-written _ _ _ _ _ c.in_ok-push_line_table.ensures
    ∙ table-written _ _ _ _ _ _ c.in_ok-push_skip_table.ensures.text
    ∙ table-written _ _ _ _ _ _ c.in_ok-push_serving_table.ensures
    ∙ (λ i. c.args.text.now ++ rows_text (tables_rows (
    record { word = codes "directory"; rows = numbered (each serving_numbers) 0 (c.all_dirs-dirs.ensures.data i) }
    ∷ record {
      word = codes "skipped";
      rows = numbered (each (λ (d : DirData). map flag d.serving.skips)) 0 (c.all_dirs-dirs.ensures.data i);
    }
    ∷ record { word = codes "line"; rows = flat_map (line_row m.cores.code m.dirs.dirs) (numbers (lines (settings_of m))) }
    ∷ [])))
