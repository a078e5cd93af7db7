-- Where a machine has one directory and nothing is spilled, what a core has written is what is modified in the lines at home there.
use Rattle.std.proofs.Common.{◌≡◌, ℕ, ◌%◌, ◌&&◌, ◌==◌, map}
use Rattle.std.proofs.Common.{ap, sym, ◌∙◌, arith}
use Rattle.base_lemmas.proofs.Lemmas.{or-false}
use Rattle.rules_maps.specs.Words.{any_below, any_word, those, word_at}
use Rattle.rules_maps.specs.Masks.{mask_of}
use Rattle.rules_maps.specs.Shape.{Shape, home, lines}
use Rattle.rules_maps.specs.Cache.{Cache, is_modified, modified_mask, written_lines, marks_by_home}
use Rattle.rules_maps.specs.Spilled.{Spilled, none_spilled, holds}
use Rattle.rules_tcc.specs.Commit.{is_written, written_mask}
use Rattle.commit_engine.specs.Solo.{solo_list}

is_here : (sh : Shape) (c : Cache) (l : ℕ) → sh.dirs ≡ 1 → (0 == home sh l && is_modified c l) ≡ is_written c none_spilled l
unfolding is_written holds any_word any_below none_spilled
is_here sh c l e =
    let zero : l % 1 ≡ 0 = omega arith in
    rw (e, zero) (sym (or-false (is_modified c l)))

mask_here : (c : Cache) (l : ℕ) → modified_mask c l ≡ written_mask c none_spilled l
unfolding modified_mask written_mask none_spilled
mask_here c l = ap mask_of (λ i k. (sym (or-false (c.modified (word_at l k)))) i)

pub marks-written : (sh : Shape) (c : Cache) (sp : Spilled) → sh.dirs ≡ 1 → sp ≡ none_spilled → marks_by_home sh c 0 ≡ solo_list sh c sp
unfolding marks_by_home written_lines solo_list
marks-written sh c sp e none =
    (λ i. map (λ l. (l, mask_here c l i)) (those (λ l. is_here sh c l e i) (lines sh))) ∙ ap (solo_list sh c) (sym none)
