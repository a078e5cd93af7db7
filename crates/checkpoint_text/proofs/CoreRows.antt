-- Frames and spilled lines, row by row.
use Rattle.std.proofs.Common.{ℕ, ◌≡◌, ◌<◌, ◌≤◌, ◌+◌, ◌∙◌, List, ◌∷◌, ◌++◌, Option, Some}
use Rattle.std.proofs.Common.{None, ap, arith, drop, get_or, length, map, subst, sym}
use Rattle.std.proofs.lemmas.Grind.{common_steps}
use Rattle.std.proofs.lemmas.List.{drop_more}
use Rattle.spec_cache.specs.declared.frame.FrameView.{FrameView}
use Rattle.row_text.specs.Rows.{row_text}
use Rattle.checkpoint_text.specs.Cores.{frame_numbers, frame_rows}
use Rattle.checkpoint_text.specs.Written.{table_text}

-- the rows of the frames of the ways from this one on
abbrev frames_text : List ℕ → (k way : ℕ) → List (Option FrameView) → List ℕ
frames_text w k way ways = table_text w (map (λ row. k ∷ row) (frame_rows way ways))

ways-more : (ways : List (Option FrameView)) (i : ℕ) (o : Option FrameView) → i < length ways → o ≡ get_or ways i None
    → drop i ways ≡ o ∷ drop (i + 1) ways
ways-more ways i o l e = drop_more ways i None l ∙ ap (λ x. x ∷ drop (i + 1) ways) (sym e)

-- a way holds a line, and its row is written
pub frame-more : (w : List ℕ) (k : ℕ) (ways : List (Option FrameView)) (i : ℕ) (f : FrameView) (text new whole : List ℕ)
    → i < length ways → Some f ≡ get_or ways i None → text ++ frames_text w k i (drop i ways) ≡ whole
    → new ≡ text ++ row_text (record { word = w; numbers = k ∷ i ∷ frame_numbers f })
    → new ++ frames_text w k (i + 1) (drop (i + 1) ways) ≡ whole
unfolding frame_rows table_text
frame-more w k ways i f text new whole l here before e =
    let next : text ++ frames_text w k i (Some f ∷ drop (i + 1) ways) ≡ whole =
    subst (λ ws. text ++ frames_text w k i ws ≡ whole) (ways-more ways i (Some f) l here) before in
    grind (arith, common_steps)

-- a way holds no line, and nothing is written
pub frame-none : (w : List ℕ) (k : ℕ) (ways : List (Option FrameView)) (i : ℕ) (text whole : List ℕ)
    → i < length ways → None ≡ get_or ways i None → text ++ frames_text w k i (drop i ways) ≡ whole
    → text ++ frames_text w k (i + 1) (drop (i + 1) ways) ≡ whole
unfolding frame_rows table_text
frame-none w k ways i text whole l here before =
    subst (λ ws. text ++ frames_text w k i ws ≡ whole) (ways-more ways i None l here) before

pub frames-end : (w : List ℕ) (k : ℕ) (ways : List (Option FrameView)) (i : ℕ) (text whole : List ℕ)
    → length ways ≤ i → text ++ frames_text w k i (drop i ways) ≡ whole → text ≡ whole
unfolding frame_rows table_text
frames-end w k ways i text whole l e = grind (arith, common_steps)
