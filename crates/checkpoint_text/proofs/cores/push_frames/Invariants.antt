-- What is written, with the rows of the ways that are left, is the rows of all.
use Rattle.std.proofs.Common.{◌≡◌, ◌∷◌, ◌++◌, codes, drop, map}
use Rattle.checkpoint_text.specs.Cores.{frame_rows}
use Rattle.checkpoint_text.specs.Written.{table_text}
use Rattle.checkpoint_text.proofs.cores.push_frames.Given as goal

abbrev pub invariant-loop-way : goal.invariant-loop-way
invariant-loop-way l =
    l.text ++ table_text (codes "frame") (map (λ row. l.k ∷ row) (frame_rows l.way (drop l.way l.cache.frames)))
    ≡ l.fn.text ++ table_text (codes "frame") (map (λ row. l.k ∷ row) (frame_rows 0 l.cache.frames))
