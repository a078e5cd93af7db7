-- What a core that is alone has written, line by line, and what goes to the home of each line.
use Rattle.std.specs.Prelude.{ℕ, List, [], ◌∷◌, map, length, ◌==◌, if◌then◌else◌}
use Rattle.std.specs.List.{flat_map}
use Rattle.tcc_base.specs.declared.names.LineAddr.{LineAddr}
use Rattle.tcc_base.specs.declared.names.Mask.{Mask}
use Rattle.rules_maps.specs.Words.{those}
use Rattle.rules_maps.specs.Nodes.{Dir, Msg, Skip, Mark, Commit, WriteBack}
use Rattle.rules_maps.specs.Shape.{Shape, home, lines}
use Rattle.rules_maps.specs.Cache.{Cache}
use Rattle.rules_maps.specs.Spilled.{Spilled, holds, spilled_mask, spilled_words}
use Rattle.rules_tcc.specs.Commit.{is_written, written_mask}
use Rattle.rules_tcc.specs.Sends.{Sends, to, when}

-- the lines with modified or spilled words, rising, each with the mask of these words
unfoldable pub solo_list : Shape → Cache → Spilled → List (ℕ × ℕ)
solo_list sh c sp = map (λ l. (l, written_mask c sp l)) (those (is_written c sp) (lines sh))

-- the line of a mark
abbrev pub line_in : LineAddr × Mask → ℕ
line_in m = m.0.0

-- to the home of each line of a list what f says
unfoldable pub at_homes : Shape → (ℕ × ℕ → List Msg) → List (ℕ × ℕ) → Sends
at_homes sh f ms dst = flat_map (λ m. to (Dir (home sh m.0)) (f m) dst) ms

-- its mark, and its spilled words where it has any
unfoldable pub marked_line : (tid : ℕ) → ℕ × ℕ → List Msg
marked_line t m = Mark m.0 m.1 t ∷ []

unfoldable pub spilled_back : Spilled → (tid : ℕ) → ℕ × ℕ → List Msg
spilled_back sp t m = when (holds sp m.0) (WriteBack m.0 (spilled_mask sp m.0) (spilled_words sp m.0) t ∷ [])

-- the lines of a list that are at home at a directory, and what tells it how many they are
unfoldable pub here : Shape → (dir : ℕ) → List (ℕ × ℕ) → List (ℕ × ℕ)
here sh d ms = flat_map (λ m. if d == home sh m.0 then m ∷ [] else []) ms

unfoldable pub closing : Shape → List (ℕ × ℕ) → (tid dir : ℕ) → List Msg
closing sh ms t d = if length (here sh d ms) == 0 then Skip t ∷ [] else Commit t (length (here sh d ms)) ∷ []
