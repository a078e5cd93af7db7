-- What a commit sends, as one list.
use Rattle.std.specs.Prelude.{ℕ, zero, suc, ◌≡◌, Bool, not, ◌==◌, ◌&&◌, List, [], ◌∷◌, ◌++◌, if◌then◌else◌}
use Rattle.std.specs.List.{flat_map}
use Rattle.tcc_base.specs.declared.names.NodeId.{NodeId}
use Rattle.tcc_base.specs.declared.names.NodeId.TheVariants.{Core}
use Rattle.rules_maps.specs.Words.{those}
use Rattle.rules_maps.specs.Shape.{Shape, lines}
use Rattle.rules_maps.specs.Lines.{Lines, has_mark}
use Rattle.tcc_msg.specs.declared.msg.Msg.{Msg}
use Rattle.tcc_msg.specs.declared.msg.Msg.TheVariants.{Inv}

-- a sharer of the line other than the committer
abbrev pub is_told : Lines → (core line sharer : ℕ) → Bool
is_told ls c l j = not (j == c) && ls.sharers l j

-- the line's invalidation, to each core below n that is told
unfoldable pub told : (line mask tid : ℕ) → (ℕ → Bool) → ℕ → List (NodeId × Msg)
told l m t q zero = []
told l m t q (suc n) =
    told l m t q n ++ (if q n then (Core (record { 0 = n }), Inv (record { 0 = l }) (record { 0 = m }) (record { 0 = t })) ∷ [] else [])

-- those of some lines
abbrev pub told_of : Lines → (cores core tid : ℕ) → List ℕ → List (NodeId × Msg)
told_of ls n c t xs = flat_map (λ l. told l (ls.mark l) t (is_told ls c l) n) xs

-- those of all marked lines, by rising line
abbrev pub told_all : Shape → Lines → (core tid : ℕ) → List (NodeId × Msg)
told_all sh ls c t = told_of ls sh.cores c t (those (has_mark ls) (lines sh))

-- the list begins with the other
pub record Extends {A : Type 0} (before after : List A) : Type 0 where
  pub more : List A
  pub is : after ≡ before ++ more
