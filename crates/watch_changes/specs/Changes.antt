-- What changed between two lists of records, and how it is written.
use Rattle.std.specs.Prelude.{ℕ, ◌≡◌, true, false, List, [], ◌∷◌, ◌++◌, codes, if◌then◌else◌}
use Rattle.std.specs.List.{flat_map}
use Rattle.schedule_text.specs.Grammar.{newline}
use Rattle.watch_state.specs.Lines.{key_words, record_line}
use Rattle.watch_state.specs.Records.{Record}
use Rattle.watch_changes.specs.Order.{key, lower}
use Rattle.watch_changes.specs.Same.{same}

pub data Change : Type 0 where
  Told : (told : Record) → Change  -- it is new, or isn't as it was
  Gone : (gone : Record) → Change  -- there is none with its key any more

-- what a record that was and one that is are to each other, where all before them have been compared
pub data Meeting : Type 0 where
  Unchanged : Meeting
  Left : Meeting  -- none has the first one's key any more
  Came : Meeting  -- none had the second one's key
  Changed : Meeting  -- they have one key

unfoldable pub meeting : (before after : Record) → Meeting
meeting b a =
    if same b a then Unchanged
    else if lower (key b) (key a) then Left
    else if lower (key a) (key b) then Came
    else Changed

-- what is told of them, and then what is told behind both, behind the first, and behind the second
abbrev pub told_of : Meeting → (before after : Record) → (both first second : List Change) → List Change
told_of Unchanged b a both first second = both
told_of Left b a both first second = Gone b ∷ first
told_of Came b a both first second = Told a ∷ second
told_of Changed b a both first second = Told a ∷ both

abbrev pub all_told : List Record → List Change
all_told [] = []
all_told (a ∷ ns) = Told a ∷ all_told ns

abbrev pub all_gone : List Record → List Change
all_gone [] = []
all_gone (b ∷ bs) = Gone b ∷ all_gone bs

-- two lists that are ordered by their keys, walked side by side
unfoldable pub changes : (before after : List Record) → List Change
changes [] ns = all_told ns
changes (b ∷ bs) [] = all_gone (b ∷ bs)
changes (b ∷ bs) (a ∷ ns) = told_of (meeting b a) b a (changes bs ns) (changes bs (a ∷ ns)) (changes (b ∷ bs) ns)

-- a change put on records that are ordered by their keys
unfoldable pub with_change : Change → List Record → List Record
with_change (Told a) [] = a ∷ []
with_change (Told a) (b ∷ bs) =
    if lower (key b) (key a) then b ∷ with_change (Told a) bs else if lower (key a) (key b) then a ∷ b ∷ bs else a ∷ bs
with_change (Gone g) [] = []
with_change (Gone g) (b ∷ bs) = if lower (key b) (key g) then b ∷ with_change (Gone g) bs else bs

-- changes put on records one after another
unfoldable pub put_on : List Record → List Change → List Record
put_on bs [] = bs
put_on bs (c ∷ cs) = put_on (with_change c bs) cs

abbrev pub changed_key : Change → List ℕ
changed_key (Told r) = key r
changed_key (Gone r) = key r

-- all changes are of records behind this key
abbrev pub AreChangesBehind : (k : List ℕ) → List Change → Type 0
AreChangesBehind k [] = Unit {0}
AreChangesBehind k (c ∷ cs) = (lower k (changed_key c) ≡ true) × AreChangesBehind k cs

-- each is of a record behind those of the changes before it: no key stands twice
abbrev pub AreChangesOrdered : List Change → Type 0
AreChangesOrdered [] = Unit {0}
AreChangesOrdered (c ∷ cs) = AreChangesBehind (changed_key c) cs × AreChangesOrdered cs

-- none of these records is the same, word for word
abbrev pub IsNew : List Record → Record → Type 0
IsNew [] a = Unit {0}
IsNew (b ∷ bs) a = (same b a ≡ false) × IsNew bs a

-- of all that is told nothing is as one of these records
abbrev pub AreNew : List Record → List Change → Type 0
AreNew bs [] = Unit {0}
AreNew bs (Told a ∷ cs) = IsNew bs a × AreNew bs cs
AreNew bs (Gone g ∷ cs) = AreNew bs cs

-- ---- their lines, which begin with a space

unfoldable pub change_line : Change → List ℕ
change_line (Told r) = codes " " ++ record_line r
change_line (Gone r) = codes " gone " ++ key_words r ++ newline

unfoldable pub change_lines : List Change → List ℕ
change_lines cs = flat_map change_line cs

-- all records told
abbrev pub all_lines : List Record → List ℕ
all_lines rs = change_lines (all_told rs)
