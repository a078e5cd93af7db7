-- Records that are the same word for word: those with the same numbers.
use Rattle.std.specs.Prelude.{ℕ, Bool, true, false, ◌==◌, ◌&&◌, List, [], ◌∷◌, Option, Some, None}
use Rattle.rules_program.specs.Plain.{Outcome, Goes, Ended, Halted, Trapped}
use Rattle.rules_maps.specs.Words.{num}
use Rattle.rules_tcc.specs.State.{Phase, Running, AwaitTid, DoomedTid, Probing, Ready, Overflowing, Solo, Halted as Stopped}
use Rattle.watch_state.specs.Records.{Frame, Known, Record, CoreIs, Reserved, EndedBy, AwaitsLine, OwedBy, CommittedAt, Register, SavedPc}
use Rattle.watch_state.specs.Records.{SavedRegister, Holds, Spilled, DirectoryIs, Skipped, LineIs, HomeWord, VendorIs, InFlight}

abbrev pub phase_numbers : Phase → List ℕ
phase_numbers Running = 0 ∷ []
phase_numbers AwaitTid = 1 ∷ []
phase_numbers DoomedTid = 2 ∷ []
phase_numbers (Probing tid) = 3 ∷ tid ∷ []
phase_numbers (Ready tid) = 4 ∷ tid ∷ []
phase_numbers (Overflowing None) = 5 ∷ []
phase_numbers (Overflowing (Some tid)) = 6 ∷ tid ∷ []
phase_numbers (Solo tid) = 7 ∷ tid ∷ []
phase_numbers Stopped = 8 ∷ []

abbrev pub outcome_numbers : Outcome → List ℕ
outcome_numbers Goes = 0 ∷ []
outcome_numbers Ended = 1 ∷ []
outcome_numbers (Halted code) = 2 ∷ code ∷ []
outcome_numbers (Trapped cause) = 3 ∷ cause ∷ []

abbrev pub owner_numbers : Option ℕ → List ℕ → List ℕ
owner_numbers None more = 0 ∷ more
owner_numbers (Some core) more = 1 ∷ core ∷ more

abbrev pub frame_numbers : Frame → List ℕ
frame_numbers f = f.line ∷ f.valid ∷ f.read ∷ f.modified ∷ f.dirty ∷ f.tag ∷ f.words

abbrev pub known_numbers : Known → List ℕ
known_numbers k = k.home ∷ k.tag ∷ num k.asked ∷ k.mark ∷ owner_numbers k.owner k.sharers

-- the kind's place, and all that the record says, as numbers; a message isn't compared with another
abbrev pub numbers_of : Record → Option (List ℕ)
numbers_of (CoreIs core n pc phase) = Some (0 ∷ core ∷ n ∷ pc ∷ phase_numbers phase)
numbers_of (Reserved core addr) = Some (1 ∷ core ∷ addr ∷ [])
numbers_of (EndedBy core outcome) = Some (2 ∷ core ∷ outcome_numbers outcome)
numbers_of (AwaitsLine core line stale) = Some (3 ∷ core ∷ line ∷ num stale ∷ [])
numbers_of (OwedBy core dirs) = Some (4 ∷ core ∷ dirs)
numbers_of (CommittedAt core dir tid) = Some (5 ∷ core ∷ dir ∷ tid ∷ [])
numbers_of (Register core number value) = Some (6 ∷ core ∷ number ∷ value ∷ [])
numbers_of (SavedPc core pc) = Some (7 ∷ core ∷ pc ∷ [])
numbers_of (SavedRegister core number value) = Some (8 ∷ core ∷ number ∷ value ∷ [])
numbers_of (Holds core set way frame) = Some (9 ∷ core ∷ set ∷ way ∷ frame_numbers frame)
numbers_of (Spilled core addr value) = Some (10 ∷ core ∷ addr ∷ value ∷ [])
numbers_of (DirectoryIs dir serving owed) = Some (11 ∷ dir ∷ serving ∷ owed ∷ [])
numbers_of (Skipped dir tid) = Some (12 ∷ dir ∷ tid ∷ [])
numbers_of (LineIs line known) = Some (13 ∷ line ∷ known_numbers known)
numbers_of (HomeWord addr value) = Some (14 ∷ addr ∷ value ∷ [])
numbers_of (VendorIs next) = Some (15 ∷ next ∷ [])
numbers_of (InFlight src dst seq msg) = None

unfoldable pub alike : List ℕ → List ℕ → Bool
alike [] [] = true
alike [] (y ∷ ys) = false
alike (x ∷ xs) [] = false
alike (x ∷ xs) (y ∷ ys) = x == y && alike xs ys

abbrev pub same_numbers : Option (List ℕ) → Option (List ℕ) → Bool
same_numbers (Some xs) (Some ys) = alike xs ys
same_numbers _ _ = false

unfoldable pub same : Record → Record → Bool
same r s = same_numbers (numbers_of r) (numbers_of s)
