-- The order of records: by kind, as the kinds stand in the table of records, and within a kind by the numbers of the key.
use Rattle.std.specs.Prelude.{ℕ, Bool, true, false, nat_lt, ◌==◌, ◌≡◌, List, [], ◌∷◌, ◌++◌, if◌then◌else◌}
use Rattle.rules_maps.specs.Nodes.{Node, Core, Dir, Vendor}
use Rattle.watch_state.specs.Records.{Record, CoreIs, Reserved, EndedBy, AwaitsLine, OwedBy, CommittedAt, Register, SavedPc}
use Rattle.watch_state.specs.Records.{SavedRegister, Holds, Spilled, DirectoryIs, Skipped, LineIs, HomeWord, VendorIs, InFlight}

-- cores, directories, the vendor
abbrev pub node_key : Node → List ℕ
node_key (Core c) = 0 ∷ c ∷ []
node_key (Dir d) = 1 ∷ d ∷ []
node_key Vendor = 2 ∷ 0 ∷ []

-- the kind's place, and the key's numbers; a number that there isn't is 0
abbrev pub key : Record → List ℕ
key (CoreIs core n pc phase) = 0 ∷ core ∷ 0 ∷ 0 ∷ []
key (Reserved core addr) = 1 ∷ core ∷ 0 ∷ 0 ∷ []
key (EndedBy core outcome) = 2 ∷ core ∷ 0 ∷ 0 ∷ []
key (AwaitsLine core line stale) = 3 ∷ core ∷ 0 ∷ 0 ∷ []
key (OwedBy core dirs) = 4 ∷ core ∷ 0 ∷ 0 ∷ []
key (CommittedAt core dir tid) = 5 ∷ core ∷ dir ∷ 0 ∷ []
key (Register core number value) = 6 ∷ core ∷ number ∷ 0 ∷ []
key (SavedPc core pc) = 7 ∷ core ∷ 0 ∷ 0 ∷ []
key (SavedRegister core number value) = 8 ∷ core ∷ number ∷ 0 ∷ []
key (Holds core set way frame) = 9 ∷ core ∷ set ∷ way ∷ []
key (Spilled core addr value) = 10 ∷ core ∷ addr ∷ 0 ∷ []
key (DirectoryIs dir serving owed) = 11 ∷ dir ∷ 0 ∷ 0 ∷ []
key (Skipped dir tid) = 12 ∷ dir ∷ tid ∷ 0 ∷ []
key (LineIs line known) = 13 ∷ line ∷ 0 ∷ 0 ∷ []
key (HomeWord addr value) = 14 ∷ addr ∷ 0 ∷ 0 ∷ []
key (VendorIs next) = 15 ∷ 0 ∷ 0 ∷ 0 ∷ []
key (InFlight src dst seq msg) = 16 ∷ node_key src ++ (node_key dst ++ seq ∷ [])

-- by the first number that isn't the same
unfoldable pub lower : List ℕ → List ℕ → Bool
lower [] [] = false
lower [] (y ∷ ys) = true
lower (x ∷ xs) [] = false
lower (x ∷ xs) (y ∷ ys) = if x == y then lower xs ys else nat_lt x y

-- all of them come behind this key
abbrev pub AreBehind : (k : List ℕ) → List Record → Type 0
AreBehind k [] = Unit {0}
AreBehind k (r ∷ rs) = (lower k (key r) ≡ true) × AreBehind k rs

-- each comes behind those before it
abbrev pub AreOrdered : List Record → Type 0
AreOrdered [] = Unit {0}
AreOrdered (r ∷ rs) = AreBehind (key r) rs × AreOrdered rs
