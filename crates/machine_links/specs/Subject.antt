-- What decides at a directory, beside the TID that it serves, whether it takes a message, and how messages are listed by it.
use Rattle.std.specs.Prelude.{ℕ, ◌≡◌, ◌-◌, ◌%◌, ◌++◌, ◌==◌, if◌then◌else◌, List, [], ◌∷◌, length, Option, Some, None, slice_get}
use Rattle.std.specs.Prelude.{slice_index_or, slice_set}
use Rattle.rules_maps.specs.Nodes.{Node, Core, Dir, Msg, LoadReq, Mark, Commit, WriteBack, Flush}
use Rattle.machine_links.specs.declared.subject.Subject.{Subject as CodeSubject}
use Rattle.machine_links.specs.declared.subject.Subject.TheVariants as code
use Rattle.machine_links.specs.declared.subject.Entry.{Entry}

-- what is known of a line, or how many lines are marked at a directory
pub data Subject : Type 0 where
  Line : (line : ℕ) → Subject
  Marks : (dir : ℕ) → Subject

abbrev pub subject_of : CodeSubject → Subject
subject_of (code.Line l) = Line l.0
subject_of (code.Marks d) = Marks d.0

-- what a message to a directory is about, where it isn't about TIDs alone
abbrev pub about : (dir : ℕ) → Msg → Option Subject
about d (LoadReq l after) = Some (Line l)
about d (Mark l m t) = Some (Line l)
about d (WriteBack l m ws t) = Some (Line l)
about d (Flush l m ws t) = Some (Line l)
about d (Commit t n) = Some (Marks d)
about d _ = None

-- a number by which it is found: a line's own, or one from the other end
abbrev pub key : Subject → ℕ
key (Line l) = l
key (Marks d) = 4294967295 - d

-- how a message about this is listed
abbrev pub entry : Subject → (core dir seq : ℕ) → Entry
entry a c d k = record { seq = k; key = key a; src = record { 0 = c }; dst = record { 0 = d } }

abbrev pub listed_as : (core dir seq : ℕ) → Option Subject → Option Entry
listed_as c d k None = None
listed_as c d k (Some a) = Some (entry a c d k)

abbrev pub entry_of : (src dst : Node) → (seq : ℕ) → Msg → Option Entry
entry_of (Core c) (Dir d) k m = listed_as c d k (about d m)
entry_of src dst k m = None

-- the lists, and the one in which a key is found
abbrev pub Index : Type 0
Index = List (List Entry)

abbrev pub IsIndex : Index → Type 0
IsIndex x = length x ≡ 4096

unfoldable pub bucket : Index → ℕ → List Entry
bucket x key = slice_index_or x (key % 4096) []

-- the message is listed
pub record IsListed (x : Index) (e : Entry) : Type 0 where
  pub at : ℕ
  pub there : slice_get (bucket x e.key) at ≡ Some e

-- one more is listed, behind the others
unfoldable pub with_entry : Entry → Index → Index
with_entry e x = slice_set x (e.key % 4096) (bucket x e.key ++ e ∷ [])

abbrev pub with_listed : Option Entry → Index → Index
with_listed None x = x
with_listed (Some e) x = with_entry e x

-- an entry of this very key
abbrev pub of_key : (key : ℕ) → Option Entry → Option Entry
of_key k None = None
of_key k (Some e) = if e.key == k then Some e else None
