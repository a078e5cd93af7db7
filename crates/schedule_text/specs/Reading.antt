-- Reading from the front: what stands there, and the bytes after it. The contracts of the private readers cite these; what they
-- mean is told by the grammar.
use Rattle.std.specs.Prelude.{ℕ, List, [], ◌∷◌, Option, Some, None, ◌==◌, ◌&&◌, ◌||◌, ◌+◌, ◌*◌, ◌-◌, ◌^◌, ◌≡◌, nat_lt, nat_le, codes}
use Rattle.std.specs.Prelude.{if◌then◌else◌}
use Rattle.tcc_base.specs.Settings.{Settings}
use Rattle.tcc_base.specs.declared.names.NodeId.{NodeId}
use Rattle.tcc_base.specs.declared.names.NodeId.TheVariants.{Core, Dir, Vendor}
use Rattle.tcc_msg.specs.declared.event.Event.{Event}
use Rattle.tcc_msg.specs.declared.event.Event.TheVariants.{Exec, Evict, Deliver}
use Rattle.schedule_text.specs.WellFormed.{one_is_core}

-- a step, and what follows where it succeeds
infixl 10 ◌>>=◌
abbrev pub ◌>>=◌ : {A B : Type 0} → Option A → (A → Option B) → Option B
None >>= f = None
(Some x) >>= f = f x

-- the first reading that succeeds
abbrev pub or_else : {A : Type 0} → Option A → Option A → Option A
or_else None other = other
or_else (Some x) other = Some x

-- what a reader of the code returned, seen by view, is this reading
abbrev pub Reads : {X Y : Type 0} → (X → Y) → Option X → Option Y → Type 0
Reads view None read = read ≡ None
Reads view (Some x) read = read ≡ Some (view x)

-- these bytes
unfoldable pub word_at : List ℕ → List ℕ → Option (List ℕ)
word_at [] bytes = Some bytes
word_at (c ∷ word) [] = None
word_at (c ∷ word) (byte ∷ bytes) = if byte == c then word_at word bytes else None

-- a number with one more digit, below 2^62
unfoldable pub more_at : (n byte : ℕ) → Option ℕ
more_at n byte =
    if nat_le 48 byte && nat_le byte 57 && nat_lt (10 * n + (byte - 48)) (2 ^ 62) then Some (10 * n + (byte - 48)) else None

-- the further digits of a number that begins with n, and the byte after it
unfoldable pub digits_at : (end n : ℕ) → List ℕ → Option (ℕ × List ℕ)
digits_at end n [] = None
digits_at end n (byte ∷ bytes) = if byte == end then Some (n, bytes) else (more_at n byte >>= λ m. digits_at end m bytes)

-- a number below 2^62 without leading zeros, and the byte after it
unfoldable pub number_at : (end : ℕ) → List ℕ → Option (ℕ × List ℕ)
number_at end [] = None
number_at end (byte ∷ bytes) =
    if byte == 48 then (word_at (end ∷ []) bytes >>= λ rest. Some (0, rest))
    else (if nat_le 49 byte && nat_le byte 57 then digits_at end (byte - 48) bytes else None)

-- a number below a limit
unfoldable pub below_at : (end limit : ℕ) → List ℕ → Option (ℕ × List ℕ)
below_at end limit bytes = number_at end bytes >>= λ n. if nat_lt n.0 limit then Some n else None

-- a word, a number and the byte after it
unfoldable pub field_at : (word : List ℕ) → (end : ℕ) → List ℕ → Option (ℕ × List ℕ)
field_at word end bytes = word_at word bytes >>= λ rest. number_at end rest

-- the first line: its version, 1 or 2
unfoldable pub version_at : List ℕ → Option (ℕ × List ℕ)
version_at bytes = field_at (codes "tcc-schedule ") 10 bytes >>= λ v. if v.0 == 1 || v.0 == 2 then Some v else None

-- the second line, whether or not its numbers are allowed
unfoldable pub settings_at : List ℕ → Option (Settings × List ℕ)
settings_at bytes = do
  cores ← field_at (codes "cores ") 32 bytes
  dirs ← field_at (codes "dirs ") 32 cores.1
  sets ← field_at (codes "sets ") 32 dirs.1
  ways ← field_at (codes "ways ") 32 sets.1
  base ← field_at (codes "base ") 32 ways.1
  ram ← field_at (codes "ram ") 10 base.1
  Some (record { cores = cores.0; dirs = dirs.0; sets = sets.0; ways = ways.0; base = base.0; ram = ram.0 }, ram.1)

-- a core, as a node, and the space after it; then a directory, the vendor, and any node
unfoldable pub core_node_at : Settings → List ℕ → Option (NodeId × List ℕ)
core_node_at config bytes = do
  rest ← word_at (codes "c") bytes
  n ← below_at 32 config.cores rest
  Some (Core (record { 0 = n.0 }), n.1)

unfoldable pub dir_node_at : Settings → List ℕ → Option (NodeId × List ℕ)
dir_node_at config bytes = do
  rest ← word_at (codes "d") bytes
  n ← below_at 32 config.dirs rest
  Some (Dir (record { 0 = n.0 }), n.1)

unfoldable pub vendor_at : List ℕ → Option (NodeId × List ℕ)
vendor_at bytes = word_at (codes "v ") bytes >>= λ rest. Some (Vendor, rest)

unfoldable pub node_at : Settings → List ℕ → Option (NodeId × List ℕ)
node_at config bytes = or_else (core_node_at config bytes) (or_else (dir_node_at config bytes) (vendor_at bytes))

-- the line of an event of each kind; then of any kind
unfoldable pub exec_at : Settings → List ℕ → Option (Event × List ℕ)
exec_at config bytes = do
  rest ← word_at (codes "e ") bytes
  core ← below_at 10 config.cores rest
  Some (Exec (record { 0 = core.0 }), core.1)

unfoldable pub evict_at : Settings → List ℕ → Option (Event × List ℕ)
evict_at config bytes = do
  rest ← word_at (codes "x ") bytes
  core ← below_at 32 config.cores rest
  set ← below_at 32 config.sets core.1
  way ← below_at 10 config.ways set.1
  Some (Evict (record { 0 = core.0 }) set.0 way.0, way.1)

unfoldable pub deliver_at : Settings → List ℕ → Option (Event × List ℕ)
deliver_at config bytes = do
  rest ← word_at (codes "d ") bytes
  src ← node_at config rest
  dst ← node_at config src.1
  seq ← number_at 10 dst.1
  if one_is_core src.0 dst.0 then Some (Deliver (record { src = src.0; dst = dst.0; seq = seq.0 }), seq.1) else None

unfoldable pub event_at : Settings → List ℕ → Option (Event × List ℕ)
event_at config bytes = or_else (exec_at config bytes) (or_else (evict_at config bytes) (deliver_at config bytes))

-- the last line: its number
unfoldable pub end_at : List ℕ → Option (ℕ × List ℕ)
end_at bytes = field_at (codes "end ") 10 bytes
