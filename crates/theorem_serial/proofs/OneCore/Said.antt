-- What a core sends with one event, and that nothing of a kind is among it where no message of its forms is of that kind.
use Rattle.rules_tcc.specs.Sends.{write_back_of}
use Rattle.theorem_serial.proofs
use proofs.Names
use Names.{neither, ℕ, ◌≡◌, Bool, true, false, not, List, [], ◌∷◌, ◌++◌, ◌==◌, ◌&&◌, ◌||◌, Option, Some, None, nat_lt, if◌then◌else◌}
use Names.{flat_map, arith, refl, those, count_below, Dir, Vendor, Tagged, Msg, TidReq, LoadReq, Skip, Probe, Mark, Commit, Abort}
use Names.{WriteBack, Flush, InvAck, Shape, home, lines, is_modified, modified_mask, written_lines, writes_at, reads_at, dirty_copy, holds}
use Names.{spilled_mask, spilled_words, CoreState, Sends, nothing, to, flush_of, flush_line, write_back_line, skip_all, probe_all}
use Names.{abort_written, marks_for, commit_sends, solo_sends, solo_marks_or_skip, solo_write_backs, solo_writes_at, is_written}
use Names.{written_mask, grant_sends, Kind, among, passes, nats}
use proofs.Counts.{among-append, among-flat_map_none}

-- what a core sends with one event
pub data Said : Type 0 where
  Silent : Said
  Flushes : (line : ℕ) → Said
  Empties : (line : ℕ) → Said
  Requests : (line : ℕ) → Said
  Wants : Said  -- a TID
  Tells_commit : (tid : ℕ) → Said
  Tells_alone : (tid : ℕ) → Said  -- alone
  Answers : (tid : ℕ) → Said  -- a skip or a probe to each directory, or both
  Skips_all : (tid : ℕ) → Said
  Probes_all : (tid : ℕ) → Said
  Marks_at : (dir tid : ℕ) → Said
  Aborts_all : (tid : ℕ) → Said

abbrev pub say : Shape → CoreState → Said → Sends
say sh s Silent = nothing
say sh s (Flushes l) = flush_line sh s.cache l
say sh s (Empties l) = write_back_line sh s.cache l
say sh s (Requests l) = to (Dir (home sh l)) (LoadReq l (s.last_commit (home sh l)) ∷ [])
say sh s Wants = to Vendor (TidReq ∷ [])
say sh s (Tells_commit t) = commit_sends sh s.cache t
say sh s (Tells_alone t) = solo_sends sh s.cache s.spilled t
say sh s (Answers t) = grant_sends sh s.cache t
say sh s (Skips_all t) = skip_all sh t
say sh s (Probes_all t) = probe_all sh t
say sh s (Marks_at d t) = to (Dir d) (marks_for sh s.cache t d)
say sh s (Aborts_all t) = abort_written sh s.cache t

-- the forms of what is said, none of which is of the kind
pub record Piece : Type 0 where
  pub line : ℕ
  pub mask : ℕ
  pub words : List ℕ
  pub tag : ℕ
  pub count : ℕ

-- what is said is heard as of this kind, in one of its forms
abbrev pub hears : Kind → Said → Piece → Bool
hears k (Flushes l) x = passes k (Flush x.line x.mask x.words x.tag)
hears k (Empties l) x = passes k (WriteBack x.line x.mask x.words x.tag)
hears k (Requests l) x = passes k (LoadReq l x.tag)
hears k (Tells_commit t) x = passes k (Commit t x.count)
hears k (Tells_alone t) x = (passes k (Mark x.line x.mask t) || passes k (Commit t x.count))
    || (passes k (Skip t) || passes k (WriteBack x.line x.mask x.words t))
hears k (Answers t) x = passes k (Skip t) || passes k (Probe t)
hears k (Skips_all t) x = passes k (Skip t)
hears k (Probes_all t) x = passes k (Probe t)
hears k (Marks_at d t) x = passes k (Mark x.line x.mask t)
hears k (Aborts_all t) x = passes k (Abort t)
hears k _ x = false

abbrev pub Unheard : Kind → Said → Type 0
Unheard k q = (x : Piece) → hears k q x ≡ false

-- a message that isn't of the kind, and one that is sent where a test holds
one-quiet : (k : Kind) (m : Msg) (b : Bool) → passes k m ≡ false → among k (if b then m ∷ [] else []) ≡ 0
unfolding among
one-quiet k m a e = grind nats

marks-quiet : (k : Kind) (f : ℕ → ℕ) (t : ℕ) (ls : List ℕ) → ((x : Piece) → passes k (Mark x.line x.mask t) ≡ false)
    → among k (flat_map (λ l. Mark l (f l) t ∷ []) ls) ≡ 0
unfolding among
marks-quiet k f t ls h = among-flat_map_none k (λ l. Mark l (f l) t ∷ [])
    (λ l. rw (h (record { line = l; mask = f l; words = []; tag = t; count = 0 }))) ls

-- nothing of the kind is among what is said
pub quiet : (sh : Shape) (s : CoreState) (k : Kind) (q : Said) → Unheard k q → (d : ℕ) → among k (say sh s q (Dir d)) ≡ 0
unfolding flush_line write_back_line commit_sends solo_sends solo_marks_or_skip solo_write_backs grant_sends skip_all probe_all
    abort_written marks_for among
quiet sh s k (Flushes l) h d = go (d == home sh l) (dirty_copy s.cache l)
  where
    go : (b : Bool) (t : Option Tagged) → among k (if b then flush_of t else []) ≡ 0
    go true (Some t) = rw (h (record { line = t.line; mask = t.mask; words = t.words; tag = t.tag; count = 0 }))
    go true None = refl
    go false t = refl
quiet sh s k (Empties l) h d = go (d == home sh l) (dirty_copy s.cache l)
  where
    go : (b : Bool) (t : Option Tagged) → among k (if b then write_back_of t else []) ≡ 0
    go true (Some t) = rw (h (record { line = t.line; mask = t.mask; words = t.words; tag = t.tag; count = 0 }))
    go true None = refl
    go false t = refl
quiet sh s k (Requests l) h d =
    one-quiet k _ (d == home sh l) (h (record { line = l; mask = 0; words = []; tag = s.last_commit (home sh l); count = 0 }))
quiet sh s k (Tells_commit t) h d = go (nat_lt d sh.dirs) (writes_at sh s.cache d)
  where
    n : ℕ
    n = count_below (λ l. d == home sh l && is_modified s.cache l) (lines sh)

    go : (a b : Bool) → among k (if a then (if b then Commit t n ∷ [] else []) else []) ≡ 0
    go true b = one-quiet k (Commit t n) b (h (record { line = 0; mask = 0; words = []; tag = t; count = n }))
    go false b = refl
quiet sh s k (Tells_alone t) h d = go (nat_lt d sh.dirs) (solo_writes_at sh s.cache s.spilled d)
  where
    each : (x : Piece) → ((passes k (Mark x.line x.mask t) ≡ false) × (passes k (Commit t x.count) ≡ false))
        × ((passes k (Skip t) ≡ false) × (passes k (WriteBack x.line x.mask x.words t) ≡ false))
    each x = let z = neither _ _ (h x) in (neither _ _ z.0, neither _ _ z.1)

    n : ℕ
    n = count_below (λ l. d == home sh l && is_written s.cache s.spilled l) (lines sh)

    of : Piece
    of = record { line = 0; mask = 0; words = []; tag = t; count = n }

    marks : List Msg
    marks = flat_map (λ l. Mark l (written_mask s.cache s.spilled l) t ∷ [])
        (those (λ l. d == home sh l && is_written s.cache s.spilled l) (lines sh))

    backs : List Msg
    backs = flat_map (λ l. WriteBack l (spilled_mask s.spilled l) (spilled_words s.spilled l) t ∷ [])
        (those (λ l. d == home sh l && holds s.spilled l) (lines sh))

    back : among k backs ≡ 0
    back = among-flat_map_none k (λ l. WriteBack l (spilled_mask s.spilled l) (spilled_words s.spilled l) t ∷ [])
        (λ l. rw (each (record { line = l; mask = spilled_mask s.spilled l; words = spilled_words s.spilled l; tag = t; count = 0 })).1.1)
        (those (λ l. d == home sh l && holds s.spilled l) (lines sh))

    mark : among k marks ≡ 0
    mark = marks-quiet k (written_mask s.cache s.spilled) t _ (λ x. (each x).0.0)

    go : (a b : Bool) → among k (if a then (if b then marks ++ Commit t n ∷ [] else Skip t ∷ []) ++ backs else []) ≡ 0
    go true true = rw (among-append, among-append) (omega (arith, mark, back, one-quiet k (Commit t n) true (each of).0.1))
    go true false = rw among-append (omega (arith, back, one-quiet k (Skip t) true (each of).1.0))
    go false b = refl
quiet sh s k (Answers t) h d = go (nat_lt d sh.dirs) (writes_at sh s.cache d) (writes_at sh s.cache d || reads_at sh s.cache d)
  where
    of : Piece
    of = record { line = 0; mask = 0; words = []; tag = t; count = 0 }

    go : (a b c : Bool) → among k (if a then (if not b then Skip t ∷ [] else []) ++ (if c then Probe t ∷ [] else []) else []) ≡ 0
    go true b c =
        rw among-append (omega
        (arith, one-quiet k (Skip t) (not b) (neither _ _ (h of)).0, one-quiet k (Probe t) c (neither _ _ (h of)).1))
    go false b c = refl
quiet sh s k (Skips_all t) h d = one-quiet k (Skip t) (nat_lt d sh.dirs) (h (record { line = 0; mask = 0; words = []; tag = t; count = 0 }))
quiet sh s k (Probes_all t) h d =
    one-quiet k (Probe t) (nat_lt d sh.dirs) (h (record { line = 0; mask = 0; words = []; tag = t; count = 0 }))
quiet sh s k (Marks_at e t) h d = go (d == e)
  where
    go : (b : Bool) → among k (if b then flat_map (λ l. Mark l (modified_mask s.cache l) t ∷ []) (written_lines sh s.cache e) else []) ≡ 0
    go true = marks-quiet k (modified_mask s.cache) t (written_lines sh s.cache e) h
    go false = refl
quiet sh s k (Aborts_all t) h d = go (nat_lt d sh.dirs) (writes_at sh s.cache d)
  where
    go : (a b : Bool) → among k (if a then (if b then Abort t ∷ [] else []) else []) ≡ 0
    go true b = one-quiet k (Abort t) b (h (record { line = 0; mask = 0; words = []; tag = t; count = 0 }))
    go false b = refl
quiet sh s k _ h d = refl

-- nor where an acknowledgement stands behind it, of another kind too
pub acked-quiet : (sh : Shape) (k : Kind) (l : ℕ) (b : Bool) (sends : Sends) (d : ℕ) → passes k (InvAck l b) ≡ false
    → among k (sends (Dir d)) ≡ among k (sends (Dir d) ++ to (Dir (home sh l)) (InvAck l b ∷ []) (Dir d))
acked-quiet sh k l b sends d e = rw among-append (omega (arith, one-quiet))
