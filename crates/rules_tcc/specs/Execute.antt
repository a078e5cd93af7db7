-- Executing one instruction: what it needs decides what happens. Each rule gives None where the event isn't enabled.
use Rattle.std.specs.Prelude.{ℕ, Bool, false, not, [], ◌∷◌, Option, Some, None, is_some, ◌&&◌, ◌||◌, if◌then◌else◌}
use Rattle.tcc_base.specs.Put.{put}
use Rattle.tcc_base.specs.declared.access.Size.{Size}
use Rattle.tcc_base.specs.declared.access.Size.TheVariants.{Byte, Half, Word}
use Rattle.rules_program.specs.Program.{Need, Nothing, Loads, Stores, Changes, Prints, Ends, Halts, Traps, Program}
use Rattle.rules_program.specs.Ram.{word_of}
use Rattle.rules_maps.specs.Words.{line_of}
use Rattle.rules_maps.specs.Nodes.{Dir, Vendor, TidReq, LoadReq}
use Rattle.rules_maps.specs.Shape.{Shape, home, set_of}
use Rattle.rules_maps.specs.Cache.{free_way, all_marked}
use Rattle.rules_maps.specs.CacheChange.{marked, stored, placed}
use Rattle.rules_maps.specs.Spilled.{holds}
use Rattle.rules_tcc.specs.State.{CoreState, Phase, AwaitTid, Overflowing, Solo}
use Rattle.rules_tcc.specs.Sends.{nothing, to, flush_line}
use Rattle.rules_tcc.specs.Attempt.{Out, moves, is_solo, is_running, new_word, finished}
use Rattle.rules_tcc.specs.Commit.{solo_commit}

-- LoadReq goes to the line's home, and the core awaits the line
unfoldable pub request_line : Shape → ℕ → CoreState → Out
request_line sh l s = moves (record s { awaited = Some (record { line = l; stale = false }) })
    (to (Dir (home sh l)) (LoadReq l (s.last_commit (home sh l)) ∷ []))

-- the line gets the lowest free way of its set, with nothing valid
unfoldable pub place : Shape → ℕ → CoreState → CoreState
place sh l s = record s { cache = placed sh l s.cache }

-- a TID is asked for, by which the core will go on alone
unfoldable pub overflow : CoreState → Out
overflow s = moves (record s { phase = Overflowing None }) (to Vendor (TidReq ∷ []))

-- no way of the set is free
unfoldable pub full_set : Shape → ℕ → CoreState → Option Out
full_set sh l s =
    if is_solo s.phase || not (all_marked sh s.cache (set_of sh l)) then None  -- alone, or with an unmarked way: it waits for room
    else Some (overflow s)  -- all ways are marked

-- A miss: a word of this line is needed that is neither spilled nor valid
unfoldable pub miss : Shape → ℕ → CoreState → Option Out
miss sh l s =
    if s.cache.held l then Some (request_line sh l s)  -- the line has a frame
    else if is_some (free_way sh s.cache (set_of sh l)) then Some (request_line sh l (place sh l s))  -- a way of the set is free
    else full_set sh l s

-- a word that is used is marked read, unless it is modified or the core is alone
unfoldable pub with_read_mark : ℕ → CoreState → CoreState
with_read_mark w s = if is_running s.phase then record s { cache = marked w s.cache } else s

-- not spilled, but valid: its value is used, and it is marked read; else it is missed
abbrev pub load_valid : Shape → Program → Need → (word : ℕ) → CoreState → (valid : Option ℕ) → Option Out
load_valid sh p need w s (Some x) = Some (moves (finished p need x (with_read_mark w s)) nothing)
load_valid sh p need w s None = miss sh (line_of w) s

-- spilled: the spilled value is used
abbrev pub load_spilled : Shape → Program → Need → (word : ℕ) → CoreState → (spilled : Option ℕ) → Option Out
load_spilled sh p need w s (Some x) = Some (moves (finished p need x s) nothing)
load_spilled sh p need w s None = load_valid sh p need w s (s.cache.value w)

-- Load: of a word that is spilled, that is valid, or neither
unfoldable pub load : Shape → Program → Need → (word : ℕ) → CoreState → Option Out
load sh p need w s = load_spilled sh p need w s (s.spilled w)

-- the word goes into the overflow buffer
unfoldable pub stored_in_buffer : ℕ → ℕ → CoreState → CoreState
stored_in_buffer w x s = record s { spilled = put s.spilled w (Some x) }

-- the word goes into its frame, and is marked read too where that is said
unfoldable pub stored_in_frame : ℕ → ℕ → (read : Bool) → CoreState → CoreState
stored_in_frame w x read s = record s { cache = stored w x read s.cache }

-- Word store: into the buffer where the line has a spilled word; into the line's frame, whose dirty words go out; or into a new frame
unfoldable pub word_store : Shape → Program → Need → (word value : ℕ) → CoreState → Option Out
word_store sh p need w x s =
    if holds s.spilled (line_of w) then Some (moves (finished p need x (stored_in_buffer w x s)) nothing)
    else if s.cache.held (line_of w) then Some (moves (finished p need x (stored_in_frame w x false s)) (flush_line sh s.cache (line_of w)))
    else if is_some (free_way sh s.cache (set_of sh (line_of w)))
    then Some (moves (finished p need x (stored_in_frame w x false (place sh (line_of w) s))) nothing)
    else full_set sh (line_of w) s

-- the word that was found is read, unless it was modified before or the core is alone
abbrev pub marks_read : ℕ → CoreState → Bool
marks_read w s = is_running s.phase && not (s.cache.modified w)

-- not spilled: where it isn't valid it is missed, as for a load; else the changed word goes into the buffer where the line has a spilled
-- word, or into the frame, whose dirty words go out
abbrev pub change_valid : Shape → Program → Need → (word : ℕ) → CoreState → (valid : Option ℕ) → Option Out
change_valid sh p need w s None = miss sh (line_of w) s
change_valid sh p need w s (Some x) =
    if holds s.spilled (line_of w) then Some (moves (finished p need x (stored_in_buffer w (new_word need x) s)) nothing)
    else Some (moves (finished p need x (stored_in_frame w (new_word need x) (marks_read w s) s)) (flush_line sh s.cache (line_of w)))

-- spilled: the changed word goes into the buffer
abbrev pub change_spilled : Shape → Program → Need → (word : ℕ) → CoreState → (spilled : Option ℕ) → Option Out
change_spilled sh p need w s (Some x) = Some (moves (finished p need x (stored_in_buffer w (new_word need x) s)) nothing)
change_spilled sh p need w s None = change_valid sh p need w s (s.cache.value w)

-- Partial store: of a word that is spilled, that is valid, or neither
unfoldable pub partial_store : Shape → Program → Need → (word : ℕ) → CoreState → Option Out
partial_store sh p need w s = change_spilled sh p need w s (s.spilled w)

-- the transaction has ended: a core that is alone commits at once, one that runs asks for a TID
abbrev pub end_transaction : Shape → (core : ℕ) → Phase → CoreState → Out
end_transaction sh id (Solo t) s = solo_commit sh id t s
end_transaction sh id _ s = moves (record s { phase = AwaitTid }) (to Vendor (TidReq ∷ []))

-- a whole word, or a part of one
abbrev pub store_by_size : Shape → Program → (addr : ℕ) → Size → (value : ℕ) → CoreState → Option Out
store_by_size sh p addr Word value s = word_store sh p (Stores addr Word value) (word_of sh.base addr) value s
store_by_size sh p addr Half value s = partial_store sh p (Stores addr Half value) (word_of sh.base addr) s
store_by_size sh p addr Byte value s = partial_store sh p (Stores addr Byte value) (word_of sh.base addr) s

-- one rule for each need; what needs no RAM is finished at once
abbrev pub execute_need : Shape → Program → (core : ℕ) → CoreState → Need → Option Out
execute_need sh p id s Nothing = Some (moves (finished p Nothing 0 s) nothing)
execute_need sh p id s (Loads addr size) = load sh p (Loads addr size) (word_of sh.base addr) s
execute_need sh p id s (Stores addr size value) = store_by_size sh p addr size value s
execute_need sh p id s (Changes addr changed) = partial_store sh p (Changes addr changed) (word_of sh.base addr) s
execute_need sh p id s (Prints byte) = Some (moves (finished p (Prints byte) 0 s) nothing)
execute_need sh p id s Ends = Some (end_transaction sh id s.phase (finished p Ends 0 s))
execute_need sh p id s (Halts code) = Some (end_transaction sh id s.phase (finished p (Halts code) 0 s))
execute_need sh p id s (Traps code) = Some (end_transaction sh id s.phase (finished p (Traps code) 0 s))

-- Execute: by what the instruction at pc needs
unfoldable pub execute : Shape → Program → (core : ℕ) → CoreState → Option Out
execute sh p id s = execute_need sh p id s (p.need s.local)
