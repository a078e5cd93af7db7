-- What a core does where memory is at hand: the line of a word that it reads is filled first, and what it writes is told by line.
use Rattle.std.specs.Prelude.{ℕ, ◌≡◌, Bool, true, false, not, ◌&&◌, ◌||◌, ◌==◌, List, [], ◌∷◌, map, get_or, unwrap_or, Option, Some}
use Rattle.std.specs.Prelude.{None, is_some, if◌then◌else◌}
use Rattle.tcc_base.specs.declared.access.Size.TheVariants.{Byte, Half, Word}
use Rattle.tcc_base.specs.declared.access.Tagged.{Tagged}
use Rattle.tcc_base.specs.declared.names.WordAddr.{WordAddr}
use Rattle.rules_maps.specs.Cache.{Cache, free_way, all_marked}
use Rattle.rules_maps.specs.Masks.{hit, mask_of}
use Rattle.rules_maps.specs.Shape.{Shape, set_of}
use Rattle.rules_maps.specs.Spilled.{holds}
use Rattle.rules_maps.specs.Words.{eight, line_of, or_else, place_of, word_at}
use Rattle.rules_program.specs.Program.{Need, Loads, Stores, Changes, Ends, Halts, Traps, Program}
use Rattle.rules_program.specs.Ram.{word_of}
use Rattle.rules_maps.specs.CacheChange.{filled, placed}
use Rattle.rules_tcc.specs.Attempt.{Out, finished, is_running, is_solo, new_word}
use Rattle.rules_tcc.specs.Execute.{marks_read, stored_in_buffer, stored_in_frame}
use Rattle.rules_tcc.specs.State.{CoreState, Phase}
use Rattle.commit_engine.specs.Solo.{solo_list}
use Rattle.commit_engine.specs.Engine.{overflows}

-- the words of a line of a memory
abbrev pub line_at : (ram : List ℕ) → (line : ℕ) → List ℕ
line_at ram l = eight (λ k. get_or ram (word_at l k) 0)

-- the state that an event leaves
abbrev pub Leaves : Option Out → CoreState → Type 0
Leaves None s = ⊥
Leaves (Some o) s = s ≡ o.core

-- the event makes the core wait to go on alone
abbrev pub goes_alone : Option Out → Bool
goes_alone None = false
goes_alone (Some o) = overflows o.core.phase

-- the words of some lines, each in the first of them that has it
unfoldable pub words_in : List Tagged → (word : ℕ) → Option ℕ
words_in [] w = None
words_in (t ∷ ts) w = if hit t.line.0 t.mask.0 w then Some (get_or t.words (place_of w) 0) else words_in ts w

-- the words that an attempt wrote
abbrev pub wrote : CoreState → (word : ℕ) → Option ℕ
wrote s w = or_else (s.spilled w) (if s.cache.modified w then s.cache.value w else None)

-- no way of a set is free, and all its lines are marked
abbrev pub line_overflows : Shape → (line : ℕ) → CoreState → Bool
line_overflows sh l s = not (s.cache.held l || is_some (free_way sh s.cache (set_of sh l))) && all_marked sh s.cache (set_of sh l)

-- a load and a partial store want the word, a whole store the line
unfoldable pub word_overflows : Shape → (word : ℕ) → CoreState → Bool
word_overflows sh w s = if is_some (s.spilled w) || is_some (s.cache.value w) then false else line_overflows sh (line_of w) s

unfoldable pub store_overflows : Shape → (word : ℕ) → CoreState → Bool
store_overflows sh w s = if holds s.spilled (line_of w) then false else line_overflows sh (line_of w) s

abbrev pub need_overflows : Shape → CoreState → Need → Bool
need_overflows sh s (Loads addr size) = word_overflows sh (word_of sh.base addr) s
need_overflows sh s (Stores addr Word value) = store_overflows sh (word_of sh.base addr) s
need_overflows sh s (Stores addr Half value) = word_overflows sh (word_of sh.base addr) s
need_overflows sh s (Stores addr Byte value) = word_overflows sh (word_of sh.base addr) s
need_overflows sh s (Changes addr changed) = word_overflows sh (word_of sh.base addr) s
need_overflows sh s _ = false

-- a line gets a frame, unless it has one, and these words in it
unfoldable pub lined : Shape → (line : ℕ) → (words : List ℕ) → CoreState → CoreState
lined sh l ws s = record s { cache = filled l ws (if s.cache.held l then s.cache else placed sh l s.cache) }

-- the line has a frame in which all words are valid
unfoldable pub is_whole : (line : ℕ) → Cache → Bool
is_whole l c = c.held l && mask_of (λ k. is_some (c.value (word_at l k))) == 255

-- to read the word fills its line: the word isn't spilled, and its line isn't whole and has a frame or may have one
unfoldable pub word_fills : Shape → (word : ℕ) → CoreState → Bool
word_fills sh w s =
    if is_some (s.spilled w) || is_whole (line_of w) s.cache then false
    else s.cache.held (line_of w) || is_some (free_way sh s.cache (set_of sh (line_of w)))

abbrev pub filling : Shape → (word : ℕ) → CoreState → Option ℕ
filling sh w s = if word_fills sh w s then Some w else None

-- the word that an instruction reads and for which it fills a line
abbrev pub need_fills : Shape → CoreState → Need → Option ℕ
need_fills sh s (Loads addr size) = filling sh (word_of sh.base addr) s
need_fills sh s (Stores addr Word value) = None
need_fills sh s (Stores addr Half value) = filling sh (word_of sh.base addr) s
need_fills sh s (Stores addr Byte value) = filling sh (word_of sh.base addr) s
need_fills sh s (Changes addr changed) = filling sh (word_of sh.base addr) s
need_fills sh s _ = None

-- the core with that word's line
abbrev pub with_line : Shape → (lines : ℕ → List ℕ) → CoreState → (word : Option ℕ) → CoreState
with_line sh f s None = s
with_line sh f s (Some w) = lined sh (line_of w) (f (line_of w)) s

abbrev pub ready : Shape → Program → (lines : ℕ → List ℕ) → CoreState → CoreState
ready sh p f s = with_line sh f s (need_fills sh s (p.need s.local))

-- the value of a word of a line with these words: the core's, where it is valid
abbrev pub word_lined : (words : List ℕ) → (word : ℕ) → CoreState → ℕ
word_lined ws w s = unwrap_or (s.cache.value w) (get_or ws (place_of w) 0)

-- a word that was found in a frame is changed, and its instruction is done
abbrev pub changed : Program → Need → (word x : ℕ) → CoreState → CoreState
changed p need w x s =
    if holds s.spilled (line_of w) then finished p need x (stored_in_buffer w (new_word need x) s)
    else finished p need x (stored_in_frame w (new_word need x) (marks_read w s) s)

-- it executes, alone or not
abbrev pub executes : Phase → Bool
executes p = is_running p || is_solo p

abbrev pub number_of : WordAddr → ℕ
number_of w = w.0

-- what the core has of a word; zero where it has nothing
abbrev pub word_told : CoreState → (word : ℕ) → ℕ
word_told s w = unwrap_or (or_else (s.spilled w) (s.cache.value w)) 0

-- what it has of a line, with this mask
unfoldable pub line_told : CoreState → (tid : ℕ) → ℕ × ℕ → Tagged
line_told s t m = record {
  line = record { 0 = m.0 };
  mask = record { 0 = m.1 };
  words = eight (λ k. word_told s (word_at m.0 k));
  tag = record { 0 = t };
}

-- all lines that its attempt has written
unfoldable pub lines_told : Shape → (tid : ℕ) → CoreState → List Tagged
lines_told sh t s = map (line_told s t) (solo_list sh s.cache s.spilled)

-- the instruction ends its transaction
abbrev pub ends_by : Need → Bool
ends_by Ends = true
ends_by (Halts code) = true
ends_by (Traps code) = true
ends_by _ = false
