-- The facts on lines, copies and values tried on runs that were worked by hand: as tests they hold in each state, and where one thing
-- is changed at the end of a run the fact that speaks of it fails.
use Rattle.std.specs.Prelude.{ℕ, ◌+◌, ◌*◌, ◌≡◌, Bool, true, false, not, cond, ◌==◌, ◌&&◌, ◌||◌, List, [], ◌∷◌, Option, Some, None}
use Rattle.std.specs.Prelude.{unwrap_or, is_some, nat_lt}
use Rattle.rules_program.specs.Program.{Program}
use Rattle.rules_program.specs.Ram.{flat}
use Rattle.rules_maps.specs.Words.{put, num, all_below, any_below, line_of}
use Rattle.rules_maps.specs.Lines.{Lines, with_sharer, with_owner, with_tag}
use Rattle.rules_maps.specs.Nodes.{Event}
use Rattle.rules_maps.specs.Shape.{Shape, home, lines}
use Rattle.rules_tcc.specs.CoreEvict.{is_awaited}
use Rattle.rules_tcc.specs.Rows.{Image, two_cores, small_machine, stores_second, stores_both, stores_base, stores_line, loads_then_stores}
use Rattle.rules_tcc.specs.Rows.{copies_word, both_words, both_code, entries}
use Rattle.rules_tcc.specs.Schedules.{before_the_fill, over_a_read, over_a_dirty_owner, alone_after_overflow}
use Rattle.rules_tcc.specs.Small.{small}
use Rattle.rules_tcc.specs.State.{World, start}
use Rattle.rules_tcc.specs.Step.{History, next_history, run}
use Rattle.theorem_serial.specs.Copies.{KeptTags, KeptAbove, KeptOwned, KeptSharers, settled_in_line, stored_there, copies_with, holds_line}
use Rattle.theorem_serial.specs.Count.{LoadOf, LoadNot, FillOf, FillNot, Commits, CopyMask, CopyNot, InvWord, GoneOf, live}
use Rattle.theorem_serial.specs.Invariants.{first_state}
use Rattle.theorem_serial.specs.Pairs.{Pair, pair}
use Rattle.theorem_serial.specs.Standing.{is_this}
use Rattle.theorem_serial.specs.Values.{HomeWords, UnmodifiedWords, value_at, word_copies, is_stale}
use Rattle.theorem_serial.specs.Wrote.{wrote_line, wrote_mask, last_of}

-- the tests, each in the terms of its fact

abbrev pub implies : Bool → Bool → Bool
implies a b = not a || b

unfoldable pub tag_test : Shape → History → (dir line : ℕ) → Bool
tag_test sh h d l = (h.world.dirs d).lines.tag l == last_of (settled_in_line sh h.world d l) h.commits

unfoldable pub after_test : Shape → History → (core dir : ℕ) → Pair → Bool
after_test sh h c d v =
    (v.core.last_commit d == last_of (stored_there sh c d) h.commits) && (live (LoadNot (v.core.last_commit d)) v.out == 0)

unfoldable pub loading_test : Shape → (dir line : ℕ) → Pair → Bool
loading_test sh d l v = live (LoadOf l) v.out + live (FillOf l) v.back == num (is_awaited v.core.awaited l && home sh l == d)

unfoldable pub above_test : Shape → History → (core line : ℕ) → Pair → Bool
above_test sh h c l v =
    all_below (λ t. implies (nat_lt (v.dir.lines.tag l) t)
    ((copies_with l t v == cond (wrote_line sh.base h.commits c t l) (live (Commits t) v.out) 0)
    && (live (CopyMask l t (wrote_mask sh.base h.commits c t l)) v.out == 0))) v.next

unfoldable pub owned_test : (core line : ℕ) → Pair → Bool
owned_test c l v = copies_with l (v.dir.lines.tag l) v == num (is_this (v.dir.lines.owner l) c)

unfoldable pub sharer_test : Shape → History → (core line : ℕ) → Pair → Bool
sharer_test sh h c l v =
    implies (holds_line l v)
    ((v.dir.lines.sharers l c || any_below (λ t. nat_lt 0 (live (Commits t) v.out) && wrote_line sh.base h.commits c t l) v.next)
    && (live (GoneOf l) v.out == 0))

unfoldable pub line_test : Shape → History → (core line : ℕ) → (dir : ℕ) → Pair → Bool
line_test sh h c l d v =
    tag_test sh h d l && (after_test sh h c d v
    && (loading_test sh d l v && (above_test sh h c l v && (owned_test c l v && sharer_test sh h c l v))))

unfoldable pub home_test : Shape → (ℕ → ℕ) → History → (dir word : ℕ) → Bool
home_test sh ram h d x = implies (all_below (λ c. word_copies x ((h.world.dirs d).lines.tag (line_of x)) (pair h.world c d) == 0) sh.cores)
    ((h.world.dirs d).words x == value_at sh.base ram h.commits (h.world.dirs d) None None x)

unfoldable pub copy_test : (word tag value : ℕ) → Pair → Bool
copy_test x t y v = implies (is_this (v.core.cache.dirty x) t) (is_this (v.core.cache.value x) y) && (live (CopyNot x t y) v.out == 0)

unfoldable pub frame_test : (word value : ℕ) → Pair → Bool
frame_test x y v =
    (implies (is_some (v.core.cache.value x) && not (v.core.cache.modified x)) (is_this (v.core.cache.value x) y)
    && implies (not (is_stale v.core.awaited)) (live (FillNot x y) v.back == 0)) || nat_lt 0 (live (InvWord x) v.back)

unfoldable pub word_test : Shape → (ℕ → ℕ) → History → (core word : ℕ) → (dir : ℕ) → Pair → Bool
word_test sh ram h c x d v = home_test sh ram h d x
    && (copy_test x (v.dir.lines.tag (line_of x)) (value_at sh.base ram h.commits v.dir None None x) v
    && frame_test x (value_at sh.base ram h.commits v.dir (Some c) None x) v)

-- of each core, line and word
unfoldable pub tests : Shape → (ℕ → ℕ) → History → Bool
tests sh ram h =
    all_below (λ c. all_below (λ l. line_test sh h c l (home sh l) (pair h.world c (home sh l))) (lines sh)
    && all_below (λ x. word_test sh ram h c x (home sh (line_of x)) (pair h.world c (home sh (line_of x)))) (8 * lines sh)) sh.cores

abbrev pub then_along : (History → Bool) → Option History → Bool
then_along f None = false
then_along f (Some h) = f h

-- in each state along a run
unfoldable pub along : Shape → Program → (ℕ → ℕ) → List Event → History → Bool
along sh p ram [] h = tests sh ram h
along sh p ram (e ∷ es) h = tests sh ram h && then_along (along sh p ram es) (next_history sh p h e)

-- a run of two images from the start
abbrev pub HoldsOn : Shape → Image → Image → List Event → Type 0
HoldsOn sh a b es = along sh (small (both_code a b)) (flat (both_words a b)) es (first_state entries (flat (both_words a b))) ≡ true

-- two cores and two directories, four lines
abbrev pub tried : Shape
tried = record (two_cores 2) { ram = 128 }

-- core 0 stores a word; core 1 asked for it before, loses it, reads it anew from core 0 and stores another
abbrev pub TriedFill : Type 0
TriedFill = HoldsOn tried stores_second copies_word before_the_fill

-- a larger TID commits over what a smaller one read
abbrev pub TriedRead : Type 0
TriedRead = HoldsOn tried loads_then_stores stores_second over_a_read

-- one directory: a whole line is stored over a dirty owner, whose write-back comes too late
abbrev pub TriedOwner : Type 0
TriedOwner = HoldsOn (record (two_cores 1) { ram = 160 }) stores_base stores_line over_a_dirty_owner

-- caches of one frame: a core goes on alone and spills what it stored
abbrev pub TriedAlone : Type 0
TriedAlone = HoldsOn (record small_machine { ram = 128 }) stores_both copies_word alone_after_overflow

-- where the first of them ends
abbrev pub tried_ram : ℕ → ℕ
tried_ram = flat (both_words stores_second copies_word)

unfoldable pub tried_end : History
tried_end = unwrap_or (run tried (small (both_code stores_second copies_word)) (start entries tried_ram) before_the_fill)
    (first_state entries tried_ram)

-- one thing changed

abbrev pub with_lines : World → (dir : ℕ) → (Lines → Lines) → World
with_lines w d f = record w { dirs = put w.dirs d (record (w.dirs d) { lines = f (w.dirs d).lines }) }

abbrev pub with_word : World → (dir word value : ℕ) → World
with_word w d x y = record w { dirs = put w.dirs d (record (w.dirs d) { words = put (w.dirs d).words x y }) }

-- At its end line 3 has tag 1 and no owner, both cores share it, its first word 24 is at home; core 1 has a copy of line 2 with tag 2,
-- whose Commit is in flight.
pub record Refuted (sh : Shape) (ram : ℕ → ℕ) (w : World) (h : History) : Type 0 where
  pub tag : KeptTags sh (with_lines w 1 (with_tag 3 2)) h.commits → ⊥
  pub owner : KeptOwned sh (with_lines w 1 (with_owner 3 (Some 0))) → ⊥
  pub sharer : KeptSharers sh (with_lines w 1 (with_sharer 3 1 false)) h.commits → ⊥
  pub word : HomeWords sh ram (with_word w 1 24 7) h.commits → ⊥
  pub commit : KeptAbove sh (record w { net = λ src dst. [] }) h.commits → ⊥
  pub uncommitted : UnmodifiedWords sh ram w [] → ⊥

abbrev pub TriedFails : Type 0
TriedFails = Refuted tried tried_ram tried_end.world tried_end
