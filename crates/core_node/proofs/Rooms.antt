-- Where a core waits for room, from what its cache and its buffer answer.
use Rattle.std.proofs.Common.{◌≡◌, ℕ, Bool, true, false, not, is_some, ◌||◌, if◌then◌else◌, Option, Some, None, refl, ◌∙◌}
use Rattle.tcc_base.specs.declared.names.Tid.{Tid}
use Rattle.rules_program.specs.Program.{Program}
use Rattle.rules_maps.specs.Cache.{free_way, all_marked}
use Rattle.rules_maps.specs.CacheLook.{Look, Hit, Miss, NeedsRoom, Overflow, look_line, look_value, look_load, look_store}
use Rattle.rules_maps.specs.Shape.{Shape, set_of}
use Rattle.rules_maps.specs.Spilled.{holds}
use Rattle.rules_maps.specs.Words.{line_of}
use Rattle.rules_tcc.specs.Attempt.{is_solo}
use Rattle.rules_tcc.specs.State.{CoreState}
use Rattle.rules_tcc.specs.Useful.{room_in_phase, room_for_line, room_for_store, room_for_word}
use Rattle.commit_engine.specs.Engine.{phase_of}
use Rattle.commit_engine.specs.declared.phase.Phase.TheVariants as code
use Rattle.core_node.specs.Waiting.{room_after}

room_line : (sh : Shape) (l : ℕ) (s : CoreState) → room_after (look_line sh l s.cache) (is_solo s.phase) ≡ room_for_line sh l s
unfolding look_line room_for_line
room_line sh l s = by (s.cache.held l) (is_some (free_way sh s.cache (set_of sh l))) (all_marked sh s.cache (set_of sh l))
    (is_solo s.phase) (set_of sh l)
  where
    by : (h f m a : Bool) (x : ℕ) → room_after (if h then Miss else if f then Miss else if m then Overflow x else NeedsRoom x) a
        ≡ (if h || f then None else if a || not m then Some x else None)
    by true f m a x = refl
    by false true m a x = refl
    by false false true true x = refl
    by false false true false x = refl
    by false false false true x = refl
    by false false false false x = refl

line_held : (sh : Shape) (l : ℕ) (s : CoreState) → s.cache.held l ≡ true → None ≡ room_for_line sh l s
unfolding room_for_line
line_held sh l s q = rw q refl

pub room_word : (sh : Shape) (w : ℕ) (s : CoreState) (r : Option ℕ) (look : Look) (a : Bool) → None ≡ s.spilled w → r ≡ room_after look a
    → look ≡ look_load sh w s.cache → a ≡ is_solo s.phase → r ≡ room_for_word sh w s
unfolding look_load look_value room_for_word
room_word sh w s r look a e f g h = f ∙ rw (g, h) (rw (← e) (by (s.cache.value w)))
  where
    by : (v : Option ℕ) → room_after (look_value v sh (line_of w) s.cache) (is_solo s.phase)
        ≡ (if is_some v then None else room_for_line sh (line_of w) s)
    by (Some x) = refl
    by None = room_line sh (line_of w) s

pub room_store : (sh : Shape) (w : ℕ) (s : CoreState) (r : Option ℕ) (look : Look) (a : Bool) → holds s.spilled (line_of w) ≡ false
    → r ≡ room_after look a
    → look ≡ look_store sh w true s.cache → a ≡ is_solo s.phase → r ≡ room_for_store sh w s
unfolding look_store room_for_store
room_store sh w s r look a e f g h = f ∙ rw (g, h) (rw e (by (s.cache.held (line_of w)) refl))
  where
    by : (b : Bool) → s.cache.held (line_of w) ≡ b → room_after (if b then Hit 0 else look_line sh (line_of w) s.cache)
        (is_solo s.phase) ≡ room_for_line sh (line_of w) s
    by true q = line_held sh (line_of w) s q
    by false q = room_line sh (line_of w) s

pub room_overflowing : (sh : Shape) (p : Program) (s : CoreState) (o : Option Tid)
    → None ≡ room_in_phase sh p s (phase_of (code.Overflowing o))
room_overflowing sh p s None = refl
room_overflowing sh p s (Some t) = refl
