-- Each event of a core keeps what holds of it.
use Rattle.std.proofs.Common.{◌≡◌, ℕ, ◌%◌, Bool, true, false, not, cond, ◌||◌, ◌⊎◌, inl, inr, ⊎_elim, Option, Some, None, is_some, refl, ap}
use Rattle.std.proofs.Common.{sym, ◌∙◌, arith}
use Rattle.std.specs.Prelude.{IfSome}
use Rattle.std.proofs.lemmas.Bool.{cases_Bool, cases_eq}
use Rattle.std.proofs.lemmas.Bool.Decides.{nat_tests}
use Rattle.tcc_base.specs.Put.{put}
use Rattle.base_lemmas.proofs.Lemmas.{held_valued}
use Rattle.rules_program.specs.Program.{Need, Nothing, Loads, Stores, Changes, Prints, Ends, Halts, Traps, Program}
use Rattle.rules_maps.specs.Words.{line_of, any_word, word_at}
use Rattle.rules_maps.specs.Shape.{Shape, set_of}
use Rattle.rules_maps.specs.Cache.{Cache, free_way, all_marked}
use Rattle.rules_maps.specs.CacheChange.{marked, stored, placed}
use Rattle.rules_maps.specs.Spilled.{holds}
use Rattle.rules_maps.proofs.Lemmas.{marked-keeps, stored-keeps, placed-keeps, any_below-at, any_below-found, held-placed, modified-placed}
use Rattle.rules_maps.proofs.Lemmas.{dirty-placed, read-placed, modified-marked, dirty-marked, held-marked, held-stored, modified-stored}
use Rattle.rules_maps.proofs.Lemmas.{dirty-stored}
use Rattle.rules_tcc.specs.State.{CoreState, Awaited}
use Rattle.rules_tcc.specs.Attempt.{Out, is_solo, is_running, one_more_instruction, finished}
use Rattle.rules_tcc.specs.Execute.{request_line, place, overflow, full_set, miss, with_read_mark, stored_in_buffer, stored_in_frame}
use Rattle.theorem_attempt.specs.Sound.{AwaitsHeld, is_idle, SoundCore}

-- the instruction's end changes nothing of this
pub finished-sound : (sh : Shape) (p : Program) (need : Need) (x : ℕ) (s : CoreState) → SoundCore sh s → SoundCore sh (finished p need x s)
unfolding finished one_more_instruction
finished-sound sh p Nothing x s k = record { cache = k.cache; awaits = k.awaits; alone = k.alone; apart = k.apart; unmarked = k.unmarked }
finished-sound sh p (Loads addr size) x s k =
    record { cache = k.cache; awaits = k.awaits; alone = k.alone; apart = k.apart; unmarked = k.unmarked }
finished-sound sh p (Stores addr size value) x s k =
    record { cache = k.cache; awaits = k.awaits; alone = k.alone; apart = k.apart; unmarked = k.unmarked }
finished-sound sh p (Changes addr changed) x s k =
    record { cache = k.cache; awaits = k.awaits; alone = k.alone; apart = k.apart; unmarked = k.unmarked }
finished-sound sh p (Prints byte) x s k =
    record { cache = k.cache; awaits = k.awaits; alone = k.alone; apart = k.apart; unmarked = k.unmarked }
finished-sound sh p Ends x s k = record { cache = k.cache; awaits = k.awaits; alone = k.alone; apart = k.apart; unmarked = k.unmarked }
finished-sound sh p (Halts code) x s k =
    record { cache = k.cache; awaits = k.awaits; alone = k.alone; apart = k.apart; unmarked = k.unmarked }
finished-sound sh p (Traps code) x s k =
    record { cache = k.cache; awaits = k.awaits; alone = k.alone; apart = k.apart; unmarked = k.unmarked }

-- spilled words of a line
pub holds-found : (sp : ℕ → Option ℕ) (l : ℕ) → holds sp l ≡ true → (v : ℕ) × (line_of v ≡ l) × (is_some (sp v) ≡ true)
unfolding holds any_word
holds-found sp l h = let f = any_below-found (λ k. is_some (sp (word_at l k))) 8 h in (word_at l f.0, (let b = f.1 in omega arith), f.2)

pub holds-none : (sp : ℕ → Option ℕ) (l v : ℕ) → holds sp l ≡ false → line_of v ≡ l → is_some (sp v) ≡ false
unfolding holds any_word
holds-none sp l v h e = ⊎_elim
    (λ t. let i : word_at l (v % 8) ≡ v = omega arith in
    let s : is_some (sp (word_at l (v % 8))) ≡ true = ap (λ x. is_some (sp x)) i ∙ t in
    let y = any_below-at (λ k. is_some (sp (word_at l k))) 8 (v % 8) (omega arith) s in absurd (cc))
    (λ t. t)
    (cases_Bool (is_some (sp v)))

pub request_line-sound : (sh : Shape) (l : ℕ) (s : CoreState) → s.cache.held l ≡ true → SoundCore sh s →
    SoundCore sh (request_line sh l s).core
unfolding request_line
request_line-sound sh l s h k = record { cache = k.cache; awaits = h; alone = k.alone; apart = k.apart; unmarked = k.unmarked }

placed-awaits : (sh : Shape) (l y : ℕ) (c : Cache) (o : Option Awaited) → free_way sh c (set_of sh l) ≡ Some y → AwaitsHeld c o
    → AwaitsHeld (placed sh l c) o
placed-awaits sh l y c None e h = tt
placed-awaits sh l y c (Some a) e h = held-placed sh l c a.line y e ∙ grind (arith, nat_tests)

pub place-sound : (sh : Shape) (l y : ℕ) (s : CoreState) → s.cache.held l ≡ false → free_way sh s.cache (set_of sh l) ≡ Some y
    → SoundCore sh s → SoundCore sh (place sh l s)
unfolding place
place-sound sh l y s n e k = record {
  cache = placed-keeps sh l s.cache n k.cache;
  awaits = placed-awaits sh l y s.cache s.awaited e k.awaits;
  alone = k.alone;
  apart = λ v w i h. let a = k.apart v w i h in (modified-placed sh l s.cache w ∙ a.0, dirty-placed sh l s.cache w ∙ a.1);
  unmarked = λ i w. let a = k.unmarked i w in (read-placed sh l s.cache w ∙ a.0, modified-placed sh l s.cache w ∙ a.1);
}

pub place-held : (sh : Shape) (l y : ℕ) (s : CoreState) → free_way sh s.cache (set_of sh l) ≡ Some y → (place sh l s).cache.held l ≡ true
unfolding place
place-held sh l y s e = held-placed sh l s.cache l y e ∙ grind (arith, nat_tests)

-- not for a core without an attempt
abbrev pub MayAct : CoreState → Type 0
MayAct s = is_idle s.phase ≡ false

pub with_read_mark-sound : (sh : Shape) (w x : ℕ) (s : CoreState) → MayAct s → s.cache.value w ≡ Some x → SoundCore sh s →
    SoundCore sh (with_read_mark w s)
unfolding with_read_mark
with_read_mark-sound sh w x s m e k = at (is_running s.phase)
  where
    at : (b : Bool) → SoundCore sh (cond b (record s { cache = marked w s.cache }) s)
    at true = record {
      cache = marked-keeps sh w s.cache (held_valued sh s.cache w x k.cache e) k.cache;
      awaits = marked_awaits s.awaited k.awaits;
      alone = k.alone;
      apart = λ v u i h. let a = k.apart v u i h in (modified-marked w s.cache u ∙ a.0, dirty-marked w s.cache u ∙ a.1);
      unmarked = λ i u. absurd (cc);
    }
      where
        marked_awaits : (o : Option Awaited) → AwaitsHeld s.cache o → AwaitsHeld (marked w s.cache) o
        marked_awaits None h = tt
        marked_awaits (Some a) h = held-marked w s.cache a.line ∙ h
    at false = k

-- only a core that is alone puts words into its buffer, and then of a line that has spilled words already
pub stored_in_buffer-sound : (sh : Shape) (w x : ℕ) (s : CoreState) → MayAct s → holds s.spilled (line_of w) ≡ true → SoundCore sh s
    → SoundCore sh (stored_in_buffer w x s)
unfolding stored_in_buffer
stored_in_buffer-sound sh w x s m h k =
    let f = holds-found s.spilled (line_of w) h in
    record {
      cache = k.cache;
      awaits = k.awaits;
      alone = λ i u. absurd (let n = k.alone i f.0 in let t = f.2 in let e : is_some (s.spilled f.0) ≡ false = ap is_some n in cc);
      apart = λ v u i t. buffered_apart f.0 f.1 f.2 v u i t (cases_eq v w);
      unmarked = λ i u. absurd (cc);
    }
  where
    buffered_apart : (q : ℕ) → line_of q ≡ line_of w → is_some (s.spilled q) ≡ true → (v u : ℕ) → line_of v ≡ line_of u
        → is_some (put s.spilled w (Some x) v) ≡ true → (v ≡ w) ⊎ (v ≡ w → ⊥) → (s.cache.modified u ≡ false) × (s.cache.dirty u ≡ None)
    buffered_apart q l t v u i p (inl e) = k.apart q u (l ∙ (ap line_of (sym e) ∙ i)) t
    buffered_apart q l t v u i p (inr n) = k.apart v u i (grind (arith, nat_tests))

stored-awaits : (w x : ℕ) (also : Bool) (c : Cache) (o : Option Awaited) → AwaitsHeld c o → AwaitsHeld (stored w x also c) o
stored-awaits w x also c None h = tt
stored-awaits w x also c (Some a) h = held-stored w x also c a.line ∙ h

-- a word goes into a frame of a line without spilled words
pub stored_in_frame-sound : (sh : Shape) (w x : ℕ) (also : Bool) (s : CoreState) → MayAct s → s.cache.held (line_of w) ≡ true
    → holds s.spilled (line_of w) ≡ false → SoundCore sh s → SoundCore sh (stored_in_frame w x also s)
unfolding stored_in_frame
stored_in_frame-sound sh w x also s m h n k = record {
  cache = stored-keeps sh w x also s.cache h k.cache;
  awaits = stored-awaits w x also s.cache s.awaited k.awaits;
  alone = k.alone;
  apart = λ v u i t. let a = k.apart v u i t in
      let d : (u ≡ w → ⊥) = λ e. (let y = holds-none s.spilled (line_of w) v n (i ∙ ap line_of e) in cc) in
      (modified-stored w x also s.cache u ∙ grind (arith, nat_tests), dirty-stored w x also s.cache u ∙ grind (arith, nat_tests));
  unmarked = λ i u. absurd (cc);
}

pub overflow-sound : (sh : Shape) (s : CoreState) → is_solo s.phase ≡ false → SoundCore sh s → SoundCore sh (overflow s).core
unfolding overflow
overflow-sound sh s h k =
    record { cache = k.cache; awaits = k.awaits; alone = λ i. k.alone h; apart = k.apart; unmarked = λ i w. absurd (cc) }

-- what an event of a core leaves is sound
abbrev pub OutSound : Shape → Option Out → Type 0
OutSound sh o = IfSome o (λ x. SoundCore sh x.core)

pub full_set-sound : (sh : Shape) (l : ℕ) (s : CoreState) → SoundCore sh s → OutSound sh (full_set sh l s)
unfolding full_set
full_set-sound sh l s k = at (is_solo s.phase) refl (not (all_marked sh s.cache (set_of sh l)))
  where
    at : (b : Bool) → is_solo s.phase ≡ b → (c : Bool) → OutSound sh (cond (b || c) None (Some (overflow s)))
    at true e c = tt
    at false e true = tt
    at false e false = overflow-sound sh s e k

pub miss-sound : (sh : Shape) (l : ℕ) (s : CoreState) → SoundCore sh s → OutSound sh (miss sh l s)
unfolding miss
miss-sound sh l s k = at (s.cache.held l) refl (free_way sh s.cache (set_of sh l)) refl
  where
    at : (b : Bool) → s.cache.held l ≡ b → (o : Option ℕ) → free_way sh s.cache (set_of sh l) ≡ o
        → OutSound sh (cond b (Some (request_line sh l s)) (cond (is_some o) (Some (request_line sh l (place sh l s))) (full_set sh l s)))
    at true h o e = request_line-sound sh l s h k
    at false h (Some y) e = request_line-sound sh l (place sh l s) (place-held sh l y s e) (place-sound sh l y s h e k)
    at false h None e = full_set-sound sh l s k
