-- What the rules of a word store and of a partial store give, by where the word is.
use Rattle.std.proofs.Common.{◌≡◌, ◌≢◌, ℕ, Bool, true, false, Some, None, is_some, if◌then◌else◌, refl, ◌∙◌}
use Rattle.rules_program.specs.Program.{Program, Need}
use Rattle.rules_maps.specs.Words.{line_of}
use Rattle.rules_maps.specs.Shape.{Shape, set_of}
use Rattle.rules_maps.specs.Cache.{Cache, free_way, all_marked}
use Rattle.rules_maps.specs.CacheLook.{Look, Hit, Miss, look_store, look_line}
use Rattle.rules_maps.specs.Spilled.{holds}
use Rattle.rules_tcc.specs.State.{CoreState}
use Rattle.rules_tcc.specs.Sends.{nothing, flush_line}
use Rattle.rules_tcc.specs.Attempt.{moves, finished, new_word}
use Rattle.rules_tcc.specs.Execute.{word_store, partial_store, change_valid, marks_read, stored_in_buffer, stored_in_frame, place, miss}
use Rattle.spec_cache.specs.Look.{look_of}
use Rattle.spec_cache.specs.declared.look.Look.{Look as CodeLook}
use Rattle.spec_cache.specs.declared.look.Look.TheVariants as code
use Rattle.core_node.proofs.MissedLines.{look_by}
use Rattle.core_node.proofs.Loaded.{not_hit, not_miss}

abbrev store_by : (held free marked : Bool) → (set : ℕ) → Look
store_by held free marked n = if held then Hit 0 else look_by held free marked n

held_by : (h f m : Bool) (n x : ℕ) → Hit x ≡ store_by h f m n → h ≡ true
held_by true f m n x e = refl
held_by false true m n x e = cc
held_by false false true n x e = cc
held_by false false false n x e = cc

absent_by : (h f m : Bool) (n : ℕ) → Miss ≡ store_by h f m n → h ≡ false
absent_by true f m n e = cc
absent_by false f m n e = refl

free_by : (h f m : Bool) (n : ℕ) → Miss ≡ store_by h f m n → f ≡ true
free_by true f m n e = cc
free_by false true m n e = refl
free_by false false true n e = cc
free_by false false false n e = cc

full_absent_by : (h f m : Bool) (n : ℕ) (r : CodeLook) → look_of r ≡ store_by h f m n → ((x : ℕ) → r ≢ code.Hit x) → h ≡ false
full_absent_by true f m n r e a = absurd (not_hit r a 0 e)
full_absent_by false f m n r e a = refl

full_taken_by : (h f m : Bool) (n : ℕ) (r : CodeLook) → look_of r ≡ store_by h f m n → ((x : ℕ) → r ≢ code.Hit x)
    → r ≢ code.Miss → f ≡ false
full_taken_by true f m n r e a b = absurd (not_hit r a 0 e)
full_taken_by false true m n r e a b = absurd (not_miss r b e)
full_taken_by false false m n r e a b = refl

pub hit_held : (sh : Shape) (w x : ℕ) (c : Cache) → Hit x ≡ look_store sh w true c → c.held (line_of w) ≡ true
unfolding look_store look_line
hit_held sh w x c e =
    let l = line_of w in
    held_by (c.held l) (is_some (free_way sh c (set_of sh l))) (all_marked sh c (set_of sh l)) (set_of sh l) x e

pub miss_absent : (sh : Shape) (w : ℕ) (c : Cache) → Miss ≡ look_store sh w true c → c.held (line_of w) ≡ false
unfolding look_store look_line
miss_absent sh w c e =
    let l = line_of w in
    absent_by (c.held l) (is_some (free_way sh c (set_of sh l))) (all_marked sh c (set_of sh l)) (set_of sh l) e

pub miss_free : (sh : Shape) (w : ℕ) (c : Cache) → Miss ≡ look_store sh w true c → is_some (free_way sh c (set_of sh (line_of w))) ≡ true
unfolding look_store look_line
miss_free sh w c e =
    let l = line_of w in
    free_by (c.held l) (is_some (free_way sh c (set_of sh l))) (all_marked sh c (set_of sh l)) (set_of sh l) e

-- where the answer is another one, the set is full
pub full_absent : (sh : Shape) (w : ℕ) (c : Cache) (r : CodeLook) → look_of r ≡ look_store sh w true c → ((x : ℕ) → r ≢ code.Hit x)
    → c.held (line_of w) ≡ false
unfolding look_store look_line
full_absent sh w c r e a =
    let l = line_of w in
    full_absent_by (c.held l) (is_some (free_way sh c (set_of sh l))) (all_marked sh c (set_of sh l)) (set_of sh l) r e a

pub full_taken : (sh : Shape) (w : ℕ) (c : Cache) (r : CodeLook) → look_of r ≡ look_store sh w true c → ((x : ℕ) → r ≢ code.Hit x)
    → r ≢ code.Miss → is_some (free_way sh c (set_of sh (line_of w))) ≡ false
unfolding look_store look_line
full_taken sh w c r e a b =
    let l = line_of w in
    full_taken_by (c.held l) (is_some (free_way sh c (set_of sh l))) (all_marked sh c (set_of sh l)) (set_of sh l) r e a b

store_absent : (sh : Shape) (w : ℕ) (c : Cache) → c.held (line_of w) ≡ false → look_store sh w true c ≡ look_line sh (line_of w) c
unfolding look_store
store_absent sh w c h = rw h refl

pub full_looks : (sh : Shape) (w : ℕ) (c : Cache) (r : CodeLook) → look_of r ≡ look_store sh w true c → ((x : ℕ) → r ≢ code.Hit x)
    → look_of r ≡ look_line sh (line_of w) c
full_looks sh w c r e a = e ∙ store_absent sh w c (full_absent sh w c r e a)

pub word_buffered : (sh : Shape) (p : Program) (n : Need) (w x : ℕ) (s : CoreState) → holds s.spilled (line_of w) ≡ true
    → word_store sh p n w x s ≡ Some (moves (finished p n x (stored_in_buffer w x s)) nothing)
unfolding word_store
word_buffered sh p n w x s h = rw h refl

pub word_framed : (sh : Shape) (p : Program) (n : Need) (w x : ℕ) (s : CoreState) → holds s.spilled (line_of w) ≡ false
    → s.cache.held (line_of w) ≡ true
    → word_store sh p n w x s ≡ Some (moves (finished p n x (stored_in_frame w x false s)) (flush_line sh s.cache (line_of w)))
unfolding word_store
word_framed sh p n w x s h e = rw (h, e) refl

pub word_placed : (sh : Shape) (p : Program) (n : Need) (w x : ℕ) (s : CoreState) → holds s.spilled (line_of w) ≡ false
    → s.cache.held (line_of w) ≡ false → is_some (free_way sh s.cache (set_of sh (line_of w))) ≡ true
    → word_store sh p n w x s ≡ Some (moves (finished p n x (stored_in_frame w x false (place sh (line_of w) s))) nothing)
unfolding word_store
word_placed sh p n w x s h e f = rw (h, e, f) refl

pub word_full : (sh : Shape) (p : Program) (n : Need) (w x : ℕ) (s : CoreState) → holds s.spilled (line_of w) ≡ false
    → s.cache.held (line_of w) ≡ false → is_some (free_way sh s.cache (set_of sh (line_of w))) ≡ false
    → word_store sh p n w x s ≡ miss sh (line_of w) s
unfolding word_store miss
word_full sh p n w x s h e f = rw (h, e, f) refl

pub partial_spilled : (sh : Shape) (p : Program) (n : Need) (w x : ℕ) (s : CoreState) → s.spilled w ≡ Some x
    → partial_store sh p n w s ≡ Some (moves (finished p n x (stored_in_buffer w (new_word n x) s)) nothing)
unfolding partial_store
partial_spilled sh p n w x s e = rw e refl

pub partial_valid : (sh : Shape) (p : Program) (n : Need) (w x : ℕ) (s : CoreState) → s.spilled w ≡ None → s.cache.value w ≡ Some x
    → partial_store sh p n w s ≡ change_valid sh p n w s (Some x)
unfolding partial_store
partial_valid sh p n w x s e f = rw (e, f) refl

pub partial_missing : (sh : Shape) (p : Program) (n : Need) (w : ℕ) (s : CoreState) → s.spilled w ≡ None → s.cache.value w ≡ None
    → partial_store sh p n w s ≡ miss sh (line_of w) s
unfolding partial_store
partial_missing sh p n w s e f = rw (e, f) refl

pub change_buffered : (sh : Shape) (p : Program) (n : Need) (w x : ℕ) (s : CoreState) → holds s.spilled (line_of w) ≡ true
    → change_valid sh p n w s (Some x) ≡ Some (moves (finished p n x (stored_in_buffer w (new_word n x) s)) nothing)
change_buffered sh p n w x s h = rw h refl

pub change_framed : (sh : Shape) (p : Program) (n : Need) (w x : ℕ) (s : CoreState) → holds s.spilled (line_of w) ≡ false
    → change_valid sh p n w s (Some x)
    ≡ Some (moves (finished p n x (stored_in_frame w (new_word n x) (marks_read w s) s)) (flush_line sh s.cache (line_of w)))
change_framed sh p n w x s h = rw h refl
