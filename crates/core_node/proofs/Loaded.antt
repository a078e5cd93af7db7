-- What the rule of a load gives, by where its word is.
use Rattle.std.proofs.Common.{◌≡◌, ◌≢◌, ℕ, Bool, true, false, if◌then◌else◌, Option, Some, None, refl, ap, ◌∙◌}
use Rattle.rules_program.specs.Program.{Program, Need}
use Rattle.rules_maps.specs.Words.{line_of}
use Rattle.rules_maps.specs.Shape.{Shape}
use Rattle.rules_maps.specs.Cache.{Cache}
use Rattle.rules_maps.specs.CacheChange.{marked}
use Rattle.rules_maps.specs.CacheLook.{Hit, Miss, look_load, look_value, look_line}
use Rattle.rules_tcc.specs.State.{CoreState, Phase}
use Rattle.rules_tcc.specs.Sends.{nothing}
use Rattle.rules_tcc.specs.Attempt.{moves, finished, is_running}
use Rattle.rules_tcc.specs.Execute.{load, with_read_mark, miss}
use Rattle.core_node.proofs.Finished.{finished_cache, cache-finished, phase-finished}
use Rattle.spec_cache.specs.Look.{look_of}
use Rattle.spec_cache.specs.declared.look.Look.{Look as CodeLook}
use Rattle.spec_cache.specs.declared.look.Look.TheVariants as code
use Rattle.core_node.proofs.MissedLines.{never_hits_line}

pub load_spilled : (sh : Shape) (p : Program) (n : Need) (w x : ℕ) (s : CoreState) → s.spilled w ≡ Some x
    → load sh p n w s ≡ Some (moves (finished p n x s) nothing)
unfolding load
load_spilled sh p n w x s e = rw e refl

pub load_valid : (sh : Shape) (p : Program) (n : Need) (w x : ℕ) (s : CoreState) → s.spilled w ≡ None → s.cache.value w ≡ Some x
    → load sh p n w s ≡ Some (moves (finished p n x (with_read_mark w s)) nothing)
unfolding load
load_valid sh p n w x s e f = rw (e, f) refl

pub load_missing : (sh : Shape) (p : Program) (n : Need) (w : ℕ) (s : CoreState) → s.spilled w ≡ None
    → s.cache.value w ≡ None → load sh p n w s ≡ miss sh (line_of w) s
unfolding load
load_missing sh p n w s e f = rw (e, f) refl

value_hit : (o : Option ℕ) (sh : Shape) (l x : ℕ) (c : Cache) → Hit x ≡ look_value o sh l c → o ≡ Some x
unfolding look_value
value_hit (Some y) sh l x c e = cc
value_hit None sh l x c e = never_hits_line sh l x c e

pub valid_hit : (sh : Shape) (w x : ℕ) (c : Cache) → Hit x ≡ look_load sh w c → c.value w ≡ Some x
unfolding look_load
valid_hit sh w x c e = value_hit (c.value w) sh (line_of w) x c e

value_no_hit : (o : Option ℕ) (sh : Shape) (l : ℕ) (c : Cache) → ((x : ℕ) → look_value o sh l c ≢ Hit x) → o ≡ None
unfolding look_value
value_no_hit (Some y) sh l c h = absurd (h y refl)
value_no_hit None sh l c h = refl

pub invalid_no_hit : (sh : Shape) (w : ℕ) (c : Cache) → ((x : ℕ) → look_load sh w c ≢ Hit x) → c.value w ≡ None
unfolding look_load
invalid_no_hit sh w c h = value_no_hit (c.value w) sh (line_of w) c h

pub look_invalid : (sh : Shape) (w : ℕ) (c : Cache) → c.value w ≡ None → look_load sh w c ≡ look_line sh (line_of w) c
unfolding look_load look_value
look_invalid sh w c e = rw e refl

pub not_hit : (r : CodeLook) → ((x : ℕ) → r ≢ code.Hit x) → (x : ℕ) → look_of r ≢ Hit x
not_hit (code.Hit y) h x = absurd (h y refl)
not_hit code.Miss h x = λ e. cc
not_hit (code.NeedsRoom k) h x = λ e. cc
not_hit (code.Overflow k) h x = λ e. cc

pub not_miss : (r : CodeLook) → r ≢ code.Miss → look_of r ≢ Miss
not_miss (code.Hit y) h = λ e. cc
not_miss code.Miss h = absurd (h refl)
not_miss (code.NeedsRoom k) h = λ e. cc
not_miss (code.Overflow k) h = λ e. cc

-- a word that a look doesn't find is not valid
pub not_found : (sh : Shape) (w : ℕ) (c : Cache) (r : CodeLook) → look_of r ≡ look_load sh w c → ((x : ℕ) → r ≢ code.Hit x)
    → c.value w ≡ None
not_found sh w c r e h = invalid_no_hit sh w c (λ x f. not_hit r h x (e ∙ f))

pub looks_for : (sh : Shape) (w : ℕ) (c : Cache) (r : CodeLook) → look_of r ≡ look_load sh w c → ((x : ℕ) → r ≢ code.Hit x)
    → look_of r ≡ look_line sh (line_of w) c
looks_for sh w c r e h = e ∙ look_invalid sh w c (not_found sh w c r e h)

-- a word is marked as used after its instruction is finished as well as before
used_after : (p : Program) (n : Need) (x w : ℕ) (b : Bool) (s : CoreState)
    → (if b then record (finished p n x s) { cache = marked w s.cache } else finished p n x s)
    ≡ finished p n x (if b then record s { cache = marked w s.cache } else s)
used_after p n x w true s = finished_cache p n x (marked w s.cache) s
used_after p n x w false s = refl

pub finished_used : (p : Program) (n : Need) (x w : ℕ) (s : CoreState) →
    with_read_mark w (finished p n x s) ≡ finished p n x (with_read_mark w s)
unfolding with_read_mark
finished_used p n x w s =
    let f = finished p n x s in
    ap (λ (h : Phase). if is_running h then record f { cache = marked w f.cache } else f) (phase-finished p n x s)
    ∙ ap (λ (c : Cache). if is_running s.phase then record f { cache = marked w c } else f) (cache-finished p n x s)
    ∙ used_after p n x w (is_running s.phase) s
