-- Laws that join a cache's changes with what is looked up, spilled and marked.
use Rattle.std.proofs.Common.{◌≡◌, ℕ, true, List, get_or, Option, Some, None, refl, ap, ◌∙◌, ⊎_elim, arith}
use Rattle.std.specs.Prelude.{◌↔◌, if◌then◌else◌, ◌==◌}
use Rattle.std.proofs.lemmas.Bool.{cases_eq}
use Rattle.std.proofs.lemmas.Bool.Decides.{nat_tests}
use Rattle.rules_maps.specs.Words.{line_of, place_of, word_at}
use Rattle.rules_maps.specs.Masks.{has, hit}
use Rattle.rules_maps.specs.Shape.{Shape}
use Rattle.rules_maps.specs.Cache.{Cache, modified_mask}
use Rattle.rules_maps.specs.CacheChange.{committed, rolled_back}
use Rattle.rules_maps.specs.CacheLook.{Hit, look_load, look_value, look_line}
use Rattle.rules_maps.specs.Spilled.{Spilled, spill, spill_line}
use Rattle.rules_maps.specs.Lines.{Lines, with_mark}
use Rattle.rules_maps.proofs.Masks.{has-mask_of}
use Rattle.rules_maps.proofs.Readers.{cache_readers}

pub nothing-left : (t w : ℕ) (c : Cache) → (committed t (rolled_back c)).dirty w ≡ c.dirty w
nothing-left t w c = simp cache_readers

line-no_hit : (sh : Shape) (l x : ℕ) (c : Cache) → look_line sh l c ≡ Hit x → ⊥
unfolding look_line
line-no_hit sh l x c e = grind arith

value-hits : (o : Option ℕ) (sh : Shape) (l x : ℕ) (c : Cache) → look_value o sh l c ≡ Hit x → o ≡ Some x
unfolding look_value
value-hits (Some y) sh l x c e = cc
value-hits None sh l x c e = absurd (line-no_hit sh l x c e)

hits-value : (o : Option ℕ) (sh : Shape) (l x : ℕ) (c : Cache) → o ≡ Some x → look_value o sh l c ≡ Hit x
unfolding look_value
hits-value o sh l x c e = rw e

pub hits-valid : (sh : Shape) (w x : ℕ) (c : Cache) → (look_load sh w c ≡ Hit x) ↔ (c.value w ≡ Some x)
unfolding look_load
hits-valid sh w x c = (value-hits (c.value w) sh (line_of w) x c, hits-value (c.value w) sh (line_of w) x c)

in_line : (l w : ℕ) → l ≡ line_of w → word_at l (place_of w) ≡ w
in_line l w e = omega arith

-- of the words of a line, its mask of modified words has the modified ones
pub has-modified : (c : Cache) (l w : ℕ) → l ≡ line_of w → has (modified_mask c l) (place_of w) ≡ c.modified w
unfolding modified_mask
has-modified c l w e = has-mask_of (λ k. c.modified (word_at l k)) (place_of w) (omega arith) ∙ ap c.modified (in_line l w e)

pub spills-modified : (l : ℕ) (c : Cache) (ws : List ℕ) (sp : Spilled) (w : ℕ)
    → ((v : ℕ) → l ≡ line_of v → c.modified v ≡ true → c.value v ≡ Some (get_or ws (place_of v) 0))
    → spill l (modified_mask c l) ws sp w ≡ spill_line l c sp w
unfolding spill spill_line hit
spills-modified l c ws sp w h = ⊎_elim
    (λ e. let a = has-modified c l w e in let b = h w e in grind (arith, nat_tests))
    (λ n. grind (arith, nat_tests))
    (cases_eq l (line_of w))

pub marks-one_line : (l m k : ℕ) (d : Lines) → (with_mark l m d).mark k ≡ (if k == l then m else d.mark k)
unfolding with_mark
marks-one_line l m k d = refl
