-- Which cores are late, by the phases that are kept.
use Rattle.std.proofs.Common.{◌≡◌, ℕ, suc, ◌<◌, Bool, true, false, ◌&&◌, ◌||◌, List, Option, None, refl, ap, sym, ◌∙◌, arith}
use Rattle.std.specs.Prelude.{◌↔◌, IsTrue, get_or, not, nat_lt}
use Rattle.std.proofs.lemmas.Bool.Decides.{nat_tests}
use Rattle.base_lemmas.proofs.Lemmas.{any_below-none, any_below-same}
use Rattle.image_load.specs.Start.{Start}
use Rattle.rules_maps.specs.Words.{any_below}
use Rattle.rules_tcc.specs.State.{Halted, Phase, World}
use Rattle.rules_tcc.specs.Step.{History}
use Rattle.rules_phases.specs.Phased.{goes_before, has_halted, is_late}
use Rattle.rules_phases.specs.Phases.{phase_of}
use Rattle.tcc_phase.specs.Requests.{either_below, is_behind, is_below}

pub behind-late : (s : Start) (h : History) (own : List ℕ) → ((j : ℕ) → j < s.settings.cores → get_or own j 0 ≡ phase_of s h j)
    → (c : ℕ) → c < s.settings.cores → is_late s h c ≡ is_behind s.settings.cores h.world own (get_or own c 0)
unfolding is_late is_behind
behind-late s h own e c l =
    any_below-same (goes_before s h c) (λ j. not (has_halted (h.world.cores j).phase) && nat_lt (get_or own j 0) (get_or own c 0))
    s.settings.cores
    (λ j m. (λ i. not (has_halted (h.world.cores j).phase) && nat_lt (sym (e j m) i) (sym (e c l) i)))

-- in one phase none is
pub even-none : (n : ℕ) (w : World) (own : List ℕ) (c : ℕ) → ((j : ℕ) → j < n → get_or own j 0 ≡ get_or own c 0)
    → is_behind n w own (get_or own c 0) ≡ false
unfolding is_behind
even-none n w own c h = any_below-none _ n (λ j m. go (not (has_halted (w.cores j).phase)) j (h j m))
  where
    go : (b : Bool) (j : ℕ) → get_or own j 0 ≡ get_or own c 0 → (b && nat_lt (get_or own j 0) (get_or own c 0)) ≡ false
    go false j e = refl
    go true j e = grind (arith, nat_tests)

-- one core after another
pub behind-none : (w : World) (own : List ℕ) (q : ℕ) → is_behind 0 w own q ≡ is_below None q
unfolding is_behind any_below
behind-none w own q = refl

pub behind-halted : (n : ℕ) (w : World) (own : List ℕ) (least : Option ℕ) (q : ℕ) → has_halted (w.cores n).phase ≡ true
    → is_behind n w own q ≡ is_below least q → is_behind (suc n) w own q ≡ is_below least q
unfolding is_behind any_below
behind-halted n w own least q t e = rw t (or-false _ ∙ e)
  where
    or-false : (b : Bool) → (b || false) ≡ b
    or-false true = refl
    or-false false = refl

pub behind-running : (n : ℕ) (w : World) (own : List ℕ) (least : Option ℕ) (q : ℕ) → has_halted (w.cores n).phase ≡ false
    → is_behind n w own q ≡ is_below least q → is_behind (suc n) w own q ≡ either_below least (get_or own n 0) q
unfolding is_behind any_below
behind-running n w own least q t e = rw t (ap (λ b. b || nat_lt (get_or own n 0) q) e)

-- what the code knows of a core that has halted
pub halted-is : (b : Bool) (q : Phase) → IsTrue b ↔ (q ≡ Halted) → has_halted q ≡ b
halted-is true q h = ap has_halted (h.0 refl)
halted-is false Halted h = absurd (let t = h.1 refl in cc)
halted-is false q h = refl
