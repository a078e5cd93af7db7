-- An execution with its line at hand makes the core wait to go on alone where one without does.
use Rattle.std.proofs.Common.{◌≡◌, ℕ, Bool, true, false, not, ◌||◌, ◌&&◌, if◌then◌else◌, Option, Some, None, is_some, List, refl, ap, sym}
use Rattle.std.proofs.Common.{◌∙◌, subst}
use Rattle.tcc_base.specs.declared.access.Size.TheVariants.{Byte, Half, Word}
use Rattle.rules_maps.specs.Shape.{Shape}
use Rattle.rules_maps.specs.Words.{line_of}
use Rattle.rules_program.specs.Program.{Need, Nothing, Loads, Stores, Changes, Prints, Ends, Halts, Traps, Program}
use Rattle.rules_tcc.specs.Attempt.{is_solo}
use Rattle.rules_tcc.specs.CoreExec.{core_exec}
use Rattle.rules_tcc.specs.Execute.{execute}
use Rattle.rules_tcc.specs.State.{CoreState, Phase, Running, AwaitTid, DoomedTid, Probing, Ready, Overflowing, Solo, Halted}
use Rattle.core_node.specs.AtHand.{executes, goes_alone, lined, need_fills, need_overflows, ready, with_line, word_overflows}
use Rattle.commit_engine.specs.Engine.{overflows}
use Rattle.core_node.proofs.Lined.{exec-executes, fills-some, lined-awaited, lined-local, lined-phase, lined-value, need-fills-so, Fills}
use Rattle.core_node.proofs.Overflows.{need-alone}

not-waiting : (q : Phase) → executes q ≡ true → overflows q ≡ false
not-waiting Running e = refl
not-waiting (Solo t) e = refl
not-waiting AwaitTid e = cc
not-waiting DoomedTid e = cc
not-waiting (Probing t) e = cc
not-waiting (Ready t) e = cc
not-waiting (Overflowing t) e = cc
not-waiting Halted e = cc

or-some : (b r : Bool) → (if b || true then false else r) ≡ false
or-some true r = refl
or-some false r = refl

-- a line that is filled leaves no set full
word-lined : (sh : Shape) (w : ℕ) (ws : List ℕ) (s : CoreState) → word_overflows sh w (lined sh (line_of w) ws s) ≡ false
unfolding word_overflows
word-lined sh w ws s = rw (lined-value sh w ws s) (or-some _ _)

-- nor is the set full before that
word-framed : (sh : Shape) (w : ℕ) (s : CoreState) → Fills sh w s → word_overflows sh w s ≡ false
unfolding word_overflows
word-framed sh w s l = rw l.frame (by (is_some (s.spilled w) || is_some (s.cache.value w)))
  where
    by : (b : Bool) → (if b then false else false) ≡ false
    by true = refl
    by false = refl

by-word : (sh : Shape) (s : CoreState) (v w : ℕ) → word_overflows sh w s ≡ false → v ≡ w → word_overflows sh v s ≡ false
by-word sh s v w l e = subst (λ u. word_overflows sh u s ≡ false) (sym e) l

-- an instruction that fills a line: after that, and before
need-alone-not : (sh : Shape) (s t : CoreState) (need : Need) (w : ℕ) → word_overflows sh w t ≡ false → need_fills sh s need ≡ Some w
    → need_overflows sh t need ≡ false
need-alone-not sh s t Nothing w l e = refl
need-alone-not sh s t (Loads addr size) w l e = by-word sh t _ w l (fills-some _ _ _ e).1
need-alone-not sh s t (Stores addr Word value) w l e = cc
need-alone-not sh s t (Stores addr Half value) w l e = by-word sh t _ w l (fills-some _ _ _ e).1
need-alone-not sh s t (Stores addr Byte value) w l e = by-word sh t _ w l (fills-some _ _ _ e).1
need-alone-not sh s t (Changes addr changed) w l e = by-word sh t _ w l (fills-some _ _ _ e).1
need-alone-not sh s t (Prints byte) w l e = refl
need-alone-not sh s t Ends w l e = refl
need-alone-not sh s t (Halts code) w l e = refl
need-alone-not sh s t (Traps code) w l e = refl

not-alone : (sh : Shape) (p : Program) (id : ℕ) (s t : CoreState) (w : ℕ) → executes t.phase ≡ true → t.awaited ≡ None
    → word_overflows sh w t ≡ false → need_fills sh s (p.need t.local) ≡ Some w → goes_alone (core_exec sh p id t) ≡ false
unfolding execute
not-alone sh p id s t w e a l n =
    ap goes_alone (exec-executes sh p id t e a)
    ∙ need-alone sh p id t (p.need t.local) (not-waiting t.phase e)
    ∙ ap (λ b. b && not (is_solo t.phase)) (need-alone-not sh s t (p.need t.local) w l n)

pub alone-with : (sh : Shape) (p : Program) (f : ℕ → List ℕ) (id : ℕ) (s : CoreState) → executes s.phase ≡ true → s.awaited ≡ None
    → goes_alone (core_exec sh p id (ready sh p f s)) ≡ goes_alone (core_exec sh p id s)
alone-with sh p f id s e a = by (need_fills sh s (p.need s.local)) refl
  where
    by : (o : Option ℕ) → need_fills sh s (p.need s.local) ≡ o
        → goes_alone (core_exec sh p id (with_line sh f s o)) ≡ goes_alone (core_exec sh p id s)
    by None n = refl
    by (Some w) n =
        let l = line_of w in
        let t = lined sh l (f l) s in
        not-alone sh p id s t w (ap executes (lined-phase sh l (f l) s) ∙ e) (lined-awaited sh l (f l) s ∙ a) (word-lined sh w (f l) s)
        (ap (λ x. need_fills sh s (p.need x)) (lined-local sh l (f l) s) ∙ n)
        ∙ sym (not-alone sh p id s s w e a (word-framed sh w s (need-fills-so sh s (p.need s.local) w n)) n)
