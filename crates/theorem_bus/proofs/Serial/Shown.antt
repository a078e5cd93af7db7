-- What is committed of a core stays where it doesn't commit: its checkpoint, and whether and how it has halted.
use Rattle.std.specs.Prelude.{ℕ, ◌≡◌, Bool, true, false, ◌&&◌, Option, is_some, IfSome}
use Rattle.std.proofs.Common.{refl, ap, sym, ◌∙◌, inl, inr, ◌⊎◌}
use Rattle.tcc_base.specs.declared.access.CoreEnd.TheVariants.{Run}
use Rattle.rules_maps.specs.Cache.{Cache}
use Rattle.rules_maps.specs.Shape.{Shape, lines}
use Rattle.rules_maps.specs.Words.{any_word, word_at}
use Rattle.rules_maps.proofs.Lemmas.{any_below-found}
use Rattle.rules_program.specs.Plain.{Outcome, PlainCore}
use Rattle.rules_program.specs.Program.{Program}
use Rattle.rules_tcc.specs.Attempt.{is_solo, roll_back}
use Rattle.rules_tcc.specs.CoreEvict.{core_evict}
use Rattle.rules_tcc.specs.State.{CoreState, Phase, Running, Halted}
use Rattle.rules_tcc.proofs.Lemmas.{each-evict}
use Rattle.theorem_attempt.specs.Sound.{is_idle}
use Rattle.theorem_serial.specs.Commits.{CoreSerial, end_after}
use Rattle.rules_bus.specs.Exec.{gone_alone}
use Rattle.rules_bus.specs.Take.{reads_some, packet_invalidated, packet_taken}
use Rattle.theorem_bus.proofs.OneCore.Did.{goes}
use Rattle.theorem_bus.proofs.OneCore.Fine.{Fine, Ways, Stays, Closes, Overflows}
use Rattle.theorem_bus.proofs.OneCore.Instruction.{Executes}
use Rattle.theorem_bus.proofs.OneCore.Taken.{again}
use Rattle.theorem_bus.proofs.InOrder.Bounded.{in_memory}

pub record Same (s t : CoreState) : Type 0 where
  pub saved : t.saved ≡ s.saved
  pub ended : end_after t.phase t.ended ≡ end_after s.phase s.ended

pub same-serial : (s t : CoreState) (m : PlainCore) → Same s t → CoreSerial s m → CoreSerial t m
same-serial s t m e k = record { local = k.local ∙ sym e.saved; ended = k.ended ∙ sym e.ended }

abbrev pub has_halted : Phase → Bool
has_halted Halted = true
has_halted _ = false

pub end-runs : (q : Phase) (o : Outcome) → has_halted q ≡ false → end_after q o ≡ Run
end-runs Halted o e = absurd (cc)
end-runs q o e = refl

runs-same : (s t : CoreState) → t.saved ≡ s.saved → has_halted s.phase ≡ false → has_halted t.phase ≡ false → Same s t
runs-same s t e a b = record { saved = e; ended = end-runs t.phase t.ended b ∙ sym (end-runs s.phase s.ended a) }

executes-runs : (p : Program) (s : CoreState) → Executes p s → has_halted s.phase ≡ false
executes-runs p s x = go s.phase x
  where
    go : (q : Phase) → (q ≡ Running) ⊎ ((is_solo q && goes (p.need s.local)) ≡ true) → has_halted q ≡ false
    go Halted (inl e) = absurd (cc)
    go Halted (inr e) = absurd (cc)
    go q x = refl

pub instruction-same : (p : Program) (s t : CoreState) → Executes p s → t.saved ≡ s.saved → Ways s t → Same s t
instruction-same p s t x e w = runs-same s t e (executes-runs p s x) (go w)
  where
    go : Ways s t → has_halted t.phase ≡ false
    go (Stays q) = rw q (executes-runs p s x)
    go (Closes r q) = rw q refl
    go (Overflows n q) = rw q refl

pub alone-same : (p : Program) (s t : CoreState) (n : ℕ) → Executes p s → t.saved ≡ s.saved → Same s (gone_alone n t)
unfolding gone_alone
alone-same p s t n x e = runs-same s (gone_alone n t) e (executes-runs p s x) refl

pub evict-same : (sh : Shape) (x y : ℕ) (s : CoreState) → IfSome (core_evict sh x y s) (λ o. Same s o.core)
evict-same sh x y s = each-evict sh x y s (λ o. Same s o.core) (λ l e u m. record { saved = refl; ended = refl })

-- where no word is marked read
none-read : (sh : Shape) (f : ℕ → Option ℕ) (c : Cache) → ((v : ℕ) → c.read v ≡ false) → reads_some sh f c ≡ true → ⊥
unfolding reads_some any_word
none-read sh f c n e =
    let a = any_below-found (any_word (λ w. is_some (f w) && c.read w)) (lines sh) e in
    let b = any_below-found (λ k. is_some (f (word_at a.0 k)) && c.read (word_at a.0 k)) 8 (a.2) in
    no (is_some (f (word_at a.0 b.0))) (c.read (word_at a.0 b.0)) (n (word_at a.0 b.0)) (b.2)
  where
    no : (x y : Bool) → y ≡ false → (x && y) ≡ true → ⊥
    no true y e h = absurd (cc)
    no false y e h = absurd (cc)

pub taken-same : (sh : Shape) (n : ℕ) (f : ℕ → Option ℕ) (s : CoreState) → Fine sh (in_memory sh) n s → Same s (packet_taken sh f s)
unfolding packet_taken packet_invalidated roll_back
taken-same sh n f s k = go (reads_some sh f s.cache) refl
  where
    rolls : reads_some sh f s.cache ≡ true → (q : Phase) → s.phase ≡ q → has_halted q ≡ false
    rolls e Halted q = absurd (none-read sh f s.cache (λ v. (k.sound.unmarked (ap is_idle q) v).0) e)
    rolls e q i = refl

    go : (b : Bool) → reads_some sh f s.cache ≡ b → Same s (packet_invalidated f (again b s))
    go true e = record { saved = refl; ended = sym (end-runs s.phase s.ended (rolls e s.phase refl)) }
    go false e = record { saved = refl; ended = refl }
