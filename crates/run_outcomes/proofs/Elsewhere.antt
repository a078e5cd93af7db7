-- A transaction changes no word but those that it stores to, and stores in RAM alone.
use Rattle.std.proofs.Common.{ℕ, zero, suc, ◌≡◌, Bool, true, false, [], ◌∷◌, ◌++◌, Option, Some, None, IfSome, All, refl, sym}
use Rattle.std.proofs.Common.{◌∙◌, if◌then◌else◌}
use Rattle.std.proofs.lemmas.List.Elements.{All-push, All-nil}
use Rattle.std.proofs.lemmas.Bool.{ne_eqb}
use Rattle.image_load.specs.Start.{Start}
use Rattle.rv_decode.specs.Decoding.{decoded}
use Rattle.rv_decode.specs.declared.instruction.Inst.{Inst}
use Rattle.rv_exec.specs.Effects.{planned}
use Rattle.rv_code.specs.Machine.{program, in_ram}
use Rattle.rv_exec.specs.Running.{program as rv_program, bounded, need_of_word, need_of_inst}
use Rattle.run_outcomes.proofs.Alls.{All-last, All-front}
use Rattle.run_outcomes.specs.Left.{AreStoresInside}
use Rattle.tcc_base.specs.Put.{put}
use Rattle.tcc_base.specs.Settings.{Settings}
use Rattle.tcc_base.specs.declared.access.Size.{Size}
use Rattle.tcc_base.specs.declared.access.Size.TheVariants.{Word}
use Rattle.rules_program.specs.Plain.{Attempt, Outcome, Goes, Ended, Halted, Trapped, stepped, plain_step, steps, when_going}
use Rattle.rules_program.specs.Plain.{then_step, store_of}
use Rattle.rules_program.specs.Program.{Local, Need, Nothing, Loads, Stores, Changes, Prints, Ends, Halts, Traps, Program}
use Rattle.rules_program.specs.Ram.{loaded, stored, word_of, patched}

-- a need stores in RAM alone
abbrev NeedsInside : Settings → Need → Type 0
NeedsInside s Nothing = Unit {0}
NeedsInside s (Loads addr size) = Unit {0}
NeedsInside s (Stores addr size value) = in_ram s addr size ≡ true
NeedsInside s (Changes addr changed) = in_ram s addr Word ≡ true
NeedsInside s (Prints byte) = Unit {0}
NeedsInside s Ends = Unit {0}
NeedsInside s (Halts code) = Unit {0}
NeedsInside s (Traps code) = Unit {0}

bounded-stores : (s : Settings) (addr : ℕ) (size : Size) (value : ℕ) (b : Bool) → in_ram s addr size ≡ b
    → NeedsInside s (if b then Stores addr size value else Traps 7)
bounded-stores s addr size value true e = e
bounded-stores s addr size value false e = tt

bounded-changes : (s : Settings) (addr : ℕ) (changed : ℕ → ℕ) (b : Bool) → in_ram s addr Word ≡ b
    → NeedsInside s (if b then Changes addr changed else Traps 7)
bounded-changes s addr changed true e = e
bounded-changes s addr changed false e = tt

bounded-loads : (s : Settings) (addr : ℕ) (size : Size) (b : Bool) → NeedsInside s (if b then Loads addr size else Traps 5)
bounded-loads s addr size true = tt
bounded-loads s addr size false = tt

bounded-inside : (s : Settings) (n : Need) → NeedsInside s (bounded (in_ram s) n)
bounded-inside s Nothing = tt
bounded-inside s (Loads addr size) = bounded-loads s addr size (in_ram s addr size)
bounded-inside s (Stores addr size value) = bounded-stores s addr size value (in_ram s addr size) refl
bounded-inside s (Changes addr changed) = bounded-changes s addr changed (in_ram s addr Word) refl
bounded-inside s (Prints byte) = tt
bounded-inside s Ends = tt
bounded-inside s (Halts code) = tt
bounded-inside s (Traps code) = tt

inst-inside : (s : Settings) (l : Local) (i : Option Inst) → NeedsInside s (need_of_inst (in_ram s) l i)
inst-inside s l None = tt
inst-inside s l (Some inst) = bounded-inside s (planned inst l)

word-inside : (s : Settings) (l : Local) (w : Option ℕ) → NeedsInside s (need_of_word (in_ram s) l w)
word-inside s l None = tt
word-inside s l (Some w) = inst-inside s l (decoded w)

program-inside : (s : Start) (l : Local) → NeedsInside s.settings ((program s).need l)
unfolding program rv_program
program-inside s l = word-inside s.settings l (s.fetch l.pc)

-- an attempt has stored in RAM alone, and each other word is as at its start
pub record Keeps (s : Settings) (base : ℕ) (start a : Attempt) : Type 0 where
  pub inside : AreStoresInside s a.stores
  pub elsewhere : (w : ℕ) → All (λ store. word_of base store.addr ≡ w → ⊥) a.stores → a.ram w ≡ start.ram w

put-other : (ram : ℕ → ℕ) (i v j : ℕ) → (i ≡ j → ⊥) → put ram i v j ≡ ram j
put-other ram i v j ne = rw (ne_eqb j i (λ e. ne (sym e))) refl

stored-elsewhere : (s : Settings) (base : ℕ) (start a : Attempt) (addr : ℕ) (size : Size) (v v' : ℕ) (w : ℕ) → Keeps s base start a
    → All (λ store. word_of base store.addr ≡ w → ⊥) (a.stores ++ store_of addr size v' ∷ [])
    → stored base a.ram addr size v w ≡ start.ram w
unfolding stored
stored-elsewhere s base start a addr size v v' w k all =
    let other : word_of base addr ≡ w → ⊥ = All-last (λ store. word_of base store.addr ≡ w → ⊥) a.stores (store_of addr size v') all in
    put-other a.ram (word_of base addr) (patched (a.ram (word_of base addr)) addr size v) w other
    ∙ k.elsewhere w (All-front (λ store. word_of base store.addr ≡ w → ⊥) a.stores (store_of addr size v' ∷ []) all)

stepped-keeps : (s : Settings) (base : ℕ) (p : Program) (start a : Attempt) (n : Need) → NeedsInside s n → Keeps s base start a
    → Keeps s base start (stepped base p a n)
stepped-keeps s base p start a Nothing i k = record { inside = k.inside; elsewhere = k.elsewhere }
stepped-keeps s base p start a (Loads addr size) i k = record { inside = k.inside; elsewhere = k.elsewhere }
stepped-keeps s base p start a (Stores addr size value) i k = record {
  inside = All-push (λ store. in_ram s store.addr store.size ≡ true) a.stores (store_of addr size value) k.inside i;
  elsewhere = λ w all. stored-elsewhere s base start a addr size value value w k all;
}
stepped-keeps s base p start a (Changes addr changed) i k = record {
  inside = All-push (λ store. in_ram s store.addr store.size ≡ true) a.stores
      (store_of addr Word (changed (loaded base a.ram addr Word))) k.inside i;
  elsewhere = λ w all. stored-elsewhere s base start a addr Word (changed (loaded base a.ram addr Word))
      (changed (loaded base a.ram addr Word)) w k all;
}
stepped-keeps s base p start a (Prints byte) i k = record { inside = k.inside; elsewhere = k.elsewhere }
stepped-keeps s base p start a Ends i k = record { inside = k.inside; elsewhere = k.elsewhere }
stepped-keeps s base p start a (Halts code) i k = record { inside = k.inside; elsewhere = k.elsewhere }
stepped-keeps s base p start a (Traps code) i k = record { inside = k.inside; elsewhere = k.elsewhere }

plain_step-keeps : (s : Start) (base : ℕ) (start a : Attempt) → Keeps s.settings base start a
    → Keeps s.settings base start (plain_step base (program s) a)
unfolding plain_step
plain_step-keeps s base start a k =
    stepped-keeps s.settings base (program s) start a ((program s).need a.local) (program-inside s a.local) k

when_going-keeps : (s : Start) (base : ℕ) (start a : Attempt) (o : Outcome) → Keeps s.settings base start a
    → IfSome (when_going base (program s) a o) (Keeps s.settings base start)
when_going-keeps s base start a Goes k = plain_step-keeps s base start a k
when_going-keeps s base start a Ended k = tt
when_going-keeps s base start a (Halted code) k = tt
when_going-keeps s base start a (Trapped code) k = tt

then_step-keeps : (s : Start) (base : ℕ) (start : Attempt) (x : Option Attempt) → IfSome x (Keeps s.settings base start)
    → IfSome (then_step base (program s) x) (Keeps s.settings base start)
then_step-keeps s base start None k = tt
then_step-keeps s base start (Some a) k = when_going-keeps s base start a a.outcome k

-- instructions from an attempt that has stored nothing
pub steps-keeps : (s : Start) (base n : ℕ) (start : Attempt) → start.stores ≡ []
    → IfSome (steps base (program s) n start) (Keeps s.settings base start)
unfolding steps
steps-keeps s base zero start e = record {
  inside = rw e (All-nil (λ store. in_ram s.settings store.addr store.size ≡ true));
  elsewhere = λ w all. refl;
}
steps-keeps s base (suc n) start e =
    then_step-keeps s base start (steps base (program s) n start) (steps-keeps s base n start e)
