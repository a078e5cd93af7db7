-- A core's attempt and memory: the attempt is what the plain machine does over a memory that has the words which it used, and memory has
-- them, but for words of a packet that the core is still to take.
use Rattle.std.specs.Prelude.{ℕ, ◌≡◌, ◌⊎◌, Bool, true, false, cond, ◌==◌, ◌&&◌, [], ◌∷◌, ◌++◌, Option, Some, None, IfSome}
use Rattle.std.specs.Prelude.{unwrap_or, if◌then◌else◌}
use Rattle.std.proofs.Common.{refl, sym, inl, inr, ◌∙◌}
use Rattle.tcc_base.specs.declared.access.Size.TheVariants.{Byte, Half, Word}
use Rattle.rules_maps.specs.Cache.{Cache, IsCache}
use Rattle.rules_maps.specs.CacheChange.{evicted, read_cleared}
use Rattle.rules_maps.specs.Shape.{Shape}
use Rattle.rules_maps.specs.Words.{line_of}
use Rattle.rules_maps.proofs.Lemmas.{modified-evicted, value-evicted}
use Rattle.rules_program.specs.Plain.{Goes}
use Rattle.rules_program.specs.Program.{Need, Loads, Stores, Changes, Program}
use Rattle.rules_program.specs.Ram.{word_of}
use Rattle.rules_tcc.specs.Attempt.{Out, is_solo}
use Rattle.rules_tcc.specs.CoreEvict.{core_evict}
use Rattle.rules_tcc.specs.CoreExec.{core_exec}
use Rattle.rules_tcc.specs.State.{CoreState, Phase, Running, Overflowing, Solo}
use Rattle.rules_tcc.proofs.Lemmas.{each-evict}
use Rattle.theorem_attempt.specs.Follows.{Uses, Fits, Follows, EndFits, sees, used_in, used_at, used_by}
use Rattle.theorem_attempt.specs.Marks.{AllStand, AttemptFits, MarksFit, UsesStand, owed_in}
use Rattle.theorem_attempt.specs.Views.{uses_after}
use Rattle.theorem_attempt.proofs.Lemmas.{core_evict-fit, core_evict-follows, core_exec-fit, core_exec-follows, follows-into, follows-same}
use Rattle.rules_bus.specs.Exec.{with_line_of, line_at_hand, instruction, gone_alone}
use Rattle.theorem_bus.proofs.OneCore.Did.{LineSet, NeedIn, goes}
use Rattle.theorem_bus.proofs.OneCore.Filled.{Coherent, Grown, did-coherent, grown-coherent, read-grown}
use Rattle.theorem_bus.proofs.OneCore.Fine.{Fine, hand-fine}
use Rattle.theorem_bus.proofs.OneCore.Instruction.{if-at, Executes, Once, instructed, read_by, read-in}
use Rattle.theorem_bus.proofs.InOrder.Bounded.{in_memory}

-- memory has these values, but for the words that are gone
abbrev pub AgreesBut : (gone : ℕ → Bool) → Uses → (ram : ℕ → ℕ) → Type 0
AgreesBut gone [] ram = Unit {0}
AgreesBut gone (u ∷ us) ram = (gone u.0 ≡ false → ram u.0 ≡ u.1) × AgreesBut gone us ram

-- gone: the words of the packet that the core is still to take
pub record Follow (sh : Shape) (p : Program) (ram : ℕ → ℕ) (gone : ℕ → Bool) (s : CoreState) : Type 0 where
  pub uses : Uses
  pub fits : AttemptFits sh p s uses
  pub coherent : Coherent ram gone s.cache
  pub agrees : AgreesBut gone uses ram

-- memory changes, or other words are gone

agrees-over : (ram now : ℕ → ℕ) (gone left : ℕ → Bool) (us : Uses)
    → ((v : ℕ) → left v ≡ false → (gone v ≡ false) × (now v ≡ ram v)) → AgreesBut gone us ram → AgreesBut left us now
agrees-over ram now gone left [] f k = tt
agrees-over ram now gone left (u ∷ us) f k =
    (λ e. let q = f u.0 e in q.1 ∙ k.0 (q.0), agrees-over ram now gone left us f (k.1))

pub follow-over : (sh : Shape) (p : Program) (ram now : ℕ → ℕ) (gone left : ℕ → Bool) (s : CoreState)
    → ((v : ℕ) → left v ≡ false → (gone v ≡ false) × (now v ≡ ram v)) → Follow sh p ram gone s → Follow sh p now left s
follow-over sh p ram now gone left s f k = record {
  uses = k.uses;
  fits = k.fits;
  coherent = λ v e m x i. let q = f v e in q.1 ∙ k.coherent v (q.0) m x i;
  agrees = agrees-over ram now gone left k.uses f k.agrees;
}

-- instructions

agrees-append : (gone : ℕ → Bool) (ram : ℕ → ℕ) (us vs : Uses) → AgreesBut gone us ram → AgreesBut gone vs ram
    → AgreesBut gone (us ++ vs) ram
agrees-append gone ram [] vs h k = k
agrees-append gone ram (u ∷ us) vs h k = (h.0, agrees-append gone ram us vs (h.1) k)

at-agrees : (ram : ℕ → ℕ) (gone : ℕ → Bool) (s : CoreState) (w : ℕ) → Coherent ram gone s.cache → AgreesBut gone (used_at s w) ram
at-agrees ram gone s w k = go (s.spilled w) (s.cache.modified w) refl (s.cache.value w) refl
  where
    go : (o : Option ℕ) (m : Bool) → s.cache.modified w ≡ m → (v : Option ℕ) → s.cache.value w ≡ v
        → AgreesBut gone (used_in w o m v) ram
    go (Some x) m e v f = tt
    go None true e v f = tt
    go None false e None f = tt
    go None false e (Some x) f = (λ g. k w g e x f, tt)

used-agrees : (ram : ℕ → ℕ) (gone : ℕ → Bool) (base : ℕ) (s : CoreState) (need : Need) → Coherent ram gone s.cache
    → AgreesBut gone (used_by base s need) ram
used-agrees ram gone base s (Loads addr size) k = at-agrees ram gone s (word_of base addr) k
used-agrees ram gone base s (Stores addr Word value) k = tt
used-agrees ram gone base s (Stores addr Half value) k = at-agrees ram gone s (word_of base addr) k
used-agrees ram gone base s (Stores addr Byte value) k = at-agrees ram gone s (word_of base addr) k
used-agrees ram gone base s (Changes addr changed) k = at-agrees ram gone s (word_of base addr) k
used-agrees ram gone base s _ k = tt

-- what one execution leaves of the attempt
exec-fits : (sh : Shape) (n : ℕ) (p : Program) (c : ℕ) (s : CoreState) (us : Uses) (o : Out) → Fits p → Fine sh (in_memory sh) n s
    → core_exec sh p c s ≡ Some o → o.commit ≡ None → AttemptFits sh p s us
    → AttemptFits sh p o.core (us ++ used_by sh.base s (p.need s.local))
exec-fits sh n p c s us o f k e q h = rw q at both
  where
    new : Uses
    new = us ++ used_by sh.base s (p.need s.local)

    both : AttemptFits sh p o.core (uses_after o new)
    both = record {
      follows = if-at (core_exec sh p c s) o (λ t. Follows sh p t.core (uses_after t new)) e
          (core_exec-follows sh p c s us f k.sound h.follows);
      marks = if-at (core_exec sh p c s) o (λ t. MarksFit sh t.core (uses_after t new)) e (core_exec-fit sh p c s us k.sound h.marks);
    }

once-follow : (sh : Shape) (n : ℕ) (p : Program) (ram : ℕ → ℕ) (gone : ℕ → Bool) (c : ℕ) (s : CoreState) (o : Out) → Fits p
    → Fine sh (in_memory sh) n s → Once sh (in_memory sh) p c s o → Follow sh p ram gone s → Follow sh p ram gone o.core
once-follow sh n p ram gone c s o f k e h = record {
  uses = h.uses ++ used_by sh.base s (p.need s.local);
  fits = exec-fits sh n p c s h.uses o f k e.is e.executed.quiet h.fits;
  coherent = did-coherent (in_memory sh) ram gone s o.core e.executed.did h.coherent;
  agrees = agrees-append gone ram h.uses (used_by sh.base s (p.need s.local)) h.agrees
      (used-agrees ram gone sh.base s (p.need s.local) h.coherent);
}

-- the marks of an attempt in a cache that has grown
all-stand : (sh : Shape) (M : LineSet) (ram : ℕ → ℕ) (c d : Cache) (us : Uses) → Grown sh M ram c d → AllStand false c us
    → AllStand false d us
all-stand sh M ram c d [] g h = tt
all-stand sh M ram c d (u ∷ us) g h = (
  record {
    marked = g.read u.0 ∙ h.0.marked;
    value = λ e. g.keeps u.0 u.1 (h.0.value (sym (g.modified u.0) ∙ e));
  },
  all-stand sh M ram c d us g (h.1),
)

uses-stand : (sh : Shape) (M : LineSet) (ram : ℕ → ℕ) (c d : Cache) (us : Uses) (q : Phase) → Grown sh M ram c d
    → (q ≡ Running) ⊎ (is_solo q ≡ true) → UsesStand c us q → UsesStand d us q
uses-stand sh M ram c d us Running g x h = all-stand sh M ram c d us g h
uses-stand sh M ram c d us (Solo t) g x h = λ w. g.read w ∙ h w
uses-stand sh M ram c d us q g (inl e) h = absurd (cc)
uses-stand sh M ram c d us q g (inr e) h = absurd (cc)

-- it sees what it saw
grown-sees : (sh : Shape) (M : LineSet) (memory : ℕ → ℕ) (s : CoreState) (d : Cache) → IsCache sh s.cache → Grown sh M memory s.cache d
    → (ram : ℕ → ℕ) (v : ℕ) → sees (record s { cache = d }) ram v ≡ sees s ram v
unfolding sees
grown-sees sh M memory s d k g ram v = rw (g.modified v) (go (s.cache.modified v) refl (s.cache.value v) refl)
  where
    go : (m : Bool) → s.cache.modified v ≡ m → (o : Option ℕ) → s.cache.value v ≡ o
        → unwrap_or (s.spilled v) (cond m (unwrap_or (d.value v) 0) (ram v)) ≡ unwrap_or (s.spilled v) (cond m (unwrap_or o 0) (ram v))
    go false e o f = refl
    go true e (Some x) f = rw (g.keeps v x f) refl
    go true e None f = absurd (let i = k.modified v e in cc)

executes-so : (p : Program) (s : CoreState) → Executes p s → (s.phase ≡ Running) ⊎ (is_solo s.phase ≡ true)
executes-so p s (inl e) = inl e
executes-so p s (inr e) = inr (go (is_solo s.phase) e)
  where
    go : (b : Bool) → (b && goes (p.need s.local)) ≡ true → b ≡ true
    go true e = refl
    go false e = absurd (cc)

-- a core with the line of the word that its instruction reads
hand-follow : (sh : Shape) (n : ℕ) (p : Program) (ram : ℕ → ℕ) (gone : ℕ → Bool) (s : CoreState)
    → NeedIn (in_memory sh) sh.base (p.need s.local) → Fine sh (in_memory sh) n s → Executes p s → Follow sh p ram gone s
    → Follow sh p ram gone (line_at_hand sh p ram s)
unfolding line_at_hand
hand-follow sh n p ram gone s m k x h = record {
  uses = h.uses;
  fits = record {
    follows = follows-same sh p s h.uses d s.spilled s.awaited s.owing (grown-sees sh M ram s d k.sound.cache g) h.fits.follows;
    marks = record {
      stand = uses-stand sh M ram s.cache d h.uses s.phase g (executes-so p s x) h.fits.marks.stand;
      used = λ w r. h.fits.marks.used w (sym (g.read w) ∙ r);
      awaits = h.fits.marks.awaits;
      owes = h.fits.marks.owes;
    };
  };
  coherent = grown-coherent sh M ram gone s.cache d g h.coherent;
  agrees = h.agrees;
}
  where
    M : LineSet
    M = in_memory sh

    d : Cache
    d = with_line_of sh ram s (read_by sh p s)

    g : Grown sh M ram s.cache d
    g = read-grown sh M ram s (read_by sh p s) (read-in M sh.base (p.need s.local) m)

pub instruction-follow : (sh : Shape) (n : ℕ) (p : Program) (ram : ℕ → ℕ) (gone : ℕ → Bool) (c : ℕ) (s : CoreState) → Fits p
    → NeedIn (in_memory sh) sh.base (p.need s.local) → Fine sh (in_memory sh) n s → Executes p s → Follow sh p ram gone s
    → IfSome (instruction sh p ram c s) (λ o. Follow sh p ram gone o.core)
instruction-follow sh n p ram gone c s f m k x h = instructed sh (in_memory sh) p ram c s (λ o. Follow sh p ram gone o.core) m k.awaited x
    (λ o e.
    once-follow sh n p ram gone c (line_at_hand sh p ram s) o f (hand-fine sh (in_memory sh) n p ram s m k) e
    (hand-follow sh n p ram gone s m k x h))

-- the core has the bus
pub alone-follow : (sh : Shape) (p : Program) (ram : ℕ → ℕ) (gone : ℕ → Bool) (t : ℕ) (s : CoreState) → s.phase ≡ Overflowing None
    → Follow sh p ram gone s → Follow sh p ram gone (gone_alone t s)
unfolding gone_alone read_cleared sees
alone-follow sh p ram gone t s e h = record {
  uses = h.uses;
  fits = record {
    follows = follows-into sh p s h.uses (read_cleared s.cache) s.spilled (Solo t) s.awaited s.owing (λ r v. refl) (rw e refl)
        (ends h.fits.follows.ends) h.fits.follows;
    marks = record {
      stand = λ v. refl;
      used = λ v r. absurd (cc);
      awaits = λ q. absurd (cc);
      owes = λ d o. absurd (let i = (h.fits.marks.owes d o).0 in let j : owed_in s.phase ≡ false = rw e refl in cc);
    };
  };
  coherent = h.coherent;
  agrees = h.agrees;
}
  where
    ends : EndFits s.phase s.ended → s.ended ≡ Goes
    ends k = (rw e at k)

-- Evict

evicted-coherent : (ram : ℕ → ℕ) (gone : ℕ → Bool) (x y l : ℕ) (c : Cache) → c.at x y ≡ Some l → Coherent ram gone c
    → Coherent ram gone (evicted x y c)
evicted-coherent ram gone x y l c e k v g m z i =
    go (l == line_of v) (sym (modified-evicted x y c v l e) ∙ m) (sym (value-evicted x y c v l e) ∙ i)
  where
    go : (b : Bool) → (if b then false else c.modified v) ≡ false → (if b then None else c.value v) ≡ Some z → ram v ≡ z
    go true m i = absurd (cc)
    go false m i = k v g m z i

pub evict-follow : (sh : Shape) (n : ℕ) (p : Program) (ram : ℕ → ℕ) (gone : ℕ → Bool) (x y : ℕ) (s : CoreState) → Fine sh (in_memory sh) n s
    → Follow sh p ram gone s → IfSome (core_evict sh x y s) (λ o. Follow sh p ram gone o.core)
evict-follow sh n p ram gone x y s k h = all (core_evict sh x y s) (core_evict-follows sh p x y s h.uses k.sound h.fits.follows)
    (core_evict-fit sh x y s h.uses h.fits.marks) (each-evict sh x y s (λ o. Coherent ram gone o.core.cache)
    (λ l e u m. evicted-coherent ram gone x y l s.cache e h.coherent))
  where
    all : (o : Option Out) → IfSome o (λ t. Follows sh p t.core h.uses) → IfSome o (λ t. MarksFit sh t.core h.uses)
        → IfSome o (λ t. Coherent ram gone t.core.cache) → IfSome o (λ t. Follow sh p ram gone t.core)
    all None a b c = tt
    all (Some t) a b c = record { uses = h.uses; fits = record { follows = a; marks = b }; coherent = c; agrees = h.agrees }
