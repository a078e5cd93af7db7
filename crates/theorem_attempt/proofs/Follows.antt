-- An instruction of a core is one of the plain machine, where the memory agrees with what was used.
use Rattle.std.proofs.Common.{◌≡◌, ℕ, suc, zero, ◌+◌, ◌*◌, ◌/◌, ◌%◌, ◌^◌, ◌<◌, Bool, true, false, cond, [], ◌∷◌, ◌++◌, Option, Some, None}
use Rattle.std.proofs.Common.{add-one, refl, ap, sym, ◌∙◌, arith}
use Rattle.std.specs.Prelude.{IsSomeAnd, ◌==◌}
use Rattle.tcc_base.specs.Bytes.{bytes_of}
use Rattle.tcc_base.specs.Put.{put}
use Rattle.tcc_base.specs.declared.access.Size.{Size}
use Rattle.tcc_base.specs.declared.access.Size.TheVariants.{Byte, Half, Word}
use Rattle.rules_program.specs.Plain.{Attempt, Goes, begun, load_of, store_of, plain_step, steps, stepped}
use Rattle.rules_program.specs.Program.{unreserved, Need, Nothing, Loads, Stores, Changes, Prints, Ends, Halts, Traps, Program}
use Rattle.rules_program.specs.Ram.{word_of, unit_of, part, patched, loaded, stored}
use Rattle.rules_maps.specs.Shape.{Shape}
use Rattle.rules_maps.specs.Cache.{Cache}
use Rattle.rules_tcc.specs.State.{CoreState, Awaited, Phase, Running, AwaitTid, DoomedTid, Probing, Ready, Overflowing, Solo, Halted}
use Rattle.rules_tcc.specs.Attempt.{finished, new_word, one_more_instruction}
use Rattle.theorem_attempt.specs.Follows.{NeedFits, Uses, Agrees, IsSmall, sees, Reaches, EndFits, FollowsIn, Follows}

pub agrees-left : (us vs : Uses) (ram : ℕ → ℕ) → Agrees (us ++ vs) ram → Agrees us ram
agrees-left [] vs ram h = tt
agrees-left (u ∷ us) vs ram h = (h.0, agrees-left us vs ram h.1)

pub agrees-right : (us vs : Uses) (ram : ℕ → ℕ) → Agrees (us ++ vs) ram → Agrees vs ram
agrees-right [] vs ram h = h
agrees-right (u ∷ us) vs ram h = agrees-right us vs ram h.1

-- a whole word replaces the old one; parts stay below 2 ^ 32
patched-whole : (word addr value : ℕ) → word < 2 ^ 32 → addr % 4 ≡ 0 → value < 2 ^ 32 → patched word addr Word value ≡ value
unfolding patched unit_of
patched-whole word addr value h e l = rw e (omega arith)

pub patched-small : (word addr : ℕ) (size : Size) (value : ℕ) → word < 2 ^ 32 → addr % bytes_of size ≡ 0
    → patched word addr size value < 2 ^ 32
unfolding patched unit_of
patched-small word addr Word value h e = rw e (omega arith)
patched-small word addr Half value h e = halves (addr % 4) refl (omega arith) (omega arith)
  where
    halves : (k : ℕ) → addr % 4 ≡ k → k < 4 → k % 2 ≡ 0
        → (word % 256 ^ (addr % 4)) + (value % 65536) * 256 ^ (addr % 4) + (word / (256 ^ (addr % 4) * 65536)) *
        (256 ^ (addr % 4) * 65536) < 2 ^ 32
    halves zero q l m = rw q (omega arith)
    halves (suc zero) q l m = absurd (omega arith)
    halves (suc (suc zero)) q l m = rw q (omega arith)
    halves (suc (suc (suc k))) q l m = absurd (omega arith)
patched-small word addr Byte value h e = bytes (addr % 4) refl (omega arith)
  where
    bytes : (k : ℕ) → addr % 4 ≡ k → k < 4
        → (word % 256 ^ (addr % 4)) + (value % 256) * 256 ^ (addr % 4) + (word / (256 ^ (addr % 4) * 256)) *
        (256 ^ (addr % 4) * 256) < 2 ^ 32
    bytes zero q l = rw q (omega arith)
    bytes (suc zero) q l = rw q (omega arith)
    bytes (suc (suc zero)) q l = rw q (omega arith)
    bytes (suc (suc (suc zero))) q l = rw q (omega arith)
    bytes (suc (suc (suc (suc k)))) q l = absurd (omega arith)

put-small : (f : ℕ → ℕ) (w x : ℕ) → IsSmall f → x < 2 ^ 32 → IsSmall (put f w x)
put-small f w x h k v = at (v == w)
  where
    at : (b : Bool) → cond b x (f v) < 2 ^ 32
    at true = k
    at false = h v

-- one more plain step
pub steps-next : (base : ℕ) (p : Program) (n : ℕ) (from a : Attempt) → steps base p n from ≡ Some a → a.outcome ≡ Goes
    → steps base p (n + 1) from ≡ Some (stepped base p a (p.need a.local))
unfolding steps plain_step
steps-next base p n from a e f = rw (add-one, e, f)

-- the old word is what the instruction found, where it takes it
abbrev pub TakesOld : (base : ℕ) → Need → (x : ℕ) → (ℕ → ℕ) → Type 0
TakesOld base (Loads addr size) x old = old (word_of base addr) ≡ x
TakesOld base (Stores addr Word value) x old = Unit {0}
TakesOld base (Stores addr Half value) x old = old (word_of base addr) ≡ x
TakesOld base (Stores addr Byte value) x old = old (word_of base addr) ≡ x
TakesOld base (Changes addr changed) x old = old (word_of base addr) ≡ x
TakesOld base Nothing x old = Unit {0}
TakesOld base (Prints byte) x old = Unit {0}
TakesOld base Ends x old = Unit {0}
TakesOld base (Halts code) x old = Unit {0}
TakesOld base (Traps code) x old = Unit {0}

-- the words after it
abbrev pub seen_after : (base : ℕ) → Need → (x : ℕ) → (ℕ → ℕ) → ℕ → ℕ
seen_after base (Stores addr size value) x old v = cond (v == word_of base addr) (new_word (Stores addr size value) x) (old v)
seen_after base (Changes addr changed) x old v = cond (v == word_of base addr) (new_word (Changes addr changed) x) (old v)
seen_after base (Loads addr size) x old v = old v
seen_after base Nothing x old v = old v
seen_after base (Prints byte) x old v = old v
seen_after base Ends x old v = old v
seen_after base (Halts code) x old v = old v
seen_after base (Traps code) x old v = old v

put-seen : (base addr : ℕ) (f old : ℕ → ℕ) (x y : ℕ) → ((v : ℕ) → f v ≡ old v) → x ≡ y → (v : ℕ)
    → put f (word_of base addr) x v ≡ cond (v == word_of base addr) y (old v)
put-seen base addr f old x y h e v = at (v == word_of base addr)
  where
    at : (b : Bool) → cond b x (f v) ≡ cond b y (old v)
    at true = e
    at false = h v

stored-seen : (base : ℕ) (p : Program) (s t : CoreState) (ram : ℕ → ℕ) (a : Attempt) (addr : ℕ) (size : Size) (value y : ℕ)
    → Reaches s ram a → patched (a.ram (word_of base addr)) addr size value ≡ y →
    ((v : ℕ) → sees t ram v ≡ cond (v == word_of base addr) y (sees s ram v)) → (v : ℕ) → stored base a.ram addr size value v ≡ sees t ram v
unfolding stored
stored-seen base p s t ram a addr size value y r e f v =
    put-seen base addr a.ram (sees s ram) (patched (a.ram (word_of base addr)) addr size value) y r.words e v ∙ sym (f v)

stored-small : (base : ℕ) (ram : ℕ → ℕ) (addr : ℕ) (size : Size) (value : ℕ) → IsSmall ram → addr % bytes_of size ≡ 0
    → IsSmall (stored base ram addr size value)
unfolding stored
stored-small base ram addr size value h e = put-small ram (word_of base addr) (patched (ram (word_of base addr)) addr size value) h
    (patched-small (ram (word_of base addr)) addr size value (h (word_of base addr)) e)

-- the core with another cache and other spilled words
abbrev pub with_words : CoreState → Cache → (ℕ → Option ℕ) → CoreState
with_words s c sp = record s { cache = c; spilled = sp }

-- a plain step with this need, where the core's instruction is finished
pub reaches-next : (base : ℕ) (p : Program) (s : CoreState) (c : Cache) (sp : ℕ → Option ℕ) (ram : ℕ → ℕ) (a : Attempt) (need : Need)
    (x : ℕ) → NeedFits need → Reaches s ram a → TakesOld base need x (sees s ram) →
    ((v : ℕ) → sees (with_words s c sp) ram v ≡ seen_after base need x (sees s ram) v)
    → Reaches (finished p need x (with_words s c sp)) ram (stepped base p a need)
unfolding finished one_more_instruction sees loaded
reaches-next base p s c sp ram a Nothing x f r t h = record {
  local = ap (λ l. p.after l None) r.local;
  loads = r.loads;
  stores = r.stores;
  console = r.console;
  outcome = r.outcome;
  words = λ v. r.words v ∙ sym (h v);
  small = r.small;
}
reaches-next base p s c sp ram a (Prints byte) x f r t h = record {
  local = ap (λ l. p.after l None) r.local;
  loads = r.loads;
  stores = r.stores;
  console = ap (λ l. l ++ byte ∷ []) r.console;
  outcome = r.outcome;
  words = λ v. r.words v ∙ sym (h v);
  small = r.small;
}
reaches-next base p s c sp ram a Ends x f r t h = record {
  local = ap (λ l. unreserved (p.after l None)) r.local;
  loads = r.loads;
  stores = r.stores;
  console = r.console;
  outcome = refl;
  words = λ v. r.words v ∙ sym (h v);
  small = r.small;
}
reaches-next base p s c sp ram a (Halts code) x f r t h = record {
  local = ap unreserved r.local;
  loads = r.loads;
  stores = r.stores;
  console = r.console;
  outcome = refl;
  words = λ v. r.words v ∙ sym (h v);
  small = r.small;
}
reaches-next base p s c sp ram a (Traps code) x f r t h = record {
  local = ap unreserved r.local;
  loads = r.loads;
  stores = r.stores;
  console = r.console;
  outcome = refl;
  words = λ v. r.words v ∙ sym (h v);
  small = r.small;
}
reaches-next base p s c sp ram a (Loads addr size) x f r t h =
    let e : a.ram (word_of base addr) ≡ x = r.words (word_of base addr) ∙ t in
    record {
      local = ap (λ y. p.after a.local (Some (part y addr size))) e ∙ ap (λ l. p.after l (Some (part x addr size))) r.local;
      loads = ap (λ y. a.loads ++ load_of addr size (part y addr size) ∷ []) e
          ∙ ap (λ l. l ++ load_of addr size (part x addr size) ∷ []) r.loads;
      stores = r.stores;
      console = r.console;
      outcome = r.outcome;
      words = λ v. r.words v ∙ sym (h v);
      small = r.small;
    }
reaches-next base p s c sp ram a (Stores addr Word value) x f r t h = record {
  local = ap (λ l. p.after l None) r.local;
  loads = r.loads;
  stores = ap (λ l. l ++ store_of addr Word value ∷ []) r.stores;
  console = r.console;
  outcome = r.outcome;
  words = stored-seen base p s (with_words s c sp) ram a addr Word value value r
      (patched-whole (a.ram (word_of base addr)) addr value (r.small (word_of base addr)) f.0 f.1) h;
  small = stored-small base a.ram addr Word value r.small f.0;
}
reaches-next base p s c sp ram a (Stores addr Half value) x f r t h = record {
  local = ap (λ l. p.after l None) r.local;
  loads = r.loads;
  stores = ap (λ l. l ++ store_of addr Half value ∷ []) r.stores;
  console = r.console;
  outcome = r.outcome;
  words = stored-seen base p s (with_words s c sp) ram a addr Half value (patched x addr Half value) r
      (ap (λ y. patched y addr Half value) (r.words (word_of base addr) ∙ t)) h;
  small = stored-small base a.ram addr Half value r.small f.0;
}
reaches-next base p s c sp ram a (Stores addr Byte value) x f r t h = record {
  local = ap (λ l. p.after l None) r.local;
  loads = r.loads;
  stores = ap (λ l. l ++ store_of addr Byte value ∷ []) r.stores;
  console = r.console;
  outcome = r.outcome;
  words = stored-seen base p s (with_words s c sp) ram a addr Byte value (patched x addr Byte value) r
      (ap (λ y. patched y addr Byte value) (r.words (word_of base addr) ∙ t)) h;
  small = stored-small base a.ram addr Byte value r.small f.0;
}
reaches-next base p s c sp ram a (Changes addr changed) x f r t h =
    let e : a.ram (word_of base addr) ≡ x = r.words (word_of base addr) ∙ t in
    record {
      local = ap (λ y. p.after a.local (Some (part y addr Word))) e ∙ ap (λ l. p.after l (Some (part x addr Word))) r.local;
      loads = ap (λ y. a.loads ++ load_of addr Word (part y addr Word) ∷ []) e
          ∙ ap (λ l. l ++ load_of addr Word (part x addr Word) ∷ []) r.loads;
      stores = ap (λ y. a.stores ++ store_of addr Word (changed (part y addr Word)) ∷ []) e
          ∙ ap (λ l. l ++ store_of addr Word (changed (part x addr Word)) ∷ []) r.stores;
      console = r.console;
      outcome = r.outcome;
      words = stored-seen base p s (with_words s c sp) ram a addr Word (changed (part (a.ram (word_of base addr)) addr Word))
          (patched x addr Word (changed (part x addr Word))) r (ap (λ y. patched y addr Word (changed (part y addr Word))) e) h;
      small = stored-small base a.ram addr Word (changed (part (a.ram (word_of base addr)) addr Word)) r.small f;
    }

-- what an attempt claims, over every memory that agrees with its uses
abbrev pub Claim : Shape → Program → CoreState → Uses → Type 0
Claim sh p s us = (ram : ℕ → ℕ) → IsSmall ram → Agrees us ram → IsSomeAnd (steps sh.base p s.n (begun s.saved ram)) (Reaches s ram)

some-and : {A : Type 0} (o : Option A) (P : A → Type 0) (x : A) → o ≡ Some x → P x → IsSomeAnd o P
some-and o P x e h = rw e h

next-from : (base : ℕ) (p : Program) (s t : CoreState) (ram : ℕ → ℕ) (o : Option Attempt) → steps base p s.n (begun s.saved ram) ≡ o
    → s.ended ≡ Goes → IsSomeAnd o (Reaches s ram) →
    ((a : Attempt) → Reaches s ram a → Reaches t ram (stepped base p a (p.need a.local)))
    → IsSomeAnd (steps base p (s.n + 1) (begun s.saved ram)) (Reaches t ram)
next-from base p s t ram None q g h f = absurd h
next-from base p s t ram (Some a) q g h f = some-and (steps base p (s.n + 1) (begun s.saved ram)) (Reaches t ram)
    (stepped base p a (p.need a.local)) (steps-next base p s.n (begun s.saved ram) a q (h.outcome ∙ g)) (f a h)

finished-n : (p : Program) (need : Need) (x : ℕ) (s : CoreState) → (finished p need x s).n ≡ s.n + 1
unfolding finished one_more_instruction
finished-n p Nothing x s = refl
finished-n p (Loads addr size) x s = refl
finished-n p (Stores addr size value) x s = refl
finished-n p (Changes addr changed) x s = refl
finished-n p (Prints byte) x s = refl
finished-n p Ends x s = refl
finished-n p (Halts code) x s = refl
finished-n p (Traps code) x s = refl

finished-saved : (p : Program) (need : Need) (x : ℕ) (s : CoreState) → (finished p need x s).saved ≡ s.saved
unfolding finished one_more_instruction
finished-saved p Nothing x s = refl
finished-saved p (Loads addr size) x s = refl
finished-saved p (Stores addr size value) x s = refl
finished-saved p (Changes addr changed) x s = refl
finished-saved p (Prints byte) x s = refl
finished-saved p Ends x s = refl
finished-saved p (Halts code) x s = refl
finished-saved p (Traps code) x s = refl

-- an instruction that is finished: its attempt claims what it did before, and the step
pub finished-claims : (sh : Shape) (p : Program) (s : CoreState) (us vs : Uses) (c : Cache) (sp : ℕ → Option ℕ) (need : Need) (x : ℕ)
    → NeedFits need → p.need s.local ≡ need → s.ended ≡ Goes → Claim sh p s us →
    ((ram : ℕ → ℕ) → Agrees vs ram → TakesOld sh.base need x (sees s ram)) →
    ((ram : ℕ → ℕ) → Agrees vs ram → (v : ℕ) → sees (with_words s c sp) ram v ≡ seen_after sh.base need x (sees s ram) v) →
    Claim sh p (finished p need x (with_words s c sp)) (us ++ vs)
unfolding finished
finished-claims sh p s us vs c sp need x f e g k t h ram small agrees =
    let w = agrees-right us vs ram agrees in
    rw (finished-n p need x (with_words s c sp), finished-saved p need x (with_words s c sp))
    (next-from sh.base p s (finished p need x (with_words s c sp)) ram (steps sh.base p s.n (begun s.saved ram)) refl g
    (k ram small (agrees-left us vs ram agrees))
    (λ a r. let q : p.need a.local ≡ need = ap p.need r.local ∙ e in
    rw q (reaches-next sh.base p s c sp ram a need x f r (t ram w) (h ram w))))

-- in a phase with an attempt
abbrev pub is_live : Phase → Bool
is_live Halted = false
is_live Running = true
is_live AwaitTid = true
is_live DoomedTid = true
is_live (Probing t) = true
is_live (Ready t) = true
is_live (Overflowing t) = true
is_live (Solo t) = true

pub in-from : (sh : Shape) (p : Program) (s : CoreState) (us : Uses) (q : Phase) → Claim sh p s us → FollowsIn sh p s us q
in-from sh p s us Halted k = tt
in-from sh p s us Running k = k
in-from sh p s us AwaitTid k = k
in-from sh p s us DoomedTid k = k
in-from sh p s us (Probing t) k = k
in-from sh p s us (Ready t) k = k
in-from sh p s us (Overflowing t) k = k
in-from sh p s us (Solo t) k = k

pub in-to : (sh : Shape) (p : Program) (s : CoreState) (us : Uses) (q : Phase) → is_live q ≡ true → FollowsIn sh p s us q → Claim sh p s us
in-to sh p s us Halted e k = absurd (cc)
in-to sh p s us Running e k = k
in-to sh p s us AwaitTid e k = k
in-to sh p s us DoomedTid e k = k
in-to sh p s us (Probing t) e k = k
in-to sh p s us (Ready t) e k = k
in-to sh p s us (Overflowing t) e k = k
in-to sh p s us (Solo t) e k = k

-- the core with other words that the attempt sees as before, another phase, and so on
abbrev pub with_all : CoreState → Cache → (ℕ → Option ℕ) → Phase → Option Awaited → (ℕ → Bool) → CoreState
with_all s c sp q aw ow = record s { cache = c; spilled = sp; phase = q; awaited = aw; owing = ow }

reaches-same : (s : CoreState) (c : Cache) (sp : ℕ → Option ℕ) (q : Phase) (aw : Option Awaited) (ow : ℕ → Bool) (ram : ℕ → ℕ) (a : Attempt)
    → ((v : ℕ) → sees (with_words s c sp) ram v ≡ sees s ram v) → Reaches s ram a → Reaches (with_all s c sp q aw ow) ram a
unfolding sees
reaches-same s c sp q aw ow ram a h r =
    record {
      local = r.local;
      loads = r.loads;
      stores = r.stores;
      console = r.console;
      outcome = r.outcome;
      words = λ v. r.words v ∙ sym (h v);
      small = r.small;
    }

some-weaken : {A : Type 0} (o : Option A) (P Q : A → Type 0) → ((x : A) → P x → Q x) → IsSomeAnd o P → IsSomeAnd o Q
some-weaken None P Q f h = h
some-weaken (Some x) P Q f h = f x h

pub claim-same : (sh : Shape) (p : Program) (s : CoreState) (us : Uses) (c : Cache) (sp : ℕ → Option ℕ) (q : Phase) (aw : Option Awaited)
    (ow : ℕ → Bool) → ((ram : ℕ → ℕ) (v : ℕ) → sees (with_words s c sp) ram v ≡ sees s ram v) → Claim sh p s us
    → Claim sh p (with_all s c sp q aw ow) us
claim-same sh p s us c sp q aw ow h k ram small agrees =
    some-weaken (steps sh.base p s.n (begun s.saved ram)) (Reaches s ram) (Reaches (with_all s c sp q aw ow) ram)
    (λ a r. reaches-same s c sp q aw ow ram a (h ram) r) (k ram small agrees)

in-same : (sh : Shape) (p : Program) (s : CoreState) (us : Uses) (c : Cache) (sp : ℕ → Option ℕ) (q : Phase) (aw : Option Awaited)
    (ow : ℕ → Bool) (r : Phase) → ((ram : ℕ → ℕ) (v : ℕ) → sees (with_words s c sp) ram v ≡ sees s ram v) → FollowsIn sh p s us r
    → FollowsIn sh p (with_all s c sp q aw ow) us r
in-same sh p s us c sp q aw ow Halted h k = tt
in-same sh p s us c sp q aw ow Running h k = claim-same sh p s us c sp q aw ow h k
in-same sh p s us c sp q aw ow AwaitTid h k = claim-same sh p s us c sp q aw ow h k
in-same sh p s us c sp q aw ow DoomedTid h k = claim-same sh p s us c sp q aw ow h k
in-same sh p s us c sp q aw ow (Probing t) h k = claim-same sh p s us c sp q aw ow h k
in-same sh p s us c sp q aw ow (Ready t) h k = claim-same sh p s us c sp q aw ow h k
in-same sh p s us c sp q aw ow (Overflowing t) h k = claim-same sh p s us c sp q aw ow h k
in-same sh p s us c sp q aw ow (Solo t) h k = claim-same sh p s us c sp q aw ow h k

-- in the same phase
pub follows-same : (sh : Shape) (p : Program) (s : CoreState) (us : Uses) (c : Cache) (sp : ℕ → Option ℕ) (aw : Option Awaited)
    (ow : ℕ → Bool) → ((ram : ℕ → ℕ) (v : ℕ) → sees (with_words s c sp) ram v ≡ sees s ram v) → Follows sh p s us
    → Follows sh p (with_all s c sp s.phase aw ow) us
follows-same sh p s us c sp aw ow h k = record { ends = k.ends; steps = in-same sh p s us c sp s.phase aw ow s.phase h k.steps }

-- from one phase with an attempt into another
pub follows-into : (sh : Shape) (p : Program) (s : CoreState) (us : Uses) (c : Cache) (sp : ℕ → Option ℕ) (q : Phase) (aw : Option Awaited)
    (ow : ℕ → Bool) → ((ram : ℕ → ℕ) (v : ℕ) → sees (with_words s c sp) ram v ≡ sees s ram v) → is_live s.phase ≡ true → EndFits q s.ended
    → Follows sh p s us → Follows sh p (with_all s c sp q aw ow) us
follows-into sh p s us c sp q aw ow h l e k =
    record {
      ends = e;
      steps = in-from sh p (with_all s c sp q aw ow) us q (claim-same sh p s us c sp q aw ow h (in-to sh p s us s.phase l k.steps));
    }
