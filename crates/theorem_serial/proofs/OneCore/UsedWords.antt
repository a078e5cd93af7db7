-- The words that an instruction or an attempt uses: where two memories agree on them it gives the same over both.
use Rattle.tcc_base.specs.Bytes.{bytes_of}
use Rattle.rules_program.specs.Plain.{stepped}
use Rattle.rules_program.specs.Ram.{stored}
use Rattle.theorem_serial.specs.Sound.{values_for, Doomed, SoundOrDoomed, AttemptsSound}
use Rattle.theorem_serial.proofs
use proofs.Names.{ℕ, zero, suc, ◌≡◌, ◌<◌, ◌%◌, ◌^◌, Bool, true, false, not, ◌&&◌, ◌||◌, ◌==◌, List, [], ◌∷◌, ◌++◌, Option, Some, None}
use proofs.Names.{MatchOption, if◌then◌else◌, arith, refl, ap, sym, ◌∙◌, Size, Word, Stored, Local, Need, Nothing, Loads, Stores, Changes}
use proofs.Names.{Ends, Program, Attempt, Outcome, Goes, steps, begun, plain_step, when_going, then_step, store_of, word_of, unit_of}
use proofs.Names.{patched, loaded, stores_word, stores_whole, is_whole, reads_word, uses_next, uses, AlignedNeed, Aligned, IsMemory}
use proofs.Names.{SameAttempt, AgreeOnUsed, IfSome, Load, loads_word, patched-small, nats, ◌≤◌, ◌⊎◌, IsSomeAnd, inl, inr, Noted, line_of}
use proofs.Names.{Shape, home, CoreState, Phase, Halted, World, Uses, Agrees, IsSmall, Reaches, FollowsIn, holder, pair, IsBound, value_at}
use proofs.Names.{IsDoomed, EachUse, home_of, ◌≢◌}

-- Instructions over two memories that agree on the words used give the same, and name these words.

-- Instructions over two memories that agree on the words used give the same.

-- what a whole store leaves doesn't depend on the word's old value
patched-whole : (word addr value : ℕ) → word < 2 ^ 32 → addr % 4 ≡ 0 → patched word addr Word value ≡ value % 2 ^ 32
unfolding patched unit_of
patched-whole word addr value h e = rw e (omega arith)

pub stores_word-append : (base : ℕ) (a b : List Stored) (w : ℕ)
    → stores_word base (a ++ b) w ≡ (stores_word base a w || stores_word base b w)
unfolding stores_word
stores_word-append base [] b w = refl
stores_word-append base (s ∷ a) b w = let r = stores_word-append base a b w in rw r (go (word_of base s.addr == w))
  where
    go : (x : Bool) → (x || (stores_word base a w || stores_word base b w)) ≡ ((x || stores_word base a w) || stores_word base b w)
    go true = refl
    go false = refl

-- a word that is stored whole is stored
stored-whole : (base : ℕ) (ss : List Stored) (w : ℕ) → stores_word base ss w ≡ false → stores_whole base ss w ≡ false
unfolding stores_word stores_whole
stored-whole base [] w h = refl
stored-whole base (s ∷ ss) w h = go (word_of base s.addr == w) (is_whole s.size) (stored-whole base ss w) h
  where
    go : (x y : Bool) → (stores_word base ss w ≡ false → stores_whole base ss w ≡ false) → (x || stores_word base ss w) ≡ false
        → ((y && x) || stores_whole base ss w) ≡ false
    go a y r h = grind nats

pub stored-put : (base : ℕ) (ram : ℕ → ℕ) (addr : ℕ) (size : Size) (value w : ℕ)
    → stored base ram addr size value w ≡ (if word_of base addr == w then patched (ram (word_of base addr)) addr size value else ram w)
unfolding stored
stored-put base ram addr size value w = grind nats

-- what is known of the two memories after some instructions
record Apart (base : ℕ) (here there : ℕ → ℕ) (a : Attempt) (ram : ℕ → ℕ) : Type 0 where
  stored : (w : ℕ) → stores_word base a.stores w ≡ true → ram w ≡ a.ram w
  kept_here : (w : ℕ) → stores_word base a.stores w ≡ false → a.ram w ≡ here w
  kept_there : (w : ℕ) → stores_word base a.stores w ≡ false → ram w ≡ there w

same_word : {base : ℕ} {here there : ℕ → ℕ} (a : Attempt) {ram : ℕ → ℕ} (need : Need) → Apart base here there a ram
    → ((w : ℕ) → (reads_word base need w && not (stores_whole base a.stores w)) ≡ true → here w ≡ there w) → (w : ℕ)
    → reads_word base need w ≡ true → ram w ≡ a.ram w
same_word a need ap agree w r = grind (nats, stored-whole)

-- the word that a store leaves
same_patched : (base : ℕ) (here there : ℕ → ℕ) (a : Attempt) (ram : ℕ → ℕ) (addr : ℕ) (size : Size) (value : ℕ)
    → Apart base here there a ram → IsMemory here → IsMemory there → addr % bytes_of size ≡ 0
    → ((w : ℕ) → reads_word base (Stores addr size value) w ≡ true → ram w ≡ a.ram w)
    → patched (ram (word_of base addr)) addr size value ≡ patched (a.ram (word_of base addr)) addr size value
same_patched base here there a ram addr b value ap mh mt al reads =
    grind (nats, patched-whole)

-- the memories after a store, apart as before
apart-stored : (base : ℕ) (here there : ℕ → ℕ) (a : Attempt) (ram : ℕ → ℕ) (addr : ℕ) (size : Size) (value : ℕ)
    → Apart base here there a ram
    → patched (ram (word_of base addr)) addr size value ≡ patched (a.ram (word_of base addr)) addr size value
    → Apart base here there (record a { ram = stored base a.ram addr size value; stores = a.stores ++ store_of addr size value ∷ [] })
    (stored base ram addr size value)
unfolding stores_word
apart-stored base here there a ram addr size value ap e = record {
  stored = λ w s. after w (word_of base addr == w) refl (named w s);
  kept_here = λ w s. rw stored-put (here_kept w (word_of base addr == w) refl (unnamed w s));
  kept_there = λ w s. rw stored-put (there_kept w (word_of base addr == w) refl (unnamed w s));
}
  where
    named : (w : ℕ) → stores_word base (a.stores ++ store_of addr size value ∷ []) w ≡ true
        → (stores_word base a.stores w || ((word_of base addr == w) || false)) ≡ true
    named w s = rw stores_word-append at s

    unnamed : (w : ℕ) → stores_word base (a.stores ++ store_of addr size value ∷ []) w ≡ false
        → (stores_word base a.stores w || ((word_of base addr == w) || false)) ≡ false
    unnamed w s = rw stores_word-append at s

    old : (w : ℕ) → (b : Bool) → (b || (false || false)) ≡ true → b ≡ true
    old w a h = grind nats

    after : (w : ℕ) (b : Bool) → (word_of base addr == w) ≡ b → (stores_word base a.stores w || (b || false)) ≡ true
        → stored base ram addr size value w ≡ stored base a.ram addr size value w
    after w true q h = stored-put base ram addr size value w ∙ rw (q, e) (sym (stored-put base a.ram addr size value w ∙ rw q))
    after w false q h = stored-put base ram addr size value w
        ∙ rw q (ap.stored w (old w (stores_word base a.stores w) h) ∙ sym (stored-put base a.ram addr size value w ∙ rw q))

    kept : (x b : Bool) → (x || (b || false)) ≡ false → (x ≡ false) × (b ≡ false)
    kept true b h = absurd (cc)
    kept false true h = absurd (cc)
    kept false false h = (refl, refl)

    here_kept : (w : ℕ) (b : Bool) → (word_of base addr == w) ≡ b → (stores_word base a.stores w || (b || false)) ≡ false
        → (if b then patched (a.ram (word_of base addr)) addr size value else a.ram w) ≡ here w
    here_kept w b q h = let k = kept (stores_word base a.stores w) b h in rw k.1 (ap.kept_here w k.0)

    there_kept : (w : ℕ) (b : Bool) → (word_of base addr == w) ≡ b → (stores_word base a.stores w || (b || false)) ≡ false
        → (if b then patched (ram (word_of base addr)) addr size value else ram w) ≡ there w
    there_kept w b q h = let k = kept (stores_word base a.stores w) b h in rw k.1 (ap.kept_there w k.0)

same_from : {base : ℕ} {here there : ℕ → ℕ} {a : Attempt} (ram : ℕ → ℕ) {other : Option Attempt} → Apart base here there a ram
    → other ≡ Some (record a { ram = ram }) → SameAttempt base here there a other
same_from ram ap e = record { ram = ram; same = e; stored = ap.stored; kept_here = ap.kept_here; kept_there = ap.kept_there }

-- the same words at an access give the same value
same_loaded : (base : ℕ) (ram other : ℕ → ℕ) (addr : ℕ) (size : Size) → ram (word_of base addr) ≡ other (word_of base addr)
    → loaded base ram addr size ≡ loaded base other addr size
unfolding loaded
same_loaded base ram other addr size e = rw e

same_step : {base : ℕ} (p : Program) {here there : ℕ → ℕ} {a : Attempt} (ram : ℕ → ℕ) (need : Need) → Apart base here there a ram
    → IsMemory here → IsMemory there → AlignedNeed need → ((w : ℕ) → reads_word base need w ≡ true → ram w ≡ a.ram w)
    → SameAttempt base here there (stepped base p a need) (Some (stepped base p (record a { ram = ram }) need))
same_step p ram Nothing ap mh mt al reads = same_from ram
    (record { stored = ap.stored; kept_here = ap.kept_here; kept_there = ap.kept_there }) refl
same_step {base} p {a} ram (Loads addr size) ap mh mt al reads = same_from ram
    (record { stored = ap.stored; kept_here = ap.kept_here; kept_there = ap.kept_there })
    (rw (same_loaded base ram a.ram addr size (reads (word_of base addr) (grind nats))))
same_step {base} p {here} {there} {a} ram (Stores addr size value) ap mh mt al reads =
    let q = apart-stored base here there a ram addr size value ap (same_patched base here there a ram addr size value ap mh mt al reads) in
    same_from (stored base ram addr size value) (record { stored = q.stored; kept_here = q.kept_here; kept_there = q.kept_there }) refl
same_step {base} p {here} {there} {a} ram (Changes addr changed) ap mh mt al reads =
    let e : ram (word_of base addr) ≡ a.ram (word_of base addr) = reads (word_of base addr) (grind nats) in
    let v = same_loaded base ram a.ram addr Word e in
    let q = apart-stored base here there a ram addr Word (changed (loaded base a.ram addr Word)) ap (rw e) in
    same_from (stored base ram addr Word (changed (loaded base a.ram addr Word)))
    (record { stored = q.stored; kept_here = q.kept_here; kept_there = q.kept_there }) (rw v)
same_step p ram Ends ap mh mt al reads = same_from ram
    (record { stored = ap.stored; kept_here = ap.kept_here; kept_there = ap.kept_there }) refl
same_step p ram x ap mh mt al reads = same_from ram
    (record { stored = ap.stored; kept_here = ap.kept_here; kept_there = ap.kept_there }) refl

-- one more instruction, where the words that it uses agree
same_then : {base : ℕ} (p : Program) {here there : ℕ → ℕ} (a : Attempt) {other : Option Attempt} → Aligned p → IsMemory here
    → IsMemory there → SameAttempt base here there a other → ((w : ℕ) → uses_next base p (Some a) w ≡ true → here w ≡ there w)
    → MatchOption (then_step base p (Some a)) (then_step base p other ≡ None) (λ b. SameAttempt base here there b (then_step base p other))
unfolding plain_step
same_then {base} p {here} {there} a al mh mt f agree = rw f.same (go a.outcome)
  where
    apart : Apart base here there a f.ram
    apart = record { stored = f.stored; kept_here = f.kept_here; kept_there = f.kept_there }

    go : (o : Outcome) → MatchOption (when_going base p a o) (when_going base p (record a { ram = f.ram }) o ≡ None)
        (λ b. SameAttempt base here there b (when_going base p (record a { ram = f.ram }) o))
    go Goes = same_step p f.ram (p.need a.local) apart mh mt (al a.local) (same_word a (p.need a.local) apart agree)
    go _ = refl

abbrev SameOrNone : (base : ℕ) (here there : ℕ → ℕ) → Option Attempt → Option Attempt → Type 0
SameOrNone base here there one other = MatchOption one (other ≡ None) (λ a. SameAttempt base here there a other)

then_same : (base : ℕ) (p : Program) (here there : ℕ → ℕ) (one other : Option Attempt) → Aligned p → IsMemory here → IsMemory there
    → SameOrNone base here there one other → ((w : ℕ) → uses_next base p one w ≡ true → here w ≡ there w)
    → SameOrNone base here there (then_step base p one) (then_step base p other)
then_same base p here there None other al mh mt f agree = rw f
then_same base p here there (Some a) other al mh mt f agree = same_then p a al mh mt f agree

pub steps_same : (base : ℕ) (p : Program) (n : ℕ) (l : Local) (here there : ℕ → ℕ) → Aligned p → IsMemory here → IsMemory there
    → AgreeOnUsed base p n l here there
    → MatchOption (steps base p n (begun l here)) (steps base p n (begun l there) ≡ None)
    (λ a. SameAttempt base here there a (steps base p n (begun l there)))
unfolding steps uses begun stores_word
steps_same base p zero l here there al mh mt agree =
    record { ram = there; same = refl; stored = λ w e. absurd (cc); kept_here = λ w e. refl; kept_there = λ w e. refl }
steps_same base p (suc n) l here there al mh mt agree =
    then_same base p here there (steps base p n (begun l here)) (steps base p n (begun l there)) al mh mt
    (steps_same base p n l here there al mh mt (λ w u. agree w (rw u)))
    (λ w u. agree w (rw u ((elim (uses base p n (begun l here) w) as (λ b. (b || true) ≡ true) [ true ↦ refl | false ↦ refl ]))))

-- Instructions whose accesses are aligned leave words of 32 bits, and each word that they use is named by their loads or stores.
stored-memory : (base : ℕ) (ram : ℕ → ℕ) (addr : ℕ) (size : Size) (value : ℕ) → IsMemory ram → addr % bytes_of size ≡ 0
    → IsMemory (stored base ram addr size value)
stored-memory base ram addr size value m e w = rw stored-put (go (word_of base addr == w))
  where
    go : (b : Bool) → (if b then patched (ram (word_of base addr)) addr size value else ram w) < 2 ^ 32
    go a = grind (nats, patched-small)

stepped-memory : (base : ℕ) (p : Program) (a : Attempt) (need : Need) → IsMemory a.ram → AlignedNeed need
    → IsMemory (stepped base p a need).ram
stepped-memory base p a (Stores addr size value) m e = stored-memory base a.ram addr size value m e
stepped-memory base p a (Changes addr changed) m e = stored-memory base a.ram addr Word (changed (loaded base a.ram addr Word)) m e
stepped-memory base p a _ m e = m

then-memory : (base : ℕ) (p : Program) (o : Option Attempt) → Aligned p → IfSome o (λ a. IsMemory a.ram)
    → IfSome (then_step base p o) (λ a. IsMemory a.ram)
unfolding plain_step
then-memory base p None al m = m
then-memory base p (Some a) al m = go a.outcome
  where
    go : (o : Outcome) → IfSome (when_going base p a o) (λ b. IsMemory b.ram)
    go Goes = stepped-memory base p a (p.need a.local) m (al a.local)
    go _ = tt

pub steps-memory : (base : ℕ) (p : Program) (n : ℕ) (a : Attempt) → Aligned p → IsMemory a.ram
    → IfSome (steps base p n a) (λ b. IsMemory b.ram)
unfolding steps
steps-memory base p zero a al m = m
steps-memory base p (suc n) a al m = then-memory base p (steps base p n a) al (steps-memory base p n a al m)

-- used words are named
pub loads_word-append : (base : ℕ) (a b : List Load) (w : ℕ) → loads_word base (a ++ b) w ≡ (loads_word base a w || loads_word base b w)
unfolding loads_word
loads_word-append base [] b w = refl
loads_word-append base (s ∷ a) b w = let r = loads_word-append base a b w in rw r (go (word_of base s.addr == w))
  where
    go : (x : Bool) → (x || (loads_word base a w || loads_word base b w)) ≡ ((x || loads_word base a w) || loads_word base b w)
    go true = refl
    go false = refl

-- an instruction's access is named behind it, and all that was named before
named-stepped : (base : ℕ) (p : Program) (a : Attempt) (need : Need) (w : ℕ)
    → ((loads_word base a.loads w || stores_word base a.stores w) || reads_word base need w) ≡ true
    → (loads_word base (stepped base p a need).loads w || stores_word base (stepped base p a need).stores w) ≡ true
unfolding loads_word stores_word
named-stepped base p a b w h = grind (nats, loads_word-append, stores_word-append)

-- each word that the instructions use is named by the loads or stores
abbrev Names : (base : ℕ) → ℕ → Bool → Option Attempt → Type 0
Names base w used o = used ≡ true → IfSome o (λ a. (loads_word base a.loads w || stores_word base a.stores w) ≡ true)

then-names : (base : ℕ) (p : Program) (w : ℕ) (used : Bool) (o : Option Attempt) → Names base w used o
    → Names base w (used || uses_next base p o w) (then_step base p o)
unfolding plain_step
then-names base p w used None n u = tt
then-names base p w used (Some a) n u = go a.outcome
  where
    weaker : (x r s : Bool) → (x ≡ true → (loads_word base a.loads w || stores_word base a.stores w) ≡ true) → (x || (r && s)) ≡ true
        → ((loads_word base a.loads w || stores_word base a.stores w) || r) ≡ true
    weaker a r s f e = grind nats

    go : (o : Outcome) → IfSome (when_going base p a o) (λ b. (loads_word base b.loads w || stores_word base b.stores w) ≡ true)
    go Goes = named-stepped base p a (p.need a.local) w
        (weaker used (reads_word base (p.need a.local) w) (not (stores_whole base a.stores w)) n u)
    go _ = tt

pub uses-named : (base : ℕ) (p : Program) (n : ℕ) (a : Attempt) (w : ℕ) → Names base w (uses base p n a w) (steps base p n a)
unfolding uses steps
uses-named base p zero a w u = absurd (cc)
uses-named base p (suc n) a w u = then-names base p w (uses base p n a w) (steps base p n a) (uses-named base p n a w) u

-- An attempt whose view is current is sound, and else it is doomed.

-- the bound is the core's alone
bound-at : (w : World) (c d e : ℕ) (b : Option ℕ) → IsBound b (pair w c d) → IsBound b (pair w c e)
unfolding pair holder
bound-at w c d e None h = h
bound-at w c d e (Some t) h = h

pub home-below : (sh : Shape) (l : ℕ) → 1 ≤ sh.dirs → home sh l < sh.dirs
home-below sh l h = omega arith

-- all uses are current, or one dooms
agrees-or : (sh : Shape) (ram : ℕ → ℕ) (w : World) (cs : List Noted) (c : ℕ) (b : Option ℕ) (us : Uses) → 1 ≤ sh.dirs
    → ((d : ℕ) → d < sh.dirs
    → EachUse (λ x y. home sh (line_of x) ≡ d → (y ≡ value_at sh.base ram cs (w.dirs d) (Some c) b x) ⊎ IsDoomed b x (pair w c d)) us)
    → Agrees us (values_for sh ram w cs c b) ⊎ Doomed sh w c b
unfolding values_for
agrees-or sh ram w cs c b [] l f = inl tt
agrees-or sh ram w cs c b (u ∷ us) l f = go ((f (home_of sh u.0) (home-below sh (line_of u.0) l)).0 refl)
    (agrees-or sh ram w cs c b us l (λ d i. (f d i).1))
  where
    go : (u.1 ≡ value_at sh.base ram cs (w.dirs (home_of sh u.0)) (Some c) b u.0) ⊎ IsDoomed b u.0 (pair w c (home_of sh u.0))
        → Agrees us (values_for sh ram w cs c b) ⊎ Doomed sh w c b → Agrees (u ∷ us) (values_for sh ram w cs c b) ⊎ Doomed sh w c b
    go (inr d) r = inr (record { word = u.0; doomed = d })
    go (inl e) (inr d) = inr d
    go (inl e) (inl a) = inl (sym e, a)

pub follows-in : (sh : Shape) (p : Program) (s : CoreState) (us : Uses) (q : Phase) → q ≢ Halted → FollowsIn sh p s us q
    → (ram : ℕ → ℕ) → IsSmall ram → Agrees us ram → IsSomeAnd (steps sh.base p s.n (begun s.saved ram)) (Reaches s ram)
follows-in sh p s us Halted h f = absurd (h refl)
follows-in sh p s us _ h f = f

pub attempts_sound : AttemptsSound
attempts_sound sh p entries ram gs ys views m h k c b l n bound runs small = go (agrees-or sh ram h.world h.commits c b (views c) n
    (λ d i. k.viewed_word_is_current_or_doomed c d b l i (bound-at h.world c 0 d b bound)))
  where
    go : Agrees (views c) (values_for sh ram h.world h.commits c b) ⊎ Doomed sh h.world c b → SoundOrDoomed sh p ram h.world h.commits c b
    go (inl a) = inl (follows-in sh p (h.world.cores c) (views c) (h.world.cores c).phase runs
        (k.carried_views.attempt_follows_from_its_view c).steps (values_for sh ram h.world h.commits c b) small a)
    go (inr d) = inr d
