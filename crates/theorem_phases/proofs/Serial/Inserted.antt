-- One more commit, the last of its core, in its place by its TID: the others keep their phases, and it has the phase that its core was in.
use Rattle.std.specs.Prelude.{ℕ, suc, ◌≡◌, ◌≢◌, ◌<◌, ◌≤◌, Bool, true, false, List, [], ◌∷◌, length, max}
use Rattle.std.specs.Prelude.{Option, Some, None, nat_lt, if◌then◌else◌}
use Rattle.std.proofs.Common.{arith, refl, ap, sym, subst, ◌∙◌}
use Rattle.std.proofs.lemmas.Bool.Decides.{nat_tests}
use Rattle.tcc_base.specs.Put.{put}
use Rattle.tcc_base.specs.declared.access.Commit.{Commit}
use Rattle.rules_program.specs.Plain.{Attempt, Plain, transaction}
use Rattle.rules_program.specs.Program.{Program}
use Rattle.rules_tcc.specs.Step.{insert_commit}
use Rattle.theorem_serial.specs.Owners.{IsRising}
use Rattle.theorem_phases.specs.Laws.{put_in, place_of}
use Rattle.rules_phases.specs.Phases.{x27, Phases, phases_along}
use Rattle.theorem_phases.proofs.Serial.Followed.{put-same, put-other, along, phase_at, along-first, NoneBy, Apart, Followed, closes}
use Rattle.theorem_phases.proofs.Serial.Followed.{followed}
use Rattle.theorem_phases.proofs.Serial.Ran.{Ran}

-- no commit has its TID, and its core's commits have smaller ones
unfoldable pub IsLast : Commit → List Commit → Type 0
IsLast x [] = Unit {0}
IsLast x (c ∷ cs) = (c.tid.0 ≢ x.tid.0) × (c.core.0 ≡ x.core.0 → c.tid.0 < x.tid.0) × IsLast x cs

-- so none behind its place is of its core
none-behind : (x : Commit) (last : ℕ) (cs : List Commit) → x.tid.0 < last → IsRising last cs → IsLast x cs → NoneBy x.core.0 cs
unfolding IsRising IsLast NoneBy
none-behind x last [] l r k = tt
none-behind x last (c ∷ cs) l r k =
    (λ e. absurd (omega (arith, l, r.0, (k.1) e)), none-behind x c.tid.0 cs (omega (arith, l, r.0)) (r.1) (k.2))

-- a phase in the place of its commit
abbrev pub behind_first : (List ℕ → List ℕ) → List ℕ → List ℕ
behind_first f [] = []
behind_first f (r ∷ rs) = r ∷ f rs

unfoldable pub with_phase : (tid phase : ℕ) → List Commit → List ℕ → List ℕ
with_phase t q [] rs = q ∷ rs
with_phase t q (c ∷ cs) rs = if nat_lt t c.tid.0 then q ∷ rs else behind_first (with_phase t q cs) rs

-- the phases with it, against those without it; up to the machines end and other
pub record Grown (x : Commit) (cs : List Commit) (old new : Phases) (end other : Plain) : Type 0 where
  pub each : new.each ≡ with_phase x.tid.0 (phase_at old.last end x.core.0) cs old.each
  pub own : new.last x.core.0 ≡ phase_at old.last end x.core.0
  pub lasts : (c : ℕ) → c ≢ x.core.0 → new.last c ≡ old.last c
  pub locals : (c : ℕ) → c ≢ x.core.0 → (other.cores c).local ≡ (end.cores c).local

-- it is put in front
first-grown : (base : ℕ) (p : Program) (x : Commit) (cs : List Commit) (m end other : Plain) (f : ℕ → ℕ) → NoneBy x.core.0 cs
    → with_phase x.tid.0 (phase_at (along base p f cs m).last end x.core.0) cs (along base p f cs m).each
    ≡ phase_at (along base p f cs m).last end x.core.0 ∷ (along base p f cs m).each
    → Ran base p m cs end → Ran base p m (x ∷ cs) other
    → Grown x cs (along base p f cs m) (along base p f (x ∷ cs) m) end other
unfolding Ran
first-grown base p x cs m end other f n w r (d, h, e, t) =
    rw (along-first base p f x cs m d h) (record {
      each = (λ i. phase i ∷ sym both.each i) ∙ sym w;
      own = both.there_last ∙ put-same f x.core.0 own ∙ phase;
      lasts = λ c l. sym (both.lasts c l);
      locals = λ c l. sym (both.locals c l);
    })
  where
    own : ℕ
    own = phase_at f m x.core.0

    apart : Apart x.core.0 m d.0 f (put f x.core.0 own)
    apart = record {
      locals = λ c l. ap (λ y. y.local) (sym ((closes base p m x.core.0 x.n d h).others c l));
      lasts = λ c l. sym (put-other f x.core.0 own c l);
    }

    both : Followed x.core.0 (along base p f cs m) (along base p (put f x.core.0 own) cs d.0) m end other f (put f x.core.0 own)
    both = followed base p cs x.core.0 m d.0 end other f (put f x.core.0 own) n apart r t

    phase : own ≡ phase_at (along base p f cs m).last end x.core.0
    phase = λ i. max (sym both.here_last i) (x27 (sym both.still i))

-- it is put behind the first
behind-grown : (base : ℕ) (p : Program) (x c : Commit) (cs ds : List Commit) (m end other : Plain) (f : ℕ → ℕ)
    (d : Plain × Attempt) → nat_lt x.tid.0 c.tid.0 ≡ false → transaction base p m c.core.0 c.n ≡ Some d
    → Grown x cs (along base p (put f c.core.0 (phase_at f m c.core.0)) cs d.0)
    (along base p (put f c.core.0 (phase_at f m c.core.0)) ds d.0) end other
    → Grown x (c ∷ cs) (along base p f (c ∷ cs) m) (along base p f (c ∷ ds) m) end other
unfolding with_phase
behind-grown base p x c cs ds m end other f d e h g =
    rw (along-first base p f c cs m d h, along-first base p f c ds m d h) (record {
      each = rw e (ap (λ rs. phase_at f m c.core.0 ∷ rs) g.each);
      own = g.own;
      lasts = g.lasts;
      locals = g.locals;
    })

abbrev some-of : {A : Type 0} → A → Option A → A
some-of a None = a
some-of a (Some b) = b

-- the first transaction is one
same-first : (base : ℕ) (p : Program) (m : Plain) (c : Commit) (d t : Plain × Attempt) → transaction base p m c.core.0 c.n ≡ Some d
    → transaction base p m c.core.0 c.n ≡ Some t → t ≡ d
same-first base p m c d t h i = ap (some-of d) (sym i ∙ h)

behind-first : (base : ℕ) (p : Program) (x c : Commit) (cs ds : List Commit) (m end other : Plain) (f : ℕ → ℕ)
    → nat_lt x.tid.0 c.tid.0 ≡ false → Ran base p m (c ∷ cs) end → Ran base p m (c ∷ ds) other
    → ((d : Plain × Attempt) → Ran base p d.0 cs end → Ran base p d.0 ds other
    → Grown x cs (along base p (put f c.core.0 (phase_at f m c.core.0)) cs d.0)
    (along base p (put f c.core.0 (phase_at f m c.core.0)) ds d.0) end other)
    → Grown x (c ∷ cs) (along base p f (c ∷ cs) m) (along base p f (c ∷ ds) m) end other
unfolding Ran
behind-first base p x c cs ds m end other f e (d, h, v, y) (t, i, u, z) g =
    behind-grown base p x c cs ds m end other f d e h
    (g d y (subst (λ w. Ran base p w.0 ds other) (same-first base p m c d t h i) z))

pub grown : (base : ℕ) (p : Program) (x : Commit) (last : ℕ) (cs : List Commit) (m end other : Plain) (f : ℕ → ℕ)
    → IsRising last cs
    → IsLast x cs → Ran base p m cs end → Ran base p m (insert_commit x cs) other
    → Grown x cs (along base p f cs m) (along base p f (insert_commit x cs) m) end other
unfolding insert_commit IsRising IsLast with_phase NoneBy
grown base p x last [] m end other f r k a b = first-grown base p x [] m end other f tt refl a b
grown base p x last (c ∷ cs) m end other f r k a b =
    go (nat_lt x.tid.0 c.tid.0) refl b
    (λ d y z. grown base p x c.tid.0 cs d.0 end other (put f c.core.0 (phase_at f m c.core.0)) (r.1) (k.2) y z)
  where
    none : nat_lt x.tid.0 c.tid.0 ≡ true → NoneBy x.core.0 (c ∷ cs)
    none e = let l : x.tid.0 < c.tid.0 = grind (arith, nat_tests) in
        (λ s. absurd (omega (arith, l, (k.1) s)), none-behind x c.tid.0 cs l (r.1) (k.2))

    go : (b : Bool) → nat_lt x.tid.0 c.tid.0 ≡ b → Ran base p m (if b then x ∷ c ∷ cs else c ∷ insert_commit x cs) other
        → ((d : Plain × Attempt) → Ran base p d.0 cs end → Ran base p d.0 (insert_commit x cs) other
        → Grown x cs (along base p (put f c.core.0 (phase_at f m c.core.0)) cs d.0)
        (along base p (put f c.core.0 (phase_at f m c.core.0)) (insert_commit x cs) d.0) end other)
        → Grown x (c ∷ cs) (along base p f (c ∷ cs) m)
        (along base p f (if b then x ∷ c ∷ cs else c ∷ insert_commit x cs) m) end other
    go true e z g = first-grown base p x (c ∷ cs) m end other f (none e) (rw e refl) a z
    go false e z g = behind-first base p x c cs (insert_commit x cs) m end other f e a z g

-- places

along-longer : (base : ℕ) (p : Program) (c : Commit) (cs : List Commit) (m : Plain) (f : ℕ → ℕ) (d : Plain × Attempt)
    → transaction base p m c.core.0 c.n ≡ Some d
    → length (along base p (put f c.core.0 (phase_at f m c.core.0)) cs d.0).each ≡ length cs
    → length (along base p f (c ∷ cs) m).each ≡ length (c ∷ cs)
along-longer base p c cs m f d h e = rw (along-first base p f c cs m d h) (ap suc e)

-- as long as the commits
pub along-count : (base : ℕ) (p : Program) (cs : List Commit) (m end : Plain) (f : ℕ → ℕ) → Ran base p m cs end
    → length (along base p f cs m).each ≡ length cs
unfolding Ran phases_along
along-count base p [] m end f r = refl
along-count base p (c ∷ cs) m end f (d, h, e, r) =
    along-longer base p c cs m f d h (along-count base p cs d.0 end (put f c.core.0 (phase_at f m c.core.0)) r)

none-smaller : (t last : ℕ) (cs : List Commit) → t ≤ last → IsRising last cs → place_of t cs ≡ 0
unfolding IsRising
none-smaller t last [] l r = refl
none-smaller t last (c ∷ cs) l r =
    let e : nat_lt c.tid.0 t ≡ false = let k = r.0 in grind (arith, nat_tests) in
    rw e (none-smaller t c.tid.0 cs (omega (arith, l, r.0)) (r.1))

pub with-phase_put_in : (x : Commit) (q last : ℕ) (cs : List Commit) (rs : List ℕ) → length rs ≡ length cs → IsRising last cs
    → IsLast x cs
    → with_phase x.tid.0 q cs rs ≡ put_in (place_of x.tid.0 cs) q rs
unfolding with_phase IsRising IsLast
with-phase_put_in x q last [] rs e r k = refl
with-phase_put_in x q last (c ∷ cs) [] e r k = absurd (omega (arith, e))
with-phase_put_in x q last (c ∷ cs) (a ∷ rs) e r k =
    go (nat_lt x.tid.0 c.tid.0) refl (with-phase_put_in x q c.tid.0 cs rs (omega (arith, e)) (r.1) (k.2))
  where
    go : (b : Bool) → nat_lt x.tid.0 c.tid.0 ≡ b → with_phase x.tid.0 q cs rs ≡ put_in (place_of x.tid.0 cs) q rs
        → (if b then q ∷ a ∷ rs else a ∷ with_phase x.tid.0 q cs rs) ≡ put_in (place_of x.tid.0 (c ∷ cs)) q (a ∷ rs)
    go true z h =
        let n : nat_lt c.tid.0 x.tid.0 ≡ false = grind (arith, nat_tests) in
        let l : x.tid.0 ≤ c.tid.0 = grind (arith, nat_tests) in
        rw (n, none-smaller x.tid.0 c.tid.0 cs l (r.1)) refl
    go false z h =
        let n : nat_lt c.tid.0 x.tid.0 ≡ true = let y = k.0 in grind (arith, nat_tests) in
        rw n (ap (λ qs. a ∷ qs) h)
