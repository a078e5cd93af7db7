-- The same commits from two machines that differ in one core that none of them is of: the same phases, and all other cores alike.
use Rattle.std.specs.Prelude.{ℕ, ◌≡◌, ◌≢◌, ◌==◌, Bool, true, false, List, [], ◌∷◌, map, max, Some}
use Rattle.std.specs.Prelude.{if◌then◌else◌}
use Rattle.std.proofs.Common.{arith, refl, ap, sym, ◌∙◌}
use Rattle.std.proofs.lemmas.Bool.Decides.{nat_tests}
use Rattle.tcc_base.specs.Put.{put}
use Rattle.tcc_base.specs.declared.access.Commit.{Commit}
use Rattle.rules_program.specs.Orders.{order_of_commit}
use Rattle.rules_program.specs.Plain.{Attempt, Plain, commit_of, transaction}
use Rattle.rules_program.specs.Program.{Program}
use Rattle.rules_phases.specs.Phases.{x27, Phases, and_phase, phases_along}
use Rattle.theorem_phases.proofs.Serial.Ran.{Ran}
use Rattle.theorem_phases.proofs.Serial.Replayed.{Closes, Alike, transaction-closes, transactions-alike}

-- maps

pub put-same : (f : ℕ → ℕ) (i v : ℕ) → put f i v i ≡ v
put-same f i v = grind (arith, nat_tests)

pub put-other : (f : ℕ → ℕ) (i v j : ℕ) → j ≢ i → put f i v j ≡ f j
put-other f i v j n = go (j == i) refl
  where
    go : (b : Bool) → (j == i) ≡ b → (if b then v else f j) ≡ f j
    go true q = absurd (n (grind (arith, nat_tests)))
    go false q = refl

-- the phases of commits

abbrev pub along : (base : ℕ) → Program → (last : ℕ → ℕ) → List Commit → Plain → Phases
along base p last cs m = phases_along base p last (map order_of_commit cs) m

-- that of the first one
abbrev pub phase_at : (last : ℕ → ℕ) → Plain → (core : ℕ) → ℕ
phase_at last m c = max (last c) (x27 (m.cores c).local)

pub along-first : (base : ℕ) (p : Program) (last : ℕ → ℕ) (c : Commit) (cs : List Commit) (m : Plain) (d : Plain × Attempt)
    → transaction base p m c.core.0 c.n ≡ Some d
    → along base p last (c ∷ cs) m
    ≡ and_phase (phase_at last m c.core.0) (along base p (put last c.core.0 (phase_at last m c.core.0)) cs d.0)
unfolding phases_along
along-first base p last c cs m d h = rw h refl

-- none of the commits is of this core
unfoldable pub NoneBy : (core : ℕ) → List Commit → Type 0
NoneBy x [] = Unit {0}
NoneBy x (c ∷ cs) = (c.core.0 ≢ x) × NoneBy x cs

-- two machines and the phases of their cores' last transactions, apart from one core
pub record Apart (x : ℕ) (here there : Plain) (f g : ℕ → ℕ) : Type 0 where
  pub locals : (c : ℕ) → c ≢ x → (here.cores c).local ≡ (there.cores c).local
  pub lasts : (c : ℕ) → c ≢ x → f c ≡ g c

-- what the same commits give from them, up to the machines end and other
pub record Followed (x : ℕ) (here there : Phases) (m end other : Plain) (f g : ℕ → ℕ) : Type 0 where
  pub each : here.each ≡ there.each
  pub lasts : (c : ℕ) → c ≢ x → here.last c ≡ there.last c
  pub here_last : here.last x ≡ f x
  pub there_last : there.last x ≡ g x
  pub locals : (c : ℕ) → c ≢ x → (end.cores c).local ≡ (other.cores c).local
  pub still : (end.cores x).local ≡ (m.cores x).local

pub closes : (base : ℕ) (p : Program) (m : Plain) (core n : ℕ) (d : Plain × Attempt) → transaction base p m core n ≡ Some d
    → Closes m core d
closes base p m core n d h = rw h at (transaction-closes base p m core n)

alike : (base : ℕ) (p : Program) (m k : Plain) (core n : ℕ) (d f : Plain × Attempt) → transaction base p m core n ≡ Some d
    → transaction base p k core n ≡ Some f → (m.cores core).local ≡ (k.cores core).local → Alike d f
alike base p m k core n d f h i e = rw (h, i) at (transactions-alike base p m k core n e)

same-loads : (c : Commit) (a b : Attempt) → commit_of (order_of_commit c) a ≡ c → commit_of (order_of_commit c) b ≡ c
    → a.loads ≡ b.loads
unfolding commit_of
same-loads c a b e f = ap (λ x. x.loads) e ∙ sym (ap (λ x. x.loads) f)

-- after one commit of another core
apart-after : (base : ℕ) (p : Program) (x : ℕ) (c : Commit) (m k : Plain) (f g : ℕ → ℕ) (d t : Plain × Attempt)
    → c.core.0 ≢ x → Apart x m k f g
    → transaction base p m c.core.0 c.n ≡ Some d → transaction base p k c.core.0 c.n ≡ Some t
    → commit_of (order_of_commit c) d.1 ≡ c → commit_of (order_of_commit c) t.1 ≡ c
    → Apart x d.0 t.0 (put f c.core.0 (phase_at f m c.core.0)) (put g c.core.0 (phase_at g k c.core.0))
apart-after base p x c m k f g d t n a h i e u = record {
  locals = λ j l. local j (j == c.core.0) refl l;
  lasts = λ j l. last j (j == c.core.0) refl l;
}
  where
    here : Closes m c.core.0 d
    here = closes base p m c.core.0 c.n d h

    there : Closes k c.core.0 t
    there = closes base p k c.core.0 c.n t i

    same : d.1.local ≡ t.1.local
    same = alike base p m k c.core.0 c.n d t h i (a.locals c.core.0 n) (same-loads c d.1 t.1 e u)

    phase : phase_at f m c.core.0 ≡ phase_at g k c.core.0
    phase = λ i. max (a.lasts c.core.0 n i) (x27 (a.locals c.core.0 n i))

    own : (d.0.cores c.core.0).local ≡ (t.0.cores c.core.0).local
    own = here.own ∙ same ∙ sym there.own

    local : (j : ℕ) (b : Bool) → (j == c.core.0) ≡ b → j ≢ x → (d.0.cores j).local ≡ (t.0.cores j).local
    local j true q l = let z : j ≡ c.core.0 = grind (arith, nat_tests) in rw z own
    local j false q l =
        let z : j ≢ c.core.0 = λ r. absurd (let w : (j == c.core.0) ≡ true = grind (arith, nat_tests) in cc) in
        ap (λ y. y.local) (here.others j z) ∙ a.locals j l ∙ ap (λ y. y.local) (sym (there.others j z))

    last : (j : ℕ) (b : Bool) → (j == c.core.0) ≡ b → j ≢ x
        → (if b then phase_at f m c.core.0 else f j) ≡ (if b then phase_at g k c.core.0 else g j)
    last j true q l = phase
    last j false q l = a.lasts j l

pub followed : (base : ℕ) (p : Program) (cs : List Commit) (x : ℕ) (m k end other : Plain) (f g : ℕ → ℕ) → NoneBy x cs
    → Apart x m k f g
    → Ran base p m cs end → Ran base p k cs other
    → Followed x (along base p f cs m) (along base p g cs k) m end other f g
unfolding NoneBy Ran phases_along
followed base p [] x m k end other f g n a r q = record {
  each = refl;
  lasts = a.lasts;
  here_last = refl;
  there_last = refl;
  locals = λ c l. ap (λ z. (z.cores c).local) (sym r) ∙ a.locals c l ∙ ap (λ z. (z.cores c).local) q;
  still = ap (λ z. (z.cores x).local) (sym r);
}
followed base p (c ∷ cs) x m k end other f g n a (d, h, e, r) (t, i, u, q) =
    rw (along-first base p f c cs m d h, along-first base p g c cs k t i)
    (first (followed base p cs x d.0 t.0 end other last next (n.1) (apart-after base p x c m k f g d t (n.0) a h i e u) r q))
  where
    others : x ≢ c.core.0
    others = λ z. n.0 (sym z)

    phase : phase_at f m c.core.0 ≡ phase_at g k c.core.0
    phase = λ i. max (a.lasts c.core.0 (n.0) i) (x27 (a.locals c.core.0 (n.0) i))

    last : ℕ → ℕ
    last = put f c.core.0 (phase_at f m c.core.0)

    next : ℕ → ℕ
    next = put g c.core.0 (phase_at g k c.core.0)

    first : Followed x (along base p last cs d.0) (along base p next cs t.0) d.0 end other last next
        → Followed x (and_phase (phase_at f m c.core.0) (along base p last cs d.0))
        (and_phase (phase_at g k c.core.0) (along base p next cs t.0)) m end other f g
    first more = record {
      each = λ i. phase i ∷ more.each i;
      lasts = more.lasts;
      here_last = more.here_last ∙ put-other f c.core.0 (phase_at f m c.core.0) x others;
      there_last = more.there_last ∙ put-other g c.core.0 (phase_at g k c.core.0) x others;
      locals = more.locals;
      still = more.still ∙ ap (λ y. y.local) ((closes base p m c.core.0 c.n d h).others x others);
    }
