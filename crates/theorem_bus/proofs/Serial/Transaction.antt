-- A commit is a transaction of the plain machine.
use Rattle.std.specs.Prelude.{ℕ, ◌≡◌, ◌<◌, Bool, true, false, List, [], ◌∷◌, ◌++◌, map, Option, Some, None, is_some, IsSomeAnd}
use Rattle.std.specs.Prelude.{unwrap_or, if◌then◌else◌}
use Rattle.std.proofs.Common.{arith, refl, ap, sym, ◌∙◌}
use Rattle.std.proofs.lemmas.Bool.Decides.{nat_tests}
use Rattle.tcc_base.specs.declared.access.Commit.{Commit as Noted}
use Rattle.tcc_base.specs.declared.access.CoreEnd.{CoreEnd}
use Rattle.tcc_base.specs.declared.access.CoreEnd.TheVariants.{Run}
use Rattle.rules_maps.specs.Cache.{IsCache}
use Rattle.rules_maps.specs.Shape.{Shape}
use Rattle.rules_maps.specs.Words.{or_else}
use Rattle.rules_program.specs.Orders.{order_of_commit, last_tid}
use Rattle.rules_program.specs.Plain.{Attempt, Outcome, Goes, Ended, Halted as HaltedWith, Trapped as TrappedWith, Plain, begun, steps}
use Rattle.rules_program.specs.Plain.{closed, end_of, transaction, commit_of}
use Rattle.rules_program.specs.Program.{Local, Program}
use Rattle.rules_program.proofs.Lemmas.{serial-snoc, last_tid-snoc}
use Rattle.rules_tcc.specs.Commit.{noted, phase_after_commit, ended_after_commit}
use Rattle.rules_tcc.specs.State.{CoreState}
use Rattle.theorem_attempt.specs.Follows.{Reaches, HasEnded, sees}
use Rattle.theorem_serial.specs.Commits.{CommitsSerial, plain_start, end_after}
use Rattle.rules_bus.specs.Commit.{written_words, with_words}

-- the plain machine does what the attempt did, from this memory
abbrev pub PlainDid : Shape → Program → CoreState → (ram : ℕ → ℕ) → Type 0
PlainDid sh p s ram = IsSomeAnd (steps sh.base p s.n (begun s.saved ram)) (Reaches s ram)

-- the core stands so in the plain machine
pub record Stands (m : Plain) (c : ℕ) (s : CoreState) (ram : ℕ → ℕ) : Type 0 where
  pub local : (m.cores c).local ≡ s.saved
  pub runs : (m.cores c).ended ≡ Run
  pub memory : m.ram ≡ ram

pub record Transacted (sh : Shape) (p : Program) (m : Plain) (c : ℕ) (s : CoreState) (ram : ℕ → ℕ) : Type 0 where
  pub attempt : Attempt
  pub end : CoreEnd
  pub ends : end_of attempt.outcome ≡ Some end
  pub is : transaction sh.base p m c s.n ≡ Some (closed m c attempt end, attempt)
  pub reaches : Reaches s ram attempt

pub transacts : (sh : Shape) (p : Program) (m : Plain) (c : ℕ) (s : CoreState) (ram : ℕ → ℕ) → Stands m c s ram → PlainDid sh p s ram
    → HasEnded s.ended → Transacted sh p m c s ram
unfolding transaction
transacts sh p m c s ram k d e = go (steps sh.base p s.n (begun s.saved ram)) refl d
  where
    by : (a : Attempt) → steps sh.base p s.n (begun s.saved ram) ≡ Some a → Reaches s ram a → (o : Option CoreEnd) → end_of a.outcome ≡ o
        → is_some o ≡ true → Transacted sh p m c s ram
    by a q r None f h = absurd (cc)
    by a q r (Some x) f h = record {
      attempt = a;
      end = x;
      ends = f;
      is = rw (k.runs, k.local, k.memory, q, f) refl;
      reaches = r;
    }

    go : (o : Option Attempt) → steps sh.base p s.n (begun s.saved ram) ≡ o → IsSomeAnd o (Reaches s ram) → Transacted sh p m c s ram
    go None q r = absurd r
    go (Some a) q r = by a q r (end_of a.outcome) refl (rw r.outcome e)

-- what the attempt wrote is what it sees
pub seen-written : (sh : Shape) (s : CoreState) (ram : ℕ → ℕ) → IsCache sh s.cache → (x : ℕ) →
    with_words (written_words s) ram x ≡ sees s ram x
unfolding with_words written_words sees
seen-written sh s ram k x = go (s.spilled x) (s.cache.modified x) refl (s.cache.value x) refl
  where
    go : (o : Option ℕ) (m : Bool) → s.cache.modified x ≡ m → (v : Option ℕ) → s.cache.value x ≡ v
        → unwrap_or (or_else o (if m then v else None)) (ram x) ≡ unwrap_or o (if m then unwrap_or v 0 else ram x)
    go (Some y) m e v f = refl
    go None true e (Some y) f = refl
    go None true e None f = absurd (let i = k.modified x e in cc)
    go None false e v f = refl

-- how the core stands after it
pub end-is : (o : Outcome) (x : CoreEnd) → end_of o ≡ Some x → x ≡ end_after (phase_after_commit o) (ended_after_commit o)
end-is Goes x e = absurd (cc)
end-is Ended x e = sym (some-end Run x e)
  where
    some-end : (a b : CoreEnd) → Some a ≡ Some b → a ≡ b
    some-end a b e = ap (λ (o : Option CoreEnd). unwrap_or o Run) e
end-is (HaltedWith code) x e = sym (ap (λ (o : Option CoreEnd). unwrap_or o Run) e)
end-is (TrappedWith code) x e = sym (ap (λ (o : Option CoreEnd). unwrap_or o Run) e)

map-snoc : (cs : List Noted) (x : Noted) → map order_of_commit (cs ++ x ∷ []) ≡ map order_of_commit cs ++ order_of_commit x ∷ []
map-snoc [] x = refl
map-snoc (c ∷ cs) x = ap (λ l. order_of_commit c ∷ l) (map-snoc cs x)

noted-is : (sh : Shape) (p : Program) (m : Plain) (c t : ℕ) (s : CoreState) (ram : ℕ → ℕ) (a : Attempt) → Reaches s ram a
    → commit_of (order_of_commit (noted t c s)) a ≡ noted t c s
unfolding commit_of noted
noted-is sh p m c t s ram a r = λ i. record {
  tid = record { 0 = t };
  core = record { 0 = c };
  n = s.n;
  loads = r.loads i;
  stores = r.stores i;
  console = r.console i;
}

-- one more commit
pub commits-push : (sh : Shape) (p : Program) (entries : ℕ → Local) (ram0 ram : ℕ → ℕ) (cs : List Noted) (m : Plain) (c t : ℕ)
    (s : CoreState) → CommitsSerial sh p entries ram0 cs m → last_tid 0 (map order_of_commit cs) < t
    → (d : Transacted sh p m c s ram) → CommitsSerial sh p entries ram0 (cs ++ noted t c s ∷ []) (closed m c d.attempt d.end)
unfolding noted
commits-push sh p entries ram0 ram cs m c t s k l d =
    let x = noted t c s in
    rw (map-snoc cs x)
    (serial-snoc sh.base p 0 (map order_of_commit cs) (order_of_commit x) (plain_start entries ram0) (m, cs)
    (closed m c d.attempt d.end, d.attempt) k (grind (arith, nat_tests)) d.is
    ∙ ap (λ (y : Noted). Some (closed m c d.attempt d.end, cs ++ y ∷ [])) (noted-is sh p m c t s ram d.attempt d.reaches))

pub last-push : (cs : List Noted) (t c : ℕ) (s : CoreState) → last_tid 0 (map order_of_commit (cs ++ noted t c s ∷ [])) ≡ t
unfolding noted
last-push cs t c s = ap (last_tid 0) (map-snoc cs (noted t c s)) ∙ last_tid-snoc 0 (map order_of_commit cs) (order_of_commit (noted t c s))
