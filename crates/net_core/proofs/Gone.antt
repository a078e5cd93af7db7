-- A machine that forgets commits: the least TID that a directory serves, and that the machine stays sound.
use Rattle.std.proofs.Common.{◌≡◌, ℕ, ◌+◌, ◌<◌, ◌≤◌, ◌⊎◌, inl, inr, ⊎_elim, List, [], ◌∷◌, ◌++◌, min, sym, ◌∙◌, subst, arith}
use Rattle.std.proofs.lemmas.Bool.{cases_eq, cases_lt}
use Rattle.tcc_base.specs.declared.access.Commit.{Commit}
use Rattle.theorem_serial.specs.Owners.{times}
use Rattle.theorem_sound.proofs.Lemmas.{sound_fewer}
use Rattle.machine_commits.specs.Forgetting.{AllBelow, Forgets}
use Rattle.machine_commits.proofs.Lemmas.{AllBelow-more}
use Rattle.net_core.specs.Forgotten.{Forgot, IsLeast, served}
use Rattle.net_core.specs.Machine.{Machine, history_of, settings_of, world_of}
use Rattle.net_core.specs.Whole.{IsSound, IsWhole}
use Rattle.net_core.proofs.Events.Kept.{with_room}

-- ---- the least TID

pub least-first : (m : Machine) (t : ℕ) → t ≡ served m 0 → IsLeast m 1 t
least-first m t e = record {
  dir = 0;
  exists = omega arith;
  own = sym e;
  all = λ d l. let first : d ≡ 0 = omega (arith, l) in subst (λ k. t ≤ served m k) (sym first) (omega (arith, e));
}

-- and of one more directory
pub least-more : (m : Machine) (n t u : ℕ) → IsLeast m n t → u ≡ served m n → IsLeast m (n + 1) (min t u)
least-more m n t u h e = by (cases_lt u t)
  where
    all : (d : ℕ) → d < n + 1 → min t u ≤ served m d
    all d l = ⊎_elim (λ (q : d ≡ n). subst (λ k. min t u ≤ served m k) (sym q) (omega (arith, e)))
        (λ q. let most : t ≤ served m d = h.all d (omega (arith, l, q)) in omega (arith, most)) (cases_eq d n)

    by : (u < t) ⊎ (t ≤ u) → IsLeast m (n + 1) (min t u)
    by (inl l) = record { dir = n; exists = omega arith; own = sym e ∙ omega (arith, l); all = all }
    by (inr l) = record { dir = h.dir; exists = omega (arith, h.exists); own = h.own ∙ omega (arith, l); all = all }

-- ---- the machine after

fewer-times : (t : ℕ) (gone cs : List Commit) → times t cs ≤ times t (gone ++ cs)
unfolding times
fewer-times t [] cs = omega arith
fewer-times t (c ∷ gone) cs = omega (arith, fewer-times t gone cs)

forgot-sound : (m : Machine) (cs : List Commit) (room t : ℕ) → IsSound m → Forgets t m.commits cs → IsSound (with_room m cs room)
unfolding history_of world_of
forgot-sound m cs room t s f =
    sound_fewer (settings_of m) m.events (world_of m) m.commits cs
    (λ u. subst (λ xs. times u cs ≤ times u xs) (sym f.parts) (fewer-times u f.gone cs)) s

pub forgot-whole : (m : Machine) (cs : List Commit) (room t : ℕ) → IsWhole m → Forgets t m.commits cs → IsWhole (with_room m cs room)
forgot-whole m cs room t w f = record {
  allowed = w.allowed;
  dirs = w.dirs;
  flight_cores = w.flight_cores;
  flight_dirs = w.flight_dirs;
  sound = forgot-sound m cs room t w.sound f;
  few = w.few;
  marked = w.marked;
}

-- what was forgotten lies below what each directory serves
pub forgot-passed : (old new : Machine) (f : Forgot old new) (d : ℕ) → d < (settings_of old).dirs → AllBelow (served old d) f.forgets.gone
forgot-passed old new f d l = AllBelow-more f.tid (served old d) f.forgets.gone (f.least.all d l) f.forgets.below
