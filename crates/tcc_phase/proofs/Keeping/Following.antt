-- One event more in a run by phases.
use Rattle.std.proofs.Common.{◌≡◌, ℕ, Bool, true, false, cond, List, [], ◌∷◌, ◌++◌, Option, Some, None, refl, ap, sym, ◌∙◌, subst, arith}
use Rattle.std.proofs.lemmas.Bool.Decides.{nat_tests}
use Rattle.std.specs.Prelude.{IfSome}
use Rattle.image_load.specs.Start.{Start}
use Rattle.rv_code.specs.Machine.{program}
use Rattle.theorem_riscv.specs.Given.{TidsOf, grants_of}
use Rattle.rules_riscv.specs.Starting.{world_at_start, at_start}
use Rattle.theorem_riscv.proofs.Lemmas.{committed_tids_were_granted_once}
use Rattle.tcc_base.specs.Settings.{IsAllowed}
use Rattle.rules_maps.specs.Nodes.{Core, Dir, Vendor, Event, Exec, Evict, Deliver}
use Rattle.rules_tcc.specs.Step.{History, Stepped, and_noted, and_then, next_history, recorded, run, step}
use Rattle.theorem_serial.specs.NotedBy.{AreByCores}
use Rattle.theorem_serial.specs.Owners.{IsRising}
use Rattle.theorem_serial.proofs.Lemmas.{commits_are_by_cores}
use Rattle.theorem_phases.specs.Laws.{Grows, InPhases, asks, noted_by}
use Rattle.rules_phases.specs.Phased.{is_held, is_late, phased_from, phased_next}
use Rattle.theorem_phases.proofs.Lemmas.{one_request_each, phased_runs_are_runs, phases_grow, phases_never_fall}
use Rattle.tcc_phase.proofs.Requests.Asked.{AtMostOne}

after-all : (s : Start) (e : Event) (es : List Event) (h : History)
    → phased_from s (es ++ e ∷ []) h ≡ and_then (λ g. phased_next s g e) (phased_from s es h)
unfolding phased_from
after-all s e [] h = last (phased_next s h e)
  where
    last : (o : Option History) → and_then (λ g. Some g) o ≡ o
    last None = refl
    last (Some g) = refl
after-all s e (x ∷ es) h = go (phased_next s h x) (after-all s e es)
  where
    go : (o : Option History) → ((g : History) → phased_from s (es ++ e ∷ []) g ≡ and_then (λ f. phased_next s f e) (phased_from s es g))
        → and_then (phased_from s (es ++ e ∷ [])) o ≡ and_then (λ g. phased_next s g e) (and_then (phased_from s es) o)
    go None rest = refl
    go (Some g) rest = rest g

-- one event more
pub phased-on : (s : Start) (e : Event) (es : List Event) (f h g : History) → phased_from s es f ≡ Some h → phased_next s h e ≡ Some g
    → phased_from s (es ++ e ∷ []) f ≡ Some g
phased-on s e es f h g from to = after-all s e es f ∙ ap (and_then (λ x. phased_next s x e)) from ∙ to

-- it is one of the rules
pub next-is : (s : Start) (h g : History) (e : Event) → phased_next s h e ≡ Some g → next_history s.settings (program s) h e ≡ Some g
unfolding phased_next
next-is s h g e to = go (is_held s h e) to
  where
    go : (b : Bool) → cond b None (next_history s.settings (program s) h e) ≡ Some g → next_history s.settings (program s) h e ≡ Some g
    go true q = absurd (cc)
    go false q = q

-- and it isn't held back
pub not-held : (s : Start) (h g : History) (e : Event) → phased_next s h e ≡ Some g → is_held s h e ≡ false
unfolding phased_next
not-held s h g e to = go (is_held s h e) to
  where
    go : (b : Bool) → cond b None (next_history s.settings (program s) h e) ≡ Some g → b ≡ false
    go true q = absurd (cc)
    go false q = refl

-- so its core isn't late
pub not-late : (s : Start) (h : History) (e : Event) (c : ℕ) → is_held s h e ≡ false → asks c e ≡ true → is_late s h c ≡ false
unfolding is_held
not-late s h (Exec d) c q a = absurd (cc)
not-late s h (Evict d x y) c q a = absurd (cc)
not-late s h (Deliver (Core d) (Core f) k) c q a = absurd (cc)
not-late s h (Deliver (Core d) (Dir f) k) c q a = absurd (cc)
not-late s h (Deliver (Core d) Vendor k) c q a =
    let z : c ≡ d = grind (arith, nat_tests) in subst (λ x. is_late s h x ≡ false) (sym z) q
not-late s h (Deliver (Dir d) f k) c q a = absurd (cc)
not-late s h (Deliver Vendor f k) c q a = absurd (cc)

-- what an event that was taken did
pub record Did (s : Start) (h g : History) (e : Event) : Type 0 where
  pub out : Stepped
  pub step : step s.settings (program s) h.world e ≡ Some out
  pub world : g.world ≡ out.world
  pub commits : g.commits ≡ and_noted out.noted h.commits

pub did : (s : Start) (h g : History) (e : Event) → next_history s.settings (program s) h e ≡ Some g → Did s h g e
unfolding next_history
did s h g e n = go (step s.settings (program s) h.world e) refl n
  where
    of : History → Option History → History
    of d None = d
    of d (Some x) = x

    go : (o : Option Stepped) → step s.settings (program s) h.world e ≡ o → recorded h o ≡ Some g → Did s h g e
    go None q r = absurd (cc)
    go (Some o) q r =
        let w : record { world = o.world; commits = and_noted o.noted h.commits } ≡ g = ap (of h) r in
        record { out = o; step = q; world = ap (λ x. x.world) (sym w); commits = ap (λ x. x.commits) (sym w) }

-- ---- what the laws say of a run by phases

module _ (s : Start) (allowed : IsAllowed s.settings) (es : List Event) (h : History) (from : phased_from s es (at_start s) ≡ Some h) where
  pub ran : run s.settings (program s) (world_at_start s) es ≡ Some h
  ran = subst (λ o. IfSome o (λ x. run s.settings (program s) (world_at_start s) es ≡ Some x)) from (phased_runs_are_runs s es)

  pub in-phases : InPhases s h
  in-phases = subst (λ o. IfSome o (InPhases s)) from (phases_never_fall s es allowed)

  pub one-each : (c : ℕ) → AtMostOne (h.world.net (Core c) Vendor)
  one-each c =
      subst (λ o. IfSome o (λ (x : History). (c : ℕ) → AtMostOne (x.world.net (Core c) Vendor))) ran (one_request_each s es allowed) c

  pub rising : IsRising 0 h.commits
  rising =
      subst (λ o. IfSome o (λ (x : History). IsRising 0 x.commits)) ran
      (weaker (run s.settings (program s) (world_at_start s) es) (committed_tids_were_granted_once s es))
    where
      weaker : (o : Option History) → IfSome o (λ (x : History). TidsOf (grants_of s es) x.commits)
          → IfSome o (λ (x : History). IsRising 0 x.commits)
      weaker None t = tt
      weaker (Some x) t = t.rising

  pub by-cores : AreByCores s.settings h.commits
  by-cores = subst (λ o. IfSome o (λ (x : History). AreByCores s.settings x.commits)) ran (commits_are_by_cores s.settings (program s) _
      _ es)

  pub grown : (e : Event) (g : History) → next_history s.settings (program s) h e ≡ Some g
      → Grows s h g (noted_by (step s.settings (program s) h.world e))
  grown e g n =
      subst (λ o. IfSome o (λ x. Grows s h x (noted_by (step s.settings (program s) h.world e)))) n
      (subst (λ o. IfSome o (λ (y : History). IfSome (next_history s.settings (program s) y e)
      (λ x. Grows s y x (noted_by (step s.settings (program s) y.world e))))) ran (phases_grow s es e allowed))
