-- The commits along a run: their TIDs count from 1, and they are few, small and by cores of the machine.
use Rattle.std.specs.Prelude.{ℕ, ◌+◌, ◌≡◌, ◌<◌, ◌≤◌, List, [], ◌∷◌, ◌++◌, length, Contains}
use Rattle.std.proofs.Common.{arith, ◌∙◌, ◌⊎◌, inl, inr, subst}
use Rattle.std.proofs.lemmas.Bool.Decides.{nat_tests}
use Rattle.std.proofs.lemmas.List.{length-append}
use Rattle.std.proofs.lemmas.List.Elements.{Contains-push_cases}
use Rattle.tcc_base.specs.declared.access.Commit.{Commit as Noted}
use Rattle.rules_maps.specs.Shape.{Shape}
use Rattle.rules_program.specs.Cores.{AreBy}
use Rattle.rules_program.specs.Program.{Program}
use Rattle.rules_tcc.specs.Attempt.{finished}
use Rattle.rules_tcc.specs.Commit.{noted}
use Rattle.rules_tcc.specs.State.{CoreState}
use Rattle.theorem_serial.specs.NotedBy.{AreByCores}
use Rattle.theorem_bounds.specs.Bounds.{AttemptCounted, CommitCounted}
use Rattle.theorem_bounds.proofs.Lemmas.{weak}
use Rattle.rules_bus.specs.Commit.{BusStepped, bus_commit}
use Rattle.rules_bus.specs.State.{BusWorld}
use Rattle.rules_bus.specs.Step.{and_noted}
use Rattle.theorem_bus.specs.Laws.{AreNumbered}
use Rattle.theorem_bus.proofs.OneCore.Committed.{out-noted, noted-counted, finished-fine}
use Rattle.theorem_bus.proofs.InOrder.Events.{Happened, Instructs, TakesBus, EndsAlone, Commits, Evicts, Takes}
use Rattle.theorem_bus.proofs.InOrder.Ordered.{Ordered}
use Rattle.theorem_bus.proofs.OneCore.Did.{LineSet}

-- after so many events, where t is the next TID
pub record Numbered (sh : Shape) (n t : ℕ) (cs : List Noted) : Type 0 where
  pub next : t ≡ length cs + 1
  pub number : length cs ≤ n
  pub counted : (x : Noted) → Contains cs x → CommitCounted n x
  pub tids : AreNumbered 1 cs
  pub by : AreByCores sh cs

numbered-push : (t : ℕ) (cs : List Noted) (x : Noted) → AreNumbered t cs → x.tid.0 ≡ t + length cs → AreNumbered t (cs ++ x ∷ [])
unfolding AreNumbered
numbered-push t [] x k e = (e ∙ omega arith, tt)
numbered-push t (c ∷ cs) x k e = (k.0, numbered-push (t + 1) cs x (k.1) (e ∙ omega arith))

by-push : (sh : Shape) (cs : List Noted) (x : Noted) → AreByCores sh cs → x.core.0 < sh.cores → AreByCores sh (cs ++ x ∷ [])
unfolding AreBy
by-push sh [] x k l = (grind (arith, nat_tests), tt)
by-push sh (c ∷ cs) x k l = (k.0, by-push sh cs x (k.1) l)

wider : (n : ℕ) (x : Noted) → CommitCounted n x → CommitCounted (n + 1) x
wider n x k = weak n x.n x.loads x.stores x.console k

silent : (sh : Shape) (n t : ℕ) (cs : List Noted) → Numbered sh n t cs → Numbered sh (n + 1) t cs
silent sh n t cs k = record {
  next = k.next;
  number = omega (arith, k.number);
  counted = λ x c. wider n x (k.counted x c);
  tids = k.tids;
  by = k.by;
}

pushed : (sh : Shape) (n t c : ℕ) (s : CoreState) (cs : List Noted) → c < sh.cores → CommitCounted (n + 1) (noted t c s)
    → Numbered sh n t cs → Numbered sh (n + 1) (t + 1) (cs ++ noted t c s ∷ [])
unfolding noted
pushed sh n t c s cs l a k = record {
  next = omega (arith, k.next, length-append cs (noted t c s ∷ []));
  number = omega (arith, k.number, length-append cs (noted t c s ∷ []));
  counted = λ x h. one x (Contains-push_cases cs (noted t c s) x h);
  tids = numbered-push 1 cs (noted t c s) k.tids (omega (arith, k.next));
  by = by-push sh cs (noted t c s) k.by l;
}
  where
    one : (x : Noted) → Contains cs x ⊎ (noted t c s ≡ x) → CommitCounted (n + 1) x
    one x (inl h) = wider n x (k.counted x h)
    one x (inr e) = subst (CommitCounted (n + 1)) e a

commit-numbered : (sh : Shape) (n : ℕ) (w : BusWorld) (c : ℕ) (s : CoreState) (cs : List Noted) → c < sh.cores
    → AttemptCounted (n + 1) s → Numbered sh n w.next cs
    → Numbered sh (n + 1) (bus_commit sh w c s).world.next (and_noted (bus_commit sh w c s).noted cs)
unfolding bus_commit
commit-numbered sh n w c s cs l a k = rw (out-noted sh c w.next s) (pushed sh n w.next c s cs l (noted-counted (n + 1) w.next c s a) k)

pub happened-numbered : (sh : Shape) (M : LineSet) (p : Program) (n : ℕ) (w : BusWorld) (r : BusStepped) (cs : List Noted)
    → Ordered sh M n w
    → Numbered sh n w.next cs → Happened sh p w r → Numbered sh (n + 1) r.world.next (and_noted r.noted cs)
happened-numbered sh M p n w r cs o k (Instructs c t l x d q e) = rw e (silent sh n w.next cs k)
happened-numbered sh M p n w r cs o k (TakesBus c t l x d q b e) = rw e (silent sh n w.next cs k)
happened-numbered sh M p n w r cs o k (EndsAlone c t need l q i g e) = rw e
    (commit-numbered sh n w c (finished p need 0 (w.cores c)) cs l (finished-fine sh M n p need 0 (w.cores c) (o.cores c l)).attempt k)
happened-numbered sh M p n w r cs o k (Commits c l q b e) = rw e (commit-numbered sh n w c (w.cores c) cs l
    (let a = (o.cores c l).attempt in weak n (w.cores c).n (w.cores c).loads (w.cores c).stores (w.cores c).console a) k)
happened-numbered sh M p n w r cs o k (Evicts c x y t l d e) = rw e (silent sh n w.next cs k)
happened-numbered sh M p n w r cs o k (Takes c f left l b h e) = rw e (silent sh n w.next cs k)
