-- Steps that send nothing, and one more message behind those of a step.
use Rattle.std.proofs.Common.{◌≡◌, ℕ, ◌+◌, Bool, true, false, ◌&&◌, ◌||◌, if◌then◌else◌, nat_lt, nat_eq, Option, Some, None, map, List}
use Rattle.std.proofs.Common.{[], ◌∷◌, ◌++◌, vec_capacity, refl, subst, sym, ap, ◌∙◌, arith}
use Rattle.tcc_base.specs.declared.names.NodeId.TheVariants.{Dir as CodeDir}
use Rattle.tcc_base.specs.declared.names.DirId.{DirId}
use Rattle.tcc_base.specs.declared.names.LineAddr.{LineAddr}
use Rattle.rules_maps.specs.Shape.{Shape, home}
use Rattle.rules_maps.specs.Cache.{Cache, keeps, writes_at, reads_at, marks_by_home}
use Rattle.rules_maps.specs.Masks.{has}
use Rattle.rules_maps.specs.Nodes.{Dir}
use Rattle.tcc_msg.specs.Plain.{sends_of}
use Rattle.tcc_msg.specs.declared.outgoing.Outgoing.{Outgoing}
use Rattle.tcc_msg.specs.declared.msg.Msg.TheVariants as code
use Rattle.rules_tcc.specs.State.{CoreState, Awaited}
use Rattle.rules_tcc.specs.Sends.{to, marks_for}
use Rattle.rules_tcc.specs.Attempt.{Out, moves}
use Rattle.rules_tcc.specs.CoreDeliver.{acknowledged, is_probed, fill, fill_awaited}
use Rattle.spec_cache.specs.Held.{maps}
use Rattle.commit_engine.specs.Engine.{first_with}
use Rattle.commit_engine.specs.Sent.{Sent, followed, mark_at}
use Rattle.commit_engine.proofs.Lemmas.{sent_as, sent_nothing, sent_push, marks_are, followed-nothing}
use Rattle.core_node.specs.declared.state.Core.{Core}
use Rattle.core_node.specs.View.{core_of, Did}
use Rattle.core_node.specs.Answers.{HappenedAs}

-- nothing is sent
pub did_silently : (s : CoreState) (n : ℕ) (out : Outgoing) (c : Core) → core_of c ≡ s → Did (moves s (λ dst. [])) n out c out
did_silently s n out c e = record { core = e; sent = sent_as out out (λ dst. []) (λ dst. []) 0 n (sent_nothing out) refl (omega arith) }

pub happened_did : (o : Out) (n : ℕ) (first before out : Outgoing) (c : Core) → before.list.items ≡ first.list.items
    → Did o n before c out → HappenedAs o first c out
happened_did o n first before out c e d = record { core = d.core; sends = rw (← e) d.sent.messages }

-- an acknowledgement behind a step
pub did_acknowledged : (sh : Shape) (l : LineAddr) (o : Out) (n : ℕ) (before mid out : Outgoing) (c : Core) (d : DirId) (k : Bool)
    → Did o n before c mid → out.list.items ≡ mid.list.items ++ (CodeDir d, code.InvAck l k) ∷ []
    → vec_capacity out.list ≡ vec_capacity mid.list
    → d.0 ≡ home sh l.0 → k ≡ keeps (maps c.cache) l.0 → Did (acknowledged sh l.0 o) (n + 1) before c out
unfolding acknowledged followed core_of
did_acknowledged sh l o n before mid out c d k s i r h e =
    let kept : k ≡ keeps o.core.cache l.0 = e ∙ ap (λ (x : CoreState). keeps x.cache l.0) s.core in
    record { core = s.core; sent = rw (← kept, ← h) (sent_push before mid out o.sends n (CodeDir d) (code.InvAck l k) s.sent i r) }

-- the directories where something was written or read
pub probed_is : (sh : Shape) (c : Cache) (b w r : ℕ) → has b ≡ (λ d. has w d || has r d)
    → has w ≡ first_with sh.dirs (writes_at sh c) → has r ≡ first_with sh.dirs (reads_at sh c)
    → has b ≡ is_probed sh c
unfolding first_with is_probed
probed_is sh c b w r e f g = e ∙ (λ i d. (each d) i)
  where
    inside : (x y z : Bool) → ((x && y) || (x && z)) ≡ (x && (y || z))
    inside true y z = refl
    inside false y z = refl

    each : (d : ℕ) → (has w d || has r d) ≡ is_probed sh c d
    each d = rw (f, g) (inside (nat_lt d sh.dirs) (writes_at sh c d) (reads_at sh c d))

-- the marks for a directory that replied
pub marks_sent : (sh : Shape) (c : Cache) (t : ℕ) (d : ℕ) (ms : List (ℕ × ℕ)) (n : ℕ) (old new : Outgoing) → ms ≡ marks_by_home sh c d
    → Sent old new (to (Dir d) (map (mark_at t) ms)) n → Sent old new (to (Dir d) (marks_for sh c t d)) n
marks_sent sh c t d ms n old new e s = sent_as old new _ _ n n s (ap (to (Dir d)) (ap (map (mark_at t)) e
    ∙ marks_are sh c t d)) (omega arith)

-- a fill sends nothing
pub fill_silent : (l : ℕ) (ws : List ℕ) (s : CoreState) → (fill l ws s).sends ≡ (λ dst. [])
unfolding fill
fill_silent l ws s = by s.awaited
  where
    by_line : (b : Bool) (x y : Out) → x.sends ≡ (λ dst. []) → y.sends ≡ (λ dst. []) → (if b then x else y).sends ≡ (λ dst. [])
    by_line true x y p q = p
    by_line false x y p q = q

    by : (a : Option Awaited) → (fill_awaited l ws s a).sends ≡ (λ dst. [])
    by None = refl
    by (Some a) = by_line (nat_eq a.line l) _ _ refl refl

pub did_as : (o p : Out) (n : ℕ) (before out : Outgoing) (c : Core) → o ≡ p → Did p n before c out → Did o n before c out
did_as o p n before out c e d = subst (λ (q : Out). Did q n before c out) (sym e) d

pub happened_silently : (o : Out) (out : Outgoing) (c : Core) → core_of c ≡ o.core → o.sends ≡ (λ dst. []) → HappenedAs o out c out
happened_silently o out c e f = record {
  core = e;
  sends = sym (ap (followed (sends_of out.list.items)) f
      ∙ followed-nothing (sends_of out.list.items));
}
