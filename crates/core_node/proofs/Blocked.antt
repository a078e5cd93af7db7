-- What an answer says of the rules: that they have the event, or that they have none.
use Rattle.std.proofs.Common.{◌≡◌, ◌≢◌, ℕ, not, is_some, if◌then◌else◌, Option, Some, None, Result, Ok, Err, OnOk, OnErr, refl, ap}
use Rattle.tcc_msg.specs.declared.outgoing.Outgoing.{Outgoing}
use Rattle.rules_tcc.specs.State.{CoreState}
use Rattle.rules_tcc.specs.Attempt.{Out, moves}
use Rattle.rules_tcc.specs.Sends.{nothing}
use Rattle.core_node.specs.Answers.{IsBlocked, IsMemory}
use Rattle.core_node.specs.Executing.{DidSome}
use Rattle.core_node.specs.View.{core_of, Did}
use Rattle.core_node.proofs.Steps.{did_silently}
use Rattle.core_node.specs.declared.state.Core.{Core}
use Rattle.core_node.specs.declared.delivering.CoreError.{CoreError}
use Rattle.core_node.specs.declared.delivering.CoreError.TheVariants.{Blocked, Memory}

pub some_not : {A : Type 0} → (o : Option A) (x : A) → o ≡ Some x → o ≢ None
some_not None x e = cc
some_not (Some y) x e = λ f. cc

-- where there is an event, only memory can be wanting
pub blocked_some : {A : Type 0} → (r : Result A CoreError) (o : Option Out) (x : Out) → o ≡ Some x → OnErr r (IsMemory r) → IsBlocked r o
blocked_some (Ok y) o x e m = some_not o x e
blocked_some (Err Blocked) o x e m = absurd m
blocked_some (Err Memory) o x e m = some_not o x e

-- where memory can't be wanting
pub blocked_none : {A : Type 0} → (r : Result A CoreError) (o : Option Out) (n : ℕ) (before out : Outgoing) (c : Core)
    → OnOk r (DidSome o n before c out) → OnErr r (o ≡ None) → OnErr r (r ≡ Err Blocked) → IsBlocked r o
blocked_none (Ok y) None n before out c d e f = absurd d
blocked_none (Ok y) (Some x) n before out c d e f = λ g. cc
blocked_none (Err Blocked) o n before out c d e f = e
blocked_none (Err Memory) o n before out c d e f = cc

-- an answer by which a rule's event happened
pub ok_did : {A E : Type 0} → (r : Result A E) (o : Option Out) (t : Out) (n : ℕ) (before out : Outgoing) (c : Core)
    → o ≡ Some t → OnOk r (Did t n before c out) → OnOk r (DidSome o n before c out)
ok_did (Ok y) o t n before out c e d = rw e d
ok_did (Err y) o t n before out c e d = d

pub ok_silently : {A E : Type 0} → (r : Result A E) (o : Option Out) (t : CoreState) (n : ℕ) (out : Outgoing) (c : Core)
    → o ≡ Some (moves t nothing) → OnOk r (core_of c ≡ t) → OnOk r (DidSome o n out c out)
ok_silently (Ok y) o t n out c e d = rw e (did_silently t n out c d)
ok_silently (Err y) o t n out c e d = d

pub unchanged_core : {A E : Type 0} → (r : Result A E) (c k : Core) → OnErr r (c ≡ k) → OnErr r (core_of c ≡ core_of k)
unchanged_core (Ok y) c k e = e
unchanged_core (Err y) c k e = ap core_of e

-- where no memory was found
pub blocked_room : (o : Option Out) (r : Option ℕ) (e : CoreError) → is_some o ≡ not (is_some r)
    → e ≡ (if is_some r then Blocked else Memory) → IsBlocked {A = Unit {0}} (Err e) o
blocked_room o r e h f = rw f (by o r h)
  where
    by : (o : Option Out) (r : Option ℕ) → is_some o ≡ not (is_some r)
        → IsBlocked {A = Unit {0}} (Err (if is_some r then Blocked else Memory)) o
    by None None h = cc
    by None (Some x) h = refl
    by (Some y) None h = λ g. cc
    by (Some y) (Some x) h = cc
