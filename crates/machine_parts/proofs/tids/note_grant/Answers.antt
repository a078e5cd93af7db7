-- Only a grant is counted as one.
use Rattle.std.proofs.Common.{◌≡◌, ◌≢◌, ℕ, Bool, List, false, refl, sym, subst}
use Rattle.std.specs.Prelude.{◌==◌, IfOk, Result}
use Rattle.tcc_base.specs.declared.access.Commit.{Commit}
use Rattle.tcc_base.specs.declared.names.Tid.{Tid}
use Rattle.rules_maps.specs.Words.{num}
use Rattle.tcc_msg.specs.Plain.{msg_of}
use Rattle.tcc_msg.specs.declared.msg.Msg.{Msg}
use Rattle.tcc_msg.specs.declared.msg.Msg.TheVariants as code
use Rattle.theorem_serial.specs.Count.{Grants, passes}
use Rattle.machine_parts.specs.Tids.{IsOver}
use Rattle.machine_parts.proofs.Noted.{granted-so, nothing-noted, refused-so}
use Rattle.machine_parts.proofs.tids.note_grant.Goals as goal

granted-over : {E : Type 0} → (r : Result Bool E) (old : List ℕ) (cs : List Commit) (next : ℕ) (tid : Tid) (m : Msg)
    → m ≡ code.TidGrant tid → IfOk r (λ b. b ≡ false → IsOver old cs next (λ t. num (tid.0 == t)))
    → IfOk r (λ b. b ≡ false → IsOver old cs next (λ t. num (passes (Grants t) (msg_of m))))
unfolding passes
granted-over r old cs next tid m e h =
    refused-so r (IsOver old cs next (λ t. num (tid.0 == t))) (IsOver old cs next (λ t. num (passes (Grants t) (msg_of m))))
    (subst (λ x. IsOver old cs next (λ t. num (passes (Grants t) (msg_of x)))) (sym e)) h

ungranted : (m : Msg) → ((t : Tid) → m ≢ code.TidGrant t) → (t : ℕ) → num (passes (Grants t) (msg_of m)) ≡ 0
unfolding passes
ungranted (code.TidGrant u) n t = absurd (n u refl)
ungranted m n t = refl

pub returns-in-TidGrant-clause-noted : goal.returns-in-TidGrant-clause-noted
returns-in-TidGrant-clause-noted c = granted-so c.note.result c.args.held.now.items c.note.new.held.items c.args.commits.now c.args.next.0
    c.in-TidGrant.tid c.args.msg.now c.in-TidGrant.is c.note.ensures.noted

pub returns-in-TidGrant-clause-refused : goal.returns-in-TidGrant-clause-refused
returns-in-TidGrant-clause-refused c = granted-over c.note.result c.args.held.now.items c.args.commits.now c.args.next.0
    c.in-TidGrant.tid c.args.msg.now c.in-TidGrant.is c.note.ensures.refused

pub returns-in_default-clause-noted : goal.returns-in_default-clause-noted
returns-in_default-clause-noted c = λ t. nothing-noted c.args.held.now.items c.args.commits.now c.args.next.0
    (λ u. num (passes (Grants u) (msg_of c.args.msg.now))) (ungranted c.args.msg.now c.in_default.not-TidGrant)
