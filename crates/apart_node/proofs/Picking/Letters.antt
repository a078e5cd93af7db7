-- A message that waits, as the code tells of it.
use Rattle.std.proofs.Common.{◌≡◌, ℕ, ◌<◌, List, length, get_or, Some, subst, sym, ◌∙◌}
use Rattle.std.specs.Prelude.{slice_get}
use Rattle.std.proofs.lemmas.Option.{same_Some, slice_get-get_or, slice_get_within}
use Rattle.rules_apart.specs.declared.logs.Mail.{Mail}
use Rattle.apart_node.specs.Deeds.{IsLetter}
use Rattle.apart_node.specs.Ports.{IsEntry, IsPort, PortData}

pub read-at : (es : List (ℕ × Mail)) (i : ℕ) (d e : ℕ × Mail) → i < length es → slice_get es i ≡ Some e → get_or es i d ≡ e
read-at es i d e l h = same_Some (get_or es i d) e (sym (slice_get-get_or es i d l) ∙ h)

pub letter-at : (p : PortData) (i : ℕ) (e : ℕ × Mail) → IsPort p → slice_get p.pool i ≡ Some e
    → IsLetter p (record { place = i; number = e.0; mail = e.1 })
letter-at p i e h g =
    let l = slice_get_within p.pool i e g in
    let x : IsEntry p.inlet e = subst (IsEntry p.inlet) (read-at p.pool i e e l g) (h.entries i e l) in
    record { entry = g; brought = x.brought; carried = x.carried }
