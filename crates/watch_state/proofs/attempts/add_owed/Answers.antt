-- Some directories owe the core a reply, or none.
use Rattle.std.proofs.Common.{◌≡◌, [], ◌∷◌, ap, sym, ◌∙◌, rules}
use Rattle.rules_maps.specs.Masks.{has}
use Rattle.rules_maps.specs.Words.{those}
use Rattle.watch_state.specs.Cores.{owed_record}
use Rattle.watch_state.specs.Records.{OwedBy}
use Rattle.watch_state.proofs.Growing.{none-owed, some-owed}
use Rattle.watch_state.proofs.attempts.add_owed.Goals as goal

pub returns-then-any_in : goal.returns-then-any_in
returns-then-any_in c =
    let core = c.args.core.0 in
    let dirs = those (has c.args.bits) c.args.dirs in
    let owed : OwedBy core (those (has c.only_below-bits.result) 64) ∷ [] ≡ owed_record core dirs =
    ap (λ ns. OwedBy core ns ∷ []) c.only_below-bits.ensures
    ∙ sym (some-owed core (has c.args.bits) c.args.dirs (sym c.any_in.ensures ∙ c.if-any_in.true)) in
    rw owed at c.add.ensures

pub returns-else-any_in : goal.returns-else-any_in
returns-else-any_in c =
    rw (none-owed c.args.core.0 (has c.args.bits) c.args.dirs (sym c.any_in.ensures ∙ c.if-any_in.false)) (search rules)
