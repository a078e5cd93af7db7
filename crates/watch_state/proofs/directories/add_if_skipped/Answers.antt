-- The TID was skipped, or not.
use Rattle.std.proofs.Common.{sym, ◌∙◌, rules}
use Rattle.watch_state.proofs.directories.add_if_skipped.Goals as goal

pub returns-in_ok-add : goal.returns-in_ok-add
returns-in_ok-add c = λ e. rw (sym (c.is_skipped.ensures e) ∙ c.if-is_skipped.true) c.in_ok-add.ensures

pub returns-else-is_skipped : goal.returns-else-is_skipped
returns-else-is_skipped c = λ e. rw (sym (c.is_skipped.ensures e) ∙ c.if-is_skipped.false) (search rules)
