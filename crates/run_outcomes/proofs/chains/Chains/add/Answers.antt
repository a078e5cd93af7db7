use Rattle.std.proofs.Common.{◌≡◌, ◌∙◌, ap, length, cond, Some, nat_eq}
use Rattle.std.specs.Option.{unwrap_or}
use Rattle.indexmap.specs.IndexMap.{get}
use Rattle.run_outcomes.proofs.Chained.{chained-more}
use Rattle.run_outcomes.specs.Chains.{last_with}
use Rattle.run_outcomes.proofs.chains.Chains.add.Goals as goal

pub returns-in-Ok-clause-added : goal.returns-in-Ok-clause-added
returns-in-Ok-clause-added c = λ keys h.
    let old = c.args.self.now in
    let number : c.len-number.result ≡ length keys = c.len-number.ensures ∙ h.counted in
    let first : c.in_ok-older.older ≡ unwrap_or (last_with keys c.args.key (length keys)) (length keys) =
    c.in_ok-older.ensures ∙ c.unwrap_or.ensures ∙ ap (λ o. unwrap_or o c.len-number.result) (c.newest.ensures keys h)
    ∙ ap (unwrap_or (last_with keys c.args.key (length keys))) number in
    chained-more keys c.args.key old (record { newest = c.insert.new.self; older = c.push.new.self }) c.in_ok-older.older h
    c.in_ok-push.ensures first
    (λ q. c.in-Ok.ensures.updates.0 q
    ∙ ap (λ n. cond (nat_eq c.args.key q) (Some n) (get nat_eq old.newest q)) (c.in_ok-number.ensures ∙ number))
