use Rattle.rules_maps.proofs.Numbers.{any_below-found, any_below-at, all_below-at, all_below-each, lowest-cases, those-holds, those-only}
use Rattle.rules_maps.proofs.Numbers.{those-rise, length-those}
use Rattle.rules_maps.proofs.bounded_tests_are_exact.Goals as goal

pub returns-clause-any : goal.returns-clause-any
returns-clause-any c = λ p n. (any_below-found p n, λ h. any_below-at p n h.0 h.1 h.2)

pub returns-clause-all : goal.returns-clause-all
returns-clause-all c = λ p n. (λ e k h. all_below-at p n k e h, all_below-each p n)

pub returns-clause-lowest : goal.returns-clause-lowest
returns-clause-lowest c = lowest-cases

pub returns-clause-those : goal.returns-clause-those
returns-clause-those c = λ p n k. (those-only p n k, λ h. those-holds p n k h.0 h.1)

pub returns-clause-rise : goal.returns-clause-rise
returns-clause-rise c = those-rise

pub returns-clause-count : goal.returns-clause-count
returns-clause-count c = length-those
