use Rattle.rules_maps.proofs.Masks.{has-mask_of, mask_of-has, mask_of-small, has-minus, has-meet, has-join, has-pow, has-zero}
use Rattle.rules_maps.proofs.masks_are_sets.Goals as goal

pub returns-clause-holds : goal.returns-clause-holds
returns-clause-holds c = has-mask_of

pub returns-clause-itself : goal.returns-clause-itself
returns-clause-itself c = mask_of-has

pub returns-clause-small : goal.returns-clause-small
returns-clause-small c = mask_of-small

pub returns-clause-minus : goal.returns-clause-minus
returns-clause-minus c = has-minus

pub returns-clause-meet : goal.returns-clause-meet
returns-clause-meet c = has-meet

pub returns-clause-join : goal.returns-clause-join
returns-clause-join c = has-join

pub returns-clause-one : goal.returns-clause-one
returns-clause-one c = has-pow

pub returns-clause-none : goal.returns-clause-none
returns-clause-none c = has-zero
