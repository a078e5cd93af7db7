-- Each schedule is computed by the definitions alone.
use Rattle.rules_tcc.proofs.Computed.{computed}
use Rattle.rules_program.specs.Registers.{zeroed, register, written}
use Rattle.rules_tcc.specs.Rows.{padded, both_words, both_code, changed, report, replayed}
use Rattle.rules_tcc.specs.Small.{at_pc, address, call_need, small, image_entry}
use Rattle.std.proofs.Common.{refl}
use Rattle.rules_tcc.proofs.worked_schedules.Goals as goal

pub returns-clause-two_tids : goal.returns-clause-two_tids
unfolding computed zeroed register written padded both_words both_code changed report replayed at_pc address call_need small image_entry
returns-clause-two_tids c = refl

pub returns-clause-two_tids_more : goal.returns-clause-two_tids_more
unfolding computed zeroed register written padded both_words both_code changed report replayed at_pc address call_need small image_entry
returns-clause-two_tids_more c = refl

pub returns-clause-reader_waits : goal.returns-clause-reader_waits
unfolding computed zeroed register written padded both_words both_code changed report replayed at_pc address call_need small image_entry
returns-clause-reader_waits c = refl

pub returns-clause-probe_waits : goal.returns-clause-probe_waits
unfolding computed zeroed register written padded both_words both_code changed report replayed at_pc address call_need small image_entry
returns-clause-probe_waits c = refl

pub returns-clause-over_a_read : goal.returns-clause-over_a_read
unfolding computed zeroed register written padded both_words both_code changed report replayed at_pc address call_need small image_entry
returns-clause-over_a_read c = refl

pub returns-clause-doomed_attempt : goal.returns-clause-doomed_attempt
unfolding computed zeroed register written padded both_words both_code changed report replayed at_pc address call_need small image_entry
returns-clause-doomed_attempt c = refl

pub returns-clause-before_the_fill : goal.returns-clause-before_the_fill
unfolding computed zeroed register written padded both_words both_code changed report replayed at_pc address call_need small image_entry
returns-clause-before_the_fill c = refl

pub returns-clause-over_a_dirty_owner : goal.returns-clause-over_a_dirty_owner
unfolding computed zeroed register written padded both_words both_code changed report replayed at_pc address call_need small image_entry
returns-clause-over_a_dirty_owner c = refl

pub returns-clause-write_back_waits : goal.returns-clause-write_back_waits
unfolding computed zeroed register written padded both_words both_code changed report replayed at_pc address call_need small image_entry
returns-clause-write_back_waits c = (λ w. absurd (cc), refl)

pub returns-clause-alone_after_overflow : goal.returns-clause-alone_after_overflow
unfolding computed zeroed register written padded both_words both_code changed report replayed at_pc address call_need small image_entry
returns-clause-alone_after_overflow c = refl
