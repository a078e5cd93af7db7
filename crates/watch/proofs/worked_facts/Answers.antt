-- The facts of each schedule are computed by the definitions alone.
use Rattle.rules_tcc.proofs.Lemmas.{computed}
use Rattle.rules_program.specs.Registers.{zeroed, register, written}
use Rattle.rules_tcc.specs.Rows.{padded, both_words, both_code}
use Rattle.rules_tcc.specs.Needs.{need_at, needs_after, needs, entry}
use Rattle.rules_tcc.specs.Told.{first_words}
use Rattle.rules_tcc.specs.Small.{at_pc, address, call_need, small, image_entry}
use Rattle.watch.specs.Instructions.{last_loaded, last_stored, done, addr_of, executed, evicted}
use Rattle.watch.specs.Messages.{taken, commit_of, words_read}
use Rattle.watch.specs.Happened.{numbered, sent_to, sent, happened}
use Rattle.watch.specs.Worked.{facts_from, facts_along, facts_of_codes}
use Rattle.std.proofs.Common.{refl}
use Rattle.watch.proofs.worked_facts.Goals as goal

pub returns-clause-doomed_attempt : goal.returns-clause-doomed_attempt
unfolding computed zeroed register written padded both_words both_code at_pc address call_need small image_entry last_loaded last_stored
    done addr_of
    executed evicted taken commit_of words_read numbered sent_to sent happened facts_from facts_along
returns-clause-doomed_attempt c = refl

pub returns-clause-before_the_fill : goal.returns-clause-before_the_fill
unfolding computed zeroed register written padded both_words both_code at_pc address call_need small image_entry last_loaded last_stored
    done addr_of
    executed evicted taken commit_of words_read numbered sent_to sent happened facts_from facts_along
returns-clause-before_the_fill c = refl

pub returns-clause-over_a_dirty_owner : goal.returns-clause-over_a_dirty_owner
unfolding computed zeroed register written padded both_words both_code at_pc address call_need small image_entry last_loaded last_stored
    done addr_of
    executed evicted taken commit_of words_read numbered sent_to sent happened facts_from facts_along
returns-clause-over_a_dirty_owner c = refl

pub returns-clause-alone_after_overflow : goal.returns-clause-alone_after_overflow
unfolding computed zeroed register written padded both_words both_code at_pc address call_need small image_entry last_loaded last_stored
    done addr_of
    executed evicted taken commit_of words_read numbered sent_to sent happened facts_from facts_along
returns-clause-alone_after_overflow c = refl

pub returns-clause-changes_and_halts : goal.returns-clause-changes_and_halts
unfolding computed need_at needs_after needs entry first_words last_loaded last_stored done addr_of
    executed evicted taken commit_of words_read numbered sent_to sent happened facts_from facts_of_codes
returns-clause-changes_and_halts c = refl
