-- From the laws below.
use Rattle.tcc_cli.proofs.Complete.{answers_complete, others_refused}
use Rattle.tcc_cli.proofs.laws.answers_are_complete.Goals as goal

pub returns-clause-command : goal.returns-clause-command
returns-clause-command c =
    answers_complete (record {
      one_command = c.words_ask_for_one_command.ensures.one;
      not_refused = c.words_ask_for_one_command.ensures.not_refused;
      in_bounds = c.commands_are_in_bounds.ensures;
      one_schedule = c.texts_tell_schedules_apart.ensures;
      no_faulty_line = c.the_first_fault_is_one.ensures.none;
      one_list = c.lists_are_read_alike.ensures.one;
      no_faulty_order = c.lists_are_read_alike.ensures.not_both;
      stuck_has_no_run = c.lists_are_run_alike.ensures.not_both;
      runs_go_on = c.what_runs_is_not_refused.ensures;
    })

pub returns-clause-words : goal.returns-clause-words
returns-clause-words c =
    others_refused (record {
      one_command = c.words_ask_for_one_command.ensures.one;
      not_refused = c.words_ask_for_one_command.ensures.not_refused;
      in_bounds = c.commands_are_in_bounds.ensures;
      one_schedule = c.texts_tell_schedules_apart.ensures;
      no_faulty_line = c.the_first_fault_is_one.ensures.none;
      one_list = c.lists_are_read_alike.ensures.one;
      no_faulty_order = c.lists_are_read_alike.ensures.not_both;
      stuck_has_no_run = c.lists_are_run_alike.ensures.not_both;
      runs_go_on = c.what_runs_is_not_refused.ensures;
    })
