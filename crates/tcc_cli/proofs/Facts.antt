-- The laws of words, texts, lists and runs from which the program's laws follow.
use Rattle.std.proofs.Common.{◌≡◌, ℕ, List}
use Rattle.schedule_text.specs.Faults.{IsFirstFault}
use Rattle.schedule_text.specs.Grammar.{text_of}
use Rattle.schedule_text.specs.WellFormed.{IsWellFormed}
use Rattle.serial_tool.specs.Laws.{FaultsHaveNoList, ListsAreAlike, RunFaultsHaveNoRun}
use Rattle.tcc_msg.specs.declared.event.Schedule.{Schedule}
use Rattle.tcc_replay.specs.Replayed.{RunsAreNotRefused}
use Rattle.tcc_words.specs.Asked.{IsCommand, IsRefused}
use Rattle.tcc_words.specs.Bounds.{CommandsAreInBounds}
use Rattle.tcc_words.specs.declared.command.Command.{Command}
use Rattle.tcc_words.specs.declared.command.WordsFault.{WordsFault}
use Rattle.tcc_words.specs.declared.command.WordsFault.TheVariants.{Memory}

pub record Facts : Type 0 where
  pub one_command : (words : List (List ℕ)) (c d : Command) → IsCommand words c → IsCommand words d → c ≡ d
  pub not_refused : (words : List (List ℕ)) (c : Command) (f : WordsFault) → IsCommand words c → IsRefused words f → f ≡ Memory
  pub in_bounds : CommandsAreInBounds
  pub one_schedule : (s t : Schedule) → IsWellFormed s → IsWellFormed t → text_of s ≡ text_of t → s ≡ t
  pub no_faulty_line : (s : Schedule) (k : ℕ) → IsWellFormed s → IsFirstFault k (text_of s) → ⊥
  pub one_list : ListsAreAlike
  pub no_faulty_order : FaultsHaveNoList
  pub stuck_has_no_run : RunFaultsHaveNoRun
  pub runs_go_on : RunsAreNotRefused
