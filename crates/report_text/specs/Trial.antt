-- The summary of a trial: what workload ran, how its run ended, and by how much the words of RAM grew in all.
use Rattle.std.specs.Prelude.{ℕ, List, ◌++◌, ◌+◌, ◌-◌, ◌%◌, ◌^◌, Bool, map, codes}
use Rattle.std.specs.Fmt.{decimal}
use Rattle.std.specs.List.{sum, range_with_len}
use Rattle.work_gen.specs.Names.{work_word}
use Rattle.work_gen.specs.declared.work.Work.{Work}
use Rattle.report_text.specs.Lines.{newline, end_line, events_line}
use Rattle.base_digits.specs.Digits.{hex}
use Rattle.report_text.specs.declared.shown.Trial.{Trial}

-- what a summary tells of a trial; RAM is `count` words, with the value that each word has and the value that it was loaded with
pub record ShownTrial : Type 0 where
  pub work : Work
  pub number : ℕ
  pub done : Bool
  pub events : ℕ
  pub commits : ℕ
  pub count : ℕ
  pub ram : ℕ → ℕ
  pub loaded : ℕ → ℕ

-- what is told of a trial, whatever its memories are: `words` and `count` read the memory as it is, `old_words` the memory as it
-- was loaded
abbrev pub trial_of : {R L : Type 0} → (words : R → ℕ → ℕ) → (count : R → ℕ) → (old_words : L → ℕ → ℕ) → Trial R L → ShownTrial
trial_of words count old_words t = record {
  work = t.work;
  number = t.number;
  done = t.done;
  events = t.events;
  commits = t.commits;
  count = count t.ram.now;
  ram = words t.ram.now;
  loaded = old_words t.loaded.now;
}

-- what a word grew by, where one less counts as 2^32 - 1 more
unfoldable pub word_growth : (ram loaded : ℕ → ℕ) → (word : ℕ) → ℕ
word_growth ram loaded word = ram word + (2 ^ 32 - loaded word)

-- what all words grew by, modulo 2^32
unfoldable pub growth : (count : ℕ) → (ram loaded : ℕ → ℕ) → ℕ
growth count ram loaded = sum (map (word_growth ram loaded) (range_with_len 0 count)) % 2 ^ 32

unfoldable pub work_line : Work → (number : ℕ) → List ℕ
work_line work number = codes "work " ++ work_word work ++ codes " " ++ decimal number ++ newline

unfoldable pub commits_line : (commits : ℕ) → List ℕ
commits_line commits = codes "commits " ++ decimal commits ++ newline

unfoldable pub sum_line : (growth : ℕ) → List ℕ
sum_line growth = codes "sum " ++ hex 8 growth ++ newline

-- the summary: the workload, the end, the events, the commits and the sum
unfoldable pub trial_text : ShownTrial → List ℕ
trial_text t =
    codes "tcc-trial 1" ++ newline ++ work_line t.work t.number ++ end_line t.done ++ events_line t.events
    ++ commits_line t.commits ++ sum_line (growth t.count t.ram t.loaded)
