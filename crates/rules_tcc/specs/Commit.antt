-- The two ways to commit: with all probed directories ready, and alone after an overflow.
use Rattle.std.specs.Prelude.{ℕ, Bool, List, [], ◌∷◌, ◌++◌, Some, is_some, ◌==◌, ◌&&◌, ◌||◌, if◌then◌else◌}
use Rattle.std.specs.List.{flat_map}
use Rattle.tcc_base.specs.declared.access.Commit.{Commit as Noted}
use Rattle.rules_program.specs.Plain.{Outcome, Goes, Ended, Halted as HaltedWith, Trapped as TrappedWith}
use Rattle.rules_maps.specs.Words.{any_below, count_below, those, word_at}
use Rattle.rules_maps.specs.Masks.{mask_of}
use Rattle.rules_maps.specs.Nodes.{Msg, Skip, Mark, Commit, WriteBack}
use Rattle.rules_maps.specs.Shape.{Shape, home, lines}
use Rattle.rules_maps.specs.Cache.{Cache, is_modified, writes_at}
use Rattle.rules_maps.specs.CacheChange.{committed, words_dropped}
use Rattle.rules_maps.specs.Spilled.{Spilled, none_spilled, holds, spilled_mask, spilled_words}
use Rattle.rules_tcc.specs.State.{CoreState, Phase, Running, Halted}
use Rattle.rules_tcc.specs.Sends.{Sends, to_dirs, when}
use Rattle.rules_tcc.specs.Attempt.{Out}

-- what is noted of a commit
unfoldable pub noted : (tid core : ℕ) → CoreState → Noted
noted t id s = record {
  tid = record { 0 = t };
  core = record { 0 = id };
  n = s.n;
  loads = s.loads;
  stores = s.stores;
  console = s.console;
}

-- after a halt or a trap a core has halted, else it runs on
abbrev pub phase_after_commit : Outcome → Phase
phase_after_commit Goes = Running
phase_after_commit Ended = Running
phase_after_commit (HaltedWith code) = Halted
phase_after_commit (TrappedWith code) = Halted

abbrev pub ended_after_commit : Outcome → Outcome
ended_after_commit Goes = Goes
ended_after_commit Ended = Goes
ended_after_commit (HaltedWith code) = HaltedWith code
ended_after_commit (TrappedWith code) = TrappedWith code

-- modified words are dirty with the commit's tag, marks are cleared, the checkpoint is where the core stands, and its
-- attempt is empty
unfoldable pub committed_core : (tid : ℕ) → CoreState → CoreState
committed_core t s = record s {
  cache = committed t s.cache;
  saved = s.local;
  n = 0;
  loads = [];
  stores = [];
  console = [];
  ended = ended_after_commit s.ended;
  phase = phase_after_commit s.ended;
}

-- to each written directory Commit, with the number of its modified lines
unfoldable pub commit_sends : Shape → Cache → (tid : ℕ) → Sends
commit_sends sh c t =
    to_dirs sh (λ d. when (writes_at sh c d) (Commit t (count_below (λ l. d == home sh l && is_modified c l) (lines sh)) ∷ []))

-- the core's last commit at each directory, once it has committed where it wrote
unfoldable pub with_last_commit : (written : ℕ → Bool) → (tid : ℕ) → (last : ℕ → ℕ) → ℕ → ℕ
with_last_commit written t last d = if written d then t else last d

-- Commit: the commit point of a transaction whose directories all serve its TID
unfoldable pub commit : Shape → (core tid : ℕ) → CoreState → Out
commit sh id t s = record {
  core = record (committed_core t s) { last_commit = with_last_commit (writes_at sh s.cache) t s.last_commit };
  sends = commit_sends sh s.cache t;
  commit = Some (noted t id s);
}

-- a line that a core alone has written, in a frame or spilled
unfoldable pub is_written : Cache → Spilled → ℕ → Bool
is_written c sp l = is_modified c l || holds sp l

-- the words of such a line
unfoldable pub written_mask : Cache → Spilled → ℕ → ℕ
written_mask c sp l = mask_of (λ k. c.modified (word_at l k) || is_some (sp (word_at l k)))

-- the directory is the home of such a line
unfoldable pub solo_writes_at : Shape → Cache → Spilled → ℕ → Bool
solo_writes_at sh c sp d = any_below (λ l. d == home sh l && is_written c sp l) (lines sh)

-- to a directory: where lines at home there were written, a Mark for each of them by rising line and then Commit; else Skip
unfoldable pub solo_marks_or_skip : Shape → Cache → Spilled → (tid dir : ℕ) → List Msg
solo_marks_or_skip sh c sp t d =
    if solo_writes_at sh c sp d
    then flat_map (λ l. Mark l (written_mask c sp l) t ∷ []) (those (λ l. d == home sh l && is_written c sp l) (lines sh))
    ++ Commit t (count_below (λ l. d == home sh l && is_written c sp l) (lines sh)) ∷ []
    else Skip t ∷ []

-- and behind that a WriteBack for each spilled line at home there, by rising line
unfoldable pub solo_write_backs : Shape → Spilled → (tid dir : ℕ) → List Msg
solo_write_backs sh sp t d = flat_map (λ l. WriteBack l (spilled_mask sp l) (spilled_words sp l) t ∷ [])
    (those (λ l. d == home sh l && holds sp l) (lines sh))

unfoldable pub solo_sends : Shape → Cache → Spilled → (tid : ℕ) → Sends
solo_sends sh c sp t = to_dirs sh (λ d. solo_marks_or_skip sh c sp t d ++ solo_write_backs sh sp t d)

-- Solo commit: marks, commits and the spilled words go out at once; what was spilled has no valid word in a frame
unfoldable pub solo_commit : Shape → (core tid : ℕ) → CoreState → Out
solo_commit sh id t s = record {
  core = record (committed_core t s) {
    cache = committed t (words_dropped s.spilled s.cache);
    spilled = none_spilled;
    last_commit = with_last_commit (solo_writes_at sh s.cache s.spilled) t s.last_commit;
  };
  sends = solo_sends sh s.cache s.spilled t;
  commit = Some (noted t id s);
}
