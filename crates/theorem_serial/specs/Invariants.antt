-- The whole list: all that holds of every state that a run reaches, each fact with a name. Those that are proved of every run stand in
-- the first record, those that are proved where the program's accesses are aligned and its stores fit in the second, those where its
-- accesses lie in memory in the third, each in the order in which the proofs stand on one another; and those that stand on all of the
-- list, which are proved together where both hold, in the fourth.
use Rattle.std.specs.Prelude.{ℕ, ◌+◌, ◌≡◌, ◌<◌, ◌≤◌, ◌⊎◌, true, false, ◌||◌, List, [], length, Contains, IfSome, Some, None, is_some}
use Rattle.rules_program.specs.Plain.{Plain}
use Rattle.rules_program.specs.Program.{Local, Program}
use Rattle.rules_maps.specs.Words.{line_of}
use Rattle.rules_maps.specs.Nodes.{Core, Dir, Event}
use Rattle.rules_maps.specs.Serving.{is_skipped}
use Rattle.rules_maps.specs.Shape.{Shape, home}
use Rattle.rules_maps.specs.Cache.{IsCache}
use Rattle.rules_maps.specs.Lines.{has_mark}
use Rattle.rules_tcc.specs.State.{Awaited, Halted, start}
use Rattle.rules_tcc.specs.Step.{History, run}
use Rattle.theorem_attempt.specs.Follows.{Uses, Follows, Fits}
use Rattle.theorem_attempt.specs.Views.{no_views, views_from}
use Rattle.theorem_serial.specs.Alone.{IsApart, OwingFits, PhaseFits, ReadFits}
use Rattle.theorem_serial.specs.Asked.{KeptAsked}
use Rattle.theorem_serial.specs.Commits.{plain_start, CommitsSerial, CoresSerial, SeenSerial}
use Rattle.theorem_serial.specs.Committing.{CommitsAreServed}
use Rattle.theorem_serial.specs.Copies.{KeptHomes, KeptTags, KeptLineOwners, KeptAfter, KeptLoading, KeptAbove, KeptOwned, KeptGets}
use Rattle.theorem_serial.specs.Copies.{KeptSharers}
use Rattle.theorem_serial.specs.Count.{Grants, Commits, Acks, Marks, Skips, MarksAway, EmptyMarks, Probes, Replies, RepliesAbove, live}
use Rattle.theorem_serial.specs.Counted.{KeptCounted}
use Rattle.theorem_serial.specs.InMemory.{StaysInMemory, FramesInMemory, AttemptInMemory, LoadsInMemory, CopiesInMemory, CommitsInMemory}
use Rattle.theorem_serial.specs.Laws.{OneWay, OneRequest, NeverPasses, OwedInFlight, Served}
use Rattle.theorem_serial.specs.Marks.{marks_of, marked_by}
use Rattle.theorem_serial.specs.Named.{KeptNamed}
use Rattle.theorem_serial.specs.OneCore.{executes, Empty}
use Rattle.theorem_serial.specs.Owners.{Grant, grants_from, IsNumbered, IsRising, AreGranted, times, holder, LastGranted, SparesCommitter}
use Rattle.theorem_serial.specs.Pairs.{pair}
use Rattle.theorem_serial.specs.Partly.{KeptWhole}
use Rattle.theorem_serial.specs.Probing.{OneProbe}
use Rattle.theorem_serial.specs.Masked.{KeptMasks}
use Rattle.theorem_serial.specs.MaskLaws.{MarkedByServed, MarksOfCommits}
use Rattle.theorem_serial.specs.Standing.{CommitsStand, MarksWait}
use Rattle.theorem_serial.specs.Stored.{KeptStored}
use Rattle.theorem_serial.specs.Ways.{Ways, Committed, first_ways, ways_from}
use Rattle.theorem_serial.specs.WayLaws.{UntoldWhereOpen, UntoldIsLive, AllWaysFit, GivenUpOnce, LiveIsOpen, CommittedWhereStored}
use Rattle.theorem_serial.specs.WayLaws.{SmallerAreGivenUp, WorkIsReached, Settled, is_given_up}
use Rattle.theorem_serial.specs.Tids.{has_tid}
use Rattle.theorem_serial.specs.Uses.{stores_word}
use Rattle.theorem_serial.specs.Values.{HomeWords, CopiesAbove, UnmodifiedWords, FilledWords, ReadWords, ViewedWords, HaltedUsesNone}

-- What is proved of every run. gs are the grants along it, and ys the ways in which each TID was given to each directory.
pub record Carried (sh : Shape) (gs : List Grant) (ys : Ways) (h : History) : Type 0 where
  -- one core by itself

  -- A frame stands in its line's set, a line has at most one, and what is kept of a word stands in a frame.
  pub frames_stand_in_their_sets : (c : ℕ) → IsCache sh (h.world.cores c).cache
  -- Modified and dirty words are valid, and a frame has modified or dirty words, not both.
  pub modified_and_dirty_words_are_valid_and_apart : (c : ℕ) → IsApart (h.world.cores c).cache
  -- A directory owes a reply only in a phase that waits for replies, only where the core asked it, and in such a phase some does.
  pub tid_and_owing_fit_the_phase : (c : ℕ) → OwingFits sh (h.world.cores c)
  -- A line is awaited only while the core executes, and has a frame.
  pub awaited_line_has_a_frame : (c : ℕ) (a : Awaited) → (h.world.cores c).awaited ≡ Some a → (executes (h.world.cores c).phase ≡ true)
      × ((h.world.cores c).cache.held a.line ≡ true)
  -- Words are spilled only where the core is alone, none is marked read there, and a core that is doomed or halted has no attempt.
  pub marks_fit_the_phase : (c : ℕ) → PhaseFits (h.world.cores c)
  -- A halted core has no attempt and no spilled word.
  pub no_attempt_after_the_halt : (c : ℕ) → (h.world.cores c).phase ≡ Halted
      → Empty (h.world.cores c) × ((x : ℕ) → (h.world.cores c).spilled x ≡ None)
  -- The modified and the spilled words are exactly those that the attempt's stores name.
  pub stored_words_are_those_named : (c x : ℕ) → ((h.world.cores c).cache.modified x || is_some ((h.world.cores c).spilled x))
      ≡ stores_word sh.base (h.world.cores c).stores x
  -- A line with a spilled word has no modified and no dirty word in a frame.
  pub spilled_line_is_clean_in_its_frame : (c x y : ℕ) → line_of x ≡ line_of y → is_some ((h.world.cores c).spilled x) ≡ true
      → ((h.world.cores c).cache.modified y ≡ false) × ((h.world.cores c).cache.dirty y ≡ None)
  -- TIDs

  -- The granted TIDs are 1, 2, 3 and so on, up to the one before the vendor's next.
  pub granted_tids_are_those_below_next : IsNumbered 1 gs × (h.world.next ≡ length gs + 1)
  -- At each directory each TID is in one place: not granted, on its way or open, given up or committing and on its way, handled; and the
  -- place fits the way in which its core has told it.
  pub each_tid_is_resolved_in_one_way : OneWay sh h.world × UntoldWhereOpen sh ys h × AllWaysFit sh ys h
  -- The TIDs of the commits rise strictly, and each was granted to the core that committed.
  pub commits_are_of_granted_tids : IsRising 0 h.commits × AreGranted gs h.commits
  -- Exactly one request or grant is in flight for a core that waits for a TID, and none for another.
  pub one_tid_request_or_grant : OneRequest sh h.world
  -- A TID that a core has, or that is on its way to it, was granted to this core and hasn't committed.
  pub live_tid_is_granted_to_its_core : (c d t : ℕ) → c < sh.cores → 1 ≤ holder t (pair h.world c d)
      → Contains gs (record { tid = t; core = c }) × (times t h.commits ≡ 0)
  -- It is the last that was granted to this core.
  pub live_tid_is_the_last_granted_to_its_core : LastGranted gs h.world
  -- A TID on its way, in an overflow or alone is untold everywhere; one that waits for replies or may commit is untold where its core
  -- writes, and skipped at every other directory.
  pub live_tid_is_open_where_it_must_be : LiveIsOpen sh ys h
  -- A TID that is untold somewhere is with a core, or on its way to one.
  pub open_tid_is_live : UntoldIsLive sh ys h
  -- A committed TID is committed where its commit stored, and skipped at every other directory; no other TID is committed anywhere.
  pub committed_tid_is_given_up_where_it_stored_nothing : CommittedWhereStored sh ys h
  -- serving

  -- Serving never passes a TID that wasn't granted, that is open or that is committing.
  pub serving_never_passes_an_unresolved_tid : NeverPasses sh h.world
  -- A TID that a directory keeps as skipped was given up, and is above the served one.
  pub kept_skips_are_given_up_and_ahead : (d t : ℕ) → d < sh.dirs → 1 ≤ t → is_skipped (h.world.dirs d).serving t ≡ true
      → (is_given_up (ys d t) ≡ true) × ((h.world.dirs d).serving.serving < t)
  -- Of a TID that was given up one Skip or Abort is in flight, or it is kept as skipped, or it is passed, and only one of these.
  pub given_up_tid_is_still_to_be_told_or_kept_or_passed : GivenUpOnce sh ys h
  -- A Commit in flight is of a TID that its core has told by a Commit.
  pub commit_message_is_in_flight_while_committing : (c d t : ℕ) → c < sh.cores → d < sh.dirs → 1 ≤ t
      → 1 ≤ live (Commits t) (h.world.net (Core c) (Dir d)) → ys d t ≡ Committed
  -- A TID whose Commit is in flight to a directory is the one that this directory serves.
  pub committing_tid_is_served : CommitsAreServed sh h.world
  -- A settled TID is passed, or served while acknowledgements are owed.
  pub settled_tid_is_passed_or_owed : (d t : ℕ) → d < sh.dirs → 1 ≤ t → Settled sh ys h.world d t → (t < (h.world.dirs d).serving.serving)
      ⊎ (((h.world.dirs d).serving.serving ≡ t) × (1 ≤ (h.world.dirs d).owed))
  -- A commit is on its way to each directory where it stored, or applied there, not both.
  pub commit_is_on_its_way_or_applied : CommitsStand sh h.world h.commits
  -- Acknowledgements are owed only where the served TID is settled.
  pub owed_only_where_settled : (d t : ℕ) → d < sh.dirs → 1 ≤ t → (h.world.dirs d).serving.serving ≡ t → 1 ≤ (h.world.dirs d).owed
      → Settled sh ys h.world d t
  -- As many are owed as invalidations and acknowledgements are in flight, and the invalidations carry the served TID.
  pub owed_counts_invs_and_acks : OwedInFlight sh h.world
  -- No invalidation of a TID goes to its own core, and none is acknowledged by it.
  pub no_inv_to_the_core_that_committed : SparesCommitter sh gs h.world
      × ((c d : ℕ) → d < sh.dirs → Contains gs (record { tid = (h.world.dirs d).serving.serving; core = c })
      → live Acks (pair h.world c d).out ≡ 0)
  -- probes and marks

  -- Between a core with a TID and a directory one probe or reply is in flight exactly where the directory owes a reply.
  pub one_probe_or_reply_per_owing_directory : OneProbe sh h.world
  -- A probe or reply in flight is of a TID that was granted to its core and has come to it.
  pub probes_are_of_tids_already_taken : (c d t : ℕ) → 1 ≤ live (Probes t) (pair h.world c d).out + live (Replies t) (pair h.world c d).back
      → Contains gs (record { tid = t; core = c }) × (live (Grants t) (pair h.world c d).grants ≡ 0)
  -- A reply comes from a directory that has reached its TID.
  pub replying_directory_has_reached_the_tid : (c d : ℕ) → live (RepliesAbove (h.world.dirs d).serving.serving) (pair h.world c d).back ≡ 0
  -- A directory that was asked and owes no reply has reached the core's TID, and serves it where it is open.
  pub directory_that_replied_serves_the_tid : Served sh h.world
  -- The Marks of a core's TID, in flight and handled, are one of each line that it stores where the directory has replied, with the words
  -- that it has modified; those of a commit on its way, and the marks while acknowledgements are owed, are the words that it stored.
  pub marks_sent_are_the_lines_stored : ((c d t l : ℕ) → c < sh.cores → d < sh.dirs → has_tid (h.world.cores c).phase t ≡ true
      → marks_of t l (pair h.world c d) ≡ marked_by sh (h.world.cores c) d l) × KeptMasks sh h.world × KeptStored sh h.commits h.world
  -- A Commit in flight is of a commit that stored there, and counts the lines in which it did.
  pub commit_counts_the_lines : MarksOfCommits sh h.commits h.world
  -- A TID that is skipped has sent no Mark there.
  pub skipped_tid_sent_no_mark : (c d t l : ℕ) → d < sh.dirs → 1 ≤ live (Skips t) (pair h.world c d).out
      → marks_of t l (pair h.world c d) ≡ 0
  -- A marked line is at home there, and the served TID, which marked it, was granted and has come to its core, which stores the line.
  pub marked_line_was_marked_by_the_served_tid : ((c d l : ℕ) → c < sh.cores → d < sh.dirs → has_mark (h.world.dirs d).lines l ≡ true
      → (home sh l ≡ d) × ((h.world.dirs d).serving.serving < h.world.next)
      × (live (Grants (h.world.dirs d).serving.serving) (pair h.world c d).grants ≡ 0)) × MarkedByServed sh h.world
  -- A TID that hasn't come to its core has sent no Mark, nor has one of an overflow or of a core that is alone, nor to a directory that
  -- owes a reply.
  pub marks_go_out_with_the_reply : (c d t l : ℕ) → c < sh.cores → d < sh.dirs → MarksWait sh t l d (pair h.world c d)
  -- A Mark in flight is from the core that its TID was granted to; a Commit counts the Marks of its TID, and none is left in flight once
  -- it is handled.
  pub marks_sent_are_in_flight_or_handled : ((c d t : ℕ) → 1 ≤ live (Marks t) (pair h.world c d).out
      → Contains gs (record { tid = t; core = c })) × KeptCounted sh h.world
  -- An invalidation in flight is of a marked line and has its mask; one at most of each line is in flight to a core or acknowledged by it.
  pub inv_and_ack_name_a_marked_line : KeptNamed sh h.world
  -- Where nothing is owed, a marked line is wholly overwritten or has no owner.
  pub line_marked_in_part_has_no_owner : KeptWhole sh h.world
  -- The Marks of a TID, in flight and handled, are of different lines, at home there, and of some word each.
  pub marks_name_different_lines : (c d t l : ℕ) → c < sh.cores → d < sh.dirs → (marks_of t l (pair h.world c d) ≤ 1)
      × (live (MarksAway sh.dirs d) (pair h.world c d).out ≡ 0) × (live EmptyMarks (pair h.world c d).out ≡ 0)
  -- lines and copies

  -- A directory knows only of lines at home there, and messages about a line go to its home or come from it, each with some word.
  pub records_and_messages_are_at_home : KeptHomes sh h.world
  -- The owner of a line is the core that the line's tag was granted to.
  pub owner_is_the_core_of_the_tag : KeptLineOwners gs h.world
  -- What a core notes of a directory is the greatest TID of its commits that stored there, or 0; its load requests to there carry it.
  pub after_is_the_last_commit_there : KeptAfter sh h.world h.commits
  -- One load request or Fill is in flight exactly for the line that a core awaits.
  pub one_load_request_or_fill : KeptLoading sh h.world
  -- The tag of a line in memory is the greatest TID that is settled at its home and stored in it, or 0.
  pub line_tag_is_the_last_settled_writer : KeptTags sh h.world h.commits
  -- With a tag above the line's there is one copy of each line in memory that a commit stored whose Commit is in flight, of just its
  -- words; no other.
  pub copy_above_the_tag_is_of_a_commit_in_flight : KeptAbove sh h.world h.commits
  -- With the tag of a line in memory there is one copy, the owner's, where there is an owner, and else none.
  pub owned_line_has_one_copy_with_its_tag : KeptOwned sh h.world
  -- An asked line has an owner; the request is in flight to it, or the line's words are on their way from it.
  pub asked_line_gets_its_words : KeptAsked sh h.world × KeptGets sh h.world
  -- A core that holds a line in memory is one of its sharers, or its Commit of the line is in flight; and it hasn't said that it keeps no
  -- word.
  pub holder_is_a_sharer : KeptSharers sh h.world h.commits
  -- values

  -- A word that is marked read is valid, or its home has passed the core's bound.
  pub read_mark_is_valid_or_passed : ReadWords sh h.world
  -- commits

  -- Where a larger TID has committed and a smaller one hasn't, this one was given up wherever the larger one loaded or stored; and each
  -- directory where a commit loaded or stored has reached its TID.
  pub smaller_tid_is_given_up_where_a_larger_one_worked : SmallerAreGivenUp sh ys h × WorkIsReached sh ys h

-- What is proved of every run of a program whose accesses are aligned and whose stores fit. views are the words that each core's attempt
-- used, in order and with their values.
pub record CarriedViews (sh : Shape) (p : Program) (views : ℕ → Uses) (h : History) : Type 0 where
  -- one core by itself

  -- The plain machine's steps from the checkpoint, over any memory that agrees with the view, give the attempt.
  pub attempt_follows_from_its_view : (c : ℕ) → Follows sh p (h.world.cores c) (views c)
  -- Until a core is alone the words marked read are those of its view, and the valid ones that it hasn't modified have the view's values.
  pub read_marks_are_the_view : (c : ℕ) → ReadFits (h.world.cores c) (views c)

-- What is proved of every run of a program whose accesses lie in memory.
pub record CarriedInMemory (sh : Shape) (h : History) : Type 0 where
  -- one core by itself

  -- Only lines of memory have frames.
  pub frames_are_of_lines_in_memory : (c : ℕ) → FramesInMemory sh (h.world.cores c).cache
  -- The words that an attempt has loaded, stored or spilled lie in memory, and so does the line that its core awaits.
  pub attempts_stay_in_memory : (c : ℕ) → AttemptInMemory sh (h.world.cores c)
  -- lines and copies

  -- A load request and a Fill in flight are of a line of memory.
  pub loads_in_flight_are_of_lines_in_memory : LoadsInMemory sh h.world
  -- So is a WriteBack or Flush in flight.
  pub copies_in_flight_are_of_lines_in_memory : CopiesInMemory sh h.world
  -- commits

  -- The words that a commit loaded or stored lie in memory.
  pub commits_stay_in_memory : CommitsInMemory sh h.commits

-- All of it. m is the plain machine after the commits.
pub record Invariants (sh : Shape) (p : Program) (entries : ℕ → Local) (ram : ℕ → ℕ) (gs : List Grant) (ys : Ways) (views : ℕ → Uses)
    (m : Plain) (h : History) : Type 0 where
  pub carried : Carried sh gs ys h
  pub carried_views : CarriedViews sh p views h
  pub carried_in_memory : CarriedInMemory sh h
  -- one core by itself

  -- A halted core's view is empty.
  pub no_view_after_the_halt : HaltedUsesNone h.world views
  -- values

  -- A word has its value in the copy with its line's tag, and at home where no such copy has the word.
  pub home_words_are_current : HomeWords sh ram h.world h.commits
  -- A copy with a tag above the line's has the words as they are for its core.
  pub copy_above_the_tag_has_the_committed_words : CopiesAbove sh ram h.world h.commits
  -- A valid word that isn't modified is as it is for its core, or an invalidation of it is in flight to the core.
  pub unmodified_word_is_current_or_inv_in_flight : UnmodifiedWords sh ram h.world h.commits
  -- So is each word of a Fill that the core will take.
  pub filled_word_is_current_or_inv_in_flight : FilledWords sh ram h.world h.commits
  -- A word of a core's view has the value that it has for the core at its bound, or the attempt is doomed.
  pub viewed_word_is_current_or_doomed : ViewedWords sh ram h.world h.commits views
  -- commits

  -- The commits are what the plain machine gives for them in the order of their TIDs.
  pub commits_are_serial : CommitsSerial sh p entries ram h.commits m
  -- Each core's checkpoint, and whether it has halted, are those of the plain machine.
  pub committed_cores_are_serial : CoresSerial sh h.world m
  -- What is seen of each word is the plain machine's memory.
  pub seen_words_are_serial : SeenSerial sh h.world m

-- at the start nothing was granted, used or committed
abbrev pub first_state : (ℕ → Local) → (ram : ℕ → ℕ) → History
first_state entries ram = record { world = start entries ram; commits = [] }

-- The start has all of it, whatever the machine, the program, the cores' entries and the memory are.
abbrev pub StartHasAll : Type 0
StartHasAll = (sh : Shape) (p : Program) (entries : ℕ → Local) (ram : ℕ → ℕ)
    → Invariants sh p entries ram [] first_ways no_views (plain_start entries ram) (first_state entries ram)

-- Every state that a run reaches has what is proved of every run.
abbrev pub RunsCarry : Type 0
RunsCarry = (sh : Shape) (p : Program) (entries : ℕ → Local) (ram : ℕ → ℕ) (es : List Event)
    → IfSome (run sh p (start entries ram) es)
    (λ h. Carried sh (grants_from sh p es (first_state entries ram)) (ways_from sh p es first_ways (first_state entries ram)) h)

-- And, for a program that fits, with the views along the run.
abbrev pub RunsCarryViews : Type 0
RunsCarryViews = (sh : Shape) (p : Program) (entries : ℕ → Local) (ram : ℕ → ℕ) (es : List Event) → Fits p
    → IfSome (run sh p (start entries ram) es) (λ h. CarriedViews sh p (views_from sh p es no_views (first_state entries ram)) h)

-- And, for a program whose accesses lie in memory, what lies there then.
abbrev pub RunsStayInMemory : Type 0
RunsStayInMemory = (sh : Shape) (p : Program) (entries : ℕ → Local) (ram : ℕ → ℕ) (es : List Event) → StaysInMemory sh p
    → IfSome (run sh p (start entries ram) es) (λ h. CarriedInMemory sh h)
