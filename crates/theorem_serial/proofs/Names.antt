-- The names that the proofs speak with, of std, the plain machine, the maps, the rules and this crate's definitions, in one place.
use Rattle.theorem_serial.specs as own
use Rattle.rules_tcc.specs as tcc
use Rattle.rules_maps.specs as maps
use Rattle.tcc_base.specs.declared.access as access
use Rattle.rules_program.specs as plain
use Rattle.theorem_attempt.specs as attempt
pub use Rattle.std.specs.Prelude.{ℕ, ◌≡◌, Some, false, true, None, List, Bool, Option, ◌==◌, [], ◌<◌, ◌&&◌, ◌≤◌, ◌∷◌, if◌then◌else◌, IfSome}
pub use Rattle.std.specs.Prelude.{nat_lt, ◌||◌, ◌+◌, not, ◌++◌, Contains, is_some, suc, zero, nat_le, cond, slice_index_or, ◌-◌, set, ◌%◌}
pub use Rattle.std.specs.Prelude.{get_or, length, unwrap_or, map, max, ◌≢◌, IsSomeAnd, ◌*◌, MatchOption, ◌^◌, slice_set, ◌/◌}
pub use Rattle.std.specs.List.{flat_map}
pub use Rattle.std.proofs.Common.{refl, arith, inl, inr, ◌⊎◌, ◌∙◌, sym, ap, subst, append_assoc, true≢false, ap₂}
pub use Rattle.std.proofs.lemmas.Bool.{cases_eq, cases_lt, cases_order}
pub use Rattle.std.proofs.lemmas.Option.{IfSome_then}
pub use Rattle.std.proofs.lemmas.Grind.{flat_map-append}
pub use Rattle.std.proofs.lemmas.List.{append-nil, length-append, map-append}
pub use Rattle.std.proofs.lemmas.List.Elements.{Contains-append_left, Contains-append_cases, Contains-append_right}
pub use Rattle.tcc_base.specs.Put.{put}
pub use access.Commit.{Commit as Noted}
pub use access.CoreEnd.{CoreEnd}
pub use access.CoreEnd.TheVariants.{Run, Halt, Trap}
pub use access.Load.{Load}
pub use access.Size.{Size}
pub use access.Size.TheVariants.{Word, Byte, Half}
pub use access.Stored.{Stored}
pub use plain.Orders.{order_of_commit, last_tid}
pub use plain.Plain.{Outcome, Goes, Plain, Ended, Attempt, Halted as HaltedWith, Trapped as TrappedWith, Order, store_of, then_step}
pub use plain.Plain.{when_going, Trapped, after_order, and_commit, end_of, close_if, if_runs, load_of}
unfoldable pub use plain.Plain.{steps, begun, serial, commit_of, plain_step, transaction, closed}
pub use plain.Program.{Program, Local, Changes, Ends, Halts, Loads, Need, Nothing, Prints, Stores, Traps}
unfoldable pub use plain.Ram.{word_of, patched, loaded, unit_of}
pub use maps.Cache.{Cache, free_way, all_marked, IsCache}
unfoldable pub use maps.Cache.{writes_at, is_modified, modified_mask, is_marked, written_lines, dirty_mask, dirty_tag, is_dirty, reads_at}
unfoldable pub use maps.Cache.{dirty_copy, keeps, empty_cache, dirty_words, first_of_line}
unfoldable pub use maps.CacheChange.{evicted, read_cleared, filled, marked, cleaned, stored, invalidated, placed, committed, rolled_back}
unfoldable pub use maps.CacheChange.{evicted_line, placed_at, words_dropped}
pub use maps.Judge.{Outdated, Current, TooEarly, is_owner}
unfoldable pub use maps.Judge.{judge}
pub use maps.Lines.{has_mark, Lines}
unfoldable pub use maps.Lines.{with_asked, no_lines, with_sharer, unmarked, with_mark, with_owner}
pub use maps.Masks.{full, has}
unfoldable pub use maps.Masks.{hit, mask_of}
pub use maps.Nodes.{Msg, Dir, Core, Skip, TidReq, TidGrant, Commit, Mark, WriteBack, Inv, LoadReq, InvAck, Fill, Flush, Abort, DataReq}
pub use maps.Nodes.{Probe, ProbeReply, Event, Vendor, Node, Deliver, Evict, Exec, Tagged}
pub use maps.Serving.{advance, Serving}
unfoldable pub use maps.Serving.{kept, skipped, is_skipped, first_serving}
pub use maps.Shape.{Shape, home, lines, set_of}
pub use maps.Spilled.{Spilled}
unfoldable pub use maps.Spilled.{holds, spill_line, spilled_mask, spilled_words, none_spilled}
pub use maps.Words.{num, line_of, word_at, place_of, or_else}
unfoldable pub use maps.Words.{count_below, those, any_below, any_word, eight}
pub use Rattle.rules_maps.proofs.Lemmas.{words_dropped-keeps, read_cleared-keeps, invalidated-keeps, rolled_back-keeps, any_below-found}
pub use Rattle.rules_maps.proofs.Lemmas.{committed-keeps, advance-rises, dirty-evicted, advance-keeps, advance-stops, cleaned-keeps}
pub use Rattle.rules_maps.proofs.Lemmas.{evicted-keeps, value-evicted, any_below-at, advance-past, filled-keeps, marked-keeps, placed-keeps}
pub use Rattle.rules_maps.proofs.Lemmas.{stored-keeps, value-placed, has-mask_of, empty-keeps, first-skips, read-placed, kept-skips}
pub use Rattle.base_lemmas.proofs.Lemmas.{and-both, and-false, and-left, and-right, any_below-same, eight-at, eq-from, eq-self, held_valued}
pub use Rattle.base_lemmas.proofs.Lemmas.{hit-line, line_of-word_at, mask_of-none, neither, never, num-most, or-left, those-empty}
pub use Rattle.base_lemmas.proofs.Lemmas.{unheld-clean, word_at-own}
pub use tcc.Attempt.{Out, moves, is_solo, new_word, is_running}
unfoldable pub use tcc.Attempt.{finished, one_more_instruction, roll_back}
unfoldable pub use tcc.Commit.{commit, committed_core, noted, solo_sends, is_written, commit_sends, solo_writes_at, written_mask}
unfoldable pub use tcc.Commit.{solo_commit, solo_write_backs, solo_marks_or_skip, with_last_commit}
pub use tcc.Commit.{phase_after_commit, ended_after_commit}
pub use tcc.CoreDeliver.{from_dir, grant_in_phase, ignored, all_replied, replied, reply_in_phase, violated_in_phase, solo_once_replied}
pub use tcc.CoreDeliver.{ready_once_replied, fill_awaited, probing_or_ready, staled, may_be_above}
unfoldable pub use tcc.CoreDeliver.{grant, data_request, probe_reply, fill, invalidate, is_violated, acknowledged, if_violated}
unfoldable pub use tcc.CoreDeliver.{words_invalidated, grant_sends, is_probed, core_deliver}
pub use tcc.CoreEvict.{is_awaited, evict_line}
unfoldable pub use tcc.CoreEvict.{core_evict}
pub use tcc.CoreExec.{exec_in_phase, unless_awaiting}
unfoldable pub use tcc.CoreExec.{core_exec}
pub use tcc.DirDeliver.{Asks, Answer, Drops, Takes, Waits, load_unless_owned, judged, mark_unless_owned, mark_taken, unless_keeps}
unfoldable pub use tcc.DirDeliver.{dir_deliver, write_back, invalidations, invalidation_count, owned_by_committer, moved_on_if_settled}
unfoldable pub use tcc.DirDeliver.{ask_owner, load_request, abort, acknowledgement, mark, moved_on, probe, skip, came_home, invs_to}
unfoldable pub use tcc.DirDeliver.{is_invalidated, sum_below, home_words}
pub use tcc.Execute.{end_transaction, execute_need, marks_read, change_spilled, change_valid, load_spilled, load_valid}
unfoldable pub use tcc.Execute.{execute, load, partial_store, word_store, request_line, stored_in_buffer, miss, stored_in_frame, full_set}
unfoldable pub use tcc.Execute.{overflow, place, with_read_mark}
pub use tcc.Links.{in_flight}
unfoldable pub use tcc.Links.{sent_all}
pub use tcc.Seen.{Copy, numbers, copy_in, copy_of}
unfoldable pub use tcc.Seen.{seen, copies, copies_of, copies_on, home_copy, newest}
pub use tcc.Sends.{to, Sends, nothing, flush_of, to_dirs, when}
unfoldable pub use tcc.Sends.{marks_for, flush_line, write_back_line, skip_all, abort_written, probe_all}
pub use tcc.State.{World, CoreState, DirState, Halted, Ready, Solo, Phase, DoomedTid, Overflowing, Running, AwaitTid, Probing, Awaited}
pub use tcc.State.{Link}
unfoldable pub use tcc.State.{start, core_start, dir_start, vendor_start}
pub use tcc.Step.{History, and_noted, Stepped, recorded, and_then, if_in_flight, delivered, is_node, if_core_moves, if_core_takes, answered}
unfoldable pub use tcc.Step.{core_moves, step, core_takes, dir_takes, dir_asks, vendor_gives, insert_commit, run, next_history, run_from}
unfoldable pub use tcc.Step.{happens, names_nodes}
pub use Rattle.theorem_attempt.proofs.Lemmas.{hit-reads, attempts-fit, patched-small, start-follows}
pub use attempt.Follows.{Uses, Agrees, Reaches, FollowsIn, HasEnded, IsSmall, NeedFits, used_by, EndFits, Fits, used_at, used_in}
unfoldable pub use attempt.Follows.{sees}
pub use attempt.Marks.{UsesStand, AllStand, MarksFit}
pub use attempt.Views.{Views, uses_delivered, views_after, uses_executed, no_views, rolls_back}
unfoldable pub use attempt.Views.{views_from}
pub use Rattle.theorem_serial.proofs.Phrases.{nats, tested, grant_to, home_of, tid_at, to_dir, to_core, FromCore, FromDir}
pub use Rattle.theorem_serial.proofs.Phrases.{got, if_recorded, if_some, moved_by, taken_by, unnoted}
pub use own.Theorem.{Suits, AllHold, RunsAreSerial}
pub use own.Alone.{ReadFits, IsApart, OwingFits, PhaseFits}
pub use own.AtHomes.{MarkedAtHomes, AccessesAtHomes, MarksAtHomes, UsedAtHomes, WrittenInMemory}
pub use own.Commits.{end_after, CoresSerial, CommitsSerial, CoreSerial, SeenSerial}
unfoldable pub use own.Commits.{plain_start}
pub use own.Committing.{CommitsAreServed, KeptCommitting, CommittingOf}
pub use own.Copies.{KeptLoading, CommitsLine, SharerOf, is_fresh, AboveOf, KeptSharers, KeptTags, LoadingOf, KeptHomes, KeptAfter}
pub use own.Copies.{KeptLineOwners, KeptOwned, KeptAbove, KeptGets, AfterOf, GetsOf, HomeOf, IsUnknown, OwnedOf}
unfoldable pub use own.Copies.{keeps_unmodified, copies_with, holds_line, settled_in_line, stored_there}
pub use own.Count.{Asks as AsksTid, CommitsAbove, RepliesAbove, EmptyMarks, AnyResolve, AnyCommit, LinesAway, MarksAway, Resolves}
pub use own.Count.{CopyWord, CommitOf, CopyMask, InvsAway, Protocol, MarkMask, InvBelow, AnyGrant, Commits, CopyNot, InvWord, InvsNot}
pub use own.Count.{FillNot, Replies, LoadNot, InvMask, CopyOf, MarkOf, FillOf, Grants, LoadOf, GoneOf, Aborts, Probes, DataOf, NoWord}
pub use own.Count.{Skips, InvOf, Marks, AckOf, Kind, Invs, Acks, Any}
unfoldable pub use own.Count.{passes, live, among}
pub use own.Counted.{KeptCounted, CountedOf, CountsMarks}
pub use own.InMemory.{CommitsInMemory, AccessesInMemory, CopiesInMemory, FramesInMemory, LoadsInMemory, NeedInMemory, StaysInMemory}
pub use own.InMemory.{WordInMemory, AttemptInMemory}
pub use own.Insertion.{Again, CanInsert, Inserted, IsBelow}
unfoldable pub use own.Insertion.{commits_touch, orders_core, commits_store}
pub use own.Invariants.{Carried, first_state, Invariants, CarriedInMemory, CarriedViews, RunsCarry, RunsCarryViews, RunsStayInMemory}
pub use own.Invariants.{StartHasAll}
pub use own.Kept.{Kept, KeptTold, KeptRun, KeptAll}
pub use own.Laws.{Always, OwedInFlight, HoldsLast, MarksAreStored, NeverPasses, OneRequest, OneWay, Passed, Served, SparesItsCommitter}
pub use own.Marks.{KeptMarks, MarksOf, OneMark}
unfoldable pub use own.Marks.{marks_of, marked_by, has_marked, stores_line}
pub use own.MaskLaws.{MarksOfCommits, MarkedByServed, AlwaysSince}
pub use own.Masked.{KeptMasks, MaskedOf}
unfoldable pub use own.Masked.{wrong_marks}
pub use own.Named.{KeptNamed, NamedOf}
pub use own.OneCore.{OneCore, KeptCores, Words, executes, Empty, awaits_replies, executes as acting, rests}
pub use own.Owed.{KeptOwed, OwedAt, AtHomeOf}
unfoldable pub use own.Owed.{due}
pub use own.Owners.{Grant, granted_by, KeptOwners, SparesCommitter, LastGranted, then_grants, SparedOf, grant_for}
unfoldable pub use own.Owners.{holder, times, grants_from, IsRising, AreGranted, IsNumbered}
pub use own.Pairs.{Pair, after_move, after_answer, grant_taken, back_taken, out_taken, sum_of}
unfoldable pub use own.Pairs.{pair, share}
pub use own.Partly.{KeptWhole, WhollyOrHome}
pub use own.Probes.{may_commit, Reached, asks_dir, tid_of, KeptProbes, ReachedOf}
pub use own.SerialKept.{IsSerial, EventsKeepSerial, SeenFollows}
pub use own.Standing.{is_this, CommitsStand, IsBound, MarksWait}
unfoldable pub use own.Standing.{is_applied, is_settled}
pub use own.Stored.{KeptStored, SettledCommit, MarkedCommit, MarkedWith, StoredOf}
unfoldable pub use own.Stored.{stores_at, stores_in, stored_mask}
pub use own.Tids.{KeptTids, ResolvedAt, RequestOf, InsideOf}
unfoldable pub use own.Tids.{has_tid, opens, handled, part, waits_for_tid}
pub use own.Told.{commit_way, KeptCommitted, KeptLive}
unfoldable pub use own.Told.{live_way}
pub use own.Uses.{IsMemory, Aligned, AlignedNeed, SameAttempt, AgreeOnUsed, is_whole, reads_word, uses_next}
unfoldable pub use own.Uses.{stores_word, loads_word, uses, stores_whole}
pub use own.Values.{CopiesHave, EachUse, dooms, HomeWords, is_stale, IsDoomed, UnmodifiedWords, CopiesAbove, FilledWords, IsPassed}
pub use own.Values.{is_below, HaltedUsesNone, ViewedWords, ReadWords}
unfoldable pub use own.Values.{value_at, counts, word_copies, after_stores, after_commits}
pub use own.WayLaws.{Settled, AlwaysTold, is_given_up, AllWaysFit, CommittedWhereStored, GivenUpOnce, LiveIsOpen, SmallerAreGivenUp}
pub use own.WayLaws.{UntoldIsLive, UntoldWhereOpen, WorkIsReached, SmallerAreResolved, WaysFit, is_untold}
unfoldable pub use own.WayLaws.{given_up_by}
pub use own.Ways.{Ways, sent_by, Committed, ways_after, Skipped, Untold, first_ways, WayAt, Way, Aborted, KeptWays, then_ways, sends_for}
pub use own.Ways.{sends_of}
unfoldable pub use own.Ways.{part_in, ways_from, kept_in, told_by}
pub use own.Worked.{LoadsMarked, worked_at, KeptLoads, KeptWorked}
unfoldable pub use own.Worked.{loads_at}
unfoldable pub use own.Wrote.{names_line, wrote_line, wrote_mask, last_of, wrote}
