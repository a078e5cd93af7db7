-- All that the protocol's rules compute with: to unfold `computed` is to unfold all of it.
use Rattle.rules_maps.specs.Cache.{empty_cache, is_marked, way_marked, free_way, all_marked, is_modified, is_dirty, modified_mask}
use Rattle.rules_maps.specs.Cache.{dirty_mask, dirty_words, first_of_line, dirty_tag, dirty_copy, written_lines, marks_by_home, writes_at}
use Rattle.rules_maps.specs.Cache.{reads_at, keeps}
use Rattle.rules_maps.specs.CacheChange.{marked, stored as cachechange-stored, placed_at, placed, filled, invalidated, cleaned}
use Rattle.rules_maps.specs.CacheChange.{evicted_line, evicted, rolled_back, read_cleared, committed as cachechange-committed, word_dropped}
use Rattle.rules_maps.specs.CacheChange.{words_dropped}
use Rattle.rules_maps.specs.CacheLook.{look_line, look_value, look_load, look_store, reads_masked}
use Rattle.rules_maps.specs.Judge.{judge}
use Rattle.rules_maps.specs.Lines.{no_lines, with_sharer, with_owner, with_tag, with_asked, with_mark, unmarked}
use Rattle.rules_maps.specs.Masks.{has, mask_of, hit, masked}
use Rattle.rules_maps.specs.Serving.{first_serving, is_skipped, serve_from, advance, skip_at, kept, skipped}
use Rattle.rules_maps.specs.Spilled.{none_spilled, spill, spill_line, holds, spilled_mask, spilled_words, spilled_line, drained}
use Rattle.rules_maps.specs.Words.{any_below, all_below, count_below, those, lowest, eight, any_word}
use Rattle.rules_program.specs.Ram.{word_of, unit_of, part, patched, loaded, stored as ram-stored, flat}
use Rattle.rules_tcc.specs.Attempt.{one_more_instruction, finished, roll_back}
use Rattle.rules_tcc.specs.Commit.{noted, committed_core, commit_sends, with_last_commit, commit, is_written, written_mask}
use Rattle.rules_tcc.specs.Commit.{solo_writes_at, solo_marks_or_skip, solo_write_backs, solo_sends, solo_commit}
use Rattle.rules_tcc.specs.CoreDeliver.{is_probed, grant_sends, grant, probe_reply, fill as coredeliver-fill, data_request, if_violated}
use Rattle.rules_tcc.specs.CoreDeliver.{words_invalidated, is_violated, acknowledged, invalidate, core_deliver}
use Rattle.rules_tcc.specs.CoreEvict.{core_evict}
use Rattle.rules_tcc.specs.CoreExec.{core_exec}
use Rattle.rules_tcc.specs.DirDeliver.{moved_on, skip, abort, probe, ask_owner, home_words, load_request, mark, is_invalidated, invs_to}
use Rattle.rules_tcc.specs.DirDeliver.{invalidations, sum_below, invalidation_count, owned_by_committer, moved_on_if_settled, dir_commit}
use Rattle.rules_tcc.specs.DirDeliver.{acknowledgement}
use Rattle.rules_tcc.specs.DirDeliver.{came_home, write_back, dir_deliver}
use Rattle.rules_tcc.specs.Execute.{request_line, place, overflow, full_set, miss, with_read_mark, load, stored_in_buffer, stored_in_frame}
use Rattle.rules_tcc.specs.Execute.{word_store, partial_store}
use Rattle.rules_tcc.specs.Execute.{execute}
use Rattle.rules_tcc.specs.Links.{sent_all}
use Rattle.rules_tcc.specs.Sends.{write_back_line, flush_line, skip_all, probe_all, abort_written, marks_for}
use Rattle.rules_tcc.specs.State.{core_start, dir_start, vendor_start, start}
use Rattle.rules_tcc.specs.Step.{names_nodes, happens, core_moves, core_takes, dir_takes, dir_asks, vendor_gives, step, is_enabled}
use Rattle.rules_tcc.specs.Step.{insert_commit, next_history, run_from, run}
use Rattle.rules_tcc.specs.Seen.{copies_on, copies_of, copies, newest, home_copy, seen}
use Rattle.rules_tcc.specs.Useful.{nodes, execs, evicts, delivers, useful, is_useful, room, room_for_line, room_for_word, room_for_store}

unfoldable pub computed : Type 0
unfolding empty_cache is_marked way_marked free_way all_marked is_modified is_dirty modified_mask dirty_mask dirty_words
    first_of_line dirty_tag dirty_copy written_lines marks_by_home writes_at reads_at keeps marked cachechange-stored placed_at
    placed filled invalidated cleaned evicted_line evicted rolled_back read_cleared cachechange-committed word_dropped words_dropped
    look_line look_value look_load look_store reads_masked judge no_lines with_sharer with_owner with_tag with_asked with_mark
    unmarked has mask_of hit masked first_serving is_skipped serve_from advance skip_at kept skipped none_spilled spill spill_line
    holds spilled_mask spilled_words spilled_line drained any_below all_below count_below those lowest eight any_word word_of
    unit_of part patched loaded ram-stored flat one_more_instruction finished roll_back noted committed_core commit_sends with_last_commit
    commit is_written written_mask solo_writes_at solo_marks_or_skip solo_write_backs solo_sends solo_commit is_probed grant_sends
    grant
    probe_reply coredeliver-fill data_request if_violated words_invalidated is_violated acknowledged invalidate core_deliver core_evict
    core_exec moved_on skip abort probe ask_owner home_words load_request mark is_invalidated invs_to invalidations sum_below
    invalidation_count
    owned_by_committer moved_on_if_settled dir_commit acknowledgement came_home write_back dir_deliver request_line place
    overflow full_set miss
    with_read_mark load stored_in_buffer stored_in_frame word_store partial_store execute sent_all write_back_line flush_line skip_all
    probe_all
    abort_written
    marks_for core_start dir_start vendor_start start names_nodes happens core_moves core_takes dir_takes dir_asks vendor_gives step
    is_enabled insert_commit next_history run_from run copies_on copies_of copies newest home_copy seen room_for_line room_for_word
    room_for_store room is_useful nodes execs evicts delivers useful
computed = Unit {0}
