-- What other crates may cite: the laws that they stand on, and lemmas on counts, grants and commits.
pub use Rattle.theorem_serial.proofs.Counts.DirOutcome.{AsksOwner, TakesAbort, TakesAck, TakesCommit, TakesCopy, TakesLoad, TakesMark}
pub use Rattle.theorem_serial.proofs.Counts.DirOutcome.{ToLoad, ToMark, Wants as WantsOwned, outcome}
pub use Rattle.theorem_serial.proofs.Counts.DirOutcome.{Outcome as DirOutcome, TakesProbe, TakesSkip}
pub use Rattle.theorem_serial.proofs.Counts.Links.{AllPairs, pairs_asks, pairs_back, pairs_dir, pairs_grant, pairs_move}
pub use Rattle.theorem_serial.proofs.Counts.Links.{among-append, live-sends, live-takes, none-taken, num-one, total-le, total-same}
pub use Rattle.theorem_serial.proofs.Counts.StepCases.{OfAnswer, gives_to, node_cases, pairs_vendor}
pub use Rattle.theorem_serial.proofs.Marks.CommitMasks.{total-num}
pub use Rattle.theorem_serial.proofs.Marks.DirRecords.{Marked, MarkedBy, Stays, Clears, Skipped, Marks, dir-marked}
pub use Rattle.theorem_serial.proofs.Memory.CoreHomes.{Homely, HomelyOut, homely-none, homely-those, homes-exec, homes-evict, homes-grant}
pub use Rattle.theorem_serial.proofs.Memory.CoreHomes.{homes-back, CoreInMemory, OutInMemory, exec-memory, in-memory as access-in_memory}
pub use Rattle.theorem_serial.proofs.Memory.CoreHomes.{DirtyInMemory, exec-copies, evict-copies, back-copies, line-found}
pub use Rattle.theorem_serial.proofs.Memory.HomesKept.{one-data, one-fill, one-inv, one-reply, one-to}
pub use Rattle.theorem_serial.proofs.Memory.HomesKept.{start-memory, evict-memory, grant-memory, back-memory}
pub use Rattle.theorem_serial.proofs.Memory.CoreHomes.{SendsInMemory, exec-sends, evict-sends, grant-sent, back-sends, line-has}
pub use Rattle.theorem_serial.proofs.OneCore.CoreCloses.{start-cores}
pub use Rattle.theorem_serial.proofs.OneCore.CoreSteps.{evict-steady, fill-steady, data-steady, Hurt, Unhurt, Rolled, Doomed, Aborted}
pub use Rattle.theorem_serial.proofs.OneCore.CoreSteps.{Gave_up}
pub use Rattle.theorem_serial.proofs.OneCore.CoreSteps.{Invalidated, invalidate-cases, Replied, Ignored, Probed, Left_alone, reply-cases}
pub use Rattle.theorem_serial.proofs.OneCore.Outcomes.{Did, Room_wanted, Ends_run, Ends_alone, Commits_now, each-exec, out}
pub use Rattle.theorem_serial.proofs.OneCore.Outcomes.{Acting, Acts, Idles, Finds, Reads, Buffers, Frames, Frames_anew, Misses, Misses_anew}
pub use Rattle.theorem_serial.proofs.OneCore.Outcomes.{Given, Given_doomed, Given_none, Given_room, Granted as GrantedTo, granted}
pub use Rattle.theorem_serial.proofs.OneCore.Outcomes.{granted_said}
pub use Rattle.theorem_serial.proofs.OneCore.Outcomes.{each-back, each-grant, Fills, Fills_none, Hands_out, Heard, Hurt_alone, Hurt_none}
pub use Rattle.theorem_serial.proofs.OneCore.Outcomes.{Hurt_probing, Hurt_running, Hurt_waiting, Last_probing, Last_room, Reply_probing}
pub use Rattle.theorem_serial.proofs.OneCore.Outcomes.{Reply_room, heard, heard-quiet, said, stores-access}
pub use Rattle.theorem_serial.proofs.OneCore.Said.{Aborts_all, Answers, Empties, Probes_all, Silent, Skips_all, Tells_alone, Tells_commit}
pub use Rattle.theorem_serial.proofs.OneCore.Said.{quiet}
pub use Rattle.theorem_serial.proofs.OneCore.Said.{Wants as WantsTid}
pub use Rattle.theorem_serial.proofs.Phrases.{FromCore, FromDir, got, moved_by, taken_by, unnoted}
pub use Rattle.theorem_serial.proofs.OneCore.CoreSteps.{Steady, did-steady}
pub use Rattle.theorem_serial.proofs.OneCore.CoreCloses.{exec_one, placed-held}
pub use Rattle.theorem_serial.proofs.OneCore.CoreCloses.{evict_one, grant_one, back_one}
pub use Rattle.theorem_serial.proofs.Run.AllCarried.{runs_are_serial}
pub use Rattle.theorem_serial.proofs.Run.FactsOfRuns.{runs_carry, runs_stay_in_memory}
pub use Rattle.theorem_serial.proofs.Run.AllInvariants.{commits_are_by_cores}
pub use Rattle.theorem_serial.proofs.Serving.OnceSteps.{FromCores, Once, step-anew, step-once}
pub use Rattle.theorem_serial.proofs.Serving.OwnerSteps.{grant-any, start-owners}
pub use Rattle.theorem_serial.proofs.Run.AllInvariants.{run-owners}
pub use Rattle.theorem_serial.proofs.Tids.Commits.{granted-once, numbered-least, numbered-most, last-most, granted-at, only-one}
pub use Rattle.theorem_serial.proofs.Tids.Commits.{KeepsHolder, none as no_grant, noted_tid, holder-exec, holder-evict, holder-grant}
pub use Rattle.theorem_serial.proofs.Tids.Commits.{holder-back}
pub use Rattle.theorem_serial.proofs.Tids.Commits.{tid-after}
pub use Rattle.theorem_serial.proofs.Tids.TidSteps.{live-some}
pub use Rattle.theorem_serial.proofs.Values.ModifiedWords.{times-listed}
pub use Rattle.theorem_serial.proofs.Ways.WaySteps.{some-part}
pub use Rattle.theorem_serial.proofs.Views.ViewDirs.{is-lt}
pub use Rattle.theorem_serial.proofs.Views.ViewFacts.{own-holder}
