-- What was read of the directory is what it knows.
use Rattle.std.proofs.Common.{◌≡◌, ◌∙◌, Bool, true, false, Some, None, not, refl}
use Rattle.std.specs.Prelude.{◌==◌, if◌then◌else◌}
use Rattle.std.specs.Option.{option_map}
use Rattle.net_core.specs.Machine.{settings_of, world_of}
use Rattle.live_core.specs.Plain.{plain_reason}
use Rattle.live_core.specs.Reasons.{Reason, Count}
use Rattle.live_core.specs.declared.reason.Reason.TheVariants as code
use Rattle.live_core.proofs.Tables.{commit-count, commit-early, tested}
use Rattle.live_core.proofs.waiting.commit_waits.Goals as goal

pub returns-then-serving-tid : goal.returns-then-serving-tid
returns-then-serving-tid c =
    commit-early (settings_of c.args.system.now) c.args.tid.0 c.args.count c.serving-serving.result.0
    ((world_of c.args.system.now).dirs c.args.dir.0) c.serving-serving.ensures c.if-serving-tid.true

turned : (b : Bool) (r : Reason) → (if not b then Some r else None) ≡ (if b then None else Some r)
turned true r = refl
turned false r = refl

pub returns : goal.returns
returns c =
    let s = (world_of c.args.system.now).dirs c.args.dir.0 in
    let marked = c.marked_lines-marked.result in
    commit-count (settings_of c.args.system.now) c.args.tid.0 c.args.count c.serving-serving.result.0 marked s
    (option_map plain_reason c.then_some.result) c.serving-serving.ensures c.if-serving-tid.false c.marked_lines-marked.ensures
    (tested c.then_some.result (not (marked == c.args.count)) (code.Count marked) c.then_some.ensures
    ∙ turned (marked == c.args.count) (Count marked))
