-- Each meeting is told, and then what is left.
use Rattle.std.proofs.Common.{◌≡◌, ◌++◌, ◌-◌, ◌∙◌, ap, arith, drop, inl, inr, length, map, string_bytes, take}
use Rattle.watch_state.specs.Plain.{record_of}
use Rattle.watch_changes.specs.Changes.{Came, Changed, Left, Unchanged, all_gone, all_told, change_lines, changes}
use Rattle.watch_changes.specs.Plain.{meeting_of}
use Rattle.watch_changes.proofs.Told.{all-compared, all-reached, from, slice-rest, walk-on}
use Rattle.watch_changes.proofs.walking.push_changes.Goals as goal
use Rattle.watch_changes.proofs.walking.push_changes.Goals.{then-loop-was-test+else-is-after, else-loop-was-test}

pub loop-was-preserved-in-Unchanged : goal.loop-was-preserved-in-Unchanged
loop-was-preserved-in-Unchanged c = (
  omega (arith, c.loop-was-test.true),
  omega (arith, c.if-is-after.true),
  elim c.in-Unchanged.is [
    | inl e ↦
        walk-on c.args.before.now c.args.after.now c.loop-was.was c.loop-was.is _ _ (string_bytes c.loop-was.text)
        (string_bytes c.push_meeting.new.text) _ (meeting_of c.in_ok-push_meeting.field-0) Unchanged (ap (λ m. meeting_of m) e)
        c.loop-was-test.true c.if-is-after.true c.in_ok-push_meeting.ensures.met c.in_ok-push_meeting.ensures.told
        c.loop-was.invariant.2
    | inr e ↦
        walk-on c.args.before.now c.args.after.now c.loop-was.was c.loop-was.is _ _ (string_bytes c.loop-was.text)
        (string_bytes c.push_meeting.new.text) _ (meeting_of c.in_ok-push_meeting.field-0) Changed (ap (λ m. meeting_of m) e)
        c.loop-was-test.true c.if-is-after.true c.in_ok-push_meeting.ensures.met c.in_ok-push_meeting.ensures.told
        c.loop-was.invariant.2
  ],
)

pub loop-was-preserved-in-Left : goal.loop-was-preserved-in-Left
loop-was-preserved-in-Left c = (
  omega (arith, c.loop-was-test.true),
  c.loop-was.invariant.1,
  walk-on c.args.before.now c.args.after.now c.loop-was.was c.loop-was.is _ _ (string_bytes c.loop-was.text)
      (string_bytes c.push_meeting.new.text) _ (meeting_of c.in_ok-push_meeting.field-0) Left (ap (λ m. meeting_of m) c.in-Left.is)
      c.loop-was-test.true c.if-is-after.true c.in_ok-push_meeting.ensures.met c.in_ok-push_meeting.ensures.told
      c.loop-was.invariant.2,
)

pub loop-was-preserved : goal.loop-was-preserved
loop-was-preserved c = (
  c.loop-was.invariant.0,
  omega (arith, c.if-is-after.true),
  walk-on c.args.before.now c.args.after.now c.loop-was.was c.loop-was.is _ _ (string_bytes c.loop-was.text)
      (string_bytes c.push_meeting.new.text) _ (meeting_of c.in_ok-push_meeting.field-0) Came (ap (λ m. meeting_of m) c.in-Came.is)
      c.loop-was-test.true c.if-is-after.true c.in_ok-push_meeting.ensures.met c.in_ok-push_meeting.ensures.told
      c.loop-was.invariant.2,
)

pub returns : goal.returns
returns c =
    let os = c.args.before.now in
    let ns = c.args.after.now in
    let k = c.loop-was.was in
    let j = c.loop-was.is in
    let text = string_bytes c.loop-was.text in
    let gone = string_bytes c.push_all_gone.new.text in
    let all = string_bytes c.args.text.now ++ change_lines (changes (map record_of os) (map record_of ns)) in
    let left : gone ≡ text ++ change_lines (all_gone (from os k)) =
    c.in_ok-push_all_gone.ensures ∙ ap (λ rs. text ++ change_lines (all_gone (map record_of rs))) (slice-rest os k) in
    let rest : gone ++ change_lines (all_told (from ns j)) ≡ all =
    elim c.loop-was-test.branch [
      | then-loop-was-test+else-is-after w ↦
          all-reached os ns k j text gone all (omega (arith, w.if-is-after.false)) left c.loop-was.invariant.2
      | else-loop-was-test w ↦
          all-compared os ns k j text gone all (omega (arith, w.loop-was-test.false)) left c.loop-was.invariant.2
    ] in
    let whole : gone ++ change_lines (all_told (map record_of (take (length ns - j) (drop j ns)))) ≡ all =
    ap (λ rs. gone ++ change_lines (all_told (map record_of rs))) (slice-rest ns j) ∙ rest in
    rw whole at c.push_all_told.ensures
