-- The line is at home here, or elsewhere.
use Rattle.std.proofs.Common.{◌≢◌, ◌++◌, ap, map, sym, ◌∙◌, rules}
use Rattle.rules_maps.specs.Shape.{home}
use Rattle.directory.specs.Data.{dir_of}
use Rattle.watch_state.specs.Directories.{line_record}
use Rattle.watch_state.specs.Plain.{record_of}
use Rattle.watch_state.proofs.ShownLines.{IsRead, elsewhere-at-home, here-at-home, line-shown}
use Rattle.watch_state.proofs.directories.add_line_at_home.Goals as goal

pub returns-in_ok-add_line : goal.returns-in_ok-add_line
returns-in_ok-add_line c = λ e.
    let sh = c.args.config.now in
    let l = c.args.line.0 in
    let ls = (dir_of e c.args.dir.now).lines in
    let read : IsRead ls l c.line_state-state.result c.sharers.result = record {
      owner = c.line_state-state.ensures.owner e;
      tag = c.line_state-state.ensures.tag e;
      asked = c.line_state-state.ensures.asked e;
      mark = c.line_state-state.ensures.mark e;
      sharers = c.sharers.ensures e;
    } in
    c.in_ok-add_line.ensures
    ∙ ap (λ rs. map record_of c.args.records.now ++ rs)
    (line-shown sh ls l c.home-home.result.0 c.cores.result c.line_state-state.result c.sharers.result read c.home-home.ensures.value
    c.cores.ensures.value
    ∙ sym (here-at-home sh c.args.id.0 l (line_record sh ls) (c.if-id-home.true ∙ c.home-home.ensures.value)))

pub returns-else-id-home : goal.returns-else-id-home
returns-else-id-home c = λ e.
    let sh = c.args.config.now in
    let ls = (dir_of e c.args.dir.now).lines in
    let away : c.args.id.0 ≢ home sh c.args.line.0 = λ q. c.if-id-home.false (q ∙ sym c.home-home.ensures.value) in
    rw (elsewhere-at-home sh c.args.id.0 c.args.line.0 (line_record sh ls) away) (search rules)
