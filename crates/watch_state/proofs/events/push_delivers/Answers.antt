-- Each source in turn.
use Rattle.std.proofs.Common.{◌≤◌, ◌++◌, length, string_bytes, ap, sym, ◌∙◌, arith}
use Rattle.std.specs.Prelude.{slice_get}
use Rattle.std.specs.List.{flat_map}
use Rattle.std.proofs.lemmas.List.{take_all}
use Rattle.tcc_base.specs.Settings.{Settings}
use Rattle.base_lemmas.proofs.Lemmas.{none-past}
use Rattle.rules_maps.specs.Bridge.{node_of}
use Rattle.rules_tcc.specs.Useful.{nodes}
use Rattle.net_core.specs.Machine.{program_of, settings_of, world_of}
use Rattle.watch_state.specs.Events.{delivers_from}
use Rattle.watch_state.specs.Text.{events_text}
use Rattle.watch_state.proofs.Flying.{text_of_event}
use Rattle.watch_state.proofs.Parts.{delivers-parts}
use Rattle.watch_state.proofs.Listed.{flats-listed}
use Rattle.watch_state.proofs.events.push_delivers.Goals as goal
use Rattle.watch_state.proofs.events.push_delivers.Goals.{in-Some+in_ok-push_delivers_from, in_default}

pub loop-place-preserved : goal.loop-place-preserved
unfolding events_text
loop-place-preserved c =
    let m = c.args.system.now in
    let k = c.loop-place.place in
    elim c.match-node_at.branch [
      | in-Some+in_ok-push_delivers_from b ↦
          flats-listed (text_of_event m) (delivers_from (settings_of m) (world_of m)) (nodes (settings_of m)) k
          (node_of b.in-Some.src)
          (string_bytes c.args.text.now) (string_bytes c.loop-place.text) (string_bytes c.match-node_at.text)
          (sym (b.in-Some.ensures ∙ ap (λ s. slice_get (nodes s) k) c.config-config.ensures)) c.loop-place.invariant
          (ap string_bytes b.text-is ∙ b.in_ok-push_delivers_from.ensures)
      | in_default b ↦
          absurd (none-past (nodes c.config-config.result.now) k (sym b.in_default.ensures)
          (omega (arith, c.node_count-place-end.ensures, c.loop-place-test.true)))
    ]

pub returns : goal.returns
returns c =
    let m = c.args.system.now in
    let sh = settings_of m in
    let w = world_of m in
    let old = string_bytes c.args.text.now in
    let bound = c.node_count-place-end.ensures ∙ ap (λ (s : Settings). length (nodes s)) c.config-config.ensures in
    let all : length (nodes sh) ≤ c.loop-place.place = omega (arith, bound, c.loop-place-test.false) in
    c.loop-place.invariant
    ∙ ap (λ ns. old ++ events_text sh (program_of m) w (flat_map (delivers_from sh w) ns)) (take_all c.loop-place.place (nodes sh) all)
    ∙ ap (λ es. old ++ events_text sh (program_of m) w es) (sym (delivers-parts sh w))
