-- The state is that of the run, whichever number of steps it is of.
use Rattle.std.proofs.Common.{◌∙◌, Some, ap}
use Rattle.std.specs.String.{string_bytes}
use Rattle.net_core.specs.Machine.{history_of, start_of}
use Rattle.watch_state.specs.Text.{state_text}
use Rattle.tcc_cli.proofs.GoingOn.{state-told}
use Rattle.tcc_cli.proofs.long.state_at.Goals as goal

pub returns : goal.returns
returns c =
    let m = c.system-2.ensures in
    let events = c.events.ensures.count ∙ ap (λ n. n.events) c.system.ensures in
    state-told c.args.loaded.now c.args.run.now c.done-done.result c.args.events (Some (c.args.run.now.seed, c.args.asked))
    (string_bytes c.in_ok-text.text) c.done-done.ensures.counted c.requires.code
    (c.in_ok-text.ensures ∙ (λ i. state_text (start_of (m i)) c.done-done.result (events i) (history_of (m i))))
