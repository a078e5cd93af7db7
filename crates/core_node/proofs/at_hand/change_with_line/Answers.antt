use Rattle.std.proofs.Common.{ap, sym, ◌∙◌}
use Rattle.rules_maps.specs.Spilled.{holds}
use Rattle.rules_maps.specs.Words.{line_of}
use Rattle.rules_tcc.specs.Execute.{stored_in_buffer, stored_in_frame}
use Rattle.rules_tcc.specs.Attempt.{finished, new_word}
use Rattle.rules_tcc.specs.State.{CoreState}
use Rattle.rv_exec.specs.Needs.{need_of}
use Rattle.rv_exec.specs.Running.{alone}
use Rattle.core_node.specs.AtHand.{changed, lined}
use Rattle.core_node.specs.View.{core_of}
use Rattle.core_node.proofs.Changed.{framed_finished}
use Rattle.core_node.proofs.Finished.{cache-finished}
use Rattle.core_node.proofs.Lined.{changed-buffered, changed-framed, lined-also, lined-as, lined-buffered, lined-finished, miss-after}
use Rattle.core_node.proofs.at_hand.change_with_line.Goals as goal

pub fill_frame-requires-clause-found : goal.fill_frame-requires-clause-found
unfolding core_of stored_in_buffer
fill_frame-requires-clause-found c =
    let k = c.args.core.now in
    let m = c.finish_buffered.new.core in
    let e = c.in_ok-finish_buffered.ensures in
    rw c.line_of_word-line.ensures (miss-after k.config m.config c.args.w.0 (core_of k) (core_of m) c.requires.fills e.stays.config
    (ap (λ (s : CoreState). s.cache) e.does ∙ cache-finished (alone c.args.inst.now) (need_of c.args.need) _ _))

pub fill_frame-requires-2-clause-found : goal.fill_frame-requires-2-clause-found
unfolding core_of
fill_frame-requires-2-clause-found c =
    let k = c.args.core.now in
    let m = c.finish.new.core in
    rw c.line_of_word-line.ensures (miss-after k.config m.config c.args.w.0 (core_of k) (core_of m) c.requires.fills
    c.in-Ok.ensures.stays.config
    (ap (λ (s : CoreState). s.cache) c.in-Ok.ensures.does ∙ cache-finished (alone c.args.inst.now) (need_of c.args.need) _ (core_of k)))

pub returns-then-holds-clause-does : goal.returns-then-holds-clause-does
unfolding core_of
returns-then-holds-clause-does c =
    let k = c.args.core.now in
    let m = c.finish_buffered.new.core in
    let e = c.in_ok-finish_buffered.ensures in
    let w = c.args.w.0 in
    let ws = c.args.words.now in
    let x = c.word_of_line-word.result in
    let p = alone c.args.inst.now in
    let n = need_of c.args.need in
    let held = ap (holds (core_of k).spilled) (sym c.line_of_word-line.ensures) ∙ sym c.holds.ensures ∙ c.if-holds.true in
    lined-as k.config m.config (line_of w) _ ws _ (core_of m) (core_of c.fill_frame.new.core) c.fill_frame.ensures.does
    c.line_of_word-line.ensures e.stays.config e.does
    ∙ lined-finished k.config (line_of w) ws p n x (stored_in_buffer w c.new_word-value.result (core_of k))
    ∙ ap (finished p n x) (lined-buffered k.config (line_of w) ws w c.new_word-value.result (core_of k))
    ∙ ap (λ y. finished p n x (stored_in_buffer w y (lined k.config (line_of w) ws (core_of k)))) c.new_word-value.ensures
    ∙ sym (changed-buffered k.config (line_of w) ws p n w x (core_of k) held)
    ∙ ap (λ y. changed p n w y (lined k.config (line_of w) ws (core_of k))) c.word_of_line-word.ensures

pub returns-clause-does : goal.returns-clause-does
unfolding core_of
returns-clause-does c =
    let k = c.args.core.now in
    let m = c.finish.new.core in
    let w = c.args.w.0 in
    let ws = c.args.words.now in
    let x = c.word_of_line-word.result in
    let p = alone c.args.inst.now in
    let n = need_of c.args.need in
    let v = c.new_word-value.result in
    let also = c.reads_too-also.result in
    let held = ap (holds (core_of k).spilled) (sym c.line_of_word-line.ensures) ∙ sym c.holds.ensures ∙ c.if-holds.false in
    c.store_framed.ensures.does.core
    ∙ ap (stored_in_frame w v also) (lined-as k.config m.config (line_of w) _ ws _ (core_of m) (core_of c.fill_frame-2.new.core)
    c.fill_frame-2.ensures.does c.line_of_word-line.ensures c.in-Ok.ensures.stays.config c.in-Ok.ensures.does
    ∙ lined-finished k.config (line_of w) ws p n x (core_of k))
    ∙ framed_finished p n x w v also (lined k.config (line_of w) ws (core_of k))
    ∙ ap (λ y. finished p n x (stored_in_frame w y also (lined k.config (line_of w) ws (core_of k)))) c.new_word-value.ensures
    ∙ ap (λ b. finished p n x (stored_in_frame w (new_word n x) b (lined k.config (line_of w) ws (core_of k))))
    (c.reads_too-also.ensures ∙ sym (lined-also k.config (line_of w) ws w (core_of k)))
    ∙ sym (changed-framed k.config (line_of w) ws p n w x (core_of k) held)
    ∙ ap (λ y. changed p n w y (lined k.config (line_of w) ws (core_of k))) c.word_of_line-word.ensures
