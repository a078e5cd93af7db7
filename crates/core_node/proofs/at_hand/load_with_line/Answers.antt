use Rattle.std.proofs.Common.{is_some, refl, ap, ◌∙◌}
use Rattle.rules_maps.specs.Words.{line_of}
use Rattle.rules_tcc.specs.Attempt.{finished}
use Rattle.rules_tcc.specs.Execute.{with_read_mark}
use Rattle.rules_tcc.specs.State.{CoreState}
use Rattle.rv_exec.specs.Needs.{need_of}
use Rattle.rv_exec.specs.Running.{alone}
use Rattle.core_node.specs.AtHand.{lined}
use Rattle.core_node.specs.View.{core_of}
use Rattle.core_node.proofs.Finished.{cache-finished}
use Rattle.core_node.proofs.Lined.{lined-as, lined-finished, lined-value, miss-after}
use Rattle.core_node.proofs.Loaded.{finished_used}
use Rattle.core_node.proofs.at_hand.load_with_line.Goals as goal

pub fill_frame-requires-clause-found : goal.fill_frame-requires-clause-found
unfolding core_of
fill_frame-requires-clause-found c =
    let k = c.args.core.now in
    let m = c.finish.new.core in
    rw c.line_of_word.ensures (miss-after k.config m.config c.args.w.0 (core_of k) (core_of m) c.requires.fills c.in-Ok.ensures.stays.config
    (ap (λ (s : CoreState). s.cache) c.in-Ok.ensures.does ∙ cache-finished (alone c.args.inst.now) (need_of c.args.need) _ (core_of k)))

pub mark_used-requires-clause-valid : goal.mark_used-requires-clause-valid
unfolding core_of
mark_used-requires-clause-valid c =
    let m = c.finish.new.core in
    let w = c.args.w.0 in
    let here = lined-as m.config m.config (line_of w) _ c.args.words.now (core_of m) (core_of m) (core_of c.fill_frame.new.core)
    c.fill_frame.ensures.does c.line_of_word.ensures refl refl in
    ap (λ (s : CoreState). is_some (s.cache.value w)) here ∙ ap is_some (lined-value m.config w c.args.words.now (core_of m))

pub returns-clause-does : goal.returns-clause-does
unfolding core_of
returns-clause-does c =
    let k = c.args.core.now in
    let m = c.finish.new.core in
    let w = c.args.w.0 in
    let p = alone c.args.inst.now in
    let n = need_of c.args.need in
    let here = lined-as k.config m.config (line_of w) _ c.args.words.now _ (core_of m) (core_of c.fill_frame.new.core)
    c.fill_frame.ensures.does c.line_of_word.ensures c.in-Ok.ensures.stays.config c.in-Ok.ensures.does in
    c.mark_used.ensures.does
    ∙ ap (with_read_mark w) (here ∙ lined-finished k.config (line_of w) c.args.words.now p n _ (core_of k))
    ∙ finished_used p n _ w _
    ∙ ap (λ x. finished p n x (with_read_mark w (lined k.config (line_of w) c.args.words.now (core_of k)))) c.word_of_line-word.ensures
