use Rattle.std.proofs.Common.{ap, sym, ◌∙◌}
use Rattle.rules_maps.specs.Spilled.{holds}
use Rattle.rv_exec.specs.Needs.{need_of}
use Rattle.rv_exec.specs.Running.{alone}
use Rattle.overflow_buf.specs.Kept.{spilled}
use Rattle.core_node.specs.View.{core_of}
use Rattle.core_node.proofs.Blocked.{ok_did, ok_silently}
use Rattle.core_node.proofs.Stored.{change_buffered, change_framed}
use Rattle.core_node.proofs.changing.change_valid.Goals as goal

pub returns-then-holds-clause-does : goal.returns-then-holds-clause-does
unfolding core_of
returns-then-holds-clause-does c =
    let k = c.args.core.now in
    let h = ap (holds (spilled k.spilled)) (sym c.line_of_word.ensures) ∙ sym c.holds.ensures ∙ c.if-holds.true in
    let same = change_buffered k.config (alone c.args.inst.now) (need_of c.args.need) c.args.w.0 c.args.word (core_of k) h in
    ok_silently c.finish_buffered.result _ _ 1 c.args.out.now c.finish_buffered.new.core same
    (rw (c.new_word-value.ensures) at c.finish_buffered.ensures.does)

pub returns-clause-does : goal.returns-clause-does
unfolding core_of
returns-clause-does c =
    let k = c.args.core.now in
    let h = ap (holds (spilled k.spilled)) (sym c.line_of_word.ensures) ∙ sym c.holds.ensures ∙ c.if-holds.false in
    let same = change_framed k.config (alone c.args.inst.now) (need_of c.args.need) c.args.w.0 c.args.word (core_of k) h in
    ok_did c.finish_framed.result _ _ 1 c.args.out.now c.finish_framed.new.out c.finish_framed.new.core same
    (rw (c.new_word-value.ensures, c.reads_too-also.ensures) at c.finish_framed.ensures.does)
