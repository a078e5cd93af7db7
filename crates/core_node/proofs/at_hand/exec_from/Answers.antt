use Rattle.std.proofs.Common.{ap, sym, ◌∙◌, subst, OnOk}
use Rattle.image_load.specs.Contents.{started}
use Rattle.rv_code.specs.Machine.{program}
use Rattle.rv_code.specs.Served.{IsServed}
use Rattle.rv_exec.specs.Needs.{need_of}
use Rattle.rv_exec.specs.Running.{alone}
use Rattle.rules_maps.specs.Words.{line_of}
use Rattle.rules_tcc.specs.CoreExec.{core_exec}
use Rattle.rules_tcc.specs.Execute.{execute_need}
use Rattle.core_node.specs.AtHand.{Leaves, line_at, lined, need_fills}
use Rattle.core_node.specs.Answers.{IsBlocked}
use Rattle.core_node.specs.View.{awaited_of, core_of}
use Rattle.core_node.proofs.Lined.{blocked-some, exec-ready, need-some, ready-none, trap-fills}
use Rattle.core_node.proofs.at_hand.exec_from.Goals as goal

pub execute_with_line-requires : goal.execute_with_line-requires
execute_with_line-requires c =
    record {
      whole = c.requires.whole;
      served = subst (λ s. IsServed s.base s.ram c.plan-need.result) c.requires.same c.plan-need.ensures.served;
      exists = c.in-Some.ensures.exists;
      fills = sym c.in-Some.ensures.word;
    }

pub returns-in_default : goal.returns-in_default
unfolding core_of
returns-in_default c =
    let k = c.args.core.now in
    let p = program (started c.args.code.now) in
    let none = trap-fills k.config (core_of k) (p.need k.state) c.in_default.field-0 c.in_default.ensures in
    let same = ap (core_exec k.config p k.id.0) (ready-none k.config p (line_at c.args.ram.now) (core_of k) none) in
    record {
      does = subst (λ o. OnOk c.exec_plainly.result (Leaves o (core_of c.exec_plainly.new.core))) (sym same) c.exec_plainly.ensures.does;
      blocked = subst (IsBlocked c.exec_plainly.result) (sym same) c.exec_plainly.ensures.blocked;
      stays = c.exec_plainly.ensures.stays;
      unchanged = c.exec_plainly.ensures.unchanged;
    }

pub returns-in-None : goal.returns-in-None
unfolding core_of started
returns-in-None c =
    let k = c.args.core.now in
    let p = program (started c.args.code.now) in
    let r = c.exec_plainly-in-None.result in
    let none = ap (need_fills k.config (core_of k)) (c.in-Ok.ensures.need ∙ sym c.plan-need.ensures.need) ∙ sym c.in-None.ensures.word in
    let same = ap (core_exec k.config p k.id.0) (ready-none k.config p (line_at c.args.ram.now) (core_of k) none) in
    record {
      does = subst (λ o. OnOk r (Leaves o (core_of c.exec_plainly-in-None.new.core))) (sym same) c.exec_plainly-in-None.ensures.does;
      blocked = subst (IsBlocked r) (sym same) c.exec_plainly-in-None.ensures.blocked;
      stays = c.exec_plainly-in-None.ensures.stays;
      unchanged = c.exec_plainly-in-None.ensures.unchanged;
    }

pub returns-in-Some : goal.returns-in-Some
unfolding core_of started
returns-in-Some c =
    let k = c.args.core.now in
    let w = c.in-Some.w.0 in
    let r = c.execute_with_line.result in
    let n = need_of c.plan-need.result in
    let words = c.line_at-words.ensures ∙ ap (line_at c.args.ram.now) c.line_of_word.ensures in
    let fills = ap (need_fills k.config (core_of k)) (c.in-Ok.ensures.need ∙ sym c.plan-need.ensures.need) ∙ sym c.in-Some.ensures.word in
    let same = exec-ready k.config (started c.args.code.now) (line_at c.args.ram.now) k.id.0 (core_of k) c.in-Ok.inst n w
    c.requires.executes
    (ap awaited_of c.requires.idle) c.in-Ok.ensures c.plan-need.ensures.need fills
    ∙ ap (λ ws. execute_need k.config (alone c.in-Ok.inst) k.id.0 (lined k.config (line_of w) ws (core_of k)) n) (sym words) in
    record {
      does = subst (λ o. OnOk r (Leaves o (core_of c.execute_with_line.new.core))) (sym same) c.execute_with_line.ensures.does;
      blocked = subst (IsBlocked r) (sym same) (blocked-some r _
          (need-some k.config (alone c.in-Ok.inst) k.id.0 (core_of k) c.plan-need.result w c.line_at-words.result (sym
          c.in-Some.ensures.word))
          c.execute_with_line.ensures.cause);
      stays = c.execute_with_line.ensures.stays;
      unchanged = c.execute_with_line.ensures.unchanged;
    }
