-- The orders are executed, and the text shows the machine after them.
use Rattle.std.proofs.Common.{subst, sym}
use Rattle.std.proofs.lemmas.Result.{IfErr-weaker, IfOk-weaker}
use Rattle.image_load.specs.Contents.{started}
use Rattle.rv_plain.specs.PlainState.{plain_of}
use Rattle.tcc_cli.specs.Lists.{AreRefused}
use Rattle.tcc_cli.proofs.Executed.{orders-stuck}
use Rattle.tcc_cli.proofs.lists.execute_orders.Goals as goal

pub returns-in-Err-clause-refused : goal.returns-in-Err-clause-refused
returns-in-Err-clause-refused c =
    orders-stuck (started c.args.loaded.now) c.args.orders.now c.in-Err.fault c.of_text.result c.in-Err.ensures.fault c.of_text.ensures

pub returns-in-Ok-clause-executed : goal.returns-in-Ok-clause-executed
returns-in-Ok-clause-executed c = IfOk-weaker c.tell_executed.result _ _
    (λ f text. record {
      commits = c.in-Ok.executed.commits;
      machine = plain_of c.in-Ok.executed.machine;
      executed = c.in-Ok.ensures.executed;
      text_is = text;
    }) c.tell_executed.ensures.text

pub returns-in-Ok-clause-refused : goal.returns-in-Ok-clause-refused
returns-in-Ok-clause-refused c = IfErr-weaker c.tell_executed.result _ _
    (λ r is. subst (AreRefused (started c.args.loaded.now) c.args.orders.now) (sym is) tt) c.tell_executed.ensures.memory
