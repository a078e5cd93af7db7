-- The list that the file holds.
use Rattle.std.proofs.Common.{ap}
use Rattle.std.proofs.lemmas.Result.{IfErr-weaker, IfOk-weaker}
use Rattle.tcc_cli.proofs.Executed.{list-read, list-stuck, list-unread}
use Rattle.tcc_cli.proofs.lists.execute.Goals as goal

pub returns-in-Err-clause-refused : goal.returns-in-Err-clause-refused
returns-in-Err-clause-refused c =
    list-unread c.args.loaded.now c.config.result.now.cores c.args.bytes.now c.in-Err.fault c.of_text.result
    (ap (λ s. s.cores) c.config.ensures) c.in-Err.ensures.fault c.of_text.ensures

pub returns-in-Ok-clause-refused : goal.returns-in-Ok-clause-refused
returns-in-Ok-clause-refused c = IfErr-weaker c.execute_orders.result _ _
    (λ r stuck. list-stuck c.args.loaded.now c.config.result.now.cores c.args.bytes.now c.in-Ok.orders.items c.deref.result.now r
    (ap (λ s. s.cores) c.config.ensures) c.in-Ok.ensures.found c.deref.ensures.value stuck) c.execute_orders.ensures.refused

pub returns-in-Ok-clause-executed : goal.returns-in-Ok-clause-executed
returns-in-Ok-clause-executed c = IfOk-weaker c.execute_orders.result _ _
    (λ f h. record {
      orders = c.deref.result.now;
      commits = h.commits;
      machine = h.machine;
      list = list-read c.args.loaded.now c.config.result.now.cores c.args.bytes.now c.in-Ok.orders.items c.deref.result.now
          (ap (λ s. s.cores) c.config.ensures) c.in-Ok.ensures.found c.deref.ensures.value;
      executed = h.executed;
      text_is = h.text_is;
    }) c.execute_orders.ensures.executed
