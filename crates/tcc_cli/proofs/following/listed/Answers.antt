-- What the list names, and why it is refused.
use Rattle.std.proofs.Common.{◌∙◌, ap, sym}
use Rattle.image_load.specs.Contents.{started}
use Rattle.rv_plain.specs.PlainState.{plain_of}
use Rattle.tcc_cli.proofs.Followed.{was-listed}
use Rattle.tcc_cli.proofs.Executed.{list-read, list-stuck, list-unread, orders-stuck}
use Rattle.tcc_cli.proofs.following.listed.Goals as goal

pub returns-in-Err-clause-refused : goal.returns-in-Err-clause-refused
returns-in-Err-clause-refused c =
    list-unread c.args.loaded.now c.config.result.now.cores c.args.bytes.now c.in-Err.fault c.of_text.result
    (ap (λ s. s.cores) c.config.ensures) c.in-Err.ensures.fault c.of_text.ensures

pub returns-in-Err-run_orders-clause-refused : goal.returns-in-Err-run_orders-clause-refused
returns-in-Err-run_orders-clause-refused c =
    list-stuck c.args.loaded.now c.config.result.now.cores c.args.bytes.now c.in-Ok.listed.items c.deref.result.now
    c.of_text-in-Err-run_orders.result (ap (λ s. s.cores) c.config.ensures) c.in-Ok.ensures.found c.deref.ensures.value
    (orders-stuck (started c.args.loaded.now) c.deref.result.now c.in-Err-run_orders.fault c.of_text-in-Err-run_orders.result
    c.in-Err-run_orders.ensures.fault c.of_text-in-Err-run_orders.ensures)

pub returns-in-Ok-orders_of-clause-listed : goal.returns-in-Ok-orders_of-clause-listed
returns-in-Ok-orders_of-clause-listed c =
    was-listed c.args.loaded.now c.args.bytes.now c.deref.result.now c.deref-2.result.now c.in-Ok-orders_of.orders
    (plain_of c.in-Ok-run_orders.field-0.machine, c.in-Ok-run_orders.field-0.commits)
    (list-read c.args.loaded.now c.config.result.now.cores c.args.bytes.now c.in-Ok.listed.items c.deref.result.now
    (ap (λ s. s.cores) c.config.ensures) c.in-Ok.ensures.found c.deref.ensures.value)
    (c.deref-2.ensures.value ∙ sym c.deref.ensures.value) c.in-Ok-run_orders.ensures.executed c.in-Ok-orders_of.ensures
