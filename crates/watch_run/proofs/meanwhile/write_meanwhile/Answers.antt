-- The rows, or what commits print.
use Rattle.watch_run.proofs.meanwhile.write_meanwhile.Goals as goal

pub returns-in-Rows-clause-broken : goal.returns-in-Rows-clause-broken
returns-in-Rows-clause-broken g c = rw c.in-Rows.is c.write_rows.ensures.broken

pub returns-in-Consoles-clause-broken : goal.returns-in-Consoles-clause-broken
returns-in-Consoles-clause-broken g c = rw c.in-Consoles.is c.write_consoles.ensures.broken
