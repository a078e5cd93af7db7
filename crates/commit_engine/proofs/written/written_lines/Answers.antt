use Rattle.commit_engine.proofs.written.written_lines.Goals as goal

pub returns-clause-each : goal.returns-clause-each
returns-clause-each c = λ l b w. (c.put_in_order.ensures.same l).1 (c.in_ok-lines.ensures.each l b w)

pub returns-clause-only : goal.returns-clause-only
returns-clause-only c = λ l h. c.in_ok-lines.ensures.only l ((c.put_in_order.ensures.same l).0 h)
