-- The facts of the code as the facts that are defined.
use Rattle.tcc_base.specs.declared.access.Size.TheVariants.{Word}
use Rattle.rules_maps.specs.Bridge.{node_of}
use Rattle.tcc_msg.specs.Plain.{msg_of}
use Rattle.commit_engine.specs.Engine.{phase_of}
use Rattle.watch.specs.Facts as plain
use Rattle.watch.specs.declared.fact.Done.{Done}
use Rattle.watch.specs.declared.fact.Done.TheVariants as done
use Rattle.watch.specs.declared.fact.Fact.{Fact}
use Rattle.watch.specs.declared.fact.Fact.TheVariants as fact

abbrev pub done_of : Done → plain.Done
done_of done.Plainly = plain.Plainly
done_of (done.Loaded addr size value) = plain.Loaded addr size value
done_of (done.Stored addr size value) = plain.Stored addr size value
done_of (done.Changed addr old new) = plain.Changed addr Word old new
done_of (done.Printed byte) = plain.Printed byte
done_of done.Ended = plain.Ended
done_of (done.Halted code) = plain.HaltedWith code
done_of (done.Trapped cause) = plain.TrappedWith cause

abbrev pub fact_of : Fact → plain.Fact
fact_of (fact.Did c pc d) = plain.Did c.0 pc (done_of d)
fact_of (fact.Missed c pc addr l) = plain.Missed c.0 pc addr l.0
fact_of (fact.Overflowed c pc addr l) = plain.Overflowed c.0 pc addr l.0
fact_of (fact.Evicted c l dirty modified) = plain.Evicted c.0 l.0 dirty.0 modified.0
fact_of (fact.Took m) = plain.Took (msg_of m)
fact_of (fact.Dropped m) = plain.Dropped (msg_of m)
fact_of (fact.AskedOwner m) = plain.AskedOwner (msg_of m)
fact_of (fact.Violated c by t l words lost p) = plain.Violated c.0 by.0 t.0 l.0 words.0 lost (phase_of p)
fact_of (fact.GaveUp t c) = plain.GaveUp t.0 c.0
fact_of (fact.Committed t c n) = plain.Committed t.0 c.0 n
fact_of (fact.CameTo c p) = plain.CameTo c.0 (phase_of p)
fact_of (fact.Serves d t) = plain.Serves d.0 t.0
fact_of (fact.Sent src dst k m) = plain.Sent (node_of src) (node_of dst) k (msg_of m)
