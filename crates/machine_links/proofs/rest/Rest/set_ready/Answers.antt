-- As many are left.
use Rattle.std.proofs.Common.{sym, ◌∙◌}
use Rattle.machine_links.specs.Pieces.{flat}
use Rattle.machine_links.proofs.Pieces.{length-marked}
use Rattle.machine_links.proofs.rest.Rest.set_ready.Goals as goal

pub invariant_of-self : goal.invariant_of-self
invariant_of-self c = record {
  counted = c.self.invariant.counted ∙ sym (length-marked (flat c.self.inside.pieces.items) (flat c.mark_in.new.pieces.items) c.args.seq
      c.args.ready c.mark_in.result c.mark_in.ensures.some c.mark_in.ensures.unchanged);
  full = c.mark_in.ensures.full;
}
