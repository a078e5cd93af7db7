use Rattle.std.proofs.Common.{◌∙◌, sym}
use Rattle.std.proofs.lemmas.Bool.{false≢true}
use Rattle.spec_cache.proofs.Looks.{not_held}
use Rattle.spec_cache.proofs.ways.Ways.seek.Goals as goal

pub unreachable-requires : goal.unreachable-requires
unreachable-requires g c = false≢true (sym (not_held (g.Self.Ways.held c.args.self.now) c.args.line.0 c.in-None.ensures.found) ∙ c.requires)
