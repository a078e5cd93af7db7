use Rattle.std.proofs.Common.{◌∙◌, sym}
use Rattle.spec_cache.proofs.Looks.{look_line-free, look_line-marked, look_line-unmarked}
use Rattle.spec_cache.proofs.ways.Ways.room_for.Goals as goal

pub returns-then-is_some : goal.returns-then-is_some
returns-then-is_some g c =
    look_line-free (g.Self.Ways.held c.args.self.now) c.args.line.0 c.requires c.set_of_line-set.result c.set_of_line-set.ensures.value
    c.free_way.result c.free_way.ensures.value (sym c.is_some.ensures ∙ c.if-is_some.true)

pub returns-then-all_marked : goal.returns-then-all_marked
returns-then-all_marked g c =
    look_line-marked (g.Self.Ways.held c.args.self.now) c.args.line.0 c.requires c.set_of_line-set.result c.set_of_line-set.ensures.value
    c.free_way.result c.free_way.ensures.value (sym c.is_some.ensures ∙ c.if-is_some.false)
    (sym c.if-all_marked.true ∙ c.all_marked.ensures)

pub returns-else-all_marked : goal.returns-else-all_marked
returns-else-all_marked g c =
    look_line-unmarked (g.Self.Ways.held c.args.self.now) c.args.line.0 c.requires c.set_of_line-set.result c.set_of_line-set.ensures.value
    c.free_way.result c.free_way.ensures.value (sym c.is_some.ensures ∙ c.if-is_some.false)
    (sym c.if-all_marked.false ∙ c.all_marked.ensures)
