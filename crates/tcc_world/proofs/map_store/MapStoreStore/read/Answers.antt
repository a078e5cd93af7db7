use Rattle.std.proofs.Common.{rules}
use Rattle.tcc_world.proofs.Holding.{times-other}
use Rattle.tcc_world.proofs.map_store.MapStoreStore.read.Goals as goal

pub returns-in-None-clause-others_stay : goal.returns-in-None-clause-others_stay
returns-in-None-clause-others_stay c =
    λ n apart. search (rules, c.fail_read.ensures.failed, times-other c.args.self.now.unread c.args.name.now n apart)
