use Rattle.std.proofs.Common.{rules}
use Rattle.tcc_world.proofs.Holding.{times-other}
use Rattle.tcc_world.proofs.disk_store.DiskStoreStore.read.Goals as goal

pub returns-in_ok-book-in-Err-Failed-clause-others_stay : goal.returns-in_ok-book-in-Err-Failed-clause-others_stay
returns-in_ok-book-in-Err-Failed-clause-others_stay g c =
    λ n apart. search (rules, times-other c.args.self.now.unread c.args.name.now n apart)
