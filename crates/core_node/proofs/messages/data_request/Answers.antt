use Rattle.std.proofs.Common.{refl}
use Rattle.rules_maps.specs.CacheChange.{cleaned}
use Rattle.spec_cache.specs.Held.{maps}
use Rattle.rules_tcc.specs.CoreDeliver.{data_request}
use Rattle.core_node.specs.View.{core_of}
use Rattle.core_node.proofs.Cores.{whole_cache}
use Rattle.core_node.proofs.Handed.{flushed_none, flushed_some}
use Rattle.core_node.proofs.messages.data_request.Goals as goal

pub returns-in-Some-clause-does : goal.returns-in-Some-clause-does
unfolding core_of data_request
returns-in-Some-clause-does c =
    let k = c.args.core.now in
    record {
      core = rw c.in-Some.ensures.maps refl;
      sent = flushed_some c.args.out.now c.hand_out.new.self k.config
          (maps k.cache) c.args.line.0 c.in-Some.back c.home.result c.in-Some.ensures.out c.home.ensures.value
          (rw c.flush_of.ensures at c.hand_out.ensures.sent) c.hand_out.ensures.room;
    }

pub returns-in-Some-clause-stays : goal.returns-in-Some-clause-stays
unfolding cleaned
returns-in-Some-clause-stays c = record {
  config = refl;
  id = refl;
  whole = whole_cache c.args.core.now c.take_dirty.new.self c.requires.whole c.in-Some.ensures.config (rw c.in-Some.ensures.maps refl);
}

pub returns-in-None-clause-does : goal.returns-in-None-clause-does
unfolding core_of data_request
returns-in-None-clause-does c =
    let k = c.args.core.now in
    record {
      core = rw c.in-None.ensures.maps refl;
      sent = flushed_none c.args.out.now k.config
          (maps k.cache) c.args.line.0 c.in-None.ensures.out;
    }

pub returns-in-None-clause-stays : goal.returns-in-None-clause-stays
unfolding cleaned
returns-in-None-clause-stays c = record {
  config = refl;
  id = refl;
  whole = whole_cache c.args.core.now c.take_dirty.new.self c.requires.whole c.in-None.ensures.config (rw c.in-None.ensures.maps refl);
}
