use Rattle.std.proofs.Common.{◌≡◌, Bool, refl, ap, ◌∙◌}
use Rattle.rules_maps.specs.Cache.{Cache}
use Rattle.rules_tcc.specs.Execute.{with_read_mark}
use Rattle.rules_tcc.specs.Attempt.{is_running}
use Rattle.spec_cache.specs.Held.{maps}
use Rattle.spec_cache.specs.Look.{loaded}
use Rattle.commit_engine.specs.Engine.{phase_of}
use Rattle.core_node.specs.View.{core_of}
use Rattle.core_node.proofs.Cores.{whole_cache}
use Rattle.core_node.proofs.Used.{loaded_valid, used_by, held-loaded}
use Rattle.core_node.proofs.storing.mark_used.Goals as goal

pub returns-clause-does : goal.returns-clause-does
unfolding core_of with_read_mark
returns-clause-does c =
    let k = c.args.core.now in
    let b = is_running (phase_of k.phase) in
    let m : maps c.load.new.self ≡ loaded c.args.w.0 b (maps k.cache) = c.load.ensures.maps
    ∙ ap (λ (x : Bool). loaded c.args.w.0 x (maps k.cache)) c.is_running.ensures in
    ap (λ (x : Cache). record (core_of k) { cache = x }) (m ∙ loaded_valid c.args.w.0 b (maps k.cache) c.requires.valid)
    ∙ used_by b c.args.w.0 (core_of k)

pub returns-clause-stays : goal.returns-clause-stays
returns-clause-stays c =
    let k = c.args.core.now in
    record {
      config = refl;
      id = refl;
      whole = whole_cache k c.load.new.self c.requires.whole c.load.ensures.config
          (ap (λ (x : Cache). x.held) c.load.ensures.maps ∙ held-loaded c.args.w.0 c.is_running.result (maps k.cache));
    }
