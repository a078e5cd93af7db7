use Rattle.std.proofs.Common.{◌≡◌, ◌∙◌, ◌*◌, ◌%◌, sym, ap, refl}
use Rattle.tcc_base.specs.Settings.{Settings}
use Rattle.spec_cache.proofs.Forms.{found_set}
use Rattle.spec_cache.proofs.set_frames.SetFramesWays.find.Goals as goal

pub returns-clause-found : goal.returns-clause-found
returns-clause-found c =
    let sets : c.config-cfg.result.sets ≡ c.self.inside.ways.config.sets = ap (λ (x : Settings). x.sets) c.config-cfg.ensures in
    let ways : c.ways-ways.result ≡ c.self.inside.ways.config.ways = c.ways-ways.ensures.value
    ∙ ap (λ (x : Settings). x.ways) c.config-cfg.ensures in
    rw (sym c.self.view_is) (found_set c.self.inside.ways c.self.invariant.in_order c.args.line.0
    (c.args.line.0 % c.self.inside.ways.config.sets * c.self.inside.ways.config.ways) refl c.find_in.result
    (rw (c.set_of.ensures, sets, ways) at c.find_in.ensures))
