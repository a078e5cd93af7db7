use Rattle.std.proofs.Common.{◌≡◌, ℕ, refl, ap, ◌∙◌}
use Rattle.rules_tcc.specs.State.{core_start}
use Rattle.rv_code.specs.Machine.{start_local}
use Rattle.core_node.specs.View.{core_of}
use Rattle.core_node.proofs.node.CoreNode.start.Goals as goal

pub returns-clause-state : goal.returns-clause-state
unfolding core_of core_start
returns-clause-state c =
    let local : c.start_state-state.result ≡ start_local c.args.cfg.now.cores c.args.id.0 c.args.entry =
    c.start_state-state.ensures ∙ ap (λ (n : ℕ). start_local n c.args.id.0 c.args.entry) c.cores.ensures.value in
    rw (
      c.save.ensures,
      local,
      c.none.ensures,
      c.no_commits.ensures.none,
      c.new-5.ensures,
      c.in_ok-new.ensures.empty,
      c.new.ensures,
      c.new-2.ensures,
      c.new-3.ensures,
    ) refl
