-- A core takes the packet.
use Rattle.std.proofs.Common.{◌≡◌, ◌<◌, None, refl, ap, sym, ◌∙◌, subst}
use Rattle.rules_bus.specs.State.{Take}
use Rattle.bus_tcc.specs.Answers.{Kept, Took, bus_step_of}
use Rattle.bus_tcc.specs.Inside.{machine_of}
use Rattle.bus_tcc.specs.Left.{without_core}
use Rattle.bus_tcc.specs.Machine.{bus_of, bus_settings_of}
use Rattle.bus_tcc.specs.declared.event.BusStep.TheVariants.{Moved}
use Rattle.bus_tcc.proofs.AfterTake.{TookLines, after_take, lines-took, lines-whole, no-core, not-left}
use Rattle.bus_tcc.proofs.engine.Engine.take.Goals as goal

pub returns-then-core-cores : goal.returns-then-core-cores
returns-then-core-cores c = (
  record { history = refl; events = refl; code = refl },
  no-core c.args.self.now c.args.core.0 c.cores-cores.result (c.cores-cores.ensures.value ∙ ap (λ s. s.cores) c.config.ensures)
      c.if-core-cores.true,
)

pub returns-then-not-is_left : goal.returns-then-not-is_left
returns-then-not-is_left c =
    let m = machine_of c.self.inside in
    let n = c.args.core.0 in
    let same = c.cores-cores.ensures.value ∙ ap (λ s. s.cores) c.config.ensures
    ∙ ap (λ x. (bus_settings_of x).cores) (sym c.self.view_is) in
    let l = subst (λ k. n < k) same c.if-core-cores.false in
    subst (λ x. Kept x x × (bus_step_of x (Take n) ≡ None)) c.self.view_is (
      record { history = refl; events = refl; code = refl },
      not-left m n l (sym c.is_left.ensures ∙ c.if-not-is_left.true),
    )

pub invariant_of-self : goal.invariant_of-self
invariant_of-self c =
    let m = machine_of c.self.inside in
    let n = c.args.core.0 in
    let same = c.cores-cores.ensures.value ∙ ap (λ s. s.cores) c.config.ensures
    ∙ ap (λ x. (bus_settings_of x).cores) (sym c.self.view_is) in
    let l = subst (λ k. n < k) same c.if-core-cores.false in
    let k = after_take c.self.inside c.take.new.self c.leave.new.self in
    let lines : TookLines m k n c.lines.result.now = record {
      code = c.take.ensures.code;
      words = c.lines.ensures.words;
      cores = c.take.ensures.does;
      ram = refl;
      next = refl;
      bus = c.leave.ensures.bus ∙ ap (λ j. without_core n j (bus_of m.bus)) same;
      packet = c.leave.ensures.lines;
      commits = refl;
      events = refl;
    } in
    let took = lines-took m k n c.lines.result.now c.self.invariant l (sym c.is_left.ensures ∙ c.if-not-is_left.false) lines in
    lines-whole m k n c.lines.result.now c.self.invariant lines took

pub returns : goal.returns
returns c =
    let m = machine_of c.self.inside in
    let n = c.args.core.0 in
    let same = c.cores-cores.ensures.value ∙ ap (λ s. s.cores) c.config.ensures
    ∙ ap (λ x. (bus_settings_of x).cores) (sym c.self.view_is) in
    let l = subst (λ k. n < k) same c.if-core-cores.false in
    let k = after_take c.self.inside c.take.new.self c.leave.new.self in
    let lines : TookLines m k n c.lines.result.now = record {
      code = c.take.ensures.code;
      words = c.lines.ensures.words;
      cores = c.take.ensures.does;
      ram = refl;
      next = refl;
      bus = c.leave.ensures.bus ∙ ap (λ j. without_core n j (bus_of m.bus)) same;
      packet = c.leave.ensures.lines;
      commits = refl;
      events = refl;
    } in
    let took = lines-took m k n c.lines.result.now c.self.invariant l (sym c.is_left.ensures ∙ c.if-not-is_left.false) lines in
    subst (λ x. Took x k (Take n) Moved) c.self.view_is took
