-- The execution, or an eviction.
use Rattle.std.proofs.Common.{◌∙◌, ◌-◌, ap, sym, Some}
use Rattle.std.specs.Prelude.{slice_get}
use Rattle.std.specs.Option.{option_map}
use Rattle.image_load.specs.Contents.{started}
use Rattle.rv_code.specs.Machine.{program}
use Rattle.rules_maps.specs.Nodes.{Evict, Exec}
use Rattle.core_node.specs.Useful.{useful_evicts}
use Rattle.core_node.specs.View.{core_of}
use Rattle.apart_member.proofs.Choices.{evict-alone, evict-behind, first-is}
use Rattle.apart_member.proofs.choosing.core_at.Goals as goal

pub returns-then-not-can_exec : goal.returns-then-not-can_exec
returns-then-not-can_exec c =
    let x = c.args.core.now in
    let p = program (started c.args.code.now) in
    c.evict_at.ensures
    ∙ ap (λ i. option_map (λ q. Evict i.0 q.0 q.1) (slice_get (useful_evicts x.config p (core_of x)) c.args.k)) (sym c.requires.own)
    ∙ evict-alone x.config p x.id.0 (core_of x) c.args.k (sym c.can_exec.ensures ∙ c.if-not-can_exec.true)

pub returns-then-k-eq0 : goal.returns-then-k-eq0
returns-then-k-eq0 c =
    let x = c.args.core.now in
    ap (λ i. Some (Exec i.0)) (sym c.requires.own)
    ∙ first-is x.config (program (started c.args.code.now)) x.id.0 (core_of x) c.args.k (sym c.can_exec.ensures ∙ c.if-not-can_exec.false)
    c.if-k-eq0.true

pub returns : goal.returns
returns c =
    let x = c.args.core.now in
    let p = program (started c.args.code.now) in
    c.evict_at-2.ensures
    ∙ ap (λ i. option_map (λ q. Evict i.0 q.0 q.1) (slice_get (useful_evicts x.config p (core_of x)) (c.args.k - 1))) (sym c.requires.own)
    ∙ evict-behind x.config p x.id.0 (core_of x) c.args.k (sym c.can_exec.ensures ∙ c.if-not-can_exec.false) c.if-k-eq0.false
