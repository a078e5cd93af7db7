use Rattle.std.proofs.Common.{ℕ, ◌≡◌, ◌<◌, length, arith, slice_index_or, ap, sym, ◌∙◌, subst}
use Rattle.std.proofs.lemmas.Grind.{common_steps}
use Rattle.image_load.specs.Contents.{started}
use Rattle.rv_plain.proofs.Starts.{cores-more, plain_of-started}
use Rattle.rv_plain.specs.Cores.{core_of, no_state}
use Rattle.image_load.specs.Start.{first_ram}
use Rattle.rv_plain.specs.Machine.{start_core}
use Rattle.rules_program.specs.Ram.{flat}
use Rattle.rv_plain.proofs.plain.Plain.start.Goals as goal

pub returns-clause-started : goal.returns-clause-started
unfolding started
returns-clause-started c =
    let now = c.args.loaded.now in
    let len : length c.loop-core.cores ≡ c.args.config.now.cores = grind (arith, c.loop-core.invariant.0) in
    let each : (k : ℕ) → k < c.args.config.now.cores
    → core_of (slice_index_or c.loop-core.cores k no_state) ≡ start_core c.args.config.now.cores k ((started now).entry k)
    = λ k h. c.loop-core.invariant.1 k (omega arith) in
    let both = subst (λ s. (length c.loop-core.cores ≡ s.cores) × ((k : ℕ) → k < s.cores
    → core_of (slice_index_or c.loop-core.cores k no_state) ≡ start_core s.cores k ((started now).entry k)))
    (sym c.requires) (len, each) in
    let ram = subst (λ l. flat c.in_ok-memory.memory.ram ≡ first_ram (started l)) (c.in_ok-code.ensures ∙ c.in_ok-copy.ensures)
    c.in_ok-memory.ensures.ram in
    plain_of-started (started now) _ _ _ ram both.0 both.1

pub loop-core-preserved : goal.loop-core-preserved
loop-core-preserved c =
    let n = c.args.config.now.cores in
    let entry = (started c.args.loaded.now).entry in
    let is : core_of c.start_core.result ≡ start_core n c.loop-core.core (entry c.loop-core.core) =
    c.start_core.ensures
    ∙ ap (λ m. start_core m c.loop-core.core c.entry.result) c.cores.ensures.value
    ∙ ap (start_core n c.loop-core.core) c.entry.ensures in
    rw c.in_ok-push.ensures (
      grind (arith, common_steps, c.loop-core.invariant.0),
      cores-more core_of (λ k. start_core n k (entry k)) c.loop-core.cores c.start_core.result c.loop-core.core
          c.loop-core.invariant.0 c.loop-core.invariant.1 is,
    )
