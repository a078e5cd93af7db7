-- The frame's dirty words, or no frame and so no dirty word.
use Rattle.std.proofs.Common.{◌≡◌, ◌∙◌, ap, subst, sym, ℕ}
use Rattle.base_lemmas.proofs.Lemmas.{line_of-word_at, unheld-clean}
use Rattle.rules_maps.specs.Cache.{IsCache}
use Rattle.rules_maps.specs.Nodes.{WriteBack}
use Rattle.rules_maps.specs.Words.{word_at}
use Rattle.rules_tcc.specs.Seen.{copy_in, copy_of, newest}
use Rattle.rules_tcc.specs.State.{CoreState}
use Rattle.core_node.specs.View.{core_of}
use Rattle.core_node.specs.declared.state.Core.{Core}
use Rattle.machine_cores.specs.Bank.{CoresData, cores_of}
use Rattle.net_core.specs.Copies.{nth_copy}
use Rattle.net_core.proofs.Words.Newest.{frame-at}
use Rattle.net_core.proofs.Words.Places.{newest-empty, newest-none}
use Rattle.net_core.proofs.seeing.newest_in_core.Goals as goal

-- the core's cache is that of the rules' core
own-cache : (b : CoresData) (n : ℕ) (x : Core) → x.config ≡ b.code.settings → core_of x ≡ cores_of b n → IsCache x.config (core_of x).cache
    → IsCache b.code.settings (cores_of b n).cache
own-cache b n x config state k =
    subst (λ s. IsCache s (cores_of b n).cache) config (subst (λ (y : CoreState). IsCache x.config y.cache) state k)

pub returns-then-frame-ne0 : goal.returns-then-frame-ne0
returns-then-frame-ne0 c = λ k b.
    let cache = (cores_of c.args.cores.now c.args.core.0).cache in
    c.newest_under.ensures c.args.line.0 k b
    ∙ ap (newest (nth_copy c.args.best.now k))
    (frame-at c.args.cores.now.code.settings cache c.args.line.0 (word_at c.args.line.0 k) c.in-Some.frame
    (line_of-word_at c.args.line.0 k b)
    (own-cache c.args.cores.now c.args.core.0 c.core.result.now c.core.ensures.config c.core.ensures.state
    c.keeps_cache.ensures.consistent) c.in-Some.ensures.1)

pub returns-else-frame-ne0 : goal.returns-else-frame-ne0
returns-else-frame-ne0 c = λ k b.
    let cache = (cores_of c.args.cores.now c.args.core.0).cache in
    let f = c.in-Some.frame in
    let a = nth_copy c.args.best.now k in
    let w : ℕ = word_at c.args.line.0 k in
    newest-empty a c.args.line.0 k f.words f.tag.0 b
    ∙ ap (λ m. newest a (copy_of w (WriteBack c.args.line.0 m f.words f.tag.0))) (sym c.if-frame-ne0.false)
    ∙ ap (newest a) (frame-at c.args.cores.now.code.settings cache c.args.line.0 w f (line_of-word_at c.args.line.0 k b)
    (own-cache c.args.cores.now c.args.core.0 c.core.result.now c.core.ensures.config c.core.ensures.state
    c.keeps_cache.ensures.consistent) c.in-Some.ensures.1)

pub returns-in_default : goal.returns-in_default
returns-in_default c = λ k b.
    let cache = (cores_of c.args.cores.now c.args.core.0).cache in
    let a = nth_copy c.args.best.now k in
    let w : ℕ = word_at c.args.line.0 k in
    newest-none a
    ∙ ap (λ o. newest a (copy_in (cache.value w) o))
    (sym (unheld-clean c.args.cores.now.code.settings cache w
    (own-cache c.args.cores.now c.args.core.0 c.core.result.now c.core.ensures.config c.core.ensures.state
    c.keeps_cache.ensures.consistent)
    (ap cache.held (line_of-word_at c.args.line.0 k b) ∙ c.in_default.ensures)))
