use Rattle.std.proofs.Common.{ℕ, List, Contains, subst, sym, ◌∙◌}
use Rattle.std.proofs.lemmas.Bool.Decides.{Decides-eqb}
use Rattle.std.proofs.lemmas.Map.Made.{AllPairs-from_IsDistinct}
use Rattle.overflow_buf.proofs.Drained.{key_kept, kept_key, kept_holds}
use Rattle.overflow_buf.proofs.buffer.OverflowBuf.lines.Goals as goal

pub returns-in-Ok-clause-kept : goal.returns-in-Ok-clause-kept
returns-in-Ok-clause-kept c = λ l.
    let es = c.args.self.now in
    let k = kept_holds es c.keys.ensures.in_order l in (
      λ h. sym k ∙ key_kept es l (subst (λ (xs : List ℕ). Contains xs l) c.in-Ok.ensures.keys h),
      λ h. subst (λ (xs : List ℕ). Contains xs l) (sym c.in-Ok.ensures.keys) (kept_key es l (k ∙ h)),
    )

pub returns-in-Ok-clause-once : goal.returns-in-Ok-clause-once
returns-in-Ok-clause-once c = AllPairs-from_IsDistinct Decides-eqb c.in-Ok.lines.items c.in-Ok.ensures.distinct
