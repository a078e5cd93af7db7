use Rattle.std.proofs.Common.{◌≡◌, ◌/◌, ◌∙◌, arith, sym, ap}
use Rattle.spec_cache.proofs.Standing.{absent_as_found}
use Rattle.spec_cache.proofs.cache.SpecCache.is_missing.Goals as goal

pub returns-clause-missing : goal.returns-clause-missing
returns-clause-missing c =
    let h = c.self.inside.frames in
    let found = absent_as_found h c.find.ensures.in_order c.args.line.0 c.find.result c.find.ensures.found c.is_none.result
    c.is_none.ensures in
    let words : c.words.result ≡ h.config.ram / 4 = c.words.ensures.value ∙ ap (λ s. s.ram / 4) c.config.ensures.value in
    rw (sym c.self.view_is) (
      λ e. record {
        exists = omega (arith, words, c.if-line-words.false);
        placed = sym c.if-set_of_line-set.false ∙ c.set_of_line.ensures.value;
        absent = found.0 e;
      },
      λ m. found.1 m.absent,
    )
