use Rattle.std.proofs.Common.{◌≡◌, List, true, map, ap, subst, sym, ◌∙◌, inl, inr}
use Rattle.clap.specs.Words.{App, Text, app_of, is_simple, matches_of}
use Rattle.clap.specs.Faults.{fault_of, is_simple_and_free}
use Rattle.clap.specs.Kinds.{IsAmong}
use Rattle.tcc_words.proofs.Rules.{grammar-free, grammar-simple}
use Rattle.tcc_words.proofs.grammar.read.Goals as goal

pub returns-in-Ok-try_get_matches_from-clause-taken : goal.returns-in-Ok-try_get_matches_from-clause-taken
returns-in-Ok-try_get_matches_from-clause-taken c =
    let words : List Text = map (λ w. w.now) c.args.words.now in
    let free : is_simple_and_free (app_of c.in-Ok.command) ≡ true = ap is_simple_and_free c.in-Ok.ensures ∙ grammar-free c.args.verb in
    sym (ap (λ (a : App). fault_of a words) c.in-Ok.ensures) ∙ c.in-Ok-try_get_matches_from.ensures.kinds free

pub returns-in-Ok-try_get_matches_from-clause-rows : goal.returns-in-Ok-try_get_matches_from-clause-rows
returns-in-Ok-try_get_matches_from-clause-rows c =
    let words : List Text = map (λ w. w.now) c.args.words.now in
    let simple : is_simple (app_of c.in-Ok.command) ≡ true = ap is_simple c.in-Ok.ensures ∙ grammar-simple c.args.verb in
    (c.in-Ok-try_get_matches_from.ensures.matches simple).0 ∙ ap (λ (a : App). matches_of a words) c.in-Ok.ensures

pub returns : goal.returns
returns c =
    let words : List Text = map (λ w. w.now) c.args.words.now in
    let free : is_simple_and_free (app_of c.in-Ok.command) ≡ true = ap is_simple_and_free c.in-Ok.ensures ∙ grammar-free c.args.verb in
    record {
      taken = tt;
      rows = tt;
      refused = λ none. elim (c.in-Err.ensures.kinds free) [
        | inl memory ↦ c.in_default-kind.not-OutOfMemory (c.kind.ensures ∙ memory)
        | inr among ↦ subst (IsAmong _) (ap (λ (a : App). fault_of a words) c.in-Ok.ensures ∙ none) among
      ];
    }
