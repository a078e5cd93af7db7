use Rattle.std.proofs.Common.{◌≡◌, Some, List, map, refl, sym, ap, ◌∙◌}
use Rattle.std.specs.Prelude.{slice_get}
use Rattle.std.proofs.lemmas.Result.{err_from_is_err_and}
use Rattle.clap.specs.Words.{Text, found_of, rows_of}
use Rattle.tcc_words.specs.Asked.{Stands}
use Rattle.tcc_words.specs.Grammar.{verb_word}
use Rattle.tcc_words.proofs.Standing.{first-text, placeless-stands_not, refusal}
use Rattle.tcc_words.proofs.reading.settings.Goals as goal

pub returns-in_err-matches-clause-refused : goal.returns-in_err-matches-clause-refused
returns-in_err-matches-clause-refused c =
    let words : List Text = map (λ w. w.now) c.args.words.now in
    let first : slice_get words 0 ≡ Some (verb_word c.in-Some-named.verb) =
    first-text c.args.words.now c.in-Some.name.now (sym c.in-Some.ensures.value) ∙ ap (λ (t : Text). Some t) c.in-Some-named.ensures in
    let p = err_from_is_err_and c.from_residual.result c.from_residual.ensures.1 in
    rw (p.1, p.2) (refusal words c.in-Some-named.verb c.in_err-matches.field-0.0 first c.in_err-matches.ensures.refused)

pub returns-then-not-has_places-clause-refused : goal.returns-then-not-has_places-clause-refused
returns-then-not-has_places-clause-refused c = λ other rows s.
    let words : List Text = map (λ w. w.now) c.args.words.now in
    let first : slice_get words 0 ≡ Some (verb_word c.in-Some-named.verb) =
    first-text c.args.words.now c.in-Some.name.now (sym c.in-Some.ensures.value) ∙ ap (λ (t : Text). Some t) c.in-Some-named.ensures in
    placeless-stands_not words c.in-Some-named.verb other (rows_of (found_of c.in_ok-matches.matches)) rows first
    c.in_ok-matches.ensures.rows (λ h. let bad = c.if-not-has_places.ensures.1 h in cc) s

pub returns-in-Err-clause-refused : goal.returns-in-Err-clause-refused
returns-in-Err-clause-refused c =
    let words : List Text = map (λ w. w.now) c.args.words.now in
    let first : slice_get words 0 ≡ Some (verb_word c.in-Some-named.verb) =
    first-text c.args.words.now c.in-Some.name.now (sym c.in-Some.ensures.value) ∙ ap (λ (t : Text). Some t) c.in-Some-named.ensures in
    let stands : Stands words c.in-Some-named.verb (rows_of (found_of c.in_ok-matches.matches)) = record {
      first = first;
      taken = c.in_ok-matches.ensures.taken;
      read = sym c.in_ok-matches.ensures.rows;
      places = c.if-not-has_places.ensures.0 refl;
    } in
    (c.in-Some-named.verb, rows_of (found_of c.in_ok-matches.matches), stands, c.in-Err.ensures.first)

pub returns-in-Ok-command-clause-command : goal.returns-in-Ok-command-clause-command
returns-in-Ok-command-clause-command c =
    let words : List Text = map (λ w. w.now) c.args.words.now in
    let first : slice_get words 0 ≡ Some (verb_word c.in-Some-named.verb) =
    first-text c.args.words.now c.in-Some.name.now (sym c.in-Some.ensures.value) ∙ ap (λ (t : Text). Some t) c.in-Some-named.ensures in
    record {
      verb = c.in-Some-named.verb;
      rows = rows_of (found_of c.in_ok-matches.matches);
      stands = record {
        first = first;
        taken = c.in_ok-matches.ensures.taken;
        read = sym c.in_ok-matches.ensures.rows;
        places = c.if-not-has_places.ensures.0 refl;
      };
      allowed = c.in-Ok.ensures.allowed;
      asks = c.in-Ok-command.ensures;
    }
