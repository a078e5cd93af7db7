use Rattle.std.proofs.Common.{◌≡◌, None, sym, ◌∙◌, arith}
use Rattle.std.proofs.lemmas.Grind.{common_steps}
use Rattle.schedule_text.specs.Reading.{version_at}
use Rattle.schedule_text.proofs.FirstLines.{bad_version, bad_settings, other_version, both_lines}
use Rattle.schedule_text.proofs.reading.header.Goals as goal

pub returns-in_default-clause-fault : goal.returns-in_default-clause-fault
returns-in_default-clause-fault c =
    let none : version_at c.args.bytes.now ≡ None = grind (arith, common_steps) in
    bad_version c.args.bytes.now none

pub returns-in_default-config-clause-fault : goal.returns-in_default-config-clause-fault
returns-in_default-config-clause-fault c =
    bad_settings c.args.bytes.now c.in-Some.version c.in-Some.rest.now c.in-Some.ensures c.in_default-config.ensures.none

pub returns-then-version_needed-version-clause-fault : goal.returns-then-version_needed-version-clause-fault
returns-then-version_needed-version-clause-fault c =
    other_version c.args.bytes.now c.in-Some.version c.in-Some.rest.now c.in-Some-config.found.0 c.in-Some-config.found.1.now
    c.in-Some.ensures c.in-Some-config.ensures.found.1 (λ same. c.if-version_needed-version.true (c.version_needed.ensures ∙ same))

pub returns-clause-found : goal.returns-clause-found
returns-clause-found c = (
  c.in-Some-config.ensures.found.0,
  both_lines c.args.bytes.now c.in-Some.version c.in-Some.rest.now c.in-Some-config.found.0 c.in-Some-config.found.1.now
      c.in-Some.ensures c.in-Some-config.ensures.found.1
      (sym c.version_needed.ensures ∙ c.if-version_needed-version.false),
)
