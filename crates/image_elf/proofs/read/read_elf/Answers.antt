use Rattle.std.proofs.Common.{◌≡◌, ◌+◌, ◌*◌, ap, ◌∙◌, arith}
use Rattle.image_elf.specs.Elf.{header_at, header_of}
use Rattle.image_elf.proofs.Tables.{segments_tests-passed, segments_tests-failed, segments_from-left, tests-headers}
use Rattle.std.proofs.lemmas.Grind.{common_steps}
use Rattle.std.proofs.lemmas.Result.{err_from_is_err_and}
use Rattle.image_elf.proofs.read.read_elf.Goals as goal
use Rattle.image_elf.proofs.read.read_elf.Goals.{in-Some+in_ok-push, in_default}

pub returns-in_err-test_segment-clause-fault : goal.returns-in_err-test_segment-clause-fault
returns-in_err-test_segment-clause-fault c =
    let file = c.args.bytes.now in
    let read : c.read-header.result ≡ header_of c.args.bytes.now c.loop-index.index
    = c.read-header.ensures ∙ ap (λ at. header_at c.args.bytes.now (at + 32 * c.loop-index.index)) c.word_at-table.ensures in
    let failed = segments_tests-failed file c.loop-index.index c.half_at-count.result c.in_err-test_segment.field-0.0 c.loop-index-test.true
    (rw read at c.in_err-test_segment.ensures.fault) in
    let headers = tests-headers file c.in_ok-test_identity.ensures.ok c.in_ok-test_table.ensures.ok in
    let p = err_from_is_err_and c.from_residual-in_err-test_segment.result c.from_residual-in_err-test_segment.ensures.1 in
    rw (p.1, p.2) (λ _. cc)

pub loop-index-preserved : goal.loop-index-preserved
loop-index-preserved c =
    let file = c.args.bytes.now in
    let read : c.read-header.result ≡ header_of file c.loop-index.index
    = c.read-header.ensures ∙ ap (λ at. header_at c.args.bytes.now (at + 32 * c.loop-index.index)) c.word_at-table.ensures in
    let tested = segments_tests-passed file c.loop-index.index c.half_at-count.result c.loop-index-test.true
    (rw read at c.in_ok-test_segment.ensures.ok) in
    let kept = segments_from-left file c.loop-index.index c.half_at-count.result c.loop-index-test.true in
    elim c.match-segment.branch [ in-Some+in_ok-push w ↦ grind (arith, common_steps) | in_default w ↦ grind (arith, common_steps) ]
