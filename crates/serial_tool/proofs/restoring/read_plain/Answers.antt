use Rattle.std.proofs.Common.{◌≡◌, ◌*◌, ℕ, List, length, sym, ap, ◌∙◌, subst, arith}
use Rattle.std.proofs.lemmas.Grind.{common_steps}
use Rattle.row_text.specs.Rows.{rows_text}
use Rattle.serial_tool.specs.PlainTexts.{AreCoresRead, HasNoCores, HasNoMachine, HasNoRam, ram_rows}
use Rattle.serial_tool.proofs.HeadReading.{no-cores-machine, no-head-machine, no-ram-machine, refused-by, refuses-then, text-read}
use Rattle.serial_tool.proofs.restoring.read_plain.Goals as goal

pub returns-in_err-last-clause-refused : goal.returns-in_err-last-clause-refused
returns-in_err-last-clause-refused c =
    refused-by c.from_residual-in_err-last.result _ (HasNoMachine c.args.bytes.now c.args.loaded.now.settings)
    c.from_residual-in_err-last.ensures.1
    (refuses-then _ _ _ (no-head-machine c.args.bytes.now c.args.loaded.now.settings) c.in_err-last.ensures.refused)

pub returns-in_err-rest-clause-refused : goal.returns-in_err-rest-clause-refused
returns-in_err-rest-clause-refused c =
    let count : c.cores-cores.result ≡ c.args.loaded.now.settings.cores = grind (arith, common_steps) in
    refused-by c.from_residual-in_err-rest.result _ (HasNoMachine c.args.bytes.now c.args.loaded.now.settings)
    c.from_residual-in_err-rest.ensures.1
    (refuses-then _ (HasNoCores c.in_ok-last.rest.now c.cores-cores.result) _
    (λ none. no-cores-machine c.args.bytes.now c.in_ok-last.rest.now c.in_ok-last.last c.args.loaded.now.settings c.in_ok-last.ensures.fits
    c.in_ok-last.ensures.read (subst (HasNoCores c.in_ok-last.rest.now) count none)) c.in_err-rest.ensures.refused)

pub returns-in_err-read_ram-clause-refused : goal.returns-in_err-read_ram-clause-refused
returns-in_err-read_ram-clause-refused c =
    let count : c.cores-cores.result ≡ c.args.loaded.now.settings.cores = grind (arith, common_steps) in
    let size : 4 * length c.deref_mut.result.now ≡ c.args.loaded.now.settings.ram = grind (arith, common_steps) in
    refused-by c.from_residual-in_err-read_ram.result _ (HasNoMachine c.args.bytes.now c.args.loaded.now.settings)
    c.from_residual-in_err-read_ram.ensures.1
    (refuses-then _ (HasNoRam c.in_ok-rest.rest.now (length c.deref_mut.result.now)) _
    (no-ram-machine c.args.bytes.now c.in_ok-last.rest.now c.in_ok-rest.rest.now c.in_ok-last.last c.read_cores.new.found
    (length c.deref_mut.result.now) c.args.loaded.now.settings c.in_ok-last.ensures.fits c.in_ok-last.ensures.read
    (subst (λ n. AreCoresRead c.in_ok-last.rest.now n c.read_cores.new.found c.in_ok-rest.rest.now) count c.in_ok-rest.ensures.read)
    size) c.in_err-read_ram.ensures.refused)

pub returns-clause-text : goal.returns-clause-text
returns-clause-text c =
    let same = c.in_ok-machine.ensures in
    let cores : c.in_ok-machine.machine.cores ≡ c.read_cores.new.found = grind (arith, common_steps, same) in
    let ram : c.in_ok-machine.machine.ram ≡ c.read_ram.new.ram = grind (arith, common_steps, same) in
    text-read c.args.bytes.now c.in_ok-last.rest.now c.in_ok-rest.rest.now c.in_ok-last.last c.in_ok-machine.machine c.cores-cores.result
    c.in_ok-last.ensures.read
    (subst (λ found. AreCoresRead c.in_ok-last.rest.now c.cores-cores.result found c.in_ok-rest.rest.now) (sym cores)
    c.in_ok-rest.ensures.read)
    (c.in_ok-read_ram.ensures.read ∙ ap (λ (r : List ℕ). rows_text (ram_rows r)) (sym ram))
