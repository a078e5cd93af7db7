-- All lines, or those of the packet.
use Rattle.std.proofs.Common.{◌≡◌, ◌≤◌, ◌^◌, ◌/◌, ◌∙◌, ap, arith, false, map, nat_le, true}
use Rattle.std.proofs.lemmas.Bool.Decides.{nat_tests}
use Rattle.std.proofs.lemmas.Result.{IfOk-weaker}
use Rattle.tcc_base.specs.Settings.{Settings}
use Rattle.rules_maps.specs.Shape.{lines}
use Rattle.rules_tcc.specs.Seen.{numbers}
use Rattle.bus_tcc.specs.Machine.{bus_settings_of, bus_world_of}
use Rattle.bus_tcc.specs.Packets.{packet_line_of}
use Rattle.bus_changes.specs.Following.{may_change}
use Rattle.bus_changes.proofs.Packets.{numbers-are}
use Rattle.bus_changes.proofs.Words.{in-memory}
use Rattle.bus_changes.proofs.memory.touched.Goals as goal

pub returns-then-cores-le1-clause-exist : goal.returns-then-cores-le1-clause-exist
returns-then-cores-le1-clause-exist c =
    let sh = bus_settings_of c.args.system.now in
    let words = c.words-count.ensures.value ∙ ap (λ (s : Settings). s.ram / 4) c.config.ensures in
    let fits = c.words-count.type_inv in
    let small : lines sh ≤ 2 ^ 29 = omega (arith, words, fits) in
    let count : c.words-count.result / 8 ≡ lines sh = omega (arith, words) in
    IfOk-weaker c.all_lines.result _ _ (λ all e. in-memory sh (λ l. true) all small (e ∙ ap numbers count)) c.all_lines.ensures

pub returns-clause-lines : goal.returns-clause-lines
returns-clause-lines c =
    let m = c.args.system.now in
    let sh = bus_settings_of m in
    let cores = c.cores.ensures.value ∙ ap (λ (s : Settings). s.cores) c.config-2.ensures in
    let many : nat_le sh.cores 1 ≡ false = let more = c.if-cores-le1.false in grind (arith, nat_tests) in
    IfOk-weaker c.numbers_of.result _ _
    (λ all e. e
    ∙ numbers-are sh (bus_world_of m).bus c.lines.result.now (ap (map packet_line_of) c.lines.ensures.lines ∙ c.bus.ensures.lines) many)
    c.numbers_of.ensures

pub returns-clause-exist : goal.returns-clause-exist
returns-clause-exist c =
    let m = c.args.system.now in
    let sh = bus_settings_of m in
    let cores = c.cores.ensures.value ∙ ap (λ (s : Settings). s.cores) c.config-2.ensures in
    let many : nat_le sh.cores 1 ≡ false = let more = c.if-cores-le1.false in grind (arith, nat_tests) in
    let words = c.words-count.ensures.value ∙ ap (λ (s : Settings). s.ram / 4) c.config.ensures in
    let fits = c.words-count.type_inv in
    let small : lines sh ≤ 2 ^ 29 = omega (arith, words, fits) in
    IfOk-weaker c.numbers_of.result _ _
    (λ all e. in-memory sh (may_change sh (bus_world_of m).bus) all small (e
    ∙ numbers-are sh (bus_world_of m).bus c.lines.result.now (ap (map packet_line_of) c.lines.ensures.lines ∙ c.bus.ensures.lines) many))
    c.numbers_of.ensures
