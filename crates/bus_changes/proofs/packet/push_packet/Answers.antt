-- A packet came, or went, or stays.
use Rattle.std.proofs.Common.{ap, sym, ◌∙◌, string_bytes, ◌++◌, map}
use Rattle.std.proofs.lemmas.Result.{on_ok_weaker}
use Rattle.bus_tcc.specs.Left.{packet_words}
use Rattle.bus_tcc.specs.Machine.{bus_of}
use Rattle.bus_tcc.specs.Packets.{packet_line_of}
use Rattle.bus_state.specs.Records.{PacketHas}
use Rattle.bus_changes.specs.Changes.{Gone, Told, bus_change_lines}
use Rattle.bus_changes.proofs.Packets.{is-none, is-some, packet-came, packet-still, packet-went}
use Rattle.bus_changes.proofs.packet.push_packet.Goals as goal

pub returns-then-is_empty : goal.returns-then-is_empty
returns-then-is_empty c = λ sh p q n.
    let f = packet_words (bus_of c.args.was.now) in
    let g = packet_words (bus_of c.args.is.now) in
    let none = sym p ∙ ap (map packet_line_of) (sym c.lines-before.ensures.lines
    ∙ is-none c.lines-before.result.now c.is_empty.result c.is_empty.ensures c.if-is_empty.true) in
    on_ok_weaker c.push_lines_told.result
    (λ last. last ∙ ap (λ ds. string_bytes c.args.text.now ++ bus_change_lines (map Told (map PacketHas ds)))
    (ap (map packet_line_of) c.lines-after.ensures.lines ∙ q)
    ∙ ap (λ cs. string_bytes c.args.text.now ++ bus_change_lines cs) (sym (packet-came sh f g none)))
    c.push_lines_told.ensures

pub returns-then-is_empty-2 : goal.returns-then-is_empty-2
returns-then-is_empty-2 c = λ sh p q n.
    let f = packet_words (bus_of c.args.was.now) in
    let g = packet_words (bus_of c.args.is.now) in
    let none = sym q ∙ ap (map packet_line_of) (sym c.lines-after.ensures.lines
    ∙ is-none c.lines-after.result.now c.is_empty-2.result c.is_empty-2.ensures c.if-is_empty-2.true) in
    on_ok_weaker c.push_lines_gone.result
    (λ last. last ∙ ap (λ ds. string_bytes c.args.text.now ++ bus_change_lines (map Gone (map PacketHas ds)))
    (ap (map packet_line_of) c.lines-before.ensures.lines ∙ p)
    ∙ ap (λ cs. string_bytes c.args.text.now ++ bus_change_lines cs) (sym (packet-went sh f g none)))
    c.push_lines_gone.ensures

pub returns : goal.returns
returns c = λ sh p q n.
    packet-still sh (bus_of c.args.was.now) (bus_of c.args.is.now) c.lines-before.result.now c.lines-after.result.now
    (string_bytes c.args.text.now)
    (ap (map packet_line_of) c.lines-before.ensures.lines ∙ p) (ap (map packet_line_of) c.lines-after.ensures.lines ∙ q)
    (is-some c.lines-before.result.now c.is_empty.result c.is_empty.ensures c.if-is_empty.false)
    (is-some c.lines-after.result.now c.is_empty-2.result c.is_empty-2.ensures c.if-is_empty-2.false) n
