-- The message at a place.
use Rattle.std.proofs.Common.{◌≡◌, ℕ, map, Some, ap, sym, ◌∙◌}
use Rattle.std.specs.Prelude.{slice_get, option_map}
use Rattle.std.proofs.lemmas.Option.{slice_get-map}
use Rattle.rules_apart.specs.declared.logs.Mail.{Mail}
use Rattle.apart_node.specs.PortInside.{entry_of, port_of}
use Rattle.apart_node.proofs.Picking.Letters.{letter-at}
use Rattle.apart_node.proofs.port.Port.letter.Goals as goal

pub returns-clause-letter : goal.returns-clause-letter
returns-clause-letter c =
    let ms = c.self.inside.pool.messages in
    let x : ℕ × Mail = (c.unwrap.result.0.seq, c.unwrap.result.1.now) in
    let e = rw c.unwrap.ensures at c.at.ensures.entry in
    let g : slice_get (map entry_of ms) c.args.place ≡ Some x = slice_get-map entry_of ms c.args.place ∙ ap (option_map entry_of) (sym e) in
    rw (← c.self.view_is) (letter-at (port_of c.self.inside) c.args.place x c.self.invariant.port g)
