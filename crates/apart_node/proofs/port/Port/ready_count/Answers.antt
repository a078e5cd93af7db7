-- How many may be taken.
use Rattle.std.proofs.Common.{◌≡◌, ◌<◌, ◌≤◌, ℕ, Bool, List, true, false, length, map, get_or, Some, add-zero, ap, sym, ◌∙◌, arith}
use Rattle.std.specs.Prelude.{slice_get}
use Rattle.std.proofs.lemmas.List.{length-map}
use Rattle.rules_maps.specs.Bridge.{node_of}
use Rattle.tcc_msg.specs.declared.msg.Msg.TheVariants.{TidReq}
use Rattle.rules_apart.specs.declared.logs.Mail.{Mail}
use Rattle.apart_node.specs.Choice.{ready, ready_in}
use Rattle.apart_node.specs.PortInside.{entry_of}
use Rattle.apart_node.proofs.Picking.Filters.{count-all, count-more, kept-below}
use Rattle.apart_node.proofs.Picking.Letters.{read-at}
use Rattle.apart_node.proofs.port.Port.ready_count.Goals as goal
use Rattle.apart_node.proofs.port.Port.ready_count.Goals.{then-is_ready, else-is_ready}

pub overflow_add-count : goal.overflow_add-count
overflow_add-count c =
    omega (
      arith,
      kept-below (ready c.args.member.now c.args.last (node_of c.self.inside.inlet.ends.src)) (map entry_of c.self.inside.pool.messages)
          c.loop-place.place,
    )

pub loop-place-preserved : goal.loop-place-preserved
unfolding ready
loop-place-preserved c =
    let xs : List (ℕ × Mail) = map entry_of c.self.inside.pool.messages in
    let none : ℕ × Mail = (0, record { stamp = 0; msg = TidReq }) in
    let x : ℕ × Mail = (c.letter-letter.result.number, c.letter-letter.result.mail) in
    let l : c.loop-place.place < length xs =
    omega (arith, c.loop-place-test.true, c.len-place-end.ensures, length-map c.self.inside.pool.messages entry_of) in
    let e : slice_get xs c.loop-place.place ≡ Some x =
    rw (c.letter-letter.ensures.place, ← c.self.view_is) at c.letter-letter.ensures.letter.entry in
    let p : ℕ × Mail → Bool = ready c.args.member.now c.args.last (node_of c.self.inside.inlet.ends.src) in
    let t : p (get_or xs c.loop-place.place none) ≡ c.is_ready.result =
    ap p (read-at xs c.loop-place.place none x l e) ∙ (rw (← c.self.invariant.peer) (sym c.is_ready.ensures.ready)) in
    elim c.if-is_ready.branch [
      | then-is_ready w ↦ count-more p xs c.loop-place.place c.loop-place.count c.if-is_ready.count none true l c.loop-place.invariant
          (t ∙ w.if-is_ready.true) w.count-is
      | else-is_ready w ↦ count-more p xs c.loop-place.place c.loop-place.count c.if-is_ready.count none false l c.loop-place.invariant
          (t ∙ w.if-is_ready.false) (w.count-is ∙ sym (add-zero c.loop-place.count))
    ]

pub returns : goal.returns
unfolding ready_in
returns c =
    let xs : List (ℕ × Mail) = map entry_of c.self.inside.pool.messages in
    let l : length xs ≤ c.loop-place.place =
    omega (arith, c.loop-place-test.false, c.len-place-end.ensures, length-map c.self.inside.pool.messages entry_of) in
    rw (← c.self.view_is) (count-all (ready c.args.member.now c.args.last (node_of c.self.inside.inlet.ends.src)) xs
    c.loop-place.place c.loop-place.count l c.loop-place.invariant)
