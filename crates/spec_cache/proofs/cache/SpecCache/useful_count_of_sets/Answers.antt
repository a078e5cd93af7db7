use Rattle.std.proofs.Common.{◌≡◌, ◌∙◌, ap, arith}
use Rattle.tcc_base.specs.Settings.{Settings}
use Rattle.spec_cache.specs.Useful.{wants_of}
use Rattle.spec_cache.proofs.UsefulCount.{all-few, put_right_as}
use Rattle.spec_cache.proofs.cache.SpecCache.useful_count_of_sets.Goals as goal

pub overflow_add-result : goal.overflow_add-result
overflow_add-result c =
    let few = all-few c.self.inside.frames c.useful_ways.ensures.in_order (wants_of c.args.wants) in
    let n = c.useful_ways.ensures.number in
    omega (arith, few, n, c.found_in.ensures.few, c.found_in-2.ensures.few)

pub overflow_sub-result : goal.overflow_sub-result
overflow_sub-result c =
    let h = c.args.self.now in
    let sets : c.sets-sets.result ≡ h.config.sets =
    rw c.self.view_is at (c.sets-sets.ensures.value ∙ ap (λ (x : Settings). x.sets) c.config.ensures.value) in
    let e = put_right_as h (rw c.self.view_is at c.config.ensures.in_order) (wants_of c.args.wants) c.sets-sets.result c.useful_ways.result
    c.found_in.result c.found_in-2.result c.counted_in.result c.counted_in-2.result c.room_set-room.result c.line_set-line.result sets
    c.room_set-room.ensures.value c.room_set-room.ensures.exists c.line_set-line.ensures.value c.line_set-line.ensures.exists
    (rw c.self.view_is at c.useful_ways.ensures.number)
    c.found_in.ensures.number c.found_in-2.ensures.number c.counted_in.ensures.number c.counted_in-2.ensures.number in
    omega (arith, e)

pub returns : goal.returns
returns c =
    let h = c.args.self.now in
    let sets : c.sets-sets.result ≡ h.config.sets =
    rw c.self.view_is at (c.sets-sets.ensures.value ∙ ap (λ (x : Settings). x.sets) c.config.ensures.value) in
    let e = put_right_as h (rw c.self.view_is at c.config.ensures.in_order) (wants_of c.args.wants) c.sets-sets.result c.useful_ways.result
    c.found_in.result c.found_in-2.result c.counted_in.result c.counted_in-2.result c.room_set-room.result c.line_set-line.result sets
    c.room_set-room.ensures.value c.room_set-room.ensures.exists c.line_set-line.ensures.value c.line_set-line.ensures.exists
    (rw c.self.view_is at c.useful_ways.ensures.number)
    c.found_in.ensures.number c.found_in-2.ensures.number c.counted_in.ensures.number c.counted_in-2.ensures.number in
    omega (arith, e)
