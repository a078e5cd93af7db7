use Rattle.std.proofs.Common.{◌≡◌, ◌<◌, None, length, get_or, sym, arith}
use Rattle.std.proofs.lemmas.List.{get_or_read}
use Rattle.spec_cache.specs.Held.{Held}
use Rattle.spec_cache.proofs.InPlaces.{IsTracked-stored}
use Rattle.spec_cache.proofs.tracked.Tracked.store_again.Goals as goal

pub invariant_of-self : goal.invariant_of-self
invariant_of-self c =
    let h : Held = record { config = c.self.inside.config; frames = c.self.inside.frames.items } in
    let end = rw (sym c.self.view_is) at c.requires.inside in
    let inside : c.in-Some.at < length c.self.inside.frames.items = (let b = c.in-Some.ensures in omega (arith, end, b)) in
    let old : c.index_mut.result.now ≡ get_or c.self.inside.frames.items c.in-Some.at None =
    get_or_read c.self.inside.frames.items c.in-Some.at c.index_mut.result.now inside c.index_mut.ensures.value None in
    IsTracked-stored h c.self.inside.tags.items c.self.inside.written c.self.inside.read c.self.inside.dirty c.self.inside.idle
    c.self.inside.used
    c.self.invariant c.in-Some.at c.index_mut.result.now c.store_at.new.way inside old c.args.line.0 c.args.k c.args.value c.args.also
    c.store_at.result c.store_at.ensures
