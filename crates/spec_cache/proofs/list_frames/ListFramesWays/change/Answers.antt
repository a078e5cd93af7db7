use Rattle.std.proofs.Common.{◌≡◌, length, take, drop, ◌++◌}
use Rattle.std.specs.Option.{option_map}
use Rattle.std.proofs.lemmas.List.{length-map}
use Rattle.base_lemmas.proofs.Lemmas.{write_back-whole}
use Rattle.spec_cache.specs.Change.{changed_frame}
use Rattle.spec_cache.proofs.Forms.{IsHeld-changed}
use Rattle.spec_cache.proofs.list_frames.ListFramesWays.change.Goals as goal

pub invariant_of-self : goal.invariant_of-self
invariant_of-self c =
    let l : length c.change_all.new.ways ≡ length c.self.inside.frames.items =
    rw (c.change_all.ensures, c.deref_mut.ensures.value)
    (length-map c.self.inside.frames.items (option_map (changed_frame c.args.change))) in
    let e : take c.self.inside.frames.len (c.change_all.new.ways ++ drop (length c.change_all.new.ways) c.self.inside.frames.items)
    ≡ c.change_all.new.ways =
    write_back-whole c.change_all.new.ways c.self.inside.frames.items c.self.inside.frames.len l c.self.inside.frames.ok.0 in
    rw (e, c.change_all.ensures, c.deref_mut.ensures.value) (IsHeld-changed c.args.change _ c.self.invariant)
