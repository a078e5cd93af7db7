-- The machine of sound parts.
use Rattle.std.proofs.Common.{◌≡◌, refl, sym, subst}
use Rattle.tcc_base.specs.declared.names.NodeId.TheVariants.{Vendor}
use Rattle.machine_parts.specs.Fields.{data_of}
use Rattle.machine_parts.specs.Parts.{PartsData}
use Rattle.machine_parts.specs.Together.{AreSound}
use Rattle.net_core.specs.Inside.{machine_of}
use Rattle.net_core.proofs.Put.{IsPut, parts-go, put-restored, put-whole}
use Rattle.net_core.proofs.system.System.restored.Goals as goal

-- the parts by themselves are sound
sound-fields : (p q : PartsData) → p ≡ q → AreSound q → AreSound p
sound-fields p q e s = subst AreSound (sym e) s

pub mark_all-requires-clause-going : goal.mark_all-requires-clause-going
mark_all-requires-clause-going c =
    parts-go (data_of c.into_fields-fields.result)
    (sound-fields _ _ c.into_fields-fields.ensures (c.in_ok-is_sound.ensures.0 c.if-not-branch.false))

pub mark_all-requires-clause-ready : goal.mark_all-requires-clause-ready
mark_all-requires-clause-ready c =
    (sound-fields (data_of c.into_fields-fields.result) _ c.into_fields-fields.ensures
    (c.in_ok-is_sound.ensures.0 c.if-not-branch.false)).ready

-- the machine is put together of them
put : (c : goal.After-new)
    → let f = c.into_fields-fields.result in
    IsPut (data_of f) (machine_of (record {
      cores = f.cores;
      dirs = f.dirs;
      vendor = f.vendor;
      flights = c.mark_all.new.flights;
      sender = Vendor;
      out = c.new.result;
      placed = 0;
      commits = f.commits;
      events = f.events;
    }))
put c = record {
  cores = refl;
  dirs = refl;
  next = refl;
  commits = refl;
  events = refl;
  unsent = c.new.ensures;
  flight_cores = c.mark_all.ensures.cores;
  flight_dirs = c.mark_all.ensures.dirs;
  net = c.mark_all.ensures.net;
  allowed = c.mark_all.ensures.allowed;
  marked = c.mark_all.ensures.marked;
}

pub invariant_of-result : goal.invariant_of-result
invariant_of-result c =
    put-whole (data_of c.into_fields-fields.result) _
    (sound-fields (data_of c.into_fields-fields.result) _ c.into_fields-fields.ensures (c.in_ok-is_sound.ensures.0 c.if-not-branch.false))
    (put c)

pub returns-clause-machine : goal.returns-clause-machine
returns-clause-machine c =
    put-restored (data_of c.into_fields-fields.result) _ _ (c.in_ok-is_sound.ensures.0 c.if-not-branch.false) c.into_fields-fields.ensures
    (put c)

pub returns-clause-sound : goal.returns-clause-sound
returns-clause-sound c = (λ t. c.in_ok-is_sound.ensures.0 c.if-not-branch.false, λ s. refl)

pub returns-then-not-branch-clause-sound : goal.returns-then-not-branch-clause-sound
returns-then-not-branch-clause-sound c = (
  λ t. absurd (cc),
  λ s. let no = c.in_ok-is_sound.ensures.1 s in let is = c.if-not-branch.true in absurd (cc),
)
