-- Where a run leads to from its start.
use Rattle.std.proofs.Common.{◌≡◌, ◌↔◌, ℕ, Bool, [], length, IsTrue, ap, sym, ◌∙◌, subst, arith}
use Rattle.image_load.specs.Contents.{Contents, started}
use Rattle.rv_code.specs.Machine.{program}
use Rattle.rules_bus.specs.Step.{bus_from, bus_run}
use Rattle.rules_bus.specs.Useful.{BusIsDone}
use Rattle.theorem_bus.specs.Given.{BusSerial}
use Rattle.bus_tcc.specs.Machine.{bus_history_of, bus_settings_of, bus_world_of}
use Rattle.bus_tcc.specs.Refined.{IsBusRefined}
use Rattle.bus_tool.specs.Picking.{picks}
use Rattle.bus_tool.specs.Running.{bus_picked_by}
use Rattle.bus_tool.proofs.Lemmas.{picks-there}
use Rattle.bus_run.specs.Going.{GoneOn, Starts, coming, runs}
use Rattle.bus_run.specs.Leading.{BusLeadsTo}
use Rattle.bus_run.specs.declared.running.BusRun.{BusRun}

-- what comes at the start is what the seed picks
pub coming-first : (c : Contents) (seed steps : ℕ) (r : BusRun) → Starts c seed steps r
    → coming r ≡ bus_picked_by (started c) seed steps
coming-first c seed steps r s =
    ap (λ n. picks n r.words r.system) s.left ∙ picks-there c r.system r.words seed steps s.code s.history s.words

-- nothing comes any more
pub leads : (c : Contents) (seed steps : ℕ) (r n : BusRun) (done : Bool) → Starts c seed steps r → GoneOn r n → coming n ≡ []
    → IsBusRefined n.system → IsTrue done ↔ BusIsDone (bus_settings_of n.system) (bus_world_of n.system)
    → BusLeadsTo (started c) (bus_picked_by (started c) seed steps) done (bus_history_of n.system)
unfolding started bus_run bus_from bus_history_of
leads c seed steps r n done s g e k is =
    let same = g.code ∙ s.code in
    record {
      is_run =
          sym (λ i. bus_from (s.code i).settings (program (started (s.code i))) (coming-first c seed steps r s i) (s.history i))
          ∙ g.ran ∙ ap (runs n.system) e;
      is_done = subst (λ x. IsTrue done ↔ BusIsDone x.settings (bus_world_of n.system)) same is;
      serial = subst (λ x. BusSerial (started x) (bus_history_of n.system)) same k.serial;
      tids = k.tids;
    }

pub as-many : (c : Contents) (seed steps : ℕ) (r n : BusRun) → Starts c seed steps r → GoneOn r n → coming n ≡ []
    → n.system.events ≡ length (bus_picked_by (started c) seed steps)
as-many c seed steps r n s g e =
    let all = ap length (coming-first c seed steps r s) in
    let events = g.events in
    let none = ap length e in
    let first = s.events in
    omega (arith, all, events, none, first)
