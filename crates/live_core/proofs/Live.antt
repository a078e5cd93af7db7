-- What the laws of the rules say of a machine that they have led to.
use Rattle.std.proofs.Common.{◌≡◌, List, Some}
use Rattle.image_load.specs.Contents.{Contents, started}
use Rattle.rv_code.specs.Machine.{program}
use Rattle.theorem_riscv.specs.Going.{RiscvNeverStuck, RiscvCoresGoOn}
use Rattle.rules_riscv.specs.Starting.{world_at_start}
use Rattle.tcc_base.specs.Settings.{IsAllowed}
use Rattle.theorem_live.specs.Progress.{DoneWhereNoneUseful, EachGoesOn}
use Rattle.rules_maps.specs.Nodes.{Event}
use Rattle.rules_tcc.specs.Step.{History, run}
use Rattle.net_core.specs.Machine.{Machine, history_of, settings_of}
use Rattle.net_core.specs.Reached.{Reached}
use Rattle.live_core.specs.Reached.{IsLive}

-- after a run from where some contents start
module _ (c : Contents) (es : List Event) (h : History) (k : IsAllowed c.settings)
    (e : run c.settings (program (started c)) (world_at_start (started c)) es ≡ Some h) where
  done-after : RiscvNeverStuck → DoneWhereNoneUseful c.settings (program (started c)) h.world
  unfolding started
  done-after l = rw e at (l (started c) es k)

  goes-on-after : RiscvCoresGoOn → EachGoesOn c.settings (program (started c)) h.world
  unfolding started
  goes-on-after l = rw e at (l (started c) es k)

pub live : (m : Machine) → IsAllowed (settings_of m) → RiscvNeverStuck → RiscvCoresGoOn → Reached m → IsLive m
unfolding history_of
live m k stuck on r =
    let c = m.cores.code in
    record {
      done = done-after c r.taken (history_of m) k r.reaches stuck;
      goes_on = goes-on-after c r.taken (history_of m) k r.reaches on;
    }
