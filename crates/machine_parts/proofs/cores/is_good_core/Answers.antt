-- Its attempt, its end, and its cache, which keeps to memory.
use Rattle.std.proofs.Common.{◌≡◌, sym, subst}
use Rattle.rules_maps.specs.Cache.{Cache, IsCache}
use Rattle.rules_maps.specs.Shape.{Shape}
use Rattle.core_node.specs.View.{core_of}
use Rattle.core_node.specs.declared.state.Core.{Core}
use Rattle.theorem_serial.specs.InMemory.{FramesInMemory}
use Rattle.theorem_bounds.proofs.Lemmas.{kept_in_frames}
use Rattle.theorem_sound.specs.Sound.{KeepsItsEnd, MarksInMemory}
use Rattle.machine_parts.proofs.cores.is_good_core.Goals as goal

in-memory : (sh : Shape) (c : Cache) → IsCache sh c → FramesInMemory sh c → MarksInMemory sh c
in-memory sh c k f = let m = kept_in_frames sh c k f in record { modified = m.modified; dirty = m.dirty }

ends : (x y : Core) → x ≡ y → KeepsItsEnd (core_of x) → KeepsItsEnd (core_of y)
ends x y e k = subst (λ z. KeepsItsEnd (core_of z)) e k

pub returns-then-is_counted : goal.returns-then-is_counted
unfolding core_of
returns-then-is_counted c = (
  λ t. record {
    attempt = c.is_counted.ensures.0 c.if-is_counted.true;
    marks = in-memory c.args.core.now.config (core_of c.args.core.now).cache
        c.keeps_cache.ensures.consistent c.keeps_cache.ensures.in_memory;
    ends = ends c.core-own.result.now c.args.core.now c.core-own.ensures (c.keeps_its_end.ensures.0 t);
  },
  λ g. c.keeps_its_end.ensures.1 (ends c.args.core.now c.core-own.result.now (sym c.core-own.ensures) g.ends),
)
