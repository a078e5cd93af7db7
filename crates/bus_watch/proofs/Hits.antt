-- A cache answers with a value exactly where the word is valid.
use Rattle.std.proofs.Common.{◌≡◌, ℕ, Bool, true, false, Option, Some, None, is_some, refl}
use Rattle.std.specs.Prelude.{if◌then◌else◌}
use Rattle.rules_maps.specs.Cache.{Cache, all_marked, free_way}
use Rattle.rules_maps.specs.CacheLook.{Look, Hit, Miss, NeedsRoom, Overflow, look_line, look_load, look_value}
use Rattle.rules_maps.specs.Shape.{Shape, set_of}
use Rattle.rules_maps.specs.Words.{line_of}
use Rattle.bus_watch.specs.Telling.{hits}

no-hit : (held free marked : Bool) (set : ℕ)
    → hits (if held then Miss else if free then Miss else if marked then Overflow set else NeedsRoom set) ≡ false
no-hit true free marked set = refl
no-hit false true marked set = refl
no-hit false false true set = refl
no-hit false false false set = refl

value-hits : (o : Option ℕ) (sh : Shape) (l : ℕ) (c : Cache) → hits (look_value o sh l c) ≡ is_some o
unfolding look_value look_line
value-hits (Some x) sh l c = refl
value-hits None sh l c = no-hit (c.held l) (is_some (free_way sh c (set_of sh l))) (all_marked sh c (set_of sh l)) (set_of sh l)

pub load-hits : (sh : Shape) (w : ℕ) (c : Cache) → hits (look_load sh w c) ≡ is_some (c.value w)
unfolding look_load
load-hits sh w c = value-hits (c.value w) sh (line_of w) c
