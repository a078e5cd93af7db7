-- What a core knows of lines once memory has them.
use Rattle.std.specs.Prelude.{List, [], ◌∷◌}
use Rattle.tcc_base.specs.declared.access.Tagged.{Tagged}
use Rattle.rules_maps.specs.CacheChange.{cleaned}
use Rattle.rules_tcc.specs.State.{CoreState}

-- none of their words is dirty
unfoldable pub cleaned_by : List Tagged → CoreState → CoreState
cleaned_by [] s = s
cleaned_by (t ∷ ts) s = cleaned_by ts (record s { cache = cleaned t.line.0 s.cache })
