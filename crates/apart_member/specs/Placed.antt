-- Where a part of the code belongs, and how it begins.
use Rattle.std.specs.Prelude.{◌≡◌}
use Rattle.image_load.specs.Contents.{Contents, started}
use Rattle.image_load.specs.Start.{first_ram}
use Rattle.rules_riscv.specs.Starting.{world_at_start}
use Rattle.tcc_base.specs.Settings.{Settings}
use Rattle.rules_maps.specs.Bridge.{node_of}
use Rattle.rules_tcc.specs.Local.{state_at}
use Rattle.apart_member.specs.Data.{kind_state, node_at}
use Rattle.apart_member.specs.declared.kind.MemberKind.{MemberKind}
use Rattle.apart_member.specs.declared.kind.MemberKind.TheVariants.{Core, Directory, Vendor}

-- it is of this machine, and the one of its number
abbrev pub IsPlaced : Settings → MemberKind → Type 0
IsPlaced s (Core id core) = (core.config ≡ s) × (core.id ≡ id)
IsPlaced s (Directory id dir) = dir.lines.place ≡ record { shape = s; dir = id.0 }
IsPlaced s (Vendor vendor) = Unit {0}

-- it is as the rules have it at the start
abbrev pub IsAtStart : Contents → MemberKind → Type 0
IsAtStart code k = kind_state (first_ram (started code)) k ≡ state_at (world_at_start (started code)) (node_of (node_at k))
