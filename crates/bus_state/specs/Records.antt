-- A record tells one part of the bus or of memory as it is now. Those of the cores are watch_state's.
use Rattle.std.specs.Prelude.{ℕ, List}
use Rattle.bus_tcc.specs.Packets.{PacketLine}

-- who has the bus
pub data Holding : Type 0 where
  Nobody : Holding
  OneCore : (core : ℕ) → Holding  -- the core executes alone
  LeftTo : (cores : List ℕ) → Holding  -- these haven't taken the packet that is on it

pub data BusRecord : Type 0 where
  ArbiterIs : (next : ℕ) → (holding : Holding) → BusRecord  -- next: the TID of the next commit
  PacketHas : (line : PacketLine) → BusRecord
  MemoryWord : (addr value : ℕ) → BusRecord
