-- What an event did on the machine with one bus, one fact each.
use Rattle.std.specs.Prelude.{ℕ}
use Rattle.bus_tcc.specs.Packets.{PacketLine}
use Rattle.watch.specs.Facts.{Fact}

-- who has the bus
pub data Holder : Type 0 where
  Nobody : Holder
  OneCore : (core : ℕ) → Holder  -- the core executes alone
  PacketOf : (tid : ℕ) → Holder  -- cores are still to take the packet of this commit

pub data BusFact : Type 0 where
  Common : Fact → BusFact  -- what a core did, as on the machine with directories
  TookPacket : (tid : ℕ) → BusFact
  HeldBy : Holder → BusFact
  SentLine : PacketLine → BusFact  -- a line of the packet of this commit
