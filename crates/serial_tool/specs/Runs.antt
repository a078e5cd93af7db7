-- The serial execution of listed orders, and the first of them that ends it.
use Rattle.std.specs.Prelude.{ℕ, ◌+◌, ◌≡◌, List, Option, Some, None, IsSome, map, slice_get, take}
use Rattle.image_load.specs.Contents.{started}
use Rattle.image_load.specs.Start.{Start}
use Rattle.rv_code.specs.Machine.{program}
use Rattle.rv_plain.specs.Machine.{plain_start}
use Rattle.rv_plain.specs.PlainState.{PlainState, order_of, plain_of}
use Rattle.schedule_text.specs.declared.fault.TextFault.{TextFault}
use Rattle.schedule_text.specs.declared.fault.TextFault.TheVariants.{Line, Memory}
use Rattle.tcc_base.specs.declared.access.Commit.{Commit}
use Rattle.rules_program.specs.Orders.{last_tid}
use Rattle.rules_program.specs.Plain.{Plain, serial}
use Rattle.serial_tool.specs.declared.reading.Listed.{Listed}

-- where an execution begins: at a machine of this program, after the transaction with this TID, which is 0 before the first
pub record Beginning : Type 0 where
  pub start : Start
  pub machine : Plain
  pub last : ℕ

-- before the first transaction
abbrev pub at_start : Start → Beginning
at_start s = record { start = s; machine = plain_start s; last = 0 }

-- at the code's machine
abbrev pub beginning_of : PlainState → (last : ℕ) → Beginning
beginning_of s last = record { start = started s.loaded; machine = plain_of s; last = last }

-- the orders one after another, under TIDs that rise from above the last one: the plain machine afterwards and the commits; None: the
-- TIDs don't rise, or an order is no whole transaction
abbrev pub serial_from : Beginning → List Listed → Option (Plain × List Commit)
serial_from b listed = serial b.start.settings.base (program b.start) b.last (map (λ l. order_of l.order) listed) b.machine

-- the same from the start, under TIDs from 1 on
abbrev pub serial_by : Start → List Listed → Option (Plain × List Commit)
serial_by s listed = serial_from (at_start s) listed

-- the TID after orders: that of the last of them, or the one before them
abbrev pub tid_after : (last : ℕ) → List Listed → ℕ
tid_after last listed = last_tid last (map (λ l. order_of l.order) listed)

-- line k is that of the first order that can't follow those before it
pub record IsStuckFrom (b : Beginning) (listed : List Listed) (k : ℕ) : Type 0 where
  pub place : ℕ
  pub order : Listed
  pub there : slice_get listed place ≡ Some order
  pub line : k ≡ order.line
  pub before : IsSome (serial_from b (take place listed))
  pub stuck : serial_from b (take (place + 1) listed) ≡ None

abbrev pub IsStuckAt : Start → List Listed → (k : ℕ) → Type 0
IsStuckAt s listed k = IsStuckFrom (at_start s) listed k

-- what an error of the execution says
abbrev pub IsRunFaultFrom : Beginning → List Listed → TextFault → Type 0
IsRunFaultFrom b listed (Line k) = IsStuckFrom b listed k
IsRunFaultFrom b listed Memory = Unit {0}

abbrev pub IsRunFault : Start → List Listed → TextFault → Type 0
IsRunFault s listed fault = IsRunFaultFrom (at_start s) listed fault

-- where an error names a line, the whole list has no serial execution
abbrev pub HasNoSerialFrom : Beginning → List Listed → TextFault → Type 0
HasNoSerialFrom b listed (Line k) = serial_from b listed ≡ None
HasNoSerialFrom b listed Memory = Unit {0}

abbrev pub HasNoSerial : Start → List Listed → TextFault → Type 0
HasNoSerial s listed fault = HasNoSerialFrom (at_start s) listed fault
