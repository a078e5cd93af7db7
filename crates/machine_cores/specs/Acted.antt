-- One core has acted as a rule says, and all others are as before.
use Rattle.std.specs.Prelude.{ℕ, ◌≡◌, Option, Some, None}
use Rattle.tcc_base.specs.Put.{put}
use Rattle.tcc_msg.specs.Plain.{sends_of}
use Rattle.tcc_msg.specs.declared.outgoing.Outgoing.{Outgoing}
use Rattle.rules_tcc.specs.Attempt.{Out}
use Rattle.commit_engine.specs.Sent.{followed}
use Rattle.machine_cores.specs.Bank.{CoresData, cores_of}

pub record ActedAs (o : Out) (core : ℕ) (old new : CoresData) (before out : Outgoing) : Type 0 where
  pub cores : cores_of new ≡ put (cores_of old) core o.core
  pub sends : sends_of out.list.items ≡ followed (sends_of before.list.items) o.sends

abbrev pub Acted : Option Out → (core : ℕ) → (old new : CoresData) → (before out : Outgoing) → Type 0
Acted None core old new before out = ⊥
Acted (Some o) core old new before out = ActedAs o core old new before out
