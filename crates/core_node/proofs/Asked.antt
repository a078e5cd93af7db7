-- What a request for a line sends.
use Rattle.std.proofs.Common.{◌≡◌, ℕ, [], ◌∷◌, ◌++◌, vec_capacity}
use Rattle.tcc_base.specs.declared.names.NodeId.TheVariants.{Dir as CodeDir}
use Rattle.tcc_base.specs.declared.names.DirId.{DirId}
use Rattle.tcc_base.specs.declared.names.LineAddr.{LineAddr}
use Rattle.tcc_base.specs.declared.names.Tid.{Tid}
use Rattle.rules_maps.specs.Nodes.{Dir, LoadReq}
use Rattle.rules_maps.specs.Shape.{Shape, home}
use Rattle.tcc_msg.specs.declared.outgoing.Outgoing.{Outgoing}
use Rattle.tcc_msg.specs.declared.msg.Msg.TheVariants as code
use Rattle.rules_tcc.specs.Sends.{to}
use Rattle.commit_engine.specs.Sent.{Sent}
use Rattle.commit_engine.proofs.Lemmas.{sent_one}

pub sent_asked : (old new : Outgoing) (sh : Shape) (l : LineAddr) (d : DirId) (t : Tid) (after : ℕ → ℕ) → d.0 ≡ home sh l.0
    → t.0 ≡ after d.0
    → new.list.items ≡ old.list.items ++ (CodeDir d, code.LoadReq l t) ∷ [] → vec_capacity new.list ≡ vec_capacity old.list
    → Sent old new (to (Dir (home sh l.0)) (LoadReq l.0 (after (home sh l.0)) ∷ [])) 1
sent_asked old new sh l d t after h e i r = rw (← h, ← e) (sent_one old new (CodeDir d) (code.LoadReq l t) i r)
