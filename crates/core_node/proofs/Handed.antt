-- What dirty words that are handed out send.
use Rattle.std.proofs.Common.{◌≡◌, ℕ, [], ◌∷◌, ◌++◌, Some, None, vec_capacity, sym, arith}
use Rattle.tcc_base.specs.declared.access.Tagged.{Tagged as CodeTagged}
use Rattle.tcc_base.specs.declared.names.NodeId.TheVariants.{Dir as CodeDir}
use Rattle.tcc_base.specs.declared.names.DirId.{DirId}
use Rattle.rules_maps.specs.Bridge.{tagged_of}
use Rattle.rules_maps.specs.Cache.{Cache, dirty_copy}
use Rattle.rules_maps.specs.Nodes.{Node, Dir}
use Rattle.rules_maps.specs.Shape.{Shape, home}
use Rattle.tcc_msg.specs.declared.outgoing.Outgoing.{Outgoing}
use Rattle.tcc_msg.specs.declared.msg.Msg.TheVariants as code
use Rattle.rules_tcc.specs.Sends.{to, flush_line, write_back_line}
use Rattle.commit_engine.specs.Sent.{Sent}
use Rattle.commit_engine.proofs.Lemmas.{sent_one, sent_as, sent_nothing, to-none}

sent_empty : (out : Outgoing) (n : Node) → Sent out out (to n []) 1
sent_empty out n = sent_as out out (λ dst. []) (to n []) 0 1 (sent_nothing out) (sym (to-none n)) (omega arith)

pub flushed_none : (out : Outgoing) (sh : Shape) (c : Cache) (l : ℕ) → None ≡ dirty_copy c l → Sent out out (flush_line sh c l) 1
unfolding flush_line
flushed_none out sh c l e = rw (← e) (sent_empty out (Dir (home sh l)))

pub flushed_some : (old new : Outgoing) (sh : Shape) (c : Cache) (l : ℕ) (b : CodeTagged) (d : DirId)
    → Some (tagged_of b) ≡ dirty_copy c l → d.0 ≡ home sh l
    → new.list.items ≡ old.list.items ++ (CodeDir d, code.Flush b.mask b.line b.words b.tag) ∷ []
    → vec_capacity new.list ≡ vec_capacity old.list → Sent old new (flush_line sh c l) 1
unfolding flush_line
flushed_some old new sh c l b d e h i r = rw (← e, ← h) (sent_one old new (CodeDir d) (code.Flush b.mask b.line b.words b.tag) i r)

pub written_back_none : (out : Outgoing) (sh : Shape) (c : Cache) (l : ℕ) → None ≡ dirty_copy c l → Sent out out (write_back_line sh c l) 1
unfolding write_back_line
written_back_none out sh c l e = rw (← e) (sent_empty out (Dir (home sh l)))

pub written_back_some : (old new : Outgoing) (sh : Shape) (c : Cache) (l : ℕ) (b : CodeTagged) (d : DirId)
    → Some (tagged_of b) ≡ dirty_copy c l → d.0 ≡ home sh l
    → new.list.items ≡ old.list.items ++ (CodeDir d, code.WriteBack b.mask b.line b.words b.tag) ∷ []
    → vec_capacity new.list ≡ vec_capacity old.list → Sent old new (write_back_line sh c l) 1
unfolding write_back_line
written_back_some old new sh c l b d e h i r = rw (← e, ← h) (sent_one old new (CodeDir d) (code.WriteBack b.mask b.line b.words b.tag) i r)
