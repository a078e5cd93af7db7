-- The marks that a list of lines with masks stands for, one after another.
use Rattle.std.proofs.Common.{◌≡◌, ◌<◌, ℕ, ◌+◌, List, [], ◌∷◌, ◌++◌, map, take, length, vec_capacity, ap, sym, ◌∙◌, arith, get_or}
use Rattle.std.proofs.lemmas.List.{take_more, map-append}
use Rattle.std.proofs.Math.Seq.{take-length}
use Rattle.tcc_base.specs.declared.names.NodeId.TheVariants.{Dir as CodeDir}
use Rattle.tcc_base.specs.declared.names.DirId.{DirId}
use Rattle.tcc_base.specs.declared.names.LineAddr.{LineAddr}
use Rattle.tcc_base.specs.declared.names.Mask.{Mask}
use Rattle.tcc_base.specs.declared.names.Tid.{Tid}
use Rattle.rules_maps.specs.Nodes.{Dir}
use Rattle.tcc_msg.specs.declared.outgoing.Outgoing.{Outgoing}
use Rattle.tcc_msg.specs.declared.msg.Msg.TheVariants.{Mark as CodeMark}
use Rattle.rules_tcc.specs.Sends.{to}
use Rattle.spec_cache.specs.Home.{mark_of}
use Rattle.commit_engine.specs.Sent.{Sent, mark_at}
use Rattle.commit_engine.proofs.Lemmas.{sent_push, to-append, to-none, sent_nothing, sent_as}

pub marks_none : (out : Outgoing) (d : DirId) (t : Tid) (marks : List (LineAddr × Mask))
    → Sent out out (to (Dir d.0) (map (mark_at t.0) (map mark_of (take 0 marks)))) 0
marks_none out d t marks = sent_as out out (λ dst. []) (to (Dir d.0) []) 0 0 (sent_nothing out) (sym (to-none (Dir d.0))) (omega arith)

pub marks_more : (old mid new : Outgoing) (d : DirId) (t : Tid) (marks : List (LineAddr × Mask)) (i : ℕ) (x : LineAddr × Mask)
    → i < length marks
    → Sent old mid (to (Dir d.0) (map (mark_at t.0) (map mark_of (take i marks)))) i
    → new.list.items ≡ mid.list.items ++ (CodeDir d, CodeMark (get_or marks i x).0 (get_or marks i x).1 t) ∷ []
    → vec_capacity new.list ≡ vec_capacity mid.list
    → Sent old new (to (Dir d.0) (map (mark_at t.0) (map mark_of (take (i + 1) marks)))) (i + 1)
unfolding mark_at
marks_more old mid new d t marks i x h s e r =
    let p = get_or marks i x in
    let pushed = sent_push old mid new (to (Dir d.0) (map (mark_at t.0) (map mark_of (take i marks)))) i (CodeDir d)
    (CodeMark p.0 p.1 t) s e r in
    let longer : map mark_of (take (i + 1) marks) ≡ map mark_of (take i marks) ++ mark_of p ∷ [] =
    rw (take_more marks i x h) (map-append mark_of (take i marks) (p ∷ [])) in
    let all : map (mark_at t.0) (map mark_of (take i marks)) ++ mark_at t.0 (mark_of p) ∷ [] ≡ map (mark_at t.0)
    (map mark_of (take (i + 1) marks)) =
    sym (rw longer (map-append (mark_at t.0) (map mark_of (take i marks)) (mark_of p ∷ []))) in
    sent_as old new _ _ (i + 1) (i + 1) pushed
    (to-append (Dir d.0) (map (mark_at t.0) (map mark_of (take i marks))) (mark_at t.0 (mark_of p) ∷ []) ∙ ap (to (Dir d.0)) all)
    (omega arith)

pub marks_all : (old new : Outgoing) (d : DirId) (t : Tid) (marks : List (LineAddr × Mask)) (i : ℕ) → i ≡ length marks
    → Sent old new (to (Dir d.0) (map (mark_at t.0) (map mark_of (take i marks)))) i
    → Sent old new (to (Dir d.0) (map (mark_at t.0) (map mark_of marks))) (length marks)
marks_all old new d t marks i e s =
    let whole : take i marks ≡ marks = rw e (take-length marks) in
    sent_as old new _ _ i (length marks) s (ap (λ (ms : List (LineAddr × Mask)). to (Dir d.0) (map (mark_at t.0) (map mark_of ms))) whole)
    (omega arith)
