-- What goes to the homes of the lines of a list, line by line.
use Rattle.std.proofs.Common.{ℕ, ◌+◌, ◌<◌, ◌≡◌, ◌≢◌, true, false, ◌==◌, nat_eq, if◌then◌else◌, List, [], ◌∷◌, ◌++◌, map, take, get_or}
use Rattle.std.proofs.Common.{length, length-append, vec_capacity, append-nil, refl, ap, sym, ◌∙◌, arith}
use Rattle.std.specs.List.{flat_map}
use Rattle.std.proofs.lemmas.Bool.{ne_eqb}
use Rattle.std.proofs.lemmas.List.{take_more, map-append}
use Rattle.std.proofs.Math.Seq.{take-length}
use Rattle.tcc_base.specs.declared.names.NodeId.TheVariants.{Dir as CodeDir}
use Rattle.tcc_base.specs.declared.names.DirId.{DirId}
use Rattle.tcc_base.specs.declared.names.LineAddr.{LineAddr}
use Rattle.tcc_base.specs.declared.names.Mask.{Mask}
use Rattle.tcc_base.specs.declared.access.Tagged.{Tagged as CodeTagged}
use Rattle.rules_maps.specs.Bridge.{tagged_of}
use Rattle.rules_maps.specs.Nodes.{Node, Dir, Msg, Skip, Commit, WriteBack, Tagged}
use Rattle.rules_maps.specs.Spilled.{Spilled, holds, spilled_line}
use Rattle.rules_maps.specs.Shape.{Shape, home}
use Rattle.tcc_msg.specs.Plain.{msg_of}
use Rattle.tcc_msg.specs.declared.msg.Msg.{Msg as CodeMsg}
use Rattle.tcc_msg.specs.declared.outgoing.Outgoing.{Outgoing}
use Rattle.rules_tcc.specs.Sends.{to}
use Rattle.spec_cache.specs.Home.{mark_of}
use Rattle.commit_engine.specs.Sent.{Sent, followed}
use Rattle.commit_engine.specs.Solo.{at_homes, spilled_back, here, closing}
use Rattle.commit_engine.proofs.Lemmas.{followed-nothing, sent_push, sent_as, sent_nothing, to-none}
use Rattle.commit_engine.proofs.SoloLists.{flat_map-append}

pub taken : (marks : List (LineAddr × Mask)) (i : ℕ) (x : LineAddr × Mask) → i < length marks
    → map mark_of (take (i + 1) marks) ≡ map mark_of (take i marks) ++ mark_of (get_or marks i x) ∷ []
taken marks i x h = rw (take_more marks i x h) (map-append mark_of (take i marks) (get_or marks i x ∷ []))

homes-push : (sh : Shape) (f : ℕ × ℕ → List Msg) (xs : List (ℕ × ℕ)) (x : ℕ × ℕ)
    → at_homes sh f (xs ++ x ∷ []) ≡ followed (at_homes sh f xs) (to (Dir (home sh x.0)) (f x))
unfolding at_homes followed
homes-push sh f xs x = λ i dst. (each dst) i
  where
    each : (dst : Node) → flat_map (λ (m : ℕ × ℕ). to (Dir (home sh m.0)) (f m) dst) (xs ++ x ∷ []) ≡ flat_map
        (λ (m : ℕ × ℕ). to (Dir (home sh m.0)) (f m) dst) xs ++ to (Dir (home sh x.0)) (f x) dst
    each dst =
        flat_map-append (λ (m : ℕ × ℕ). to (Dir (home sh m.0)) (f m) dst) xs (x ∷ [])
        ∙ ap (λ (r : List Msg). flat_map (λ (m : ℕ × ℕ). to (Dir (home sh m.0)) (f m) dst) xs ++ r)
        (append-nil (to (Dir (home sh x.0)) (f x) dst))

pub homes_none : (out : Outgoing) (sh : Shape) (f : ℕ × ℕ → List Msg) (marks : List (LineAddr × Mask))
    → Sent out out (at_homes sh f (map mark_of (take 0 marks))) 0
unfolding at_homes
homes_none out sh f marks = sent_nothing out

pub homes_more : (old mid new : Outgoing) (sh : Shape) (f : ℕ × ℕ → List Msg) (h : DirId) (m : CodeMsg) (marks : List (LineAddr × Mask))
    (i : ℕ) (x : LineAddr × Mask)
    → i < length marks → h.0 ≡ home sh (get_or marks i x).0.0 → msg_of m ∷ [] ≡ f (mark_of (get_or marks i x))
    → Sent old mid (at_homes sh f (map mark_of (take i marks))) i
    → new.list.items ≡ mid.list.items ++ (CodeDir h, m) ∷ [] → vec_capacity new.list ≡ vec_capacity mid.list
    → Sent old new (at_homes sh f (map mark_of (take (i + 1) marks))) (i + 1)
homes_more old mid new sh f h m marks i x b at said s e r =
    let p = mark_of (get_or marks i x) in
    let before = map mark_of (take i marks) in
    let one : to (Dir h.0) (msg_of m ∷ []) ≡ to (Dir (home sh p.0)) (f p) =
    ap (λ (d : ℕ). to (Dir d) (msg_of m ∷ [])) at ∙ ap (to (Dir (home sh p.0))) said in
    let all : followed (at_homes sh f before) (to (Dir h.0) (msg_of m ∷ [])) ≡ at_homes sh f (map mark_of (take (i + 1) marks)) =
    ap (followed (at_homes sh f before)) one ∙ sym (homes-push sh f before p) ∙ ap (at_homes sh f) (sym (taken marks i x b)) in
    sent_as old new _ _ (i + 1) (i + 1) (sent_push old mid new (at_homes sh f before) i (CodeDir h) m s e r) all (omega arith)

pub homes_same : (old new : Outgoing) (sh : Shape) (f : ℕ × ℕ → List Msg) (marks : List (LineAddr × Mask)) (i : ℕ) (x : LineAddr × Mask)
    → i < length marks → f (mark_of (get_or marks i x)) ≡ [] → Sent old new (at_homes sh f (map mark_of (take i marks))) i
    → Sent old new (at_homes sh f (map mark_of (take (i + 1) marks))) (i + 1)
homes_same old new sh f marks i x b none s =
    let p = mark_of (get_or marks i x) in
    let before = map mark_of (take i marks) in
    let one : to (Dir (home sh p.0)) (f p) ≡ (λ dst. []) = ap (to (Dir (home sh p.0))) none ∙ to-none (Dir (home sh p.0)) in
    let all : at_homes sh f (map mark_of (take (i + 1) marks)) ≡ at_homes sh f before =
    ap (at_homes sh f) (taken marks i x b) ∙ homes-push sh f before p ∙ ap (followed (at_homes sh f before)) one
    ∙ followed-nothing (at_homes sh f before) in
    sent_as old new _ _ i (i + 1) s (sym all) (omega arith)

pub homes_all : (old new : Outgoing) (sh : Shape) (f : ℕ × ℕ → List Msg) (marks : List (LineAddr × Mask)) (i : ℕ) → i ≡ length marks
    → Sent old new (at_homes sh f (map mark_of (take i marks))) i → Sent old new (at_homes sh f (map mark_of marks)) (length marks)
homes_all old new sh f marks i e s =
    let whole : take i marks ≡ marks = rw e (take-length marks) in
    sent_as old new _ _ i (length marks) s (ap (λ (ms : List (LineAddr × Mask)). at_homes sh f (map mark_of ms)) whole) (omega arith)

-- the lines at home at a directory, counted
pub here_none : (sh : Shape) (d : ℕ) (marks : List (LineAddr × Mask)) → 0 ≡ length (here sh d (map mark_of (take 0 marks)))
unfolding here
here_none sh d marks = refl

here-push : (sh : Shape) (d : ℕ) (xs : List (ℕ × ℕ)) (x : ℕ × ℕ)
    → length (here sh d (xs ++ x ∷ [])) ≡ length (here sh d xs) + length (if d == home sh x.0 then x ∷ [] else [])
unfolding here
here-push sh d xs x =
    let g : ℕ × ℕ → List (ℕ × ℕ) = λ m. if d == home sh m.0 then m ∷ [] else [] in
    ap length (flat_map-append g xs (x ∷ []) ∙ ap (λ r. flat_map g xs ++ r) (append-nil (g x))) ∙ length-append (flat_map g xs) (g x)

pub here_in : (sh : Shape) (d n : ℕ) (marks : List (LineAddr × Mask)) (i : ℕ) (x : LineAddr × Mask) → i < length marks
    → nat_eq d (home sh (get_or marks i x).0.0) ≡ true
    → n ≡ length (here sh d (map mark_of (take i marks))) → n + 1 ≡ length (here sh d (map mark_of (take (i + 1) marks)))
here_in sh d n marks i x b e s =
    let p = mark_of (get_or marks i x) in
    let one : length (if d == home sh p.0 then p ∷ [] else []) ≡ 1 = rw e refl in
    let all : length (here sh d (map mark_of (take (i + 1) marks))) ≡ length (here sh d (map mark_of (take i marks))) + length
    (if d == home sh p.0 then p ∷ [] else []) =
    ap (λ (xs : List (ℕ × ℕ)). length (here sh d xs)) (taken marks i x b) ∙ here-push sh d (map mark_of (take i marks)) p in
    omega (arith, one, all, s)

pub here_out : (sh : Shape) (d n : ℕ) (marks : List (LineAddr × Mask)) (i : ℕ) (x : LineAddr × Mask) → i < length marks
    → nat_eq d (home sh (get_or marks i x).0.0) ≡ false
    → n ≡ length (here sh d (map mark_of (take i marks))) → n ≡ length (here sh d (map mark_of (take (i + 1) marks)))
here_out sh d n marks i x b e s =
    let p = mark_of (get_or marks i x) in
    let none : length (if d == home sh p.0 then p ∷ [] else []) ≡ 0 = rw e refl in
    let all : length (here sh d (map mark_of (take (i + 1) marks))) ≡ length (here sh d (map mark_of (take i marks))) + length
    (if d == home sh p.0 then p ∷ [] else []) =
    ap (λ (xs : List (ℕ × ℕ)). length (here sh d xs)) (taken marks i x b) ∙ here-push sh d (map mark_of (take i marks)) p in
    omega (arith, none, all, s)

pub here_all : (sh : Shape) (d n : ℕ) (marks : List (LineAddr × Mask)) (i : ℕ) → i ≡ length marks
    → n ≡ length (here sh d (map mark_of (take i marks))) → n ≡ length (here sh d (map mark_of marks))
here_all sh d n marks i e s =
    let whole : take i marks ≡ marks = rw e (take-length marks) in
    s ∙ ap (λ (ms : List (LineAddr × Mask)). length (here sh d (map mark_of ms))) whole

-- what a directory is told, by their number
pub closing_none : (sh : Shape) (ms : List (ℕ × ℕ)) (t d n : ℕ) → n ≡ length (here sh d ms) → n ≡ 0 → closing sh ms t d ≡ Skip t ∷ []
unfolding closing
closing_none sh ms t d n e h = let z : length (here sh d ms) ≡ 0 = sym e ∙ h in rw z refl

pub closing_some : (sh : Shape) (ms : List (ℕ × ℕ)) (t d n : ℕ) → n ≡ length (here sh d ms) → n ≢ 0 → closing sh ms t d ≡ Commit t n ∷ []
unfolding closing
closing_some sh ms t d n e h = rw (sym e, ne_eqb n 0 h) refl

-- the spilled words of a line
pub back_some : (k : CodeTagged) (sp : Spilled) (t : ℕ) (m : ℕ × ℕ) → tagged_of k ≡ spilled_line t sp m.0 → holds sp m.0 ≡ true
    → WriteBack k.line.0 k.mask.0 k.words k.tag.0 ∷ [] ≡ spilled_back sp t m
unfolding spilled_back spilled_line
back_some k sp t m e h = rw h (ap (λ (g : Tagged). WriteBack g.line g.mask g.words g.tag ∷ []) e)

pub back_none : (sp : Spilled) (t : ℕ) (m : ℕ × ℕ) → holds sp m.0 ≡ false → spilled_back sp t m ≡ []
unfolding spilled_back
back_none sp t m h = rw h refl
