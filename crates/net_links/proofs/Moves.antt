-- Each step on a link keeps its rule.
use Rattle.std.proofs.Common.{◌≡◌, ◌≢◌, ℕ, true, false, true≢false, List, [], ◌∷◌, ◌++◌, length, set, sym, refl, ap, ◌∙◌, subst}
use Rattle.std.proofs.Common.{⊎_elim, append_assoc, append-nil}
use Rattle.std.proofs.lemmas.List.Elements.{All-push, All-head, All-tail}
use mathlib.Core.Option.{some, some-ne-none}
use lib.ListN.{get_elem?}
use Rattle.crossbeam_queue.specs.Fifo.{Pushes, Pops, Forks, Merges}
use Rattle.crossbeam_queue.proofs.Lists.{at_set, at_snoc}
use Rattle.tcc_msg.specs.Plain.{msg_of}
use Rattle.rules_apart.specs.declared.logs.Mail.{Mail}
use Rattle.net_links.specs.declared.rule.Ends.{Ends}
use Rattle.net_links.specs.declared.rule.Hand.{Hand}
use Rattle.net_links.specs.Linked.{StartsWith, MayCarry, both_hands, outlet_hand, inlet_hand, receipt, Traffic, Shows, Linked}
use Rattle.net_links.proofs.Passes.{Each, each_set, each_snoc, at_end, nothing_left, all_of_none}

abbrev MayCarryMail : Ends → Mail → Type 0
MayCarryMail e m = MayCarry e (msg_of m.msg)

-- a pass that may neither push nor pop shows what it has heard of
only_heard : (t : Traffic) (port : ℕ) (v : Hand) → v.pushes ≡ false → v.pops ≡ false → StartsWith t.got v.heard → Shows t port v
only_heard t port v a b heard =
    record { pushes = λ p. absurd (true≢false (sym p ∙ a)); pops = λ p. absurd (true≢false (sym p ∙ b)); heard = heard }

-- a link begins with one pass, and nothing was sent
pub begins : Linked [] (both_hands ∷ [])
begins = record { traffic = t; parted = refl; carried = all_of_none (MayCarryMail t.ends) [] refl; shown = shown } where
  t : Traffic
  t = record { ends = both_hands.ends; sent = []; got = []; writer = 0; reader = 0 }

  shown : Each (Shows t) (both_hands ∷ [])
  shown =
      each_set (Shows t) (both_hands ∷ []) 0 both_hands
      record { pushes = λ _. (refl, refl, refl); pops = λ _. (refl, refl, refl); heard = ([], refl) }
      (λ j u other e. absurd (other (at_end [] both_hands u j (λ x. some-ne-none u (sym x)) e)))

-- a message joins at the back
pub sends : (n port : ℕ) (v : Hand) (m : Mail) → v.pushes ≡ true → MayCarryMail v.ends m
    → Pushes Linked n port v m (λ w. w ≡ record v { sent = v.sent ++ m ∷ [] })
sends n port v m may fits items views _ h at =
    let mine = h.shown port v at in
    let own = mine.pushes may in
    let w : Hand = record v { sent = v.sent ++ m ∷ [] } in
    let t : Traffic = record h.traffic { sent = h.traffic.sent ++ m ∷ [] } in
    let now : Shows t port w =
    record { pushes = λ _. (own.0, own.1, ap (λ l. l ++ m ∷ []) own.2); pops = mine.pops; heard = mine.heard } in
    let others : (j : ℕ) (u : Hand) → j ≢ port → get_elem? views j ≡ some u → Shows t j u =
    λ j u other e.
    let theirs = h.shown j u e in
    record { pushes = λ p. absurd (other ((theirs.pushes p).0 ∙ sym own.0)); pops = theirs.pops; heard = theirs.heard } in
    let kept : Linked (items ++ m ∷ []) (set views port w) =
    record {
      traffic = t;
      parted = ap (λ l. l ++ m ∷ []) h.parted ∙ append_assoc h.traffic.got items (m ∷ []);
      carried = All-push (MayCarryMail t.ends) items m h.carried (subst (λ (e : Ends). MayCarryMail e m) own.1 fits);
      shown = each_set (Shows t) views port w now others;
    } in
    (w, kept, refl)

-- a message leaves at the front
pub takes : (port : ℕ) (v : Hand) → v.pops ≡ true
    → Pops Linked port v (λ m w. (w ≡ record v { got = v.got ++ m ∷ [] }) × MayCarryMail v.ends m)
takes port v may m items views h at =
    let mine = h.shown port v at in
    let own = mine.pops may in
    let w : Hand = record v { got = v.got ++ m ∷ [] } in
    let t : Traffic = record h.traffic { got = h.traffic.got ++ m ∷ [] } in
    let longer : (part : List Mail) → StartsWith h.traffic.got part → StartsWith t.got part =
    λ part b. (b.0 ++ m ∷ [], ap (λ l. l ++ m ∷ []) b.1 ∙ append_assoc part b.0 (m ∷ [])) in
    let now : Shows t port w =
    record { pushes = mine.pushes; pops = λ _. (own.0, own.1, ap (λ l. l ++ m ∷ []) own.2); heard = longer v.heard mine.heard } in
    let others : (j : ℕ) (u : Hand) → j ≢ port → get_elem? views j ≡ some u → Shows t j u =
    λ j u other e.
    let theirs = h.shown j u e in
    record { pushes = theirs.pushes; pops = λ p. absurd (other ((theirs.pops p).0 ∙ sym own.0)); heard = longer u.heard theirs.heard } in
    let kept : Linked items (set views port w) =
    record {
      traffic = t;
      parted = h.parted ∙ sym (append_assoc h.traffic.got (m ∷ []) items);
      carried = All-tail (MayCarryMail t.ends) m items h.carried;
      shown = each_set (Shows t) views port w now others;
    } in
    (w, kept, (refl, subst (λ (e : Ends). MayCarryMail e m) (sym own.1) (All-head (MayCarryMail t.ends) m items h.carried)))

-- the first pass is cut in two, and the link has its ends
pub parts : (ends : Ends) (port : ℕ) (v : Hand) → v ≡ both_hands → Forks Linked port v (outlet_hand ends []) (inlet_hand ends [])
parts ends port v first items views h at =
    let l : Hand = outlet_hand ends [] in
    let r : Hand = inlet_hand ends [] in
    let vs : List Hand = set views port l in
    let mine = h.shown port both_hands (at ∙ ap some first) in
    let a = mine.pushes refl in
    let b = mine.pops refl in
    let left = nothing_left h.traffic.got items (sym h.parted ∙ sym a.2) in
    let t : Traffic = record { ends = ends; sent = []; got = []; writer = port; reader = length vs } in
    let Old : ℕ → Hand → Type 0 = λ j u. (u.pops ≢ true) × Shows t j u in
    let others : (j : ℕ) (u : Hand) → j ≢ port → get_elem? views j ≡ some u → Old j u =
    λ j u other e.
    let theirs = h.shown j u e in
    let idle : u.pops ≢ true = λ p. other ((theirs.pops p).0 ∙ sym b.0) in (
      idle,
      record {
        pushes = λ p. absurd (other ((theirs.pushes p).0 ∙ sym a.0));
        pops = λ p. absurd (idle p);
        heard = subst (λ got. StartsWith got u.heard) left.0 theirs.heard;
      },
    ) in
    let writes : Old port l =
    ((λ p. true≢false (sym p)), record { pushes = λ _. (refl, refl, refl); pops = λ p. absurd (true≢false (sym p)); heard = ([], refl) }) in
    let old : Each Old vs = each_set Old views port l writes others in
    let reads : (j : ℕ) (u : Hand) → get_elem? (vs ++ r ∷ []) j ≡ some u → r ≡ u → Shows t j u =
    λ j u e is.
    record {
      pushes = λ p. absurd (true≢false (sym (ap (λ (y : Hand). y.pushes) is ∙ p)));
      pops = λ p. (at_end vs r u j (λ x. (old j u x).0 p) e, ap (λ (y : Hand). y.ends) (sym is), ap (λ (y : Hand). y.got) (sym is));
      heard = subst (λ (y : Hand). StartsWith [] y.heard) is ([], refl);
    } in
    record {
      traffic = t;
      parted = sym left.1;
      carried = all_of_none (MayCarryMail ends) items left.1;
      shown = λ j u e. ⊎_elim (λ x. (old j u x).1) (reads j u e) (at_snoc vs r u j e);
    }

-- the inlet gives a receipt for what it has taken
pub acknowledges : (port : ℕ) (v : Hand) → v.pops ≡ true → Forks Linked port v v (receipt v.got)
acknowledges port v may items views h at =
    let mine = h.shown port v at in
    let F : ℕ → Hand → Type 0 = Shows h.traffic in
    let old : Each F (set views port v) = each_set F views port v mine (λ j u other e. h.shown j u e) in
    let all : StartsWith h.traffic.got v.got = ([], sym (mine.pops may).2 ∙ sym (append-nil v.got)) in
    record {
      traffic = h.traffic;
      parted = h.parted;
      carried = h.carried;
      shown = each_snoc F (set views port v) (receipt v.got) old (λ j. only_heard h.traffic j (receipt v.got) refl refl all);
    }

-- a pass hears of what a receipt is for
pub hears : (port : ℕ) (v : Hand) (other : ℕ) (told : Hand) → Merges Linked port v other told (record v { heard = told.heard }) (receipt [])
hears port v other told items views h at two at-other =
    let both : Hand = record v { heard = told.heard } in
    let vs : List Hand = set views port both in
    let mine = h.shown port v at in
    let was : get_elem? views other ≡ some told =
    ⊎_elim (λ x. absurd (two x.0)) (λ x. x.1) (at_set views port other both told at-other) in
    let F : ℕ → Hand → Type 0 = Shows h.traffic in
    let now : F port both = record { pushes = mine.pushes; pops = mine.pops; heard = (h.shown other told was).heard } in
    let old : Each F vs = each_set F views port both now (λ j u _ e. h.shown j u e) in
    let spent : F other (receipt []) = only_heard h.traffic other (receipt []) refl refl (h.traffic.got, refl) in
    record {
      traffic = h.traffic;
      parted = h.parted;
      carried = h.carried;
      shown = each_set F vs other (receipt []) spent (λ j u _ e. old j u e);
    }
