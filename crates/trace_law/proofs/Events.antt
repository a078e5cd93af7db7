-- All facts of one event: the commits, the numbers and the messages that they tell of.
use Rattle.std.proofs.Common.{◌≡◌, ℕ, Bool, true, false, List, [], ◌∷◌, ◌++◌, Option, Some, None, ◌&&◌, ◌||◌, if◌then◌else◌}
use Rattle.std.proofs.Common.{◌+◌, length, drop, refl, sym, ap, ◌∙◌}
use Rattle.std.specs.List.{flat_map, list_any}
use Rattle.std.specs.Prelude.{slice_set, slice_index_or}
use Rattle.std.proofs.lemmas.List.{append-nil, append_assoc}
use Rattle.std.proofs.lemmas.List.Folds.{list_any-append}
use Rattle.tcc_base.specs.declared.access.Commit.{Commit as Noted}
use Rattle.rules_maps.specs.Nodes.{Node, Msg, Event, Exec, Evict, Deliver, node_eq}
use Rattle.rules_maps.specs.Shape.{Shape}
use Rattle.rules_program.specs.Program.{Program}
use Rattle.rules_tcc.specs.Links.{in_flight}
use Rattle.rules_tcc.specs.State.{Link, World}
use Rattle.rules_tcc.specs.Step.{History, Stepped}
use Rattle.rules_tcc.specs.Useful.{nodes}
use Rattle.watch.specs.Facts.{Fact}
use Rattle.watch.specs.Happened.{actor, acted, commit_fact, moved, numbered, sent_to, sent, facts_of}
use Rattle.trace_law.specs.Commits.{CommitTold, as_told, commit_in, commits_in}
use Rattle.trace_law.specs.Sent.{numbers_in, is_consumed}
use Rattle.trace_law.proofs.Facts.{plain-commits, plain-numbers, plain-consumed, heard_in, all_heard, plain-heard, moved-plain}
use Rattle.trace_law.proofs.Grown.{Grown, numbers-append}
use Rattle.trace_law.proofs.Links.{length-set, in-set}
use Rattle.trace_law.proofs.Outcomes.{Alone, End, IsTaken, IsDropped, IsKept, fact_of, leaves, left, Heard, Outcome, Happens}

-- ---- the links

left-length : (b : Bool) (net : Node → Node → Link) (src dst : Node) (k : ℕ) (s d : Node)
    → length (left b net src dst k s d) ≡ length (net s d)
left-length true net src dst k s d = go (node_eq s src && node_eq d dst)
  where
    go : (c : Bool) → length (if c then slice_set (net s d) k None else net s d) ≡ length (net s d)
    go true = length-set (net s d) k
    go false = refl
left-length false net src dst k s d = refl

left-flew : (b : Bool) (net : Node → Node → Link) (src dst : Node) (k : ℕ) (s d : Node) (j : ℕ) (m : Msg)
    → in_flight (left b net src dst k) s d j ≡ Some m → in_flight net s d j ≡ Some m
left-flew true net src dst k s d j m e = go (node_eq s src && node_eq d dst) e
  where
    go : (c : Bool) → slice_index_or (if c then slice_set (net s d) k None else net s d) j None ≡ Some m → in_flight net s d j ≡ Some m
    go true f = in-set (net s d) k j m f
    go false f = f
left-flew false net src dst k s d j m e = e

alone-grown : (w v : World) (a : Node) (fs : List Fact) → Alone w v a fs → Grown w v a
alone-grown w v a fs o = record { links = w.net; sends = o.sends; grown = o.grown; long = λ s d. refl; flew = λ s d k m e. e }

heard-grown : (w v : World) (src dst : Node) (k : ℕ) (fs : List Fact) → Heard w v src dst k fs → Grown w v dst
heard-grown w v src dst k fs o = record {
  links = left (leaves o.end) w.net src dst k;
  sends = o.sends;
  grown = o.grown;
  long = left-length (leaves o.end) w.net src dst k;
  flew = left-flew (leaves o.end) w.net src dst k;
}

pub event-grown : (w v : World) (e : Event) (fs : List Fact) → Outcome w v e fs → Grown w v (actor e)
event-grown w v (Exec c) fs o = alone-grown w v (actor (Exec c)) fs o
event-grown w v (Evict c x y) fs o = alone-grown w v (actor (Evict c x y)) fs o
event-grown w v (Deliver src dst k) fs o = heard-grown w v src dst k fs o

-- ---- what the event itself tells

one-commits : (end : End) (m : Msg) (fs : List Fact) → commits_in (fact_of end m ∷ fs) ≡ commits_in fs
unfolding commits_in
one-commits IsTaken m fs = refl
one-commits IsDropped m fs = refl
one-commits IsKept m fs = refl

did-commits : (w v : World) (e : Event) (fs : List Fact) → Outcome w v e fs → commits_in fs ≡ []
did-commits w v (Exec c) fs o = plain-commits fs o.plain
did-commits w v (Evict c x y) fs o = plain-commits fs o.plain
did-commits w v (Deliver src dst k) fs o =
    ap commits_in o.tells ∙ one-commits o.end o.message o.rest ∙ plain-commits o.rest o.plain

one-numbers : (s d : Node) (end : End) (m : Msg) (fs : List Fact) → numbers_in s d (fact_of end m ∷ fs) ≡ numbers_in s d fs
unfolding numbers_in
one-numbers s d IsTaken m fs = refl
one-numbers s d IsDropped m fs = refl
one-numbers s d IsKept m fs = refl

did-numbers : (s d : Node) (w v : World) (e : Event) (fs : List Fact) → Outcome w v e fs → numbers_in s d fs ≡ []
did-numbers s d w v (Exec c) fs o = plain-numbers s d fs o.plain
did-numbers s d w v (Evict c x y) fs o = plain-numbers s d fs o.plain
did-numbers s d w v (Deliver src dst k) fs o =
    ap (numbers_in s d) o.tells ∙ one-numbers s d o.end o.message o.rest ∙ plain-numbers s d o.rest o.plain

one-heard : (end : End) (m : Msg) (fs : List Fact) → all_heard (fact_of end m ∷ fs) ≡ m ∷ all_heard fs
unfolding all_heard
one-heard IsTaken m fs = refl
one-heard IsDropped m fs = refl
one-heard IsKept m fs = refl

-- of the message that it delivers, and of no other
abbrev pub heard_by : (w v : World) → (e : Event) → (fs : List Fact) → Outcome w v e fs → List Msg
heard_by w v (Exec c) fs o = []
heard_by w v (Evict c x y) fs o = []
heard_by w v (Deliver src dst k) fs o = o.message ∷ []

did-heard : (w v : World) (e : Event) (fs : List Fact) (o : Outcome w v e fs) → all_heard fs ≡ heard_by w v e fs o
did-heard w v (Exec c) fs o = plain-heard fs o.plain
did-heard w v (Evict c x y) fs o = plain-heard fs o.plain
did-heard w v (Deliver src dst k) fs o =
    ap all_heard o.tells ∙ one-heard o.end o.message o.rest ∙ ap (λ ms. o.message ∷ ms) (plain-heard o.rest o.plain)

one-consumed : (end : End) (m : Msg) (fs : List Fact) → list_any is_consumed fs ≡ false
    → list_any is_consumed (fact_of end m ∷ fs) ≡ leaves end
one-consumed IsTaken m fs e = refl
one-consumed IsDropped m fs e = refl
one-consumed IsKept m fs e = e

-- a message is consumed
abbrev pub consumed_by : (w v : World) → (e : Event) → (fs : List Fact) → Outcome w v e fs → Bool
consumed_by w v (Exec c) fs o = false
consumed_by w v (Evict c x y) fs o = false
consumed_by w v (Deliver src dst k) fs o = leaves o.end

did-consume : (w v : World) (e : Event) (fs : List Fact) (o : Outcome w v e fs) → list_any is_consumed fs ≡ consumed_by w v e fs o
did-consume w v (Exec c) fs o = plain-consumed fs o.plain
did-consume w v (Evict c x y) fs o = plain-consumed fs o.plain
did-consume w v (Deliver src dst k) fs o =
    ap (list_any is_consumed) o.tells ∙ one-consumed o.end o.message o.rest (plain-consumed o.rest o.plain)

-- ---- what was sent tells of nothing else

numbered-commits : (a d : Node) (k : ℕ) (ms : Link) → commits_in (numbered a d k ms) ≡ []
unfolding numbered commits_in
numbered-commits a d k [] = refl
numbered-commits a d k (None ∷ ms) = numbered-commits a d (k + 1) ms
numbered-commits a d k (Some m ∷ ms) = numbered-commits a d (k + 1) ms

numbered-heard : (a d : Node) (k : ℕ) (ms : Link) → all_heard (numbered a d k ms) ≡ []
unfolding numbered all_heard
numbered-heard a d k [] = refl
numbered-heard a d k (None ∷ ms) = numbered-heard a d (k + 1) ms
numbered-heard a d k (Some m ∷ ms) = numbered-heard a d (k + 1) ms

numbered-consumed : (a d : Node) (k : ℕ) (ms : Link) → list_any is_consumed (numbered a d k ms) ≡ false
unfolding numbered
numbered-consumed a d k [] = refl
numbered-consumed a d k (None ∷ ms) = numbered-consumed a d (k + 1) ms
numbered-consumed a d k (Some m ∷ ms) = numbered-consumed a d (k + 1) ms

pub commits-append : (fs gs : List Fact) → commits_in (fs ++ gs) ≡ commits_in fs ++ commits_in gs
unfolding commits_in
commits-append [] gs = refl
commits-append (f ∷ fs) gs =
    ap (λ cs. commit_in f ++ cs) (commits-append fs gs) ∙ sym (append_assoc (commit_in f) (commits_in fs) (commits_in gs))

heard-append : (fs gs : List Fact) → all_heard (fs ++ gs) ≡ all_heard fs ++ all_heard gs
unfolding all_heard
heard-append [] gs = refl
heard-append (f ∷ fs) gs =
    ap (λ ms. heard_in f ++ ms) (heard-append fs gs) ∙ sym (append_assoc (heard_in f) (all_heard fs) (all_heard gs))

sent-commits : (sh : Shape) (w v : World) (a : Node) → commits_in (sent sh w v a) ≡ []
unfolding sent sent_to commits_in
sent-commits sh w v a = go (nodes sh)
  where
    go : (ns : List Node) → commits_in (flat_map (sent_to w v a) ns) ≡ []
    go [] = refl
    go (n ∷ ns) = commits-append (sent_to w v a n) (flat_map (sent_to w v a) ns)
        ∙ (λ i. numbered-commits a n (length (w.net a n)) (drop (length (w.net a n)) (v.net a n)) i ++ go ns i)

sent-heard : (sh : Shape) (w v : World) (a : Node) → all_heard (sent sh w v a) ≡ []
unfolding sent sent_to all_heard
sent-heard sh w v a = go (nodes sh)
  where
    go : (ns : List Node) → all_heard (flat_map (sent_to w v a) ns) ≡ []
    go [] = refl
    go (n ∷ ns) = heard-append (sent_to w v a n) (flat_map (sent_to w v a) ns)
        ∙ (λ i. numbered-heard a n (length (w.net a n)) (drop (length (w.net a n)) (v.net a n)) i ++ go ns i)

sent-consumed : (sh : Shape) (w v : World) (a : Node) → list_any is_consumed (sent sh w v a) ≡ false
unfolding sent sent_to
sent-consumed sh w v a = go (nodes sh)
  where
    go : (ns : List Node) → list_any is_consumed (flat_map (sent_to w v a) ns) ≡ false
    go [] = refl
    go (n ∷ ns) = list_any-append is_consumed (sent_to w v a n) (flat_map (sent_to w v a) ns)
        ∙ (λ i. numbered-consumed a n (length (w.net a n)) (drop (length (w.net a n)) (v.net a n)) i || go ns i)

-- ---- a commit

-- the commit that a step noted
abbrev pub noted : Option Noted → List CommitTold
noted None = []
noted (Some c) = as_told c ∷ []

commit-commits : (o : Option Noted) → commits_in (commit_fact o) ≡ noted o
unfolding commits_in
commit-commits None = refl
commit-commits (Some c) = refl

commit-numbers : (s d : Node) (o : Option Noted) → numbers_in s d (commit_fact o) ≡ []
unfolding numbers_in
commit-numbers s d None = refl
commit-numbers s d (Some c) = refl

commit-heard : (o : Option Noted) → all_heard (commit_fact o) ≡ []
unfolding all_heard
commit-heard None = refl
commit-heard (Some c) = refl

commit-consumed : (o : Option Noted) → list_any is_consumed (commit_fact o) ≡ false
commit-consumed None = refl
commit-consumed (Some c) = refl

-- ---- all together

abbrev all_parts : (did commit came last : List Fact) → List Fact
all_parts did commit came last = did ++ (commit ++ (came ++ last))

commits-parts : (a b c d : List Fact) → commits_in (all_parts a b c d) ≡ commits_in a ++ (commits_in b ++ (commits_in c ++ commits_in d))
commits-parts a b c d =
    commits-append a (b ++ (c ++ d)) ∙ ap (λ xs. commits_in a ++ xs) (commits-append b (c ++ d)
    ∙ ap (λ xs. commits_in b ++ xs) (commits-append c d))

numbers-parts : (s t : Node) (a b c d : List Fact)
    → numbers_in s t (all_parts a b c d) ≡ numbers_in s t a ++ (numbers_in s t b ++ (numbers_in s t c ++ numbers_in s t d))
numbers-parts s t a b c d =
    numbers-append s t a (b ++ (c ++ d)) ∙ ap (λ xs. numbers_in s t a ++ xs) (numbers-append s t b (c ++ d)
    ∙ ap (λ xs. numbers_in s t b ++ xs) (numbers-append s t c d))

heard-parts : (a b c d : List Fact) → all_heard (all_parts a b c d) ≡ all_heard a ++ (all_heard b ++ (all_heard c ++ all_heard d))
heard-parts a b c d =
    heard-append a (b ++ (c ++ d)) ∙ ap (λ xs. all_heard a ++ xs) (heard-append b (c ++ d)
    ∙ ap (λ xs. all_heard b ++ xs) (heard-append c d))

consumed-parts : (a b c d : List Fact)
    → list_any is_consumed (all_parts a b c d)
    ≡ (list_any is_consumed a || (list_any is_consumed b || (list_any is_consumed c || list_any is_consumed d)))
consumed-parts a b c d =
    list_any-append is_consumed a (b ++ (c ++ d)) ∙ ap (λ x. list_any is_consumed a || x) (list_any-append is_consumed b (c ++ d)
    ∙ ap (λ x. list_any is_consumed b || x) (list_any-append is_consumed c d))

four : {A : Type 0} (a b c d w x y z : List A) → a ≡ w → b ≡ x → c ≡ y → d ≡ z → a ++ (b ++ (c ++ d)) ≡ w ++ (x ++ (y ++ z))
four a b c d w x y z e f g h = cc

four-tests : (a b c d w x y z : Bool) → a ≡ w → b ≡ x → c ≡ y → d ≡ z → (a || (b || (c || d))) ≡ (w || (x || (y || z)))
four-tests a b c d w x y z e f g h = λ i. e i || (f i || (g i || h i))

or-none : (b : Bool) → (b || (false || (false || false))) ≡ b
or-none true = refl
or-none false = refl

module _ (sh : Shape) (p : Program) (h : History) (e : Event) (t : Stepped) (o : Happens sh p h e t.world) where
  abbrev fs : List Fact
  fs = acted sh p h.commits h.world t.world e

  abbrev came : List Fact
  came = moved h.world t.world (actor e)

  abbrev last : List Fact
  last = sent sh h.world t.world (actor e)

  pub event-commits : commits_in (facts_of sh p h e (Some t)) ≡ noted t.noted
  event-commits =
      commits-parts fs (commit_fact t.noted) came last
      ∙ four (commits_in fs) (commits_in (commit_fact t.noted)) (commits_in came) (commits_in last) [] (noted t.noted) [] []
      (did-commits h.world t.world e fs o.did) (commit-commits t.noted) (plain-commits came (moved-plain h.world t.world (actor e)))
      (sent-commits sh h.world t.world (actor e))
      ∙ append-nil (noted t.noted)

  pub event-numbers : (s d : Node) → numbers_in s d (facts_of sh p h e (Some t)) ≡ numbers_in s d last
  event-numbers s d =
      numbers-parts s d fs (commit_fact t.noted) came last
      ∙ four (numbers_in s d fs) (numbers_in s d (commit_fact t.noted)) (numbers_in s d came) (numbers_in s d last) [] [] []
      (numbers_in s d last) (did-numbers s d h.world t.world e fs o.did) (commit-numbers s d t.noted)
      (plain-numbers s d came (moved-plain h.world t.world (actor e))) refl

  pub event-heard : all_heard (facts_of sh p h e (Some t)) ≡ heard_by h.world t.world e fs o.did
  event-heard =
      heard-parts fs (commit_fact t.noted) came last
      ∙ four (all_heard fs) (all_heard (commit_fact t.noted)) (all_heard came) (all_heard last)
      (heard_by h.world t.world e fs o.did) [] [] []
      (did-heard h.world t.world e fs o.did) (commit-heard t.noted) (plain-heard came (moved-plain h.world t.world (actor e)))
      (sent-heard sh h.world t.world (actor e))
      ∙ append-nil (heard_by h.world t.world e fs o.did)

  pub event-consumed : list_any is_consumed (facts_of sh p h e (Some t)) ≡ consumed_by h.world t.world e fs o.did
  event-consumed =
      consumed-parts fs (commit_fact t.noted) came last
      ∙ four-tests (list_any is_consumed fs) (list_any is_consumed (commit_fact t.noted)) (list_any is_consumed came)
      (list_any is_consumed last) (consumed_by h.world t.world e fs o.did) false false false
      (did-consume h.world t.world e fs o.did) (commit-consumed t.noted)
      (plain-consumed came (moved-plain h.world t.world (actor e))) (sent-consumed sh h.world t.world (actor e))
      ∙ or-none (consumed_by h.world t.world e fs o.did)
