-- When a machine is done: nothing is in flight, and all its cores are at rest.
use Rattle.std.proofs.Common.{◌≡◌, ℕ, ◌<◌, Bool, true, false, List, [], ◌∷◌, ◌++◌, length, Option, Some, None, is_some, refl, ap, sym}
use Rattle.std.proofs.Common.{◌∙◌, subst, get_or}
use Rattle.std.specs.Prelude.{◌↔◌, IsTrue}
use Rattle.tcc_base.specs.declared.names.NodeId.{NodeId}
use Rattle.base_lemmas.proofs.Lemmas.{node_eq-refl}
use Rattle.theorem_sound.specs.Sound.{MarksInMemory}
use Rattle.rules_maps.specs.Bridge.{node_of}
use Rattle.rules_maps.specs.Cache.{Cache, is_dirty}
use Rattle.rules_maps.specs.Nodes.{Node, Msg as PlainMsg}
use Rattle.rules_maps.specs.Shape.{Shape, lines}
use Rattle.rules_maps.specs.Words.{any_below, any_word, word_at}
use Rattle.rules_maps.proofs.Lemmas.{any_below-found}
use Rattle.tcc_msg.specs.Plain.{msg_of, sends_of}
use Rattle.tcc_msg.specs.declared.msg.Msg.{Msg}
use Rattle.rules_tcc.specs.Links.{in_flight, sending, sent_all}
use Rattle.rules_tcc.specs.Seen.{IsDone}
use Rattle.rules_tcc.specs.State.{Link}
use Rattle.machine_cores.specs.Bank.{cores_of}
use Rattle.machine_cores.specs.Rest.{IsAtRest}
use Rattle.machine_links.specs.Flights.{net_of}
use Rattle.net_core.specs.Machine.{Machine, history_of, settings_of, world_of}
use Rattle.net_core.specs.Whole.{IsWhole}
use Rattle.net_core.proofs.Words.Away.{clean-line}
use Rattle.net_core.proofs.Keeping.{settled-net}

-- ---- one cache

-- no line has a dirty word where no line in memory has one
clean-word : (sh : Shape) (c : Cache) (v : ℕ) → MarksInMemory sh c → any_below (is_dirty c) (lines sh) ≡ false → c.dirty v ≡ None
clean-word sh c v m none = go (c.dirty v) refl
  where
    go : (o : Option ℕ) → c.dirty v ≡ o → o ≡ None
    go None e = refl
    go (Some g) e =
        let free : c.dirty v ≡ None = clean-line sh c v (m.dirty v (ap is_some e)) none in
        absurd (cc)

clean-lines : (sh : Shape) (c : Cache) → ((v : ℕ) → c.dirty v ≡ None) → any_below (is_dirty c) (lines sh) ≡ false
unfolding is_dirty any_word
clean-lines sh c none = go (any_below (is_dirty c) (lines sh)) refl
  where
    go : (b : Bool) → any_below (is_dirty c) (lines sh) ≡ b → b ≡ false
    go false e = refl
    go true e =
        let l = any_below-found (is_dirty c) (lines sh) e in
        let k = any_below-found (λ k. is_some (c.dirty (word_at l.0 k))) 8 l.2 in
        let no : is_some (c.dirty (word_at l.0 k.0)) ≡ false = ap is_some (none (word_at l.0 k.0)) in
        absurd (let yes = k.2 in cc)

-- ---- what was sent

behind : (l : Link) (x : PlainMsg) (r : Link) → get_or (l ++ Some x ∷ r) (length l) None ≡ Some x
behind [] x r = refl
behind (y ∷ l) x r = behind l x r

-- what a node sent is in flight
sent-flies : (net : Node → Node → Link) (n : NodeId) (e : NodeId × Msg) (es : List (NodeId × Msg))
    → in_flight (sending net (node_of n) (sends_of (e ∷ es))) (node_of n) (node_of e.0) (length (net (node_of n) (node_of e.0)))
    ≡ Some (msg_of e.1)
unfolding sends_of sent_all
sent-flies net n e es = rw (node_eq-refl (node_of n), node_eq-refl (node_of e.0))
    (behind (net (node_of n) (node_of e.0)) (msg_of e.1) _)

-- where nothing is in flight all that was sent stands on its links
quiet-settled : (m : Machine) → ((src dst : Node) (k : ℕ) → in_flight (world_of m).net src dst k ≡ None) → m.unsent ≡ []
unfolding world_of
quiet-settled m quiet = go m.unsent refl
  where
    go : (es : List (NodeId × Msg)) → m.unsent ≡ es → es ≡ []
    go [] q = refl
    go (e ∷ es) q =
        let here = sent-flies (net_of m.flights) m.sender e es in
        let none = quiet (node_of m.sender) (node_of e.0) (length (net_of m.flights (node_of m.sender) (node_of e.0))) in
        let same = subst (λ xs. in_flight (sending (net_of m.flights) (node_of m.sender) (sends_of xs)) (node_of m.sender) (node_of e.0)
        (length (net_of m.flights (node_of m.sender) (node_of e.0))) ≡ None) q none in
        absurd (cc)

-- ---- done

abbrev pub IsQuiet : Machine → Type 0
IsQuiet m = (src dst : Node) (k : ℕ) → in_flight (net_of m.flights) src dst k ≡ None

abbrev pub AllRest : Machine → Type 0
AllRest m = (c : ℕ) → c < (settings_of m).cores → IsAtRest (settings_of m) (cores_of m.cores c)

pub rests-done : (m : Machine) → IsWhole m → m.unsent ≡ [] → IsQuiet m → AllRest m → IsDone (settings_of m) (world_of m)
unfolding world_of history_of
rests-done m h e quiet rest = record {
  halted = λ c l. (rest c l).halted;
  quiet = λ src dst k. ap (λ net. in_flight net src dst k) (settled-net m e) ∙ quiet src dst k;
  clean = λ c v l. clean-word (settings_of m) (cores_of m.cores c).cache v (h.sound.marks c) (rest c l).clean;
}

pub done-settled : (m : Machine) → IsDone (settings_of m) (world_of m) → m.unsent ≡ []
done-settled m d = quiet-settled m d.quiet

pub done-quiet : (m : Machine) → IsDone (settings_of m) (world_of m) → IsQuiet m
done-quiet m d src dst k = ap (λ net. in_flight net src dst k) (sym (settled-net m (done-settled m d))) ∙ d.quiet src dst k

pub done-rests : (m : Machine) → IsDone (settings_of m) (world_of m) → AllRest m
unfolding world_of
done-rests m d c l = record {
  halted = d.halted c l;
  clean = clean-lines (settings_of m) (cores_of m.cores c).cache (λ v. d.clean c v l);
}

-- as the code tests it

pub where-quiet : (m now : Machine) (b : Bool) → IsWhole m → m ≡ now → now.unsent ≡ [] → IsQuiet m → (IsTrue b ↔ AllRest m)
    → IsTrue b ↔ IsDone (settings_of now) (world_of now)
where-quiet m now b h v e quiet rests =
    subst (λ n. IsTrue b ↔ IsDone (settings_of n) (world_of n)) v
    (λ t. rests-done m h (ap (λ n. n.unsent) v ∙ e) quiet (rests.0 t), λ d. rests.1 (done-rests m d))

pub where-loud : (m now : Machine) (b q : Bool) → m ≡ now → b ≡ false → q ≡ false → (IsTrue q ↔ IsQuiet m)
    → IsTrue b ↔ IsDone (settings_of now) (world_of now)
where-loud m now b q v f g quiet =
    subst (λ n. IsTrue b ↔ IsDone (settings_of n) (world_of n)) v
    (λ t. absurd (cc), λ d. absurd (let t : q ≡ true = quiet.1 (done-quiet m d) in cc))

pub where-unsettled : (now : Machine) (b q : Bool) → b ≡ false → q ≡ false → (IsTrue q ↔ (now.unsent ≡ []))
    → IsTrue b ↔ IsDone (settings_of now) (world_of now)
where-unsettled now b q f g settled = (λ t. absurd (cc), λ d. absurd (let t : q ≡ true = settled.1 (done-settled now d) in cc))
