-- The useful events of a machine: what its cores may do, and then the messages that are marked.
use Rattle.std.proofs.Common.{◌≡◌, ℕ, suc, ◌+◌, ◌*◌, ◌<◌, ◌≤◌, Bool, true, false, ◌&&◌, List, [], ◌∷◌, ◌++◌, map, take}
use Rattle.std.proofs.Common.{length, length-append, Option, Some, None, is_some, refl, ap, sym, ◌∙◌, subst, arith}
use Rattle.std.specs.Prelude.{slice_get}
use Rattle.std.specs.List.{filter, flat_map}
use Rattle.std.proofs.lemmas.List.Elements.{filter-append}
use Rattle.std.proofs.lemmas.List.{length-map, map-append}
use Rattle.base_lemmas.proofs.Lemmas.{and-true, get-front, those-most}
use Rattle.rules_maps.specs.Nodes.{Node, Event, Exec, Evict, Deliver, Msg}
use Rattle.rules_maps.specs.Words.{those}
use Rattle.tcc_msg.specs.Plain.{event_of}
use Rattle.tcc_msg.specs.declared.event.Event.{Event as CodeEvent}
use Rattle.rules_tcc.specs.CoreExec.{core_exec}
use Rattle.rules_tcc.specs.Links.{in_flight}
use Rattle.rules_tcc.specs.Seen.{numbers}
use Rattle.rules_tcc.specs.Step.{is_enabled}
use Rattle.rules_tcc.specs.Useful.{delivers, evicts, execs, is_of_use, is_useful, useful}
use Rattle.machine_cores.specs.Bank.{cores_of}
use Rattle.machine_cores.specs.Uses.{evict_events, exec_events}
use Rattle.machine_cores.proofs.Lemmas.{evicts-fit, get-right, numbers-length}
use Rattle.core_node.specs.Useful.{useful_evicts}
use Rattle.core_node.proofs.Lemmas.{useful-evicts, useful-execs}
use Rattle.machine_links.specs.Flights.{is_ready, net_of, ready_list}
use Rattle.machine_links.proofs.Lemmas.{Agrees, marked-flies, ready-delivers}
use Rattle.net_core.specs.Answers.{step_of}
use Rattle.net_core.specs.Delivery.{AreMarked}
use Rattle.net_core.specs.Machine.{Machine, program_of, settings_of, world_of}
use Rattle.net_core.specs.Whole.{IsWhole}
use Rattle.net_core.proofs.Useful.Enabled.{absent-refused, flying-enabled}
use Rattle.net_core.proofs.Prefixes.{took-more}
use Rattle.net_core.proofs.Keeping.{settled-net}

-- ---- those of a machine

-- what is always of use is useful where it is enabled
pub of-use : (m : Machine) (e : Event) → is_of_use (settings_of m) (program_of m) (world_of m) e ≡ true
    → is_some (step_of m e) ≡ is_useful (settings_of m) (program_of m) (world_of m) e
unfolding is_useful is_enabled
of-use m e h = sym (ap (λ b. is_some (step_of m e) && b) h ∙ and-true (is_some (step_of m e)))

-- a delivery is of use where it is enabled: where its message is marked
useful-flying : (m : Machine) → IsWhole m → (src dst : Node) (k : ℕ) (x : Msg) → in_flight (world_of m).net src dst k ≡ Some x
    → in_flight (net_of m.flights) src dst k ≡ Some x
    → is_useful (settings_of m) (program_of m) (world_of m) (Deliver src dst k) ≡ is_ready m.flights src dst k
unfolding is_useful is_enabled AreMarked
useful-flying m h src dst k x fly e =
    ap (λ b. b && true) (flying-enabled m h src dst k x fly) ∙ and-true _ ∙ sym (h.marked src dst k x e)

useless-none : (m : Machine) (src dst : Node) (k : ℕ) → in_flight (world_of m).net src dst k ≡ None
    → is_useful (settings_of m) (program_of m) (world_of m) (Deliver src dst k) ≡ false
unfolding is_useful is_enabled
useless-none m src dst k e = ap (λ o. is_some o && true) (absent-refused m src dst k e)

-- the marks tell which deliveries are useful
marks-agree : (m : Machine) → IsWhole m → m.unsent ≡ [] → Agrees m.flights (is_useful (settings_of m) (program_of m) (world_of m))
marks-agree m h e src dst k l = go (in_flight (net_of m.flights) src dst k) refl
  where
    flies : (o : Option Msg) → in_flight (net_of m.flights) src dst k ≡ o → in_flight (world_of m).net src dst k ≡ o
    flies o q = ap (λ net. in_flight net src dst k) (settled-net m e) ∙ q

    none : (b : Bool) → is_ready m.flights src dst k ≡ b → in_flight (net_of m.flights) src dst k ≡ None → false ≡ b
    none false r q = refl
    none true r q = absurd (let s = marked-flies m.flights src dst k r in cc)

    go : (o : Option Msg) → in_flight (net_of m.flights) src dst k ≡ o
        → is_useful (settings_of m) (program_of m) (world_of m) (Deliver src dst k) ≡ is_ready m.flights src dst k
    go None q = useless-none m src dst k (flies None q) ∙ none (is_ready m.flights src dst k) refl q
    go (Some x) q = useful-flying m h src dst k x (flies (Some x) q) q

-- the events that its cores may take, and those that are marked
abbrev pub execs_of : Machine → List Event
execs_of m = exec_events (settings_of m) (program_of m) (cores_of m.cores)

abbrev pub evicts_of : Machine → List Event
evicts_of m = evict_events (settings_of m) (program_of m) (cores_of m.cores)

pub useful-parts : (m : Machine) → IsWhole m → m.unsent ≡ []
    → useful (settings_of m) (program_of m) (world_of m) ≡ execs_of m ++ (evicts_of m ++ ready_list m.flights)
unfolding useful world_of exec_events evict_events
useful-parts m h e =
    let s = settings_of m in
    let p = program_of m in
    let w = world_of m in
    let q : Event → Bool = is_useful s p w in
    let ready : filter q (delivers s w) ≡ ready_list m.flights =
    ready-delivers s w m.flights q (sym h.flight_cores) (sym h.flight_dirs) (settled-net m e) (marks-agree m h e) in
    filter-append q (execs s) (evicts s ++ delivers s w)
    ∙ (λ i. useful-execs s p w i ++ filter q (evicts s ++ delivers s w))
    ∙ ap (λ es. execs_of m ++ es) (filter-append q (evicts s) (delivers s w)
    ∙ (λ i. useful-evicts s p w i ++ ready i))

-- ---- how many there are

flat-most : {A B : Type 0} (f : A → List B) (b : ℕ) (xs : List A) → ((x : A) → length (f x) ≤ b) → length (flat_map f xs) ≤ length xs * b
flat-most f b [] h = omega arith
flat-most f b (x ∷ xs) h =
    let own : length (f x) ≤ b = h x in
    let rest : length (flat_map f xs) ≤ length xs * b = flat-most f b xs h in
    let split : suc (length xs) * b ≡ b + length xs * b = grind arith in
    rw split (omega (arith, length-append (f x) (flat_map f xs), own, rest))

execs-most : (m : Machine) → length (execs_of m) ≤ (settings_of m).cores
unfolding exec_events
execs-most m =
    let p : ℕ → Bool = λ c. is_some (core_exec (settings_of m) (program_of m) c (cores_of m.cores c)) in
    omega (arith, length-map (those p (settings_of m).cores) Exec, those-most p (settings_of m).cores)

evicts-most : (m : Machine) → IsWhole m → length (evicts_of m) ≤ (settings_of m).cores * 4294967296
unfolding evict_events
evicts-most m h =
    let s = settings_of m in
    let found : ℕ → List (ℕ × ℕ) = λ c. useful_evicts s (program_of m) (cores_of m.cores c) in
    let each : (c : ℕ) → length (map (λ q. Evict c q.0 q.1) (found c)) ≤ 4294967296 = λ c.
    omega (
      arith,
      length-map (found c) (λ q. Evict c q.0 q.1),
      evicts-fit s (program_of m) (cores_of m.cores c) (length (found c)) h.allowed refl,
    ) in
    subst (λ n. length (evicts_of m) ≤ n * 4294967296) (numbers-length s.cores)
    (flat-most (λ c. map (λ q. Evict c q.0 q.1) (found c)) 4294967296 (numbers s.cores) each)

-- these are the numbers of each kind, and those of the cores are small
pub record Tells (m : Machine) (a b r : ℕ) : Type 0 where
  pub all : a + b + r ≡ length (useful (settings_of m) (program_of m) (world_of m))
  pub execs : a ≤ 64
  pub evicts : b ≤ 274877906944

useful-tells : (m : Machine) → IsWhole m → m.unsent ≡ []
    → Tells m (length (execs_of m)) (length (evicts_of m)) (length (ready_list m.flights))
useful-tells m h e = record {
  all = omega (
    arith,
    ap length (useful-parts m h e),
    length-append (execs_of m) (evicts_of m ++ ready_list m.flights),
    length-append (evicts_of m) (ready_list m.flights),
  );
  execs = omega (arith, execs-most m, h.allowed.0.1);
  evicts = omega (arith, evicts-most m h, h.allowed.0.1);
}

-- as the code knows them
pub counts-tell : (m now : Machine) (a b r : ℕ) → IsWhole m → m ≡ now → now.unsent ≡ [] → a ≡ length (execs_of m) → b ≡ length (evicts_of m)
    → r ≡ length (ready_list m.flights) → Tells now a b r
counts-tell m now a b r h v e p q t =
    subst (λ n. Tells n a b r) v (rw (p, q, t) (useful-tells m h (ap (λ n. n.unsent) v ∙ e)))

-- ---- by number

module _ (m now : Machine) (k : ℕ) (h : IsWhole m) (v : m ≡ now) (settled : now.unsent ≡ []) where
  at-parts : slice_get (useful (settings_of now) (program_of now) (world_of now)) k
      ≡ slice_get (execs_of m ++ (evicts_of m ++ ready_list m.flights)) k
  at-parts =
      ap (λ n. slice_get (useful (settings_of n) (program_of n) (world_of n)) k) (sym v)
      ∙ ap (λ es. slice_get es k) (useful-parts m h (ap (λ n. n.unsent) v ∙ settled))

  pub at-execs : (o : Option Event) → o ≡ slice_get (execs_of m) k → k < length (execs_of m)
      → o ≡ slice_get (useful (settings_of now) (program_of now) (world_of now)) k
  at-execs o e l = e ∙ sym (at-parts ∙ get-front (execs_of m) (evicts_of m ++ ready_list m.flights) k l)

  pub at-evicts : (o : Option Event) (i : ℕ) → o ≡ slice_get (evicts_of m) i → k ≡ length (execs_of m) + i → i < length (evicts_of m)
      → o ≡ slice_get (useful (settings_of now) (program_of now) (world_of now)) k
  at-evicts o i e q l =
      e ∙ sym (at-parts ∙ (get-right (execs_of m) (evicts_of m ++ ready_list m.flights) i k q
      ∙ get-front (evicts_of m) (ready_list m.flights) i l))

  pub at-ready : (o : Option Event) (i : ℕ) → o ≡ slice_get (ready_list m.flights) i → k ≡ length (execs_of m) + (length (evicts_of m) + i)
      → o ≡ slice_get (useful (settings_of now) (program_of now) (world_of now)) k
  at-ready o i e q =
      e ∙ sym (at-parts ∙ (get-right (execs_of m) (evicts_of m ++ ready_list m.flights) (length (evicts_of m) + i) k q
      ∙ get-right (evicts_of m) (ready_list m.flights) i (length (evicts_of m) + i) refl))

-- one more event of the list
pub one-listed : (us : List Event) (es more : List CodeEvent) (k : ℕ) (e : CodeEvent) → map event_of es ≡ take k us
    → slice_get us k ≡ Some (event_of e) → more ≡ es ++ e ∷ [] → map event_of more ≡ take (k + 1) us
one-listed us es more k e so at m =
    ap (map event_of) m ∙ (map-append event_of es (e ∷ []) ∙ (ap (λ ys. ys ++ event_of e ∷ []) so
    ∙ sym (took-more us k (event_of e) at)))
