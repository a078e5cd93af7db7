-- The useful events of a machine, as the counts by core find them.
use Rattle.std.proofs.Common.{◌≡◌, ℕ, ◌+◌, ◌<◌, ◌≤◌, Bool, true, false, if◌then◌else◌, List, [], ◌∷◌, ◌++◌, map, length, length-append}
use Rattle.std.proofs.Common.{Fits, take, w8, Option, Some, None, is_some, refl, ap, sym, ◌∙◌, subst, arith, zero, suc}
use Rattle.std.specs.Prelude.{filter, get_or, nat_lt, slice_get, sum}
use Rattle.std.specs.Option.{option_map}
use Rattle.std.proofs.lemmas.List.{length-map, map-append, take_more}
use Rattle.std.proofs.lemmas.Option.{get_or_from_slice_get, slice_get-get_or, slice_get-map, slice_get_within}
use Rattle.image_load.specs.Contents.{Contents, started}
use Rattle.rv_code.specs.Machine.{program}
use Rattle.tcc_base.specs.Settings.{Settings}
use Rattle.base_lemmas.proofs.Lemmas.{get-front, never}
use Rattle.rules_maps.specs.Shape.{Shape}
use Rattle.rules_tcc.specs.CoreEvict.{core_evict}
use Rattle.rules_tcc.specs.Seen.{numbers}
use Rattle.rules_tcc.specs.State.{CoreState}
use Rattle.rules_tcc.specs.Useful.{room}
use Rattle.machine_cores.specs.Bank.{cores_of}
use Rattle.machine_cores.proofs.Lemmas.{get-right}
use Rattle.base_sums.specs.Falls.{FallsAt}
use Rattle.rules_bus.specs.State.{BusEvent, Exec, Evict, Take}
use Rattle.bus_tcc.specs.Answers.{bus_step_of}
use Rattle.bus_tcc.specs.Chosen.{bus_useful_of}
use Rattle.bus_tcc.specs.Left.{is_left}
use Rattle.bus_tcc.specs.Machine.{BusMachine, bus_event_of, bus_of, bus_program_of, bus_settings_of, bus_world_of, is_free}
use Rattle.bus_tcc.specs.Parts.{CountedIn, evicts_of, execs_of, takes_of}
use Rattle.bus_tcc.specs.Uses.{counts_taken, exec_count, may_exec, room_ways, ways_in, loose_ways}
use Rattle.bus_tcc.specs.Whole.{IsBusWhole}
use Rattle.bus_tcc.specs.declared.counts.Counts.{Counts}
use Rattle.bus_tcc.specs.declared.event.BusEvent.{BusEvent as CodeEvent}
use Rattle.bus_tcc.proofs.Enabling.{exec-enabled, useful-parts}
use Rattle.bus_tcc.proofs.Events.{bank_in}
use Rattle.bus_tcc.proofs.Numbers.{AreLengths, IsFound, count-most, flat-most, found, past, total}

-- what the bus of a machine says
pub free-of : (m now : BusMachine) (b : Bool) → m ≡ now → b ≡ is_free (bus_of m.bus) → b ≡ is_free (bus_world_of now).bus
unfolding bus_world_of
free-of m now b v e = e ∙ ap (λ x. is_free (bus_of x.bus)) v

-- ---- executions

abbrev one : Bool → BusEvent → List BusEvent
one b e = if b then e ∷ [] else []

one-length : (b : Bool) (e : BusEvent) → (if b then 1 else 0) ≡ length (one b e)
one-length true e = refl
one-length false e = refl

one-only : (b : Bool) (e : BusEvent) (r : ℕ) → r < length (one b e) → slice_get (one b e) r ≡ Some e
one-only true e zero h = refl
one-only true e (suc r) h = absurd (omega arith)
one-only false e r h = absurd (omega arith)

one-most : (b : Bool) (e : BusEvent) → length (one b e) ≤ 1
one-most true e = omega arith
one-most false e = omega arith

one-there : (b : Bool) (e : BusEvent) → nat_lt 0 (length (one b e)) ≡ b
one-there true e = refl
one-there false e = refl

abbrev pub chosen : Bool → Counts → List ℕ
chosen free n = if free then n.free else n.taken

abbrev may_of : BusMachine → ℕ → Bool
may_of m c = may_exec (bus_settings_of m) (bus_program_of m) (is_free (bus_world_of m).bus) c ((bus_world_of m).cores c)

exec-lengths : (m : BusMachine) (n : Counts) (free : Bool) → CountedIn m n → free ≡ is_free (bus_world_of m).bus
    → AreLengths (λ c. one (may_of m c) (Exec c)) (bus_settings_of m).cores (chosen free n)
exec-lengths m n free h e = by free e
  where
    same : (b : Bool) (c : ℕ) → b ≡ is_free (bus_world_of m).bus
        → exec_count (bus_settings_of m) (bus_program_of m) b c ((bus_world_of m).cores c) ≡ length (one (may_of m c) (Exec c))
    same b c q =
        ap (λ f. exec_count (bus_settings_of m) (bus_program_of m) f c ((bus_world_of m).cores c)) q ∙ one-length (may_of m c) (Exec c)

    by : (b : Bool) → b ≡ is_free (bus_world_of m).bus
        → AreLengths (λ c. one (may_of m c) (Exec c)) (bus_settings_of m).cores (chosen b n)
    by true q = (h.places.free, λ c l. (h.each c l).free ∙ same true c q)
    by false q =
        let asked = subst (λ f. counts_taken (bus_settings_of m) f ≡ true) q refl in
        (h.places.taken, λ c l. (h.each c l).taken asked ∙ same false c q)

-- the counts of executions, as the code has them
pub record ExecCounts (m : BusMachine) (n : Counts) (counts : List ℕ) : Type 0 where
  pub free : Bool
  pub is : free ≡ is_free (bus_world_of m).bus
  pub counted : CountedIn m n
  pub same : counts ≡ chosen free n

counts-are : (m : BusMachine) (n : Counts) (counts : List ℕ) → ExecCounts m n counts
    → AreLengths (λ c. one (may_of m c) (Exec c)) (bus_settings_of m).cores counts
counts-are m n counts k = rw k.same (exec-lengths m n k.free k.counted k.is)

pub exec-total : (m : BusMachine) (n : Counts) (counts : List ℕ) → ExecCounts m n counts → sum counts ≡ length (execs_of m)
unfolding execs_of
exec-total m n counts k = total _ (bus_settings_of m).cores counts (counts-are m n counts k)

pub exec-past : (m : BusMachine) (n : Counts) (counts : List ℕ) (k : ℕ) → ExecCounts m n counts → (k < sum counts → false ≡ true)
    → None ≡ slice_get (execs_of m) k
unfolding execs_of
exec-past m n counts k e l = sym (past _ (bus_settings_of m).cores counts k (counts-are m n counts e) (λ q. never (l q)))

pub exec-found : (m : BusMachine) (n : Counts) (counts : List ℕ) (k c r : ℕ) → ExecCounts m n counts → FallsAt counts k c r
    → Some (Exec c) ≡ slice_get (execs_of m) k
unfolding execs_of
exec-found m n counts k c r e a =
    let f = found (λ j. one (may_of m j) (Exec j)) (bus_settings_of m).cores counts k c r (counts-are m n counts e) a in
    sym (f.same ∙ one-only (may_of m c) (Exec c) r f.within)

pub exec-allowed : (m : BusMachine) (n : Counts) (counts : List ℕ) (c g : ℕ) → ExecCounts m n counts → IsBusWhole m
    → c < (bus_settings_of m).cores → g ≡ get_or counts c 0 → nat_lt 0 g ≡ is_some (bus_step_of m (Exec c))
exec-allowed m n counts c g e w l q =
    ap (nat_lt 0) (q ∙ (counts-are m n counts e).1 c l) ∙ one-there (may_of m c) (Exec c) ∙ sym (exec-enabled m c w l)

-- ---- evictions

abbrev ways_of : BusMachine → ℕ → List (ℕ × ℕ)
ways_of m c = room_ways (bus_settings_of m) (bus_program_of m) ((bus_world_of m).cores c)

abbrev evicts_at : BusMachine → ℕ → List BusEvent
evicts_at m c = map (λ q. Evict c q.0 q.1) (ways_of m c)

way-lengths : (m : BusMachine) (n : Counts) → CountedIn m n → AreLengths (evicts_at m) (bus_settings_of m).cores n.ways
way-lengths m n h =
    (h.places.ways, λ c l. (h.each c l).ways ∙ sym (length-map (ways_of m c) (λ q. Evict c q.0 q.1)))

pub evict-total : (m : BusMachine) (n : Counts) → CountedIn m n → sum n.ways ≡ length (evicts_of m)
unfolding evicts_of
evict-total m n h = total (evicts_at m) (bus_settings_of m).cores n.ways (way-lengths m n h)

pub evict-past : (m : BusMachine) (n : Counts) (k : ℕ) → CountedIn m n → (k < sum n.ways → false ≡ true)
    → None ≡ slice_get (evicts_of m) k
unfolding evicts_of
evict-past m n k h l = sym (past (evicts_at m) (bus_settings_of m).cores n.ways k (way-lengths m n h) (λ q. never (l q)))

way-found : (m : BusMachine) (n : Counts) (k c r : ℕ) → CountedIn m n → FallsAt n.ways k c r
    → IsFound (evicts_at m) (bus_settings_of m).cores k c r
way-found m n k c r h a = found (evicts_at m) (bus_settings_of m).cores n.ways k c r (way-lengths m n h) a

-- the ways that the code looks among are those of a core of the machine
pub same-ways : (m now : BusMachine) (c : ℕ) (s : Settings) (k : Contents) (x : CoreState) → m ≡ now → s ≡ m.code.settings
    → k ≡ m.code → x ≡ cores_of (bank_in m) c → room_ways s (program (started k)) x ≡ ways_of now c
unfolding bus_world_of
same-ways m now c s k x v e f g =
    (λ i. room_ways (e i) (program (started (f i))) (g i))
    ∙ ap (λ y. room_ways (bus_settings_of y) (bus_program_of y) (cores_of (bank_in y) c)) v

pub evict-there : (m : BusMachine) (n : Counts) (k c r : ℕ) (ws : List (ℕ × ℕ)) → CountedIn m n → FallsAt n.ways k c r
    → ws ≡ ways_of m c → None ≡ slice_get ws r → ⊥
evict-there m n k c r ws h a e q =
    let f = way-found m n k c r h a in
    let within : r < length (ways_of m c) = rw (sym (length-map (ways_of m c) (λ p. Evict c p.0 p.1))) f.within in
    let some = slice_get-get_or (ways_of m c) r (0, 0) within in
    let none : None ≡ slice_get (ways_of m c) r = q ∙ ap (λ xs. slice_get xs r) e in
    cc

pub evict-found : (m : BusMachine) (n : Counts) (k c r : ℕ) (ws : List (ℕ × ℕ)) (x y : ℕ) → CountedIn m n → FallsAt n.ways k c r
    → ws ≡ ways_of m c → Some (x, y) ≡ slice_get ws r → Some (Evict c x y) ≡ slice_get (evicts_of m) k
unfolding evicts_of
evict-found m n k c r ws x y h a e q =
    ap (option_map (λ p. Evict c p.0 p.1)) (q ∙ ap (λ xs. slice_get xs r) e)
    ∙ sym (slice_get-map (λ p. Evict c p.0 p.1) (ways_of m c) r) ∙ sym (way-found m n k c r h a).same

-- ---- takes

pub take-count : (m now : BusMachine) (n count : ℕ) → m ≡ now → count ≡ (bus_settings_of now).cores
    → n ≡ length (filter (is_left (bus_of m.bus)) (numbers count)) → n ≡ length (takes_of now)
unfolding takes_of bus_world_of
take-count m now n count v e q =
    q ∙ (λ i. length (filter (is_left (bus_of (v i).bus)) (numbers (e i))))
    ∙ sym (length-map (filter (is_left (bus_of now.bus)) (numbers (bus_settings_of now).cores)) Take)

pub take-at : (m now : BusMachine) (k count : ℕ) (o : Option ℕ) → m ≡ now → count ≡ (bus_settings_of now).cores
    → o ≡ slice_get (filter (is_left (bus_of m.bus)) (numbers count)) k → option_map Take o ≡ slice_get (takes_of now) k
unfolding takes_of bus_world_of
take-at m now k count o v e q =
    ap (option_map Take) (q ∙ (λ i. slice_get (filter (is_left (bus_of (v i).bus)) (numbers (e i))) k))
    ∙ sym (slice_get-map Take (filter (is_left (bus_of now.bus)) (numbers (bus_settings_of now).cores)) k)

-- ---- how many there are

ways-most : (sh : Shape) (s : CoreState) (o : Option ℕ) → length (ways_in sh s o) ≤ sh.ways
ways-most sh s None = omega arith
ways-most sh s (Some x) = omega (
  arith,
  length-map {B = ℕ × ℕ} (loose_ways sh s x) (λ y. (x, y)),
  count-most (λ y. is_some (core_evict sh x y s)) sh.ways,
)

evicts-few : (m : BusMachine) → IsBusWhole m → (c : ℕ) → length (evicts_at m c) ≤ 16
unfolding room_ways
evicts-few m w c =
    let most = ways-most (bus_settings_of m) ((bus_world_of m).cores c)
    (room (bus_settings_of m) (bus_program_of m) ((bus_world_of m).cores c)) in
    omega (arith, most, length-map (ways_of m c) (λ q. Evict c q.0 q.1), w.allowed.3.1)

pub record AreFew (m : BusMachine) (a b d : ℕ) : Type 0 where
  pub all : a + b + d ≡ length (bus_useful_of m)
  pub execs : a ≤ 64
  pub evicts : b ≤ 1024
  pub takes : d ≤ 64

few : (m : BusMachine) → IsBusWhole m → AreFew m (length (execs_of m)) (length (evicts_of m)) (length (takes_of m))
unfolding execs_of evicts_of takes_of
few m w =
    let sh = bus_settings_of m in
    let a = flat-most (λ c. one (may_of m c) (Exec c)) 1 sh.cores (λ c l. one-most (may_of m c) (Exec c)) in
    let b = flat-most (evicts_at m) 16 sh.cores (λ c l. evicts-few m w c) in
    let d = count-most (is_left (bus_world_of m).bus) sh.cores in
    record {
      all = omega (
        arith,
        ap length (useful-parts m w),
        length-append (execs_of m) (evicts_of m ++ takes_of m),
        length-append (evicts_of m) (takes_of m),
      );
      execs = omega (arith, a, w.allowed.0.1);
      evicts = omega (arith, b, w.allowed.0.1);
      takes = omega (arith, d, length-map (filter (is_left (bus_world_of m).bus) (numbers sh.cores)) Take, w.allowed.0.1);
    }

-- as the code knows them
pub are-few : (m : BusMachine) (a b d : ℕ) → IsBusWhole m → a ≡ length (execs_of m) → b ≡ length (evicts_of m)
    → d ≡ length (takes_of m) → AreFew m a b d
are-few m a b d w p q r = rw (p, q, r) (few m w)

-- a core in which a number falls has a small number
pub core-fits : (m now : BusMachine) (n : Counts) (k c r : ℕ) → IsBusWhole m → m ≡ now → CountedIn now n → FallsAt n.ways k c r → Fits w8 c
core-fits m now n k c r w v h a = omega (arith, a.exists, h.places.ways, (subst IsBusWhole v w).allowed.0.1)

-- ---- by number

module _ (m : BusMachine) (k : ℕ) (w : IsBusWhole m) where
  at-parts : slice_get (bus_useful_of m) k ≡ slice_get (execs_of m ++ (evicts_of m ++ takes_of m)) k
  at-parts = ap (λ es. slice_get es k) (useful-parts m w)

  pub at-execs : (o : Option BusEvent) → o ≡ slice_get (execs_of m) k → k < length (execs_of m) → o ≡ slice_get (bus_useful_of m) k
  at-execs o e l = e ∙ sym (at-parts ∙ get-front (execs_of m) (evicts_of m ++ takes_of m) k l)

  pub at-evicts : (o : Option BusEvent) (i : ℕ) → o ≡ slice_get (evicts_of m) i → k ≡ length (execs_of m) + i
      → i < length (evicts_of m) → o ≡ slice_get (bus_useful_of m) k
  at-evicts o i e q l =
      e ∙ sym (at-parts ∙ (get-right (execs_of m) (evicts_of m ++ takes_of m) i k q
      ∙ get-front (evicts_of m) (takes_of m) i l))

  pub at-takes : (o : Option BusEvent) (i : ℕ) → o ≡ slice_get (takes_of m) i
      → k ≡ length (execs_of m) + (length (evicts_of m) + i) → o ≡ slice_get (bus_useful_of m) k
  at-takes o i e q =
      e ∙ sym (at-parts ∙ (get-right (execs_of m) (evicts_of m ++ takes_of m) (length (evicts_of m) + i) k q
      ∙ get-right (evicts_of m) (takes_of m) i (length (evicts_of m) + i) refl))

-- ---- one after another

-- one more event of the list
pub one-listed : (us : List BusEvent) (es more : List CodeEvent) (k : ℕ) (e : CodeEvent) → map bus_event_of es ≡ take k us
    → slice_get us k ≡ Some (bus_event_of e) → more ≡ es ++ e ∷ [] → map bus_event_of more ≡ take (k + 1) us
one-listed us es more k e so at m =
    let next : get_or us k (bus_event_of e) ≡ bus_event_of e = get_or_from_slice_get us k (bus_event_of e) (bus_event_of e) at in
    ap (map bus_event_of) m ∙ map-append bus_event_of es (e ∷ []) ∙ ap (λ ys. ys ++ bus_event_of e ∷ []) so
    ∙ ap (λ x. take k us ++ x ∷ []) (sym next)
    ∙ sym (take_more us k (bus_event_of e) (slice_get_within us k (bus_event_of e) at))
