-- The useful events that aren't held back, by number.
use Rattle.std.proofs.Common.{◌≡◌, ℕ, ◌+◌, ◌<◌, ◌≤◌, Bool, true, false, List, length, map, Option, Some, None, refl, ap, sym, ◌∙◌}
use Rattle.std.proofs.Common.{subst, arith}
use Rattle.std.specs.Prelude.{filter, get_or, not, option_map, slice_get}
use Rattle.std.proofs.lemmas.Option.{slice_get-get_or, slice_get-map}
use Rattle.std.proofs.lemmas.List.{get_or_read, length-map}
use Rattle.base_lemmas.proofs.Lemmas.{next-number}
use Rattle.image_load.specs.Contents.{started}
use Rattle.rv_code.specs.Machine.{program}
use Rattle.rules_maps.specs.Nodes.{Core, Deliver, Event, Vendor}
use Rattle.tcc_msg.specs.Plain.{event_of}
use Rattle.tcc_msg.specs.declared.event.Event.{Event as CodeEvent}
use Rattle.rules_tcc.specs.Laws.{IsOrdered, UsefulHolds, UsefulOrdered}
use Rattle.rules_tcc.specs.Useful.{event_before, useful}
use Rattle.rules_phases.specs.Phased.{is_held, phased_useful}
use Rattle.net_core.specs.Machine.{Machine, history_of, program_of, settings_of, start_of, world_of}
use Rattle.tcc_phase.specs.Choosing.{IsPassed, all_in, held_in, passed_by}
use Rattle.tcc_phase.specs.Kept.{IsKept}
use Rattle.tcc_phase.specs.Phased.{useful_in}
use Rattle.tcc_phase.specs.Requests.{is_waiting, request}
use Rattle.tcc_phase.specs.declared.standing.Standing.{Standing}
use Rattle.tcc_phase.proofs.Order.Counted.{all-parts, kth, left_out, out-all, out-most, out-rises, stands-before, stands-behind}
use Rattle.tcc_phase.proofs.Requests.Behind.{behind-late}
use Rattle.tcc_phase.proofs.Requests.Listed.{held-listed}
use Rattle.tcc_phase.proofs.Requests.Those.{stands}

-- all useful events as the machine's code lists them
pub all-is : (m : Machine) → useful (settings_of m) (program_of m) (world_of m) ≡ all_in m
unfolding all_in started history_of
all-is m = refl

module _ (m : Machine) (l : Standing) (kept : IsKept (start_of m) (history_of m) m.events l) (holds : UsefulHolds) (ordered :
    UsefulOrdered) where
  abbrev held : Event → Bool
  held = is_held (start_of m) (history_of m)

  listed : map (request l.asked.items) l.held.items ≡ filter held (all_in m)
  unfolding all_in
  listed =
      ap (map (request l.asked.items)) kept.held
      ∙ held-listed (start_of m) (history_of m) l.own.items l.asked.items holds ordered
      (behind-late (start_of m) (history_of m) l.own.items kept.own) kept.asked

  count-is : length (filter held (all_in m)) ≡ length l.held.items
  count-is = ap length (sym listed) ∙ length-map l.held.items (request l.asked.items)

  pub held-many : held_in m ≡ length l.held.items
  unfolding held_in
  held-many = count-is

  pub useful-many : length (useful_in m) + length l.held.items ≡ length (all_in m)
  unfolding phased_useful all_in
  useful-many =
      let a = all-parts held (useful (start_of m).settings (program (start_of m)) (history_of m).world) in
      let b = count-is in
      omega (arith, a, b)

  -- the core of a row
  pub core-below : (j : ℕ) → j < length l.held.items → get_or l.held.items j 0 < (start_of m).settings.cores
  core-below j h =
      subst (λ xs. get_or xs j 0 < (start_of m).settings.cores) (sym kept.held)
      (stands (is_waiting (start_of m).settings (program (start_of m)) (history_of m).world l.own.items l.asked.items)
      (start_of m).settings.cores j (subst (λ xs. j < length xs) kept.held h)).below

  -- its request
  row-is : (j : ℕ) → j < length l.held.items → slice_get (filter held (all_in m)) j ≡ Some (request l.asked.items (get_or l.held.items j 0))
  row-is j h =
      ap (λ xs. slice_get xs j) (sym listed) ∙ slice_get-map (request l.asked.items) l.held.items j
      ∙ ap (option_map (request l.asked.items)) (slice_get-get_or l.held.items j 0 h)

  all-ordered : IsOrdered (all_in m)
  unfolding all_in
  all-ordered = ordered (start_of m).settings (program (start_of m)) (history_of m).world

  module _ (k j : ℕ) (h : j < length l.held.items) where
    abbrev own_request : Event
    own_request = request l.asked.items (get_or l.held.items j 0)

    pub same-request : (core seq : ℕ) → core ≡ get_or l.held.items j 0 → seq ≡ get_or l.asked.items core 0
        → Deliver (Core core) Vendor seq ≡ own_request
    same-request core seq p q =
        (λ i. Deliver (Core core) Vendor (q i)) ∙ (λ i. Deliver (Core (p i)) Vendor (get_or l.asked.items (p i) 0))

    pub passes : (e : Event) → slice_get (all_in m) (k + j) ≡ Some e → event_before e own_request ≡ false → j < passed_by m (k + j + 1)
    unfolding passed_by
    passes e at b =
        subst (λ n. j < left_out held (all_in m) n) (sym (next-number (k + j)))
        (stands-behind held (all_in m) (k + j) j e own_request all-ordered at (row-is j h) b)

    pub not-yet : (e : Event) → slice_get (all_in m) (k + j) ≡ Some e → event_before e own_request ≡ true → passed_by m (k + j + 1) ≤ j
    unfolding passed_by
    not-yet e at b =
        subst (λ n. left_out held (all_in m) n ≤ j) (sym (next-number (k + j)))
        (stands-before held (all_in m) (k + j) j e own_request all-ordered at (row-is j h) b)

    pub all-passed : slice_get (all_in m) (k + j) ≡ None → j < passed_by m (k + j + 1)
    unfolding passed_by
    all-passed at =
        subst (λ n. j < left_out held (all_in m) n) (sym (next-number (k + j)))
        (let a = out-all held (all_in m) (k + j) at in let b = count-is in omega (arith, a, b, h))

    reads : (xs : List ℕ) (i x : ℕ) → i < length xs → x ≡ get_or xs i x → x ≡ get_or xs i 0
    reads xs i x within e = get_or_read xs i x within e 0

    core-at : (core : ℕ) → core ≡ get_or l.held.items j core → core ≡ get_or l.held.items j 0
    core-at core e = reads l.held.items j core h e

    pub core-row : (core : ℕ) → core ≡ get_or l.held.items j core → core < length l.asked.items
    core-row core e =
        let a = core-below j h in
        let b = core-at core e in
        let r = kept.rows.asked in
        omega (arith, a, b, r)

    the-request : (core seq : ℕ) → core ≡ get_or l.held.items j core → seq ≡ get_or l.asked.items core seq
        → Deliver (Core core) Vendor seq ≡ own_request
    the-request core seq e f = same-request core seq (core-at core e) (reads l.asked.items core seq (core-row core e) f)

    module _ (e : Event) (core seq : ℕ) (b : Bool) (c : core ≡ get_or l.held.items j core) (s : seq ≡ get_or l.asked.items core seq)
        (at : slice_get (all_in m) (k + j) ≡ Some e) (is : b ≡ event_before e (Deliver (Core core) Vendor seq)) where
      pub passed-if : not b ≡ true → j < passed_by m (k + j + 1)
      passed-if q = passes e at (ap (event_before e) (sym (the-request core seq c s)) ∙ sym is ∙ turned b q)
        where
          turned : (b : Bool) → not b ≡ true → b ≡ false
          turned true q = absurd (cc)
          turned false q = refl

      pub not_yet-if : not b ≡ false → passed_by m (k + j + 1) ≤ j
      not_yet-if q = not-yet e at (ap (event_before e) (sym (the-request core seq c s)) ∙ sym is ∙ turned b q)
        where
          turned : (b : Bool) → not b ≡ false → b ≡ true
          turned true q = refl
          turned false q = absurd (cc)

-- what the code finds at a number
pub found-at : (m n : Machine) (o p : Option CodeEvent) (k : ℕ) → n ≡ m
    → option_map event_of o ≡ slice_get (useful (settings_of n) (program_of n) (world_of n)) k → o ≡ p
    → slice_get (all_in m) k ≡ option_map event_of p
found-at m n o p k same e q =
    ap (λ es. slice_get es k) (sym (all-is m))
    ∙ ap (λ (x : Machine). slice_get (useful (settings_of x) (program_of x) (world_of x)) k) (sym same) ∙ sym e ∙ ap (option_map event_of) q

-- ---- by search

module _ (m : Machine) where
  -- where the row at a number was passed, and the one behind it wasn't, these are so many
  pub is-passed : (k i : ℕ) → i ≤ passed_by m (k + i) → passed_by m (k + i + 1) ≤ i → IsPassed m k i
  unfolding passed_by
  is-passed k i a b =
      let r = subst (λ n. passed_by m (k + i) ≤ left_out (is_held (start_of m) (history_of m)) (all_in m) n) (sym (next-number (k + i)))
      (out-rises (is_held (start_of m) (history_of m)) (all_in m) (k + i)) in
      (omega (arith, a, b, r), omega (arith, a, b, r))

  pub at-most-held : (n : ℕ) → passed_by m n ≤ held_in m
  unfolding passed_by held_in
  at-most-held n = out-most (is_held (start_of m) (history_of m)) (all_in m) n

  pub kth-is : (k i : ℕ) → IsPassed m k i → slice_get (useful_in m) k ≡ slice_get (all_in m) (k + i)
  unfolding passed_by phased_useful all_in
  kth-is k i h =
      kth (is_held (start_of m) (history_of m)) (useful (start_of m).settings (program (start_of m)) (history_of m).world) k i (k + i)
      refl h.0
      (subst (λ n. left_out (is_held (start_of m) (history_of m))
      (useful (start_of m).settings (program (start_of m)) (history_of m).world) n ≡ i) (next-number (k + i)) h.1)

pub at-number : (m n : Machine) (o : Option Event) (k i : ℕ) → n ≡ m
    → o ≡ slice_get (useful (settings_of n) (program_of n) (world_of n)) (k + i) → IsPassed m k i → o ≡ slice_get (useful_in m) k
at-number m n o k i same e p =
    e ∙ ap (λ (x : Machine). slice_get (useful (settings_of x) (program_of x) (world_of x)) (k + i)) same
    ∙ ap (λ es. slice_get es (k + i)) (all-is m) ∙ sym (kth-is m k i p)
