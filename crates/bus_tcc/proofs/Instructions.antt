-- An instruction with its line at hand, and what the machine is after it.
use Rattle.std.proofs.Common.{◌≡◌, ◌≢◌, ℕ, ◌+◌, ◌<◌, Bool, true, false, ◌&&◌, List, [], length, Option, Some, None, Err, refl, ap, sym}
use Rattle.std.proofs.Common.{◌∙◌, subst, arith}
use Rattle.std.specs.Prelude.{◌==◌, ◌||◌, get_or, is_some, unwrap_or, if◌then◌else◌, Contains}
use Rattle.std.proofs.lemmas.Bool.Decides.{nat_tests}
use Rattle.tcc_base.specs.Put.{put}
use Rattle.tcc_base.specs.declared.access.Size.TheVariants.{Byte, Half, Word}
use Rattle.base_lemmas.proofs.Lemmas.{has-full}
use Rattle.rules_maps.specs.Cache.{Cache, free_way}
use Rattle.rules_maps.specs.CacheChange.{filled, placed}
use Rattle.rules_maps.specs.Masks.{has, mask_of}
use Rattle.rules_maps.specs.Shape.{Shape, set_of}
use Rattle.rules_maps.specs.Words.{line_of, place_of, word_at}
use Rattle.rules_maps.proofs.Lemmas.{has-mask_of}
use Rattle.rules_program.specs.Program.{Need, Nothing, Loads, Stores, Changes, Prints, Ends, Halts, Traps, Program}
use Rattle.rules_program.specs.Ram.{word_of}
use Rattle.rules_tcc.specs.Attempt.{Out}
use Rattle.rules_tcc.specs.CoreExec.{core_exec}
use Rattle.rules_tcc.specs.State.{CoreState, Phase, Running, AwaitTid, DoomedTid, Probing, Ready, Overflowing, Solo, Halted}
use Rattle.core_node.proofs.Lemmas.{alone-with}
use Rattle.core_node.specs.Answers.{IsBlocked}
use Rattle.core_node.specs.AtHand.{Leaves, executes, filling, goes_alone, is_whole, line_at, lined, need_fills, ready, with_line}
use Rattle.core_node.specs.AtHand.{word_fills}
use Rattle.commit_engine.specs.Engine.{overflows}
use Rattle.rules_bus.specs.Commit.{BusStepped}
use Rattle.rules_bus.specs.Exec.{executed, goes_on, gone_alone, instruction, line_at_hand, line_words, core_changed, when_free}
use Rattle.rules_bus.specs.Exec.{with_line_of, word_read}
use Rattle.rules_bus.specs.State.{Bus, BusWorld, Exec, Free, Alone, Packet}
use Rattle.bus_tcc.specs.Bank.{Executed, ExecutedAt, gone_if}
use Rattle.core_node.specs.declared.delivering.CoreError.{CoreError}
use Rattle.core_node.specs.declared.delivering.CoreError.TheVariants as core_error
use Rattle.bus_tcc.specs.Answers.{Answers, Took, bus_step_of, refusal_of}
use Rattle.bus_tcc.specs.Machine.{BusMachine, bus_of, bus_program_of, bus_settings_of, bus_world_of, is_free, word_in}
use Rattle.machine_cores.specs.Bank.{CoresData, cores_of}
use Rattle.bus_tcc.specs.Inside.{machine_of}
use Rattle.bus_tcc.specs.declared.bus.Bus.{Bus as CodeBus}
use Rattle.bus_tcc.specs.declared.engine.Engine.TheInside.{Inside}
use Rattle.bus_tcc.specs.Packets.{lines_on}
use Rattle.bus_tcc.specs.Whole.{IsBusWhole}
use Rattle.bus_tcc.specs.declared.event.BusStep.TheVariants.{Moved}
use Rattle.bus_tcc.proofs.Events.{StaysBut, bank_in, stays-kept, took-by, took-whole, world-is}
use Rattle.bus_tcc.proofs.PacketLines.{unless-in-order}

whole-value : (l : ℕ) (c : Cache) → mask_of (λ k. is_some (c.value (word_at l k))) ≡ 255 → (v : ℕ) → l ≡ line_of v
    → is_some (c.value v) ≡ true
whole-value l c e v q =
    let at : word_at l (place_of v) ≡ v = omega arith in
    ap (λ w. is_some (c.value w)) (sym at)
    ∙ sym (has-mask_of (λ k. is_some (c.value (word_at l k))) (place_of v) (omega arith))
    ∙ ap (λ m. has m (place_of v)) e
    ∙ has-full (place_of v) (omega arith)

filled-whole : (l : ℕ) (ws : List ℕ) (c : Cache) → mask_of (λ k. is_some (c.value (word_at l k))) ≡ 255 → filled l ws c ≡ c
unfolding filled
filled-whole l ws c e = λ i. record c { value = λ v. (same v) i }
  where
    by : (v : ℕ) (b : Bool) → (l == line_of v) ≡ b → (o : Option ℕ) → c.value v ≡ o
        → (if b then Some (unwrap_or o (get_or ws (place_of v) 0)) else o) ≡ o
    by v false q o r = refl
    by v true q (Some x) r = refl
    by v true q None r = absurd (let i = whole-value l c e v (grind (arith, nat_tests)) in cc)

    same : (v : ℕ) → (if l == line_of v then Some (unwrap_or (c.value v) (get_or ws (place_of v) 0)) else c.value v) ≡ c.value v
    same v = by v (l == line_of v) refl (c.value v) refl

-- the line of the word that an instruction reads is the rules'
word-line : (sh : Shape) (ws : List ℕ) (s : CoreState) (w : ℕ)
    → with_line sh (line_at ws) s (filling sh w s) ≡ record s { cache = with_line_of sh (word_in ws) s (Some w) }
unfolding lined line_words word_fills is_whole
word-line sh ws s w = by (is_some (s.spilled w)) (s.cache.held l) refl (mask == 255) refl (is_some (free_way sh s.cache (set_of sh l)))
  where
    l : ℕ
    l = line_of w

    mask : ℕ
    mask = mask_of (λ k. is_some (s.cache.value (word_at l k)))

    full : Cache → Cache
    full c = filled l (line_at ws l) c

    by : (o h : Bool) → s.cache.held l ≡ h → (a : Bool) → (mask == 255) ≡ a → (f : Bool)
        → with_line sh (line_at ws) s (if (if o || (h && a) then false else h || f) then Some w else None)
        ≡ record s { cache = if o then s.cache else if h then full s.cache else if f then full (placed sh l s.cache) else s.cache }
    by true h e a q f = refl
    by false true e true q f =
        let is : mask ≡ 255 = grind (arith, nat_tests) in
        ap (λ (c : Cache). record s { cache = c }) (sym (filled-whole l (line_at ws l) s.cache is))
    by false true e false q f = rw e refl
    by false false e a q true = rw e refl
    by false false e a q false = refl

need-line : (sh : Shape) (ws : List ℕ) (s : CoreState) (n : Need)
    → with_line sh (line_at ws) s (need_fills sh s n) ≡ record s { cache = with_line_of sh (word_in ws) s (word_read sh.base n) }
need-line sh ws s Nothing = refl
need-line sh ws s (Loads addr size) = word-line sh ws s (word_of sh.base addr)
need-line sh ws s (Stores addr Word value) = refl
need-line sh ws s (Stores addr Half value) = word-line sh ws s (word_of sh.base addr)
need-line sh ws s (Stores addr Byte value) = word-line sh ws s (word_of sh.base addr)
need-line sh ws s (Changes addr changed) = word-line sh ws s (word_of sh.base addr)
need-line sh ws s (Prints byte) = refl
need-line sh ws s Ends = refl
need-line sh ws s (Halts code) = refl
need-line sh ws s (Traps cause) = refl

-- the rules' instruction is an execution with that line
pub as-instruction : (sh : Shape) (p : Program) (ws : List ℕ) (c : ℕ) (s : CoreState)
    → core_exec sh p c (ready sh p (line_at ws) s) ≡ instruction sh p (word_in ws) c s
unfolding instruction line_at_hand
as-instruction sh p ws c s = ap (core_exec sh p c) (need-line sh ws s (p.need s.local))

-- it makes a core wait to go on alone where an execution would
pub instruction-alone : (sh : Shape) (p : Program) (ws : List ℕ) (c : ℕ) (s : CoreState) → executes s.phase ≡ true → s.awaited ≡ None
    → goes_alone (instruction sh p (word_in ws) c s) ≡ goes_alone (core_exec sh p c s)
instruction-alone sh p ws c s e a = ap goes_alone (sym (as-instruction sh p ws c s)) ∙ alone-with sh p (line_at ws) c s e a

-- ---- what the rules make of it

executed-moves : (w : BusWorld) (c : ℕ) (o : Out) (q : Phase) → overflows q ≡ false → executed w c o q ≡ Some (core_changed w c o.core)
executed-moves w c o (Overflowing t) e = cc
executed-moves w c o Running e = refl
executed-moves w c o AwaitTid e = refl
executed-moves w c o DoomedTid e = refl
executed-moves w c o (Probing t) e = refl
executed-moves w c o (Ready t) e = refl
executed-moves w c o (Solo t) e = refl
executed-moves w c o Halted e = refl

-- the state in which a core has taken the bus
abbrev pub taken_bus : BusWorld → (core : ℕ) → Out → BusStepped
taken_bus w c o = record { world = record w { cores = put w.cores c (gone_alone w.next o.core); bus = Alone c }; noted = None }

executed-takes : (w : BusWorld) (c : ℕ) (o : Out) (q : Phase) → overflows q ≡ true → executed w c o q ≡ when_free w.bus (taken_bus w c o)
executed-takes w c o (Overflowing t) e = refl
executed-takes w c o Running e = cc
executed-takes w c o AwaitTid e = cc
executed-takes w c o DoomedTid e = cc
executed-takes w c o (Probing t) e = cc
executed-takes w c o (Ready t) e = cc
executed-takes w c o (Solo t) e = cc
executed-takes w c o Halted e = cc

pub free-so : {A : Type 0} → (b : Bus) (x : A) → is_free b ≡ true → when_free b x ≡ Some x
free-so Free x e = refl
free-so (Alone c) x e = cc
free-so (Packet f left) x e = cc

pub busy-so : {A : Type 0} → (b : Bus) (x : A) → is_free b ≡ false → when_free b x ≡ None
busy-so Free x e = cc
busy-so (Alone c) x e = refl
busy-so (Packet f left) x e = refl

-- a core that would take a bus that isn't free can't
pub goes-barred : (w : BusWorld) (c : ℕ) (o : Option Out) → goes_alone o ≡ true → is_free w.bus ≡ false → goes_on w c o ≡ None
goes-barred w c None e f = cc
goes-barred w c (Some o) e f = executed-takes w c o o.core.phase e ∙ busy-so w.bus (taken_bus w c o) f

pub goes-moves : (w : BusWorld) (c : ℕ) (o : Out) → overflows o.core.phase ≡ false → goes_on w c (Some o) ≡ Some (core_changed w c o.core)
goes-moves w c o e = executed-moves w c o o.core.phase e

pub goes-takes : (w : BusWorld) (c : ℕ) (o : Out) → overflows o.core.phase ≡ true → is_free w.bus ≡ true
    → goes_on w c (Some o) ≡ Some (taken_bus w c o)
goes-takes w c o e f = executed-takes w c o o.core.phase e ∙ free-so w.bus (taken_bus w c o) f

goes-none : (w : BusWorld) (c : ℕ) (o : Option Out) → o ≡ None → goes_on w c o ≡ None
goes-none w c o e = ap (goes_on w c) e

-- ---- the machine after it

-- the machine has executed an instruction of a core, which has gone alone or not
pub record HasExecuted (m n : BusMachine) (c : ℕ) (alone : Bool) : Type 0 where
  pub code : n.code ≡ m.code
  pub ram : n.ram ≡ m.ram
  pub next : n.next ≡ m.next
  pub bus : bus_of n.bus ≡ (if alone then Alone c else bus_of m.bus)
  pub packet : lines_on n.bus ≡ (if alone then [] else lines_on m.bus)
  pub commits : n.commits ≡ m.commits
  pub events : n.events ≡ m.events + 1

pub executed-took : (m n : BusMachine) (c : ℕ) (alone : Bool) (o : Option Out) → HasExecuted m n c alone
    → bus_step_of m (Exec c) ≡ goes_on (bus_world_of m) c o → ExecutedAt alone m.next o c (bank_in m) (bank_in n)
    → (goes_alone o ≡ true → is_free (bus_of m.bus) ≡ true) → Took m n (Exec c) Moved
unfolding bus_world_of
executed-took m n c alone None h is x free = absurd x
executed-took m n c false (Some o) h is x free =
    took-by m n (Exec c) (core_changed (bus_world_of m) c o.core) Moved (is ∙ goes-moves (bus_world_of m) c o (sym x.0))
    (world-is n (core_changed (bus_world_of m) c o.core).world x.1 (ap word_in h.ram) h.next h.bus) h.commits refl h.events h.code
executed-took m n c true (Some o) h is x free =
    took-by m n (Exec c) (taken_bus (bus_world_of m) c o) Moved (is ∙ goes-takes (bus_world_of m) c o (sym x.0) (free (sym x.0)))
    (world-is n (taken_bus (bus_world_of m) c o).world x.1 (ap word_in h.ram) h.next h.bus) h.commits refl h.events h.code

pub executed-whole : (m n : BusMachine) (c : ℕ) (alone : Bool) → IsBusWhole m → HasExecuted m n c alone → Took m n (Exec c) Moved
    → IsBusWhole n
executed-whole m n c alone w h k = took-whole m n (Exec c) Moved w k (ap length h.ram)
    (λ d i. subst (λ t. d.tid.0 < t) (sym h.next) (w.noted d (subst (λ cs. Contains cs d) h.commits i)))
    (unless-in-order (bus_settings_of m) alone (lines_on n.bus) (lines_on m.bus) h.packet w.packet)

-- ---- where it isn't enabled

goes-some : (w : BusWorld) (c : ℕ) (o : Option Out) → o ≢ None → (goes_alone o ≡ true → is_free w.bus ≡ true) → goes_on w c o ≢ None
goes-some w c None n free = absurd (n refl)
goes-some w c (Some o) n free = by (overflows o.core.phase) refl
  where
    by : (b : Bool) → overflows o.core.phase ≡ b → goes_on w c (Some o) ≢ None
    by false e = λ q. let is = sym (goes-moves w c o e) ∙ q in absurd (cc)
    by true e = λ q. let is = sym (goes-takes w c o e (free e)) ∙ q in absurd (cc)

pub refused-execution : (A : Type 0) (m n : BusMachine) (c : ℕ) (error : CoreError) (o : Option Out) → StaysBut m n
    → IsBlocked {A = A} (Err error) o → bus_step_of m (Exec c) ≡ goes_on (bus_world_of m) c o
    → (goes_alone o ≡ true → is_free (bus_of m.bus) ≡ true) → Answers m n (Exec c) (Err (refusal_of error))
unfolding bus_world_of
refused-execution A m n c core_error.Blocked o s b is free = (stays-kept m n s, is ∙ goes-none (bus_world_of m) c o b)
refused-execution A m n c core_error.Memory o s b is free =
    (stays-kept m n s, λ q. goes-some (bus_world_of m) c o b free (sym is ∙ q))

abbrev pub after_execution : Inside → CoresData → CodeBus → BusMachine
after_execution s b bus = record (machine_of s) { code = b.code; cores = b.cores; bus = bus; events = s.events + 1 }

-- what a core has done that executed, and then went alone or not
pub ran-so : (o p : Option Out) (t : ℕ) (alone : Bool) (mid new : CoreState) → o ≡ p → Leaves o mid → alone ≡ overflows mid.phase
    → new ≡ gone_if alone t mid → Executed alone t p new
ran-so o None t alone mid new e h a n = subst (λ q. Leaves q mid) e h
ran-so o (Some q) t alone mid new e h a n =
    let same : mid ≡ q.core = subst (λ y. Leaves y mid) e h in (a ∙ ap (λ s. overflows s.phase) same, n ∙ ap (gone_if alone t) same)

-- an instruction of the machine
abbrev pub instruction_of : BusMachine → (core : ℕ) → Option Out
instruction_of m c = instruction (bus_settings_of m) (bus_program_of m) (word_in m.ram) c (cores_of (bank_in m) c)

-- where a core may take the bus it is free
pub free-where : (m : BusMachine) (c : ℕ) (o : Option Out) → is_some (bus_step_of m (Exec c)) ≡ true
    → bus_step_of m (Exec c) ≡ goes_on (bus_world_of m) c o → goes_alone o ≡ true → is_free (bus_of m.bus) ≡ true
unfolding bus_world_of
free-where m c o e g q = by (is_free (bus_of m.bus)) refl
  where
    by : (b : Bool) → is_free (bus_of m.bus) ≡ b → b ≡ true
    by true r = refl
    by false r = absurd (let bad : false ≡ true = sym (ap is_some (g ∙ goes-barred (bus_world_of m) c o q r)) ∙ e in cc)

-- what is asked of a machine of which a core executes
pub record Asked (m : BusMachine) (c : ℕ) : Type 0 where
  pub exists : c < (bus_settings_of m).cores
  pub enabled : is_some (bus_step_of m (Exec c)) ≡ true
  pub runs : executes (cores_of (bank_in m) c).phase ≡ true
  pub goes_on : bus_step_of m (Exec c) ≡ goes_on (bus_world_of m) c (instruction_of m c)

pub asked-of : (m : BusMachine) (c : ℕ) → c < (bus_settings_of m).cores
    → is_some (bus_step_of m (Exec c)) ≡ true → executes ((bus_world_of m).cores c).phase ≡ true
    → bus_step_of m (Exec c)
    ≡ goes_on (bus_world_of m) c (instruction (bus_settings_of m) (bus_program_of m) (bus_world_of m).ram c ((bus_world_of m).cores c))
    → Asked m c
unfolding bus_world_of
asked-of m c l a e g = record { exists = l; enabled = a; runs = e; goes_on = g }
