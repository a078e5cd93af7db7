-- The changes of a part of the state put on the record that it had give the one that it has, and so it is of a core's records.
use Rattle.std.proofs.Common.{◌≡◌, ℕ, zero, suc, ◌==◌, ◌&&◌, Bool, true, false, cond, if◌then◌else◌, List, [], ◌∷◌, ◌++◌}
use Rattle.std.proofs.Common.{Option, Some, None, append-nil, refl, ap, ◌∙◌, subst}
use Rattle.std.specs.Prelude.{is_some, option_map}
use Rattle.std.specs.List.{flat_map}
use Rattle.base_lemmas.proofs.Lemmas.{and-both, eq-from}
use Rattle.rules_maps.specs.Nodes.{Core}
use Rattle.rules_maps.specs.Shape.{Shape}
use Rattle.rules_maps.specs.Words.{all_below, any_word, those}
use Rattle.rules_tcc.specs.Seen.{numbers}
use Rattle.rules_tcc.specs.State.{CoreState, World, start}
use Rattle.rules_bus.specs.State.{Bus, Free, Alone, Packet}
use Rattle.bus_tcc.specs.Packets.{PacketLine, packet_line}
use Rattle.watch_state.specs.Cores.{attempt_records, cached_records, committed_record, core_records, ended_record, owed_record}
use Rattle.watch_state.specs.Cores.{register_records, reserved_record}
use Rattle.watch_state.specs.Progress.{progress_records}
use Rattle.watch_state.specs.Records.{CoreIs}
use Rattle.watch_changes.specs.Changes.{changes, put_on}
use Rattle.watch_changes.specs.Nodes.{records_at}
use Rattle.watch_changes.specs.Order.{AreOrdered}
use Rattle.watch_changes.specs.Same.{alike}
use Rattle.watch_changes.proofs.Lemmas.{put-changes, records-ordered, alike-is}
use Rattle.bus_state.specs.Parts.{bus_core_records, holding}
use Rattle.bus_state.specs.Records.{BusRecord, ArbiterIs, LeftTo, PacketHas}
use Rattle.bus_changes.specs.Changes.{arbiter_changes, arbiter_record, line_changes, line_in, part_changes, put_on_part, same_flag}
use Rattle.bus_changes.specs.Changes.{same_holding, same_line, value_changes, value_record}
use Rattle.bus_changes.specs.Laws.{PartsLeadOn}

-- ---- a part, where one that is the same has the same record

put-part : (same : Bool) (b a : Option BusRecord) → (same ≡ true → b ≡ a) → put_on_part b (part_changes same b a) ≡ a
put-part true b a h = h refl
put-part false b (Some r) h = refl
put-part false (Some r) None h = refl
put-part false None None h = refl

-- ---- the arbiter

flag-same : (a b : Bool) → same_flag a b ≡ true → a ≡ b
flag-same true true e = refl
flag-same true false e = absurd (cc)
flag-same false true e = absurd (cc)
flag-same false false e = refl

left-same : (left still : ℕ → Bool) (n : ℕ) → all_below (λ c. same_flag (left c) (still c)) n ≡ true → those left n ≡ those still n
unfolding all_below those
left-same left still zero e = refl
left-same left still (suc n) e =
    let both = and-both _ _ e in
    λ i. left-same left still n both.0 i ++ cond (flag-same (left n) (still n) both.1 i) (n ∷ []) []

holding-same : (n : ℕ) (b a : Bus) → same_holding n b a ≡ true → holding n b ≡ holding n a
holding-same n Free Free e = refl
holding-same n Free (Alone d) e = absurd (cc)
holding-same n Free (Packet g still) e = absurd (cc)
holding-same n (Alone c) Free e = absurd (cc)
holding-same n (Alone c) (Alone d) e = ap (λ k. holding n (Alone k)) (eq-from c d e)
holding-same n (Alone c) (Packet g still) e = absurd (cc)
holding-same n (Packet f left) Free e = absurd (cc)
holding-same n (Packet f left) (Alone d) e = absurd (cc)
holding-same n (Packet f left) (Packet g still) e = ap (λ cs. LeftTo cs) (left-same left still n e)

arbiter-leads : (n t u : ℕ) (b a : Bus)
    → put_on_part (Some (arbiter_record n t b)) (arbiter_changes n t b u a) ≡ Some (arbiter_record n u a)
unfolding arbiter_changes
arbiter-leads n t u b a =
    put-part (t == u && same_holding n b a) (Some (arbiter_record n t b)) (Some (arbiter_record n u a))
    (λ e. let both = and-both _ _ e in λ i. Some (ArbiterIs (eq-from t u both.0 i) (holding-same n b a both.1 i)))

-- ---- the packet

line-same : (f g : ℕ → Option ℕ) (l : ℕ) → same_line (line_in f l) (line_in g l) ≡ true → line_in f l ≡ line_in g l
unfolding line_in
line-same f g l e = go (any_word (λ w. is_some (f w)) l) (any_word (λ w. is_some (g w)) l) e
  where
    one : (d x : PacketLine) → d.line ≡ x.line → (d.mask == x.mask && alike d.words x.words) ≡ true → d ≡ x
    one d x a e = let both = and-both _ _ e in
        λ i. record { line = a i; mask = eq-from d.mask x.mask both.0 i; words = alike-is d.words x.words both.1 i }

    go : (a b : Bool) → same_line (if a then Some (packet_line f l) else None) (if b then Some (packet_line g l) else None) ≡ true
        → (if a then Some (packet_line f l) else None) ≡ (if b then Some (packet_line g l) else None)
    go true true e = ap (λ d. Some d) (one (packet_line f l) (packet_line g l) refl e)
    go true false e = absurd (cc)
    go false true e = absurd (cc)
    go false false e = refl

packet-leads : (f g : ℕ → Option ℕ) (l : ℕ)
    → put_on_part (option_map PacketHas (line_in f l)) (line_changes (line_in f l) (line_in g l)) ≡ option_map PacketHas (line_in g l)
packet-leads f g l =
    put-part (same_line (line_in f l) (line_in g l)) (option_map PacketHas (line_in f l)) (option_map PacketHas (line_in g l))
    (λ e. ap (option_map PacketHas) (line-same f g l e))

-- ---- memory

memory-leads : (addr was is first : ℕ) → put_on_part (value_record addr was first) (value_changes addr was is first)
    ≡ value_record addr is first
unfolding value_changes
memory-leads addr was is first =
    put-part (was == is) (value_record addr was first) (value_record addr is first)
    (λ e. ap (λ x. value_record addr x first) (eq-from was is e))

pub parts-lead : PartsLeadOn
parts-lead = record { arbiter = arbiter-leads; packet = packet-leads; memory = memory-leads }

-- ---- the cores: their records are those of a core that has nothing to do with directories

alone : CoreState → CoreState
alone s = record s { awaited = None; owing = λ d. false; last_commit = λ d. 0 }

none-owing : (n : ℕ) → those (λ d. false) n ≡ []
unfolding those
none-owing zero = refl
none-owing (suc n) = ap (λ ds. ds ++ []) (none-owing n)

none-committed : (c : ℕ) (ns : List ℕ) → flat_map (committed_record c (λ d. 0)) ns ≡ []
unfolding committed_record
none-committed c [] = refl
none-committed c (n ∷ ns) = none-committed c ns

as-alone : (sh : Shape) (c : ℕ) (s : CoreState) → core_records sh c (alone s) ≡ bus_core_records sh c s
unfolding alone core_records bus_core_records attempt_records progress_records register_records cached_records
as-alone sh c s =
    let ended = ended_record c s.ended in
    let rest : ended ++ (owed_record c (those (λ d. false) sh.dirs) ++ flat_map (committed_record c (λ d. 0)) (numbers sh.dirs)) ≡ ended =
    ap (λ rs. ended ++ rs) (λ i. owed_record c (none-owing sh.dirs i) ++ none-committed c (numbers sh.dirs) i) ∙ append-nil ended in
    λ i. (CoreIs c s.n s.local.pc s.phase ∷ reserved_record c s.local.reserved ++ rest i)
    ++ (register_records c s ++ cached_records sh c s)

-- one of its cores is like this
world_with : CoreState → World
world_with s = record (start (λ c. s.local) (λ x. 0)) { cores = λ c. alone s }

core-ordered : (sh : Shape) (c : ℕ) (s : CoreState) → AreOrdered (bus_core_records sh c s)
unfolding records_at world_with
core-ordered sh c s = subst AreOrdered (as-alone sh c s) (records-ordered sh (λ x. 0) (world_with s) (Core c))

pub cores-lead : (sh : Shape) (c : ℕ) (s t : CoreState)
    → put_on (bus_core_records sh c s) (changes (bus_core_records sh c s) (bus_core_records sh c t)) ≡ bus_core_records sh c t
cores-lead sh c s t =
    put-changes (bus_core_records sh c s) (bus_core_records sh c t) (core-ordered sh c s) (core-ordered sh c t)
