-- What is kept goes along with the machine, event by event.
use Rattle.std.proofs.Common.{◌≡◌, ℕ, ◌<◌, ◌==◌, Bool, true, false, List, [], ◌++◌, append_assoc, length, map, Result, Ok, Err}
use Rattle.std.proofs.Common.{refl, ap, sym, ◌∙◌, subst, arith}
use Rattle.std.specs.Prelude.{OnOk, get_or, set}
use Rattle.std.proofs.lemmas.Bool.Decides.{nat_tests}
use Rattle.std.proofs.lemmas.Grind.{get_or-set_at}
use Rattle.std.proofs.lemmas.List.{get_or-set_other, length-set}
use Rattle.std.proofs.lemmas.List.Concat.{flat_map-append}
use Rattle.image_load.specs.Start.{first_ram}
use Rattle.rules_maps.specs.Shape.{Shape, lines}
use Rattle.rules_bus.specs.State as rules
use Rattle.rules_bus.specs.State.{BusWorld}
use Rattle.bus_tcc.specs.Left.{packet_words}
use Rattle.bus_tcc.specs.Machine.{BusMachine, bus_of, bus_settings_of, bus_start_of, bus_world_of}
use Rattle.bus_tcc.specs.Packets.{lines_on, packet_line_of, packet_lines}
use Rattle.bus_tcc.specs.declared.bus.Bus.{Bus}
use Rattle.watch_state.specs.Plain.{record_of}
use Rattle.watch_state.specs.declared.records.Record.{Record}
use Rattle.watch_changes.specs.Changes.{change_lines, changes}
use Rattle.bus_state.specs.Parts.{bus_core_records}
use Rattle.bus_changes.specs.Changes.{BusChange, arbiter_changes, bus_change_line, bus_change_lines, bus_changes, memory_changes}
use Rattle.bus_changes.specs.Changes.{packet_changes}
use Rattle.bus_changes.specs.Following.{Follows, NoneInPlace}
use Rattle.bus_changes.specs.Memory.{IsCopy, IsRenewed}
use Rattle.bus_changes.specs.Plain.{AreLines, BusParts, IsKept, Looked, core_records_now}
use Rattle.bus_changes.specs.Text.{bus_changes_lines}

-- two facts of a call that went well
pub both : {T E P Q R : Type 0} (r : Result T E) → (P → Q → R) → OnOk r P → OnOk r Q → OnOk r R
both (Ok v) f p q = f p q
both (Err v) f p q = tt

-- ---- the bus

pub lines-now : (sh : Shape) (b : Bus) (v : rules.Bus) → bus_of b ≡ v → map packet_line_of (lines_on b) ≡ packet_lines sh (packet_words v)
    → AreLines sh b
lines-now sh b v e l = l ∙ ap (λ a. packet_lines sh (packet_words a)) (sym e)

pub bus-copied : (v : rules.Bus) (copied b : Bus) → copied ≡ b → bus_of b ≡ v → bus_of copied ≡ v
bus-copied v copied b c e = ap bus_of c ∙ e

pub lines-copied : (sh : Shape) (v : rules.Bus) (copied b : Bus) → copied ≡ b → bus_of b ≡ v
    → map packet_line_of (lines_on b) ≡ packet_lines sh (packet_words v) → AreLines sh copied
lines-copied sh v copied b c e l = subst (AreLines sh) (sym c) (lines-now sh b v e l)

pub none-in-place : (w v a b : rules.Bus) → a ≡ w → b ≡ v → NoneInPlace w v → NoneInPlace a b
none-in-place w v a b p q n = subst (λ x. NoneInPlace x b) (sym p) (subst (NoneInPlace w) (sym q) n)

pub copy-of : (sh : Shape) (w : BusWorld) (k : BusParts) → IsKept k sh w → IsCopy (lines sh) w.ram k.ram
copy-of sh w k i = record { count = i.fits.ram; words = i.ram }

-- ---- what is told of all of them

four : (a b c d : List ℕ) → ((a ++ b) ++ c) ++ d ≡ a ++ (b ++ (c ++ d))
four a b c d = append_assoc (a ++ b) c d ∙ append_assoc a b (c ++ d)

lines-append : (xs ys : List BusChange) → bus_change_lines (xs ++ ys) ≡ bus_change_lines xs ++ bus_change_lines ys
unfolding bus_change_lines
lines-append xs ys = flat_map-append bus_change_line xs ys

told-all : (xs ys zs : List BusChange) (t1 t2 t3 t4 : List ℕ) → t2 ≡ t1 ++ bus_change_lines xs → t3 ≡ t2 ++ bus_change_lines ys
    → t4 ≡ t3 ++ bus_change_lines zs → t4 ≡ t1 ++ bus_change_lines (xs ++ (ys ++ zs))
told-all xs ys zs t1 t2 t3 t4 p q r =
    r ∙ ap (λ t. t ++ bus_change_lines zs) (q ∙ ap (λ t. t ++ bus_change_lines ys) p)
    ∙ four t1 (bus_change_lines xs) (bus_change_lines ys) (bus_change_lines zs)
    ∙ ap (λ t. t1 ++ t) (sym (lines-append xs (ys ++ zs) ∙ ap (λ t. bus_change_lines xs ++ t) (lines-append ys zs)))

-- ---- an event

-- the records of a core that didn't act are those that were kept
kept-on : (old : BusParts) (lists : List (List Record)) (m : BusMachine) (core : ℕ) (w : BusWorld) (fresh : List Record)
    → IsKept old (bus_settings_of m) w → Follows (bus_settings_of m) core w (bus_world_of m) → map record_of fresh ≡ core_records_now m core
    → lists ≡ set old.cores core fresh → (c : ℕ) → c < (bus_settings_of m).cores
    → map record_of (get_or lists c []) ≡ bus_core_records (bus_settings_of m) c ((bus_world_of m).cores c)
kept-on old lists m core w fresh k f is e c here =
    ap (λ ls. map record_of (get_or ls c [])) e ∙ go (c == core) refl
  where
    go : (b : Bool) → (c == core) ≡ b
        → map record_of (get_or (set old.cores core fresh) c []) ≡ bus_core_records (bus_settings_of m) c ((bus_world_of m).cores c)
    go true q =
        let same : c ≡ core = grind (arith, nat_tests) in
        let long = k.fits.cores in
        ap (map record_of) (get_or-set_at old.cores core c fresh [] same (omega (arith, same, long, here))) ∙ is
        ∙ ap (core_records_now m) (sym same)
    go false q =
        let apart : c ≡ core → ⊥ = λ s. absurd (let yes : (c == core) ≡ true = grind (arith, nat_tests) in cc) in
        ap (map record_of) (get_or-set_other old.cores core c fresh [] apart) ∙ k.cores c here
        ∙ ap (bus_core_records (bus_settings_of m) c) (sym (f.others c q))

pub looked : (old new : BusParts) (m : BusMachine) (core : ℕ) (w : BusWorld) (fresh : List Record) (t0 t1 t2 t3 t4 : List ℕ)
    → core < (bus_settings_of m).cores → IsKept old (bus_settings_of m) w → Follows (bus_settings_of m) core w (bus_world_of m)
    → map record_of fresh ≡ core_records_now m core → new.cores ≡ set old.cores core fresh → new.next ≡ (bus_world_of m).next
    → bus_of new.bus ≡ (bus_world_of m).bus → AreLines (bus_settings_of m) new.bus
    → t1 ≡ t0 ++ change_lines (changes (map record_of (get_or old.cores core [])) (map record_of fresh))
    → t2
    ≡ t1
    ++ bus_change_lines (arbiter_changes (bus_settings_of m).cores old.next (bus_of old.bus) (bus_world_of m).next (bus_world_of m).bus)
    → {b : rules.Bus}
    → t3 ≡ t2 ++ bus_change_lines (packet_changes (bus_settings_of m) (packet_words (bus_of old.bus)) (packet_words b))
    → b ≡ (bus_world_of m).bus
    → IsRenewed m w new.ram t3 t4 → Looked new m core w t0 t4
unfolding bus_changes_lines bus_changes
looked old new m core w fresh t0 t1 t2 t3 t4 here k f is cores next bus lines a p {b} q e r =
    let sh = bus_settings_of m in
    let v = bus_world_of m in
    let first = first_ram (bus_start_of m) in
    let memory = memory_changes sh first w.ram v.ram in
    let own = change_lines (changes (bus_core_records sh core (w.cores core)) (bus_core_records sh core (v.cores core))) in
    let begun : t1 ≡ t0 ++ own = a ∙ (λ i. t0 ++ change_lines (changes (k.cores core here i) (is i))) in
    record {
      told = told-all (arbiter_changes sh.cores old.next (bus_of old.bus) v.next v.bus)
          (packet_changes sh (packet_words (bus_of old.bus)) (packet_words b)) memory t1 t2 t3 t4 p q r.told
          ∙ (λ i. begun i
          ++ bus_change_lines (arbiter_changes sh.cores (k.next i) (k.bus i) v.next v.bus
          ++ (packet_changes sh (packet_words (k.bus i)) (packet_words (e i)) ++ memory)))
          ∙ append_assoc t0 own (bus_change_lines (bus_changes sh first w v));
      kept = record {
        fits = record { cores = ap length cores ∙ length-set old.cores core fresh ∙ k.fits.cores; ram = r.kept.count };
        cores = kept-on old new.cores m core w fresh k f is cores;
        next = next;
        bus = bus;
        packet = lines;
        ram = r.kept.words;
      };
    }
