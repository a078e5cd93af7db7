-- The first machine is that of the rules' start.
use Rattle.std.proofs.Common.{◌≡◌, ℕ, zero, suc, ◌+◌, ◌/◌, ◌%◌, ◌<◌, ◌≤◌, Bool, true, false, if◌then◌else◌, inl, inr, List, [], ◌∷◌, ◌++◌}
use Rattle.std.proofs.Common.{length-append, length, get_or, Some, refl, ap, sym, ◌∙◌, subst, arith}
use Rattle.std.specs.Prelude.{Contains, nat_lt}
use Rattle.std.proofs.lemmas.Bool.{cases_lt}
use Rattle.std.proofs.lemmas.Bool.Decides.{nat_tests}
use Rattle.tcc_base.specs.declared.access.Commit.{Commit}
use Rattle.image_load.specs.Contents.{Contents, started}
use Rattle.image_load.specs.Start.{first_ram}
use Rattle.tcc_base.specs.Settings.{IsAllowed}
use Rattle.base_lemmas.proofs.Lemmas.{get_or-front, get_or-last}
use Rattle.rules_bus.specs.State.{bus_start}
use Rattle.rules_bus.specs.Step.{bus_from, bus_run}
use Rattle.theorem_bus.specs.Given.{bus_at_start}
use Rattle.machine_cores.specs.Bank.{cores_of, first_core}
use Rattle.bus_tcc.specs.Machine.{BusMachine, bus_history_of, bus_of, bus_settings_of, bus_start_of, bus_world_of}
use Rattle.bus_tcc.specs.Packets.{AreInOrder, lines_on}
use Rattle.bus_tcc.specs.Whole.{BusReached, IsBusWhole}
use Rattle.bus_tcc.specs.declared.bus.Bus.TheVariants.{Free}
use Rattle.bus_tcc.proofs.PacketLines.{none-in-order}

-- what the parts of the first machine are
pub record IsFirst (c : Contents) (m : BusMachine) : Type 0 where
  pub allowed : IsAllowed c.settings
  pub one_home : c.settings.dirs ≡ 1
  pub code : m.code ≡ c
  pub cores : cores_of (record { code = m.code; cores = m.cores }) ≡ first_core (started c)
  pub count : length m.ram ≡ c.settings.ram / 4
  pub words : (w : ℕ) → get_or m.ram w 0 ≡ first_ram (started c) w
  pub bus : m.bus ≡ Free
  pub next : m.next ≡ 1
  pub commits : m.commits ≡ []
  pub events : m.events ≡ 0

pub first-history : (c : Contents) (m : BusMachine) → IsFirst c m → bus_history_of m ≡ bus_at_start (started c)
unfolding bus_history_of bus_world_of bus_start
first-history c m f = λ i. record {
  world = record { cores = f.cores i; ram = λ w. f.words w i; next = f.next i; bus = bus_of (f.bus i) };
  commits = f.commits i;
}

reached-first : (m : BusMachine) → bus_history_of m ≡ bus_at_start (bus_start_of m) → m.events ≡ 0 → BusReached m
unfolding bus_run bus_from
reached-first m history events = record { taken = []; count = sym events; reaches = ap (λ h. Some h) (sym history) }

pub first-whole : (c : Contents) (m : BusMachine) → IsFirst c m → IsBusWhole m
first-whole c m f = record {
  allowed = subst (λ k. IsAllowed k.settings) (sym f.code) f.allowed;
  one_home = subst (λ k. k.settings.dirs ≡ 1) (sym f.code) f.one_home;
  ram = f.count ∙ ap (λ k. k.settings.ram / 4) (sym f.code);
  noted = λ d h. absurd (none d (subst (λ ds. Contains ds d) f.commits h));
  packet = subst (λ b. AreInOrder (bus_settings_of m) (lines_on b)) (sym f.bus) (none-in-order (bus_settings_of m));
  reached = reached-first m (first-history c m f ∙ ap (λ k. bus_at_start (started k)) (sym f.code)) f.events;
}
  where
    none : (d : Commit) → Contains [] d → ⊥
    none d h = omega (arith, h.1)

-- ---- the words that were loaded

-- the first n words
pub record AreWords (f : ℕ → ℕ) (n : ℕ) (ws : List ℕ) : Type 0 where
  pub count : length ws ≡ n
  pub each : (j : ℕ) → j < n → get_or ws j 0 ≡ f j

pub no-words : (f : ℕ → ℕ) → AreWords f 0 []
no-words f = record { count = refl; each = λ j h. absurd (omega (arith, h)) }

past : (xs : List ℕ) (j : ℕ) → length xs ≤ j → get_or xs j 0 ≡ 0
past [] j h = refl
past (x ∷ xs) zero h = absurd (omega (arith, h))
past (x ∷ xs) (suc j) h = past xs j (omega (arith, h))

pub one-more_word : (f : ℕ → ℕ) (n : ℕ) (ws : List ℕ) (x : ℕ) → AreWords f n ws → x ≡ f n → AreWords f (n + 1) (ws ++ x ∷ [])
one-more_word f n ws x h e = record {
  count = length-append ws (x ∷ []) ∙ ap (λ m. m + 1) h.count;
  each = λ j l. elim (cases_lt j (length ws)) [
    | inl k ↦ get_or-front ws (x ∷ []) j k ∙ h.each j (rw (sym h.count) k)
    | inr k ↦ (let last : j ≡ length ws = omega (arith, k, l, h.count) in
        ap (λ i. get_or (ws ++ x ∷ []) i 0) last ∙ get_or-last ws x ∙ e ∙ ap f (sym h.count ∙ sym last))
  ];
}

small : (x : ℕ) → x < 4294967296 → x ≡ x % 4294967296
small x h = omega (arith, h)

-- a word of the start
pub word-is : (k : Contents) (w x : ℕ) → x ≡ (started k).word w → x < 4294967296 → x ≡ (started k).word w % 4294967296
word-is k w x e h = small x h ∙ ap (λ y. y % 4294967296) e

pub all-words : (k : Contents) (n : ℕ) (ws : List ℕ) → n ≡ k.settings.ram / 4 → AreWords (λ w. (started k).word w % 4294967296) n ws
    → (w : ℕ) → get_or ws w 0 ≡ first_ram (started k) w
unfolding first_ram started
all-words k n ws e h w = by (nat_lt w (k.settings.ram / 4)) refl
  where
    by : (b : Bool) → nat_lt w (k.settings.ram / 4) ≡ b → get_or ws w 0 ≡ (if b then (started k).word w % 4294967296 else 0)
    by true q = h.each w (rw e (grind (arith, nat_tests)))
    by false q = past ws w (rw (h.count ∙ e) (grind (arith, nat_tests)))
