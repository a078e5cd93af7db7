-- The first two lines, where they are read and where one of them is faulty.
use Rattle.std.proofs.Common.{suc, ◌≡◌, ℕ, ◌-◌, ◌<◌, ◌≤◌, List, [], ◌++◌, length, take, drop, Option, Some, None, refl, sym, ap, subst, ◌∙◌}
use Rattle.std.proofs.Common.{inl, inr, append_assoc, arith}
use lib.Count.{ones}
use Rattle.std.specs.Prelude.{IfSome, IfOk, Result, Ok, Err}
use Rattle.std.proofs.lemmas.Bool.{cases_order}
use Rattle.std.proofs.lemmas.List.{append-nil, take-take, take-append-drop}
use Rattle.std.proofs.lemmas.List.Concat.{flat_map-append}
use Rattle.std.proofs.lemmas.List.Elements.{All-nil}
use Rattle.std.proofs.lemmas.Option.{none-some, some_pair_parts}
use Rattle.tcc_base.specs.Settings.{Settings, IsAllowed}
use Rattle.tcc_msg.specs.declared.event.Event.{Event}
use Rattle.tcc_msg.specs.declared.event.Schedule.{Schedule}
use Rattle.schedule_text.specs.WellFormed.{Names, IsWellFormed}
use Rattle.schedule_text.specs.Grammar.{version_of, version_line, config_line, lines_of, joined, text_of}
use Rattle.schedule_text.specs.Faults.{Begins, IsFirstFault, HasEvent, Gives, IfLine}
use Rattle.schedule_text.specs.declared.fault.TextFault.{TextFault}
use Rattle.schedule_text.specs.declared.fault.TextFault.TheVariants.{Line, Memory}
use Rattle.schedule_text.specs.Reading.{version_at, settings_at}
use Rattle.schedule_text.proofs.EachLine.{version_again, settings_again, version_takes, settings_take}
use Rattle.schedule_text.proofs.Texts.{known_version, scheduled, one_text, Front, begins_events, begins_with}

-- ---- a schedule of each version

unfoldable some_settings : (cores : ℕ) → Settings
some_settings cores = record { cores = cores; dirs = 1; sets = 1; ways = 1; base = 0; ram = 32 }

allowed : (cores : ℕ) → 1 ≤ cores → cores ≤ 64 → IsAllowed (some_settings cores)
unfolding some_settings ones
allowed cores low high = (
  (low, high),
  (omega arith, omega arith),
  (refl, omega arith),
  (omega arith, omega arith),
  (omega arith, omega arith, refl),
  (refl, omega arith),
)

formed : (cores : ℕ) → 1 ≤ cores → cores ≤ 64 → IsWellFormed (scheduled (some_settings cores) [])
formed cores low high = record { allowed = allowed cores low high; count = omega arith; named = All-nil (Names (some_settings cores)) }

begins_nothing : (bytes : List ℕ) → Begins 0 bytes
begins_nothing bytes = record {
  schedule = scheduled (some_settings 1) [];
  rest = bytes;
  formed = formed 1 (omega arith) (omega arith);
  there = omega arith;
  same = refl;
}

begins_version : (bytes rest : List ℕ) (cores v : ℕ) → 1 ≤ cores → cores ≤ 64 → version_of (some_settings cores) ≡ v
    → bytes ≡ version_line v ++ rest → Begins 1 bytes
unfolding lines_of
begins_version bytes rest cores v low high version parts = record {
  schedule = scheduled (some_settings cores) [];
  rest = rest;
  formed = formed cores low high;
  there = omega arith;
  same = parts ∙ ap (λ (k : ℕ). version_line k ++ rest) (sym version)
      ∙ ap (λ (r : List ℕ). r ++ rest) (sym (append-nil (version_line (version_of (some_settings cores)))));
}

begins_line : (bytes : List ℕ) (v : ℕ) (rest : List ℕ) → version_at bytes ≡ Some (v, rest) → Begins 1 bytes
unfolding some_settings
begins_line bytes v rest read =
    let t = version_takes bytes v rest read in
    elim t.1 [
      | inl one ↦ begins_version bytes rest 1 v (omega arith) (omega arith) (sym one) t.0
      | inr two ↦ begins_version bytes rest 17 v (omega arith) (omega arith) (sym two) t.0
    ]

-- ---- what a text begins with

-- where the bytes begin with one line of a text, or with two
one_line : (s : Schedule) (bytes rest : List ℕ) → bytes ≡ joined (take 1 (lines_of s)) ++ rest
    → bytes ≡ version_line (version_of s.config) ++ rest
unfolding lines_of
one_line s bytes rest same = same ∙ ap (λ (r : List ℕ). r ++ rest) (append-nil (version_line (version_of s.config)))

two_lines : (s : Schedule) (bytes rest : List ℕ) → bytes ≡ joined (take 2 (lines_of s)) ++ rest
    → bytes ≡ version_line (version_of s.config) ++ (config_line s.config ++ rest)
unfolding lines_of
two_lines s bytes rest same =
    same ∙ ap (λ (r : List ℕ). (version_line (version_of s.config) ++ r) ++ rest) (append-nil (config_line s.config))
    ∙ append_assoc (version_line (version_of s.config)) (config_line s.config) rest

-- the lines from the third on
unfoldable others : Schedule → List ℕ
others s = joined (drop 2 (lines_of s))

all_lines : (s : Schedule) → text_of s ≡ version_line (version_of s.config) ++ (config_line s.config ++ others s)
unfolding lines_of others
all_lines s = refl

-- ---- faults

no_version : (bytes : List ℕ) (s : Schedule) (rest : List ℕ) → version_at bytes ≡ None
    → bytes ≡ version_line (version_of s.config) ++ rest → ⊥
no_version bytes s rest none same =
    none-some (version_of s.config, rest) (sym none ∙ ap version_at same
    ∙ version_again (version_of s.config) rest (known_version s.config))

pub bad_version : (bytes : List ℕ) → version_at bytes ≡ None → IsFirstFault 1 bytes
bad_version bytes none = record {
  counted = omega arith;
  refused = λ s formed same. no_version bytes s (config_line s.config ++ others s) none (same ∙ all_lines s);
  before = begins_nothing bytes;
  faulty = λ b. no_version bytes b.schedule b.rest none (one_line b.schedule bytes b.rest b.same);
}

-- what follows the first line isn't the second line of settings that go with the version
abbrev NoSettings : (v : ℕ) → List ℕ → Type 0
NoSettings v rest = (c : Settings) (more : List ℕ) → IsAllowed c → version_of c ≡ v → settings_at rest ≡ Some (c, more) → ⊥

no_settings : (bytes : List ℕ) (v : ℕ) (rest : List ℕ) → version_at bytes ≡ Some (v, rest) → NoSettings v rest → (s : Schedule)
    → IsWellFormed s → (more : List ℕ)
    → bytes ≡ version_line (version_of s.config) ++ (config_line s.config ++ more) → ⊥
no_settings bytes v rest read never s formed more same =
    let after : List ℕ = config_line s.config ++ more in
    let p = some_pair_parts (version_of s.config) v after rest
    (sym (version_again (version_of s.config) after (known_version s.config)) ∙ ap version_at (sym same) ∙ read) in
    never s.config more formed.allowed p.0 (ap settings_at (sym p.1) ∙ settings_again s.config more formed.allowed)

second : (bytes : List ℕ) (v : ℕ) (rest : List ℕ) → version_at bytes ≡ Some (v, rest) → NoSettings v rest → IsFirstFault 2 bytes
second bytes v rest read never = record {
  counted = omega arith;
  refused = λ s formed same. no_settings bytes v rest read never s formed (others s) (same ∙ all_lines s);
  before = begins_line bytes v rest read;
  faulty = λ b. no_settings bytes v rest read never b.schedule b.formed b.rest (two_lines b.schedule bytes b.rest b.same);
}

none_allowed : (o : Option (Settings × List ℕ)) (c : Settings) (more : List ℕ) → IfSome o (λ x. IsAllowed x.0 → ⊥) → IsAllowed c
    → o ≡ Some (c, more) → ⊥
none_allowed None c more never allowed e = absurd cc
none_allowed (Some x) c more never allowed e =
    let same : x.0 ≡ c = (some_pair_parts x.0 c x.1 more e).0 in
    never (subst IsAllowed (sym same) allowed)

pub bad_settings : (bytes : List ℕ) (v : ℕ) (rest : List ℕ) → version_at bytes ≡ Some (v, rest)
    → IfSome (settings_at rest) (λ x. IsAllowed x.0 → ⊥)
    → IsFirstFault 2 bytes
bad_settings bytes v rest read never =
    second bytes v rest read (λ c more allowed version e. none_allowed (settings_at rest) c more never allowed e)

pub other_version : (bytes : List ℕ) (v : ℕ) (rest : List ℕ) (c : Settings) (more : List ℕ) → version_at bytes ≡ Some (v, rest)
    → settings_at rest ≡ Some (c, more)
    → (version_of c ≡ v → ⊥) → IsFirstFault 2 bytes
other_version bytes v rest c more read config apart =
    second bytes v rest read (λ d after allowed version e.
    let same : c ≡ d = (some_pair_parts c d more after (sym config ∙ e)).0 in
    apart (ap version_of same ∙ version))

pub both_lines : (bytes : List ℕ) (v : ℕ) (rest : List ℕ) (c : Settings) (more : List ℕ) → version_at bytes ≡ Some (v, rest)
    → settings_at rest ≡ Some (c, more)
    → version_of c ≡ v → bytes ≡ version_line (version_of c) ++ (config_line c ++ more)
both_lines bytes v rest c more read config same =
    (version_takes bytes v rest read).0 ∙ ap (λ (k : ℕ). version_line k ++ rest) (sym same)
    ∙ ap (λ (r : List ℕ). version_line (version_of c) ++ r) (settings_take rest (c, more) config)

-- ---- the first fault is one

begins_less : (bytes : List ℕ) (j k : ℕ) → j ≤ k → Begins k bytes → Begins j bytes
begins_less bytes j k less b =
    let front : List (List ℕ) = take k (lines_of b.schedule) in
    let split : front ≡ take j (lines_of b.schedule) ++ drop j front =
    sym (take-append-drop j front) ∙ ap (λ (ls : List (List ℕ)). ls ++ drop j front) (take-take j k (lines_of b.schedule) less) in
    let parts : joined front ≡ joined (take j (lines_of b.schedule)) ++ joined (drop j front) =
    ap joined split ∙ flat_map-append (λ (line : List ℕ). line) (take j (lines_of b.schedule)) (drop j front) in
    record {
      schedule = b.schedule;
      rest = joined (drop j front) ++ b.rest;
      formed = b.formed;
      there = (let long : k ≤ length (lines_of b.schedule) = b.there in omega arith);
      same = b.same ∙ ap (λ (r : List ℕ). r ++ b.rest) parts
          ∙ append_assoc (joined (take j (lines_of b.schedule))) (joined (drop j front)) b.rest;
    }

-- where an event is read, the bytes have one
pub has_event : (bytes : List ℕ) (c : Settings) (es : List Event) (a : List ℕ) → Front bytes c es a → 0 < length es → HasEvent bytes
unfolding begins_less
has_event bytes c es a f some =
    let b = begins_events bytes c es a f in
    let there : length b.schedule.events ≡ length es = ap (λ (s : Schedule). length s.events) (begins_with bytes c es a f) in
    record { front = begins_less bytes 3 (suc (suc (length es))) (omega arith) b; event = omega arith }

not_before : (bytes : List ℕ) (j k : ℕ) → IsFirstFault j bytes → IsFirstFault k bytes → j < k → ⊥
not_before bytes j k p q less = p.faulty (begins_less bytes j (k - 1) (omega arith) q.before)

pub first_is_one : (bytes : List ℕ) (j k : ℕ) → IsFirstFault j bytes → IsFirstFault k bytes → j ≡ k
first_is_one bytes j k p q =
    elim (cases_order j k) [
      | inl same ↦ same
      | inr apart ↦ absurd (elim apart [ inl less ↦ not_before bytes j k p q less | inr more ↦ not_before bytes k j q p more ])
    ]

-- ---- what was written is read

pub given_back : (s : Schedule) (answer : Result Schedule TextFault) → IsWellFormed s
    → IfOk answer (λ t. IsWellFormed t × (text_of s ≡ text_of t)) → IfLine answer (λ k. IsFirstFault k (text_of s)) → Gives answer s
given_back s (Ok t) formed found line = sym (one_text s t formed found.0 found.1)
given_back s (Err (Line k)) formed found line = line.refused s formed refl
given_back s (Err Memory) formed found line = tt
