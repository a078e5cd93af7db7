-- Texts: what the front of some bytes tells of each schedule whose text begins with it.
use Rattle.std.proofs.Common.{◌≡◌, ℕ, zero, suc, ◌+◌, ◌-◌, ◌^◌, ◌<◌, ◌≤◌, List, [], ◌∷◌, ◌++◌, map, length, take, Some, None, Bool, true}
use Rattle.std.proofs.Common.{false, cond, leb, ltb, ◌&&◌, ◌⊎◌, refl, sym, ap, subst, ◌∙◌, inl, inr, append_assoc, arith}
use Rattle.std.specs.List.{flat_map, AllByRecursion}
use Rattle.std.proofs.lemmas.Bool.{lt-ltb, ltb-true}
use Rattle.std.proofs.lemmas.List.{append-nil, length-append, length-map, take_at, take_all, flat_map_more, length_push, nil_from_length}
use Rattle.std.proofs.lemmas.List.Elements.{recursion_from_All, All-from_recursion, All-push}
use Rattle.std.proofs.lemmas.Option.{none-some, some_pair_parts}
use Rattle.tcc_base.specs.Limits.{text_limit}
use Rattle.tcc_base.specs.Settings.{Settings, IsAllowed}
use Rattle.tcc_msg.specs.declared.event.Event.{Event}
use Rattle.tcc_msg.specs.declared.event.Schedule.{Schedule}
use Rattle.schedule_text.specs.WellFormed.{Names, IsWellFormed}
use Rattle.schedule_text.specs.Grammar.{version_of, version_line, config_line, event_line, end_line, lines_of, joined, text_of}
use Rattle.schedule_text.specs.Faults.{Begins, IsFirstFault}
use Rattle.schedule_text.specs.Reading.{version_at, settings_at, event_at, end_at}
use Rattle.schedule_text.proofs.EachLine.{version_again, settings_again, event_again, event_takes, end_again, end_takes, no_event}
use Rattle.schedule_text.proofs.Words.{kept}

-- ---- one line tells itself from others

same_event : (c : Settings) (e f : Event) (a b : List ℕ) → IsAllowed c → Names c e → Names c f
    → event_line e ++ a ≡ event_line f ++ b → (e ≡ f) × (a ≡ b)
same_event c e f a b allowed p q same =
    some_pair_parts e f a b (sym (event_again c e a allowed p) ∙ ap (event_at c) same ∙ event_again c f b allowed q)

not_end : (c : Settings) (e : Event) (count : ℕ) (a b : List ℕ) → IsAllowed c → Names c e → event_line e ++ a ≡ end_line count ++ b → ⊥
not_end c e count a b allowed p same =
    none-some (e, a) (sym (no_event c count b) ∙ ap (event_at c) (sym same) ∙ event_again c e a allowed p)

same_end : (m n : ℕ) (a b : List ℕ) → m < 2 ^ 62 → n < 2 ^ 62 → end_line m ++ a ≡ end_line n ++ b → (m ≡ n) × (a ≡ b)
same_end m n a b p q same = some_pair_parts m n a b (sym (end_again m a p) ∙ ap end_at same ∙ end_again n b q)

known_of : (b : Bool) (v : ℕ) → v ≡ cond b 1 2 → (v ≡ 1) ⊎ (v ≡ 2)
known_of true v e = inl e
known_of false v e = inr e

pub known_version : (c : Settings) → (version_of c ≡ 1) ⊎ (version_of c ≡ 2)
known_version c = known_of (leb c.cores 16 && leb c.dirs 16) (version_of c) refl

same_head : (c d : Settings) (a b : List ℕ) → IsAllowed c → IsAllowed d
    → version_line (version_of c) ++ (config_line c ++ a) ≡ version_line (version_of d) ++ (config_line d ++ b) → (c ≡ d) × (a ≡ b)
same_head c d a b p q same =
    let after-c : List ℕ = config_line c ++ a in
    let after-d : List ℕ = config_line d ++ b in
    let v = some_pair_parts (version_of c) (version_of d) after-c after-d
    (sym (version_again (version_of c) after-c (known_version c)) ∙ ap version_at same
    ∙ version_again (version_of d) after-d (known_version d)) in
    some_pair_parts c d a b (sym (settings_again c a p) ∙ ap settings_at v.1 ∙ settings_again d b q)

-- ---- the lines from the third on

-- the lines of the events, and the last
abbrev body : List Event → (count : ℕ) → List (List ℕ)
body es count = map event_line es ++ end_line count ∷ []

joined_map : (es : List Event) → joined (map event_line es) ≡ flat_map event_line es
joined_map [] = refl
joined_map (e ∷ es) = ap (λ (r : List ℕ). event_line e ++ r) (joined_map es)

joined_body : (es : List Event) (count : ℕ) → joined (body es count) ≡ flat_map event_line es ++ end_line count
joined_body [] count = append-nil (end_line count)
joined_body (e ∷ es) count =
    ap (λ (r : List ℕ). event_line e ++ r) (joined_body es count)
    ∙ sym (append_assoc (event_line e) (flat_map event_line es) (end_line count))

length_lines : (s : Schedule) → length (lines_of s) ≡ length s.events + 3
unfolding lines_of
length_lines s = omega (arith, length-append (map event_line s.events) (end_line (length s.events) ∷ []), length-map s.events event_line)

-- what stands after the events es, where they begin the n + length es lines of the events es' and the last line
record Beyond (c : Settings) (es es' : List Event) (count n : ℕ) (a b : List ℕ) : Type 0 where
  more : List Event
  whole : es' ≡ es ++ more
  named : AllByRecursion (Names c) more
  after : a ≡ joined (take n (body more count)) ++ b

beyond : (c : Settings) (es es' : List Event) (count n k : ℕ) (a b : List ℕ) → IsAllowed c
    → AllByRecursion (Names c) es → AllByRecursion (Names c) es' → k ≡ length es + n
    → flat_map event_line es ++ a ≡ joined (take k (body es' count)) ++ b → Beyond c es es' count n a b
beyond c [] es' count n k a b allowed p q len same =
    let there : k ≡ n = omega arith in
    record { more = es'; whole = refl; named = q; after = subst (λ (m : ℕ). a ≡ joined (take m (body es' count)) ++ b) there same }
beyond c (e ∷ es) es' count n zero a b allowed p q len same = absurd (omega arith)
beyond c (e ∷ es) [] count n (suc k) a b allowed p q len same =
    absurd (not_end c e count (flat_map event_line es ++ a) (joined (take k []) ++ b) allowed p.0
    (sym (append_assoc (event_line e) (flat_map event_line es) a) ∙ same ∙ append_assoc (end_line count) (joined (take k [])) b))
beyond c (e ∷ es) (f ∷ fs) count n (suc k) a b allowed p q len same =
    let s = same_event c e f (flat_map event_line es ++ a) (joined (take k (body fs count)) ++ b) allowed p.0 q.0
    (sym (append_assoc (event_line e) (flat_map event_line es) a) ∙ same
    ∙ append_assoc (event_line f) (joined (take k (body fs count))) b) in
    let rest = beyond c es fs count n k a b allowed p.1 q.1 (omega arith) s.1 in
    let head : e ≡ f = s.0 in
    let tail : fs ≡ es ++ rest.more = rest.whole in
    record { more = rest.more; whole = cc; named = rest.named; after = rest.after }

-- ---- the front of some bytes

-- The bytes begin with the first two lines of these settings and the lines of these events; a follows.
pub record Front (bytes : List ℕ) (c : Settings) (es : List Event) (a : List ℕ) : Type 0 where
  pub allowed : IsAllowed c
  pub count : length es ≤ text_limit
  pub named : AllByRecursion (Names c) es
  pub parts : bytes ≡ version_line (version_of c) ++ (config_line c ++ (flat_map event_line es ++ a))

abbrev pub scheduled : Settings → List Event → Schedule
scheduled c es = record { config = c; events = es }

pub is_well_formed : (bytes : List ℕ) (c : Settings) (es : List Event) (a : List ℕ) → Front bytes c es a → IsWellFormed (scheduled c es)
is_well_formed bytes c es a f = record { allowed = f.allowed; count = f.count; named = All-from_recursion (Names c) es f.named }

-- a schedule whose text begins with the bytes' front has these settings and begins with these events
record GoesOnFrom (c : Settings) (es : List Event) (s : Schedule) (n : ℕ) (a b : List ℕ) : Type 0 where
  config : c ≡ s.config
  beyond-is : Beyond c es s.events (length s.events) n a b

goes_on-from : (bytes : List ℕ) (c : Settings) (es : List Event) (a : List ℕ) → Front bytes c es a → (s : Schedule) → IsWellFormed s
    → (n : ℕ) (b : List ℕ)
    → bytes ≡ joined (take (suc (suc (length es + n))) (lines_of s)) ++ b → GoesOnFrom c es s n a b
unfolding lines_of
goes_on-from bytes c es a f s formed n b same =
    let lines : List (List ℕ) = take (length es + n) (body s.events (length s.events)) in
    let v : List ℕ = version_line (version_of s.config) in
    let apart : (v ++ (config_line s.config ++ joined lines)) ++ b ≡ v ++ (config_line s.config ++ (joined lines ++ b)) =
    append_assoc v (config_line s.config ++ joined lines) b
    ∙ ap (λ (r : List ℕ). v ++ r) (append_assoc (config_line s.config) (joined lines) b) in
    let head = same_head c s.config (flat_map event_line es ++ a) (joined lines ++ b) f.allowed formed.allowed
    (sym f.parts ∙ same ∙ apart) in
    let named : AllByRecursion (Names s.config) s.events = recursion_from_All (Names s.config) s.events formed.named in
    let named-here : AllByRecursion (Names c) s.events = subst (λ (d : Settings). AllByRecursion (Names d) s.events) (sym head.0) named in
    record {
      config = head.0;
      beyond-is = beyond c es s.events (length s.events) n
          (length es + n) a b f.allowed f.named named-here refl head.1;
    }

-- a whole text is as many of its lines as one likes beyond all
whole_text : (bytes : List ℕ) (s : Schedule) (k : ℕ) → bytes ≡ text_of s
    → bytes ≡ joined (take (suc (suc (k + suc (length (lines_of s))))) (lines_of s)) ++ []
whole_text bytes s k same =
    let all : take (suc (suc (k + suc (length (lines_of s))))) (lines_of s) ≡ lines_of s =
    take_all (suc (suc (k + suc (length (lines_of s))))) (lines_of s) (omega arith) in
    same ∙ rw (all, append-nil (joined (lines_of s))) refl

-- ---- the front begins a text

pub begins_events : (bytes : List ℕ) (c : Settings) (es : List Event) (a : List ℕ) → Front bytes c es a
    → Begins (suc (suc (length es))) bytes
unfolding lines_of
begins_events bytes c es a f =
    let v : List ℕ = version_line (version_of c) in
    let front : take (length es) (body es (length es)) ≡ map event_line es =
    take_at (map event_line es) (end_line (length es) ∷ []) (length es) (length-map es event_line) in
    let lines : joined (take (length es) (body es (length es))) ≡ flat_map event_line es = ap joined front ∙ joined_map es in
    let apart : (v ++ (config_line c ++ flat_map event_line es)) ++ a ≡ v ++ (config_line c ++ (flat_map event_line es ++ a)) =
    append_assoc v (config_line c ++ flat_map event_line es) a
    ∙ ap (λ (r : List ℕ). v ++ r) (append_assoc (config_line c) (flat_map event_line es) a) in
    record {
      schedule = scheduled c es;
      rest = a;
      formed = is_well_formed bytes c es a f;
      there = omega (arith, length_lines (scheduled c es));
      same = f.parts ∙ sym apart ∙ ap (λ (r : List ℕ). (v ++ (config_line c ++ r)) ++ a) (sym lines);
    }

pub begins_with : (bytes : List ℕ) (c : Settings) (es : List Event) (a : List ℕ) (f : Front bytes c es a)
    → (begins_events bytes c es a f).schedule ≡ scheduled c es
unfolding begins_events lines_of
begins_with bytes c es a f = refl

pub is_text : (bytes : List ℕ) (c : Settings) (es : List Event) (a after : List ℕ) → Front bytes c es a → a ≡ end_line (length es) ++ after
    → bytes ≡ text_of (scheduled c es) ++ after
unfolding lines_of
is_text bytes c es a after f last =
    let v : List ℕ = version_line (version_of c) in
    let tail : flat_map event_line es ++ a ≡ joined (body es (length es)) ++ after =
    ap (λ (r : List ℕ). flat_map event_line es ++ r) last ∙ sym (append_assoc (flat_map event_line es) (end_line (length es)) after)
    ∙ ap (λ (r : List ℕ). r ++ after) (sym (joined_body es (length es))) in
    let apart : (v ++ (config_line c ++ joined (body es (length es)))) ++ after ≡ v ++
    (config_line c ++ (joined (body es (length es)) ++ after)) =
    append_assoc v (config_line c ++ joined (body es (length es))) after
    ∙ ap (λ (r : List ℕ). v ++ r) (append_assoc (config_line c) (joined (body es (length es))) after) in
    f.parts ∙ ap (λ (r : List ℕ). v ++ (config_line c ++ r)) tail ∙ sym apart

begins_whole : (bytes : List ℕ) (c : Settings) (es : List Event) (a after : List ℕ) → Front bytes c es a → a ≡ end_line (length es) ++ after
    → Begins (length es + 3) bytes
begins_whole bytes c es a after f last =
    let s : Schedule = scheduled c es in
    let len : length (lines_of s) ≡ length es + 3 = length_lines s in
    let all : take (length es + 3) (lines_of s) ≡ lines_of s = take_all (length es + 3) (lines_of s) (omega arith) in
    record {
      schedule = scheduled c es;
      rest = after;
      formed = is_well_formed bytes c es a f;
      there = omega arith;
      same = is_text bytes c es a after f last ∙ ap (λ (ls : List (List ℕ)). joined ls ++ after) (sym all);
    }

-- ---- no text goes on as the bytes do

no_more : (c : Settings) (es : List Event) (a b : List ℕ) (s : Schedule) (n : ℕ) → IsAllowed c → IsWellFormed s
    → cond (ltb (length es) text_limit) (event_at c a) None ≡ None → ((rest : List ℕ) → end_at a ≡ Some (length es, rest) → ⊥)
    → (more : List Event) → s.events ≡ es ++ more → AllByRecursion (Names c) more
    → a ≡ joined (take (suc n) (body more (length s.events))) ++ b → ⊥
no_more c es a b s n allowed formed no-event no-end [] whole named after =
    let len : length s.events ≡ length es = ap length whole ∙ ap length (append-nil es) in
    let last : a ≡ end_line (length es) ++ (joined (take n []) ++ b) =
    after ∙ append_assoc (end_line (length s.events)) (joined (take n [])) b
    ∙ ap (λ (k : ℕ). end_line k ++ (joined (take n []) ++ b)) len in
    let small : length s.events ≤ text_limit = formed.count in
    no-end (joined (take n []) ++ b) (ap end_at last ∙ end_again (length es) (joined (take n []) ++ b) (omega arith))
no_more c es a b s n allowed formed no-event no-end (e ∷ more) whole named after =
    let len : length s.events ≡ length es + suc (length more) = ap length whole ∙ length-append es (e ∷ more) in
    let small : length s.events ≤ text_limit = formed.count in
    let room : ltb (length es) text_limit ≡ true = lt-ltb (length es) text_limit (omega arith) in
    let none : event_at c a ≡ None = rw room at no-event in
    let rest : List ℕ = joined (take n (body more (length s.events))) ++ b in
    let next : a ≡ event_line e ++ rest = after ∙ append_assoc (event_line e) (joined (take n (body more (length s.events)))) b in
    none-some (e, rest) (sym none ∙ ap (event_at c) next ∙ event_again c e rest allowed named.0)

pub stuck : (bytes : List ℕ) (c : Settings) (es : List Event) (a : List ℕ) → Front bytes c es a
    → cond (ltb (length es) text_limit) (event_at c a) None ≡ None → ((rest : List ℕ) → end_at a ≡ Some (length es, rest) → ⊥)
    → (s : Schedule) → IsWellFormed s → (n : ℕ) (b : List ℕ)
    → bytes ≡ joined (take (suc (suc (length es + suc n))) (lines_of s)) ++ b → ⊥
stuck bytes c es a f no-event no-end s formed n b same =
    let w = goes_on-from bytes c es a f s formed (suc n) b same in
    no_more c es a b s n f.allowed formed no-event no-end w.beyond-is.more w.beyond-is.whole w.beyond-is.named w.beyond-is.after

-- the line after the events is neither an event's, where there may be one, nor the last
pub faulty_line : (bytes : List ℕ) (c : Settings) (es : List Event) (a : List ℕ) → Front bytes c es a
    → cond (ltb (length es) text_limit) (event_at c a) None ≡ None → ((rest : List ℕ) → end_at a ≡ Some (length es, rest) → ⊥)
    → IsFirstFault (length es + 3) bytes
faulty_line bytes c es a f no-event no-end =
    let two : suc (suc (length es)) ≡ length es + 3 - 1 = omega arith in
    let three : length es + 3 ≡ suc (suc (length es + suc zero)) = omega arith in
    record {
      counted = omega arith;
      refused = λ s formed same. stuck bytes c es a f no-event no-end s formed (length (lines_of s)) []
          (whole_text bytes s (length es) same);
      before = subst (λ (k : ℕ). Begins k bytes) two (begins_events bytes c es a f);
      faulty = λ b. stuck bytes c es a f no-event no-end b.schedule b.formed zero b.rest
          (subst (λ (k : ℕ). bytes ≡ joined (take k (lines_of b.schedule)) ++ b.rest) three b.same);
    }

-- ---- what stands after the last line

-- the schedule is the one that was read, and this follows its text
pub record IsRead (c : Settings) (es : List Event) (s : Schedule) (n : ℕ) (after b : List ℕ) : Type 0 where
  pub config : c ≡ s.config
  pub events : es ≡ s.events
  pub rest : after ≡ joined (take n []) ++ b

only_end : (c : Settings) (es : List Event) (a after b : List ℕ) (s : Schedule) (n : ℕ) → IsAllowed c → IsWellFormed s
    → length es ≤ text_limit → c ≡ s.config
    → a ≡ end_line (length es) ++ after → (more : List Event) → s.events ≡ es ++ more → AllByRecursion (Names c) more
    → a ≡ joined (take (suc n) (body more (length s.events))) ++ b → IsRead c es s n after b
only_end c es a after b s n allowed formed few config last [] whole named next =
    let small : length s.events ≤ text_limit = formed.count in
    let e = same_end (length es) (length s.events) after (joined (take n []) ++ b) (omega arith) (omega arith)
    (sym last ∙ next ∙ append_assoc (end_line (length s.events)) (joined (take n [])) b) in
    record { config = config; events = sym (whole ∙ append-nil es); rest = e.1 }
only_end c es a after b s n allowed formed few config last (e ∷ more) whole named next =
    absurd (not_end c e (length es) (joined (take n (body more (length s.events))) ++ b) after allowed named.0
    (sym (append_assoc (event_line e) (joined (take n (body more (length s.events)))) b) ∙ sym next ∙ last))

pub ended : (bytes : List ℕ) (c : Settings) (es : List Event) (a after : List ℕ) → Front bytes c es a → a ≡ end_line (length es) ++ after
    → (s : Schedule) → IsWellFormed s → (n : ℕ) (b : List ℕ) → bytes ≡ joined (take (suc (suc (length es + suc n))) (lines_of s)) ++ b
    → IsRead c es s n after b
ended bytes c es a after f last s formed n b same =
    let w = goes_on-from bytes c es a f s formed (suc n) b same in
    let rest = w.beyond-is in
    only_end c es a after b s n f.allowed formed f.count w.config last rest.more rest.whole rest.named rest.after

nothing : (n : ℕ) → joined (take n []) ++ [] ≡ []
nothing zero = refl
nothing (suc n) = refl

-- something stands after the last line
pub faulty_end : (bytes : List ℕ) (c : Settings) (es : List Event) (a after : List ℕ) → Front bytes c es a
    → a ≡ end_line (length es) ++ after
    → (after ≡ [] → ⊥) → IsFirstFault (length es + 4) bytes
faulty_end bytes c es a after f last some =
    let three : length es + 3 ≡ length es + 4 - 1 = omega arith in
    let four : length es + 4 ≡ suc (suc (length es + suc 1)) = omega arith in
    record {
      counted = omega arith;
      refused = λ s formed same. some ((ended bytes c es a after f last s formed (length (lines_of s)) []
          (whole_text bytes s (length es) same)).rest ∙ nothing (length (lines_of s)));
      before = subst (λ (k : ℕ). Begins k bytes) three (begins_whole bytes c es a after f last);
      faulty = λ b.
          let r = ended bytes c es a after f last b.schedule b.formed 1 b.rest
          (subst (λ (k : ℕ). bytes ≡ joined (take k (lines_of b.schedule)) ++ b.rest) four b.same) in
          let len : length es ≡ length b.schedule.events = ap length r.events in
          let lines : length (lines_of b.schedule) ≡ length b.schedule.events + 3 = length_lines b.schedule in
          let there : length es + 4 ≤ length (lines_of b.schedule) = b.there in
          omega arith;
    }

-- ---- one text for each schedule

pub front_of : (s : Schedule) → IsWellFormed s → Front (text_of s) s.config s.events (end_line (length s.events))
unfolding lines_of
front_of s formed = record {
  allowed = formed.allowed;
  count = formed.count;
  named = recursion_from_All (Names s.config) s.events formed.named;
  parts = ap (λ (r : List ℕ). version_line (version_of s.config) ++ (config_line s.config ++ r)) (joined_body s.events (length s.events));
}

pub one_text : (s t : Schedule) → IsWellFormed s → IsWellFormed t → text_of s ≡ text_of t → s ≡ t
one_text s t p q same =
    let r = ended (text_of s) s.config s.events (end_line (length s.events)) [] (front_of s p)
    (sym (append-nil (end_line (length s.events)))) t q
    (length (lines_of t)) [] (whole_text (text_of s) t (length s.events) same) in
    ap (λ (c : Settings). scheduled c s.events) r.config ∙ ap (λ (es : List Event). scheduled t.config es) r.events

-- the text as it is written: the first two lines, the lines of the events, and the last
pub text_is : (s : Schedule) → text_of s ≡
    version_line (version_of s.config) ++ (config_line s.config ++ (flat_map event_line s.events ++ end_line (length s.events)))
unfolding lines_of
text_is s = ap (λ (r : List ℕ). version_line (version_of s.config) ++ (config_line s.config ++ r)) (joined_body s.events (length s.events))

-- the text, part by part
pub text_from_parts : (s : Schedule) (version count : ℕ) (t0 t1 t2 t3 t4 : List ℕ) → version ≡ version_of s.config → count ≡ length s.events
    → t0 ≡ [] → t1 ≡ t0 ++ version_line version → t2 ≡ t1 ++ config_line s.config → t3 ≡ t2 ++ flat_map event_line s.events
    → t4 ≡ t3 ++ end_line count
    → t4 ≡ text_of s
text_from_parts s version count t0 t1 t2 t3 t4 v k e0 e1 e2 e3 e4 =
    let head : List ℕ = version_line (version_of s.config) in
    let first : t1 ≡ head = e1 ∙ ap (λ (r : List ℕ). r ++ version_line version) e0 ∙ ap version_line v in
    let two : t2 ≡ head ++ config_line s.config = e2 ∙ ap (λ (r : List ℕ). r ++ config_line s.config) first in
    let three : t3 ≡ (head ++ config_line s.config) ++ flat_map event_line s.events = e3
    ∙ ap (λ (r : List ℕ). r ++ flat_map event_line s.events) two in
    let four : t4 ≡ ((head ++ config_line s.config) ++ flat_map event_line s.events) ++ end_line (length s.events) =
    e4 ∙ ap (λ (r : List ℕ). r ++ end_line count) three
    ∙ ap (λ (n : ℕ). ((head ++ config_line s.config) ++ flat_map event_line s.events) ++ end_line n) k in
    four ∙ append_assoc (head ++ config_line s.config) (flat_map event_line s.events) (end_line (length s.events))
    ∙ append_assoc head (config_line s.config) (flat_map event_line s.events ++ end_line (length s.events)) ∙ sym (text_is s)

-- ---- the steps of a reader

-- one more event is read
pub front_more : (bytes : List ℕ) (c : Settings) (es : List Event) (a : List ℕ) (e : Event) (after : List ℕ) → Front bytes c es a
    → cond (ltb (length es) text_limit) (event_at c a) None ≡ Some (e, after) → Front bytes c (es ++ e ∷ []) after
front_more bytes c es a e after f next =
    let k = kept (ltb (length es) text_limit) (event_at c a) (e, after) next in
    let room = ltb-true (length es) text_limit k.0 in
    let t = event_takes c a (e, after) k.1 in
    let lines : flat_map event_line es ++ a ≡ flat_map event_line (es ++ e ∷ []) ++ after =
    ap (λ (r : List ℕ). flat_map event_line es ++ r) t.0
    ∙ sym (append_assoc (flat_map event_line es) (event_line e) after)
    ∙ ap (λ (r : List ℕ). r ++ after) (flat_map_more event_line [] es e) in
    record {
      allowed = f.allowed;
      count = omega (arith, length_push es e);
      named = recursion_from_All (Names c) (es ++ e ∷ []) (All-push (Names c) es e (All-from_recursion (Names c) es f.named) t.1);
      parts = f.parts ∙ ap (λ (r : List ℕ). version_line (version_of c) ++ (config_line c ++ r)) lines;
    }

last_line : (es : List Event) (a : List ℕ) (told : ℕ) (after : List ℕ) → end_at a ≡ Some (told, after) → told ≡ length es
    → a ≡ end_line (length es) ++ after
last_line es a told after last same = end_takes a told after last ∙ ap (λ (k : ℕ). end_line k ++ after) same

-- the last line is read, and nothing follows it
pub read_found : (bytes : List ℕ) (c : Settings) (es : List Event) (a : List ℕ) (told : ℕ) (after : List ℕ) → Front bytes c es a
    → end_at a ≡ Some (told, after) → told ≡ length es → length after ≡ 0
    → IsWellFormed (scheduled c es) × (bytes ≡ text_of (scheduled c es))
read_found bytes c es a told after f last same none =
    let nil : after ≡ [] = nil_from_length after none in (
      is_well_formed bytes c es a f,
      is_text bytes c es a after f (last_line es a told after last same) ∙ ap (λ (r : List ℕ). text_of (scheduled c es) ++ r) nil
          ∙ append-nil (text_of (scheduled c es)),
    )

pub read_only : (bytes : List ℕ) (c : Settings) (es : List Event) (a : List ℕ) (told : ℕ) (after : List ℕ) → Front bytes c es a
    → end_at a ≡ Some (told, after) → told ≡ length es → length after ≡ 0
    → (s : Schedule) → IsWellFormed s → bytes ≡ text_of s → scheduled c es ≡ s
read_only bytes c es a told after f last same none s formed text =
    let r = read_found bytes c es a told after f last same none in
    one_text (scheduled c es) s r.0 formed (sym r.1 ∙ text)

-- there is no last line, or it has another number
pub no_last : (bytes : List ℕ) (c : Settings) (es : List Event) (a : List ℕ) → Front bytes c es a
    → cond (ltb (length es) text_limit) (event_at c a) None ≡ None → end_at a ≡ None → IsFirstFault (length es + 3) bytes
no_last bytes c es a f no-event none =
    faulty_line bytes c es a f no-event (λ rest e. none-some (length es, rest) (sym none ∙ e))

pub other_count : (bytes : List ℕ) (c : Settings) (es : List Event) (a : List ℕ) (told : ℕ) (after : List ℕ) → Front bytes c es a
    → cond (ltb (length es) text_limit) (event_at c a) None ≡ None → end_at a ≡ Some (told, after) → (told ≡ length es → ⊥)
    → IsFirstFault (length es + 3) bytes
other_count bytes c es a told after f no-event last apart =
    faulty_line bytes c es a f no-event (λ rest e. apart ((some_pair_parts told (length es) after rest (sym last ∙ e)).0))

-- something follows the last line
pub more_after : (bytes : List ℕ) (c : Settings) (es : List Event) (a : List ℕ) (told : ℕ) (after : List ℕ) → Front bytes c es a
    → end_at a ≡ Some (told, after) → told ≡ length es → (length after ≡ 0 → ⊥) → IsFirstFault (length es + 4) bytes
more_after bytes c es a told after f last same some =
    faulty_end bytes c es a after f (last_line es a told after last same) (λ nil. some (ap length nil))
