-- What clap reads has no row under a name that no rule of its command has.
use Rattle.std.proofs.Common.{◌≡◌, ℕ, zero, suc, ◌+◌, ◌&&◌, Bool, true, false, List, [], ◌∷◌, ◌++◌, length, drop, Option, Some, None, refl}
use Rattle.std.specs.Prelude.{IfSome, encode_utf8, find, fold, min, slice_get, if◌then◌else◌}
use Rattle.std.specs.Str.{bytes_eq, chars}
use Rattle.clap.specs.Lexer.{long_of, short_of}
use Rattle.clap.specs.Matches.{count_text}
use Rattle.clap.specs.Walk as clap
use Rattle.clap.specs.Walk.{Held, Names, Outcome, Row, Rule, Step, Text, Waiting, Walk, at_row, first_of, settled, used}
use Rattle.clap.specs.Walk.{bundle_met, finished, rows_after, walked}
use Rattle.clap.specs.declared.builder.action.ArgAction.{ArgAction}
use Rattle.clap.specs.declared.builder.action.ArgAction.TheVariants as action
use Rattle.clap.specs.declared.builder.value_parser.Reading.{Reading}
use Rattle.clap.specs.declared.parser.matches.ValueSource.{ValueSource}
use Rattle.clap.specs.declared.parser.matches.ValueSource.TheVariants.{CommandLine}

-- no row under this name, and no rule that has it
Lacks : Text → List Row → Type 0
Lacks id [] = Unit {0}
Lacks id (r ∷ rs) = (bytes_eq r.id id ≡ false) × Lacks id rs

unfoldable pub IsApart : Text → List Rule → Type 0
IsApart id [] = Unit {0}
IsApart id (a ∷ rest) = (bytes_eq a.id id ≡ false) × IsApart id rest

lacks-none : (id : Text) (rows : List Row) → Lacks id rows → find (λ r. bytes_eq r.id id) rows ≡ None
unfolding Lacks
lacks-none id [] l = refl
lacks-none id (r ∷ rs) l = rw l.0 (lacks-none id rs l.1)

lacks-more : (id : Text) (rs ss : List Row) → Lacks id rs → Lacks id ss → Lacks id (rs ++ ss)
unfolding Lacks
lacks-more id [] ss l m = m
lacks-more id (r ∷ rs) ss l m = (l.0, lacks-more id rs ss l.1 m)

-- the rule that is found is another one
abbrev Other : Text → Option Rule → Type 0
Other id o = IfSome o (λ a. bytes_eq a.id id ≡ false)

found-apart : (id : Text) (test : Rule → Bool) (c : List Rule) → IsApart id c → Other id (find test c)
unfolding IsApart
found-apart id test [] p = tt
found-apart id test (a ∷ c) p = go (test a) (found-apart id test c p.1)
  where
    go : (b : Bool) → Other id (find test c) → Other id (if b then Some a else find test c)
    go true later = p.0
    go false later = later

lacks-at_row : (id other : Text) (change : Row → List Row) (missing rows : List Row)
    → ((r : Row) → bytes_eq r.id id ≡ false → Lacks id (change r)) → Lacks id missing → Lacks id rows
    → Lacks id (at_row other change missing rows)
unfolding Lacks
lacks-at_row id other change missing [] h m l = m
lacks-at_row id other change missing (r ∷ rs) h m l = go (bytes_eq r.id other) (lacks-at_row id other change missing rs h m l.1)
  where
    go : (b : Bool) → Lacks id (at_row other change missing rs)
        → Lacks id (if b then change r ++ rs else r ∷ at_row other change missing rs)
    go true later = lacks-more id (change r) rs (h r l.0) l.1
    go false later = (l.0, later)

-- ---- one use of a rule

lacks-without : (id own : Text) (rows : List Row) → Lacks id rows → Lacks id (clap.without own rows)
unfolding Lacks
lacks-without id own rows l = lacks-at_row id own (λ _. []) [] rows (λ r e. tt) tt l

lacks-with_values : (id own : Text) (how : Reading) (s : ValueSource) (values : List Text) (rows : List Row) → bytes_eq own id ≡ false
    → Lacks id rows → Lacks id (clap.with_values own how s values rows)
unfolding Lacks
lacks-with_values id own how s values rows e l =
    let row : Row = record { id = own; values = values; count = None; source = Some s; reading = how } in
    let changed : (r : Row) → bytes_eq r.id id ≡ false → Lacks id (clap.more_values s values r) = λ r f. (f, tt) in
    let missing : Lacks id (row ∷ []) = (e, tt) in
    lacks-at_row id own (clap.more_values s values) (row ∷ []) rows changed missing l

lacks-with_count : (id own : Text) (how : Reading) (s : ValueSource) (n : ℕ) (rows : List Row) → bytes_eq own id ≡ false
    → Lacks id rows → Lacks id (clap.with_count own how s n rows)
unfolding Lacks
lacks-with_count id own how s n rows e l =
    let row : Row = record { id = own; values = count_text n ∷ []; count = Some n; source = Some s; reading = how } in
    let changed : (r : Row) → bytes_eq r.id id ≡ false → Lacks id (clap.new_count s n r) = λ r f. (f, tt) in
    let missing : Lacks id (row ∷ []) = (e, tt) in
    lacks-at_row id own (clap.new_count s n) (row ∷ []) rows changed missing l

lacks-counted : (id own : Text) (how : Reading) (values : List Text) (rows : List Row) → bytes_eq own id ≡ false
    → Lacks id rows → Lacks id (clap.counted own how values rows)
lacks-counted id own how [] rows e l =
    lacks-with_count id own how CommandLine (min (clap.count_of own rows + 1) 255) (clap.without own rows) e (lacks-without id own rows l)
lacks-counted id own how (v ∷ vs) rows e l = lacks-with_values id own how _ _ _ e (lacks-without id own rows l)

lacks-used_as : (id : Text) (a : ArgAction) (own : Text) (how : Reading) (values : List Text) (rows : List Row) → bytes_eq own id ≡ false
    → Lacks id rows → Lacks id (clap.used_as a own how values rows)
lacks-used_as id action.Set own how values rows e l = lacks-with_values id own how _ values _ e (lacks-without id own rows l)
lacks-used_as id action.SetTrue own how values rows e l = lacks-with_values id own how _ values _ e (lacks-without id own rows l)
lacks-used_as id action.SetFalse own how values rows e l = lacks-with_values id own how _ values _ e (lacks-without id own rows l)
lacks-used_as id action.Append own how values rows e l = lacks-with_values id own how _ values rows e l
lacks-used_as id action.Count own how values rows e l = lacks-counted id own how values rows e l
lacks-used_as id _ own how values rows e l = l

lacks-used : (id : Text) (a : Rule) (values : List Text) (rows : List Row) → bytes_eq a.id id ≡ false → Lacks id rows
    → Lacks id (used a values rows)
lacks-used id a values rows e l =
    lacks-used_as id (clap.action_of a) a.id (clap.reading_by a) (clap.values_or_missing a values) rows e l

lacks-used_by_id : (id : Text) (o : Option Rule) (values : List Text) (rows : List Row) → Other id o → Lacks id rows
    → Lacks id (clap.used_by_id o values rows)
lacks-used_by_id id None values rows e l = l
lacks-used_by_id id (Some a) values rows e l = lacks-used id a values rows e l

-- ---- the walk, whose rules are all others

module _ (id : Text) (c : List Rule) (apart : IsApart id c) where
  abbrev LacksHeld : Held → Type 0
  LacksHeld h = Lacks id h.rows

  lacks-settled_rows : (p : Option (Text × List Text)) (rows : List Row) → Lacks id rows → Lacks id (clap.settled_rows c p rows)
  lacks-settled_rows None rows l = l
  lacks-settled_rows (Some p) rows l =
      lacks-used_by_id id (clap.arg_by_id c p.0) p.1 rows (found-apart id (λ a. bytes_eq a.id p.0) c apart) l

  lacks-settled : (h : Held) → LacksHeld h → LacksHeld (settled c h)
  lacks-settled h l = lacks-settled_rows h.pending h.rows l

  lacks-option_met : (a : Rule) (value : Option Text) (h : Held) → bytes_eq a.id id ≡ false → LacksHeld h
      → LacksHeld (clap.option_met c a value h).0
  lacks-option_met a (Some v) h e l = lacks-used id a (v ∷ []) (settled c h).rows e (lacks-settled h l)
  lacks-option_met a None h e l = lacks-settled h l

  lacks-flag_met : (a : Rule) (value : Option Text) (h : Held) → bytes_eq a.id id ≡ false → LacksHeld h
      → LacksHeld (clap.flag_met c a value h).0
  lacks-flag_met a (Some v) h e l = l
  lacks-flag_met a None h e l = lacks-used id a [] (settled c h).rows e (lacks-settled h l)

  lacks-long_met : (o : Option Rule) (value : Option Text) (h : Held) → Other id o → LacksHeld h
      → LacksHeld (clap.long_met c o value h).0
  lacks-long_met None value h e l = l
  lacks-long_met (Some a) value h e l = go (clap.takes_values a)
    where
      go : (b : Bool) → LacksHeld (if b then clap.option_met c a value h else clap.flag_met c a value h).0
      go true = lacks-option_met a value h e l
      go false = lacks-flag_met a value h e l

  lacks-short_met : (o : Option Rule) (rest : Text) (h : Held) (next : Held → Held × Outcome) → Other id o
      → ((g : Held) → LacksHeld g → LacksHeld (next g).0) → LacksHeld h → LacksHeld (clap.short_met c o rest h next).0
  lacks-short_met None rest h next e n l = l
  lacks-short_met (Some a) rest h next e n l = go (clap.takes_values a)
    where
      reacted : LacksHeld (clap.reacted c a [] h)
      reacted = lacks-used id a [] (settled c h).rows e (lacks-settled h l)

      go : (b : Bool)
          → LacksHeld (if b then clap.option_met c a (clap.attached_value rest) h else next (clap.reacted c a [] h)).0
      go true = lacks-option_met a (clap.attached_value rest) h e l
      go false = n (clap.reacted c a [] h) reacted

  lacks-bundle_met : (k : ℕ) (flags : Text) (skip : ℕ) (so_far : Outcome) (h : Held) → LacksHeld h
      → LacksHeld (bundle_met c k flags skip so_far h).0
  unfolding bundle_met
  lacks-bundle_met zero flags skip so_far h l = l
  lacks-bundle_met (suc k) flags skip so_far h l =
      go (λ t j o g m. lacks-bundle_met k t j o g m) (slice_get (chars flags) 0) skip
    where
      go : ((t : Text) (j : ℕ) (o : Outcome) (g : Held) → LacksHeld g → LacksHeld (bundle_met c k t j o g).0) → (x : Option ℕ) (s : ℕ)
          → LacksHeld (clap.bundle_step c x flags s so_far h (bundle_met c k)).0
      go later None s = l
      go later (Some x) zero =
          let rest = drop (length (encode_utf8 x)) flags in
          lacks-short_met (clap.arg_by_short c x) rest h (bundle_met c k rest 0 clap.done) (found-apart id _ c apart)
          (λ g m. later rest 0 clap.done g m) l
      go later (Some x) (suc s) = later _ s so_far h l

  lacks-option_word : (o : Option Rule) (own word : Text) (h : Held) → LacksHeld h → LacksHeld (clap.option_word o own word h).0
  lacks-option_word None own word h l = l
  lacks-option_word (Some a) own word h l = l

  lacks-plain_word : (waiting : Waiting) (word : Text) (h : Held) → LacksHeld h → LacksHeld (clap.plain_word c waiting word h).0
  lacks-plain_word (clap.option own) word h l = lacks-option_word (clap.arg_by_id c own) own word h l
  lacks-plain_word _ word h l = l

  lacks-after_flag : (waiting : Waiting) (word : Text) (h : Held) (o : Outcome) → LacksHeld h
      → LacksHeld (clap.after_flag c waiting word h o).0
  lacks-after_flag waiting word h clap.done l = l
  lacks-after_flag waiting word h (clap.waits own) l = l
  lacks-after_flag waiting word h _ l = lacks-plain_word waiting word h l

  lacks-long_word : (waiting : Waiting) (word name : Text) (v : Option Text) (h : Held) → LacksHeld h
      → LacksHeld (clap.long_word c waiting word name v h).0
  lacks-long_word waiting word name v h l =
      let met = clap.long_met c (clap.arg_by_long c name) v h in
      lacks-after_flag waiting word met.0 met.1 (lacks-long_met (clap.arg_by_long c name) v h (found-apart id _ c apart) l)

  lacks-short_word : (waiting : Waiting) (word flags : Text) (h : Held) → LacksHeld h
      → LacksHeld (clap.short_word c waiting word flags h).0
  lacks-short_word waiting word flags h l =
      let met = clap.bundle c flags h in
      lacks-after_flag waiting word met.0 met.1 (lacks-bundle_met _ flags h.skip clap.plain (record h { skip = 0 }) l)

  lacks-short_or_plain : (waiting : Waiting) (word : Text) (o : Option Text) (h : Held) → LacksHeld h
      → LacksHeld (clap.short_or_plain c waiting word o h).0
  lacks-short_or_plain waiting word (Some flags) h l = lacks-short_word waiting word flags h l
  lacks-short_or_plain waiting word None h l = lacks-plain_word waiting word h l

  lacks-long_or_other : (waiting : Waiting) (word : Text) (o : Option (Text × Option Text)) (h : Held) → LacksHeld h
      → LacksHeld (clap.long_or_other c waiting word o h).0
  lacks-long_or_other waiting word (Some p) h l = lacks-long_word waiting word p.0 p.1 h l
  lacks-long_or_other waiting word None h l = lacks-short_or_plain waiting word (short_of word) h l

  lacks-subcommand_or_other : (o : Option Text) (waiting : Waiting) (position : ℕ) (word : Text) (h : Held) → LacksHeld h
      → LacksHeld (clap.subcommand_or_other c o waiting position word h).0
  lacks-subcommand_or_other (Some name) waiting position word h l = l
  lacks-subcommand_or_other None waiting position word h l = go (bytes_eq word (45 ∷ 45 ∷ []))
    where
      go : (b : Bool)
          → LacksHeld (if b then (h, clap.trailing position) else clap.long_or_other c waiting word (long_of word) h).0
      go true = l
      go false = lacks-long_or_other waiting word (long_of word) h l

  lacks-word_met : (names : Names) (is_trailing : Bool) (waiting : Waiting) (position : ℕ) (word : Text) (h : Held) → LacksHeld h
      → LacksHeld (clap.word_met c names is_trailing waiting position word h).0
  lacks-word_met names true waiting position word h l = l
  lacks-word_met names false waiting position word h l =
      lacks-subcommand_or_other (clap.subcommand_met names waiting word) waiting position word h l

  abbrev LacksWalk : Walk → Type 0
  LacksWalk w = LacksHeld w.held

  lacks-to_positional : (o : Option Rule) (word : Text) (w : Walk) (h : Held) → LacksHeld h
      → LacksWalk (clap.to_positional c o word w h)
  lacks-to_positional None word w h l = l
  lacks-to_positional (Some a) word w h l = go (clap.is_pending a h.pending && clap.takes_several a)
    where
      go : (b : Bool) → Lacks id (clap.pushed a.id word (if b then h else settled c h)).rows
      go true = l
      go false = lacks-settled h l

  lacks-after_step : (word : Text) (w : Walk) (h : Held) (s : Step) → LacksHeld h → LacksWalk (clap.after_step c word w h s)
  lacks-after_step word w h (clap.next waiting) l = l
  lacks-after_step word w h (clap.trailing position) l = l
  lacks-after_step word w h (clap.subcommand name) l = l
  lacks-after_step word w h clap.value l = lacks-to_positional (clap.arg_by_index c w.position) word w h l

  lacks-walked : (names : Names) (w : Walk) (word : Text) → LacksWalk w → LacksWalk (walked c names w word)
  unfolding walked
  lacks-walked names w word l = go w.stopped
    where
      go : (o : Option (Text × List Text)) → LacksWalk (clap.walked_from c names o w word)
      go (Some p) = l
      go None =
          let met = clap.word_met c names w.is_trailing w.waiting w.position word w.held in
          lacks-after_step word w met.0 met.1 (lacks-word_met names w.is_trailing w.waiting w.position word w.held l)

  lacks-walk : (names : Names) (w : Walk) (words : List Text) → LacksWalk w → LacksWalk (fold (walked c names) w words)
  lacks-walk names w [] l = l
  lacks-walk names w (x ∷ xs) l = lacks-walk names (walked c names w x) xs (lacks-walked names w x l)

  lacks-with_default : (a : Rule) (rows : List Row) → bytes_eq a.id id ≡ false → Lacks id rows → Lacks id (clap.with_default rows a)
  lacks-with_default a rows e l = go (clap.has_row a.id rows)
    where
      given : (vs : List Text) → Lacks id (clap.default_rows a.id (clap.reading_by a) vs rows)
      given [] = l
      given (v ∷ vs) = lacks-with_values id a.id _ _ (v ∷ vs) rows e l

      go : (b : Bool) → Lacks id (if b then rows else clap.default_rows a.id (clap.reading_by a) a.defaults rows)
      go true = l
      go false = given a.defaults

  lacks-defaults : (some : List Rule) (rows : List Row) → IsApart id some → Lacks id rows → Lacks id (fold clap.with_default rows some)
  unfolding IsApart
  lacks-defaults [] rows p l = l
  lacks-defaults (a ∷ some) rows p l = lacks-defaults some (clap.with_default rows a) p.1 (lacks-with_default a rows p.0 l)

  pub unasked : (names : Names) (words : List Text) → first_of id (rows_after c names words) ≡ None
  unfolding Lacks
  unasked names words =
      let walk = clap.walk c names clap.nothing_held words in
      let read : Lacks id (clap.walk c names clap.nothing_held words).held.rows =
      lacks-walk names (clap.walk_from clap.nothing_held) words none in
      let all : Lacks id (rows_after c names words) = lacks-defaults c (settled c walk.held).rows apart (lacks-settled walk.held read) in
      rw (lacks-none id (rows_after c names words) all) refl
    where
      none : Lacks id []
      none = tt
