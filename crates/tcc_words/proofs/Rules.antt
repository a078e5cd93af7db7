-- Rules that are added one by one, and the simplicity of the grammars.
use Rattle.std.proofs.Common.{◌≡◌, true, List, [], ◌∷◌, ◌++◌, refl, sym, ap, codes, append_assoc}
use Rattle.clap.specs.Words.{App, Rule, Text, is_simple, with_rule}
use Rattle.clap.specs.Faults.{is_simple_and_free}
use Rattle.clap.specs.Simple.{on_top}
use Rattle.tcc_words.specs.Grammar.{core_rules, event_rules, flag, grammar, machine_rules, memory_rules, option, place, places, plain}
use Rattle.tcc_words.specs.Grammar.{node_rules, rules, verb_word}
use Rattle.tcc_words.specs.Grammar.{file_rules, record_rules, source_rules, with_rules}
use Rattle.tcc_words.specs.declared.command.Verb.{Verb}
use Rattle.tcc_words.specs.declared.command.Verb.TheVariants.{Run, Replay, Serial, Trial, Why, Phases, Bus, Trace, Count, State}
use Rattle.tcc_words.specs.declared.command.Verb.TheVariants.{Outcomes, Follow}

put_rules : App → List Rule → App
put_rules a rs = on_top (λ s. record s { rules = rs }) a

pub two_rules : (a : App) (r s : Rule) → with_rule (with_rule a r) s ≡ with_rules (r ∷ s ∷ []) a
unfolding put_rules
two_rules a r s = ap (put_rules a) (append_assoc a.top.rules (r ∷ []) (s ∷ []))

pub three_rules : (a : App) (r s t : Rule) → with_rule (with_rule (with_rule a r) s) t ≡ with_rules (r ∷ s ∷ t ∷ []) a
unfolding put_rules
three_rules a r s t =
    let all : ((a.top.rules ++ r ∷ []) ++ s ∷ []) ++ t ∷ [] ≡ a.top.rules ++ r ∷ s ∷ t ∷ [] = simp append_assoc in
    ap (put_rules a) all

pub four_rules : (a : App) (r s t u : Rule)
    → with_rule (with_rule (with_rule (with_rule a r) s) t) u ≡ with_rules (r ∷ s ∷ t ∷ u ∷ []) a
unfolding put_rules
four_rules a r s t u =
    let all : (((a.top.rules ++ r ∷ []) ++ s ∷ []) ++ t ∷ []) ++ u ∷ [] ≡ a.top.rules ++ r ∷ s ∷ t ∷ u ∷ [] = simp append_assoc in
    ap (put_rules a) all

pub filed_rules : (a : App) (more : List Rule) (r s : Rule)
    → with_rule (with_rule (with_rules more a) r) s ≡ with_rules (more ++ r ∷ s ∷ []) a
unfolding put_rules
filed_rules a more r s =
    let all : ((a.top.rules ++ more) ++ r ∷ []) ++ s ∷ [] ≡ a.top.rules ++ (more ++ r ∷ s ∷ []) = simp append_assoc in
    ap (put_rules a) all

pub more_rules : (a : App) (first later : List Rule) → with_rules later (with_rules first a) ≡ with_rules (first ++ later) a
unfolding put_rules
more_rules a first later = ap (put_rules a) (append_assoc a.top.rules first later)

-- the grammars, by the steps in which they are made
pub run_made : (verb : Verb) (name : Text) (bare machine events threads batch made : App) → verb ≡ Run → name ≡ verb_word verb
    → bare ≡ plain name [] → machine ≡ with_rules machine_rules bare
    → events ≡ with_rules event_rules machine → threads ≡ with_rule events (option (codes "threads"))
    → batch ≡ with_rule threads (option (codes "batch")) → made ≡ with_rules record_rules batch → made ≡ grammar verb
unfolding grammar
run_made verb name bare machine events threads batch made v n e0 e1 e2 e3 e4 e5 = rw (e5, e4, e3, e2, e1, e0, n, v) refl

pub phases_made : (verb : Verb) (name : Text) (bare machine events made : App) → verb ≡ Phases → name ≡ verb_word verb
    → bare ≡ plain name [] → machine ≡ with_rules machine_rules bare → events ≡ with_rules event_rules machine
    → made ≡ with_rules record_rules events → made ≡ grammar verb
unfolding grammar
phases_made verb name bare machine events made v n e0 e1 e2 e3 = rw (e3, e2, e1, e0, n, v) refl

pub bus_made : (verb : Verb) (name : Text) (bare cores machine events made : App) → verb ≡ Bus → name ≡ verb_word verb
    → bare ≡ plain name [] → cores ≡ with_rules core_rules bare → machine ≡ with_rules memory_rules cores
    → events ≡ with_rules event_rules machine → made ≡ with_rule events (places (codes "image")) → made ≡ grammar verb
unfolding grammar
bus_made verb name bare cores machine events made v n e0 e1 e2 e3 e4 = rw (e4, e3, e2, e1, e0, n, v) refl

pub filed_made : (verb : Verb) (name file : Text) (bare made : App) → rules verb ≡ file_rules file → name ≡ verb_word verb
    → bare ≡ plain name [] → made ≡ with_rules (file_rules file) bare → made ≡ grammar verb
unfolding grammar
filed_made verb name file bare made r n e0 e1 = rw (e1, e0, n) (ap (plain (verb_word verb)) (sym r))

pub trial_made : (verb : Verb) (name : Text) (bare nodes events kind made : App) → verb ≡ Trial → name ≡ verb_word verb
    → bare ≡ plain name [] → nodes ≡ with_rules node_rules bare → events ≡ with_rules event_rules nodes
    → kind ≡ with_rule events (place (codes "kind")) → made ≡ with_rule kind (place (codes "number")) → made ≡ grammar verb
unfolding grammar
trial_made verb name bare nodes events kind made v n e0 e1 e2 e3 e4 = rw (e4, e3, e2, e1, e0, n, v) refl

pub trace_made : (verb : Verb) (name : Text) (bare source from to states resumed made : App) → verb ≡ Trace → name ≡ verb_word verb
    → bare ≡ plain name [] → source ≡ with_rules source_rules bare → from ≡ with_rule source (option (codes "from"))
    → to ≡ with_rule from (option (codes "to")) → states ≡ with_rule to (flag (codes "records") (codes "states"))
    → resumed ≡ with_rule states (option (codes "resume")) → made ≡ with_rule resumed (places (codes "image")) → made ≡ grammar verb
unfolding grammar
trace_made verb name bare source from to states resumed made v n e0 e1 e2 e3 e4 e5 e6 = rw (e6, e5, e4, e3, e2, e1, e0, n, v) refl

pub count_made : (verb : Verb) (name : Text) (bare source csv every told resumed written made : App) → verb ≡ Count → name ≡ verb_word verb
    → bare ≡ plain name [] → source ≡ with_rules source_rules bare → csv ≡ with_rule source (flag (codes "csv") (codes "csv"))
    → every ≡ with_rule csv (option (codes "every")) → told ≡ with_rule every (flag (codes "consoles") (codes "consoles"))
    → resumed ≡ with_rule told (option (codes "resume")) → written ≡ with_rule resumed (option (codes "checkpoint"))
    → made ≡ with_rule written (places (codes "image")) → made ≡ grammar verb
unfolding grammar
count_made verb name bare source csv every told resumed written made v n e0 e1 e2 e3 e4 e5 e6 e7 =
    rw (e7, e6, e5, e4, e3, e2, e1, e0, n, v) refl

pub state_made : (verb : Verb) (name : Text) (bare source events resumed made : App) → verb ≡ State → name ≡ verb_word verb
    → bare ≡ plain name [] → source ≡ with_rules source_rules bare → events ≡ with_rule source (option (codes "events"))
    → resumed ≡ with_rule events (option (codes "resume")) → made ≡ with_rule resumed (places (codes "image")) → made ≡ grammar verb
unfolding grammar
state_made verb name bare source events resumed made v n e0 e1 e2 e3 e4 = rw (e4, e3, e2, e1, e0, n, v) refl

pub outcomes_made : (verb : Verb) (name : Text) (bare cores memory states longest tell made : App) → verb ≡ Outcomes
    → name ≡ verb_word verb → bare ≡ plain name [] → cores ≡ with_rule bare (option (codes "cores"))
    → memory ≡ with_rules memory_rules cores → states ≡ with_rule memory (option (codes "states"))
    → longest ≡ with_rule states (option (codes "longest")) → tell ≡ with_rule longest (option (codes "tell"))
    → made ≡ with_rule tell (places (codes "image")) → made ≡ grammar verb
unfolding grammar
outcomes_made verb name bare cores memory states longest tell made v n e0 e1 e2 e3 e4 e5 e6 = rw (e6, e5, e4, e3, e2, e1, e0, n, v) refl

pub follow_made : (verb : Verb) (name : Text) (bare machine kept list made : App) → verb ≡ Follow → name ≡ verb_word verb
    → bare ≡ plain name [] → machine ≡ with_rules machine_rules bare → kept ≡ with_rule machine (option (codes "record"))
    → list ≡ with_rule kept (place (codes "report")) → made ≡ with_rule list (places (codes "image")) → made ≡ grammar verb
unfolding grammar
follow_made verb name bare machine kept list made v n e0 e1 e2 e3 e4 = rw (e4, e3, e2, e1, e0, n, v) refl

pub grammar-simple : (verb : Verb) → is_simple (grammar verb) ≡ true
unfolding grammar
grammar-simple Run = refl
grammar-simple Replay = refl
grammar-simple Serial = refl
grammar-simple Trial = refl
grammar-simple Why = refl
grammar-simple Phases = refl
grammar-simple Bus = refl
grammar-simple Trace = refl
grammar-simple Count = refl
grammar-simple State = refl
grammar-simple Outcomes = refl
grammar-simple Follow = refl

pub grammar-free : (verb : Verb) → is_simple_and_free (grammar verb) ≡ true
unfolding grammar
grammar-free Run = refl
grammar-free Replay = refl
grammar-free Serial = refl
grammar-free Trial = refl
grammar-free Why = refl
grammar-free Phases = refl
grammar-free Bus = refl
grammar-free Trace = refl
grammar-free Count = refl
grammar-free State = refl
grammar-free Outcomes = refl
grammar-free Follow = refl
