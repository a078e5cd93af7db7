-- The order in which fields are tested: a later one is the first that isn't allowed where those before it are.
use Rattle.std.proofs.Common.{List, [], ◌∷◌, ◌++◌, inl, inr}
use Rattle.clap.specs.Walk.{Row}
use Rattle.tcc_base.specs.Settings.{Settings, IsAllowed}
use Rattle.tcc_words.specs.Asked.{HasSettings, IsFaulty}
use Rattle.tcc_words.specs.Fields.{Allows, AllowsIn, BreaksFirst, machine_fields}
use Rattle.tcc_words.specs.declared.command.Field.{Field}
use Rattle.tcc_words.specs.declared.command.Field.TheVariants.{Cores, Dirs, Sets, Ways, Ram, Base}
use Rattle.tcc_words.specs.declared.command.Verb.{Verb}

-- what stands in all of these fields is allowed
abbrev pub AllowsAll : Verb → List Row → List Field → Type 0
AllowsAll verb rows [] = Unit {0}
AllowsAll verb rows (f ∷ fields) = AllowsIn verb rows f × AllowsAll verb rows fields

after : (verb : Verb) (rows : List Row) (before later : List Field) (field : Field) → AllowsAll verb rows before
    → BreaksFirst (AllowsIn verb rows) later field → BreaksFirst (AllowsIn verb rows) (before ++ later) field
after verb rows [] later field a b = b
after verb rows (f ∷ before) later field a b = inr (a.0, after verb rows before later field a.1 b)

of_machine : (verb : Verb) (rows : List Row) (s : Settings) → HasSettings rows s → IsAllowed s → AllowsAll verb rows machine_fields
of_machine verb rows s h a =
    let cores : Allows rows Cores = (s.cores, h.cores, a.0.0, a.0.1) in
    let dirs : Allows rows Dirs = (s.dirs, h.dirs, a.1.0, a.1.1) in
    let sets : Allows rows Sets = (s.sets, h.sets, a.2.0, a.2.1) in
    let ways : Allows rows Ways = (s.ways, h.ways, a.3.0, a.3.1) in
    let ram : Allows rows Ram = (s.ram, h.ram, a.4.0, a.4.1, a.4.2) in
    let base : Allows rows Base = (s.base, s.ram, h.base, h.ram, a.5.0, a.5.1) in
    (cores, (dirs, (sets, (ways, (ram, (base, tt))))))

-- the machine's settings are allowed, and the fields between them and the faulty one
pub is_first : (verb : Verb) (rows : List Row) (s : Settings) (before later : List Field) (f field : Field) → HasSettings rows s
    → IsAllowed s → AllowsAll verb rows before → IsFaulty (AllowsIn verb rows) f field
    → BreaksFirst (AllowsIn verb rows) (machine_fields ++ (before ++ f ∷ later)) field
is_first verb rows s before later f field h a between faulty =
    after verb rows machine_fields (before ++ f ∷ later) field (of_machine verb rows s h a)
    (after verb rows before (f ∷ later) field between (inl faulty))
