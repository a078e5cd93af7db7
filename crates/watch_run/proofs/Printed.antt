-- What commits print, event by event.
use Rattle.std.proofs.Common.{◌≡◌, ℕ, suc, ◌+◌, ◌≤◌, List, [], ◌∷◌, ◌++◌, length, append-nil, append_assoc, Option, Some, None}
use Rattle.std.proofs.Common.{refl, ap, sym, subst, ◌∙◌, arith}
use Rattle.std.proofs.lemmas.List.Concat.{flat_map-append}
use Rattle.std.specs.Io.KnownBytes.{Appends}
use Rattle.std.specs.List.{flat_map}
use Rattle.base_lemmas.proofs.Lemmas.{appends-more, appends-none}
use Rattle.image_load.specs.Contents.{Contents, started}
use Rattle.image_load.specs.Start.{Start}
use Rattle.rv_code.specs.Machine.{program}
use Rattle.tcc_base.specs.declared.access.Commit.{Commit}
use Rattle.tcc_world.specs.Page.{Page}
use Rattle.rules_maps.specs.Nodes.{Event}
use Rattle.rules_maps.specs.Shape.{Shape}
use Rattle.rules_program.specs.Program.{Program}
use Rattle.rules_riscv.specs.Starting.{at_start, world_at_start}
use Rattle.rules_tcc.specs.State.{World}
use Rattle.rules_tcc.specs.Step.{History, Stepped, and_noted, and_then, next_history, recorded, run, run_from, step}
use Rattle.net_core.specs.Answers.{step_of}
use Rattle.net_core.specs.Machine.{Machine, history_of, program_of, settings_of, start_of, world_of}
use Rattle.watch_count.specs.Counts.{Counts}
use Rattle.watch_machine.specs.Watched.{noted_by}
use Rattle.watch_run.specs.Consoles.{ConsolesJoin, if_noted, if_stepped, noted_from, noted_of, noted_text, noted_then, printed_from}
use Rattle.watch_run.specs.Consoles.{printed_line}
use Rattle.watch_run.specs.Forgetting.{StillKeeps}
use Rattle.watch_run.specs.Going.{Took}
use Rattle.watch_run.specs.Looked.{HasCounted}
use Rattle.watch_run.specs.Meanwhile.{IsFurtherStopped, IsFurtherText}
use Rattle.watch_run.specs.Tables.{IsCutIn, IsStoppedIn}
use Rattle.watch_run.specs.Written.{IsBehind, IsPart}
use Rattle.watch_run.specs.declared.meanwhile.Meanwhile.TheVariants.{Consoles}
use Rattle.watch_run.specs.declared.tracing.Broken.{Broken}
use Rattle.watch_run.specs.declared.tracing.Broken.TheVariants.{Memory}
use Rattle.watch_run.proofs.Tabled.{begun-all, begun-more, begun-part, cut-rises, cut-stops, further-stopped}
use Rattle.watch_run.proofs.Tallies.{Counting}

-- ---- the commits that events note

-- behind what the first events note comes what the others note
noted-join : (sh : Shape) (p : Program) (firsts more : List Event) (w : World)
    → noted_of sh p firsts w ++ noted_from sh p (length firsts) (firsts ++ more) w ≡ noted_of sh p (firsts ++ more) w
unfolding noted_of noted_from
noted-join sh p [] more w =
    let none : length {A = Event} [] ≡ 0 = omega arith in ap (λ n. noted_from sh p n more w) none
noted-join sh p (e ∷ firsts) more w =
    let one : length (e ∷ firsts) ≡ suc (length firsts) = omega arith in
    ap (λ n. noted_of sh p (e ∷ firsts) w ++ noted_from sh p n (e ∷ (firsts ++ more)) w) one
    ∙ go (step sh p w e) (λ v. noted-join sh p firsts more v)
  where
    then : (noted : Option Commit) (early late all : List Commit) → early ++ late ≡ all
        → noted_then noted early ++ late ≡ noted_then noted all
    then None early late all h = h
    then (Some c) early late all h = ap (λ cs. c ∷ cs) h

    go : (o : Option Stepped)
        → ((v : World) → noted_of sh p firsts v ++ noted_from sh p (length firsts) (firsts ++ more) v ≡ noted_of sh p (firsts ++ more) v)
        → if_noted (noted_of sh p firsts) o ++ if_stepped (noted_from sh p (length firsts) (firsts ++ more)) o
        ≡ if_noted (noted_of sh p (firsts ++ more)) o
    go None behind = refl
    go (Some o) behind = then o.noted (noted_of sh p firsts o.world) (noted_from sh p (length firsts) (firsts ++ more) o.world)
        (noted_of sh p (firsts ++ more) o.world) (behind o.world)

pub consoles-join : ConsolesJoin
unfolding printed_from noted_from
consoles-join s firsts more =
    sym (flat_map-append printed_line (noted_of s.settings (program s) firsts (world_at_start s))
    (noted_from s.settings (program s) (length firsts) (firsts ++ more) (world_at_start s)))
    ∙ ap (flat_map printed_line) (noted-join s.settings (program s) firsts more (world_at_start s))

-- where the first events led, the others note what they note in the whole run
noted-behind : (sh : Shape) (p : Program) (firsts more : List Event) (h k : History) → run_from sh p firsts h ≡ Some k
    → noted_from sh p (length firsts) (firsts ++ more) h.world ≡ noted_of sh p more k.world
unfolding run_from noted_from next_history
noted-behind sh p [] more h k r =
    let same : h ≡ k = cc in
    let none : length {A = Event} [] ≡ 0 = omega arith in
    ap (λ n. noted_from sh p n more h.world) none ∙ ap (λ x. noted_of sh p more x.world) same
noted-behind sh p (e ∷ firsts) more h k r =
    let one : length (e ∷ firsts) ≡ suc (length firsts) = omega arith in
    ap (λ n. noted_from sh p n (e ∷ (firsts ++ more)) h.world) one
    ∙ go (step sh p h.world e) (λ j q. noted-behind sh p firsts more j k q) r
  where
    rest : World → List Commit
    rest = noted_from sh p (length firsts) (firsts ++ more)

    go : (o : Option Stepped)
        → ((j : History) → run_from sh p firsts j ≡ Some k → rest j.world ≡ noted_of sh p more k.world)
        → and_then (run_from sh p firsts) (recorded h o) ≡ Some k → if_stepped rest o ≡ noted_of sh p more k.world
    go None behind q = absurd (cc)
    go (Some o) behind q = behind (record { world = o.world; commits = and_noted o.noted h.commits }) q

-- ---- on the machine

-- the commits that further events of a machine note
abbrev pub noted_here : Machine → List Event → List Commit
noted_here m es = noted_of (settings_of m) (program_of m) es (world_of m)

-- their lines are those of the whole run
lines-are : (c : Contents) (es more : List Event) (m : Machine) (counts : Counts) → HasCounted c es m counts
    → flat_map printed_line (noted_here m more) ≡ printed_from (length es) (started c) (es ++ more)
unfolding printed_from run history_of started
lines-are c es more m counts h =
    (λ i. flat_map printed_line (noted_of (h.code i).settings (program (started (h.code i))) more (h.kept.world i)))
    ∙ ap (flat_map printed_line)
    (sym (noted-behind c.settings (program (started c)) es more (at_start (started c)) h.ends h.ran))

-- what an event of a machine notes stands before what the later ones do
noted-one : (n o : Machine) (e : Event) (later : List Event) → Took n o e
    → noted_here n (e ∷ later) ≡ noted_then (noted_by (step_of n e)) (noted_here o later)
unfolding noted_of next_history history_of started
noted-one n o e later t = go (step_of n e) t.next
  where
    go : (x : Option Stepped) → recorded (history_of n) x ≡ Some (history_of o)
        → if_noted (noted_of (settings_of n) (program_of n) later) x ≡ noted_then (noted_by x) (noted_here o later)
    go None q = absurd (cc)
    go (Some x) q =
        let after : History = record { world = x.world; commits = and_noted x.noted (history_of n).commits } in
        let is : after ≡ history_of o = cc in
        let there : x.world ≡ world_of o = ap (λ h. h.world) is in
        λ i. noted_then x.noted (noted_of (sym t.code i).settings (program (started (sym t.code i))) later (there i))

then-split : (noted : Option Commit) (cs : List Commit) → noted_then noted cs ≡ noted_then noted [] ++ cs
then-split None cs = refl
then-split (Some c) cs = refl

then-lines : (noted : Option Commit) → flat_map printed_line (noted_then noted []) ≡ noted_text noted
then-lines None = refl
then-lines (Some c) = append-nil (printed_line c)

-- ---- in the loop

-- the first events were taken and counted, and what their commits print was written; the machine goes on from where they led
pub record Printing (m n : Machine) (before after : Counts) (all left : List Event) (number : ℕ) (p q : Page) : Type 0 where
  pub counting : Counting m n before after all left number
  pub firsts : List Event
  pub parts : all ≡ firsts ++ left
  pub along : (later : List Event) → noted_here m (firsts ++ later) ≡ noted_here m firsts ++ noted_here n later
  pub written : Appends p.bytes q.bytes (flat_map printed_line (noted_here m firsts))
  pub faults_stay : p.faults ≤ q.faults

pub printing-none : (m : Machine) (counts : Counts) (all : List Event) (p : Page) → Counting m m counts counts all all 0
    → Printing m m counts counts all all 0 p p
unfolding noted_of
printing-none m counts all p k = record {
  counting = k;
  firsts = [];
  parts = refl;
  along = λ later. refl;
  written = appends-none p.bytes;
  faults_stay = omega arith;
}

-- what is noted of the events so far and the next one
noted-next : (m n o : Machine) (before after : Counts) (all left : List Event) (number : ℕ) (p q : Page) (e : Event) (later : List Event)
    → (t : Printing m n before after all left number p q) → Took n o e
    → noted_here m (t.firsts ++ e ∷ later)
    ≡ (noted_here m t.firsts ++ noted_then (noted_by (step_of n e)) []) ++ noted_here o later
noted-next m n o before after all left number p q e later t took =
    t.along (e ∷ later)
    ∙ ap (λ cs. noted_here m t.firsts ++ cs)
    (noted-one n o e later took ∙ then-split (noted_by (step_of n e)) (noted_here o later))
    ∙ sym (append_assoc (noted_here m t.firsts) (noted_then (noted_by (step_of n e)) []) (noted_here o later))

noted-last : (m n o : Machine) (before after : Counts) (all left : List Event) (number : ℕ) (p q : Page) (e : Event)
    → (t : Printing m n before after all left number p q) → Took n o e
    → noted_here m (t.firsts ++ e ∷ []) ≡ noted_here m t.firsts ++ noted_then (noted_by (step_of n e)) []
unfolding noted_of
noted-last m n o before after all left number p q e t took =
    noted-next m n o before after all left number p q e [] t took
    ∙ append-nil (noted_here m t.firsts ++ noted_then (noted_by (step_of n e)) [])

lines-next : (m n : Machine) (e : Event) (firsts : List Event)
    → flat_map printed_line (noted_here m firsts ++ noted_then (noted_by (step_of n e)) [])
    ≡ flat_map printed_line (noted_here m firsts) ++ noted_text (noted_by (step_of n e))
lines-next m n e firsts =
    flat_map-append printed_line (noted_here m firsts) (noted_then (noted_by (step_of n e)) [])
    ∙ ap (λ xs. flat_map printed_line (noted_here m firsts) ++ xs) (then-lines (noted_by (step_of n e)))

pub printing-more : (m n o u : Machine) (before now after : Counts) (all left : List Event) (coming : Start → World → List Event)
    (number : ℕ) (e : Event) (noted : Option Commit) (p q r : Page) → Printing m n before now all left number p q
    → left ≡ e ∷ coming (start_of o) (world_of o) → Took n o e → noted ≡ noted_by (step_of n e)
    → Appends q.bytes r.bytes (noted_text noted) → q.faults ≤ r.faults → StillKeeps o u
    → Counting m u before after all (coming (start_of u) (world_of u)) (number + 1)
    → Printing m u before after all (coming (start_of u) (world_of u)) (number + 1) p r
unfolding started
printing-more m n o u before now after all left coming number e noted p q r t l took is a f keeps k = record {
  counting = k;
  firsts = t.firsts ++ e ∷ [];
  parts = t.parts
      ∙ ap (λ es. t.firsts ++ es) (l ∙ (λ i. e ∷ coming (started (sym keeps.code i)) (sym keeps.world i)))
      ∙ sym (append_assoc t.firsts (e ∷ []) (coming (start_of u) (world_of u)));
  along = λ later.
      ap (noted_here m) (append_assoc t.firsts (e ∷ []) later)
      ∙ noted-next m n o before now all left number p q e later t took
      ∙ (λ i. sym (noted-last m n o before now all left number p q e t took) i ++ same later i);
  written = subst (Appends p.bytes r.bytes)
      (sym (ap (flat_map printed_line) (noted-last m n o before now all left number p q e t took) ∙ lines-next m n e t.firsts))
      (appends-more p.bytes q.bytes r.bytes (flat_map printed_line (noted_here m t.firsts)) (noted_text (noted_by (step_of n e))) t.written
      (subst (λ x. Appends q.bytes r.bytes (noted_text x)) is a));
  faults_stay = let stay = t.faults_stay in omega (arith, stay, f);
}
  where
    same : (later : List Event) → noted_here o later ≡ noted_here u later
    same later =
        λ i. noted_of (sym keeps.code i).settings (program (started (sym keeps.code i))) later (sym keeps.world i)

-- all was written
pub printing-all : (m n : Machine) (before after : Counts) (all left : List Event) (number : ℕ) (p q : Page)
    → Printing m n before after all left number p q → left ≡ [] → IsBehind (IsFurtherText Consoles m before all) p.bytes q.bytes
printing-all m n before after all left number p q t l =
    let firsts : t.firsts ≡ all = sym (t.parts ∙ ap (λ es. t.firsts ++ es) l ∙ append-nil t.firsts) in
    record {
      text = flat_map printed_line (noted_here m all);
      is = λ c es h. lines-are c es all m before h;
      whole = subst (λ es. Appends p.bytes q.bytes (flat_map printed_line (noted_here m es))) firsts t.written;
    }

-- memory ran out for the next event
pub printing-part : (m n : Machine) (before after : Counts) (all left : List Event) (number : ℕ) (p q : Page)
    → Printing m n before after all left number p q
    → IsFurtherStopped Consoles m before all (record { before = p; after = q }) Memory
printing-part m n before after all left number p q t = λ c es h.
    let so_far = flat_map printed_line (noted_here m t.firsts) in
    let others = flat_map printed_line (noted_here n left) in
    let is : flat_map printed_line (noted_here m all) ≡ so_far ++ others =
    ap (λ xs. flat_map printed_line (noted_here m xs)) t.parts ∙ ap (flat_map printed_line) (t.along left)
    ∙ flat_map-append printed_line (noted_here m t.firsts) (noted_here n left) in
    subst (λ xs. IsPart xs p.bytes q.bytes) (sym is ∙ lines-are c es all m before h)
    (begun-part (begun-more so_far others p.bytes q.bytes (begun-all so_far p.bytes q.bytes t.written)))

-- the output failed, or memory ran out, for what its commit printed
pub printing-cut : (m n o : Machine) (before after : Counts) (all left : List Event) (coming : Start → World → List Event) (number : ℕ)
    (e : Event) (noted : Option Commit) (p q r : Page) (broken : Broken) → Printing m n before after all left number p q
    → left ≡ e ∷ coming (start_of o) (world_of o) → Took n o e → noted ≡ noted_by (step_of n e)
    → IsCutIn (noted_text noted) (record { before = q; after = r }) broken
    → IsFurtherStopped Consoles m before all (record { before = p; after = r }) broken
printing-cut m n o before after all left coming number e noted p q r broken t l took is cut =
    further-stopped Consoles m before all p r broken (λ c es h.
    let later = coming (start_of o) (world_of o) in
    let so_far = flat_map printed_line (noted_here m t.firsts) in
    let others = flat_map printed_line (noted_here o later) in
    let text = noted_text (noted_by (step_of n e)) in
    let all_is : flat_map printed_line (noted_here m all) ≡ so_far ++ (text ++ others) =
    ap (λ xs. flat_map printed_line (noted_here m xs)) (t.parts ∙ ap (λ xs. t.firsts ++ xs) l)
    ∙ ap (flat_map printed_line) (noted-next m n o before after all left number p q e later t took)
    ∙ flat_map-append printed_line (noted_here m t.firsts ++ noted_then (noted_by (step_of n e)) []) (noted_here o later)
    ∙ ap (λ xs. xs ++ others) (lines-next m n e t.firsts)
    ∙ append_assoc so_far text others in
    subst (λ xs. IsStoppedIn xs (record { before = p; after = r }) broken) (sym all_is ∙ lines-are c es all m before h)
    (cut-stops so_far text others p q r broken t.written t.faults_stay
    (subst (λ x. IsCutIn (noted_text x) (record { before = q; after = r }) broken) is cut)))
    (cut-rises (noted_text noted) p q r broken t.faults_stay cut)
