-- A table, row by row.
use Rattle.std.proofs.Common.{◌≡◌, ℕ, zero, suc, ◌+◌, ◌<◌, ◌≤◌, ◌==◌, ◌&&◌, ◌↔◌, Bool, true, false}
use Rattle.std.proofs.Common.{cond, IsTrue, List, [], ◌∷◌, ◌++◌, length}
use Rattle.std.proofs.Common.{append-nil, append_assoc, length-append, Option, if◌then◌else◌, inl, inr, refl, ap, sym, subst, ◌∙◌, arith}
use Rattle.std.proofs.Common.{take, drop, take-append-drop}
use Rattle.std.specs.Prelude.{nat_le}
use Rattle.std.proofs.Math.Seq.{take-append_seam, take-append-add}
use Rattle.std.proofs.lemmas.Bool.Decides.{nat_tests}
use Rattle.std.proofs.lemmas.List.Concat.{flat_map-append}
use Rattle.std.specs.Io.KnownBytes.{Appends}
use Rattle.std.specs.List.{flat_map}
use Rattle.base_lemmas.proofs.Lemmas.{appends-more, appends-none}
use Rattle.image_load.specs.Contents.{Contents, started}
use Rattle.image_load.specs.Start.{Start}
use Rattle.tcc_base.specs.Settings.{IsAllowed}
use Rattle.tcc_world.specs.Faults.{Rose}
use Rattle.tcc_world.specs.Page.{Page, Written}
use Rattle.rules_maps.specs.Nodes.{Event}
use Rattle.rules_maps.specs.Words.{those}
use Rattle.rules_tcc.specs.Seen.{IsDone}
use Rattle.net_core.specs.Machine.{Machine, settings_of, world_of}
use Rattle.watch_count.specs.Counts.{Counts}
use Rattle.watch_count.specs.Csv.{csv_row, names_row}
use Rattle.watch_run.specs.Looked.{HasCounted}
use Rattle.watch_run.specs.Meanwhile.{IsFurtherStopped, IsFurtherText, meanwhile_text}
use Rattle.watch_run.specs.Tables.{IsCutIn, IsStoppedIn, IsTableBegun, IsTableBroken, IsTabled, is_due}
use Rattle.watch_run.specs.Tables.{open_rest, open_table, row_of, rows_below, rows_between, table_text}
use Rattle.watch_run.specs.Written.{IsBehind, IsPart}
use Rattle.watch_run.specs.declared.meanwhile.Meanwhile.{Meanwhile}
use Rattle.watch_run.specs.declared.meanwhile.Meanwhile.TheVariants.{Rows as RowsOf}
use Rattle.watch_run.specs.declared.tabling.Rows.{Rows}
use Rattle.watch_run.specs.declared.tracing.Broken.{Broken}
use Rattle.watch_run.specs.declared.tracing.Broken.TheVariants.{Memory, Output}
use Rattle.watch_run.proofs.Leading.{leads-counted}
use Rattle.watch_run.proofs.Tallies.{Counting, counting-few}
use Rattle.watch_run.proofs.Traced.{rose-later}

-- ---- a first part of some bytes was written

pub record Begun (bytes : List ℕ) (before after : Option (List ℕ)) : Type 0 where
  pub written : List ℕ
  pub rest : List ℕ
  pub all : bytes ≡ written ++ rest
  pub appended : Appends before after written

pub begun-part : {bytes : List ℕ} {a b : Option (List ℕ)} → Begun bytes a b → IsPart bytes a b
begun-part {bytes} {a} {b} p =
    (length p.written, subst (Appends a b) (sym (ap (take (length p.written)) p.all ∙ take-append_seam p.written p.rest)) p.appended)

pub begun-all : (bytes : List ℕ) (a b : Option (List ℕ)) → Appends a b bytes → Begun bytes a b
begun-all bytes a b p = record { written = bytes; rest = []; all = sym (append-nil bytes); appended = p }

begun-cut : (bytes : List ℕ) (n : ℕ) (a b : Option (List ℕ)) → Appends a b (take n bytes) → Begun bytes a b
begun-cut bytes n a b p =
    record { written = take n bytes; rest = drop n bytes; all = sym (take-append-drop n bytes); appended = p }

-- nothing was written
pub begun-none : (bytes : List ℕ) (a b : Option (List ℕ)) → b ≡ a → Begun bytes a b
begun-none bytes a b e = record { written = []; rest = bytes; all = refl; appended = subst (λ o. Appends a o []) (sym e) (appends-none a) }

-- it is one of more bytes too
pub begun-more : (xs ys : List ℕ) (a b : Option (List ℕ)) → Begun xs a b → Begun (xs ++ ys) a b
begun-more xs ys a b p = record {
  written = p.written;
  rest = p.rest ++ ys;
  all = ap (λ zs. zs ++ ys) p.all ∙ append_assoc p.written p.rest ys;
  appended = p.appended;
}

begun-after : (xs ys : List ℕ) (a b c : Option (List ℕ)) → Appends a b xs → Begun ys b c → Begun (xs ++ ys) a c
begun-after xs ys a b c p q = record {
  written = xs ++ q.written;
  rest = q.rest;
  all = ap (λ zs. xs ++ zs) q.all ∙ sym (append_assoc xs q.written q.rest);
  appended = appends-more a b c xs q.written p q.appended;
}

-- why it broke off, behind bytes that were written whole and before others
pub cut-stops : (xs ys zs : List ℕ) (a b c : Page) (broken : Broken) → Appends a.bytes b.bytes xs → a.faults ≤ b.faults
    → IsCutIn ys (record { before = b; after = c }) broken → IsStoppedIn (xs ++ (ys ++ zs)) (record { before = a; after = c }) broken
cut-stops xs ys zs a b c Memory p f k =
    begun-part (begun-after xs (ys ++ zs) a.bytes b.bytes c.bytes p (begun-none (ys ++ zs) b.bytes c.bytes k))
cut-stops xs ys zs a b c Output p f (cut, rose) = (
  begun-part (begun-after xs (ys ++ zs) a.bytes b.bytes c.bytes p
      (begun-more ys zs b.bytes c.bytes (begun-cut ys cut.0 b.bytes c.bytes cut.2))),
  rose-later a.faults b.faults c.faults f rose,
)

-- where the output failed its count of faults rose
abbrev Rises : Page → Page → Broken → Type 0
Rises p q Memory = Unit {0}
Rises p q Output = Rose p.faults q.faults

pub cut-rises : (bytes : List ℕ) (p q r : Page) (broken : Broken) → p.faults ≤ q.faults
    → IsCutIn bytes (record { before = q; after = r }) broken → Rises p r broken
cut-rises bytes p q r Memory f k = tt
cut-rises bytes p q r Output f (cut, rose) = rose-later p.faults q.faults r.faults f rose

pub further-stopped : (told : Meanwhile) (m : Machine) (counts : Counts) (more : List Event) (p r : Page) (broken : Broken)
    → ((c : Contents) (es : List Event) → HasCounted c es m counts
    → IsStoppedIn (meanwhile_text told (length es) (started c) (es ++ more)) (record { before = p; after = r }) broken)
    → Rises p r broken → IsFurtherStopped told m counts more (record { before = p; after = r }) broken
further-stopped told m counts more p r Memory f rise = f
further-stopped told m counts more p r Output f rose = (λ c es h. (f c es h).0, rose)

-- ---- the rows

those-none : (p : ℕ → Bool) (n : ℕ) → ((k : ℕ) → k < n → p k ≡ false) → those p n ≡ []
unfolding those
those-none p zero f = refl
those-none p (suc n) f =
    (λ i. those-none p n (λ k h. f k (omega (arith, h))) i ++ cond (f n (omega arith) i) (n ∷ []) [])

rows-none : (rows : Rows) (s : Start) (es : List Event) (first : ℕ) → rows_between rows s es first first ≡ []
unfolding rows_between
rows-none rows s es first =
    ap (flat_map (λ k. row_of rows s false (take k es))) (those-none (λ k. nat_le first k && is_due rows k) first later)
  where
    later : (k : ℕ) → k < first → (nat_le first k && is_due rows k) ≡ false
    later k h = let no : nat_le first k ≡ false = grind (arith, nat_tests) in ap (λ b. b && is_due rows k) no

-- the row after so many events, where there is one
abbrev pub due_row : Rows → Start → List Event → (first n : ℕ) → List ℕ
due_row rows s es first n = if nat_le first n && is_due rows n then row_of rows s false (take n es) else []

rows-more : (rows : Rows) (s : Start) (es : List Event) (first n : ℕ)
    → rows_between rows s es first (suc n) ≡ rows_between rows s es first n ++ due_row rows s es first n
unfolding rows_between those
rows-more rows s es first n =
    flat_map-append row (those due n) (cond (due n) (n ∷ []) [])
    ∙ ap (λ xs. flat_map row (those due n) ++ xs) (go (due n))
  where
    row : ℕ → List ℕ
    row k = row_of rows s false (take k es)

    due : ℕ → Bool
    due k = nat_le first k && is_due rows k

    go : (b : Bool) → flat_map row (cond b (n ∷ []) []) ≡ (if b then row n else [])
    go true = append-nil (row n)
    go false = refl

-- the rows after fewer events are the first ones
rows-first : (rows : Rows) (s : Start) (es : List Event) (first n m : ℕ) → n ≤ m
    → (more : List ℕ) × (rows_between rows s es first m ≡ rows_between rows s es first n ++ more)
rows-first rows s es first n zero h =
    let same : n ≡ 0 = omega (arith, h) in
    ([], ap (rows_between rows s es first) (sym same) ∙ sym (append-nil (rows_between rows s es first n)))
rows-first rows s es first n (suc m) h = go (n == suc m) refl (rows-first rows s es first n m)
  where
    go : (b : Bool) → (n == suc m) ≡ b
        → (n ≤ m → (more : List ℕ) × (rows_between rows s es first m ≡ rows_between rows s es first n ++ more))
        → (more : List ℕ) × (rows_between rows s es first (suc m) ≡ rows_between rows s es first n ++ more)
    go true q f =
        let same : n ≡ suc m = grind (arith, nat_tests) in
        ([], ap (rows_between rows s es first) (sym same) ∙ sym (append-nil (rows_between rows s es first n)))
    go false q f =
        let less : n ≤ m = grind (arith, nat_tests) in
        let (more, e) = f less in (
          more ++ due_row rows s es first m,
          rows-more rows s es first m ∙ ap (λ xs. xs ++ due_row rows s es first m) e
              ∙ append_assoc (rows_between rows s es first n) more (due_row rows s es first m),
        )

-- from the first event on they are those of the whole
pub rows-whole : (rows : Rows) (s : Start) (es : List Event) → open_rest rows s es 0 ≡ rows_below rows s es (length es)
unfolding open_rest rows_between rows_below
rows-whole rows s es =
    λ i. flat_map (λ k. row_of rows s false (take k es)) (those (λ k. all k i && is_due rows k) (length es))
  where
    all : (k : ℕ) → nat_le 0 k ≡ true
    all k = grind (arith, nat_tests)

pub below-more : (rows : Rows) (s : Start) (es : List Event) (n : ℕ)
    → rows_below rows s es (suc n) ≡ rows_below rows s es n ++ (if is_due rows n then row_of rows s false (take n es) else [])
unfolding rows_below those
below-more rows s es n =
    flat_map-append row (those (is_due rows) n) (cond (is_due rows n) (n ∷ []) [])
    ∙ ap (λ xs. flat_map row (those (is_due rows) n) ++ xs) (go (is_due rows n))
  where
    row : ℕ → List ℕ
    row k = row_of rows s false (take k es)

    go : (b : Bool) → flat_map row (cond b (n ∷ []) []) ≡ (if b then row n else [])
    go true = append-nil (row n)
    go false = refl

-- those below so many events, and those from there on
pub rows-join : (rows : Rows) (s : Start) (es : List Event) (first d : ℕ)
    → rows_below rows s es first ++ rows_between rows s es first (first + d) ≡ rows_below rows s es (first + d)
rows-join rows s es first zero =
    let none : first + 0 ≡ first = omega arith in
    ap (λ n. rows_below rows s es first ++ rows_between rows s es first n) none
    ∙ ap (λ xs. rows_below rows s es first ++ xs) (rows-none rows s es first)
    ∙ append-nil (rows_below rows s es first)
    ∙ ap (rows_below rows s es) (sym none)
rows-join rows s es first (suc d) =
    let one : first + suc d ≡ suc (first + d) = omega arith in
    ap (λ n. rows_below rows s es first ++ rows_between rows s es first n) one
    ∙ ap (λ xs. rows_below rows s es first ++ xs) (rows-more rows s es first (first + d))
    ∙ sym (append_assoc (rows_below rows s es first) (rows_between rows s es first (first + d)) (due_row rows s es first (first + d)))
    ∙ (λ i. rows-join rows s es first d i ++ due (is i))
    ∙ sym (below-more rows s es (first + d))
    ∙ ap (rows_below rows s es) (sym one)
  where
    is : nat_le first (first + d) ≡ true
    is = grind (arith, nat_tests)

    due : Bool → List ℕ
    due b = if b && is_due rows (first + d) then row_of rows s false (take (first + d) es) else []

-- ---- in the loop

-- the events so far were taken and counted, and the rows that stand before the next of them were written, whatever events had led to the
-- first machine and were counted
pub record Tabling (rows : Rows) (m n : Machine) (before after : Counts) (all left : List Event) (number : ℕ) (p q : Page) : Type 0 where
  pub counting : Counting m n before after all left number
  pub text : List ℕ
  pub is : (c : Contents) (es : List Event) → HasCounted c es m before
      → text ≡ rows_between rows (started c) (es ++ all) (length es) (length es + number)
  pub written : Appends p.bytes q.bytes text
  pub faults_stay : p.faults ≤ q.faults

pub tabling-none : (rows : Rows) (m : Machine) (counts : Counts) (all : List Event) (p : Page)
    → Counting m m counts counts all all 0 → Tabling rows m m counts counts all all 0 p p
tabling-none rows m counts all p k = record {
  counting = k;
  text = [];
  is = λ c es h.
      let none : length es + 0 ≡ length es = omega arith in
      sym (ap (rows_between rows (started c) (es ++ all) (length es)) none ∙ rows-none rows (started c) (es ++ all) (length es));
  written = appends-none p.bytes;
  faults_stay = omega arith;
}

-- the row of what was counted is that of the events so far
pub row-is : (c : Contents) (rows : Rows) (m : Machine) (counts : Counts) (es : List Event) (done : Bool) → HasCounted c es m counts
    → csv_row (settings_of m) rows.seed done m.events counts ≡ row_of rows (started c) done es
unfolding started
row-is c rows m counts es done h = λ i. csv_row (h.code i).settings rows.seed done (h.events i) (h.counted i)

-- the row that the machine writes where one is due
abbrev pub row_now : Rows → Machine → Counts → List ℕ
row_now rows m counts = if is_due rows m.events then csv_row (settings_of m) rows.seed false m.events counts else []

due-is : (c : Contents) (es : List Event) (rows : Rows) (m n : Machine) (before after : Counts) (all left : List Event) (number : ℕ)
    → HasCounted c es m before → Counting m n before after all left number
    → row_now rows n after ≡ due_row rows (started c) (es ++ all) (length es) (length es + number)
due-is c es rows m n before after all left number h k =
    (λ i. if is_due rows (so_many i) then row-is c rows n after (es ++ k.firsts) false so_far i else [])
    ∙ (λ i. if sym later i && is_due rows (length es + number) then row_of rows (started c) false (sym firsts i) else [])
  where
    so_far : HasCounted c (es ++ k.firsts) n after
    so_far = k.so_far.counted c es h

    so_many : n.events ≡ length es + number
    so_many = so_far.events ∙ length-append es k.firsts ∙ ap (λ l. length es + l) k.count

    later : nat_le (length es) (length es + number) ≡ true
    later = grind (arith, nat_tests)

    firsts : take (length es + number) (es ++ all) ≡ es ++ k.firsts
    firsts = take-append-add es all number
        ∙ ap (λ fs. es ++ fs) ((λ i. take (sym k.count i) (k.parts i)) ∙ take-append_seam k.firsts left)

-- with the row that came stand all rows before the next event but one
rows-now : (c : Contents) (es : List Event) (rows : Rows) (m n : Machine) (before after : Counts) (all left : List Event) (number : ℕ)
    (p q : Page) → HasCounted c es m before → (t : Tabling rows m n before after all left number p q)
    → t.text ++ row_now rows n after ≡ rows_between rows (started c) (es ++ all) (length es) (length es + (number + 1))
rows-now c es rows m n before after all left number p q h t =
    let one : length es + (number + 1) ≡ suc (length es + number) = omega arith in
    (λ i. t.is c es h i ++ due-is c es rows m n before after all left number h t.counting i)
    ∙ sym (ap (rows_between rows (started c) (es ++ all) (length es)) one
    ∙ rows-more rows (started c) (es ++ all) (length es) (length es + number))

pub tabling-more : (rows : Rows) (m n o : Machine) (before now after : Counts) (all left later : List Event) (number : ℕ)
    (p q r : Page) → Tabling rows m n before now all left number p q → Appends q.bytes r.bytes (row_now rows n now)
    → q.faults ≤ r.faults → Counting m o before after all later (number + 1) → Tabling rows m o before after all later (number + 1) p r
tabling-more rows m n o before now after all left later number p q r t a f k = record {
  counting = k;
  text = t.text ++ row_now rows n now;
  is = λ c es h. rows-now c es rows m n before now all left number p q h t;
  written = appends-more p.bytes q.bytes r.bytes t.text (row_now rows n now) t.written a;
  faults_stay = let stay = t.faults_stay in omega (arith, stay, f);
}

-- the rows of all events are those before the next ones, and others
rows-then : (c : Contents) (es : List Event) (rows : Rows) (all : List Event) (number : ℕ) → number ≤ length all
    → (more : List ℕ) × (open_rest rows (started c) (es ++ all) (length es)
    ≡ rows_between rows (started c) (es ++ all) (length es) (length es + number) ++ more)
unfolding open_rest
rows-then c es rows all number h =
    let sum = length-append es all in
    rows-first rows (started c) (es ++ all) (length es) (length es + number) (length (es ++ all)) (omega (arith, sum, h))

-- the output failed, or memory ran out for the row that was due
pub tabling-cut : (rows : Rows) (m n : Machine) (before after : Counts) (all left : List Event) (number : ℕ) (p q r : Page)
    (broken : Broken) → Tabling rows m n before after all left number p q → 1 ≤ length left
    → IsCutIn (row_now rows n after) (record { before = q; after = r }) broken
    → IsFurtherStopped (RowsOf rows) m before all (record { before = p; after = r }) broken
tabling-cut rows m n before after all left number p q r broken t some cut =
    further-stopped (RowsOf rows) m before all p r broken (λ c es h.
    let few = counting-few m n before after all left number t.counting some in
    let (others, parts) = rows-then c es rows all (number + 1) (omega (arith, few)) in
    let so_far = rows_between rows (started c) (es ++ all) (length es) (length es + number) in
    let one : length es + (number + 1) ≡ suc (length es + number) = omega arith in
    subst (λ xs. IsStoppedIn xs (record { before = p; after = r }) broken)
    (sym (parts ∙ ap (λ xs. xs ++ others) (ap (rows_between rows (started c) (es ++ all) (length es)) one
    ∙ rows-more rows (started c) (es ++ all) (length es) (length es + number)
    ∙ ap (λ xs. so_far ++ xs) (sym (due-is c es rows m n before after all left number h t.counting)))
    ∙ append_assoc so_far (row_now rows n after) others))
    (cut-stops so_far (row_now rows n after) others p q r broken (subst (Appends p.bytes q.bytes) (t.is c es h) t.written) t.faults_stay
    cut))
    (cut-rises (row_now rows n after) p q r broken t.faults_stay cut)

-- memory ran out for the event
pub tabling-part : (rows : Rows) (m n : Machine) (before after : Counts) (all left : List Event) (number : ℕ) (p q r : Page)
    → Tabling rows m n before after all left number p q → 1 ≤ length left → Appends q.bytes r.bytes (row_now rows n after)
    → IsFurtherStopped (RowsOf rows) m before all (record { before = p; after = r }) Memory
tabling-part rows m n before after all left number p q r t some a = λ c es h.
    let few = counting-few m n before after all left number t.counting some in
    let (others, parts) = rows-then c es rows all (number + 1) (omega (arith, few)) in
    let so_far = rows_between rows (started c) (es ++ all) (length es) (length es + (number + 1)) in
    begun-part (subst (λ xs. Begun xs p.bytes r.bytes) (sym parts)
    (begun-more so_far others p.bytes r.bytes
    (begun-all so_far p.bytes r.bytes (subst (Appends p.bytes r.bytes) (rows-now c es rows m n before after all left number p q h t)
    (appends-more p.bytes q.bytes r.bytes t.text (row_now rows n after) t.written a)))))

-- all rows but the last were written
pub tabling-all : (rows : Rows) (m n : Machine) (before after : Counts) (all left : List Event) (number : ℕ) (p q : Page)
    → Tabling rows m n before after all left number p q → left ≡ []
    → IsBehind (IsFurtherText (RowsOf rows) m before all) p.bytes q.bytes
unfolding open_rest
tabling-all rows m n before after all left number p q t l = record {
  text = t.text;
  is = λ c es h.
      let k = t.counting in
      let so_many = k.count in
      let none = ap length l in
      let sum = ap length k.parts ∙ length-append k.firsts left in
      let whole = length-append es all in
      let end : length es + number ≡ length (es ++ all) = omega (arith, so_many, none, sum, whole) in
      t.is c es h ∙ ap (rows_between rows (started c) (es ++ all) (length es)) end;
  whole = t.written;
}

-- ---- from the start

pub rows-written : (c : Contents) (rows : Rows) (m : Machine) (counts : Counts) (all : List Event) (a b : Option (List ℕ))
    → HasCounted c [] m counts → IsBehind (IsFurtherText (RowsOf rows) m counts all) a b
    → Appends a b (rows_below rows (started c) all (length all))
rows-written c rows m counts all a b h w = subst (Appends a b) (w.is c [] h ∙ rows-whole rows (started c) all) w.whole

pub rows-stopped : (c : Contents) (rows : Rows) (m : Machine) (counts : Counts) (all : List Event) (o : Written) (broken : Broken)
    → HasCounted c [] m counts → IsFurtherStopped (RowsOf rows) m counts all o broken
    → IsStoppedIn (rows_below rows (started c) all (length all)) o broken
rows-stopped c rows m counts all o Memory h w =
    subst (λ xs. IsPart xs o.before.bytes o.after.bytes) (rows-whole rows (started c) all) (w c [] h)
rows-stopped c rows m counts all o Output h w =
    (subst (λ xs. IsPart xs o.before.bytes o.after.bytes) (rows-whole rows (started c) all) (w.0 c [] h), w.1)

-- ---- the whole table

pub table-names-cut : (rows : Rows) (s : Start) (es : List Event) (a b : Page) (broken : Broken)
    → IsCutIn names_row (record { before = a; after = b }) broken
    → IsTableBroken rows s es (record { before = a; after = b }) broken
unfolding open_table
table-names-cut rows s es a b Memory k =
    begun-part (begun-none (open_table rows s es) a.bytes b.bytes k)
table-names-cut rows s es a b Output (cut, rose) = (
  inl (begun-part (begun-more names_row (rows_below rows s es (length es)) a.bytes b.bytes
      (begun-cut names_row cut.0 a.bytes b.bytes cut.2))),
  rose,
)

-- a first part behind bytes that were written whole
pub part-after : (xs ys : List ℕ) (a b c : Option (List ℕ)) → Appends a b xs → IsPart ys b c → IsPart (xs ++ ys) a c
part-after xs ys a b c p (n, q) = begun-part (begun-after xs ys a b c p (begun-cut ys n b c q))

pub table-stopped : (rows : Rows) (s : Start) (es : List Event) (a b c : Page) (broken : Broken) → Appends a.bytes b.bytes names_row
    → a.faults ≤ b.faults → IsStoppedIn (rows_below rows s es (length es)) (record { before = b; after = c }) broken
    → IsTableBroken rows s es (record { before = a; after = c }) broken
unfolding open_table
table-stopped rows s es a b c Memory p f k = part-after names_row (rows_below rows s es (length es)) a.bytes b.bytes c.bytes p k
table-stopped rows s es a b c Output p f (part, rose) = (
  inl (part-after names_row (rows_below rows s es (length es)) a.bytes b.bytes c.bytes p part),
  rose-later a.faults b.faults c.faults f rose,
)

-- all but the last row
pub table-open : (rows : Rows) (s : Start) (es : List Event) (a b c : Page) → Appends a.bytes b.bytes names_row
    → Appends b.bytes c.bytes (rows_below rows s es (length es)) → Appends a.bytes c.bytes (open_table rows s es)
unfolding open_table
table-open rows s es a b c p q = appends-more a.bytes b.bytes c.bytes names_row (rows_below rows s es (length es)) p q

pub table-last-cut : (c : Contents) (rows : Rows) (es : List Event) (m : Machine) (counts : Counts) (done : Bool) (p q r : Page)
    (broken : Broken) → IsAllowed c.settings → HasCounted c es m counts → Appends p.bytes q.bytes (open_table rows (started c) es)
    → p.faults ≤ q.faults → (IsTrue done ↔ IsDone (settings_of m) (world_of m))
    → IsCutIn (csv_row (settings_of m) rows.seed done m.events counts) (record { before = q; after = r }) broken
    → IsTableBroken rows (started c) es (record { before = p; after = r }) broken
unfolding table_text
table-last-cut c rows es m counts done p q r Memory allowed h a f is cut =
    begun-part (begun-all (open_table rows (started c) es) p.bytes r.bytes
    (subst (λ o. Appends p.bytes o (open_table rows (started c) es)) (sym cut) a))
table-last-cut c rows es m counts done p q r Output allowed h a f is (cut, rose) = (
  inr (record {
    done = done;
    ends = h.ends;
    leads = leads-counted c es m counts done allowed h is;
    n = length head + cut.0;
    short = let all = length-append head row in let k = cut.1 in let same = ap length is_row in omega (arith, all, k, same);
    cut = subst (Appends p.bytes r.bytes) (sym (take-append-add head row cut.0))
        (appends-more p.bytes q.bytes r.bytes head (take cut.0 row) a
        (subst (λ xs. Appends q.bytes r.bytes (take cut.0 xs)) is_row cut.2));
  }),
  rose-later p.faults q.faults r.faults f rose,
)
  where
    head : List ℕ
    head = open_table rows (started c) es

    row : List ℕ
    row = row_of rows (started c) done es

    is_row : csv_row (settings_of m) rows.seed done m.events counts ≡ row
    is_row = row-is c rows m counts es done h

pub table-whole : (c : Contents) (rows : Rows) (es : List Event) (m : Machine) (counts : Counts) (done : Bool) (p q r : Page)
    → IsAllowed c.settings → HasCounted c es m counts → Appends p.bytes q.bytes (open_table rows (started c) es)
    → (IsTrue done ↔ IsDone (settings_of m) (world_of m))
    → Appends q.bytes r.bytes (csv_row (settings_of m) rows.seed done m.events counts)
    → IsTabled rows (started c) es p.bytes r.bytes done
unfolding table_text
table-whole c rows es m counts done p q r allowed h a is b = record {
  ends = h.ends;
  leads = leads-counted c es m counts done allowed h is;
  whole = appends-more p.bytes q.bytes r.bytes (open_table rows (started c) es) (row_of rows (started c) done es) a
      (subst (Appends q.bytes r.bytes) (row-is c rows m counts es done h) b);
}

-- ---- from the machine at its start to what was loaded

pub table-there : (c : Contents) (rows : Rows) (es fs : List Event) (k : Contents) (a b : Option (List ℕ)) (done : Bool) → k ≡ c → es ≡ fs
    → IsTabled rows (started k) es a b done → IsTabled rows (started c) fs a b done
table-there c rows es fs k a b done e f t =
    subst (λ x. IsTabled rows (started x) fs a b done) e (subst (λ xs. IsTabled rows (started k) xs a b done) f t)

pub broken-there : (c : Contents) (rows : Rows) (es fs : List Event) (k : Contents) (o : Written) (broken : Broken) → k ≡ c → es ≡ fs
    → IsTableBroken rows (started k) es o broken → IsTableBroken rows (started c) fs o broken
broken-there c rows es fs k o broken e f t =
    subst (λ x. IsTableBroken rows (started x) fs o broken) e (subst (λ xs. IsTableBroken rows (started k) xs o broken) f t)

-- memory ran out before anything was written
pub table-none : (rows : Rows) (s : Start) (es : List Event) (a : Option (List ℕ)) → IsTableBegun rows s es a a
table-none rows s es a = begun-part (begun-none (open_table rows s es) a a refl)
