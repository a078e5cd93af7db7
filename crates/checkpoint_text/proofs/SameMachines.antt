-- Machines with the same text are in the same state.
use Rattle.std.proofs.Common.{◌≡◌, ℕ, All, Bool, true, false, cond, List, [], ◌∷◌, ◌++◌, codes, get_or, option_map, slice_get}
use Rattle.std.proofs.Common.{append-nil, refl, sym, ap, ◌∙◌, subst}
use Rattle.std.specs.List.{flat_map}
use Rattle.tcc_base.specs.Settings.{Settings}
use Rattle.tcc_base.specs.declared.names.NodeId.{NodeId}
use Rattle.image_load.specs.Contents.{Contents, started}
use Rattle.image_load.specs.Start.{Start, first_ram}
use Rattle.rules_maps.specs.Bridge.{node_of}
use Rattle.rules_maps.specs.Nodes.{Node, node_eq}
use Rattle.rules_maps.specs.Shape.{home, lines}
use Rattle.rules_maps.specs.Words.{eight, word_at}
use Rattle.rules_tcc.specs.Seen.{numbers as first_numbers}
use Rattle.rules_tcc.specs.State.{Link}
use Rattle.rules_tcc.specs.Links.{sending, sent_all}
use Rattle.tcc_msg.specs.Plain.{sends_of}
use Rattle.tcc_msg.specs.declared.msg.Msg.{Msg}
use Rattle.dir_lines.specs.Record.{blank}
use Rattle.directory.specs.Data.{DirData}
use Rattle.machine_cores.specs.Bank.{core_or, cores_of, first_core}
use Rattle.machine_dirs.specs.Bank.{dir_or, dirs_of}
use Rattle.machine_links.specs.Flights.{net_of}
use Rattle.net_core.specs.Machine.{Machine, history_of, settings_of, start_of, world_of}
use Rattle.row_text.proofs.Lemmas.{one-text_of_words}
use Rattle.row_text.specs.Rows.{HasWord, is_word_byte}
use Rattle.checkpoint_text.specs.Commits.{commit_tables}
use Rattle.checkpoint_text.specs.Cores.{core_tables}
use Rattle.checkpoint_text.specs.Directories.{changed_row, directory_tables, first_line, line_numbers, line_row, record_numbers}
use Rattle.checkpoint_text.specs.Laws.{IsLaidOut, IsSameState, machine_text}
use Rattle.checkpoint_text.specs.Machines.{head_tables, machine_tables}
use Rattle.checkpoint_text.specs.Messages.{flying_rows, message_tables}
use Rattle.checkpoint_text.specs.Tables.{all, each, numbered, tables_rows}
use Rattle.checkpoint_text.proofs.SameCommits as commits
use Rattle.checkpoint_text.proofs.CoreTables as cores
use Rattle.checkpoint_text.proofs.DirTables as dirs
use Rattle.checkpoint_text.proofs.SameMessages.{lanes-same, net-same, sent_numbers}
use Rattle.checkpoint_text.proofs.Tables.{are_words, rows-same, rows_with, tables-words}

-- the words of the tables are words
words : (m : Machine) → are_words (machine_tables m) ≡ true
unfolding machine_tables head_tables core_tables directory_tables message_tables commit_tables is_word_byte
words m = refl

-- all rows of a machine begin with words
pub machine-words : (m : Machine) → All HasWord (tables_rows (machine_tables m))
machine-words m = tables-words (machine_tables m) (words m)

-- one text is of one list of rows
tables-same : (m n : Machine) → machine_text m ≡ machine_text n → tables_rows (machine_tables m) ≡ tables_rows (machine_tables n)
unfolding machine_text
tables-same m n e =
    one-text_of_words (tables_rows (machine_tables m)) (tables_rows (machine_tables n))
    (machine-words m) (machine-words n) e

-- the rows of one table
same-rows : (word : List ℕ) (m n : Machine) → machine_text m ≡ machine_text n
    → rows_with word (machine_tables m) ≡ rows_with word (machine_tables n)
same-rows word m n e = rows-same word (machine_tables m) (machine_tables n) (tables-same m n e)

whole : (xs ys : List (List ℕ)) → xs ++ [] ≡ ys ++ [] → xs ≡ ys
whole xs ys e = sym (append-nil xs) ∙ e ∙ append-nil ys

-- ---- table by table

head-same : (m n : Machine) → machine_text m ≡ machine_text n → m.events ∷ m.next ∷ [] ≡ n.events ∷ n.next ∷ []
unfolding machine_tables head_tables core_tables directory_tables message_tables commit_tables
head-same m n e =
    let rows : (m.events ∷ m.next ∷ []) ∷ [] ≡ (n.events ∷ n.next ∷ []) ∷ [] = whole _ _ (same-rows (codes "events") m n e) in
    cc

core-tables : (m n : Machine) → machine_text m ≡ machine_text n → cores.HasSameTables m.cores.cores n.cores.cores
unfolding machine_tables head_tables core_tables directory_tables message_tables commit_tables
core-tables m n e = record {
  count = whole _ _ (same-rows (codes "core") m n e);
  state = whole _ _ (same-rows (codes "state") m n e);
  saved = whole _ _ (same-rows (codes "saved") m n e);
  after = whole _ _ (same-rows (codes "after") m n e);
  frames = whole _ _ (same-rows (codes "frame") m n e);
  spilled = whole _ _ (same-rows (codes "spilled") m n e);
  loads = whole _ _ (same-rows (codes "load") m n e);
  stores = whole _ _ (same-rows (codes "store") m n e);
  console = whole _ _ (same-rows (codes "byte") m n e);
}

-- of what was loaded, the settings and the rows of lines depend on the start alone
settings-same : (c d : Contents) → started c ≡ started d → c.settings ≡ d.settings
unfolding started
settings-same c d e = ap (λ (s : Start). s.settings) e

first-same : (c d : Contents) → started c ≡ started d → (l : ℕ) → first_line c l ≡ first_line d l
unfolding first_line
first-same c d e l = ap (λ (s : Start). record_numbers blank ++ eight (λ k. s.word (word_at l k))) e

row-same : (c d : Contents) → started c ≡ started d → (ds : List DirData) (l : ℕ) → line_row c ds l ≡ line_row d ds l
unfolding line_row
row-same c d e ds l = λ i.
    changed_row (first-same c d e l i) l (option_map (line_numbers l) (slice_get ds (home (settings-same c d e i) l)))

lines-same : (c d : Contents) → started c ≡ started d → (ds : List DirData)
    → flat_map (line_row c ds) (first_numbers (lines c.settings)) ≡ flat_map (line_row d ds) (first_numbers (lines d.settings))
lines-same c d e ds = λ i. flat_map (λ l. row-same c d e ds l i) (first_numbers (lines (settings-same c d e i)))

dir-tables : (m n : Machine) → start_of m ≡ start_of n → machine_text m ≡ machine_text n
    → dirs.HasSameTables n.cores.code m.dirs.dirs n.dirs.dirs
unfolding machine_tables head_tables core_tables directory_tables message_tables commit_tables
dir-tables m n start e = record {
  serving = whole _ _ (same-rows (codes "directory") m n e);
  skipped = whole _ _ (same-rows (codes "skipped") m n e);
  lines = lines-same n.cores.code m.cores.code (sym start) m.dirs.dirs ∙ whole _ _ (same-rows (codes "line") m n e);
}

sent-same : (m n : Machine) → machine_text m ≡ machine_text n
    → numbered (each sent_numbers) 0 m.flights.lanes ≡ numbered (each sent_numbers) 0 n.flights.lanes
unfolding machine_tables head_tables core_tables directory_tables message_tables commit_tables
sent-same m n e = whole _ _ (same-rows (codes "sent") m n e)

flying-same : (m n : Machine) → machine_text m ≡ machine_text n
    → numbered (all (flying_rows 0) (λ row. row)) 0 m.flights.lanes ≡ numbered (all (flying_rows 0) (λ row. row)) 0 n.flights.lanes
unfolding machine_tables head_tables core_tables directory_tables message_tables commit_tables
flying-same m n e = whole _ _ (same-rows (codes "message") m n e)

commit-tables : (m n : Machine) → machine_text m ≡ machine_text n → commits.HasSameTables m.commits n.commits
unfolding machine_tables head_tables core_tables directory_tables message_tables commit_tables
commit-tables m n e = record {
  count = whole _ _ (same-rows (codes "commit") m n e);
  loads = whole _ _ (same-rows (codes "commit-load") m n e);
  stores = whole _ _ (same-rows (codes "commit-store") m n e);
  console = whole _ _ (same-rows (codes "commit-byte") m n e);
}

-- ---- the state

cores-same : (m n : Machine) → start_of m ≡ start_of n → IsLaidOut m → IsLaidOut n → machine_text m ≡ machine_text n
    → (c : ℕ) → cores_of m.cores c ≡ cores_of n.cores c
unfolding cores_of
cores-same m n start of_m of_n e c =
    ap (λ (s : Start). core_or (first_core s c) (slice_get m.cores.cores c)) start
    ∙ cores.cores-same (settings_of n) m.cores.cores n.cores.cores
    (λ k x is. of_m.caches k x is ∙ settings-same m.cores.code n.cores.code start) of_n.caches (core-tables m n e)
    (first_core (started n.cores.code) c) c

laid : (m : Machine) → IsLaidOut m → dirs.AreLaid (settings_of m) m.dirs.dirs
laid m is = record { lines = is.lines; words = is.words }

dirs-same : (m n : Machine) → start_of m ≡ start_of n → IsLaidOut m → IsLaidOut n → machine_text m ≡ machine_text n
    → (d : ℕ) → dirs_of (first_ram (start_of m)) m.dirs d ≡ dirs_of (first_ram (start_of n)) n.dirs d
unfolding dirs_of
dirs-same m n start of_m of_n e d =
    ap (λ (s : Start). dir_or (first_ram s) (slice_get m.dirs.dirs d)) start
    ∙ dirs.dirs-same (first_ram (start_of n)) n.cores.code m.dirs.dirs n.dirs.dirs
    (subst (λ s. dirs.AreLaid s m.dirs.dirs) (settings-same m.cores.code n.cores.code start) (laid m of_m)) (laid n of_n)
    (dir-tables m n start e) d

-- where all messages stand on their links, the links are all there is
settled-net : (net : Node → Node → Link) (sender : NodeId) (unsent : List (NodeId × Msg)) → unsent ≡ [] → (src dst : Node)
    → sending net (node_of sender) (sends_of unsent) src dst ≡ net src dst
unfolding sends_of sent_all
settled-net net sender unsent none src dst =
    ap (λ (es : List (NodeId × Msg)). sending net (node_of sender) (sends_of es) src dst) none ∙ go (node_eq src (node_of sender))
  where
    go : (b : Bool) → cond b (net src dst ++ []) (net src dst) ≡ net src dst
    go true = append-nil (net src dst)
    go false = refl

net-is : (m n : Machine) → start_of m ≡ start_of n → IsLaidOut m → IsLaidOut n → machine_text m ≡ machine_text n
    → (src dst : Node) → sending (net_of m.flights) (node_of m.sender) (sends_of m.unsent) src dst
    ≡ sending (net_of n.flights) (node_of n.sender) (sends_of n.unsent) src dst
net-is m n start of_m of_n e src dst =
    let settings = settings-same m.cores.code n.cores.code start in
    settled-net (net_of m.flights) m.sender m.unsent of_m.settled src dst
    ∙ net-same m.flights n.flights
    (of_m.link_cores ∙ ap (λ (s : Settings). s.cores) settings ∙ sym of_n.link_cores)
    (of_m.link_dirs ∙ ap (λ (s : Settings). s.dirs) settings ∙ sym of_n.link_dirs)
    (lanes-same m.flights.lanes n.flights.lanes (sent-same m n e) (flying-same m n e)) src dst
    ∙ sym (settled-net (net_of n.flights) n.sender n.unsent of_n.settled src dst)

pub machines-same : (m n : Machine) → start_of m ≡ start_of n → IsLaidOut m → IsLaidOut n → machine_text m ≡ machine_text n
    → IsSameState m n
unfolding history_of world_of
machines-same m n start of_m of_n e =
    let cs = cores-same m n start of_m of_n e in
    let ds = dirs-same m n start of_m of_n e in
    let head = head-same m n e in
    let net = net-is m n start of_m of_n e in
    let kept = commits.commits-same m.commits n.commits (commit-tables m n e) in
    record {
      history = λ i. record {
        world = record {
          cores = λ c. cs c i;
          dirs = λ d. ds d i;
          next = get_or (head i) 1 0;
          net = λ src dst. net src dst i;
        };
        commits = kept i;
      };
      events = ap (λ ns. get_or ns 0 0) head;
    }
