-- The world as one core and one directory see it: their states, the links between them and to the vendor, and the next TID.
-- Every event changes few of these pairs, and each invariant speaks of one pair or is a sum over the cores.
use Rattle.std.specs.Prelude.{ℕ, List, ◌++◌, set, None}
use Rattle.rules_maps.specs.Nodes.{Core, Dir, Vendor, Msg}
use Rattle.rules_tcc.specs.DirDeliver.{sum_below}
use Rattle.rules_tcc.specs.State.{CoreState, DirState, World, Link}
use Rattle.rules_tcc.specs.Links.{sent_all}
use Rattle.rules_tcc.specs.Attempt.{Out}

pub record Pair : Type 0 where
  pub core : CoreState
  pub dir : DirState
  pub out : Link  -- from the core to the directory
  pub back : Link  -- from the directory to the core
  pub asks : Link  -- from the core to the vendor
  pub grants : Link  -- from the vendor to the core
  pub next : ℕ

unfoldable pub pair : World → (core dir : ℕ) → Pair
pair w c d = record {
  core = w.cores c;
  dir = w.dirs d;
  out = w.net (Core c) (Dir d);
  back = w.net (Dir d) (Core c);
  asks = w.net (Core c) Vendor;
  grants = w.net Vendor (Core c);
  next = w.next;
}

-- the core has moved and sent
abbrev pub after_move : Pair → Out → (dir : ℕ) → Pair
after_move v o d = record v { core = o.core; out = v.out ++ sent_all (o.sends (Dir d)); asks = v.asks ++ sent_all (o.sends Vendor) }

-- a message to the core is consumed
abbrev pub grant_taken : Pair → ℕ → Pair
grant_taken v k = record v { grants = set v.grants k None }

abbrev pub back_taken : Pair → ℕ → Pair
back_taken v k = record v { back = set v.back k None }

-- the directory has changed and sent to the core
abbrev pub after_answer : Pair → DirState → List Msg → Pair
after_answer v s ms = record v { dir = s; back = v.back ++ sent_all ms }

-- a message to the directory is consumed
abbrev pub out_taken : Pair → ℕ → Pair
out_taken v k = record v { out = set v.out k None }

-- the sum of a number of each core's pair with a directory
unfoldable pub share : (Pair → ℕ) → World → (dir : ℕ) → (core : ℕ) → ℕ
share f w d c = f (pair w c d)

abbrev pub sum_of : (Pair → ℕ) → (cores : ℕ) → World → (dir : ℕ) → ℕ
sum_of f n w d = sum_below (share f w d) n
