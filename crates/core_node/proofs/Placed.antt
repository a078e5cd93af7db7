-- The lines that have a frame after one more got its way.
use Rattle.std.proofs.Common.{◌≡◌, ℕ, Bool, true, false, Option, Some, None, is_some, if◌then◌else◌, refl, nat_eq, arith}
use Rattle.std.proofs.lemmas.Bool.Decides.{nat_tests}
use Rattle.tcc_base.specs.Put.{put}
use Rattle.rules_maps.specs.Shape.{Shape, set_of}
use Rattle.rules_maps.specs.Cache.{Cache, free_way}
use Rattle.rules_maps.specs.CacheChange.{placed, placed_at}
use Rattle.core_node.specs.declared.state.Awaited.{Awaited}
use Rattle.core_node.specs.View.{AwaitsFrame}

put-same : (f : ℕ → Bool) (i : ℕ) → put f i true i ≡ true
put-same f i = grind (arith, nat_tests)

put_keeps : (f : ℕ → Bool) (i j : ℕ) → f j ≡ true → put f i true j ≡ true
put_keeps f i j h = go (nat_eq j i)
  where
    go : (b : Bool) → (if b then true else f j) ≡ true
    go true = refl
    go false = h

placed_at_held : (o : Option ℕ) (s l : ℕ) (c : Cache) → is_some o ≡ true → (placed_at o s l c).held l ≡ true
unfolding placed_at
placed_at_held None s l c h = cc
placed_at_held (Some y) s l c h = put-same c.held l

placed_at_keeps : (o : Option ℕ) (s l k : ℕ) (c : Cache) → c.held k ≡ true → (placed_at o s l c).held k ≡ true
unfolding placed_at
placed_at_keeps None s l k c h = h
placed_at_keeps (Some y) s l k c h = put_keeps c.held l k h

pub placed_held : (sh : Shape) (l : ℕ) (c : Cache) → is_some (free_way sh c (set_of sh l)) ≡ true → (placed sh l c).held l ≡ true
unfolding placed
placed_held sh l c h = placed_at_held (free_way sh c (set_of sh l)) (set_of sh l) l c h

pub awaits_placed : (sh : Shape) (l : ℕ) (c : Cache) (o : Option Awaited) → AwaitsFrame c o → AwaitsFrame (placed sh l c) o
unfolding placed
awaits_placed sh l c None w = w
awaits_placed sh l c (Some a) w = placed_at_keeps (free_way sh c (set_of sh l)) (set_of sh l) l a.line.0 c w
