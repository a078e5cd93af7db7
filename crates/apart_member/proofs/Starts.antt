-- Members before their first event.
use Rattle.std.proofs.Common.{◌≡◌, ℕ, ◌<◌, ◌^◌, true, refl, ap, sym, ◌∙◌, subst}
use Rattle.std.proofs.lemmas.Bool.{lt-ltb}
use Rattle.image_load.specs.Contents.{Contents, started}
use Rattle.rv_code.specs.Machine.{start_local}
use Rattle.image_load.specs.Start.{first_ram}
use Rattle.rules_riscv.specs.Starting.{world_at_start}
use Rattle.tcc_base.specs.Settings.{Settings, IsAllowed}
use Rattle.rules_maps.specs.Bridge.{node_of}
use Rattle.rules_maps.specs.Nodes.{Core, Dir, Vendor}
use Rattle.rules_maps.specs.Words.{line_of}
use Rattle.rules_tcc.specs.Local.{AtCore, AtDir, AtVendor, state_at}
use Rattle.rules_tcc.specs.State.{CoreState, core_start, dir_start, start, vendor_start}
use Rattle.rules_tcc.specs.Step.{is_node}
use Rattle.machine_dirs.proofs.Lemmas.{dir-first}
use Rattle.dir_lines.specs.Home.{IsAtHome}
use Rattle.directory.specs.Data.{DirData, dir_of}
use Rattle.theorem_apart.specs.Apart.{NodeInBounds}
use Rattle.apart_member.specs.Data.{MemberData, node_at, state_of}
use Rattle.apart_member.specs.DataInside.{IsMember}
use Rattle.apart_member.specs.Placed.{IsAtStart, IsPlaced}
use Rattle.apart_member.specs.declared.kind.MemberKind.{MemberKind}
use Rattle.theorem_apart.proofs.Lemmas.{riscv_nodes_start}

pub core-starts : (k : Contents) (c : ℕ) (s : Settings) (entry : ℕ) (x : CoreState) → s ≡ k.settings → entry ≡ (started k).entry c
    → x ≡ core_start (start_local s.cores c entry) → AtCore x ≡ state_at (world_at_start (started k)) (Core c)
unfolding start started
core-starts k c s entry x e f g = ap AtCore (g ∙ (λ i. core_start (start_local (e i).cores c (f i))))

pub dir-starts : (k : Contents) (d : ℕ) (s : Settings) (x : DirData) → s ≡ k.settings
    → dir_of (started k).word x ≡ dir_start (started k).word → x.words.place ≡ x.lines.place → x.lines.place ≡ record { shape = s; dir = d }
    → ((w : ℕ) → IsAtHome x.lines.place (line_of w) → (started k).word w < 2 ^ 32)
    → AtDir (dir_of (first_ram (started k)) x) ≡ state_at (world_at_start (started k)) (Dir d)
unfolding start started
dir-starts k d s x e state words place small =
    ap AtDir (dir-first (started k) x state words (ap (λ p. p.shape) place ∙ e) small)

pub vendor-starts : (k : Contents) (t : ℕ) → t ≡ 1 → AtVendor t ≡ state_at (world_at_start (started k)) Vendor
unfolding start vendor_start
vendor-starts k t e = ap AtVendor e

pub core-there : (s : Settings) (c : ℕ) → c < s.cores → is_node s (Core c) ≡ true
core-there s c l = lt-ltb c s.cores l

-- a member at its start is whole
pub starts-whole : (k : Contents) (p : MemberKind) → IsAllowed k.settings → is_node k.settings (node_of (node_at p)) ≡ true
    → IsPlaced k.settings p → IsAtStart k p → IsMember (record { code = k; node = node_at p; done = 0; kind = p })
unfolding started state_of
starts-whole k p allowed exists placed state = record {
  allowed = allowed;
  exists = exists;
  named = refl;
  placed = placed;
  bounded = subst (λ s. NodeInBounds k.settings 0 (node_of (node_at p)) s) (sym state)
      (riscv_nodes_start (started k) (node_of (node_at p)) exists);
}

-- and its state is that of the rules
pub starts-there : (k : Contents) (m : MemberData) (p : MemberKind) → m ≡ record { code = k; node = node_at p; done = 0; kind = p }
    → IsAtStart k p → state_of m ≡ state_at (world_at_start (started k)) (node_of (node_at p))
unfolding state_of
starts-there k m p e start = ap state_of e ∙ start
