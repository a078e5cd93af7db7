-- When each judgement of words that come home comes.
use Rattle.std.proofs.Common.{◌≡◌, ℕ, ◌<◌, true, Option, Some, None, ap, arith}
use Rattle.std.specs.Prelude.{◌↔◌}
use Rattle.std.proofs.lemmas.Bool.Decides.{nat_tests}
use Rattle.rules_maps.specs.Judge.{judge, is_owner, Current, TooEarly}

pub judge-waits : (owner : Option ℕ) (tag from back : ℕ) → (judge owner tag from back ≡ TooEarly) ↔ (tag < back)
unfolding judge
judge-waits owner tag from back = (λ e. grind (arith, nat_tests), λ h. grind (arith, nat_tests))

is_owner-some : (owner : Option ℕ) (c : ℕ) → is_owner owner c ≡ true → owner ≡ Some c
is_owner-some None c e = absurd (cc)
is_owner-some (Some o) c e = let h : o ≡ c = grind (arith, nat_tests) in ap Some h

some-is_owner : (owner : Option ℕ) (c : ℕ) → owner ≡ Some c → is_owner owner c ≡ true
some-is_owner owner c e = rw e (grind (arith, nat_tests))

pub judge-takes : (owner : Option ℕ) (tag from back : ℕ) → (judge owner tag from back ≡ Current) ↔ ((back ≡ tag) × (owner ≡ Some from))
unfolding judge
judge-takes owner tag from back = (
  λ e. (grind (arith, nat_tests), is_owner-some owner from (grind (arith, nat_tests))),
  λ h. let i = some-is_owner owner from h.1 in
      grind (arith, nat_tests),
)
