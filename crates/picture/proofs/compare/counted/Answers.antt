use Prim.Native.Nat.{ℕ, ◌+◌, ◌≤◌, ◌<◌}
use mathlib.Core.Path.{◌≡◌, refl, sym, ap, ap₂, ◌∙◌}
use mathlib.Core.Bool.{Bool, cond}
use mathlib.Core.List.{List}
use native.Mathlib.Omega.{arith}
use borrow.Author.Rules.{rules}
use lib.IntN.{ℤ}
use lib.ListN.{get_or, take, length, length-take}
use mir.Syntax.{w16}
use mir.Val.{SFits, to_z, of_z}
use mir.ValLaws.{to_z-of_z}
use Rattle.picture.specs.Fields.{difference, is_brighter, is_darker, count_of, brighter_in, darker_in}
use Rattle.picture.proofs.Compared.{count_more, sum_small}
use Rattle.picture.proofs.compare.counted.Goals as goal

-- one place more, under either rule: n counts the places before it, d is its difference as 16 bits hold it, b what the rule says of it
one_turn :
    (f g : List ℕ) (i : ℕ) → i < length f → i < length g → (d : ℤ) → SFits w16 d → d ≡ difference (get_or f i 0) (get_or g i 0)
    → (rule : ℤ → Bool) {n r : ℕ} {b : Bool} → n ≡ count_of rule (take i f) (take i g) → b ≡ rule (to_z w16 (of_z w16 d)) → r ≡ n + cond b 1 0
    → r ≡ count_of rule (take (i + 1) f) (take (i + 1) g)
one_turn f g i h k d s e rule p q r =
    r ∙ ap₂ (λ (m : ℕ) (t : Bool). m + cond t 1 0) p (q ∙ ap rule (to_z-of_z w16 d s ∙ e)) ∙ sym (count_more rule f g i h k)

-- no count is above the places passed
small : (f g : List ℕ) (i : ℕ) → brighter_in (take i f) (take i g) + darker_in (take i f) (take i g) ≤ i
small f g i =
    let t : length (take i f) ≤ i = simp length-take (omega arith) in
    omega (arith, sum_small (take i f) (take i g))

pub loop-i-init : goal.loop-i-init
unfolding brighter_in darker_in count_of
loop-i-init c = (refl, refl)

pub with_one-brighter-requires : goal.with_one-brighter-requires
with_one-brighter-requires c =
    let l = c in
    omega (arith, small l.args.field.now l.args.older.now l.loop-i.i)

pub with_one-darker-requires : goal.with_one-darker-requires
with_one-darker-requires c =
    let l = c in
    omega (arith, small l.args.field.now l.args.older.now l.loop-i.i)

pub loop-i-preserved : goal.loop-i-preserved
unfolding brighter_in darker_in
loop-i-preserved c =
    let l = c in
    let a = l.args in
    let d = c in
    let lf : length a.field.now ≡ 960 = search rules in
    let lg : length a.older.now ≡ 960 = search rules in
    let h : l.loop-i.i < length a.field.now = omega arith in
    let k : l.loop-i.i < length a.older.now = omega arith in
    let s : SFits w16 d.difference-d.result = search rules in
    let b = c.is_brighter.ensures in (
      one_turn _ _ _ h k _ s d.difference-d.ensures is_brighter l.loop-i.invariant.0 b c.with_one-brighter.ensures,
      one_turn _ _ _ h k _ s d.difference-d.ensures is_darker l.loop-i.invariant.1 c.is_darker.ensures c.with_one-darker.ensures,
    )
