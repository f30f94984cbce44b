-- `answers::fault::put_cause` meets its contract.
use Prim.Native.Nat.{ℕ}
use mathlib.Core.Path.{◌≡◌, refl, sym, ap}
use mathlib.Core.List.{[]}
use native.Mathlib.Omega.{arith}
use Rattle.answers.specs.declared.Cause.{Cause}
use Rattle.answers.specs.declared.Cause.TheVariants.{UnknownTag}
use Rattle.answers.specs.Faults.{tag_text, cause_text}
use Rattle.text.proofs.Pieces.{put_none, put_then, put_as}
use Rattle.answers.proofs.fault.put_cause.Goals as goal

pub returns-in-UnknownTag : goal.returns-in-UnknownTag
unfolding cause_text
returns-in-UnknownTag c = put_then (put_as c.cause_words.ensures c.put-p.ensures) (put_as (sym (ap tag_text c.in-UnknownTag.is)) c.put_hex.ensures) (omega arith)

no_tag : (cause : Cause) → ((tag : ℕ) → cause ≡ UnknownTag tag → ⊥) → tag_text cause ≡ []
no_tag (UnknownTag tag) h = absurd (h tag refl)
no_tag cause h = refl

pub returns-in_default : goal.returns-in_default
unfolding cause_text
returns-in_default c = put_then (put_as c.cause_words.ensures c.put-p.ensures) (put_as (sym (no_tag _ c.in_default.not-UnknownTag)) (put_none _ _ (omega arith))) (omega arith)
