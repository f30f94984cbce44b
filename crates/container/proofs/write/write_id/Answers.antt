-- `container::write::write_id` meets its contract.
use Rattle.std.proofs.Common.{ℕ, ◌≡◌, ◌+◌, List, [], ◌∷◌, Bool, length, rules, arith, refl, sym, ap, ◌∙◌}
use Rattle.std.proofs.lemmas.List.Edits.{sets}
use Rattle.laws.proofs.Lists.{sets_then}
use Rattle.container.specs.Bytes.{id_bytes}
use Rattle.container.proofs.write.write_id.Goals as goal
use Rattle.container.proofs.write.write_id.Goals.{Start}

twenty : (c : goal.Start) → length c.args.id ≡ 20
twenty c = search rules

pub returns : goal.returns
unfolding id_bytes
returns c =
    let id : List ℕ = c.args.id in
    let e : id_bytes c.args.present id ≡ 0 ∷ id = ap (λ (p : Bool). id_bytes p id) c.if-not-present.false in (
      omega (arith, ap length e, twenty (goal.at.returns c).Start),
      sets_then c.args.out.now _ _ (0 ∷ []) id c.args.at (c.args.at + 1) c.copy_at.ensures refl c.copy_at-2.ensures ∙ ap (sets c.args.out.now c.args.at) (sym e),
    )
