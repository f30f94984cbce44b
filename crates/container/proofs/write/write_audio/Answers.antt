-- `container::write::write_audio` meets its contract.
use Rattle.std.proofs.Common.{◌≡◌, ◌+◌, ◌-◌, ◌*◌, [], ◌∷◌, length, rules, arith, refl, sym, ap, ◌∙◌}
use lib.Seq.{take-length}
use Rattle.std.proofs.lemmas.List.Edits.{sets}
use Rattle.laws.proofs.Lists.{sets_then}
use Rattle.container.specs.Bytes.{run_bytes, audio_bytes}
use Rattle.container.proofs.Bytes.{audio_none, audio_some}
use Rattle.container.proofs.write.write_audio.Goals as goal

pub returns-then-is_empty : goal.returns-then-is_empty
returns-then-is_empty c =
    let e = audio_none (length c.args.prints.now) c.args.prints.now (search rules) in
    (omega (arith, ap length e), ap (sets c.args.out.now c.args.at) (sym e))

pub returns : goal.returns
returns c =
    let ps = c.args.prints.now in
    let e : audio_bytes (length ps) ps ≡ ((length ps - 1) * 8 + 2) ∷ run_bytes ps = audio_some (length ps) ps (λ z. search rules) ∙ rw take-length in (
      omega (arith, c.write_run.ensures.0, ap length e),
      sets_then c.args.out.now _ _ (((length ps - 1) * 8 + 2) ∷ []) (run_bytes ps) c.args.at (c.args.at + 1) c.copy_at.ensures refl c.write_run.ensures.1
          ∙ ap (sets c.args.out.now c.args.at) (sym e),
    )
