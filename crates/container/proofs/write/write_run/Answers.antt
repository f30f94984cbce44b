use Rattle.std.proofs.Common.{◌<◌, ℕ, List, [], length, get_or, take, arith, refl, ap, sym, subst, ◌∙◌}
use Rattle.std.proofs.lemmas.List.Edits.{sets}
use Rattle.laws.proofs.Lists.{get_d_any, sets_then}
use Rattle.container.specs.declared.Print.{Print}
use Rattle.container.specs.Contents.{blank_print}
use Rattle.container.specs.Bytes.{print_bytes, run_bytes}
use Rattle.container.specs.Writing.{PrintFits, RunFits}
use Rattle.container.proofs.Bytes.{print_at_most, run_snoc, run_longer}
use Rattle.container.proofs.write.write_run.Goals as goal

-- what a slice's reading gives past its end
abbrev none : Print
none = record { id = 0; mix = 0; size = 0; bytes = [] }

fits : (ps : List Print) (k : ℕ) → RunFits (length ps) ps → k < length ps → PrintFits (get_or ps k none)
fits ps k r h = subst PrintFits (get_d_any ps k blank_print none h) (r.each k h)

pub loop-print-init : goal.loop-print-init
unfolding run_bytes
loop-print-init c = (omega arith, omega arith, refl)

pub write_print-next-requires-clause-fits : goal.write_print-next-requires-clause-fits
write_print-next-requires-clause-fits c = fits c.args.prints.now c.loop-print.print-index c.requires.fits (omega arith)

pub loop-print-preserved : goal.loop-print-preserved
loop-print-preserved c =
    let ps : List Print = c.args.prints.now in
    let k : ℕ = c.loop-print.print-index in
    let p : Print = get_or ps k none in
    let i = c.loop-print.invariant in
    let h : k < length ps = omega arith in
    let longer = run_longer ps k none h in (
      omega (arith, c.write_print-next.ensures.0, i.0, longer),
      omega (arith, longer, print_at_most p, (fits ps k c.requires.fits h).five, i.1),
      sets_then c.args.out.now _ _ (run_bytes (take k ps)) (print_bytes p) c.args.at c.loop-print.next i.2 i.0 c.write_print-next.ensures.1
          ∙ ap (sets c.args.out.now c.args.at) (sym (run_snoc ps k none h)),
    )
