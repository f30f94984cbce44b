-- `flat::flatten` meets its contract.
use mathlib.Core.Path.{◌≡◌, refl}
use lib.ListN.{length, replicate}
use Rattle.flat.proofs.Places.{flat_put}
use borrow.Author.Rules.{rules}
use Rattle.flat.proofs.flatten.Goals as goal

pub returns : goal.returns
returns c =
    let twenty : length c.args.c.id ≡ 20 = search rules in
    flat_put c.args.c (replicate 283 0) _ _ _ _ _ _ _ refl twenty c.put_prints.ensures.0 c.flag.ensures.0 c.video_bytes.ensures
    c.copy_at.ensures c.copy_at-2.ensures c.copy_at-3.ensures refl c.put_prints.ensures.1
