-- Contents as the types make them: arrays of their length, bytes below 256.
use Rattle.std.specs.Prelude.{◌<◌, ◌≡◌, List, [], ◌∷◌, length}
use Rattle.laws.specs.Bytes.{Bytes}
use Rattle.laws.specs.declared.Video.{Video}
use Rattle.laws.specs.declared.Video.TheVariants.{Absent, One, Two}
use Rattle.container.specs.declared.Print.{Print}
use Rattle.container.specs.declared.Contents.{Contents}

pub record TypedPrint (p : Print) : Type 0 where
  pub long : length p.bytes ≡ 5
  pub bytes : Bytes p.bytes

unfoldable pub TypedPrints : List Print → Type 0
TypedPrints [] = Unit {0}
TypedPrints (p ∷ ps) = TypedPrint p × TypedPrints ps

unfoldable pub TypedVideo : Video → Type 0
TypedVideo Absent = Unit {0}
TypedVideo (One a) = a < 256
TypedVideo (Two a b) = (a < 256) × (b < 256)

pub record Typed (c : Contents) : Type 0 where
  pub counter : c.counter < 256
  pub id_long : length c.id ≡ 20
  pub id : Bytes c.id
  pub video : TypedVideo c.video
  pub many : length c.prints ≡ 32
  pub prints : TypedPrints c.prints
