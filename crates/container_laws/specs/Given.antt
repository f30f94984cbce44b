-- Contents that a reading gives: there are bytes that are accepted and say them. 29 is for "contents that no reading gives" (01).
use Rattle.std.specs.Prelude.{ℕ, ◌≡◌, List}
use Rattle.laws.specs.Bytes.{Bytes}
use Rattle.container.specs.declared.Contents.{Contents}
use Rattle.container.specs.Reading.{reading}

pub record ReadAs (c : Contents) : Type 0 where
  pub container : List ℕ
  pub bytes : Bytes container
  pub reads : reading container ≡ record { number = 0; contents = c }
